-- Offers as texts: a gate and fields, as they stand in a line of a script. (This profile.)
use Rattle.std.specs.Prelude.{ℕ, ◌≡◌, List, true}
use Rattle.lotos_ast.specs.Reads.{Tree}
use Rattle.spec_core.specs.Code.{Program}
use Rattle.script_text.specs.Meanings.{context_in, OfferMeans}
use Rattle.script_text.specs.Texts.{IsTextOf}
use Rattle.script_text.specs.Wishes.{Wished}
use Rattle.script_text.specs.Written.{wish_offer, gate_in, offered_in}

-- the text is an offer in the names of the specification, whose client only asks
pub record SpellsOffer (program : Program) (text : List ℕ) (w : Wished) : Type 0 where
  pub tree : Tree
  pub written : IsTextOf wish_offer text tree
  pub asks : w.ask ≡ true
  pub means : OfferMeans (context_in program.theory) program.gates (gate_in tree) (offered_in tree) w

-- the text is no such offer
pub record SpellsNoOffer (program : Program) (text : List ℕ) : Type 0 where
  pub none : (w : Wished) → SpellsOffer program text w → ⊥
