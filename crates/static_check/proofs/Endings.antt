-- How a behaviour may end.
use Rattle.std.proofs.Common.{ℕ, ◌≡◌, ◌∙◌, sym, ap, List, ◌++◌, append-nil, Option, Some, None}
use Rattle.std.specs.Prelude.{option_map}
use Rattle.std.proofs.lemmas.Option.{same_Some, none-some}
use Rattle.lotos_ast.specs.declared.place.Place.{Place}
use Rattle.lotos_ast.specs.declared.refusal.Refusal.{Refusal}
use Rattle.spec_core.specs.Functionality.{Functionality}
use Rattle.static_readings.specs.Joins.{Read}
use Rattle.static_check.specs.Bodies.{may_end, refused_unless, ending_refusals}

pub none_declared : (unknown : Option ℕ) (place : Place) (x : Option Read) (old : List Refusal) → old ≡ old ++ ending_refusals unknown place None x
none_declared unknown place x old = sym (append-nil old)

pub none_read : (unknown : Option ℕ) (place : Place) (d : Functionality) (x : Option Read) (old : List Refusal) → None ≡ option_map (λ r. r.functionality) x
    → old ≡ old ++ ending_refusals unknown place (Some d) x
none_read unknown place d None old h = sym (append-nil old)
none_read unknown place d (Some r) old h = absurd (none-some r.functionality h)

pub both_known : (unknown : Option ℕ) (place : Place) (d f : Functionality) (x : Option Read) (old new : List Refusal) → new ≡ old ++ refused_unless (may_end unknown f d) place
    → Some f ≡ option_map (λ r. r.functionality) x → new ≡ old ++ ending_refusals unknown place (Some d) x
both_known unknown place d f None old new put h = absurd (none-some f (sym h))
both_known unknown place d f (Some r) old new put h = put ∙ ap (λ g. old ++ refused_unless (may_end unknown g d) place) (same_Some f r.functionality h)
