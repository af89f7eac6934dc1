-- What the clients of a script wish, without places in memory.
use Rattle.std.specs.Prelude.{ℕ, List, Bool, map, Vec}
use Rattle.std.specs.declared.alloc.Global.{Global}
use Rattle.spec_core.specs.Terms.{TermTree, term_of}
use Rattle.script_text.specs.declared.wish.Script.{Script}
use Rattle.script_text.specs.declared.wish.Wish.{Wish}
use Rattle.script_text.specs.declared.wish.WishField.{WishField}
use Rattle.script_text.specs.declared.wish.WishField.TheVariants.{Give, Take}

-- a field: this ground term, or any value of a sort
pub data WishedField : Type 0 where
  gives : TermTree → WishedField
  takes : ℕ → WishedField

-- an offer or an ask at a gate
pub record Wished : Type 0 where
  pub ask : Bool
  pub gate : ℕ
  pub fields : List WishedField

-- a client by its number, with one of its wishes
pub record ClientWish : Type 0 where
  pub client : ℕ
  pub wish : Wished

-- what the types of the program stand for
abbrev pub wished_field_of : WishField → WishedField
wished_field_of (Give t) = gives (term_of t)
wished_field_of (Take sort) = takes sort.0

abbrev pub wished_of : Wish → Wished
wished_of w = record { ask = w.ask; gate = w.gate.0; fields = map wished_field_of w.fields.items }

abbrev pub all_wished_of : Vec Wish Global → List Wished
all_wished_of wishes = map wished_of wishes.items

-- the wishes of each client, from client 1 on
abbrev pub script_of : Script → List (List Wished)
script_of s = map all_wished_of s.clients.items
