-- What the clients of a script offer: what they wish, with the value of each term in its place (docs/FORMATS.md, "Scripts").
use Rattle.std.specs.Prelude.{◌≡◌, List, [], ◌∷◌, map, Vec}
use Rattle.std.specs.declared.alloc.Global.{Global}
use Rattle.spec_core.specs.Lists.{Each}
use Rattle.spec_core.specs.Terms.{TermTree, preorder}
use Rattle.spec_core.specs.Theories.{Theory}
use Rattle.spec_core.specs.Values.{IsValue}
use Rattle.rule_model.specs.declared.offer.Field.{Field}
use Rattle.rule_model.specs.declared.offer.Field.TheVariants.{Give, Take}
use Rattle.rule_model.specs.Fields.{GivesValue}
use Rattle.rule_model.specs.Wishes.{Wish}
use Rattle.rule_model.specs.declared.wish.ClientWish.{ClientWish}
use Rattle.rule_model.specs.WishViews.{wish_of}
use Rattle.script_text.specs.Wishes.{WishedField, gives, takes, Wished}

-- the elements of two lists are related one by one: there are as many, in order
abbrev pub OneByOne : {A B : Type 0} → (A → B → Type 0) → List A → List B → Type 0
OneByOne R [] [] = Unit {0}
OneByOne R (x ∷ xs) (y ∷ ys) = R x y × OneByOne R xs ys
OneByOne R _ _ = ⊥

abbrev pub all_wishes_of : Vec ClientWish Global → List Wish
all_wishes_of wishes = map wish_of wishes.items

-- a field that gives a term becomes one that gives its value, a field that takes a sort one that takes the same
abbrev pub IsValuedField : Theory → WishedField → Field → Type 0
IsValuedField theory (gives t) (Give v) = (n : TermTree) × GivesValue theory t v n
IsValuedField theory (takes sort) (Take other) = other.0 ≡ sort
IsValuedField theory _ _ = ⊥

abbrev pub AreValuedFields : Theory → List WishedField → List Field → Type 0
AreValuedFields theory = OneByOne (IsValuedField theory)

-- at the same gate, made or only asked for as it was wished, with the values of the terms
pub record IsValuedWish (theory : Theory) (w : Wished) (o : Wish) : Type 0 where
  pub ask : o.ask ≡ w.ask
  pub gate : o.offer.gate.0 ≡ w.gate
  pub fields : AreValuedFields theory w.fields o.offer.fields

-- as many, in the same order
abbrev pub AreValued : Theory → List Wished → List Wish → Type 0
AreValued theory = OneByOne (IsValuedWish theory)

-- the same of each client, from client 1 on
abbrev pub AreScriptValued : Theory → List (List Wished) → List (List Wish) → Type 0
AreScriptValued theory = OneByOne (AreValued theory)

-- what a field gives is spelled by the operations of a value
abbrev pub FieldGivesValue : Theory → Field → Type 0
FieldGivesValue theory (Give v) = (n : TermTree) × (v ≡ preorder n) × IsValue theory n
FieldGivesValue theory (Take sort) = Unit {0}

abbrev pub GivesValues : Theory → Wish → Type 0
GivesValues theory o = Each (FieldGivesValue theory) o.offer.fields
