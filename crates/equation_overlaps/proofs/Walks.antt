-- Lists that a loop goes over, of which something holds of one element.
use Rattle.std.proofs.Common.{List, [], ◌∷◌, map, inl, inr}
use Rattle.spec_core.specs.Lists.{Each, OneOf}

pub none-all : {A B : Type 0} (P : B → Type 0) (f : A → B) (xs : List A) → Each (λ x. P (f x) → ⊥) xs → OneOf P (map f xs) → ⊥
none-all P f [] h o = o
none-all P f (x ∷ xs) h (inl p) = h.0 p
none-all P f (x ∷ xs) h (inr o) = none-all P f xs h.1 o
