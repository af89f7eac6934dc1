-- What the elements of a list are read as, and what is refused of them. No element stops another; all are read where each is.
use Rattle.std.specs.Prelude.{List, [], ◌∷◌, ◌++◌, Option, Some, None}
use Rattle.lotos_ast.specs.declared.refusal.Refusal.{Refusal}

-- one before others, and some before others, where all are there

abbrev pub before : {B : Type 0} → Option B → Option (List B) → Option (List B)
before (Some y) (Some ys) = Some (y ∷ ys)
before _ _ = None

abbrev pub all_before : {B : Type 0} → Option (List B) → Option (List B) → Option (List B)
all_before (Some xs) (Some ys) = Some (xs ++ ys)
all_before _ _ = None

pub data ReadsAll {A B : Type 0} (P : A → Option B → List Refusal → Type 0) : List A → Option (List B) → List Refusal → Type 0 where
  none : ReadsAll P [] (Some []) []
  further : (x : A) (xs : List A) (y : Option B) (ys : Option (List B)) (rs refusals : List Refusal) →
      P x y rs → ReadsAll P xs ys refusals → ReadsAll P (x ∷ xs) (before y ys) (rs ++ refusals)
