-- Lists that are put together piece by piece.
use Rattle.std.proofs.Common.{◌≡◌, List, [], ◌++◌, ap, ◌∙◌, append_assoc}

pub three : {A : Type 0} (o x y z l r b : List A) → o ≡ [] → x ≡ o ++ l → y ≡ x ++ r → z ≡ y ++ b → z ≡ l ++ (r ++ b)
three o x y z l r b none first second third =
    third ∙ ap (λ s. s ++ b) (second ∙ ap (λ s. s ++ r) (first ∙ ap (λ s. s ++ l) none)) ∙ append_assoc l r b
