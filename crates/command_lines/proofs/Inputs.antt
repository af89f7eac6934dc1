-- What was read of an input.
use Rattle.std.proofs.Common.{ℕ, ◌≡◌, List, [], ◌++◌, Option, Some, None, refl, subst, sym, ap, ◌∙◌, append_assoc, take}
use Rattle.std.specs.Prelude.{IfSome}
use Rattle.lotos_outside.specs.Source.{with_first}

pub first_nothing : (left : Option (List ℕ)) → with_first [] left ≡ left
first_nothing None = refl
first_nothing (Some bytes) = refl

-- nothing was read
pub gave_nothing : (before after : Option (List ℕ)) → after ≡ before → before ≡ with_first [] after
gave_nothing before after same = sym (first_nothing after ∙ same)

pub gave_zero : (before after : Option (List ℕ)) (count : ℕ) (piece : List ℕ) → count ≡ 0 → before ≡ with_first (take count piece) after →
    before ≡ with_first [] after
gave_zero before after count piece zero gave = gave ∙ ap (λ n. with_first (take n piece) after) zero

-- it was at its end
pub at_end : (before after : Option (List ℕ)) → before ≡ with_first [] after → IfSome before (λ left. left ≡ []) → IfSome after (λ left. left ≡ [])
at_end before after gave h = subst (λ left. IfSome left (λ l. l ≡ [])) (gave ∙ first_nothing after) h

-- bytes that were read behind others
pub gave_both : (before between after : Option (List ℕ)) (first second : List ℕ) → before ≡ with_first first between →
    between ≡ with_first second after → before ≡ with_first (first ++ second) after
gave_both before between after first second h k = h ∙ ap (with_first first) k ∙ firsts first second after
  where
    firsts : (xs ys : List ℕ) (left : Option (List ℕ)) → with_first xs (with_first ys left) ≡ with_first (xs ++ ys) left
    firsts xs ys None = refl
    firsts xs ys (Some bytes) = ap Some (sym (append_assoc xs ys bytes))
