-- A tree by the front that it shares with another text.
use Rattle.std.proofs.Common.{ℕ, ◌≡◌, ◌<◌, ◌≤◌, ◌^◌, List, ◌∷◌, ◌++◌, codes, decimal, drop, take, length, Option, Some, None, refl, sym, ap, ◌∙◌, subst, arith, append_assoc}
use Rattle.trace_text.specs.declared.format.Format.TheVariants.{Two}
use Rattle.trace_text.specs.Formats.{common_front, rules_text}
use Rattle.trace_text.proofs.Fronts.{by_front, is_front}
use Rattle.trace_reader.specs.Cursors.{Finds, past}
use Rattle.trace_reader.specs.Digits.{EndsNumber}
use Rattle.trace_reader.specs.Fronts.{IsFound}

module _ (tree t : List ℕ) where
  -- the number of bytes and what is left behind the colon
  pub front_read : (old one two : Option (List ℕ)) (size : ℕ) → length tree < 2 ^ 64 →
      Finds decimal (λ n. n < 2 ^ 64) EndsNumber old one (λ n. size ≡ n) → two ≡ past (codes ":") one → old ≡ Some (rules_text Two tree t) →
      (size ≡ common_front tree t) × (two ≡ Some (drop (common_front tree t) t))
  front_read old one two size small finds skipped e =
      let l = (is_front tree t).left in
      let k =
      finds (common_front tree t) (58 ∷ drop (common_front tree t) t) (omega (arith, small, l)) refl
      (e ∙ ap Some (append_assoc (decimal (common_front tree t)) (codes ":") (drop (common_front tree t) t))) in
      (k.0, skipped ∙ ap (past (codes ":")) k.1)

  -- the front and what is left of the line are the text
  pub front_whole : (size : ℕ) (found : Option (List ℕ)) → size ≡ common_front tree t →
      ((more : List ℕ) → size ≤ length tree → Some (drop (common_front tree t) t) ≡ Some more → IsFound found (take size tree ++ more)) →
      IsFound found t
  front_whole size found is h =
      let l = (is_front tree t).left in
      subst (IsFound found) (ap (λ n. take n tree ++ drop (common_front tree t) t) is ∙ by_front tree t)
      (h (drop (common_front tree t) t) (omega (arith, is, l)) refl)
