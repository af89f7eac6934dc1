-- How a comment's length is counted from its bytes on.
use Rattle.std.proofs.Common.{ℕ, zero, suc, ◌+◌, ◌-◌, ◌<◌, ◌≡◌, List, [], ◌∷◌, false, Option, Some, None, option_map, codes, length, take, drop, refl, sym, ap, ◌∙◌, arith}
use Rattle.std.proofs.lemmas.List.{take_rest}
use Rattle.lotos_ast.specs.Pieces.{begins, comment_rest}

further : (i : ℕ) (o : Option ℕ) → option_map (λ n. i + n) (option_map (λ n. 1 + n) o) ≡ option_map (λ n. (i + 1) + n) o
further i None = refl
further i (Some n) = let e : i + (1 + n) ≡ (i + 1) + n = omega arith in ap Some e

-- no end stands at i, so the comment goes on behind it
passed : (s : List ℕ) (i : ℕ) → i < length s → begins (codes "*)") (drop i s) ≡ false → comment_rest (drop i s) ≡ option_map (λ n. 1 + n) (comment_rest (drop (i + 1) s))
passed [] i h e = absurd (omega (arith, h))
passed (b ∷ s) zero h e = rw e refl
passed (b ∷ s) (suc j) h e =
    let d : suc j + 1 ≡ suc (j + 1) = omega arith in
    rw d (passed s j (omega (arith, h)) e)

pub comment_rest_behind : (s : List ℕ) (i : ℕ) → i < length s → begins (codes "*)") (take (length s - i) (drop i s)) ≡ false → comment_rest s ≡ option_map (λ n. i + n) (comment_rest (drop i s)) → comment_rest s ≡ option_map (λ n. (i + 1) + n) (comment_rest (drop (i + 1) s))
comment_rest_behind s i h e k =
    let f = sym (ap (begins (codes "*)")) (take_rest s i)) ∙ e in
    k ∙ ap (option_map (λ n. i + n)) (passed s i h f) ∙ further i (comment_rest (drop (i + 1) s))
