-- Texts put for one number after another.
use Rattle.std.proofs.Common.{ℕ, zero, suc, ◌≡◌, ◌+◌, refl, ap, sym, ◌∙◌, arith, List, [], ◌∷◌, ◌++◌, add-one, codes, flat_map}
use Rattle.std.specs.List.{range_with_len, repeat}
use Rattle.std.proofs.lemmas.List.{append_assoc, flat_map_more}

-- one number more
range_more : (a k : ℕ) → range_with_len a (suc k) ≡ range_with_len a k ++ (a + k) ∷ []
range_more a zero = let e : a ≡ a + zero = omega arith in ap (λ n. n ∷ []) e
range_more a (suc k) =
    let e : (a + 1) + k ≡ a + suc k = omega arith in
    ap (λ ns. a ∷ ns) (range_more (a + 1) k ∙ ap (λ n. range_with_len (a + 1) k ++ n ∷ []) e)

-- the text for one number more
pub text_more : (f : ℕ → List ℕ) (start before after : List ℕ) (a k n m : ℕ) → a + k ≡ n → m ≡ k + 1 →
    before ≡ start ++ flat_map f (range_with_len a k) → after ≡ before ++ f n → after ≡ start ++ flat_map f (range_with_len a m)
text_more f start before after a k n m at next h put =
    put
    ∙ ap (λ text. text ++ f n) h
    ∙ ap (λ j. (start ++ flat_map f (range_with_len a k)) ++ f j) (sym at)
    ∙ flat_map_more f start (range_with_len a k) (a + k)
    ∙ ap (λ js. start ++ flat_map f js) (sym (range_more a k))
    ∙ ap (λ j. start ++ flat_map f (range_with_len a j)) (sym (next ∙ add-one k))

-- closing brackets
pub brackets_behind : (k : ℕ) → repeat k (codes ")") ++ codes ")" ≡ repeat (suc k) (codes ")")
brackets_behind zero = refl
brackets_behind (suc k) = ap (λ text. codes ")" ++ text) (brackets_behind k)

pub bracket_more : (k m : ℕ) (start before after : List ℕ) → m ≡ k + 1 → before ≡ start ++ repeat k (codes ")") →
    after ≡ before ++ codes ")" → after ≡ start ++ repeat m (codes ")")
bracket_more k m start before after next h put =
    put
    ∙ ap (λ text. text ++ codes ")") h
    ∙ append_assoc start (repeat k (codes ")")) (codes ")")
    ∙ ap (λ text. start ++ text) (brackets_behind k)
    ∙ ap (λ j. start ++ repeat j (codes ")")) (sym (next ∙ add-one k))
