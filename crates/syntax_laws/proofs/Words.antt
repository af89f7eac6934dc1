-- Words, and what is no reserved word.
use Rattle.std.proofs.Common.{ℕ, ◌≡◌, ◌∙◌, ◌+◌, inl, inr, refl, sym, subst, List, [], ◌∷◌, map, take, Bool, true, false, ◌||◌, ◌&&◌, cond, nat_lt, Some, is_some, arith}
use Rattle.std.specs.Char.{to_ascii_lowercase}
use Rattle.std.specs.Str.{bytes_eq, str_to_ascii_lowercase}
use Rattle.std.proofs.lemmas.Bool.{and_parts, eqb-true, or_cases}
use Rattle.std.proofs.lemmas.Bool.Decides.{nat_tests}
use Rattle.std.proofs.lemmas.Cmp.{nat_list_eq_equiv}
use Rattle.lotos_ast.specs.declared.mark.Mark.{Mark}
use Rattle.lotos_ast.specs.Bytes.{is_letter_or_digit, is_low_line}
use Rattle.lotos_ast.specs.Marks.{is_same_word, find_mark, reserved_words, keyword_of}
use Rattle.lotos_ast.specs.Pieces.{word_rest}
use Rattle.spec_core.specs.Lists.{Each, IsOneOf}
use Rattle.spec_core.specs.Names.{IsWordByte, EndsInWord, IsWord}
use Rattle.spec_core.specs.Names as names
use Rattle.syntax_laws.proofs.Bytes.{front-taken}

word-byte : (c : ℕ) (x : Bool) → (is_letter_or_digit c || (is_low_line c && x)) ≡ true → IsWordByte c
word-byte c x e = elim (or_cases (is_letter_or_digit c) (is_low_line c && x) e) [
  | inl h ↦ inl h
  | inr h ↦ inr (eqb-true c 95 (and_parts (is_low_line c) x h).0)
]

-- what goes on a word
pub rest-bytes : (s : List ℕ) → Each IsWordByte (take (word_rest s) s)
rest-bytes [] = tt
rest-bytes (c ∷ s) = by-test (is_letter_or_digit c || (is_low_line c && nat_lt 0 (word_rest s))) refl (rest-bytes s)
  where
    by-test : (x : Bool) → (is_letter_or_digit c || (is_low_line c && nat_lt 0 (word_rest s))) ≡ x → Each IsWordByte (take (word_rest s) s) → Each IsWordByte (take (cond x (1 + word_rest s) 0) (c ∷ s))
    by-test true e more = subst (λ zs. Each IsWordByte zs) (sym (front-taken (word_rest s) c s)) (word-byte c (nat_lt 0 (word_rest s)) e, more)
    by-test false e more = tt

ends-more : (c : ℕ) (s : List ℕ) → EndsInWord s → EndsInWord (c ∷ s)
ends-more c [] h = absurd h
ends-more c (b ∷ s) h = h

none-left : (n : ℕ) → nat_lt 0 n ≡ false → n ≡ 0
none-left n e = grind (arith, nat_tests, e)

ends-here : (c : ℕ) (s : List ℕ) → is_letter_or_digit c ≡ true → word_rest s ≡ 0 → EndsInWord (c ∷ take (word_rest s) s)
ends-here c s h e = subst (λ n. EndsInWord (c ∷ take n s)) (sym e) h

ends-after : (c : ℕ) (s : List ℕ) → is_letter_or_digit c ≡ true → (nat_lt 0 (word_rest s) ≡ true → EndsInWord (take (word_rest s) s)) → EndsInWord (c ∷ take (word_rest s) s)
ends-after c s h next = by-test (nat_lt 0 (word_rest s)) refl
  where
    by-test : (x : Bool) → nat_lt 0 (word_rest s) ≡ x → EndsInWord (c ∷ take (word_rest s) s)
    by-test true e = ends-more c (take (word_rest s) s) (next e)
    by-test false e = ends-here c s h (none-left (word_rest s) e)

not-below-zero : nat_lt 0 0 ≡ true → ⊥
not-below-zero e = grind (arith, nat_tests, e)

rest-ends : (s : List ℕ) → nat_lt 0 (word_rest s) ≡ true → EndsInWord (take (word_rest s) s)
rest-ends [] e = absurd (not-below-zero e)
rest-ends (c ∷ s) e = by-test (is_letter_or_digit c || (is_low_line c && nat_lt 0 (word_rest s))) refl e (rest-ends s)
  where
    by-test : (x : Bool) → (is_letter_or_digit c || (is_low_line c && nat_lt 0 (word_rest s))) ≡ x → nat_lt 0 (cond x (1 + word_rest s) 0) ≡ true →
        (nat_lt 0 (word_rest s) ≡ true → EndsInWord (take (word_rest s) s)) → EndsInWord (take (cond x (1 + word_rest s) 0) (c ∷ s))
    by-test true h e next = subst EndsInWord (sym (front-taken (word_rest s) c s)) (elim (or_cases (is_letter_or_digit c) (is_low_line c && nat_lt 0 (word_rest s)) h) [
      | inl l ↦ ends-after c s l next
      | inr l ↦ ends-more c (take (word_rest s) s) (next (and_parts (is_low_line c) (nat_lt 0 (word_rest s)) l).1)
    ])
    by-test false h e next = absurd (not-below-zero e)

pub word-ends : (b : ℕ) (s : List ℕ) → is_letter_or_digit b ≡ true → EndsInWord (b ∷ take (word_rest s) s)
word-ends b s h = ends-after b s h (rest-ends s)

-- a word that is found in a table
found-mark : (word : List ℕ) (table : List (List ℕ × Mark)) → IsOneOf (str_to_ascii_lowercase word) (map (λ e. str_to_ascii_lowercase e.0) table) → is_some (find_mark word table) ≡ true
found-mark word [] h = absurd h
found-mark word (e ∷ es) h = by-test (is_same_word word e.0) refl h (found-mark word es)
  where
    by-test : (x : Bool) → is_same_word word e.0 ≡ x → IsOneOf (str_to_ascii_lowercase word) (map (λ e. str_to_ascii_lowercase e.0) (e ∷ es)) →
        (IsOneOf (str_to_ascii_lowercase word) (map (λ e. str_to_ascii_lowercase e.0) es) → is_some (find_mark word es) ≡ true) → is_some (cond x (Some e.1) (find_mark word es)) ≡ true
    by-test true q h next = refl
    by-test false q (inr i) next = next i
    by-test false q (inl same) next =
        absurd (differ (sym (subst (λ z. bytes_eq (str_to_ascii_lowercase word) z ≡ true) same (nat_list_eq_equiv.refl (str_to_ascii_lowercase word))) ∙ q))
      where
        differ : true ≡ false → ⊥
        differ z = cc

reserved : map (λ (e : List ℕ × Mark). str_to_ascii_lowercase e.0) reserved_words ≡ names.reserved_words
reserved = refl

pub not-reserved : (word : List ℕ) → is_some (keyword_of word) ≡ false → IsOneOf (map to_ascii_lowercase word) names.reserved_words → ⊥
not-reserved word e h = differ (sym (found-mark word reserved_words (subst (λ ws. IsOneOf (str_to_ascii_lowercase word) ws) (sym reserved) h)) ∙ e)
  where
    differ : true ≡ false → ⊥
    differ z = cc

pub is-word : (b : ℕ) (s : List ℕ) → is_letter_or_digit b ≡ true → is_some (keyword_of (b ∷ take (word_rest s) s)) ≡ false → IsWord (b ∷ take (word_rest s) s)
is-word b s h e = record { bytes = (inl h, rest-bytes s); first = h; last = word-ends b s h; free = not-reserved (b ∷ take (word_rest s) s) e }
