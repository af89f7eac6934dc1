-- Bytes of words and of operation strings.
use Rattle.std.proofs.Common.{ℕ, zero, suc, ◌≡◌, ◌<◌, ◌+◌, inl, inr, refl, sym, ap, subst, List, [], ◌∷◌, take, get_or, Bool, true, false, not, cond, nat_lt, arith}
use Rattle.std.specs.Char.{is_ascii_alphabetic, is_ascii_alphanumeric, is_ascii_digit}
use Rattle.std.specs.List.{list_any, prefix_len}
use Rattle.std.specs.Str.Lossy.{utf8_lossy}
use Rattle.std.proofs.lemmas.Bool.{or_cases, eqb-true}
use Rattle.std.proofs.lemmas.Bool.Decides.{nat_tests}
use Rattle.std.proofs.lemmas.Str.{IsUtf8-from_ascii, utf8_lossy-IsUtf8}
use Rattle.lotos_ast.specs.Bytes.{is_one_of}
use Rattle.spec_core.specs.Lists.{Each, IsOneOf}
use Rattle.spec_core.specs.Names.{IsWordByte}

one-behind : (n : ℕ) → 1 + n ≡ suc n
one-behind n = omega arith

pub front-taken : (n b : ℕ) (s : List ℕ) → take (1 + n) (b ∷ s) ≡ b ∷ take n s
front-taken n b s = ap (λ k. take k (b ∷ s)) (one-behind n)

-- those of a list that pass a test, from the front
pub passing-front : {P : ℕ → Type 0} (p : ℕ → Bool) → ((b : ℕ) → p b ≡ true → P b) → (s : List ℕ) → Each P (take (prefix_len p s) s)
passing-front p h [] = tt
passing-front {P = P} p h (b ∷ s) = by-test (p b) refl (passing-front p h s)
  where
    by-test : (x : Bool) → p b ≡ x → Each P (take (prefix_len p s) s) → Each P (take (cond x (1 + prefix_len p s) 0) (b ∷ s))
    by-test true e more = subst (λ zs. Each P zs) (sym (front-taken (prefix_len p s) b s)) (h b e, more)
    by-test false e more = tt

pub one-of-bytes : (bytes : List ℕ) (b : ℕ) → is_one_of bytes b ≡ true → IsOneOf b bytes
one-of-bytes [] b e = absurd (cc)
one-of-bytes (c ∷ cs) b e = elim (or_cases _ (is_one_of cs b) e) [
  | inl h ↦ inl (sym (eqb-true c b h))
  | inr h ↦ inr (one-of-bytes cs b h)
]

-- bytes below 128 are told as they stand

pub each-below : (s : List ℕ) → Each (λ b. b < 128) s → (i : ℕ) → get_or s i 0 < 128
each-below [] h i = omega arith
each-below (b ∷ s) h zero = h.0
each-below (b ∷ s) h (suc i) = each-below s h.1 i

pub ascii-told : (s : List ℕ) → Each (λ b. b < 128) s → utf8_lossy s ≡ s
ascii-told s h = utf8_lossy-IsUtf8 s (IsUtf8-from_ascii s (each-below s h))

alphanumeric-below : (b : ℕ) → is_ascii_alphanumeric b ≡ true → b < 128
alphanumeric-below b h = grind (arith, nat_tests, h)

pub word-byte-below : (b : ℕ) → IsWordByte b → b < 128
word-byte-below b (inl h) = alphanumeric-below b h
word-byte-below b (inr e) = omega (arith, e)

none-above : (bytes : List ℕ) (b : ℕ) → Each (λ c. c < 128) bytes → IsOneOf b bytes → b < 128
none-above [] b h i = absurd i
none-above (c ∷ cs) b h (inl e) = omega (arith, h.0, e)
none-above (c ∷ cs) b h (inr i) = none-above cs b h.1 i

pub low-bytes : (bytes : List ℕ) → list_any (λ c. not (nat_lt c 128)) bytes ≡ false → Each (λ c. c < 128) bytes
low-bytes [] e = tt
low-bytes (c ∷ cs) e = (grind (arith, nat_tests, e), low-bytes cs (grind (arith, nat_tests, e)))

pub among-below : (bytes : List ℕ) (b : ℕ) → list_any (λ c. not (nat_lt c 128)) bytes ≡ false → IsOneOf b bytes → b < 128
among-below bytes b e i = none-above bytes b (low-bytes bytes e) i

pub letter-of : (b : ℕ) → is_ascii_alphanumeric b ≡ true → is_ascii_digit b ≡ false → is_ascii_alphabetic b ≡ true
letter-of b h e = grind (arith, nat_tests, h, e)
