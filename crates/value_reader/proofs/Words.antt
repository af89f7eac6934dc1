-- The first piece of a text.
use Rattle.std.proofs.Common.{ℕ, zero, suc, ◌≡◌, ◌≢◌, ◌<◌, ◌≤◌, ◌-◌, ◌==◌, Bool, true, false, if◌then◌else◌, List, [], ◌∷◌, ◌++◌, length, take, drop, get_or}
use Rattle.value_text.specs.Bytes.{is_name_byte}
use Rattle.std.proofs.Common.{refl, ap, sym, ◌∙◌, arith}
use Rattle.std.proofs.lemmas.Bool.{eqb-true}
use Rattle.std.proofs.lemmas.List.{take_rest}
use Rattle.value_reader.specs.Items.{word, begins_word, joined_to, mark, pieces}
use Rattle.value_reader.specs.Views.{AreNameBytes}
use Rattle.value_reader.proofs.Pieces.{pieces_of_run}
use Rattle.value_text.proofs.Runs as runs

parts : (xs : List ℕ) (n : ℕ) → xs ≡ take n xs ++ drop n xs
parts xs zero = refl
parts [] (suc n) = refl
parts (x ∷ xs) (suc n) = ap (λ l. x ∷ l) (parts xs n)

stops_there : (xs : List ℕ) → begins_word xs ≡ false → runs.Stops is_name_byte xs
stops_there [] h = tt
stops_there (b ∷ xs) h = h

pub word_first : (text : List ℕ) (n : ℕ) → 0 < n → n ≤ length text → AreNameBytes (take n text) → begins_word (drop n text) ≡ false →
    pieces text ≡ word (take n text) ∷ pieces (take (length text - n) (drop n text))
word_first text zero some within run ends = absurd (omega arith)
word_first [] (suc n) some within run ends = absurd (omega arith)
word_first (b ∷ text) (suc n) some within run ends =
    ap (λ l. pieces (b ∷ l)) (parts text n)
    ∙ pieces_of_run b (take n text) (drop n text) run (stops_there (drop n text) ends)
    ∙ ap (λ l. word (b ∷ take n text) ∷ pieces l) (sym (take_rest (b ∷ text) (suc n)))

pub mark_first : (text : List ℕ) (n : ℕ) → n ≡ 0 → 0 < length text → get_or text 0 0 ≢ 32 → begins_word (drop n text) ≡ false →
    pieces text ≡ mark (get_or text 0 0) ∷ pieces (take (length text - 1) (drop 1 text))
mark_first [] n none some blank ends = absurd (omega arith)
mark_first (b ∷ text) n none some blank ends =
    let no_name : is_name_byte b ≡ false = ap (λ k. begins_word (drop k (b ∷ text))) (sym none) ∙ ends in
    ap (λ c. if c then joined_to (begins_word text) b (pieces text) else if b == 32 then pieces text else mark b ∷ pieces text) no_name
    ∙ go (b == 32) refl
    ∙ ap (λ l. mark b ∷ pieces l) (sym (take_rest (b ∷ text) 1))
  where
    go : (c : Bool) → (b == 32) ≡ c → (if c then pieces text else mark b ∷ pieces text) ≡ mark b ∷ pieces text
    go true e = absurd (blank (eqb-true b 32 e))
    go false e = refl
