-- Words that name `run`.
use Rattle.std.proofs.Common.{ℕ, ◌≡◌, ◌≤◌, ◌-◌, ◌∙◌, refl, ap, arith, Bool, true, false, if◌then◌else◌, List, [], ◌∷◌, codes, drop, get_or}
use Rattle.std.proofs.Common.{Global, Option, String, length, map, string_bytes, take}
use Rattle.std.proofs.lemmas.List.{take_all}
use Rattle.std.specs.Str.{bytes_eq}
use Rattle.command_words.specs.Commands.{Command, command_of, run_of}

if_so : {A : Type 0} (b : Bool) (x y : A) → b ≡ true → x ≡ (if b then x else y)
if_so true x y e = refl
if_so false x y e = let never : ⊥ = cc in absurd never

-- of the words behind the first
of_rest : {A : Type 0} (f : List (List ℕ) → A) (word : String Global) (words : List (String Global)) →
    f (map string_bytes (take (length (word ∷ words) - 1) (drop 1 (word ∷ words)))) ≡ f (map string_bytes words)
of_rest f word words = ap (λ ws. f (map string_bytes ws)) (take_all (length (word ∷ words) - 1) words (omega arith))

-- behind the word `run`, what `run` is told
pub run_named : (words : List (String Global)) (other : String Global) → 1 ≤ length words →
    string_bytes (get_or words 0 other) ≡ codes "run" → (found : Option Command) →
    found ≡ run_of (map string_bytes (take (length words - 1) (drop 1 words))) → found ≡ command_of (map string_bytes words)
run_named [] other some e found h = absurd (omega (arith, some))
run_named (word ∷ words) other some e found h =
    h ∙ of_rest run_of word words
    ∙ if_so (bytes_eq (string_bytes word) (codes "run")) (run_of (map string_bytes words)) _ (ap (λ name. bytes_eq name (codes "run")) e)
