-- The number that is read is the one that is written.
use Rattle.std.proofs.Common.{ℕ, ◌≡◌, ◌<◌, ◌^◌, false, List, [], ◌∷◌, ◌++◌, take, drop, decimal, Option, Some, None, sym, ◌∙◌}
use Rattle.std.specs.Char.{is_ascii_digit}
use Rattle.std.proofs.lemmas.List.{take-append-drop}
use Rattle.value_text.proofs.Runs.{Stops, decimal_run, one_run}
use Rattle.trace_reader.specs.Digits.{AreDigits, begins_digit}

stops_there : (r : List ℕ) → begins_digit r ≡ false → Stops is_ascii_digit r
stops_there [] h = tt
stops_there (b ∷ r) h = h

-- the digits with which the text begins are those of the number
digits_so : (text : List ℕ) (k n : ℕ) (rest : List ℕ) → AreDigits (take k text) → begins_digit (drop k text) ≡ false → n < 2 ^ 64 →
    begins_digit rest ≡ false → text ≡ decimal n ++ rest → (take k text ≡ decimal n) × (drop k text ≡ rest)
digits_so text k n rest run ends small stop e =
    one_run is_ascii_digit (take k text) (decimal n) (drop k text) rest run (decimal_run n small) (stops_there (drop k text) ends)
    (stops_there rest stop) (take-append-drop k text ∙ e)

abbrev pub NumberOf : List ℕ → Option ℕ → Type 0
NumberOf digits o = (n : ℕ) → n < 2 ^ 64 → digits ≡ decimal n → o ≡ Some n

pub none_found : (text : List ℕ) (k : ℕ) (o : Option ℕ) → AreDigits (take k text) → begins_digit (drop k text) ≡ false → NumberOf (take k text) o →
    o ≡ None → (n : ℕ) (rest : List ℕ) → n < 2 ^ 64 → begins_digit rest ≡ false → text ≡ decimal n ++ rest → ⊥
none_found text k o run ends finds none n rest small stop e =
    let h : o ≡ Some n = finds n small (digits_so text k n rest run ends small stop e).0 in
    let wrong : None ≡ Some n = sym none ∙ h in
    cc

pub one_found : (text : List ℕ) (k m : ℕ) (o : Option ℕ) → AreDigits (take k text) → begins_digit (drop k text) ≡ false →
    NumberOf (take k text) o → o ≡ Some m → (n : ℕ) (rest : List ℕ) → n < 2 ^ 64 → begins_digit rest ≡ false → text ≡ decimal n ++ rest →
    (m ≡ n) × (drop k text ≡ rest)
one_found text k m o run ends finds some n rest small stop e =
    let so = digits_so text k n rest run ends small stop e in
    let h : o ≡ Some n = finds n small so.0 in
    let same : Some m ≡ Some n = sym some ∙ h in
    (cc, so.1)
