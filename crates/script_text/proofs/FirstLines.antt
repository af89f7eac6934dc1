-- The first line of a text.
use Rattle.std.proofs.Common.{ℕ, ◌≡◌, ◌≤◌, ◌<◌, ◌+◌, ◌==◌, List, [], ◌∷◌, Bool, false, Some, None, length, take, drop, cond, refl, ap, ◌∙◌, arith, All, if◌then◌else◌}
use Rattle.std.specs.Prelude.{nat_lt}
use Rattle.std.specs.List.{position, position_or_len, slice_split, before_first, after_first}
use Rattle.std.specs.Str.Lines.{lines, lines_of_parts, strip_carriage_return}
use Rattle.std.proofs.lemmas.Bool.Decides.{nat_tests}
use Rattle.std.proofs.lemmas.List.Splits.{slice_split_none, slice_split_first, length-slice_split}
use Rattle.std.proofs.lemmas.List.Sums.{fails_before_first}
use Rattle.script_text.specs.LineEnds.{is_line_feed}

none_at : (n m : ℕ) → cond (nat_lt n m) (Some n) None ≡ None → m ≤ n
none_at n m h = grind (arith, nat_tests)

pub some_at : (n m k : ℕ) → cond (nat_lt n m) (Some n) None ≡ Some k → (n ≡ k) × (n < m)
some_at n m k h = grind (arith, nat_tests)

-- where no LF stands, the text is its one line
pub last_line : (text : List ℕ) → position is_line_feed text ≡ None → 0 < length text → lines text ≡ text ∷ []
last_line text none some =
    let far : length text ≤ position_or_len is_line_feed text = none_at (position_or_len is_line_feed text) (length text) none in
    let all : All (λ b. is_line_feed b ≡ false) text = λ k d h. fails_before_first is_line_feed text k d (omega (arith, far, h)) in
    ap lines_of_parts (slice_split_none is_line_feed text all) ∙ alone text some
  where
    alone : (s : List ℕ) → 0 < length s → lines_of_parts (s ∷ []) ≡ s ∷ []
    alone s h = let t : (length s == 0) ≡ false = grind (arith, nat_tests) in ap (λ (c : Bool). if c then [] else s ∷ []) t

parts_behind : (x : List ℕ) (parts : List (List ℕ)) → 0 < length parts → lines_of_parts (x ∷ parts) ≡ strip_carriage_return x ∷ lines_of_parts parts
parts_behind x [] h = absurd (omega (arith, h))
parts_behind x (y ∷ more) h = refl

-- where one stands, the first line stands before it
pub line_before : (text : List ℕ) (n : ℕ) → position is_line_feed text ≡ Some n →
    lines text ≡ strip_carriage_return (take n text) ∷ lines (drop (n + 1) text)
line_before text n h =
    let at = some_at (position_or_len is_line_feed text) (length text) n h in
    let some : 0 < length (slice_split is_line_feed (after_first is_line_feed text)) =
    omega (arith, length-slice_split is_line_feed (after_first is_line_feed text)) in
    ap lines_of_parts (slice_split_first is_line_feed text 0 at.1)
    ∙ parts_behind (before_first is_line_feed text) (slice_split is_line_feed (after_first is_line_feed text)) some
    ∙ ap (λ k. strip_carriage_return (take k text) ∷ lines (drop (k + 1) text)) at.0
