-- Lines of bytes that are read in parts.
use Rattle.std.proofs.Common.{ℕ, ◌≡◌, ◌==◌, ◌<◌, ◌⊎◌, inl, inr, List, [], ◌∷◌, ◌++◌, Bool, true, false, length, map, cond, refl, ap, sym, subst, ◌∙◌, arith, append_assoc, if◌then◌else◌}
use Rattle.std.proofs.lemmas.List.{append-nil}
use Rattle.std.proofs.lemmas.Bool.Decides.{nat_tests}
use Rattle.std.specs.List.{onto_first, slice_split}
use Rattle.std.specs.Str.Lines.{lines, lines_of_parts, strip_carriage_return}
use Rattle.spec_core.specs.Lists.{Each}
use Rattle.command_lines.specs.Lines.{AreWhole, IsUnended, filled, said, LinesComeInParts}

abbrev is_feed : ℕ → Bool
is_feed b = b == 10

-- a byte before the first of some parts, with others behind them
onto_both : (b : ℕ) (parts more : List (List ℕ)) → 0 < length parts → onto_first b (parts ++ more) ≡ onto_first b parts ++ more
onto_both b [] more h = absurd (omega (arith, h))
onto_both b (part ∷ parts) more h = refl

some_onto : (b : ℕ) (parts : List (List ℕ)) → 0 < length (onto_first b parts)
some_onto b [] = omega arith
some_onto b (part ∷ parts) = omega arith

some_by : (b : ℕ) (t : Bool) (parts : List (List ℕ)) → 0 < length (cond t ([] ∷ parts) (onto_first b parts))
some_by b true parts = omega arith
some_by b false parts = some_onto b parts

-- there is a part at least
pub some_part : (bytes : List ℕ) → 0 < length (slice_split is_feed bytes)
some_part [] = omega arith
some_part (b ∷ bs) = some_by b (is_feed b) (slice_split is_feed bs)

cons_parts : (b : ℕ) (t : Bool) (parts more : List (List ℕ)) → 0 < length parts →
    cond t ([] ∷ (parts ++ more)) (onto_first b (parts ++ more)) ≡ cond t ([] ∷ parts) (onto_first b parts) ++ more
cons_parts b true parts more h = refl
cons_parts b false parts more h = onto_both b parts more h

-- bytes, a LF, and bytes behind it: their parts
pub parts_at_feed : (front rest : List ℕ) → slice_split is_feed (front ++ 10 ∷ rest) ≡ slice_split is_feed front ++ slice_split is_feed rest
parts_at_feed [] rest = refl
parts_at_feed (b ∷ bs) rest =
    ap (λ parts. cond (is_feed b) ([] ∷ parts) (onto_first b parts)) (parts_at_feed bs rest)
    ∙ cons_parts b (is_feed b) (slice_split is_feed bs) (slice_split is_feed rest) (some_part bs)

-- lines of parts, with others behind them
lines_of_both : (parts : List (List ℕ)) (next : List ℕ) (more : List (List ℕ)) →
    lines_of_parts (parts ++ next ∷ more) ≡ map strip_carriage_return parts ++ lines_of_parts (next ∷ more)
lines_of_both [] next more = refl
lines_of_both (part ∷ []) next more = refl
lines_of_both (part ∷ other ∷ parts) next more = ap (λ l. strip_carriage_return part ∷ l) (lines_of_both (other ∷ parts) next more)

lines_of_some : (parts more : List (List ℕ)) → 0 < length more →
    lines_of_parts (parts ++ more) ≡ map strip_carriage_return parts ++ lines_of_parts more
lines_of_some parts [] h = absurd (omega (arith, h))
lines_of_some parts (next ∷ more) h = lines_of_both parts next more

-- bytes, a LF, and bytes behind it: their lines
lines_at_feed : (front rest : List ℕ) → lines (front ++ 10 ∷ rest) ≡ map strip_carriage_return (slice_split is_feed front) ++ lines rest
lines_at_feed front rest =
    ap lines_of_parts (parts_at_feed front rest) ∙ lines_of_some (slice_split is_feed front) (slice_split is_feed rest) (some_part rest)

lines_in_parts : (front rest : List ℕ) → lines ((front ++ 10 ∷ []) ++ rest) ≡ lines (front ++ 10 ∷ []) ++ lines rest
lines_in_parts front rest =
    let all = map strip_carriage_return (slice_split is_feed front) in
    ap lines (append_assoc front (10 ∷ []) rest) ∙ lines_at_feed front rest
    ∙ ap (λ l. l ++ lines rest) (sym (lines_at_feed front [] ∙ append-nil all))

pub lines_come_in_parts : LinesComeInParts
lines_come_in_parts whole rest (inl none) = subst (λ w. lines (w ++ rest) ≡ lines w ++ lines rest) (sym none) refl
lines_come_in_parts whole rest (inr (front, is)) = subst (λ w. lines (w ++ rest) ≡ lines w ++ lines rest) (sym is) (lines_in_parts front rest)

filled_both : (some more : List (List ℕ)) → filled (some ++ more) ≡ filled some ++ filled more
filled_both [] more = refl
filled_both ([] ∷ some) more = filled_both some more
filled_both ((b ∷ bs) ∷ some) more = ap (λ l. (b ∷ bs) ∷ l) (filled_both some more)

-- the same of those that aren't empty
pub said_both : (whole rest : List ℕ) → AreWhole whole → said (whole ++ rest) ≡ said whole ++ said rest
said_both whole rest h = ap filled (lines_come_in_parts whole rest h) ∙ filled_both (lines whole) (lines rest)

-- whole lines behind whole lines are whole
pub whole_both : (some more : List ℕ) → AreWhole some → AreWhole more → AreWhole (some ++ more)
whole_both some more h (inl none) = subst AreWhole (sym (ap (λ m. some ++ m) none ∙ append-nil some)) h
whole_both some more h (inr (front, is)) = inr (some ++ front, ap (λ m. some ++ m) is ∙ sym (append_assoc some front (10 ∷ [])))

-- where no line ends there is one part
pub one_part : (bytes : List ℕ) → IsUnended bytes → slice_split is_feed bytes ≡ bytes ∷ []
one_part [] h = refl
one_part (b ∷ bs) h =
    ap (λ t. cond t ([] ∷ slice_split is_feed bs) (onto_first b (slice_split is_feed bs))) h.0 ∙ ap (onto_first b) (one_part bs h.1)

-- a line that is ended by LF
pub line_ended : (held : List ℕ) → IsUnended held → lines (held ++ 10 ∷ []) ≡ strip_carriage_return held ∷ []
line_ended held h = lines_at_feed held [] ∙ ap (λ parts. map strip_carriage_return parts ++ []) (one_part held h)

-- a last line, which isn't ended
pub last_said : (held : List ℕ) → IsUnended held → said held ≡ filled (held ∷ [])
last_said [] h = refl
last_said (b ∷ bs) h =
    let some : (length (b ∷ bs) == 0) ≡ false = grind (arith, nat_tests) in
    ap (λ parts. filled (lines_of_parts parts)) (one_part (b ∷ bs) h) ∙ ap (λ (c : Bool). filled (if c then [] else (b ∷ bs) ∷ [])) some
