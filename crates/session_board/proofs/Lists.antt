-- Lines of the list, and what happened by them.
use Rattle.std.proofs.Common.{ℕ, zero, suc, ◌+◌, ◌-◌, ◌≤◌, ◌≡◌, ◌∙◌, refl, sym, ap, arith, List, [], ◌∷◌, ◌++◌, length, map, take}
use Rattle.std.proofs.Common.{append_assoc, append-nil, Bool, true, false}
use Rattle.std.proofs.lemmas.List.{length-map, map-append}
use Rattle.rule_model.specs.declared.log.Entry.{Entry}
use Rattle.rule_model.specs.Events.{Event, event_of}
use Rattle.board_record.specs.Answered.{actions_with}
use Rattle.session_board.specs.declared.line.Line.{Line}
use Rattle.session_board.specs.declared.line.Line.TheVariants.{Happened, Halted}
use Rattle.session_board.specs.Lines.{actions_after, events_in, lines_of, mark}

-- what happened, by lines one behind another
pub events_behind : (xs ys : List Line) → events_in (xs ++ ys) ≡ events_in xs ++ events_in ys
events_behind [] ys = refl
events_behind (Happened entry ∷ xs) ys = ap (λ l. event_of entry ∷ l) (events_behind xs ys)
events_behind (Halted ∷ xs) ys = events_behind xs ys

pub events_of_entries : (xs : List Entry) → events_in (map Happened xs) ≡ map event_of xs
events_of_entries [] = refl
events_of_entries (x ∷ xs) = ap (λ l. event_of x ∷ l) (events_of_entries xs)

no_events : (halted : Bool) → events_in (mark halted) ≡ []
no_events true = refl
no_events false = refl

pub events_of_lines : (xs : List Entry) (halted : Bool) → events_in (lines_of xs halted) ≡ map event_of xs
events_of_lines xs halted =
    events_behind (map Happened xs) (mark halted) ∙ ap (λ l. events_in (map Happened xs) ++ l) (no_events halted)
    ∙ append-nil (events_in (map Happened xs)) ∙ events_of_entries xs

pub running_lines : (xs : List Entry) → lines_of xs false ≡ map Happened xs
running_lines xs = append-nil (map Happened xs)

pub lines_behind : (xs ys : List Entry) (halted : Bool) → lines_of (xs ++ ys) halted ≡ lines_of xs false ++ (map Happened ys ++ mark halted)
lines_behind xs ys halted =
    ap (λ l. l ++ mark halted) (map-append Happened xs ys) ∙ append_assoc (map Happened xs) (map Happened ys) (mark halted)
    ∙ ap (λ l. l ++ (map Happened ys ++ mark halted)) (sym (running_lines xs))

pub count_lines : (xs : List Entry) → length (lines_of xs false) ≡ length xs
count_lines xs = ap length (running_lines xs) ∙ length-map xs Happened

-- how many actions there are in logs one behind another
pub actions_behind : (at : ℕ) (xs ys : List Event) → actions_after at (xs ++ ys) ≡ actions_after (actions_after at xs) ys
actions_behind at [] ys = refl
actions_behind at (x ∷ xs) ys = actions_behind (actions_with at x) xs ys

-- a front of a front
pub fronts : {A : Type 0} (n m : ℕ) (xs : List A) → n ≤ m → (rest : List A) × (take m xs ≡ take n xs ++ rest)
fronts zero m xs h = (take m xs, refl)
fronts (suc n) zero xs h = absurd (omega (arith, h))
fronts (suc n) (suc m) [] h = ([], refl)
fronts (suc n) (suc m) (x ∷ xs) h = let r = fronts n m xs (omega (arith, h)) in (r.0, ap (λ l. x ∷ l) r.1)

-- a longer front of a list that goes on
pub longer_front : {A : Type 0} (n : ℕ) (xs ys : List A) → length xs ≤ n → take n (xs ++ ys) ≡ xs ++ take (n - length xs) ys
longer_front n [] ys h = ap (λ k. take k ys) (let e : n ≡ n - 0 = omega arith in e)
longer_front zero (x ∷ xs) ys h = absurd (omega (arith, h))
longer_front (suc n) (x ∷ xs) ys h =
    ap (λ l. x ∷ l) (longer_front n xs ys (omega (arith, h)))
    ∙ ap (λ k. x ∷ xs ++ take k ys) (let e : n - length xs ≡ suc n - length (x ∷ xs) = omega arith in e)
