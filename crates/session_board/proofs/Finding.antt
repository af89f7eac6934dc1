-- Answers that are found in the log, and the spots where they stand.
use Rattle.std.proofs.Common.{ℕ, ◌+◌, ◌≤◌, ◌≡◌, ◌∙◌, refl, sym, ap, arith, List, [], ◌∷◌, ◌++◌, length, map, take, drop}
use Rattle.std.proofs.Common.{append_assoc, append-nil, false, Option, Some, None}
use Rattle.std.proofs.lemmas.List.{length-append, length-drop, length-map, map-append, take-append-drop, take-append-le, take-map, length-take-le}
use Rattle.std.proofs.Math.Seq.{take-length}
use Rattle.rule_model.specs.declared.log.Entry.{Entry}
use Rattle.rule_model.specs.Answers.{Answer}
use Rattle.rule_model.specs.Events.{Event, OfferName, event_of, pended, acted, replied, stalled, left}
use Rattle.board_record.specs.Answered.{actions_with, reply_in}
use Rattle.session_board.specs.declared.line.Line.TheVariants.{Happened}
use Rattle.session_board.specs.declared.spot.Spot.{Spot}
use Rattle.session_board.specs.Answers.{EndsWithAnswer, Found, IsSpot, first_answer, found_or}
use Rattle.session_board.specs.Lines.{actions_after, events_in, lines_of}
use Rattle.session_board.proofs.Lists.{actions_behind, count_lines, events_of_entries, running_lines}

-- The first answer in a log, before which there were so many entries and actions: it comes by this entry.
pub record IsFoundIn (entries actions : ℕ) (log : List Entry) (name : OfferName) (found : Found) : Type 0 where
  pub before : List Entry
  pub entry : Entry
  pub after : List Entry
  pub parts : log ≡ before ++ entry ∷ after
  pub entries_are : found.entries ≡ entries + length before + 1
  pub actions_are : found.actions ≡ actions_with (actions_after actions (map event_of before)) (event_of entry)
  pub says : reply_in (actions_after actions (map event_of before)) (event_of entry) name ≡ Some found.answer

here_or_later : (entries actions : ℕ) (x : Entry) (xs : List Entry) (name : OfferName) (found : Found) (o : Option Answer) →
    reply_in actions (event_of x) name ≡ o →
    (first_answer (entries + 1) (actions_with actions (event_of x)) (map event_of xs) name ≡ Some found →
    IsFoundIn (entries + 1) (actions_with actions (event_of x)) xs name found) →
    found_or o (entries + 1) (actions_with actions (event_of x))
    (first_answer (entries + 1) (actions_with actions (event_of x)) (map event_of xs) name) ≡ Some found →
    IsFoundIn entries actions (x ∷ xs) name found
here_or_later entries actions x xs name found (Some answer) is later h =
    let e : record { entries = entries + 1; actions = actions_with actions (event_of x); answer = answer } ≡ found = cc in
    record {
      before = [];
      entry = x;
      after = xs;
      parts = refl;
      entries_are = (let n : found.entries ≡ entries + 1 = ap (λ (f : Found). f.entries) (sym e) in omega (arith, n));
      actions_are = ap (λ (f : Found). f.actions) (sym e);
      says = is ∙ ap (λ (f : Found). Some f.answer) e;
    }
here_or_later entries actions x xs name found None is later h =
    let l = later h in
    record {
      before = x ∷ l.before;
      entry = l.entry;
      after = l.after;
      parts = ap (λ r. x ∷ r) l.parts;
      entries_are = (let n = l.entries_are in omega (arith, n));
      actions_are = l.actions_are;
      says = l.says;
    }

pub found_in : (entries actions : ℕ) (log : List Entry) (name : OfferName) (found : Found) →
    first_answer entries actions (map event_of log) name ≡ Some found → IsFoundIn entries actions log name found
found_in entries actions [] name found h = let never : ⊥ = cc in absurd never
found_in entries actions (x ∷ xs) name found h =
    here_or_later entries actions x xs name found (reply_in actions (event_of x) name) refl
    (found_in (entries + 1) (actions_with actions (event_of x)) xs name found) h

-- the lines of a front of the entries are a front of the lines
pub front_lines : (all front after : List Entry) → all ≡ front ++ after → take (length front) (lines_of all false) ≡ map Happened front
front_lines all front after parts =
    ap (take (length front)) (running_lines all ∙ ap (map Happened) parts) ∙ take-map Happened (length front) (front ++ after)
    ∙ ap (map Happened) (take-append-le (length front) front after (omega arith) ∙ take-length front)

-- where so many entries, with so many actions, are the front, there is a spot
pub spot_behind : (all front after : List Entry) (spot : Spot) → all ≡ front ++ after → spot.lines ≡ length front →
    spot.actions ≡ actions_after 0 (map event_of front) → IsSpot (lines_of all false) spot
spot_behind all front after spot parts lines actions = record {
  within =
      (let n = ap length parts ∙ length-append front after in let m = count_lines all in omega (arith, n, m, lines));
  actions =
      actions
      ∙ sym (ap (λ l. actions_after 0 (events_in l)) (ap (λ n. take n (lines_of all false)) lines ∙ front_lines all front after parts)
      ∙ ap (actions_after 0) (events_of_entries front));
}

-- the actions up to a spot, by the entries
pub actions_at : (all : List Entry) (spot : Spot) → IsSpot (lines_of all false) spot →
    spot.actions ≡ actions_after 0 (map event_of (take spot.lines all))
actions_at all spot is =
    is.actions
    ∙ ap (λ l. actions_after 0 (events_in l)) (ap (take spot.lines) (running_lines all) ∙ take-map Happened spot.lines all)
    ∙ ap (actions_after 0) (events_of_entries (take spot.lines all))

-- the end of the log is a spot, found from another one on
pub end_spot : (all : List Entry) (spot place : Spot) → IsSpot (lines_of all false) spot →
    place.lines ≡ spot.lines + length (drop spot.lines all) →
    place.actions ≡ actions_after spot.actions (map event_of (drop spot.lines all)) →
    IsSpot (lines_of all false) place × (place.lines ≡ length (lines_of all false))
end_spot all spot place is lines actions =
    let whole = take-append-drop spot.lines all in
    let counted = count_lines all in
    let within : spot.lines ≤ length all = (let w = is.within in omega (arith, w, counted)) in
    let sum = length-drop spot.lines all in
    let last : place.lines ≡ length all = omega (arith, lines, sum, within) in (
      spot_behind all all [] place (sym (append-nil all)) last
          (actions ∙ ap (λ n. actions_after n (map event_of (drop spot.lines all))) (actions_at all spot is)
          ∙ sym (actions_behind 0 (map event_of (take spot.lines all)) (map event_of (drop spot.lines all)))
          ∙ ap (actions_after 0) (sym (map-append event_of (take spot.lines all) (drop spot.lines all)) ∙ ap (map event_of) whole)),
      last ∙ sym counted,
    )

-- behind an entry that answers is a spot, and the lines up to it end with the answer
pub answer_spot : (all : List Entry) (spot place : Spot) (name : OfferName) (answer : Answer) → IsSpot (lines_of all false) spot →
    IsFoundIn spot.lines spot.actions (drop spot.lines all) name
    (record { entries = place.lines; actions = place.actions; answer = answer }) →
    IsSpot (lines_of all false) place × (spot.lines ≤ place.lines) × EndsWithAnswer (take place.lines (lines_of all false)) name answer
answer_spot all spot place name answer is h =
    let start = take spot.lines all in
    let counted = count_lines all in
    let within : spot.lines ≤ length all = (let w = is.within in omega (arith, w, counted)) in
    let front = start ++ h.before in
    let reached : actions_after 0 (map event_of front) ≡ actions_after spot.actions (map event_of h.before) =
    ap (actions_after 0) (map-append event_of start h.before) ∙ actions_behind 0 (map event_of start) (map event_of h.before)
    ∙ ap (λ n. actions_after n (map event_of h.before)) (sym (actions_at all spot is)) in
    let parts : all ≡ (front ++ h.entry ∷ []) ++ h.after =
    sym (take-append-drop spot.lines all) ∙ ap (λ l. start ++ l) h.parts ∙ sym (append_assoc start h.before (h.entry ∷ h.after))
    ∙ sym (append_assoc front (h.entry ∷ []) h.after) in
    let long : length (front ++ h.entry ∷ []) ≡ spot.lines + length h.before + 1 =
    length-append front (h.entry ∷ []) ∙ ap (λ n. n + 1) (length-append start h.before)
    ∙ ap (λ n. n + length h.before + 1) (length-take-le spot.lines all within) in
    let lines : place.lines ≡ length (front ++ h.entry ∷ []) = h.entries_are ∙ sym long in
    let most : spot.lines ≤ place.lines = (let n = h.entries_are in omega (arith, n)) in (
      spot_behind all (front ++ h.entry ∷ []) h.after place parts lines
          (h.actions_are ∙ ap (λ n. actions_with n (event_of h.entry)) (sym reached)
          ∙ sym (actions_behind 0 (map event_of front) (event_of h.entry ∷ []))
          ∙ ap (actions_after 0) (sym (map-append event_of front (h.entry ∷ [])))),
      most,
      record {
        before = map Happened front;
        entry = h.entry;
        ends =
            ap (λ n. take n (lines_of all false)) lines ∙ front_lines all (front ++ h.entry ∷ []) h.after parts
            ∙ map-append Happened front (h.entry ∷ []);
        says =
            ap (λ n. reply_in n (event_of h.entry) name) (ap (actions_after 0) (events_of_entries front) ∙ reached) ∙ h.says;
      },
    )

-- there are no more actions than entries

few_with : (actions : ℕ) (event : Event) → actions_with actions event ≤ actions + 1
few_with actions (pended client number offer ask) = omega arith
few_with actions (acted action d by) = omega arith
few_with actions (replied client number answer) = omega arith
few_with actions (stalled names) = omega arith
few_with actions (left client) = omega arith

few_after : (actions : ℕ) (log : List Event) → actions_after actions log ≤ actions + length log
few_after actions [] = omega arith
few_after actions (event ∷ log) =
    let h = few_after (actions_with actions event) log in let k = few_with actions event in omega (arith, h, k)

pub few_at : (all : List Entry) (spot : Spot) → IsSpot (lines_of all false) spot → spot.actions ≤ spot.lines
few_at all spot is =
    let counted = count_lines all in
    let within : spot.lines ≤ length all = (let w = is.within in omega (arith, w, counted)) in
    let long = length-map (take spot.lines all) event_of ∙ length-take-le spot.lines all within in
    let few = few_after 0 (map event_of (take spot.lines all)) in
    let at = actions_at all spot is in
    omega (arith, long, few, at)
