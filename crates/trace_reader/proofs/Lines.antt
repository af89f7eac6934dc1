-- The lines of a log in a format, one by one.
use Rattle.std.proofs.Common.{ℕ, zero, suc, ◌≡◌, ◌⊎◌, inl, inr, ◌+◌, ◌/◌, ◌%◌, ◌<◌, ◌≤◌, ◌^◌, ◌==◌, Bool, true, false, not, if◌then◌else◌, List, [], ◌∷◌, ◌++◌, codes, decimal}
use Rattle.std.proofs.Common.{length, filter, cond, drop, flat_map, refl, sym, ap, subst, ◌∙◌, arith, append_assoc, length-append, Option, Some, None}
use Rattle.std.proofs.lemmas.Bool.{eqb-true, eqb-false}
use Rattle.std.proofs.lemmas.List.{append-nil}
use Rattle.spec_core.specs.Code.{Program}
use Rattle.spec_core.specs.Lists.{Each}
use Rattle.spec_core.specs.Ready.{AreNamed}
use Rattle.spec_core.specs.Sorts.{FitsData}
use Rattle.rule_model.specs.Events.{OfferName, Event, pended, acted, replied, stalled, left}
use Rattle.trace_text.specs.declared.format.Format.{Format}
use Rattle.trace_text.specs.declared.format.Format.TheVariants.{One, Two}
use Rattle.trace_text.specs.Fits.{EventFits}
use Rattle.trace_text.specs.Formats.{Before, behind, behind_log, common_front, event_text, format_line, is_at_point, log_text, point_line, point_text}
use Rattle.trace_text.specs.Formats.{points_behind, rules_text}
use Rattle.trace_text.specs.Names.{names_in}
use Rattle.trace_text.specs.Pending.{is_among, is_same_offer, pending_behind, with_offer, without_offer, without_offers, without_taken}
use Rattle.trace_text.specs.Trace.{Names, action_text, by_text, tree_text}
use Rattle.trace_text.proofs.Fronts.{is_front}
use Rattle.trace_text.proofs.OneFormat.{IsSmall, small_behind, smaller}
use Rattle.trace_reader.specs.Lines.{IsOneLine, lines_text}
use Rattle.trace_reader.proofs.OneLine.{action_so, all_so, by_so, event_so, joined, number_so, tree_so}

flat_append : {X : Type 0} (f : X → List ℕ) (xs ys : List X) → flat_map f (xs ++ ys) ≡ flat_map f xs ++ flat_map f ys
flat_append f [] ys = refl
flat_append f (x ∷ xs) ys = ap (λ l. f x ++ l) (flat_append f xs ys) ∙ sym (append_assoc (f x) (flat_map f xs) (flat_map f ys))

each_append : {X : Type 0} (P : X → Type 0) (xs ys : List X) → Each P xs → Each P ys → Each P (xs ++ ys)
each_append P [] ys h k = k
each_append P (x ∷ xs) ys h k = (h.0, each_append P xs ys h.1 k)

abbrev pub point_lines : Format → Before → Event → List (List ℕ)
point_lines Two before (acted action d by) = if is_at_point before.actions then point_line before ∷ [] else []
point_lines format before event = []

point_at : (c : Bool) (l : List ℕ) → lines_text (if c then l ∷ [] else []) ≡ (if c then l ++ codes "\n" else [])
point_at true l = append-nil (l ++ codes "\n")
point_at false l = refl

point_so : (format : Format) (before : Before) (x : Event) → lines_text (point_lines format before x) ≡ point_text format before x
point_so Two before (acted action d by) = point_at (is_at_point before.actions) (point_line before)
point_so One before x = refl
point_so Two before (pended client number offer ask) = refl
point_so Two before (replied client number answer) = refl
point_so Two before (stalled all) = refl
point_so Two before (left client) = refl

-- a point is one more at each 64th action
point_more : (a : ℕ) (l : List ℕ) (c : Bool) → ((a + 1) % 64 == 0) ≡ c → length (if c then l ∷ [] else []) + a / 64 ≡ (a + 1) / 64
point_more a l true e = let k : (a + 1) % 64 ≡ 0 = eqb-true ((a + 1) % 64) 0 e in omega (arith, k)
point_more a l false e = let k : (a + 1) % 64 ≡ 0 → ⊥ = eqb-false ((a + 1) % 64) 0 e in omega (arith, k)

without_few : (name : OfferName) (offers : List OfferName) → length (without_offer name offers) ≤ length offers
without_few name [] = omega arith
without_few name (x ∷ offers) = go (not (is_same_offer name x)) (without_few name offers)
  where
    go : (b : Bool) → length (without_offer name offers) ≤ length offers →
        length (cond b (x ∷ without_offer name offers) (without_offer name offers)) ≤ length (x ∷ offers)
    go true h = omega (arith, h)
    go false h = omega (arith, h)

each_few : (names offers : List OfferName) → length (without_offers names offers) ≤ length offers
each_few [] offers = omega arith
each_few (x ∷ names) offers =
    let k = each_few names (without_offer x offers) in let l = without_few x offers in omega (arith, k, l)

with_few : (b : Bool) (name : OfferName) (offers : List OfferName) → length (if b then offers else name ∷ offers) ≤ length offers + 1
with_few true name offers = omega arith
with_few false name offers = omega arith

pub taken_few : (by : Option OfferName) (offers : List OfferName) → length (without_taken by offers) ≤ length offers
taken_few None offers = omega arith
taken_few (Some name) offers = without_few name offers

dropped : (n : ℕ) (x : List ℕ) → IsOneLine x → IsOneLine (drop n x)
dropped zero x h = h
dropped (suc n) [] h = tt
dropped (suc n) (b ∷ x) h = dropped n x h.1

module _ (names : Names) where
  -- the lines of a log
  abbrev pub texts : Format → Before → List Event → List (List ℕ)
  texts format before [] = []
  texts format before (x ∷ log) =
      format_line names format before.tree x ∷ (point_lines format (behind names before x) x ++ texts format (behind names before x) log)

  step_parts : (l p t : List ℕ) → (l ++ codes "\n") ++ (p ++ t) ≡ (l ++ codes "\n" ++ p) ++ t
  step_parts l p t = sym (append_assoc (l ++ codes "\n") p t)

  pub texts_so : (format : Format) (before : Before) (log : List Event) → lines_text (texts format before log) ≡ log_text names format before log
  texts_so format before [] = refl
  texts_so format before (x ∷ log) =
      ap (λ l. (format_line names format before.tree x ++ codes "\n") ++ l)
      (flat_append (λ l. l ++ codes "\n") (point_lines format (behind names before x) x) (texts format (behind names before x) log)
      ∙ ap (λ l. l ++ lines_text (texts format (behind names before x) log)) (point_so format (behind names before x) x)
      ∙ ap (λ l. point_text format (behind names before x) x ++ l) (texts_so format (behind names before x) log))
      ∙ step_parts (format_line names format before.tree x) (point_text format (behind names before x) x)
      (log_text names format (behind names before x) log)

  point_count : (format : Format) (before : Before) (x : Event) →
      length (point_lines format (behind names before x) x) + points_behind format before.actions ≡ points_behind format (behind names before x).actions
  point_count One before x = refl
  point_count Two before (acted action d by) = point_more before.actions (point_line (behind names before (acted action d by))) (is_at_point (before.actions + 1)) refl
  point_count Two before (pended client number offer ask) = omega arith
  point_count Two before (replied client number answer) = omega arith
  point_count Two before (stalled all) = omega arith
  point_count Two before (left client) = omega arith

  pub texts_length : (format : Format) (before : Before) (log : List Event) →
      length (texts format before log) + points_behind format before.actions ≡
      length log + points_behind format (behind_log names before log).actions
  texts_length format before [] = refl
  texts_length format before (x ∷ log) =
      let k = texts_length format (behind names before x) log in
      let l = point_count format before x in
      let m = length-append (point_lines format (behind names before x) x) (texts format (behind names before x) log) in
      omega (arith, k, l, m)

  actions_more : (before : Before) (x : Event) → (behind names before x).actions ≤ before.actions + 1
  actions_more before (acted action d by) = omega arith
  actions_more before (pended client number offer ask) = omega arith
  actions_more before (replied client number answer) = omega arith
  actions_more before (stalled all) = omega arith
  actions_more before (left client) = omega arith

  pub actions_few : (before : Before) (log : List Event) → (behind_log names before log).actions ≤ before.actions + length log
  actions_few before [] = omega arith
  actions_few before (x ∷ log) =
      let k = actions_few (behind names before x) log in let l = actions_more before x in omega (arith, k, l)

  offers_more : (before : Before) (x : Event) → length (behind names before x).offers ≤ length before.offers + 1
  offers_more before (acted action d by) = let k = taken_few by before.offers in omega (arith, k)
  offers_more before (pended client number offer ask) = with_few (is_among (client, number) before.offers) (client, number) before.offers
  offers_more before (replied client number answer) = let k = without_few (client, number) before.offers in omega (arith, k)
  offers_more before (stalled all) = let k = each_few all before.offers in omega (arith, k)
  offers_more before (left client) = omega arith

  pub offers_few : (before : Before) (log : List Event) → length (behind_log names before log).offers ≤ length before.offers + length log
  offers_few before [] = omega arith
  offers_few before (x ∷ log) =
      let k = offers_few (behind names before x) log in let l = offers_more before x in omega (arith, k, l)

  -- behind the lines of a log the text of the last tree is still small
  pub small_log : (format : Format) (before : Before) (log : List Event) →
      IsSmall format (length before.tree + length (log_text names format before log)) → IsSmall format (length (behind_log names before log).tree)
  small_log format before [] h = smaller format (length before.tree) (length before.tree + 0) (omega arith) h
  small_log format before (x ∷ log) h =
      small_log format (behind names before x) log (small_behind names format before x (log_text names format (behind names before x) log) h)

  pub lines_long : (format : Format) (before : Before) (log : List Event) → length log ≤ length (log_text names format before log)
  lines_long format before [] = omega arith
  lines_long format before (x ∷ log) =
      let k = lines_long format (behind names before x) log in
      let m = length-append (event_text names format before x) (log_text names format (behind names before x) log) in
      let n = length-append (format_line names format before.tree x ++ codes "\n") (point_text format (behind names before x) x) in
      let l = length-append (format_line names format before.tree x) (codes "\n") in
      omega (arith, k, m, n, l)

-- the line of a point
pub point_line_so : (before : Before) → before.actions < 2 ^ 64 → length before.offers < 2 ^ 64 → IsOneLine (point_line before)
point_line_so before a b =
    joined (codes "point " ++ decimal before.actions ++ codes " ") (decimal (length before.offers))
    (joined (codes "point " ++ decimal before.actions) (codes " ")
    (joined (codes "point ") (decimal before.actions) (all_so (codes "point ") refl) (number_so before.actions a)) (all_so (codes " ") refl))
    (number_so (length before.offers) b)

point_one : (c : Bool) (l : List ℕ) → IsOneLine l → Each IsOneLine (if c then l ∷ [] else [])
point_one true l h = (h, tt)
point_one false l h = tt

points_one : (format : Format) (before : Before) (x : Event) → before.actions < 2 ^ 64 → length before.offers < 2 ^ 64 →
    Each IsOneLine (point_lines format before x)
points_one Two before (acted action d by) a b = point_one (is_at_point before.actions) (point_line before) (point_line_so before a b)
points_one One before x a b = tt
points_one Two before (pended client number offer ask) a b = tt
points_one Two before (replied client number answer) a b = tt
points_one Two before (stalled all) a b = tt
points_one Two before (left client) a b = tt

module _ (program : Program) (fits : FitsData program.theory) (named : AreNamed program) where
  abbrev names : Names
  names = names_in program

  rules_so : (format : Format) (tree text : List ℕ) → IsSmall format (length tree) → IsOneLine text → IsOneLine (rules_text format tree text)
  rules_so One tree text small h = h
  rules_so Two tree text small h =
      let n = common_front tree text in
      let l = (is_front tree text).left in
      joined (decimal n ++ codes ":") (drop n text)
      (joined (decimal n) (codes ":") (number_so n (omega (arith, small, l))) (all_so (codes ":") refl)) (dropped n text h)

  pub format_so : (format : Format) (tree : List ℕ) (x : Event) → IsSmall format (length tree) → EventFits program x →
      IsOneLine (format_line names format tree x)
  format_so format tree (acted action d by) small h =
      joined (codes "act " ++ action_text names action ++ by_text by ++ codes " rules ") (rules_text format tree (tree_text names d))
      (joined (codes "act " ++ action_text names action ++ by_text by) (codes " rules ")
      (joined (codes "act " ++ action_text names action) (by_text by)
      (joined (codes "act ") (action_text names action) (all_so (codes "act ") refl) (action_so program fits named action h.0)) (by_so by h.2))
      (all_so (codes " rules ") refl))
      (rules_so format tree (tree_text names d) small (tree_so program fits named d h.1))
  format_so format tree (pended client number offer ask) small h = event_so program fits named (pended client number offer ask) h
  format_so format tree (replied client number answer) small h = event_so program fits named (replied client number answer) h
  format_so format tree (stalled all) small h = event_so program fits named (stalled all) h
  format_so format tree (left client) small h = event_so program fits named (left client) h

  pub texts_one : (format : Format) (before : Before) (log : List Event) → Each (EventFits program) log →
      IsSmall format (length before.tree + length (log_text names format before log)) → before.actions + length log < 2 ^ 64 →
      length before.offers + length log < 2 ^ 64 → Each IsOneLine (texts names format before log)
  texts_one format before [] h small a b = tt
  texts_one format before (x ∷ log) h small a b =
      let k = actions_more names before x in
      let l = offers_more names before x in (
        format_so format before.tree x
            (smaller format (length before.tree) (length before.tree + length (log_text names format before (x ∷ log))) (omega arith) small) h.0,
        each_append IsOneLine (point_lines format (behind names before x) x) (texts names format (behind names before x) log)
            (points_one format (behind names before x) x (omega (arith, a, k)) (omega (arith, b, l)))
            (texts_one format (behind names before x) log h.1
            (small_behind names format before x (log_text names format (behind names before x) log) small)
            (omega (arith, a, k)) (omega (arith, b, l))),
      )
