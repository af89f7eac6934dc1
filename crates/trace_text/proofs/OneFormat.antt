-- A text is the trace of one log and one end at most, and in one format.
use Rattle.std.proofs.Common.{ℕ, ◌≡◌, ◌<◌, ◌≤◌, ◌+◌, ◌%◌, ◌==◌, ◌^◌, if◌then◌else◌, Bool, true, false, List, [], ◌∷◌, ◌++◌, codes, refl, ap, sym, ◌∙◌, subst, arith}
use Rattle.std.proofs.Common.{append_assoc, drop, decimal, length, length-append}
use Rattle.std.proofs.lemmas.List.{append_cancel_left}
use Rattle.spec_core.specs.Code.{Program}
use Rattle.spec_core.specs.Lists.{Each}
use Rattle.spec_core.specs.Ready.{AreNamed}
use Rattle.spec_core.specs.Sorts.{FitsData}
use Rattle.rule_model.specs.Events.{Event, pended, acted, replied, stalled, left, Ending}
use Rattle.trace_text.specs.declared.format.Format.{Format}
use Rattle.trace_text.specs.declared.format.Format.TheVariants.{One, Two}
use Rattle.trace_text.specs.Fits.{EventFits, EndingFits, CountsActions}
use Rattle.trace_text.specs.Formats.{Before, behind, event_text, first_line, format_line, is_at_point, log_text, nothing_before, point_text, rules_text, trace_bytes}
use Rattle.trace_text.specs.Laws.{IsShort, OneTrace}
use Rattle.trace_text.specs.Names.{names_in}
use Rattle.trace_text.specs.Trace.{Names, action_text, by_text, end_word, event_line, tree_text}
use Rattle.trace_text.proofs.Fronts.{shared_long, unshared}
use Rattle.trace_text.proofs.OneEvent.{act_parts, is_numbered, one_act, one_acted, one_end, one_event, renumbered}
use Rattle.trace_text.proofs.OneTree.{three}

-- in format 2, a number of 64 bits
abbrev pub IsSmall : Format → ℕ → Type 0
IsSmall One n = Unit {0}
IsSmall Two n = n < 2 ^ 64

pub smaller : (format : Format) (m n : ℕ) → m ≤ n → IsSmall format n → IsSmall format m
smaller One m n h k = tt
smaller Two m n h k = omega (arith, h, k)

one_rules : (format : Format) (before x y r s : List ℕ) → IsSmall format (length before) →
    rules_text format before x ++ r ≡ rules_text format before y ++ s → x ++ r ≡ y ++ s
one_rules One before x y r s small h = h
one_rules Two before x y r s small h = unshared before x y r s small h

-- how many actions there are behind an event
abbrev counted_behind : ℕ → Event → ℕ
counted_behind n (acted action d by) = n + 1
counted_behind n (pended client number offer ask) = n
counted_behind n (replied client number answer) = n
counted_behind n (stalled all) = n
counted_behind n (left client) = n

renumbered_so : (n : ℕ) (x : Event) (log : List Event) → CountsActions n (x ∷ log) → x ≡ renumbered n x
renumbered_so n (replied client number answer) log h = ap (replied client number) (is_numbered n answer h.0)
renumbered_so n (pended client number offer ask) log h = refl
renumbered_so n (acted action d by) log h = refl
renumbered_so n (stalled all) log h = refl
renumbered_so n (left client) log h = refl

counts_behind : (n : ℕ) (x : Event) (log : List Event) → CountsActions n (x ∷ log) → CountsActions (counted_behind n x) log
counts_behind n (replied client number answer) log h = h.1
counts_behind n (pended client number offer ask) log h = h
counts_behind n (acted action d by) log h = h
counts_behind n (stalled all) log h = h
counts_behind n (left client) log h = h

module _ (names : Names) where
  lines_parts : (x p r : List ℕ) → (x ++ codes "\n" ++ p) ++ r ≡ x ++ (10 ∷ (p ++ r))
  lines_parts x p r = append_assoc (x ++ codes "\n") p r ∙ append_assoc x (codes "\n") (p ++ r)

  -- the lines of an event, and what stands behind them
  pub event_parts : (format : Format) (before : Before) (x : Event) (r : List ℕ) → event_text names format before x ++ r ≡
      format_line names format before.tree x ++ (10 ∷ (point_text format (behind names before x) x ++ r))
  event_parts format before x r =
      lines_parts (format_line names format before.tree x) (point_text format (behind names before x) x) r

  act_long : (a b u t s : List ℕ) → length t ≤ length (a ++ b ++ u ++ s ++ t)
  act_long a b u t s = let k = length-append (a ++ b ++ u ++ s) t in omega (arith, k)

  shorter : (point : Bool) (t : List ℕ) → length (if point then [] else t) ≤ length t
  shorter true t = omega arith
  shorter false t = omega arith

  -- the text of a tree isn't longer than the one before it and the line of its action
  tree_long : (before : Before) (x : Event) → length (behind names before x).tree ≤ length before.tree + length (format_line names Two before.tree x)
  tree_long before (acted action d by) =
      let k = shared_long before.tree (tree_text names d) in
      let l = act_long (codes "act ") (action_text names action) (by_text by) (rules_text Two before.tree (tree_text names d)) (codes " rules ") in
      let m = shorter (is_at_point (before.actions + 1)) (tree_text names d) in
      omega (arith, k, l, m)
  tree_long before (pended client number offer ask) = omega arith
  tree_long before (replied client number answer) = omega arith
  tree_long before (stalled all) = omega arith
  tree_long before (left client) = omega arith

  -- what is left is no longer than before
  pub small_behind : (format : Format) (before : Before) (x : Event) (r : List ℕ) →
      IsSmall format (length before.tree + length (event_text names format before x ++ r)) →
      IsSmall format (length (behind names before x).tree + length r)
  small_behind One before x r h = tt
  small_behind Two before x r h =
      let k = tree_long before x in
      let a = length-append (event_text names Two before x) r in
      let b = length-append (format_line names Two before.tree x ++ codes "\n") (point_text Two (behind names before x) x) in
      let c = length-append (format_line names Two before.tree x) (codes "\n") in
      omega (arith, h, k, a, b, c)

module _ (program : Program) (fits : FitsData program.theory) (named : AreNamed program) where
  abbrev names : Names
  names = names_in program

  -- the line of an event, behind one tree, is that of this event alone
  pub one_format_line : (format : Format) (tree : List ℕ) (x y : Event) (n : ℕ) (r s : List ℕ) → IsSmall format (length tree) →
      EventFits program x → EventFits program y → format_line names format tree x ++ (10 ∷ r) ≡ format_line names format tree y ++ (10 ∷ s) →
      (renumbered n x ≡ renumbered n y) × (r ≡ s)
  one_format_line format tree (acted x d by) (acted y e bz) n r s small a b h =
      let t = rules_text format tree (tree_text names d) in
      let u = rules_text format tree (tree_text names e) in
      let one =
      one_act program fits named x y by bz (t ++ (10 ∷ r)) (u ++ (10 ∷ s)) a.0 b.0 a.2 b.2
      (sym (act_parts program fits named (codes "act ") (action_text names x) (by_text by) (codes " rules ") t (10 ∷ r)) ∙ h
      ∙ act_parts program fits named (codes "act ") (action_text names y) (by_text bz) (codes " rules ") u (10 ∷ s)) in
      one_acted program fits named x y by bz d e r s a.1 b.1
      (one.0, one.1, one_rules format tree (tree_text names d) (tree_text names e) (10 ∷ r) (10 ∷ s) small one.2)
  one_format_line format tree (acted x d by) (pended m q y true) n r s small a b h = absurd (omega (arith, ap three h))
  one_format_line format tree (acted x d by) (pended m q y false) n r s small a b h = absurd (omega (arith, ap three h))
  one_format_line format tree (acted x d by) (replied m q y) n r s small a b h = absurd (omega (arith, ap three h))
  one_format_line format tree (acted x d by) (stalled ys) n r s small a b h = absurd (omega (arith, ap three h))
  one_format_line format tree (acted x d by) (left m) n r s small a b h = absurd (omega (arith, ap three h))
  one_format_line format tree (pended k p x true) (acted y e bz) n r s small a b h = absurd (omega (arith, ap three h))
  one_format_line format tree (pended k p x false) (acted y e bz) n r s small a b h = absurd (omega (arith, ap three h))
  one_format_line format tree (replied k p x) (acted y e bz) n r s small a b h = absurd (omega (arith, ap three h))
  one_format_line format tree (stalled xs) (acted y e bz) n r s small a b h = absurd (omega (arith, ap three h))
  one_format_line format tree (left k) (acted y e bz) n r s small a b h = absurd (omega (arith, ap three h))
  one_format_line format tree x y n r s small a b h = one_event program fits named x y n r s a b h

  -- the lines of a log, and the last line
  abbrev rest_lines : Format → Before → List Event → Ending → List ℕ
  rest_lines format before log ending = log_text names format before log ++ (codes "end " ++ (end_word names ending ++ (10 ∷ [])))

  pub no_end : (format : Format) (tree : List ℕ) (x : Event) (r s : List ℕ) → format_line names format tree x ++ r ≡ codes "end " ++ s → ⊥
  no_end format tree (pended k p offer true) r s h = omega (arith, ap three h)
  no_end format tree (pended k p offer false) r s h = omega (arith, ap three h)
  no_end format tree (acted action d by) r s h = omega (arith, ap three h)
  no_end format tree (replied k p answer) r s h = omega (arith, ap three h)
  no_end format tree (stalled all) r s h = omega (arith, ap three h)
  no_end format tree (left k) r s h = omega (arith, ap three h)

  -- the lines of a log that isn't empty
  more_parts : (format : Format) (before : Before) (x : Event) (log : List Event) (ending : Ending) → rest_lines format before (x ∷ log) ending ≡
      event_text names format before x ++ rest_lines format (behind names before x) log ending
  more_parts format before x log ending =
      append_assoc (event_text names format before x) (log_text names format (behind names before x) log)
      (codes "end " ++ (end_word names ending ++ (10 ∷ [])))

  one_rest : (format : Format) (log other : List Event) (ending another : Ending) (n : ℕ) (before : Before) →
      Each (EventFits program) log → Each (EventFits program) other →
      EndingFits program ending → EndingFits program another → CountsActions n log → CountsActions n other →
      IsSmall format (length before.tree + length (rest_lines format before log ending)) →
      rest_lines format before log ending ≡ rest_lines format before other another → (log ≡ other) × (ending ≡ another)
  one_rest format [] [] e f n before a b c d k l small h = let one = one_end program fits named e f [] [] c d (ap (drop 4) h) in (refl, one.0)
  one_rest format [] (y ∷ other) e f n before a b c d k l small h =
      absurd (no_end format before.tree y (10 ∷ (point_text format (behind names before y) y ++ rest_lines format (behind names before y) other f))
      (end_word names e ++ (10 ∷ []))
      (sym (h ∙ more_parts format before y other f ∙ event_parts names format before y (rest_lines format (behind names before y) other f))))
  one_rest format (x ∷ log) [] e f n before a b c d k l small h =
      absurd (no_end format before.tree x (10 ∷ (point_text format (behind names before x) x ++ rest_lines format (behind names before x) log e))
      (end_word names f ++ (10 ∷ []))
      (sym (more_parts format before x log e ∙ event_parts names format before x (rest_lines format (behind names before x) log e)) ∙ h))
  one_rest format (x ∷ log) (y ∷ other) e f n before a b c d k l small h =
      let mine = rest_lines format (behind names before x) log e in
      let yours = rest_lines format (behind names before y) other f in
      let one =
      one_format_line format before.tree x y n (point_text format (behind names before x) x ++ mine) (point_text format (behind names before y) y ++ yours)
      (smaller format (length before.tree) (length before.tree + length (rest_lines format before (x ∷ log) e)) (omega arith) small) a.0 b.0
      (sym (more_parts format before x log e ∙ event_parts names format before x mine) ∙ h ∙ more_parts format before y other f
      ∙ event_parts names format before y yours) in
      let same : x ≡ y = renumbered_so n x log k ∙ one.0 ∙ sym (renumbered_so n y other l) in
      let left_over : mine ≡ rest_lines format (behind names before x) other f =
      append_cancel_left (point_text format (behind names before x) x) mine (rest_lines format (behind names before x) other f)
      (one.1 ∙ ap (λ z. point_text format (behind names before z) z ++ rest_lines format (behind names before z) other f) (sym same)) in
      let rest =
      one_rest format log other e f (counted_behind n x) (behind names before x) a.1 b.1 c d (counts_behind n x log k)
      (subst (λ z. CountsActions (counted_behind n z) other) (sym same) (counts_behind n y other l))
      (small_behind names format before x mine (subst (λ z. IsSmall format (length before.tree + length z)) (more_parts format before x log e) small))
      left_over in
      (ap (λ z. z ∷ log) same ∙ ap (λ z. y ∷ z) rest.0, rest.1)

  trace_parts : (h l w e n : List ℕ) → h ++ l ++ w ++ e ++ n ≡ h ++ (l ++ (w ++ (e ++ n)))
  trace_parts h l w e n = simp append_assoc

  whole : (format : Format) (log : List Event) (ending : Ending) →
      trace_bytes names format log ending ≡ first_line format ++ rest_lines format nothing_before log ending
  whole format log ending =
      trace_parts (first_line format) (log_text names format nothing_before log) (codes "end ") (end_word names ending) (codes "\n")

-- a text tells its format
pub one_format : (format form : Format) (r s : List ℕ) → first_line format ++ r ≡ first_line form ++ s → format ≡ form
one_format One One r s h = refl
one_format One Two r s h = absurd (omega (arith, ap (λ z. three (drop 11 z)) h))
one_format Two One r s h = absurd (omega (arith, ap (λ z. three (drop 11 z)) h))
one_format Two Two r s h = refl

short_rest : (program : Program) (fits : FitsData program.theory) (named : AreNamed program) (format : Format) (log : List Event) (ending : Ending) →
    IsShort format (trace_bytes (names_in program) format log ending) →
    IsSmall format (length (rest_lines program fits named format nothing_before log ending))
short_rest program fits named One log ending h = tt
short_rest program fits named Two log ending h =
    let k = ap length (whole program fits named Two log ending) in
    let l = length-append (first_line Two) (rest_lines program fits named Two nothing_before log ending) in
    omega (arith, h, k, l)

pub one_trace : OneTrace
one_trace program fits named format form log other ending another a b short h =
    let e : format ≡ form =
    one_format format form (rest_lines program fits named format nothing_before log ending) (rest_lines program fits named form nothing_before other another)
    (sym (whole program fits named format log ending) ∙ h ∙ whole program fits named form other another) in
    let same : trace_bytes (names_in program) format log ending ≡ trace_bytes (names_in program) format other another =
    h ∙ ap (λ f. trace_bytes (names_in program) f other another) (sym e) in
    let one =
    one_rest program fits named format log other ending another 0 nothing_before a.events b.events a.last b.last a.counted b.counted
    (smaller format (0 + length (rest_lines program fits named format nothing_before log ending))
    (length (rest_lines program fits named format nothing_before log ending)) (omega arith) (short_rest program fits named format log ending short))
    (append_cancel_left (first_line format) (rest_lines program fits named format nothing_before log ending)
    (rest_lines program fits named format nothing_before other another)
    (sym (whole program fits named format log ending) ∙ same ∙ whole program fits named format other another)) in
    (e, one.0, one.1)
