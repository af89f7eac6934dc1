-- Which line of a text is the first bad one, when some lines of it were read.
use Rattle.std.proofs.Common.{ℕ, ◌≡◌, ◌≢◌, ◌⊎◌, inl, inr, ◌+◌, ◌<◌, ◌≤◌, ◌^◌, ◌==◌, Bool, true, false, not, if◌then◌else◌, List, [], ◌∷◌, ◌++◌, codes, length, drop}
use Rattle.std.proofs.Common.{refl, sym, ap, subst, ◌∙◌, arith, append_assoc, length-append, flat_map}
use Rattle.std.proofs.lemmas.Bool.{eqb-true}
use Rattle.std.proofs.lemmas.List.{append-nil, append_cancel_left}
use Rattle.spec_core.specs.Code.{Program}
use Rattle.spec_core.specs.Lists.{Each}
use Rattle.spec_core.specs.Ready.{AreNamed}
use Rattle.spec_core.specs.Sorts.{FitsData}
use Rattle.spec_core.proofs.Lists.{each_push}
use Rattle.rule_model.specs.Answers.{Answer, taken, deadlock, stalls, beyond, not_now, ended, spent, too_large, limit}
use Rattle.rule_model.specs.Events.{Event, pended, acted, replied, stalled, left, Ending, exits}
use Rattle.trace_text.specs.declared.format.Format.{Format}
use Rattle.trace_text.specs.declared.format.Format.TheVariants.{One, Two}
use Rattle.trace_text.specs.Fits.{EventFits, EndingFits, CountsActions, HasTrace}
use Rattle.trace_text.specs.Formats.{Before, behind, behind_log, event_text, first_line, format_line, is_at_point, line_number, log_text, nothing_before}
use Rattle.trace_text.specs.Formats.{point_line, point_text, points_behind, trace_bytes}
use Rattle.trace_text.specs.Names.{names_in}
use Rattle.trace_text.specs.Trace.{Names, answer_word, end_word, event_line, name_text}
use Rattle.trace_text.proofs.Logs.{behind_push, text_push}
use Rattle.trace_text.proofs.OneEvent.{numbered, one_event, renumbered}
use Rattle.trace_text.proofs.OneFormat.{IsSmall, event_parts, no_end, one_format, one_format_line, small_behind, smaller}
use Rattle.value_text.proofs.Runs.{one_run}
use Rattle.trace_reader.specs.Entries.{IsNumbered}
use Rattle.trace_reader.specs.LineSays.{IsNoEnd, IsNoLine, IsOnlyEntry}
use Rattle.trace_reader.specs.Lines.{IsOneLine, is_no_line_feed, lines_text}
use Rattle.trace_reader.specs.Reaching.{IsCut}
use Rattle.trace_reader.specs.Reading.{HasRead}
use Rattle.trace_reader.specs.Traces.{GoesOn, IsBadBehind, bad_line, ends_early, IsFirstBad, IsTrace, trace_limit}
use Rattle.trace_reader.proofs.Lines.{actions_few, format_so, lines_long, offers_few, point_line_so, small_log, taken_few, texts, texts_length, texts_one, texts_so}
use Rattle.trace_reader.proofs.OneLine.{end_so}

-- a text up to its first LF
pub record IsSplit (text : List ℕ) : Type 0 where
  pub head : List ℕ
  pub rest : List ℕ
  pub one : IsOneLine head
  pub parts : text ≡ head ++ (10 ∷ rest)

split_next : (b : ℕ) (text : List ℕ) (c : Bool) → (b == 10) ≡ c → IsOneLine text ⊎ IsSplit text → IsOneLine (b ∷ text) ⊎ IsSplit (b ∷ text)
split_next b text true e h = inr (record { head = []; rest = text; one = tt; parts = ap (λ z. z ∷ text) (eqb-true b 10 e) })
split_next b text false e (inl one) = inl (ap not e, one)
split_next b text false e (inr k) =
    inr (record { head = b ∷ k.head; rest = k.rest; one = (ap not e, k.one); parts = ap (λ z. b ∷ z) k.parts })

pub split : (text : List ℕ) → IsOneLine text ⊎ IsSplit text
split [] = inl tt
split (b ∷ text) = split_next b text (b == 10) refl (split text)

pub one_end : (x y r s : List ℕ) → IsOneLine x → IsOneLine y → x ++ (10 ∷ r) ≡ y ++ (10 ∷ s) → (x ≡ y) × (r ≡ s)
one_end x y r s a b e = let k = one_run is_no_line_feed x y (10 ∷ r) (10 ∷ s) a b refl refl e in (k.0, ap (drop 1) k.1)

pub no_line_inside : (x r : List ℕ) → IsOneLine (x ++ (10 ∷ r)) → ⊥
no_line_inside [] r h = let wrong : false ≡ true = h.0 in cc
no_line_inside (b ∷ x) r h = no_line_inside x r h.1

flat_put : {X : Type 0} (f : X → List ℕ) (xs : List X) (x : X) → flat_map f (xs ++ x ∷ []) ≡ flat_map f xs ++ f x
flat_put f [] x = append-nil (f x)
flat_put f (y ∷ xs) x = ap (λ l. f y ++ l) (flat_put f xs x) ∙ sym (append_assoc (f y) (flat_map f xs) (f x))

-- the first line of a trace without its LF
abbrev heading : Format → List ℕ
heading One = codes "lotos-trace 1"
heading Two = codes "lotos-trace 2"

heading_is : (format : Format) → heading format ++ codes "\n" ≡ first_line format
heading_is One = refl
heading_is Two = refl

heading_one : (format : Format) → IsOneLine (heading format)
heading_one One = (refl, (refl, (refl, (refl, (refl, (refl, (refl, (refl, (refl, (refl, (refl, (refl, (refl, tt)))))))))))))
heading_one Two = (refl, (refl, (refl, (refl, (refl, (refl, (refl, (refl, (refl, (refl, (refl, (refl, (refl, tt)))))))))))))

-- one more entry, and the actions behind it
counted_so : (names : Names) (before : Before) (e : Event) (later : List Event) → IsNumbered before.actions e →
    CountsActions (behind names before e).actions later → CountsActions before.actions (e ∷ later)
counted_so names before (replied client number answer) later h k = (h, k)
counted_so names before (pended client number offer ask) later h k = k
counted_so names before (acted action d by) later h k = k
counted_so names before (stalled all) later h k = k
counted_so names before (left client) later h k = k

-- the number in a reply is of no account
same_behind : (names : Names) (before : Before) (n : ℕ) (x : Event) → behind names before (renumbered n x) ≡ behind names before x
same_behind names before n (replied client number answer) = refl
same_behind names before n (pended client number offer ask) = refl
same_behind names before n (acted action d by) = refl
same_behind names before n (stalled all) = refl
same_behind names before n (left client) = refl

same_point : (format : Format) (before : Before) (n : ℕ) (x : Event) → point_text format before (renumbered n x) ≡ point_text format before x
same_point One before n x = refl
same_point Two before n (replied client number answer) = refl
same_point Two before n (pended client number offer ask) = refl
same_point Two before n (acted action d by) = refl
same_point Two before n (stalled all) = refl
same_point Two before n (left client) = refl

-- the text of an entry doesn't tell the number in a reply
same_word : (names : Names) (n : ℕ) (a : Answer) → answer_word names (numbered n a) ≡ answer_word names a
same_word names n (taken at values) = refl
same_word names n (deadlock at) = refl
same_word names n (stalls at) = refl
same_word names n (beyond at d) = refl
same_word names n (not_now at) = refl
same_word names n (ended at) = refl
same_word names n (spent at term) = refl
same_word names n (too_large at term) = refl
same_word names n (limit at kind) = refl

same_line : (names : Names) (format : Format) (tree : List ℕ) (n : ℕ) (x : Event) →
    format_line names format tree (renumbered n x) ≡ format_line names format tree x
same_line names format tree n (replied client number answer) = ap (λ w. codes "reply " ++ name_text (client, number) ++ codes " " ++ w) (same_word names n answer)
same_line names format tree n (pended client number offer ask) = refl
same_line names format tree n (acted action d by) = refl
same_line names format tree n (stalled all) = refl
same_line names format tree n (left client) = refl

pub nothing_read : (program : Program) (format : Format) (lines : List ℕ) → HasRead program format (first_line format ++ lines) [] lines
nothing_read program format lines = record { fits = tt; counts = λ later h. h; whole = refl }

-- a point's line, behind the line of an action
point_cut : (c : Bool) (l head rest more later : List ℕ) → IsOneLine l → IsOneLine head →
    head ++ (10 ∷ more) ≡ (if c then l ++ codes "\n" else []) ++ later →
    (k : List ℕ) × (head ++ (10 ∷ rest) ≡ (if c then l ++ codes "\n" else []) ++ k)
point_cut true l head rest more later a b e =
    let same = one_end head l more later b a (e ∙ append_assoc l (codes "\n") later) in
    (rest, ap (λ z. z ++ (10 ∷ rest)) same.0 ∙ sym (append_assoc l (codes "\n") rest))
point_cut false l head rest more later a b e = (head ++ (10 ∷ rest), refl)

point_cut_text : (names : Names) (format : Format) (before : Before) (x : Event) (head rest more later : List ℕ) →
    before.actions + 1 < 2 ^ 64 → length before.offers + 1 < 2 ^ 64 → IsOneLine head →
    head ++ (10 ∷ more) ≡ point_text format (behind names before x) x ++ later →
    (k : List ℕ) × (head ++ (10 ∷ rest) ≡ point_text format (behind names before x) x ++ k)
point_cut_text names Two before (acted action d by) head rest more later a b one e =
    let l = taken_few by before.offers in
    point_cut (is_at_point (before.actions + 1)) (point_line (behind names before (acted action d by))) head rest more later
    (point_line_so (behind names before (acted action d by)) a (omega (arith, b, l))) one e
point_cut_text names One before x head rest more later a b one e = (head ++ (10 ∷ rest), refl)
point_cut_text names Two before (pended client number offer ask) head rest more later a b one e = (head ++ (10 ∷ rest), refl)
point_cut_text names Two before (replied client number answer) head rest more later a b one e = (head ++ (10 ∷ rest), refl)
point_cut_text names Two before (stalled all) head rest more later a b one e = (head ++ (10 ∷ rest), refl)
point_cut_text names Two before (left client) head rest more later a b one e = (head ++ (10 ∷ rest), refl)

module _ (program : Program) (format : Format) where
  abbrev names : Names
  names = names_in program

  -- the lines behind those of a log
  abbrev later_lines : Before → List Event → Ending → List ℕ
  later_lines before log ending = log_text names format before log ++ ((codes "end " ++ end_word names ending) ++ (10 ∷ []))

  whole_parts : (h l w e n : List ℕ) → h ++ l ++ w ++ e ++ n ≡ h ++ (l ++ ((w ++ e) ++ n))
  whole_parts h l w e n = simp append_assoc

  whole : (log : List Event) (ending : Ending) → trace_bytes names format log ending ≡ first_line format ++ later_lines nothing_before log ending
  whole log ending = whole_parts (first_line format) (log_text names format nothing_before log) (codes "end ") (end_word names ending) (codes "\n")

  later_parts : (before : Before) (x : Event) (log : List Event) (ending : Ending) → later_lines before (x ∷ log) ending ≡
      format_line names format before.tree x ++ (10 ∷ (point_text format (behind names before x) x ++ later_lines (behind names before x) log ending))
  later_parts before x log ending =
      append_assoc (event_text names format before x) (log_text names format (behind names before x) log)
      ((codes "end " ++ end_word names ending) ++ (10 ∷ []))
      ∙ event_parts names format before x (later_lines (behind names before x) log ending)

  more_parts : (before : Before) (x : Event) (log : List Event) (more : List ℕ) → log_text names format before (x ∷ log) ++ more ≡
      format_line names format before.tree x ++ (10 ∷ (point_text format (behind names before x) x ++ (log_text names format (behind names before x) log ++ more)))
  more_parts before x log more =
      append_assoc (event_text names format before x) (log_text names format (behind names before x) log) more
      ∙ event_parts names format before x (log_text names format (behind names before x) log ++ more)

  -- the lines that were read, form a list of lines
  abbrev all_texts : List Event → List (List ℕ)
  all_texts log = heading format ∷ texts names format nothing_before log

  all_so : (log : List Event) → lines_text (all_texts log) ≡ first_line format ++ log_text names format nothing_before log
  all_so log = ap (λ l. l ++ lines_text (texts names format nothing_before log)) (heading_is format)
      ∙ ap (λ l. first_line format ++ l) (texts_so names format nothing_before log)

  all_length : (log : List Event) → line_number format (length log) (behind_log names nothing_before log).actions ≡ length (all_texts log) + 1
  all_length log = go format (texts_length names format nothing_before log)
    where
      go : (f : Format) → length (texts names format nothing_before log) + points_behind f 0 ≡
          length log + points_behind f (behind_log names nothing_before log).actions →
          line_number f (length log) (behind_log names nothing_before log).actions ≡ length (all_texts log) + 1
      go One k = omega (arith, k)
      go Two k = omega (arith, k)

  log_short : (text : List ℕ) (log : List Event) (rest : List ℕ) → HasRead program format text log rest →
      length (log_text names format nothing_before log) ≤ length text
  log_short text log rest h =
      let m = length-append (first_line format) (log_text names format nothing_before log ++ rest) in
      let n = length-append (log_text names format nothing_before log) rest in
      let w = ap length h.whole in
      omega (arith, w, m, n)

  pub few_entries : (text : List ℕ) (log : List Event) (rest : List ℕ) → HasRead program format text log rest → length log + 13 ≤ length text
  few_entries text log rest h =
      let k = lines_long names format nothing_before log in
      let m = length-append (first_line format) (log_text names format nothing_before log ++ rest) in
      let n = length-append (log_text names format nothing_before log) rest in
      let w = ap length h.whole in
      let f = first_long format in
      omega (arith, k, w, m, n, f)
    where
      first_long : (f : Format) → 13 ≤ length (first_line f)
      first_long One = omega arith
      first_long Two = omega arith

  pub few_actions : (log : List Event) → (behind_log names nothing_before log).actions ≤ length log
  few_actions log = let k = actions_few names nothing_before log in omega (arith, k)

  -- numbers of lines are small
  pub number_small : (text : List ℕ) (log : List Event) (rest : List ℕ) → HasRead program format text log rest → length text ≤ trace_limit →
      line_number format (length log) (behind_log names nothing_before log).actions + 1 < 2 ^ 32
  number_small text log rest h short =
      let k = few_entries text log rest h in
      let l = few_actions log in
      go format (behind_log names nothing_before log).actions (length log) (omega (arith, k, short)) l
    where
      go : (f : Format) (a n : ℕ) → n < 2 ^ 27 → a ≤ n → line_number f n a + 1 < 2 ^ 32
      go One a n h k = omega (arith, h)
      go Two a n h k = omega (arith, h, k)

  read_parts : (f l e r : List ℕ) → f ++ (l ++ (e ++ r)) ≡ f ++ ((l ++ e) ++ r)
  read_parts f l e r = ap (λ z. f ++ z) (sym (append_assoc l e r))

  -- one more entry
  pub read_next : (text : List ℕ) (log : List Event) (rest further : List ℕ) (e : Event) →
      HasRead program format text log rest → EventFits program e → IsNumbered (behind_log names nothing_before log).actions e →
      rest ≡ event_text names format (behind_log names nothing_before log) e ++ further → HasRead program format text (log ++ e ∷ []) further
  read_next text log rest further e h fits numbered is = record {
    fits = each_push (EventFits program) log e h.fits fits;
    counts = λ later k.
        subst (CountsActions 0) (sym (append_assoc log (e ∷ []) later))
        (h.counts (e ∷ later) (counted_so names (behind_log names nothing_before log) e later numbered
        (subst (λ b. CountsActions b.actions later) (behind_push names nothing_before log e) k)));
    whole =
        h.whole ∙ ap (λ l. first_line format ++ (log_text names format nothing_before log ++ l)) is
        ∙ read_parts (first_line format) (log_text names format nothing_before log)
        (event_text names format (behind_log names nothing_before log) e) further
        ∙ ap (λ l. first_line format ++ (l ++ further)) (sym (text_push names format nothing_before log e));
  }

  module _ (fits : FitsData program.theory) (named : AreNamed program) where
    -- what is left of the lines of a trace behind those of a log
    record IsLater (before : Before) (ending : Ending) (more : List ℕ) : Type 0 where
      pub later : List Event
      pub fit : Each (EventFits program) later
      pub left_over : more ≡ later_lines before later ending

    ahead : (before : Before) (log other : List Event) (ending : Ending) (more : List ℕ) → Each (EventFits program) log →
        Each (EventFits program) other → IsSmall format (length before.tree + length (log_text names format before log)) →
        later_lines before other ending ≡ log_text names format before log ++ more → IsLater (behind_log names before log) ending more
    ahead before [] other ending more a b small e = record { later = other; fit = b; left_over = sym e }
    ahead before (x ∷ log) [] ending more a b small e =
        absurd (no_end program fits named format before.tree x
        (10 ∷ (point_text format (behind names before x) x ++ (log_text names format (behind names before x) log ++ more)))
        (end_word names ending ++ (10 ∷ []))
        (sym (more_parts before x log more) ∙ sym e ∙ append_assoc (codes "end ") (end_word names ending) (10 ∷ [])))
    ahead before (x ∷ log) (y ∷ other) ending more a b small e =
        let mine = log_text names format (behind names before x) log ++ more in
        let k =
        one_format_line program fits named format before.tree y x 0
        (point_text format (behind names before y) y ++ later_lines (behind names before y) other ending)
        (point_text format (behind names before x) x ++ mine)
        (smaller format (length before.tree) (length before.tree + length (log_text names format before (x ∷ log))) (omega arith) small) b.0 a.0
        (sym (later_parts before y other ending) ∙ e ∙ more_parts before x log more) in
        let place : behind names before y ≡ behind names before x =
        sym (same_behind names before 0 y) ∙ ap (behind names before) k.0 ∙ same_behind names before 0 x in
        let point : point_text format (behind names before y) y ≡ point_text format (behind names before x) x =
        ap (λ z. point_text format z y) place ∙ sym (same_point format (behind names before x) 0 y)
        ∙ ap (point_text format (behind names before x)) k.0 ∙ same_point format (behind names before x) 0 x in
        ahead (behind names before x) log other ending more a.1 b.1
        (small_behind names format before x (log_text names format (behind names before x) log) small)
        (append_cancel_left (point_text format (behind names before x) x) (later_lines (behind names before x) other ending) mine
        (ap (λ z. z ++ later_lines (behind names before x) other ending) (sym point)
        ∙ ap (λ z. point_text format (behind names before y) y ++ later_lines z other ending) (sym place) ∙ k.1))

    -- the next line is that of an entry, or the last one
    no_next : (before : Before) (here rest : List ℕ) (later : List Event) (ending : Ending) → IsSmall format (length before.tree) →
        IsOneLine here → IsNoLine program format before.tree here → Each (EventFits program) later → EndingFits program ending →
        here ++ (10 ∷ rest) ≡ later_lines before later ending → ⊥
    no_next before here rest [] ending small one none fit last e =
        none.1 ending last (one_end here (codes "end " ++ end_word names ending) rest [] one (end_so program fits named ending last) e).0
    no_next before here rest (x ∷ later) ending small one none fit last e =
        none.0 x fit.0 (one_end here (format_line names format before.tree x) rest
        (point_text format (behind names before x) x ++ later_lines (behind names before x) later ending) one
        (format_so program fits named format before.tree x small fit.0) (e ∙ later_parts before x later ending)).0

    -- a line ends in what is left
    no_more : (before : Before) (later : List Event) (ending : Ending) → IsOneLine (later_lines before later ending) → ⊥
    no_more before [] ending h = no_line_inside (codes "end " ++ end_word names ending) [] h
    no_more before (x ∷ later) ending h =
        no_line_inside (format_line names format before.tree x)
        (point_text format (behind names before x) x ++ later_lines (behind names before x) later ending)
        (subst IsOneLine (later_parts before x later ending) h)

    -- behind the last line nothing is left
    none_behind : (before : Before) (rest : List ℕ) (last : Ending) (later : List Event) (ending : Ending) → Each (EventFits program) later →
        EndingFits program last → EndingFits program ending →
        (codes "end " ++ end_word names last) ++ (10 ∷ rest) ≡ later_lines before later ending → rest ≡ []
    none_behind before rest last [] ending fit a b e =
        (one_end (codes "end " ++ end_word names last) (codes "end " ++ end_word names ending) rest [] (end_so program fits named last a)
        (end_so program fits named ending b) e).1
    none_behind before rest last (x ∷ later) ending fit a b e =
        absurd (no_end program fits named format before.tree x
        (10 ∷ (point_text format (behind names before x) x ++ later_lines (behind names before x) later ending))
        (end_word names last ++ (10 ∷ rest))
        (sym (later_parts before x later ending) ∙ sym e ∙ append_assoc (codes "end ") (end_word names last) (10 ∷ rest)))

    -- behind the line of an entry stands its point
    point_next : (before : Before) (x : Event) (rest : List ℕ) (later : List Event) (ending : Ending) → IsSmall format (length before.tree) →
        EventFits program x → Each (EventFits program) later → EndingFits program ending →
        format_line names format before.tree x ++ (10 ∷ rest) ≡ later_lines before later ending →
        (more : List Event) × (rest ≡ point_text format (behind names before x) x ++ later_lines (behind names before x) more ending)
    point_next before x rest [] ending small fit fits_later last e =
        absurd (no_end program fits named format before.tree x (10 ∷ rest) (end_word names ending ++ (10 ∷ []))
        (e ∙ append_assoc (codes "end ") (end_word names ending) (10 ∷ [])))
    point_next before x rest (y ∷ later) ending small fit fits_later last e =
        let k =
        one_format_line program fits named format before.tree x y 0 rest
        (point_text format (behind names before y) y ++ later_lines (behind names before y) later ending) small fit fits_later.0
        (e ∙ later_parts before y later ending) in
        let place : behind names before y ≡ behind names before x =
        sym (same_behind names before 0 y) ∙ ap (behind names before) (sym k.0) ∙ same_behind names before 0 x in
        let point : point_text format (behind names before y) y ≡ point_text format (behind names before x) x =
        ap (λ z. point_text format z y) place ∙ sym (same_point format (behind names before x) 0 y)
        ∙ ap (point_text format (behind names before x)) (sym k.0) ∙ same_point format (behind names before x) 0 x in (
          later,
          k.1 ∙ ap (λ z. z ++ later_lines (behind names before y) later ending) point
              ∙ ap (λ z. point_text format (behind names before x) x ++ later_lines z later ending) place,
        )

    -- the line isn't that of the one entry that may have it
    pub no_line : (tree here : List ℕ) (e : Event) → EventFits program e → IsOnlyEntry program format tree here e → IsNoEnd here →
        (here ≡ format_line names format tree e → ⊥) → IsNoLine program format tree here
    no_line tree here e fit only no_end none = (
      λ x fit_x is.
          let same = (one_event program fits named e x 0 [] [] fit fit_x (ap (λ z. z ++ codes "\n") (only x fit_x is))).0 in
          none (is ∙ sym (same_line names format tree 0 x) ∙ ap (format_line names format tree) (sym same) ∙ same_line names format tree 0 e),
      λ ending fit_end is. no_end (end_word names ending) is,
    )

    -- a trace that begins with the first line and the lines of the log
    begun : (form : Format) (log : List Event) (ending : Ending) (more : List ℕ) → trace_bytes names form log ending ≡ first_line format ++ more →
        later_lines nothing_before log ending ≡ more
    begun form log ending more e =
        let same : form ≡ format = one_format form format (later_of form) more (whole_of form ∙ e) in
        append_cancel_left (first_line format) (later_lines nothing_before log ending) more
        (sym (whole log ending) ∙ ap (λ f. trace_bytes names f log ending) (sym same) ∙ e)
      where
        later_of : Format → List ℕ
        later_of f = log_text names f nothing_before log ++ ((codes "end " ++ end_word names ending) ++ (10 ∷ []))

        whole_of : (f : Format) → first_line f ++ later_of f ≡ trace_bytes names f log ending
        whole_of f =
            sym (whole_parts (first_line f) (log_text names f nothing_before log) (codes "end ") (end_word names ending) (codes "\n"))

    module _ (text : List ℕ) (log : List Event) (rest : List ℕ) (h : HasRead program format text log rest) (short : length text ≤ trace_limit) where
      abbrev place : Before
      place = behind_log names nothing_before log

      abbrev number : ℕ
      number = line_number format (length log) place.actions

      small : IsSmall format (length (log_text names format nothing_before log))
      small = go format (let k = log_short text log rest h in omega (arith, k, short))
        where
          go : (f : Format) → length (log_text names format nothing_before log) < 2 ^ 64 → IsSmall f (length (log_text names format nothing_before log))
          go One k = tt
          go Two k = k

      pub small_here : IsSmall format (length place.tree)
      small_here = small_log names format nothing_before log small_start
        where
          small_start : IsSmall format (0 + length (log_text names format nothing_before log))
          small_start = smaller format (0 + length (log_text names format nothing_before log)) (length (log_text names format nothing_before log)) (omega arith) small

      small_from : IsSmall format (length nothing_before.tree + length (log_text names format nothing_before log))
      small_from = smaller format (0 + length (log_text names format nothing_before log)) (length (log_text names format nothing_before log)) (omega arith) small

      counted : CountsActions 0 log
      counted = subst (CountsActions 0) (append-nil log) (h.counts [] tt)

      lines_one : Each IsOneLine (all_texts log)
      lines_one =
          let k = few_entries text log rest h in
          (heading_one format, texts_one program fits named format nothing_before log h.fits small_from (omega (arith, k, short)) (omega (arith, k, short)))

      parts_so : text ≡ lines_text (all_texts log) ++ rest
      parts_so = h.whole ∙ sym (append_assoc (first_line format) (log_text names format nothing_before log) rest) ∙ ap (λ l. l ++ rest) (sym (all_so log))

      goes : GoesOn program (lines_text (all_texts log))
      goes = record {
        format = format;
        log = log;
        ending = exits;
        behind = codes "end exit\n";
        has = record { events = h.fits; last = tt; counted = counted };
        begins =
            whole log exits ∙ sym (append_assoc (first_line format) (log_text names format nothing_before log) (codes "end exit\n"))
            ∙ ap (λ l. l ++ codes "end exit\n") (sym (all_so log));
      }

      first_bad : IsBadBehind program text (lines_text (all_texts log)) rest → IsFirstBad program text number
      first_bad bad = record {
        before = all_texts log;
        after = rest;
        parts = parts_so;
        lines = lines_one;
        counted = all_length log;
        goes_on = goes;
        bad = bad;
      }

      further_parts : (f g r s : List ℕ) → ((f ++ g) ++ r) ++ s ≡ f ++ (g ++ (r ++ s))
      further_parts f g r s = simp append_assoc

      -- the next line is bad
      pub bad_next : (here behind : List ℕ) → rest ≡ here ++ (10 ∷ behind) → IsOneLine here → IsNoLine program format place.tree here →
          IsFirstBad program text number
      bad_next here behind parts one none =
          first_bad (bad_line here behind parts one (λ g.
          let begins : trace_bytes names g.format g.log g.ending ≡
          first_line format ++ (log_text names format nothing_before log ++ ((here ++ codes "\n") ++ g.behind)) =
          g.begins ∙ ap (λ l. (l ++ (here ++ codes "\n")) ++ g.behind) (all_so log)
          ∙ further_parts (first_line format) (log_text names format nothing_before log) (here ++ codes "\n") g.behind in
          let k =
          ahead nothing_before log g.log g.ending ((here ++ codes "\n") ++ g.behind) h.fits g.has.events small_from
          (begun g.format g.log g.ending (log_text names format nothing_before log ++ ((here ++ codes "\n") ++ g.behind)) begins) in
          no_next place here g.behind k.later g.ending small_here one none k.fit g.has.last
          (sym (append_assoc here (codes "\n") g.behind) ∙ k.left_over)))

      -- there is no further line
      pub bad_early : IsOneLine rest → IsFirstBad program text number
      bad_early one =
          first_bad (ends_early one (λ form other ending t.
          let k =
          ahead nothing_before log other ending rest h.fits t.has.events small_from
          (begun form other ending (log_text names format nothing_before log ++ rest) (sym t.spelled ∙ h.whole)) in
          no_more place k.later ending (subst IsOneLine k.left_over one)))

      end_parts : (f g r s : List ℕ) → (f ++ (g ++ (r ++ codes "\n"))) ++ s ≡ f ++ (g ++ (r ++ (10 ∷ s)))
      end_parts f g r s = simp append_assoc

      -- the lines that were read, and one more
      abbrev further_texts : List ℕ → List (List ℕ)
      further_texts line = all_texts log ++ line ∷ []

      further_so : (line : List ℕ) → lines_text (further_texts line) ≡ first_line format ++ (log_text names format nothing_before log ++ (line ++ codes "\n"))
      further_so line =
          flat_put (λ l. l ++ codes "\n") (all_texts log) line ∙ ap (λ l. l ++ (line ++ codes "\n")) (all_so log)
          ∙ append_assoc (first_line format) (log_text names format nothing_before log) (line ++ codes "\n")

      further_length : (line : List ℕ) → number + 1 ≡ length (further_texts line) + 1
      further_length line = let k = all_length log in let m = length-append (all_texts log) (line ∷ []) in omega (arith, k, m)

      module _ (e : Event) (fit : EventFits program e) (numbered : IsNumbered place.actions e) (further : List ℕ)
          (parts : rest ≡ format_line names format place.tree e ++ (10 ∷ further)) (cut : IsCut program format place e rest) where
        abbrev own : List ℕ
        own = format_line names format place.tree e

        abbrev point : List ℕ
        point = point_text format (behind names place e) e

        -- the line's point doesn't stand behind it
        no_point : (k : List ℕ) → further ≡ point ++ k → ⊥
        no_point k is = cut k (parts ∙ ap (λ l. own ++ (10 ∷ l)) is ∙ sym (event_parts names format place e k))

        few_here : place.actions + 1 < 2 ^ 64
        few_here = let k = few_entries text log rest h in let l = few_actions log in omega (arith, k, l, short)

        few_offers : length place.offers + 1 < 2 ^ 64
        few_offers =
            let k = few_entries text log rest h in let l = offers_few names nothing_before log in omega (arith, k, l, short)

        -- a trace whose next line is that of the entry has its point behind
        has_point : (form : Format) (other : List Event) (ending : Ending) (more : List ℕ) → HasTrace program other ending →
            trace_bytes names form other ending ≡ first_line format ++ (log_text names format nothing_before log ++ (own ++ (10 ∷ more))) →
            (k : List ℕ) × (more ≡ point ++ k)
        has_point form other ending more has begins =
            let k =
            ahead nothing_before log other ending (own ++ (10 ∷ more)) h.fits has.events small_from
            (begun form other ending (log_text names format nothing_before log ++ (own ++ (10 ∷ more))) begins) in
            let l = point_next place e more k.later ending small_here fit k.fit has.last k.left_over in
            (later_lines (behind names place e) l.0 ending, l.1)

        cut_there : IsOneLine further ⊎ IsSplit further → IsBadBehind program text (lines_text (further_texts own)) further
        cut_there (inl one) = ends_early one (λ form other ending t.
            let k =
            has_point form other ending further t.has
            (sym t.spelled ∙ h.whole ∙ ap (λ l. first_line format ++ (log_text names format nothing_before log ++ l)) parts) in
            no_point k.0 k.1)
        cut_there (inr s) = bad_line s.head s.rest s.parts s.one (λ g.
            let begins : trace_bytes names g.format g.log g.ending ≡
            first_line format ++ (log_text names format nothing_before log ++ (own ++ (10 ∷ ((s.head ++ codes "\n") ++ g.behind)))) =
            g.begins ∙ append_assoc (lines_text (further_texts own)) (s.head ++ codes "\n") g.behind
            ∙ ap (λ l. l ++ ((s.head ++ codes "\n") ++ g.behind)) (further_so own)
            ∙ end_parts (first_line format) (log_text names format nothing_before log) own ((s.head ++ codes "\n") ++ g.behind) in
            let k = has_point g.format g.log g.ending ((s.head ++ codes "\n") ++ g.behind) g.has begins in
            let c =
            point_cut_text names format place e s.head s.rest g.behind k.0 few_here few_offers s.one
            (sym (append_assoc s.head (codes "\n") g.behind) ∙ k.1) in
            no_point c.0 (s.parts ∙ c.1))

        go_parts : (f l x p r : List ℕ) → f ++ ((l ++ (x ++ codes "\n" ++ p)) ++ r) ≡ (f ++ (l ++ (x ++ codes "\n"))) ++ (p ++ r)
        go_parts f l x p r = simp append_assoc

        -- the line is right, and the point behind it isn't there
        pub bad_point : IsFirstBad program text (number + 1)
        bad_point = record {
          before = further_texts own;
          after = further;
          parts =
              h.whole ∙ ap (λ l. first_line format ++ (log_text names format nothing_before log ++ l)) parts
              ∙ sym (end_parts (first_line format) (log_text names format nothing_before log) own further)
              ∙ ap (λ l. l ++ further) (sym (further_so own));
          lines = each_push IsOneLine (all_texts log) own lines_one (format_so program fits named format place.tree e small_here fit);
          counted = further_length own;
          goes_on = record {
            format = format;
            log = log ++ e ∷ [];
            ending = exits;
            behind = point ++ codes "end exit\n";
            has = record {
              events = each_push (EventFits program) log e h.fits fit;
              last = tt;
              counted = h.counts (e ∷ []) (counted_so names place e [] numbered tt);
            };
            begins =
                whole (log ++ e ∷ []) exits
                ∙ ap (λ l. first_line format ++ (l ++ codes "end exit\n")) (text_push names format nothing_before log e)
                ∙ go_parts (first_line format) (log_text names format nothing_before log) own point (codes "end exit\n")
                ∙ ap (λ l. l ++ (point ++ codes "end exit\n")) (sym (further_so own));
          };
          bad = cut_there (split further);
        }

      module _ (ending : Ending) (further : List ℕ) (last : EndingFits program ending)
          (parts : rest ≡ (codes "end " ++ end_word names ending) ++ (10 ∷ further)) where
        abbrev end_line : List ℕ
        end_line = codes "end " ++ end_word names ending

        has : HasTrace program log ending
        has = record { events = h.fits; last = last; counted = counted }

        -- nothing is behind the last line
        pub trace_read : further ≡ [] → IsTrace program text format log ending
        trace_read none = record {
          has = has;
          spelled =
              h.whole ∙ ap (λ l. first_line format ++ (log_text names format nothing_before log ++ l)) (parts ∙ ap (λ l. end_line ++ (10 ∷ l)) none)
              ∙ sym (whole log ending);
          short = short;
        }

        -- no trace goes on with anything behind its last line
        only_that : (form : Format) (other : List Event) (another : Ending) (more : List ℕ) → HasTrace program other another →
            trace_bytes names form other another ≡ first_line format ++ (log_text names format nothing_before log ++ (end_line ++ (10 ∷ more))) → more ≡ []
        only_that form other another more t e =
            let k =
            ahead nothing_before log other another (end_line ++ (10 ∷ more)) h.fits t.events small_from
            (begun form other another (log_text names format nothing_before log ++ (end_line ++ (10 ∷ more))) e) in
            none_behind place more ending k.later another k.fit last t.last k.left_over

        bad_there : (further ≡ [] → ⊥) → IsOneLine further ⊎ IsSplit further → IsBadBehind program text (lines_text (further_texts end_line)) further
        bad_there some (inl one) = ends_early one (λ form other another t.
            some (only_that form other another further t.has
            (sym t.spelled ∙ h.whole ∙ ap (λ l. first_line format ++ (log_text names format nothing_before log ++ l)) parts)))
        bad_there some (inr k) = bad_line k.head k.rest k.parts k.one (λ g.
            let begins : trace_bytes names g.format g.log g.ending ≡
            first_line format ++ (log_text names format nothing_before log ++ (end_line ++ (10 ∷ ((k.head ++ codes "\n") ++ g.behind)))) =
            g.begins ∙ append_assoc (lines_text (further_texts end_line)) (k.head ++ codes "\n") g.behind
            ∙ ap (λ l. l ++ ((k.head ++ codes "\n") ++ g.behind)) (further_so end_line)
            ∙ end_parts (first_line format) (log_text names format nothing_before log) end_line ((k.head ++ codes "\n") ++ g.behind) in
            let none = only_that g.format g.log g.ending ((k.head ++ codes "\n") ++ g.behind) g.has begins in
            let n = ap length none in
            let a = length-append (k.head ++ codes "\n") g.behind in
            let b = length-append k.head (codes "\n") in
            omega (arith, n, a, b))

        -- something is behind the last line
        pub bad_behind : (further ≡ [] → ⊥) → IsFirstBad program text (number + 1)
        bad_behind some = record {
          before = further_texts end_line;
          after = further;
          parts =
              h.whole ∙ ap (λ l. first_line format ++ (log_text names format nothing_before log ++ l)) parts
              ∙ sym (end_parts (first_line format) (log_text names format nothing_before log) end_line further)
              ∙ ap (λ l. l ++ further) (sym (further_so end_line));
          lines = each_push IsOneLine (all_texts log) end_line lines_one (end_so program fits named ending last);
          counted = further_length end_line;
          goes_on = record {
            format = format;
            log = log;
            ending = ending;
            behind = [];
            has = has;
            begins =
                whole log ending ∙ sym (further_so end_line) ∙ sym (append-nil (lines_text (further_texts end_line)));
          };
          bad = bad_there some (split further);
        }

module _ (program : Program) where
  -- the text doesn't begin with the first line of a trace
  bad_start : (text : List ℕ) → ((format : Format) (lines : List ℕ) → text ≢ first_line format ++ lines) → IsOneLine text ⊎ IsSplit text →
      IsBadBehind program text [] text
  bad_start text none (inl one) = ends_early one (λ form log ending t.
      none form (later_lines program form nothing_before log ending) (t.spelled ∙ whole program form log ending))
  bad_start text none (inr k) = bad_line k.head k.rest k.parts k.one (λ g.
      let begins : k.head ++ (10 ∷ g.behind) ≡ heading g.format ++ (10 ∷ later_lines program g.format nothing_before g.log g.ending) =
      sym (append_assoc k.head (codes "\n") g.behind) ∙ sym g.begins ∙ whole program g.format g.log g.ending
      ∙ ap (λ l. l ++ later_lines program g.format nothing_before g.log g.ending) (sym (heading_is g.format))
      ∙ append_assoc (heading g.format) (codes "\n") (later_lines program g.format nothing_before g.log g.ending) in
      let one = one_end k.head (heading g.format) g.behind (later_lines program g.format nothing_before g.log g.ending) k.one (heading_one g.format) begins in
      none g.format k.rest (k.parts ∙ ap (λ l. l ++ (10 ∷ k.rest)) one.0
      ∙ sym (append_assoc (heading g.format) (codes "\n") k.rest) ∙ ap (λ l. l ++ k.rest) (heading_is g.format)))

  pub bad_heading : (text : List ℕ) → ((format : Format) (lines : List ℕ) → text ≢ first_line format ++ lines) → IsFirstBad program text 1
  bad_heading text none = record {
    before = [];
    after = text;
    parts = refl;
    lines = tt;
    counted = refl;
    goes_on = record {
      format = One;
      log = [];
      ending = exits;
      behind = trace_bytes (names_in program) One [] exits;
      has = record { events = tt; last = tt; counted = tt };
      begins = refl;
    };
    bad = bad_start text none (split text);
  }
