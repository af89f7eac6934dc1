-- Steps of a simulation.
use Rattle.std.proofs.Common.{ℕ, suc, ◌+◌, ◌≡◌, ◌≤◌, ◌<◌, ◌==◌, inl, inr, List, [], ◌∷◌, ◌++◌, Option, Some, None, Result, Ok, Err, false, length, min, take, drop, refl, ap, sym, subst, ◌∙◌, arith, append_assoc, codes, length-drop}
use Rattle.std.specs.Prelude.{IfOk, IfErr, OnErr}
use Rattle.std.proofs.Math.ListN.{get_or}
use Rattle.std.proofs.Math.Seq.{take-suc}
use Rattle.std.proofs.lemmas.List.{append-nil, length-append, take-append-drop}
use Rattle.std.specs.Str.Lines.{strip_carriage_return}
use Rattle.spec_core.specs.Code.{Program}
use Rattle.lotos_outside.specs.Sink.{with_more, AppendsPrefix}
use Rattle.simulator.specs.declared.answer.SimAnswer.{SimAnswer}
use Rattle.simulator.specs.declared.answer.SimFault.{SimFault}
use Rattle.simulator.specs.Sims.{SimView, IsAnswerTo, ExplainsFault}
use Rattle.trace_text.specs.Names.{names_in}
use Rattle.command_lines.specs.Inputs.{Input, Gave, IsAtEnd, IsUnread}
use Rattle.command_lines.specs.Lines.{IsUnended, said}
use Rattle.command_lines.proofs.Written.{more_both, more_nothing, nothing_more, prefix_both}
use Rattle.command_sim.specs.declared.end.End.{End}
use Rattle.command_sim.specs.declared.end.End.TheVariants.{Done}
use Rattle.command_sim.specs.declared.end.End.TheVariants as ends
use Rattle.command_sim.specs.Simulations.{piece_size, Answers, AreTaken, Comes, HasFewBehind, IsAnswered, IsTaken, IsWritten, Reads, ReadsFront}
use Rattle.command_sim.specs.Simulations.{by_lines, by_limit, by_bytes, by_end, by_fault, by_last_line}
use Rattle.command_sim.specs.Steps.{CutAnswer, CutBytes, CutLast, CutLine, CutPiece, CutRead, HasFewer}
use Rattle.command_sim.specs.Steps.{TakesBytes, TookAnswer, TookBytes, TookLast, TookLine, TookPiece, TookRead, Wrote}
use Rattle.command_sim.specs.Texts.{HasAnswer, end_by, text_of}
use Rattle.command_sim.proofs.Simulating.{answers_last, front_both, front_line, front_nothing, one_unended, reads_both, reads_line, reads_nothing, taken_some}

comes_by : (old new : SimView) (line : List ℕ) (came : Result SimAnswer SimFault) → IfOk came (IsAnswerTo old new line) →
    IfErr came (ExplainsFault old new line) → Comes old new line came
comes_by old new line (Ok answer) h k = h
comes_by old new line (Err fault) h k = k

pub on_err : {T E : Type 0} (r : Result T E) (P : Type 0) → P → OnErr r P
on_err (Ok x) P h = tt
on_err (Err e) P h = h

pub next_byte : (bytes : List ℕ) (i : ℕ) → i < length bytes → take i bytes ++ get_or bytes i 0 ∷ [] ≡ take (i + 1) bytes
next_byte bytes i h =
    let one : suc i ≡ i + 1 = omega arith in
    sym (take-suc bytes i 0 h) ∙ ap (λ n. take n bytes) one

-- texts behind texts
pub wrote_both : (first second : List ℕ) (before between after : Option (List ℕ)) → Wrote first before between → Wrote second between after →
    Wrote (first ++ second) before after
wrote_both first second before between after e f = f ∙ ap (with_more second) e ∙ more_both first second before

pub wrote_nothing : (written : Option (List ℕ)) → Wrote [] written written
wrote_nothing written = sym (more_nothing written)

module _ (program : Program) where
  -- a line

  pub answered_by : (old new : SimView) (line : List ℕ) (came : Result SimAnswer SimFault) (text : List ℕ) (ending : Option End) →
      IfOk came (IsAnswerTo old new line) → IfErr came (ExplainsFault old new line) → HasAnswer came →
      text ≡ text_of (names_in program) came → ending ≡ end_by came → IsAnswered program old new line text ending
  answered_by old new line came text ending h k told e f =
      record { came = came; comes = comes_by old new line came h k; told = told; text_is = e; ending_is = f }

  pub took_empty : (s : SimView) (line : List ℕ) (written : Option (List ℕ)) → line ≡ [] → TookLine program s line written s written None
  took_empty s line written e =
      subst (λ l. TookLine program s l written s written None) (sym e) ([], (refl, refl, refl), wrote_nothing written)

  pub took_some : (old new : SimView) (line : List ℕ) (before after : Option (List ℕ)) (ending : Option End) → 0 < length line →
      TookAnswer program old line before new after ending → TookLine program old line before new after ending
  took_some old new line before after ending some (text, h, wrote) = (text, taken_some program old new line text ending some h, wrote)

  pub cut_some : (old : SimView) (line : List ℕ) (before after : Option (List ℕ)) → 0 < length line →
      CutAnswer program old line before after → CutLine program old line before after
  cut_some old line before after some (inl same) = inl same
  cut_some old line before after some (inr (new, text, ending, h, prefix)) =
      inr (new, text, ending, taken_some program old new line text ending some h, prefix)

  pub cut_prefix : (old new : SimView) (line text : List ℕ) (before after : Option (List ℕ)) (ending : Option End) →
      IsAnswered program old new line text ending → AppendsPrefix text before after → CutAnswer program old line before after
  cut_prefix old new line text before after ending h prefix = inr (new, text, ending, h, prefix)

  -- bytes

  pub cut_nothing : (old : SimView) (held bytes : List ℕ) (before after : Option (List ℕ)) → after ≡ before →
      CutBytes program old held bytes before after
  cut_nothing old held bytes before after same =
      (held ++ bytes, [], None, front_nothing program old (held ++ bytes), tt, nothing_more [] before after same)

  -- LF
  pub took_line_end : (old new : SimView) (held line left : List ℕ) (before after : Option (List ℕ)) (ending : Option End) → IsUnended held →
      line ≡ strip_carriage_return held → left ≡ [] → TookLine program old line before new after ending →
      TookBytes program old held (10 ∷ []) before new left after ending
  took_line_end old new held line left before after ending h is none (text, taken, wrote) =
      let took = subst (λ l. IsTaken program old new l text ending) is taken in
      subst (λ l. TookBytes program old held (10 ∷ []) before new l after ending) (sym none) (text, at_end ending took, wrote)
    where
      at_end : (e : Option End) → IsTaken program old new (strip_carriage_return held) text e →
          TakesBytes program old held (10 ∷ []) new [] text e
      at_end None k = reads_line program old new held text h k
      at_end (Some end) k = ([], front_line program old new held text (Some end) h k, omega arith)

  none_behind : (ending : Option End) → HasFewer ending [] (10 ∷ [])
  none_behind None = tt
  none_behind (Some end) = omega arith

  pub cut_line_end : (old : SimView) (held line : List ℕ) (before after : Option (List ℕ)) → IsUnended held →
      line ≡ strip_carriage_return held → CutLine program old line before after → CutBytes program old held (10 ∷ []) before after
  cut_line_end old held line before after h is (inl same) = cut_nothing old held (10 ∷ []) before after same
  cut_line_end old held line before after h is (inr (new, text, ending, taken, prefix)) = (
    [],
    text,
    ending,
    front_line program old new held text ending h (subst (λ l. IsTaken program old new l text ending) is taken),
    none_behind ending,
    prefix,
  )

  -- another byte
  pub took_byte : (old : SimView) (held left : List ℕ) (b : ℕ) (written : Option (List ℕ)) → IsUnended held → (b == 10) ≡ false →
      left ≡ held ++ b ∷ [] → TookBytes program old held (b ∷ []) written old left written None
  took_byte old held left b written h e is =
      subst (λ l. TookBytes program old held (b ∷ []) written old l written None) (sym is)
      ([], reads_nothing program old (held ++ b ∷ []) (one_unended program held b h e), wrote_nothing written)

  pub took_unended : (old new : SimView) (held bytes left : List ℕ) (before after : Option (List ℕ)) →
      TookBytes program old held bytes before new left after None → IsUnended left
  took_unended old new held bytes left before after (text, reads, wrote) = reads.unended

  -- bytes behind bytes

  fewer : (xs ys : List ℕ) (n : ℕ) → n < length ys → n < length (xs ++ ys)
  fewer xs ys n l = omega (arith, length-append xs ys, l)

  has_fewer : (ending : Option End) (behind bytes more : List ℕ) → HasFewer ending behind more → HasFewer ending behind (bytes ++ more)
  has_fewer None behind bytes more h = tt
  has_fewer (Some end) behind bytes more h = fewer bytes more (length behind) h

  front_behind : (old between : SimView) (held bytes more first second left behind : List ℕ) (ending : Option End) →
      Reads program old (held ++ bytes) first between left → ReadsFront program between (left ++ more) second ending behind →
      ReadsFront program old (held ++ (bytes ++ more)) (first ++ second) ending behind
  front_behind old between held bytes more first second left behind ending h k =
      subst (λ x. ReadsFront program old x (first ++ second) ending behind) (append_assoc held bytes more)
      (front_both program old between (held ++ bytes) more first second left behind ending h k)

  takes_both : (old between new : SimView) (held bytes more first second left rest : List ℕ) (ending : Option End) →
      Reads program old (held ++ bytes) first between left → TakesBytes program between left more new rest second ending →
      TakesBytes program old held (bytes ++ more) new rest (first ++ second) ending
  takes_both old between new held bytes more first second left rest None h k =
      subst (λ x. Reads program old x (first ++ second) new rest) (append_assoc held bytes more)
      (reads_both program old between new (held ++ bytes) more first second left rest h k)
  takes_both old between new held bytes more first second left rest (Some end) h (behind, k, few) = (
    behind,
    front_behind old between held bytes more first second left behind (Some end) h k,
    fewer bytes more (length behind) few,
  )

  pub took_both : (old between new : SimView) (held bytes more left rest : List ℕ) (before middle after : Option (List ℕ)) (ending : Option End) →
      TookBytes program old held bytes before between left middle None → TookBytes program between left more middle new rest after ending →
      TookBytes program old held (bytes ++ more) before new rest after ending
  took_both old between new held bytes more left rest before middle after ending (first, h, wrote) (second, k, wrote_more) = (
    first ++ second,
    takes_both old between new held bytes more first second left rest ending h k,
    wrote_both first second before middle after wrote wrote_more,
  )

  pub cut_both : (old between : SimView) (held bytes more left : List ℕ) (before middle after : Option (List ℕ)) →
      TookBytes program old held bytes before between left middle None → CutBytes program between left more middle after →
      CutBytes program old held (bytes ++ more) before after
  cut_both old between held bytes more left before middle after (first, h, wrote) (behind, second, ending, k, few, prefix) = (
    behind,
    first ++ second,
    ending,
    front_behind old between held bytes more first second left behind ending h k,
    has_fewer ending behind bytes more few,
    prefix_both first second before middle after wrote prefix,
  )

  -- bytes of which those behind the first ones weren't taken any more

  pub front_wider : (s : SimView) (h b m x : List ℕ) (e : Option End) (k : List ℕ) → ReadsFront program s (h ++ b) x e k →
      ReadsFront program s (h ++ (b ++ m)) x e (k ++ m)
  front_wider s h b m x e k r = record {
    front = r.front;
    parts = sym (append_assoc h b m) ∙ ap (λ l. l ++ m) r.parts ∙ append_assoc r.front k m;
    ended = r.ended;
    answered = r.answered;
  }

  pub wider : (xs ys zs : List ℕ) → length xs < length zs → length (xs ++ ys) < length (zs ++ ys)
  wider xs ys zs l = omega (arith, length-append xs ys, length-append zs ys, l)

  pub fewer_wider : (ending : Option End) (behind bytes more : List ℕ) → HasFewer ending behind bytes →
      HasFewer ending (behind ++ more) (bytes ++ more)
  fewer_wider None behind bytes more h = tt
  fewer_wider (Some end) behind bytes more h = wider behind more bytes h

  pub took_front : (old new : SimView) (held bytes more left : List ℕ) (before after : Option (List ℕ)) (end : End) →
      TookBytes program old held bytes before new left after (Some end) → TookBytes program old held (bytes ++ more) before new left after (Some end)
  took_front old new held bytes more left before after end (text, (behind, h, few), wrote) =
      (text, (behind ++ more, front_wider old held bytes more text (Some end) behind h, wider behind more bytes few), wrote)

  pub cut_front : (old : SimView) (held bytes more : List ℕ) (before after : Option (List ℕ)) →
      CutBytes program old held bytes before after → CutBytes program old held (bytes ++ more) before after
  cut_front old held bytes more before after (behind, text, ending, h, few, prefix) = (
    behind ++ more,
    text,
    ending,
    front_wider old held bytes more text ending behind h,
    fewer_wider ending behind bytes more few,
    prefix,
  )

  -- the last line

  pub last_ends : (old new : SimView) (held : List ℕ) (before after : Option (List ℕ)) (end : End) → IsUnended held →
      TookLine program old held before new after (Some end) → TookLast program old held before after end
  last_ends old new held before after end h (text, taken, wrote) = (text, wrote, inl (answers_last program old new held text (Some end) h taken))

  pub last_done : (old new : SimView) (held : List ℕ) (before after : Option (List ℕ)) → IsUnended held →
      TookLine program old held before new after None → TookLast program old held before after Done
  last_done old new held before after h (text, taken, wrote) = (text, wrote, inr (answers_last program old new held text None h taken, refl))

  pub last_cut : (old : SimView) (held : List ℕ) (before after : Option (List ℕ)) → IsUnended held →
      CutLine program old held before after → CutLast program old held before after
  last_cut old held before after h (inl same) = inl same
  last_cut old held before after h (inr (new, text, ending, taken, prefix)) =
      inr (text, ending, answers_last program old new held text ending h taken, prefix)

  -- bytes that were read, of which the first n are taken

  few_of : (ending : Option End) (behind bytes : List ℕ) → HasFewer ending behind bytes → length bytes ≤ piece_size → HasFewBehind ending behind
  few_of None behind bytes h few = tt
  few_of (Some end) behind bytes h few = omega (arith, h, few)

  module _ (old : SimView) (held bytes : List ℕ) (room n : ℕ) (within : n ≡ min (length bytes) room) (few : length bytes ≤ piece_size) where
    whole_bytes : take n bytes ++ drop n bytes ≡ bytes
    whole_bytes = take-append-drop n bytes

    taken_by : (behind text : List ℕ) (ending : Option End) → ReadsFront program old (held ++ take n bytes) text ending behind →
        HasFewer ending behind (take n bytes) → AreTaken program old held room bytes text ending
    taken_by behind text ending h fewer_behind =
        by_lines (behind ++ drop n bytes)
        (subst (λ x. ReadsFront program old (held ++ x) text ending (behind ++ drop n bytes)) whole_bytes
        (front_wider old held (take n bytes) (drop n bytes) text ending behind h))
        (omega (arith, length-append behind (drop n bytes), length-drop n bytes, within))
        (few_of ending (behind ++ drop n bytes) bytes
        (subst (λ x. HasFewer ending (behind ++ drop n bytes) x) whole_bytes
        (fewer_wider ending behind (take n bytes) (drop n bytes) fewer_behind)) few)

    pub read_ends : (new : SimView) (left : List ℕ) (room_left : ℕ) (before after : Option (List ℕ)) (end : End) →
        TookBytes program old held (take n bytes) before new left after (Some end) →
        TookRead program old held room bytes before new left room_left after (Some end)
    read_ends new left room_left before after end (text, (behind, h, fewer_behind), wrote) =
        (text, taken_by behind text (Some end) h fewer_behind, wrote)

    pub read_cut : (before after : Option (List ℕ)) → CutBytes program old held (take n bytes) before after →
        CutRead program old held room bytes before after
    read_cut before after (behind, text, ending, h, fewer_behind, prefix) = (text, ending, taken_by behind text ending h fewer_behind, prefix)

    -- more bytes came than may be taken
    module _ (more : room < length bytes) where
      all_room : take n bytes ≡ take room bytes
      all_room = let same : n ≡ room = omega (arith, within, more) in ap (λ m. take m bytes) same

      limited : (new : SimView) (left answers : List ℕ) → Reads program old (held ++ take n bytes) answers new left →
          AreTaken program old held room bytes (answers ++ codes "limit input\n") (Some ends.Limit)
      limited new left answers h =
          by_limit answers left new more (omega (arith, few))
          (subst (λ x. Reads program old (held ++ x) answers new left) all_room h) refl refl

      pub read_limited : (new now : SimView) (left rest : List ℕ) (room_left : ℕ) (before middle after : Option (List ℕ)) (end : End) →
          end ≡ ends.Limit → TookBytes program old held (take n bytes) before new left middle None →
          Wrote (codes "limit input\n") middle after → TookRead program old held room bytes before now rest room_left after (Some end)
      read_limited new now left rest room_left before middle after end is (answers, h, wrote) wrote_end =
          subst (λ e. TookRead program old held room bytes before now rest room_left after (Some e)) (sym is)
          (answers ++ codes "limit input\n", limited new left answers h, wrote_both answers (codes "limit input\n") before middle after wrote wrote_end)

      pub limit_cut : (new : SimView) (left : List ℕ) (before middle after : Option (List ℕ)) →
          TookBytes program old held (take n bytes) before new left middle None → AppendsPrefix (codes "limit input\n") middle after →
          CutRead program old held room bytes before after
      limit_cut new left before middle after (answers, h, wrote) prefix = (
        answers ++ codes "limit input\n",
        Some ends.Limit,
        limited new left answers h,
        prefix_both answers (codes "limit input\n") before middle after wrote prefix,
      )

  -- a piece of the input

  module _ (old : SimView) (held : List ℕ) (room : ℕ) (input : Input) where
    pub piece_read : (bytes : List ℕ) (new : SimView) (left : List ℕ) (room_left : ℕ) (before after : Option (List ℕ)) (ending : Option End) →
        Gave input bytes → 0 < length bytes → TookRead program old held room bytes before new left room_left after ending →
        TookPiece program old held room input before new left room_left after ending
    piece_read bytes new left room_left before after None gave some (text, (h, sum), wrote) = (bytes, text, gave, (h, sum, some), wrote)
    piece_read bytes new left room_left before after (Some end) gave some (text, h, wrote) = (bytes, text, gave, by_bytes h, wrote)

    pub piece_cut : (bytes : List ℕ) (before after : Option (List ℕ)) → Gave input bytes → CutRead program old held room bytes before after →
        CutPiece program old held room input before after
    piece_cut bytes before after gave (text, ending, h, prefix) = (bytes, text, ending, gave, by_bytes h, prefix)

    none_read : (text : List ℕ) (new : SimView) (left : List ℕ) → Reads program old held text new left → Reads program old (held ++ []) text new left
    none_read text new left h = subst (λ x. Reads program old x text new left) (sym (append-nil held)) h

    -- a read failed
    failed_read : IsUnread input → IsUnended held → IsWritten program old held room input [] (codes "read fault\n") (Some ends.Unread)
    failed_read unread h =
        by_fault [] held old unread (omega arith) (none_read [] old held (reads_nothing program old held h)) refl refl

    pub piece_failed : (new : SimView) (left : List ℕ) (room_left : ℕ) (before after : Option (List ℕ)) (end : End) → end ≡ ends.Unread →
        Gave input [] → IsUnread input → IsUnended held → Wrote (codes "read fault\n") before after →
        TookPiece program old held room input before new left room_left after (Some end)
    piece_failed new left room_left before after end is gave unread h wrote =
        subst (λ e. TookPiece program old held room input before new left room_left after (Some e)) (sym is)
        ([], codes "read fault\n", gave, failed_read unread h, wrote)

    pub failed_cut : (before after : Option (List ℕ)) → Gave input [] → IsUnread input → IsUnended held →
        AppendsPrefix (codes "read fault\n") before after → CutPiece program old held room input before after
    failed_cut before after gave unread h prefix = ([], codes "read fault\n", Some ends.Unread, gave, failed_read unread h, prefix)

    -- the input has ended
    at_last : (text : List ℕ) (ending : Option End) → Answers program old (said held) text ending →
        Answers program old (said (held ++ [])) text ending
    at_last text ending h = subst (λ x. Answers program old (said x) text ending) (sym (append-nil held)) h

    pub piece_last : (new : SimView) (left : List ℕ) (room_left : ℕ) (before after : Option (List ℕ)) (end : End) → Gave input [] → IsAtEnd input →
        TookLast program old held before after end → TookPiece program old held room input before new left room_left after (Some end)
    piece_last new left room_left before after end gave at (text, wrote, inl h) =
        ([], text, gave, by_last_line at (omega arith) (at_last text (Some end) h), wrote)
    piece_last new left room_left before after end gave at (text, wrote, inr (h, done)) =
        ([], text, gave, by_end at (omega arith) (at_last text None h) (ap Some done), wrote)

    pub last_piece_cut : (before after : Option (List ℕ)) → Gave input [] → IsAtEnd input → CutLast program old held before after →
        CutPiece program old held room input before after
    last_piece_cut before after gave at (inl same) = (
      [],
      [],
      None,
      gave,
      by_bytes (by_lines (held ++ []) (front_nothing program old (held ++ [])) (omega arith) tt),
      nothing_more [] before after same,
    )
    last_piece_cut before after gave at (inr (text, ending, h, prefix)) =
        ([], text, ending, gave, by_last_line at (omega arith) (at_last text ending h), prefix)
