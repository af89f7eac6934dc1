-- Bytes that are taken in parts.
use Rattle.std.proofs.Common.{ℕ, ◌+◌, ◌≡◌, ◌≤◌, ◌<◌, ◌==◌, inl, inr, List, [], ◌∷◌, ◌++◌, Option, Some, None, false, length, take, refl, ap, sym, subst, ◌∙◌, arith, append_assoc, codes}
use Rattle.std.proofs.Math.Seq.{take-append-add}
use Rattle.std.proofs.lemmas.List.{append-nil, length-append}
use Rattle.std.specs.Str.Lines.{strip_carriage_return}
use Rattle.spec_core.specs.Code.{Program}
use Rattle.spec_core.proofs.Lists.{each_append}
use Rattle.simulator.specs.Sims.{SimView}
use Rattle.command_lines.specs.Inputs.{Input, IsAtEnd, IsUnread}
use Rattle.command_lines.specs.Lines.{AreWhole, IsUnended, filled, said}
use Rattle.command_lines.proofs.Lines.{last_said, line_ended, said_both, whole_both}
use Rattle.command_sim.specs.declared.end.End.{End}
use Rattle.command_sim.specs.Simulations.{piece_size, Answers, AreAnswered, AreTaken, IsAnswered, IsTaken, IsWritten, Reads, ReadsFront}
use Rattle.command_sim.specs.Simulations.{by_lines, by_limit, by_bytes, by_end, by_fault, by_last_line}

module _ (program : Program) where
  -- lines behind lines

  pub answered_both : (some more : List (List ℕ)) (old between new : SimView) (first second : List ℕ) →
      AreAnswered program old some first between → AreAnswered program between more second new →
      AreAnswered program old (some ++ more) (first ++ second) new
  answered_both [] more old between new first second (same, none) h =
      subst (λ s. AreAnswered program s more (first ++ second) new) same
      (subst (λ x. AreAnswered program between more (x ++ second) new) (sym none) h)
  answered_both (line ∷ lines) more old between new first second (next, one, rest, is, others, parts) h = (
    next,
    one,
    rest ++ second,
    is,
    answered_both lines more next between new rest second others h,
    ap (λ x. x ++ second) parts ∙ append_assoc one rest second,
  )

  pub answers_both : (some more : List (List ℕ)) (old between : SimView) (first second : List ℕ) (ending : Option End) →
      AreAnswered program old some first between → Answers program between more second ending →
      Answers program old (some ++ more) (first ++ second) ending
  answers_both some more old between first second None h (new, k) = (new, answered_both some more old between new first second h k)
  answers_both some more old between first second (Some end) h k = record {
    before = some ++ k.before;
    line = k.line;
    lines_are = ap (λ l. some ++ l) k.lines_are ∙ sym (append_assoc some k.before (k.line ∷ []));
    between = k.between;
    new = k.new;
    front = first ++ k.front;
    last = k.last;
    answered = answered_both some k.before old between k.between first k.front h k.answered;
    ends = k.ends;
    text_is = ap (λ x. first ++ x) k.text_is ∙ sym (append_assoc first k.front k.last);
  }

  -- one line

  pub taken_answered : (old new : SimView) (line text : List ℕ) → IsTaken program old new line text None →
      AreAnswered program old (filled (line ∷ [])) text new
  taken_answered old new [] text h = (h.0, h.1)
  taken_answered old new (b ∷ bs) text h = (new, text, [], h, (refl, refl), sym (append-nil text))

  pub taken_answers : (old new : SimView) (line text : List ℕ) (ending : Option End) → IsTaken program old new line text ending →
      Answers program old (filled (line ∷ [])) text ending
  taken_answers old new line text None h = (new, taken_answered old new line text h)
  taken_answers old new [] text (Some end) (same, none, never) = let no : ⊥ = cc in absurd no
  taken_answers old new (b ∷ bs) text (Some end) h = record {
    before = [];
    line = b ∷ bs;
    lines_are = refl;
    between = old;
    new = new;
    front = [];
    last = text;
    answered = (refl, refl);
    ends = h;
    text_is = refl;
  }

  -- a line that isn't empty
  pub taken_some : (old new : SimView) (line text : List ℕ) (ending : Option End) → 0 < length line →
      IsAnswered program old new line text ending → IsTaken program old new line text ending
  taken_some old new [] text ending some h = absurd (omega (arith, some))
  taken_some old new (b ∷ bs) text ending some h = h

  -- bytes behind bytes

  parts_both : (bytes more whole others held left : List ℕ) → bytes ≡ whole ++ held → held ++ more ≡ others ++ left →
      bytes ++ more ≡ (whole ++ others) ++ left
  parts_both bytes more whole others held left e f =
      ap (λ x. x ++ more) e ∙ append_assoc whole held more ∙ ap (λ x. whole ++ x) f ∙ sym (append_assoc whole others left)

  pub reads_both : (old between new : SimView) (bytes more first second held left : List ℕ) →
      Reads program old bytes first between held → Reads program between (held ++ more) second new left →
      Reads program old (bytes ++ more) (first ++ second) new left
  reads_both old between new bytes more first second held left h k = record {
    whole = h.whole ++ k.whole;
    parts = parts_both bytes more h.whole k.whole held left h.parts k.parts;
    ended = whole_both h.whole k.whole h.ended k.ended;
    unended = k.unended;
    answered = subst (λ l. AreAnswered program old l (first ++ second) new) (sym (said_both h.whole k.whole h.ended))
        (answered_both (said h.whole) (said k.whole) old between new first second h.answered k.answered);
  }

  pub front_both : (old between : SimView) (bytes more first second held behind : List ℕ) (ending : Option End) →
      Reads program old bytes first between held → ReadsFront program between (held ++ more) second ending behind →
      ReadsFront program old (bytes ++ more) (first ++ second) ending behind
  front_both old between bytes more first second held behind ending h k = record {
    front = h.whole ++ k.front;
    parts = parts_both bytes more h.whole k.front held behind h.parts k.parts;
    ended = whole_both h.whole k.front h.ended k.ended;
    answered = subst (λ l. Answers program old l (first ++ second) ending) (sym (said_both h.whole k.front h.ended))
        (answers_both (said h.whole) (said k.front) old between first second ending h.answered k.answered);
  }

  -- at the end of the input
  said_behind : (bytes more whole held : List ℕ) → AreWhole whole → bytes ≡ whole ++ held →
      said (bytes ++ more) ≡ said whole ++ said (held ++ more)
  said_behind bytes more whole held h e =
      ap (λ x. said (x ++ more)) e ∙ ap said (append_assoc whole held more) ∙ said_both whole (held ++ more) h

  pub last_both : (old between : SimView) (bytes more first second held : List ℕ) (ending : Option End) →
      Reads program old bytes first between held → Answers program between (said (held ++ more)) second ending →
      Answers program old (said (bytes ++ more)) (first ++ second) ending
  last_both old between bytes more first second held ending h k =
      subst (λ l. Answers program old l (first ++ second) ending) (sym (said_behind bytes more h.whole held h.ended h.parts))
      (answers_both (said h.whole) (said (held ++ more)) old between first second ending h.answered k)

  -- nothing is answered yet
  pub reads_nothing : (old : SimView) (held : List ℕ) → IsUnended held → Reads program old held [] old held
  reads_nothing old held h = record { whole = []; parts = refl; ended = inl refl; unended = h; answered = (refl, refl) }

  pub front_nothing : (old : SimView) (bytes : List ℕ) → ReadsFront program old bytes [] None bytes
  front_nothing old bytes = record { front = []; parts = refl; ended = inl refl; answered = (old, (refl, refl)) }

  -- one byte more, which isn't LF
  pub one_unended : (held : List ℕ) (b : ℕ) → IsUnended held → (b == 10) ≡ false → IsUnended (held ++ b ∷ [])
  one_unended held b h e = each_append (λ c. (c == 10) ≡ false) held (b ∷ []) h (e, tt)

  -- LF: the line that hasn't ended ends
  pub reads_line : (old new : SimView) (held text : List ℕ) → IsUnended held →
      IsTaken program old new (strip_carriage_return held) text None → Reads program old (held ++ 10 ∷ []) text new []
  reads_line old new held text h k = record {
    whole = held ++ 10 ∷ [];
    parts = sym (append-nil (held ++ 10 ∷ []));
    ended = inr (held, refl);
    unended = tt;
    answered = subst (λ l. AreAnswered program old (filled l) text new) (sym (line_ended held h))
        (taken_answered old new (strip_carriage_return held) text k);
  }

  pub front_line : (old new : SimView) (held text : List ℕ) (ending : Option End) → IsUnended held →
      IsTaken program old new (strip_carriage_return held) text ending → ReadsFront program old (held ++ 10 ∷ []) text ending []
  front_line old new held text ending h k = record {
    front = held ++ 10 ∷ [];
    parts = sym (append-nil (held ++ 10 ∷ []));
    ended = inr (held, refl);
    answered = subst (λ l. Answers program old (filled l) text ending) (sym (line_ended held h))
        (taken_answers old new (strip_carriage_return held) text ending k);
  }

  -- the last line
  pub answers_last : (old new : SimView) (held text : List ℕ) (ending : Option End) → IsUnended held →
      IsTaken program old new held text ending → Answers program old (said held) text ending
  answers_last old new held text ending h k =
      subst (λ l. Answers program old l text ending) (sym (last_said held h)) (taken_answers old new held text ending k)

  -- what is written of an input behind what was read of it before

  module _ (old between : SimView) (held bytes first left : List ℕ) (room rest : ℕ) (read : Reads program old (held ++ bytes) first between left)
      (sum : rest + length bytes ≡ room) where
    more_few : (more : List ℕ) (n : ℕ) → length more ≤ rest + n → length (bytes ++ more) ≤ room + n
    more_few more n h = omega (arith, length-append bytes more, h, sum)

    more_many : (more : List ℕ) → rest < length more → room < length (bytes ++ more)
    more_many more h = omega (arith, length-append bytes more, h, sum)

    taken_within : (more : List ℕ) → take room (bytes ++ more) ≡ bytes ++ take rest more
    taken_within more =
        let total : length bytes + rest ≡ room = omega (arith, sum) in
        ap (λ n. take n (bytes ++ more)) (sym total) ∙ take-append-add bytes more rest

    pub taken_behind : (more second : List ℕ) (ending : Option End) → AreTaken program between left rest more second ending →
        AreTaken program old held room (bytes ++ more) (first ++ second) ending
    taken_behind more second ending (by_lines behind front within few) =
        by_lines behind
        (subst (λ x. ReadsFront program old x (first ++ second) ending behind) (append_assoc held bytes more)
        (front_both old between (held ++ bytes) more first second left behind ending read front))
        (more_few more (length behind) within) few
    taken_behind more second ending (by_limit answers behind new over few reads text ends) =
        by_limit (first ++ answers) behind new (more_many more over) (more_few more piece_size few)
        (subst (λ x. Reads program old x (first ++ answers) new behind)
        (append_assoc held bytes (take rest more) ∙ ap (λ x. held ++ x) (sym (taken_within more)))
        (reads_both old between new (held ++ bytes) (take rest more) first answers left behind read reads))
        (ap (λ x. first ++ x) text ∙ sym (append_assoc first answers (codes "limit input\n"))) ends

    last_behind : (more second : List ℕ) (ending : Option End) → Answers program between (said (left ++ more)) second ending →
        Answers program old (said (held ++ (bytes ++ more))) (first ++ second) ending
    last_behind more second ending k =
        subst (λ x. Answers program old (said x) (first ++ second) ending) (append_assoc held bytes more)
        (last_both old between (held ++ bytes) more first second left ending read k)

    few_behind : (more : List ℕ) → length more ≤ rest → length (bytes ++ more) ≤ room
    few_behind more h = omega (arith, length-append bytes more, h, sum)

    module _ (start input : Input) (ends_too : IsAtEnd input → IsAtEnd start) (fails_too : IsUnread input → IsUnread start) where
      pub written_behind : (more second : List ℕ) (ending : Option End) → IsWritten program between left rest input more second ending →
          IsWritten program old held room start (bytes ++ more) (first ++ second) ending
      written_behind more second ending (by_bytes h) = by_bytes (taken_behind more second ending h)
      written_behind more second ending (by_last_line at few answers) =
          by_last_line (ends_too at) (few_behind more few) (last_behind more second ending answers)
      written_behind more second ending (by_end at few answers done) =
          by_end (ends_too at) (few_behind more few) (last_behind more second None answers) done
      written_behind more second ending (by_fault answers behind new unread few reads text ends) =
          by_fault (first ++ answers) behind new (fails_too unread) (few_behind more few)
          (subst (λ x. Reads program old x (first ++ answers) new behind) (append_assoc held bytes more)
          (reads_both old between new (held ++ bytes) more first answers left behind read reads))
          (ap (λ x. first ++ x) text ∙ sym (append_assoc first answers (codes "read fault\n"))) ends
