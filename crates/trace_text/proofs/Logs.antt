-- The lines of a log that grows by an event.
use Rattle.std.proofs.Common.{ℕ, ◌≡◌, List, [], ◌∷◌, ◌++◌, codes, refl, ap, sym, ◌∙◌, append_assoc, flat_map}
use Rattle.std.proofs.lemmas.List.{append-nil}
use Rattle.rule_model.specs.Events.{Event, pended, acted, replied, stalled, left}
use Rattle.trace_text.specs.declared.format.Format.{Format}
use Rattle.trace_text.specs.declared.format.Format.TheVariants.{One}
use Rattle.trace_text.specs.Formats.{Before, behind, behind_log, event_text, format_line, log_text}
use Rattle.trace_text.specs.Trace.{Names, event_line, line}

module _ (names : Names) where
  -- format 1 has the lines of events as they are
  pub line_one : (tree : List ℕ) (x : Event) → format_line names One tree x ≡ event_line names x
  line_one tree (pended client number offer ask) = refl
  line_one tree (acted action d by) = refl
  line_one tree (replied client number answer) = refl
  line_one tree (stalled all) = refl
  line_one tree (left client) = refl

  pub behind_push : (before : Before) (log : List Event) (x : Event) →
      behind_log names before (log ++ x ∷ []) ≡ behind names (behind_log names before log) x
  behind_push before [] x = refl
  behind_push before (y ∷ log) x = behind_push (behind names before y) log x

  pub text_push : (format : Format) (before : Before) (log : List Event) (x : Event) →
      log_text names format before (log ++ x ∷ []) ≡ log_text names format before log ++ event_text names format (behind_log names before log) x
  text_push format before [] x = append-nil (event_text names format before x)
  text_push format before (y ∷ log) x =
      ap (λ z. event_text names format before y ++ z) (text_push format (behind names before y) log x)
      ∙ sym (append_assoc (event_text names format before y) (log_text names format (behind names before y) log)
      (event_text names format (behind_log names (behind names before y) log) x))

  -- the lines of format 1 stand for themselves
  pub lines_one : (before : Before) (log : List Event) → log_text names One before log ≡ flat_map (line names) log
  lines_one before [] = refl
  lines_one before (x ∷ log) =
      ap (λ z. z ++ log_text names One (behind names before x) log)
      (append-nil (format_line names One before.tree x ++ codes "\n") ∙ ap (λ z. z ++ codes "\n") (line_one before.tree x))
      ∙ ap (λ z. line names x ++ z) (lines_one (behind names before x) log)
