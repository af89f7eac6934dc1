-- How far the lines of an entry are those with which a text begins.
use Rattle.std.specs.Prelude.{ℕ, ◌≡◌, List, ◌++◌}
use Rattle.spec_core.specs.Code.{Program}
use Rattle.rule_model.specs.Events.{Event}
use Rattle.trace_text.specs.declared.format.Format.{Format}
use Rattle.trace_text.specs.Formats.{Before, event_text, format_line}
use Rattle.trace_text.specs.Names.{names_in}
use Rattle.trace_reader.specs.Lines.{IsOneLine}
use Rattle.trace_reader.specs.declared.line.Reach.{Reach}
use Rattle.trace_reader.specs.declared.line.Reach.TheVariants.{All, Line, Nothing}

module _ (program : Program) (format : Format) (before : Before) (event : Event) where
  -- the text doesn't begin with all of them
  abbrev pub IsCut : List ℕ → Type 0
  IsCut text = (rest : List ℕ) → text ≡ event_text (names_in program) format before event ++ rest → ⊥

  abbrev pub Reaches : List ℕ → List ℕ → Reach → Type 0
  Reaches line text (All rest) = text ≡ event_text (names_in program) format before event ++ rest.now
  Reaches line text Line =
      (IsOneLine line → IsOneLine (format_line (names_in program) format before.tree event) →
      line ≡ format_line (names_in program) format before.tree event) × IsCut text
  Reaches line text Nothing = IsOneLine line → line ≡ format_line (names_in program) format before.tree event → ⊥
