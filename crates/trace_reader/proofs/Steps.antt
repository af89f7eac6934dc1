-- What is known of a line, by the text that the writer keeps of the tree before.
use Rattle.std.proofs.Common.{ℕ, ◌≡◌, ◌≢◌, ◌∙◌, List, ◌∷◌, ◌++◌, codes, ◌<◌, length, length-append, arith, refl, sym, ap, subst, append_assoc}
use Rattle.spec_core.specs.Code.{Program}
use Rattle.rule_model.specs.Events.{Event}
use Rattle.trace_text.specs.declared.format.Format.{Format}
use Rattle.trace_text.specs.declared.format.Format.TheVariants.{One, Two}
use Rattle.trace_text.specs.Formats.{Before, behind, event_text, first_line, format_line, point_text}
use Rattle.trace_text.specs.Names.{names_in}
use Rattle.trace_text.specs.Trace.{Names}
use Rattle.trace_text.proofs.Logs.{line_one}
use Rattle.trace_reader.specs.LineSays.{IsNoLine, IsOnlyEntry}
use Rattle.trace_reader.specs.Lines.{IsOneLine}
use Rattle.trace_reader.specs.Reaching.{IsCut}
use Rattle.trace_reader.proofs.Traces.{no_line_inside, one_end}

module _ (names : Names) where
  -- in format 1 the tree before is of no account
  pub line_at : (format : Format) (t u : List ℕ) (x : Event) → (format ≡ Two → t ≡ u) → format_line names format t x ≡ format_line names format u x
  line_at One t u x e = line_one names t x ∙ sym (line_one names u x)
  line_at Two t u x e = ap (λ z. format_line names Two z x) (e refl)

module _ (program : Program) (format : Format) (t u : List ℕ) (same : format ≡ Two → t ≡ u) where
  pub no_line_at : (text : List ℕ) → IsNoLine program format t text → IsNoLine program format u text
  no_line_at text h = (λ x fits e. h.0 x fits (e ∙ sym (line_at (names_in program) format t u x same)), h.1)

  pub only_at : (text : List ℕ) (entry : Event) → IsOnlyEntry program format t text entry → IsOnlyEntry program format u text entry
  only_at text entry h = λ x fits e. h x fits (e ∙ sym (line_at (names_in program) format t u x same))

module _ (program : Program) (format : Format) (before : Before) (event : Event) where
  abbrev own : List ℕ
  own = format_line (names_in program) format before.tree event

  abbrev point : List ℕ
  point = point_text format (behind (names_in program) before event) event

  parts : event_text (names_in program) format before event ≡ own ++ (10 ∷ point)
  parts = append_assoc own (codes "\n") point

  pub at_all : (printed text rest : List ℕ) → printed ≡ event_text (names_in program) format before event → text ≡ printed ++ rest →
      text ≡ event_text (names_in program) format before event ++ rest
  at_all printed text rest is e = e ∙ ap (λ p. p ++ rest) is

  -- the line is the own one, and the rest isn't
  pub at_line : (printed line text rest : List ℕ) → printed ≡ event_text (names_in program) format before event → printed ≡ line ++ (10 ∷ rest) →
      ((more : List ℕ) → text ≢ printed ++ more) →
      (IsOneLine line → IsOneLine (format_line (names_in program) format before.tree event) →
      line ≡ format_line (names_in program) format before.tree event) × IsCut program format before event text
  at_line printed line text rest is e none = (
    λ a b. (one_end line own rest point a b (sym e ∙ is ∙ parts)).0,
    λ more k. none more (k ∙ ap (λ p. p ++ more) (sym is)),
  )

  pub at_nothing : (printed line : List ℕ) → printed ≡ event_text (names_in program) format before event →
      ((rest : List ℕ) → IsOneLine line → printed ≡ line ++ (10 ∷ rest) → ⊥) → IsOneLine line →
      line ≡ format_line (names_in program) format before.tree event → ⊥
  at_nothing printed line is none one e = none point one (is ∙ parts ∙ ap (λ l. l ++ (10 ∷ point)) (sym e))

-- behind the lines of an entry less is left
pub fewer_left : (program : Program) (format : Format) (before : Before) (event : Event) (text rest : List ℕ) →
    text ≡ event_text (names_in program) format before event ++ rest → length rest < length text
fewer_left program format before event text rest e =
    let own = format_line (names_in program) format before.tree event in
    let point = point_text format (behind (names_in program) before event) event in
    let a = length-append (own ++ codes "\n" ++ point) rest in
    let b = length-append (own ++ codes "\n") point in
    let c = length-append own (codes "\n") in
    omega (arith, ap length e, a, b, c)

-- whether a text begins with a line
pub begins_not : (text line rest : List ℕ) → IsOneLine text → text ≡ line ++ (10 ∷ rest) → ⊥
begins_not text line rest one e = no_line_inside line rest (subst IsOneLine e one)

pub begins_other : (text first line r rest : List ℕ) → IsOneLine first → IsOneLine line → text ≡ first ++ (10 ∷ r) → text ≡ line ++ (10 ∷ rest) →
    first ≡ line
begins_other text first line r rest a b e f = (one_end first line r rest a b (sym e ∙ f)).0

-- a text begins with the first line of no format
pub no_format : (text : List ℕ) → ((lines : List ℕ) → text ≢ first_line One ++ lines) → ((lines : List ℕ) → text ≢ first_line Two ++ lines) →
    (format : Format) (lines : List ℕ) → text ≢ first_line format ++ lines
no_format text one two One lines e = one lines e
no_format text one two Two lines e = two lines e
