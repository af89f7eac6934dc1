-- Simulations by hand: what is written in answer to the lines that were read. (This profile.)
use Rattle.std.specs.Prelude.{ℕ, ◌+◌, ◌≡◌, ◌<◌, ◌≤◌, ◌++◌, List, [], ◌∷◌, Option, Some, None, Result, Ok, Err, codes, length, take}
use Rattle.spec_core.specs.declared.code.Checked.{Checked}
use Rattle.run_settings.specs.declared.settings.Settings.{Settings}
use Rattle.spec_core.specs.Code.{Program, program_of}
use Rattle.lotos_outside.specs.Sink.{AppendsPrefix}
use Rattle.simulator.specs.declared.answer.SimAnswer.{SimAnswer}
use Rattle.simulator.specs.declared.answer.SimFault.{SimFault}
use Rattle.simulator.specs.Sims.{SimView, HasBegun, IsAnswerTo, ExplainsFault}
use Rattle.trace_text.specs.Names.{names_in}
use Rattle.command_lines.specs.Inputs.{Input, Gave, IsAtEnd, IsUnread}
use Rattle.command_lines.specs.Lines.{AreWhole, IsUnended, said}
use Rattle.command_sim.specs.declared.end.End.{End}
use Rattle.command_sim.specs.declared.end.End.TheVariants as ends
use Rattle.command_sim.specs.Texts.{text_of, end_by, HasAnswer}

-- how many bytes of an input may be read for lines, 2^20
abbrev pub input_limit : ℕ
input_limit = 1048576

-- how many bytes are asked for at a call
abbrev pub piece_size : ℕ
piece_size = 4096

-- a line comes to this, an answer or why there is none, in a state, and leaves another one
abbrev pub Comes : SimView → SimView → List ℕ → Result SimAnswer SimFault → Type 0
Comes old new line (Ok answer) = IsAnswerTo old new line answer
Comes old new line (Err fault) = ExplainsFault old new line fault

-- nothing was done yet in a simulation of the program
abbrev pub Begins : Program → Settings → SimView → Type 0
Begins program settings s = (checked : Checked) × (program_of checked ≡ program) × HasBegun checked settings s

-- where a line ended the simulation: less of the input than a piece was read behind it
abbrev pub HasFewBehind : Option End → List ℕ → Type 0
HasFewBehind None behind = Unit {0}
HasFewBehind (Some end) behind = length behind < piece_size

module _ (program : Program) where
  -- a line is answered, with this text; and how this ends the simulation, if it does
  pub record IsAnswered (old new : SimView) (line text : List ℕ) (ending : Option End) : Type 0 where
    pub came : Result SimAnswer SimFault
    pub comes : Comes old new line came
    pub told : HasAnswer came
    pub text_is : text ≡ text_of (names_in program) came
    pub ending_is : ending ≡ end_by came

  -- a line is answered if it isn't empty
  abbrev pub IsTaken : SimView → SimView → List ℕ → List ℕ → Option End → Type 0
  IsTaken old new [] text ending = (new ≡ old) × (text ≡ []) × (ending ≡ None)
  IsTaken old new (b ∷ bs) text ending = IsAnswered old new (b ∷ bs) text ending

  -- lines are answered, each in the state that those before it left, with these texts one behind another; none of them ends the simulation
  abbrev pub AreAnswered : SimView → List (List ℕ) → List ℕ → SimView → Type 0
  AreAnswered old [] text new = (new ≡ old) × (text ≡ [])
  AreAnswered old (line ∷ lines) text new = (between : SimView) × (first rest : List ℕ) ×
      IsAnswered old between line first None × AreAnswered between lines rest new × (text ≡ first ++ rest)

  -- of lines that are answered so, the last one ends the simulation
  pub record EndBy (old : SimView) (lines : List (List ℕ)) (text : List ℕ) (end : End) : Type 0 where
    pub before : List (List ℕ)
    pub line : List ℕ
    pub lines_are : lines ≡ before ++ line ∷ []
    pub between : SimView
    pub new : SimView
    pub front : List ℕ
    pub last : List ℕ
    pub answered : AreAnswered old before front between
    pub ends : IsAnswered between new line last (Some end)
    pub text_is : text ≡ front ++ last

  -- lines are answered; the last one ends the simulation so, or none ends it
  abbrev pub Answers : SimView → List (List ℕ) → List ℕ → Option End → Type 0
  Answers old lines text None = (new : SimView) × AreAnswered old lines text new
  Answers old lines text (Some end) = EndBy old lines text end

  -- of bytes all lines that end in them are answered, with this text, and none of them ends the simulation; these bytes stand behind them
  pub record Reads (old : SimView) (bytes text : List ℕ) (new : SimView) (left : List ℕ) : Type 0 where
    pub whole : List ℕ
    pub parts : bytes ≡ whole ++ left
    pub ended : AreWhole whole
    pub unended : IsUnended left
    pub answered : AreAnswered old (said whole) text new

  -- of bytes the lines in a front of them are answered
  pub record ReadsFront (old : SimView) (bytes text : List ℕ) (ending : Option End) (behind : List ℕ) : Type 0 where
    pub front : List ℕ
    pub parts : bytes ≡ front ++ behind
    pub ended : AreWhole front
    pub answered : Answers old (said front) text ending

  -- What is written of bytes that were read, of which so many may be taken, behind those of a line that hasn't ended; and how this ends the
  -- simulation, if it does.
  --   by lines: lines are answered, up to one that ends the simulation, or as far as their answers could be written;
  --   by the limit: more bytes came; the lines that end in those that may be taken are answered, and then that is told.
  pub data AreTaken (old : SimView) (held : List ℕ) (room : ℕ) (bytes text : List ℕ) (ending : Option End) : Type 0 where
    by_lines : (behind : List ℕ) → ReadsFront old (held ++ bytes) text ending behind → length bytes ≤ room + length behind →
        HasFewBehind ending behind → AreTaken old held room bytes text ending
    by_limit : (answers left : List ℕ) (new : SimView) → room < length bytes → length bytes ≤ room + piece_size →
        Reads old (held ++ take room bytes) answers new left → text ≡ answers ++ codes "limit input\n" → ending ≡ Some ends.Limit →
        AreTaken old held room bytes text ending

  -- What is written of an input that was read so far, and how it ends the simulation, if it does.
  --   by bytes: its bytes are taken so;
  --   by the last line: it was read to its end, where its last line ends too, and this line ends the simulation so, or its answer couldn't be
  --   written;
  --   by its end: all lines are answered, and none ends the simulation;
  --   by a fault: a read failed; all lines that had ended are answered, and then that is told.
  pub data IsWritten (old : SimView) (held : List ℕ) (room : ℕ) (input : Input) (bytes text : List ℕ) (ending : Option End) : Type 0 where
    by_bytes : AreTaken old held room bytes text ending → IsWritten old held room input bytes text ending
    by_last_line : IsAtEnd input → length bytes ≤ room → Answers old (said (held ++ bytes)) text ending →
        IsWritten old held room input bytes text ending
    by_end : IsAtEnd input → length bytes ≤ room → Answers old (said (held ++ bytes)) text None → ending ≡ Some ends.Done →
        IsWritten old held room input bytes text ending
    by_fault : (answers left : List ℕ) (new : SimView) → IsUnread input → length bytes ≤ room →
        Reads old (held ++ bytes) answers new left → text ≡ answers ++ codes "read fault\n" → ending ≡ Some ends.Unread →
        IsWritten old held room input bytes text ending

  -- what is written of an input by a simulation that begins, and how it ends, if it does
  pub record IsSimulated (settings : Settings) (input : Input) (text : List ℕ) (ending : Option End) : Type 0 where
    pub begun : SimView
    pub begins : Begins program settings begun
    pub given : List ℕ
    pub gave : Gave input given
    pub written : IsWritten begun [] input_limit input given text ending

  -- a prefix of such a text was written
  abbrev pub IsCut : Settings → Input → Option (List ℕ) → Option (List ℕ) → Type 0
  IsCut settings input before after =
      (text : List ℕ) × (ending : Option End) × IsSimulated settings input text ending × AppendsPrefix text before after
