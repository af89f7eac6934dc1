-- What comes of a generated specification and script. (This profile.)
use Rattle.std.specs.Prelude.{ℕ, List}
use Rattle.spec_core.specs.Code.{program_of}
use Rattle.run_settings.specs.declared.settings.Draw.TheVariants.{Rotation}
use Rattle.run_settings.specs.declared.settings.Settings.{Settings}
use Rattle.lotos_front.specs.Answers.{IsAccepted, IsFirstRefusal}
use Rattle.spec_generator.specs.Scripts.{script_text}
use Rattle.spec_generator.specs.Specifications.{specification_text}
use Rattle.command_run.specs.Runs as scripts
use Rattle.command_selfrun.specs.declared.answer.Answer.{Answer}
use Rattle.command_selfrun.specs.declared.answer.Answer.TheVariants.{Accepted, Refused}

-- within what the session is run
abbrev pub settings : Settings
settings = record { budget = 1000000; values = 16; steps = 1000000; seed = 0; draw = Rotation }

-- What comes of a specification and a script.
--   accepted: the specification is accepted with a program, and over it this comes of the script, as of one in a file;
--   refused: the specification has a first refusal
abbrev pub ComesOfTexts : List ℕ → List ℕ → Answer → Type 0
ComesOfTexts specification script (Accepted checked came) =
    IsAccepted specification (program_of checked) × scripts.Comes (program_of checked) settings script came
ComesOfTexts specification script (Refused refusal) = IsFirstRefusal specification refusal

-- what comes of the texts of a seed and a size
abbrev pub Comes : ℕ → ℕ → Answer → Type 0
Comes seed size = ComesOfTexts (specification_text size) (script_text seed size)
