-- Which status a call ends with, and which text it brings.
use Rattle.std.specs.Prelude.{ℕ, ◌≡◌, ◌⊎◌, List, Option, Some, None, codes, take}
use Rattle.run_settings.specs.declared.settings.Settings.{Settings}
use Rattle.spec_core.specs.Code.{Program, program_of}
use Rattle.spec_core.specs.Ready.{IsReady}
use Rattle.lotos_front.specs.Answers.{IsAccepted}
use Rattle.lotos_outside.specs.Shelf.{OnFetched}
use Rattle.lotos_run.specs.declared.due.Due.{Due}
use Rattle.lotos_run.specs.declared.due.Due.TheVariants.{Text, Simulation}
use Rattle.command_words.specs.Commands.{Command, run, check, equal, replay, migrate, sim, selfrun}
use Rattle.command_sim.specs.declared.end.End.{End}
use Rattle.lotos_outside.specs.Sink.{with_more, AppendsPrefix}
use Rattle.lotos_run.specs.declared.second_file.Second.TheVariants.{Script, Trace, Migration}
use Rattle.lotos_run.specs.declared.status.Status.{Status}
use Rattle.lotos_run.specs.declared.status.Status.TheVariants.{Usage}
use Rattle.lotos_run.specs.Checks.{IsCheckDue}
use Rattle.lotos_run.specs.Equals.{IsEqualDue}
use Rattle.lotos_run.specs.Outside.{Shelved, Outside}
use Rattle.lotos_run.specs.SecondFiles.{IsSecondDue}
use Rattle.lotos_run.specs.Selfruns.{IsSelfrunDue}
use Rattle.lotos_run.specs.Sims.{status_of, IsOfSimulation, IsOpeningDue}

-- what is due where the words name no command
abbrev pub IsUsageDue : Status → List ℕ → Type 0
IsUsageDue Usage text = text ≡ codes "usage\n"
IsUsageDue _ text = ⊥

-- which status is due, with which text, where the input isn't read
abbrev pub IsDueUnread : Shelved → Option Command → Status → List ℕ → Type 0
IsDueUnread shelf None status text = IsUsageDue status text
IsDueUnread shelf (Some (run specification script settings workers format)) status text =
    IsSecondDue shelf (Script settings workers format) specification script status text
IsDueUnread shelf (Some (check specification)) status text = IsCheckDue shelf specification status text
IsDueUnread shelf (Some (equal specification first second budget)) status text = IsEqualDue shelf specification first second budget status text
IsDueUnread shelf (Some (replay specification trace budget)) status text = IsSecondDue shelf (Trace budget) specification trace status text
IsDueUnread shelf (Some (migrate specification trace)) status text = IsSecondDue shelf Migration specification trace status text
IsDueUnread shelf (Some (sim specification settings)) status text = IsOpeningDue shelf specification status text
IsDueUnread shelf (Some (selfrun seed size workers)) status text = IsSelfrunDue seed size status text

-- what a command that reads the input writes, and how it ends, if it does: `sim` alone reads it, once its specification is accepted
abbrev pub IsDueRead : Outside → Option Command → Option End → List ℕ → Type 0
IsDueRead known (Some (sim specification settings)) ending text = IsOfSimulation known.shelf specification settings known.input ending text
IsDueRead known _ ending text = ⊥

-- which status is due, with which text
abbrev pub IsDue : Outside → Option Command → Status → List ℕ → Type 0
IsDue known command status text = IsDueUnread known.shelf command status text ⊎
    ((end : End) × IsDueRead known command (Some end) text × (status ≡ status_of end))

-- a text that is due as far as the call came: with some status; or that of a simulation that was broken off
abbrev pub IsDueSoFar : Outside → Option Command → List ℕ → Type 0
IsDueSoFar known command text = ((status : Status) × IsDue known command status text) ⊎ IsDueRead known command None text

-- what is due once the files were fetched, where the input isn't read: a text with its status; or else the words name `sim`, and the specification,
-- which is accepted and ready to run, is to be simulated
abbrev pub IsToSimulate : Shelved → Option Command → Program → Settings → Type 0
IsToSimulate shelf (Some (sim specification chosen)) program settings =
    (settings ≡ chosen) × OnFetched shelf.files specification (λ bytes. IsAccepted (take 4194305 bytes) program)
IsToSimulate shelf _ program settings = ⊥

abbrev pub IsDueNow : Shelved → Option Command → Due → Type 0
IsDueNow shelf command (Text answer) = IsDueUnread shelf command answer.status answer.text.items
IsDueNow shelf command (Simulation checked settings) =
    IsToSimulate shelf command (program_of checked) settings × IsReady (program_of checked)

-- `sim` alone may change the input
abbrev pub LeavesInput : {I : Type 0} → Option Command → I → I → Type 0
LeavesInput (Some (sim specification settings)) before after = Unit {0}
LeavesInput _ before after = after ≡ before

-- the status is due, and the text that is due with it was written
abbrev pub IsAnswered : Outside → Option Command → Status → Type 0
IsAnswered known command status =
    (text : List ℕ) × IsDue known command status text × (known.written_after ≡ with_more text known.written_before)

-- a prefix of a text that is due was written
abbrev pub IsCutShort : Outside → Option Command → Type 0
IsCutShort known command =
    (text : List ℕ) × IsDueSoFar known command text × AppendsPrefix text known.written_before known.written_after

-- nothing was written, or no more than such a prefix
abbrev pub IsBrokenOff : Outside → Option Command → Type 0
IsBrokenOff known command = (known.written_after ≡ known.written_before) ⊎ IsCutShort known command
