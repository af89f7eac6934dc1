-- What is due for `sim`.
use Rattle.std.specs.Prelude.{ℕ, ◌≡◌, List, Option, Some, codes, take}
use Rattle.lotos_outside.specs.Shelf.{OnFetched}
use Rattle.lotos_outside.specs.Sink.{with_more}
use Rattle.lotos_front.specs.Answers.{IsAccepted}
use Rattle.run_settings.specs.declared.settings.Settings.{Settings}
use Rattle.spec_core.specs.Code.{Program, program_of}
use Rattle.spec_core.specs.Ready.{IsReady}
use Rattle.command_lines.specs.Inputs.{Input}
use Rattle.command_sim.specs.declared.end.End.{End}
use Rattle.command_sim.specs.declared.end.End.TheVariants as ends
use Rattle.command_sim.specs.Simulations.{IsSimulated}
use Rattle.lotos_run.specs.declared.sim.Opened.{Opened}
use Rattle.lotos_run.specs.declared.sim.Opened.TheVariants.{Accepted, Instead}
use Rattle.lotos_run.specs.declared.status.Status.{Status}
use Rattle.lotos_run.specs.declared.status.Status.TheVariants.{Done, Refused, ReadFault, Spent, Limit}
use Rattle.lotos_run.specs.Checks.{IsReported, OnAccepted}
use Rattle.lotos_run.specs.Outside.{Shelved, IsUnread}

-- the status with which a simulation ends
abbrev pub status_of : End → Status
status_of ends.Done = Done
status_of ends.Spent = Spent
status_of ends.Limit = Limit
status_of ends.Unread = ReadFault

-- a simulation by these settings has ended, with this status, and what it writes was written
abbrev pub EndsWith : Program → Settings → Input → Option (List ℕ) → Option (List ℕ) → Status → Type 0
EndsWith program settings input before after status = (text : List ℕ) × (end : End) ×
    IsSimulated program settings input text (Some end) × (after ≡ with_more text before) × (status ≡ status_of end)

-- what is due for the text of a specification in place of its simulation: its first refusal
abbrev pub IsRefusedInstead : List ℕ → Status → List ℕ → Type 0
IsRefusedInstead text Refused answer = IsReported text answer
IsRefusedInstead text _ answer = ⊥

-- what comes of the text of a specification that is to be simulated: it is accepted, and ready to run; or it isn't
abbrev pub IsOpened : List ℕ → Opened → Type 0
IsOpened text (Accepted checked) = IsAccepted text (program_of checked) × IsReady (program_of checked)
IsOpened text (Instead answer) = IsRefusedInstead text answer.status answer.text.items

module _ (shelf : Shelved) (specification : List ℕ) where
  -- What is due in place of a simulation, with which text, and when. Of the file the first 4,194,305 bytes are judged, as by `check`.
  --   refused: the text has a first refusal;
  --   read fault: the fetch of the file failed.
  abbrev pub IsOpeningDue : Status → List ℕ → Type 0
  IsOpeningDue Refused text = OnFetched shelf.files specification (λ bytes. IsReported (take 4194305 bytes) text)
  IsOpeningDue ReadFault text = (text ≡ codes "read fault\n") × IsUnread shelf specification
  IsOpeningDue _ text = ⊥

  -- what comes of the specification in the file: it is accepted, and ready to run; or it isn't, or its file couldn't be read
  abbrev pub IsFileOpened : Opened → Type 0
  IsFileOpened (Accepted checked) =
      OnFetched shelf.files specification (λ bytes. IsAccepted (take 4194305 bytes) (program_of checked)) × IsReady (program_of checked)
  IsFileOpened (Instead answer) = IsOpeningDue answer.status answer.text.items

  -- what a simulation by these settings of the specification in the file, which is accepted, writes of this input; and how it ends, if it does
  abbrev pub IsOfSimulation : Settings → Input → Option End → List ℕ → Type 0
  IsOfSimulation settings input ending text = OnAccepted shelf specification (λ program. IsSimulated program settings input text ending)
