-- What is due, as far as a call came.
use Rattle.std.proofs.Common.{ℕ, ◌≡◌, ◌⊎◌, inl, inr, List, Option, Some, None, refl, subst, take}
use Rattle.run_settings.specs.declared.settings.Settings.{Settings}
use Rattle.spec_core.specs.Code.{Program}
use Rattle.lotos_front.specs.Answers.{IsAccepted}
use Rattle.command_sim.specs.declared.end.End.{End}
use Rattle.command_sim.specs.Simulations.{IsCut, IsSimulated}
use Rattle.command_words.specs.Commands.{Command, run, check, equal, replay, migrate, sim, selfrun}
use Rattle.lotos_run.specs.declared.status.Status.{Status}
use Rattle.lotos_run.specs.Due.{IsAnswered, IsBrokenOff, IsCutShort, IsDueRead, IsToSimulate}
use Rattle.lotos_run.specs.Outside.{Outside}
use Rattle.lotos_run.specs.Sims.{status_of, EndsWith}
use Rattle.lotos_run.proofs.Fetched.{fetched_implied}

module _ (known : Outside) where
  -- a simulation

  module _ (program : Program) (settings : Settings) where
    read_due : (command : Option Command) (ending : Option End) (text : List ℕ) → IsToSimulate known.shelf command program settings →
        IsSimulated program settings known.input text ending → IsDueRead known command ending text
    read_due None ending text h simulated = absurd h
    read_due (Some (run specification script settings workers format)) ending text h simulated = absurd h
    read_due (Some (check specification)) ending text h simulated = absurd h
    read_due (Some (equal specification first second budget)) ending text h simulated = absurd h
    read_due (Some (replay specification trace budget)) ending text h simulated = absurd h
    read_due (Some (migrate specification trace)) ending text h simulated = absurd h
    read_due (Some (sim specification chosen)) ending text (same, accepted) simulated =
        fetched_implied (λ bytes. IsAccepted (take 4194305 bytes) program)
        (λ bytes. (p : Program) × IsAccepted (take 4194305 bytes) p × IsSimulated p chosen known.input text ending)
        (λ bytes h. (program, h, subst (λ s. IsSimulated program s known.input text ending) same simulated)) known.shelf.files specification accepted
    read_due (Some (selfrun seed size workers)) ending text h simulated = absurd h

    pub answered_sim : (command : Option Command) (status : Status) → IsToSimulate known.shelf command program settings →
        EndsWith program settings known.input known.written_before known.written_after status → IsAnswered known command status
    answered_sim command status h (text, end, simulated, written, is) =
        (text, inr (end, read_due command (Some end) text h simulated, is), written)

    pub cut_sim : (command : Option Command) → IsToSimulate known.shelf command program settings →
        IsCut program settings known.input known.written_before known.written_after → IsCutShort known command
    cut_sim command h (text, Some end, simulated, prefix) =
        (text, inl (status_of end, inr (end, read_due command (Some end) text h simulated, refl)), prefix)
    cut_sim command h (text, None, simulated, prefix) = (text, inr (read_due command None text h simulated), prefix)

    pub broken_sim : (command : Option Command) → IsToSimulate known.shelf command program settings →
        ((known.written_after ≡ known.written_before) ⊎ IsCut program settings known.input known.written_before known.written_after) →
        IsBrokenOff known command
    broken_sim command h (inl same) = inl same
    broken_sim command h (inr cut) = inr (cut_sim command h cut)
