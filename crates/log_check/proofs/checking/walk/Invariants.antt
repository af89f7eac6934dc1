use Rattle.std.specs.Prelude.{map, take}
use Rattle.rule_model.specs.Events.{event_of}
use Rattle.rule_model.specs.Legal.{IsDerivation}
use Rattle.match_code.specs.Prepared.{program_in}
use Rattle.log_check.specs.Checked.{EntriesAreWithin}
use Rattle.log_check.specs.Views.{state_of}
use Rattle.log_check.proofs.checking.walk.Given as goal

abbrev pub invariant-loop-place : goal.invariant-loop-place
invariant-loop-place l = record {
  derivation : IsDerivation (program_in l.prepared) (map event_of (take l.place l.entries)) (state_of l.initial.state) (state_of l.state);
  within : EntriesAreWithin (program_in l.prepared) (map event_of (take l.place l.entries)) (state_of l.initial.state) l.budget;
}
