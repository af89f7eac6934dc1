use Rattle.std.proofs.Common.{◌≡◌, map, take}
use Rattle.static_processes.specs.Views.{entry_of}
use Rattle.static_check.proofs.judgement.names_of.Given as goal

abbrev pub invariant-loop-entry : goal.invariant-loop-entry
invariant-loop-entry l = map (λ n. n.now) l.names.items ≡ map (λ e. e.process.name.text) (map entry_of (take l.entry-index l.table))
