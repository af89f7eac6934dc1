use Rattle.std.proofs.Common.{map, take}
use Rattle.std.specs.Prelude.{option_map}
use Rattle.std.specs.List.{zip}
use Rattle.spec_core.specs.Terms.{term_of}
use Rattle.sort_overloads.specs.Judged.{Adds}
use Rattle.static_readings.specs.Calls.{IsArgumentRead}
use Rattle.static_readings.specs.ReadsAll.{ReadsAll}
use Rattle.static_readings.specs.Views.{sort_if_known}
use Rattle.static_readings.proofs.values.values.Given as goal

abbrev pub invariant-loop-i : goal.invariant-loop-i
invariant-loop-i l = Adds (ReadsAll (λ e. IsArgumentRead l.site e.0 e.1) (take l.i (zip (map sort_if_known l.sorts) l.from)) (option_map (map term_of) (option_map (λ v. v.items) l.all))) l.initial.refusals.items l.refusals.items
