use Rattle.std.proofs.Common.{length, map, take}
use Rattle.std.specs.Prelude.{option_map}
use Rattle.std.specs.List.{enumerate_from}
use Rattle.spec_core.specs.Code.{binding_of}
use Rattle.sort_overloads.specs.Judged.{Adds}
use Rattle.static_readings.specs.Calls.{IsBindingRead}
use Rattle.static_readings.specs.ReadsAll.{ReadsAll}
use Rattle.static_readings.proofs.fields.bindings.Given as goal

abbrev pub invariant-loop-i : goal.invariant-loop-i
invariant-loop-i l = Adds (ReadsAll (IsBindingRead l.site) (take l.i (enumerate_from (length l.site.context.variables) l.from)) (option_map (map binding_of) (option_map (λ v. v.items) l.all))) l.initial.refusals.items l.refusals.items
