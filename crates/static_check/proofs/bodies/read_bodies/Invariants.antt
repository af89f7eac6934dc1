use Rattle.std.proofs.Common.{◌≡◌, ◌++◌, map, take, drop}
use Rattle.std.specs.Prelude.{option_map}
use Rattle.static_readings.specs.Views.{output_of}
use Rattle.static_processes.specs.Views.{entry_of}
use Rattle.spec_core.specs.Code.{node_of}
use Rattle.static_check.specs.Bodies.{calls_from}
use Rattle.static_check.specs.Steps.{AreReadSoFar}
use Rattle.static_check.specs.Views.{data_of, setting_of}
use Rattle.static_check.proofs.bodies.read_bodies.Given as goal

abbrev pub invariant-loop-number : goal.invariant-loop-number
invariant-loop-number l = record {
  read : AreReadSoFar (setting_of l.fn.site.context l.setting) (map entry_of (take l.number l.setting.table.now)) (output_of l.fn.out) (output_of l.out)
      (option_map (map node_of) (option_map (λ v. v.items) l.nodes));
  calls : map (λ calls. calls.items) l.calls.items ++ calls_from (setting_of l.fn.site.context l.setting) l.number (map entry_of (drop l.number l.setting.table.now))
      ≡ calls_from (setting_of l.fn.site.context l.setting) 0 (map entry_of l.setting.table.now);
  site : data_of l.site.context ≡ data_of l.fn.site.context;
}
