use Rattle.std.proofs.Common.{rules, ◌≡◌, ◌<◌, ◌-◌, length, Some, arith}
use Rattle.std.specs.List.{slice_get}
use Rattle.spec_core.proofs.Lists.{each_implied}
use Rattle.sort_windows.proofs.Order.{none_longer}
use Rattle.sort_windows.proofs.ordered.are_shorter.Goals as goal

pub returns-in-Some : goal.returns-in-Some
returns-in-Some c = record {
  shorter = λ h.
      let l : c.size.result < c.size-in-Some.result = search (h, rules) in
      let last : slice_get c.args.values.now (length c.args.values.now - 1) ≡ Some c.in-Some.last.now = search rules in
      let full : length c.args.values.now ≡ c.args.limit = search rules in (
        full,
        each_implied _ _ c.args.values.now (λ w k. omega (arith, k, l, c.size.ensures.counted, c.size-in-Some.ensures.counted))
            (none_longer c.args.values.now c.in-Some.last.now c.requires.in_order last),
      );
}
