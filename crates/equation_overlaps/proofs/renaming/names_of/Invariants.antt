use Rattle.std.proofs.Common.{◌≡◌, ◌<◌, length, map, take}
use Rattle.spec_core.specs.Lists.{Each}
use Rattle.equation_overlaps.specs.Renamings.{new_name}
use Rattle.equation_overlaps.proofs.renaming.names_of.Given as goal

abbrev pub invariant-loop-i : goal.invariant-loop-i
invariant-loop-i l = record {
  reached : Each (λ n. n < length l.names.items) l.from;
  renamed : map (new_name l.names.items) (take l.i l.from) ≡ take l.i l.to;
}
