use Rattle.std.proofs.Common.{◌≡◌, map, take}
use Rattle.type_contents.specs.Views.{described_of}
use Rattle.static_presentation.proofs.signature.names_of.Given as goal

abbrev pub invariant-loop-sort : goal.invariant-loop-sort
invariant-loop-sort l = l.all.items ≡ map (λ d. d.spelled) (map described_of (take l.sort-index l.sorts))
