use Rattle.std.proofs.Common.{◌≡◌, map, take}
use Rattle.type_contents.specs.Views.{described_of}
use Rattle.type_data.proofs.signature.sort_names.Given as goal

abbrev pub invariant-loop-one : goal.invariant-loop-one
invariant-loop-one l = l.all.items ≡ map (λ d. d.spelled) (map described_of (take l.one-index l.described))
