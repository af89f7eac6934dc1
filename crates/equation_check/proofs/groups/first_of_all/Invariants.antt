use Rattle.std.proofs.Common.{map, take}
use Rattle.spec_core.specs.Lists.{Each}
use Rattle.spec_core.specs.Orthogonality.{AreApart}
use Rattle.spec_core.specs.Theories.{theory_of, equation_of}
use Rattle.equation_check.specs.Groups.{seen}
use Rattle.equation_check.proofs.groups.first_of_all.Given as goal

abbrev pub invariant-loop-earlier : goal.invariant-loop-earlier
invariant-loop-earlier l =
    Each (λ d. AreApart (theory_of l.algebra) d (equation_of l.later)) (map seen (take l.earlier-index l.equations))
