use Rattle.std.proofs.Common.{◌∙◌, map, sym, rules}
use Rattle.spec_core.specs.Code.{synchronised_of}
use Rattle.symbolic_plans.specs.OpenPlans.{kind_in}
use Rattle.candidate_composites.specs.Known.{sought_in}
use Rattle.candidate_composites.proofs.StandingFirst.{same_these}
use Rattle.candidate_composites.proofs.foremost.is_same_alone.Goals as goal

pub returns-in-These : goal.returns-in-These
returns-in-These c = λ e.
    same_these (synchronised_of c.args.gates.now) (sought_in c.args.sought.now) (map kind_in c.deref.result.now) (search rules)
    (sym c.are_alone.ensures ∙ e)
