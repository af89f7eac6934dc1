use Rattle.std.proofs.Common.{◌+◌, ◌∙◌, sym, ap}
use Rattle.symbolic_plans.specs.Plans.{below, plan_of}
use Rattle.symbolic_plans.specs.Parts.{plan_behind}
use Rattle.symbolic_plans.proofs.Runs.{passed}
use Rattle.symbolic_plans.proofs.part.SchemePart.first.Goals as goal

pub returns-then-self-more : goal.returns-then-self-more
returns-then-self-more c = record {
  first = ap (λ z. below c.in-Under.row (plan_behind z (c.args.self.passed + 1))) c.in-Under.is
      ∙ passed c.in-Under.row c.in-Under.more c.args.self.passed (plan_of c.in-Under.part.value) c.if-self-more.true
      ∙ sym (ap (λ z. plan_behind z c.args.self.passed) c.in-Under.is);
}
