use Rattle.std.proofs.Common.{arith, string_bytes, rules}
use Rattle.sort_overloads.specs.Variables.{variables_at}
use Rattle.sort_overloads.proofs.InScope.{removed}
use Rattle.sort_overloads.proofs.variables.Variables.pop.Goals as goal

pub invariant_of-self-in-Some : goal.invariant_of-self-in-Some
invariant_of-self-in-Some c = (
  omega arith,
  removed (variables_at c.self.inside.named) (variables_at c.remove_last.new.self) c.self.inside.all.items c.pop.new.self.items c.in-Some.variable (string_bytes c.in-Some.variable.small)
      c.in-Some.variable.in_small_letters (search rules) c.self.invariant.1 (search rules),
)
