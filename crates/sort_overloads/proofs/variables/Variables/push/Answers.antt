use Rattle.std.proofs.Common.{arith, string_bytes, rules}
use Rattle.sort_overloads.specs.Variables.{variables_at}
use Rattle.sort_overloads.proofs.InScope.{put}
use Rattle.sort_overloads.proofs.variables.Variables.push.Goals as goal

pub invariant_of-self-in-Ok : goal.invariant_of-self-in-Ok
invariant_of-self-in-Ok c = (
  omega arith,
  put (variables_at c.self.inside.named) (variables_at c.add.new.self) c.self.inside.all.items c.push.new.self.items _ (string_bytes c.in_ok-key.key) c.len-number.result
      (search rules) (search rules) c.in_ok-push.ensures.items c.self.invariant.1 c.in-Ok.ensures.put,
)
