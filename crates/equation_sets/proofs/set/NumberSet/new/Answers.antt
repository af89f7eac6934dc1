use Rattle.std.proofs.Common.{length-append, ◌+◌, ◌∙◌, ◌∷◌, [], false, subst, ap, length}
use Rattle.equation_sets.specs.Members.{IsIn}
use Rattle.equation_sets.proofs.Flags.{in_pushed}
use Rattle.equation_sets.proofs.set.NumberSet.new.Goals as goal

pub loop-preserved : goal.loop-preserved
loop-preserved c = record {
  sized = ap length c.in_ok-push.ensures.items ∙ length-append c.loop.flags.items (false ∷ []) ∙ ap (λ n. n + 1) c.loop.invariant.sized;
  empty = λ n h. c.loop.invariant.empty n (in_pushed n c.loop.flags.items (subst (IsIn n) c.in_ok-push.ensures.items h));
}
