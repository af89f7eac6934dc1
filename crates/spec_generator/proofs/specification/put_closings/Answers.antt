use Rattle.std.proofs.Common.{rules, refl, string_bytes}
use Rattle.spec_generator.proofs.Ranges.{bracket_more}
use Rattle.spec_generator.proofs.specification.put_closings.Goals as goal

pub loop-turn-preserved : goal.loop-turn-preserved
loop-turn-preserved c =
    bracket_more c.loop-turn._turn _ (string_bytes c.args.out.now) (string_bytes c.loop-turn.out) (string_bytes c.put.new.out) refl
    c.loop-turn.invariant (search rules)
