use Rattle.std.proofs.Common.{◌≡◌, rules, arith, string_bytes}
use Rattle.spec_generator.proofs.Scripts.{all_put, none_put, pair_more}
use Rattle.spec_generator.proofs.script.put_script.Goals as goal

pub loop-turn-init : goal.loop-turn-init
loop-turn-init c =
    none_put c.args.seed c.args.size c.first-number.result (string_bytes c.args.out.now) c.first-number.ensures.number
    c.first-number.ensures.bound

pub loop-turn-preserved : goal.loop-turn-preserved
loop-turn-preserved c =
    pair_more c.args.seed c.args.size c.loop-turn._turn c.loop-turn.number c.next-number.result (string_bytes c.args.out.now)
    (string_bytes c.loop-turn.out) (string_bytes c.put_pair.new.out) c.loop-turn.invariant c.next-number.ensures.number
    c.next-number.ensures.bound (search rules)

pub returns : goal.returns
returns c =
    let all : c.loop-turn._turn ≡ c.args.size = omega arith in
    all_put c.args.seed c.args.size c.loop-turn._turn c.loop-turn.number (string_bytes c.args.out.now) (string_bytes c.loop-turn.out)
    c.loop-turn.invariant all
