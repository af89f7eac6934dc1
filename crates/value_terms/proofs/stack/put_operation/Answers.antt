use Rattle.std.proofs.Common.{rules}
use Rattle.spec_core.specs.Theories.{theory_of}
use Rattle.value_terms.proofs.Stacked.{put_on_top}
use Rattle.value_terms.proofs.stack.put_operation.Goals as goal

pub returns-in_ok-put-in-Some-2-clause-put : goal.returns-in_ok-put-in-Some-2-clause-put
returns-in_ok-put-in-Some-2-clause-put c = λ there w read.
    let t = c.in_ok-put-in-Some-2.ensures in
    put_on_top (theory_of c.args.algebra.now) c.args.stack.now.items c.take_arguments.new.stack.items c.put.new.stack.items
    c.in-Some-2.args.items t.0 c.args.op.0 c.in-Some.count w (search rules) (search rules) (search rules) t.1 t.2 read
