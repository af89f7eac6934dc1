use Rattle.equation_faults.proofs.Walks.{all_next}
use Rattle.equation_faults.proofs.variables.+variables.Goals as goal

pub add_all_variables-loop-term-preserved : goal.add_all_variables-loop-term-preserved
add_all_variables-loop-term-preserved t c =
    all_next c.args.args.now c.loop-term.term-index c.term-item.result c.args.all.now.items c.loop-term.all.items c.add_variables.new.all.items
    c.loop-term-test.true c.term-item.is c.loop-term.invariant c.in_ok-add_variables.ensures
