use Rattle.equation_faults.proofs.Walks.{premises_next}
use Rattle.equation_faults.proofs.variables.add_premises_variables.Goals as goal

pub loop-premise-preserved : goal.loop-premise-preserved
loop-premise-preserved c =
    premises_next c.args.premises.now c.loop-premise.premise-index c.premise-item.result c.args.all.now.items c.loop-premise.all.items
    c.add_variables.new.all.items c.add_variables-in-loop-premise.new.all.items c.loop-premise-test.true c.premise-item.is c.loop-premise.invariant
    c.in_ok-add_variables.ensures c.in_ok-add_variables-2.ensures
