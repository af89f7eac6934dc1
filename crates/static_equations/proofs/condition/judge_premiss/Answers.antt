use Rattle.static_equations.proofs.condition.judge_premiss.Goals as goal

pub returns-in-None : goal.returns-in-None
returns-in-None c = rw c.in-None.is c.judge_truth.ensures

pub returns-in-Some : goal.returns-in-Some
returns-in-Some c = rw c.in-Some.is c.judge_equality.ensures
