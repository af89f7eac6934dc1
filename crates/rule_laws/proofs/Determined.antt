-- Trees determine steps, and numbers determine behaviours.
use Rattle.rule_laws.specs.Laws.{TreesDetermineSteps, CodeIsOneBehaviour}
use Rattle.rule_laws.proofs.OneStep.{one_behaviour, one_step}

pub trees_determine_steps : TreesDetermineSteps
trees_determine_steps program executable s b d a x c y h k = one_step program executable d b s a x c y h k

pub code_is_one_behaviour : CodeIsOneBehaviour
code_is_one_behaviour program n b c h k = one_behaviour program n b c h k
