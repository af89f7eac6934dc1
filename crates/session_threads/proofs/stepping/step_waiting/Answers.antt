use Rattle.std.proofs.Common.{subst}
use Rattle.rule_model.specs.Answers.{answer_of}
use Rattle.session.specs.Waited.{ComesOfWaiting}
use Rattle.session_threads.proofs.Turning.{rests_again}
use Rattle.session_threads.proofs.stepping.step_waiting.Goals as goal

pub returns-in-Answered-clause-sound : goal.returns-in-Answered-clause-sound
returns-in-Answered-clause-sound g c =
    let found = subst (ComesOfWaiting c.args.pass) c.in-Answered.is c.in_ok-pass.ensures.waits in
    rests_again c.args.session.now c.args.wishes.now c.args.left.now c.args.pass c.in-Answered.pass (answer_of c.in-Answered.field-1)
    c.requires.waiting found.0 found.1
