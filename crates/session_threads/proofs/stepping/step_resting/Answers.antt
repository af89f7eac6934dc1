use Rattle.session_threads.proofs.Turning.{awaits}
use Rattle.session_threads.proofs.stepping.step_resting.Goals as goal

pub returns-in_ok-pass-in-Some-clause-sound : goal.returns-in_ok-pass-in-Some-clause-sound
returns-in_ok-pass-in-Some-clause-sound g c =
    awaits c.args.session.now c.args.wishes.now c.args.left.now c.args.pass c.in-Some.wish.now c.in-Some.left.now c.in_ok-pass-in-Some.pass
    c.requires.resting c.in-Some.ensures.cases c.in_ok-pass-in-Some.ensures.waits
