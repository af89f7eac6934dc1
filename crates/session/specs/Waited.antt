-- What a client that waits finds. (This profile.)
use Rattle.std.specs.Prelude.{◌≡◌}
use Rattle.rule_model.specs.Answers.{answer_of}
use Rattle.session.specs.declared.waiting.Waited.{Waited}
use Rattle.session.specs.declared.waiting.Waited.TheVariants.{Answered, Busy, Idle}
use Rattle.session.specs.Passes.{KnowsAnswer, SamePass}
use Rattle.session.specs.Waiting.{WaitingView}

-- the answer, which its pass knows; or it waits for the same
abbrev pub ComesOfWaiting : WaitingView → Waited → Type 0
ComesOfWaiting w (Answered pass reply) = SamePass w.before pass × KnowsAnswer w.before w.offer w.ask (answer_of reply) pass
ComesOfWaiting w (Busy on) = on ≡ w
ComesOfWaiting w (Idle on) = on ≡ w
