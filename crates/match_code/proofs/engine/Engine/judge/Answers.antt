use Rattle.spec_core.specs.Budgets.{IsBeyond}
use Rattle.spec_core.specs.Terms.{term_of}
use Rattle.spec_core.specs.Theories.{theory_of}
use Rattle.rewriter.specs.Answers.{MeetsTooLarge}
use Rattle.rewriter.proofs.Sides.{either}
use Rattle.match_code.proofs.engine.Engine.judge.Goals as goal

pub returns-in-Err-clause-spent : goal.returns-in-Err-clause-spent
returns-in-Err-clause-spent c h =
    either (λ t. IsBeyond (theory_of c.args.self.now.algebra.now) t c.args.budget) c.in-Err.field-0.side (term_of c.args.left.now)
    (term_of c.args.right.now) (c.in-Err.ensures.spent h)

pub returns-in-Err-clause-too_large : goal.returns-in-Err-clause-too_large
returns-in-Err-clause-too_large c h =
    either (MeetsTooLarge (theory_of c.args.self.now.algebra.now)) c.in-Err.field-0.side (term_of c.args.left.now) (term_of c.args.right.now)
    (c.in-Err.ensures.too_large h)
