use Rattle.std.proofs.Common.{ap, rules, subst}
use Rattle.std.proofs.lemmas.Result.{IfOk-weaker}
use Rattle.run_settings.specs.declared.settings.Settings.{Settings}
use Rattle.spec_core.specs.Code.{program_of}
use Rattle.board_laws.specs.JobValues.{GivesValues}
use Rattle.rule_model.specs.WishViews.{wish_of}
use Rattle.script_text.specs.Wishes.{wished_of}
use Rattle.simulator.proofs.Wishing.{asked_so, offer_gives, without_value}
use Rattle.simulator.proofs.offering.offer.Goals as goal

pub ask-requires-clause-values : goal.ask-requires-clause-values
ask-requires-clause-values c =
    let theory = (program_of c.prepared.result.checked.now).theory in
    subst (λ k. GivesValues (program_of k).theory c.in-Ok.wish.offer) c.prepared.ensures.checked
    (offer_gives theory (wished_of c.args.wish.now) (wish_of c.in-Ok.wish) c.in-Ok.ensures.valued)

pub returns-in-Ok-clause-offer : goal.returns-in-Ok-clause-offer
returns-in-Ok-clause-offer c =
    IfOk-weaker c.ask.result _ _
    (λ answered h.
    asked_so c.args.board.now c.prepared.result.checked.now c.prepared.ensures.checked c.settings-budget.result.budget
    (ap (λ (k : Settings). k.budget) c.settings-budget.ensures) (wished_of c.args.wish.now) c.ask.new.board (wish_of c.in-Ok.wish)
    c.in-Ok.ensures.valued c.in-Ok.ensures.within answered h)
    c.ask.ensures.answered

pub returns-in_ok-reply_of-in-Err-clause-offer : goal.returns-in_ok-reply_of-in-Err-clause-offer
returns-in_ok-reply_of-in-Err-clause-offer c =
    without_value c.args.board.now c.prepared.result.checked.now c.prepared.ensures.checked c.settings-budget.result.budget
    (ap (λ (k : Settings). k.budget) c.settings-budget.ensures) (wished_of c.args.wish.now) c.in-Err.fault c.in_ok-reply_of-in-Err.field-0
    c.actions-at.result (search rules) c.in-Err.ensures.fault c.in_ok-reply_of-in-Err.ensures
