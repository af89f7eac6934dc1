use Rattle.std.proofs.Common.{◌∙◌, sym}
use Rattle.std.proofs.lemmas.Bool.{true≢false}
use Rattle.rule_model.specs.Behaviours.{behaviour_of}
use Rattle.log_check.proofs.entry.stall.Goals as goal

pub returns-then-may_stall : goal.returns-then-may_stall
returns-then-may_stall c =
    let b = behaviour_of c.args.state.now.behaviour in
    let may = (c.may_stall.ensures b).0 c.if-may_stall.true in
    (may.some, may.all, c.stall.ensures b)

pub returns-else-may_stall : goal.returns-else-may_stall
returns-else-may_stall c next (some, all, e) =
    let may = (c.may_stall.ensures (behaviour_of c.args.state.now.behaviour)).1 (record { some = some; all = all }) in
    absurd (true≢false (sym may ∙ c.if-may_stall.false))
