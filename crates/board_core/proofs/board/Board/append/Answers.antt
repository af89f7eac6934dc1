use Rattle.std.proofs.Common.{◌∙◌, ◌≤◌, IsTrue, ap, map, rules, subst, sym}
use Rattle.rule_model.specs.Derivations.{derivation_of}
use Rattle.decision_trees.specs.Rules.{takes, deadlocks, is_beyond, is_not_now, goes_on, stalls}
use Rattle.board_offers.specs.Offers.{offer_at}
use Rattle.board_core.specs.Entries.{entry_of}
use Rattle.board_core.specs.Views.{BoardView, state}
use Rattle.board_core.proofs.Entries.{at_limit}
use Rattle.board_core.proofs.board.Board.append.Goals as goal

pub stop_at_limit-requires-clause-limit : goal.stop_at_limit-requires-clause-limit
stop_at_limit-requires-clause-limit c =
    let v = c.args.self.now in
    let act : IsTrue c.is_act.result = search rules in
    at_limit v c.requires.due c.requires.rules
    (subst (λ n. v.settings.steps ≤ n) c.actions.ensures
    (subst (λ (z : BoardView). z.settings.steps ≤ c.actions.result) c.self.view_is c.if-actions-self.true))
    c.args.settled (c.is_act.ensures.0 act) c.requires.decided

pub take-requires-clause-due : goal.take-requires-clause-due
take-requires-clause-due c =
    let v = c.args.self.now in
    c.requires.due (takes (offer_at (state v).pending c.in-Takes.number) (derivation_of c.in-Takes.rules))
    (sym c.requires.decided ∙ ap (entry_of v) c.in-Takes.is)

pub go_on-requires-clause-due : goal.go_on-requires-clause-due
go_on-requires-clause-due c =
    let v = c.args.self.now in
    c.requires.due (goes_on (map derivation_of c.in-GoesOn.those.items)) (sym c.requires.decided ∙ ap (entry_of v) c.in-GoesOn.is)

pub tell_beyond-requires-clause-due : goal.tell_beyond-requires-clause-due
tell_beyond-requires-clause-due c =
    let v = c.args.self.now in
    c.requires.due (is_beyond (offer_at (state v).pending c.in-IsBeyond.number) (derivation_of c.in-IsBeyond.rules))
    (sym c.requires.decided ∙ ap (entry_of v) c.in-IsBeyond.is)

pub tell_not_now-requires-clause-due : goal.tell_not_now-requires-clause-due
tell_not_now-requires-clause-due c =
    let v = c.args.self.now in
    c.requires.due (is_not_now (offer_at (state v).pending c.in-IsNotNow.number)) (sym c.requires.decided ∙ ap (entry_of v) c.in-IsNotNow.is)

pub tell_deadlock-requires-clause-due : goal.tell_deadlock-requires-clause-due
tell_deadlock-requires-clause-due c = c.requires.due deadlocks (sym c.requires.decided ∙ ap (entry_of c.args.self.now) c.in-Deadlocks.is)

pub tell_stall-requires-clause-due : goal.tell_stall-requires-clause-due
tell_stall-requires-clause-due c = c.requires.due stalls (sym c.requires.decided ∙ ap (entry_of c.args.self.now) c.in-Stalls.is)
