use Rattle.std.proofs.Common.{◌∙◌, ap, option_map, sym}
use Rattle.rule_model.specs.Events.{ending_of}
use Rattle.rule_model.specs.Logs.{events_of}
use Rattle.client_runs.proofs.Endings.{end_is_so}
use Rattle.client_runs.proofs.Settled.{end_on}
use Rattle.session_closing.proofs.Leaving.{closed_off, whole_session}
use Rattle.session_closing.proofs.closing.close.Goals as goal

pub unreachable-requires : goal.unreachable-requires
unreachable-requires c =
    let m = c.settle_all.new.board in
    let h = c.in_ok-settle_all.ensures in
    end_on m c.log_is_a_derivation.ensures.ready h.settled (h.session.1 ∙ c.in_ok-leave_all.ensures.leave.closed)
    (sym c.in_ok-log.ensures.end ∙ ap (option_map ending_of) c.in-None.is)

pub returns-clause-log : goal.returns-clause-log
returns-clause-log c =
    closed_off c.args.board c.leave_all.new.board c.settle_all.new.board c.in_ok-leave_all.ensures.leave c.in_ok-settle_all.ensures.goes_on
    (events_of c.in_ok-log.log) c.in_ok-log.ensures.log

pub returns-clause-session : goal.returns-clause-session
returns-clause-session c =
    let m = c.settle_all.new.board in
    let h = c.in_ok-settle_all.ensures in
    let known = sym c.in_ok-log.ensures.end ∙ ap (option_map ending_of) c.in-Some.is in
    whole_session c.args.board c.leave_all.new.board m c.in_ok-leave_all.ensures.leave h.goes_on (events_of c.in_ok-log.log) c.in_ok-log.ensures.log
    h.session h.settled (ending_of c.in-Some.end)
    (end_is_so m c.first_trees_say.ensures.say c.first_trees_say.ensures.of_session c.log_is_a_derivation.ensures.reached (ending_of c.in-Some.end)
    known)
    c.requires.driven
