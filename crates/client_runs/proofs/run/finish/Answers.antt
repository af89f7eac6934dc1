use Rattle.std.proofs.Common.{◌∙◌, ap, option_map, sym}
use Rattle.rule_model.specs.Events.{ending_of}
use Rattle.rule_model.specs.Logs.{events_of}
use Rattle.client_runs.proofs.Endings.{end_is_so}
use Rattle.client_runs.proofs.Running.{ended_by}
use Rattle.client_runs.proofs.Settled.{end_on}
use Rattle.client_runs.proofs.run.finish.Goals as goal

pub unreachable-requires : goal.unreachable-requires
unreachable-requires c =
    let m = c.settle_all.new.board in
    let h = c.in_ok-settle_all.ensures in
    end_on m c.log_is_a_derivation.ensures.ready h.settled (h.session.1 ∙ c.requires.closed)
    (sym c.in_ok-log.ensures.end ∙ ap (option_map ending_of) c.in-None.is)

pub returns : goal.returns
returns c =
    let m = c.settle_all.new.board in
    let h = c.in_ok-settle_all.ensures in
    let known = sym c.in_ok-log.ensures.end ∙ ap (option_map ending_of) c.in-Some.is in
    ended_by c.args.board m h.session h.settled c.requires.closed h.continues (events_of c.in_ok-log.log) c.in_ok-log.ensures.log
    (ending_of c.in-Some.end)
    (end_is_so m c.first_trees_say.ensures.say c.first_trees_say.ensures.of_session c.log_is_a_derivation.ensures.reached (ending_of c.in-Some.end)
    known)
