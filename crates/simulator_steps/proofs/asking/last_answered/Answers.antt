use Rattle.std.proofs.Common.{ap, option_map}
use Rattle.std.proofs.lemmas.Result.{IfOk-weaker}
use Rattle.rule_model.specs.Events.{event_of}
use Rattle.board_core.specs.Views.{events}
use Rattle.simulator_steps.proofs.Ends.{last_is_answer, last_told, some_answer}
use Rattle.simulator_steps.proofs.asking.last_answered.Goals as goal

pub unreachable-requires : goal.unreachable-requires
unreachable-requires c =
    some_answer c.log.result.now (events c.args.board.now) _ c.log.ensures.events c.last_entry.ensures
    (ap (option_map (λ entry. event_of entry.now)) c.in-None.is) c.requires.last

pub told_by-requires : goal.told_by-requires
told_by-requires c = record {
  answers =
      last_is_answer c.log.result.now (events c.args.board.now) _ (event_of c.in-Some.entry.now) c.log.ensures.events c.last_entry.ensures
      (ap (option_map (λ entry. event_of entry.now)) c.in-Some.is) c.requires.last;
}

pub returns : goal.returns
returns c =
    IfOk-weaker c.told_by.result _ _
    (λ a tells.
    last_told c.log.result.now (events c.args.board.now) _ (event_of c.in-Some.entry.now) a c.log.ensures.events c.last_entry.ensures
    (ap (option_map (λ entry. event_of entry.now)) c.in-Some.is) tells)
    c.told_by.ensures
