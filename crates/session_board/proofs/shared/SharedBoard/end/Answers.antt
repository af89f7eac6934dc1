use Rattle.std.proofs.Common.{◌+◌, ◌∙◌, ap, drop, length, map}
use Rattle.std.proofs.lemmas.List.{take_rest}
use Rattle.rule_model.specs.Events.{event_of}
use Rattle.session_board.specs.Lines.{actions_after}
use Rattle.session_board.specs.Shared.{SharedView}
use Rattle.session_board.proofs.Looking.{few_actions, none_found}
use Rattle.session_board.proofs.shared.SharedBoard.end.Goals as goal

pub end_from-requires-clause-few : goal.end_from-requires-clause-few
end_from-requires-clause-few c = few_actions c.args.self.now c.requires.running c.args.from c.requires.spot

pub returns-clause-spot : goal.returns-clause-spot
returns-clause-spot c =
    let v = c.args.self.now in
    let from = c.args.from in
    let rest =
    take_rest c.log.result.now from.lines
    ∙ ap (drop from.lines) (c.log.ensures.entries ∙ ap (λ (z : SharedView). z.board.session.entries) c.self.view_is) in
    (none_found v c.requires.running from c.requires.spot c.end_from.result
    (c.end_from.ensures.lines ∙ ap (λ l. from.lines + length l) rest)
    (c.end_from.ensures.actions ∙ ap (λ l. actions_after from.actions (map event_of l)) rest)).0
