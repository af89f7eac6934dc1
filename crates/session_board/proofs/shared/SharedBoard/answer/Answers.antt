use Rattle.std.proofs.Common.{◌+◌, ◌≡◌, ◌≤◌, ◌∙◌, ap, arith, drop, length, map, option_map, subst, sym}
use Rattle.std.proofs.lemmas.List.{take_rest}
use Rattle.rule_model.specs.Events.{event_of}
use Rattle.session_board.specs.Answers.{first_answer}
use Rattle.session_board.specs.Lines.{actions_after}
use Rattle.session_board.specs.Shared.{HasDrivenLog, SharedView}
use Rattle.session_board.specs.Spots.{found_at}
use Rattle.session_board.proofs.Looking.{IsAnswerAt, few_actions, found_at_place, none_found}
use Rattle.session_board.proofs.shared.SharedBoard.answer.Goals as goal

pub answer_from-requires-clause-few : goal.answer_from-requires-clause-few
answer_from-requires-clause-few c = few_actions c.args.self.now c.requires.running c.args.spot c.requires.spot

pub returns-in-None-clause-spot : goal.returns-in-None-clause-spot
returns-in-None-clause-spot c =
    let v = c.args.self.now in
    let spot = c.args.spot in
    let place = c.answer_from.result.0 in
    let rest =
    take_rest c.log-log.result.now spot.lines
    ∙ ap (drop spot.lines) (c.log-log.ensures.entries ∙ ap (λ (z : SharedView). z.board.session.entries) c.self.view_is) in
    let none = c.answer_from.ensures.none c.in-None.is in
    let long : place.lines ≡ spot.lines + length (drop spot.lines v.board.session.entries) = none.0 ∙ ap (λ l. spot.lines + length l) rest in
    let more : spot.lines ≤ place.lines = omega (arith, long) in (
      (none_found v c.requires.running spot c.requires.spot place long
          (none.1 ∙ ap (λ l. actions_after spot.actions (map event_of l)) rest)).0,
      more,
    )

pub returns-in_ok-reply-in-Some-clause-spot : goal.returns-in_ok-reply-in-Some-clause-spot
returns-in_ok-reply-in-Some-clause-spot c =
    let v = c.args.self.now in
    let spot = c.args.spot in
    let place = c.answer_from.result.0 in
    let driven : HasDrivenLog v.board = subst (λ (z : SharedView). HasDrivenLog z.board) c.self.view_is c.self.invariant.driven in
    let rest =
    take_rest c.log-log.result.now spot.lines
    ∙ ap (drop spot.lines) (c.log-log.ensures.entries ∙ ap (λ (z : SharedView). z.board.session.entries) c.self.view_is) in
    let found = ap (option_map (found_at place)) (sym c.in-Some.is) ∙ c.answer_from.ensures.found
    ∙ ap (λ l. first_answer spot.lines spot.actions (map event_of l) c.args.name) rest in
    (found_at_place v c.requires.running spot c.requires.spot place c.args.name c.in-Some.answered driven found).0

pub returns-in_ok-reply-in-Some-clause-answered : goal.returns-in_ok-reply-in-Some-clause-answered
returns-in_ok-reply-in-Some-clause-answered c =
    let v = c.args.self.now in
    let spot = c.args.spot in
    let place = c.answer_from.result.0 in
    let driven : HasDrivenLog v.board = subst (λ (z : SharedView). HasDrivenLog z.board) c.self.view_is c.self.invariant.driven in
    let rest =
    take_rest c.log-log.result.now spot.lines
    ∙ ap (drop spot.lines) (c.log-log.ensures.entries ∙ ap (λ (z : SharedView). z.board.session.entries) c.self.view_is) in
    let found = ap (option_map (found_at place)) (sym c.in-Some.is) ∙ c.answer_from.ensures.found
    ∙ ap (λ l. first_answer spot.lines spot.actions (map event_of l) c.args.name) rest in
    subst (IsAnswerAt v place c.args.name) (sym c.in_ok-reply-in-Some.ensures)
    (found_at_place v c.requires.running spot c.requires.spot place c.args.name c.in-Some.answered driven found).1

pub returns-in-None-clause-none : goal.returns-in-None-clause-none
returns-in-None-clause-none c =
    let spot = c.args.spot in
    let rest =
    take_rest c.log-log.result.now spot.lines
    ∙ ap (drop spot.lines) (c.log-log.ensures.entries ∙ ap (λ (z : SharedView). z.board.session.entries) c.self.view_is) in
    sym
    (ap (option_map (found_at c.answer_from.result.0)) (sym c.in-None.is) ∙ c.answer_from.ensures.found
    ∙ ap (λ l. first_answer spot.lines spot.actions (map event_of l) c.args.name) rest)
