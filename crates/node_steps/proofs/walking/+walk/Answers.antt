use Rattle.std.proofs.Common.{rules, ◌≡◌, ◌∙◌, map, sym, ap, subst}
use Rattle.spec_core.specs.Code.{synchronised_of}
use Rattle.rule_origins.specs.Parts.{behaviour_at}
use Rattle.rule_origins.specs.Values.{assignment}
use Rattle.symbolic_plans.specs.Parts.{plan_of_first, plan_of_part}
use Rattle.symbolic_plans.specs.Plans.{below, hidden, handed_on, field_of, plan_of}
use Rattle.symbolic_reach.specs.Asking.{PlanAsks}
use Rattle.match_code.specs.Prepared.{program_in}
use Rattle.node_steps.specs.Asking.{WithinAsks}
use Rattle.node_steps.specs.Parts.{own_or}
use Rattle.node_steps.specs.Frames.{standing}
use Rattle.node_steps.specs.Turns.{TurnsOr}
use Rattle.node_steps.proofs.Asked.{stops_more, under_asks}
use Rattle.node_steps.proofs.Turning.{no_sides, no_left, no_right, both_turns}
use Rattle.node_steps.proofs.Walks.{of_plan, prefix_walks, exit_walks, inner_walks, under_walks, hidden_walks, ending_walks, nothing_within}
use Rattle.node_steps.proofs.Walks.{something_within, turned_none, turned_some}
use Rattle.node_steps.proofs.walking.+walk.Goals as goal

pub walk-returns-in-Pre-clause-turns : goal.walk-returns-in-Pre-clause-turns
walk-returns-in-Pre-clause-turns t c =
    let program = program_in c.args.prepared.now in
    let s = assignment program.theory c.args.values.now in
    let b = standing program c.args.site.now in
    prefix_walks program c.requires.ready.executable c.args.from s b (plan_of_part c.args.part) _ c.acts.result
    (sym c.first.ensures.first ∙ ap plan_of_first c.in-Pre.is) c.acts.ensures.turns

pub walk-returns-in_ok-acts_inside-in-Int-clause-turns : goal.walk-returns-in_ok-acts_inside-in-Int-clause-turns
walk-returns-in_ok-acts_inside-in-Int-clause-turns t c =
    let program = program_in c.args.prepared.now in
    let s = assignment program.theory c.args.values.now in
    let b = standing program c.args.site.now in
    inner_walks program c.requires.ready.executable c.args.from s b (plan_of_part c.args.part) c.in_ok-acts_inside-in-Int.field-0
    (sym c.first.ensures.first ∙ ap plan_of_first c.in-Int.is) (c.in_ok-acts_inside-in-Int.ensures.turns c.args.from)

pub walk-returns-in-Exit-clause-turns : goal.walk-returns-in-Exit-clause-turns
walk-returns-in-Exit-clause-turns t c =
    let program = program_in c.args.prepared.now in
    let s = assignment program.theory c.args.values.now in
    let b = standing program c.args.site.now in
    exit_walks program c.requires.ready.executable c.args.from s b (plan_of_part c.args.part) _ c.terminates.result
    (sym c.first.ensures.first ∙ ap plan_of_first c.in-Exit.is) c.terminates.ensures.turns

pub walk-returns-in_ok-entered-in-Hide-clause-turns : goal.walk-returns-in_ok-entered-in-Hide-clause-turns
walk-returns-in_ok-entered-in-Hide-clause-turns t c =
    let program = program_in c.args.prepared.now in
    let s = assignment program.theory c.args.values.now in
    let b = standing program c.args.site.now in
    hidden_walks program c.requires.ready.executable b c.args.values.now c.args.from (plan_of_part c.args.part) _ _
    c.in_ok-entered-in-Hide.entered c.walk_within.result
    (sym c.first.ensures.first ∙ ap plan_of_first c.in-Hide.is
    ∙ ap (hidden (map field_of c.in-Hide.field-0.now)) (sym c.whole.ensures.whole))
    c.in_ok-entered-in-Hide.ensures.enters c.walk_within.ensures.turns

pub walk-returns-in_ok-entered-in-Enend-clause-turns : goal.walk-returns-in_ok-entered-in-Enend-clause-turns
walk-returns-in_ok-entered-in-Enend-clause-turns t c =
    let program = program_in c.args.prepared.now in
    let s = assignment program.theory c.args.values.now in
    let b = standing program c.args.site.now in
    ending_walks program c.requires.ready.executable b c.args.values.now c.args.from (plan_of_part c.args.part) _ _
    c.in_ok-entered-in-Enend.entered c.walk_within-in-Enend.result
    (sym c.first.ensures.first ∙ ap plan_of_first c.in-Enend.is
    ∙ ap (handed_on (map field_of c.in-Enend.field-0.now)) (sym c.whole-in-Enend.ensures.whole))
    c.in_ok-entered-in-Enend.ensures.enters c.walk_within-in-Enend.ensures.turns

pub walk_under-returns-clause-turns : goal.walk_under-returns-clause-turns
walk_under-returns-clause-turns t c =
    let program = program_in c.args.prepared.now in
    let s = assignment program.theory c.args.values.now in
    let b = standing program c.args.site.now in
    under_walks program c.requires.ready.executable c.args.row.now b c.args.values.now c.args.from c.in_ok-inner.inner
    (plan_of_part c.args.part) c.in_ok-entered.entered c.walk_within.result c.in_ok-inner.ensures.after c.in_ok-entered.ensures.enters
    c.walk_within.ensures.turns

pub walk_within-returns-in-None-2-clause-turns : goal.walk_within-returns-in-None-2-clause-turns
walk_within-returns-in-None-2-clause-turns t c =
    let program = program_in c.args.prepared.now in
    let values : c.values_within-inner.result.now ≡ own_or c.args.values.now c.in-Some.found.values = search rules in
    nothing_within program c.requires.ready.executable c.args.values.now c.args.from c.args.entered c.in-Some.found
    (plan_of_part c.args.part) c.in_ok-walk-in-Some.field-0 c.in-Some.is c.in-None-2.is
    (c.past_choices-place.ensures.turns c.args.from (assignment program.theory (own_or c.args.values.now c.in-Some.found.values))
    c.in_ok-walk-in-Some.field-0
    (subst (λ l. TurnsOr program c.args.from (assignment program.theory l) (standing program c.past_choices-place.result.0)
    (plan_of_part c.past_choices-place.result.1) c.in_ok-walk-in-Some.field-0) values c.in_ok-walk-in-Some.ensures.turns))

pub walk_within-returns-clause-turns : goal.walk_within-returns-clause-turns
walk_within-returns-clause-turns t c =
    let program = program_in c.args.prepared.now in
    let values : c.values_within-inner.result.now ≡ own_or c.args.values.now c.in-Some.found.values = search rules in
    something_within program c.requires.ready.executable c.args.values.now c.args.from c.args.entered c.in-Some.found
    (plan_of_part c.args.part) c.in_ok-walk-in-Some.field-0 c.in-Some-2.turn c.in_ok-leave-in-Some-2.field-0 c.in-Some.is c.in-Some-2.is
    (c.past_choices-place.ensures.turns c.args.from (assignment program.theory (own_or c.args.values.now c.in-Some.found.values))
    c.in_ok-walk-in-Some.field-0
    (subst (λ l. TurnsOr program c.args.from (assignment program.theory l) (standing program c.past_choices-place.result.0)
    (plan_of_part c.past_choices-place.result.1) c.in_ok-walk-in-Some.field-0) values c.in_ok-walk-in-Some.ensures.turns))
    c.in_ok-leave-in-Some-2.ensures.leaves

pub walk_both-returns-in-None-clause-turns : goal.walk_both-returns-in-None-clause-turns
walk_both-returns-in-None-clause-turns t c =
    let program = program_in c.args.prepared.now in
    let s = assignment program.theory c.args.values.now in
    let b = standing program c.args.site.now in
    let p = plan_of c.args.left.now in
    let q = plan_of c.args.right.now in
    no_sides program c.requires.ready.executable s b p q c.in-None.ensures.none

pub walk_both-returns-in-None-2-clause-turns : goal.walk_both-returns-in-None-2-clause-turns
walk_both-returns-in-None-2-clause-turns t c =
    let program = program_in c.args.prepared.now in
    let s = assignment program.theory c.args.values.now in
    let b = standing program c.args.site.now in
    let p = plan_of c.args.left.now in
    let q = plan_of c.args.right.now in
    let gates = synchronised_of c.in-Some.gates.now in
    let one = behaviour_at program c.in-Some.one in
    let other = behaviour_at program c.in-Some.other in
    no_left program c.requires.ready.executable s b gates one other p q c.in-Some.ensures.some
    (turned_none program c.requires.ready.executable c.args.from s one p c.in_ok-walk-in-Some.field-0 c.in-None-2.is
    (of_plan program c.requires.ready.executable c.args.from s one (plan_of_part c.whole.result) p c.in_ok-walk-in-Some.field-0
    c.whole.ensures.whole c.in_ok-walk-in-Some.ensures.turns))

pub walk_both-returns-in-None-3-clause-turns : goal.walk_both-returns-in-None-3-clause-turns
walk_both-returns-in-None-3-clause-turns t c =
    let program = program_in c.args.prepared.now in
    let s = assignment program.theory c.args.values.now in
    let b = standing program c.args.site.now in
    let p = plan_of c.args.left.now in
    let q = plan_of c.args.right.now in
    let gates = synchronised_of c.in-Some.gates.now in
    let one = behaviour_at program c.in-Some.one in
    let other = behaviour_at program c.in-Some.other in
    no_right program c.requires.ready.executable s b gates one other p q c.in-Some.ensures.some
    (turned_none program c.requires.ready.executable c.in_ok-next-in-Some-2.next s other q c.in_ok-walk-in-Some-2.field-0 c.in-None-3.is
    (of_plan program c.requires.ready.executable c.in_ok-next-in-Some-2.next s other (plan_of_part c.whole-in-Some-2.result) q
    c.in_ok-walk-in-Some-2.field-0 c.whole-in-Some-2.ensures.whole c.in_ok-walk-in-Some-2.ensures.turns))

pub walk_both-returns-clause-turns : goal.walk_both-returns-clause-turns
walk_both-returns-clause-turns t c =
    let program = program_in c.args.prepared.now in
    let s = assignment program.theory c.args.values.now in
    let b = standing program c.args.site.now in
    let p = plan_of c.args.left.now in
    let q = plan_of c.args.right.now in
    let gates = synchronised_of c.in-Some.gates.now in
    let one = behaviour_at program c.in-Some.one in
    let other = behaviour_at program c.in-Some.other in
    both_turns program c.requires.ready.executable s b gates one other c.args.from c.in_ok-next-in-Some-2.next p q c.in-Some-2.first
    c.in-Some-3.second _ c.in-Some.ensures.some c.in_ok-next-in-Some-2.ensures.after
    (turned_some program c.requires.ready.executable c.args.from s one p c.in_ok-walk-in-Some.field-0 c.in-Some-2.first c.in-Some-2.is
    (of_plan program c.requires.ready.executable c.args.from s one (plan_of_part c.whole.result) p c.in_ok-walk-in-Some.field-0
    c.whole.ensures.whole c.in_ok-walk-in-Some.ensures.turns))
    (turned_some program c.requires.ready.executable c.in_ok-next-in-Some-2.next s other q c.in_ok-walk-in-Some-2.field-0
    c.in-Some-3.second c.in-Some-3.is
    (of_plan program c.requires.ready.executable c.in_ok-next-in-Some-2.next s other (plan_of_part c.whole-in-Some-2.result) q
    c.in_ok-walk-in-Some-2.field-0 c.whole-in-Some-2.ensures.whole c.in_ok-walk-in-Some-2.ensures.turns))
    c.in_ok-side_by_side-in-Some-3.ensures.action c.in_ok-side_by_side-in-Some-3.ensures.rest

pub walk_under-returns-clause-fault : goal.walk_under-returns-clause-fault
walk_under-returns-clause-fault t c =
    let program = program_in c.args.prepared.now in
    let p = plan_of_part c.args.part in
    let s = assignment program.theory c.args.values.now in
    let b = standing program c.args.site.now in
    stops_more program.theory c.args.budget (WithinAsks program c.args.values.now c.in_ok-entered.entered p) (PlanAsks program (below c.args.row.now p) s b)
    c.walk_within.result
    (λ x h. under_asks program c.args.row.now b c.args.values.now p c.in_ok-entered.entered x c.in_ok-entered.ensures.enters h)
    c.walk_within.ensures.fault
