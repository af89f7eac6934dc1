use Rattle.std.proofs.Common.{rules, ◌≡◌, ap, map, subst}
use Rattle.spec_core.specs.Code.{relabelling_of}
use Rattle.rule_origins.specs.Parts.{behaviour_at}
use Rattle.rule_origins.specs.Values.{assignment}
use Rattle.symbolic_plans.specs.Parts.{plan_of_part}
use Rattle.symbolic_plans.specs.Plans.{plan_of}
use Rattle.match_code.specs.Prepared.{program_in}
use Rattle.node_steps.specs.Blanks.{blank_tree}
use Rattle.node_steps.specs.Frames.{standing}
use Rattle.node_steps.specs.Turns.{TurnsOr}
use Rattle.node_steps.proofs.Standing.{origin_way, no_origin_way}
use Rattle.node_steps.proofs.Walks.{of_plan, turned_none, turned_some}
use Rattle.node_steps.proofs.walking.way_along.Goals as goal

pub returns-in-None-clause-none : goal.returns-in-None-clause-none
returns-in-None-clause-none c =
    let program = program_in c.args.prepared.now in
    let values = c.args.origin.now.values.items in
    let p = plan_of c.args.scheme.now in
    let q = standing program c.in_ok-site.site in
    let same : c.deref.result.now ≡ values = search rules in
    no_origin_way program c.requires.ready.executable values (map relabelling_of c.args.origin.now.relabel.items)
    (behaviour_at program c.args.origin.now.node) q c.in_ok-site.ensures.stands p
    (turned_none program c.requires.ready.executable 0 (assignment program.theory values) q p c.in_ok-walk.field-0 c.in-None.is
    (of_plan program c.requires.ready.executable 0 (assignment program.theory values) q (plan_of_part c.whole.result) p c.in_ok-walk.field-0
    c.whole.ensures.whole
    (subst (λ l. TurnsOr program 0 (assignment program.theory l) q (plan_of_part c.whole.result) c.in_ok-walk.field-0) same
    c.in_ok-walk.ensures.turns)))

pub returns-clause-way : goal.returns-clause-way
returns-clause-way c =
    let program = program_in c.args.prepared.now in
    let values = c.args.origin.now.values.items in
    let p = plan_of c.args.scheme.now in
    let q = standing program c.in_ok-site.site in
    let same : c.deref.result.now ≡ values = search rules in
    origin_way program c.requires.ready.executable values (map relabelling_of c.args.origin.now.relabel.items)
    (behaviour_at program c.args.origin.now.node) q c.in_ok-site.ensures.stands p c.in-Some.turn
    (blank_tree (plan_of c.in_ok-scheme-in-Some.scheme))
    (turned_some program c.requires.ready.executable 0 (assignment program.theory values) q p c.in_ok-walk.field-0 c.in-Some.turn
    c.in-Some.is
    (of_plan program c.requires.ready.executable 0 (assignment program.theory values) q (plan_of_part c.whole.result) p c.in_ok-walk.field-0
    c.whole.ensures.whole
    (subst (λ l. TurnsOr program 0 (assignment program.theory l) q (plan_of_part c.whole.result) c.in_ok-walk.field-0) same
    c.in_ok-walk.ensures.turns)))
    (ap blank_tree c.in_ok-scheme-in-Some.ensures.equal)
