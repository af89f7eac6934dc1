use Rattle.std.proofs.Common.{◌≡◌, ◌∷◌, [], map, ap, ◌∙◌}
use Rattle.std.proofs.lemmas.List.{map-append}
use Rattle.node_values.proofs.Finding.{of_some}
use Rattle.symbolic_plans.specs.OpenPlans.{open_plan_of}
use Rattle.symbolic_plans.specs.Plans.{plan_of}
use Rattle.node_trees.specs.Origins.{meaning, source_of}
use Rattle.node_trees.specs.Rests.{way_of, IsWayOf}
use Rattle.node_steps.specs.Blanks.{blank_tree}
use Rattle.match_code.specs.Prepared.{program_in}
use Rattle.node_work.proofs.Adding.{one_way}
use Rattle.node_work.proofs.alternatives.with_way.Goals as goal

pub returns-in_ok-push-in-Some-clause-added : goal.returns-in_ok-push-in-Some-clause-added
returns-in_ok-push-in-Some-clause-added c =
    let program = program_in c.args.prepared.now in
    let b = meaning program (source_of c.args.origin.now) in
    let found = c.in_ok-way_along.field-0 in
    one_way program b (open_plan_of c.args.composite.now) (map way_of c.args.ways.items) (map way_of c.push.new.self.items)
    (way_of c.in-Some.way)
    (ap (map way_of) (c.in_ok-push-in-Some.ensures.items) ∙ map-append way_of c.args.ways.items (c.in-Some.way ∷ []))
    (of_some (λ a. IsWayOf program b (way_of a)) found c.in-Some.way c.in-Some.is c.in_ok-way_along.ensures.way)
    (of_some (λ a. (way_of a).rules ≡ blank_tree (plan_of c.args.composite.now.scheme)) found c.in-Some.way c.in-Some.is
    c.in_ok-way_along.ensures.rules)
