use Rattle.std.proofs.Common.{◌∙◌, ◌∷◌, [], map, ap}
use Rattle.std.proofs.lemmas.List.{map-append}
use Rattle.spec_core.specs.Terms.{term_of}
use Rattle.equation_overlaps.proofs.Joining.{joined_next, right_end, left_end}
use Rattle.equation_overlaps.proofs.common.+common.Goals as goal

pub common_instances-returns-then-i-right : goal.common_instances-returns-then-i-right
common_instances-returns-then-i-right t c =
    c.loop-i.invariant ∙ right_end c.args.count c.args.left.now c.args.right.now c.loop-i.i c.if-i-right.true

pub common_instances-returns : goal.common_instances-returns
common_instances-returns t c = c.loop-i.invariant ∙ left_end c.args.count c.args.left.now c.args.right.now c.loop-i.i c.loop-i-test.false

pub common_instances-loop-i-preserved : goal.common_instances-loop-i-preserved
common_instances-loop-i-preserved t c =
    joined_next c.args.count c.args.left.now c.args.right.now c.loop-i.i c.index-left-i.result c.index-right-i.result
    (map term_of c.loop-i.all.items) (map term_of c.push.new.self.items) (term_of c.in_ok-common_instance.field-0) c.loop-i-test.true
    c.if-i-right.false c.index-left-i.is c.index-right-i.is c.loop-i.invariant c.in_ok-common_instance.ensures
    (ap (map term_of) c.in_ok-push.ensures.items ∙ map-append term_of c.loop-i.all.items (c.in_ok-common_instance.field-0 ∷ []))
