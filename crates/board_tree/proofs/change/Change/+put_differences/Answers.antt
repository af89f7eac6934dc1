use Rattle.std.proofs.Common.{List, sym, subst}
use Rattle.std.proofs.lemmas.Result.{on_ok_weaker}
use Rattle.node_trees.specs.declared.branch.Branch.{Branch}
use Rattle.node_trees.specs.declared.origin.Gen.{Gen}
use Rattle.node_trees.specs.Shapes.{shape_of}
use Rattle.board_tree.specs.declared.change.Change.{Change}
use Rattle.board_tree.specs.Changes.{Adds, EndsIn, BeginsIn, IsOnlyIn}
use Rattle.board_tree.proofs.Changing.{adds_both, of_the_same}
use Rattle.board_tree.proofs.change.Change.+put_differences.Goals as goal

-- these generations, or those, are added
abbrev AddsEnded : List Gen → List Gen → Change → Branch → Type 0
AddsEnded old new c b = Adds (EndsIn c (shape_of b)) old new

abbrev AddsBegun : List Gen → List Gen → Change → Branch → Type 0
AddsBegun old new c b = Adds (BeginsIn c (shape_of b)) old new

pub returns-in_ok-put_difference-in-Becomes-clause-gone : goal.returns-in_ok-put_difference-in-Becomes-clause-gone
returns-in_ok-put_difference-in-Becomes-clause-gone t c =
    let old = c.args.gone.now.items in
    let new = c.put_difference.new.all.items in
    on_ok_weaker c.put_difference-in-Becomes.result
    (λ d.
    subst (λ k. AddsEnded old new k c.args.branch.now) (sym c.in-Becomes.is)
    (subst (λ b. Adds (IsOnlyIn (shape_of c.args.branch.now) (shape_of b)) old new) c.deref.ensures
    c.in_ok-put_difference-in-Becomes.ensures))
    c.put_difference-in-Becomes.ensures

pub returns-in_ok-put_difference-in-Becomes-clause-came : goal.returns-in_ok-put_difference-in-Becomes-clause-came
returns-in_ok-put_difference-in-Becomes-clause-came t c =
    let old = c.args.came.now.items in
    let new = c.put_difference-in-Becomes.new.all.items in
    on_ok_weaker c.put_difference-in-Becomes.result
    (λ d.
    subst (λ k. AddsBegun old new k c.args.branch.now) (sym c.in-Becomes.is)
    (subst (λ b. Adds (IsOnlyIn (shape_of b) (shape_of c.args.branch.now)) old new) c.deref-in-Becomes.ensures d))
    c.put_difference-in-Becomes.ensures

pub returns-in-Over-branch-clause-gone : goal.returns-in-Over-branch-clause-gone
returns-in-Over-branch-clause-gone t c =
    let at = AddsEnded c.args.gone.now.items c.put_differences.new.gone.items in
    on_ok_weaker c.put_differences.result
    (λ d.
    of_the_same at _ _ _ _ (sym c.in-Over.is) (sym c.in-Over-branch.is)
    (of_the_same at _ _ _ _ c.deref-in-Over-branch.ensures c.deref-in-Over-branch-2.ensures d))
    c.put_differences.ensures.gone

pub returns-in-Over-branch-clause-came : goal.returns-in-Over-branch-clause-came
returns-in-Over-branch-clause-came t c =
    let at = AddsBegun c.args.came.now.items c.put_differences.new.came.items in
    on_ok_weaker c.put_differences.result
    (λ d.
    of_the_same at _ _ _ _ (sym c.in-Over.is) (sym c.in-Over-branch.is)
    (of_the_same at _ _ _ _ c.deref-in-Over-branch.ensures c.deref-in-Over-branch-2.ensures d))
    c.put_differences.ensures.came

pub returns-in_ok-put_differences-in-Between-branch-clause-gone : goal.returns-in_ok-put_differences-in-Between-branch-clause-gone
returns-in_ok-put_differences-in-Between-branch-clause-gone t c =
    let old = c.args.gone.now.items in
    let mid = c.put_differences-in-Between-branch.new.gone.items in
    let new = c.put_differences-in-Between-branch-2.new.gone.items in
    let one = c.in-Between.first.value in
    let two = c.in-Between.second.value in
    let left = c.in-Between-branch.left.value in
    let right = c.in-Between-branch.right.value in
    on_ok_weaker c.put_differences-in-Between-branch-2.result
    (λ d.
    of_the_same (AddsEnded old new) _ _ _ _ (sym c.in-Between.is) (sym c.in-Between-branch.is)
    (adds_both (EndsIn one (shape_of left)) (EndsIn two (shape_of right)) old mid new
    (of_the_same (AddsEnded old mid) _ one _ left c.deref-in-Between-branch.ensures c.deref-in-Between-branch-2.ensures
    c.in_ok-put_differences-in-Between-branch.ensures.gone)
    (of_the_same (AddsEnded mid new) _ two _ right c.deref-in-Between-branch-3.ensures c.deref-in-Between-branch-4.ensures d)))
    c.put_differences-in-Between-branch-2.ensures.gone

pub returns-in_ok-put_differences-in-Between-branch-clause-came : goal.returns-in_ok-put_differences-in-Between-branch-clause-came
returns-in_ok-put_differences-in-Between-branch-clause-came t c =
    let old = c.args.came.now.items in
    let mid = c.put_differences-in-Between-branch.new.came.items in
    let new = c.put_differences-in-Between-branch-2.new.came.items in
    let one = c.in-Between.first.value in
    let two = c.in-Between.second.value in
    let left = c.in-Between-branch.left.value in
    let right = c.in-Between-branch.right.value in
    on_ok_weaker c.put_differences-in-Between-branch-2.result
    (λ d.
    of_the_same (AddsBegun old new) _ _ _ _ (sym c.in-Between.is) (sym c.in-Between-branch.is)
    (adds_both (BeginsIn one (shape_of left)) (BeginsIn two (shape_of right)) old mid new
    (of_the_same (AddsBegun old mid) _ one _ left c.deref-in-Between-branch.ensures c.deref-in-Between-branch-2.ensures
    c.in_ok-put_differences-in-Between-branch.ensures.came)
    (of_the_same (AddsBegun mid new) _ two _ right c.deref-in-Between-branch-3.ensures c.deref-in-Between-branch-4.ensures d)))
    c.put_differences-in-Between-branch-2.ensures.came
