use Rattle.std.proofs.Common.{None, Some, refl, subst}
use Rattle.lotos_ast.specs.ExpressionTrees.{expr_tree}
use Rattle.sort_overloads.specs.Judged.{typed_term, typed_if_read, Adds, IsJudged}
use Rattle.sort_overloads.specs.Views.{context_of}
use Rattle.static_equations.specs.Equalities.{sides_of}
use Rattle.static_equations.proofs.Equalities.{left-unread, right-unread, both-read}
use Rattle.static_equations.proofs.equality.judge_equality.Goals as goal

pub returns-in_ok-add_unknowns-in-None : goal.returns-in_ok-add_unknowns-in-None
returns-in_ok-add_unknowns-in-None c =
    let context = context_of c.args.scope.now in
    let sides = sides_of (expr_tree c.args.left.now) (expr_tree c.args.right.now) in
    let old = c.args.refusals.now.items in
    let new = c.judge.new.refusals.items in
    let h = subst (λ z. Adds (IsJudged context sides.left None sides.left_place (typed_if_read z)) old new) c.in-None.is c.in_ok-one.ensures.judged in
    record { judged = left-unread context sides old new c.add_unknowns.new.refusals.items h (c.in_ok-add_unknowns-in-None).ensures.added }

pub returns-in-None-other : goal.returns-in-None-other
returns-in-None-other c =
    let context = context_of c.args.scope.now in
    let sides = sides_of (expr_tree c.args.left.now) (expr_tree c.args.right.now) in
    let old = c.args.refusals.now.items in
    let new = c.judge.new.refusals.items in
    let now = c.judge-in-Some.new.refusals.items in
    let h = subst (λ z. Adds (IsJudged context sides.left None sides.left_place (typed_if_read z)) old new) c.in-Some.is c.in_ok-one.ensures.judged in
    let k = subst (λ z. Adds (IsJudged context sides.right (Some c.in-Some.one.sort) sides.right_place (typed_if_read z)) new now) c.in-None-other.is c.in_ok-other-in-Some.ensures.judged in
    record { judged = right-unread context sides old new now (typed_term c.in-Some.one) c.in-Some.one.sort refl h k }

pub returns-in-Some-other : goal.returns-in-Some-other
returns-in-Some-other c =
    let context = context_of c.args.scope.now in
    let sides = sides_of (expr_tree c.args.left.now) (expr_tree c.args.right.now) in
    let old = c.args.refusals.now.items in
    let new = c.judge.new.refusals.items in
    let now = c.judge-in-Some.new.refusals.items in
    let h = subst (λ z. Adds (IsJudged context sides.left None sides.left_place (typed_if_read z)) old new) c.in-Some.is c.in_ok-one.ensures.judged in
    let k = subst (λ z. Adds (IsJudged context sides.right (Some c.in-Some.one.sort) sides.right_place (typed_if_read z)) new now) c.in-Some-other.is c.in_ok-other-in-Some.ensures.judged in
    record { judged = both-read context sides old new now (typed_term c.in-Some.one) (typed_term c.in-Some-other.other) c.in-Some.one.sort refl h k }
