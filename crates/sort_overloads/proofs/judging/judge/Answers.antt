use Rattle.std.proofs.Common.{◌<◌, ◌≤◌, length, subst, arith}
use Rattle.lotos_ast.specs.ExpressionTrees.{expr_tree}
use Rattle.lotos_ast.specs.ListTrees.{tree_place}
use Rattle.lotos_ast.specs.Refusals.{OnRefusal}
use Rattle.sort_overloads.specs.Expressions.{expression}
use Rattle.sort_overloads.specs.Judged.{typed_term}
use Rattle.sort_overloads.specs.Refused.{IsOverloadRefusal}
use Rattle.sort_overloads.specs.Views.{context_of}
use Rattle.sort_overloads.proofs.Judgements.{unknown-behind, read-behind, unread-behind}
use Rattle.sort_overloads.proofs.judging.judge.Goals as goal

pub returns-then-before-len : goal.returns-then-before-len
returns-then-before-len c =
    let longer : length c.args.refusals.now.items < length c.add_unknowns.new.refusals.items = grind arith in
    record {
      judged = unknown-behind (context_of c.args.scope.now) (expression (expr_tree c.args.expr.now)) c.args.wanted (tree_place (expr_tree c.args.expr.now))
          c.args.refusals.now.items c.add_unknowns.new.refusals.items c.in_ok-add_unknowns.ensures.added longer;
    }

pub returns-in-Ok : goal.returns-in-Ok
returns-in-Ok c =
    let no_longer : length c.add_unknowns.new.refusals.items ≤ length c.args.refusals.now.items = grind arith in
    record {
      judged = read-behind (context_of c.args.scope.now) (expression (expr_tree c.args.expr.now)) c.args.wanted (tree_place (expr_tree c.args.expr.now))
          c.args.refusals.now.items c.add_unknowns.new.refusals.items c.in_ok-add_unknowns.ensures.added (typed_term c.in-Ok.resolved) no_longer c.in-Ok.ensures.read;
    }

pub returns-in_ok-push-in-Err-Refused : goal.returns-in_ok-push-in-Err-Refused
returns-in_ok-push-in-Err-Refused c =
    let no_longer : length c.add_unknowns.new.refusals.items ≤ length c.args.refusals.now.items = grind arith in
    let context = context_of c.args.scope.now in
    let e = expression (expr_tree c.args.expr.now) in
    let place = tree_place (expr_tree c.args.expr.now) in
    let refused : IsOverloadRefusal context e c.args.wanted place c.in-Err-Refused.refusal =
    subst (λ fault. OnRefusal fault (IsOverloadRefusal context e c.args.wanted place)) c.in-Err-Refused.field-0-is c.in-Err-Refused.ensures.refused in
    record {
      judged = unread-behind context e c.args.wanted place
          c.args.refusals.now.items c.add_unknowns.new.refusals.items c.in_ok-add_unknowns.ensures.added
          c.in-Err-Refused.refusal c.push.new.self.items no_longer c.in_ok-push-in-Err-Refused.ensures.items refused;
    }
