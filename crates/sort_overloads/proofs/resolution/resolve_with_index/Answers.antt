use Rattle.std.proofs.Common.{◌≡◌, ◌++◌, ap, sym, ◌∙◌}
use Rattle.lotos_ast.specs.ExpressionTrees.{expr_tree}
use Rattle.lotos_ast.specs.FirstRefusals.{first_refusal}
use Rattle.sort_overloads.specs.Expressions.{expression}
use Rattle.sort_overloads.specs.Refused.{unknowns, unknown, known}
use Rattle.sort_overloads.specs.Views.{context_of}
use Rattle.sort_overloads.proofs.Decided.{if_refused_implied}
use Rattle.sort_overloads.proofs.resolution.resolve_with_index.Goals as goal

pub returns-in-Some-clause-refused : goal.returns-in-Some-clause-refused
returns-in-Some-clause-refused c =
    let listed : c.add_unknowns.new.refusals.items ≡ unknowns (context_of c.args.scope.now) (expression (expr_tree c.args.expr.now)) =
    c.in_ok-add_unknowns.ensures.added ∙ ap (λ z. z ++ unknowns (context_of c.args.scope.now) (expression (expr_tree c.args.expr.now))) c.new-refusals.ensures.items in
    unknown (ap first_refusal (sym listed) ∙ sym c.first_refusal.ensures.first ∙ c.in-Some.is)

pub returns-in-None-clause-refused : goal.returns-in-None-clause-refused
returns-in-None-clause-refused c =
    let listed : c.add_unknowns.new.refusals.items ≡ unknowns (context_of c.args.scope.now) (expression (expr_tree c.args.expr.now)) =
    c.in_ok-add_unknowns.ensures.added ∙ ap (λ z. z ++ unknowns (context_of c.args.scope.now) (expression (expr_tree c.args.expr.now))) c.new-refusals.ensures.items in
    if_refused_implied c.resolve_known.result (λ r h. known (sym listed ∙ c.in-None.ensures.none) h) c.resolve_known.ensures.refused
