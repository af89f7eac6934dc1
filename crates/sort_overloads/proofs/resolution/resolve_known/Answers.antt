use Rattle.std.proofs.Common.{rules, ◌≡◌, ap, ◌∙◌, subst}
use Rattle.std.proofs.lemmas.Result.{IfOk-weaker}
use Rattle.lotos_ast.specs.declared.expression.Head.TheFolds.{the_lemmas}
use Rattle.lotos_ast.specs.ExpressionTrees.{expr_tree}
use Rattle.lotos_ast.specs.ListTrees.{tree_place}
use Rattle.spec_core.specs.Terms.{term_of}
use Rattle.sort_overloads.specs.Expressions.{expression}
use Rattle.sort_overloads.specs.Listed.{two, those, readings}
use Rattle.sort_overloads.specs.Picks.{IsPickRefusal}
use Rattle.sort_overloads.specs.Tables.{table_of, fits}
use Rattle.sort_overloads.specs.Views.{context_of}
use Rattle.sort_overloads.proofs.Decided.{one-reading, refusal, if_refused_implied}
use Rattle.sort_overloads.proofs.resolution.resolve_known.Goals as goal

pub returns-clause-read : goal.returns-clause-read
returns-clause-read c =
    let context = context_of c.args.scope.now in
    let e = expression (expr_tree c.args.expr.now) in
    let asked = c.wanted_of.result in
    let q : two (table_of c.in_ok-fitting.fitting) ≡ two (those (fits asked) (readings context e)) = ap two c.in_ok-fitting.ensures ∙ c.in_ok-all.ensures.stands (fits asked) in
    IfOk-weaker c.only_reading.result _ _ (λ t h. one-reading context e c.args.wanted asked c.wanted_of.ensures (table_of c.in_ok-fitting.fitting) (term_of t.term) t.sort.0 q h) c.only_reading.ensures.one

pub returns-clause-refused : goal.returns-clause-refused
returns-clause-refused c =
    let context = context_of c.args.scope.now in
    let e = expression (expr_tree c.args.expr.now) in
    let asked = c.wanted_of.result in
    let fit = table_of c.in_ok-fitting.fitting in
    let q : two fit ≡ two (those (fits asked) (readings context e)) = ap two c.in_ok-fitting.ensures ∙ c.in_ok-all.ensures.stands (fits asked) in
    if_refused_implied c.only_reading.result
    (λ r h. refusal context e c.args.wanted asked c.wanted_of.ensures fit (tree_place (expr_tree c.args.expr.now)) r q (subst (λ p. IsPickRefusal context p fit r) (search (rules, the_lemmas)) h))
    c.only_reading.ensures.refused
