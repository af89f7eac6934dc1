use Rattle.std.proofs.Common.{◌<◌, ◌≤◌, ◌++◌, length, map, ap, ◌∙◌, arith}
use Rattle.std.proofs.lemmas.Result.{on_ok_weaker}
use Rattle.spec_core.specs.Theories.{equation_of}
use Rattle.sort_overloads.specs.Views.{context_of}
use Rattle.static_equations.specs.Bodies.{IsPartJudged}
use Rattle.static_equations.specs.Gathered.{Gathers}
use Rattle.static_equations.specs.Variables.{unknown_sorts, declarations, under}
use Rattle.static_equations.proofs.Gatherings.{refused-alone, judged-under}
use Rattle.static_equations.proofs.body.judge_body.Goals as goal

pub returns-then-before-len-clause-judged : goal.returns-then-before-len-clause-judged
returns-then-before-len-clause-judged c =
    let context = context_of c.args.scope.now in
    let body = c.args.body.now in
    let before = c.args.refusals.now.items in
    let after = c.add_unknown_sorts.new.refusals.items in
    let longer : length before < length after = grind arith in
    refused-alone (unknown_sorts context (declarations body.variables.items)) (Gathers (IsPartJudged (under context body.variables.items)) body.parts.items) (map equation_of c.args.all.now.items) before after
    (c.in_ok-add_unknown_sorts.ensures.added ∙ ap (λ ls. before ++ unknown_sorts context (declarations ls)) c.deref.ensures.value)
    longer

pub returns-clause-judged : goal.returns-clause-judged
returns-clause-judged c =
    let context = context_of c.args.scope.now in
    let body = c.args.body.now in
    let before = c.args.refusals.now.items in
    let mid = c.add_unknown_sorts.new.refusals.items in
    let short : length mid ≤ length before = grind arith in
    on_ok_weaker c.add_parts_under.result
    (judged-under (unknown_sorts context (declarations body.variables.items)) (Gathers (IsPartJudged (under context body.variables.items)) body.parts.items)
    (map equation_of c.args.all.now.items) (map equation_of c.add_parts_under.new.all.items)
    before mid c.add_parts_under.new.refusals.items
    (c.in_ok-add_unknown_sorts.ensures.added ∙ ap (λ ls. before ++ unknown_sorts context (declarations ls)) c.deref.ensures.value)
    short)
    c.add_parts_under.ensures.judged
