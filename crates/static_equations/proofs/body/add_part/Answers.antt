use Rattle.std.proofs.Common.{◌<◌, ◌≤◌, ◌++◌, length, map, ap, ◌∙◌, arith, append_assoc}
use Rattle.std.proofs.lemmas.Result.{on_ok_weaker}
use Rattle.spec_core.specs.Theories.{equation_of}
use Rattle.sort_overloads.specs.Refused.{unknown_sort}
use Rattle.sort_overloads.specs.Views.{context_of}
use Rattle.static_equations.specs.Bodies.{AreJudgedOfSort}
use Rattle.static_equations.specs.Variables.{unknown_sorts, declarations}
use Rattle.static_equations.proofs.Gatherings.{refused-alone, judged-under}
use Rattle.static_equations.proofs.body.add_part.Goals as goal

pub returns-then-before-len-clause-judged : goal.returns-then-before-len-clause-judged
returns-then-before-len-clause-judged c =
    let context = context_of c.args.scope.now in
    let part = c.args.part.now in
    let before = c.args.refusals.now.items in
    let of_sort = unknown_sort context part.sort in
    let after = c.add_unknown_sorts.new.refusals.items in
    let longer : length before < length after = grind arith in
    refused-alone (of_sort ++ unknown_sorts context (declarations part.variables.items)) (AreJudgedOfSort context part) (map equation_of c.args.all.now.items) before after
    (c.in_ok-add_unknown_sorts.ensures.added ∙ ap (λ z. z ++ unknown_sorts context (declarations c.deref.result.now)) c.in_ok-add_unknown_sort.ensures.added
    ∙ append_assoc before of_sort (unknown_sorts context (declarations c.deref.result.now))
    ∙ ap (λ ls. before ++ (of_sort ++ unknown_sorts context (declarations ls))) c.deref.ensures.value)
    longer

pub returns-clause-judged : goal.returns-clause-judged
returns-clause-judged c =
    let context = context_of c.args.scope.now in
    let part = c.args.part.now in
    let before = c.args.refusals.now.items in
    let of_sort = unknown_sort context part.sort in
    let mid = c.add_unknown_sorts.new.refusals.items in
    let short : length mid ≤ length before = grind arith in
    on_ok_weaker c.add_part_of_sort.result
    (judged-under (of_sort ++ unknown_sorts context (declarations part.variables.items)) (AreJudgedOfSort context part) (map equation_of c.args.all.now.items) (map equation_of c.add_part_of_sort.new.all.items)
    before mid c.add_part_of_sort.new.refusals.items
    (c.in_ok-add_unknown_sorts.ensures.added ∙ ap (λ z. z ++ unknown_sorts context (declarations c.deref.result.now)) c.in_ok-add_unknown_sort.ensures.added
    ∙ append_assoc before of_sort (unknown_sorts context (declarations c.deref.result.now))
    ∙ ap (λ ls. before ++ (of_sort ++ unknown_sorts context (declarations ls))) c.deref.ensures.value)
    short)
    c.add_part_of_sort.ensures.judged
