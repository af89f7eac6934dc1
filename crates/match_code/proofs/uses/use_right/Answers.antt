use Rattle.std.proofs.Common.{◌<◌, ◌++◌, length, map, reverse, sym, ap, subst, ◌∙◌}
use Rattle.std.proofs.lemmas.List.{reverse-reverse}
use Rattle.spec_core.specs.Lists.{Each}
use Rattle.value_nodes.specs.Nodes.{IsNode}
use Rattle.rewriter.specs.Steps.{bound_at, put_by, task_of, IsWithinArity}
use Rattle.rewriter.proofs.Tops.{each_reversed}
use Rattle.match_code.specs.Rights.{task_by, OnVariable, OnOperation}
use Rattle.match_code.proofs.uses.use_right.Goals as goal

pub push_symbols-requires : goal.push_symbols-requires
push_symbols-requires c =
    let room = OnVariable (λ x. x < length c.args.bound.now) in
    record { room = subst (Each room) (sym c.all.ensures.seen) (each_reversed room c.args.right.now.rest c.requires.rest) }

pub returns-clause-planned : goal.returns-clause-planned
returns-clause-planned c = λ theory rows.
    c.in_ok-push_symbols.ensures.planned theory rows
    ∙ ap (λ us. map (task_by (put_by rows c.args.bound.now)) us ++ map (task_of theory rows) c.args.runs.now.todo)
    (ap reverse c.all.ensures.seen ∙ reverse-reverse c.args.right.now.rest)

pub returns-clause-steps : goal.returns-clause-steps
returns-clause-steps c = λ theory rows there arities before.
    let nodes = OnVariable (λ x. IsNode rows (bound_at c.args.bound.now x)) in
    let within = OnOperation (IsWithinArity theory) in
    c.in_ok-push_symbols.ensures.steps theory rows
    (subst (Each nodes) (sym c.all.ensures.seen) (each_reversed nodes c.args.right.now.rest there))
    (subst (Each within) (sym c.all.ensures.seen) (each_reversed within c.args.right.now.rest arities)) before
