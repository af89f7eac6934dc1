use Rattle.std.proofs.Common.{◌-◌, ◌∙◌, if◌then◌else◌}
use Rattle.std.proofs.lemmas.Option.{IfSome_then}
use Rattle.value_table.specs.Tables.{tree_at}
use Rattle.equal_proof.proofs.Inferred.{bound_first, bound_others}
use Rattle.equal_proof.proofs.variables.+bound_row.Goals as goal

pub returns-then-first-variable-clause-tree : goal.returns-then-first-variable-clause-tree
returns-then-first-variable-clause-tree t c =
    bound_first (tree_at c.args.table.now) c.args.variables.now c.args.rows.now c.args.variable c.in-len1-up.len_at_least
    c.in-len1-up-rows.len_at_least c.if-first-variable.true

pub returns-else-first-variable-clause-tree : goal.returns-else-first-variable-clause-tree
returns-else-first-variable-clause-tree t c =
    IfSome_then c.bound_row.result c.bound_row.ensures.tree
    (λ row h. h ∙ bound_others (tree_at c.args.table.now) c.args.variables.now c.args.rows.now c.args.variable c.in-len1-up.len_at_least
    c.in-len1-up-rows.len_at_least c.if-first-variable.false)
