use Rattle.std.proofs.Common.{sym, subst, ap, ◌∙◌}
use Rattle.std.proofs.lemmas.Option.{slice_get_within}
use Rattle.std.proofs.lemmas.Result.{IfOk-weaker}
use Rattle.value_table.specs.Tables.{tree_at, IsRow}
use Rattle.value_table.proofs.Tables.{longer_by, tree_of_row, fit_by}
use Rattle.value_table.proofs.table.TermTable.make.Goals as goal

pub returns-clause-longer : goal.returns-clause-longer
returns-clause-longer c =
    IfOk-weaker c.number_of.result _ _ (λ n e. longer_by c.args.self.now c.insert.new.self _ c.in_ok-place.place c.in_ok-place.ensures)
    c.number_of.ensures

pub returns-clause-there : goal.returns-clause-there
returns-clause-there c =
    IfOk-weaker c.number_of.result _ _
    (λ n e. subst (IsRow c.insert.new.self) (sym e)
    (slice_get_within c.insert.new.self c.in_ok-place.place _ c.in_ok-place.ensures.here))
    c.number_of.ensures

pub returns-clause-tree : goal.returns-clause-tree
returns-clause-tree c =
    IfOk-weaker c.number_of.result _ _
    (λ n e. ap (tree_at c.insert.new.self) e
    ∙ tree_of_row c.args.self.now c.insert.new.self _ c.in_ok-place.place c.in_ok-place.ensures c.requires.there)
    c.number_of.ensures

pub returns-clause-fit : goal.returns-clause-fit
returns-clause-fit c =
    IfOk-weaker c.number_of.result _ _
    (λ n e theory fits fit. fit_by c.args.self.now c.insert.new.self _ c.in_ok-place.place c.in_ok-place.ensures theory fits fit)
    c.number_of.ensures
