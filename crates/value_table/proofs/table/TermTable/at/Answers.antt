use Rattle.std.proofs.Common.{rules, ◌≡◌, ap, sym, subst, ◌∙◌, map, get_or}
use Rattle.spec_core.specs.Lists.{Each}
use Rattle.spec_core.specs.Terms.{apply, terms}
use Rattle.value_table.specs.Tables.{application_of, tree_at, IsRow, AreMade}
use Rattle.value_table.proofs.Tables.{read_row, at_row, args_within}
use Rattle.value_table.proofs.table.TermTable.at.Goals as goal

pub returns-clause-term : goal.returns-clause-term
returns-clause-term c =
    let r = c.index-as_slice-row.result in
    let e : r ≡ get_or c.self.inside.rows.keys c.args.row r = search rules in
    let k = read_row c.args.self.now c.self.inside.rows.keys c.args.row r c.self.view_is c.requires.there e in
    let m = subst (AreMade 0) c.self.view_is c.self.invariant.made in
    (at_row c.args.self.now c.args.row (application_of r) m k).tree
    ∙ ap (λ is. apply r.op (terms (map (tree_at c.args.self.now) is))) (sym c.deref.ensures.value)

pub returns-clause-args : goal.returns-clause-args
returns-clause-args c =
    let r = c.index-as_slice-row.result in
    let e : r ≡ get_or c.self.inside.rows.keys c.args.row r = search rules in
    let k = read_row c.args.self.now c.self.inside.rows.keys c.args.row r c.self.view_is c.requires.there e in
    let m = subst (AreMade 0) c.self.view_is c.self.invariant.made in
    subst (Each (IsRow c.args.self.now)) (sym c.deref.ensures.value)
    (args_within c.args.self.now c.args.row (application_of r) k (at_row c.args.self.now c.args.row (application_of r) m k).args)
