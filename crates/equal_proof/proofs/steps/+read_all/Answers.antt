use Rattle.std.proofs.Common.{rules, ℕ, ◌≡◌, ◌-◌, ◌∷◌, ◌∙◌, List, arith, ap, sym, subst, length, map, take, drop, if◌then◌else◌}
use Rattle.spec_core.specs.Theories.{theory_of}
use Rattle.equal_proof.proofs.Running.{grows_itself, grows_on}
use Rattle.std.proofs.lemmas.List.{length-map}
use Rattle.std.proofs.lemmas.Result.{IfOk-weaker}
use Rattle.std.specs.List.{slice_get, slice_index_or}
use Rattle.spec_core.specs.Lists.{Each}
use Rattle.spec_core.specs.Numbers.{sort_number}
use Rattle.spec_core.specs.Sorts.{OnSome, HasSort, no_variables}
use Rattle.spec_core.specs.Terms.{TermTree, preorder}
use Rattle.value_table.specs.Tables.{tree_at, IsRow}
use Rattle.equal_proof.specs.Certificates.{FitVariables}
use Rattle.equal_proof.proofs.Inferred.{fit_more, fit_none, fit_nothing, fit_some, list_parts, no_length, none_length, nothing, parts}
use Rattle.equal_proof.proofs.Inferred.{on_any, with_first_none, with_first_some}
use Rattle.equal_proof.proofs.steps.+read_all.Goals as goal

pub returns-then-is_empty-clause-grown : goal.returns-then-is_empty-clause-grown
returns-then-is_empty-clause-grown t c =
    grows_itself (theory_of c.args.algebra.now) c.args.table.now c.requires.fit

pub returns-then-is_empty-clause-there : goal.returns-then-is_empty-clause-there
returns-then-is_empty-clause-there t c =
    subst (Each (IsRow c.args.table.now)) (sym c.new.ensures.items) tt

pub returns-then-is_empty-clause-spelled : goal.returns-then-is_empty-clause-spelled
returns-then-is_empty-clause-spelled t c =
    nothing c.args.values.now
    (none_length c.is_empty.result (length c.args.values.now) c.is_empty.ensures c.if-is_empty.true)
    ∙ sym (ap (λ is. map preorder (map (tree_at c.args.table.now) is)) c.new.ensures.items)

pub returns-then-is_empty-clause-sorts : goal.returns-then-is_empty-clause-sorts
returns-then-is_empty-clause-sorts t c =
    subst (λ is. FitVariables (theory_of c.args.algebra.now) (map sort_number c.args.sorts.now) c.args.variables.now (map
    (tree_at c.args.table.now) is)) (sym c.new.ensures.items)
    (fit_nothing (theory_of c.args.algebra.now) (map sort_number c.args.sorts.now) c.args.variables.now c.in-empty.len_below)

pub returns-else-is_empty-clause-grown : goal.returns-else-is_empty-clause-grown
returns-else-is_empty-clause-grown t c =
    grows_itself (theory_of c.args.algebra.now) c.args.table.now c.requires.fit

pub returns-else-is_empty-clause-none : goal.returns-else-is_empty-clause-none
returns-else-is_empty-clause-none t c =
    λ ts e f. no_length c.is_empty.result (length c.args.values.now) c.is_empty.ensures c.if-is_empty.false
    (ap length e ∙ length-map ts preorder ∙ fit_none (theory_of c.args.algebra.now)
    (map sort_number c.args.sorts.now) c.args.variables.now ts c.in-empty.len_below f)

pub returns-in-empty-values-clause-grown : goal.returns-in-empty-values-clause-grown
returns-in-empty-values-clause-grown t c =
    grows_itself (theory_of c.args.algebra.now) c.args.table.now c.requires.fit

pub returns-in-empty-values-clause-none : goal.returns-in-empty-values-clause-none
returns-in-empty-values-clause-none t c =
    λ ts e f. let s = fit_some (theory_of c.args.algebra.now)
    (map sort_number c.args.sorts.now) c.args.variables.now ts c.in-len1-up.len_at_least f in
    let l = length-map ts preorder in
    omega (arith, s, l, ap length e, c.in-empty-values.len_below)

pub returns-in-None-clause-grown : goal.returns-in-None-clause-grown
returns-in-None-clause-grown t c =
    c.in_ok-read_for-in-len1-up-values.ensures.grown

pub returns-in-None-clause-none : goal.returns-in-None-clause-none
returns-in-None-clause-none t c =
    let none : (t : TermTree) → c.value-item.result ≡ preorder t →
    OnSome (slice_get (map sort_number c.args.sorts.now) (slice_index_or c.args.variables.now 0 0)) (λ (sort : ℕ). HasSort
    (theory_of c.args.algebra.now) no_variables t sort) → ⊥ =
    search rules in
    λ ts e f. let p = parts (theory_of c.args.algebra.now)
    (map sort_number c.args.sorts.now) c.args.variables.now c.args.values.now c.value-item.result ts c.in-len1-up.len_at_least
    c.in-len1-up-values.len_at_least c.value-item.is e f in none p.first_term p.spelled p.sort

pub returns-in-None-2-clause-grown : goal.returns-in-None-2-clause-grown
returns-in-None-2-clause-grown t c =
    grows_on (theory_of c.args.algebra.now) c.args.table.now c.read_for.new.table c.read_all.new.table
    c.in_ok-read_for-in-len1-up-values.ensures.grown c.in_ok-read_all-in-Some.ensures.grown

pub returns-in-None-2-clause-none : goal.returns-in-None-2-clause-none
returns-in-None-2-clause-none t c =
    let none : (ts : List TermTree) → (take (length c.args.values.now - 1) (drop 1 c.args.values.now)) ≡ map preorder ts →
    FitVariables (theory_of c.args.algebra.now) (map sort_number c.args.sorts.now) (take (length c.args.variables.now - 1)
    (drop 1 c.args.variables.now)) ts → ⊥ = search rules in
    λ ts e f. let p = parts (theory_of c.args.algebra.now)
    (map sort_number c.args.sorts.now) c.args.variables.now c.args.values.now c.value-item.result ts c.in-len1-up.len_at_least
    c.in-len1-up-values.len_at_least c.value-item.is e f in none p.others p.rest_spelled p.fits

pub returns-in-Some-2-clause-grown : goal.returns-in-Some-2-clause-grown
returns-in-Some-2-clause-grown t c =
    on_any c.with_first.result
    (grows_on (theory_of c.args.algebra.now) c.args.table.now c.read_for.new.table c.read_all.new.table
    c.in_ok-read_for-in-len1-up-values.ensures.grown c.in_ok-read_all-in-Some.ensures.grown)

pub returns-in-Some-2-clause-there : goal.returns-in-Some-2-clause-there
returns-in-Some-2-clause-there t c =
    let row : IsRow c.read_for.new.table c.in-Some.row = search rules in
    let rows : Each (IsRow c.read_all.new.table) c.in-Some-2.rows.items = search rules in
    IfOk-weaker c.with_first.result _ _
    (λ found m. with_first_some found (λ v. v.items) (Each (IsRow c.read_all.new.table)) _ m
    (omega (arith, row, c.in_ok-read_all-in-Some.ensures.grown.longer.at_least), rows)) c.with_first.ensures

pub returns-in-Some-2-clause-spelled : goal.returns-in-Some-2-clause-spelled
returns-in-Some-2-clause-spelled t c =
    let row : IsRow c.read_for.new.table c.in-Some.row = search rules in
    let first_spelled : c.value-item.result ≡ preorder (tree_at c.read_for.new.table c.in-Some.row) = search rules in
    let spelled : (take (length c.args.values.now - 1) (drop 1 c.args.values.now)) ≡ map preorder (map
    (tree_at c.read_all.new.table) c.in-Some-2.rows.items) = search rules in
    let at : tree_at c.read_all.new.table c.in-Some.row ≡ tree_at c.read_for.new.table c.in-Some.row =
    c.in_ok-read_all-in-Some.ensures.grown.longer.same c.in-Some.row row in
    let whole = list_parts c.args.values.now c.value-item.result c.in-len1-up-values.len_at_least in
    IfOk-weaker c.with_first.result _ _
    (λ found m. with_first_some found (λ v. v.items) (λ is. c.args.values.now ≡ map preorder (map (tree_at c.read_all.new.table) is)) _ m
    (sym whole ∙ ap (λ v. v ∷ (take (length c.args.values.now - 1) (drop 1 c.args.values.now))) (sym c.value-item.is ∙ first_spelled
    ∙ ap preorder (sym at))
    ∙ ap (λ vs. preorder (tree_at c.read_all.new.table c.in-Some.row) ∷ vs) spelled)) c.with_first.ensures

pub returns-in-Some-2-clause-sorts : goal.returns-in-Some-2-clause-sorts
returns-in-Some-2-clause-sorts t c =
    let row : IsRow c.read_for.new.table c.in-Some.row = search rules in
    let sort : OnSome (slice_get (map sort_number c.args.sorts.now) (slice_index_or c.args.variables.now 0 0))
    (λ (sort : ℕ). HasSort (theory_of c.args.algebra.now) no_variables (tree_at c.read_for.new.table c.in-Some.row) sort) = search rules in
    let fits : FitVariables (theory_of c.args.algebra.now) (map sort_number c.args.sorts.now) (take (length c.args.variables.now - 1)
    (drop 1 c.args.variables.now)) (map (tree_at c.read_all.new.table) c.in-Some-2.rows.items) = search rules in
    let at : tree_at c.read_all.new.table c.in-Some.row ≡ tree_at c.read_for.new.table c.in-Some.row =
    c.in_ok-read_all-in-Some.ensures.grown.longer.same c.in-Some.row row in
    IfOk-weaker c.with_first.result _ _
    (λ found m. with_first_some found (λ v. v.items) (λ is. FitVariables (theory_of c.args.algebra.now)
    (map sort_number c.args.sorts.now) c.args.variables.now (map (tree_at c.read_all.new.table) is)) _ m
    (fit_more (theory_of c.args.algebra.now) (map sort_number c.args.sorts.now) c.args.variables.now
    (tree_at c.read_all.new.table c.in-Some.row) (map (tree_at c.read_all.new.table) c.in-Some-2.rows.items)
    c.in-len1-up.len_at_least
    (subst (λ (u : TermTree). OnSome (slice_get (map sort_number c.args.sorts.now) (slice_index_or c.args.variables.now 0 0)) (λ
    (sort : ℕ). HasSort (theory_of c.args.algebra.now) no_variables u sort))
    (sym at) sort) fits)) c.with_first.ensures

pub returns-in-Some-2-clause-none : goal.returns-in-Some-2-clause-none
returns-in-Some-2-clause-none t c =
    IfOk-weaker c.with_first.result _ _ (λ found m. with_first_none found (λ v. v.items) _ _ m) c.with_first.ensures
