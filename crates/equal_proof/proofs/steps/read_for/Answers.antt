use Rattle.std.proofs.Common.{rules, ℕ, ◌≡◌, ◌-◌, ◌∙◌, arith, sym, subst, true, false, map, if◌then◌else◌}
use Rattle.spec_core.specs.Theories.{theory_of}
use Rattle.equal_proof.proofs.Running.{grows_itself}
use Rattle.std.specs.List.{slice_get, slice_index_or}
use Rattle.spec_core.specs.declared.items.Sort.{Sort}
use Rattle.spec_core.specs.Numbers.{sort_number}
use Rattle.spec_core.specs.Sorts.{HasSort, no_variables}
use Rattle.spec_core.specs.Terms.{TermTree, preorder}
use Rattle.value_table.specs.Spelled.{SpellsOne}
use Rattle.value_table.specs.Tables.{tree_at, IsRow}
use Rattle.value_table.proofs.Spelled.{on_declared}
use Rattle.equal_proof.proofs.Inferred.{no_sort, on_some, sort_at, sort_there}
use Rattle.equal_proof.proofs.OneOutcome.{one_term}
use Rattle.equal_proof.proofs.steps.read_for.Goals as goal

pub returns-then-place-sorts-clause-grown : goal.returns-then-place-sorts-clause-grown
returns-then-place-sorts-clause-grown c =
    grows_itself (theory_of c.args.algebra.now) c.args.table.now c.requires.fit

pub returns-then-place-sorts-clause-none : goal.returns-then-place-sorts-clause-none
returns-then-place-sorts-clause-none c =
    λ t e h. no_sort (theory_of c.args.algebra.now) c.args.sorts.now c.args.variable t c.if-place-sorts.true h

pub returns-in-None-clause-grown : goal.returns-in-None-clause-grown
returns-in-None-clause-grown c =
    record { longer = c.in_ok-read.ensures.longer; fit = c.in_ok-read.ensures.fit }

pub returns-in-None-clause-none : goal.returns-in-None-clause-none
returns-in-None-clause-none c =
    let none : SpellsOne (theory_of c.args.algebra.now) c.args.value.now → ⊥ = search rules in
    λ t e h. none (t, sort_there (theory_of c.args.algebra.now) (map sort_number c.args.sorts.now) c.args.variable t h, e)

pub returns-then-has_sort-clause-grown : goal.returns-then-has_sort-clause-grown
returns-then-has_sort-clause-grown c =
    record { longer = c.in_ok-read.ensures.longer; fit = c.in_ok-read.ensures.fit }

pub returns-then-has_sort-clause-sort : goal.returns-then-has_sort-clause-sort
returns-then-has_sort-clause-sort c =
    on_some (λ (sort : ℕ). HasSort (theory_of c.args.algebra.now) no_variables (tree_at c.read.new.table c.in-Some.row) sort)
    (slice_get (map sort_number c.args.sorts.now) c.args.variable) _ (sort_at c.args.sorts.now c.args.variable _ (omega
    (arith, c.if-place-sorts.false)))
    (c.has_sort.ensures.decides.0 c.if-has_sort.true)

pub returns-else-has_sort-clause-grown : goal.returns-else-has_sort-clause-grown
returns-else-has_sort-clause-grown c =
    record { longer = c.in_ok-read.ensures.longer; fit = c.in_ok-read.ensures.fit }

pub returns-else-has_sort-clause-none : goal.returns-else-has_sort-clause-none
returns-else-has_sort-clause-none c =
    let there : IsRow c.read.new.table c.in-Some.row = search rules in
    let spelled : c.args.value.now ≡ preorder (tree_at c.read.new.table c.in-Some.row) = search rules in
    λ t e h.
    let same = one_term (theory_of c.args.algebra.now) c.args.value.now t (tree_at c.read.new.table c.in-Some.row)
    (sort_there (theory_of c.args.algebra.now) (map sort_number c.args.sorts.now) c.args.variable t h)
    (c.in_ok-read.ensures.fit c.in-Some.row there) e spelled in
    let s : Sort = slice_index_or c.args.sorts.now c.args.variable (record { 0 = 0 }) in
    let k = on_declared (λ (sort : ℕ). HasSort (theory_of c.args.algebra.now) no_variables t sort) (slice_get
    (map sort_number c.args.sorts.now) c.args.variable) s.0
    (sort_at c.args.sorts.now c.args.variable (record { 0 = 0 }) (omega (arith, c.if-place-sorts.false))) h in
    let m = c.has_sort.ensures.decides.1 (subst (λ (u : TermTree). HasSort (theory_of c.args.algebra.now) no_variables u s.0) same k) in
    let n : true ≡ false = sym m ∙ c.if-has_sort.false in
    let z : ⊥ = cc in z
