use Rattle.std.proofs.Common.{◌≡◌, ◌-◌, ◌∙◌, arith, ap, sym, refl, subst, true, false, map}
use Rattle.spec_core.specs.Theories.{theory_of, equation_of, premise_of}
use Rattle.equal_proof.proofs.Running.{grows_on}
use Rattle.spec_core.specs.Lists.{Each}
use Rattle.value_table.specs.Tables.{tree_at}
use Rattle.value_table.proofs.Tables.{longer_on, still_rows}
use Rattle.equal_proof.specs.Certificates.{bound_by, premise_instance, FitVariables}
use Rattle.equal_proof.specs.Pairs.{instance_at, premise_fits_at, stack_of}
use Rattle.equal_proof.proofs.Bound.{left_fits, premises_fit, right_fits}
use Rattle.equal_proof.proofs.Inferred.{instance_inferred, instance_stays, premises_fit_at, side_fits}
use Rattle.equal_proof.proofs.steps.instance_by.Goals as goal

pub premises_hold-requires-clause-fits : goal.premises_hold-requires-clause-fits
premises_hold-requires-clause-fits c =
    let fit = subst (λ xs. FitVariables (theory_of c.args.algebra.now) (equation_of c.args.equation.now).sorts xs (map
    (tree_at c.args.table.now) c.args.rows.now)) c.requires.variables c.requires.sorts in
    subst (Each (premise_fits_at (theory_of c.args.algebra.now) c.args.table.now c.args.variables.now c.args.rows.now))
    (sym c.deref.ensures.value)
    (premises_fit_at (theory_of c.args.algebra.now)
    (equation_of c.args.equation.now) c.args.table.now c.args.variables.now c.args.rows.now c.args.equation.now.premises.items
    c.requires.variables
    (premises_fit (theory_of c.args.algebra.now) (equation_of c.args.equation.now) c.requires.closed (map
    (tree_at c.args.table.now) c.args.rows.now) fit c.requires.equation))

pub returns-then-not-branch-clause-grown : goal.returns-then-not-branch-clause-grown
returns-then-not-branch-clause-grown c =
    c.in_ok-premises_hold.ensures.grown

pub returns-then-not-branch-clause-none : goal.returns-then-not-branch-clause-none
returns-then-not-branch-clause-none c =
    λ put h.
    let k : stack_of c.args.table.now c.args.taken.now ≡
    map (premise_instance (bound_by c.args.variables.now (map (tree_at c.args.table.now) c.args.rows.now)))
    (map premise_of c.deref.result.now) =
    h.0 ∙ ap (λ xs. map (premise_instance (bound_by xs (map (tree_at c.args.table.now) c.args.rows.now)))
    (equation_of c.args.equation.now).premises) (sym c.requires.variables)
    ∙ ap (λ ps. map (premise_instance (bound_by c.args.variables.now (map (tree_at c.args.table.now) c.args.rows.now)))
    (map premise_of ps)) (sym c.deref.ensures.value) in
    let n : true ≡ false = sym (c.in_ok-premises_hold.ensures.decides.1 k) ∙ c.if-not-branch.true in
    let z : ⊥ = cc in z

pub instance-requires-clause-rows : goal.instance-requires-clause-rows
instance-requires-clause-rows c =
    still_rows c.args.table.now c.premises_hold.new.table c.in_ok-premises_hold.ensures.grown.longer c.args.rows.now c.requires.rows

pub instance-requires-clause-fits : goal.instance-requires-clause-fits
instance-requires-clause-fits c =
    let fit = subst (λ xs. FitVariables (theory_of c.args.algebra.now) (equation_of c.args.equation.now).sorts xs (map
    (tree_at c.args.table.now) c.args.rows.now)) c.requires.variables c.requires.sorts in
    side_fits (theory_of c.args.algebra.now) (equation_of c.args.equation.now) c.args.table.now c.premises_hold.new.table
    c.args.variables.now c.args.rows.now c.args.equation.now.left c.requires.variables c.in_ok-premises_hold.ensures.grown.longer
    c.requires.rows
    (left_fits (theory_of c.args.algebra.now) (equation_of c.args.equation.now) c.requires.closed (map
    (tree_at c.args.table.now) c.args.rows.now) fit c.requires.equation)

pub instance-requires-2-clause-rows : goal.instance-requires-2-clause-rows
instance-requires-2-clause-rows c =
    still_rows c.args.table.now c.instance.new.table
    (longer_on c.args.table.now c.premises_hold.new.table c.instance.new.table c.in_ok-premises_hold.ensures.grown.longer
    c.in_ok-left.ensures.grown.longer) c.args.rows.now c.requires.rows

pub instance-requires-2-clause-fits : goal.instance-requires-2-clause-fits
instance-requires-2-clause-fits c =
    let fit = subst (λ xs. FitVariables (theory_of c.args.algebra.now) (equation_of c.args.equation.now).sorts xs (map
    (tree_at c.args.table.now) c.args.rows.now)) c.requires.variables c.requires.sorts in
    side_fits (theory_of c.args.algebra.now) (equation_of c.args.equation.now) c.args.table.now c.instance.new.table c.args.variables.now
    c.args.rows.now c.args.equation.now.right c.requires.variables
    (longer_on c.args.table.now c.premises_hold.new.table c.instance.new.table c.in_ok-premises_hold.ensures.grown.longer
    c.in_ok-left.ensures.grown.longer) c.requires.rows
    (right_fits (theory_of c.args.algebra.now) (equation_of c.args.equation.now) c.requires.closed (map
    (tree_at c.args.table.now) c.args.rows.now) fit c.requires.equation)

pub returns-clause-grown : goal.returns-clause-grown
returns-clause-grown c =
    grows_on (theory_of c.args.algebra.now) c.args.table.now c.instance.new.table c.instance-2.new.table
    (grows_on (theory_of c.args.algebra.now) c.args.table.now c.premises_hold.new.table c.instance.new.table
    c.in_ok-premises_hold.ensures.grown c.in_ok-left.ensures.grown) c.in_ok-right.ensures.grown

pub returns-clause-there : goal.returns-clause-there
returns-clause-there c =
    (omega (arith, c.in_ok-left.ensures.there, c.in_ok-right.ensures.grown.longer.at_least), c.in_ok-right.ensures.there)

pub returns-clause-some : goal.returns-clause-some
returns-clause-some c =
    let m = longer_on c.args.table.now c.premises_hold.new.table c.instance.new.table c.in_ok-premises_hold.ensures.grown.longer
    c.in_ok-left.ensures.grown.longer in
    let left : tree_at c.instance-2.new.table c.in_ok-left.left ≡ instance_at c.args.table.now c.args.variables.now c.args.rows.now
    c.args.equation.now.left =
    c.in_ok-right.ensures.grown.longer.same c.in_ok-left.left c.in_ok-left.ensures.there ∙ c.in_ok-left.ensures.tree
    ∙ instance_stays c.args.table.now c.premises_hold.new.table c.in_ok-premises_hold.ensures.grown.longer c.args.variables.now
    c.args.rows.now c.args.equation.now.left c.requires.rows in
    let right : tree_at c.instance-2.new.table c.in_ok-right.right ≡ instance_at c.args.table.now c.args.variables.now c.args.rows.now
    c.args.equation.now.right =
    c.in_ok-right.ensures.tree ∙ instance_stays c.args.table.now c.instance.new.table m c.args.variables.now c.args.rows.now
    c.args.equation.now.right c.requires.rows in
    let held : stack_of c.args.table.now c.args.taken.now ≡ map (premise_instance (bound_by c.args.variables.now (map
    (tree_at c.args.table.now) c.args.rows.now))) (equation_of c.args.equation.now).premises =
    c.in_ok-premises_hold.ensures.decides.0 c.if-not-branch.false
    ∙ ap (λ ps. map (premise_instance (bound_by c.args.variables.now (map (tree_at c.args.table.now) c.args.rows.now)))
    (map premise_of ps)) c.deref.ensures.value in
    instance_inferred (equation_of c.args.equation.now) c.args.table.now c.premises_hold.new.table c.instance-2.new.table
    c.args.variables.now c.args.rows.now c.args.taken.now c.in_ok-left.left c.in_ok-right.right c.args.equation.now.left
    c.args.equation.now.right c.requires.variables refl refl held left right
