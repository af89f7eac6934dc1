use Rattle.std.proofs.Common.{rules, ◌≡◌, ◌-◌, ◌∙◌, List, ap, sym, subst, map}
use Rattle.spec_core.specs.Theories.{theory_of, equation_of}
use Rattle.equal_proof.proofs.Running.{grows_on, stack_stays, still_pairs}
use Rattle.std.proofs.lemmas.Option.{IfSome_then}
use Rattle.std.proofs.lemmas.Result.{IfOk-weaker, on_ok_weaker}
use Rattle.spec_core.specs.Lists.{Each}
use Rattle.spec_core.specs.Numbers.{sort_number}
use Rattle.spec_core.specs.Terms.{TermTree, preorder}
use Rattle.value_table.specs.Tables.{tree_at, IsRow}
use Rattle.equal_proof.specs.Certificates.{Sides, variables_of, with_variables, FitVariables, IsInstanceBy}
use Rattle.equal_proof.specs.Pairs.{sides_at, stack_of}
use Rattle.equal_proof.proofs.Inferred.{instance_read, none_then, variables_moved}
use Rattle.equal_proof.proofs.steps.use_equation.Goals as goal

pub returns-in-None-clause-grown : goal.returns-in-None-clause-grown
returns-in-None-clause-grown c =
    c.in_ok-read_all.ensures.grown

pub returns-in-None-clause-none : goal.returns-in-None-clause-none
returns-in-None-clause-none c =
    let none : (ts : List TermTree) → c.args.values.now ≡ map preorder ts →
    FitVariables (theory_of c.args.algebra.now) (map sort_number c.deref.result.now) c.deref-2.result.now ts → ⊥ = search rules in
    let xs : c.add_variables.new.found.items ≡ variables_of (equation_of c.args.equation.now).left =
    c.in_ok-add_variables.ensures ∙ ap (λ found. with_variables found
    (equation_of c.args.equation.now).left) c.new-variables.ensures.items in
    λ put h. none h.0 h.1
    (subst (λ ss. FitVariables (theory_of c.args.algebra.now) (map sort_number ss) c.deref-2.result.now h.0) (sym c.deref.ensures.value)
    (subst (λ ys. FitVariables (theory_of c.args.algebra.now) (equation_of c.args.equation.now).sorts ys h.0) (sym
    (c.deref-2.ensures.value ∙ xs)) h.2))

pub instance_by-requires-clause-rows : goal.instance_by-requires-clause-rows
instance_by-requires-clause-rows c =
    let rows : Each (IsRow c.read_all.new.table) c.in-Some.rows.items = search rules in
    subst (Each (IsRow c.read_all.new.table)) (sym c.deref-in-Some-2.ensures.value) rows

pub instance_by-requires-clause-there : goal.instance_by-requires-clause-there
instance_by-requires-clause-there c =
    still_pairs c.args.table.now c.read_all.new.table c.in_ok-read_all.ensures.grown.longer c.args.taken.now c.requires.there

pub instance_by-requires-clause-variables : goal.instance_by-requires-clause-variables
instance_by-requires-clause-variables c =
    let xs : c.add_variables.new.found.items ≡ variables_of (equation_of c.args.equation.now).left =
    c.in_ok-add_variables.ensures ∙ ap (λ found. with_variables found
    (equation_of c.args.equation.now).left) c.new-variables.ensures.items in
    c.deref-in-Some.ensures.value ∙ xs

pub instance_by-requires-clause-sorts : goal.instance_by-requires-clause-sorts
instance_by-requires-clause-sorts c =
    let sorted : FitVariables (theory_of c.args.algebra.now) (map sort_number c.deref.result.now) c.deref-2.result.now (map
    (tree_at c.read_all.new.table) c.in-Some.rows.items) = search rules in
    subst (λ is. FitVariables (theory_of c.args.algebra.now) (equation_of c.args.equation.now).sorts c.deref-in-Some.result.now (map
    (tree_at c.read_all.new.table) is)) (sym c.deref-in-Some-2.ensures.value)
    (subst (λ ys. FitVariables (theory_of c.args.algebra.now) (equation_of c.args.equation.now).sorts ys (map
    (tree_at c.read_all.new.table) c.in-Some.rows.items)) (c.deref-2.ensures.value ∙ sym c.deref-in-Some.ensures.value)
    (subst (λ ss. FitVariables (theory_of c.args.algebra.now) (map sort_number ss) c.deref-2.result.now (map
    (tree_at c.read_all.new.table) c.in-Some.rows.items)) c.deref.ensures.value sorted))

pub returns-clause-grown : goal.returns-clause-grown
returns-clause-grown c =
    on_ok_weaker c.instance_by.result (λ h. grows_on
    (theory_of c.args.algebra.now) c.args.table.now c.read_all.new.table c.instance_by.new.table c.in_ok-read_all.ensures.grown h)
    c.instance_by.ensures.grown

pub returns-clause-some : goal.returns-clause-some
returns-clause-some c =
    let spelled : c.args.values.now ≡ map preorder (map (tree_at c.read_all.new.table) c.in-Some.rows.items) = search rules in
    let sorted : FitVariables (theory_of c.args.algebra.now) (map sort_number c.deref.result.now) c.deref-2.result.now (map
    (tree_at c.read_all.new.table) c.in-Some.rows.items) = search rules in
    let xs : c.add_variables.new.found.items ≡ variables_of (equation_of c.args.equation.now).left =
    c.in_ok-add_variables.ensures ∙ ap (λ found. with_variables found
    (equation_of c.args.equation.now).left) c.new-variables.ensures.items in
    let fit = variables_moved (theory_of c.args.algebra.now) c.deref.result.now c.args.equation.now.vars.items c.deref-2.result.now
    (variables_of (equation_of c.args.equation.now).left) (map (tree_at c.read_all.new.table) c.in-Some.rows.items)
    c.deref.ensures.value (c.deref-2.ensures.value ∙ xs) sorted in
    let same = stack_stays c.args.table.now c.read_all.new.table c.in_ok-read_all.ensures.grown.longer c.args.taken.now c.requires.there in
    IfOk-weaker c.instance_by.result _ _
    (λ found h. IfSome_then found h (λ pair k. (
      (map (tree_at c.read_all.new.table) c.in-Some.rows.items),
      spelled,
      fit,
      subst (λ is. IsInstanceBy (equation_of c.args.equation.now) (map (tree_at c.read_all.new.table) is)
          (stack_of c.args.table.now c.args.taken.now) (sides_at c.instance_by.new.table pair))
          c.deref-in-Some-2.ensures.value
          (subst (λ (st : List Sides). IsInstanceBy (equation_of c.args.equation.now) (map
          (tree_at c.read_all.new.table) c.deref-in-Some-2.result.now) st (sides_at c.instance_by.new.table pair)) same k),
    )))
    c.instance_by.ensures.some

pub returns-clause-none : goal.returns-clause-none
returns-clause-none c =
    let spelled : c.args.values.now ≡ map preorder (map (tree_at c.read_all.new.table) c.in-Some.rows.items) = search rules in
    let sorted : FitVariables (theory_of c.args.algebra.now) (map sort_number c.deref.result.now) c.deref-2.result.now (map
    (tree_at c.read_all.new.table) c.in-Some.rows.items) = search rules in
    let xs : c.add_variables.new.found.items ≡ variables_of (equation_of c.args.equation.now).left =
    c.in_ok-add_variables.ensures ∙ ap (λ found. with_variables found
    (equation_of c.args.equation.now).left) c.new-variables.ensures.items in
    let fit = variables_moved (theory_of c.args.algebra.now) c.deref.result.now c.args.equation.now.vars.items c.deref-2.result.now
    (variables_of (equation_of c.args.equation.now).left) (map (tree_at c.read_all.new.table) c.in-Some.rows.items)
    c.deref.ensures.value (c.deref-2.ensures.value ∙ xs) sorted in
    let same = stack_stays c.args.table.now c.read_all.new.table c.in_ok-read_all.ensures.grown.longer c.args.taken.now c.requires.there in
    IfOk-weaker c.instance_by.result _ _
    (λ found h. none_then found h (λ k put o. k put
    (subst (λ is. IsInstanceBy (equation_of c.args.equation.now) (map (tree_at c.read_all.new.table) is)
    (stack_of c.read_all.new.table c.args.taken.now) put) (sym c.deref-in-Some-2.ensures.value)
    (subst (λ (st : List Sides). IsInstanceBy (equation_of c.args.equation.now) (map
    (tree_at c.read_all.new.table) c.in-Some.rows.items) st put) (sym same)
    (instance_read (theory_of c.args.algebra.now) (equation_of c.args.equation.now) c.args.values.now (map
    (tree_at c.read_all.new.table) c.in-Some.rows.items) (stack_of c.args.table.now c.args.taken.now) put spelled fit o)))))
    c.instance_by.ensures.none
