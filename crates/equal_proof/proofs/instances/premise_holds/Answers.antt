use Rattle.std.proofs.Common.{◌≡◌, ◌-◌, ◌∙◌, arith, sym, subst, true, false}
use Rattle.spec_core.specs.Theories.{theory_of}
use Rattle.equal_proof.proofs.Running.{grows_on}
use Rattle.spec_core.specs.Sorts.{FitsGround}
use Rattle.value_table.specs.Tables.{tree_at}
use Rattle.value_table.proofs.Tables.{longer_on, still_rows}
use Rattle.equal_proof.specs.Pairs.{instance_at}
use Rattle.equal_proof.proofs.Inferred.{instance_stays, premise_same, premise_sides}
use Rattle.equal_proof.proofs.instances.premise_holds.Goals as goal

pub instance-requires-2-clause-rows : goal.instance-requires-2-clause-rows
instance-requires-2-clause-rows c =
    still_rows c.args.table.now c.instance.new.table c.in_ok-left.ensures.grown.longer c.args.rows.now c.requires.rows

pub instance-requires-2-clause-fits : goal.instance-requires-2-clause-fits
instance-requires-2-clause-fits c =
    subst (FitsGround (theory_of c.args.algebra.now)) (sym
    (instance_stays c.args.table.now c.instance.new.table c.in_ok-left.ensures.grown.longer c.args.variables.now c.args.rows.now
    c.args.premise.now.1 c.requires.rows)) c.requires.fits.1

pub same-requires-clause-left : goal.same-requires-clause-left
same-requires-clause-left c =
    omega (arith, c.requires.there.0, c.in_ok-left.ensures.grown.longer.at_least, c.in_ok-right.ensures.grown.longer.at_least)

pub same-requires-clause-right : goal.same-requires-clause-right
same-requires-clause-right c =
    omega (arith, c.in_ok-left.ensures.there, c.in_ok-right.ensures.grown.longer.at_least)

pub returns-then-not-same-clause-grown : goal.returns-then-not-same-clause-grown
returns-then-not-same-clause-grown c =
    grows_on (theory_of c.args.algebra.now) c.args.table.now c.instance.new.table c.instance-2.new.table c.in_ok-left.ensures.grown
    c.in_ok-right.ensures.grown

pub returns-then-not-same-clause-decides : goal.returns-then-not-same-clause-decides
returns-then-not-same-clause-decides c =
    let g = c.in_ok-left.ensures.grown in
    let k = c.in_ok-right.ensures.grown in
    let l = longer_on c.args.table.now c.instance.new.table c.instance-2.new.table g.longer k.longer in
    let left : tree_at c.instance-2.new.table c.in_ok-left.left ≡ instance_at c.args.table.now c.args.variables.now c.args.rows.now
    c.args.premise.now.0 =
    k.longer.same c.in_ok-left.left c.in_ok-left.ensures.there ∙ c.in_ok-left.ensures.tree in
    let right : tree_at c.instance-2.new.table c.in_ok-right.right ≡ instance_at c.args.table.now c.args.variables.now c.args.rows.now
    c.args.premise.now.1 =
    c.in_ok-right.ensures.tree ∙ instance_stays c.args.table.now c.instance.new.table g.longer c.args.variables.now c.args.rows.now
    c.args.premise.now.1 c.requires.rows in (
      λ h. let n : false ≡ true = h in absurd (cc),
      λ e. let s = premise_sides c.args.table.now c.instance-2.new.table c.args.variables.now c.args.rows.now c.args.premise.now
          c.args.pair c.in_ok-left.left c.in_ok-right.right l c.requires.there left right e in
          let n : true ≡ false = sym (c.same.ensures.decides.1 s.0) ∙ c.if-not-same.true in absurd (cc),
    )

pub same-requires-2-clause-left : goal.same-requires-2-clause-left
same-requires-2-clause-left c =
    omega (arith, c.requires.there.1, c.in_ok-left.ensures.grown.longer.at_least, c.in_ok-right.ensures.grown.longer.at_least)

pub returns-clause-grown : goal.returns-clause-grown
returns-clause-grown c =
    grows_on (theory_of c.args.algebra.now) c.args.table.now c.instance.new.table c.instance-2.new.table c.in_ok-left.ensures.grown
    c.in_ok-right.ensures.grown

pub returns-clause-decides : goal.returns-clause-decides
returns-clause-decides c =
    let g = c.in_ok-left.ensures.grown in
    let k = c.in_ok-right.ensures.grown in
    let l = longer_on c.args.table.now c.instance.new.table c.instance-2.new.table g.longer k.longer in
    let left : tree_at c.instance-2.new.table c.in_ok-left.left ≡ instance_at c.args.table.now c.args.variables.now c.args.rows.now
    c.args.premise.now.0 =
    k.longer.same c.in_ok-left.left c.in_ok-left.ensures.there ∙ c.in_ok-left.ensures.tree in
    let right : tree_at c.instance-2.new.table c.in_ok-right.right ≡ instance_at c.args.table.now c.args.variables.now c.args.rows.now
    c.args.premise.now.1 =
    c.in_ok-right.ensures.tree ∙ instance_stays c.args.table.now c.instance.new.table g.longer c.args.variables.now c.args.rows.now
    c.args.premise.now.1 c.requires.rows in (
      λ h. premise_same c.args.table.now c.instance-2.new.table c.args.variables.now c.args.rows.now c.args.premise.now c.args.pair
          c.in_ok-left.left c.in_ok-right.right l c.requires.there left right
          (c.same.ensures.decides.0 c.if-not-same.false) (c.same-2.ensures.decides.0 h),
      λ e. c.same-2.ensures.decides.1 (premise_sides c.args.table.now c.instance-2.new.table c.args.variables.now c.args.rows.now
          c.args.premise.now c.args.pair c.in_ok-left.left c.in_ok-right.right l c.requires.there left right e).1,
    )
