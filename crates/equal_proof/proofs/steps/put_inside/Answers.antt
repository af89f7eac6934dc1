use Rattle.std.proofs.Common.{◌≡◌, ◌-◌, ◌∙◌, arith, ap, sym, subst, true, false, map}
use Rattle.spec_core.specs.Theories.{theory_of, operation_of}
use Rattle.equal_proof.proofs.Running.{grows_itself}
use Rattle.spec_core.specs.Numbers.{sort_number}
use Rattle.spec_core.specs.Sorts.{HaveSorts, no_variables}
use Rattle.spec_core.specs.Terms.{terms}
use Rattle.value_table.specs.Tables.{tree_at}
use Rattle.value_table.proofs.Spelled.{call_fits}
use Rattle.value_table.proofs.Tables.{longer_on, same_trees, still_rows}
use Rattle.equal_proof.specs.Certificates.{left_of, right_of}
use Rattle.equal_proof.specs.Pairs.{stack_of}
use Rattle.equal_proof.proofs.Inferred.{inside_inferred, inside_sorts, sorts_moved}
use Rattle.equal_proof.proofs.steps.put_inside.Goals as goal

pub returns-then-not-have_sorts-clause-grown : goal.returns-then-not-have_sorts-clause-grown
returns-then-not-have_sorts-clause-grown c =
    grows_itself (theory_of c.args.algebra.now) c.args.table.now c.requires.fit

pub returns-then-not-have_sorts-clause-none : goal.returns-then-not-have_sorts-clause-none
returns-then-not-have_sorts-clause-none c =
    λ put h.
    let s = inside_sorts (theory_of c.args.algebra.now) c.args.table.now c.args.op
    (operation_of c.args.declared.now) c.args.taken.now put c.requires.declared h in
    let m : map (tree_at c.args.table.now) c.deref.result.now ≡ map left_of (stack_of c.args.table.now c.args.taken.now) =
    ap (map (tree_at c.args.table.now)) c.deref.ensures.value ∙ c.in_ok-left.ensures.sides in
    let t = c.have_sorts.ensures.decides.1
    (subst (λ ss. HaveSorts (theory_of c.args.algebra.now) no_variables (terms (map (tree_at c.args.table.now) c.deref.result.now))
    (map sort_number ss)) (sym c.deref-2.ensures.value)
    (subst (λ ts. HaveSorts (theory_of c.args.algebra.now) no_variables (terms ts) (map sort_number c.args.declared.now.args.items))
    (sym m) s.0)) in
    let n : true ≡ false = sym t ∙ c.if-not-have_sorts.true in
    let z : ⊥ = cc in z

pub returns-then-not-have_sorts-2-clause-grown : goal.returns-then-not-have_sorts-2-clause-grown
returns-then-not-have_sorts-2-clause-grown c =
    grows_itself (theory_of c.args.algebra.now) c.args.table.now c.requires.fit

pub returns-then-not-have_sorts-2-clause-none : goal.returns-then-not-have_sorts-2-clause-none
returns-then-not-have_sorts-2-clause-none c =
    λ put h.
    let s = inside_sorts (theory_of c.args.algebra.now) c.args.table.now c.args.op
    (operation_of c.args.declared.now) c.args.taken.now put c.requires.declared h in
    let m : map (tree_at c.args.table.now) c.deref-3.result.now ≡ map right_of (stack_of c.args.table.now c.args.taken.now) =
    ap (map (tree_at c.args.table.now)) c.deref-3.ensures.value ∙ c.in_ok-right.ensures.sides in
    let t = c.have_sorts-2.ensures.decides.1
    (subst (λ ss. HaveSorts (theory_of c.args.algebra.now) no_variables (terms (map (tree_at c.args.table.now) c.deref-3.result.now))
    (map sort_number ss)) (sym c.deref-4.ensures.value)
    (subst (λ ts. HaveSorts (theory_of c.args.algebra.now) no_variables (terms ts) (map sort_number c.args.declared.now.args.items))
    (sym m) s.1)) in
    let n : true ≡ false = sym t ∙ c.if-not-have_sorts-2.true in
    let z : ⊥ = cc in z

pub make-requires-2 : goal.make-requires-2
make-requires-2 c =
    record {
      there = still_rows c.args.table.now c.make.new.self c.in_ok-left-2.ensures.longer c.in_ok-right.right.items
          c.in_ok-right.ensures.there;
    }

pub returns-clause-grown : goal.returns-clause-grown
returns-clause-grown c =
    let x = sorts_moved (theory_of c.args.algebra.now) c.args.table.now c.deref.result.now c.in_ok-left.left.items c.deref-2.result.now
    c.args.declared.now.args.items c.deref.ensures.value c.deref-2.ensures.value
    (c.have_sorts.ensures.decides.0 c.if-not-have_sorts.false) in
    let y = sorts_moved (theory_of c.args.algebra.now) c.args.table.now c.deref-3.result.now c.in_ok-right.right.items c.deref-4.result.now
    c.args.declared.now.args.items c.deref-3.ensures.value c.deref-4.ensures.value
    (c.have_sorts-2.ensures.decides.0 c.if-not-have_sorts-2.false) in
    record {
      longer = longer_on c.args.table.now c.make.new.self c.make-2.new.self c.in_ok-left-2.ensures.longer c.in_ok-right-2.ensures.longer;
      fit = c.in_ok-right-2.ensures.fit (theory_of c.args.algebra.now)
          (call_fits (theory_of c.args.algebra.now) c.args.op.0 (terms (map (tree_at c.make.new.self) c.in_ok-right.right.items))
          (operation_of c.args.declared.now) c.requires.declared
          (subst (λ ts. HaveSorts (theory_of c.args.algebra.now) no_variables (terms ts) (map sort_number c.args.declared.now.args.items))
          (sym (same_trees c.args.table.now c.make.new.self c.in_ok-left-2.ensures.longer c.in_ok-right.right.items
          c.in_ok-right.ensures.there))
          y))
          (c.in_ok-left-2.ensures.fit (theory_of c.args.algebra.now)
          (call_fits (theory_of c.args.algebra.now) c.args.op.0 (terms (map (tree_at c.args.table.now) c.in_ok-left.left.items))
          (operation_of c.args.declared.now) c.requires.declared x)
          c.requires.fit);
    }

pub returns-clause-there : goal.returns-clause-there
returns-clause-there c =
    (omega (arith, c.in_ok-left-2.ensures.there, c.in_ok-right-2.ensures.longer.at_least), c.in_ok-right-2.ensures.there)

pub returns-clause-some : goal.returns-clause-some
returns-clause-some c =
    let x = sorts_moved (theory_of c.args.algebra.now) c.args.table.now c.deref.result.now c.in_ok-left.left.items c.deref-2.result.now
    c.args.declared.now.args.items c.deref.ensures.value c.deref-2.ensures.value
    (c.have_sorts.ensures.decides.0 c.if-not-have_sorts.false) in
    let y = sorts_moved (theory_of c.args.algebra.now) c.args.table.now c.deref-3.result.now c.in_ok-right.right.items c.deref-4.result.now
    c.args.declared.now.args.items c.deref-3.ensures.value c.deref-4.ensures.value
    (c.have_sorts-2.ensures.decides.0 c.if-not-have_sorts-2.false) in
    inside_inferred (theory_of c.args.algebra.now) c.args.table.now c.make.new.self c.make-2.new.self c.args.op
    (operation_of c.args.declared.now) c.in_ok-left.left.items c.in_ok-right.right.items
    c.in_ok-left-2.left c.in_ok-right-2.right c.args.taken.now c.requires.declared c.in_ok-left-2.ensures.longer
    c.in_ok-right-2.ensures.longer c.in_ok-left-2.ensures.there c.in_ok-right.ensures.there c.in_ok-left.ensures.sides
    c.in_ok-right.ensures.sides x y c.in_ok-left-2.ensures.tree c.in_ok-right-2.ensures.tree
