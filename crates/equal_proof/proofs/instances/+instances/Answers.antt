use Rattle.std.proofs.Common.{rules, ◌≡◌, ◌-◌, ◌∙◌, arith, ap, sym, subst, map, suc}
use Rattle.spec_core.specs.Theories.{theory_of}
use Rattle.equal_proof.proofs.Running.{grows_itself, grows_on}
use Rattle.std.proofs.lemmas.Result.{IfOk-weaker}
use Rattle.std.proofs.lemmas.List.{take_all}
use Rattle.spec_core.specs.Lists.{Each}
use Rattle.spec_core.specs.Sorts.{FitsGround}
use Rattle.spec_core.specs.declared.term.Term.TheFolds.{the_lemmas}
use Rattle.spec_core.specs.Terms.{apply, term_of, terms}
use Rattle.equal_proof.proofs.Weights.{weight, weights, weight_inside}
use Rattle.value_table.specs.Tables.{tree_at, IsRow}
use Rattle.value_table.proofs.Tables.{longer_on, still_rows}
use Rattle.equal_proof.specs.Pairs.{instance_at, instances_at}
use Rattle.equal_proof.proofs.Inferred.{args_fit, both_ok, call_instance_fits, each_of_map, instance_of_call, instance_stays}
use Rattle.equal_proof.proofs.Inferred.{instances_more}
use Rattle.equal_proof.proofs.instances.+instances.Goals as goal

pub all_instances-loop-term-init : goal.all_instances-loop-term-init
all_instances-loop-term-init t c =
    record {
      grown = grows_itself (theory_of c.args.algebra.now) c.args.table.now c.requires.fit;
      there = subst (Each (IsRow c.args.table.now)) (sym c.new-made.ensures.items) tt;
      trees = ap (map (tree_at c.args.table.now)) c.new-made.ensures.items;
    }

pub all_instances-instance-requires : goal.all_instances-instance-requires
all_instances-instance-requires t c =
    let g = c.loop-term.invariant.grown in
    let m = weight_inside c.args.all.now c.loop-term.term-index c.term-item.result c.loop-term-test.true c.term-item.is in (
      omega (arith, c.decreases, m),
      (
        g.fit,
        (
          still_rows c.args.table.now c.loop-term.table g.longer c.args.rows.now c.requires.rows,
          subst (FitsGround (theory_of c.args.algebra.now)) (sym
              (instance_stays c.args.table.now c.loop-term.table g.longer c.args.variables.now c.args.rows.now c.term-item.result
              c.requires.rows))
              (each_of_map (FitsGround (theory_of c.args.algebra.now))
              (instance_at c.args.table.now c.args.variables.now c.args.rows.now) c.args.all.now c.loop-term.term-index
              c.term-item.result
              c.requires.fits c.loop-term-test.true c.term-item.is),
        ),
      ),
    )

pub all_instances-loop-term-preserved : goal.all_instances-loop-term-preserved
all_instances-loop-term-preserved t c =
    let g = c.loop-term.invariant.grown in
    let k = c.in_ok-instance.ensures.grown in
    let r = instances_more c.args.table.now c.loop-term.table c.instance.new.table c.args.variables.now c.args.rows.now c.args.all.now
    c.term-item.result c.loop-term.term-index
    c.in_ok-instance.field-0 c.loop-term.made.items c.push.new.self.items g.longer k.longer c.requires.rows c.loop-term.invariant.there
    c.in_ok-instance.ensures.there c.loop-term-test.true c.term-item.is c.in_ok-instance.ensures.tree c.in_ok-push.ensures.items
    c.loop-term.invariant.trees in
    record {
      grown = grows_on (theory_of c.args.algebra.now) c.args.table.now c.loop-term.table c.instance.new.table g k;
      there = r.0;
      trees = r.1;
    }

pub all_instances-returns-clause-trees : goal.all_instances-returns-clause-trees
all_instances-returns-clause-trees t c =
    c.loop-term.invariant.trees
    ∙ ap (instances_at c.args.table.now c.args.variables.now c.args.rows.now)
    (take_all c.loop-term.term-index c.args.all.now c.loop-term-test.false)

pub instance-all_instances-requires : goal.instance-all_instances-requires
instance-all_instances-requires t c =
    let e : term_of c.args.term.now ≡ apply c.in-App.op.0 (terms (map term_of c.in-App.args.items)) = search (rules, the_lemmas) in
    let d : c.deref.result.now ≡ c.in-App.args.items = search rules in
    let m : weight (term_of c.args.term.now) ≡ suc (weights (terms (map term_of c.deref.result.now))) =
    ap weight e ∙ ap (λ ts. suc (weights (terms (map term_of ts)))) (sym d) in (
      omega (arith, c.decreases, m),
      (
        c.requires.fit,
        (
          c.requires.rows,
          subst (λ ts. Each (FitsGround (theory_of c.args.algebra.now))
              (instances_at c.args.table.now c.args.variables.now c.args.rows.now ts)) (sym d)
              (args_fit (theory_of c.args.algebra.now) c.in-App.op.0
              (instances_at c.args.table.now c.args.variables.now c.args.rows.now c.in-App.args.items)
              (call_instance_fits (theory_of c.args.algebra.now) c.args.table.now c.args.variables.now c.args.rows.now
              (term_of c.args.term.now) c.in-App.op.0 c.in-App.args.items e c.requires.fits)),
        ),
      ),
    )

pub instance-returns-in-Some-clause-grown : goal.instance-returns-in-Some-clause-grown
instance-returns-in-Some-clause-grown t c =
    grows_itself (theory_of c.args.algebra.now) c.args.table.now c.requires.fit

pub instance-returns-in_ok-made-in-App-clause-grown : goal.instance-returns-in_ok-made-in-App-clause-grown
instance-returns-in_ok-made-in-App-clause-grown t c =
    let g = c.in_ok-made-in-App.ensures.grown in
    let e : term_of c.args.term.now ≡ apply c.in-App.op.0 (terms (map term_of c.in-App.args.items)) = search (rules, the_lemmas) in
    let d : c.deref.result.now ≡ c.in-App.args.items = search rules in
    let trees = c.in_ok-made-in-App.ensures.trees ∙ ap (instances_at c.args.table.now c.args.variables.now c.args.rows.now) d in
    let fits = subst (λ ts. FitsGround (theory_of c.args.algebra.now) (apply c.in-App.op.0 (terms ts))) (sym trees)
    (call_instance_fits (theory_of c.args.algebra.now) c.args.table.now c.args.variables.now c.args.rows.now
    (term_of c.args.term.now) c.in-App.op.0 c.in-App.args.items e c.requires.fits) in
    both_ok c.make.result c.make.ensures.longer c.make.ensures.fit
    (λ n longer fit. record {
      longer = longer_on c.args.table.now c.all_instances.new.table c.make.new.self g.longer longer;
      fit = fit (theory_of c.args.algebra.now) fits g.fit;
    })

pub instance-returns-in_ok-made-in-App-clause-tree : goal.instance-returns-in_ok-made-in-App-clause-tree
instance-returns-in_ok-made-in-App-clause-tree t c =
    let e : term_of c.args.term.now ≡ apply c.in-App.op.0 (terms (map term_of c.in-App.args.items)) = search (rules, the_lemmas) in
    let d : c.deref.result.now ≡ c.in-App.args.items = search rules in
    let trees = c.in_ok-made-in-App.ensures.trees ∙ ap (instances_at c.args.table.now c.args.variables.now c.args.rows.now) d in
    IfOk-weaker c.make.result _ _
    (λ n tree. instance_of_call c.args.table.now c.all_instances.new.table c.make.new.self c.args.variables.now c.args.rows.now
    (term_of c.args.term.now) c.in-App.op.0 n
    c.in-App.args.items c.in_ok-made-in-App.made.items e trees tree)
    c.make.ensures.tree
