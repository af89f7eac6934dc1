use Rattle.std.proofs.Common.{rules, ◌≡◌, ◌-◌, ◌∷◌, ◌∙◌, arith, ap, sym, true, false, length, map, take, drop, IsTrue, if◌then◌else◌}
use Rattle.spec_core.specs.Theories.{theory_of, premise_of}
use Rattle.equal_proof.proofs.Running.{grows_itself, grows_on, still_pairs}
use Rattle.std.proofs.lemmas.Result.{IfOk-weaker, on_ok_weaker}
use Rattle.std.specs.List.{slice_index_or}
use Rattle.value_table.specs.Tables.{tree_at}
use Rattle.value_table.proofs.Tables.{still_rows}
use Rattle.equal_proof.specs.Certificates.{bound_by, premise_instance}
use Rattle.equal_proof.specs.Pairs.{premise_fits_at, sides_at, IsPair}
use Rattle.equal_proof.proofs.Inferred.{each_behind, each_head, map_parts, no_pair, pair_of_each, premises_decide_none, premises_fit_on}
use Rattle.equal_proof.proofs.Inferred.{premises_lack, premises_more, premises_not}
use Rattle.equal_proof.proofs.instances.+premises_hold.Goals as goal

pub premise_holds-requires-clause-there : goal.premise_holds-requires-clause-there
premise_holds-requires-clause-there t c =
    pair_of_each c.args.table.now c.args.taken.now 0 (omega (arith, c.in-len1-up-taken.len_at_least)) c.requires.there

pub premise_holds-requires-clause-fits : goal.premise_holds-requires-clause-fits
premise_holds-requires-clause-fits t c =
    each_head (premise_fits_at (theory_of c.args.algebra.now) c.args.table.now c.args.variables.now c.args.rows.now) c.args.premises.now
    c.premise-item.result c.in-len1-up.len_at_least
    c.premise-item.is c.requires.fits

pub premises_hold-requires : goal.premises_hold-requires
premises_hold-requires t c =
    let g = c.in_ok-premise_holds-in-len1-up-taken.ensures.grown in (
      search rules,
      (
        g.fit,
        (
          still_rows c.args.table.now c.premise_holds.new.table g.longer c.args.rows.now c.requires.rows,
          (
            still_pairs c.args.table.now c.premise_holds.new.table g.longer (take (length c.args.taken.now - 1)
                (drop 1 c.args.taken.now)) (each_behind (IsPair c.args.table.now) c.args.taken.now c.requires.there),
            premises_fit_on (theory_of c.args.algebra.now) c.args.table.now c.premise_holds.new.table g.longer c.args.variables.now
                c.args.rows.now (take (length c.args.premises.now - 1) (drop 1 c.args.premises.now)) c.requires.rows
                (each_behind (premise_fits_at (theory_of c.args.algebra.now) c.args.table.now c.args.variables.now c.args.rows.now)
                c.args.premises.now c.requires.fits),
          ),
        ),
      ),
    )

pub returns-in-empty-clause-grown : goal.returns-in-empty-clause-grown
returns-in-empty-clause-grown t c =
    grows_itself (theory_of c.args.algebra.now) c.args.table.now c.requires.fit

pub returns-in-empty-clause-decides : goal.returns-in-empty-clause-decides
returns-in-empty-clause-decides t c =
    premises_decide_none c.is_empty.result c.args.table.now c.args.taken.now c.args.premises.now
    (premise_instance (bound_by c.args.variables.now (map
    (tree_at c.args.table.now) c.args.rows.now))) c.in-empty.len_below c.is_empty.ensures

pub returns-in-empty-taken-clause-grown : goal.returns-in-empty-taken-clause-grown
returns-in-empty-taken-clause-grown t c =
    grows_itself (theory_of c.args.algebra.now) c.args.table.now c.requires.fit

pub returns-in-empty-taken-clause-decides : goal.returns-in-empty-taken-clause-decides
returns-in-empty-taken-clause-decides t c =
    premises_lack c.args.table.now c.args.taken.now c.args.premises.now
    (premise_instance (bound_by c.args.variables.now (map
    (tree_at c.args.table.now) c.args.rows.now))) c.in-empty-taken.len_below c.in-len1-up.len_at_least

pub returns-then-branch-clause-grown : goal.returns-then-branch-clause-grown
returns-then-branch-clause-grown t c =
    on_ok_weaker c.premises_hold.result (λ h. grows_on
    (theory_of c.args.algebra.now) c.args.table.now c.premise_holds.new.table c.premises_hold.new.table
    c.in_ok-premise_holds-in-len1-up-taken.ensures.grown h) c.premises_hold.ensures.grown

pub returns-then-branch-clause-decides : goal.returns-then-branch-clause-decides
returns-then-branch-clause-decides t c =
    let a = map_parts (sides_at c.args.table.now) c.args.taken.now no_pair c.in-len1-up-taken.len_at_least in
    let b = map_parts premise_of c.args.premises.now c.premise-item.result c.in-len1-up.len_at_least in
    let p = ap (λ x. premise_of x ∷ map premise_of (take (length c.args.premises.now - 1)
    (drop 1 c.args.premises.now))) c.premise-item.is in
    IfOk-weaker c.premises_hold.result _ _
    (λ hold h. premises_more (IsTrue hold) c.args.table.now c.premise_holds.new.table c.args.variables.now c.args.rows.now
    (slice_index_or c.args.taken.now 0 no_pair) c.args.taken.now (take (length c.args.taken.now - 1)
    (drop 1 c.args.taken.now)) c.premise-item.result c.args.premises.now (take (length c.args.premises.now - 1)
    (drop 1 c.args.premises.now))
    c.in_ok-premise_holds-in-len1-up-taken.ensures.grown.longer c.requires.rows (each_behind
    (IsPair c.args.table.now) c.args.taken.now c.requires.there) a (p ∙ b)
    (c.in_ok-premise_holds-in-len1-up-taken.ensures.decides.0 c.if-branch.true) h)
    c.premises_hold.ensures.decides

pub returns-else-branch-clause-grown : goal.returns-else-branch-clause-grown
returns-else-branch-clause-grown t c =
    c.in_ok-premise_holds-in-len1-up-taken.ensures.grown

pub returns-else-branch-clause-decides : goal.returns-else-branch-clause-decides
returns-else-branch-clause-decides t c =
    let a = map_parts (sides_at c.args.table.now) c.args.taken.now no_pair c.in-len1-up-taken.len_at_least in
    let b = map_parts premise_of c.args.premises.now c.premise-item.result c.in-len1-up.len_at_least in
    let p = ap (λ x. premise_of x ∷ map premise_of (take (length c.args.premises.now - 1)
    (drop 1 c.args.premises.now))) c.premise-item.is in (
      λ h. let n : false ≡ true = h in absurd (cc),
      λ e. absurd (premises_not c.args.table.now c.args.variables.now c.args.rows.now
          (slice_index_or c.args.taken.now 0 no_pair) c.args.taken.now (take (length c.args.taken.now - 1)
          (drop 1 c.args.taken.now)) c.premise-item.result c.args.premises.now (take (length c.args.premises.now - 1)
          (drop 1 c.args.premises.now)) a (p ∙ b)
          (λ same. let n : true ≡ false = sym (c.in_ok-premise_holds-in-len1-up-taken.ensures.decides.1 same)
          ∙ c.if-branch.false in let z : ⊥ = cc in z) e),
    )
