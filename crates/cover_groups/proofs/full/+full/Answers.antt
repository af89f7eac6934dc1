use Rattle.std.proofs.Common.{◌≡◌, ◌-◌, ◌∙◌, List, Bor, map, get_or, refl, sym, subst, arith}
use Rattle.std.specs.List.{slice_get}
use Rattle.std.proofs.lemmas.List.{take_all}
use Rattle.spec_core.specs.declared.items.Op.{Op}
use Rattle.spec_core.specs.declared.term.Term.{Term}
use Rattle.spec_core.specs.Cover.{IsConstant, IsAfter, IsFull, empty_one}
use Rattle.spec_core.specs.Lists.{Each}
use Rattle.spec_core.specs.Numbers.{op_number, sort_number}
use Rattle.spec_core.specs.Terms.{term_of}
use Rattle.spec_core.specs.Theories.{Premise, premise_of, theory_of}
use Rattle.spec_core.proofs.Lists.{untrue}
use Rattle.spec_core.proofs.Members.{each_one}
use Rattle.cover_search.specs.Constructors.{AreConstructorsOf}
use Rattle.cover_search.proofs.Heading.{false_true}
use Rattle.cover_groups.specs.Fullness.{AllFit, HaveAtMost}
use Rattle.cover_groups.specs.Groups.{premises_at}
use Rattle.cover_groups.proofs.ConstantSorts.{constant_listed, listed_constant, op_listed, ops_next}
use Rattle.cover_groups.proofs.Fullness.{full_by, first_length, no_candidate, one_sort, sorted_found, shorter, after_fit, one_after}
use Rattle.cover_groups.proofs.full.+full.Goals as goal

pub is_full-returns-then-has_empty : goal.is_full-returns-then-has_empty
is_full-returns-then-has_empty t c = (λ h. empty_one (c.if-has_empty.ensures.decides.0 refl), λ h. refl)

pub is_full-returns-then-branch : goal.is_full-returns-then-branch
is_full-returns-then-branch t c = (
  λ h. let theory = theory_of c.args.algebra.now in
      let ls = map premises_at c.args.lists.now in
      let e = c.in_ok-is_full_by-in-Some.ensures in
      full_by theory (slice_get (map sort_number c.args.vars.now)) ls (term_of c.candidate-term.result.now)
      (first_length theory (premise_of c.in-Some.premise.now) ls c.args.longest c.in-Some.ensures.some c.requires.short).1
      (c.in_ok-is_full_by-in-Some.ensures.0 c.if-branch.true),
  λ h. refl,
)

pub is_full-returns-after-loop-number : goal.is_full-returns-after-loop-number
is_full-returns-after-loop-number t c = (
  λ h. absurd (untrue h),
  λ full. let theory = theory_of c.args.algebra.now in
      let ls = map premises_at c.args.lists.now in
      absurd (no_candidate theory (slice_get (map sort_number c.args.vars.now)) (premise_of c.in-Some.premise.now) ls c.in-Some.ensures.some
      (λ o. untrue (c.if-has_empty.ensures.decides.1 o)) (λ n w. c.loop-number.invariant n (omega (arith, w, c.loop-number-test.false))) full),
)

pub is_full_by-is_full-requires : goal.is_full_by-is_full-requires
is_full_by-is_full-requires t c =
    let theory = theory_of c.args.algebra.now in
    let ls = map premises_at c.args.lists.now in
    let rest = map premises_at c.in_ok-rest-in-Some.rest.items in
    let none : Op = record { 0 = 0 } in
    let k = (get_or c.of_sort-constructors.result.now c.loop-op.op-index none).0 in
    let a : IsAfter theory (term_of c.args.term.now) k ls rest = c.in_ok-rest-in-Some.ensures.after in (
      (let d = c.decreases in omega (arith, c.decreases, c.requires.some)),
      (
        c.requires.fits,
        (
          c.requires.index,
          (
            subst (λ (xs : List (Bor (List (Term × Term)))). HaveAtMost (c.args.longest - 1) (map premises_at xs)) (sym c.deref.ensures.value)
                (shorter theory c.args.longest (term_of c.args.term.now) k ls rest a c.requires.short),
            subst (λ (xs : List (Bor (List (Term × Term)))). AllFit theory (slice_get (map sort_number c.args.vars.now)) (map premises_at xs)) (sym c.deref.ensures.value)
                (after_fit theory (slice_get (map sort_number c.args.vars.now)) (term_of c.args.term.now) k ls rest a c.requires.terms),
          ),
        ),
      ),
    )

pub is_full_by-loop-op-preserved : goal.is_full_by-loop-op-preserved
is_full_by-loop-op-preserved t c =
    let theory = theory_of c.args.algebra.now in
    let vars = slice_get (map sort_number c.args.vars.now) in
    let term = term_of c.args.term.now in
    let ls = map premises_at c.args.lists.now in
    let other = map premises_at c.in_ok-rest-in-Some.rest.items in
    let ops = c.of_sort-constructors.result.now in
    let none : Op = record { 0 = 0 } in
    let k = (get_or ops c.loop-op.op-index none).0 in
    let full : IsFull theory vars (map premises_at c.deref.result.now) = c.in_ok-is_full-in-Some.ensures.0 c.if-not-branch.false in
    ops_next (λ n. (rest : List (List Premise)) → IsAfter theory term n ls rest → IsFull theory vars rest) ops c.loop-op.op-index none
    c.loop-op-test.true c.loop-op.invariant
    (λ rest a. subst (IsFull theory vars) (one_after theory term k ls other rest c.in_ok-rest-in-Some.ensures.after a)
    (subst (λ (xs : List (Bor (List (Term × Term)))). IsFull theory vars (map premises_at xs)) c.deref.ensures.value full))

pub is_full_by-returns-then-not-branch : goal.is_full_by-returns-then-not-branch
is_full_by-returns-then-not-branch t c =
    let theory = theory_of c.args.algebra.now in
    let vars = slice_get (map sort_number c.args.vars.now) in
    let term = term_of c.args.term.now in
    let s = c.in-Some.sort.0 in
    let ops = c.of_sort-constructors.result.now in
    let none : Op = record { 0 = 0 } in
    let k = (get_or ops c.loop-op.op-index none).0 in
    let are : AreConstructorsOf theory s (map op_number ops) =
    subst (AreConstructorsOf theory s) (sym c.of_sort-constructors.ensures) (c.requires.index.constructors s) in
    let constant = listed_constant theory s (map op_number ops) are (c.has_constants.ensures.decides.0 c.if-not-has_constants.false) k
    (op_listed ops c.loop-op.op-index none c.loop-op-test.true) in
    let sorted = sorted_found theory vars term s c.in-Some.ensures c.requires.sorted in (
      λ h. absurd (untrue h),
      λ f.
          let same : s ≡ f.sort = one_sort theory vars term s f.sort sorted f.sorted in
          let full : IsFull theory vars (map premises_at c.in_ok-rest-in-Some.rest.items) =
          f.each k (subst (λ n. IsConstant theory n k) same constant) (map premises_at c.in_ok-rest-in-Some.rest.items) c.in_ok-rest-in-Some.ensures.after in
          absurd (false_true (sym c.if-not-branch.true ∙ c.in_ok-is_full-in-Some.ensures.1
          (subst (λ (xs : List (Bor (List (Term × Term)))). IsFull theory vars (map premises_at xs)) (sym c.deref.ensures.value) full))),
    )

pub is_full_by-returns-after-loop-op : goal.is_full_by-returns-after-loop-op
is_full_by-returns-after-loop-op t c = (
  λ h. let theory = theory_of c.args.algebra.now in
      let vars = slice_get (map sort_number c.args.vars.now) in
      let term = term_of c.args.term.now in
      let ls = map premises_at c.args.lists.now in
      let s = c.in-Some.sort.0 in
      let ops = c.of_sort-constructors.result.now in
      let are : AreConstructorsOf theory s (map op_number ops) =
      subst (AreConstructorsOf theory s) (sym c.of_sort-constructors.ensures) (c.requires.index.constructors s) in
      record {
        sort = s;
        sorted = sorted_found theory vars term s c.in-Some.ensures c.requires.sorted;
        all_constant = c.has_constants.ensures.decides.0 c.if-not-has_constants.false;
        begin = c.all_begin.ensures.decides.0 c.if-not-all_begin.false;
        each = λ k i.
            each_one (λ n. (rest : List (List Premise)) → IsAfter theory term n ls rest → IsFull theory vars rest) (map op_number ops) k
            (subst (λ xs. Each (λ n. (rest : List (List Premise)) → IsAfter theory term n ls rest → IsFull theory vars rest) (map op_number xs))
            (take_all c.loop-op.op-index ops c.loop-op-test.false) c.loop-op.invariant)
            (constant_listed theory s (map op_number ops) are k i);
      },
  λ h. refl,
)
