use Rattle.std.proofs.Common.{◌≡◌, ◌<◌, IfNone, IfSome, length, vec_len, map, rules, sym, subst, arith}
use Rattle.spec_core.specs.declared.term.Term.TheFolds.{the_lemmas}
use Rattle.spec_core.specs.Lists.{Each}
use Rattle.spec_core.specs.Orthogonality.{AreApart}
use Rattle.spec_core.specs.Terms.{apply, terms, term_of}
use Rattle.spec_core.specs.Theories.{theory_of, equation_of}
use Rattle.equation_faults.specs.Faults.{IsFaultOf, IsWellFormed}
use Rattle.equation_faults.specs.Firsts.{IsFirstOf}
use Rattle.equation_check.specs.Groups.{group_of, seen, IsIndexed}
use Rattle.equation_check.specs.Shape.{IsRefusalOf, fault}
use Rattle.equation_check.proofs.Grouping.{head_below, not_grouped, grouped, accepted, overlapped, formed_group, group_at}
use Rattle.equation_check.proofs.Indexing.{group_of_place}
use Rattle.equation_check.proofs.Refusing.{fault_refuses}
use Rattle.equation_check.proofs.check.refusal_of.Goals as goal

pub returns-in-Some-clause-grouped : goal.returns-in-Some-clause-grouped
returns-in-Some-clause-grouped c before are =
    let theory = theory_of c.args.algebra.now in
    let e = equation_of c.args.equation.now in
    let f = subst (λ o. IfSome o (IsFaultOf theory e)) c.in-Some.is c.in_ok-fault.ensures.fault in
    not_grouped theory before e c.args.groups.now.items (fault_refuses theory e c.in-Some.fault f) are

pub returns-in-Some-clause-answer : goal.returns-in-Some-clause-answer
returns-in-Some-clause-answer c before are =
    let theory = theory_of c.args.algebra.now in
    let e = equation_of c.args.equation.now in
    fault c.in-Some.fault (subst (λ o. IfSome o (IsFaultOf theory e)) c.in-Some.is c.in_ok-fault.ensures.fault)

pub index-requires : goal.index-requires
index-requires c =
    let ps = terms (map term_of c.in-App.field-1.items) in
    let k : term_of c.args.equation.now.left ≡ apply c.in-App.op.0 ps = search (rules, the_lemmas) in
    let below = head_below (theory_of c.args.algebra.now) c.args.heads.now (equation_of c.args.equation.now) c.in-App.op.0 c.requires.heads
    c.requires.listed (ps, k) in
    omega (arith, below, c.requires.sized)

pub add_to_group-requires : goal.add_to_group-requires
add_to_group-requires c =
    let ps = terms (map term_of c.in-App.field-1.items) in
    let k : term_of c.args.equation.now.left ≡ apply c.in-App.op.0 ps = search (rules, the_lemmas) in
    let below = head_below (theory_of c.args.algebra.now) c.args.heads.now (equation_of c.args.equation.now) c.in-App.op.0 c.requires.heads
    c.requires.listed (ps, k) in
    record { within = omega (arith, below, c.requires.sized); indexed = c.requires.indexed }

pub first_overlapped-requires-clause-group : goal.first_overlapped-requires-clause-group
first_overlapped-requires-clause-group c =
    let theory = theory_of c.args.algebra.now in
    let groups = c.args.groups.now.items in
    let g = c.in-App.op.0 in
    let ps = terms (map term_of c.in-App.field-1.items) in
    let k : term_of c.args.equation.now.left ≡ apply g ps = search (rules, the_lemmas) in
    let below = head_below theory c.args.heads.now (equation_of c.args.equation.now) g c.requires.heads c.requires.listed (ps, k) in
    let v : g < vec_len c.args.groups.now = omega (arith, below, c.requires.sized) in
    let w : g < length groups = search rules in
    let same : group_of groups g ≡ map seen c.index.result.now.equations.items = group_at groups g c.index.result.now w c.index.ensures in
    subst (Each (IsWellFormed theory)) same (formed_group theory c.requires.grouped.0 groups g c.requires.grouped.1)

pub first_overlapped-requires-clause-indexed : goal.first_overlapped-requires-clause-indexed
first_overlapped-requires-clause-indexed c =
    let groups = c.args.groups.now.items in
    let ps = terms (map term_of c.in-App.field-1.items) in
    let k : term_of c.args.equation.now.left ≡ apply c.in-App.op.0 ps = search (rules, the_lemmas) in
    let below = head_below (theory_of c.args.algebra.now) c.args.heads.now (equation_of c.args.equation.now) c.in-App.op.0 c.requires.heads
    c.requires.listed (ps, k) in
    let v : c.in-App.op.0 < vec_len c.args.groups.now = omega (arith, below, c.requires.sized) in
    let w : c.in-App.op.0 < length groups = search rules in
    group_of_place IsIndexed groups c.in-App.op.0 c.index.result.now w c.index.ensures c.requires.indexed

pub returns-in-None-clause-grouped : goal.returns-in-None-clause-grouped
returns-in-None-clause-grouped c before are =
    let theory = theory_of c.args.algebra.now in
    let e = equation_of c.args.equation.now in
    let ps = terms (map term_of c.in-App.field-1.items) in
    let k : e.left ≡ apply c.in-App.op.0 ps = search (rules, the_lemmas) in
    let formed = subst (λ o. IfNone o (IsWellFormed theory e)) c.in_default.is c.in_ok-fault.ensures.none in
    grouped theory before e c.args.groups.now.items c.add_to_group.new.groups.items c.in-App.op.0 formed (ps, k)
    c.in_ok-add_to_group-in-App.ensures.added c.in_ok-add_to_group-in-App.ensures.others are

pub returns-in_ok-overlap-in-Some-found-clause-grouped : goal.returns-in_ok-overlap-in-Some-found-clause-grouped
returns-in_ok-overlap-in-Some-found-clause-grouped c before are =
    let theory = theory_of c.args.algebra.now in
    let e = equation_of c.args.equation.now in
    let ps = terms (map term_of c.in-App.field-1.items) in
    let k : e.left ≡ apply c.in-App.op.0 ps = search (rules, the_lemmas) in
    let formed = subst (λ o. IfNone o (IsWellFormed theory e)) c.in_default.is c.in_ok-fault.ensures.none in
    grouped theory before e c.args.groups.now.items c.add_to_group.new.groups.items c.in-App.op.0 formed (ps, k)
    c.in_ok-add_to_group-in-App.ensures.added c.in_ok-add_to_group-in-App.ensures.others are

pub returns-in-None-clause-answer : goal.returns-in-None-clause-answer
returns-in-None-clause-answer c before are =
    let theory = theory_of c.args.algebra.now in
    let e = equation_of c.args.equation.now in
    let groups = c.args.groups.now.items in
    let g = c.in-App.op.0 in
    let ps = terms (map term_of c.in-App.field-1.items) in
    let k : e.left ≡ apply g ps = search (rules, the_lemmas) in
    let formed = subst (λ o. IfNone o (IsWellFormed theory e)) c.in_default.is c.in_ok-fault.ensures.none in
    let below = head_below theory c.args.heads.now e g c.requires.heads c.requires.listed (ps, k) in
    let v : g < vec_len c.args.groups.now = omega (arith, below, c.requires.sized) in
    let w : g < length groups = search rules in
    let same : group_of groups g ≡ map seen c.index.result.now.equations.items = group_at groups g c.index.result.now w c.index.ensures in
    let apart = subst (λ o. IfNone o (Each (λ d. AreApart theory d e) (map seen c.index.result.now.equations.items))) c.in-None.is c.in_ok-found-in-App.ensures.none in
    accepted theory before e groups g formed (ps, k) are (subst (Each (λ d. AreApart theory d e)) (sym same) apart)

pub returns-in_ok-overlap-in-Some-found-clause-answer : goal.returns-in_ok-overlap-in-Some-found-clause-answer
returns-in_ok-overlap-in-Some-found-clause-answer c before are =
    let theory = theory_of c.args.algebra.now in
    let e = equation_of c.args.equation.now in
    let groups = c.args.groups.now.items in
    let g = c.in-App.op.0 in
    let d = seen c.in-Some-found.earlier in
    let ps = terms (map term_of c.in-App.field-1.items) in
    let k : e.left ≡ apply g ps = search (rules, the_lemmas) in
    let formed = subst (λ o. IfNone o (IsWellFormed theory e)) c.in_default.is c.in_ok-fault.ensures.none in
    let below = head_below theory c.args.heads.now e g c.requires.heads c.requires.listed (ps, k) in
    let v : g < vec_len c.args.groups.now = omega (arith, below, c.requires.sized) in
    let w : g < length groups = search rules in
    let same : group_of groups g ≡ map seen c.index.result.now.equations.items = group_at groups g c.index.result.now w c.index.ensures in
    let first : IsFirstOf (λ x. AreApart theory x e → ⊥) (map seen c.index.result.now.equations.items) d =
    subst (λ o. IfSome o (λ x. IsFirstOf (λ y. AreApart theory y e → ⊥) (map seen c.index.result.now.equations.items) (seen x))) c.in-Some-found.is
    c.in_ok-found-in-App.ensures.first in
    subst (IsRefusalOf theory before e) (sym c.in_ok-overlap-in-Some-found.ensures)
    (overlapped theory before e d groups g formed (ps, k) are (subst (λ es. IsFirstOf (λ x. AreApart theory x e → ⊥) es d) (sym same) first))
