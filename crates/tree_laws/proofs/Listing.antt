-- The list of all trees of a behaviour holds none twice.
use Rattle.std.proofs.Common.{◌≡◌, ◌<◌, ◌⊎◌, inl, inr, sym, subst, arith, List, length, flat_map}
use Rattle.std.proofs.lemmas.Bool.{cases_order}
use Rattle.spec_core.specs.Sorts.{IsDeclaredSort}
use Rattle.spec_core.proofs.Definitions.{windows_are_in_order}
use Rattle.spec_core.proofs.Members.{each_one, from_flat_map}
use Rattle.symbolic_rules.specs.MarkedTerms.{unmarked}
use Rattle.symbolic_composites.specs.OpenFields.{all_choices, choices_at_once}
use Rattle.symbolic_composites.specs.Composites.{Composite, filled}
use Rattle.symbolic_composites.specs.TreeLists.{offered}
use Rattle.symbolic_plans.specs.OpenPlans.{OpenPlan, composite_of}
use Rattle.symbolic_plans.specs.OwnPlans.{own_plans}
use Rattle.symbolic_plans.specs.Plans.{trees_of}
use Rattle.symbolic_plans.proofs.Own.{own_plans_are_those}
use Rattle.tree_laws.specs.Laws.{AllDiffer, SizedWindowsDiffer, CandidatesDiffer}
use Rattle.tree_laws.proofs.Differing.{differ_keyed, flat_of_map}
use Rattle.tree_laws.proofs.Planning.{bare, Shows, has_rules, field_trees_differ}
use Rattle.tree_laws.proofs.Owning.{key, all_fine}

pub sized_windows_differ : SizedWindowsDiffer
sized_windows_differ theory k w sized others sort = by_order (cases_order sort (length theory.sorts))
  where
    none : (IsDeclaredSort theory sort → ⊥) → AllDiffer (w.values sort)
    none k = subst AllDiffer (sym (others sort k)) tt

    by_order : (sort ≡ length theory.sorts) ⊎ ((sort < length theory.sorts) ⊎ (length theory.sorts < sort)) → AllDiffer (w.values sort)
    by_order (inl e) = none (λ h. absurd (omega (arith, e, h)))
    by_order (inr (inl h)) = (windows_are_in_order theory sort k (w.values sort) (w.complete sort) (sized sort h)).1
    by_order (inr (inr h)) = none (λ l. absurd (omega (arith, l, h)))

pub candidates_differ : CandidatesDiffer
candidates_differ theory e w n b o windows =
    let ps = own_plans theory e w n unmarked b in
    let fine = all_fine theory e w windows n unmarked b in
    subst (λ cs. AllDiffer (flat_map (λ (c : Composite). filled c (all_choices theory w (offered o) c.fields)) cs))
    (own_plans_are_those theory e w n unmarked b)
    (subst AllDiffer
    (sym (flat_of_map (λ (c : Composite). filled c (all_choices theory w (offered o) c.fields)) (composite_of theory w) ps))
    (differ_keyed key bare (λ (p : OpenPlan). filled (composite_of theory w p) (all_choices theory w (offered o) p.fields)) ps fine.differ
    (λ p i. field_trees_differ theory w windows p.plan (offered o) p.fields (each_one (λ p. Shows p.plan p.fields) ps p fine.shows i))
    (λ p d i k.
    let l = from_flat_map (λ slots. trees_of theory w p.plan slots)
    (choices_at_once p.fields (all_choices theory w (offered o) p.fields)) d k in
    has_rules theory w p.plan l.0 d l.2)))
