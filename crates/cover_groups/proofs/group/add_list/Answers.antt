use Rattle.std.proofs.Common.{◌≡◌, ◌∷◌, [], List, map, ap, sym, subst, ◌∙◌, inl}
use Rattle.std.proofs.lemmas.List.{map-append}
use Rattle.std.proofs.lemmas.Option.{MatchOption-at_some}
use Rattle.spec_core.specs.declared.term.Term.{Term}
use Rattle.spec_core.specs.Cover.{IsOfGroup}
use Rattle.spec_core.specs.Substitutions.{substitution_of}
use Rattle.spec_core.specs.Terms.{term_of}
use Rattle.spec_core.specs.Theories.{premise_of, equation_of}
use Rattle.cover_groups.specs.Groups.{premise_instance, premises_of}
use Rattle.cover_groups.specs.Renamings.{IsRenaming}
use Rattle.cover_groups.proofs.Grouping.{is_of_group}
use Rattle.cover_groups.proofs.group.add_list.Goals as goal

pub returns-in_ok-push-in-Some : goal.returns-in_ok-push-in-Some
returns-in_ok-push-in-Some c =
    let l = term_of c.args.left.now in
    let e = equation_of c.args.equation.now in
    let made = premises_of c.in_ok-instantiated-in-Some.field-0 in
    let r : IsRenaming e.left l (map term_of c.in-Some.bound.items) =
    MatchOption-at_some _ (λ bound. IsRenaming e.left l (map term_of bound.items)) c.in-Some.bound c.in-Some.is c.in_ok-renaming.ensures.some in
    let same : made ≡ map (premise_instance (substitution_of (map term_of c.in-Some.bound.items))) e.premises =
    c.in_ok-instantiated-in-Some.ensures
    ∙ ap (λ (xs : List Term). map (premise_instance (substitution_of (map term_of xs))) (map premise_of c.deref-in-Some.result.now)) c.deref.ensures.value
    ∙ ap (λ xs. map (premise_instance (substitution_of (map term_of c.in-Some.bound.items))) (map premise_of xs)) c.deref-in-Some.ensures.value in
    inl (
      made,
      subst (λ ps. IsOfGroup l ps e) (sym same) (is_of_group l e (map term_of c.in-Some.bound.items) c.requires.closed r),
      ap (map premises_of) c.in_ok-push-in-Some.ensures.items ∙ map-append premises_of c.args.lists.now.items (c.in_ok-instantiated-in-Some.field-0 ∷ []),
    )
