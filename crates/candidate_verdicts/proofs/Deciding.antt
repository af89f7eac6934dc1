-- What is shown decides which queries ask for a tree.
use Rattle.std.proofs.Common.{◌≡◌, ◌↔◌, ◌⊎◌, inl, inr, ◌&&◌, not, refl, ap, subst, Option, Some, None, true}
use Rattle.std.proofs.lemmas.Bool.{and_from, and_parts, or_cases, or_left, false≢true, not-true, or_right}
use Rattle.spec_core.specs.Code.{Program}
use Rattle.rule_model.specs.declared.offer.Offer.{Offer}
use Rattle.rule_model.specs.Actions.{Kind, inside, ends, at_gate}
use Rattle.rule_model.specs.Behaviours.{Behaviour}
use Rattle.rule_model.specs.Derivations.{Derivation}
use Rattle.symbolic_rules.specs.Windows.{Windows}
use Rattle.symbolic_rules.specs.MarkedTerms.{unmarked}
use Rattle.symbolic_rules.specs.MayDerive.{MayDerive}
use Rattle.symbolic_rules.specs.Trees.{has_mark, MayMeet, IsSeen, IsWindowed, IsBeyond}
use Rattle.decision_trees.specs.Rules.{meeting, any, unseen, beyond, any_beyond, beyond_or_unseen}
use Rattle.symbolic_composites.specs.Evaluations.{Evaluation, IsExact}
use Rattle.symbolic_composites.proofs.Trees.{trees_show_one_action}
use Rattle.candidate_laws.specs.Asked.{TreeQuery, IsUnseenKind, IsAsked}
use Rattle.symbolic_actions.specs.Deciding.{may_meet}
use Rattle.symbolic_actions.specs.Shows.{Show, Shows}
use Rattle.symbolic_actions.proofs.Deciding.{fields_are_decided}
use Rattle.candidate_laws.specs.Waiting.{is_unseen}
use Rattle.candidate_search.specs.Searches.{for_offer}
use Rattle.candidate_verdicts.specs.Asked.{suits, asked_by}
use Rattle.candidate_verdicts.specs.Laws.{ShowsDecideQueries}

unseen_is : (k : Kind) → IsUnseenKind k ↔ (is_unseen k ≡ true)
unseen_is inside = (λ h. refl, λ e. tt)
unseen_is ends = (λ h. refl, λ e. tt)
unseen_is (at_gate g) = (λ h. absurd h, λ e. false≢true e)

module _ (program : Program) (e : Evaluation) (w : Windows) (exact : IsExact program e) (b : Behaviour) (d : Derivation) where
  -- nothing is shown: no query asks for the tree
  module _ (nothing : Shows program w b d None) where
    never : {P : Type 0} (o : Option Offer) (k : Kind) → IsSeen program w b o d k → P
    never o k h = absurd (nothing k h.fields h.derives)

    none_asked : (q : TreeQuery) → IsAsked program w b q d → ⊥
    none_asked (meeting p) h = never (Some p.offer) h.0 h.1.0
    none_asked any h = never None h.0 h.1.0
    none_asked unseen h = never None h.0 h.1.0
    none_asked (beyond p) h = never (Some p.offer) h.0 h.1.0
    none_asked any_beyond h = never None h.0 h.1.0
    none_asked (beyond_or_unseen p) (inl h) = never (Some p.offer) h.0 h.1.0
    none_asked (beyond_or_unseen p) (inr h) = never None h.0 h.1.0

  -- this is shown
  module _ (s : Show) (shown : MayDerive program w b d s.kind s.fields) where
    seen : (o : Option Offer) → may_meet program.theory w s.kind s.fields o ≡ true → IsSeen program w b o d s.kind
    seen o m = record {
      fields = s.fields;
      derives = shown;
      meets = (fields_are_decided.meets program.theory w s.kind s.fields o).1 m;
    }

    kind_is : (o : Option Offer) (k : Kind) → IsSeen program w b o d k → k ≡ s.kind
    kind_is o k h = (trees_show_one_action program e w exact unmarked b d k s.kind h.fields s.fields h.derives shown).0

    meets_it : (o : Option Offer) (k : Kind) → IsSeen program w b o d k → may_meet program.theory w s.kind s.fields o ≡ true
    meets_it o k h =
        let one = trees_show_one_action program e w exact unmarked b d k s.kind h.fields s.fields h.derives shown in
        (fields_are_decided.meets program.theory w s.kind s.fields o).0
        (subst (λ fs. MayMeet program.theory w s.kind fs o) one.1 (subst (λ j. MayMeet program.theory w j h.fields o) one.0 h.meets))

    unseen_it : (k : Kind) → IsSeen program w b None d k → IsUnseenKind k → is_unseen s.kind ≡ true
    unseen_it k h u = (unseen_is s.kind).0 (subst IsUnseenKind (kind_is None k h) u)

    within : (o : Option Offer) → not (has_mark d) && may_meet program.theory w s.kind s.fields o ≡ true →
        IsWindowed program w b o d s.kind
    within o t =
        let r = and_parts (not (has_mark d)) (may_meet program.theory w s.kind s.fields o) t in (seen o r.1, not-true (has_mark d) r.0)

    past : (o : Option Offer) → has_mark d && may_meet program.theory w s.kind s.fields o ≡ true → IsBeyond program w b o d s.kind
    past o t = let r = and_parts (has_mark d) (may_meet program.theory w s.kind s.fields o) t in (seen o r.1, r.0)

    asked_so : (q : TreeQuery) → asked_by program.theory w (for_offer q) d (Some s) ≡ true → IsAsked program w b q d
    asked_so (meeting p) t = (s.kind, within (Some p.offer) t)
    asked_so any t = (s.kind, within None t)
    asked_so unseen t =
        let r = and_parts (not (has_mark d)) (may_meet program.theory w s.kind s.fields None && is_unseen s.kind) t in
        let m = and_parts (may_meet program.theory w s.kind s.fields None) (is_unseen s.kind) r.1 in
        (s.kind, (seen None m.0, not-true (has_mark d) r.0), (unseen_is s.kind).1 m.1)
    asked_so (beyond p) t = (s.kind, past (Some p.offer) t)
    asked_so any_beyond t = (s.kind, past None t)
    asked_so (beyond_or_unseen p) t =
        let r = and_parts (has_mark d) (suits program.theory w (beyond_or_unseen p.offer) s) t in
        by_case r.0
        (or_cases (may_meet program.theory w s.kind s.fields (Some p.offer))
        (may_meet program.theory w s.kind s.fields None && is_unseen s.kind) r.1)
      where
        by_case : has_mark d ≡ true →
            (may_meet program.theory w s.kind s.fields (Some p.offer) ≡ true) ⊎
            (may_meet program.theory w s.kind s.fields None && is_unseen s.kind ≡ true) →
            IsAsked program w b (beyond_or_unseen p) d
        by_case marked (inl m) = inl (s.kind, (seen (Some p.offer) m, marked))
        by_case marked (inr m) =
            let r = and_parts (may_meet program.theory w s.kind s.fields None) (is_unseen s.kind) m in
            inr (s.kind, (seen None r.0, marked), (unseen_is s.kind).1 r.1)

    is_so : (q : TreeQuery) → IsAsked program w b q d → asked_by program.theory w (for_offer q) d (Some s) ≡ true
    is_so (meeting p) h =
        and_from (not (has_mark d)) (may_meet program.theory w s.kind s.fields (Some p.offer)) (ap not h.1.1)
        (meets_it (Some p.offer) h.0 h.1.0)
    is_so any h =
        and_from (not (has_mark d)) (may_meet program.theory w s.kind s.fields None) (ap not h.1.1) (meets_it None h.0 h.1.0)
    is_so unseen h =
        and_from (not (has_mark d)) (may_meet program.theory w s.kind s.fields None && is_unseen s.kind) (ap not h.1.1)
        (and_from (may_meet program.theory w s.kind s.fields None) (is_unseen s.kind) (meets_it None h.0 h.1.0)
        (unseen_it h.0 h.1.0 h.2))
    is_so (beyond p) h =
        and_from (has_mark d) (may_meet program.theory w s.kind s.fields (Some p.offer)) h.1.1 (meets_it (Some p.offer) h.0 h.1.0)
    is_so any_beyond h = and_from (has_mark d) (may_meet program.theory w s.kind s.fields None) h.1.1 (meets_it None h.0 h.1.0)
    is_so (beyond_or_unseen p) (inl h) =
        and_from (has_mark d) (suits program.theory w (beyond_or_unseen p.offer) s) h.1.1
        (or_left (may_meet program.theory w s.kind s.fields (Some p.offer))
        (may_meet program.theory w s.kind s.fields None && is_unseen s.kind) (meets_it (Some p.offer) h.0 h.1.0))
    is_so (beyond_or_unseen p) (inr h) =
        and_from (has_mark d) (suits program.theory w (beyond_or_unseen p.offer) s) h.1.1
        (or_right (may_meet program.theory w s.kind s.fields (Some p.offer))
        (may_meet program.theory w s.kind s.fields None && is_unseen s.kind)
        (and_from (may_meet program.theory w s.kind s.fields None) (is_unseen s.kind) (meets_it None h.0 h.1.0)
        (unseen_it h.0 h.1.0 h.2)))

pub shows_decide_queries : ShowsDecideQueries
shows_decide_queries program e w exact b d None h q = (λ t. absurd (false≢true t), λ i. absurd (none_asked program e w exact b d h q i))
shows_decide_queries program e w exact b d (Some s) h q =
    (asked_so program e w exact b d s h q, is_so program e w exact b d s h q)
