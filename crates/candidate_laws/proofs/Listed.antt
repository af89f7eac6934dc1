-- The lists hold the trees that are asked for, and all of them.
use Rattle.std.proofs.Common.{ℕ, ◌⊎◌, inl, inr, Option, Some, None, Bool, length}
use Rattle.spec_core.specs.Lists.{IsOneOf}
use Rattle.spec_core.specs.Code.{Program}
use Rattle.spec_core.proofs.Members.{one_filter, one_flat_map}
use Rattle.rule_model.specs.declared.offer.Offer.{Offer}
use Rattle.rule_model.specs.Actions.{Kind}
use Rattle.rule_model.specs.Behaviours.{Behaviour}
use Rattle.rule_model.specs.Derivations.{Derivation}
use Rattle.symbolic_rules.specs.Windows.{Windows}
use Rattle.symbolic_rules.specs.MarkedTerms.{unmarked}
use Rattle.symbolic_rules.specs.Trees.{IsSeen, IsBeyond}
use Rattle.decision_trees.specs.Rules.{meeting, any, unseen, beyond, any_beyond, beyond_or_unseen}
use Rattle.symbolic_composites.specs.Evaluations.{Evaluation, IsExact}
use Rattle.symbolic_composites.specs.OpenFields.{all_choices}
use Rattle.symbolic_composites.specs.Composites.{Composite, filled, composites}
use Rattle.symbolic_composites.specs.TreeLists.{Nests, candidates, offered}
use Rattle.symbolic_composites.proofs.Lists.{filter_passes}
use Rattle.symbolic_composites.proofs.Listing.{all_listed, filled_one}
use Rattle.symbolic_composites.proofs.OpenFields.{all_within_suffice}
use Rattle.symbolic_composites.proofs.TreeLists.{seen_trees_are_candidates}
use Rattle.symbolic_composites.proofs.Nesting.{calls_nest_within_the_code}
use Rattle.candidate_laws.specs.Asked.{TreeQuery, IsUnseenKind, IsAsked, offer_in}
use Rattle.candidate_laws.specs.TreeLaws.{IsAnswered, AskedTreesAreListed}

-- a tree that is seen for no offer is a candidate whatever is offered
seen_is_candidate : (program : Program) (e : Evaluation) (w : Windows) → IsExact program e → (n : ℕ) (b : Behaviour) (o : Option Offer)
    (d : Derivation) (k : Kind) → Nests n d → IsSeen program w b None d k → IsOneOf d (candidates program.theory e w n b o)
seen_is_candidate program e w exact n b o d k nests h =
    let c = all_listed program e exact w d n b unmarked k h.fields nests h.derives in
    one_flat_map (λ (c : Composite). filled c (all_choices program.theory w (offered o) c.fields)) c.composite
    (composites program.theory e w n unmarked b) d c.listed
    (filled_one program e exact w (composites program.theory e w n unmarked b) d k h.fields c
    (all_choices program.theory w (offered o) c.composite.fields)
    (all_within_suffice program.theory w (offered o) c.composite.fields h.fields c.fits h.meets))

module _ (program : Program) (e : Evaluation) (size : ℕ) (w : Windows) (b : Behaviour)
    (is_asked : TreeQuery → Derivation → Bool) (answered : IsAnswered program e size w b is_asked) where
  abbrev n : ℕ
  n = length program.code

  nested : (o : Option Offer) (d : Derivation) (k : Kind) → IsSeen program w b o d k → Nests n d
  nested o d k h = calls_nest_within_the_code program answered.ready.guarded w b o d k h

  seen : (o : Option Offer) (d : Derivation) (k : Kind) → IsSeen program w b o d k → IsOneOf d (candidates program.theory e w n b o)
  seen o d k h = seen_trees_are_candidates program e w answered.exact n b o d k (nested o d k h) h

  asked_is_candidate : (q : TreeQuery) (d : Derivation) → IsAsked program w b q d →
      IsOneOf d (candidates program.theory e w n b (offer_in q))
  asked_is_candidate (meeting p) d h = seen (Some p.offer) d h.0 h.1.0
  asked_is_candidate any d h = seen None d h.0 h.1.0
  asked_is_candidate unseen d h = seen None d h.0 h.1.0
  asked_is_candidate (beyond p) d h = seen (Some p.offer) d h.0 h.1.0
  asked_is_candidate any_beyond d h = seen None d h.0 h.1.0
  asked_is_candidate (beyond_or_unseen p) d h = by_case h
    where
      by_case : ((k : Kind) × IsBeyond program w b (Some p.offer) d k) ⊎ ((k : Kind) × IsBeyond program w b None d k × IsUnseenKind k) →
          IsOneOf d (candidates program.theory e w n b (Some p.offer))
      by_case (inl i) = seen (Some p.offer) d i.0 i.1.0
      by_case (inr i) =
          seen_is_candidate program e w answered.exact n b (Some p.offer) d i.0 (nested None d i.0 i.1.0) i.1.0

pub asked_trees_are_listed : AskedTreesAreListed
asked_trees_are_listed program e size w b is_asked answered q d = (
  λ h. (answered.tests q d).0
      (filter_passes (is_asked q) d (candidates program.theory e w (length program.code) b (offer_in q)) h),
  λ h. one_filter (is_asked q) d (candidates program.theory e w (length program.code) b (offer_in q))
      (asked_is_candidate program e size w b is_asked answered q d h) ((answered.tests q d).1 h),
)
