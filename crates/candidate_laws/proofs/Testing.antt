-- Which trees are asked for is known.
use Rattle.std.proofs.Common.{◌≡◌, ◌⊎◌, inl, inr, refl, sym, subst, ◌∙◌, Option, Some, None, Bool, true, false}
use Rattle.std.proofs.lemmas.Bool.{false≢true}
use Rattle.spec_core.specs.Code.{Program}
use Rattle.rule_model.specs.declared.offer.Offer.{Offer}
use Rattle.rule_model.specs.Actions.{Kind, inside, ends, at_gate}
use Rattle.rule_model.specs.Behaviours.{Behaviour}
use Rattle.rule_model.specs.Derivations.{Derivation}
use Rattle.symbolic_rules.specs.Windows.{Windows}
use Rattle.symbolic_rules.specs.MarkedTerms.{unmarked}
use Rattle.symbolic_rules.specs.Trees.{IsSeen, IsWindowed, IsBeyond, has_mark}
use Rattle.decision_trees.specs.Rules.{meeting, any, unseen, beyond, any_beyond, beyond_or_unseen}
use Rattle.symbolic_composites.specs.Evaluations.{Evaluation, IsExact}
use Rattle.symbolic_composites.proofs.One.{IsKnown, known_both, known_as}
use Rattle.symbolic_composites.proofs.Parts.{is_true_known, is_false_known}
use Rattle.symbolic_composites.proofs.Trees.{trees_show_one_action, seen_can_be_tested}
use Rattle.candidate_laws.specs.Asked.{TreeQuery, IsUnseenKind, IsAsked}
use Rattle.candidate_laws.specs.TreeLaws.{AskedCanBeTested}

-- of any kind
abbrev any_kind : Kind → Type 0
any_kind k = Unit {0}

unseen_known : (k : Kind) → IsKnown (IsUnseenKind k)
unseen_known inside = inl tt
unseen_known ends = inl tt
unseen_known (at_gate g) = inr (λ h. h)

either_known : (P Q : Type 0) → IsKnown P → IsKnown Q → IsKnown (P ⊎ Q)
either_known P Q (inl p) q = inl (inl p)
either_known P Q (inr not_p) (inl q) = inl (inr q)
either_known P Q (inr not_p) (inr not_q) = inr neither
  where
    neither : P ⊎ Q → ⊥
    neither (inl p) = not_p p
    neither (inr q) = not_q q

module _ (program : Program) (e : Evaluation) (w : Windows) (exact : IsExact program e) (b : Behaviour) where
  -- whether a tree is seen for an action of a kind of which something holds
  seen_where : (o : Option Offer) (d : Derivation) (R : Kind → Type 0) → ((k : Kind) → IsKnown (R k)) →
      IsKnown ((k : Kind) × IsSeen program w b o d k × R k)
  seen_where o d R known = by_test (test.0 d) refl
    where
      test : (is_seen : Derivation → Bool) × ((f : Derivation) → ((is_seen f ≡ true) → (k : Kind) × IsSeen program w b o f k) ×
          (((k : Kind) × IsSeen program w b o f k) → is_seen f ≡ true))
      test = seen_can_be_tested program e w exact b o

      by_kind : (k : Kind) → IsSeen program w b o d k → IsKnown (R k) → IsKnown ((j : Kind) × IsSeen program w b o d j × R j)
      by_kind k h (inl r) = inl (k, h, r)
      by_kind k h (inr out) =
          inr (λ i. out (subst R
          (trees_show_one_action program e w exact unmarked b d i.0 k i.1.fields h.fields i.1.derives h.derives).0 i.2))

      by_test : (answer : Bool) → test.0 d ≡ answer → IsKnown ((k : Kind) × IsSeen program w b o d k × R k)
      by_test true q = let h = (test.1 d).0 q in by_kind h.0 h.1 (known h.0)
      by_test false q = inr (λ h. false≢true (sym q ∙ (test.1 d).1 (h.0, h.1)))

  windowed_known : (o : Option Offer) (d : Derivation) → IsKnown ((k : Kind) × IsWindowed program w b o d k)
  windowed_known o d =
      known_as (((k : Kind) × IsSeen program w b o d k × any_kind k) × (has_mark d ≡ false)) ((k : Kind) × IsWindowed program w b o d k)
      (λ h. (h.0.0, (h.0.1, h.1))) (λ h. ((h.0, h.1.0, tt), h.1.1))
      (known_both ((k : Kind) × IsSeen program w b o d k × any_kind k) (has_mark d ≡ false) (seen_where o d any_kind (λ k. inl tt))
      (is_false_known (has_mark d)))

  beyond_known : (o : Option Offer) (d : Derivation) → IsKnown ((k : Kind) × IsBeyond program w b o d k)
  beyond_known o d =
      known_as (((k : Kind) × IsSeen program w b o d k × any_kind k) × (has_mark d ≡ true)) ((k : Kind) × IsBeyond program w b o d k)
      (λ h. (h.0.0, (h.0.1, h.1))) (λ h. ((h.0, h.1.0, tt), h.1.1))
      (known_both ((k : Kind) × IsSeen program w b o d k × any_kind k) (has_mark d ≡ true) (seen_where o d any_kind (λ k. inl tt))
      (is_true_known (has_mark d)))

  windowed_unseen_known : (d : Derivation) → IsKnown ((k : Kind) × IsWindowed program w b None d k × IsUnseenKind k)
  windowed_unseen_known d =
      known_as (((k : Kind) × IsSeen program w b None d k × IsUnseenKind k) × (has_mark d ≡ false))
      ((k : Kind) × IsWindowed program w b None d k × IsUnseenKind k)
      (λ h. (h.0.0, (h.0.1, h.1), h.0.2)) (λ h. ((h.0, h.1.0, h.2), h.1.1))
      (known_both ((k : Kind) × IsSeen program w b None d k × IsUnseenKind k) (has_mark d ≡ false) (seen_where None d IsUnseenKind unseen_known)
      (is_false_known (has_mark d)))

  beyond_unseen_known : (d : Derivation) → IsKnown ((k : Kind) × IsBeyond program w b None d k × IsUnseenKind k)
  beyond_unseen_known d =
      known_as (((k : Kind) × IsSeen program w b None d k × IsUnseenKind k) × (has_mark d ≡ true))
      ((k : Kind) × IsBeyond program w b None d k × IsUnseenKind k)
      (λ h. (h.0.0, (h.0.1, h.1), h.0.2)) (λ h. ((h.0, h.1.0, h.2), h.1.1))
      (known_both ((k : Kind) × IsSeen program w b None d k × IsUnseenKind k) (has_mark d ≡ true) (seen_where None d IsUnseenKind unseen_known)
      (is_true_known (has_mark d)))

  asked_known : (q : TreeQuery) (d : Derivation) → IsKnown (IsAsked program w b q d)
  asked_known (meeting p) d = windowed_known (Some p.offer) d
  asked_known any d = windowed_known None d
  asked_known unseen d = windowed_unseen_known d
  asked_known (beyond p) d = beyond_known (Some p.offer) d
  asked_known any_beyond d = beyond_known None d
  asked_known (beyond_or_unseen p) d =
      either_known ((k : Kind) × IsBeyond program w b (Some p.offer) d k) ((k : Kind) × IsBeyond program w b None d k × IsUnseenKind k)
      (beyond_known (Some p.offer) d) (beyond_unseen_known d)

-- the answer to a question that is known
abbrev answer : {Q : Type 0} → IsKnown Q → Bool
answer (inl p) = true
answer (inr out) = false

answer_so : {Q : Type 0} (known : IsKnown Q) → answer known ≡ true → Q
answer_so (inl p) e = p
answer_so (inr out) e = absurd (false≢true e)

so_answer : {Q : Type 0} (known : IsKnown Q) → Q → answer known ≡ true
so_answer (inl p) h = refl
so_answer (inr out) h = absurd (out h)

pub asked_can_be_tested : AskedCanBeTested
asked_can_be_tested program e w exact b = (
  λ q d. answer (asked_known program e w exact b q d),
  λ q d. (answer_so (asked_known program e w exact b q d), so_answer (asked_known program e w exact b q d)),
)
