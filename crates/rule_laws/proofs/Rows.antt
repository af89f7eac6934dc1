-- Laws of single constructs.
use Rattle.std.proofs.Common.{ℕ, ◌≡◌, ◌⊎◌, ◌↔◌, inl, inr, List, [], ◌∷◌, true, false, refl, sym, subst}
use Rattle.std.proofs.Common.{◌==◌, if◌then◌else◌, Bool, ap, ◌∙◌}
use Rattle.std.proofs.lemmas.Bool.{eqb-true, eq-eqb}
use Rattle.spec_core.specs.Terms.{variable}
use Rattle.spec_core.specs.Code.{Program, Relabelling, Synchronised, these_gates}
use Rattle.rule_model.specs.declared.action.Action.{Action}
use Rattle.rule_model.specs.declared.action.Action.TheVariants.{Inner, Exit}
use Rattle.rule_model.specs.declared.rules.Slot.{Slot}
use Rattle.rule_model.specs.declared.rules.Slot.TheVariants.{Of, Mark, Blank}
use Rattle.rule_model.specs.Actions.{kind_of, doing, among, IsAlone, IsUnhidden, renamed}
use Rattle.rule_model.specs.Behaviours.{Behaviour, stop, choice, parallel, hide, relabel}
use Rattle.rule_model.specs.Derivations.{Derivation, pre, chl, chr, val, parl, parr, both, hiding, pass, rel}
use Rattle.rule_model.specs.Derives.{Derives, DerivesWith}
use Rattle.rule_model.specs.Substitution.{Assignment, put, tidied}
use Rattle.rule_laws.specs.Examples.{once, at_first, mirrored, exchanged}
use Rattle.rule_laws.specs.Laws.{StopDoesNothing, ChoiceDoesEither, ParallelIsSymmetric, TerminationIsJoint, HidingHides}
use Rattle.rule_laws.specs.Laws.{RelabellingIsNoSubstitution}

pub stop_does_nothing : StopDoesNothing
stop_does_nothing program (val (Of v) d) a c h = absurd h
stop_does_nothing program (val Mark d) a c h = absurd h
stop_does_nothing program (val Blank d) a c h = absurd h
stop_does_nothing program _ a c h = absurd h

choice_does : (program : Program) (s : Assignment) (left right : Behaviour) (d : Derivation) (a : Action) (c : Behaviour) →
    DerivesWith program s (choice left right) d a c →
    (e : Derivation) × (((d ≡ chl e) × DerivesWith program s left e a c) ⊎ ((d ≡ chr e) × DerivesWith program s right e a c))
choice_does program s left right (chl d) a c h = (d, inl (refl, h))
choice_does program s left right (chr d) a c h = (d, inr (refl, h))
choice_does program s left right (val (Of v) d) a c h = absurd h
choice_does program s left right (val Mark d) a c h = absurd h
choice_does program s left right (val Blank d) a c h = absurd h
choice_does program s left right _ a c h = absurd h

does_choice : (program : Program) (s : Assignment) (left right : Behaviour) (d e : Derivation) (a : Action) (c : Behaviour) →
    ((d ≡ chl e) × DerivesWith program s left e a c) ⊎ ((d ≡ chr e) × DerivesWith program s right e a c) →
    DerivesWith program s (choice left right) d a c
does_choice program s left right d e a c (inl h) = subst (λ (t : Derivation). DerivesWith program s (choice left right) t a c) (sym h.0) h.1
does_choice program s left right d e a c (inr h) = subst (λ (t : Derivation). DerivesWith program s (choice left right) t a c) (sym h.0) h.1

pub choice_does_either : ChoiceDoesEither
choice_does_either program s left right d a c =
    (choice_does program s left right d a c, λ h. does_choice program s left right d h.0 a c h.1)

pub parallel_is_symmetric : ParallelIsSymmetric
parallel_is_symmetric program s gates left right (parl d) a c h = (h.0, h.1, h.2, ap exchanged h.3)
parallel_is_symmetric program s gates left right (parr d) a c h = (h.0, h.1, h.2, ap exchanged h.3)
parallel_is_symmetric program s gates left right (both d e) a c h = (h.1, h.0, h.3, h.2, h.4, ap exchanged h.5)
parallel_is_symmetric program s gates left right (val (Of v) d) a c h = absurd h
parallel_is_symmetric program s gates left right (val Mark d) a c h = absurd h
parallel_is_symmetric program s gates left right (val Blank d) a c h = absurd h
parallel_is_symmetric program s gates left right _ a c h = absurd h

pub termination_is_joint : TerminationIsJoint
termination_is_joint program s gates left right (both d e) values c h = (d, e, h.0, h.1, refl, h.2, h.3)
termination_is_joint program s gates left right (parl d) values c h = absurd h.2
termination_is_joint program s gates left right (parr d) values c h = absurd h.2
termination_is_joint program s gates left right (val (Of v) d) values c h = absurd h
termination_is_joint program s gates left right (val Mark d) values c h = absurd h
termination_is_joint program s gates left right (val Blank d) values c h = absurd h
termination_is_joint program s gates left right _ values c h = absurd h

internal_is_unhidden : (gates : List ℕ) (a : Action) → a ≡ Inner → IsUnhidden gates (kind_of a)
internal_is_unhidden gates a e = subst (λ (b : Action). IsUnhidden gates (kind_of b)) (sym e) tt

pub hiding_hides : HidingHides
hiding_hides program s gates body (hiding d) a c h = internal_is_unhidden gates a h.5
hiding_hides program s gates body (pass d) a c h = h.2
hiding_hides program s gates body (val (Of v) d) a c h = absurd h
hiding_hides program s gates body (val Mark d) a c h = absurd h
hiding_hides program s gates body (val Blank d) a c h = absurd h
hiding_hides program s gates body _ a c h = absurd h

same_number : (g : ℕ) → (g == g) ≡ true
same_number g = eq-eqb g g refl

-- a gate isn't among others that differ from it
other_number : (b : Bool) (g h : ℕ) → (g == h) ≡ b → (g ≡ h → ⊥) → b ≡ false
other_number true g h e differ = absurd (differ (eqb-true g h e))
other_number false g h e differ = refl

not_among : (g h : ℕ) → (h ≡ g → ⊥) → among h (g ∷ []) ≡ false
not_among g h differ = ap (λ (b : Bool). if b then true else false) (other_number (h == g) h g refl differ)

-- both gates have k in their place
abbrev both_to : ℕ → ℕ → ℕ → List Relabelling
both_to g h k = record { from = g; to = k } ∷ record { from = h; to = k } ∷ []

second_is_renamed : (g h k : ℕ) → (h ≡ g → ⊥) → k ≡ renamed (both_to g h k) h
second_is_renamed g h k differ =
    sym (ap (λ (b : Bool). if b then k else (if h == h then k else h)) (other_number (h == g) h g refl differ)
    ∙ ap (λ (b : Bool). if b then k else h) (same_number h))

outside : (g h k : ℕ) → (g ≡ h → ⊥) → (program : Program) →
    (c : Behaviour) × Derives program (relabel (both_to g h k) (at_first g h)) (rel (parr (pre []))) (doing k []) c
outside g h k differ program =
    let left : Behaviour = put variable (once g) in
    let rest : Behaviour = parallel (these_gates (g ∷ [])) left stop in (
      tidied (both_to g h k) rest,
      (
        doing h [],
        rest,
        (stop, ([], variable, refl, refl, tt, refl), not_among g h (λ e. differ (sym e)), refl),
        ap (λ (n : ℕ). doing n []) (second_is_renamed g h k (λ e. differ (sym e))),
        refl,
      ),
    )

kind_at : (k : ℕ) (values : List (List ℕ)) (a : Action) →
    a ≡ doing k values → IsAlone (these_gates (k ∷ [])) (kind_of a) → among k (k ∷ []) ≡ false
kind_at k values a e alone = subst (λ (b : Action). IsAlone (these_gates (k ∷ [])) (kind_of b)) e alone

inside_is_joint : (k : ℕ) (program : Program) (a : Action) (c : Behaviour) → Derives program (at_first k k) (parr (pre [])) a c → ⊥
inside_is_joint k program a c h =
    let yes : among k (k ∷ []) ≡ true = ap (λ (b : Bool). if b then true else false) (same_number k) in
    let no : among k (k ∷ []) ≡ false = kind_at k h.1.0 a h.1.2 h.2 in
    clash (sym yes ∙ no)
  where
    clash : true ≡ false → ⊥
    clash e = cc

pub relabelling_is_no_substitution : RelabellingIsNoSubstitution
relabelling_is_no_substitution program g h k differ = (outside g h k differ program, inside_is_joint k program)
