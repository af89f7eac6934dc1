-- Where no tree is windowed or beyond.
use Rattle.std.proofs.Common.{◌⊎◌, sym, subst, inl, inr, Option, Some, None}
use Rattle.spec_core.specs.Code.{Program}
use Rattle.rule_model.specs.declared.action.Action.TheVariants.{Inner, Exit, At}
use Rattle.rule_model.specs.declared.offer.Offer.{Offer}
use Rattle.rule_model.specs.Actions.{Kind, at_gate, kind_of}
use Rattle.rule_model.specs.Behaviours.{Behaviour}
use Rattle.rule_model.specs.Derivations.{Derivation}
use Rattle.symbolic_rules.specs.Windows.{Windows}
use Rattle.symbolic_rules.specs.Trees.{IsWindowed, IsBeyond, IsMarkedAs}
use Rattle.symbolic_rules.specs.Laws.{NoTree, NoTreeNoStep, NoTreeForTheOfferNoneMeets, NoUnseenTreeNoUnseenStep}
use Rattle.symbolic_rules.proofs.Seen.{each_step_is_seen}

-- a tree that is seen, with marks or without, is one of those that aren't there
none_seen : (program : Program) (w : Windows) (b : Behaviour) (o : Option Offer) (d : Derivation) (k : Kind) → NoTree program w b o k →
    IsWindowed program w b o d k ⊎ ((e : Derivation) × IsMarkedAs d e × IsBeyond program w b o e k) → ⊥
none_seen program w b o d k empty (inl h) = empty d (inl h)
none_seen program w b o d k empty (inr h) = empty h.0 (inr h.2)

pub no_tree_no_step : NoTreeNoStep
no_tree_no_step program n w executable windows b empty d a c h =
    none_seen program w b None d (kind_of a) (empty (kind_of a)) (each_step_is_seen program n w executable windows b d a c h None tt)

pub no_tree_for_the_offer_none_meets : NoTreeForTheOfferNoneMeets
no_tree_for_the_offer_none_meets program n w executable windows b offer empty d (At place values) c h meets =
    none_seen program w b (Some offer) d (at_gate place.0)
    (subst (λ gate. NoTree program w b (Some offer) (at_gate gate.0)) (sym meets.0) empty)
    (each_step_is_seen program n w executable windows b d (At place values) c h (Some offer) meets)
no_tree_for_the_offer_none_meets program n w executable windows b offer empty d Inner c h meets = absurd meets
no_tree_for_the_offer_none_meets program n w executable windows b offer empty d (Exit values) c h meets = absurd meets

pub no_unseen_tree_no_unseen_step : NoUnseenTreeNoUnseenStep
no_unseen_tree_no_unseen_step program n w executable windows b internal ending d Inner c h unseen =
    none_seen program w b None d (kind_of Inner) internal (each_step_is_seen program n w executable windows b d Inner c h None tt)
no_unseen_tree_no_unseen_step program n w executable windows b internal ending d (Exit values) c h unseen =
    none_seen program w b None d (kind_of (Exit values)) ending
    (each_step_is_seen program n w executable windows b d (Exit values) c h None tt)
no_unseen_tree_no_unseen_step program n w executable windows b internal ending d (At place values) c h unseen = absurd unseen
