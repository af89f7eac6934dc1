-- Which trees a session looks for. (This profile.)
use Rattle.std.specs.Prelude.{◌≡◌, ◌↔◌, ◌⊎◌, Bool, true, Option, Some, None}
use Rattle.spec_core.specs.Code.{Program}
use Rattle.rule_model.specs.declared.offer.Offer.{Offer}
use Rattle.rule_model.specs.Actions.{Kind, inside, ends, at_gate}
use Rattle.rule_model.specs.Behaviours.{Behaviour}
use Rattle.rule_model.specs.Derivations.{Derivation}
use Rattle.rule_model.specs.States.{PendingOffer}
use Rattle.symbolic_rules.specs.Windows.{Windows}
use Rattle.symbolic_rules.specs.Trees.{IsWindowed, IsBeyond}
use Rattle.decision_trees.specs.Rules.{Query, meeting, any, unseen, beyond, any_beyond, beyond_or_unseen}

-- an action of this kind meets no offer: it is internal, or the termination
abbrev pub IsUnseenKind : Kind → Type 0
IsUnseenKind inside = Unit {0}
IsUnseenKind ends = Unit {0}
IsUnseenKind (at_gate g) = ⊥

-- what is pending may be asked for
abbrev pub TreeQuery : Type 0
TreeQuery = Query PendingOffer

-- the offer for which a query asks; none where it asks for whatever the behaviour may do
abbrev pub offer_in : TreeQuery → Option Offer
offer_in (meeting p) = Some p.offer
offer_in any = None
offer_in unseen = None
offer_in (beyond p) = Some p.offer
offer_in any_beyond = None
offer_in (beyond_or_unseen p) = Some p.offer

module _ (program : Program) (w : Windows) (b : Behaviour) where
  -- the tree is one that a query asks for:
  --   meeting: a windowed tree by which the behaviour may do an action that meets the offer;
  --   any: a windowed tree;
  --   unseen: a windowed tree for an action that is internal, or the termination;
  --   beyond, any beyond: a beyond tree, for the offer or for none;
  --   beyond or unseen: a beyond tree for the offer, or for an action that is internal, or the termination
  abbrev pub IsAsked : TreeQuery → Derivation → Type 0
  IsAsked (meeting p) d = (k : Kind) × IsWindowed program w b (Some p.offer) d k
  IsAsked any d = (k : Kind) × IsWindowed program w b None d k
  IsAsked unseen d = (k : Kind) × IsWindowed program w b None d k × IsUnseenKind k
  IsAsked (beyond p) d = (k : Kind) × IsBeyond program w b (Some p.offer) d k
  IsAsked any_beyond d = (k : Kind) × IsBeyond program w b None d k
  IsAsked (beyond_or_unseen p) d =
      ((k : Kind) × IsBeyond program w b (Some p.offer) d k) ⊎ ((k : Kind) × IsBeyond program w b None d k × IsUnseenKind k)

  -- the test says which trees are asked for
  abbrev pub TestsAsked : (TreeQuery → Derivation → Bool) → Type 0
  TestsAsked is_asked = (q : TreeQuery) (d : Derivation) → (is_asked q d ≡ true) ↔ IsAsked q d
