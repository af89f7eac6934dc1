-- What is done and asked at a side of a choice is done and asked at the choice.
use Rattle.std.proofs.Common.{◌≡◌, ◌∙◌, ◌++◌, inr, refl, sym, ap, subst, Some, None}
use Rattle.spec_core.specs.Code.{Program}
use Rattle.rule_model.specs.declared.action.Action.{Action}
use Rattle.rule_model.specs.Behaviours.{Behaviour, choice}
use Rattle.rule_model.specs.Derivations.{Derivation}
use Rattle.rule_model.specs.Derives.{DerivesWith}
use Rattle.rule_model.specs.Substitution.{Assignment}
use Rattle.symbolic_plans.specs.declared.scheme.Row.{Row}
use Rattle.symbolic_plans.specs.declared.scheme.Row.TheVariants.{Chl, Chr}
use Rattle.symbolic_plans.specs.Plans.{Plan, below, put_row}
use Rattle.symbolic_reach.specs.Asking.{PlanAsks}
use Rattle.node_trees.specs.Rests.{slots_of}
use Rattle.node_steps.specs.Blanks.{HasValue}
use Rattle.node_steps.specs.Sides.{IsSide, TurnsAlike, AsksAlike}
use Rattle.node_steps.specs.Turns.{Agrees, TurnsOr}

module _ (program : Program) where
  side_acts : (row : Row) (b c : Behaviour) (s : Assignment) (d : Derivation) (a : Action) (e : Behaviour) → IsSide row b c →
      DerivesWith program s b (put_row row d) a e → DerivesWith program s c d a e
  side_acts Chl (choice left right) c s d a e is k = subst (λ (z : Behaviour). DerivesWith program s z d a e) (sym is) k
  side_acts Chr (choice left right) c s d a e is k = subst (λ (z : Behaviour). DerivesWith program s z d a e) (sym is) k
  side_acts _ _ c s d a e is k = absurd is

  side_slots : (row : Row) (b c : Behaviour) (d : Derivation) → IsSide row b c → slots_of (put_row row d) ≡ slots_of d
  side_slots Chl b c d is = refl
  side_slots Chr b c d is = refl
  side_slots _ b c d is = absurd is

  side_closed : (row : Row) (b c : Behaviour) → IsSide row b c → HasValue row
  side_closed Chl b c is = tt
  side_closed Chr b c is = tt
  side_closed _ b c is = absurd is

  pub side_turns : (row : Row) (b c : Behaviour) (p : Plan) → IsSide row b c → TurnsAlike program b (below row p) c p
  side_turns row b c p is from s None h = record {
    none = λ d a e tree k.
        h.none tree.0 a e tree.2
        (side_acts row b c s tree.0 a e is (subst (λ (z : Derivation). DerivesWith program s b z a e) tree.1 k));
  }
  side_turns row b c p is from s (Some t) h = record {
    closed = (side_closed row b c is, h.closed);
    turns = λ before after d a e l tree k.
        subst (λ z. Agrees program (before ++ (z ++ after)) t a e)
        (sym (ap (λ (z : Derivation). slots_of z) tree.1 ∙ side_slots row b c tree.0 is))
        (h.turns before after tree.0 a e l tree.2
        (side_acts row b c s tree.0 a e is (subst (λ (z : Derivation). DerivesWith program s b z a e) tree.1 k)));
  }

  pub side_asks : (row : Row) (b c : Behaviour) (p : Plan) → IsSide row b c → AsksAlike program b (below row p) c p
  side_asks Chl (choice left right) c p is s x h = inr (subst (λ (z : Behaviour). PlanAsks program p s z x) is h)
  side_asks Chr (choice left right) c p is s x h = inr (subst (λ (z : Behaviour). PlanAsks program p s z x) is h)
  side_asks _ _ c p is s x h = absurd is

  -- one rule further
  pub turns_further : (row : Row) (b c d : Behaviour) (p q r : Plan) → q ≡ below row r → IsSide row c d → TurnsAlike program b p c q →
      TurnsAlike program b p d r
  turns_further row b c d p q r is side h from s o k =
      h from s o (subst (λ (z : Plan). TurnsOr program from s c z o) (sym is) (side_turns row c d r side from s o k))

  pub asks_further : (row : Row) (b c d : Behaviour) (p q r : Plan) → q ≡ below row r → IsSide row c d → AsksAlike program b p c q →
      AsksAlike program b p d r
  asks_further row b c d p q r is side h s x k =
      h s x (subst (λ (z : Plan). PlanAsks program z s c x) (sym is) (side_asks row c d r side s x k))
