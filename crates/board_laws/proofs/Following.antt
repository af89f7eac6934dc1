-- Trees of the plans of a tree of nodes can be followed there.
use Rattle.std.proofs.Common.{◌≡◌, ◌⊎◌, inl, inr, List, [], ◌∷◌, refl, sym, subst, Option, Some, None}
use Rattle.spec_core.specs.Lists.{OneOf}
use Rattle.spec_core.specs.Code.{Program}
use Rattle.spec_core.proofs.Members.{each_one}
use Rattle.rule_model.specs.declared.action.Action.{Action}
use Rattle.rule_model.specs.declared.action.Action.TheVariants.{Exit}
use Rattle.rule_model.specs.Actions.{doing}
use Rattle.rule_model.specs.Behaviours.{Behaviour}
use Rattle.rule_model.specs.Derivations.{Derivation, chl, chr, parl, parr, hiding, pass, enstep, enend, disstep, disend, distake, rel}
use Rattle.rule_model.specs.Derives.{Derives}
use Rattle.symbolic_rules.specs.Windows.{Windows}
use Rattle.decision_trees.specs.Gaps.{element, gap}
use Rattle.node_trees.specs.Origins.{meaning}
use Rattle.node_trees.specs.Rests.{Way, Work, Fills}
use Rattle.node_trees.specs.Shapes.{Held, Shape, leaf, ended, over, between, Unary, hidden, relabelled, enabled, Binary, choosing, beside}
use Rattle.node_trees.specs.Shapes.{disabling, under, first_of, second_of, stands_for}
use Rattle.board_tree.specs.Steps.{AnyFilled, IsDone, Follows}
use Rattle.candidate_composites.specs.Known.{PlanOrGap, plans_at, known_plans}
use Rattle.node_work.specs.Ways.{HasWays}
use Rattle.board_laws.specs.Complete.{IsComplete, AreComplete}
use Rattle.board_laws.specs.FollowedLaws.{SearchedTreesFollow}
use Rattle.board_laws.proofs.FollowedLists.{from_elements, no_gap, only_one}
use Rattle.board_laws.proofs.FollowedGiven.{steps_choose_values}
use Rattle.board_laws.proofs.FollowedParts.{IsTreeIn, IsOver, IsBoth, over_hiding, over_enabling, over_relabelling, over_choice, over_disabling}
use Rattle.board_laws.proofs.FollowedParts.{over_parallel}
use Rattle.board_laws.proofs.Finding.{searched_is_in}

filled : (ways : List Way) (d : Derivation) → OneOf (λ (way : Way). Fills way.rules d) ways → AnyFilled ways d
filled [] d h = h
filled (way ∷ ways) d (inl h) = inl h
filled (way ∷ ways) d (inr h) = inr (filled ways d h)

module _ (program : Program) (w : Windows) where
  abbrev plans : Shape → List PlanOrGap
  plans t = known_plans program.theory t

  -- trees of the plans of a tree of nodes can be followed there
  abbrev AllFollow : Shape → Type 0
  AllFollow t = (d : Derivation) (a : Action) (c : Behaviour) → IsTreeIn program.theory w (plans t) d →
      Derives program (stands_for program t) d a c → Follows t d

  -- a rule over a tree of a part's plans
  abbrev Under : (Derivation → Derivation) → Shape → Derivation → Type 0
  Under rule x d = IsOver program.theory w rule (plans x) d

  at_node : (n : Held) (o : Option Work) → ((x : Work) → o ≡ Some x → IsComplete program n.source x) →
      (d : Derivation) (a : Action) (c : Behaviour) → IsTreeIn program.theory w (plans_at n.generation o) d →
      Derives program (meaning program n.source) d a c → IsDone o d
  at_node n None complete d a c h k = no_gap h.plan n.generation (only_one (element h.plan) (gap n.generation) h.known)
  at_node n (Some x) complete d a c h k =
      let ways = each_one (HasWays program (meaning program n.source) x.ways) x.plans h.plan (complete x refl)
      (from_elements h.plan x.plans h.known) in
      filled x.ways d (ways w h.slots d a c h.tree (steps_choose_values program (meaning program n.source) d a c k) k)

  -- where a rule over each tree of a part's plans can be followed
  by_rule : (t x : Shape) (rule : Derivation → Derivation) →
      ((p : Derivation) → IsTreeIn program.theory w (plans x) p → (a : Action) (c : Behaviour) →
      Derives program (stands_for program t) (rule p) a c → Follows t (rule p)) →
      (d : Derivation) (a : Action) (c : Behaviour) → Under rule x d → Derives program (stands_for program t) d a c → Follows t d
  by_rule t x rule f d a c o h =
      subst (Follows t) (sym o.same) (f o.part o.among a c (subst (λ z. Derives program (stands_for program t) z a c) o.same h))

  by_unary : (o : Unary) (x : Shape) → AllFollow x → AllFollow (over o x)
  by_unary (hidden gates) x f d a c i h = by_kind (over_hiding program.theory w gates (plans x) d i)
    where
      by_kind : Under hiding x d ⊎ Under pass x d → Follows (over (hidden gates) x) d
      by_kind (inl o) = by_rule (over (hidden gates) x) x hiding (λ p j b e k. f p (doing k.0 k.1) k.2 j k.3) d a c o h
      by_kind (inr o) = by_rule (over (hidden gates) x) x pass (λ p j b e k. f p b k.0 j k.1) d a c o h
  by_unary (relabelled pairs) x f d a c i h =
      by_rule (over (relabelled pairs) x) x rel (λ p j b e k. f p k.0 k.1 j k.2) d a c
      (over_relabelling program.theory w pairs (plans x) d i) h
  by_unary (enabled xs right values) x f d a c i h = by_kind (over_enabling program.theory w (plans x) d i)
    where
      by_kind : Under enend x d ⊎ Under enstep x d → Follows (over (enabled xs right values) x) d
      by_kind (inl o) = by_rule (over (enabled xs right values) x) x enend (λ p j b e k. f p (Exit k.0) k.1 j k.3) d a c o h
      by_kind (inr o) = by_rule (over (enabled xs right values) x) x enstep (λ p j b e k. f p b k.0 j k.1) d a c o h

  by_binary : (o : Binary) (x y : Shape) → AllFollow x → AllFollow y → AllFollow (between o x y)
  by_binary choosing x y f g d a c i h = by_side (over_choice program.theory w (plans x) (plans y) d i)
    where
      by_side : Under chl x d ⊎ Under chr y d → Follows (between choosing x y) d
      by_side (inl o) = by_rule (between choosing x y) x chl (λ p j b e k. f p b e j k) d a c o h
      by_side (inr o) = by_rule (between choosing x y) y chr (λ p j b e k. g p b e j k) d a c o h
  by_binary (beside gates) x y f g d a c i h = by_side (over_parallel program.theory w gates (plans x) (plans y) d i)
    where
      by_side : Under parl x d ⊎ (Under parr y d ⊎ IsBoth program.theory w (plans x) (plans y) d) → Follows (between (beside gates) x y) d
      by_side (inl o) = by_rule (between (beside gates) x y) x parl (λ p j b e k. f p b k.0 j k.1) d a c o h
      by_side (inr (inl o)) = by_rule (between (beside gates) x y) y parr (λ p j b e k. g p b k.0 j k.1) d a c o h
      by_side (inr (inr o)) =
          let k = subst (λ z. Derives program (stands_for program (between (beside gates) x y)) z a c) o.same h in
          subst (Follows (between (beside gates) x y)) (sym o.same) (f o.left a k.0 o.among_left k.2, g o.right a k.1 o.among_right k.3)
  by_binary disabling x y f g d a c i h = by_side (over_disabling program.theory w (plans x) (plans y) d i)
    where
      by_side : (Under disend x d ⊎ Under disstep x d) ⊎ Under distake y d → Follows (between disabling x y) d
      by_side (inl (inl o)) = by_rule (between disabling x y) x disend (λ p j b e k. f p b e j k.0) d a c o h
      by_side (inl (inr o)) = by_rule (between disabling x y) x disstep (λ p j b e k. f p b k.0 j k.1) d a c o h
      by_side (inr o) = by_rule (between disabling x y) y distake (λ p j b e k. g p b e j k) d a c o h

  all_follow : (t : Shape) → AreComplete program t → AllFollow t
  all_follow (leaf n) complete d a c i h = at_node n n.work (λ x e. complete [] n refl x e) d a c i h
  all_follow ended complete d a c i h = absurd i.known
  all_follow (over o x) complete d a c i h = by_unary o x (all_follow x (λ up n s. complete (under o ∷ up) n (refl, s))) d a c i h
  all_follow (between o x y) complete d a c i h =
      by_binary o x y (all_follow x (λ up n s. complete (first_of o ∷ up) n (refl, s)))
      (all_follow y (λ up n s. complete (second_of o ∷ up) n (refl, s))) d a c i h

pub searched_trees_follow : SearchedTreesFollow
searched_trees_follow program w t complete q d a c i h =
    all_follow program w t complete d a c (searched_is_in program.theory w t q d i) h
