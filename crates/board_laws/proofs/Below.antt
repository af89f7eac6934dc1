-- What is reached of a node is reached of the tree in which it stands, and the spread of the tree is no less.
use Rattle.std.proofs.Common.{ℕ, ◌≤◌, inl, inr, List, [], ◌∷◌, sym, subst, arith}
use Rattle.spec_core.specs.Code.{Program}
use Rattle.spec_core.specs.Terms.{TermTree}
use Rattle.rule_model.specs.Behaviours.{Behaviour}
use Rattle.symbolic_rules.specs.Windows.{Windows}
use Rattle.symbolic_rules.specs.MarkedTerms.{MarkedAssignment, unmarked}
use Rattle.symbolic_composites.specs.Evaluations.{Evaluation}
use Rattle.symbolic_reach.specs.Reached.{ReachesIn, ReachesBelow, Reaches}
use Rattle.symbolic_reach.specs.Spread.{spread_in, spread_below, spread}
use Rattle.node_trees.specs.Origins.{meaning}
use Rattle.node_trees.specs.Shapes.{Above, Held, Shape, leaf, over, between, Unary, hidden, relabelled, enabled, Binary, choosing}
use Rattle.node_trees.specs.Shapes.{beside, disabling, under, first_of, second_of, Stands, stands_for, applied, joined}

-- In this module: P holds of an operator's construct where it holds of a part's behaviour.
module _ (program : Program) (P : Behaviour → Type 0) (below : (o : Unary) (b : Behaviour) → P b → P (applied program o b))
    (left : (o : Binary) (b c : Behaviour) → P b → P (joined o b c)) (right : (o : Binary) (b c : Behaviour) → P c → P (joined o b c)) where
  pub in_tree : (t : Shape) (up : List Above) (n : Held) → Stands t up n → P (meaning program n.source) → P (stands_for program t)
  in_tree (leaf m) [] n s h = subst (λ (k : Held). P (meaning program k.source)) (sym s) h
  in_tree (over o x) (under p ∷ up) n s h = below o (stands_for program x) (in_tree x up n s.1 h)
  in_tree (between o x y) (first_of p ∷ up) n s h = left o (stands_for program x) (stands_for program y) (in_tree x up n s.1 h)
  in_tree (between o x y) (second_of p ∷ up) n s h = right o (stands_for program x) (stands_for program y) (in_tree y up n s.1 h)
  in_tree _ _ n s h = absurd s

module _ (program : Program) (w : Windows) (others : List (List ℕ)) (called : MarkedAssignment → Behaviour → TermTree → Type 0) (t : TermTree)
  where
    abbrev IsReached : Behaviour → Type 0
    IsReached b = ReachesIn program w others called unmarked b t

    reached_below : (o : Unary) (b : Behaviour) → IsReached b → IsReached (applied program o b)
    reached_below (hidden gates) b h = h
    reached_below (relabelled pairs) b h = h
    reached_below (enabled xs right values) b h = h

    reached_left : (o : Binary) (b c : Behaviour) → IsReached b → IsReached (joined o b c)
    reached_left choosing b c h = inl h
    reached_left (beside gates) b c h = inl h
    reached_left disabling b c h = inl h

    reached_right : (o : Binary) (b c : Behaviour) → IsReached c → IsReached (joined o b c)
    reached_right choosing b c h = inr h
    reached_right (beside gates) b c h = inr h
    reached_right disabling b c h = inr h

pub reached_in_tree : (program : Program) (w : Windows) (others : List (List ℕ)) (t : Shape) (up : List Above) (n : Held) →
    Stands t up n → (x : TermTree) → Reaches program w others unmarked (meaning program n.source) x →
    Reaches program w others unmarked (stands_for program t) x
reached_in_tree program w others t up n s x r =
    let called = ReachesBelow program w others r.0 in (
      r.0,
      in_tree program (IsReached program w others called x) (reached_below program w others called x) (reached_left program w others called x)
          (reached_right program w others called x) t up n s r.1,
    )

module _ (program : Program) (e : Evaluation) (w : Windows) (called : MarkedAssignment → Behaviour → ℕ) (k : ℕ) where
  abbrev IsAsWide : Behaviour → Type 0
  IsAsWide b = k ≤ spread_in program.theory e w called unmarked b

  wide_below : (o : Unary) (b : Behaviour) → IsAsWide b → IsAsWide (applied program o b)
  wide_below (hidden gates) b h = omega (arith, h)
  wide_below (relabelled pairs) b h = omega (arith, h)
  wide_below (enabled xs right values) b h = omega (arith, h)

  wide_left : (o : Binary) (b c : Behaviour) → IsAsWide b → IsAsWide (joined o b c)
  wide_left choosing b c h = omega (arith, h)
  wide_left (beside gates) b c h = omega (arith, h)
  wide_left disabling b c h = omega (arith, h)

  wide_right : (o : Binary) (b c : Behaviour) → IsAsWide c → IsAsWide (joined o b c)
  wide_right choosing b c h = omega (arith, h)
  wide_right (beside gates) b c h = omega (arith, h)
  wide_right disabling b c h = omega (arith, h)

pub wide_in_tree : (program : Program) (e : Evaluation) (w : Windows) (t : Shape) (up : List Above) (n : Held) → Stands t up n →
    (calls k : ℕ) → k ≤ spread program.theory e w calls unmarked (meaning program n.source) →
    k ≤ spread program.theory e w calls unmarked (stands_for program t)
wide_in_tree program e w t up n s calls k h =
    let called = spread_below program.theory e w calls in
    in_tree program (IsAsWide program e w called k) (wide_below program e w called k) (wide_left program e w called k)
    (wide_right program e w called k) t up n s h
