-- Steps of trees of nodes.
use Rattle.std.specs.Prelude.{ℕ, ◌≡◌, ◌⊎◌, List, [], ◌∷◌, Option, Some, None}
use Rattle.spec_core.specs.Code.{Program}
use Rattle.spec_core.specs.Lists.{Each}
use Rattle.rule_model.specs.declared.action.Action.{Action}
use Rattle.rule_model.specs.Behaviours.{Behaviour}
use Rattle.rule_model.specs.Derivations.{Derivation, pre, int, exiting, chl, chr, val, gate, guard, letting, parl, parr, both, hiding}
use Rattle.rule_model.specs.Derivations.{pass}
use Rattle.rule_model.specs.Derivations.{enstep, enend, disstep, disend, distake, calling, rel}
use Rattle.rule_model.specs.Derives.{Derives}
use Rattle.board_tree.specs.Keeping.{IsUntouched, Goes}
use Rattle.node_trees.specs.Rests.{Way, Work, Fills, IsWayOf}
use Rattle.node_trees.specs.Shapes.{Shape, leaf, over, between, hidden, relabelled, enabled, choosing, beside, disabling}
use Rattle.node_trees.specs.Shapes.{stands_for, IsRight}
use Rattle.node_trees.specs.Constructs.{IsChoosing, IsBeside, IsDisabling, IsHidden, IsRelabelled, IsEnabled}

-- one of the ways to act is filled by the tree
abbrev pub AnyFilled : List Way → Derivation → Type 0
AnyFilled [] d = ⊥
AnyFilled (way ∷ ways) d = Fills way.rules d ⊎ AnyFilled ways d

abbrev pub IsDone : Option Work → Derivation → Type 0
IsDone None d = ⊥
IsDone (Some work) d = AnyFilled work.ways d

-- each node that takes part in the tree of rules is expanded, and its part of the tree fills one of its ways to act
abbrev pub Follows : Shape → Derivation → Type 0
Follows (leaf n) d = IsDone n.work d
Follows (between choosing x y) (chl d) = Follows x d
Follows (between choosing x y) (chr d) = Follows y d
Follows (between (beside gates) x y) (parl d) = Follows x d
Follows (between (beside gates) x y) (parr d) = Follows y d
Follows (between (beside gates) x y) (both d e) = Follows x d × Follows y e
Follows (over (hidden gates) x) (hiding d) = Follows x d
Follows (over (hidden gates) x) (pass d) = Follows x d
Follows (over (enabled xs right values) x) (enstep d) = Follows x d
Follows (over (enabled xs right values) x) (enend d) = Follows x d
Follows (between disabling x y) (disstep d) = Follows x d
Follows (between disabling x y) (disend d) = Follows x d
Follows (between disabling x y) (distake d) = Follows y d
Follows (over (relabelled pairs) x) (rel d) = Follows x d
Follows _ _ = ⊥

-- What the tree does by these rules is the action, and then the second tree stands for what it becomes.
pub record Becomes (program : Program) (old : Shape) (d : Derivation) (a : Action) (new : Shape) : Type 0 where
  pub becomes : IsRight program old → Follows old d → (e : Action) (c : Behaviour) →
      Derives program (stands_for program old) d e c →
      (e ≡ a) × (c ≡ stands_for program new)

-- By these rules the first tree becomes the second: what they stand for by the rules, and their generations as a step keeps them.
pub record Moves (program : Program) (old : Shape) (d : Derivation) (a : Action) (new : Shape) (low high : ℕ) : Type 0 where
  pub becomes : Becomes program old d a new
  pub goes : Goes (IsUntouched d) low high old new

-- the same of one of the ways in which a behaviour can act
pub record Acts (program : Program) (b : Behaviour) (ways : List Way) (d : Derivation) (a : Action) (new : Shape) : Type 0 where
  pub acts : Each (IsWayOf program b) ways → AnyFilled ways d → (e : Action) (c : Behaviour) →
      Derives program b d e c →
      (e ≡ a) × (c ≡ stands_for program new)

-- the operator is the one that the rule is about
abbrev pub Suits : Derivation → Shape → Type 0
Suits (pre slots) s = ⊥
Suits int s = ⊥
Suits (exiting slots) s = ⊥
Suits (chl d) s = IsChoosing s
Suits (chr d) s = IsChoosing s
Suits (val slot d) s = ⊥
Suits (gate j d) s = ⊥
Suits (guard d) s = ⊥
Suits (letting d) s = ⊥
Suits (parl d) s = IsBeside s
Suits (parr d) s = IsBeside s
Suits (both d e) s = IsBeside s
Suits (hiding d) s = IsHidden s
Suits (pass d) s = IsHidden s
Suits (enstep d) s = IsEnabled s
Suits (enend d) s = IsEnabled s
Suits (disstep d) s = IsDisabling s
Suits (disend d) s = IsDisabling s
Suits (distake d) s = IsDisabling s
Suits (calling d) s = ⊥
Suits (rel d) s = IsRelabelled s
