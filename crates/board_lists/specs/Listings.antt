-- Listings of the trees by which the behaviour that is reached may act. (This profile.)
use Rattle.std.specs.Prelude.{ℕ, ◌≡◌, ◌↔◌, ◌<◌, List, length, take, map, option_map, Option, Bool, IsTrue}
use Rattle.run_settings.specs.declared.settings.Settings.{Settings}
use Rattle.spec_core.specs.Code.{Program}
use Rattle.spec_core.specs.Lists.{Each}
use Rattle.rule_model.specs.declared.action.Action.{Action}
use Rattle.rule_model.specs.Behaviours.{Behaviour}
use Rattle.rule_model.specs.Derivations.{Derivation, derivation_of}
use Rattle.rule_model.specs.Derives.{Derives}
use Rattle.rule_model.specs.States.{State}
use Rattle.symbolic_rules.specs.Windows.{Windows}
use Rattle.symbolic_composites.specs.Evaluations.{Evaluation, IsExact}
use Rattle.decision_trees.specs.Lazy.{first}
use Rattle.decision_trees.specs.Rules.{any, any_beyond}
use Rattle.candidate_laws.specs.Asked.{TreeQuery, TestsAsked}
use Rattle.candidate_laws.specs.TreeLaws.{lists_of}
use Rattle.node_trees.specs.Shapes.{Shape}
use Rattle.board_tree.specs.Steps.{Follows}
use Rattle.board_laws.specs.Next.{AreSessionWindows}
use Rattle.board_core.specs.Views.{BoardView}
use Rattle.board_lists.specs.declared.list.Candidate.{Candidate}
use Rattle.board_lists.specs.declared.list.Listing.{Listing}
use Rattle.board_lists.specs.declared.list.Trees.{Trees}
use Rattle.board_lists.specs.declared.list.Trees.TheVariants.{Known, Missing}
use Rattle.board_lists.specs.Looking.{AreFound, IsSound}

-- P holds of the list of all trees for which the query asks, of the behaviour that is reached, in the order of trees, with the windows of
-- the session; whichever exact answers about data and code, and whichever test of the trees that are asked for, the list is made with.
pub record HoldsOfTrees (program : Program) (settings : Settings) (s : State) (q : TreeQuery) (P : List Derivation → Type 0) : Type 0 where
  pub windows : Windows
  pub of_session : AreSessionWindows program settings windows
  pub holds : (e : Evaluation) (is_asked : TreeQuery → Derivation → Bool) → IsExact program e →
      TestsAsked program windows s.behaviour is_asked → P (lists_of program e windows s.behaviour is_asked q)

-- these are the first of all trees, at most so many, and whether there are more
pub record AreFirst (most : ℕ) (trees : List Derivation) (more : Bool) (all : List Derivation) : Type 0 where
  pub first : trees ≡ take most all
  pub further : IsTrue more ↔ (most < length all)

-- the tree is the first of all, if there is one
abbrev pub IsFirst : Option Derivation → List Derivation → Type 0
IsFirst tree all = tree ≡ first all

-- by the tree the behaviour does some action, and the tree of nodes is ready for it
pub record MayAct (program : Program) (s : State) (t : Shape) (d : Derivation) : Type 0 where
  pub action : Action
  pub rest : Behaviour
  pub derives : Derives program s.behaviour d action rest
  pub follows : Follows t d

-- by the candidate's tree the behaviour does the candidate's action, and the tree of nodes is ready for it
pub record IsCandidate (program : Program) (s : State) (t : Shape) (candidate : Candidate) : Type 0 where
  pub rest : Behaviour
  pub derives : Derives program s.behaviour (derivation_of candidate.rules) candidate.action rest
  pub follows : Follows t (derivation_of candidate.rules)

abbrev pub tree_in : Candidate → Derivation
tree_in candidate = derivation_of candidate.rules

-- The first windowed trees, at most so many, with their actions, whether there are more, and the first beyond tree.
pub record IsListing (program : Program) (settings : Settings) (s : State) (t : Shape) (most : ℕ) (listing : Listing) : Type 0 where
  pub windowed : HoldsOfTrees program settings s any (AreFirst most (map tree_in listing.candidates.items) listing.more)
  pub beyond : HoldsOfTrees program settings s any_beyond (IsFirst (option_map derivation_of listing.beyond))
  pub candidates : Each (IsCandidate program s t) listing.candidates.items

-- the first windowed trees, at most so many, and the first beyond tree are found; or these are jobs whose answers are needed
abbrev pub ComesOfBoth : BoardView → ℕ → Trees → Type 0
ComesOfBoth v most (Known windowed beyond) =
    AreFound v any most (map derivation_of windowed.items) × AreFound v any_beyond 1 (map derivation_of beyond.items)
ComesOfBoth v most (Missing jobs) = Each (IsSound v) jobs.items
