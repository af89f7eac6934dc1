-- What follows from the definitions.
use Rattle.std.specs.Prelude.{ℕ, ◌≡◌, List, Some, false}
use Rattle.spec_core.specs.Lists.{Each, IsOneOf}
use Rattle.spec_core.specs.Theories.{Theory}
use Rattle.spec_core.specs.Code.{Program}
use Rattle.rule_model.specs.declared.action.Action.{Action}
use Rattle.rule_model.specs.Behaviours.{Behaviour}
use Rattle.rule_model.specs.Derivations.{Derivation}
use Rattle.rule_model.specs.Derives.{Derives}
use Rattle.symbolic_rules.specs.Windows.{Windows}
use Rattle.symbolic_rules.specs.Trees.{has_mark}
use Rattle.node_steps.specs.Laws.{IsGiven}
use Rattle.candidate_laws.specs.Asked.{TreeQuery}
use Rattle.node_trees.specs.declared.origin.Gen.{Gen}
use Rattle.node_trees.specs.Origins.{Source}
use Rattle.node_trees.specs.Rests.{Work, slots_of}
use Rattle.node_trees.specs.Shapes.{Held, Shape, IsNodeOf, AllWait, posted, stands_for}
use Rattle.board_tree.specs.Steps.{Follows}
use Rattle.board_tree.specs.Views.{IsStep}
use Rattle.candidate_verdicts.specs.Known.{Pieces}
use Rattle.candidates.specs.Listed.{first_tree, all_trees}
use Rattle.board_laws.specs.Complete.{EachExpanded, IsComplete, HasItsPlans, AreComplete, AsksUnmarked, IsSearched}

-- a tree by which a behaviour does something chooses values alone
abbrev pub StepsChooseValues : Type 0
StepsChooseValues =
    (program : Program) (b : Behaviour) (d : Derivation) (a : Action) (c : Behaviour) →
    Derives program b d a c →
    Each IsGiven (slots_of d)

-- Where each expanded node has ways for the trees of its plans, a tree among which searches look, and by which the behaviour does something
-- for which the tree of nodes stands, can be followed: each node that takes part is expanded, and its part of the tree fills one of its
-- ways.
abbrev pub SearchedTreesFollow : Type 0
SearchedTreesFollow =
    (program : Program) (w : Windows) (t : Shape) →
    AreComplete program t →
    (q : TreeQuery) (d : Derivation) (a : Action) (c : Behaviour) →
    IsSearched program.theory w t q d →
    Derives program (stands_for program t) d a c →
    Follows t d

-- What searches find is among the trees where they look; none of these has a mark where the query asks for trees without marks.
pub record FindsSearched (theory : Theory) (w : Windows) (pieces : Pieces) (t : Shape) (q : TreeQuery) (d : Derivation) : Type 0 where
  pub first : first_tree theory w pieces t q ≡ Some (Some d) → IsSearched theory w t q d
  pub all : (ds : List Derivation) → all_trees theory w pieces t q ≡ Some ds → IsOneOf d ds → IsSearched theory w t q d
  pub unmarked : AsksUnmarked q → IsSearched theory w t q d → has_mark d ≡ false

abbrev pub FoundTreesAreSearched : Type 0
FoundTreesAreSearched =
    (theory : Theory) (w : Windows) (pieces : Pieces) (t : Shape) (q : TreeQuery) (d : Derivation) → FindsSearched theory w pieces t q d

-- A fact of the origin and the work of each expanded node: it holds where every node waits, and it stays so where a node is expanded by
-- work of which it holds, and with each step.
pub record StaysSo (P : Source → Work → Type 0) : Type 0 where
  pub waiting : (t : Shape) → AllWait t → EachExpanded P t
  pub expanded : (g : ℕ) (work : Work) (t : Shape) → ((n : Held) → IsNodeOf t g n → P n.source work) → EachExpanded P t →
      EachExpanded P (posted g work t)
  pub stepped : (program : Program) (old : Shape) (next : ℕ) (d : Derivation) (new : Shape) (later : ℕ) (gone came : List Gen) →
      IsStep program old next d new later gone came → EachExpanded P old → EachExpanded P new

-- so stays that expanded nodes have ways for the trees of their plans
abbrev pub CompletenessStays : Type 0
CompletenessStays = (program : Program) → StaysSo (IsComplete program)

-- and that they have the plans of their origins' composites
abbrev pub ExpansionsStay : Type 0
ExpansionsStay = (program : Program) (w : Windows) → StaysSo (HasItsPlans program w)
