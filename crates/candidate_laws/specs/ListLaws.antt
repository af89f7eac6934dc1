-- What follows from the definitions.
use Rattle.std.specs.Prelude.{ℕ, ◌≡◌, ◌↔◌, Bool, true, List, Some, filter, length, map}
use Rattle.spec_core.specs.Code.{Program}
use Rattle.rule_model.specs.Actions.{Kind}
use Rattle.rule_model.specs.Derivations.{Derivation}
use Rattle.rule_model.specs.States.{PendingOffer}
use Rattle.symbolic_rules.specs.Windows.{Windows}
use Rattle.symbolic_rules.specs.MarkedTerms.{unmarked}
use Rattle.decision_trees.specs.Decisions.{Answers}
use Rattle.decision_trees.specs.Known.{Knowledge, Extends, decided}
use Rattle.decision_trees.specs.Lazy.{whole}
use Rattle.decision_trees.specs.Rules.{Waiting, Next, next_of, decision}
use Rattle.symbolic_composites.specs.Evaluations.{Evaluation}
use Rattle.symbolic_composites.specs.Composites.{Composite, composites}
use Rattle.node_trees.specs.Shapes.{Shape, stands_for}
use Rattle.candidate_laws.specs.Asked.{TreeQuery}
use Rattle.candidate_laws.specs.TreeLaws.{IsAnswered, IsSoundWaiting, EntryHolds, lists_of}
use Rattle.candidate_laws.specs.Sought.{Sought, these_kinds, is_one_kind, seeks_some, Step, sought_at, ComesUp}
use Rattle.candidate_laws.specs.Waiting.{Candidate, with_trees, sought_of, waiting_composites, waiting_trees, AreItemsOf}

-- where the answers are what the nodes' origins have, the composites of the tree whose actions are sought are those of the behaviour that it
-- stands for
abbrev pub CompositesAreThose : Type 0
CompositesAreThose =
    (program : Program) (e : Evaluation) (w : Windows) (s : Answers Composite Composite) (t : Shape) →
    AreItemsOf program e w s.items t →
    (v : Sought) →
    whole s (waiting_composites program.theory w t v) ≡
    sought_of v (composites program.theory e w (length program.code) unmarked (stands_for program t))

-- a candidate holds where its query asks for its tree
abbrev pub answers_by : (TreeQuery → Derivation → Bool) → (ℕ → List Composite) → Answers Composite Candidate
answers_by is_asked items = record { items = items; verdict = λ a. is_asked a.query a.tree }

-- and the trees of the candidates that hold are those of this behaviour for the query
abbrev pub ListsAreThose : Type 0
ListsAreThose =
    (program : Program) (e : Evaluation) (size : ℕ) (w : Windows) (t : Shape) (is_asked : TreeQuery → Derivation → Bool) →
    IsAnswered program e size w (stands_for program t) is_asked →
    (items : ℕ → List Composite) →
    AreItemsOf program e w items t →
    (q : TreeQuery) →
    map (λ (a : Candidate). a.tree)
    (filter (answers_by is_asked items).verdict (whole (answers_by is_asked items) (waiting_trees program.theory w t q))) ≡
    lists_of program e w (stands_for program t) is_asked q

-- What a session knows of a tree of nodes, with its whole state: the test says which trees are asked for, and what is known is so:
-- expansions are what their nodes' origins have, and a verdict says whether the candidate's query asks for its tree.
pub record IsKnownOf (program : Program) (e : Evaluation) (size : ℕ) (w : Windows) (t : Shape)
    (is_asked : TreeQuery → Derivation → Bool) (known : Knowledge Composite Candidate) : Type 0 where
  pub answered : IsAnswered program e size w (stands_for program t) is_asked
  pub items : ℕ → List Composite
  pub are_items : AreItemsOf program e w items t
  pub extends : Extends (answers_by is_asked items) known

-- what is decided from what is known comes next over the whole lists, and says what is so of the steps of what the tree stands for
abbrev pub DecidedEntriesHold : Type 0
DecidedEntriesHold =
    (program : Program) (e : Evaluation) (size : ℕ) (w : Windows) (t : Shape) (is_asked : TreeQuery → Derivation → Bool)
    (known : Knowledge Composite Candidate) →
    IsKnownOf program e size w t is_asked known →
    (state : Waiting PendingOffer) →
    IsSoundWaiting state →
    (entry : Next PendingOffer Candidate) →
    decided known (decision (waiting_trees program.theory w t) state) ≡ Some entry →
    (with_trees entry ≡ next_of (lists_of program e w (stands_for program t) is_asked) state) ×
    EntryHolds program w (stands_for program t) state (with_trees entry)

-- Where these kinds of actions are sought at the whole, some action is sought below steps exactly where one of some kind comes up by them as
-- one of these.
abbrev pub SoughtIsWhatComesUp : Type 0
SoughtIsWhatComesUp =
    (steps : List Step) (ks : List Kind) →
    (seeks_some (sought_at steps (these_kinds ks)) ≡ true) ↔ ((k : Kind) × (j : Kind) × ComesUp steps k j × (is_one_kind j ks ≡ true))
