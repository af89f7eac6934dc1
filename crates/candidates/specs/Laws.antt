-- What follows from the definitions.
use Rattle.std.specs.Prelude.{ℕ, ◌≡◌, List, Some, map, Bool}
use Rattle.spec_core.specs.Theories.{Theory}
use Rattle.spec_core.specs.Code.{Program}
use Rattle.spec_core.specs.Ready.{IsReady}
use Rattle.rule_model.specs.Derivations.{Derivation}
use Rattle.rule_model.specs.States.{PendingOffer}
use Rattle.symbolic_rules.specs.Windows.{Windows, AreWindows}
use Rattle.decision_trees.specs.Known.{found}
use Rattle.decision_trees.specs.Gaps.{with_gaps}
use Rattle.decision_trees.specs.Rules.{Waiting, Next, next_of, decision}
use Rattle.decision_order.specs.Rules.{next_decided}
use Rattle.decision_order.specs.Needed.{next_needed}
use Rattle.symbolic_composites.specs.Evaluations.{Evaluation, IsExact}
use Rattle.symbolic_plans.specs.Laws.{composites_of}
use Rattle.candidate_laws.specs.Asked.{TreeQuery, TestsAsked}
use Rattle.candidate_laws.specs.TreeLaws.{IsSoundWaiting, EntryHolds, lists_of}
use Rattle.candidate_laws.specs.Waiting as lists
use Rattle.candidate_laws.specs.Waiting.{waiting_trees}
use Rattle.node_trees.specs.Generations.{AreApart}
use Rattle.node_trees.specs.Rests.{Work}
use Rattle.node_trees.specs.Shapes.{Above, Held, Shape, Stands, stands_for}
use Rattle.candidate_verdicts.specs.Known.{Pieces}
use Rattle.candidate_verdicts.specs.Laws.{ArePiecesOf}
use Rattle.candidates.specs.Listed.{known_candidates, items_in, knowledge, first_tree, all_trees, asked_for_first, asked_for_all}
use Rattle.candidates.specs.Listed.{is_known_to_hold}
use Rattle.candidates.specs.Jobs.{all_jobs, of_tree}

-- the candidates of a tree, as far as it is expanded, are those of its list that waits, with the same gaps
abbrev pub KnownCandidatesAreThose : Type 0
KnownCandidatesAreThose =
    (theory : Theory) (w : Windows) (t : Shape) →
    AreApart t →
    (q : TreeQuery) →
    with_gaps (items_in theory w t) (waiting_trees theory w t q) ≡ known_candidates theory w t q

-- What is known of a tree is so: the answers about a specification that is ready are exact, these are its windows, generations are apart,
-- each expansion has the composites of its node's origin, and what is known of nodes is what their origins show.
pub record IsKnownTree (program : Program) (e : Evaluation) (size : ℕ) (w : Windows) (t : Shape) (pieces : Pieces) : Type 0 where
  pub ready : IsReady program
  pub exact : IsExact program e
  pub windows : AreWindows program.theory size w
  pub apart : AreApart t
  pub expanded : (up : List Above) (n : Held) → Stands t up n → (x : Work) → n.work ≡ Some x →
      composites_of program.theory w x.plans ≡ lists.composites_of program e w n.source
  pub shown : ArePiecesOf program w pieces t

-- then the entry that the rules decide from searches in it is the one that comes next over the whole lists of the behaviour that it stands
-- for, by whatever test says which trees are asked for
abbrev pub DecidedEntriesAreNext : Type 0
DecidedEntriesAreNext =
    (program : Program) (e : Evaluation) (size : ℕ) (w : Windows) (t : Shape) (pieces : Pieces) →
    IsKnownTree program e size w t pieces →
    (state : Waiting PendingOffer) (entry : Next PendingOffer Derivation) →
    next_decided (first_tree program.theory w pieces t) (all_trees program.theory w pieces t) state ≡ Some entry →
    (is_asked : TreeQuery → Derivation → Bool) →
    TestsAsked program w (stands_for program t) is_asked →
    entry ≡ next_of (lists_of program e w (stands_for program t) is_asked) state

-- and it says what is so of the steps of this behaviour
abbrev pub DecidedEntriesAreSo : Type 0
DecidedEntriesAreSo =
    (program : Program) (e : Evaluation) (size : ℕ) (w : Windows) (t : Shape) (pieces : Pieces) →
    IsKnownTree program e size w t pieces →
    (state : Waiting PendingOffer) →
    IsSoundWaiting state →
    (entry : Next PendingOffer Derivation) →
    next_decided (first_tree program.theory w pieces t) (all_trees program.theory w pieces t) state ≡ Some entry →
    EntryHolds program w (stands_for program t) state entry

-- the jobs at nodes that searches still ask by the rules are those of the questions that the walk along their decision finds
abbrev pub JobsAreNeeded : Type 0
JobsAreNeeded =
    (theory : Theory) (w : Windows) (t : Shape) (pieces : Pieces) →
    AreApart t →
    (state : Waiting PendingOffer) →
    next_needed (λ q. all_jobs pieces t (asked_for_first theory w pieces t q)) (λ q. all_jobs pieces t (asked_for_all theory w pieces t q))
    (is_known_to_hold theory w pieces t) state ≡
    all_jobs pieces t (map of_tree (found (knowledge theory w pieces t) (decision (waiting_trees theory w t) state)))
