-- What follows from the definitions.
use Rattle.std.specs.Prelude.{ℕ, ◌≡◌, List, [], Option, Some, None, Bool, true}
use Rattle.spec_core.specs.Lists.{IsOneOf}
use Rattle.spec_core.specs.Theories.{Theory}
use Rattle.spec_core.specs.Code.{Program}
use Rattle.rule_model.specs.Actions.{Kind}
use Rattle.rule_model.specs.Derivations.{Derivation}
use Rattle.rule_model.specs.States.{PendingOffer}
use Rattle.symbolic_rules.specs.Windows.{Windows}
use Rattle.symbolic_rules.specs.Trees.{IsWindowed, IsBeyond}
use Rattle.decision_trees.specs.Lazy.{first}
use Rattle.decision_trees.specs.Rules.{any, any_beyond, Waiting, nothing, next_of}
use Rattle.symbolic_composites.specs.Evaluations.{Evaluation}
use Rattle.candidate_laws.specs.Asked.{TreeQuery, TestsAsked}
use Rattle.candidate_laws.specs.TreeLaws.{lists_of}
use Rattle.node_trees.specs.Shapes.{Shape, Lives, stands_for}
use Rattle.candidate_verdicts.specs.Known.{NodePart, Pieces}
use Rattle.candidates.specs.Listed.{first_tree}
use Rattle.candidates.specs.Jobs.{NodeJob, to_expand, to_judge}
use Rattle.candidates.specs.Laws.{IsKnownTree}
use Rattle.board_laws.specs.Needed.{jobs_needed, entry_decided, generation_of, IsGapOfQuery, IsPartOfTree, IsUndone}

-- where searches ask no job, the rules decide an entry
abbrev pub NothingNeededIsDecided : Type 0
NothingNeededIsDecided =
    (theory : Theory) (w : Windows) (t : Shape) (pieces : Pieces) (state : Waiting PendingOffer) →
    jobs_needed theory w t pieces state ≡ [] →
    entry_decided theory w t pieces state ≡ None →
    ⊥

-- the node of each job that searches ask is one of the tree's
abbrev pub NeededJobsLive : Type 0
NeededJobsLive =
    (theory : Theory) (w : Windows) (t : Shape) (pieces : Pieces) (state : Waiting PendingOffer) (job : NodeJob) →
    IsOneOf job (jobs_needed theory w t pieces state) →
    Lives t (generation_of job)

-- and the job isn't done
abbrev pub NeededJobsAreUndone : Type 0
NeededJobsAreUndone =
    (theory : Theory) (w : Windows) (t : Shape) (pieces : Pieces) (state : Waiting PendingOffer) (job : NodeJob) →
    IsOneOf job (jobs_needed theory w t pieces state) →
    IsUndone pieces t job

-- a node that searches ask to expand is a gap of a query of the rules
abbrev pub NeededNodesAreGaps : Type 0
NeededNodesAreGaps =
    (theory : Theory) (w : Windows) (t : Shape) (pieces : Pieces) (state : Waiting PendingOffer) (g : ℕ) →
    IsOneOf (to_expand g) (jobs_needed theory w t pieces state) →
    IsGapOfQuery theory w t state g

-- a part that searches ask to judge is one of a tree for which a query of the rules may ask
abbrev pub NeededPartsAreOfTrees : Type 0
NeededPartsAreOfTrees =
    (theory : Theory) (w : Windows) (t : Shape) (pieces : Pieces) (state : Waiting PendingOffer) (part : NodePart) →
    IsOneOf (to_judge part) (jobs_needed theory w t pieces state) →
    IsPartOfTree theory w t pieces state part

-- where each open client waits, and nothing comes next, no offer is pending
abbrev pub NothingNextNothingPending : Type 0
NothingNextNothingPending =
    (lists : TreeQuery → List Derivation) (state : Waiting PendingOffer) →
    next_of lists state ≡ nothing →
    state.all_wait ≡ true →
    state.pending ≡ []

-- Where what is known of a tree is so, what a search in it finds, the first tree or none, is the first of the whole list of the behaviour
-- that the tree stands for, by whatever test says which trees are asked for.
abbrev pub FirstTreesAreThose : Type 0
FirstTreesAreThose =
    (program : Program) (e : Evaluation) (size : ℕ) (w : Windows) (t : Shape) (pieces : Pieces) →
    IsKnownTree program e size w t pieces →
    (q : TreeQuery) (is_asked : TreeQuery → Derivation → Bool) →
    TestsAsked program w (stands_for program t) is_asked →
    (r : Option Derivation) →
    first_tree program.theory w pieces t q ≡ Some r →
    r ≡ first (lists_of program e w (stands_for program t) is_asked q)

-- What searches for any tree say of the trees of the behaviour that the tree stands for: a tree that they find is windowed, or beyond, as it
-- was searched for; and where they find that there is none, there is none.
pub record FirstTreesSay (program : Program) (w : Windows) (t : Shape) (pieces : Pieces) : Type 0 where
  pub is_windowed : (d : Derivation) → first_tree program.theory w pieces t any ≡ Some (Some d) →
      (k : Kind) × IsWindowed program w (stands_for program t) None d k
  pub no_windowed : first_tree program.theory w pieces t any ≡ Some None → (d : Derivation) (k : Kind) →
      IsWindowed program w (stands_for program t) None d k → ⊥
  pub is_beyond : (d : Derivation) → first_tree program.theory w pieces t any_beyond ≡ Some (Some d) →
      (k : Kind) × IsBeyond program w (stands_for program t) None d k
  pub no_beyond : first_tree program.theory w pieces t any_beyond ≡ Some None → (d : Derivation) (k : Kind) →
      IsBeyond program w (stands_for program t) None d k → ⊥

abbrev pub FirstTreesAreSo : Type 0
FirstTreesAreSo =
    (program : Program) (e : Evaluation) (size : ℕ) (w : Windows) (t : Shape) (pieces : Pieces) →
    IsKnownTree program e size w t pieces →
    FirstTreesSay program w t pieces
