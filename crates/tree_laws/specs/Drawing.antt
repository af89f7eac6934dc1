-- What follows from the definitions: no list among which a session chooses holds a tree twice.
use Rattle.std.specs.Prelude.{◌≡◌, List, Bool}
use Rattle.spec_core.specs.Code.{Program}
use Rattle.rule_model.specs.Behaviours.{Behaviour}
use Rattle.rule_model.specs.Derivations.{Derivation}
use Rattle.rule_model.specs.States.{PendingOffer}
use Rattle.symbolic_rules.specs.Windows.{Windows}
use Rattle.symbolic_composites.specs.Evaluations.{Evaluation}
use Rattle.decision_trees.specs.Rules.{Waiting, goes_on, next_of}
use Rattle.candidate_laws.specs.Asked.{TreeQuery}
use Rattle.candidate_laws.specs.TreeLaws.{lists_of}
use Rattle.tree_laws.specs.Laws.{AllDiffer, WindowsDiffer}

-- the list of the trees that a query of a session asks for holds none twice, whatever the test of what is asked is
abbrev pub ListedTreesDiffer : Type 0
ListedTreesDiffer =
    (program : Program) (e : Evaluation) (w : Windows) (b : Behaviour) (is_asked : TreeQuery → Derivation → Bool) →
    WindowsDiffer w →
    (q : TreeQuery) →
    AllDiffer (lists_of program e w b is_asked q)

-- so where a session goes on by one of several unseen trees, by what the seed draws, each of them counts once
abbrev pub DrawnTreesDiffer : Type 0
DrawnTreesDiffer =
    (program : Program) (e : Evaluation) (w : Windows) (b : Behaviour) (is_asked : TreeQuery → Derivation → Bool) →
    WindowsDiffer w →
    (state : Waiting PendingOffer) (trees : List Derivation) →
    next_of (lists_of program e w b is_asked) state ≡ goes_on trees →
    AllDiffer trees
