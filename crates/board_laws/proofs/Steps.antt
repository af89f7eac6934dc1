-- What searches for any tree say of all trees.
use Rattle.std.proofs.Common.{ℕ, ◌≡◌, inl, List, [], ◌∷◌, refl, Some, None, Bool}
use Rattle.spec_core.specs.Lists.{IsOneOf}
use Rattle.spec_core.specs.Code.{Program}
use Rattle.rule_model.specs.Behaviours.{Behaviour}
use Rattle.rule_model.specs.Derivations.{Derivation}
use Rattle.symbolic_rules.specs.Windows.{Windows}
use Rattle.decision_trees.specs.Lazy.{first}
use Rattle.decision_trees.specs.Rules.{any, any_beyond}
use Rattle.symbolic_composites.specs.Evaluations.{Evaluation}
use Rattle.candidate_count.proofs.Lists.{empty_has_none}
use Rattle.candidate_laws.specs.Asked.{TreeQuery, IsAsked, TestsAsked}
use Rattle.candidate_laws.specs.TreeLaws.{IsAnswered, lists_of}
use Rattle.candidate_laws.proofs.Listed.{asked_trees_are_listed}
use Rattle.candidate_laws.proofs.Testing.{asked_can_be_tested}
use Rattle.node_trees.specs.Shapes.{Shape, stands_for}
use Rattle.candidate_verdicts.specs.Known.{Pieces}
use Rattle.candidates.specs.Listed.{first_tree}
use Rattle.candidates.specs.Laws.{IsKnownTree}
use Rattle.board_laws.specs.NeededLaws.{FirstTreesAreSo}
use Rattle.board_laws.proofs.Those.{first_trees_are_those}

one_first : {A : Type 0} (x : A) (xs : List A) → Some x ≡ first xs → IsOneOf x xs
one_first x [] e = let no : ⊥ = cc in absurd no
one_first x (y ∷ xs) e = let same : x ≡ y = cc in inl same

none_first : {A : Type 0} (xs : List A) → None ≡ first xs → xs ≡ []
none_first [] e = refl
none_first (x ∷ xs) e = let no : ⊥ = cc in absurd no

module _ (program : Program) (e : Evaluation) (size : ℕ) (w : Windows) (t : Shape) (pieces : Pieces)
    (k : IsKnownTree program e size w t pieces) (is_asked : TreeQuery → Derivation → Bool)
    (tests : TestsAsked program w (stands_for program t) is_asked) where
  abbrev b : Behaviour
  b = stands_for program t

  abbrev trees : TreeQuery → List Derivation
  trees = lists_of program e w b is_asked

  answered : IsAnswered program e size w b is_asked
  answered = record { ready = k.ready; exact = k.exact; windows = k.windows; tests = tests }

  -- a query asks for the first tree that a search finds, and for none, where it finds that there is none

  pub is_asked_for : (q : TreeQuery) (d : Derivation) → first_tree program.theory w pieces t q ≡ Some (Some d) → IsAsked program w b q d
  is_asked_for q d h =
      (asked_trees_are_listed program e size w b is_asked answered q d).0
      (one_first d (trees q) (first_trees_are_those program e size w t pieces k q is_asked tests (Some d) h))

  pub none_asked : (q : TreeQuery) → first_tree program.theory w pieces t q ≡ Some None → (d : Derivation) → IsAsked program w b q d → ⊥
  none_asked q h d i =
      empty_has_none d (trees q) (none_first (trees q) (first_trees_are_those program e size w t pieces k q is_asked tests None h))
      ((asked_trees_are_listed program e size w b is_asked answered q d).1 i)

pub first_trees_are_so : FirstTreesAreSo
first_trees_are_so program e size w t pieces k =
    let test = asked_can_be_tested program e w k.exact (stands_for program t) in
    record {
      is_windowed = λ d h. is_asked_for program e size w t pieces k test.0 test.1 any d h;
      no_windowed = λ h d kind i. none_asked program e size w t pieces k test.0 test.1 any h d (kind, i);
      is_beyond = λ d h. is_asked_for program e size w t pieces k test.0 test.1 any_beyond d h;
      no_beyond = λ h d kind i. none_asked program e size w t pieces k test.0 test.1 any_beyond h d (kind, i);
    }
