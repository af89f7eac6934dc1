-- The ordered lists of the trees that a session looks for. (This profile.)
use Rattle.std.specs.Prelude.{ℕ, Bool, List, filter}
use Rattle.spec_core.specs.Theories.{Theory}
use Rattle.rule_model.specs.Behaviours.{Behaviour}
use Rattle.rule_model.specs.Derivations.{Derivation}
use Rattle.symbolic_rules.specs.Windows.{Windows}
use Rattle.symbolic_composites.specs.Evaluations.{Evaluation}
use Rattle.symbolic_composites.specs.TreeLists.{candidates}
use Rattle.candidate_laws.specs.Asked.{TreeQuery, offer_in}

-- the trees of a behaviour that a query asks for, as a test says, in the order of trees, with at most n calls in one another
abbrev pub trees_for : Theory → Evaluation → Windows → ℕ → Behaviour → (TreeQuery → Derivation → Bool) → TreeQuery → List Derivation
trees_for theory e w n b is_asked q = filter (is_asked q) (candidates theory e w n b (offer_in q))
