-- What is known of a tree is so, as answers to its questions.
use Rattle.std.proofs.Common.{ℕ, ◌≡◌, ◌∙◌, List, [], refl, sym, ap, Option, Some, None, option_map, Bool}
use Rattle.std.specs.Prelude.{option_and_then}
use Rattle.spec_core.specs.Code.{Program}
use Rattle.rule_model.specs.Derivations.{Derivation}
use Rattle.symbolic_rules.specs.Windows.{Windows}
use Rattle.symbolic_composites.specs.Composites.{Composite}
use Rattle.symbolic_composites.specs.Evaluations.{Evaluation}
use Rattle.symbolic_plans.specs.Laws.{composites_of}
use Rattle.candidate_laws.specs.Asked.{TreeQuery, TestsAsked}
use Rattle.candidate_laws.specs.Waiting as lists
use Rattle.candidate_laws.specs.ListLaws.{IsKnownOf}
use Rattle.node_trees.specs.Rests.{Work}
use Rattle.node_trees.specs.Shapes.{Held, Shape, node_at, stands_for}
use Rattle.node_trees.proofs.Finding.{found_is_node}
use Rattle.candidate_verdicts.specs.Known.{Pieces}
use Rattle.candidate_verdicts.proofs.Verdicts.{known_verdicts_are_so}
use Rattle.candidates.specs.Listed.{knowledge}
use Rattle.candidates.specs.Laws.{IsKnownTree}
use Rattle.candidates.proofs.Listing.{node_found}

module _ (program : Program) (e : Evaluation) (size : ℕ) (w : Windows) (t : Shape) (pieces : Pieces)
    (k : IsKnownTree program e size w t pieces) where
  -- what a node's origin has, if there is a node
  abbrev items_of : Option Held → List Composite
  items_of None = []
  items_of (Some n) = lists.composites_of program e w n.source

  abbrev of_work : Held → Option (List Composite)
  of_work n = option_map (λ (x : Work). composites_of program.theory w x.plans) n.work

  expanded_so : (g : ℕ) (xs : List Composite) (o : Option Held) → node_at g t ≡ o → option_and_then of_work o ≡ Some xs → items_of o ≡ xs
  expanded_so g xs None f h = let no : ⊥ = cc in absurd no
  expanded_so g xs (Some n) f h = by_work n.work refl h
    where
      by_work : (o : Option Work) → n.work ≡ o → option_map (λ (x : Work). composites_of program.theory w x.plans) o ≡ Some xs →
          items_of (Some n) ≡ xs
      by_work None x h = let no : ⊥ = cc in absurd no
      by_work (Some x) y h =
          let same : composites_of program.theory w x.plans ≡ xs = cc in
          let i = found_is_node g t n f in
          sym (k.expanded i.up n i.stands x y) ∙ same

  pub known_of : (is_asked : TreeQuery → Derivation → Bool) → TestsAsked program w (stands_for program t) is_asked →
      IsKnownOf program e size w t is_asked (knowledge program.theory w pieces t)
  known_of is_asked tests = record {
    answered = record { ready = k.ready; exact = k.exact; windows = k.windows; tests = tests };
    items = λ g. items_of (node_at g t);
    are_items = λ up n s. ap items_of (node_found t k.apart up n s);
    extends = record {
      items = λ g xs h. expanded_so g xs (node_at g t) refl h;
      verdict = λ a b h. known_verdicts_are_so program e w k.exact pieces t k.shown is_asked tests a b h;
    };
  }
