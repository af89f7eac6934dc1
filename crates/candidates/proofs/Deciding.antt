-- What is decided from what is known of a tree.
use Rattle.std.proofs.Common.{ℕ, ◌≡◌, ◌∙◌, List, [], map, filter, refl, sym, ap, subst, Option, Some, None, option_map, Bool}
use Rattle.std.specs.Prelude.{option_and_then}
use Rattle.spec_core.specs.Code.{Program}
use Rattle.rule_model.specs.Derivations.{Derivation}
use Rattle.rule_model.specs.States.{PendingOffer}
use Rattle.symbolic_rules.specs.Windows.{Windows}
use Rattle.decision_trees.specs.Known.{Knowledge, decided}
use Rattle.decision_trees.specs.Lazy.{Lazy, whole, first_holding, all_holding}
use Rattle.decision_trees.specs.Gaps.{first_known, all_known}
use Rattle.decision_trees.specs.Rules.{Waiting, Next, next_of, decision}
use Rattle.decision_trees.proofs.Asking.{decided_is_so}
use Rattle.decision_trees.proofs.Following.{decision_is_next}
use Rattle.decision_trees.proofs.Gaps.{gaps_are_so}
use Rattle.decision_order.specs.Rules.{next_decided}
use Rattle.decision_order.proofs.Deciding.{decided_by_rules}
use Rattle.symbolic_composites.specs.Composites.{Composite}
use Rattle.symbolic_composites.specs.Evaluations.{Evaluation}
use Rattle.symbolic_plans.specs.Laws.{composites_of}
use Rattle.candidate_laws.specs.Asked.{TreeQuery, TestsAsked}
use Rattle.candidate_laws.specs.TreeLaws.{EntryHolds, lists_of}
use Rattle.candidate_laws.proofs.TreeEntries.{next_entries_hold}
use Rattle.candidate_laws.proofs.Testing.{asked_can_be_tested}
use Rattle.candidate_laws.specs.Waiting as lists
use Rattle.candidate_laws.specs.Waiting.{Candidate, with_trees, waiting_trees}
use Rattle.candidate_laws.specs.ListLaws.{IsKnownOf, answers_by}
use Rattle.candidate_laws.proofs.Decided.{lists_are_those}
use Rattle.candidate_laws.proofs.ListEntries.{next_same}
use Rattle.node_trees.specs.Rests.{Work}
use Rattle.node_trees.specs.Shapes.{Held, Shape, node_at, stands_for}
use Rattle.node_trees.proofs.Finding.{found_is_node}
use Rattle.candidate_verdicts.specs.Known.{Pieces}
use Rattle.candidate_verdicts.proofs.Verdicts.{known_verdicts_are_so}
use Rattle.candidates.specs.Listed.{knowledge, known_trees, first_tree, all_trees}
use Rattle.candidates.specs.Laws.{IsKnownTree, DecidedEntriesAreNext, DecidedEntriesAreSo}
use Rattle.candidates.proofs.Listing.{node_found, are_those}
use Rattle.candidates.proofs.Trees.{tree_of, candidates_are, firsts as firsts_are, alls as alls_are}
use Rattle.candidates.proofs.Entries.{next_is}

module _ (program : Program) (e : Evaluation) (size : ℕ) (w : Windows) (t : Shape) (pieces : Pieces)
    (k : IsKnownTree program e size w t pieces) where
  abbrev known : Knowledge Composite Candidate
  known = knowledge program.theory w pieces t

  -- what a node's origin has, if there is a node
  abbrev items_of : Option Held → List Composite
  items_of None = []
  items_of (Some n) = lists.composites_of program e w n.source

  abbrev of_work : Held → Option (List Composite)
  of_work n = option_map (λ (x : Work). composites_of program.theory w x.plans) n.work

  expanded_so : (g : ℕ) (xs : List Composite) (o : Option Held) → node_at g t ≡ o → option_and_then of_work o ≡ Some xs → items_of o ≡ xs
  expanded_so g xs None f h = let no : ⊥ = cc in absurd no
  expanded_so g xs (Some n) f h =
      let i = found_is_node g t n f in
      by_work n.work refl h
    where
      by_work : (o : Option Work) → n.work ≡ o → option_map (λ (x : Work). composites_of program.theory w x.plans) o ≡ Some xs →
          items_of (Some n) ≡ xs
      by_work None x h = let no : ⊥ = cc in absurd no
      by_work (Some x) y h =
          let same : composites_of program.theory w x.plans ≡ xs = cc in
          let i = found_is_node g t n f in
          sym (k.expanded i.up n i.stands x y) ∙ same

  known_of : (is_asked : TreeQuery → Derivation → Bool) → TestsAsked program w (stands_for program t) is_asked →
      IsKnownOf program e size w t is_asked known
  known_of is_asked tests = record {
    answered = record { ready = k.ready; exact = k.exact; windows = k.windows; tests = tests };
    items = λ g. items_of (node_at g t);
    are_items = λ up n s. ap items_of (node_found t k.apart up n s);
    extends = record {
      items = λ g xs h. expanded_so g xs (node_at g t) refl h;
      verdict = λ a b h. known_verdicts_are_so program e w k.exact pieces t k.shown is_asked tests a b h;
    };
  }

  abbrev lazy : TreeQuery → Lazy Composite Candidate
  lazy = waiting_trees program.theory w t

  firsts : (q : TreeQuery) → option_map (option_map tree_of) (decided known (first_holding (lazy q))) ≡ first_tree program.theory w pieces t q
  firsts q =
      ap (option_map (option_map tree_of)) (
      (gaps_are_so Composite Candidate).firsts known (lazy q)
      ∙ ap (first_known known.verdict) (are_those program.theory w t q k.apart ∙ sym (candidates_are q program.theory w t)))
      ∙ firsts_are q known.verdict (known_trees program.theory w t q)

  alls : (q : TreeQuery) → option_map (map tree_of) (decided known (all_holding (lazy q))) ≡ all_trees program.theory w pieces t q
  alls q =
      ap (option_map (map tree_of)) (
      (gaps_are_so Composite Candidate).alls known (lazy q)
      ∙ ap (all_known known.verdict) (are_those program.theory w t q k.apart ∙ sym (candidates_are q program.theory w t)))
      ∙ alls_are q known.verdict (known_trees program.theory w t q)

  abbrev outcome : Waiting PendingOffer → Option (Next PendingOffer Candidate)
  outcome state = decided known (decision lazy state)

  trees_decided : (state : Waiting PendingOffer) →
      option_map with_trees (outcome state) ≡
      next_decided (first_tree program.theory w pieces t) (all_trees program.theory w pieces t) state
  trees_decided state =
      ap (option_map with_trees) (decided_by_rules Composite PendingOffer Candidate lazy state known)
      ∙ next_is (λ q. decided known (first_holding (lazy q))) (λ q. decided known (all_holding (lazy q)))
      (first_tree program.theory w pieces t) (all_trees program.theory w pieces t) state firsts alls

  pub are_next : (is_asked : TreeQuery → Derivation → Bool) → TestsAsked program w (stands_for program t) is_asked →
      (state : Waiting PendingOffer) (entry : Next PendingOffer Derivation) →
      next_decided (first_tree program.theory w pieces t) (all_trees program.theory w pieces t) state ≡ Some entry →
      entry ≡ next_of (lists_of program e w (stands_for program t) is_asked) state
  are_next is_asked tests state entry h = by_outcome (outcome state) refl (trees_decided state ∙ h)
    where
      of : IsKnownOf program e size w t is_asked known
      of = known_of is_asked tests

      whole_lists : TreeQuery → List Candidate
      whole_lists q = filter (answers_by is_asked of.items).verdict (whole (answers_by is_asked of.items) (lazy q))

      their_trees : ◌≡◌ {A = TreeQuery → List Derivation} (λ q. map tree_of (whole_lists q))
          (lists_of program e w (stands_for program t) is_asked)
      their_trees i q = lists_are_those program e size w t is_asked of.answered of.items of.are_items q i

      candidates_next : (a : Next PendingOffer Candidate) → outcome state ≡ Some a → a ≡ next_of whole_lists state
      candidates_next a f =
          sym (decided_is_so Composite Candidate (Next PendingOffer Candidate) known (decision lazy state) a (answers_by is_asked of.items)
          of.extends f)
          ∙ decision_is_next Composite PendingOffer Candidate lazy state (answers_by is_asked of.items)

      by_outcome : (o : Option (Next PendingOffer Candidate)) → outcome state ≡ o → option_map with_trees o ≡ Some entry →
          entry ≡ next_of (lists_of program e w (stands_for program t) is_asked) state
      by_outcome None f g = let no : ⊥ = cc in absurd no
      by_outcome (Some a) f g =
          let same : entry ≡ with_trees a = cc in
          same
          ∙ ap with_trees (candidates_next a f)
          ∙ next_same whole_lists state
          ∙ ap (λ z. next_of z state) their_trees

pub decided_entries_are_next : DecidedEntriesAreNext
decided_entries_are_next program e size w t pieces k state entry h is_asked tests =
    are_next program e size w t pieces k is_asked tests state entry h

pub decided_entries_are_so : DecidedEntriesAreSo
decided_entries_are_so program e size w t pieces k state sound entry h =
    let test = asked_can_be_tested program e w k.exact (stands_for program t) in
    subst (EntryHolds program w (stands_for program t) state)
    (sym (decided_entries_are_next program e size w t pieces k state entry h test.0 test.1))
    (next_entries_hold program e size w (stands_for program t) test.0
    (record { ready = k.ready; exact = k.exact; windows = k.windows; tests = test.1 }) state sound)
