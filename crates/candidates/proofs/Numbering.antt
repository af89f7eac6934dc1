-- What is decided and asked of numbers of offers, of the trees of parts, is decided and asked of the offers and of the tree.
use Rattle.std.proofs.Common.{ℕ, ◌≡◌, ◌∙◌, List, [], sym, ap, Option, option_map, Bool}
use Rattle.spec_core.specs.Theories.{theory_of}
use Rattle.rule_model.specs.Derivations.{Derivation}
use Rattle.rule_model.specs.States.{PendingOffer}
use Rattle.symbolic_rules.specs.Tables.{windows_in}
use Rattle.decision_trees.specs.Gaps.{OrGap}
use Rattle.decision_trees.specs.Rules.{Query, Waiting, Next}
use Rattle.decision_order.specs.Jobs.{taken_on}
use Rattle.decision_order.specs.Needed.{next_needed}
use Rattle.decision_order.specs.Numbered.{entry_with, waiting_with}
use Rattle.decision_order.specs.Rules.{next_decided}
use Rattle.decision_order.proofs.Numbers.{numbers_stand_for_them}
use Rattle.candidate_composites.specs.Known.{PlacedPlan}
use Rattle.candidates.specs.Listed.{trees_sought}
use Rattle.candidates.specs.Jobs.{NodeJob}
use Rattle.candidates.specs.KnownTrees.{offer_in, numbered, first_in, all_in, jobs_to_first, jobs_to_all, is_held_in, HasItsParts}
use Rattle.candidates.specs.KnownTrees.{trees_for, first_of_those, all_of_those, jobs_to_first_of, jobs_to_all_of, is_held_among}
use Rattle.candidates.specs.declared.known_tree.KnownTree.{KnownTree}

module _ (s : KnownTree) where
  -- searches among the trees of plans with gaps
  abbrev trees : List PlacedPlan → Query ℕ → List (OrGap Derivation)
  trees ps q = trees_sought (theory_of s.algebra.now) (windows_in s.windows.now) (numbered s q) ps

  abbrev find : List PlacedPlan → Query ℕ → Option (Option Derivation)
  find ps q = first_of_those s (numbered s q) (trees ps q)

  abbrev every : List PlacedPlan → Query ℕ → Option (List Derivation)
  every ps q = all_of_those s (numbered s q) (trees ps q)

  abbrev missing : List PlacedPlan → Query ℕ → List NodeJob
  missing ps q = jobs_to_first_of s (numbered s q) (trees ps q)

  abbrev every_missing : List PlacedPlan → Query ℕ → List NodeJob
  every_missing ps q = jobs_to_all_of s (numbered s q) (trees ps q)

  abbrev is_there : List PlacedPlan → Query ℕ → Bool
  is_there ps q = is_held_among s (numbered s q) (trees ps q)

  pub entry_known : (w : Waiting ℕ) (o : Option (Next ℕ Derivation)) → HasItsParts s →
      o ≡ next_decided (λ q. first_of_those s (numbered s q) (trees_for s (numbered s q)))
      (λ q. all_of_those s (numbered s q) (trees_for s (numbered s q))) w →
      option_map (entry_with (offer_in s)) o ≡ next_decided (first_in s) (all_in s) (waiting_with (offer_in s) w)
  entry_known w o parts e =
      ap (option_map (entry_with (offer_in s))) (e ∙ ap (λ ps. next_decided (find ps) (every ps) w) parts)
      ∙ sym ((numbers_stand_for_them PendingOffer Derivation NodeJob).decided (offer_in s) (first_in s) (all_in s) w)

  pub jobs_known : (w : Waiting ℕ) (take : List NodeJob → NodeJob → List NodeJob) (those : List NodeJob) → HasItsParts s →
      those ≡ taken_on take [] (next_needed (λ q. jobs_to_first_of s (numbered s q) (trees_for s (numbered s q)))
      (λ q. jobs_to_all_of s (numbered s q) (trees_for s (numbered s q))) (λ q. is_held_among s (numbered s q) (trees_for s (numbered s q))) w) →
      those ≡ taken_on take [] (next_needed (jobs_to_first s) (jobs_to_all s) (is_held_in s) (waiting_with (offer_in s) w))
  jobs_known w take those parts e =
      e ∙ ap (λ ps. taken_on take [] (next_needed (missing ps) (every_missing ps) (is_there ps) w)) parts
      ∙ sym (ap (taken_on take [])
      ((numbers_stand_for_them PendingOffer Derivation NodeJob).needed (offer_in s) (jobs_to_first s) (jobs_to_all s) (is_held_in s) w))
