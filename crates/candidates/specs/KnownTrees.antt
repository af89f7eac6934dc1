-- What a known tree of the program stands for, and what searches in it come to. (This profile.)
use Rattle.std.specs.Prelude.{ℕ, ◌≡◌, List, map, Option, Bool, is_some}
use Rattle.spec_core.specs.Theories.{theory_of}
use Rattle.rule_model.specs.declared.offer.Offer.{Offer}
use Rattle.rule_model.specs.Derivations.{Derivation}
use Rattle.rule_model.specs.States.{PendingOffer}
use Rattle.symbolic_rules.specs.Tables.{windows_in}
use Rattle.decision_trees.specs.Gaps.{OrGap, first_known, all_known, missing_to_first, all_missing, known_to_hold}
use Rattle.decision_trees.specs.Lazy.{first}
use Rattle.decision_trees.specs.Rules.{Query}
use Rattle.decision_order.specs.Numbered.{query_with}
use Rattle.log_states.specs.Views.{pending_of}
use Rattle.candidate_laws.specs.Asked.{TreeQuery}
use Rattle.candidate_search.specs.Searches.{for_offer}
use Rattle.node_trees.specs.Shapes.{shape_of}
use Rattle.candidate_composites.specs.Known.{PlacedPlan, placed_plans}
use Rattle.candidate_verdicts.specs.Stored.{stored}
use Rattle.board_offers.specs.Offers.{offer_at}
use Rattle.candidates.specs.Composites.{listed_or}
use Rattle.candidates.specs.Listed.{trees_sought, verdict_for, first_tree, all_trees, asked_for_first, asked_for_all, is_known_to_hold}
use Rattle.candidates.specs.Jobs.{NodeJob, all_jobs, is_out, with_job}
use Rattle.candidates.specs.Models.{job_of}
use Rattle.candidates.specs.declared.known_tree.KnownTree.{KnownTree}

module _ (s : KnownTree) where
  -- the offer with a number
  abbrev pub offer_in : ℕ → PendingOffer
  offer_in n = offer_at (map pending_of s.offers.now) n

  -- somebody works at the job
  abbrev pub is_out_in : NodeJob → Bool
  is_out_in job = is_out (map job_of s.out.now) job

  -- what is taken on with one more job, up to so many
  abbrev pub with_job_in : ℕ → List NodeJob → NodeJob → List NodeJob
  with_job_in limit taken job = with_job limit (map job_of s.out.now) taken job

  -- the query for an offer with a number
  abbrev pub numbered : Query ℕ → Query Offer
  numbered q = for_offer (query_with offer_in q)

  -- searches, by queries for offers
  module _ (q : TreeQuery) where
    abbrev pub first_in : Option (Option Derivation)
    first_in = first_tree (theory_of s.algebra.now) (windows_in s.windows.now) (stored s.pieces.now) (shape_of s.tree.now) q

    abbrev pub all_in : Option (List Derivation)
    all_in = all_trees (theory_of s.algebra.now) (windows_in s.windows.now) (stored s.pieces.now) (shape_of s.tree.now) q

    abbrev pub jobs_to_first : List NodeJob
    jobs_to_first = all_jobs (stored s.pieces.now) (shape_of s.tree.now)
        (asked_for_first (theory_of s.algebra.now) (windows_in s.windows.now) (stored s.pieces.now) (shape_of s.tree.now) q)

    abbrev pub jobs_to_all : List NodeJob
    jobs_to_all = all_jobs (stored s.pieces.now) (shape_of s.tree.now)
        (asked_for_all (theory_of s.algebra.now) (windows_in s.windows.now) (stored s.pieces.now) (shape_of s.tree.now) q)

    abbrev pub is_held_in : Bool
    is_held_in = is_known_to_hold (theory_of s.algebra.now) (windows_in s.windows.now) (stored s.pieces.now) (shape_of s.tree.now) q

  -- the same among these trees with gaps, whoever makes the offers
  module _ (q : Query Offer) (those : List (OrGap Derivation)) where
    abbrev pub first_of_those : Option (Option Derivation)
    first_of_those =
        first_known (verdict_for (theory_of s.algebra.now) (windows_in s.windows.now) (stored s.pieces.now) (shape_of s.tree.now) q) those

    abbrev pub all_of_those : Option (List Derivation)
    all_of_those =
        all_known (verdict_for (theory_of s.algebra.now) (windows_in s.windows.now) (stored s.pieces.now) (shape_of s.tree.now) q) those

    abbrev pub jobs_to_first_of : List NodeJob
    jobs_to_first_of = all_jobs (stored s.pieces.now) (shape_of s.tree.now) (missing_to_first
        (verdict_for (theory_of s.algebra.now) (windows_in s.windows.now) (stored s.pieces.now) (shape_of s.tree.now) q) those)

    abbrev pub jobs_to_all_of : List NodeJob
    jobs_to_all_of = all_jobs (stored s.pieces.now) (shape_of s.tree.now) (all_missing
        (verdict_for (theory_of s.algebra.now) (windows_in s.windows.now) (stored s.pieces.now) (shape_of s.tree.now) q) those)

    abbrev pub is_held_among : Bool
    is_held_among = is_some (first (known_to_hold
        (verdict_for (theory_of s.algebra.now) (windows_in s.windows.now) (stored s.pieces.now) (shape_of s.tree.now) q) those))

  -- the parts that are listed, or else those of the tree; a search walks along those that are listed, or else along others
  abbrev pub parts_along : List PlacedPlan → List PlacedPlan
  parts_along others = listed_or s.composites others

  abbrev pub parts_in : List PlacedPlan
  parts_in = parts_along (placed_plans (theory_of s.algebra.now) (shape_of s.tree.now))

  -- the trees of the parts for which a query may ask, and in its place each gap from which such a tree can come
  abbrev pub trees_for : Query Offer → List (OrGap Derivation)
  trees_for q = trees_sought (theory_of s.algebra.now) (windows_in s.windows.now) q parts_in

-- parts that are listed are those of the tree
abbrev pub HasItsParts : KnownTree → Type 0
HasItsParts s = parts_in s ≡ placed_plans (theory_of s.algebra.now) (shape_of s.tree.now)
