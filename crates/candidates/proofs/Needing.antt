-- What searches still ask, as jobs at nodes.
use Rattle.std.proofs.Common.{◌≡◌, ◌++◌, ◌∙◌, List, [], ◌∷◌, map, flat_map, refl, sym, ap, Bool, true, false}
use Rattle.std.specs.Prelude.{is_some}
use Rattle.std.proofs.lemmas.List.Concat.{flat_map-append}
use Rattle.spec_core.specs.Theories.{Theory}
use Rattle.rule_model.specs.States.{PendingOffer}
use Rattle.symbolic_rules.specs.Windows.{Windows}
use Rattle.decision_trees.specs.Decisions.{Question}
use Rattle.decision_trees.specs.Known.{Knowledge, found}
use Rattle.decision_trees.specs.Lazy.{Lazy, first, first_holding, all_holding}
use Rattle.decision_trees.specs.Gaps.{missing_to_first, all_missing, known_to_hold}
use Rattle.decision_trees.specs.Rules.{Query, meeting, any, unseen, any_beyond, beyond_or_unseen, Waiting, when, decision}
use Rattle.decision_trees.proofs.Gaps.{gaps_are_so}
use Rattle.decision_order.specs.Laws.{is_held}
use Rattle.decision_order.specs.Needed.{first_needed, unseen_needed, waiting_needed, asked_needed, marked_needed, unmet_needed, next_needed}
use Rattle.decision_order.proofs.Needing.{needed_by_rules}
use Rattle.symbolic_composites.specs.Composites.{Composite}
use Rattle.candidate_laws.specs.Asked.{TreeQuery}
use Rattle.candidate_laws.specs.Waiting.{Candidate, waiting_trees}
use Rattle.node_trees.specs.Generations.{AreApart}
use Rattle.node_trees.specs.Shapes.{Shape}
use Rattle.candidate_verdicts.specs.Known.{Pieces}
use Rattle.candidates.specs.Listed.{knowledge, known_trees, asked_for_first, asked_for_all, is_known_to_hold}
use Rattle.candidates.specs.Jobs.{NodeJob, jobs_of, all_jobs, of_tree}
use Rattle.candidates.specs.Laws.{JobsAreNeeded}
use Rattle.candidates.proofs.Listing.{are_those}
use Rattle.candidates.proofs.Trees.{candidates_are, missing_firsts, missing_alls, held}

-- What is asked by the rules, each question in parts.
module _ {P Q R : Type 0} (f : Q → List R) (missing every : Query P → List Q) (is_there : Query P → Bool) (w : Waiting P) where
  abbrev missing_parts : Query P → List R
  missing_parts q = flat_map f (missing q)

  abbrev every_part : Query P → List R
  every_part q = flat_map f (every q)

  behind : (xs ys : List Q) (b : Bool) (zs : List R) → zs ≡ flat_map f ys →
      flat_map f xs ++ when b [] zs ≡ flat_map f (xs ++ when b [] ys)
  behind xs ys true zs e = sym (flat_map-append f xs [])
  behind xs ys false zs e = ap (λ z. flat_map f xs ++ z) e ∙ sym (flat_map-append f xs ys)

  firsts : (query : P → Query P) (ps : List P) (rest : List R) (those : List Q) → rest ≡ flat_map f those →
      first_needed missing_parts every_part is_there w query ps rest ≡ flat_map f (first_needed missing every is_there w query ps those)
  firsts query [] rest those e = e
  firsts query (p ∷ ps) rest those e =
      behind (missing (query p)) (first_needed missing every is_there w query ps those) (is_there (query p))
      (first_needed missing_parts every_part is_there w query ps rest) (firsts query ps rest those e)

  unseens : unseen_needed missing_parts every_part is_there w ≡ flat_map f (unseen_needed missing every is_there w)
  unseens =
      behind (every unseen) (first_needed missing every is_there w beyond_or_unseen w.by_client []) (is_there unseen)
      (first_needed missing_parts every_part is_there w beyond_or_unseen w.by_client []) (firsts beyond_or_unseen w.by_client [] [] refl)

  chosen : (b : Bool) (xs ys : List Q) (zs us : List R) → zs ≡ flat_map f xs → us ≡ flat_map f ys → when b zs us ≡ flat_map f (when b xs ys)
  chosen true xs ys zs us e h = e
  chosen false xs ys zs us e h = h

  waits : waiting_needed missing_parts every_part is_there w ≡ flat_map f (waiting_needed missing every is_there w)
  waits = chosen w.all_wait (unseen_needed missing every is_there w) [] (unseen_needed missing_parts every_part is_there w) [] unseens refl

  asks : (ps : List P) → asked_needed missing_parts every_part is_there w ps ≡ flat_map f (asked_needed missing every is_there w ps)
  asks [] = waits
  asks (p ∷ ps) = refl

  marks : marked_needed missing_parts every_part is_there w ≡ flat_map f (marked_needed missing every is_there w)
  marks =
      ap (λ z. flat_map f (missing any_beyond) ++ z)
      (chosen (is_there any_beyond) (asked_needed missing every is_there w w.asks) [] (asked_needed missing_parts every_part is_there w w.asks) []
      (asks w.asks) refl)
      ∙ sym (flat_map-append f (missing any_beyond) (when (is_there any_beyond) (asked_needed missing every is_there w w.asks) []))

  unmets : unmet_needed missing_parts every_part is_there w ≡ flat_map f (unmet_needed missing every is_there w)
  unmets =
      ap (λ z. flat_map f (missing any) ++ z)
      (chosen (is_there any) (asked_needed missing every is_there w w.asks) (marked_needed missing every is_there w)
      (asked_needed missing_parts every_part is_there w w.asks) (marked_needed missing_parts every_part is_there w) (asks w.asks) marks)
      ∙ sym (flat_map-append f (missing any)
      (when (is_there any) (asked_needed missing every is_there w w.asks) (marked_needed missing every is_there w)))

  pub in_parts : next_needed missing_parts every_part is_there w ≡ flat_map f (next_needed missing every is_there w)
  in_parts = firsts meeting w.pending (unmet_needed missing_parts every_part is_there w) (unmet_needed missing every is_there w) unmets

module _ (theory : Theory) (w : Windows) (t : Shape) (pieces : Pieces) (apart : AreApart t) where
  abbrev known : Knowledge Composite Candidate
  known = knowledge theory w pieces t

  abbrev lazy : TreeQuery → Lazy Composite Candidate
  lazy = waiting_trees theory w t

  for_first : (q : TreeQuery) → map of_tree (found known (first_holding (lazy q))) ≡ asked_for_first theory w pieces t q
  for_first q =
      ap (map of_tree) (
      (gaps_are_so Composite Candidate).missing_to_firsts known (lazy q)
      ∙ ap (missing_to_first known.verdict) (are_those theory w t q apart ∙ sym (candidates_are q theory w t)))
      ∙ missing_firsts q known.verdict (known_trees theory w t q)

  for_all : (q : TreeQuery) → map of_tree (found known (all_holding (lazy q))) ≡ asked_for_all theory w pieces t q
  for_all q =
      ap (map of_tree) (
      (gaps_are_so Composite Candidate).all_missings known (lazy q)
      ∙ ap (all_missing known.verdict) (are_those theory w t q apart ∙ sym (candidates_are q theory w t)))
      ∙ missing_alls q known.verdict (known_trees theory w t q)

  held_is : (q : TreeQuery) → is_held known (lazy q) ≡ is_known_to_hold theory w pieces t q
  held_is q =
      ap (λ l. is_some (first (known_to_hold known.verdict l))) (are_those theory w t q apart ∙ sym (candidates_are q theory w t))
      ∙ held q known.verdict (known_trees theory w t q)

  -- the jobs of questions about candidates are those about their trees
  one_by_one : (qs : List (Question Candidate)) → flat_map (λ x. jobs_of pieces t (of_tree x)) qs ≡ all_jobs pieces t (map of_tree qs)
  one_by_one [] = refl
  one_by_one (x ∷ qs) = ap (λ z. jobs_of pieces t (of_tree x) ++ z) (one_by_one qs)

  jobs_first : ◌≡◌ {A = TreeQuery → List NodeJob} (λ q. all_jobs pieces t (asked_for_first theory w pieces t q))
      (λ q. flat_map (λ x. jobs_of pieces t (of_tree x)) (found known (first_holding (lazy q))))
  jobs_first i q = (ap (all_jobs pieces t) (sym (for_first q)) ∙ sym (one_by_one (found known (first_holding (lazy q))))) i

  jobs_all : ◌≡◌ {A = TreeQuery → List NodeJob} (λ q. all_jobs pieces t (asked_for_all theory w pieces t q))
      (λ q. flat_map (λ x. jobs_of pieces t (of_tree x)) (found known (all_holding (lazy q))))
  jobs_all i q = (ap (all_jobs pieces t) (sym (for_all q)) ∙ sym (one_by_one (found known (all_holding (lazy q))))) i

  held_all : is_known_to_hold theory w pieces t ≡ (λ q. is_held known (lazy q))
  held_all i q = (sym (held_is q)) i

  abbrev jobs : Question Candidate → List NodeJob
  jobs x = jobs_of pieces t (of_tree x)

  pub are_needed : (state : Waiting PendingOffer) →
      next_needed (λ q. all_jobs pieces t (asked_for_first theory w pieces t q)) (λ q. all_jobs pieces t (asked_for_all theory w pieces t q))
      (is_known_to_hold theory w pieces t) state ≡ all_jobs pieces t (map of_tree (found known (decision lazy state)))
  are_needed state =
      let every : TreeQuery → List NodeJob = λ q. all_jobs pieces t (asked_for_all theory w pieces t q) in
      let firsts : TreeQuery → List NodeJob = λ q. flat_map jobs (found known (first_holding (lazy q))) in
      let alls : TreeQuery → List NodeJob = λ q. flat_map jobs (found known (all_holding (lazy q))) in
      ap (λ m. next_needed m every (is_known_to_hold theory w pieces t) state) jobs_first
      ∙ ap (λ m. next_needed firsts m (is_known_to_hold theory w pieces t) state) jobs_all
      ∙ ap (λ h. next_needed firsts alls h state) held_all
      ∙ in_parts jobs (λ q. found known (first_holding (lazy q))) (λ q. found known (all_holding (lazy q))) (λ q. is_held known (lazy q)) state
      ∙ ap (flat_map jobs) (sym (needed_by_rules Composite PendingOffer Candidate lazy state known))
      ∙ one_by_one (found known (decision lazy state))

pub jobs_are_needed : JobsAreNeeded
jobs_are_needed theory w t pieces apart state = are_needed theory w t pieces apart state
