-- What the program finds in what is known of a board's tree.
use Rattle.std.proofs.Common.{ℕ, ◌≡◌, ◌⊎◌, ◌<◌, ◌&&◌, nat_lt, length, if◌then◌else◌, List, [], ◌∷◌, ◌++◌, map, refl, ap, subst, sym, ◌∙◌, inl, inr, Option, Some, option_map, Bool, true, false, cond, not, filter, ◌==◌, ◌||◌, None}
use Rattle.std.proofs.lemmas.Bool.{and_parts, eqb-true, lt-ltb}
use Rattle.std.proofs.lemmas.List.{map-append}
use Rattle.spec_core.specs.declared.equation.DataSpec.{DataSpec}
use Rattle.spec_core.specs.declared.window.Window.{Window}
use Rattle.spec_core.specs.Lists.{Each, IsOneOf}
use Rattle.spec_core.specs.Theories.{theory_of}
use Rattle.spec_core.proofs.Members.{each_from, one_parts}
use Rattle.rule_model.specs.declared.rules.Rules.{Rules}
use Rattle.rule_model.specs.Derivations.{Derivation, derivation_of}
use Rattle.rule_model.specs.States.{PendingOffer}
use Rattle.candidate_laws.specs.Asked.{TreeQuery}
use Rattle.decision_trees.specs.Lazy.{first}
use Rattle.decision_trees.specs.Rules.{Waiting}
use Rattle.decision_order.specs.declared.listing.OffersByNumber.{OffersByNumber}
use Rattle.decision_order.specs.declared.settle.Settled.{Settled}
use Rattle.decision_order.specs.Jobs.{first_not_out, not_out, taken_on}
use Rattle.decision_order.specs.Needed.{next_needed}
use Rattle.decision_order.specs.Numbered.{entry_with, waiting_with}
use Rattle.decision_order.specs.Rules.{next_decided}
use Rattle.decision_order.specs.Searches.{settled_of, waiting_of}
use Rattle.log_states.specs.Views.{pending_of}
use Rattle.node_trees.specs.Origins.{source_of}
use Rattle.node_trees.specs.Shapes.{Held, IsNodeOf, Lives, Shape, shape_of}
use Rattle.symbolic_rules.specs.Tables.{windows_in}
use Rattle.candidate_verdicts.specs.declared.pieces.Pieces.{Pieces}
use Rattle.candidate_verdicts.specs.Same.{same_rules}
use Rattle.candidate_verdicts.specs.Stored.{stored}
use Rattle.candidate_verdicts.proofs.Sameness.{same_rules_are_one}
use Rattle.candidates.specs.declared.known_tree.KnownTree.{KnownTree}
use Rattle.candidates.specs.declared.job.NodeJob as declared
use Rattle.candidates.specs.Jobs.{NodeJob, to_expand, to_judge, same_job, is_out, with_job}
use Rattle.candidates.specs.KnownTrees.{offer_in, first_in, all_in, is_out_in, with_job_in, jobs_to_first, jobs_to_all, is_held_in}
use Rattle.candidates.specs.Listed.{first_tree}
use Rattle.candidates.specs.Models.{job_of}
use Rattle.board_laws.specs.Needed.{entry_decided, generation_of, jobs_needed}
use Rattle.board_laws.specs.JobValues.{JobChoosesValues}
use Rattle.board_laws.specs.Reasons.{LooksForTrees}
use Rattle.board_offers.specs.Offers.{offer_at}
use Rattle.board_offers.specs.Waiting.{waiting_in}
use Rattle.board_core.specs.declared.job.Job.{Job}
use Rattle.board_core.specs.Entries.{entry_of}
use Rattle.board_core.specs.Views.{BoardView, program, state, tree, decided_at, first_at, needed_at}
use Rattle.board_core.specs.Working.{IsAsked, IsHandedOut, first_free}

-- the jobs that are kept of a list are kept of what they stand for
pub kept_over : (keep : NodeJob → Bool) (jobs : List declared.NodeJob) →
    map job_of (filter (λ job. keep (job_of job)) jobs) ≡ filter keep (map job_of jobs)
kept_over keep [] = refl
kept_over keep (job ∷ jobs) =
    by_test (keep (job_of job)) (filter (λ other. keep (job_of other)) jobs) (filter keep (map job_of jobs)) (kept_over keep jobs)
  where
    by_test : (b : Bool) (kept : List declared.NodeJob) (others : List NodeJob) → map job_of kept ≡ others →
        map job_of (cond b (job ∷ kept) kept) ≡ cond b (job_of job ∷ others) others
    by_test true kept others e = ap (λ (l : List NodeJob). job_of job ∷ l) e
    by_test false kept others e = e

-- the first of some jobs that isn't out is one of them
pub free_is_needed : (out : NodeJob → Bool) (jobs : List NodeJob) (job : NodeJob) → first_not_out out jobs ≡ Some job → IsOneOf job jobs
free_is_needed out [] job e = absurd (let never : ⊥ = cc in never)
free_is_needed out (other ∷ jobs) job e = by_test (not (out other)) e (free_is_needed out jobs job)
  where
    by_test : (b : Bool) → first (cond b (other ∷ not_out out jobs) (not_out out jobs)) ≡ Some job →
        (first_not_out out jobs ≡ Some job → IsOneOf job jobs) → IsOneOf job (other ∷ jobs)
    by_test true f rest = let same : other ≡ job = cc in inl (sym same)
    by_test false f rest = inr (rest f)

-- what is the same job is one
pub same_jobs_are_one : (a b : NodeJob) → same_job a b ≡ true → a ≡ b
same_jobs_are_one (to_expand g) (to_expand h) e = ap to_expand (eqb-true g h e)
same_jobs_are_one (to_judge p) (to_judge q) e =
    let both = and_parts (p.generation == q.generation) (same_rules p.rules q.rules) e in
    let number = eqb-true p.generation q.generation both.0 in
    let rules = (same_rules_are_one p.rules q.rules).0 both.1 in
    λ i. to_judge (record { generation = number i; rules = rules i })
same_jobs_are_one (to_expand g) (to_judge q) e = absurd (let never : ⊥ = cc in never)
same_jobs_are_one (to_judge p) (to_expand h) e = absurd (let never : ⊥ = cc in never)

-- where the first job that isn't one of these is another one, the one that is looked for is needed
pub met_is_needed : (out : NodeJob → Bool) (jobs : List NodeJob) (job task : NodeJob) → first_not_out out jobs ≡ Some job →
    same_job job task ≡ true → IsOneOf task jobs
met_is_needed out jobs job task first same =
    subst (λ j. IsOneOf j jobs) (same_jobs_are_one job task same) (free_is_needed out jobs job first)

-- where all of these are out, and one isn't, it is none of these
pub none_free : (out : NodeJob → Bool) (jobs : List NodeJob) (task : NodeJob) → first_not_out out jobs ≡ None → out task ≡ false →
    IsOneOf task jobs → ⊥
none_free out [] task e free among = among
none_free out (other ∷ jobs) task e free among = by_test (out other) refl e (none_free out jobs task) among
  where
    by_test : (b : Bool) → out other ≡ b → first (cond (not b) (other ∷ not_out out jobs) (not_out out jobs)) ≡ None →
        (first_not_out out jobs ≡ None → out task ≡ false → IsOneOf task jobs → ⊥) → IsOneOf task (other ∷ jobs) → ⊥
    by_test false g f others h = let never : ⊥ = cc in never
    by_test true g f others (inl same) =
        let wrong : true ≡ false = sym g ∙ ap out (sym same) ∙ free in let never : ⊥ = cc in never
    by_test true g f others (inr rest) = others f free rest

-- one more job that is another one
pub passed_by : (out : List NodeJob) (job task : NodeJob) → is_out out task ≡ false → same_job job task ≡ false →
    is_out (out ++ job ∷ []) task ≡ false
passed_by [] job task e f = ap (λ b. b || false) f
passed_by (other ∷ out) job task e f = by_test (same_job other task) e (λ g. passed_by out job task g f)
  where
    by_test : (b : Bool) → b || is_out out task ≡ false → (is_out out task ≡ false → is_out (out ++ job ∷ []) task ≡ false) →
        b || is_out (out ++ job ∷ []) task ≡ false
    by_test true g others = g
    by_test false g others = others g

-- the first of the jobs that are needed is handed out
pub handed_out : (old new : BoardView) (task : declared.NodeJob) (job : Job) → IsAsked old job → job_of job.task ≡ job_of task →
    first_free old ≡ Some (job_of task) → new.out ≡ old.out ++ task ∷ [] → IsHandedOut old new job
handed_out old new task job asked same first out = record {
  first = first ∙ ap (λ j. Some j) (sym same);
  out = ap (map job_of) out ∙ map-append job_of old.out (task ∷ []) ∙ ap (λ j. map job_of old.out ++ j ∷ []) (sym same);
  lives = asked.lives;
  origin = asked.origin;
  looks = asked.looks;
  values = asked.values;
}

-- the first job that is taken on stays the first
first_stays : (limit : ℕ) (out : List NodeJob) (job : NodeJob) (taken jobs : List NodeJob) →
    first (taken_on (with_job limit out) (job ∷ taken) jobs) ≡ Some job
first_stays limit out job taken [] = refl
first_stays limit out job taken (other ∷ jobs) =
    by_test (nat_lt (length (job ∷ taken)) limit && (not (is_out out other) && not (is_out (job ∷ taken) other)))
    (first_stays limit out job (taken ++ other ∷ []) jobs) (first_stays limit out job taken jobs)
  where
    by_test : (b : Bool) → first (taken_on (with_job limit out) (job ∷ taken ++ other ∷ []) jobs) ≡ Some job →
        first (taken_on (with_job limit out) (job ∷ taken) jobs) ≡ Some job →
        first (taken_on (with_job limit out) (if b then (job ∷ taken) ++ other ∷ [] else job ∷ taken) jobs) ≡ Some job
    by_test true e f = e
    by_test false e f = f

-- where there is room, the first job that is taken on is the first that isn't out
pub first_taken : (limit : ℕ) (out jobs : List NodeJob) → 0 < limit →
    first (taken_on (with_job limit out) [] jobs) ≡ first_not_out (is_out out) jobs
first_taken limit out [] room = refl
first_taken limit out (job ∷ jobs) room =
    by_room (nat_lt 0 limit) (lt-ltb 0 limit room) (is_out out job) (first_taken limit out jobs room) (first_stays limit out job [] jobs)
  where
    by_room : (r : Bool) → r ≡ true → (b : Bool) → first (taken_on (with_job limit out) [] jobs) ≡ first_not_out (is_out out) jobs →
        first (taken_on (with_job limit out) (job ∷ []) jobs) ≡ Some job →
        first (taken_on (with_job limit out) (if r && (not b && true) then job ∷ [] else []) jobs) ≡
        first (if not b then job ∷ not_out (is_out out) jobs else not_out (is_out out) jobs)
    by_room true room true e f = e
    by_room true room false e f = f
    by_room false room b e f = let never : ⊥ = cc in absurd never

-- what is known of the tree is what the board knows
pub record IsOf (v : BoardView) (k : KnownTree) : Type 0 where
  pub algebra : k.algebra.now ≡ v.session.checked.algebra
  pub windows : k.windows.now ≡ v.windows
  pub tree : shape_of k.tree.now ≡ tree v
  pub pieces : k.pieces.now ≡ v.pieces
  pub offers : map pending_of k.offers.now ≡ (state v).pending

module _ (v : BoardView) (k : KnownTree) (is : IsOf v k) where
  abbrev Firsts : Option (Option Derivation) → TreeQuery → DataSpec → List Window → Shape → Pieces → Type 0
  Firsts found q algebra rows t ps = found ≡ first_tree (theory_of algebra) (windows_in rows) (stored ps) t q

  -- a search in what is known of the tree is one in what the board knows
  pub first_known : (q : TreeQuery) → first_in k q ≡ first_at v q
  first_known q =
      let f = first_in k q in
      let a : Firsts f q k.algebra.now k.windows.now (shape_of k.tree.now) k.pieces.now = refl in
      let b = subst (λ z. Firsts f q z k.windows.now (shape_of k.tree.now) k.pieces.now) is.algebra a in
      let d = subst (λ z. Firsts f q v.session.checked.algebra z (shape_of k.tree.now) k.pieces.now) is.windows b in
      let e = subst (λ z. Firsts f q v.session.checked.algebra v.windows z k.pieces.now) is.tree d in
      subst (λ z. Firsts f q v.session.checked.algebra v.windows (tree v) z) is.pieces e

module _ (v : BoardView) (k : KnownTree) (is : IsOf v k) (o : OffersByNumber)
    (asked : waiting_with (offer_at (state v).pending) (waiting_of o) ≡ waiting_in (state v)) where
  abbrev Finds : Settled Rules → DataSpec → List Window → Shape → Pieces → List PendingOffer → Waiting PendingOffer → Type 0
  Finds s algebra rows t ps pending w =
      option_map (entry_with (offer_at pending)) (settled_of derivation_of s) ≡
      entry_decided (theory_of algebra) (windows_in rows) t (stored ps) w

  pub found_next : (s : Settled Rules) →
      option_map (entry_with (offer_in k)) (settled_of derivation_of s) ≡
      next_decided (first_in k) (all_in k) (waiting_with (offer_in k) (waiting_of o)) →
      entry_of v s ≡ decided_at v
  found_next s h =
      let p : List PendingOffer = map pending_of k.offers.now in
      let a : Finds s k.algebra.now k.windows.now (shape_of k.tree.now) k.pieces.now p (waiting_with (offer_at p) (waiting_of o)) = h in
      let b = subst (λ z. Finds s z k.windows.now (shape_of k.tree.now) k.pieces.now p (waiting_with (offer_at p) (waiting_of o))) is.algebra a in
      let d =
      subst (λ z. Finds s v.session.checked.algebra z (shape_of k.tree.now) k.pieces.now p (waiting_with (offer_at p) (waiting_of o))) is.windows b
      in
      let e = subst (λ z. Finds s v.session.checked.algebra v.windows z k.pieces.now p (waiting_with (offer_at p) (waiting_of o))) is.tree d in
      let f = subst (λ z. Finds s v.session.checked.algebra v.windows (tree v) z p (waiting_with (offer_at p) (waiting_of o))) is.pieces e in
      let g = subst (λ z. Finds s v.session.checked.algebra v.windows (tree v) v.pieces z (waiting_with (offer_at z) (waiting_of o))) is.offers f in
      subst (Finds s v.session.checked.algebra v.windows (tree v) v.pieces (state v).pending) asked g

  abbrev Needed : List NodeJob → DataSpec → List Window → Shape → Pieces → Waiting PendingOffer → Type 0
  Needed jobs algebra rows t ps w = jobs ≡ jobs_needed (theory_of algebra) (windows_in rows) t (stored ps) w

  abbrev needed_known : List NodeJob
  needed_known = next_needed (jobs_to_first k) (jobs_to_all k) (is_held_in k) (waiting_with (offer_in k) (waiting_of o))

  -- what is needed as far as is known is what the board needs
  needed_is : needed_known ≡ needed_at v
  needed_is =
      let jobs = needed_known in
      let p : List PendingOffer = map pending_of k.offers.now in
      let w : List PendingOffer → Waiting PendingOffer = λ z. waiting_with (offer_at z) (waiting_of o) in
      let a : Needed jobs k.algebra.now k.windows.now (shape_of k.tree.now) k.pieces.now (w p) = refl in
      let b = subst (λ z. Needed jobs z k.windows.now (shape_of k.tree.now) k.pieces.now (w p)) is.algebra a in
      let d = subst (λ z. Needed jobs v.session.checked.algebra z (shape_of k.tree.now) k.pieces.now (w p)) is.windows b in
      let e = subst (λ z. Needed jobs v.session.checked.algebra v.windows z k.pieces.now (w p)) is.tree d in
      let f = subst (λ z. Needed jobs v.session.checked.algebra v.windows (tree v) z (w p)) is.pieces e in
      let g = subst (λ z. Needed jobs v.session.checked.algebra v.windows (tree v) v.pieces (w z)) is.offers f in
      subst (Needed jobs v.session.checked.algebra v.windows (tree v) v.pieces) asked g

  pub found_job : (those : List declared.NodeJob) → k.out.now ≡ those → (job : Option NodeJob) →
      job ≡ first_not_out (is_out_in k) needed_known → job ≡ first_not_out (is_out (map job_of those)) (needed_at v)
  found_job those out job h =
      h ∙ ap (λ l. first_not_out (is_out (map job_of l)) needed_known) out ∙ ap (first_not_out (is_out (map job_of those))) needed_is

  pub found_jobs : (limit : ℕ) (those : List declared.NodeJob) → k.out.now ≡ those → (jobs : List NodeJob) →
      jobs ≡ taken_on (with_job_in k limit) [] needed_known → jobs ≡ taken_on (with_job limit (map job_of those)) [] (needed_at v)
  found_jobs limit those out jobs h =
      h
      ∙ ap (λ l. taken_on (with_job limit (map job_of l)) [] needed_known) out
      ∙ ap (taken_on (with_job limit (map job_of those)) []) needed_is

-- what is taken on of some jobs is among them
pub taken_are_asked : (limit : ℕ) (out jobs : List NodeJob) (job : NodeJob) → IsOneOf job (taken_on (with_job limit out) [] jobs) → IsOneOf job jobs
taken_are_asked limit out jobs job h = by_taken (from [] jobs h)
  where
    by_taken : IsOneOf job [] ⊎ IsOneOf job jobs → IsOneOf job jobs
    by_taken (inl never) = absurd never
    by_taken (inr among) = among

    from : (taken xs : List NodeJob) → IsOneOf job (taken_on (with_job limit out) taken xs) → IsOneOf job taken ⊎ IsOneOf job xs
    from taken [] h = inl h
    from taken (x ∷ xs) h =
        by_test (nat_lt (length taken) limit && (not (is_out out x) && not (is_out taken x))) (from (with_job limit out taken x) xs h)
      where
        by_last : IsOneOf job taken ⊎ IsOneOf job (x ∷ []) → IsOneOf job taken ⊎ IsOneOf job (x ∷ xs)
        by_last (inl before) = inl before
        by_last (inr (inl here)) = inr (inl here)
        by_last (inr (inr never)) = absurd never

        by_test : (b : Bool) → IsOneOf job (if b then taken ++ x ∷ [] else taken) ⊎ IsOneOf job xs → IsOneOf job taken ⊎ IsOneOf job (x ∷ xs)
        by_test b (inr later) = inr (inr later)
        by_test true (inl here) = by_last (one_parts job taken (x ∷ []) here)
        by_test false (inl before) = inl before

-- the others of the jobs that are taken on are among them
pub others_are_asked : (limit : ℕ) (out jobs : List NodeJob) (first : NodeJob) (others : List NodeJob) →
    first ∷ others ≡ taken_on (with_job limit out) [] jobs → Each (λ job. IsOneOf job jobs) others
others_are_asked limit out jobs first others e = all.1
  where
    all : Each (λ job. IsOneOf job jobs) (first ∷ others)
    all =
        subst (Each (λ job. IsOneOf job jobs)) (sym e)
        (each_from (λ job. IsOneOf job jobs) (taken_on (with_job limit out) [] jobs) (λ job h. taken_are_asked limit out jobs job h))
