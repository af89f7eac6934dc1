-- What is taken on with more jobs.
use Rattle.std.proofs.Common.{ℕ, ◌≡◌, ◌++◌, ◌&&◌, ◌||◌, ◌∙◌, not, nat_lt, List, [], ◌∷◌, length, map, refl, ap, Bool, true, false}
use Rattle.std.proofs.Common.{Option, Some, None, option_map, option_to_list, take, if◌then◌else◌}
use Rattle.std.proofs.lemmas.Bool.{eq-eqb}
use Rattle.spec_core.specs.Lists.{Each}
use Rattle.decision_trees.specs.Lazy.{first}
use Rattle.decision_order.specs.Jobs.{not_out, first_not_out, taken_on}
use Rattle.node_trees.specs.declared.origin.Gen.{Gen}
use Rattle.candidates.specs.declared.job.NodeJob as declared
use Rattle.candidates.specs.Models.{job_of}
use Rattle.candidates.specs.Jobs.{NodeJob, to_expand, same_job, is_out, with_job, expansions_of}

pub or_more : (a b c : Bool) → a || (b || c) ≡ (a || b) || c
or_more true b c = refl
or_more false b c = refl

and_none : (b : Bool) → (b && false) ≡ false
and_none true = refl
and_none false = refl

-- the last of some jobs is among them
last_is_out : (taken : List NodeJob) (g : ℕ) → is_out (taken ++ to_expand g ∷ []) (to_expand g) ≡ true
last_is_out [] g = ap (λ b. b || false) (eq-eqb g g refl)
last_is_out (job ∷ taken) g = by_test (same_job job (to_expand g)) (is_out (taken ++ to_expand g ∷ []) (to_expand g)) (last_is_out taken g)
  where
    by_test : (b c : Bool) → c ≡ true → b || c ≡ true
    by_test true c e = refl
    by_test false c e = e

module _ (limit : ℕ) (out : List NodeJob) where
  abbrev step : List NodeJob → NodeJob → List NodeJob
  step = with_job limit out

  -- where there is no room, nothing more is taken on
  pub no_room : (taken jobs : List NodeJob) → nat_lt (length taken) limit ≡ false → taken_on step taken jobs ≡ taken
  no_room taken [] e = refl
  no_room taken (job ∷ jobs) e =
      ap (λ b. taken_on step (if b && (not (is_out out job) && not (is_out taken job)) then taken ++ job ∷ [] else taken) jobs) e
      ∙ no_room taken jobs e

  -- whether a job is taken on
  abbrev adds : List NodeJob → NodeJob → Bool
  adds taken job = nat_lt (length taken) limit && (not (is_out out job) && not (is_out taken job))

  with_more_out : (taken : List NodeJob) (other job : NodeJob) → is_out (taken ++ other ∷ []) job ≡ is_out taken job || (same_job other job || false)
  with_more_out [] other job = refl
  with_more_out (first ∷ taken) other job =
      ap (λ b. same_job first job || b) (with_more_out taken other job)
      ∙ or_more (same_job first job) (is_out taken job) (same_job other job || false)

  -- what isn't taken on now isn't later
  stays_out : (taken : List NodeJob) (other job : NodeJob) → adds taken job ≡ false → adds (step taken other) job ≡ false
  stays_out taken other job e = by_test (adds taken other) refl
    where
      none : (r s o t u : Bool) → r ≡ true → (r && (not o && not t)) ≡ false → (s && (not o && not (t || u))) ≡ false
      none r s true t u d i = and_none s
      none r s false true u d i = and_none s
      none true s false false u d i = let no : true ≡ false = i in absurd cc
      none false s false false u d i = let no : false ≡ true = d in absurd cc

      first_of_and : (b c : Bool) → (b && c) ≡ true → b ≡ true
      first_of_and true c h = refl
      first_of_and false c h = h

      by_test : (b : Bool) → adds taken other ≡ b → adds (if b then taken ++ other ∷ [] else taken) job ≡ false
      by_test true h =
          ap (λ b. nat_lt (length (taken ++ other ∷ [])) limit && (not (is_out out job) && not b)) (with_more_out taken other job)
          ∙ none (nat_lt (length taken) limit) (nat_lt (length (taken ++ other ∷ [])) limit) (is_out out job) (is_out taken job)
          (same_job other job || false)
          (first_of_and (nat_lt (length taken) limit) (not (is_out out other) && not (is_out taken other)) h) e
      by_test false h = e

  stays_out_long : (taken jobs : List NodeJob) (job : NodeJob) → adds taken job ≡ false → adds (taken_on step taken jobs) job ≡ false
  stays_out_long taken [] job e = e
  stays_out_long taken (other ∷ jobs) job e = stays_out_long (step taken other) jobs job (stays_out taken other job e)

  -- an expansion is taken on once
  once : (taken : List NodeJob) (g : ℕ) → adds (step taken (to_expand g)) (to_expand g) ≡ false
  once taken g = by_test (adds taken (to_expand g)) refl
    where
      none : (r o : Bool) → (r && (not o && false)) ≡ false
      none r true = and_none r
      none r false = and_none r

      by_test : (b : Bool) → adds taken (to_expand g) ≡ b → adds (if b then taken ++ to_expand g ∷ [] else taken) (to_expand g) ≡ false
      by_test true e =
          ap (λ b. nat_lt (length (taken ++ to_expand g ∷ [])) limit && (not (is_out out (to_expand g)) && not b)) (last_is_out taken g)
          ∙ none (nat_lt (length (taken ++ to_expand g ∷ [])) limit) (is_out out (to_expand g))
      by_test false e = e

  none_added : (taken : List NodeJob) (g : ℕ) (jobs : List NodeJob) → adds taken (to_expand g) ≡ false →
      taken_on step taken (to_expand g ∷ jobs) ≡ taken_on step taken jobs
  none_added taken g jobs e = ap (λ b. taken_on step (if b then taken ++ to_expand g ∷ [] else taken) jobs) e

  -- expansions that were taken on, or not, aren't taken on once more
  pub taken_again : (taken : List NodeJob) (gens : List Gen) →
      taken_on step (taken_on step taken (expansions_of gens)) (expansions_of gens) ≡ taken_on step taken (expansions_of gens)
  taken_again taken gens = all gens (taken_on step taken (expansions_of gens)) (settled taken gens)
    where
      Settled : List NodeJob → List Gen → Type 0
      Settled those ns = Each (λ (n : Gen). adds those (to_expand n.0) ≡ false) ns

      settled : (those : List NodeJob) (ns : List Gen) → Settled (taken_on step those (expansions_of ns)) ns
      settled those [] = tt
      settled those (n ∷ ns) = (
        stays_out_long (step those (to_expand n.0)) (expansions_of ns) (to_expand n.0) (once those n.0),
        settled (step those (to_expand n.0)) ns,
      )

      all : (ns : List Gen) (those : List NodeJob) → Settled those ns → taken_on step those (expansions_of ns) ≡ those
      all [] those h = refl
      all (n ∷ ns) those h = none_added those n.0 (expansions_of ns) h.0 ∙ all ns those h.1

-- of one job that is taken on at most, it is the first that isn't out
pub one_taken : (out jobs : List NodeJob) → first (taken_on (with_job 1 out) [] jobs) ≡ first_not_out (is_out out) jobs
one_taken out [] = refl
one_taken out (job ∷ jobs) = by_test (is_out out job) (one_taken out jobs)
  where
    by_test : (b : Bool) → first (taken_on (with_job 1 out) [] jobs) ≡ first_not_out (is_out out) jobs →
        first (taken_on (with_job 1 out) (if not b && true then job ∷ [] else []) jobs) ≡
        first (if not b then job ∷ not_out (is_out out) jobs else not_out (is_out out) jobs)
    by_test true e = e
    by_test false e = ap first (no_room 1 out (job ∷ []) jobs refl)

-- what a list was cut to that has one job at most
pub one_left : (xs : List declared.NodeJob) (r : Option declared.NodeJob) → take 1 xs ≡ option_to_list r → option_map job_of r ≡ first (map job_of xs)
one_left [] None e = refl
one_left [] (Some z) e = let never : ⊥ = cc in absurd never
one_left (x ∷ xs) None e = let never : ⊥ = cc in absurd never
one_left (x ∷ xs) (Some z) e = let same : z ≡ x = cc in ap (λ (y : declared.NodeJob). Some (job_of y)) same
