-- What an operator, and as many more over it that do the same, make of a plan or a gap.
use Rattle.std.proofs.Common.{ℕ, zero, suc, ◌≡◌, ◌+◌, ◌++◌, ◌∙◌, List, [], ◌∷◌, map, flat_map, refl, sym, ap, Bool, true, false, arith}
use Rattle.std.proofs.Common.{if◌then◌else◌}
use Rattle.std.specs.Fn.{iterate}
use Rattle.std.proofs.lemmas.List.{append-nil}
use Rattle.spec_core.specs.Code.{Synchronised}
use Rattle.symbolic_composites.specs.Kinds.{is_alone, is_end}
use Rattle.symbolic_plans.specs.declared.scheme.Row.{Row}
use Rattle.symbolic_plans.specs.declared.scheme.Row.TheVariants.{Disstep, Disend}
use Rattle.symbolic_plans.specs.Plans.{Plan, below}
use Rattle.symbolic_plans.specs.OpenPlans.{OpenPlan, under_row, plan_by_disabling}
use Rattle.symbolic_plans.proofs.Runs.{longer, one_more}
use Rattle.candidate_laws.specs.Sought.{Step, by_itself}
use Rattle.candidate_composites.specs.Known.{PlacedPlan, made, awaited, turned_there, under_run}
use Rattle.candidate_composites.specs.Contexts.{Turn, below_row, disabled, alone_by, turned_by, through, all_through, repeated}
use Rattle.candidate_composites.specs.Contexts.{row_of_disabling, run_alone, down_by}
use Rattle.candidate_composites.proofs.Contexts.{rises, rises_whole}

-- a run over a run of the same rule
pub joined : (row : Row) (n m k : ℕ) (p : Plan) → k ≡ n + m + 1 →
    below row (iterate (below row) k p) ≡ below row (iterate (below row) m (below row (iterate (below row) n p)))
joined row n zero k p e = longer row n k p (omega (arith, e))
joined row n (suc m) k p e =
    joined row (n + 1) m k p (omega (arith, e)) ∙ ap (λ z. below row (iterate (below row) m z)) (longer row n (n + 1) p refl)

pub runs_joined : (row : Row) (n m k : ℕ) (p : OpenPlan) → k ≡ n + m + 1 → under_run row k p ≡ under_run row m (under_run row n p)
runs_joined row n m k p e =
    let with : _ → OpenPlan = λ plan. record { kind = p.kind; fields = p.fields; plan = plan } in
    ap with (joined row n m k p.plan e)

-- the run first, and those above it then
all_repeated : (t : Turn) (n : ℕ) (ts : List Turn) (ps : List PlacedPlan) →
    all_through (repeated t n ts) ps ≡ all_through ts (all_through (repeated t n []) ps)
all_repeated t zero ts ps = rises t ts ps ∙ ap (all_through ts) (sym (rises t [] ps ∙ rises_whole (flat_map (turned_by t) ps)))
all_repeated t (suc n) ts ps =
    rises t (repeated t n ts) ps
    ∙ all_repeated t n ts (flat_map (turned_by t) ps)
    ∙ ap (all_through ts) (sym (rises t (repeated t n []) ps))

pub run_first : (t : Turn) (n : ℕ) (ts : List Turn) (x : PlacedPlan) (ys : List PlacedPlan) → through (repeated t n []) x ≡ ys →
    through (repeated t n ts) x ≡ all_through ts ys
run_first t n ts x ys e =
    sym (append-nil (through (repeated t n ts) x))
    ∙ all_repeated t n ts (x ∷ [])
    ∙ ap (all_through ts) (append-nil (through (repeated t n []) x) ∙ e)

pub goes_on : (t : Turn) (n : ℕ) (ts : List Turn) (x y : PlacedPlan) (zs : List PlacedPlan) → through (repeated t n []) x ≡ y ∷ [] →
    through ts y ≡ zs → through (repeated t n ts) x ≡ zs
goes_on t n ts x y zs e f = run_first t n ts x (y ∷ []) e ∙ append-nil (through ts y) ∙ f

-- what a run makes

pub further_down : (step : Step) (n : ℕ) (before new old : List Step) → old ≡ down_by step n before → new ≡ old ++ step ∷ [] →
    new ≡ down_by step (n + 1) before
further_down step n before new old e f =
    f ∙ ap (λ l. l ++ step ∷ []) e ∙ sym (one_more (λ l. l ++ step ∷ []) n (n + 1) (before ++ step ∷ []) refl)

pub run_below : (row : Row) (n : ℕ) (x : PlacedPlan) → through (repeated (below_row row) n []) x ≡ turned_there (under_run row n) x ∷ []
run_below row zero (made p) = refl
run_below row (suc n) (made p) = ap (λ z. z ++ []) (run_below row n (made (under_row row p)))
run_below row zero (awaited g steps) = refl
run_below row (suc n) (awaited g steps) = ap (λ z. z ++ []) (run_below row n (awaited g steps))

disabling_is : (p : OpenPlan) → plan_by_disabling p ≡ under_row (row_of_disabling p.kind) p
disabling_is p = by_test (is_end p.kind)
  where
    by_test : (b : Bool) → (if b then under_row Disend p else under_row Disstep p) ≡ under_row (if b then Disend else Disstep) p
    by_test true = refl
    by_test false = refl

pub run_disabled : (n : ℕ) (x : PlacedPlan) →
    through (repeated disabled n []) x ≡ turned_there (λ p. under_run (row_of_disabling p.kind) n p) x ∷ []
run_disabled zero (made p) = ap (λ q. made q ∷ []) (disabling_is p)
run_disabled (suc n) (made p) =
    ap (λ q. through (repeated disabled n []) (made q) ++ []) (disabling_is p)
    ∙ ap (λ z. z ++ []) (run_disabled n (made (under_row (row_of_disabling p.kind) p)))
run_disabled zero (awaited g steps) = refl
run_disabled (suc n) (awaited g steps) = ap (λ z. z ++ []) (run_disabled n (awaited g steps))

pub run_at_gap : (gates : Synchronised) (row : Row) (n g : ℕ) (steps : List Step) →
    through (repeated (alone_by gates row) n []) (awaited g steps) ≡ awaited g (down_by (by_itself gates) n steps) ∷ []
run_at_gap gates row zero g steps = refl
run_at_gap gates row (suc n) g steps = ap (λ z. z ++ []) (run_at_gap gates row n g (steps ++ by_itself gates ∷ []))

run_of_plan : (gates : Synchronised) (row : Row) (n : ℕ) (p : OpenPlan) →
    through (repeated (alone_by gates row) n []) (made p) ≡ map made (run_alone gates row n p)
run_of_plan gates row zero p = by_test (is_alone gates p.kind)
  where
    by_test : (b : Bool) →
        flat_map (through []) (map made (if b then under_row row p ∷ [] else [])) ≡ map made (if b then under_run row 0 p ∷ [] else [])
    by_test true = refl
    by_test false = refl
run_of_plan gates row (suc n) p = by_test (is_alone gates p.kind) refl (run_of_plan gates row n (under_row row p))
  where
    above : PlacedPlan → List PlacedPlan
    above = through (repeated (alone_by gates row) n [])

    by_test : (b : Bool) → is_alone gates p.kind ≡ b → above (made (under_row row p)) ≡ map made (run_alone gates row n (under_row row p)) →
        flat_map above (map made (if b then under_row row p ∷ [] else [])) ≡ map made (if b then under_run row (suc n) p ∷ [] else [])
    by_test true e rest =
        ap (λ z. z ++ []) (rest ∙ ap (λ c. map made (if c then under_run row n (under_row row p) ∷ [] else [])) e)
    by_test false e rest = refl

pub run_at_plan : (gates : Synchronised) (row : Row) (n : ℕ) (p : OpenPlan) (b : Bool) (q : OpenPlan) →
    run_alone gates row n p ≡ (if b then q ∷ [] else []) →
    through (repeated (alone_by gates row) n []) (made p) ≡ (if b then made q ∷ [] else [])
run_at_plan gates row n p b q e = run_of_plan gates row n p ∙ ap (map made) e ∙ by_test b
  where
    by_test : (c : Bool) → map made (if c then q ∷ [] else []) ≡ (if c then made q ∷ [] else [])
    by_test true = refl
    by_test false = refl
