-- Steps that are taken one after another.
use Rattle.std.proofs.Common.{ℕ, zero, suc, ◌≡◌, ◌<◌, ◌≤◌, ◌+◌, ◌-◌, List, [], ◌∷◌, ◌++◌, length, map, take, drop, refl, sym, ap, subst}
use Rattle.std.proofs.Common.{◌∙◌, arith, Some, None}
use Rattle.std.proofs.lemmas.List.{length-append, length-map, map-append, take-append-drop}
use Rattle.std.proofs.lemmas.Option.{same_Some}
use Rattle.std.specs.List.{slice_get}
use Rattle.spec_core.specs.Lists.{Each}
use Rattle.spec_core.specs.Terms.{TermTree}
use Rattle.spec_core.specs.Theories.{Theory}
use Rattle.value_table.specs.Tables.{Application, tree_at, AreFit, IsLonger}
use Rattle.value_table.proofs.Tables.{longer_itself, longer_on}
use Rattle.equal_proof.specs.declared.pair.Pair.{Pair}
use Rattle.equal_proof.specs.declared.proof.ProofStep.{ProofStep}
use Rattle.equal_proof.specs.Certificates.{Sides, Infers, StepOf, Runs}
use Rattle.equal_proof.specs.Pairs.{sides_at, stack_of, Grows, IsPair}
use Rattle.equal_proof.proofs.OneOutcome.{ends}

pub grows_itself : (theory : Theory) (rows : List Application) → AreFit theory rows → Grows theory rows rows
grows_itself theory rows fit = record { longer = longer_itself rows; fit = fit }

pub grows_on : (theory : Theory) (a b c : List Application) → Grows theory a b → Grows theory b c → Grows theory a c
grows_on theory a b c h k = record { longer = longer_on a b c h.longer k.longer; fit = k.fit }

-- the same equations stand at the pairs that there were
pub stack_stays : (old new : List Application) → IsLonger old new → (pairs : List Pair) → Each (IsPair old) pairs →
    stack_of new pairs ≡ stack_of old pairs
stack_stays old new h [] e = refl
stack_stays old new h (p ∷ pairs) e =
    let a : tree_at new p.left ≡ tree_at old p.left = h.same p.left e.0.0 in
    let b : tree_at new p.right ≡ tree_at old p.right = h.same p.right e.0.1 in
    let c = stack_stays old new h pairs e.1 in
    ap (λ (t : TermTree). (t, tree_at new p.right) ∷ stack_of new pairs) a
    ∙ ap (λ (t : TermTree). (tree_at old p.left, t) ∷ stack_of new pairs) b
    ∙ ap (λ (ps : List Sides). (tree_at old p.left, tree_at old p.right) ∷ ps) c

pub still_pairs : (old new : List Application) → IsLonger old new → (pairs : List Pair) → Each (IsPair old) pairs → Each (IsPair new) pairs
still_pairs old new h [] e = tt
still_pairs old new h (p ∷ pairs) e =
    let l = h.at_least in
    ((omega (arith, l, e.0.0), omega (arith, l, e.0.1)), still_pairs old new h pairs e.1)

rest_length : {A : Type 0} (n : ℕ) (xs : List A) → n ≤ length xs → length (drop n xs) + n ≡ length xs
rest_length zero xs h = omega arith
rest_length (suc n) [] h = absurd (omega (arith, h))
rest_length (suc n) (x ∷ xs) h = let r = rest_length n xs (omega (arith, h)) in omega (arith, r)

each_first : {A : Type 0} (P : A → Type 0) (n : ℕ) (xs : List A) → Each P xs → Each P (take n xs)
each_first P zero xs h = tt
each_first P (suc n) [] h = tt
each_first P (suc n) (x ∷ xs) h = (h.0, each_first P n xs h.1)

parted : (rows : List Application) (n : ℕ) (pairs : List Pair) →
    stack_of rows pairs ≡ stack_of rows (take n pairs) ++ stack_of rows (drop n pairs)
parted rows n pairs =
    ap (map (sides_at rows)) (sym (take-append-drop n pairs)) ∙ map-append (sides_at rows) (take n pairs) (drop n pairs)

module _ (theory : Theory) (step : ProofStep) where
  pub step_applies : (old new : List Application) (items after : List Pair) (n : ℕ) (pair : Pair) → Grows theory old new →
      Each (IsPair old) items → Infers theory step (stack_of old (drop n items)) (sides_at new pair) → after ≡ take n items ++ pair ∷ [] →
      StepOf theory step (stack_of old items) (stack_of new after)
  step_applies old new items after n pair grows there infers e = record {
    rest = stack_of old (take n items);
    taken = stack_of old (drop n items);
    put = sides_at new pair;
    before = parted old n items;
    inferred = infers;
    after = ap (stack_of new) e ∙ map-append (sides_at new) (take n items) (pair ∷ [])
        ∙ ap (λ (ps : List Sides). ps ++ sides_at new pair ∷ [])
        (stack_stays old new grows.longer (take n items) (each_first (IsPair old) n items there));
  }

  pub step_fails : (old : List Application) (items : List Pair) (count n : ℕ) → count ≤ length items → n ≡ length items - count →
      ((taken : List Sides) (put : Sides) → Infers theory step taken put → Some count ≡ Some (length taken)) →
      ((put : Sides) → Infers theory step (stack_of old (drop n items)) put → ⊥) →
      (new : List Sides) → StepOf theory step (stack_of old items) new → ⊥
  step_fails old items count n enough from counts fails new h =
      let c : count ≡ length h.taken = same_Some _ _ (counts h.taken h.put h.inferred) in
      let a = rest_length n items (omega (arith, enough, from)) in
      let b = length-map (drop n items) (sides_at old) in
      let l : length (stack_of old (drop n items)) ≡ length h.taken = omega (arith, a, b, c, enough, from) in
      let e = ends (stack_of old (take n items)) (stack_of old (drop n items)) h.rest h.taken l (sym (parted old n items) ∙ h.before) in
      fails h.put (subst (λ (taken : List Sides). Infers theory step taken h.put) (sym e.1) h.inferred)

  pub step_lacks : (old : List Application) (items : List Pair) (count : ℕ) → length items < count →
      ((taken : List Sides) (put : Sides) → Infers theory step taken put → Some count ≡ Some (length taken)) →
      (new : List Sides) → StepOf theory step (stack_of old items) new → ⊥
  step_lacks old items count few counts new h =
      let c : count ≡ length h.taken = same_Some _ _ (counts h.taken h.put h.inferred) in
      let a = length-append h.rest h.taken in
      let b = length-map items (sides_at old) in
      omega (arith, a, b, c, few, ap length h.before)

  pub step_unknown : (stack : List Sides) →
      ((taken : List Sides) (put : Sides) → Infers theory step taken put → None ≡ Some (length taken)) →
      (new : List Sides) → StepOf theory step stack new → ⊥
  step_unknown stack counts new h = let n : None ≡ Some (length h.taken) = counts h.taken h.put h.inferred in let z : ⊥ = cc in z

-- one more step
pub run_more : (theory : Theory) (steps : List ProofStep) (n : ℕ) (step : ProofStep) (old middle new : List Sides) →
    slice_get steps n ≡ Some step → Runs theory (take n steps) old middle → StepOf theory step middle new →
    Runs theory (take (suc n) steps) old new
run_more theory [] n step old middle new at h k = absurd (cc)
run_more theory (s ∷ steps) zero step old middle new at h k = (
  new,
  subst (λ (q : ProofStep). StepOf theory q old new) (sym (same_Some _ _ at)) (subst
      (λ stack. StepOf theory step stack new) h k),
  refl,
)
run_more theory (s ∷ steps) (suc n) step old middle new at h k =
    (h.0, h.1, run_more theory steps n step h.0 middle new at h.2 k)
