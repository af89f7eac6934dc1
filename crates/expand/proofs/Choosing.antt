-- A choice of a value, slot by slot.
use Rattle.std.proofs.Common.{ℕ, ◌≡◌, ◌+◌, ◌≤◌, List, [], ◌∷◌, ◌++◌, map, flat_map, refl, sym, ap, subst, ◌∙◌, arith}
use Rattle.std.proofs.Common.{append_assoc, Result, Ok, Err, sum_by}
use Rattle.std.proofs.lemmas.List.{append-nil}
use Rattle.std.proofs.lemmas.List.Sums.{sum_by-append}
use Rattle.spec_core.specs.Code.{Program, Variable}
use Rattle.spec_core.proofs.Lists.{each_append}
use Rattle.rule_model.specs.declared.rules.Slot.{Slot}
use Rattle.rule_model.specs.Behaviours.{Behaviour, value_choice}
use Rattle.symbolic_rules.specs.Windows.{Windows}
use Rattle.symbolic_rules.specs.MarkedTerms.{MarkedTerm, MarkedAssignment, with_marked}
use Rattle.symbolic_rules.specs.MarkedFields.{Chooses}
use Rattle.symbolic_composites.specs.Evaluations.{Evaluation, IsExact}
use Rattle.symbolic_composites.specs.OpenFields.{window_slots}
use Rattle.symbolic_composites.specs.Composites.{from_option}
use Rattle.symbolic_composites.proofs.Exact.{chosen_is}
use Rattle.symbolic_plans.specs.declared.scheme.Row.TheVariants.{Val}
use Rattle.symbolic_plans.specs.OpenPlans.{OpenPlan, under_row}
use Rattle.symbolic_reach.specs.Spread.{number_of}
use Rattle.node_values.specs.declared.stop.Stop.{Stop}
use Rattle.expand.specs.declared.outcome.Expanded.{Expanded}
use Rattle.expand.specs.Outcomes.{plans_in, AsksReached, plans_with, spread_with, Expands, IsReached, Stopped, Outcome}
use Rattle.expand.specs.Joins.{Adds}
use Rattle.expand.specs.Choosing.{plans_at, spread_at, ExpandsEach, IsChoice, IsPrefix, Added}
use Rattle.expand.proofs.Asking.{asked_chosen}
use Rattle.expand.proofs.Rows.{wide_above, part_stops}

flat_more : {A B : Type 0} (f : A → List B) (xs : List A) (x : A) → flat_map f (xs ++ x ∷ []) ≡ flat_map f xs ++ f x
flat_more f [] x = append-nil (f x)
flat_more f (y ∷ xs) x = ap (λ z. f y ++ z) (flat_more f xs x) ∙ sym (append_assoc (f y) (flat_map f xs) (f x))

module _ (program : Program) (w : Windows) (n budget : ℕ) (m : MarkedAssignment) (x : Variable) (b : Behaviour) where
  abbrev EachSlot : List Slot → List OpenPlan → ℕ → Type 0
  EachSlot slots ps k = ExpandsEach program w n m x b slots ps k

  abbrev Spread : Evaluation → Slot → ℕ
  Spread e slot = spread_at program w n m x b e slot

  pub begins : EachSlot [] [] 1
  begins = record { plans = λ e q. refl; spread = λ e q. refl; asked = tt }

  -- with one more slot
  more : (slots : List Slot) (slot : Slot) (k : MarkedTerm) (ps qs : List OpenPlan) (j i : ℕ) → EachSlot slots ps j →
      IsChoice program.theory w x.sort slot k → Expands program w n (with_marked x k m) b qs i →
      EachSlot (slots ++ slot ∷ []) (ps ++ map (under_row (Val slot)) qs) (j + i)
  more slots slot k ps qs j i all choice part = record {
    plans = λ e q.
        let f = plans_at program w n m x b e in
        ap (λ z. z ++ map (under_row (Val slot)) qs) (all.plans e q)
        ∙ ap (λ z. flat_map f slots ++ z)
        (ap (map (under_row (Val slot))) (part.plans e q)
        ∙ sym (ap (λ z. from_option z (λ t. map (under_row (Val slot)) (plans_with program w n e (with_marked x t m) b)))
        (chosen_is program e q w slot x.sort k choice.chooses)))
        ∙ sym (flat_more f slots slot);
    spread = λ e q.
        let one : Spread e slot ≡ spread_with program w n e (with_marked x k m) b =
        ap (λ z. number_of z (λ t. spread_with program w n e (with_marked x t m) b)) (chosen_is program e q w slot x.sort k choice.chooses) in
        let a : j ≡ 1 + sum_by (Spread e) slots = all.spread e q in
        let c : i ≡ spread_with program w n e (with_marked x k m) b = part.spread e q in
        let d : sum_by (Spread e) (slots ++ slot ∷ []) ≡ sum_by (Spread e) slots + sum_by (Spread e) (slot ∷ []) =
        sum_by-append (Spread e) slots (slot ∷ []) in
        let s : sum_by (Spread e) (slot ∷ []) ≡ 0 + Spread e slot = refl in
        omega arith;
    asked =
        each_append (AsksReached program (IsReached program w n m (value_choice x b)) m (value_choice x b)) ps
        (map (under_row (Val slot)) qs) all.asked (asked_chosen program w n m x b slot k qs choice part.asked);
  }

  -- what some of the slots come to is no more than what all do
  prefix_below : (slots : List Slot) → IsPrefix slots (window_slots w x.sort) → (e : Evaluation) →
      1 + sum_by (Spread e) slots ≤ spread_with program w n e m (value_choice x b)
  prefix_below slots prefix e =
      let d = sum_by-append (Spread e) slots prefix.0 in
      let s : sum_by (Spread e) (slots ++ prefix.0) ≡ sum_by (Spread e) (window_slots w x.sort) = ap (sum_by (Spread e)) prefix.1 in
      omega arith

  part_below : (slots : List Slot) (slot : Slot) (k : MarkedTerm) → IsPrefix (slots ++ slot ∷ []) (window_slots w x.sort) →
      Chooses program.theory w slot x.sort k → (e : Evaluation) → IsExact program e →
      spread_with program w n e (with_marked x k m) b ≤ spread_with program w n e m (value_choice x b)
  part_below slots slot k prefix chooses e q =
      let one : Spread e slot ≡ spread_with program w n e (with_marked x k m) b =
      ap (λ z. number_of z (λ t. spread_with program w n e (with_marked x t m) b)) (chosen_is program e q w slot x.sort k chooses) in
      let a = prefix_below (slots ++ slot ∷ []) prefix e in
      let d : sum_by (Spread e) (slots ++ slot ∷ []) ≡ sum_by (Spread e) slots + sum_by (Spread e) (slot ∷ []) =
      sum_by-append (Spread e) slots (slot ∷ []) in
      let s : sum_by (Spread e) (slot ∷ []) ≡ 0 + Spread e slot = refl in
      omega arith

  -- one more slot, from what comes of the body with it
  pub added : (slots : List Slot) (slot : Slot) (k : MarkedTerm) (ps : List OpenPlan) (j : ℕ) (part r : Result Expanded Stop) →
      IsPrefix (slots ++ slot ∷ []) (window_slots w x.sort) → IsChoice program.theory w x.sort slot k → EachSlot slots ps j →
      Outcome program w n budget (with_marked x k m) b part → Adds slot ps j part r → Added program w n budget m x b (slots ++ slot ∷ []) r
  added slots slot k ps j (Ok y) (Ok z) prefix choice all part h =
      let e = more slots slot k ps (plans_in y) j y.spread all choice part in
      subst (λ t. EachSlot (slots ++ slot ∷ []) t z.spread) (sym h.0)
      (subst (λ t. EachSlot (slots ++ slot ∷ []) (ps ++ map (under_row (Val slot)) (plans_in y)) t) (sym h.1) e)
  added slots slot k ps j (Ok y) (Err s) prefix choice all part h =
      let t = more slots slot k ps (plans_in y) j y.spread all choice part in
      wide_above program w n budget m (value_choice x b) (j + y.spread) s h
      (λ e q.
      let a : j + y.spread ≡ 1 + sum_by (Spread e) (slots ++ slot ∷ []) = t.spread e q in
      let c = prefix_below (slots ++ slot ∷ []) prefix e in
      omega arith)
  added slots slot k ps j (Err s) (Ok z) prefix choice all part h = absurd h
  added slots slot k ps j (Err s) (Err t) prefix choice all part h =
      subst (Stopped program w n budget m (value_choice x b)) (sym h)
      (part_stops program w n budget (with_marked x k m) b m (value_choice x b) s
      (λ u z. (slot, k, choice.chooses, choice.within, z)) (λ e q. part_below slots slot k prefix choice.chooses e q) part)

  -- with all slots the choice is expanded
  pub all_chosen : (slots : List Slot) (r : Result Expanded Stop) → slots ≡ window_slots w x.sort →
      Added program w n budget m x b slots r → Outcome program w n budget m (value_choice x b) r
  all_chosen slots (Ok y) is h =
      let k = subst (λ z. EachSlot z (plans_in y) y.spread) is h in
      record { plans = k.plans; spread = k.spread; asked = k.asked }
  all_chosen slots (Err s) is h = h
