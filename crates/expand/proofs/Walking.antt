-- What the walk over the code hands on.
use Rattle.std.proofs.Common.{ℕ, zero, suc, ◌≡◌, ◌-◌, ◌+◌, ◌*◌, ◌<◌, ◌≤◌, List, [], ◌∷◌, ◌++◌, map, take, drop, length, get_or, refl, sym, ap, subst}
use Rattle.std.proofs.Common.{◌∙◌, arith, append_assoc, Option, Some, Result, Ok, true, false, Contains}
use Rattle.std.proofs.lemmas.List.{append-nil, length-map}
use Rattle.spec_core.specs.Code.{Program, Variable, node_of, action_field_of}
use Rattle.spec_core.specs.Numbers.{gate_number}
use Rattle.spec_core.specs.Theories.{Premise}
use Rattle.spec_core.specs.declared.code.ActField.{ActField}
use Rattle.spec_core.specs.declared.code.CodeNode.{CodeNode}
use Rattle.spec_core.specs.declared.items.Gate.{Gate}
use Rattle.rule_model.specs.declared.rules.Slot.TheVariants.{Of, Mark}
use Rattle.rule_model.specs.Behaviours.{Behaviour, action, value_choice, gate_choice}
use Rattle.rule_origins.specs.Parts.{behaviour_at, over_parts}
use Rattle.symbolic_rules.specs.Windows.{Windows}
use Rattle.symbolic_rules.specs.MarkedTerms.{MarkedAssignment}
use Rattle.symbolic_composites.specs.OpenFields.{window_slots, mark_unless}
use Rattle.symbolic_plans.specs.OpenPlans.{plans_of_gates}
use Rattle.node_values.specs.declared.stop.Stop.{Stop}
use Rattle.expand.specs.declared.outcome.Expanded.{Expanded}
use Rattle.expand.specs.Choosing.{ExpandsEach, IsPrefix}
use Rattle.expand.specs.Joins.{OnlyWide, Sized, Turns}
use Rattle.expand.specs.Outcomes.{plans_in, Stopped, Outcome, BelowOutcome}
use Rattle.expand.proofs.Choosing.{begins}
use Rattle.expand.proofs.Rows.{gates_come, no_gates_come, wide_above}

module _ (program : Program) (w : Windows) (n budget : ℕ) (m : MarkedAssignment) (r : Result Expanded Stop) where
  -- what comes of a construct comes of what is equal to it
  pub of_construct : (z y : CodeNode) → z ≡ y → Outcome program w n budget m (over_parts (behaviour_at program) (Some (node_of y))) r →
      Outcome program w n budget m (over_parts (behaviour_at program) (Some (node_of z))) r
  of_construct z y is h =
      subst (λ t. Outcome program w n budget m (over_parts (behaviour_at program) (Some (node_of t))) r) (sym is) h

  pub of_equal : (b c : Behaviour) → b ≡ c → Outcome program w n budget m c r → Outcome program w n budget m b r
  of_equal b c is h = subst (λ t. Outcome program w n budget m t r) (sym is) h

  pub of_action : (fs gs : List ActField) → fs ≡ gs → (g : ℕ) (q : Option Premise) (b : Behaviour) →
      Outcome program w n budget m (action g (map action_field_of fs) q b) r →
      Outcome program w n budget m (action g (map action_field_of gs) q b) r
  of_action fs gs is g q b h = subst (λ z. Outcome program w n budget m (action g (map action_field_of z) q b) r) is h

  -- a choice of none of no gates, and of one of these
  pub none_come : (g : ℕ) (gates : List Gate) (b : Behaviour) → length gates < 1 → Sized [] 1 r →
      Outcome program w n budget m (gate_choice g (map gate_number gates) b) r
  none_come g [] b few h = no_gates_come program w n budget m g b r h
  none_come g (first ∷ gates) b few h = absurd (omega (arith, few))

  pub some_gates_come : (g : ℕ) (gates : List Gate) (b : Behaviour) (part : Result Expanded Stop) → 1 ≤ length gates →
      Turns (plans_of_gates g 1 (map gate_number gates)) (λ k. 1 + length gates * (1 + k)) part r →
      Outcome program w n budget m b part → Outcome program w n budget m (gate_choice g (map gate_number gates) b) r
  some_gates_come g [] b part there made h = absurd (omega (arith, there))
  some_gates_come g (first ∷ gates) b part there made h =
      let e : length (first ∷ gates) ≡ length (gate_number first ∷ map gate_number gates) = sym (length-map (first ∷ gates) gate_number) in
      gates_come program w n budget m g (gate_number first) (map gate_number gates) b part r
      (subst (λ j. Turns (plans_of_gates g 1 (map gate_number (first ∷ gates))) (λ k. 1 + j * (1 + k)) part r) e made) h

-- below one call less
pub one_call_less : (program : Program) (w : Windows) (n budget : ℕ) (m : MarkedAssignment) (b : Behaviour) (r : Result Expanded Stop) →
    (n ≡ 0 → ⊥) → Outcome program w (n - 1) budget m b r → BelowOutcome program w n budget m b r
one_call_less program w zero budget m b r h o = absurd (h refl)
one_call_less program w (suc n) budget m b r h o =
    let e : suc n - 1 ≡ n = omega arith in
    subst (λ z. Outcome program w z budget m b r) e o

module _ (program : Program) (w : Windows) (n budget : ℕ) (m : MarkedAssignment) (x : Variable) (b : Behaviour) where
  -- before any slot
  pub no_slot : (y : Expanded) → Sized [] 1 (Ok y) → ExpandsEach program w n m x b [] (plans_in y) y.spread
  no_slot y h =
      subst (λ ps. ExpandsEach program w n m x b [] ps y.spread) (sym h.0)
      (subst (λ k. ExpandsEach program w n m x b [] [] k) (sym h.1) (begins program w n budget m x b))

  pub begun_stops : (s : Stop) → OnlyWide 1 s → Stopped program w n budget m (value_choice x b) s
  begun_stops s h = wide_above program w n budget m (value_choice x b) 1 s h (λ e q. omega arith)

-- an item of a list, and what comes behind it
with_rest : (values : List (List ℕ)) (i : ℕ) (v : List ℕ) → i < length values → v ≡ get_or values i v →
    map Of (take i values) ++ (Of v ∷ map Of (drop (suc i) values)) ≡ map Of values
with_rest [] i v l h = absurd (omega (arith, l))
with_rest (u ∷ values) zero v l h = ap (λ z. Of z ∷ map Of values) h
with_rest (u ∷ values) (suc i) v l h = ap (λ z. Of u ∷ z) (with_rest values i v (omega (arith, l)) h)

up_to : (values : List (List ℕ)) (i : ℕ) (v : List ℕ) → i < length values → v ≡ get_or values i v →
    map Of (take i values) ++ Of v ∷ [] ≡ map Of (take (suc i) values)
up_to [] i v l h = absurd (omega (arith, l))
up_to (u ∷ values) zero v l h = ap (λ z. Of z ∷ []) h
up_to (u ∷ values) (suc i) v l h = ap (λ z. Of u ∷ z) (up_to values i v (omega (arith, l)) h)

pub with_next : (values : List (List ℕ)) (i : ℕ) (v : List ℕ) → i < length values → v ≡ get_or values i v →
    map Of (take i values) ++ Of v ∷ [] ≡ map Of (take (i + 1) values)
with_next values i v l h =
    let e : suc i ≡ i + 1 = omega arith in
    up_to values i v l h ∙ ap (λ k. map Of (take k values)) e

-- In this module: the window's values, and one of them.
module _ (w : Windows) (sort : ℕ) (values : List (List ℕ)) (same : values ≡ w.values sort) where
  pub is_listed : (i : ℕ) (v : List ℕ) → i < length values → v ≡ get_or values i v → Contains (w.values sort) v
  is_listed i v l h = subst (λ z. Contains z v) same (i, l, sym h)

  -- the slots of the values before it, and its own, begin those of the window
  pub value_begins : (i : ℕ) (v : List ℕ) → i < length values → v ≡ get_or values i v →
      IsPrefix (map Of (take i values) ++ Of v ∷ []) (window_slots w sort)
  value_begins i v l h = (
    map Of (drop (suc i) values) ++ mark_unless (w.complete sort),
    append_assoc (map Of (take i values)) (Of v ∷ []) (map Of (drop (suc i) values) ++ mark_unless (w.complete sort))
        ∙ sym (append_assoc (map Of (take i values)) (Of v ∷ map Of (drop (suc i) values)) (mark_unless (w.complete sort)))
        ∙ ap (λ z. z ++ mark_unless (w.complete sort)) (with_rest values i v l h)
        ∙ ap (λ z. map Of z ++ mark_unless (w.complete sort)) same,
  )

  -- all slots, where the window is complete and where it isn't
  pub complete_slots : w.complete sort ≡ true → map Of values ≡ window_slots w sort
  complete_slots h =
      sym (append-nil (map Of values)) ∙ ap (λ z. map Of values ++ mark_unless z) (sym h)
      ∙ ap (λ z. map Of z ++ mark_unless (w.complete sort)) same

  pub marked_slots : w.complete sort ≡ false → map Of values ++ Mark ∷ [] ≡ window_slots w sort
  marked_slots h =
      ap (λ z. map Of values ++ mark_unless z) (sym h) ∙ ap (λ z. map Of z ++ mark_unless (w.complete sort)) same
