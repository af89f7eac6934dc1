-- What is reached of a behaviour with terms put in is what is reached of the code with these terms for its variables.
use Rattle.std.proofs.Common.{ℕ, ◌≡◌, ◌⊎◌, inl, inr, ◌↔◌, List, [], ◌∷◌, map, refl, sym, subst, Option, Some, None}
use Rattle.std.proofs.Common.{false}
use Rattle.spec_core.specs.Lists.{OneOf}
use Rattle.spec_core.specs.Terms.{TermTree, variable, instance}
use Rattle.spec_core.specs.Theories.{Premise, premise, Theory}
use Rattle.spec_core.specs.Code.{Program, Variable, Binding, ExitValue, exit_given, exit_any, ActionField, give, accept}
use Rattle.spec_core.specs.Functionality.{accepted, bound_variables}
use Rattle.rule_model.specs.Behaviours.{Behaviour, stop, exit, inner, action, choice, guarded, bound, value_choice, gate_choice, parallel}
use Rattle.rule_model.specs.Behaviours.{hide, enable, disable, call, relabel}
use Rattle.rule_model.specs.Substitution.{Assignment, with_term, without, put, put_in_premise, put_in_guard, put_in_field, put_in_exit}
use Rattle.rule_model.specs.Substitution.{put_in_binding}
use Rattle.symbolic_rules.specs.Windows.{Windows}
use Rattle.symbolic_rules.specs.MarkedTerms.{MarkedTerm, plain, MarkedAssignment, unmarked, with_marked, marked_instance, MayHaveValue}
use Rattle.symbolic_rules.specs.MarkedTerms.{MayBeEqual, PremiseMayHold}
use Rattle.symbolic_rules.specs.MarkedFields.{BindingsMayHave, ArgumentsMayHave}
use Rattle.symbolic_composites.specs.Evaluations.{Evaluation}
use Rattle.symbolic_composites.proofs.Origins.{Leads, with_one_bound, term_put, closing_leads}
use Rattle.symbolic_reach.specs.Reached.{Asks, PremiseAsks, GuardAsks, FieldAsks, ExitAsks, BindingAsks, ArgumentAsks, AcceptsMayHave}
use Rattle.symbolic_reach.specs.Reached.{ReachesIn, ReachesBelow}
use Rattle.symbolic_reach.specs.Laws.{ReachedOfOrigins}

pub either_way : {A B C D : Type 0} → A ↔ C → B ↔ D → (A ⊎ B) ↔ (C ⊎ D)
either_way {A} {B} {C} {D} f g = (to, from)
  where
    to : A ⊎ B → C ⊎ D
    to (inl a) = inl (f.0 a)
    to (inr b) = inr (g.0 b)

    from : C ⊎ D → A ⊎ B
    from (inl c) = inl (f.1 c)
    from (inr d) = inr (g.1 d)

pub both_ways : {A B C D : Type 0} → A ↔ C → B ↔ D → (A × B) ↔ (C × D)
both_ways f g = (λ h. (f.0 h.0, g.0 h.1), λ h. (f.1 h.0, g.1 h.1))

-- along an equation, both ways
along : {A : Type 0} (P : A → Type 0) {x y : A} → x ≡ y → P x ↔ P y
along P e = (subst P e, subst P (sym e))

-- some element of the list of images
pub one_of_images : {A B : Type 0} (P : B → Type 0) (Q : A → Type 0) (f : A → B) → ((x : A) → P (f x) ↔ Q x) → (xs : List A) →
    OneOf P (map f xs) ↔ OneOf Q xs
one_of_images P Q f h [] = (λ q. q, λ q. q)
one_of_images P Q f h (x ∷ xs) = either_way (h x) (one_of_images P Q f h xs)

-- an evaluation that answers nothing; what is reached is said without one
nothing_known : Evaluation
nothing_known = record { value = λ t. None; equal = λ a b. false; spelled = λ v sort. None; definition = λ p. None }

module _ (theory : Theory) (r : MarkedAssignment) (s : Assignment) (t : MarkedAssignment) (leads : Leads r s t) where
  same_term : (u : TermTree) → marked_instance theory r (instance s u) ≡ marked_instance theory t u
  same_term = term_put theory nothing_known r s t leads

  pub asked : (u x : TermTree) → Asks theory r (instance s u) x ↔ Asks theory t u x
  asked u x = along (λ z. z ≡ plain x) (same_term u)

  pub premise_asked : (p : Premise) (x : TermTree) → PremiseAsks theory r (put_in_premise s p) x ↔ PremiseAsks theory t p x
  premise_asked (premise a b) x =
      (λ h. (h.0, h.1, (asked a h.0).0 h.2, (asked b h.1).0 h.3, h.4), λ h. (h.0, h.1, (asked a h.0).1 h.2, (asked b h.1).1 h.3, h.4))

  pub guard_asked : (p : Option Premise) (x : TermTree) → GuardAsks theory r (put_in_guard s p) x ↔ GuardAsks theory t p x
  guard_asked None x = (λ h. h, λ h. h)
  guard_asked (Some p) x = premise_asked p x

  pub field_asked : (x : TermTree) (f : ActionField) → FieldAsks theory r x (put_in_field s f) ↔ FieldAsks theory t x f
  field_asked x (give u) = asked u x
  field_asked x (accept y) = (λ h. h, λ h. h)

  pub exit_asked : (x : TermTree) (f : ExitValue) → ExitAsks theory r x (put_in_exit s f) ↔ ExitAsks theory t x f
  exit_asked x (exit_given u) = asked u x
  exit_asked x (exit_any sort) = (λ h. h, λ h. h)

  pub premise_holds : (p : Premise) → PremiseMayHold theory r (put_in_premise s p) ↔ PremiseMayHold theory t p
  premise_holds (premise a b) =
      let left = along (λ z. MayBeEqual theory z (marked_instance theory r (instance s b))) (same_term a) in
      let right = along (λ z. MayBeEqual theory (marked_instance theory t a) z) (same_term b) in
      (λ h. right.0 (left.0 h), λ h. left.1 (right.1 h))

  pub value_there : (u : TermTree) (k : MarkedTerm) →
      MayHaveValue theory (marked_instance theory r (instance s u)) k ↔ MayHaveValue theory (marked_instance theory t u) k
  value_there u k = along (λ z. MayHaveValue theory z k) (same_term u)

  -- what `let` binds, from one side to the other
  pub bindings_to : (i : MarkedAssignment) (j : Assignment) (l : MarkedAssignment) (bindings : List Binding) → Leads i j l →
      (a : MarkedAssignment) → BindingsMayHave theory r i (map (put_in_binding s) bindings) a →
      (c : MarkedAssignment) × BindingsMayHave theory t l bindings c × Leads a (without (bound_variables bindings) j) c
  bindings_to i j l [] lead a h = (l, refl, subst (λ z. Leads z j l) (sym h) lead)
  bindings_to i j l (b ∷ bindings) lead a h =
      let x = b.variable in
      let q = bindings_to (with_marked x h.0 i) (with_term x (variable x.number) j) (with_marked x h.0 l) bindings
      (with_one_bound x h.0 i j l lead) a h.2 in
      (q.0, (h.0, (value_there b.term h.0).0 h.1, q.1), q.2)

  pub bindings_from : (i : MarkedAssignment) (j : Assignment) (l : MarkedAssignment) (bindings : List Binding) → Leads i j l →
      (c : MarkedAssignment) → BindingsMayHave theory t l bindings c →
      (a : MarkedAssignment) × BindingsMayHave theory r i (map (put_in_binding s) bindings) a ×
      Leads a (without (bound_variables bindings) j) c
  bindings_from i j l [] lead c h = (i, refl, subst (λ z. Leads i j z) (sym h) lead)
  bindings_from i j l (b ∷ bindings) lead c h =
      let x = b.variable in
      let q = bindings_from (with_marked x h.0 i) (with_term x (variable x.number) j) (with_marked x h.0 l) bindings
      (with_one_bound x h.0 i j l lead) c h.2 in
      (q.0, (h.0, (value_there b.term h.0).1 h.1, q.1), q.2)

  -- what an action accepts, from one side to the other
  module _ (w : Windows) (others : List (List ℕ)) where
    accepts_to : (i : MarkedAssignment) (j : Assignment) (l : MarkedAssignment) (fields : List ActionField) → Leads i j l →
        (a : MarkedAssignment) → AcceptsMayHave theory w others i (map (put_in_field s) fields) a →
        (c : MarkedAssignment) × AcceptsMayHave theory w others l fields c × Leads a (without (accepted fields) j) c
    accepts_to i j l [] lead a h = (l, refl, subst (λ z. Leads z j l) (sym h) lead)
    accepts_to i j l (give u ∷ fields) lead a h = accepts_to i j l fields lead a h
    accepts_to i j l (accept x ∷ fields) lead a h =
        let q = accepts_to (with_marked x h.1 i) (with_term x (variable x.number) j) (with_marked x h.1 l) fields
        (with_one_bound x h.1 i j l lead) a h.4 in
        (q.0, (h.0, h.1, h.2, h.3, q.1), q.2)

    accepts_from : (i : MarkedAssignment) (j : Assignment) (l : MarkedAssignment) (fields : List ActionField) → Leads i j l →
        (c : MarkedAssignment) → AcceptsMayHave theory w others l fields c →
        (a : MarkedAssignment) × AcceptsMayHave theory w others i (map (put_in_field s) fields) a × Leads a (without (accepted fields) j) c
    accepts_from i j l [] lead c h = (i, refl, subst (λ z. Leads i j z) (sym h) lead)
    accepts_from i j l (give u ∷ fields) lead c h = accepts_from i j l fields lead c h
    accepts_from i j l (accept x ∷ fields) lead c h =
        let q = accepts_from (with_marked x h.1 i) (with_term x (variable x.number) j) (with_marked x h.1 l) fields
        (with_one_bound x h.1 i j l lead) c h.4 in
        (q.0, (h.0, h.1, h.2, h.3, q.1), q.2)

  -- the terms of a call, from one side to the other
  pub arguments_same : (i : MarkedAssignment) (xs : List Variable) (terms : List TermTree) (a : MarkedAssignment) →
      ArgumentsMayHave theory r i xs (map (instance s) terms) a ↔ ArgumentsMayHave theory t i xs terms a
  arguments_same i [] [] a = (λ h. h, λ h. h)
  arguments_same i [] (u ∷ terms) a = (λ h. h, λ h. h)
  arguments_same i (x ∷ xs) [] a = (λ h. h, λ h. h)
  arguments_same i (x ∷ xs) (u ∷ terms) a = (
    λ h. (h.0, (value_there u h.0).0 h.1, (arguments_same (with_marked x h.0 i) xs terms a).0 h.2),
    λ h. (h.0, (value_there u h.0).1 h.1, (arguments_same (with_marked x h.0 i) xs terms a).1 h.2),
  )

  -- what a call asks: a term of it asks, or what is called with the values of its terms
  pub call_asked : {Q : MarkedAssignment → Type 0} (xs : List Variable) (terms : List TermTree) (x : TermTree) →
      (OneOf (ArgumentAsks theory r x) (map (instance s) terms) ⊎
      ((a : MarkedAssignment) × ArgumentsMayHave theory r unmarked xs (map (instance s) terms) a × Q a)) ↔
      (OneOf (ArgumentAsks theory t x) terms ⊎ ((a : MarkedAssignment) × ArgumentsMayHave theory t unmarked xs terms a × Q a))
  call_asked xs terms x =
      either_way (one_of_images (ArgumentAsks theory r x) (ArgumentAsks theory t x) (instance s) (λ u. asked u x) terms) (
        λ k. (k.0, (arguments_same unmarked xs terms k.0).0 k.1, k.2),
        λ k. (k.0, (arguments_same unmarked xs terms k.0).1 k.1, k.2),
      )

module _ (program : Program) (w : Windows) (others : List (List ℕ))
    (called : MarkedAssignment → Behaviour → TermTree → Type 0) (x : TermTree) where
  abbrev Of : MarkedAssignment → Behaviour → Type 0
  Of m b = ReachesIn program w others called m b x

  reached_put : (b : Behaviour) (r : MarkedAssignment) (s : Assignment) (t : MarkedAssignment) → Leads r s t → Of r (put s b) ↔ Of t b
  reached_put stop r s t leads = (λ h. h, λ h. h)
  reached_put (exit fields) r s t leads =
      one_of_images (ExitAsks program.theory r x) (ExitAsks program.theory t x) (put_in_exit s)
      (exit_asked program.theory r s t leads x) fields
  reached_put (inner b) r s t leads = (λ h. h, λ h. h)
  reached_put (action g fields p b) r s t leads =
      let inside = without (accepted fields) s in
      either_way
      (one_of_images (FieldAsks program.theory r x) (FieldAsks program.theory t x) (put_in_field s)
      (field_asked program.theory r s t leads x) fields) (
        λ h.
            let q = accepts_to program.theory r s t leads w others r s t fields leads h.0 h.1 in
            (q.0, q.1, (guard_asked program.theory h.0 inside q.0 q.2 p x).0 h.2),
        λ h.
            let q = accepts_from program.theory r s t leads w others r s t fields leads h.0 h.1 in
            (q.0, q.1, (guard_asked program.theory q.0 inside h.0 q.2 p x).1 h.2),
      )
  reached_put (choice y z) r s t leads = either_way (reached_put y r s t leads) (reached_put z r s t leads)
  reached_put (guarded p b) r s t leads =
      either_way (premise_asked program.theory r s t leads p x)
      (both_ways (premise_holds program.theory r s t leads p) (reached_put b r s t leads))
  reached_put (bound bindings b) r s t leads =
      let inside = without (bound_variables bindings) s in
      either_way
      (one_of_images (BindingAsks program.theory r x) (BindingAsks program.theory t x) (put_in_binding s)
      (λ v. asked program.theory r s t leads v.term x) bindings) (
        λ h.
            let q = bindings_to program.theory r s t leads r s t bindings leads h.0 h.1 in
            (q.0, q.1, (reached_put b h.0 inside q.0 q.2).0 h.2),
        λ h.
            let q = bindings_from program.theory r s t leads r s t bindings leads h.0 h.1 in
            (q.0, q.1, (reached_put b q.0 inside h.0 q.2).1 h.2),
      )
  reached_put (value_choice y b) r s t leads =
      let inside = with_term y (variable y.number) s in (
        λ h. (
          h.0,
          h.1,
          h.2,
          h.3,
          (reached_put b (with_marked y h.1 r) inside (with_marked y h.1 t)
              (with_one_bound y h.1 r s t leads)).0 h.4,
        ),
        λ h. (
          h.0,
          h.1,
          h.2,
          h.3,
          (reached_put b (with_marked y h.1 r) inside (with_marked y h.1 t)
              (with_one_bound y h.1 r s t leads)).1 h.4,
        ),
      )
  reached_put (gate_choice g gates b) r s t leads =
      let q = reached_put b r s t leads in
      (λ h. (h.0, q.0 h.1), λ h. (h.0, q.1 h.1))
  reached_put (parallel gates y z) r s t leads = either_way (reached_put y r s t leads) (reached_put z r s t leads)
  reached_put (hide gates b) r s t leads = reached_put b r s t leads
  reached_put (enable y xs z) r s t leads = reached_put y r s t leads
  reached_put (disable y z) r s t leads = either_way (reached_put y r s t leads) (reached_put z r s t leads)
  reached_put (call p actual terms) r s t leads = (
    λ h. (h.0, h.1, h.2, h.3, (call_asked program.theory r s t leads h.1 terms x).0 h.4),
    λ h. (h.0, h.1, h.2, h.3, (call_asked program.theory r s t leads h.1 terms x).1 h.4),
  )
  reached_put (relabel pairs b) r s t leads = reached_put b r s t leads

pub reached_of_origins : ReachedOfOrigins
reached_of_origins program w others s closing b x =
    let same = λ (n : ℕ). reached_put program w others (ReachesBelow program w others n) x b unmarked s (λ y. plain (s y))
    (closing_leads s closing) in
    (λ h. (h.0, (same h.0).0 h.1), λ h. (h.0, (same h.0).1 h.1))
