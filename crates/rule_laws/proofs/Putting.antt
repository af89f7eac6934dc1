-- Terms for variables, one substitution after another.
use Rattle.std.proofs.Common.{ℕ, ◌≡◌, ◌==◌, ◌⊎◌, inl, inr, List, [], ◌∷◌, map, refl, sym, ap, ◌∙◌, Bool, true, false, if◌then◌else◌}
use Rattle.std.proofs.Common.{Option, Some, None}
use Rattle.std.proofs.lemmas.Bool.{eqb-true, eq-eqb}
use Rattle.spec_core.specs.Terms.{TermTree, TermTrees, variable, apply, no_terms, and_term, instance, instances, IsGround, AreGround}
use Rattle.spec_core.specs.Theories.{Premise, premise}
use Rattle.spec_core.specs.Code.{Variable, Binding, ExitValue, exit_given, exit_any, ActionField, give, accept}
use Rattle.spec_core.specs.Functionality.{accepted, bound_variables}
use Rattle.rule_model.specs.Behaviours.{Behaviour, stop, exit, inner, action, choice, guarded, bound, value_choice, gate_choice, parallel}
use Rattle.rule_model.specs.Behaviours.{hide, enable, disable, call, relabel}
use Rattle.rule_model.specs.Substitution.{Assignment, with_term, without, put_in_premise, put_in_guard, put_in_field, put_in_exit}
use Rattle.rule_model.specs.Substitution.{put_in_binding, put}
use Rattle.rule_laws.specs.Closing.{IsClosing, IsAfter}
use Rattle.rule_laws.specs.Substitution.{TwoSubstitutionsAreOne}

mutual
  ground_stays : (s : Assignment) (t : TermTree) → IsGround t → instance s t ≡ t
  ground_stays s (variable x) h = absurd h
  ground_stays s (apply f ts) h = ap (apply f) (all_ground_stay s ts h)

  all_ground_stay : (s : Assignment) (ts : TermTrees) → AreGround ts → instances s ts ≡ ts
  all_ground_stay s no_terms h = refl
  all_ground_stay s (and_term t ts) h =
      ap (λ u. and_term u (instances s ts)) (ground_stays s t h.0) ∙ ap (and_term t) (all_ground_stay s ts h.1)

module _ (r s t : Assignment) (after : IsAfter r s t) where
  mutual
    pub instance_twice : (e : TermTree) → instance r (instance s e) ≡ instance t e
    instance_twice (variable x) = after x
    instance_twice (apply f ts) = ap (apply f) (instances_twice ts)

    instances_twice : (ts : TermTrees) → instances r (instances s ts) ≡ instances t ts
    instances_twice no_terms = refl
    instances_twice (and_term e ts) =
        ap (λ u. and_term u (instances r (instances s ts))) (instance_twice e) ∙ ap (and_term (instance t e)) (instances_twice ts)

  pub premise_twice : (p : Premise) → put_in_premise r (put_in_premise s p) ≡ put_in_premise t p
  premise_twice (premise a b) =
      ap (λ x. premise x (instance r (instance s b))) (instance_twice a) ∙ ap (premise (instance t a)) (instance_twice b)

  pub guard_twice : (p : Option Premise) → put_in_guard r (put_in_guard s p) ≡ put_in_guard t p
  guard_twice None = refl
  guard_twice (Some p) = ap (λ (q : Premise). Some q) (premise_twice p)

  fields_twice : (fields : List ActionField) → map (put_in_field r) (map (put_in_field s) fields) ≡ map (put_in_field t) fields
  fields_twice [] = refl
  fields_twice (give e ∷ fields) =
      ap (λ x. give x ∷ map (put_in_field r) (map (put_in_field s) fields)) (instance_twice e)
      ∙ ap (λ xs. give (instance t e) ∷ xs) (fields_twice fields)
  fields_twice (accept x ∷ fields) = ap (λ xs. accept x ∷ xs) (fields_twice fields)

  exit_twice : (fields : List ExitValue) → map (put_in_exit r) (map (put_in_exit s) fields) ≡ map (put_in_exit t) fields
  exit_twice [] = refl
  exit_twice (exit_given e ∷ fields) =
      ap (λ x. exit_given x ∷ map (put_in_exit r) (map (put_in_exit s) fields)) (instance_twice e)
      ∙ ap (λ xs. exit_given (instance t e) ∷ xs) (exit_twice fields)
  exit_twice (exit_any sort ∷ fields) = ap (λ xs. exit_any sort ∷ xs) (exit_twice fields)

  bindings_twice : (bindings : List Binding) → map (put_in_binding r) (map (put_in_binding s) bindings) ≡ map (put_in_binding t) bindings
  bindings_twice [] = refl
  bindings_twice (b ∷ bindings) =
      let make : TermTree → Binding = λ x. record { variable = b.variable; term = x } in
      ap (λ x. make x ∷ map (put_in_binding r) (map (put_in_binding s) bindings)) (instance_twice b.term)
      ∙ ap (λ xs. make (instance t b.term) ∷ xs) (bindings_twice bindings)

  terms_twice : (es : List TermTree) → map (instance r) (map (instance s) es) ≡ map (instance t) es
  terms_twice [] = refl
  terms_twice (e ∷ es) =
      ap (λ x. x ∷ map (instance r) (map (instance s) es)) (instance_twice e) ∙ ap (λ xs. instance t e ∷ xs) (terms_twice es)

-- the binders stay the same
same_accepted : (s : Assignment) (fields : List ActionField) → accepted (map (put_in_field s) fields) ≡ accepted fields
same_accepted s [] = refl
same_accepted s (give e ∷ fields) = same_accepted s fields
same_accepted s (accept x ∷ fields) = ap (λ xs. x ∷ xs) (same_accepted s fields)

same_bound : (s : Assignment) (bindings : List Binding) → bound_variables (map (put_in_binding s) bindings) ≡ bound_variables bindings
same_bound s [] = refl
same_bound s (b ∷ bindings) = ap (λ xs. b.variable ∷ xs) (same_bound s bindings)

-- under binders
pub own : (x : Variable) (s : Assignment) (b : Bool) → b ≡ true → (if b then variable x.number else s x.number) ≡ variable x.number
own x s true e = refl
own x s false e = cc

pub other : (x : Variable) (s : Assignment) (y : ℕ) (b : Bool) → b ≡ false → (if b then variable x.number else s y) ≡ s y
other x s y true e = cc
other x s y false e = refl

pub after_ground : (r q : Assignment) (e u : TermTree) → IsGround e → instance r e ≡ u → instance q e ≡ u
after_ground r q e u g h = ground_stays q e g ∙ sym (ground_stays r e g) ∙ h

pub after_variable : (r q : Assignment) (e u : TermTree) (y : ℕ) → e ≡ variable y → q y ≡ r y → instance r e ≡ u → instance q e ≡ u
after_variable r q e u y i j h = ap (instance q) i ∙ j ∙ sym (ap (instance r) i) ∙ h

after_one : (r s t : Assignment) (x : Variable) → IsClosing s → IsAfter r s t →
    IsAfter (with_term x (variable x.number) r) (with_term x (variable x.number) s) (with_term x (variable x.number) t)
after_one r s t x closing after y = by_test (y == x.number) refl (closing y)
  where
    by_test : (b : Bool) → y == x.number ≡ b → IsGround (s y) ⊎ (s y ≡ variable y) →
        instance (with_term x (variable x.number) r) (if b then variable x.number else s y) ≡ (if b then variable x.number else t y)
    by_test true e c = own x r (x.number == x.number) (eq-eqb x.number x.number refl)
    by_test false e (inl g) = after_ground r (with_term x (variable x.number) r) (s y) (t y) g (after y)
    by_test false e (inr i) =
        after_variable r (with_term x (variable x.number) r) (s y) (t y) y i (other x r y (y == x.number) e) (after y)

pub closing_one : (s : Assignment) (x : Variable) → IsClosing s → IsClosing (with_term x (variable x.number) s)
closing_one s x closing y = by_test (y == x.number) refl
  where
    by_test : (b : Bool) → y == x.number ≡ b → IsGround (if b then variable x.number else s y) ⊎
        ((if b then variable x.number else s y) ≡ variable y)
    by_test true e = inr (ap variable (sym (eqb-true y x.number e)))
    by_test false e = closing y

pub after_many : (xs : List Variable) (r s t : Assignment) → IsClosing s → IsAfter r s t →
    IsAfter (without xs r) (without xs s) (without xs t)
after_many [] r s t closing after = after
after_many (x ∷ xs) r s t closing after =
    after_many xs (with_term x (variable x.number) r) (with_term x (variable x.number) s) (with_term x (variable x.number) t)
    (closing_one s x closing) (after_one r s t x closing after)

pub closing_many : (xs : List Variable) (s : Assignment) → IsClosing s → IsClosing (without xs s)
closing_many [] s closing = closing
closing_many (x ∷ xs) s closing = closing_many xs (with_term x (variable x.number) s) (closing_one s x closing)

action_same : (g : ℕ) {f f' : List ActionField} {p p' : Option Premise} {b b' : Behaviour} → f ≡ f' → p ≡ p' → b ≡ b' →
    action g f p b ≡ action g f' p' b'
action_same g {f} {f'} {p} {p'} {b} {b'} i j k = ap (λ x. action g x p b) i ∙ ap (λ x. action g f' x b) j ∙ ap (action g f' p') k

pub twice : (b : Behaviour) (r s t : Assignment) → IsClosing s → IsAfter r s t → put r (put s b) ≡ put t b
twice stop r s t c a = refl
twice (exit fields) r s t c a = ap exit (exit_twice r s t a fields)
twice (inner b) r s t c a = ap inner (twice b r s t c a)
twice (action g fields p b) r s t c a =
    let xs = accepted fields in
    let i = after_many xs r s t c a in
    ap (λ ys. action g (map (put_in_field r) (map (put_in_field s) fields)) (put_in_guard (without ys r) (put_in_guard (without xs s) p))
    (put (without ys r) (put (without xs s) b))) (same_accepted s fields)
    ∙ action_same g (fields_twice r s t a fields) (guard_twice (without xs r) (without xs s) (without xs t) i p)
    (twice b (without xs r) (without xs s) (without xs t) (closing_many xs s c) i)
twice (choice b d) r s t c a = ap (λ x. choice x (put r (put s d))) (twice b r s t c a) ∙ ap (choice (put t b)) (twice d r s t c a)
twice (guarded p b) r s t c a =
    ap (λ x. guarded x (put r (put s b))) (premise_twice r s t a p) ∙ ap (guarded (put_in_premise t p)) (twice b r s t c a)
twice (bound bindings b) r s t c a =
    let xs = bound_variables bindings in
    ap (λ ys. bound (map (put_in_binding r) (map (put_in_binding s) bindings)) (put (without ys r) (put (without xs s) b)))
    (same_bound s bindings)
    ∙ ap (λ x. bound x (put (without xs r) (put (without xs s) b))) (bindings_twice r s t a bindings)
    ∙ ap (bound (map (put_in_binding t) bindings)) (twice b (without xs r) (without xs s) (without xs t) (closing_many xs s c)
    (after_many xs r s t c a))
twice (value_choice x b) r s t c a =
    ap (value_choice x) (twice b (without (x ∷ []) r) (without (x ∷ []) s) (without (x ∷ []) t) (closing_many (x ∷ []) s c)
    (after_many (x ∷ []) r s t c a))
twice (gate_choice g gates b) r s t c a = ap (gate_choice g gates) (twice b r s t c a)
twice (parallel gates b d) r s t c a =
    ap (λ x. parallel gates x (put r (put s d))) (twice b r s t c a) ∙ ap (parallel gates (put t b)) (twice d r s t c a)
twice (hide gates b) r s t c a = ap (hide gates) (twice b r s t c a)
twice (enable b xs d) r s t c a =
    ap (λ x. enable x xs (put (without xs r) (put (without xs s) d))) (twice b r s t c a)
    ∙ ap (enable (put t b) xs) (twice d (without xs r) (without xs s) (without xs t) (closing_many xs s c) (after_many xs r s t c a))
twice (disable b d) r s t c a = ap (λ x. disable x (put r (put s d))) (twice b r s t c a) ∙ ap (disable (put t b)) (twice d r s t c a)
twice (call p gates terms) r s t c a = ap (call p gates) (terms_twice r s t a terms)
twice (relabel pairs b) r s t c a = ap (relabel pairs) (twice b r s t c a)

pub two_substitutions_are_one : TwoSubstitutionsAreOne
two_substitutions_are_one r s t c a b = twice b r s t c a
