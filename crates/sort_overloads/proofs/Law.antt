-- What the list of all readings holds is what the definition says.
use Rattle.std.proofs.Common.{Option, Some, None, ℕ, zero, suc, ◌≡◌, inl, inr, ◌<◌, ◌+◌, List, [], ◌∷◌, refl, ap, sym}
use Rattle.std.proofs.Common.{subst, ◌∙◌, arith, Bool, true, false, if◌then◌else◌}
use Rattle.std.specs.Bool.{Decides}
use Rattle.std.specs.List.{slice_get}
use Rattle.lotos_ast.specs.declared.token.Token.{Token}
use Rattle.spec_core.specs.Lists.{IsOneOf}
use Rattle.spec_core.specs.Names.{IsSameName}
use Rattle.spec_core.specs.Sorts.{OnSome}
use Rattle.spec_core.specs.Terms.{TermTree, TermTrees, variable, apply, no_terms, and_term, terms}
use Rattle.spec_core.specs.Theories.{Operation}
use Rattle.sort_overloads.specs.Expressions.{Expression, Expressions, named, applied, said, nothing, no_expressions, and_expression}
use Rattle.sort_overloads.specs.Readings.{Declared, Context, spelling, IsVariable, IsNoVariable, IsReading, AreReadings}
use Rattle.sort_overloads.specs.Listed.{Typed, is_same_name, is_name_of, of_operations, last_variable, name_readings}
use Rattle.sort_overloads.specs.Listed.{readings, all_readings}
use Rattle.sort_overloads.proofs.Members.{typed, same-name, named-sort, Picked, Given, those-sound, those-complete}
use Rattle.sort_overloads.proofs.Members.{of_sort-sound, of_sort-complete, operations-sound, operations-complete}

-- variables
each-none : (name : List ℕ) (vs : List Declared) (y : ℕ) → IsNoVariable name vs → OnSome (slice_get vs y) (λ v. IsSameName v.name name) → ⊥
each-none name [] zero n h = h
each-none name [] (suc y) n h = h
each-none name (v ∷ vs) zero n h = n.0 h
each-none name (v ∷ vs) (suc y) n h = each-none name vs y n.1 h

on_some_part : {A : Type 0} {P Q : A → Type 0} (o : Option A) → ((x : A) → P x → Q x) → OnSome o P → OnSome o Q
on_some_part None f h = h
on_some_part (Some x) f h = f x h

pub no-variable : (name : List ℕ) (vs : List Declared) (x sort : ℕ) → IsNoVariable name vs → IsVariable name vs x sort → ⊥
no-variable name vs x sort n h = each-none name vs x n (on_some_part (slice_get vs x) (λ v p. p.0) h.0)

pub data Found (name : List ℕ) (prior : Option Typed) (k : ℕ) (vs : List Declared) : Type 0 where
  missing : IsNoVariable name vs → last_variable name prior k vs ≡ prior → Found name prior k vs
  found : (x sort : ℕ) → IsVariable name vs x sort → last_variable name prior k vs ≡ Some (typed (variable (k + x)) sort)
      → Found name prior k vs

pub find : (name : List ℕ) (prior : Option Typed) (k : ℕ) (vs : List Declared) → Found name prior k vs
find name prior k [] = missing tt refl
find name prior k (v ∷ vs) = step (is_same_name v.name name) (same-name v.name name) refl (λ b. find name b (suc k) vs)
  where
    next : (w : Declared) (y : ℕ) → IsNoVariable name vs → 0 < y → OnSome (slice_get (w ∷ vs) y) (λ u. IsSameName u.name name) → ⊥
    next w zero n below h = omega arith
    next w (suc y) n below h = each-none name vs y n h

    later : (y x sort : ℕ) → IsVariable name vs x sort → suc x < y → OnSome (slice_get (v ∷ vs) y) (λ u. IsSameName u.name name) → ⊥
    later zero x sort h below o = omega arith
    later (suc y) x sort h below o = h.1 y (omega arith) o

    step : (b : Bool) → Decides b (IsSameName v.name name) → is_same_name v.name name ≡ b
        → ((f : Option Typed) → Found name f (suc k) vs) → Found name prior k (v ∷ vs)
    step true d e rec = go (rec (Some (typed (variable k) v.sort)))
      where
        e' : last_variable name prior k (v ∷ vs) ≡ last_variable name (Some (typed (variable k) v.sort)) (suc k) vs
        e' = ap (λ b. last_variable name (if b then Some (typed (variable k) v.sort) else prior) (suc k) vs) e

        go : Found name (Some (typed (variable k) v.sort)) (suc k) vs → Found name prior k (v ∷ vs)
        go (missing n q) = found 0 v.sort ((d.0 refl, refl), λ y below o. next v y n below o)
            (e' ∙ q ∙ ap (λ i. Some (typed (variable i) v.sort)) (omega arith))
        go (found x sort h q) = found (suc x) sort (h.0, λ y below o. later y x sort h below o)
            (e' ∙ q ∙ ap (λ i. Some (typed (variable i) sort)) (omega arith))
    step false d e rec = go (rec prior)
      where
        e' : last_variable name prior k (v ∷ vs) ≡ last_variable name prior (suc k) vs
        e' = ap (λ b. last_variable name (if b then Some (typed (variable k) v.sort) else prior) (suc k) vs) e

        go : Found name prior (suc k) vs → Found name prior k (v ∷ vs)
        go (missing n q) = missing ((λ s. let c : false ≡ true = d.1 s in absurd (cc)), n) (e' ∙ q)
        go (found x sort h q) = found (suc x) sort (h.0, λ y below o. later y x sort h below o)
            (e' ∙ q ∙ ap (λ i. Some (typed (variable i) sort)) (omega arith))

-- a variable's sort
some-sort : (name : List ℕ) (o : Option Declared) (s r : ℕ) → OnSome o (λ v. IsSameName v.name name × (v.sort ≡ s))
    → OnSome o (λ v. IsSameName v.name name × (v.sort ≡ r)) → s ≡ r
some-sort name None s r h k = absurd h
some-sort name (Some v) s r h k = sym h.1 ∙ k.1

pub one-variable : (name : List ℕ) (vs : List Declared) (x y s r : ℕ) → IsVariable name vs x s → IsVariable name vs y r → (x ≡ y) × (s ≡ r)
one-variable name vs x y s r h k =
    let e : x ≡ y = grind (arith, not-below, not-above) in
    (e, some-sort name (slice_get vs y) s r (subst (λ z. OnSome (slice_get vs z) (λ v. IsSameName v.name name × (v.sort ≡ s))) e h.0) k.0)
  where
    not-below : x < y → ⊥
    not-below l = h.1 y l (on_some_part (slice_get vs y) (λ v p. p.0) k.0)

    not-above : y < x → ⊥
    not-above l = k.1 x l (on_some_part (slice_get vs x) (λ v p. p.0) h.0)

-- constants
picked-none : (sorts : List ℕ) (ts : List TermTree) → Picked [] sorts ts → (sorts ≡ []) × (ts ≡ [])
picked-none [] [] h = (refl, refl)
picked-none [] (t ∷ ts) h = absurd h
picked-none (s ∷ sorts) ts h = absurd h

none-picked : (sorts : List ℕ) → sorts ≡ [] → Picked [] sorts []
none-picked sorts e = subst (λ z. Picked [] z []) (sym e) tt

applied-read : (c : Context) (name : List ℕ) (es : Expressions) (t : TermTree) (sort f : ℕ) (o : Option Operation)
    → OnSome o (Given name (all_readings c es) t sort f) → ((sorts : List ℕ) (ts : List TermTree) → Picked (all_readings c es) sorts ts
    → AreReadings c es (terms ts) sorts) → (ts : TermTrees) × (t ≡ apply f ts) × OnSome o
    (λ d. IsSameName d.name name × (d.result ≡ sort) × AreReadings c es ts d.args)
applied-read c name es t sort f None h all = absurd h
applied-read c name es t sort f (Some d) h all = (terms h.2.0, h.2.1.0, (h.0, h.1, all d.args h.2.0 h.2.1.1))

constant-read : (name : List ℕ) (t : TermTree) (sort f : ℕ) (o : Option Operation) → OnSome o (Given name [] t sort f)
    → (t ≡ apply f no_terms) × OnSome o (λ d. IsSameName d.name name × (d.result ≡ sort) × (d.args ≡ []))
constant-read name t sort f None h = absurd h
constant-read name t sort f (Some d) h = let n = picked-none d.args h.2.0 h.2.1.1 in
    (h.2.1.0 ∙ ap (λ z. apply f (terms z)) n.1, (h.0, h.1, n.0))

sound-name : (c : Context) (name : Token) (r : Typed) → IsOneOf r (readings c (named name)) → Found name.text None 0 c.variables
    → IsReading c (named name) r.term r.sort
sound-name c name r h (missing n q) =
    let h' : IsOneOf r (of_operations name.text [] 0 c.operations) = subst (λ z. IsOneOf r
    (name_readings z (of_operations name.text [] 0 c.operations))) q h in
    let o = operations-sound name.text [] 0 c.operations r h' in
    let f : 0 + o.0 ≡ o.0 = omega arith in
    let k = constant-read name.text r.term r.sort o.0 (slice_get c.operations o.0)
    (subst (λ i. OnSome (slice_get c.operations o.0) (Given name.text [] r.term r.sort i)) f o.1) in
    inr (n, (o.0, k.0, k.1))
sound-name c name r h (found x sort v q) =
    let h' : IsOneOf r (typed (variable (0 + x)) sort ∷ []) = subst (λ z. IsOneOf r
    (name_readings z (of_operations name.text [] 0 c.operations))) q h in
    let e : r ≡ typed (variable (0 + x)) sort = elim h' [ inl k ↦ k | inr k ↦ absurd k ] in
    let z : 0 + x ≡ x = omega arith in
    inl (x, ap (λ z. z.term) e ∙ ap (λ i. variable i) z, subst (IsVariable name.text c.variables x) (sym (ap (λ z. z.sort) e)) v)

mutual
  pub sound : (c : Context) (e : Expression) (r : Typed) → IsOneOf r (readings c e) → IsReading c e r.term r.sort
  sound c (named name) r h = sound-name c name r h (find name.text None 0 c.variables)
  sound c (applied position name es) r h =
      let o = operations-sound (spelling position name.text) (all_readings c es) 0 c.operations r h in
      let f : 0 + o.0 ≡ o.0 = omega arith in
      let k = applied-read c (spelling position name.text) es r.term r.sort o.0 (slice_get c.operations o.0)
      (subst (λ i. OnSome (slice_get c.operations o.0) (Given (spelling position name.text) (all_readings c es) r.term r.sort i)) f o.1)
      (λ sorts ts p. all-sound c es sorts ts p) in
      (o.0, k.0, k.1, k.2)
  sound c (said e name) r h =
      let m = those-sound (λ s. is_name_of name.text (slice_get c.sorts s)) (readings c e) r h in
      (sound c e r m.0, (named-sort c.sorts name.text (slice_get c.sorts r.sort)).0 m.1)
  sound c nothing r h = h

  pub all-sound : (c : Context) (es : Expressions) (sorts : List ℕ) (ts : List TermTree) → Picked (all_readings c es) sorts ts
      → AreReadings c es (terms ts) sorts
  all-sound c no_expressions [] [] p = tt
  all-sound c no_expressions [] (t ∷ ts) p = absurd p
  all-sound c no_expressions (s ∷ sorts) ts p = absurd p
  all-sound c (and_expression e es) [] ts p = absurd p
  all-sound c (and_expression e es) (s ∷ sorts) [] p = absurd p
  all-sound c (and_expression e es) (s ∷ sorts) (t ∷ ts) p = (
    sound c e (typed t s) (of_sort-sound s (readings c e) t p.0),
    all-sound c es sorts ts p.1,
  )

-- the other way
given-applied : (c : Context) (name : List ℕ) (es : Expressions) (t : TermTree) (sort f : ℕ) (ts : TermTrees) (o : Option Operation)
    → t ≡ apply f ts → OnSome o (λ d. IsSameName d.name name × (d.result ≡ sort) × AreReadings c es ts d.args)
    → ((sorts : List ℕ) → AreReadings c es ts sorts → (us : List TermTree) × (terms us ≡ ts) × Picked (all_readings c es) sorts us)
    → OnSome o (Given name (all_readings c es) t sort (0 + f))
given-applied c name es t sort f ts None e h all = h
given-applied c name es t sort f ts (Some d) e h all =
    let u = all d.args h.2 in
    let z : f ≡ 0 + f = omega arith in
    (h.0, h.1, (u.0, (e ∙ ap (λ i. apply i ts) z ∙ ap (λ k. apply (0 + f) k) (sym u.1), u.2)))

given-constant : (name : List ℕ) (t : TermTree) (sort f : ℕ) (o : Option Operation) → t ≡ apply f no_terms
    → OnSome o (λ d. IsSameName d.name name × (d.result ≡ sort) × (d.args ≡ [])) → OnSome o (Given name [] t sort (0 + f))
given-constant name t sort f None e h = h
given-constant name t sort f (Some d) e h =
    let z : f ≡ 0 + f = omega arith in
    (h.0, h.1, ([], (e ∙ ap (λ i. apply i no_terms) z, none-picked d.args h.2)))

complete-name : (c : Context) (name : Token) (t : TermTree) (sort : ℕ) → IsReading c (named name) t sort
    → Found name.text None 0 c.variables → IsOneOf (typed t sort) (readings c (named name))
complete-name c name t sort (inl h) (missing n q) = absurd (no-variable name.text c.variables h.0 sort n h.2)
complete-name c name t sort (inl h) (found x s v q) =
    let k = one-variable name.text c.variables h.0 x sort s h.2 v in
    let z : x ≡ 0 + x = omega arith in
    let e : typed t sort ≡ typed (variable (0 + x)) s = ap (λ u. typed u sort) (h.1 ∙ ap (λ i. variable i) (k.0 ∙ z))
    ∙ ap (λ r. typed (variable (0 + x)) r) k.1 in
    subst (λ z. IsOneOf (typed t sort) (name_readings z (of_operations name.text [] 0 c.operations))) (sym q) (inl e)
complete-name c name t sort (inr h) (missing n q) =
    subst (λ z. IsOneOf (typed t sort) (name_readings z (of_operations name.text [] 0 c.operations))) (sym q)
    (operations-complete name.text [] 0 c.operations t sort h.1.0 (given-constant name.text t sort h.1.0 (slice_get c.operations h.1.0)
    h.1.1 h.1.2))
complete-name c name t sort (inr h) (found x s v q) = absurd (no-variable name.text c.variables x s h.0 v)

mutual
  pub complete : (c : Context) (e : Expression) (t : TermTree) (sort : ℕ) → IsReading c e t sort → IsOneOf (typed t sort) (readings c e)
  complete c (named name) t sort h = complete-name c name t sort h (find name.text None 0 c.variables)
  complete c (applied position name es) t sort h =
      operations-complete (spelling position name.text) (all_readings c es) 0 c.operations t sort h.0
      (given-applied c (spelling position name.text) es t sort h.0 h.1 (slice_get c.operations h.0) h.2 h.3
      (λ sorts a. all-complete c es h.1 sorts a))
  complete c (said e name) t sort h =
      those-complete (λ s. is_name_of name.text (slice_get c.sorts s)) (readings c e) (typed t sort) (complete c e t sort h.0)
      ((named-sort c.sorts name.text (slice_get c.sorts sort)).1 h.1)
  complete c nothing t sort h = absurd h

  pub all-complete : (c : Context) (es : Expressions) (ts : TermTrees) (sorts : List ℕ) → AreReadings c es ts sorts
      → (us : List TermTree) × (terms us ≡ ts) × Picked (all_readings c es) sorts us
  all-complete c no_expressions no_terms [] h = ([], refl, tt)
  all-complete c no_expressions no_terms (s ∷ sorts) h = absurd h
  all-complete c no_expressions (and_term t ts) sorts h = absurd h
  all-complete c (and_expression e es) no_terms sorts h = absurd h
  all-complete c (and_expression e es) (and_term t ts) [] h = absurd h
  all-complete c (and_expression e es) (and_term t ts) (s ∷ sorts) h =
      let u = all-complete c es ts sorts h.1 in
      (t ∷ u.0, ap (and_term t) u.1, (of_sort-complete s (readings c e) t (complete c e t s h.0), u.2))
