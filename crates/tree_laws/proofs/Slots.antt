-- The values that open fields may have: none stands twice, and a tree shows those that it has.
use Rattle.std.proofs.Common.{ℕ, ◌≡◌, ◌∙◌, ◌++◌, ◌||◌, not, inl, inr, refl, sym, ap, subst, List, [], ◌∷◌, map, flat_map, Option, Some}
use Rattle.std.proofs.Common.{None}
use Rattle.std.proofs.Common.{Bool, true, false, if◌then◌else◌}
use Rattle.std.specs.Str.{bytes_eq}
use Rattle.std.proofs.lemmas.Slice.Eq.{bytes_eq-Decides}
use Rattle.spec_core.specs.Lists.{Each, IsOneOf}
use Rattle.spec_core.specs.Theories.{Theory}
use Rattle.spec_core.proofs.Members.{from_flat_map, from_map, one_parts}
use Rattle.rule_model.specs.declared.rules.Slot.{Slot}
use Rattle.rule_model.specs.declared.rules.Slot.TheVariants.{Of, Mark}
use Rattle.symbolic_rules.specs.Windows.{Windows, sort_of_value}
use Rattle.symbolic_composites.specs.OpenFields.{OpenField, fixed, blank, mark_unless, is_listed, unless_listed, window_slots, choices}
use Rattle.symbolic_composites.specs.OpenFields.{all_choices, is_marked, any_marked, one_each}
use Rattle.symbolic_plans.specs.Plans.{taken_slots}
use Rattle.tree_laws.specs.Laws.{AllDiffer, WindowsDiffer}
use Rattle.tree_laws.proofs.Differing.{differ_append, differ_flat, differ_map, one_of_single}

-- the values of a window, what an offer gives, and the mark

of_same : (v u : List ℕ) → Of v ≡ Of u → v ≡ u
of_same v u e = cc

no_mark : (v : List ℕ) → Of v ≡ Mark → ⊥
no_mark v e = cc

not_taken : false ≡ true → ⊥
not_taken e = cc

marks_differ : (b : Bool) → AllDiffer (mark_unless b)
marks_differ true = tt
marks_differ false = (tt, tt)

marks_apart : (v : List ℕ) (b : Bool) → IsOneOf (Of v) (mark_unless b) → ⊥
marks_apart v true o = o
marks_apart v false (inl e) = no_mark v e
marks_apart v false (inr o) = o

is_of : (vs : List (List ℕ)) (s : Slot) (b : Bool) → IsOneOf s (map Of vs) → IsOneOf s (mark_unless b) → ⊥
is_of vs s b o p = let k = from_map Of vs s o in marks_apart k.0 b (subst (λ z. IsOneOf z (mark_unless b)) k.2 p)

listed : (v : List ℕ) (vs : List (List ℕ)) → IsOneOf v vs → is_listed v vs ≡ true
listed v [] o = absurd o
listed v (u ∷ vs) (inl e) = ap (λ b. b || is_listed v vs) ((bytes_eq-Decides u v).1 (sym e))
listed v (u ∷ vs) (inr o) = by_first (bytes_eq u v) (listed v vs o)
  where
    by_first : (b : Bool) → is_listed v vs ≡ true → (b || is_listed v vs) ≡ true
    by_first true e = refl
    by_first false e = e

given_differ : (vs : List (List ℕ)) (given : Option (List ℕ)) → AllDiffer (unless_listed vs given)
given_differ vs None = tt
given_differ vs (Some v) = by_test (is_listed v vs)
  where
    by_test : (b : Bool) → AllDiffer (if b then [] else Of v ∷ [])
    by_test true = tt
    by_test false = (tt, tt)

given_apart : (vs : List (List ℕ)) (given : Option (List ℕ)) (u : List ℕ) → IsOneOf u vs → IsOneOf (Of u) (unless_listed vs given) → ⊥
given_apart vs None u o p = p
given_apart vs (Some v) u o p = by_test (is_listed v vs) refl p
  where
    by_test : (b : Bool) → is_listed v vs ≡ b → IsOneOf (Of u) (if b then [] else Of v ∷ []) → ⊥
    by_test true e k = k
    by_test false e (inl k) =
        not_taken (sym e ∙ listed v vs (subst (λ z. IsOneOf z vs) (of_same u v k) o))
    by_test false e (inr k) = k

given_is_of : (vs : List (List ℕ)) (given : Option (List ℕ)) (s : Slot) (b : Bool) → IsOneOf s (unless_listed vs given) →
    IsOneOf s (mark_unless b) → ⊥
given_is_of vs None s b o p = o
given_is_of vs (Some v) s b o p = by_test (is_listed v vs) o
  where
    by_test : (c : Bool) → IsOneOf s (if c then [] else Of v ∷ []) → ⊥
    by_test true k = k
    by_test false (inl k) = marks_apart v b (subst (λ z. IsOneOf z (mark_unless b)) k p)
    by_test false (inr k) = k

values_differ : (vs : List (List ℕ)) → AllDiffer vs → AllDiffer (map Of vs)
values_differ vs h = differ_map Of vs of_same h

-- each choice is one slot
abbrev pub IsSingle : List Slot → Type 0
IsSingle c = (s : Slot) × (c ≡ s ∷ [])

single_same : (c d : List Slot) (s t : Slot) → IsSingle c → IsSingle d → IsOneOf s c → IsOneOf t d → s ≡ t → c ≡ d
single_same c d s t x y o p e =
    let a = one_of_single s x.0 (subst (IsOneOf s) x.1 o) in
    let b = one_of_single t y.0 (subst (IsOneOf t) y.1 p) in
    x.1 ∙ ap (λ z. z ∷ []) (sym a ∙ e ∙ b) ∙ sym y.1

-- a field is open where it has a blank that no expression tells, and no mark is given for it
abbrev pub IsOpen : OpenField → Type 0
IsOpen (fixed m v) = ⊥
IsOpen (blank true sort) = ⊥
IsOpen (blank false sort) = Unit {0}

-- each open field takes a value
abbrev pub AllTaken : List OpenField → List Bool → Type 0
AllTaken [] [] = Unit {0}
AllTaken [] (t ∷ takes) = ⊥
AllTaken (f ∷ fs) [] = ⊥
AllTaken (f ∷ fs) (t ∷ takes) = (IsOpen f → t ≡ true) × AllTaken fs takes

abbrev pub NoneOpen : List OpenField → Type 0
NoneOpen fs = Each (λ f. IsOpen f → ⊥) fs

-- two lists of choices agree at the open fields
abbrev pub AgreeOpen : List OpenField → List (List Slot) → List (List Slot) → Type 0
AgreeOpen [] cs ds = Unit {0}
AgreeOpen (f ∷ fs) [] ds = Unit {0}
AgreeOpen (f ∷ fs) (c ∷ cs) [] = Unit {0}
AgreeOpen (f ∷ fs) (c ∷ cs) (d ∷ ds) = (IsOpen f → c ≡ d) × AgreeOpen fs cs ds

pub none_agree : (fs : List OpenField) (cs ds : List (List Slot)) → NoneOpen fs → AgreeOpen fs cs ds
none_agree [] cs ds h = tt
none_agree (f ∷ fs) [] ds h = tt
none_agree (f ∷ fs) (c ∷ cs) [] h = tt
none_agree (f ∷ fs) (c ∷ cs) (d ∷ ds) h = ((λ o. absurd (h.0 o)), none_agree fs cs ds h.1)

first_same : (a b : Slot) (xs ys : List Slot) → a ∷ xs ≡ b ∷ ys → a ≡ b
first_same a b xs ys e = cc

rest_same : (a b : Slot) (xs ys : List Slot) → a ∷ xs ≡ b ∷ ys → xs ≡ ys
rest_same a b xs ys e = cc

-- what is taken is shown
pub taken_agree : (fs : List OpenField) (takes : List Bool) (cs ds : List (List Slot)) (slots : List Slot) → AllTaken fs takes →
    Each IsSingle cs → Each IsSingle ds → IsOneOf slots (taken_slots takes cs) → IsOneOf slots (taken_slots takes ds) → AgreeOpen fs cs ds
taken_agree [] takes cs ds slots h x y o p = tt
taken_agree (f ∷ fs) takes [] ds slots h x y o p = tt
taken_agree (f ∷ fs) takes (c ∷ cs) [] slots h x y o p = tt
taken_agree (f ∷ fs) [] (c ∷ cs) (d ∷ ds) slots h x y o p = absurd h
taken_agree (f ∷ fs) (false ∷ takes) (c ∷ cs) (d ∷ ds) slots h x y o p =
    ((λ k. absurd (not_taken (h.0 k))), taken_agree fs takes cs ds slots h.1 x.1 y.1 o p)
taken_agree (f ∷ fs) (true ∷ takes) (c ∷ cs) (d ∷ ds) slots h x y o p =
    let a = from_flat_map (λ slot. map (λ others. slot ∷ others) (taken_slots takes cs)) c slots o in
    let b = from_flat_map (λ slot. map (λ others. slot ∷ others) (taken_slots takes ds)) d slots p in
    let k = from_map (λ others. a.0 ∷ others) (taken_slots takes cs) slots a.2 in
    let l = from_map (λ others. b.0 ∷ others) (taken_slots takes ds) slots b.2 in
    let same : a.0 ∷ k.0 ≡ b.0 ∷ l.0 = sym k.2 ∙ l.2 in (
      (λ i. single_same c d a.0 b.0 x.0 y.0 a.1 b.1 (first_same a.0 b.0 k.0 l.0 same)),
      taken_agree fs takes cs ds k.0 h.1 x.1 y.1 k.1
          (subst (λ z. IsOneOf z (taken_slots takes ds)) (sym (rest_same a.0 b.0 k.0 l.0 same)) l.1),
    )

pub taken_differ : (takes : List Bool) (cs : List (List Slot)) → Each AllDiffer cs → AllDiffer (taken_slots takes cs)
taken_differ [] cs h = (tt, tt)
taken_differ (false ∷ takes) [] h = tt
taken_differ (true ∷ takes) [] h = tt
taken_differ (false ∷ takes) (c ∷ cs) h = taken_differ takes cs h.1
taken_differ (true ∷ takes) (c ∷ cs) h =
    differ_flat (λ slot. map (λ others. slot ∷ others) (taken_slots takes cs)) c h.0
    (λ slot o. differ_map (λ others. slot ∷ others) (taken_slots takes cs) (rest_same slot slot) (taken_differ takes cs h.1))
    (λ a b slots o p k l.
    let x = from_map (λ others. a ∷ others) (taken_slots takes cs) slots k in
    let y = from_map (λ others. b ∷ others) (taken_slots takes cs) slots l in
    first_same a b x.0 y.0 (sym x.2 ∙ y.2))

pub each_single : (cs : List (List Slot)) (c : List (List Slot)) → IsOneOf c (one_each cs) → Each IsSingle c
each_single [] c (inl e) = subst (Each IsSingle) (sym e) tt
each_single [] c (inr o) = absurd o
each_single (slots ∷ cs) c o =
    let a = from_flat_map (λ slot. map (λ others. (slot ∷ []) ∷ others) (one_each cs)) slots c o in
    let k = from_map (λ others. (a.0 ∷ []) ∷ others) (one_each cs) c a.2 in
    subst (Each IsSingle) (sym k.2) ((a.0, refl), each_single cs k.0 k.1)

choice_same : (a b : Slot) (xs ys : List (List Slot)) → (a ∷ []) ∷ xs ≡ (b ∷ []) ∷ ys → a ≡ b
choice_same a b xs ys e = cc

choices_same : (a b : Slot) (xs ys : List (List Slot)) → (a ∷ []) ∷ xs ≡ (b ∷ []) ∷ ys → xs ≡ ys
choices_same a b xs ys e = cc

pub one_each_differ : (cs : List (List Slot)) → Each AllDiffer cs → AllDiffer (one_each cs)
one_each_differ [] h = (tt, tt)
one_each_differ (slots ∷ cs) h =
    differ_flat (λ slot. map (λ others. (slot ∷ []) ∷ others) (one_each cs)) slots h.0
    (λ slot o. differ_map (λ others. (slot ∷ []) ∷ others) (one_each cs) (choices_same slot slot) (one_each_differ cs h.1))
    (λ a b c o p k l.
    let x = from_map (λ others. (a ∷ []) ∷ others) (one_each cs) c k in
    let y = from_map (λ others. (b ∷ []) ∷ others) (one_each cs) c l in
    choice_same a b x.0 y.0 (sym x.2 ∙ y.2))

module _ (theory : Theory) (w : Windows) where
  -- a field that isn't open, and for which no mark is given, has one value
  fixed_one : (offered : Option (List ℕ)) (f : OpenField) (s t : Slot) → is_marked f ≡ false → (IsOpen f → s ≡ t) →
      IsOneOf s (choices theory w offered f) → IsOneOf t (choices theory w offered f) → s ≡ t
  fixed_one offered (fixed true v) s t e h o p = absurd (not_taken (sym e))
  fixed_one offered (fixed false v) s t e h o p = one_of_single s (Of v) o ∙ sym (one_of_single t (Of v) p)
  fixed_one offered (blank true sort) s t e h o p = absurd (not_taken (sym e))
  fixed_one offered (blank false sort) s t e h o p = h tt

  left_no : (b c : Bool) → (b || c) ≡ false → b ≡ false
  left_no true c e = e
  left_no false c e = refl

  right_no : (b c : Bool) → (b || c) ≡ false → c ≡ false
  right_no true c e = absurd (not_taken (sym e))
  right_no false c e = e

  one_more : (given : Option (List ℕ)) (offered : List (Option (List ℕ))) (f : OpenField) (fs : List OpenField) (cs ds : List (List Slot)) →
      any_marked (f ∷ fs) ≡ false →
      ((xs ys : List (List Slot)) → IsOneOf xs (one_each (all_choices theory w offered fs)) →
      IsOneOf ys (one_each (all_choices theory w offered fs)) → AgreeOpen fs xs ys → xs ≡ ys) →
      IsOneOf cs (one_each (choices theory w given f ∷ all_choices theory w offered fs)) →
      IsOneOf ds (one_each (choices theory w given f ∷ all_choices theory w offered fs)) → AgreeOpen (f ∷ fs) cs ds → cs ≡ ds
  one_more given offered f fs cs ds e others o p h =
      let rest = one_each (all_choices theory w offered fs) in
      let a = from_flat_map (λ slot. map (λ xs. (slot ∷ []) ∷ xs) rest) (choices theory w given f) cs o in
      let b = from_flat_map (λ slot. map (λ xs. (slot ∷ []) ∷ xs) rest) (choices theory w given f) ds p in
      let k = from_map (λ xs. (a.0 ∷ []) ∷ xs) rest cs a.2 in
      let l = from_map (λ xs. (b.0 ∷ []) ∷ xs) rest ds b.2 in
      let agree : AgreeOpen (f ∷ fs) ((a.0 ∷ []) ∷ k.0) ((b.0 ∷ []) ∷ l.0) =
      subst (λ z. AgreeOpen (f ∷ fs) z ((b.0 ∷ []) ∷ l.0)) k.2 (subst (AgreeOpen (f ∷ fs) cs) l.2 h) in
      let first : a.0 ≡ b.0 = fixed_one given f a.0 b.0 (left_no (is_marked f) (any_marked fs) e)
      (λ i. first_same a.0 b.0 [] [] (agree.0 i)) a.1 b.1 in
      let more : k.0 ≡ l.0 = others k.0 l.0 k.1 l.1 agree.1 in
      k.2 ∙ ap (λ z. (z ∷ []) ∷ k.0) first ∙ ap (λ z. (b.0 ∷ []) ∷ z) more ∙ sym l.2

  -- choices that agree at the open fields are the same
  pub agree_same : (offered : List (Option (List ℕ))) (fs : List OpenField) (cs ds : List (List Slot)) → any_marked fs ≡ false →
      IsOneOf cs (one_each (all_choices theory w offered fs)) → IsOneOf ds (one_each (all_choices theory w offered fs)) →
      AgreeOpen fs cs ds → cs ≡ ds
  agree_same offered [] cs ds e o p h = one_of_single cs [] o ∙ sym (one_of_single ds [] p)
  agree_same [] (f ∷ fs) cs ds e o p h =
      one_more None [] f fs cs ds e
      (λ xs ys x y k. agree_same [] fs xs ys (right_no (is_marked f) (any_marked fs) e) x y k) o p h
  agree_same (given ∷ offered) (f ∷ fs) cs ds e o p h =
      one_more given offered f fs cs ds e
      (λ xs ys x y k. agree_same offered fs xs ys (right_no (is_marked f) (any_marked fs) e) x y k) o p h

  module _ (windows : WindowsDiffer w) where
    pub window_slots_differ : (sort : ℕ) → AllDiffer (window_slots w sort)
    window_slots_differ sort =
        differ_append (map Of (w.values sort)) (mark_unless (w.complete sort)) (values_differ (w.values sort) (windows sort))
        (marks_differ (w.complete sort)) (λ s o p. is_of (w.values sort) s (w.complete sort) o p)

    choices_differ : (given : Option (List ℕ)) (f : OpenField) → AllDiffer (choices theory w given f)
    choices_differ given (fixed m v) =
        let b = not m || w.complete (sort_of_value theory v) in
        differ_append (Of v ∷ []) (mark_unless b) (tt, tt) (marks_differ b)
        (λ s o p. marks_apart v b (subst (λ z. IsOneOf z (mark_unless b)) (one_of_single s (Of v) o) p))
    choices_differ given (blank m sort) =
        let vs = w.values sort in
        let b = w.complete sort in
        differ_append (map Of vs) (unless_listed vs given ++ mark_unless b) (values_differ vs (windows sort))
        (differ_append (unless_listed vs given) (mark_unless b) (given_differ vs given) (marks_differ b)
        (λ s o p. given_is_of vs given s b o p))
        (λ s o p. elim (one_parts s (unless_listed vs given) (mark_unless b) p) [
          | inl q ↦ let k = from_map Of vs s o in given_apart vs given k.0 k.1 (subst (λ z. IsOneOf z (unless_listed vs given)) k.2 q)
          | inr q ↦ is_of vs s b o q
        ])

    pub all_choices_differ : (offered : List (Option (List ℕ))) (fs : List OpenField) → Each AllDiffer (all_choices theory w offered fs)
    all_choices_differ offered [] = tt
    all_choices_differ [] (f ∷ fs) = (choices_differ None f, all_choices_differ [] fs)
    all_choices_differ (given ∷ offered) (f ∷ fs) = (choices_differ given f, all_choices_differ offered fs)
