-- Open fields, and the fields of a tree: which fit, and which values are enough.
use Rattle.std.proofs.Common.{ℕ, ◌≡◌, ◌==◌, inl, inr, ◌++◌, ◌||◌, not, List, [], ◌∷◌, map, refl, sym, ap, subst, ◌∙◌, Option, Some, None}
use Rattle.std.proofs.Common.{Bool, true, false, if◌then◌else◌, Contains, flat_map, option_map, option_and_then}
use Rattle.std.specs.Str.{bytes_eq}
use Rattle.std.proofs.lemmas.Bool.{or_left, or_from, or_right}
use Rattle.std.proofs.lemmas.Slice.Eq.{bytes_eq-Decides}
use Rattle.spec_core.specs.Lists.{Each, IsOneOf}
use Rattle.spec_core.specs.Theories.{Theory}
use Rattle.spec_core.proofs.Members.{one_flat_map, one_left, one_map, one_right}
use Rattle.rule_model.specs.declared.offer.Field.{Field}
use Rattle.rule_model.specs.declared.offer.Field.TheVariants.{Give, Take}
use Rattle.rule_model.specs.declared.offer.Offer.{Offer}
use Rattle.rule_model.specs.declared.rules.Slot.{Slot}
use Rattle.rule_model.specs.declared.rules.Slot.TheVariants.{Of, Mark}
use Rattle.rule_model.specs.Actions.{Kind}
use Rattle.symbolic_rules.specs.Windows.{Windows, sort_of_value}
use Rattle.symbolic_rules.specs.MarkedFields.{MarkedField, told, chosen, given, free, Agree, AllAgree, IsWithin}
use Rattle.symbolic_rules.specs.Trees.{FieldMayMeet, FieldsMayMeet, MayMeet}
use Rattle.symbolic_composites.specs.OpenFields.{OpenField, fixed, blank, together, all_together, mark_unless, is_listed, unless_listed, choices}
use Rattle.symbolic_composites.specs.OpenFields.{all_choices, given_in, is_marked, any_marked, one_each, choices_at_once}
use Rattle.symbolic_composites.specs.TreeLists.{offered}
use Rattle.symbolic_composites.proofs.Lists.{one_contained}
use Rattle.symbolic_composites.proofs.Tests.{if_true, same_value, same_number}

module _ (theory : Theory) (w : Windows) where
  -- a field of a tree is one of those that the open field leaves open
  abbrev pub Fits : OpenField → MarkedField → Type 0
  Fits (fixed m v) (told u) = v ≡ u
  Fits (fixed m v) (chosen u) = ⊥
  Fits (fixed m v) (given sort) = ⊥
  Fits (fixed m v) (free sort) = ⊥
  Fits (blank m sort) (told u) = ⊥
  Fits (blank m sort) (chosen v) = sort_of_value theory v ≡ sort
  Fits (blank m sort) (given other) = (m ≡ true) × (other ≡ sort)
  Fits (blank m sort) (free other) = (m ≡ false) × (other ≡ sort) × (w.complete sort ≡ false)

  abbrev pub AllFit : List OpenField → List MarkedField → Type 0
  AllFit [] [] = Unit {0}
  AllFit (c ∷ cs) (f ∷ fs) = Fits c f × AllFit cs fs
  AllFit [] (f ∷ fs) = ⊥
  AllFit (c ∷ cs) [] = ⊥

  -- the mark is one of these, where the sort has one
  abbrev HasMark : ℕ → List Slot → Type 0
  HasMark sort slots = w.complete sort ≡ false → IsOneOf Mark slots

  -- these values are enough for all slots at this place of a tree with such a field
  abbrev pub Suffice : List Slot → OpenField → MarkedField → Type 0
  Suffice slots (fixed m v) f = IsOneOf (Of v) slots × (m ≡ true → HasMark (sort_of_value theory v) slots)
  Suffice slots (blank m sort) (chosen v) = IsOneOf (Of v) slots × (m ≡ true → HasMark sort slots)
  Suffice slots (blank m sort) (told v) = HasMark sort slots
  Suffice slots (blank m sort) (given other) = HasMark sort slots
  Suffice slots (blank m sort) (free other) = HasMark sort slots

  abbrev pub AllSuffice : List (List Slot) → List OpenField → List MarkedField → Type 0
  AllSuffice [] [] [] = Unit {0}
  AllSuffice (slots ∷ choices) (c ∷ cs) (f ∷ fs) = Suffice slots c f × AllSuffice choices cs fs
  AllSuffice _ _ _ = ⊥

  mark_as : (s t : ℕ) (slots : List Slot) → s ≡ t → HasMark s slots → HasMark t slots
  mark_as s t slots e k i = k (subst (λ z. w.complete z ≡ false) (sym e) i)

  value_as : (u v : List ℕ) (slots : List Slot) → u ≡ v → IsOneOf (Of u) slots → IsOneOf (Of v) slots
  value_as u v slots e k = subst (λ z. IsOneOf (Of z) slots) e k

  sort_as : (u v : List ℕ) → u ≡ v → sort_of_value theory u ≡ sort_of_value theory v
  sort_as u v e = ap (sort_of_value theory) e

  -- what fits two fields that agree fits them together, and what is enough for them together is enough for each
  abbrev Meeting : OpenField → OpenField → MarkedField → MarkedField → MarkedField → Type 0
  Meeting c d f g h =
      (e : OpenField) × (together theory c d ≡ Some e) × Fits e h ×
      ((slots : List Slot) → Suffice slots e h → Suffice slots c f × Suffice slots d g)

  fit_together : (c d : OpenField) (f g h : MarkedField) → Fits c f → Fits d g → Agree theory f g h → Meeting c d f g h
  fit_together (fixed m a) (fixed n b) (told v) (told u) h p q r =
      let same : a ≡ b = p ∙ r.0 ∙ sym q in
      subst (Meeting (fixed m a) (fixed n b) (told v) (told u)) (sym r.1) (
        fixed (m || n) a,
        if_true (bytes_eq a b) (Some (fixed (m || n) a)) None (same_value a b same),
        p,
        λ slots k. (
          (k.0, λ i. k.1 (or_left m n i)),
          (
            value_as a b slots same k.0,
            λ i. mark_as (sort_of_value theory a) (sort_of_value theory b) slots (sort_as a b same) (k.1 (or_right m n i)),
          ),
        ),
      )
  fit_together (fixed m a) (blank n s) (told v) (chosen u) h p q r =
      let same : sort_of_value theory a ≡ s = sort_as a u (p ∙ r.0) ∙ q in
      subst (Meeting (fixed m a) (blank n s) (told v) (chosen u)) (sym r.1) (
        fixed (m || n) a,
        if_true (sort_of_value theory a == s) (Some (fixed (m || n) a)) None (same_number (sort_of_value theory a) s same),
        p,
        λ slots k. (
          (k.0, λ i. k.1 (or_left m n i)),
          (value_as a u slots (p ∙ r.0) k.0, λ i. mark_as (sort_of_value theory a) s slots same (k.1 (or_right m n i))),
        ),
      )
  fit_together (fixed m a) (blank n s) (told v) (given t) h p q r =
      let same : sort_of_value theory a ≡ s = sort_as a v p ∙ r.0 ∙ q.1 in
      subst (Meeting (fixed m a) (blank n s) (told v) (given t)) (sym r.1) (
        fixed (m || n) a,
        if_true (sort_of_value theory a == s) (Some (fixed (m || n) a)) None (same_number (sort_of_value theory a) s same),
        p,
        λ slots k. ((k.0, λ i. k.1 (or_left m n i)), mark_as (sort_of_value theory a) s slots same (k.1 (or_right m n q.0))),
      )
  fit_together (blank m s) (fixed n b) (chosen v) (told u) h p q r =
      let same : sort_of_value theory b ≡ s = sort_as b v (q ∙ sym r.0) ∙ p in
      subst (Meeting (blank m s) (fixed n b) (chosen v) (told u)) (sym r.1) (
        fixed (m || n) b,
        if_true (sort_of_value theory b == s) (Some (fixed (m || n) b)) None (same_number (sort_of_value theory b) s same),
        q ∙ sym r.0,
        λ slots k. (
          (value_as b v slots (q ∙ sym r.0) k.0, λ i. mark_as (sort_of_value theory b) s slots same (k.1 (or_left m n i))),
          (k.0, λ i. k.1 (or_right m n i)),
        ),
      )
  fit_together (blank m s) (blank n t) (chosen v) (chosen u) h p q r =
      let same : s ≡ t = sym p ∙ sort_as v u r.0 ∙ q in
      subst (Meeting (blank m s) (blank n t) (chosen v) (chosen u)) (sym r.1) (
        blank (m || n) s,
        if_true (s == t) (Some (blank (m || n) s)) None (same_number s t same),
        p,
        λ slots k. ((k.0, λ i. k.1 (or_left m n i)), (value_as v u slots r.0 k.0, λ i. mark_as s t slots same (k.1 (or_right m n i)))),
      )
  fit_together (blank m s) (blank n t) (chosen v) (given x) h p q r =
      let same : s ≡ t = sym p ∙ r.0 ∙ q.1 in
      subst (Meeting (blank m s) (blank n t) (chosen v) (given x)) (sym r.1) (
        blank (m || n) s,
        if_true (s == t) (Some (blank (m || n) s)) None (same_number s t same),
        p,
        λ slots k. ((k.0, λ i. k.1 (or_left m n i)), mark_as s t slots same (k.1 (or_right m n q.0))),
      )
  fit_together (blank m s) (fixed n b) (given x) (told u) h p q r =
      let same : sort_of_value theory b ≡ s = sort_as b u q ∙ r.0 ∙ p.1 in
      subst (Meeting (blank m s) (fixed n b) (given x) (told u)) (sym r.1) (
        fixed (m || n) b,
        if_true (sort_of_value theory b == s) (Some (fixed (m || n) b)) None (same_number (sort_of_value theory b) s same),
        q,
        λ slots k. (mark_as (sort_of_value theory b) s slots same (k.1 (or_left m n p.0)), (k.0, λ i. k.1 (or_right m n i))),
      )
  fit_together (blank m s) (blank n t) (given x) (chosen u) h p q r =
      let same : s ≡ t = sym p.1 ∙ sym r.0 ∙ q in
      subst (Meeting (blank m s) (blank n t) (given x) (chosen u)) (sym r.1) (
        blank (m || n) s,
        if_true (s == t) (Some (blank (m || n) s)) None (same_number s t same),
        q ∙ sym same,
        λ slots k. (k.1 (or_left m n p.0), (k.0, λ i. mark_as s t slots same (k.1 (or_right m n i)))),
      )
  fit_together (blank m s) (blank n t) (given x) (given y) h p q r =
      let same : s ≡ t = sym p.1 ∙ r.0 ∙ q.1 in
      subst (Meeting (blank m s) (blank n t) (given x) (given y)) (sym r.1) (
        blank (m || n) s,
        if_true (s == t) (Some (blank (m || n) s)) None (same_number s t same),
        (or_left m n p.0, p.1),
        λ slots k. (k, mark_as s t slots same k),
      )
  fit_together (blank m s) (blank n t) (given x) (free y) h p q r =
      let same : s ≡ t = sym p.1 ∙ r.0 ∙ q.1 in
      subst (Meeting (blank m s) (blank n t) (given x) (free y)) (sym r.1) (
        blank (m || n) s,
        if_true (s == t) (Some (blank (m || n) s)) None (same_number s t same),
        (or_left m n p.0, p.1),
        λ slots k. (k, mark_as s t slots same k),
      )
  fit_together (blank m s) (blank n t) (free x) (given y) h p q r =
      let same : s ≡ t = sym p.1 ∙ r.0 ∙ q.1 in
      subst (Meeting (blank m s) (blank n t) (free x) (given y)) (sym r.1) (
        blank (m || n) s,
        if_true (s == t) (Some (blank (m || n) s)) None (same_number s t same),
        (or_right m n q.0, p.1),
        λ slots k. (k, mark_as s t slots same k),
      )
  fit_together (blank m s) (blank n t) (free x) (free y) h p q r =
      let same : s ≡ t = sym p.1 ∙ r.0 ∙ q.1 in
      subst (Meeting (blank m s) (blank n t) (free x) (free y)) (sym r.1) (
        blank (m || n) s,
        if_true (s == t) (Some (blank (m || n) s)) None (same_number s t same),
        (or_from m n p.0 q.0, p.1, p.2),
        λ slots k. (k, mark_as s t slots same k),
      )
  fit_together (fixed m a) d (chosen v) g h p q r = absurd p
  fit_together (fixed m a) d (given v) g h p q r = absurd p
  fit_together (fixed m a) d (free v) g h p q r = absurd p
  fit_together (blank m a) d (told v) g h p q r = absurd p
  fit_together c (fixed m a) f (chosen v) h p q r = absurd q
  fit_together c (fixed m a) f (given v) h p q r = absurd q
  fit_together c (fixed m a) f (free v) h p q r = absurd q
  fit_together c (blank m a) f (told v) h p q r = absurd q
  fit_together c d f g h p q r = absurd r

  abbrev pub AllMeeting : List OpenField → List OpenField → List MarkedField → List MarkedField → List MarkedField → Type 0
  AllMeeting cs ds fs gs hs =
      (es : List OpenField) × (all_together theory cs ds ≡ Some es) × AllFit es hs ×
      ((choices : List (List Slot)) → AllSuffice choices es hs → AllSuffice choices cs fs × AllSuffice choices ds gs)

  pub all_fit_together : (cs ds : List OpenField) (fs gs hs : List MarkedField) → AllFit cs fs → AllFit ds gs →
      AllAgree theory fs gs hs → AllMeeting cs ds fs gs hs
  all_fit_together [] [] [] [] hs p q r = subst (AllMeeting [] [] [] []) (sym r) ([], refl, tt, none)
    where
      none : (choices : List (List Slot)) → AllSuffice choices [] [] → AllSuffice choices [] [] × AllSuffice choices [] []
      none [] k = (k, k)
      none (slots ∷ choices) k = absurd k
  all_fit_together (c ∷ cs) (d ∷ ds) (f ∷ fs) (g ∷ gs) (h ∷ hs) p q r =
      let i = fit_together c d f g h p.0 q.0 r.0 in
      let j = all_fit_together cs ds fs gs hs p.1 q.1 r.1 in (
        i.0 ∷ j.0,
        ap (option_and_then (λ e. option_map (λ es. e ∷ es) (all_together theory cs ds))) i.1 ∙ ap (option_map (λ es. i.0 ∷ es)) j.1,
        (i.2, j.2),
        some i.0 j.0 i.3 j.3,
      )
    where
      some : (e : OpenField) (es : List OpenField) →
          ((slots : List Slot) → Suffice slots e h → Suffice slots c f × Suffice slots d g) →
          ((choices : List (List Slot)) → AllSuffice choices es hs → AllSuffice choices cs fs × AllSuffice choices ds gs) →
          (choices : List (List Slot)) → AllSuffice choices (e ∷ es) (h ∷ hs) →
          AllSuffice choices (c ∷ cs) (f ∷ fs) × AllSuffice choices (d ∷ ds) (g ∷ gs)
      some e es a b [] k = absurd k
      some e es a b (slots ∷ choices) k = let i = a slots k.0 in let j = b choices k.1 in ((i.0, j.0), (i.1, j.1))
  all_fit_together [] ds (f ∷ fs) gs hs p q r = absurd p
  all_fit_together (c ∷ cs) ds [] gs hs p q r = absurd p
  all_fit_together cs [] fs (g ∷ gs) hs p q r = absurd q
  all_fit_together cs (d ∷ ds) fs [] hs p q r = absurd q
  all_fit_together cs ds fs gs hs p q r = absurd r

-- the choices of a field are enough

pub mark_stands : (b : Bool) → b ≡ false → IsOneOf Mark (mark_unless b)
mark_stands b e = subst (λ z. IsOneOf Mark (mark_unless z)) (sym e) (inl refl)

listed_stands : (v : List ℕ) (values : List (List ℕ)) → is_listed v values ≡ true → IsOneOf (Of v) (map Of values)
listed_stands v [] e = let n : false ≡ true = e in absurd cc
listed_stands v (u ∷ values) e = by_test (bytes_eq u v) refl (listed_stands v values) e
  where
    by_test : (b : Bool) → bytes_eq u v ≡ b → (is_listed v values ≡ true → IsOneOf (Of v) (map Of values)) →
        b || is_listed v values ≡ true → IsOneOf (Of v) (map Of (u ∷ values))
    by_test true q r i = inl (ap Of (sym ((bytes_eq-Decides u v).0 q)))
    by_test false q r i = inr (r i)

module _ (theory : Theory) (w : Windows) where
  not_or : (m : Bool) (c : Bool) → m ≡ true → c ≡ false → not m || c ≡ false
  not_or m c e i = subst (λ z. not z || c ≡ false) (sym e) i

  fixed_suffices : (o : Option (List ℕ)) (m : Bool) (v : List ℕ) (f : MarkedField) →
      Suffice theory w (choices theory w o (fixed m v)) (fixed m v) f
  fixed_suffices o m v f = (
    inl refl,
    λ i j. inr (mark_stands (not m || w.complete (sort_of_value theory v)) (not_or m (w.complete (sort_of_value theory v)) i j)),
  )

  blank_has_mark : (o : Option (List ℕ)) (m : Bool) (sort : ℕ) → w.complete sort ≡ false →
      IsOneOf Mark (choices theory w o (blank m sort))
  blank_has_mark o m sort i =
      one_right Mark (map Of (w.values sort)) (unless_listed (w.values sort) o ++ mark_unless (w.complete sort))
      (one_right Mark (unless_listed (w.values sort) o) (mark_unless (w.complete sort)) (mark_stands (w.complete sort) i))

  in_window : (o : Option (List ℕ)) (m : Bool) (sort : ℕ) (v : List ℕ) → IsOneOf (Of v) (map Of (w.values sort)) →
      IsOneOf (Of v) (choices theory w o (blank m sort))
  in_window o m sort v h =
      one_left (Of v) (map Of (w.values sort)) (unless_listed (w.values sort) o ++ mark_unless (w.complete sort)) h

  is_offered : (m : Bool) (sort : ℕ) (v : List ℕ) → IsOneOf (Of v) (choices theory w (Some v) (blank m sort))
  is_offered m sort v = by_test (is_listed v (w.values sort)) refl
    where
      by_test : (b : Bool) → is_listed v (w.values sort) ≡ b → IsOneOf (Of v) (choices theory w (Some v) (blank m sort))
      by_test true e = in_window (Some v) m sort v (listed_stands v (w.values sort) e)
      by_test false e =
          one_right (Of v) (map Of (w.values sort)) (unless_listed (w.values sort) (Some v) ++ mark_unless (w.complete sort))
          (one_left (Of v) (unless_listed (w.values sort) (Some v)) (mark_unless (w.complete sort))
          (subst (λ b. IsOneOf (Of v) (if b then [] else Of v ∷ [])) (sym e) (inl refl)))

  within_suffices : (o : Option (List ℕ)) (c : OpenField) (f : MarkedField) → Fits theory w c f → IsWithin theory w f →
      Suffice theory w (choices theory w o c) c f
  within_suffices o (fixed m v) f p h = fixed_suffices o m v f
  within_suffices o (blank m sort) (told v) p h = absurd p
  within_suffices o (blank m sort) (chosen v) p h = (
    in_window o m sort v (one_contained Of (w.values sort) v (subst (λ s. Contains (w.values s) v) p h)),
    λ i. blank_has_mark o m sort,
  )
  within_suffices o (blank m sort) (given other) p h = blank_has_mark o m sort
  within_suffices o (blank m sort) (free other) p h = blank_has_mark o m sort

  -- what lies in its windows is there whatever is offered
  pub all_within_suffice : (others : List (Option (List ℕ))) (cs : List OpenField) (fs : List MarkedField) → AllFit theory w cs fs →
      Each (IsWithin theory w) fs → AllSuffice theory w (all_choices theory w others cs) cs fs
  all_within_suffice others [] [] p h = tt
  all_within_suffice [] (c ∷ cs) (f ∷ fs) p h = (within_suffices None c f p.0 h.0, all_within_suffice [] cs fs p.1 h.1)
  all_within_suffice (o ∷ others) (c ∷ cs) (f ∷ fs) p h = (within_suffices o c f p.0 h.0, all_within_suffice others cs fs p.1 h.1)
  all_within_suffice others [] (f ∷ fs) p h = absurd p
  all_within_suffice others (c ∷ cs) [] p h = absurd p

  given_suffices : (v : List ℕ) (c : OpenField) (f : MarkedField) → Fits theory w c f → FieldMayMeet theory w f (Give v) →
      Suffice theory w (choices theory w (Some v) c) c f
  given_suffices v (fixed m u) f p h = fixed_suffices (Some v) m u f
  given_suffices v (blank m sort) (told u) p h = absurd p
  given_suffices v (blank m sort) (chosen u) p h = (
    subst (λ z. IsOneOf (Of u) (choices theory w (Some z) (blank m sort))) h (is_offered m sort u),
    λ i. blank_has_mark (Some v) m sort,
  )
  given_suffices v (blank m sort) (given other) p h = blank_has_mark (Some v) m sort
  given_suffices v (blank m sort) (free other) p h = absurd h

  taken_is_within : (f : MarkedField) (sort : ℕ) → FieldMayMeet theory w f (Take (record { 0 = sort })) → IsWithin theory w f
  taken_is_within (told v) sort h = h.1
  taken_is_within (chosen v) sort h = h.1
  taken_is_within (given v) sort h = h.1
  taken_is_within (free v) sort h = h.1

  offers_suffice : (cs : List OpenField) (fs : List MarkedField) (fields : List Field) → AllFit theory w cs fs →
      FieldsMayMeet theory w fs fields → AllSuffice theory w (all_choices theory w (given_in fields) cs) cs fs
  offers_suffice [] [] fields p h = tt
  offers_suffice (c ∷ cs) (f ∷ fs) (Give v ∷ fields) p h = (given_suffices v c f p.0 h.0, offers_suffice cs fs fields p.1 h.1)
  offers_suffice (c ∷ cs) (f ∷ fs) (Take sort ∷ fields) p h =
      (within_suffices None c f p.0 (taken_is_within f sort.0 h.0), offers_suffice cs fs fields p.1 h.1)
  offers_suffice (c ∷ cs) (f ∷ fs) [] p h = absurd h
  offers_suffice [] (f ∷ fs) fields p h = absurd p
  offers_suffice (c ∷ cs) [] fields p h = absurd p

  -- what may be seen for an offer is enough for each tree that is seen for it
  pub seen_suffices : (o : Option Offer) (k : Kind) (cs : List OpenField) (fs : List MarkedField) → AllFit theory w cs fs →
      MayMeet theory w k fs o → AllSuffice theory w (all_choices theory w (offered o) cs) cs fs
  seen_suffices None k cs fs p h = all_within_suffice [] cs fs p h
  seen_suffices (Some offer) k cs fs p h = offers_suffice cs fs offer.fields p h.1

-- where no expression gives a mark, one value of each field is enough

module _ (theory : Theory) (w : Windows) where
  unmarked_only : (m : Bool) → m ≡ false → m ≡ true → ⊥
  unmarked_only m e i = let n : false ≡ true = sym e ∙ i in absurd cc

  one_suffices : (slots : List Slot) (c : OpenField) (f : MarkedField) → is_marked c ≡ false → Fits theory w c f →
      Suffice theory w slots c f → (slot : Slot) × IsOneOf slot slots × Suffice theory w (slot ∷ []) c f
  one_suffices slots (fixed m v) (told u) e p k = (Of v, k.0, (inl refl, λ i. absurd (unmarked_only m e i)))
  one_suffices slots (blank m sort) (chosen v) e p k = (Of v, k.0, (inl refl, λ i. absurd (unmarked_only m e i)))
  one_suffices slots (blank m sort) (given other) e p k = absurd (unmarked_only m e p.0)
  one_suffices slots (blank m sort) (free other) e p k = (Mark, k p.2, λ i. inl refl)
  one_suffices slots (fixed m v) (chosen u) e p k = absurd p
  one_suffices slots (fixed m v) (given u) e p k = absurd p
  one_suffices slots (fixed m v) (free u) e p k = absurd p
  one_suffices slots (blank m sort) (told u) e p k = absurd p

  abbrev OneEach : List (List Slot) → List OpenField → List MarkedField → Type 0
  OneEach choices cs fs = (those : List (List Slot)) × IsOneOf those (one_each choices) × AllSuffice theory w those cs fs

  one_each_suffices : (choices : List (List Slot)) (cs : List OpenField) (fs : List MarkedField) → any_marked cs ≡ false →
      AllFit theory w cs fs → AllSuffice theory w choices cs fs → OneEach choices cs fs
  one_each_suffices [] [] [] e p k = ([], inl refl, tt)
  one_each_suffices (slots ∷ choices) (c ∷ cs) (f ∷ fs) e p k =
      let h = neither (is_marked c) (any_marked cs) e in
      let one = one_suffices slots c f h.0 p.0 k.0 in
      let others = one_each_suffices choices cs fs h.1 p.1 k.1 in (
        (one.0 ∷ []) ∷ others.0,
        one_flat_map (λ slot. map (λ those. (slot ∷ []) ∷ those) (one_each choices)) one.0 slots ((one.0 ∷ []) ∷ others.0) one.1
            (one_map (λ those. (one.0 ∷ []) ∷ those) others.0 (one_each choices) others.1),
        (one.2, others.2),
      )
    where
      neither : (a b : Bool) → a || b ≡ false → (a ≡ false) × (b ≡ false)
      neither true b i = let n : true ≡ false = i in absurd cc
      neither false b i = (refl, i)
  one_each_suffices [] [] (f ∷ fs) e p k = absurd p
  one_each_suffices [] (c ∷ cs) fs e p k = absurd k
  one_each_suffices (slots ∷ choices) [] fs e p k = absurd k
  one_each_suffices (slots ∷ choices) (c ∷ cs) [] e p k = absurd p

  -- what the fields may have at once is enough
  pub at_once_suffices : (choices : List (List Slot)) (cs : List OpenField) (fs : List MarkedField) → AllFit theory w cs fs →
      AllSuffice theory w choices cs fs →
      (those : List (List Slot)) × IsOneOf those (choices_at_once cs choices) × AllSuffice theory w those cs fs
  at_once_suffices choices cs fs p k = by_test (any_marked cs) refl
    where
      by_test : (b : Bool) → any_marked cs ≡ b →
          (those : List (List Slot)) × IsOneOf those (if b then choices ∷ [] else one_each choices) × AllSuffice theory w those cs fs
      by_test true e = (choices, inl refl, k)
      by_test false e = one_each_suffices choices cs fs e p k
