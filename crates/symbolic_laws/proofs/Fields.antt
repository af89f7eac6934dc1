-- The fields of an action, loosened.
use Rattle.std.proofs.Common.{ℕ, ◌≡◌, ◌∙◌, ◌⊎◌, ◌||◌, refl, sym, ap, subst, inl, inr, List, [], ◌∷◌, Bool, true, false, not, if◌then◌else◌}
use Rattle.std.proofs.Common.{Contains}
use Rattle.std.proofs.lemmas.Bool.{or_cases, or_left, both_ways, or_right}
use Rattle.spec_core.specs.Lists.{Each}
use Rattle.spec_core.specs.Terms.{TermTree, instance, preorder}
use Rattle.spec_core.specs.Theories.{Theory}
use Rattle.spec_core.specs.Sorts.{FitsData}
use Rattle.spec_core.specs.Code.{Variable, ExitValue, exit_given, exit_any, ActionField, give, accept}
use Rattle.spec_core.proofs.Booleans.{or_first_false, or_second_false}
use Rattle.rule_model.specs.declared.offer.Field.{Field}
use Rattle.rule_model.specs.declared.offer.Field.TheVariants.{Give, Take}
use Rattle.rule_model.specs.declared.rules.Slot.{Slot}
use Rattle.rule_model.specs.declared.rules.Slot.TheVariants.{Of, Mark}
use Rattle.rule_model.specs.Fields.{Spells, FieldsHave, ExitHas, IsHandedOn}
use Rattle.rule_model.specs.Meets.{IsOfSort, FieldsMeet}
use Rattle.rule_model.specs.Substitution.{Assignment, with_term}
use Rattle.symbolic_rules.specs.Windows.{Windows, sort_of_value}
use Rattle.symbolic_rules.specs.MarkedTerms.{MarkedTerm, plain, mark, MarkedAssignment, with_marked, marked_instance}
use Rattle.symbolic_rules.specs.MarkedFields.{MarkedField, told, chosen, given, free, told_by, chosen_by, sort_of_field, Agree, AllAgree}
use Rattle.symbolic_rules.specs.MarkedFields.{HaveSortsOf, IsWithin, Chooses, FieldsMayHave, ExitMayHave}
use Rattle.symbolic_rules.specs.Trees.{FieldMayMeet, FieldsMayMeet, is_mark}
use Rattle.symbolic_rules.proofs.Sorts.{IsSpelled, sort_of_ground, sort_of_spelled}
use Rattle.symbolic_rules.proofs.Standing.{StandsForTerm, StandsForAll, instance_stands, with_one_more, value_stands}
use Rattle.symbolic_rules.proofs.Windows.{spelled_within}
use Rattle.symbolic_composites.specs.OpenFields.{is_listed}
use Rattle.symbolic_laws.specs.Loosened.{Marking, told_in, told_at_exit, either_told, given_for, loosened_slot, loosened_slots}
use Rattle.symbolic_laws.specs.Loosened.{loosened_at_exit}
use Rattle.symbolic_laws.proofs.Listed.{listed_there, listed_so}
use Rattle.symbolic_laws.proofs.Marking.{is_marked, Agrees, term_mark}

-- as many places as values
abbrev pub AreAsMany : List Bool → List (List ℕ) → Type 0
AreAsMany [] [] = Unit {0}
AreAsMany (t ∷ places) (v ∷ values) = AreAsMany places values
AreAsMany _ _ = ⊥

-- what is told is given
abbrev pub Covers : List Bool → List Bool → Type 0
Covers [] [] = Unit {0}
Covers (g ∷ is_given) (t ∷ is_told) = (t ≡ true → g ≡ true) × Covers is_given is_told
Covers _ _ = ⊥

pub covers_itself : (places : List Bool) → Covers places places
covers_itself [] = tt
covers_itself (t ∷ places) = (λ e. e, covers_itself places)

pub covers_left : (places xs ys : List Bool) (values : List (List ℕ)) → AreAsMany xs values → AreAsMany ys values →
    Covers places (either_told xs ys) → Covers places xs
covers_left [] [] [] [] h k c = tt
covers_left (g ∷ places) (x ∷ xs) (y ∷ ys) (v ∷ values) h k c = (λ e. c.0 (or_left x y e), covers_left places xs ys values h k c.1)
covers_left [] (x ∷ xs) (y ∷ ys) values h k c = absurd c
covers_left (g ∷ places) [] [] values h k c = absurd c
covers_left places [] (y ∷ ys) [] h k c = absurd k
covers_left places [] ys (v ∷ values) h k c = absurd h
covers_left places (x ∷ xs) ys [] h k c = absurd h
covers_left places (x ∷ xs) [] (v ∷ values) h k c = absurd k

pub covers_right : (places xs ys : List Bool) (values : List (List ℕ)) → AreAsMany xs values → AreAsMany ys values →
    Covers places (either_told xs ys) → Covers places ys
covers_right [] [] [] [] h k c = tt
covers_right (g ∷ places) (x ∷ xs) (y ∷ ys) (v ∷ values) h k c = (λ e. c.0 (or_right x y e), covers_right places xs ys values h k c.1)
covers_right [] (x ∷ xs) (y ∷ ys) values h k c = absurd c
covers_right (g ∷ places) [] [] values h k c = absurd c
covers_right places [] (y ∷ ys) [] h k c = absurd k
covers_right places [] ys (v ∷ values) h k c = absurd h
covers_right places (x ∷ xs) ys [] h k c = absurd h
covers_right places (x ∷ xs) [] (v ∷ values) h k c = absurd k

pub either_as_many : (xs ys : List Bool) (values : List (List ℕ)) → AreAsMany xs values → AreAsMany ys values →
    AreAsMany (either_told xs ys) values
either_as_many [] [] [] h k = tt
either_as_many (x ∷ xs) (y ∷ ys) (v ∷ values) h k = either_as_many xs ys values h k
either_as_many [] (y ∷ ys) [] h k = absurd k
either_as_many [] ys (v ∷ values) h k = absurd h
either_as_many (x ∷ xs) ys [] h k = absurd h
either_as_many (x ∷ xs) [] (v ∷ values) h k = absurd k

module _ (theory : Theory) (w : Windows) where
  -- A field, loosened, stands for the value v at a place that is given, or isn't, and where the value is told, or isn't.
  abbrev pub IsFor : Bool → Bool → List ℕ → MarkedField → Type 0
  IsFor g t v (told u) = (u ≡ v) × (t ≡ true)
  IsFor g t v (chosen u) = (u ≡ v) × (t ≡ false) × ((g ≡ true) ⊎ Contains (w.values (sort_of_value theory u)) u)
  IsFor g t v (given sort) = (sort_of_value theory v ≡ sort) × (t ≡ false)
  IsFor g t v (free sort) = (sort_of_value theory v ≡ sort) × (t ≡ false) × (g ≡ false) × (Contains (w.values sort) v → ⊥)

  abbrev pub AreFor : List Bool → List Bool → List (List ℕ) → List MarkedField → Type 0
  AreFor [] [] [] [] = Unit {0}
  AreFor (g ∷ is_given) (t ∷ is_told) (v ∷ values) (f ∷ fs) = IsFor g t v f × AreFor is_given is_told values fs
  AreFor _ _ _ _ = ⊥

  pub none_are : (is_given : List Bool) → Covers is_given [] → AreFor is_given [] [] []
  none_are [] c = tt
  none_are (g ∷ is_given) c = absurd c

  pub sort_is : (g t : Bool) (v : List ℕ) (f : MarkedField) → IsFor g t v f → sort_of_field theory f ≡ sort_of_value theory v
  sort_is g t v (told u) h = ap (sort_of_value theory) h.0
  sort_is g t v (chosen u) h = ap (sort_of_value theory) h.0
  sort_is g t v (given sort) h = sym h.0
  sort_is g t v (free sort) h = sym h.0

  -- where what is given is what is told, what is only chosen lies in its window
  pub is_within : (t : Bool) (v : List ℕ) (f : MarkedField) → IsFor t t v f → IsWithin theory w f
  is_within t v (told u) h = tt
  is_within t v (given sort) h = tt
  is_within t v (free sort) h = tt
  is_within t v (chosen u) h = by_cause h.2
    where
      by_cause : (t ≡ true) ⊎ Contains (w.values (sort_of_value theory u)) u → IsWithin theory w (chosen u)
      by_cause (inl e) = absurd (both_ways t h.1 e)
      by_cause (inr c) = c

  pub are_within : (places : List Bool) (values : List (List ℕ)) (fs : List MarkedField) → AreFor places places values fs →
      Each (IsWithin theory w) fs
  are_within [] [] [] h = tt
  are_within (t ∷ places) (v ∷ values) (f ∷ fs) h = (is_within t v f h.0, are_within places values fs h.1)
  are_within [] [] (f ∷ fs) h = absurd h
  are_within [] (v ∷ values) fs h = absurd h
  are_within (t ∷ places) [] fs h = absurd h
  are_within (t ∷ places) (v ∷ values) [] h = absurd h

  pub sorts_are : (xs : List Variable) (is_given is_told : List Bool) (values : List (List ℕ)) (fs : List MarkedField) (t u : Assignment) →
      IsHandedOn theory t xs values u → AreFor is_given is_told values fs → HaveSortsOf theory xs fs
  sorts_are [] [] [] [] [] t u h k = tt
  sorts_are (x ∷ xs) (g ∷ is_given) (b ∷ is_told) (v ∷ values) (f ∷ fs) t u h k = (
    sort_is g b v f k.0 ∙ sort_of_spelled theory v h.0 x.sort h.1,
    sorts_are xs is_given is_told values fs (with_term x h.0 t) u h.2 k.1,
  )
  sorts_are [] is_given is_told (v ∷ values) fs t u h k = absurd h
  sorts_are (x ∷ xs) is_given is_told [] fs t u h k = absurd h
  sorts_are [] [] [] [] (f ∷ fs) t u h k = absurd k
  sorts_are [] [] (b ∷ is_told) [] fs t u h k = absurd k
  sorts_are [] (g ∷ is_given) [] [] fs t u h k = absurd k
  sorts_are [] (g ∷ is_given) (b ∷ is_told) [] fs t u h k = absurd k
  sorts_are (x ∷ xs) [] [] (v ∷ values) fs t u h k = absurd k
  sorts_are (x ∷ xs) [] (b ∷ is_told) (v ∷ values) fs t u h k = absurd k
  sorts_are (x ∷ xs) (g ∷ is_given) [] (v ∷ values) fs t u h k = absurd k
  sorts_are (x ∷ xs) (g ∷ is_given) (b ∷ is_told) (v ∷ values) [] t u h k = absurd k

  -- a value that stays, and one that doesn't, aren't one at one place
  never_both : (g : Bool) (v u : List ℕ) (sort : ℕ) → u ≡ v → (g ≡ true) ⊎ Contains (w.values (sort_of_value theory u)) u →
      sort_of_value theory v ≡ sort → g ≡ false → (Contains (w.values sort) v → ⊥) → ⊥
  never_both g v u sort e (inl h) at off out = both_ways g off h
  never_both g v u sort e (inr c) at off out =
      out (subst (λ s. Contains (w.values s) v) at (subst (λ z. Contains (w.values (sort_of_value theory z)) z) e c))

  -- two fields that are for one value agree
  agreed : (g x y : Bool) (v : List ℕ) (e f : MarkedField) → (x || y ≡ true → g ≡ true) → IsFor g x v e → IsFor g y v f →
      (h : MarkedField) × Agree theory e f h × IsFor g (x || y) v h
  agreed g x y v (told a) (told b) c p q = (told a, (p.0 ∙ sym q.0, refl), (p.0, or_left x y p.1))
  agreed g x y v (told a) (chosen b) c p q = (told a, (p.0 ∙ sym q.0, refl), (p.0, or_left x y p.1))
  agreed g x y v (told a) (given s) c p q = (told a, (ap (sort_of_value theory) p.0 ∙ q.0, refl), (p.0, or_left x y p.1))
  agreed g x y v (told a) (free s) c p q = absurd (both_ways g q.2 (c (or_left x y p.1)))
  agreed g x y v (chosen a) (told b) c p q = (told a, (p.0 ∙ sym q.0, refl), (p.0, or_right x y q.1))
  agreed g x y v (chosen a) (chosen b) c p q = (chosen a, (p.0 ∙ sym q.0, refl), (p.0, ap (λ z. z || y) p.1 ∙ q.1, p.2))
  agreed g x y v (chosen a) (given s) c p q =
      (chosen a, (ap (sort_of_value theory) p.0 ∙ q.0, refl), (p.0, ap (λ z. z || y) p.1 ∙ q.1, p.2))
  agreed g x y v (chosen a) (free s) c p q = absurd (never_both g v a s p.0 p.2 q.0 q.2 q.3)
  agreed g x y v (given s) (told b) c p q = (told b, (ap (sort_of_value theory) q.0 ∙ p.0, refl), (q.0, or_right x y q.1))
  agreed g x y v (given s) (chosen b) c p q =
      (chosen b, (ap (sort_of_value theory) q.0 ∙ p.0, refl), (q.0, ap (λ z. z || y) p.1 ∙ q.1, q.2))
  agreed g x y v (given s) (given r) c p q = (given s, (sym p.0 ∙ q.0, refl), (p.0, ap (λ z. z || y) p.1 ∙ q.1))
  agreed g x y v (given s) (free r) c p q = (given s, (sym p.0 ∙ q.0, refl), (p.0, ap (λ z. z || y) p.1 ∙ q.1))
  agreed g x y v (free s) (told b) c p q = absurd (both_ways g p.2 (c (or_right x y q.1)))
  agreed g x y v (free s) (chosen b) c p q = absurd (never_both g v b s q.0 q.2 p.0 p.2 p.3)
  agreed g x y v (free s) (given r) c p q = (given s, (sym p.0 ∙ q.0, refl), (p.0, ap (λ z. z || y) p.1 ∙ q.1))
  agreed g x y v (free s) (free r) c p q = (free s, (sym p.0 ∙ q.0, refl), (p.0, ap (λ z. z || y) p.1 ∙ q.1, p.2, p.3))

  pub all_agreed : (is_given xs ys : List Bool) (values : List (List ℕ)) (es fs : List MarkedField) → Covers is_given (either_told xs ys) →
      AreFor is_given xs values es → AreFor is_given ys values fs →
      (hs : List MarkedField) × AllAgree theory es fs hs × AreFor is_given (either_told xs ys) values hs
  all_agreed [] [] [] [] [] [] c p q = ([], refl, tt)
  all_agreed (g ∷ is_given) (x ∷ xs) (y ∷ ys) (v ∷ values) (e ∷ es) (f ∷ fs) c p q =
      let one = agreed g x y v e f c.0 p.0 q.0 in
      let rest = all_agreed is_given xs ys values es fs c.1 p.1 q.1 in
      (one.0 ∷ rest.0, (one.1, rest.1), (one.2, rest.2))
  all_agreed [] [] [] [] [] (f ∷ fs) c p q = absurd q
  all_agreed [] [] (y ∷ ys) [] [] fs c p q = absurd q
  all_agreed (g ∷ is_given) (x ∷ xs) (y ∷ ys) (v ∷ values) (e ∷ es) [] c p q = absurd q
  all_agreed (g ∷ is_given) (x ∷ xs) [] (v ∷ values) (e ∷ es) fs c p q = absurd q
  all_agreed _ _ ys _ _ fs c p q = absurd p

  -- what an offer gives, or its fields take, may be met

  given_met : (t : Bool) (v u : List ℕ) (f : MarkedField) → IsFor true t v f → v ≡ u → FieldMayMeet theory w f (Give u)
  given_met t v u (told a) h e = h.0 ∙ e
  given_met t v u (chosen a) h e = h.0 ∙ e
  given_met t v u (given sort) h e = ap (sort_of_value theory) (sym e) ∙ h.0
  given_met t v u (free sort) h e = let no : true ≡ false = h.2 in absurd cc

  sort_of_value_of : (v : List ℕ) (sort : ℕ) → IsOfSort theory v (record { 0 = sort }) → sort_of_value theory v ≡ sort
  sort_of_value_of [] sort h = absurd h
  sort_of_value_of (op ∷ ops) sort h = h

  taken_met : (f : MarkedField) (sort : ℕ) → sort_of_field theory f ≡ sort → IsWithin theory w f →
      FieldMayMeet theory w f (Take (record { 0 = sort }))
  taken_met (told v) sort e h = (e, h)
  taken_met (chosen v) sort e h = (e, h)
  taken_met (given other) sort e h = (e, h)
  taken_met (free other) sort e h = (e, h)

  pub covers_for : (is_told : List Bool) (values : List (List ℕ)) (fields : List Field) → AreAsMany is_told values →
      FieldsMeet theory values fields → Covers (given_for is_told fields) is_told
  covers_for [] [] [] h k = tt
  covers_for (t ∷ is_told) (v ∷ values) (Give u ∷ fields) h k = (λ e. refl, covers_for is_told values fields h k.1)
  covers_for (t ∷ is_told) (v ∷ values) (Take sort ∷ fields) h k = (λ e. e, covers_for is_told values fields h k.1)
  covers_for [] [] (field ∷ fields) h k = absurd k
  covers_for (t ∷ is_told) (v ∷ values) [] h k = absurd k
  covers_for [] (v ∷ values) fields h k = absurd h
  covers_for (t ∷ is_told) [] fields h k = absurd h

  pub may_be_met : (is_told : List Bool) (values : List (List ℕ)) (fields : List Field) (fs : List MarkedField) →
      FieldsMeet theory values fields → AreFor (given_for is_told fields) is_told values fs → FieldsMayMeet theory w fs fields
  may_be_met [] [] [] [] h k = tt
  may_be_met (t ∷ is_told) (v ∷ values) (Give u ∷ fields) (f ∷ fs) h k =
      (given_met t v u f k.0 h.0, may_be_met is_told values fields fs h.1 k.1)
  may_be_met (t ∷ is_told) (v ∷ values) (Take sort ∷ fields) (f ∷ fs) h k = (
    taken_met f sort.0 (sort_is t t v f k.0 ∙ sort_of_value_of v sort.0 h.0) (is_within t v f k.0),
    may_be_met is_told values fields fs h.1 k.1,
  )
  may_be_met [] [] [] (f ∷ fs) h k = absurd k
  may_be_met [] (v ∷ values) fields fs h k = absurd k
  may_be_met (t ∷ is_told) [] [] fs h k = absurd k
  may_be_met (t ∷ is_told) (v ∷ values) (field ∷ fields) [] h k = absurd k
  may_be_met _ _ _ fs h k = absurd h

-- What an action does with terms for the variables, its fields may have with what stands for these terms, where values that lie beyond
-- their windows, and aren't given, are marks.
module _ (theory : Theory) (fits : FitsData theory) (w : Windows)
    (beyond : (sort : ℕ) (v : List ℕ) → IsSpelled theory sort v → (Contains (w.values sort) v → ⊥) → w.complete sort ≡ false) where
  -- a slot, loosened, and what it chooses
  pub record Chosen (g : Bool) (slot : Slot) (v : List ℕ) (n : TermTree) (sort : ℕ) : Type 0 where
    pub term : MarkedTerm
    pub chooses : Chooses theory w slot sort term
    pub stands : StandsForTerm theory term n
    pub is_for : IsFor theory w g false v (chosen_by term)
    pub marked : is_marked term ≡ is_mark slot

  pub slot_chosen : (g : Bool) (o v : List ℕ) (n : TermTree) (sort : ℕ) → o ≡ v → Spells theory o n sort →
      Chosen g (loosened_slot w sort g (Of o)) v n sort
  slot_chosen g o v n sort e spells = by_test (g || is_listed o (w.values sort)) refl
    where
      stays : (g ≡ true) ⊎ (is_listed o (w.values sort) ≡ true) →
          (g ≡ true) ⊎ Contains (w.values (sort_of_value theory (preorder n))) (preorder n)
      stays (inl h) = inl h
      stays (inr h) = inr (spelled_within theory w o n sort spells (listed_there o (w.values sort) h))

      out : is_listed o (w.values sort) ≡ false → Contains (w.values sort) o → ⊥
      out h c = both_ways (is_listed o (w.values sort)) h (listed_so o (w.values sort) c)

      by_test : (b : Bool) → g || is_listed o (w.values sort) ≡ b → Chosen g (if b then Of o else Mark) v n sort
      by_test true h = record {
        term = plain n;
        chooses = (n, spells, refl);
        stands = refl;
        is_for = (sym spells.spelled ∙ e, refl, stays (or_cases g (is_listed o (w.values sort)) h));
        marked = refl;
      }
      by_test false h =
          let lost = out (or_second_false g (is_listed o (w.values sort)) h) in
          record {
            term = mark sort;
            chooses = (beyond sort o (n, spells) lost, refl);
            stands = sort_of_ground theory n sort spells.of_sort;
            is_for = (
              ap (sort_of_value theory) (sym e) ∙ sort_of_spelled theory o n sort spells,
              refl,
              or_first_false g (is_listed o (w.values sort)) h,
              λ c. lost (subst (Contains (w.values sort)) (sym e) c),
            );
            marked = refl;
          }

  told_is : (g b : Bool) (k : MarkedTerm) (n : TermTree) (v : List ℕ) → StandsForTerm theory k n → v ≡ preorder n → is_marked k ≡ b →
      IsFor theory w g (not b) v (told_by k)
  told_is g b (plain u) n v h e m = (ap preorder h ∙ sym e, ap not (sym m))
  told_is g b (mark sort) n v h e m = (ap (sort_of_value theory) e ∙ h, ap not (sym m))

  module _ (marks : Marking) (m : MarkedAssignment) (agrees : Agrees marks m) (s : Assignment) (stands : StandsForAll theory m s) where
    pub fields_loosened : (fields : List ActionField) (slots : List Slot) (values : List (List ℕ)) (is_given : List Bool)
        (l : MarkedAssignment) (t u : Assignment) → StandsForAll theory l t → FieldsHave theory s t fields slots values u →
        Covers is_given (told_in marks fields) →
        (fs : List MarkedField) × (r : MarkedAssignment) ×
        FieldsMayHave theory w m l fields (loosened_slots w fields is_given slots) fs r ×
        AreFor theory w is_given (told_in marks fields) values fs × StandsForAll theory r u
    fields_loosened [] [] [] [] l t u i h c = ([], l, refl, tt, subst (λ (z : Assignment). StandsForAll theory l z) (sym h) i)
    fields_loosened (give e ∷ fields) slots (v ∷ values) (g ∷ is_given) l t u i h c =
        let at = instance_stands theory m s stands e in
        let k = value_stands theory fits (marked_instance theory m e) (instance s e) h.0.0 at h.0.1.value in
        let rest = fields_loosened fields slots values is_given l t u i h.1 c.1 in (
          told_by k.0 ∷ rest.0,
          rest.1,
          ((k.0, k.1, refl), rest.2),
          (told_is g _ k.0 h.0.0 v k.2 h.0.1.spelled (term_mark theory marks m agrees e k.0 k.1), rest.3),
          rest.4,
        )
    fields_loosened (accept x ∷ fields) (Of o ∷ slots) (v ∷ values) (g ∷ is_given) l t u i h c =
        let one = slot_chosen g o v h.1 x.sort h.0 h.2 in
        let rest = fields_loosened fields slots values is_given (with_marked x one.term l) (with_term x h.1 t) u
        (with_one_more theory l t i x one.term h.1 one.stands) h.3 c.1 in (
          chosen_by one.term ∷ rest.0,
          rest.1,
          (one.term, one.chooses, refl, rest.2),
          (one.is_for, rest.3),
          rest.4,
        )
    fields_loosened [] [] [] (g ∷ is_given) l t u i h c = absurd c
    fields_loosened (give e ∷ fields) slots (v ∷ values) [] l t u i h c = absurd c
    fields_loosened (accept x ∷ fields) (Of o ∷ slots) (v ∷ values) [] l t u i h c = absurd c
    fields_loosened _ _ _ is_given l t u i h c = absurd h

    pub exit_loosened : (fields : List ExitValue) (slots : List Slot) (values : List (List ℕ)) (is_given : List Bool) →
        ExitHas theory s fields slots values → Covers is_given (told_at_exit marks fields) →
        (fs : List MarkedField) × ExitMayHave theory w m fields (loosened_at_exit w fields is_given slots) fs ×
        AreFor theory w is_given (told_at_exit marks fields) values fs
    exit_loosened [] [] [] [] h c = ([], tt, tt)
    exit_loosened (exit_given e ∷ fields) slots (v ∷ values) (g ∷ is_given) h c =
        let at = instance_stands theory m s stands e in
        let k = value_stands theory fits (marked_instance theory m e) (instance s e) h.0.0 at h.0.1.value in
        let rest = exit_loosened fields slots values is_given h.1 c.1 in (
          told_by k.0 ∷ rest.0,
          ((k.0, k.1, refl), rest.1),
          (told_is g _ k.0 h.0.0 v k.2 h.0.1.spelled (term_mark theory marks m agrees e k.0 k.1), rest.2),
        )
    exit_loosened (exit_any sort ∷ fields) (Of o ∷ slots) (v ∷ values) (g ∷ is_given) h c =
        let one = slot_chosen g o v h.1.0 sort h.0 h.1.1 in
        let rest = exit_loosened fields slots values is_given h.2 c.1 in
        (chosen_by one.term ∷ rest.0, ((one.term, one.chooses, refl), rest.1), (one.is_for, rest.2))
    exit_loosened [] [] [] (g ∷ is_given) h c = absurd c
    exit_loosened (exit_given e ∷ fields) slots (v ∷ values) [] h c = absurd c
    exit_loosened (exit_any sort ∷ fields) (Of o ∷ slots) (v ∷ values) [] h c = absurd c
    exit_loosened _ _ _ is_given h c = absurd h

  -- an action has as many places as values

  pub told_as_many : (marks : Marking) (s t u : Assignment) (fields : List ActionField) (slots : List Slot) (values : List (List ℕ)) →
      FieldsHave theory s t fields slots values u → AreAsMany (told_in marks fields) values
  told_as_many marks s t u [] [] [] h = tt
  told_as_many marks s t u (give e ∷ fields) slots (v ∷ values) h = told_as_many marks s t u fields slots values h.1
  told_as_many marks s t u (accept x ∷ fields) (Of o ∷ slots) (v ∷ values) h =
      told_as_many marks s (with_term x h.1 t) u fields slots values h.3
  told_as_many marks s t u _ _ _ h = absurd h

  pub exit_as_many : (marks : Marking) (s : Assignment) (fields : List ExitValue) (slots : List Slot) (values : List (List ℕ)) →
      ExitHas theory s fields slots values → AreAsMany (told_at_exit marks fields) values
  exit_as_many marks s [] [] [] h = tt
  exit_as_many marks s (exit_given e ∷ fields) slots (v ∷ values) h = exit_as_many marks s fields slots values h.1
  exit_as_many marks s (exit_any sort ∷ fields) (Of o ∷ slots) (v ∷ values) h = exit_as_many marks s fields slots values h.2
  exit_as_many marks s _ _ _ h = absurd h
