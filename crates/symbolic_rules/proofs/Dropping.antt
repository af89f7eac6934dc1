-- Values of fields that are only chosen become marks, the other fields stay.
use Rattle.std.proofs.Common.{ℕ, ◌≡◌, ◌==◌, List, [], ◌∷◌, refl, sym, ap, subst, ◌∙◌, inl, inr, Bool, true, false, if◌then◌else◌}
use Rattle.std.proofs.Common.{Option, Some, None}
use Rattle.spec_core.specs.Terms.{TermTree, TermTrees, variable, apply, no_terms, and_term, preorder}
use Rattle.spec_core.specs.Theories.{Premise, premise, Theory}
use Rattle.spec_core.specs.Code.{Variable, ExitValue, exit_given, exit_any, ActionField, give, accept}
use Rattle.rule_model.specs.declared.rules.Slot.{Slot}
use Rattle.rule_model.specs.declared.rules.Slot.TheVariants.{Of, Mark, Blank}
use Rattle.symbolic_rules.specs.Windows.{Windows, sort_of_value}
use Rattle.symbolic_rules.specs.MarkedTerms.{MarkedTerm, plain, mark, MarkedAssignment, with_marked, joined, applied, marked_instance}
use Rattle.symbolic_rules.specs.MarkedTerms.{marked_instances, MayBeEqual, GuardMayHold}
use Rattle.symbolic_rules.specs.MarkedFields.{MarkedField, told, chosen, given, free, told_by, chosen_by, sort_of_field, Agree, AllAgree}
use Rattle.symbolic_rules.specs.MarkedFields.{Chooses, FieldsMayHave, ExitMayHave}
use Rattle.symbolic_rules.specs.Trees.{IsSlotMarkedAs, AreSlotsMarkedAs}
use Rattle.symbolic_rules.proofs.Sorts.{sort_of_spelled}

-- the field is a mark of the sort
abbrev pub IsMarkOf : ℕ → MarkedField → Type 0
IsMarkOf sort (told v) = ⊥
IsMarkOf sort (chosen v) = ⊥
IsMarkOf sort (given other) = other ≡ sort
IsMarkOf sort (free other) = other ≡ sort

-- the field is a mark, or may become one: its value is only chosen, and the window of its sort isn't complete
abbrev pub MayBeMark : Theory → Windows → MarkedField → Type 0
MayBeMark theory w (told v) = ⊥
MayBeMark theory w (chosen v) = w.complete (sort_of_value theory v) ≡ false
MayBeMark theory w (given sort) = Unit {0}
MayBeMark theory w (free sort) = Unit {0}

-- the field is kept, or may be a mark
abbrev pub IsKeptOrMay : Theory → Windows → Bool → MarkedField → Type 0
IsKeptOrMay theory w true f = Unit {0}
IsKeptOrMay theory w false f = MayBeMark theory w f

abbrev pub AreKeptOrMay : Theory → Windows → List Bool → List MarkedField → Type 0
AreKeptOrMay theory w [] [] = Unit {0}
AreKeptOrMay theory w (b ∷ keep) (f ∷ fs) = IsKeptOrMay theory w b f × AreKeptOrMay theory w keep fs
AreKeptOrMay theory w _ _ = ⊥

-- what becomes of a field: it stays where it is kept, and else it is a mark of its sort
abbrev pub Becomes : Theory → Bool → MarkedField → MarkedField → Type 0
Becomes theory true f g = g ≡ f
Becomes theory false f g = IsMarkOf (sort_of_field theory f) g

abbrev pub Become : Theory → List Bool → List MarkedField → List MarkedField → Type 0
Become theory [] fs gs = gs ≡ []
Become theory (b ∷ keep) (f ∷ fs) (g ∷ gs) = Becomes theory b f g × Become theory keep fs gs
Become theory (b ∷ keep) _ _ = ⊥

pub none_become : (theory : Theory) (w : Windows) (keep : List Bool) → AreKeptOrMay theory w keep [] → Become theory keep [] []
none_become theory w [] h = refl
none_become theory w (b ∷ keep) h = absurd h

-- the same term, or a mark in its place
abbrev pub IsLooser : MarkedTerm → MarkedTerm → Type 0
IsLooser (plain t) k = k ≡ plain t
IsLooser (mark sort) k = Unit {0}

abbrev AreLooser : Option TermTrees → Option TermTrees → Type 0
AreLooser (Some ts) o = o ≡ Some ts
AreLooser None o = Unit {0}

abbrev pub AllLooser : MarkedAssignment → MarkedAssignment → Type 0
AllLooser l m = (x : ℕ) → IsLooser (l x) (m x)

pub same_looser : (k : MarkedTerm) → IsLooser k k
same_looser (plain t) = refl
same_looser (mark sort) = tt

applied_looser : (theory : Theory) (f : ℕ) (p o : Option TermTrees) → AreLooser p o → IsLooser (applied theory f p) (applied theory f o)
applied_looser theory f None o h = tt
applied_looser theory f (Some ts) o h = ap (applied theory f) h

joined_looser : (k j : MarkedTerm) (p o : Option TermTrees) → IsLooser k j → AreLooser p o → AreLooser (joined k p) (joined j o)
joined_looser (mark sort) j p o h i = tt
joined_looser (plain t) j None o h i = tt
joined_looser (plain t) j (Some ts) o h i = ap (λ (x : MarkedTerm). joined x o) h ∙ ap (joined (plain t)) i

both_looser : (theory : Theory) (k l i j : MarkedTerm) → IsLooser k i → IsLooser l j → MayBeEqual theory i j → MayBeEqual theory k l
both_looser theory (mark sort) l i j h e p = tt
both_looser theory (plain a) (mark sort) i j h e p = tt
both_looser theory (plain a) (plain b) i j h e p =
    subst (λ (x : MarkedTerm). MayBeEqual theory (plain a) x) e (subst (λ (x : MarkedTerm). MayBeEqual theory x j) h p)

module _ (theory : Theory) (l m : MarkedAssignment) (looser : AllLooser l m) where
  mutual
    instance_looser : (t : TermTree) → IsLooser (marked_instance theory l t) (marked_instance theory m t)
    instance_looser (variable x) = looser x
    instance_looser (apply f ts) =
        applied_looser theory f (marked_instances theory l ts) (marked_instances theory m ts) (instances_looser ts)

    instances_looser : (ts : TermTrees) → AreLooser (marked_instances theory l ts) (marked_instances theory m ts)
    instances_looser no_terms = refl
    instances_looser (and_term t ts) =
        joined_looser (marked_instance theory l t) (marked_instance theory m t) (marked_instances theory l ts)
        (marked_instances theory m ts) (instance_looser t) (instances_looser ts)

  -- a predicate that may hold still may
  pub guard_looser : (p : Option Premise) → GuardMayHold theory m p → GuardMayHold theory l p
  guard_looser None h = tt
  guard_looser (Some (premise a b)) h =
      both_looser theory (marked_instance theory l a) (marked_instance theory l b) (marked_instance theory m a) (marked_instance theory m b)
      (instance_looser a) (instance_looser b) h

  with_one_looser : (x : Variable) (k j : MarkedTerm) → IsLooser k j → AllLooser (with_marked x k l) (with_marked x j m)
  with_one_looser x k j h y = by_test (y == x.number)
    where
      by_test : (b : Bool) → IsLooser (if b then k else l y) (if b then j else m y)
      by_test true = h
      by_test false = looser y

-- what an expression tells stays: a value is kept, and a mark is one
told_stays : (theory : Theory) (w : Windows) (b : Bool) (k : MarkedTerm) → IsKeptOrMay theory w b (told_by k) →
    Becomes theory b (told_by k) (told_by k)
told_stays theory w true k h = refl
told_stays theory w false (plain n) h = absurd h
told_stays theory w false (mark sort) h = refl

-- what a slot chooses stays, or is a mark of its sort
pub record Dropped (theory : Theory) (w : Windows) (slot : Slot) (sort : ℕ) (k : MarkedTerm) (b : Bool) : Type 0 where
  pub other : Slot
  pub now : MarkedTerm
  pub marked : IsSlotMarkedAs slot other
  pub chooses : Chooses theory w other sort now
  pub looser : IsLooser now k
  pub becomes : Becomes theory b (chosen_by k) (chosen_by now)

drop_slot : (theory : Theory) (w : Windows) (slot : Slot) (sort : ℕ) (k : MarkedTerm) (b : Bool) → Chooses theory w slot sort k →
    IsKeptOrMay theory w b (chosen_by k) → Dropped theory w slot sort k b
drop_slot theory w slot sort k true c h =
    record { other = slot; now = k; marked = inl refl; chooses = c; looser = same_looser k; becomes = refl }
drop_slot theory w Mark sort k false c h =
    record { other = Mark; now = k; marked = inl refl; chooses = c; looser = same_looser k; becomes = stays }
  where
    stays : Becomes theory false (chosen_by k) (chosen_by k)
    stays = subst (λ (x : MarkedTerm). Becomes theory false (chosen_by x) (chosen_by x)) (sym c.1) refl
drop_slot theory w (Of v) sort k false c h =
    let may = subst (λ (x : MarkedTerm). MayBeMark theory w (chosen_by x)) c.2 h in
    let at : sort_of_value theory (preorder c.0) ≡ sort =
    ap (sort_of_value theory) (sym c.1.spelled) ∙ sort_of_spelled theory v c.0 sort c.1 in
    record {
      other = Mark;
      now = mark sort;
      marked = inr refl;
      chooses = (subst (λ (s : ℕ). w.complete s ≡ false) at may, refl);
      looser = tt;
      becomes = sym (ap (λ (x : MarkedTerm). sort_of_field theory (chosen_by x)) c.2 ∙ at);
    }
drop_slot theory w Blank sort k b c h = absurd c

module _ (theory : Theory) (w : Windows) (m : MarkedAssignment) where
  pub drop_fields : (fields : List ActionField) (slots : List Slot) (fs : List MarkedField) (keep : List Bool) (l n r : MarkedAssignment) →
      AllLooser l n → FieldsMayHave theory w m n fields slots fs r → AreKeptOrMay theory w keep fs →
      (others : List Slot) × (gs : List MarkedField) × (q : MarkedAssignment) × AreSlotsMarkedAs slots others × Become theory keep fs gs ×
      FieldsMayHave theory w m l fields others gs q × AllLooser q r
  drop_fields [] [] [] [] l n r e h k = ([], [], l, refl, refl, refl, subst (λ (z : MarkedAssignment). AllLooser l z) (sym h) e)
  drop_fields (give e ∷ fields) slots (f ∷ fs) (b ∷ keep) l n r i h k =
      let rest = drop_fields fields slots fs keep l n r i h.1 k.1 in
      let kept = subst (λ (x : MarkedField). IsKeptOrMay theory w b x) h.0.2 k.0 in (
        rest.0,
        f ∷ rest.1,
        rest.2,
        rest.3,
        (subst (λ (x : MarkedField). Becomes theory b x x) (sym h.0.2) (told_stays theory w b h.0.0 kept), rest.4),
        (h.0, rest.5),
        rest.6,
      )
  drop_fields (accept x ∷ fields) (slot ∷ slots) (f ∷ fs) (b ∷ keep) l n r i h k =
      let kept = subst (λ (z : MarkedField). IsKeptOrMay theory w b z) h.2 k.0 in
      let one = drop_slot theory w slot x.sort h.0 b h.1 kept in
      let rest = drop_fields fields slots fs keep (with_marked x one.now l) (with_marked x h.0 n) r
      (with_one_looser theory l n i x one.now h.0 one.looser) h.3 k.1 in (
        one.other ∷ rest.0,
        chosen_by one.now ∷ rest.1,
        rest.2,
        (one.other, rest.0, refl, one.marked, rest.3),
        (subst (λ (z : MarkedField). Becomes theory b z (chosen_by one.now)) (sym h.2) one.becomes, rest.4),
        (one.now, one.chooses, refl, rest.5),
        rest.6,
      )
  drop_fields [] [] [] (b ∷ keep) l n r i h k = absurd k
  drop_fields (give e ∷ fields) slots (f ∷ fs) [] l n r i h k = absurd k
  drop_fields (accept x ∷ fields) (slot ∷ slots) (f ∷ fs) [] l n r i h k = absurd k
  drop_fields _ _ _ _ l n r i h k = absurd h

  pub drop_exit : (fields : List ExitValue) (slots : List Slot) (fs : List MarkedField) (keep : List Bool) →
      ExitMayHave theory w m fields slots fs → AreKeptOrMay theory w keep fs →
      (others : List Slot) × (gs : List MarkedField) × AreSlotsMarkedAs slots others × Become theory keep fs gs ×
      ExitMayHave theory w m fields others gs
  drop_exit [] [] [] [] h k = ([], [], refl, refl, tt)
  drop_exit (exit_given e ∷ fields) slots (f ∷ fs) (b ∷ keep) h k =
      let rest = drop_exit fields slots fs keep h.1 k.1 in
      let kept = subst (λ (x : MarkedField). IsKeptOrMay theory w b x) h.0.2 k.0 in (
        rest.0,
        f ∷ rest.1,
        rest.2,
        (subst (λ (x : MarkedField). Becomes theory b x x) (sym h.0.2) (told_stays theory w b h.0.0 kept), rest.3),
        (h.0, rest.4),
      )
  drop_exit (exit_any sort ∷ fields) (slot ∷ slots) (f ∷ fs) (b ∷ keep) h k =
      let kept = subst (λ (z : MarkedField). IsKeptOrMay theory w b z) h.0.2 k.0 in
      let one = drop_slot theory w slot sort h.0.0 b h.0.1 kept in
      let rest = drop_exit fields slots fs keep h.1 k.1 in (
        one.other ∷ rest.0,
        chosen_by one.now ∷ rest.1,
        (one.other, rest.0, refl, one.marked, rest.2),
        (subst (λ (z : MarkedField). Becomes theory b z (chosen_by one.now)) (sym h.0.2) one.becomes, rest.3),
        ((one.now, one.chooses, refl), rest.4),
      )
  drop_exit [] [] [] (b ∷ keep) h k = absurd k
  drop_exit (exit_given e ∷ fields) slots (f ∷ fs) [] h k = absurd k
  drop_exit (exit_any sort ∷ fields) (slot ∷ slots) (f ∷ fs) [] h k = absurd k
  drop_exit _ _ _ _ h k = absurd h

-- fields that agree still do
module _ (theory : Theory) (w : Windows) where
  both_may : (f g h : MarkedField) → Agree theory f g h → MayBeMark theory w h → MayBeMark theory w f × MayBeMark theory w g
  both_may (told v) (told u) h e k = absurd (subst (MayBeMark theory w) e.1 k)
  both_may (told v) (chosen u) h e k = absurd (subst (MayBeMark theory w) e.1 k)
  both_may (told v) (given sort) h e k = absurd (subst (MayBeMark theory w) e.1 k)
  both_may (told v) (free sort) h e k = absurd e
  both_may (chosen v) (told u) h e k = absurd (subst (MayBeMark theory w) e.1 k)
  both_may (chosen v) (chosen u) h e k =
      let j = subst (MayBeMark theory w) e.1 k in (j, subst (λ (x : List ℕ). MayBeMark theory w (chosen x)) e.0 j)
  both_may (chosen v) (given sort) h e k = (subst (MayBeMark theory w) e.1 k, tt)
  both_may (chosen v) (free sort) h e k = absurd e
  both_may (given sort) (told v) h e k = absurd (subst (MayBeMark theory w) e.1 k)
  both_may (given sort) (chosen v) h e k = (tt, subst (MayBeMark theory w) e.1 k)
  both_may (given sort) (given other) h e k = (tt, tt)
  both_may (given sort) (free other) h e k = (tt, tt)
  both_may (free sort) (told v) h e k = absurd e
  both_may (free sort) (chosen v) h e k = absurd e
  both_may (free sort) (given other) h e k = (tt, tt)
  both_may (free sort) (free other) h e k = (tt, tt)

  both_kept : (b : Bool) (f g h : MarkedField) → Agree theory f g h → IsKeptOrMay theory w b h →
      IsKeptOrMay theory w b f × IsKeptOrMay theory w b g
  both_kept true f g h e k = (tt, tt)
  both_kept false f g h e k = both_may f g h e k

  pub all_kept : (keep : List Bool) (fs gs hs : List MarkedField) → AllAgree theory fs gs hs → AreKeptOrMay theory w keep hs →
      AreKeptOrMay theory w keep fs × AreKeptOrMay theory w keep gs
  all_kept keep [] [] hs e k = let j = subst (AreKeptOrMay theory w keep) e k in (j, j)
  all_kept (b ∷ keep) (f ∷ fs) (g ∷ gs) (h ∷ hs) e k =
      let one = both_kept b f g h e.0 k.0 in
      let rest = all_kept keep fs gs hs e.1 k.1 in
      ((one.0, rest.0), (one.1, rest.1))
  all_kept [] (f ∷ fs) (g ∷ gs) (h ∷ hs) e k = absurd k
  all_kept keep _ _ hs e k = absurd e

  -- fields that agree are of one sort, that of what they are together
  sorts_agree : (f g h : MarkedField) → Agree theory f g h →
      (sort_of_field theory f ≡ sort_of_field theory g) × (sort_of_field theory f ≡ sort_of_field theory h)
  sorts_agree (told v) (told u) h e = (ap (sort_of_value theory) e.0, ap (sort_of_field theory) (sym e.1))
  sorts_agree (told v) (chosen u) h e = (ap (sort_of_value theory) e.0, ap (sort_of_field theory) (sym e.1))
  sorts_agree (told v) (given sort) h e = (e.0, ap (sort_of_field theory) (sym e.1))
  sorts_agree (told v) (free sort) h e = absurd e
  sorts_agree (chosen v) (told u) h e = (ap (sort_of_value theory) e.0, ap (sort_of_field theory) (sym e.1))
  sorts_agree (chosen v) (chosen u) h e = (ap (sort_of_value theory) e.0, ap (sort_of_field theory) (sym e.1))
  sorts_agree (chosen v) (given sort) h e = (e.0, ap (sort_of_field theory) (sym e.1))
  sorts_agree (chosen v) (free sort) h e = absurd e
  sorts_agree (given sort) (told v) h e = (sym e.0, sym e.0 ∙ ap (sort_of_field theory) (sym e.1))
  sorts_agree (given sort) (chosen v) h e = (sym e.0, sym e.0 ∙ ap (sort_of_field theory) (sym e.1))
  sorts_agree (given sort) (given other) h e = (e.0, ap (sort_of_field theory) (sym e.1))
  sorts_agree (given sort) (free other) h e = (e.0, ap (sort_of_field theory) (sym e.1))
  sorts_agree (free sort) (told v) h e = absurd e
  sorts_agree (free sort) (chosen v) h e = absurd e
  sorts_agree (free sort) (given other) h e = (e.0, ap (sort_of_field theory) (sym e.1))
  sorts_agree (free sort) (free other) h e = (e.0, ap (sort_of_field theory) (sym e.1))

  marks_agree : (sort : ℕ) (f g : MarkedField) → IsMarkOf sort f → IsMarkOf sort g →
      (h : MarkedField) × Agree theory f g h × IsMarkOf sort h
  marks_agree sort (given a) (given b) p q = (given a, (p ∙ sym q, refl), p)
  marks_agree sort (given a) (free b) p q = (given a, (p ∙ sym q, refl), p)
  marks_agree sort (free a) (given b) p q = (given a, (p ∙ sym q, refl), p)
  marks_agree sort (free a) (free b) p q = (free a, (p ∙ sym q, refl), p)
  marks_agree sort (told v) g p q = absurd p
  marks_agree sort (chosen v) g p q = absurd p
  marks_agree sort f (told v) p q = absurd q
  marks_agree sort f (chosen v) p q = absurd q

  still_agree : (b : Bool) (f g h i j : MarkedField) → Agree theory f g h → Becomes theory b f i → Becomes theory b g j →
      (l : MarkedField) × Agree theory i j l × Becomes theory b h l
  still_agree true f g h i j e p q =
      (h, subst (λ (x : MarkedField). Agree theory x j h) (sym p) (subst (λ (x : MarkedField). Agree theory f x h) (sym q) e), refl)
  still_agree false f g h i j e p q =
      let s = sorts_agree f g h e in
      marks_agree (sort_of_field theory h) i j (subst (λ (sort : ℕ). IsMarkOf sort i) s.1 p)
      (subst (λ (sort : ℕ). IsMarkOf sort j) (sym s.0 ∙ s.1) q)

  pub all_still_agree : (keep : List Bool) (fs gs hs is js : List MarkedField) → AllAgree theory fs gs hs →
      AreKeptOrMay theory w keep hs → Become theory keep fs is → Become theory keep gs js →
      (ls : List MarkedField) × AllAgree theory is js ls × Become theory keep hs ls
  all_still_agree [] [] [] hs is js e k p q = (
    [],
    subst (λ (l : List MarkedField). AllAgree theory l js []) (sym p)
        (subst (λ (l : List MarkedField). AllAgree theory [] l []) (sym q) refl),
    refl,
  )
  all_still_agree (b ∷ keep) (f ∷ fs) (g ∷ gs) (h ∷ hs) (i ∷ is) (j ∷ js) e k p q =
      let one = still_agree b f g h i j e.0 p.0 q.0 in
      let rest = all_still_agree keep fs gs hs is js e.1 k.1 p.1 q.1 in
      (one.0 ∷ rest.0, (one.1, rest.1), (one.2, rest.2))
  all_still_agree (b ∷ keep) [] [] hs is js e k p q = absurd p
  all_still_agree [] (f ∷ fs) (g ∷ gs) (h ∷ hs) is js e k p q = absurd k
  all_still_agree (b ∷ keep) (f ∷ fs) (g ∷ gs) (h ∷ hs) [] js e k p q = absurd p
  all_still_agree (b ∷ keep) (f ∷ fs) (g ∷ gs) (h ∷ hs) (i ∷ is) [] e k p q = absurd q
  all_still_agree keep _ _ hs is js e k p q = absurd e
