-- The functions decide the relations.
use Rattle.std.proofs.Common.{ℕ, zero, suc, ◌≡◌, ◌==◌, ◌↔◌, ◌&&◌, ◌||◌, List, [], ◌∷◌, refl, sym, ap, subst, ◌∙◌, arith}
use Rattle.std.proofs.Common.{Option, Some, None, Bool, true, false, option_map, option_and_then, Contains}
use Rattle.std.specs.Str.{bytes_eq}
use Rattle.std.proofs.lemmas.Bool.Decides.{Decides-eqb}
use Rattle.std.proofs.lemmas.Slice.Eq.{bytes_eq-Decides}
use Rattle.std.proofs.lemmas.Bool.{and_from, and_parts, or_left, false≢true, or_right}
use Rattle.std.proofs.lemmas.Option.{none-some, same_Some}
use Rattle.spec_core.specs.Lists.{Each}
use Rattle.spec_core.specs.Theories.{Theory}
use Rattle.spec_core.specs.Code.{Variable}
use Rattle.spec_core.proofs.Options.{map_some, then_some}
use Rattle.rule_model.specs.declared.offer.Field.{Field}
use Rattle.rule_model.specs.declared.offer.Field.TheVariants.{Give, Take}
use Rattle.rule_model.specs.declared.offer.Offer.{Offer}
use Rattle.rule_model.specs.Actions.{Kind, inside, ends, at_gate}
use Rattle.symbolic_rules.specs.Windows.{Windows, sort_of_value}
use Rattle.symbolic_rules.specs.MarkedFields.{MarkedField, told, chosen, given, free, sort_of_field, Agree, AllAgree, HaveSortsOf, IsWithin}
use Rattle.symbolic_rules.specs.Trees.{FieldMayMeet, FieldsMayMeet, MayMeet}
use Rattle.symbolic_composites.specs.Kinds.{same_kind}
use Rattle.symbolic_composites.specs.OpenFields.{is_listed}
use Rattle.symbolic_composites.proofs.Tests.{same_kind_so}
use Rattle.symbolic_actions.specs.Deciding.{field_where, agreed, all_agreed, have_sorts, is_within, all_within, field_may_meet, fields_may_meet}
use Rattle.symbolic_actions.specs.Deciding.{may_meet}
use Rattle.symbolic_actions.specs.Laws.{FieldsAreDecidedByFunctions}

same_value : (v u : List ℕ) → (v ≡ u) ↔ (bytes_eq v u ≡ true)
same_value v u = ((bytes_eq-Decides v u).1, (bytes_eq-Decides v u).0)

same_number : (a b : ℕ) → (a ≡ b) ↔ ((a == b) ≡ true)
same_number a b = ((Decides-eqb a b).1, (Decides-eqb a b).0)

pub both_so : (P Q : Type 0) (b c : Bool) → P ↔ (b ≡ true) → Q ↔ (c ≡ true) → (P × Q) ↔ (b && c ≡ true)
both_so P Q b c p q = (λ h. and_from b c (p.0 h.0) (q.0 h.1), λ e. let r = and_parts b c e in (p.1 r.0, q.1 r.1))

always : (P : Type 0) → P → P ↔ (true ≡ true)
always P h = (λ k. refl, λ e. h)

-- a value that stands in the list
listed : (v : List ℕ) (values : List (List ℕ)) → Contains values v ↔ (is_listed v values ≡ true)
listed v [] = (λ c. let l = c.1 in absurd (omega arith), λ e. absurd (false≢true e))
listed v (u ∷ values) = (to (listed v values).0, back (bytes_eq u v) refl (listed v values).1)
  where
    to : (Contains values v → is_listed v values ≡ true) → Contains (u ∷ values) v → bytes_eq u v || is_listed v values ≡ true
    to r (zero, l, e) = or_left (bytes_eq u v) (is_listed v values) ((same_value u v).0 e)
    to r (suc i, l, e) = or_right (bytes_eq u v) (is_listed v values) (r (i, omega arith, e))

    back : (b : Bool) → bytes_eq u v ≡ b → (is_listed v values ≡ true → Contains values v) → b || is_listed v values ≡ true →
        Contains (u ∷ values) v
    back true q r e = (zero, omega arith, (same_value u v).1 q)
    back false q r e = let c = r e in let l = c.1 in (suc c.0, omega arith, c.2)

-- a field where a test is passed
where_so : (b : Bool) (P : Type 0) (f h : MarkedField) → P ↔ (b ≡ true) → (P × (h ≡ f)) ↔ (field_where b f ≡ Some h)
where_so true P f h d = (λ k. ap Some (sym k.1), λ e. (d.1 refl, sym (same_Some _ _ e)))
where_so false P f h d = (λ k. absurd (false≢true (d.0 k.0)), λ e. absurd (none-some _ e))

nowhere : (h : MarkedField) → ⊥ ↔ (None ≡ Some h)
nowhere h = (λ k. absurd k, λ e. none-some _ e)

module _ (theory : Theory) where
  agree_so : (f g h : MarkedField) → Agree theory f g h ↔ (agreed theory f g ≡ Some h)
  agree_so (told v) (told u) h = where_so (bytes_eq v u) (v ≡ u) (told v) h (same_value v u)
  agree_so (told v) (chosen u) h = where_so (bytes_eq v u) (v ≡ u) (told v) h (same_value v u)
  agree_so (told v) (given sort) h = where_so (sort_of_value theory v == sort) _ (told v) h (same_number (sort_of_value theory v) sort)
  agree_so (told v) (free sort) h = nowhere h
  agree_so (chosen v) (told u) h = where_so (bytes_eq v u) (v ≡ u) (told v) h (same_value v u)
  agree_so (chosen v) (chosen u) h = where_so (bytes_eq v u) (v ≡ u) (chosen v) h (same_value v u)
  agree_so (chosen v) (given sort) h = where_so (sort_of_value theory v == sort) _ (chosen v) h (same_number (sort_of_value theory v) sort)
  agree_so (chosen v) (free sort) h = nowhere h
  agree_so (given sort) (told v) h = where_so (sort_of_value theory v == sort) _ (told v) h (same_number (sort_of_value theory v) sort)
  agree_so (given sort) (chosen v) h = where_so (sort_of_value theory v == sort) _ (chosen v) h (same_number (sort_of_value theory v) sort)
  agree_so (given sort) (given other) h = where_so (sort == other) (sort ≡ other) (given sort) h (same_number sort other)
  agree_so (given sort) (free other) h = where_so (sort == other) (sort ≡ other) (given sort) h (same_number sort other)
  agree_so (free sort) (told v) h = nowhere h
  agree_so (free sort) (chosen v) h = nowhere h
  agree_so (free sort) (given other) h = where_so (sort == other) (sort ≡ other) (given sort) h (same_number sort other)
  agree_so (free sort) (free other) h = where_so (sort == other) (sort ≡ other) (free sort) h (same_number sort other)

  pub all_agree_so : (fs gs hs : List MarkedField) → AllAgree theory fs gs hs ↔ (all_agreed theory fs gs ≡ Some hs)
  all_agree_so [] [] hs = (λ e. ap Some (sym e), λ e. sym (same_Some _ _ e))
  all_agree_so (f ∷ fs) (g ∷ gs) [] = (λ k. absurd k, none)
    where
      none : all_agreed theory (f ∷ fs) (g ∷ gs) ≡ Some [] → ⊥
      none e =
          let i = then_some (agreed theory f g) (λ x. option_map (λ xs. x ∷ xs) (all_agreed theory fs gs)) [] e in
          let j = map_some (all_agreed theory fs gs) (λ xs. i.0 ∷ xs) [] i.2 in
          let no : i.0 ∷ j.0 ≡ [] = j.2 in absurd cc
  all_agree_so (f ∷ fs) (g ∷ gs) (h ∷ hs) = (to (all_agree_so fs gs hs).0, back (λ l. (all_agree_so fs gs l).1))
    where
      to : (AllAgree theory fs gs hs → all_agreed theory fs gs ≡ Some hs) → Agree theory f g h × AllAgree theory fs gs hs →
          all_agreed theory (f ∷ fs) (g ∷ gs) ≡ Some (h ∷ hs)
      to r k =
          ap (option_and_then (λ x. option_map (λ xs. x ∷ xs) (all_agreed theory fs gs))) ((agree_so f g h).0 k.0)
          ∙ ap (option_map (λ xs. h ∷ xs)) (r k.1)

      back : ((l : List MarkedField) → all_agreed theory fs gs ≡ Some l → AllAgree theory fs gs l) →
          all_agreed theory (f ∷ fs) (g ∷ gs) ≡ Some (h ∷ hs) → Agree theory f g h × AllAgree theory fs gs hs
      back r e =
          let i = then_some (agreed theory f g) (λ x. option_map (λ xs. x ∷ xs) (all_agreed theory fs gs)) (h ∷ hs) e in
          let j = map_some (all_agreed theory fs gs) (λ xs. i.0 ∷ xs) (h ∷ hs) i.2 in
          let same : i.0 ∷ j.0 ≡ h ∷ hs = j.2 in
          let head : i.0 ≡ h = cc in
          let rest : j.0 ≡ hs = cc in
          (subst (Agree theory f g) head ((agree_so f g i.0).1 i.1), subst (AllAgree theory fs gs) rest (r j.0 j.1))
  all_agree_so [] (g ∷ gs) hs = (λ k. absurd k, λ e. none-some _ e)
  all_agree_so (f ∷ fs) [] hs = (λ k. absurd k, λ e. none-some _ e)

  pub sorts_so : (xs : List Variable) (fs : List MarkedField) → HaveSortsOf theory xs fs ↔ (have_sorts theory xs fs ≡ true)
  sorts_so [] [] = always (Unit {0}) tt
  sorts_so (x ∷ xs) (f ∷ fs) =
      both_so (sort_of_field theory f ≡ x.sort) (HaveSortsOf theory xs fs) (sort_of_field theory f == x.sort) (have_sorts theory xs fs)
      (same_number (sort_of_field theory f) x.sort) (sorts_so xs fs)
  sorts_so [] (f ∷ fs) = (λ k. absurd k, λ e. false≢true e)
  sorts_so (x ∷ xs) [] = (λ k. absurd k, λ e. false≢true e)

module _ (theory : Theory) (w : Windows) where
  within_so : (f : MarkedField) → IsWithin theory w f ↔ (is_within theory w f ≡ true)
  within_so (told v) = always (Unit {0}) tt
  within_so (chosen v) = listed v (w.values (sort_of_value theory v))
  within_so (given sort) = always (Unit {0}) tt
  within_so (free sort) = always (Unit {0}) tt

  pub all_within_so : (fs : List MarkedField) → Each (IsWithin theory w) fs ↔ (all_within theory w fs ≡ true)
  all_within_so [] = always (Unit {0}) tt
  all_within_so (f ∷ fs) =
      both_so (IsWithin theory w f) (Each (IsWithin theory w) fs) (is_within theory w f) (all_within theory w fs) (within_so f)
      (all_within_so fs)

  -- a test alone, beside what always holds
  alone_so : (P : Type 0) (b : Bool) → P ↔ (b ≡ true) → (P × Unit {0}) ↔ (b ≡ true)
  alone_so P b d = (λ h. d.0 h.0, λ e. (d.1 e, tt))

  field_meets_so : (f : MarkedField) (field : Field) → FieldMayMeet theory w f field ↔ (field_may_meet theory w f field ≡ true)
  field_meets_so (told v) (Give u) = same_value v u
  field_meets_so (chosen v) (Give u) = same_value v u
  field_meets_so (given sort) (Give u) = same_number (sort_of_value theory u) sort
  field_meets_so (free sort) (Give u) = (λ k. absurd k, λ e. false≢true e)
  field_meets_so (told v) (Take sort) =
      alone_so (sort_of_value theory v ≡ sort.0) (sort_of_value theory v == sort.0) (same_number (sort_of_value theory v) sort.0)
  field_meets_so (chosen v) (Take sort) =
      both_so (sort_of_value theory v ≡ sort.0) (IsWithin theory w (chosen v)) (sort_of_value theory v == sort.0)
      (is_within theory w (chosen v)) (same_number (sort_of_value theory v) sort.0) (within_so (chosen v))
  field_meets_so (given other) (Take sort) = alone_so (other ≡ sort.0) (other == sort.0) (same_number other sort.0)
  field_meets_so (free other) (Take sort) = alone_so (other ≡ sort.0) (other == sort.0) (same_number other sort.0)

  fields_meet_so : (fs : List MarkedField) (fields : List Field) →
      FieldsMayMeet theory w fs fields ↔ (fields_may_meet theory w fs fields ≡ true)
  fields_meet_so [] [] = always (Unit {0}) tt
  fields_meet_so (f ∷ fs) (field ∷ fields) =
      both_so (FieldMayMeet theory w f field) (FieldsMayMeet theory w fs fields) (field_may_meet theory w f field)
      (fields_may_meet theory w fs fields) (field_meets_so f field) (fields_meet_so fs fields)
  fields_meet_so [] (field ∷ fields) = (λ k. absurd k, λ e. false≢true e)
  fields_meet_so (f ∷ fs) [] = (λ k. absurd k, λ e. false≢true e)

-- kinds that the test finds to be one
pub kinds_same : (j k : Kind) → same_kind j k ≡ true → j ≡ k
kinds_same inside inside e = refl
kinds_same ends ends e = refl
kinds_same (at_gate g) (at_gate h) e = ap at_gate ((same_number g h).1 e)
kinds_same inside ends e = absurd (false≢true e)
kinds_same inside (at_gate h) e = absurd (false≢true e)
kinds_same ends inside e = absurd (false≢true e)
kinds_same ends (at_gate h) e = absurd (false≢true e)
kinds_same (at_gate g) inside e = absurd (false≢true e)
kinds_same (at_gate g) ends e = absurd (false≢true e)

meets_so : (theory : Theory) (w : Windows) (k : Kind) (fs : List MarkedField) (o : Option Offer) →
    MayMeet theory w k fs o ↔ (may_meet theory w k fs o ≡ true)
meets_so theory w k fs None = all_within_so theory w fs
meets_so theory w k fs (Some offer) =
    both_so (k ≡ at_gate offer.gate.0) (FieldsMayMeet theory w fs offer.fields) (same_kind k (at_gate offer.gate.0))
    (fields_may_meet theory w fs offer.fields) (same_kind_so k (at_gate offer.gate.0), kinds_same k (at_gate offer.gate.0))
    (fields_meet_so theory w fs offer.fields)

pub fields_are_decided : FieldsAreDecidedByFunctions
fields_are_decided = record {
  agree = agree_so;
  all_agree = all_agree_so;
  sorts = sorts_so;
  within = within_so;
  all_within = all_within_so;
  meets = meets_so;
}
