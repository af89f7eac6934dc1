-- Each step is seen by its loosened tree.
use Rattle.std.proofs.Common.{ℕ, ◌≡◌, ◌⊎◌, List, [], ◌∷◌, refl, sym, ap, subst, inl, inr, Bool, true, false, Option, Some, None, Contains}
use Rattle.spec_core.specs.Terms.{variable}
use Rattle.spec_core.specs.Sorts.{FitsData}
use Rattle.spec_core.specs.Code.{Program}
use Rattle.rule_model.specs.declared.action.Action.{Action}
use Rattle.rule_model.specs.declared.action.Action.TheVariants.{Inner, Exit, At}
use Rattle.rule_model.specs.declared.offer.Offer.{Offer}
use Rattle.rule_model.specs.declared.rules.Slot.TheVariants.{Of, Mark, Blank}
use Rattle.rule_model.specs.Actions.{Kind, at_gate, kind_of, doing, pairs_of}
use Rattle.rule_model.specs.Behaviours.{Behaviour, exit, inner, action, choice, guarded, bound, value_choice, gate_choice, parallel}
use Rattle.rule_model.specs.Behaviours.{hide, enable, disable, call, relabel}
use Rattle.rule_model.specs.Derivations.{Derivation, pre, int, exiting, chl, chr, val, gate, guard, letting, parl, parr, both, hiding, pass}
use Rattle.rule_model.specs.Derivations.{enstep, enend, disstep, disend, distake, calling, rel}
use Rattle.rule_model.specs.Derives.{DerivesWith}
use Rattle.rule_model.specs.Meets.{FieldsMeet, Meets}
use Rattle.rule_model.specs.Substitution.{Assignment, with_term}
use Rattle.symbolic_rules.specs.Windows.{Windows}
use Rattle.symbolic_rules.specs.MarkedTerms.{MarkedTerm, MarkedAssignment, unmarked, with_marked}
use Rattle.symbolic_rules.specs.MarkedFields.{MarkedField, chosen_by, IsWithin}
use Rattle.symbolic_rules.specs.MayDerive.{MayDeriveWith}
use Rattle.symbolic_rules.specs.Trees.{MeetsIfOffered, has_mark, IsSeen, IsWindowed, IsBeyond}
use Rattle.symbolic_rules.proofs.Standing.{StandsForAll, unmarked_stands, premise_may_hold, guard_may_hold, with_one_more}
use Rattle.symbolic_rules.proofs.Fields.{bindings_stand, arguments_stand}
use Rattle.symbolic_rules.proofs.Seen.{values_of, renamed_values, renamed_kinds}
use Rattle.symbolic_rules.proofs.Sorts.{IsSpelled}
use Rattle.symbolic_rules.proofs.Windows.{not_complete}
use Rattle.symbolic_laws.specs.Loosened.{Marking, no_marks, marks_bound, marks_passed, told_in, told_at_exit, either_told, given_for}
use Rattle.symbolic_laws.specs.Loosened.{loosened_slot, loosened_slots, loosened_at_exit, LoosensWith, IsLoosened}
use Rattle.symbolic_laws.specs.Laws.{EachStepHasItsTree, EachStepIsSeenByItsTree}
use Rattle.symbolic_laws.proofs.Marking.{Agrees, none_agrees, with_one_agrees, bindings_agree, arguments_agree}
use Rattle.symbolic_laws.proofs.Fields.{AreAsMany, Covers, covers_itself, covers_left, covers_right, either_as_many, IsFor, AreFor, none_are}
use Rattle.symbolic_laws.proofs.Fields.{is_within, are_within, sorts_are, all_agreed, covers_for, may_be_met, slot_chosen, fields_loosened}
use Rattle.symbolic_laws.proofs.Fields.{exit_loosened, told_as_many, exit_as_many}
use Rattle.symbolic_laws.proofs.One.{one_tree_is_loosened}

module _ (program : Program) (fits : FitsData program.theory) (w : Windows)
    (beyond : (sort : ℕ) (v : List ℕ) → IsSpelled program.theory sort v → (Contains (w.values sort) v → ⊥) → w.complete sort ≡ false) where
  -- the tree d loosened, where these places are given, and what the behaviour may do by it
  pub record Looser (m : MarkedAssignment) (marks : Marking) (b : Behaviour) (d : Derivation) (k : Kind) (values : List (List ℕ))
      (is_given is_told : List Bool) : Type 0 where
    pub tree : Derivation
    pub fields : List MarkedField
    pub loosens : LoosensWith program w marks is_given b d tree is_told
    pub may : MayDeriveWith program w m b tree k fields
    pub are : AreFor program.theory w is_given is_told values fields

  -- which places are told, and a tree for each list of given places that has these
  pub record Loosenable (m : MarkedAssignment) (marks : Marking) (b : Behaviour) (d : Derivation) (a : Action) : Type 0 where
    pub is_told : List Bool
    pub as_many : AreAsMany is_told (values_of a)
    pub under : (is_given : List Bool) → Covers is_given is_told → Looser m marks b d (kind_of a) (values_of a) is_given is_told

  -- the same below one more rule
  over : (n m : MarkedAssignment) (inside marks : Marking) (part b : Behaviour) (d whole : Derivation) (row : Derivation → Derivation)
      (a : Action) →
      ((is_given is_told : List Bool) (e : Derivation) → LoosensWith program w inside is_given part d e is_told →
      LoosensWith program w marks is_given b whole (row e) is_told) →
      ((e : Derivation) (fs : List MarkedField) → MayDeriveWith program w n part e (kind_of a) fs →
      MayDeriveWith program w m b (row e) (kind_of a) fs) →
      Loosenable n inside part d a → Loosenable m marks b whole a
  over n m inside marks part b d whole row a loosens may r = record {
    is_told = r.is_told;
    as_many = r.as_many;
    under = λ is_given c.
        let z = r.under is_given c in
        record {
          tree = row z.tree;
          fields = z.fields;
          loosens = loosens is_given r.is_told z.tree z.loosens;
          may = may z.tree z.fields z.may;
          are = z.are;
        };
  }

  within_by : (k : MarkedTerm) (v : List ℕ) → IsFor program.theory w false false v (chosen_by k) → IsWithin program.theory w (chosen_by k)
  within_by k v h = is_within program.theory w false v (chosen_by k) h

  loosen : (d : Derivation) (b : Behaviour) (s : Assignment) (m : MarkedAssignment) (marks : Marking) (a : Action) (c : Behaviour) →
      StandsForAll program.theory m s → Agrees marks m → DerivesWith program s b d a c → Loosenable m marks b d a
  loosen (pre slots) (action g fields p rest) s m marks a c k q h =
      subst (Loosenable m marks (action g fields p rest) (pre slots)) (sym h.2) (record {
        is_told = told_in marks fields;
        as_many = told_as_many program.theory fits w beyond marks s s h.1 fields slots h.0 h.3;
        under = λ is_given covers.
            let r = fields_loosened program.theory fits w beyond marks m q s k fields slots h.0 is_given m s h.1 k h.3 covers in
            record {
              tree = pre (loosened_slots w fields is_given slots);
              fields = r.0;
              loosens = (refl, refl);
              may = (r.1, refl, r.2, guard_may_hold program.theory r.1 h.1 r.4 p h.4);
              are = r.3;
            };
      })
  loosen int (inner rest) s m marks a c k q h =
      subst (Loosenable m marks (inner rest) int) (sym h.0) (record {
        is_told = [];
        as_many = tt;
        under = λ is_given covers.
            record { tree = int; fields = []; loosens = (refl, refl); may = (refl, refl); are = none_are program.theory w is_given covers };
      })
  loosen (exiting slots) (exit fields) s m marks a c k q h =
      subst (Loosenable m marks (exit fields) (exiting slots)) (sym h.1) (record {
        is_told = told_at_exit marks fields;
        as_many = exit_as_many program.theory fits w beyond marks s fields slots h.0 h.2;
        under = λ is_given covers.
            let r = exit_loosened program.theory fits w beyond marks m q s k fields slots h.0 is_given h.2 covers in
            record {
              tree = exiting (loosened_at_exit w fields is_given slots);
              fields = r.0;
              loosens = (refl, refl);
              may = (refl, r.1);
              are = r.2;
            };
      })
  loosen (chl d) (choice x y) s m marks a c k q h =
      over m m marks marks x (choice x y) d (chl d) chl a (λ g t e i. (e, refl, i)) (λ e fs i. i) (loosen d x s m marks a c k q h)
  loosen (chr d) (choice x y) s m marks a c k q h =
      over m m marks marks y (choice x y) d (chr d) chr a (λ g t e i. (e, refl, i)) (λ e fs i. i) (loosen d y s m marks a c k q h)
  loosen (val (Of v) d) (value_choice x body) s m marks a c k q h =
      let one = slot_chosen program.theory fits w beyond false v v h.0 x.sort refl h.1 in
      over (with_marked x one.term m) m _ marks body (value_choice x body) d (val (Of v) d) (val (loosened_slot w x.sort false (Of v))) a
      (λ g t e i. (e, refl, i)) (λ e fs i. (one.term, one.chooses, within_by one.term v one.is_for, i))
      (loosen d body (with_term x h.0 s) (with_marked x one.term m) _ a c (with_one_more program.theory m s k x one.term h.0 one.stands)
      (with_one_agrees marks m q x one.term _ one.marked) h.2)
  loosen (val Mark d) (value_choice x body) s m marks a c k q h = absurd h
  loosen (val Blank d) (value_choice x body) s m marks a c k q h = absurd h
  loosen (gate j d) (gate_choice g gates body) s m marks a c k q h =
      over m m marks marks (relabel (record { from = g; to = h.1 } ∷ []) body) (gate_choice g gates body) d (gate j d) (gate j) a
      (λ p t e i. (h.0, h.1, h.2, h.3, (e, refl, i))) (λ e fs i. (h.0, h.1, h.2, h.3, i))
      (loosen d (relabel (record { from = g; to = h.1 } ∷ []) body) s m marks a c k q h.4)
  loosen (guard d) (guarded p body) s m marks a c k q h =
      over m m marks marks body (guarded p body) d (guard d) guard a (λ g t e i. (e, refl, i))
      (λ e fs i. (premise_may_hold program.theory m s k p h.0, i)) (loosen d body s m marks a c k q h.1)
  loosen (letting d) (bound bindings body) s m marks a c k q h =
      let z = bindings_stand program.theory fits w m s k bindings m s h.0 k h.1 in
      over z.0 m (marks_bound marks marks bindings) marks body (bound bindings body) d (letting d) letting a (λ g t e i. (e, refl, i))
      (λ e fs i. (z.0, z.1, i))
      (loosen d body h.0 z.0 (marks_bound marks marks bindings) a c z.2
      (bindings_agree program.theory marks m q bindings marks m z.0 q z.1) h.2)
  loosen (parl d) (parallel gates x y) s m marks a c k q h =
      over m m marks marks x (parallel gates x y) d (parl d) parl a (λ g t e i. (e, refl, i)) (λ e fs i. (i, h.2))
      (loosen d x s m marks a h.0 k q h.1)
  loosen (parr d) (parallel gates x y) s m marks a c k q h =
      over m m marks marks y (parallel gates x y) d (parr d) parr a (λ g t e i. (e, refl, i)) (λ e fs i. (i, h.2))
      (loosen d y s m marks a h.0 k q h.1)
  loosen (both d e) (parallel gates x y) s m marks a c k q h =
      let l = loosen d x s m marks a h.0 k q h.2 in
      let r = loosen e y s m marks a h.1 k q h.3 in
      record {
        is_told = either_told l.is_told r.is_told;
        as_many = either_as_many l.is_told r.is_told (values_of a) l.as_many r.as_many;
        under = λ is_given covers.
            let u = l.under is_given (covers_left is_given l.is_told r.is_told (values_of a) l.as_many r.as_many covers) in
            let v = r.under is_given (covers_right is_given l.is_told r.is_told (values_of a) l.as_many r.as_many covers) in
            let z = all_agreed program.theory w is_given l.is_told r.is_told (values_of a) u.fields v.fields covers u.are v.are in
            record {
              tree = both u.tree v.tree;
              fields = z.0;
              loosens = (u.tree, v.tree, l.is_told, r.is_told, refl, u.loosens, v.loosens, refl);
              may = (u.fields, v.fields, u.may, v.may, h.4, z.1);
              are = z.2;
            };
      }
  loosen (hiding d) (hide gates body) s m marks a c k q h =
      subst (Loosenable m marks (hide gates body) (hiding d)) (sym h.5)
      (let r = loosen d body s m marks (doing h.0 h.1) h.2 k q h.3 in
      let z = r.under r.is_told (covers_itself r.is_told) in
      record {
        is_told = [];
        as_many = tt;
        under = λ is_given covers. record {
          tree = hiding z.tree;
          fields = [];
          loosens = (z.tree, r.is_told, refl, z.loosens, refl);
          may = (h.0, z.fields, z.may, h.4, are_within program.theory w r.is_told h.1 z.fields z.are, refl, refl);
          are = none_are program.theory w is_given covers;
        };
      })
  loosen (pass d) (hide gates body) s m marks a c k q h =
      over m m marks marks body (hide gates body) d (pass d) pass a (λ g t e i. (e, refl, i)) (λ e fs i. (i, h.2))
      (loosen d body s m marks a h.0 k q h.1)
  loosen (enstep d) (enable x xs y) s m marks a c k q h =
      over m m marks marks x (enable x xs y) d (enstep d) enstep a (λ g t e i. (e, refl, i)) (λ e fs i. (i, h.2))
      (loosen d x s m marks a h.0 k q h.1)
  loosen (enend d) (enable x xs y) s m marks a c k q h =
      subst (Loosenable m marks (enable x xs y) (enend d)) (sym h.4)
      (let r = loosen d x s m marks (Exit h.0) h.1 k q h.3 in
      let z = r.under r.is_told (covers_itself r.is_told) in
      record {
        is_told = [];
        as_many = tt;
        under = λ is_given covers. record {
          tree = enend z.tree;
          fields = [];
          loosens = (z.tree, r.is_told, refl, z.loosens, refl);
          may = (
            z.fields,
            z.may,
            sorts_are program.theory w xs r.is_told r.is_told h.0 z.fields s h.2 h.5 z.are,
            are_within program.theory w r.is_told h.0 z.fields z.are,
            refl,
            refl,
          );
          are = none_are program.theory w is_given covers;
        };
      })
  loosen (disstep d) (disable x y) s m marks a c k q h =
      over m m marks marks x (disable x y) d (disstep d) disstep a (λ g t e i. (e, refl, i)) (λ e fs i. (i, h.2))
      (loosen d x s m marks a h.0 k q h.1)
  loosen (disend d) (disable x y) s m marks a c k q h =
      over m m marks marks x (disable x y) d (disend d) disend a (λ g t e i. (e, refl, i)) (λ e fs i. (i, h.1))
      (loosen d x s m marks a c k q h.0)
  loosen (distake d) (disable x y) s m marks a c k q h =
      over m m marks marks y (disable x y) d (distake d) distake a (λ g t e i. (e, refl, i)) (λ e fs i. i) (loosen d y s m marks a c k q h)
  loosen (calling d) (call p actual terms) s m marks a c k q h =
      let z = arguments_stand program.theory fits w m s k h.1 terms unmarked variable h.3 (unmarked_stands program.theory) h.5 in
      over z.0 m (marks_passed marks no_marks h.1 terms) marks (relabel (pairs_of h.0 actual) h.2) (call p actual terms) d (calling d) calling a
      (λ g t e i. (h.0, h.1, h.2, e, h.4, refl, i)) (λ e fs i. (h.0, h.1, h.2, z.0, h.4, z.1, i))
      (loosen d (relabel (pairs_of h.0 actual) h.2) h.3 z.0 (marks_passed marks no_marks h.1 terms) a c z.2
      (arguments_agree program.theory marks m q h.1 terms no_marks unmarked z.0 none_agrees z.1) h.6)
  loosen (rel d) (relabel pairs body) s m marks a c k q h =
      subst (Loosenable m marks (relabel pairs body) (rel d)) (sym h.3)
      (let r = loosen d body s m marks h.0 h.1 k q h.2 in
      record {
        is_told = r.is_told;
        as_many = subst (AreAsMany r.is_told) (renamed_values pairs h.0) r.as_many;
        under = λ is_given covers.
            let z = r.under is_given covers in
            record {
              tree = rel z.tree;
              fields = z.fields;
              loosens = (z.tree, refl, z.loosens);
              may = (kind_of h.0, z.may, renamed_kinds pairs h.0);
              are =
                  subst (λ values. AreFor program.theory w is_given r.is_told values z.fields) (renamed_values pairs h.0) z.are;
            };
      })
  loosen _ _ s m marks a c k q h = absurd h

  meets_at : (a : Action) (offer : Offer) → Meets program.theory a offer →
      (kind_of a ≡ at_gate offer.gate.0) × FieldsMeet program.theory (values_of a) offer.fields
  meets_at Inner offer h = absurd h
  meets_at (Exit values) offer h = absurd h
  meets_at (At place values) offer h = (ap (λ g. at_gate g.0) h.0, h.1)

  pub seen : (b : Behaviour) (d : Derivation) (a : Action) → Loosenable unmarked no_marks b d a → (o : Option Offer) →
      MeetsIfOffered program.theory a o → (e : Derivation) × IsLoosened program w b o d e × IsSeen program w b o e (kind_of a)
  seen b d a r None h =
      let z = r.under r.is_told (covers_itself r.is_told) in (
        z.tree,
        (r.is_told, z.loosens),
        record {
          fields = z.fields;
          derives = z.may;
          meets = are_within program.theory w r.is_told (values_of a) z.fields z.are;
        },
      )
  seen b d a r (Some offer) h =
      let j = meets_at a offer h in
      let z = r.under (given_for r.is_told offer.fields)
      (covers_for program.theory w r.is_told (values_of a) offer.fields r.as_many j.1) in (
        z.tree,
        (r.is_told, z.loosens),
        record {
          fields = z.fields;
          derives = z.may;
          meets = (j.0, may_be_met program.theory w r.is_told (values_of a) offer.fields z.fields j.1 z.are);
        },
      )

  -- a tree that is seen is windowed, or beyond
  which : (b : Behaviour) (o : Option Offer) (e : Derivation) (k : Kind) → IsSeen program w b o e k → (t : Bool) → has_mark e ≡ t →
      IsWindowed program w b o e k ⊎ IsBeyond program w b o e k
  which b o e k is true t = inr (is, t)
  which b o e k is false t = inl (is, t)

module _ (program : Program) (n : ℕ) (w : Windows) (fits : FitsData program.theory)
    (beyond : (sort : ℕ) (v : List ℕ) → IsSpelled program.theory sort v → (Contains (w.values sort) v → ⊥) → w.complete sort ≡ false)
    (b : Behaviour) (d : Derivation) (a : Action) (c : Behaviour) (h : DerivesWith program variable b d a c) (o : Option Offer)
    (meets : MeetsIfOffered program.theory a o) where
  pub its_tree : (e : Derivation) × IsLoosened program w b o d e × IsSeen program w b o e (kind_of a)
  its_tree =
      seen program fits w beyond b d a
      (loosen program fits w beyond d b variable unmarked no_marks a c (unmarked_stands program.theory) none_agrees h) o meets

pub each_step_has_its_tree : EachStepHasItsTree
each_step_has_its_tree program n w executable windows b d a c h o meets =
    let beyond = not_complete program.theory executable n w windows in
    let r = its_tree program n w executable.fits beyond b d a c h o meets in (r.0, r.1)

pub each_step_is_seen_by_its_tree : EachStepIsSeenByItsTree
each_step_is_seen_by_its_tree program n w executable windows b d a c h o meets e is =
    let fits = executable.fits in
    let beyond = not_complete program.theory executable n w windows in
    let r = its_tree program n w fits beyond b d a c h o meets in
    let same : r.0 ≡ e = one_tree_is_loosened program w b o d r.0 e r.1 is in
    subst (λ t. IsWindowed program w b o t (kind_of a) ⊎ IsBeyond program w b o t (kind_of a)) same
    (which program fits w beyond b o r.0 (kind_of a) r.2 (has_mark r.0) refl)
