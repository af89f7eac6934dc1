-- Each tree by which a behaviour may act is a tree of one of its composites.
use Rattle.std.proofs.Common.{ℕ, zero, suc, ◌≡◌, ◌+◌, ◌++◌, ◌&&◌, List, [], ◌∷◌, map, flat_map, inl, refl, sym, ap, subst, ◌∙◌, arith}
use Rattle.std.proofs.Common.{Option, Some, None, true, false, option_map, option_and_then}
use Rattle.std.specs.List.{slice_get}
use Rattle.std.proofs.lemmas.Bool.{and_from}
use Rattle.std.proofs.lemmas.Option.{same_Some}
use Rattle.spec_core.specs.Lists.{Each, IsOneOf}
use Rattle.spec_core.specs.Terms.{TermTree, preorder}
use Rattle.spec_core.specs.Code.{Program, Relabelling, Synchronised, ExitValue, exit_given, exit_any, ActionField, give, accept}
use Rattle.spec_core.proofs.Members.{one_flat_map, one_left, one_map, one_right}
use Rattle.rule_model.specs.declared.rules.Slot.{Slot}
use Rattle.rule_model.specs.declared.rules.Slot.TheVariants.{Of, Mark, Blank}
use Rattle.rule_model.specs.Actions.{Kind, inside, ends, at_gate, pairs_of}
use Rattle.rule_model.specs.Behaviours.{Behaviour, exit, inner, action, choice, guarded, bound, value_choice, gate_choice, parallel}
use Rattle.rule_model.specs.Behaviours.{hide, enable, disable, call, relabel}
use Rattle.rule_model.specs.Derivations.{Derivation, pre, int, exiting, chl, chr, val, gate, guard, letting, parl, parr, both, hiding, pass}
use Rattle.rule_model.specs.Derivations.{enstep, enend, disstep, disend, distake, calling, rel}
use Rattle.symbolic_rules.specs.Windows.{Windows, sort_of_value}
use Rattle.symbolic_rules.specs.MarkedTerms.{MarkedTerm, plain, mark, MarkedAssignment, unmarked, with_marked, marked_instance}
use Rattle.symbolic_rules.specs.MarkedTerms.{MayHaveValue}
use Rattle.symbolic_rules.specs.MarkedFields.{MarkedField, told_by, chosen_by, AllAgree, IsWithin, Chooses, FieldsMayHave, ExitMayHave}
use Rattle.symbolic_rules.specs.MayDerive.{renamed_kind, MayDeriveWith}
use Rattle.symbolic_rules.proofs.Sorts.{sort_of_ground}
use Rattle.symbolic_composites.specs.Evaluations.{Definition, Evaluation, IsExact, premise_may_hold, chosen_term, with_bindings, with_arguments}
use Rattle.symbolic_composites.specs.Kinds.{is_alone, is_joint, is_hidden, is_end, same_kind}
use Rattle.symbolic_composites.specs.OpenFields.{OpenField, blank, open_by, all_together, open_fields, open_exit, slots_of, exit_slots_of}
use Rattle.symbolic_composites.specs.OpenFields.{mark_unless}
use Rattle.symbolic_composites.specs.OpenFields.{window_slots, all_choices, choices_at_once}
use Rattle.symbolic_composites.specs.Composites.{Composite, from_option, under, relabelled, turned, alone, paired, joint, by_hiding, by_enabling}
use Rattle.symbolic_composites.specs.Composites.{by_disabling, of_relabel, of_gates, filled, composites}
use Rattle.symbolic_composites.specs.TreeLists.{Nests}
use Rattle.symbolic_composites.proofs.Lists.{one_option, one_contained}
use Rattle.symbolic_composites.proofs.Tests.{if_true, if_false, is_alone_so, is_joint_so, is_unhidden_so, is_end_so, is_no_end_so}
use Rattle.symbolic_composites.proofs.Tests.{same_kind_so}
use Rattle.symbolic_composites.proofs.Exact.{value_is, chosen_is, premise_is, bindings_are, arguments_are}
use Rattle.symbolic_composites.proofs.OpenFields.{Fits, AllFit, Suffice, AllSuffice, all_fit_together, mark_stands, all_within_suffice, at_once_suffices}

module _ (program : Program) (e : Evaluation) (exact : IsExact program e) (w : Windows) where
  abbrev Fit : List OpenField → List MarkedField → Type 0
  Fit cs fs = AllFit program.theory w cs fs

  abbrev Enough : List (List Slot) → List OpenField → List MarkedField → Type 0
  Enough choices cs fs = AllSuffice program.theory w choices cs fs

  -- a composite of the list has the kind, leaves these fields open, and has the tree where the choices are enough
  pub record IsListed (cs : List Composite) (d : Derivation) (k : Kind) (fs : List MarkedField) : Type 0 where
    pub composite : Composite
    pub listed : IsOneOf composite cs
    pub kind : composite.kind ≡ k
    pub fits : Fit composite.fields fs
    pub filled : (choices : List (List Slot)) → Enough choices composite.fields fs → IsOneOf d (composite.trees choices)

  -- the tree is one of those with these values, where they are enough
  pub filled_one : (cs : List Composite) (d : Derivation) (k : Kind) (fs : List MarkedField) (h : IsListed cs d k fs)
      (choices : List (List Slot)) → Enough choices h.composite.fields fs → IsOneOf d (filled h.composite choices)
  filled_one cs d k fs h choices enough =
      let those = at_once_suffices program.theory w choices h.composite.fields fs h.fits enough in
      one_flat_map h.composite.trees those.0 (choices_at_once h.composite.fields choices) d those.1 (h.filled those.0 those.2)

  -- fields of actions and exits

  told_fits : (k : MarkedTerm) → Fits program.theory w (open_by k) (told_by k)
  told_fits (plain n) = refl
  told_fits (mark sort) = (refl, refl)

  chosen_fits : (slot : Slot) (sort : ℕ) (k : MarkedTerm) → Chooses program.theory w slot sort k →
      Fits program.theory w (blank false sort) (chosen_by k)
  chosen_fits (Of v) sort k h =
      subst (λ (x : MarkedTerm). Fits program.theory w (blank false sort) (chosen_by x)) (sym h.2)
      (sort_of_ground program.theory h.0 sort h.1.of_sort)
  chosen_fits Mark sort k h = subst (λ (x : MarkedTerm). Fits program.theory w (blank false sort) (chosen_by x)) (sym h.1) (refl, refl, h.0)
  chosen_fits Blank sort k h = absurd h

  slot_suffices : (slot : Slot) (sort : ℕ) (k : MarkedTerm) (slots : List Slot) → Chooses program.theory w slot sort k →
      Suffice program.theory w slots (blank false sort) (chosen_by k) → IsOneOf slot slots
  slot_suffices (Of v) sort k slots h s =
      let i = subst (λ (x : MarkedTerm). Suffice program.theory w slots (blank false sort) (chosen_by x)) h.2 s in
      subst (λ (u : List ℕ). IsOneOf (Of u) slots) (sym h.1.spelled) i.0
  slot_suffices Mark sort k slots h s =
      subst (λ (x : MarkedTerm). Suffice program.theory w slots (blank false sort) (chosen_by x)) h.1 s h.0
  slot_suffices Blank sort k slots h s = absurd h

  -- one more field that an expression tells: no slot is for it
  no_slot : {A : Type 0} (of : List (List Slot) → List A) (x : A) (more : List (List Slot) → List A) →
      ((slots : List Slot) (choices : List (List Slot)) → IsOneOf x (of choices) → IsOneOf x (more (slots ∷ choices))) →
      (c : OpenField) (cs : List OpenField) (f : MarkedField) (fs : List MarkedField) →
      ((choices : List (List Slot)) → Enough choices cs fs → IsOneOf x (of choices)) →
      (choices : List (List Slot)) → Enough choices (c ∷ cs) (f ∷ fs) → IsOneOf x (more choices)
  no_slot of x more skip c cs f fs h [] k = absurd k
  no_slot of x more skip c cs f fs h (slots ∷ choices) k = skip slots choices (h choices k.1)

  -- one more field that is chosen: its slot is the first one
  one_slot : (of more : List (List Slot) → List (List Slot)) (slot : Slot) (slots : List Slot) →
      ((those : List Slot) (choices : List (List Slot)) →
      more (those ∷ choices) ≡ flat_map (λ s. map (λ others. s ∷ others) (of choices)) those) →
      (c : OpenField) (cs : List OpenField) (f : MarkedField) (fs : List MarkedField) →
      ((those : List Slot) → Suffice program.theory w those c f → IsOneOf slot those) →
      ((choices : List (List Slot)) → Enough choices cs fs → IsOneOf slots (of choices)) →
      (choices : List (List Slot)) → Enough choices (c ∷ cs) (f ∷ fs) → IsOneOf (slot ∷ slots) (more choices)
  one_slot of more slot slots next c cs f fs a h [] k = absurd k
  one_slot of more slot slots next c cs f fs a h (those ∷ choices) k =
      subst (IsOneOf (slot ∷ slots)) (sym (next those choices))
      (one_flat_map (λ s. map (λ others. s ∷ others) (of choices)) slot those (slot ∷ slots) (a those k.0)
      (one_map (λ others. slot ∷ others) slots (of choices) (h choices k.1)))

  pub given_opened : (m : MarkedAssignment) (t : TermTree) (fields : List ActionField) (k : MarkedTerm) (cs : List OpenField) →
      MayHaveValue program.theory (marked_instance program.theory m t) k → open_fields program.theory e m fields ≡ Some cs →
      open_fields program.theory e m (give t ∷ fields) ≡ Some (open_by k ∷ cs)
  given_opened m t fields k cs h rest =
      ap (option_and_then (λ x. option_map (λ cs. open_by x ∷ cs) (open_fields program.theory e m fields)))
      (value_is program e exact (marked_instance program.theory m t) k h)
      ∙ ap (option_map (λ cs. open_by k ∷ cs)) rest

  pub given_left : (m : MarkedAssignment) (t : TermTree) (fields : List ExitValue) (k : MarkedTerm) (cs : List OpenField) →
      MayHaveValue program.theory (marked_instance program.theory m t) k → open_exit program.theory e m fields ≡ Some cs →
      open_exit program.theory e m (exit_given t ∷ fields) ≡ Some (open_by k ∷ cs)
  given_left m t fields k cs h rest =
      ap (option_and_then (λ x. option_map (λ cs. open_by x ∷ cs) (open_exit program.theory e m fields)))
      (value_is program e exact (marked_instance program.theory m t) k h)
      ∙ ap (option_map (λ cs. open_by k ∷ cs)) rest

  abbrev FieldsListed : MarkedAssignment → List ActionField → List Slot → List MarkedField → Type 0
  FieldsListed m fields slots fs =
      (cs : List OpenField) × (open_fields program.theory e m fields ≡ Some cs) × Fit cs fs ×
      ((choices : List (List Slot)) → Enough choices cs fs → IsOneOf slots (slots_of fields choices))

  fields_listed : (m l r : MarkedAssignment) (fields : List ActionField) (slots : List Slot) (fs : List MarkedField) →
      FieldsMayHave program.theory w m l fields slots fs r → FieldsListed m fields slots fs
  fields_listed m l r [] [] [] h = ([], refl, tt, λ choices k. inl refl)
  fields_listed m l r (give t ∷ fields) slots (f ∷ fs) h =
      let k = h.0.0 in
      let rest = fields_listed m l r fields slots fs h.1 in (
        open_by k ∷ rest.0,
        given_opened m t fields k rest.0 h.0.1 rest.1,
        (subst (Fits program.theory w (open_by k)) (sym h.0.2) (told_fits k), rest.2),
        no_slot (slots_of fields) slots (slots_of (give t ∷ fields)) (λ those choices i. i) (open_by k) rest.0 f fs rest.3,
      )
  fields_listed m l r (accept x ∷ fields) (slot ∷ slots) (f ∷ fs) h =
      let rest = fields_listed m (with_marked x h.0 l) r fields slots fs h.3 in (
        blank false x.sort ∷ rest.0,
        ap (option_map (λ cs. blank false x.sort ∷ cs)) rest.1,
        (subst (Fits program.theory w (blank false x.sort)) (sym h.2) (chosen_fits slot x.sort h.0 h.1), rest.2),
        one_slot (slots_of fields) (slots_of (accept x ∷ fields)) slot slots (λ those choices. refl) (blank false x.sort) rest.0 f fs
            (λ those k. slot_suffices slot x.sort h.0 those h.1
            (subst (Suffice program.theory w those (blank false x.sort)) h.2 k)) rest.3,
      )
  fields_listed m l r _ _ _ h = absurd h

  abbrev ExitListed : MarkedAssignment → List ExitValue → List Slot → List MarkedField → Type 0
  ExitListed m fields slots fs =
      (cs : List OpenField) × (open_exit program.theory e m fields ≡ Some cs) × Fit cs fs ×
      ((choices : List (List Slot)) → Enough choices cs fs → IsOneOf slots (exit_slots_of fields choices))

  exit_listed : (m : MarkedAssignment) (fields : List ExitValue) (slots : List Slot) (fs : List MarkedField) →
      ExitMayHave program.theory w m fields slots fs → ExitListed m fields slots fs
  exit_listed m [] [] [] h = ([], refl, tt, λ choices k. inl refl)
  exit_listed m (exit_given t ∷ fields) slots (f ∷ fs) h =
      let k = h.0.0 in
      let rest = exit_listed m fields slots fs h.1 in (
        open_by k ∷ rest.0,
        given_left m t fields k rest.0 h.0.1 rest.1,
        (subst (Fits program.theory w (open_by k)) (sym h.0.2) (told_fits k), rest.2),
        no_slot (exit_slots_of fields) slots (exit_slots_of (exit_given t ∷ fields)) (λ those choices i. i) (open_by k) rest.0 f fs rest.3,
      )
  exit_listed m (exit_any sort ∷ fields) (slot ∷ slots) (f ∷ fs) h =
      let rest = exit_listed m fields slots fs h.1 in
      let more = exit_slots_of (exit_any sort ∷ fields) in (
        blank false sort ∷ rest.0,
        ap (option_map (λ cs. blank false sort ∷ cs)) rest.1,
        (subst (Fits program.theory w (blank false sort)) (sym h.0.2) (chosen_fits slot sort h.0.0 h.0.1), rest.2),
        one_slot (exit_slots_of fields) more slot slots (λ those choices. refl) (blank false sort) rest.0 f fs
            (λ those k. slot_suffices slot sort h.0.0 those h.0.1
            (subst (Suffice program.theory w those (blank false sort)) h.0.2 k)) rest.3,
      )
  exit_listed m _ _ _ h = absurd h

  -- lists of composites

  listed_under : (row : Derivation → Derivation) (cs : List Composite) (d : Derivation) (k : Kind) (fs : List MarkedField) →
      IsListed cs d k fs → IsListed (map (under row) cs) (row d) k fs
  listed_under row cs d k fs h = record {
    composite = under row h.composite;
    listed = one_map (under row) h.composite cs h.listed;
    kind = h.kind;
    fits = h.fits;
    filled = λ choices i. one_map row d (h.composite.trees choices) (h.filled choices i);
  }

  listed_left : (cs ds : List Composite) (d : Derivation) (k : Kind) (fs : List MarkedField) → IsListed cs d k fs →
      IsListed (cs ++ ds) d k fs
  listed_left cs ds d k fs h =
      record { composite = h.composite; listed = one_left h.composite cs ds h.listed; kind = h.kind; fits = h.fits; filled = h.filled }

  listed_right : (cs ds : List Composite) (d : Derivation) (k : Kind) (fs : List MarkedField) → IsListed ds d k fs →
      IsListed (cs ++ ds) d k fs
  listed_right cs ds d k fs h =
      record { composite = h.composite; listed = one_right h.composite cs ds h.listed; kind = h.kind; fits = h.fits; filled = h.filled }

  listed_option : {A : Type 0} (o : Option A) (f : A → List Composite) (a : A) (d : Derivation) (k : Kind) (fs : List MarkedField) →
      o ≡ Some a → IsListed (f a) d k fs → IsListed (from_option o f) d k fs
  listed_option o f a d k fs q h = subst (λ z. IsListed (from_option z f) d k fs) (sym q) h

  listed_flat : {A : Type 0} (f : A → List Composite) (x : A) (xs : List A) (d : Derivation) (k : Kind) (fs : List MarkedField) →
      IsOneOf x xs → IsListed (f x) d k fs → IsListed (flat_map f xs) d k fs
  listed_flat f x xs d k fs i h = record {
    composite = h.composite;
    listed = one_flat_map f x xs h.composite i h.listed;
    kind = h.kind;
    fits = h.fits;
    filled = h.filled;
  }

  -- by a rule that lets this kind of action pass
  listed_passed : (f : Composite → Composite) (row : Derivation → Derivation) (cs : List Composite) (d : Derivation) (k : Kind)
      (fs : List MarkedField) → ((c : Composite) → c.kind ≡ k → f c ≡ under row c) → IsListed cs d k fs → IsListed (map f cs) (row d) k fs
  listed_passed f row cs d k fs by h = record {
    composite = under row h.composite;
    listed = subst (λ z. IsOneOf z (map f cs)) (by h.composite h.kind) (one_map f h.composite cs h.listed);
    kind = h.kind;
    fits = h.fits;
    filled = λ choices i. one_map row d (h.composite.trees choices) (h.filled choices i);
  }

  -- by a rule that turns the action internal
  listed_turned : (f : Composite → Composite) (row : Derivation → Derivation) (cs : List Composite) (d : Derivation) (j k : Kind)
      (gs fs : List MarkedField) → ((c : Composite) → c.kind ≡ j → f c ≡ turned program.theory w row c) →
      Each (IsWithin program.theory w) gs → k ≡ inside → fs ≡ [] → IsListed cs d j gs → IsListed (map f cs) (row d) k fs
  listed_turned f row cs d j k gs fs by within is_inside none h = record {
    composite = turned program.theory w row h.composite;
    listed = subst (λ z. IsOneOf z (map f cs)) (by h.composite h.kind) (one_map f h.composite cs h.listed);
    kind = sym is_inside;
    fits = subst (Fit []) (sym none) tt;
    filled = λ choices i.
        one_map row d (filled h.composite (all_choices program.theory w [] h.composite.fields))
        (filled_one cs d j gs h (all_choices program.theory w [] h.composite.fields)
        (all_within_suffice program.theory w [] h.composite.fields gs h.fits within));
  }

  -- by one side alone
  listed_alone : (gates : Synchronised) (row : Derivation → Derivation) (cs : List Composite) (d : Derivation) (k : Kind)
      (fs : List MarkedField) → is_alone gates k ≡ true → IsListed cs d k fs → IsListed (flat_map (alone gates row) cs) (row d) k fs
  listed_alone gates row cs d k fs t h =
      let here = if_true (is_alone gates h.composite.kind) (under row h.composite ∷ []) []
      (subst (λ z. is_alone gates z ≡ true) (sym h.kind) t) in
      record {
        composite = under row h.composite;
        listed = one_flat_map (alone gates row) h.composite cs (under row h.composite) h.listed
            (subst (IsOneOf (under row h.composite)) (sym here) (inl refl));
        kind = h.kind;
        fits = h.fits;
        filled = λ choices i. one_map row d (h.composite.trees choices) (h.filled choices i);
      }

  -- by both sides
  listed_both : (gates : Synchronised) (cs ds : List Composite) (d f : Derivation) (k : Kind) (gs hs fs : List MarkedField) →
      is_joint gates k ≡ true → AllAgree program.theory gs hs fs → IsListed cs d k gs → IsListed ds f k hs →
      IsListed (flat_map (λ c. flat_map (joint program.theory gates c) ds) cs) (both d f) k fs
  listed_both gates cs ds d f k gs hs fs t agree h i =
      let j = all_fit_together program.theory w h.composite.fields i.composite.fields gs hs fs h.fits i.fits agree in
      let c : Composite = paired h.composite i.composite j.0 in
      let test = and_from (same_kind h.composite.kind i.composite.kind) (is_joint gates h.composite.kind)
      (same_kind_so h.composite.kind i.composite.kind (h.kind ∙ sym i.kind)) (subst (λ z. is_joint gates z ≡ true) (sym h.kind) t) in
      let all = all_together program.theory h.composite.fields i.composite.fields in
      let here = if_true (same_kind h.composite.kind i.composite.kind && is_joint gates h.composite.kind)
      (from_option all (λ fields. paired h.composite i.composite fields ∷ [])) [] test in
      let one = one_option all (λ fields. paired h.composite i.composite fields ∷ []) j.0 c j.1 (inl refl) in
      let there = subst (IsOneOf c) (sym here) one in
      record {
        composite = c;
        listed = one_flat_map (λ z. flat_map (joint program.theory gates z) ds) h.composite cs c h.listed
            (one_flat_map (joint program.theory gates h.composite) i.composite ds c i.listed there);
        kind = h.kind;
        fits = j.2;
        filled = λ choices a.
            let u = j.3 choices a in
            one_flat_map (λ left. map (both left) (i.composite.trees choices)) d (h.composite.trees choices) (both d f) (h.filled choices u.0)
            (one_map (both d) f (i.composite.trees choices) (i.filled choices u.1));
      }

  listed_relabel : (pairs : List Relabelling) (cs : List Composite) (d : Derivation) (j k : Kind) (fs : List MarkedField) →
      k ≡ renamed_kind pairs j → IsListed cs d j fs → IsListed (of_relabel pairs cs) (rel d) k fs
  listed_relabel pairs cs d j k fs same h = record {
    composite = relabelled pairs h.composite;
    listed = one_map (relabelled pairs) h.composite cs h.listed;
    kind = ap (renamed_kind pairs) h.kind ∙ sym same;
    fits = h.fits;
    filled = λ choices i. one_map rel d (h.composite.trees choices) (h.filled choices i);
  }

  -- by the choice of the gate at a place of the list
  listed_gate : (g n i j : ℕ) (gates : List ℕ) (h : ℕ) (cs : List Composite) (d : Derivation) (k : Kind) (fs : List MarkedField) →
      slice_get gates i ≡ Some h → j ≡ i + n → IsListed (of_relabel (record { from = g; to = h } ∷ []) cs) d k fs →
      IsListed (of_gates g n gates cs) (gate j d) k fs
  listed_gate g n i j [] h cs d k fs q s a = let no : None ≡ Some h = q in absurd cc
  listed_gate g n zero j (here ∷ gates) h cs d k fs q s a =
      let at : j ≡ n = omega (arith, s) in
      let same : h ≡ here = sym (same_Some _ _ q) in
      let those = of_relabel (record { from = g; to = here } ∷ []) cs in
      listed_left (map (under (gate n)) those) (of_gates g (suc n) gates cs) (gate j d) k fs
      (subst (λ z. IsListed (map (under (gate n)) those) (gate z d) k fs) (sym at)
      (listed_under (gate n) those d k fs (subst (λ z. IsListed (of_relabel (record { from = g; to = z } ∷ []) cs) d k fs) same a)))
  listed_gate g n (suc i) j (here ∷ gates) h cs d k fs q s a =
      let those = of_relabel (record { from = g; to = here } ∷ []) cs in
      listed_right (map (under (gate n)) those) (of_gates g (suc n) gates cs) (gate j d) k fs
      (listed_gate g (suc n) i j gates h cs d k fs q (omega (arith, s)) a)

  -- what is chosen for a choice of a value is one of its slots
  window_slot : (slot : Slot) (sort : ℕ) (k : MarkedTerm) → Chooses program.theory w slot sort k →
      IsWithin program.theory w (chosen_by k) → IsOneOf slot (window_slots w sort)
  window_slot (Of v) sort k h c =
      let inside = subst (λ (x : MarkedTerm). IsWithin program.theory w (chosen_by x)) h.2 c in
      let at = sort_of_ground program.theory h.0 sort h.1.of_sort in
      let one = one_contained Of (w.values (sort_of_value program.theory (preorder h.0))) (preorder h.0) inside in
      let there = subst (λ s. IsOneOf (Of (preorder h.0)) (map Of (w.values s))) at one in
      one_left (Of v) (map Of (w.values sort)) (mark_unless (w.complete sort))
      (subst (λ u. IsOneOf (Of u) (map Of (w.values sort))) (sym h.1.spelled) there)
  window_slot Mark sort k h c =
      one_right Mark (map Of (w.values sort)) (mark_unless (w.complete sort)) (mark_stands (w.complete sort) h.0)
  window_slot Blank sort k h c = absurd h

  abbrev of : ℕ → MarkedAssignment → Behaviour → List Composite
  of n m b = composites program.theory e w n m b

  pub all_listed : (d : Derivation) (n : ℕ) (b : Behaviour) (m : MarkedAssignment) (k : Kind) (fs : List MarkedField) → Nests n d →
      MayDeriveWith program w m b d k fs → IsListed (of n m b) d k fs
  all_listed (pre slots) n (action g fields p rest) m k fs t h =
      let r = fields_listed m m h.0 fields slots fs h.2 in
      let c : Composite = record { kind = at_gate g; fields = r.0; trees = λ choices. map pre (slots_of fields choices) } in
      listed_option (open_fields program.theory e m fields)
      (λ cs. record { kind = at_gate g; fields = cs; trees = λ choices. map pre (slots_of fields choices) } ∷ []) r.0 (pre slots) k fs r.1
      (record {
        composite = c;
        listed = inl refl;
        kind = sym h.1;
        fits = r.2;
        filled = λ choices i. one_map pre slots (slots_of fields choices) (r.3 choices i);
      })
  all_listed int n (inner rest) m k fs t h = record {
    composite = record { kind = inside; fields = []; trees = λ choices. int ∷ [] };
    listed = inl refl;
    kind = sym h.0;
    fits = subst (Fit []) (sym h.1) tt;
    filled = λ choices i. inl refl;
  }
  all_listed (exiting slots) n (exit fields) m k fs t h =
      let r = exit_listed m fields slots fs h.1 in
      let c : Composite = record { kind = ends; fields = r.0; trees = λ choices. map exiting (exit_slots_of fields choices) } in
      listed_option (open_exit program.theory e m fields)
      (λ cs. record { kind = ends; fields = cs; trees = λ choices. map exiting (exit_slots_of fields choices) } ∷ []) r.0
      (exiting slots) k fs r.1
      (record {
        composite = c;
        listed = inl refl;
        kind = sym h.0;
        fits = r.2;
        filled = λ choices i. one_map exiting slots (exit_slots_of fields choices) (r.3 choices i);
      })
  all_listed (chl d) n (choice x y) m k fs t h =
      listed_left (map (under chl) (of n m x)) (map (under chr) (of n m y)) (chl d) k fs
      (listed_under chl (of n m x) d k fs (all_listed d n x m k fs t h))
  all_listed (chr d) n (choice x y) m k fs t h =
      listed_right (map (under chl) (of n m x)) (map (under chr) (of n m y)) (chr d) k fs
      (listed_under chr (of n m y) d k fs (all_listed d n y m k fs t h))
  all_listed (val slot d) n (value_choice x body) m k fs t h =
      listed_flat
      (λ s. from_option (chosen_term program.theory e w s x.sort) (λ j. map (under (val s)) (of n (with_marked x j m) body))) slot
      (window_slots w x.sort) (val slot d) k fs (window_slot slot x.sort h.0 h.1 h.2)
      (listed_option (chosen_term program.theory e w slot x.sort) (λ j. map (under (val slot)) (of n (with_marked x j m) body)) h.0
      (val slot d) k fs (chosen_is program e exact w slot x.sort h.0 h.1)
      (listed_under (val slot) (of n (with_marked x h.0 m) body) d k fs (all_listed d n body (with_marked x h.0 m) k fs t h.3)))
  all_listed (gate j d) n (gate_choice g gates body) m k fs t h =
      listed_gate g 1 h.0 j gates h.1 (of n m body) d k fs h.3 (h.2 ∙ omega arith)
      (all_listed d n (relabel (record { from = g; to = h.1 } ∷ []) body) m k fs t h.4)
  all_listed (guard d) n (guarded p body) m k fs t h =
      subst (λ z. IsListed z (guard d) k fs)
      (sym (if_true (premise_may_hold program.theory e m p) (map (under guard) (of n m body)) [] (premise_is program e exact m p h.0)))
      (listed_under guard (of n m body) d k fs (all_listed d n body m k fs t h.1))
  all_listed (letting d) n (bound bindings body) m k fs t h =
      listed_option (with_bindings program.theory e m m bindings) (λ l. map (under letting) (of n l body)) h.0 (letting d) k fs
      (bindings_are program e exact m m h.0 bindings h.1)
      (listed_under letting (of n h.0 body) d k fs (all_listed d n body h.0 k fs t h.2))
  all_listed (parl d) n (parallel gates x y) m k fs t h =
      let together = flat_map (λ c. flat_map (joint program.theory gates c) (of n m y)) (of n m x) in
      listed_left (flat_map (alone gates parl) (of n m x)) (flat_map (alone gates parr) (of n m y) ++ together) (parl d) k fs
      (listed_alone gates parl (of n m x) d k fs (is_alone_so gates k h.1) (all_listed d n x m k fs t h.0))
  all_listed (parr d) n (parallel gates x y) m k fs t h =
      let together = flat_map (λ c. flat_map (joint program.theory gates c) (of n m y)) (of n m x) in
      listed_right (flat_map (alone gates parl) (of n m x)) (flat_map (alone gates parr) (of n m y) ++ together) (parr d) k fs
      (listed_left (flat_map (alone gates parr) (of n m y)) together (parr d) k fs
      (listed_alone gates parr (of n m y) d k fs (is_alone_so gates k h.1) (all_listed d n y m k fs t h.0)))
  all_listed (both d f) n (parallel gates x y) m k fs t h =
      let together = flat_map (λ c. flat_map (joint program.theory gates c) (of n m y)) (of n m x) in
      listed_right (flat_map (alone gates parl) (of n m x)) (flat_map (alone gates parr) (of n m y) ++ together) (both d f) k fs
      (listed_right (flat_map (alone gates parr) (of n m y)) together (both d f) k fs
      (listed_both gates (of n m x) (of n m y) d f k h.0 h.1 fs (is_joint_so gates k h.4) h.5 (all_listed d n x m k h.0 t.0 h.2)
      (all_listed f n y m k h.1 t.1 h.3)))
  all_listed (hiding d) n (hide gates body) m k fs t h =
      listed_turned (by_hiding program.theory w gates) hiding (of n m body) d (at_gate h.0) k h.1 fs
      (λ c q. if_true (is_hidden gates c.kind) (turned program.theory w hiding c) (under pass c)
      (subst (λ z. is_hidden gates z ≡ true) (sym q) h.3))
      h.4 h.5 h.6 (all_listed d n body m (at_gate h.0) h.1 t h.2)
  all_listed (pass d) n (hide gates body) m k fs t h =
      listed_passed (by_hiding program.theory w gates) pass (of n m body) d k fs
      (λ c q. if_false (is_hidden gates c.kind) (turned program.theory w hiding c) (under pass c)
      (subst (λ z. is_hidden gates z ≡ false) (sym q) (is_unhidden_so gates k h.1)))
      (all_listed d n body m k fs t h.0)
  all_listed (enstep d) n (enable x xs y) m k fs t h =
      listed_passed (by_enabling program.theory w) enstep (of n m x) d k fs
      (λ c q. if_false (is_end c.kind) (turned program.theory w enend c) (under enstep c)
      (subst (λ z. is_end z ≡ false) (sym q) (is_no_end_so k h.1)))
      (all_listed d n x m k fs t h.0)
  all_listed (enend d) n (enable x xs y) m k fs t h =
      listed_turned (by_enabling program.theory w) enend (of n m x) d ends k h.0 fs
      (λ c q. if_true (is_end c.kind) (turned program.theory w enend c) (under enstep c) (subst (λ z. is_end z ≡ true) (sym q) refl))
      h.3 h.4 h.5 (all_listed d n x m ends h.0 t h.1)
  all_listed (disstep d) n (disable x y) m k fs t h =
      listed_left (map by_disabling (of n m x)) (map (under distake) (of n m y)) (disstep d) k fs
      (listed_passed by_disabling disstep (of n m x) d k fs
      (λ c q. if_false (is_end c.kind) (under disend c) (under disstep c) (subst (λ z. is_end z ≡ false) (sym q) (is_no_end_so k h.1)))
      (all_listed d n x m k fs t h.0))
  all_listed (disend d) n (disable x y) m k fs t h =
      listed_left (map by_disabling (of n m x)) (map (under distake) (of n m y)) (disend d) k fs
      (listed_passed by_disabling disend (of n m x) d k fs
      (λ c q. if_true (is_end c.kind) (under disend c) (under disstep c) (subst (λ z. is_end z ≡ true) (sym q) (is_end_so k h.1)))
      (all_listed d n x m k fs t h.0))
  all_listed (distake d) n (disable x y) m k fs t h =
      listed_right (map by_disabling (of n m x)) (map (under distake) (of n m y)) (distake d) k fs
      (listed_under distake (of n m y) d k fs (all_listed d n y m k fs t h))
  all_listed (calling d) zero (call p actual terms) m k fs t h = absurd t
  all_listed (calling d) (suc n) (call p actual terms) m k fs t h =
      let definition : Definition = record { gates = h.0; variables = h.1; body = h.2 } in
      listed_option (e.definition p)
      (λ q. from_option (with_arguments program.theory e m unmarked q.variables terms)
      (λ l. map (under calling) (of_relabel (pairs_of q.gates actual) (of n l q.body)))) definition (calling d) k fs
      ((exact.definition p definition).0 h.4)
      (listed_option (with_arguments program.theory e m unmarked h.1 terms)
      (λ l. map (under calling) (of_relabel (pairs_of h.0 actual) (of n l h.2))) h.3 (calling d) k fs
      (arguments_are program e exact m unmarked h.3 h.1 terms h.5)
      (listed_under calling (of_relabel (pairs_of h.0 actual) (of n h.3 h.2)) d k fs
      (all_listed d n (relabel (pairs_of h.0 actual) h.2) h.3 k fs t h.6)))
  all_listed (rel d) n (relabel pairs body) m k fs t h =
      listed_relabel pairs (of n m body) d h.0 k fs h.2 (all_listed d n body m h.0 fs t h.1)
  all_listed _ n _ m k fs t h = absurd h
