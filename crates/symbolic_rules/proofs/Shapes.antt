-- What the trees of small behaviours are.
use Rattle.std.proofs.Common.{ℕ, ◌≡◌, ◌⊎◌, List, [], ◌∷◌, refl, sym, ap, subst, ◌∙◌, inl, inr, false, Option}
use Rattle.std.proofs.Common.{Contains}
use Rattle.spec_core.specs.Lists.{Each}
use Rattle.spec_core.specs.Terms.{TermTree, preorder}
use Rattle.spec_core.specs.Theories.{Premise, Theory}
use Rattle.spec_core.specs.Values.{HasValue}
use Rattle.spec_core.specs.Equality.{by_reflexivity}
use Rattle.spec_core.specs.Code.{Program, Variable, ExitValue, exit_any, ActionField, give, accept}
use Rattle.rule_model.specs.declared.rules.Slot.{Slot}
use Rattle.rule_model.specs.declared.rules.Slot.TheVariants.{Of, Mark, Blank}
use Rattle.rule_model.specs.Actions.{Kind, at_gate, ends, IsUnhidden, IsNoEnd}
use Rattle.rule_model.specs.Behaviours.{Behaviour, exit, action, choice, guarded, value_choice, hide, enable}
use Rattle.rule_model.specs.Derivations.{Derivation, pre, exiting, chl, chr, val, guard, hiding, pass, enstep, enend}
use Rattle.rule_model.specs.Fields.{Spells}
use Rattle.symbolic_rules.specs.Windows.{Windows, sort_of_value}
use Rattle.symbolic_rules.specs.MarkedTerms.{MarkedTerm, MarkedAssignment, with_marked, marked_instance, MayHaveValue}
use Rattle.symbolic_rules.specs.MarkedTerms.{PremiseMayHold}
use Rattle.symbolic_rules.specs.MarkedFields.{MarkedField, told_by, chosen_by, chosen, free, AllAgree, IsWithin, Chooses, FieldsMayHave}
use Rattle.symbolic_rules.specs.MarkedFields.{ExitMayHave}
use Rattle.symbolic_rules.specs.MayDerive.{MayDeriveWith}
use Rattle.symbolic_rules.proofs.Sorts.{sort_of_spelled}
use Rattle.symbolic_rules.specs.Examples.{ShowsOne}

-- a value has itself as value
pub own_value : (theory : Theory) (v : List ℕ) (n : TermTree) (sort : ℕ) → Spells theory v n sort → HasValue theory n n
own_value theory v n sort h = record { is_value = h.is_value; equal = by_reflexivity (sort, h.of_sort) }

module _ (theory : Theory) (w : Windows) where
  pub no_field : (m l r : MarkedAssignment) (slots : List Slot) (fs : List MarkedField) → FieldsMayHave theory w m l [] slots fs r →
      slots ≡ []
  no_field m l r [] [] h = refl
  no_field m l r (slot ∷ slots) fs h = absurd h
  no_field m l r [] (f ∷ fs) h = absurd h

  -- one `!E`
  pub one_given : (m l r : MarkedAssignment) (e : TermTree) (slots : List Slot) (fs : List MarkedField) →
      FieldsMayHave theory w m l (give e ∷ []) slots fs r →
      (slots ≡ []) × (k : MarkedTerm) × MayHaveValue theory (marked_instance theory m e) k × (fs ≡ told_by k ∷ [])
  one_given m l r e [] (f ∷ []) h = (refl, h.0.0, h.0.1, ap (λ (g : MarkedField). g ∷ []) h.0.2)
  one_given m l r e (slot ∷ slots) (f ∷ fs) h = absurd h.1
  one_given m l r e [] (f ∷ g ∷ fs) h = absurd h.1
  one_given m l r e slots [] h = absurd h

  -- one `?x:S`
  pub one_taken : (m l r : MarkedAssignment) (x : Variable) (slots : List Slot) (fs : List MarkedField) →
      FieldsMayHave theory w m l (accept x ∷ []) slots fs r →
      (slot : Slot) × (k : MarkedTerm) × (slots ≡ slot ∷ []) × Chooses theory w slot x.sort k × (fs ≡ chosen_by k ∷ [])
  one_taken m l r x (slot ∷ []) (f ∷ []) h = (slot, h.0, refl, h.1, ap (λ (g : MarkedField). g ∷ []) h.2)
  one_taken m l r x (slot ∷ other ∷ slots) (f ∷ fs) h = absurd h.3
  one_taken m l r x (slot ∷ []) (f ∷ g ∷ fs) h = absurd h.3
  one_taken m l r x (slot ∷ slots) [] h = absurd h
  one_taken m l r x [] fs h = absurd h

  -- one `?x:S` with a mark, and one with a value
  pub mark_taken : (m l r : MarkedAssignment) (x : Variable) (fs : List MarkedField) →
      FieldsMayHave theory w m l (accept x ∷ []) (Mark ∷ []) fs r → (w.complete x.sort ≡ false) × (fs ≡ free x.sort ∷ [])
  mark_taken m l r x (f ∷ []) h = (h.1.0, ap (λ (g : MarkedField). g ∷ []) (h.2 ∙ ap chosen_by h.1.1))
  mark_taken m l r x (f ∷ g ∷ fs) h = absurd h.3
  mark_taken m l r x [] h = absurd h

  pub value_taken : (m l r : MarkedAssignment) (x : Variable) (v : List ℕ) (fs : List MarkedField) →
      FieldsMayHave theory w m l (accept x ∷ []) (Of v ∷ []) fs r → (n : TermTree) × (fs ≡ chosen (preorder n) ∷ [])
  value_taken m l r x v (f ∷ []) h = (h.1.0, ap (λ (g : MarkedField). g ∷ []) (h.2 ∙ ap chosen_by h.1.2))
  value_taken m l r x v (f ∷ g ∷ fs) h = absurd h.3
  value_taken m l r x v [] h = absurd h

  -- one `any S`
  pub one_any : (m : MarkedAssignment) (sort : ℕ) (slots : List Slot) (fs : List MarkedField) →
      ExitMayHave theory w m (exit_any sort ∷ []) slots fs →
      (slot : Slot) × (k : MarkedTerm) × (slots ≡ slot ∷ []) × Chooses theory w slot sort k × (fs ≡ chosen_by k ∷ [])
  one_any m sort (slot ∷ []) (f ∷ []) h = (slot, h.0.0, refl, h.0.1, ap (λ (g : MarkedField). g ∷ []) h.0.2)
  one_any m sort (slot ∷ other ∷ slots) (f ∷ fs) h = absurd h.1
  one_any m sort (slot ∷ []) (f ∷ g ∷ fs) h = absurd h.1
  one_any m sort (slot ∷ slots) [] h = absurd h
  one_any m sort [] fs h = absurd h

  -- a chosen value and a mark that nobody gives don't agree
  pub never_agree : (sort : ℕ) (v : List ℕ) (hs : List MarkedField) → AllAgree theory (free sort ∷ []) (chosen v ∷ []) hs → ⊥
  never_agree sort v [] h = h
  never_agree sort v (g ∷ hs) h = h.0

module _ (program : Program) (w : Windows) where
  -- what is chosen and lies in its window is a value of the window; or it is the mark, where the window isn't complete
  pub shows_one : (tree : Slot → Derivation) (d : Derivation) (slot : Slot) (sort : ℕ) (k : MarkedTerm) →
      Chooses program.theory w slot sort k → IsWithin program.theory w (chosen_by k) → d ≡ tree slot → ShowsOne program w sort tree d
  shows_one tree d (Of v) sort k h c e =
      let inside = subst (λ (x : MarkedTerm). IsWithin program.theory w (chosen_by x)) h.2 c in
      let listed = subst (λ (u : List ℕ). Contains (w.values (sort_of_value program.theory u)) u) (sym h.1.spelled) inside in
      let at = sort_of_spelled program.theory v h.0 sort h.1 in
      inl (v, ((h.0, h.1), subst (λ (s : ℕ). Contains (w.values s) v) at listed), e)
  shows_one tree d Mark sort k h c e = inr (h.0, e)
  shows_one tree d Blank sort k h c e = absurd h

  pub shows_under : (row : Derivation → Derivation) (tree : Slot → Derivation) (d e : Derivation) (sort : ℕ) → d ≡ row e →
      ShowsOne program w sort tree e → ShowsOne program w sort (λ slot. row (tree slot)) d
  shows_under row tree d e sort i (inl c) = inl (c.0, c.1, i ∙ ap row c.2)
  shows_under row tree d e sort i (inr c) = inr (c.0, i ∙ ap row c.1)

  pub of_action : (m : MarkedAssignment) (g : ℕ) (fields : List ActionField) (p : Option Premise) (rest : Behaviour) (d : Derivation)
      (k : Kind) (fs : List MarkedField) → MayDeriveWith program w m (action g fields p rest) d k fs →
      (slots : List Slot) × (r : MarkedAssignment) × (d ≡ pre slots) × (k ≡ at_gate g) ×
      FieldsMayHave program.theory w m m fields slots fs r
  of_action m g fields p rest (pre slots) k fs h = (slots, h.0, refl, h.1, h.2)
  of_action m g fields p rest _ k fs h = absurd h

  pub of_exit : (m : MarkedAssignment) (fields : List ExitValue) (d : Derivation) (k : Kind) (fs : List MarkedField) →
      MayDeriveWith program w m (exit fields) d k fs →
      (slots : List Slot) × (d ≡ exiting slots) × (k ≡ ends) × ExitMayHave program.theory w m fields slots fs
  of_exit m fields (exiting slots) k fs h = (slots, refl, h.0, h.1)
  of_exit m fields _ k fs h = absurd h

  pub of_choice : (m : MarkedAssignment) (x y : Behaviour) (d : Derivation) (k : Kind) (fs : List MarkedField) →
      MayDeriveWith program w m (choice x y) d k fs →
      (e : Derivation) × ((d ≡ chl e) × MayDeriveWith program w m x e k fs ⊎ (d ≡ chr e) × MayDeriveWith program w m y e k fs)
  of_choice m x y (chl d) k fs h = (d, inl (refl, h))
  of_choice m x y (chr d) k fs h = (d, inr (refl, h))
  of_choice m x y _ k fs h = absurd h

  pub of_guarded : (m : MarkedAssignment) (p : Premise) (body : Behaviour) (d : Derivation) (k : Kind) (fs : List MarkedField) →
      MayDeriveWith program w m (guarded p body) d k fs → PremiseMayHold program.theory m p
  of_guarded m p body (guard d) k fs h = h.0
  of_guarded m p body _ k fs h = absurd h

  pub of_value_choice : (m : MarkedAssignment) (x : Variable) (body : Behaviour) (d : Derivation) (k : Kind) (fs : List MarkedField) →
      MayDeriveWith program w m (value_choice x body) d k fs →
      (slot : Slot) × (e : Derivation) × (n : MarkedTerm) × (d ≡ val slot e) × Chooses program.theory w slot x.sort n ×
      IsWithin program.theory w (chosen_by n) × MayDeriveWith program w (with_marked x n m) body e k fs
  of_value_choice m x body (val slot e) k fs h = (slot, e, h.0, refl, h.1, h.2, h.3)
  of_value_choice m x body _ k fs h = absurd h

  pub of_hide : (m : MarkedAssignment) (gates : List ℕ) (body : Behaviour) (d : Derivation) (k : Kind) (fs : List MarkedField) →
      MayDeriveWith program w m (hide gates body) d k fs →
      (e : Derivation) × (((g : ℕ) × (gs : List MarkedField) × (d ≡ hiding e) × MayDeriveWith program w m body e (at_gate g) gs ×
      Each (IsWithin program.theory w) gs) ⊎ ((d ≡ pass e) × MayDeriveWith program w m body e k fs × IsUnhidden gates k))
  of_hide m gates body (hiding e) k fs h = (e, inl (h.0, h.1, refl, h.2, h.4))
  of_hide m gates body (pass e) k fs h = (e, inr (refl, h.0, h.1))
  of_hide m gates body _ k fs h = absurd h

  pub of_enable : (m : MarkedAssignment) (x y : Behaviour) (xs : List Variable) (d : Derivation) (k : Kind) (fs : List MarkedField) →
      MayDeriveWith program w m (enable x xs y) d k fs →
      (e : Derivation) × (((gs : List MarkedField) × (d ≡ enend e) × MayDeriveWith program w m x e ends gs ×
      Each (IsWithin program.theory w) gs) ⊎ ((d ≡ enstep e) × MayDeriveWith program w m x e k fs × IsNoEnd k))
  of_enable m x y xs (enend e) k fs h = (e, inl (h.0, refl, h.1, h.3))
  of_enable m x y xs (enstep e) k fs h = (e, inr (refl, h.0, h.1))
  of_enable m x y xs _ k fs h = absurd h
