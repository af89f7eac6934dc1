-- What is so of fields, of bindings and of arguments, where the answers about data are exact.
use Rattle.std.proofs.Common.{ℕ, ◌≡◌, ◌==◌, inl, inr, List, [], ◌∷◌, refl, sym, ap, subst, ◌∙◌, Option, Some, None, Bool, true, false}
use Rattle.std.specs.Str.{bytes_eq}
use Rattle.std.specs.Bool.{Decides}
use Rattle.std.proofs.lemmas.Bool.Decides.{Decides-eqb}
use Rattle.std.proofs.lemmas.Slice.Eq.{bytes_eq-Decides}
use Rattle.std.proofs.lemmas.Bool.{true≢false, false≢true}
use Rattle.std.proofs.lemmas.Option.{none-some, same_Some}
use Rattle.spec_core.specs.Terms.{TermTree}
use Rattle.spec_core.specs.Theories.{Premise, premise}
use Rattle.spec_core.specs.Code.{Program, Variable, Binding, ExitValue, exit_given, exit_any, ActionField, give, accept, Synchronised}
use Rattle.rule_model.specs.declared.rules.Slot.{Slot}
use Rattle.rule_model.specs.declared.rules.Slot.TheVariants.{Of, Mark, Blank}
use Rattle.rule_model.specs.Actions.{Kind, inside, ends, at_gate, among, synchronises, IsAlone, IsJoint, IsUnhidden, IsNoEnd, IsEnd}
use Rattle.symbolic_rules.specs.Windows.{Windows}
use Rattle.symbolic_rules.specs.MarkedTerms.{MarkedTerm, plain, mark, MarkedAssignment, with_marked, marked_instance, MayHaveValue}
use Rattle.symbolic_rules.specs.MarkedTerms.{MayBeEqual}
use Rattle.symbolic_rules.specs.MarkedTerms.{PremiseMayHold, GuardMayHold}
use Rattle.symbolic_rules.specs.MarkedFields.{MarkedField, told_by, chosen_by}
use Rattle.symbolic_rules.specs.MarkedFields.{Chooses, FieldsMayHave, ExitMayHave, BindingsMayHave, ArgumentsMayHave}
use Rattle.symbolic_composites.specs.Evaluations.{Evaluation, IsExact}
use Rattle.symbolic_composites.proofs.One.{IsKnown, One, known_as, one_then}

-- facts that are decided by a test

pub by_decision : (b : Bool) (P : Type 0) → Decides b P → IsKnown P
by_decision true P d = inl (d.0 refl)
by_decision false P d = inr (λ p. false≢true (d.1 p))

pub is_true_known : (b : Bool) → IsKnown (b ≡ true)
is_true_known true = inl refl
is_true_known false = inr false≢true

pub is_false_known : (b : Bool) → IsKnown (b ≡ false)
is_false_known true = inr true≢false
is_false_known false = inl refl

pub same_value_known : (v u : List ℕ) → IsKnown (v ≡ u)
same_value_known v u = by_decision (bytes_eq v u) (v ≡ u) (bytes_eq-Decides v u)

pub same_number_known : (a b : ℕ) → IsKnown (a ≡ b)
same_number_known a b = by_decision (a == b) (a ≡ b) (Decides-eqb a b)

-- kinds

pub alone_known : (gates : Synchronised) (k : Kind) → IsKnown (IsAlone gates k)
alone_known gates inside = inl tt
alone_known gates ends = inr (λ h. h)
alone_known gates (at_gate g) = is_false_known (synchronises gates g)

pub joint_known : (gates : Synchronised) (k : Kind) → IsKnown (IsJoint gates k)
joint_known gates inside = inr (λ h. h)
joint_known gates ends = inl tt
joint_known gates (at_gate g) = is_true_known (synchronises gates g)

pub unhidden_known : (gates : List ℕ) (k : Kind) → IsKnown (IsUnhidden gates k)
unhidden_known gates inside = inl tt
unhidden_known gates ends = inl tt
unhidden_known gates (at_gate g) = is_false_known (among g gates)

pub no_end_known : (k : Kind) → IsKnown (IsNoEnd k)
no_end_known inside = inl tt
no_end_known ends = inr (λ h. h)
no_end_known (at_gate g) = inl tt

pub end_known : (k : Kind) → IsKnown (IsEnd k)
end_known inside = inr (λ h. h)
end_known ends = inl tt
end_known (at_gate g) = inr (λ h. h)

pub same_kind_known : (j k : Kind) → IsKnown (j ≡ k)
same_kind_known inside inside = inl refl
same_kind_known ends ends = inl refl
same_kind_known (at_gate g) (at_gate h) = known_as (g ≡ h) (at_gate g ≡ at_gate h) (ap at_gate) (λ e. cc) (same_number_known g h)
same_kind_known inside ends = inr (λ e. cc)
same_kind_known inside (at_gate h) = inr (λ e. cc)
same_kind_known ends inside = inr (λ e. cc)
same_kind_known ends (at_gate h) = inr (λ e. cc)
same_kind_known (at_gate g) inside = inr (λ e. cc)
same_kind_known (at_gate g) ends = inr (λ e. cc)

module _ (program : Program) (e : Evaluation) (exact : IsExact program e) (w : Windows) where
  -- values

  one_value : (k : MarkedTerm) → One (MayHaveValue program.theory k)
  one_value (mark sort) = inl (mark sort, refl, λ n h. h)
  one_value (plain t) = by_answer (e.value t) refl
    where
      by_answer : (o : Option TermTree) → e.value t ≡ o → One (MayHaveValue program.theory (plain t))
      by_answer None q = inr (λ k h. none-some _ (sym q ∙ (exact.value t h.0).0 h.1))
      by_answer (Some n) q = inl (
        plain n,
        (n, (exact.value t n).1 q, refl),
        λ k h. h.2 ∙ ap plain (same_Some _ _ (sym ((exact.value t h.0).0 h.1) ∙ q)),
      )

  pub one_choice : (slot : Slot) (sort : ℕ) → One (Chooses program.theory w slot sort)
  one_choice Blank sort = inr (λ k h. h)
  one_choice Mark sort = by_window (is_false_known (w.complete sort))
    where
      by_window : IsKnown (w.complete sort ≡ false) → One (Chooses program.theory w Mark sort)
      by_window (inl c) = inl (mark sort, (c, refl), λ k h. h.1)
      by_window (inr out) = inr (λ k h. out h.0)
  one_choice (Of v) sort = by_answer (e.spelled v sort) refl
    where
      by_answer : (o : Option TermTree) → e.spelled v sort ≡ o → One (Chooses program.theory w (Of v) sort)
      by_answer None q = inr (λ k h. none-some _ (sym q ∙ (exact.spelled v sort h.0).0 h.1))
      by_answer (Some n) q = inl (
        plain n,
        (n, (exact.spelled v sort n).1 q, refl),
        λ k h. h.2 ∙ ap plain (same_Some _ _ (sym ((exact.spelled v sort h.0).0 h.1) ∙ q)),
      )

  equal_known : (k l : MarkedTerm) → IsKnown (MayBeEqual program.theory k l)
  equal_known (mark sort) l = inl tt
  equal_known (plain a) (mark sort) = inl tt
  equal_known (plain a) (plain b) =
      known_as (e.equal a b ≡ true) (MayBeEqual program.theory (plain a) (plain b)) (exact.equal a b).1 (exact.equal a b).0
      (is_true_known (e.equal a b))

  pub premise_known : (m : MarkedAssignment) (p : Premise) → IsKnown (PremiseMayHold program.theory m p)
  premise_known m (premise a b) = equal_known (marked_instance program.theory m a) (marked_instance program.theory m b)

  pub guard_known : (m : MarkedAssignment) (p : Option Premise) → IsKnown (GuardMayHold program.theory m p)
  guard_known m None = inl tt
  guard_known m (Some p) = premise_known m p

  -- bindings and arguments

  pub one_binding : (m l : MarkedAssignment) (bindings : List Binding) → One (BindingsMayHave program.theory m l bindings)
  one_binding m l [] = inl (l, refl, λ r h. h)
  one_binding m l (b ∷ bindings) =
      one_then (MayHaveValue program.theory (marked_instance program.theory m b.term))
      (λ k r. BindingsMayHave program.theory m (with_marked b.variable k l) bindings r)
      (one_value (marked_instance program.theory m b.term)) (λ k h. one_binding m (with_marked b.variable k l) bindings)

  pub one_argument : (m l : MarkedAssignment) (xs : List Variable) (terms : List TermTree) →
      One (ArgumentsMayHave program.theory m l xs terms)
  one_argument m l [] [] = inl (l, refl, λ r h. h)
  one_argument m l (x ∷ xs) (t ∷ terms) =
      one_then (MayHaveValue program.theory (marked_instance program.theory m t))
      (λ k r. ArgumentsMayHave program.theory m (with_marked x k l) xs terms r)
      (one_value (marked_instance program.theory m t)) (λ k h. one_argument m (with_marked x k l) xs terms)
  one_argument m l [] (t ∷ terms) = inr (λ r h. h)
  one_argument m l (x ∷ xs) [] = inr (λ r h. h)

  -- fields of actions and of exits

  abbrev pub FieldsAre : MarkedAssignment → MarkedAssignment → List ActionField → List Slot →
      List MarkedField × MarkedAssignment → Type 0
  FieldsAre m l fields slots p = FieldsMayHave program.theory w m l fields slots p.0 p.1

  pub one_fields : (m l : MarkedAssignment) (fields : List ActionField) (slots : List Slot) → One (FieldsAre m l fields slots)
  one_fields m l [] [] = inl (([], l), refl, only)
    where
      only : (p : List MarkedField × MarkedAssignment) → FieldsAre m l [] [] p → p ≡ ([], l)
      only ([], r) h = ap (λ z. ([], z)) h
      only (f ∷ fs, r) h = absurd h
  one_fields m l (give t ∷ fields) slots =
      by_value (one_value (marked_instance program.theory m t)) (one_fields m l fields slots)
    where
      by_value : One (MayHaveValue program.theory (marked_instance program.theory m t)) → One (FieldsAre m l fields slots) →
          One (FieldsAre m l (give t ∷ fields) slots)
      by_value (inr out) rest = inr none
        where
          none : (p : List MarkedField × MarkedAssignment) → FieldsAre m l (give t ∷ fields) slots p → ⊥
          none ([], r) h = h
          none (f ∷ fs, r) h = out h.0.0 h.0.1
      by_value (inl v) (inr out) = inr none
        where
          none : (p : List MarkedField × MarkedAssignment) → FieldsAre m l (give t ∷ fields) slots p → ⊥
          none ([], r) h = h
          none (f ∷ fs, r) h = out (fs, r) h.1
      by_value (inl v) (inl i) = inl ((told_by v.0 ∷ i.0.0, i.0.1), ((v.0, v.1, refl), i.1), only)
        where
          only : (p : List MarkedField × MarkedAssignment) → FieldsAre m l (give t ∷ fields) slots p → p ≡ (told_by v.0 ∷ i.0.0, i.0.1)
          only ([], r) h = absurd h
          only (f ∷ fs, r) h =
              let first : f ≡ told_by v.0 = h.0.2 ∙ ap told_by (v.2 h.0.0 h.0.1) in
              ap (λ x. (x ∷ fs, r)) first ∙ ap (λ q. (told_by v.0 ∷ q.0, q.1)) (i.2 (fs, r) h.1)
  one_fields m l (accept x ∷ fields) [] = inr none
    where
      none : (p : List MarkedField × MarkedAssignment) → FieldsAre m l (accept x ∷ fields) [] p → ⊥
      none ([], r) h = h
      none (f ∷ fs, r) h = h
  one_fields m l (accept x ∷ fields) (slot ∷ slots) =
      by_choice (one_choice slot x.sort) (λ k. one_fields m (with_marked x k l) fields slots)
    where
      by_choice : One (Chooses program.theory w slot x.sort) → ((k : MarkedTerm) → One (FieldsAre m (with_marked x k l) fields slots)) →
          One (FieldsAre m l (accept x ∷ fields) (slot ∷ slots))
      by_choice (inr out) rest = inr none
        where
          none : (p : List MarkedField × MarkedAssignment) → FieldsAre m l (accept x ∷ fields) (slot ∷ slots) p → ⊥
          none ([], r) h = h
          none (f ∷ fs, r) h = out h.0 h.1
      by_choice (inl c) rest = by_rest (rest c.0)
        where
          same : (k : MarkedTerm) (fs : List MarkedField) (r : MarkedAssignment) → Chooses program.theory w slot x.sort k →
              FieldsAre m (with_marked x k l) fields slots (fs, r) → FieldsAre m (with_marked x c.0 l) fields slots (fs, r)
          same k fs r h i = subst (λ z. FieldsAre m (with_marked x z l) fields slots (fs, r)) (c.2 k h) i

          by_rest : One (FieldsAre m (with_marked x c.0 l) fields slots) → One (FieldsAre m l (accept x ∷ fields) (slot ∷ slots))
          by_rest (inr out) = inr none
            where
              none : (p : List MarkedField × MarkedAssignment) → FieldsAre m l (accept x ∷ fields) (slot ∷ slots) p → ⊥
              none ([], r) h = h
              none (f ∷ fs, r) h = out (fs, r) (same h.0 fs r h.1 h.3)
          by_rest (inl i) = inl ((chosen_by c.0 ∷ i.0.0, i.0.1), (c.0, c.1, refl, i.1), only)
            where
              only : (p : List MarkedField × MarkedAssignment) → FieldsAre m l (accept x ∷ fields) (slot ∷ slots) p →
                  p ≡ (chosen_by c.0 ∷ i.0.0, i.0.1)
              only ([], r) h = absurd h
              only (f ∷ fs, r) h =
                  let first : f ≡ chosen_by c.0 = h.2 ∙ ap chosen_by (c.2 h.0 h.1) in
                  ap (λ y. (y ∷ fs, r)) first ∙ ap (λ q. (chosen_by c.0 ∷ q.0, q.1)) (i.2 (fs, r) (same h.0 fs r h.1 h.3))
  one_fields m l [] (slot ∷ slots) = inr none
    where
      none : (p : List MarkedField × MarkedAssignment) → FieldsAre m l [] (slot ∷ slots) p → ⊥
      none ([], r) h = h
      none (f ∷ fs, r) h = h

  pub one_exit : (m : MarkedAssignment) (fields : List ExitValue) (slots : List Slot) → One (ExitMayHave program.theory w m fields slots)
  one_exit m [] [] = inl ([], tt, only)
    where
      only : (fs : List MarkedField) → ExitMayHave program.theory w m [] [] fs → fs ≡ []
      only [] h = refl
      only (f ∷ fs) h = absurd h
  one_exit m (exit_given t ∷ fields) slots = by_value (one_value (marked_instance program.theory m t)) (one_exit m fields slots)
    where
      by_value : One (MayHaveValue program.theory (marked_instance program.theory m t)) →
          One (ExitMayHave program.theory w m fields slots) → One (ExitMayHave program.theory w m (exit_given t ∷ fields) slots)
      by_value (inr out) rest = inr none
        where
          none : (fs : List MarkedField) → ExitMayHave program.theory w m (exit_given t ∷ fields) slots fs → ⊥
          none [] h = h
          none (f ∷ fs) h = out h.0.0 h.0.1
      by_value (inl v) (inr out) = inr none
        where
          none : (fs : List MarkedField) → ExitMayHave program.theory w m (exit_given t ∷ fields) slots fs → ⊥
          none [] h = h
          none (f ∷ fs) h = out fs h.1
      by_value (inl v) (inl i) = inl (told_by v.0 ∷ i.0, ((v.0, v.1, refl), i.1), only)
        where
          only : (fs : List MarkedField) → ExitMayHave program.theory w m (exit_given t ∷ fields) slots fs → fs ≡ told_by v.0 ∷ i.0
          only [] h = absurd h
          only (f ∷ fs) h =
              let first : f ≡ told_by v.0 = h.0.2 ∙ ap told_by (v.2 h.0.0 h.0.1) in
              ap (λ x. x ∷ fs) first ∙ ap (λ q. told_by v.0 ∷ q) (i.2 fs h.1)
  one_exit m (exit_any sort ∷ fields) [] = inr none
    where
      none : (fs : List MarkedField) → ExitMayHave program.theory w m (exit_any sort ∷ fields) [] fs → ⊥
      none [] h = h
      none (f ∷ fs) h = h
  one_exit m (exit_any sort ∷ fields) (slot ∷ slots) = by_choice (one_choice slot sort) (one_exit m fields slots)
    where
      by_choice : One (Chooses program.theory w slot sort) → One (ExitMayHave program.theory w m fields slots) →
          One (ExitMayHave program.theory w m (exit_any sort ∷ fields) (slot ∷ slots))
      by_choice (inr out) rest = inr none
        where
          none : (fs : List MarkedField) → ExitMayHave program.theory w m (exit_any sort ∷ fields) (slot ∷ slots) fs → ⊥
          none [] h = h
          none (f ∷ fs) h = out h.0.0 h.0.1
      by_choice (inl c) (inr out) = inr none
        where
          none : (fs : List MarkedField) → ExitMayHave program.theory w m (exit_any sort ∷ fields) (slot ∷ slots) fs → ⊥
          none [] h = h
          none (f ∷ fs) h = out fs h.1
      by_choice (inl c) (inl i) = inl (chosen_by c.0 ∷ i.0, ((c.0, c.1, refl), i.1), only)
        where
          only : (fs : List MarkedField) → ExitMayHave program.theory w m (exit_any sort ∷ fields) (slot ∷ slots) fs →
              fs ≡ chosen_by c.0 ∷ i.0
          only [] h = absurd h
          only (f ∷ fs) h =
              let first : f ≡ chosen_by c.0 = h.0.2 ∙ ap chosen_by (c.2 h.0.0 h.0.1) in
              ap (λ x. x ∷ fs) first ∙ ap (λ q. chosen_by c.0 ∷ q) (i.2 fs h.1)
  one_exit m [] (slot ∷ slots) = inr none
    where
      none : (fs : List MarkedField) → ExitMayHave program.theory w m [] (slot ∷ slots) fs → ⊥
      none [] h = h
      none (f ∷ fs) h = h
