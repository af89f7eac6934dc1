-- What a behaviour may do by a tree of a composite has its kind, and fields that its open fields and the slots admit.
use Rattle.std.proofs.Common.{ℕ, zero, suc, ◌≡◌, ◌==◌, ◌⊎◌, inl, inr, ◌+◌, ◌++◌, ◌&&◌, ◌||◌, List, [], ◌∷◌, map, flat_map, refl, sym, ap, subst}
use Rattle.std.proofs.Common.{◌∙◌, arith, Option, Some, None, Bool, true, false, if◌then◌else◌, option_map, option_and_then}
use Rattle.std.specs.Str.{bytes_eq}
use Rattle.std.specs.List.{slice_get}
use Rattle.std.proofs.lemmas.Option.{same_Some}
use Rattle.spec_core.specs.Lists.{IsOneOf}
use Rattle.spec_core.specs.Terms.{TermTree, preorder}
use Rattle.spec_core.specs.Theories.{Theory}
use Rattle.spec_core.specs.Code.{Program, Relabelling, Synchronised, ExitValue, exit_given, exit_any, ActionField, give, accept}
use Rattle.spec_core.proofs.Members.{one_parts, from_flat_map}
use Rattle.rule_model.specs.declared.rules.Slot.{Slot}
use Rattle.rule_model.specs.declared.rules.Slot.TheVariants.{Of, Mark, Blank}
use Rattle.rule_model.specs.Actions.{Kind, inside, ends, at_gate, pairs_of}
use Rattle.rule_model.specs.Behaviours.{Behaviour, exit, inner, action, choice, guarded, bound, value_choice, gate_choice, parallel}
use Rattle.rule_model.specs.Behaviours.{hide, enable, disable, call, relabel}
use Rattle.rule_model.specs.Derivations.{Derivation, pre, int, exiting, chl, chr, val, gate, guard, letting, parl, parr, both, hiding, pass}
use Rattle.rule_model.specs.Derivations.{enstep, enend, disstep, disend, distake, calling, rel}
use Rattle.symbolic_rules.specs.Windows.{Windows, sort_of_value}
use Rattle.symbolic_rules.specs.MarkedTerms.{MarkedTerm, plain, mark, MarkedAssignment, unmarked, with_marked, marked_instance}
use Rattle.symbolic_rules.specs.MarkedFields.{MarkedField, told, chosen, given, free, told_by, chosen_by, Agree, AllAgree, Chooses}
use Rattle.symbolic_rules.specs.MarkedFields.{FieldsMayHave, ExitMayHave}
use Rattle.symbolic_rules.specs.MayDerive.{renamed_kind, MayDeriveWith}
use Rattle.symbolic_rules.proofs.Sorts.{sort_of_ground}
use Rattle.symbolic_composites.specs.Evaluations.{Definition, Evaluation, IsExact, premise_may_hold, chosen_term, with_bindings, with_arguments}
use Rattle.symbolic_composites.specs.Kinds.{is_alone, is_joint, is_hidden, is_end, same_kind}
use Rattle.symbolic_composites.specs.OpenFields.{OpenField, fixed, blank, open_by, together, all_together, open_fields, open_exit, slots_of}
use Rattle.symbolic_composites.specs.OpenFields.{exit_slots_of, window_slots, all_choices}
use Rattle.symbolic_composites.specs.Composites.{Composite, from_option, under, relabelled, turned, alone, paired, joint, by_hiding, by_enabling}
use Rattle.symbolic_composites.specs.Composites.{by_disabling, of_relabel, of_gates, filled, below_calls, composites}
use Rattle.symbolic_composites.specs.Shown.{IsAdmitted, AreAdmitted, ShownIsAdmitted}
use Rattle.symbolic_composites.proofs.Exact.{chosen_is, bindings_are, arguments_are}
use Rattle.symbolic_composites.proofs.Listing.{given_opened, given_left}

-- where an element of a list comes from

from_map : {A B : Type 0} (f : A → B) (y : B) (xs : List A) → IsOneOf y (map f xs) → (x : A) × IsOneOf x xs × (f x ≡ y)
from_map f y [] h = absurd h
from_map f y (x ∷ xs) (inl e) = (x, inl refl, sym e)
from_map f y (x ∷ xs) (inr h) = let r = from_map f y xs h in (r.0, inr r.1, r.2)

from_given : {A B : Type 0} (o : Option A) (f : A → List B) (y : B) → IsOneOf y (from_option o f) → (a : A) × (o ≡ Some a) × IsOneOf y (f a)
from_given None f y h = absurd h
from_given (Some a) f y h = (a, refl, h)

only_one : {A : Type 0} {x y : A} → IsOneOf y (x ∷ []) → x ≡ y
only_one (inl e) = sym e
only_one (inr e) = absurd e

from_test : {B : Type 0} (b : Bool) (xs : List B) (y : B) → IsOneOf y (if b then xs else []) → IsOneOf y xs
from_test true xs y h = h
from_test false xs y h = absurd h

-- fields that agree

module _ (theory : Theory) where
  if_some : {A : Type 0} (b : Bool) (x y : A) → (if b then Some x else None) ≡ Some y → (b ≡ true) × (x ≡ y)
  if_some true x y e = (refl, cc)
  if_some false x y e = absurd (cc)

  -- what two open fields admit, where it agrees, they admit together
  abbrev Joined : OpenField → OpenField → OpenField → List Slot → MarkedField → MarkedField → MarkedField → Type 0
  Joined c d e slots f g h = IsAdmitted theory c slots f → IsAdmitted theory d slots g → Agree theory f g h →
      together theory c d ≡ Some e → IsAdmitted theory e slots h

  value_told : (m n : Bool) (v u : List ℕ) (e : OpenField) (slots : List Slot) (h : MarkedField) (b : Bool) → h ≡ told u → v ≡ u →
      (if b then Some (fixed (m || n) v) else None) ≡ Some e → IsAdmitted theory e slots h
  value_told m n v u e slots h b is same made =
      let r = if_some b (fixed (m || n) v) e made in
      subst (λ z. IsAdmitted theory z slots h) r.1 (subst (IsAdmitted theory (fixed (m || n) v) slots) (sym is) same)

  left_blank : (m n : Bool) (s t : ℕ) (e : OpenField) (slots : List Slot) (h : MarkedField) →
      IsAdmitted theory (blank (m || n) s) slots h → (if s == t then Some (blank (m || n) s) else None) ≡ Some e →
      IsAdmitted theory e slots h
  left_blank m n s t e slots h k made =
      subst (λ z. IsAdmitted theory z slots h) (if_some (s == t) (blank (m || n) s) e made).1 k

  or_left : (m n : Bool) → m ≡ true → m || n ≡ true
  or_left true n e = refl
  or_left false n e = absurd (cc)

  or_right : (m n : Bool) → n ≡ true → m || n ≡ true
  or_right true n e = refl
  or_right false n e = e

  admitted_together : (c d e : OpenField) (slots : List Slot) (f g h : MarkedField) → Joined c d e slots f g h
  admitted_together (fixed m a) (fixed n b) e slots (told v) (told u) h p q r made =
      value_told m n a v e slots h (bytes_eq a b) r.1 p made
  admitted_together (fixed m a) (blank n t) e slots (told v) (chosen u) h p q r made =
      value_told m n a v e slots h (sort_of_value theory a == t) r.1 p made
  admitted_together (fixed m a) (blank n t) e slots (told v) (given u) h p q r made =
      value_told m n a v e slots h (sort_of_value theory a == t) r.1 p made
  admitted_together (blank m s) (fixed n b) e slots (chosen v) (told u) h p q r made =
      value_told m n b v e slots h (sort_of_value theory b == s) r.1 (q ∙ sym r.0) made
  admitted_together (blank m s) (fixed n b) e slots (given v) (told u) h p q r made =
      value_told m n b u e slots h (sort_of_value theory b == s) r.1 q made
  admitted_together (blank m s) (blank n t) e slots (chosen v) (chosen u) h p q r made =
      left_blank m n s t e slots h (subst (IsAdmitted theory (blank (m || n) s) slots) (sym r.1) p) made
  admitted_together (blank m s) (blank n t) e slots (chosen v) (given u) h p q r made =
      left_blank m n s t e slots h (subst (IsAdmitted theory (blank (m || n) s) slots) (sym r.1) p) made
  admitted_together (blank m s) (blank n t) e slots (given v) (chosen u) h p q r made =
      left_blank m n s t e slots h
      (subst (IsAdmitted theory (blank (m || n) s) slots) (sym r.1) (r.0 ∙ p.1, q.1)) made
  admitted_together (blank m s) (blank n t) e slots (given v) (given u) h p q r made =
      left_blank m n s t e slots h (subst (IsAdmitted theory (blank (m || n) s) slots) (sym r.1) (or_left m n p.0, p.1)) made
  admitted_together (blank m s) (blank n t) e slots (given v) (free u) h p q r made =
      left_blank m n s t e slots h (subst (IsAdmitted theory (blank (m || n) s) slots) (sym r.1) (or_left m n p.0, p.1)) made
  admitted_together (blank m s) (blank n t) e slots (free v) (given u) h p q r made =
      left_blank m n s t e slots h (subst (IsAdmitted theory (blank (m || n) s) slots) (sym r.1) (or_right m n q.0, p.0)) made
  admitted_together (blank m s) (blank n t) e slots (free v) (free u) h p q r made =
      left_blank m n s t e slots h (subst (IsAdmitted theory (blank (m || n) s) slots) (sym r.1) p) made
  admitted_together (fixed m a) d e slots (chosen v) g h p q r made = absurd p
  admitted_together (fixed m a) d e slots (given v) g h p q r made = absurd p
  admitted_together (fixed m a) d e slots (free v) g h p q r made = absurd p
  admitted_together (blank m a) d e slots (told v) g h p q r made = absurd p
  admitted_together c (fixed m a) e slots f (chosen v) h p q r made = absurd q
  admitted_together c (fixed m a) e slots f (given v) h p q r made = absurd q
  admitted_together c (fixed m a) e slots f (free v) h p q r made = absurd q
  admitted_together c (blank m a) e slots f (told v) h p q r made = absurd q
  admitted_together c d e slots f g h p q r made = absurd r

  both_some : {A B C : Type 0} (o : Option A) (q : Option B) (f : A → B → C) (c : C) →
      option_and_then (λ a. option_map (f a) q) o ≡ Some c → (a : A) × (b : B) × (o ≡ Some a) × (q ≡ Some b) × (f a b ≡ c)
  both_some None q f c e = absurd (cc)
  both_some (Some a) None f c e = absurd (cc)
  both_some (Some a) (Some b) f c e = (a, b, refl, refl, same_Some _ _ e)

  all_admitted : (cs ds es : List OpenField) (choices : List (List Slot)) (fs gs hs : List MarkedField) → AreAdmitted theory cs choices fs →
      AreAdmitted theory ds choices gs → AllAgree theory fs gs hs → all_together theory cs ds ≡ Some es → AreAdmitted theory es choices hs
  all_admitted [] [] es choices [] [] hs p q r made =
      subst (λ z. AreAdmitted theory z choices hs) (same_Some _ _ made) (subst (AreAdmitted theory [] choices) (sym r) tt)
  all_admitted (c ∷ cs) (d ∷ ds) es (slots ∷ choices) (f ∷ fs) (g ∷ gs) (h ∷ hs) p q r made =
      let o = both_some (together theory c d) (all_together theory cs ds) (λ x xs. x ∷ xs) es made in
      subst (λ z. AreAdmitted theory z (slots ∷ choices) (h ∷ hs)) o.4
      (admitted_together c d o.0 slots f g h p.0 q.0 r.0 o.2, all_admitted cs ds o.1 choices fs gs hs p.1 q.1 r.1 o.3)
  all_admitted [] ds es choices (f ∷ fs) gs hs p q r made = absurd p
  all_admitted (c ∷ cs) ds es [] fs gs hs p q r made = absurd p
  all_admitted (c ∷ cs) ds es (slots ∷ choices) [] gs hs p q r made = absurd p
  all_admitted cs [] es choices fs (g ∷ gs) hs p q r made = absurd q
  all_admitted cs (d ∷ ds) es [] fs gs hs p q r made = absurd q
  all_admitted cs (d ∷ ds) es (slots ∷ choices) fs [] hs p q r made = absurd q
  all_admitted cs ds es choices fs gs hs p q r made = absurd r

module _ (program : Program) (e : Evaluation) (exact : IsExact program e) (w : Windows) where
  -- what may be done by this tree, of this kind and with these fields, is what each of these composites that has the tree says
  abbrev Shows : List Composite → Derivation → Kind → List MarkedField → Type 0
  Shows cs d k fs = (c : Composite) → IsOneOf c cs → (choices : List (List Slot)) → IsOneOf d (c.trees choices) →
      (c.kind ≡ k) × AreAdmitted program.theory c.fields choices fs

  abbrev Says : Composite → List (List Slot) → Kind → List MarkedField → Type 0
  Says c choices k fs = (c.kind ≡ k) × AreAdmitted program.theory c.fields choices fs

  -- fields of actions and exits

  told_admitted : (k : MarkedTerm) (slots : List Slot) → IsAdmitted program.theory (open_by k) slots (told_by k)
  told_admitted (plain n) slots = refl
  told_admitted (mark sort) slots = (refl, refl)

  chosen_admitted : (slot : Slot) (sort : ℕ) (k : MarkedTerm) (slots : List Slot) → Chooses program.theory w slot sort k →
      IsOneOf slot slots → IsAdmitted program.theory (blank false sort) slots (chosen_by k)
  chosen_admitted (Of v) sort k slots h i =
      subst (λ (x : MarkedTerm). IsAdmitted program.theory (blank false sort) slots (chosen_by x)) (sym h.2)
      (sort_of_ground program.theory h.0 sort h.1.of_sort, subst (λ u. IsOneOf (Of u) slots) h.1.spelled i)
  chosen_admitted Mark sort k slots h i =
      subst (λ (x : MarkedTerm). IsAdmitted program.theory (blank false sort) slots (chosen_by x)) (sym h.1) (refl, i)
  chosen_admitted Blank sort k slots h i = absurd h

  slot_from : (slot : Slot) (slots those : List Slot) (others : List (List Slot)) →
      IsOneOf (slot ∷ slots) (flat_map (λ s. map (λ z. s ∷ z) others) those) → IsOneOf slot those × IsOneOf slots others
  slot_from slot slots those others h =
      let r = from_flat_map (λ s. map (λ z. s ∷ z) others) those (slot ∷ slots) h in
      let q = from_map (λ z. r.0 ∷ z) (slot ∷ slots) others r.2 in
      let first : r.0 ≡ slot = cc (q.2) in
      let rest : q.0 ≡ slots = cc (q.2) in
      (subst (λ z. IsOneOf z those) first r.1, subst (λ z. IsOneOf z others) rest q.1)

  -- these open fields, which admit the fields where the slots are chosen among what they are filled with
  abbrev Opened : Option (List OpenField) → (List (List Slot) → List (List Slot)) → List Slot → List MarkedField → Type 0
  Opened o of slots fs =
      (cs : List OpenField) × (o ≡ Some cs) ×
      ((choices : List (List Slot)) → IsOneOf slots (of choices) → AreAdmitted program.theory cs choices fs)

  one_given : (of more : List (List Slot) → List (List Slot)) (slots : List Slot) → (IsOneOf slots (more []) → ⊥) →
      ((those : List Slot) (choices : List (List Slot)) → more (those ∷ choices) ≡ of choices) → (cs : List OpenField)
      (fs : List MarkedField) (k : MarkedTerm) (f : MarkedField) → f ≡ told_by k →
      ((choices : List (List Slot)) → IsOneOf slots (of choices) → AreAdmitted program.theory cs choices fs) →
      (choices : List (List Slot)) → IsOneOf slots (more choices) → AreAdmitted program.theory (open_by k ∷ cs) choices (f ∷ fs)
  one_given of more slots none next cs fs k f is rest [] i = absurd (none i)
  one_given of more slots none next cs fs k f is rest (those ∷ choices) i = (
    subst (IsAdmitted program.theory (open_by k) those) (sym is) (told_admitted k those),
    rest choices (subst (IsOneOf slots) (next those choices) i),
  )

  one_chosen : (of more : List (List Slot) → List (List Slot)) (slot : Slot) (slots : List Slot) → (IsOneOf (slot ∷ slots) (more []) → ⊥) →
      ((those : List Slot) (choices : List (List Slot)) →
      more (those ∷ choices) ≡ flat_map (λ s. map (λ others. s ∷ others) (of choices)) those) → (cs : List OpenField)
      (fs : List MarkedField) (sort : ℕ) (k : MarkedTerm) (f : MarkedField) → f ≡ chosen_by k → Chooses program.theory w slot sort k →
      ((choices : List (List Slot)) → IsOneOf slots (of choices) → AreAdmitted program.theory cs choices fs) →
      (choices : List (List Slot)) → IsOneOf (slot ∷ slots) (more choices) →
      AreAdmitted program.theory (blank false sort ∷ cs) choices (f ∷ fs)
  one_chosen of more slot slots none next cs fs sort k f is chooses rest [] i = absurd (none i)
  one_chosen of more slot slots none next cs fs sort k f is chooses rest (those ∷ choices) i =
      let s = slot_from slot slots those (of choices) (subst (IsOneOf (slot ∷ slots)) (next those choices) i) in (
        subst (IsAdmitted program.theory (blank false sort) those) (sym is) (chosen_admitted slot sort k those chooses s.0),
        rest choices s.1,
      )

  fields_admitted : (m l r : MarkedAssignment) (fields : List ActionField) (slots : List Slot) (fs : List MarkedField) →
      FieldsMayHave program.theory w m l fields slots fs r → Opened (open_fields program.theory e m fields) (slots_of fields) slots fs
  fields_admitted m l r [] [] [] h = ([], refl, λ choices i. tt)
  fields_admitted m l r (give t ∷ fields) slots (f ∷ fs) h =
      let rest = fields_admitted m l r fields slots fs h.1 in (
        open_by h.0.0 ∷ rest.0,
        given_opened program e exact w m t fields h.0.0 rest.0 h.0.1 rest.1,
        one_given (slots_of fields) (slots_of (give t ∷ fields)) slots (λ i. i) (λ those choices. refl) rest.0 fs h.0.0 f h.0.2 rest.2,
      )
  fields_admitted m l r (accept x ∷ fields) (slot ∷ slots) (f ∷ fs) h =
      let rest = fields_admitted m (with_marked x h.0 l) r fields slots fs h.3 in (
        blank false x.sort ∷ rest.0,
        ap (option_map (λ cs. blank false x.sort ∷ cs)) rest.1,
        one_chosen (slots_of fields) (slots_of (accept x ∷ fields)) slot slots (λ i. i) (λ those choices. refl) rest.0 fs x.sort h.0 f h.2
            h.1 rest.2,
      )
  fields_admitted m l r _ _ _ h = absurd h

  exit_admitted : (m : MarkedAssignment) (fields : List ExitValue) (slots : List Slot) (fs : List MarkedField) →
      ExitMayHave program.theory w m fields slots fs → Opened (open_exit program.theory e m fields) (exit_slots_of fields) slots fs
  exit_admitted m [] [] [] h = ([], refl, λ choices i. tt)
  exit_admitted m (exit_given t ∷ fields) slots (f ∷ fs) h =
      let rest = exit_admitted m fields slots fs h.1 in (
        open_by h.0.0 ∷ rest.0,
        given_left program e exact w m t fields h.0.0 rest.0 h.0.1 rest.1,
        one_given (exit_slots_of fields) (exit_slots_of (exit_given t ∷ fields)) slots (λ i. i) (λ those choices. refl) rest.0 fs h.0.0 f
            h.0.2 rest.2,
      )
  exit_admitted m (exit_any sort ∷ fields) (slot ∷ slots) (f ∷ fs) h =
      let rest = exit_admitted m fields slots fs h.1 in (
        blank false sort ∷ rest.0,
        ap (option_map (λ cs. blank false sort ∷ cs)) rest.1,
        one_chosen (exit_slots_of fields) (exit_slots_of (exit_any sort ∷ fields)) slot slots (λ i. i) (λ those choices. refl) rest.0 fs
            sort h.0.0 f h.0.2 h.0.1 rest.2,
      )
  exit_admitted m _ _ _ h = absurd h

  -- lists of composites

  -- by a rule below which the kind is turned by f and the fields are the same
  shows_map : (f : Kind → Kind) (by : Composite → Composite) (row : Derivation → Derivation) →
      ((t u : Derivation) → row t ≡ row u → t ≡ u) →
      ((c : Composite) → by c ≡ record { kind = f c.kind; fields = c.fields; trees = λ slots. map row (c.trees slots) }) →
      (cs : List Composite) (d : Derivation) (j k : Kind) (fs : List MarkedField) → f j ≡ k → Shows cs d j fs →
      Shows (map by cs) (row d) k fs
  shows_map f by row one same cs d j k fs turned h c i choices t =
      let from = from_map by c cs i in
      let o : Composite = from.0 in
      let is : record { kind = f o.kind; fields = o.fields; trees = λ slots. map row (o.trees slots) } ≡ c = sym (same o) ∙ from.2 in
      let there = subst (λ (z : Composite). IsOneOf (row d) (z.trees choices)) (sym is) t in
      let tree = from_map row (row d) (o.trees choices) there in
      let said = h o from.1 choices (subst (λ z. IsOneOf z (o.trees choices)) (one tree.0 d tree.2) tree.1) in
      subst (λ (z : Composite). Says z choices k fs) is (ap f said.0 ∙ turned, said.1)

  -- none of these has a tree by this rule
  shows_none : (by : Composite → Composite) (row : Derivation → Derivation) (cs : List Composite) (d : Derivation) (k : Kind)
      (fs : List MarkedField) → ((c : Composite) (slots : List (List Slot)) → (ts : List Derivation) × ((by c).trees slots ≡ map row ts)) →
      ((t : Derivation) → row t ≡ d → ⊥) → Shows (map by cs) d k fs
  shows_none by row cs d k fs rows other c i choices t =
      let from = from_map by c cs i in
      let ts = rows from.0 choices in
      let there = subst (λ (z : Composite). IsOneOf d (z.trees choices)) (sym from.2) t in
      let tree = from_map row d ts.0 (subst (IsOneOf d) ts.1 there) in
      absurd (other tree.0 tree.2)

  shows_append : (cs ds : List Composite) (d : Derivation) (k : Kind) (fs : List MarkedField) → Shows cs d k fs → Shows ds d k fs →
      Shows (cs ++ ds) d k fs
  shows_append cs ds d k fs g h c i choices t = by_case (one_parts c cs ds i)
    where
      by_case : IsOneOf c cs ⊎ IsOneOf c ds → Says c choices k fs
      by_case (inl j) = g c j choices t
      by_case (inr j) = h c j choices t

  shows_flat : {A : Type 0} (f : A → List Composite) (xs : List A) (d : Derivation) (k : Kind) (fs : List MarkedField) →
      ((x : A) → IsOneOf x xs → Shows (f x) d k fs) → Shows (flat_map f xs) d k fs
  shows_flat f xs d k fs h c i choices t = let from = from_flat_map f xs c i in h from.0 from.1 c from.2 choices t

  shows_option : {A : Type 0} (o : Option A) (f : A → List Composite) (d : Derivation) (k : Kind) (fs : List MarkedField) →
      ((a : A) → o ≡ Some a → Shows (f a) d k fs) → Shows (from_option o f) d k fs
  shows_option o f d k fs h c i choices t = let from = from_given o f c i in h from.0 from.1 c from.2 choices t

  -- the one that is there
  shows_known : {A : Type 0} (o : Option A) (f : A → List Composite) (a : A) (d : Derivation) (k : Kind) (fs : List MarkedField) →
      o ≡ Some a → Shows (f a) d k fs → Shows (from_option o f) d k fs
  shows_known o f a d k fs is h =
      shows_option o f d k fs (λ x q. subst (λ z. Shows (f z) d k fs) (same_Some _ _ (sym is ∙ q)) h)

  shows_test : (b : Bool) (cs : List Composite) (d : Derivation) (k : Kind) (fs : List MarkedField) → Shows cs d k fs →
      Shows (if b then cs else []) d k fs
  shows_test b cs d k fs h c i choices t = h c (from_test b cs c i) choices t

  shows_under : (row : Derivation → Derivation) → ((t u : Derivation) → row t ≡ row u → t ≡ u) → (cs : List Composite) (d : Derivation)
      (k : Kind) (fs : List MarkedField) → Shows cs d k fs → Shows (map (under row) cs) (row d) k fs
  shows_under row one cs d k fs h = shows_map (λ z. z) (under row) row one (λ c. refl) cs d k k fs refl h

  no_under : (row : Derivation → Derivation) (cs : List Composite) (d : Derivation) (k : Kind) (fs : List MarkedField) →
      ((t : Derivation) → row t ≡ d → ⊥) → Shows (map (under row) cs) d k fs
  no_under row cs d k fs other = shows_none (under row) row cs d k fs (λ c slots. (c.trees slots, refl)) other

  -- one side alone
  shows_alone : (gates : Synchronised) (row : Derivation → Derivation) → ((t u : Derivation) → row t ≡ row u → t ≡ u) →
      (cs : List Composite) (d : Derivation) (k : Kind) (fs : List MarkedField) → Shows cs d k fs →
      Shows (flat_map (alone gates row) cs) (row d) k fs
  shows_alone gates row one cs d k fs h =
      shows_flat (alone gates row) cs (row d) k fs
      (λ o i. shows_test (is_alone gates o.kind) (under row o ∷ []) (row d) k fs
      (shows_under row one (o ∷ []) d k fs (λ c j choices t. h c (same_one o i c j) choices t)))
    where
      same_one : (o : Composite) → IsOneOf o cs → (c : Composite) → IsOneOf c (o ∷ []) → IsOneOf c cs
      same_one o i c (inl q) = subst (λ z. IsOneOf z cs) (sym q) i
      same_one o i c (inr q) = absurd q

  none_alone : (gates : Synchronised) (row : Derivation → Derivation) (cs : List Composite) (d : Derivation) (k : Kind)
      (fs : List MarkedField) → ((t : Derivation) → row t ≡ d → ⊥) → Shows (flat_map (alone gates row) cs) d k fs
  none_alone gates row cs d k fs other =
      shows_flat (alone gates row) cs d k fs
      (λ o i. shows_test (is_alone gates o.kind) (under row o ∷ []) d k fs (no_under row (o ∷ []) d k fs other))

  -- both sides together
  tree_of_both : (d f x : Derivation) (c o : Composite) (choices : List (List Slot)) →
      IsOneOf x (flat_map (λ left. map (both left) (o.trees choices)) (c.trees choices)) →
      (t u : Derivation) × IsOneOf t (c.trees choices) × IsOneOf u (o.trees choices) × (both t u ≡ x)
  tree_of_both d f x c o choices h =
      let left = from_flat_map (λ left. map (both left) (o.trees choices)) (c.trees choices) x h in
      let right = from_map (both left.0) x (o.trees choices) left.2 in
      (left.0, right.0, left.1, right.1, right.2)

  one_pair : (gates : Synchronised) (c o : Composite) (x : Composite) → IsOneOf x (joint program.theory gates c o) →
      (fields : List OpenField) × (all_together program.theory c.fields o.fields ≡ Some fields) × (paired c o fields ≡ x)
  one_pair gates c o x h =
      let all = all_together program.theory c.fields o.fields in
      let made = from_given all (λ fields. paired c o fields ∷ []) x
      (from_test (same_kind c.kind o.kind && is_joint gates c.kind) (from_option all (λ fields. paired c o fields ∷ [])) x h) in
      (made.0, made.1, only_one made.2)

  shows_both : (gates : Synchronised) (cs ds : List Composite) (d f : Derivation) (k : Kind) (gs hs fs : List MarkedField) →
      AllAgree program.theory gs hs fs → Shows cs d k gs → Shows ds f k hs →
      Shows (flat_map (λ c. flat_map (joint program.theory gates c) ds) cs) (both d f) k fs
  shows_both gates cs ds d f k gs hs fs agree h i =
      shows_flat (λ c. flat_map (joint program.theory gates c) ds) cs (both d f) k fs
      (λ c at. shows_flat (joint program.theory gates c) ds (both d f) k fs
      (λ o to x there choices t.
      let pair = one_pair gates c o x there in
      let trees = tree_of_both d f (both d f) c o choices (subst (λ (z : Composite). IsOneOf (both d f) (z.trees choices)) (sym pair.2) t) in
      let left : trees.0 ≡ d = cc (trees.4) in
      let right : trees.1 ≡ f = cc (trees.4) in
      let p = h c at choices (subst (λ z. IsOneOf z (c.trees choices)) left trees.2) in
      let q = i o to choices (subst (λ z. IsOneOf z (o.trees choices)) right trees.3) in
      subst (λ (z : Composite). Says z choices k fs) pair.2
      (p.0, all_admitted program.theory c.fields o.fields pair.0 choices gs hs fs p.1 q.1 agree pair.1)))

  none_both : (gates : Synchronised) (cs ds : List Composite) (d : Derivation) (k : Kind) (fs : List MarkedField) →
      ((t u : Derivation) → both t u ≡ d → ⊥) → Shows (flat_map (λ c. flat_map (joint program.theory gates c) ds) cs) d k fs
  none_both gates cs ds d k fs other =
      shows_flat (λ c. flat_map (joint program.theory gates c) ds) cs d k fs
      (λ c at. shows_flat (joint program.theory gates c) ds d k fs
      (λ o to x there choices t.
      let pair = one_pair gates c o x there in
      let trees = tree_of_both d d d c o choices (subst (λ (z : Composite). IsOneOf d (z.trees choices)) (sym pair.2) t) in
      absurd (other trees.0 trees.1 trees.4)))

  -- by a rule that turns some actions internal, and lets others pass
  shows_turned : (test : Kind → Bool) (row other : Derivation → Derivation) (cs : List Composite) (d : Derivation) (k : Kind)
      (fs : List MarkedField) → k ≡ inside → fs ≡ [] → ((t : Derivation) → other t ≡ d → ⊥) →
      Shows (map (λ (c : Composite). if test c.kind then turned program.theory w row c else under other c) cs) d k fs
  shows_turned test row other cs d k fs is_inside none differs c i choices t =
      let from = from_map (λ (c : Composite). if test c.kind then turned program.theory w row c else under other c) c cs i in
      by_test from.0 (test from.0.kind) from.2
    where
      by_test : (o : Composite) (b : Bool) → (if b then turned program.theory w row o else under other o) ≡ c → Says c choices k fs
      by_test o true q =
          subst (λ (z : Composite). Says z choices k fs) q
          (sym is_inside, subst (AreAdmitted program.theory [] choices) (sym none) tt)
      by_test o false q =
          let tree = from_map other d (o.trees choices) (subst (λ (z : Composite). IsOneOf d (z.trees choices)) (sym q) t) in
          absurd (differs tree.0 tree.2)

  shows_passed : (test : Kind → Bool) (by : Composite → Composite) (row other : Derivation → Derivation) →
      ((t u : Derivation) → row t ≡ row u → t ≡ u) → ((t u : Derivation) → other t ≡ row u → ⊥) →
      ((c : Composite) (slots : List (List Slot)) → (ts : List Derivation) × ((by c).trees slots ≡ map other ts)) →
      (cs : List Composite) (d : Derivation) (k : Kind) (fs : List MarkedField) → Shows cs d k fs →
      Shows (map (λ (c : Composite). if test c.kind then by c else under row c) cs) (row d) k fs
  shows_passed test by row other one differs rows cs d k fs h c i choices t =
      let from = from_map (λ (c : Composite). if test c.kind then by c else under row c) c cs i in
      by_test from.0 (test from.0.kind) from.1 from.2
    where
      by_test : (o : Composite) (b : Bool) → IsOneOf o cs → (if b then by o else under row o) ≡ c → Says c choices k fs
      by_test o true at q =
          let ts = rows o choices in
          let there = subst (λ (z : Composite). IsOneOf (row d) (z.trees choices)) (sym q) t in
          let tree = from_map other (row d) ts.0 (subst (IsOneOf (row d)) ts.1 there) in
          absurd (differs tree.0 d tree.2)
      by_test o false at q =
          let tree = from_map row (row d) (o.trees choices) (subst (λ (z : Composite). IsOneOf (row d) (z.trees choices)) (sym q) t) in
          let said = h o at choices (subst (λ z. IsOneOf z (o.trees choices)) (one tree.0 d tree.2) tree.1) in
          subst (λ (z : Composite). Says z choices k fs) q said

  -- what terminates, by its own rule
  shows_ended : (test : Kind → Bool) (row other : Derivation → Derivation) → ((t u : Derivation) → row t ≡ row u → t ≡ u) →
      ((t u : Derivation) → other t ≡ row u → ⊥) → (cs : List Composite) (d : Derivation) (k : Kind) (fs : List MarkedField) →
      Shows cs d k fs → Shows (map (λ (c : Composite). if test c.kind then under row c else under other c) cs) (row d) k fs
  shows_ended test row other one differs cs d k fs h c i choices t =
      let from = from_map (λ (c : Composite). if test c.kind then under row c else under other c) c cs i in
      by_test from.0 (test from.0.kind) from.1 from.2
    where
      by_test : (o : Composite) (b : Bool) → IsOneOf o cs → (if b then under row o else under other o) ≡ c → Says c choices k fs
      by_test o true at q =
          let tree = from_map row (row d) (o.trees choices) (subst (λ (z : Composite). IsOneOf (row d) (z.trees choices)) (sym q) t) in
          let said = h o at choices (subst (λ z. IsOneOf z (o.trees choices)) (one tree.0 d tree.2) tree.1) in
          subst (λ (z : Composite). Says z choices k fs) q said
      by_test o false at q =
          let tree = from_map other (row d) (o.trees choices) (subst (λ (z : Composite). IsOneOf (row d) (z.trees choices)) (sym q) t) in
          absurd (differs tree.0 d tree.2)

  -- what the left side of a disabling does isn't what its right side does
  none_left : (cs : List Composite) (d : Derivation) (k : Kind) (fs : List MarkedField) → Shows (map by_disabling cs) (distake d) k fs
  none_left cs d k fs c i choices t =
      let from = from_map by_disabling c cs i in
      by_test from.0 (is_end from.0.kind) from.2
    where
      by_test : (o : Composite) (b : Bool) → (if b then under disend o else under disstep o) ≡ c → Says c choices k fs
      by_test o true q =
          let tree = from_map disend (distake d) (o.trees choices) (subst (λ (z : Composite). IsOneOf (distake d) (z.trees choices)) (sym q) t) in
          let no : ⊥ = cc (tree.2) in
          absurd no
      by_test o false q =
          let tree = from_map disstep (distake d) (o.trees choices) (subst (λ (z : Composite). IsOneOf (distake d) (z.trees choices)) (sym q) t) in
          let no : ⊥ = cc (tree.2) in
          absurd no

  -- by the choice of a gate
  shows_gates : (g n j : ℕ) (gates : List ℕ) (cs : List Composite) (d : Derivation) (k : Kind) (fs : List MarkedField) →
      ((i h : ℕ) → slice_get gates i ≡ Some h → j ≡ i + n → Shows (of_relabel (record { from = g; to = h } ∷ []) cs) d k fs) →
      Shows (of_gates g n gates cs) (gate j d) k fs
  shows_gates g n j [] cs d k fs h c i choices t = absurd i
  shows_gates g n j (here ∷ gates) cs d k fs h c i choices t =
      let those = of_relabel (record { from = g; to = here } ∷ []) cs in
      shows_append (map (under (gate n)) those) (of_gates g (suc n) gates cs) (gate j d) k fs
      (λ c i choices t.
      let from = from_map (under (gate n)) c those i in
      let there = subst (λ (z : Composite). IsOneOf (gate j d) (z.trees choices)) (sym from.2) t in
      let tree = from_map (gate n) (gate j d) (from.0.trees choices) there in
      let number : n ≡ j = cc (tree.2) in
      let same : tree.0 ≡ d = cc (tree.2) in
      subst (λ (z : Composite). Says z choices k fs) from.2
      (h zero here refl (sym number ∙ omega arith) from.0 from.1 choices
      (subst (λ z. IsOneOf z (from.0.trees choices)) same tree.1)))
      (shows_gates g (suc n) j gates cs d k fs (λ i x q s. h (suc i) x q (omega (arith, s)))) c i choices t

  abbrev of : ℕ → MarkedAssignment → Behaviour → List Composite
  of n m b = composites program.theory e w n m b

  abbrev AllShow : ℕ → MarkedAssignment → Behaviour → Derivation → Kind → List MarkedField → Type 0
  AllShow n m b d k fs = Shows (of n m b) d k fs

  abbrev bodies : ℕ → List ℕ → List TermTree → MarkedAssignment → Definition → List Composite
  bodies n actual terms m q =
      from_option (with_arguments program.theory e m unmarked q.variables terms)
      (λ l. map (under calling) (of_relabel (pairs_of q.gates actual) (below_calls program.theory e w n l q.body)))

  place_is : (i n j : ℕ) → j ≡ suc n → j ≡ i + 1 → i ≡ n
  place_is i n j p q = omega (arith, p, q)

  pub all_shown : (d : Derivation) (n : ℕ) (b : Behaviour) (m : MarkedAssignment) (k : Kind) (fs : List MarkedField) →
      MayDeriveWith program w m b d k fs → AllShow n m b d k fs
  all_shown (pre slots) n (action g fields p rest) m k fs h =
      let r = fields_admitted m m h.0 fields slots fs h.2 in
      let made : List OpenField → List Composite =
      λ cs. record { kind = at_gate g; fields = cs; trees = λ choices. map pre (slots_of fields choices) } ∷ [] in
      shows_known (open_fields program.theory e m fields) made r.0 (pre slots) k fs r.1
      (λ c i choices t.
      let is : record { kind = at_gate g; fields = r.0; trees = λ choices. map pre (slots_of fields choices) } ≡ c = only_one i in
      let there = subst (λ (z : Composite). IsOneOf (pre slots) (z.trees choices)) (sym is) t in
      let tree = from_map pre (pre slots) (slots_of fields choices) there in
      let same : tree.0 ≡ slots = cc (tree.2) in
      subst (λ (z : Composite). Says z choices k fs) is
      (sym h.1, r.2 choices (subst (λ z. IsOneOf z (slots_of fields choices)) same tree.1)))
  all_shown int n (inner rest) m k fs h = λ c i choices t.
      subst (λ (z : Composite). Says z choices k fs) (only_one i)
      (sym h.0, subst (AreAdmitted program.theory [] choices) (sym h.1) tt)
  all_shown (exiting slots) n (exit fields) m k fs h =
      let r = exit_admitted m fields slots fs h.1 in
      let made : List OpenField → List Composite =
      λ cs. record { kind = ends; fields = cs; trees = λ choices. map exiting (exit_slots_of fields choices) } ∷ [] in
      shows_known (open_exit program.theory e m fields) made r.0 (exiting slots) k fs r.1
      (λ c i choices t.
      let is : record { kind = ends; fields = r.0; trees = λ choices. map exiting (exit_slots_of fields choices) } ≡ c = only_one i in
      let there = subst (λ (z : Composite). IsOneOf (exiting slots) (z.trees choices)) (sym is) t in
      let tree = from_map exiting (exiting slots) (exit_slots_of fields choices) there in
      let same : tree.0 ≡ slots = cc (tree.2) in
      subst (λ (z : Composite). Says z choices k fs) is
      (sym h.0, r.2 choices (subst (λ z. IsOneOf z (exit_slots_of fields choices)) same tree.1)))
  all_shown (chl d) n (choice x y) m k fs h =
      shows_append (map (under chl) (of n m x)) (map (under chr) (of n m y)) (chl d) k fs
      (shows_under chl (λ t u q. cc (q)) (of n m x) d k fs (all_shown d n x m k fs h))
      (no_under chr (of n m y) (chl d) k fs (λ t q. cc (q)))
  all_shown (chr d) n (choice x y) m k fs h =
      shows_append (map (under chl) (of n m x)) (map (under chr) (of n m y)) (chr d) k fs
      (no_under chl (of n m x) (chr d) k fs (λ t q. cc (q)))
      (shows_under chr (λ t u q. cc (q)) (of n m y) d k fs (all_shown d n y m k fs h))
  all_shown (val slot d) n (value_choice x body) m k fs h =
      let made : Slot → List Composite =
      λ s. from_option (chosen_term program.theory e w s x.sort) (λ j. map (under (val s)) (of n (with_marked x j m) body)) in
      let part = all_shown d n body (with_marked x h.0 m) k fs h.3 in
      shows_flat made (window_slots w x.sort) (val slot d) k fs
      (λ s at. shows_option (chosen_term program.theory e w s x.sort) (λ j. map (under (val s)) (of n (with_marked x j m) body))
      (val slot d) k fs
      (λ j is c i choices t.
      let from = from_map (under (val s)) c (of n (with_marked x j m) body) i in
      let there = subst (λ (z : Composite). IsOneOf (val slot d) (z.trees choices)) (sym from.2) t in
      let tree = from_map (val s) (val slot d) (from.0.trees choices) there in
      let one : s ≡ slot = cc (tree.2) in
      let same : tree.0 ≡ d = cc (tree.2) in
      let chosen = chosen_is program e exact w slot x.sort h.0 h.1 in
      let term : j ≡ h.0 = same_Some _ _ (sym is ∙ ap (λ z. chosen_term program.theory e w z x.sort) one ∙ chosen) in
      subst (λ (z : Composite). Says z choices k fs) from.2
      (part from.0 (subst (λ z. IsOneOf from.0 (of n (with_marked x z m) body)) term from.1) choices
      (subst (λ z. IsOneOf z (from.0.trees choices)) same tree.1))))
  all_shown (gate j d) n (gate_choice g gates body) m k fs h =
      let part = all_shown d n (relabel (record { from = g; to = h.1 } ∷ []) body) m k fs h.4 in
      shows_gates g 1 j gates (of n m body) d k fs
      (λ i x q s.
      let place = place_is i h.0 j h.2 s in
      let one : h.1 ≡ x = same_Some _ _ (sym h.3 ∙ ap (slice_get gates) (sym place) ∙ q) in
      subst (λ z. Shows (of_relabel (record { from = g; to = z } ∷ []) (of n m body)) d k fs) one part)
  all_shown (guard d) n (guarded p body) m k fs h =
      shows_test (premise_may_hold program.theory e m p) (map (under guard) (of n m body)) (guard d) k fs
      (shows_under guard (λ t u q. cc (q)) (of n m body) d k fs (all_shown d n body m k fs h.1))
  all_shown (letting d) n (bound bindings body) m k fs h =
      shows_known (with_bindings program.theory e m m bindings) (λ l. map (under letting) (of n l body)) h.0 (letting d) k fs
      (bindings_are program e exact m m h.0 bindings h.1)
      (shows_under letting (λ t u q. cc (q)) (of n h.0 body) d k fs (all_shown d n body h.0 k fs h.2))
  all_shown (parl d) n (parallel gates x y) m k fs h =
      let together = flat_map (λ c. flat_map (joint program.theory gates c) (of n m y)) (of n m x) in
      shows_append (flat_map (alone gates parl) (of n m x)) (flat_map (alone gates parr) (of n m y) ++ together) (parl d) k fs
      (shows_alone gates parl (λ t u q. cc (q)) (of n m x) d k fs (all_shown d n x m k fs h.0))
      (shows_append (flat_map (alone gates parr) (of n m y)) together (parl d) k fs
      (none_alone gates parr (of n m y) (parl d) k fs (λ t q. cc (q)))
      (none_both gates (of n m x) (of n m y) (parl d) k fs (λ t u q. cc (q))))
  all_shown (parr d) n (parallel gates x y) m k fs h =
      let together = flat_map (λ c. flat_map (joint program.theory gates c) (of n m y)) (of n m x) in
      shows_append (flat_map (alone gates parl) (of n m x)) (flat_map (alone gates parr) (of n m y) ++ together) (parr d) k fs
      (none_alone gates parl (of n m x) (parr d) k fs (λ t q. cc (q)))
      (shows_append (flat_map (alone gates parr) (of n m y)) together (parr d) k fs
      (shows_alone gates parr (λ t u q. cc (q)) (of n m y) d k fs (all_shown d n y m k fs h.0))
      (none_both gates (of n m x) (of n m y) (parr d) k fs (λ t u q. cc (q))))
  all_shown (both d f) n (parallel gates x y) m k fs h =
      let together = flat_map (λ c. flat_map (joint program.theory gates c) (of n m y)) (of n m x) in
      shows_append (flat_map (alone gates parl) (of n m x)) (flat_map (alone gates parr) (of n m y) ++ together) (both d f) k fs
      (none_alone gates parl (of n m x) (both d f) k fs (λ t q. cc (q)))
      (shows_append (flat_map (alone gates parr) (of n m y)) together (both d f) k fs
      (none_alone gates parr (of n m y) (both d f) k fs (λ t q. cc (q)))
      (shows_both gates (of n m x) (of n m y) d f k h.0 h.1 fs h.5 (all_shown d n x m k h.0 h.2) (all_shown f n y m k h.1 h.3)))
  all_shown (hiding d) n (hide gates body) m k fs h =
      shows_turned (is_hidden gates) hiding pass (of n m body) (hiding d) k fs h.5 h.6 (λ t q. cc (q))
  all_shown (pass d) n (hide gates body) m k fs h =
      shows_passed (is_hidden gates) (turned program.theory w hiding) pass hiding (λ t u q. cc (q)) (λ t u q. cc (q))
      (λ c slots. (filled c (all_choices program.theory w [] c.fields), refl)) (of n m body) d k fs (all_shown d n body m k fs h.0)
  all_shown (enstep d) n (enable x xs y) m k fs h =
      shows_passed is_end (turned program.theory w enend) enstep enend (λ t u q. cc (q)) (λ t u q. cc (q))
      (λ c slots. (filled c (all_choices program.theory w [] c.fields), refl)) (of n m x) d k fs (all_shown d n x m k fs h.0)
  all_shown (enend d) n (enable x xs y) m k fs h =
      shows_turned is_end enend enstep (of n m x) (enend d) k fs h.4 h.5 (λ t q. cc (q))
  all_shown (disstep d) n (disable x y) m k fs h =
      shows_append (map by_disabling (of n m x)) (map (under distake) (of n m y)) (disstep d) k fs
      (shows_passed is_end (under disend) disstep disend (λ t u q. cc (q)) (λ t u q. cc (q)) (λ c slots. (c.trees slots, refl))
      (of n m x) d k fs (all_shown d n x m k fs h.0))
      (no_under distake (of n m y) (disstep d) k fs (λ t q. cc (q)))
  all_shown (disend d) n (disable x y) m k fs h =
      shows_append (map by_disabling (of n m x)) (map (under distake) (of n m y)) (disend d) k fs
      (shows_ended is_end disend disstep (λ t u q. cc (q)) (λ t u q. cc (q)) (of n m x) d k fs (all_shown d n x m k fs h.0))
      (no_under distake (of n m y) (disend d) k fs (λ t q. cc (q)))
  all_shown (distake d) n (disable x y) m k fs h =
      shows_append (map by_disabling (of n m x)) (map (under distake) (of n m y)) (distake d) k fs
      (none_left (of n m x) d k fs)
      (shows_under distake (λ t u q. cc (q)) (of n m y) d k fs (all_shown d n y m k fs h))
  all_shown (calling d) zero (call p actual terms) m k fs h =
      shows_option (e.definition p) (bodies zero actual terms m) (calling d) k fs
      (λ q at. shows_option (with_arguments program.theory e m unmarked q.variables terms) (λ l. []) (calling d) k fs
      (λ l to c i choices t. absurd i))
  all_shown (calling d) (suc n) (call p actual terms) m k fs h =
      let definition : Definition = record { gates = h.0; variables = h.1; body = h.2 } in
      shows_known (e.definition p) (bodies (suc n) actual terms m) definition (calling d) k fs ((exact.definition p definition).0 h.4)
      (shows_known (with_arguments program.theory e m unmarked h.1 terms)
      (λ l. map (under calling) (of_relabel (pairs_of h.0 actual) (of n l h.2))) h.3 (calling d) k fs
      (arguments_are program e exact m unmarked h.3 h.1 terms h.5)
      (shows_under calling (λ t u q. cc (q)) (of_relabel (pairs_of h.0 actual) (of n h.3 h.2)) d k fs
      (all_shown d n (relabel (pairs_of h.0 actual) h.2) h.3 k fs h.6)))
  all_shown (rel d) n (relabel pairs body) m k fs h =
      shows_map (renamed_kind pairs) (relabelled pairs) rel (λ t u q. cc (q)) (λ c. refl) (of n m body) d h.0 k fs (sym h.2)
      (all_shown d n body m h.0 fs h.1)
  all_shown _ n _ m k fs h = absurd h

pub shown_is_admitted : ShownIsAdmitted
shown_is_admitted program e w exact n m b c i choices d t k fs h = all_shown program e exact w d n b m k fs h c i choices t
