-- By each windowed tree the behaviour acts.
use Rattle.std.proofs.Common.{ℕ, ◌≡◌, ◌==◌, List, [], ◌∷◌, refl, sym, ap, subst, ◌∙◌, Option, Some, None, Bool, true, false}
use Rattle.std.proofs.Common.{if◌then◌else◌}
use Rattle.std.proofs.lemmas.Bool.{or_parts, true≢false}
use Rattle.spec_core.specs.Lists.{Each}
use Rattle.spec_core.specs.Terms.{TermTree, TermTrees, variable, apply, no_terms, and_term, preorder, instance, instances}
use Rattle.spec_core.specs.Theories.{Premise, premise, Theory}
use Rattle.spec_core.specs.Sorts.{FitsData}
use Rattle.spec_core.specs.Values.{HasValue}
use Rattle.spec_core.specs.Code.{Program, Variable, Binding, Relabelling, ExitValue, exit_given, exit_any, ActionField, give, accept}
use Rattle.rule_model.specs.declared.action.Action.{Action}
use Rattle.rule_model.specs.declared.action.Action.TheVariants.{Inner, Exit}
use Rattle.rule_model.specs.declared.offer.Field.{Field}
use Rattle.rule_model.specs.declared.offer.Field.TheVariants.{Give, Take}
use Rattle.rule_model.specs.declared.offer.Offer.{Offer}
use Rattle.rule_model.specs.declared.rules.Slot.{Slot}
use Rattle.rule_model.specs.declared.rules.Slot.TheVariants.{Of, Mark, Blank}
use Rattle.rule_model.specs.Actions.{Kind, inside, ends, at_gate, kind_of, doing, renamed_action, pairs_of, IsAlone, IsJoint, IsUnhidden}
use Rattle.rule_model.specs.Actions.{IsNoEnd, IsEnd}
use Rattle.rule_model.specs.Behaviours.{Behaviour, stop, exit, inner, action, choice, guarded, bound, value_choice, gate_choice, parallel}
use Rattle.rule_model.specs.Behaviours.{hide, enable, disable, call, relabel}
use Rattle.rule_model.specs.Derivations.{Derivation, pre, int, exiting, chl, chr, val, gate, guard, letting, parl, parr, both, hiding, pass}
use Rattle.rule_model.specs.Derivations.{enstep, enend, disstep, disend, distake, calling, rel}
use Rattle.rule_model.specs.Derives.{DerivesWith}
use Rattle.rule_model.specs.Fields.{Spells, GivesValue, PremiseHolds, GuardHolds, FieldsHave, ExitHas, BindingsHave, ArgumentsHave}
use Rattle.rule_model.specs.Fields.{IsHandedOn}
use Rattle.rule_model.specs.Meets.{IsOfSort, FieldMeets, FieldsMeet, Meets}
use Rattle.rule_model.specs.Substitution.{Assignment, with_term, without, put, tidied}
use Rattle.symbolic_rules.specs.Windows.{Windows, sort_of_value}
use Rattle.symbolic_rules.specs.MarkedTerms.{MarkedTerm, plain, MarkedAssignment, unmarked, with_marked, joined, applied}
use Rattle.symbolic_rules.specs.MarkedTerms.{AllPlain, marked_instance, marked_instances, MayHaveValue, MayBeEqual, PremiseMayHold, GuardMayHold}
use Rattle.symbolic_rules.specs.MarkedFields.{MarkedField, told, chosen, given, free, told_by, chosen_by, Agree, AllAgree, HaveSortsOf}
use Rattle.symbolic_rules.specs.MarkedFields.{Chooses, FieldsMayHave, ExitMayHave, BindingsMayHave, ArgumentsMayHave}
use Rattle.symbolic_rules.specs.MayDerive.{renamed_kind, MayDeriveWith}
use Rattle.symbolic_rules.specs.Trees.{MeetsIfOffered, FieldMayMeet, FieldsMayMeet, MayMeet, is_mark, has_marks, has_mark}
use Rattle.symbolic_rules.specs.Laws.{WindowedTreesAct}
use Rattle.symbolic_rules.proofs.Sorts.{sort_of_spelled, value_is_spelled}

module _ (theory : Theory) (m : MarkedAssignment) (s : Assignment) (all : AllPlain m s) where
  mutual
    pub plain_instance : (t : TermTree) → marked_instance theory m t ≡ plain (instance s t)
    plain_instance (variable x) = all x
    plain_instance (apply f ts) = ap (applied theory f) (plain_instances ts)

    plain_instances : (ts : TermTrees) → marked_instances theory m ts ≡ Some (instances s ts)
    plain_instances no_terms = refl
    plain_instances (and_term t ts) =
        ap (λ (k : MarkedTerm). joined k (marked_instances theory m ts)) (plain_instance t)
        ∙ ap (joined (plain (instance s t))) (plain_instances ts)

  pub with_one_plain : (x : Variable) (k : MarkedTerm) (n : TermTree) → k ≡ plain n → AllPlain (with_marked x k m) (with_term x n s)
  with_one_plain x k n e y = by_test (y == x.number)
    where
      by_test : (b : Bool) → (if b then k else m y) ≡ plain (if b then n else s y)
      by_test true = e
      by_test false = all y

  pub premise_holds : (p : Premise) → PremiseMayHold theory m p → PremiseHolds theory s p
  premise_holds (premise a b) h =
      subst (λ (k : MarkedTerm). MayBeEqual theory (plain (instance s a)) k) (plain_instance b)
      (subst (λ (k : MarkedTerm). MayBeEqual theory k (marked_instance theory m b)) (plain_instance a) h)

  guard_holds : (p : Option Premise) → GuardMayHold theory m p → GuardHolds theory s p
  guard_holds None h = tt
  guard_holds (Some p) h = premise_holds p h

  -- an expression without a mark has its value
  has_value : (e : TermTree) (k : MarkedTerm) → MayHaveValue theory (marked_instance theory m e) k →
      (n : TermTree) × HasValue theory (instance s e) n × (k ≡ plain n)
  has_value e k h = subst (λ (i : MarkedTerm). MayHaveValue theory i k) (plain_instance e) h

-- the field is a value, which its list of operations spells
abbrev IsPlain : Theory → MarkedField → Type 0
IsPlain theory (told v) = (n : TermTree) × Spells theory v n (sort_of_value theory v)
IsPlain theory (chosen v) = (n : TermTree) × Spells theory v n (sort_of_value theory v)
IsPlain theory (given sort) = ⊥
IsPlain theory (free sort) = ⊥

abbrev value_in : MarkedField → List ℕ
value_in (told v) = v
value_in (chosen v) = v
value_in (given sort) = []
value_in (free sort) = []

abbrev values_in : List MarkedField → List (List ℕ)
values_in [] = []
values_in (f ∷ fs) = value_in f ∷ values_in fs

-- the action of a kind with values
abbrev action_of : Kind → List (List ℕ) → Action
action_of inside values = Inner
action_of ends values = Exit values
action_of (at_gate g) values = doing g values

own_kind : (k : Kind) (values : List (List ℕ)) → k ≡ kind_of (action_of k values)
own_kind inside values = refl
own_kind ends values = refl
own_kind (at_gate g) values = refl

renamed_of : (pairs : List Relabelling) (k : Kind) (values : List (List ℕ)) →
    action_of (renamed_kind pairs k) values ≡ renamed_action pairs (action_of k values)
renamed_of pairs inside values = refl
renamed_of pairs ends values = refl
renamed_of pairs (at_gate g) values = refl

-- values that agree are one
plain_agree : (theory : Theory) (f g h : MarkedField) → Agree theory f g h → IsPlain theory f → IsPlain theory g →
    IsPlain theory h × (value_in f ≡ value_in h) × (value_in g ≡ value_in h)
plain_agree theory (told v) (told u) h e p q = (subst (IsPlain theory) (sym e.1) p, ap value_in (sym e.1), sym e.0 ∙ ap value_in (sym e.1))
plain_agree theory (told v) (chosen u) h e p q =
    (subst (IsPlain theory) (sym e.1) p, ap value_in (sym e.1), sym e.0 ∙ ap value_in (sym e.1))
plain_agree theory (chosen v) (told u) h e p q =
    (subst (IsPlain theory) (sym e.1) p, ap value_in (sym e.1) ∙ refl, sym e.0 ∙ ap value_in (sym e.1))
plain_agree theory (chosen v) (chosen u) h e p q =
    (subst (IsPlain theory) (sym e.1) p, ap value_in (sym e.1), sym e.0 ∙ ap value_in (sym e.1))
plain_agree theory (given s) g h e p q = absurd p
plain_agree theory (free s) g h e p q = absurd p
plain_agree theory f (given s) h e p q = absurd q
plain_agree theory f (free s) h e p q = absurd q

all_plain_agree : (theory : Theory) (fs gs hs : List MarkedField) → AllAgree theory fs gs hs → Each (IsPlain theory) fs →
    Each (IsPlain theory) gs → Each (IsPlain theory) hs × (values_in fs ≡ values_in hs) × (values_in gs ≡ values_in hs)
all_plain_agree theory [] [] hs e p q = (subst (Each (IsPlain theory)) (sym e) tt, ap values_in (sym e), ap values_in (sym e))
all_plain_agree theory (f ∷ fs) (g ∷ gs) (h ∷ hs) e p q =
    let one = plain_agree theory f g h e.0 p.0 q.0 in
    let rest = all_plain_agree theory fs gs hs e.1 p.1 q.1 in (
      (one.0, rest.0),
      ap (λ (x : List ℕ). x ∷ values_in fs) one.1 ∙ ap (λ (l : List (List ℕ)). value_in h ∷ l) rest.1,
      ap (λ (x : List ℕ). x ∷ values_in gs) one.2 ∙ ap (λ (l : List (List ℕ)). value_in h ∷ l) rest.2,
    )
all_plain_agree theory _ _ hs e p q = absurd e

-- what a slot without a mark chooses is a value of the sort, which makes a plain field
pub record IsChosen (theory : Theory) (slot : Slot) (sort : ℕ) (k : MarkedTerm) : Type 0 where
  pub value : List ℕ
  pub slot_is : slot ≡ Of value
  pub term : TermTree
  pub spells : Spells theory value term sort
  pub known : k ≡ plain term

chosen_value : (theory : Theory) (w : Windows) (slot : Slot) (sort : ℕ) (k : MarkedTerm) → is_mark slot ≡ false →
    Chooses theory w slot sort k → IsChosen theory slot sort k
chosen_value theory w (Of v) sort k u h = record { value = v; slot_is = refl; term = h.0; spells = h.1; known = h.2 }
chosen_value theory w Mark sort k u h = absurd (true≢false u)
chosen_value theory w Blank sort k u h = absurd h

-- the field that a chosen value makes is plain, and has this value
chosen_is_plain : (theory : Theory) (f : MarkedField) (slot : Slot) (sort : ℕ) (k : MarkedTerm) → f ≡ chosen_by k →
    (c : IsChosen theory slot sort k) → IsPlain theory f × (c.value ≡ value_in f)
chosen_is_plain theory f slot sort k e c =
    let i : f ≡ chosen (preorder c.term) = e ∙ ap chosen_by c.known in
    let at = subst (λ (s : ℕ). Spells theory c.value c.term s) (sym (sort_of_spelled theory c.value c.term sort c.spells)) c.spells in (
      subst (IsPlain theory) (sym i)
          (c.term, subst (λ (v : List ℕ). Spells theory v c.term (sort_of_value theory v)) c.spells.spelled at),
      c.spells.spelled ∙ ap value_in (sym i),
    )

-- the field that a value of an expression makes is plain, and has this value
told_is_plain : (theory : Theory) → FitsData theory → (f : MarkedField) (k : MarkedTerm) (t n : TermTree) → f ≡ told_by k →
    HasValue theory t n → k ≡ plain n → IsPlain theory f × GivesValue theory t (value_in f) n
told_is_plain theory fits f k t n e h i =
    let j : f ≡ told (preorder n) = e ∙ ap told_by i in (
      subst (IsPlain theory) (sym j) (n, value_is_spelled theory fits t n h),
      record { value = h; spelled = ap value_in j },
    )

-- no value is spelled by no operation
empty_spells_none : (theory : Theory) (n : TermTree) (sort : ℕ) → Spells theory [] n sort → ⊥
empty_spells_none theory (variable x) sort h = h.is_value.settled
empty_spells_none theory (apply f ts) sort h = let e = h.spelled in cc

module _ (theory : Theory) (fits : FitsData theory) (w : Windows) (m : MarkedAssignment) (s : Assignment) (all : AllPlain m s) where
  fields_have : (fields : List ActionField) (slots : List Slot) (fs : List MarkedField) (l r : MarkedAssignment) (t : Assignment) →
      AllPlain l t → has_marks slots ≡ false → FieldsMayHave theory w m l fields slots fs r →
      Each (IsPlain theory) fs × ((u : Assignment) × FieldsHave theory s t fields slots (values_in fs) u × AllPlain r u)
  fields_have [] [] [] l r t i u h = (tt, (t, refl, subst (λ (z : MarkedAssignment). AllPlain z t) (sym h) i))
  fields_have (give e ∷ fields) slots (f ∷ fs) l r t i u h =
      let n = has_value theory m s all e h.0.0 h.0.1 in
      let one = told_is_plain theory fits f h.0.0 (instance s e) n.0 h.0.2 n.1 n.2 in
      let rest = fields_have fields slots fs l r t i u h.1 in
      ((one.0, rest.0), (rest.1.0, ((n.0, one.1), rest.1.1), rest.1.2))
  fields_have (accept x ∷ fields) (slot ∷ slots) (f ∷ fs) l r t i u h =
      let v = or_parts (is_mark slot) (has_marks slots) u in
      let c = chosen_value theory w slot x.sort h.0 v.0 h.1 in
      let one = chosen_is_plain theory f slot x.sort h.0 h.2 c in
      let rest = fields_have fields slots fs (with_marked x h.0 l) r (with_term x c.term t)
      (with_one_plain theory l t i x h.0 c.term c.known) v.1 h.3 in (
        (one.0, rest.0),
        (
          rest.1.0,
          subst (λ (o : Slot). FieldsHave theory s t (accept x ∷ fields) (o ∷ slots) (value_in f ∷ values_in fs) rest.1.0)
              (sym c.slot_is) (one.1, c.term, c.spells, rest.1.1),
          rest.1.2,
        ),
      )
  fields_have _ _ _ l r t i u h = absurd h

  exit_has : (fields : List ExitValue) (slots : List Slot) (fs : List MarkedField) → has_marks slots ≡ false →
      ExitMayHave theory w m fields slots fs → Each (IsPlain theory) fs × ExitHas theory s fields slots (values_in fs)
  exit_has [] [] [] u h = (tt, tt)
  exit_has (exit_given e ∷ fields) slots (f ∷ fs) u h =
      let n = has_value theory m s all e h.0.0 h.0.1 in
      let one = told_is_plain theory fits f h.0.0 (instance s e) n.0 h.0.2 n.1 n.2 in
      let rest = exit_has fields slots fs u h.1 in
      ((one.0, rest.0), ((n.0, one.1), rest.1))
  exit_has (exit_any sort ∷ fields) (slot ∷ slots) (f ∷ fs) u h =
      let v = or_parts (is_mark slot) (has_marks slots) u in
      let c = chosen_value theory w slot sort h.0.0 v.0 h.0.1 in
      let one = chosen_is_plain theory f slot sort h.0.0 h.0.2 c in
      let rest = exit_has fields slots fs v.1 h.1 in (
        (one.0, rest.0),
        subst (λ (o : Slot). ExitHas theory s (exit_any sort ∷ fields) (o ∷ slots) (value_in f ∷ values_in fs)) (sym c.slot_is)
            (one.1, (c.term, c.spells), rest.1),
      )
  exit_has _ _ _ u h = absurd h

  pub bindings_have : (bindings : List Binding) (l r : MarkedAssignment) (t : Assignment) → AllPlain l t →
      BindingsMayHave theory m l bindings r → (u : Assignment) × BindingsHave theory s t bindings u × AllPlain r u
  bindings_have [] l r t i h = (t, refl, subst (λ (z : MarkedAssignment). AllPlain z t) (sym h) i)
  bindings_have (b ∷ bindings) l r t i h =
      let n = has_value theory m s all b.term h.0 h.1 in
      let rest = bindings_have bindings (with_marked b.variable h.0 l) r (with_term b.variable n.0 t)
      (with_one_plain theory l t i b.variable h.0 n.0 n.2) h.2 in
      (rest.0, (n.0, n.1, rest.1), rest.2)

  pub arguments_have : (xs : List Variable) (terms : List TermTree) (l r : MarkedAssignment) (t : Assignment) → AllPlain l t →
      ArgumentsMayHave theory m l xs terms r → (u : Assignment) × ArgumentsHave theory s t xs terms u × AllPlain r u
  arguments_have [] [] l r t i h = (t, refl, subst (λ (z : MarkedAssignment). AllPlain z t) (sym h) i)
  arguments_have (x ∷ xs) (e ∷ terms) l r t i h =
      let n = has_value theory m s all e h.0 h.1 in
      let rest = arguments_have xs terms (with_marked x h.0 l) r (with_term x n.0 t) (with_one_plain theory l t i x h.0 n.0 n.2) h.2 in
      (rest.0, (n.0, n.1, rest.1), rest.2)
  arguments_have _ _ l r t i h = absurd h

-- plain fields of the sorts of variables are handed on
handed_on : (theory : Theory) (xs : List Variable) (fs : List MarkedField) (t : Assignment) → Each (IsPlain theory) fs →
    HaveSortsOf theory xs fs → (u : Assignment) × IsHandedOn theory t xs (values_in fs) u
handed_on theory [] [] t p h = (t, refl)
handed_on theory (x ∷ xs) (told v ∷ fs) t p h =
    let rest = handed_on theory xs fs (with_term x p.0.0 t) p.1 h.1 in
    (rest.0, (p.0.0, subst (λ (sort : ℕ). Spells theory v p.0.0 sort) h.0 p.0.1, rest.1))
handed_on theory (x ∷ xs) (chosen v ∷ fs) t p h =
    let rest = handed_on theory xs fs (with_term x p.0.0 t) p.1 h.1 in
    (rest.0, (p.0.0, subst (λ (sort : ℕ). Spells theory v p.0.0 sort) h.0 p.0.1, rest.1))
handed_on theory (x ∷ xs) (given s ∷ fs) t p h = absurd p.0
handed_on theory (x ∷ xs) (free s ∷ fs) t p h = absurd p.0
handed_on theory [] (f ∷ fs) t p h = absurd h
handed_on theory (x ∷ xs) [] t p h = absurd h

module _ (program : Program) (fits : FitsData program.theory) (w : Windows) where
  abbrev Acts : Assignment → Behaviour → Derivation → Kind → List MarkedField → Type 0
  Acts s b d k fs = Each (IsPlain program.theory) fs × ((c : Behaviour) × DerivesWith program s b d (action_of k (values_in fs)) c)

  -- an action without fields
  none_plain : (fs : List MarkedField) → fs ≡ [] → Each (IsPlain program.theory) fs
  none_plain fs e = subst (Each (IsPlain program.theory)) (sym e) tt

  act : (d : Derivation) (b : Behaviour) (m : MarkedAssignment) (s : Assignment) (k : Kind) (fs : List MarkedField) → AllPlain m s →
      has_mark d ≡ false → MayDeriveWith program w m b d k fs → Acts s b d k fs
  act (pre slots) (action g fields p rest) m s k fs all u h =
      let r = fields_have program.theory fits w m s all fields slots fs m h.0 s all u h.2 in
      let guarded = guard_holds program.theory h.0 r.1.0 r.1.2 p h.3 in
      (r.0, (put r.1.0 rest, (values_in fs, r.1.0, ap (λ (j : Kind). action_of j (values_in fs)) h.1, r.1.1, guarded, refl)))
  act int (inner rest) m s k fs all u h =
      (none_plain fs h.1, (put s rest, (ap (λ (j : Kind). action_of j (values_in fs)) h.0, refl)))
  act (exiting slots) (exit fields) m s k fs all u h =
      let r = exit_has program.theory fits w m s all fields slots fs u h.1 in
      (r.0, (stop, (values_in fs, ap (λ (j : Kind). action_of j (values_in fs)) h.0, r.1, refl)))
  act (chl d) (choice x y) m s k fs all u h = act d x m s k fs all u h
  act (chr d) (choice x y) m s k fs all u h = act d y m s k fs all u h
  act (val slot d) (value_choice x body) m s k fs all u h =
      let v = or_parts (is_mark slot) (has_mark d) u in
      let c = chosen_value program.theory w slot x.sort h.0 v.0 h.1 in
      let r = act d body (with_marked x h.0 m) (with_term x c.term s) k fs (with_one_plain program.theory m s all x h.0 c.term c.known) v.1
      h.3 in (
        r.0,
        (
          r.1.0,
          subst (λ (o : Slot). DerivesWith program s (value_choice x body) (val o d) (action_of k (values_in fs)) r.1.0) (sym c.slot_is)
              (c.term, c.spells, r.1.1),
        ),
      )
  act (gate n d) (gate_choice g gates body) m s k fs all u h =
      let r = act d (relabel (record { from = g; to = h.1 } ∷ []) body) m s k fs all u h.4 in
      (r.0, (r.1.0, (h.0, h.1, h.2, h.3, r.1.1)))
  act (guard d) (guarded p body) m s k fs all u h =
      let r = act d body m s k fs all u h.1 in
      (r.0, (r.1.0, (premise_holds program.theory m s all p h.0, r.1.1)))
  act (letting d) (bound bindings body) m s k fs all u h =
      let z = bindings_have program.theory fits w m s all bindings m h.0 s all h.1 in
      let r = act d body h.0 z.0 k fs z.2 u h.2 in
      (r.0, (r.1.0, (z.0, z.1, r.1.1)))
  act (parl d) (parallel gates x y) m s k fs all u h =
      let r = act d x m s k fs all u h.0 in
      (r.0, (parallel gates r.1.0 (put s y), (r.1.0, r.1.1, subst (IsAlone gates) (own_kind k (values_in fs)) h.1, refl)))
  act (parr d) (parallel gates x y) m s k fs all u h =
      let r = act d y m s k fs all u h.0 in
      (r.0, (parallel gates (put s x) r.1.0, (r.1.0, r.1.1, subst (IsAlone gates) (own_kind k (values_in fs)) h.1, refl)))
  act (both d e) (parallel gates x y) m s k fs all u h =
      let v = or_parts (has_mark d) (has_mark e) u in
      let r = act d x m s k h.0 all v.0 h.2 in
      let q = act e y m s k h.1 all v.1 h.3 in
      let z = all_plain_agree program.theory h.0 h.1 fs h.5 r.0 q.0 in (
        z.0,
        (
          parallel gates r.1.0 q.1.0,
          (
            r.1.0,
            q.1.0,
            subst (λ (l : List (List ℕ)). DerivesWith program s x d (action_of k l) r.1.0) z.1 r.1.1,
            subst (λ (l : List (List ℕ)). DerivesWith program s y e (action_of k l) q.1.0) z.2 q.1.1,
            subst (IsJoint gates) (own_kind k (values_in fs)) h.4,
            refl,
          ),
        ),
      )
  act (hiding d) (hide gates body) m s k fs all u h =
      let r = act d body m s (at_gate h.0) h.1 all u h.2 in (
        none_plain fs h.6,
        (
          hide gates r.1.0,
          (h.0, values_in h.1, r.1.0, r.1.1, h.3, ap (λ (j : Kind). action_of j (values_in fs)) h.5, refl),
        ),
      )
  act (pass d) (hide gates body) m s k fs all u h =
      let r = act d body m s k fs all u h.0 in
      (r.0, (hide gates r.1.0, (r.1.0, r.1.1, subst (IsUnhidden gates) (own_kind k (values_in fs)) h.1, refl)))
  act (enstep d) (enable x xs y) m s k fs all u h =
      let r = act d x m s k fs all u h.0 in
      (r.0, (enable r.1.0 xs (put (without xs s) y), (r.1.0, r.1.1, subst IsNoEnd (own_kind k (values_in fs)) h.1, refl)))
  act (enend d) (enable x xs y) m s k fs all u h =
      let r = act d x m s ends h.0 all u h.1 in
      let z = handed_on program.theory xs h.0 s r.0 h.2 in (
        none_plain fs h.5,
        (put z.0 y, (values_in h.0, r.1.0, z.0, r.1.1, ap (λ (j : Kind). action_of j (values_in fs)) h.4, z.1, refl)),
      )
  act (disstep d) (disable x y) m s k fs all u h =
      let r = act d x m s k fs all u h.0 in
      (r.0, (disable r.1.0 (put s y), (r.1.0, r.1.1, subst IsNoEnd (own_kind k (values_in fs)) h.1, refl)))
  act (disend d) (disable x y) m s k fs all u h =
      let r = act d x m s k fs all u h.0 in
      (r.0, (r.1.0, (r.1.1, subst IsEnd (own_kind k (values_in fs)) h.1)))
  act (distake d) (disable x y) m s k fs all u h = act d y m s k fs all u h
  act (calling d) (call p actual terms) m s k fs all u h =
      let z = arguments_have program.theory fits w m s all h.1 terms unmarked h.3 variable (λ x. refl) h.5 in
      let r = act d (relabel (pairs_of h.0 actual) h.2) h.3 z.0 k fs z.2 u h.6 in
      (r.0, (r.1.0, (h.0, h.1, h.2, z.0, h.4, z.1, r.1.1)))
  act (rel d) (relabel pairs body) m s k fs all u h =
      let r = act d body m s h.0 fs all u h.1 in
      let renamed = ap (λ (j : Kind). action_of j (values_in fs)) h.2 ∙ renamed_of pairs h.0 (values_in fs) in
      (r.0, (tidied pairs r.1.0, (action_of h.0 (values_in fs), r.1.0, r.1.1, renamed, refl)))
  act _ _ m s k fs all u h = absurd h

  of_its_sort : (v : List ℕ) (sort : ℕ) (n : TermTree) → Spells program.theory v n (sort_of_value program.theory v) →
      sort_of_value program.theory v ≡ sort → IsOfSort program.theory v (record { 0 = sort })
  of_its_sort [] sort n p e = absurd (empty_spells_none program.theory n (sort_of_value program.theory []) p)
  of_its_sort (op ∷ ops) sort n p e = e

  field_meets : (f : MarkedField) (field : Field) → IsPlain program.theory f → FieldMayMeet program.theory w f field →
      FieldMeets program.theory (value_in f) field
  field_meets (told v) (Give u) p h = h
  field_meets (chosen v) (Give u) p h = h
  field_meets (told v) (Take sort) p h = of_its_sort v sort.0 p.0 p.1 h.0
  field_meets (chosen v) (Take sort) p h = of_its_sort v sort.0 p.0 p.1 h.0
  field_meets (given s) field p h = absurd p
  field_meets (free s) field p h = absurd p

  fields_meet : (fs : List MarkedField) (fields : List Field) → Each (IsPlain program.theory) fs →
      FieldsMayMeet program.theory w fs fields → FieldsMeet program.theory (values_in fs) fields
  fields_meet [] [] p h = tt
  fields_meet (f ∷ fs) (field ∷ fields) p h = (field_meets f field p.0 h.0, fields_meet fs fields p.1 h.1)
  fields_meet [] (field ∷ fields) p h = absurd h
  fields_meet (f ∷ fs) [] p h = absurd h

  meets : (o : Option Offer) (k : Kind) (fs : List MarkedField) → Each (IsPlain program.theory) fs →
      MayMeet program.theory w k fs o → MeetsIfOffered program.theory (action_of k (values_in fs)) o
  meets None k fs p h = tt
  meets (Some offer) k fs p h =
      subst (λ (j : Kind). Meets program.theory (action_of j (values_in fs)) offer) (sym h.0)
      (refl, fields_meet fs offer.fields p h.1)

pub windowed_trees_act : WindowedTreesAct
windowed_trees_act program w fits b o d k h =
    let r = act program fits w d b unmarked variable k h.0.fields (λ x. refl) h.1 h.0.derives in (
      action_of k (values_in h.0.fields),
      r.1.0,
      r.1.1,
      sym (own_kind k (values_in h.0.fields)),
      meets program fits w o k h.0.fields r.0 h.0.meets,
    )
