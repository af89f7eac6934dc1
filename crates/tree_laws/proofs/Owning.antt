-- The plans of a behaviour: no two have the same rules, and the trees of each show its open fields.
use Rattle.std.proofs.Common.{ℕ, zero, suc, ◌≡◌, ◌∙◌, ◌≤◌, ◌++◌, ◌==◌, ◌||◌, ◌&&◌, inl, inr, refl, sym, ap, subst, arith, List, [], ◌∷◌}
use Rattle.std.proofs.Common.{map, flat_map}
use Rattle.std.proofs.Common.{Option, Some, None, option_map, option_and_then, Bool, true, false, if◌then◌else◌}
use Rattle.std.specs.Str.{bytes_eq}
use Rattle.std.proofs.lemmas.List.{map-append}
use Rattle.spec_core.specs.Code.{ExitValue, exit_given, exit_any, ActionField, give, accept, Relabelling, Synchronised}
use Rattle.spec_core.specs.Lists.{Each, IsOneOf}
use Rattle.spec_core.specs.Theories.{Theory}
use Rattle.spec_core.proofs.Lists.{each-map, each_append, each_implied}
use Rattle.spec_core.proofs.Members.{each_one, from_flat_map, from_map, one_map, one_parts}
use Rattle.rule_model.specs.declared.rules.Slot.{Slot}
use Rattle.rule_model.specs.Actions.{ends, at_gate, inside, pairs_of}
use Rattle.rule_model.specs.Behaviours.{Behaviour, stop, exit, inner, action, choice, guarded, bound, value_choice, gate_choice, parallel}
use Rattle.rule_model.specs.Behaviours.{hide, enable, disable, call, relabel}
use Rattle.rule_model.specs.Derivations.{Derivation, chl, chr, val, gate, parl, parr, both, hiding, pass, enstep, enend, disstep, disend}
use Rattle.rule_model.specs.Derivations.{distake}
use Rattle.symbolic_rules.specs.Windows.{Windows, sort_of_value}
use Rattle.symbolic_rules.specs.MarkedTerms.{MarkedTerm, plain, mark, MarkedAssignment, unmarked, with_marked}
use Rattle.symbolic_composites.specs.Evaluations.{Evaluation, value_in, premise_may_hold, chosen_term, with_bindings, with_arguments}
use Rattle.symbolic_composites.specs.Kinds.{is_alone, is_joint, is_hidden, is_end, same_kind}
use Rattle.symbolic_composites.specs.OpenFields.{OpenField, fixed, blank, open_by, open_fields, open_exit, together, all_together}
use Rattle.symbolic_composites.specs.OpenFields.{window_slots}
use Rattle.symbolic_composites.specs.Composites.{from_option}
use Rattle.symbolic_plans.specs.declared.scheme.Row.{Row}
use Rattle.symbolic_plans.specs.declared.scheme.Row.TheVariants.{Chl, Chr, Val, Gate, Guard, Let, Parl, Parr, Pass, Enstep, Disstep}
use Rattle.symbolic_plans.specs.declared.scheme.Row.TheVariants.{Disend, Distake, Call, Rel}
use Rattle.symbolic_plans.specs.Plans.{Plan, prefix, internal, termination, hidden, handed_on, put_row}
use Rattle.symbolic_plans.specs.OpenPlans.{OpenPlan, under_row, under_relabelling, turned_by, plans_alone, paired_plan, plans_joint}
use Rattle.symbolic_plans.specs.OpenPlans.{plan_by_hiding}
use Rattle.symbolic_plans.specs.OpenPlans.{plan_by_enabling, plan_by_disabling, plans_of_choice, plans_of_parallel, plans_of_disable}
use Rattle.symbolic_plans.specs.OpenPlans.{plans_of_gates}
use Rattle.symbolic_plans.specs.OwnPlans.{takes_value, takes_any, own_plans_in, own_plans_below, own_plans}
use Rattle.tree_laws.specs.Laws.{AllDiffer, WindowsDiffer}
use Rattle.tree_laws.proofs.Differing.{differ_append, differ_map}
use Rattle.tree_laws.proofs.Slots.{IsOpen, AllTaken, window_slots_differ}
use Rattle.tree_laws.proofs.Planning.{rules_of, Shows, Narrows, narrowed, row_same, hiding_same, pass_same, enstep_same, enend_same}
use Rattle.tree_laws.proofs.Planning.{disstep_same, disend_same, left_same, right_same}

-- the rules of the plan
abbrev pub key : OpenPlan → Derivation
key p = rules_of p.plan

-- no two plans have the same rules, and the trees of each show its open fields
pub record AreFine (ps : List OpenPlan) : Type 0 where
  pub differ : AllDiffer (map key ps)
  pub shows : Each (λ p. Shows p.plan p.fields) ps

none_fine : AreFine []
none_fine = record { differ = tt; shows = tt }

one_fine : (p : OpenPlan) → Shows p.plan p.fields → AreFine (p ∷ [])
one_fine p h = record { differ = (tt, tt); shows = (h, tt) }

both_fine : (ps qs : List OpenPlan) → AreFine ps → AreFine qs → ((d : Derivation) → IsOneOf d (map key ps) → IsOneOf d (map key qs) → ⊥) →
    AreFine (ps ++ qs)
both_fine ps qs h k apart = record {
  differ = subst AllDiffer (sym (map-append key ps qs)) (differ_append (map key ps) (map key qs) h.differ k.differ apart);
  shows = each_append (λ p. Shows p.plan p.fields) ps qs h.shows k.shows;
}

rest_fine : (p : OpenPlan) (ps : List OpenPlan) → AreFine (p ∷ ps) → AreFine ps
rest_fine p ps h = record { differ = h.differ.1; shows = h.shows.1 }

-- plans by one rule more each

images : (f : OpenPlan → OpenPlan) (ps : List OpenPlan) → ((p q : OpenPlan) → key (f p) ≡ key (f q) → key p ≡ key q) →
    AllDiffer (map key ps) → AllDiffer (map key (map f ps))
images f [] one h = tt
images f (p ∷ ps) one h = (others ps h.0, images f ps one h.1)
  where
    others : (qs : List OpenPlan) → Each (λ d. key p ≡ d → ⊥) (map key qs) → Each (λ d. key (f p) ≡ d → ⊥) (map key (map f qs))
    others [] n = tt
    others (q ∷ qs) n = ((λ e. n.0 (one p q e)), others qs n.1)

map_fine : (f : OpenPlan → OpenPlan) (ps : List OpenPlan) → ((p : OpenPlan) → Shows p.plan p.fields → Shows (f p).plan (f p).fields) →
    ((p q : OpenPlan) → key (f p) ≡ key (f q) → key p ≡ key q) → AreFine ps → AreFine (map f ps)
map_fine f ps shows one h = record {
  differ = images f ps one h.differ;
  shows = each-map (λ p. Shows p.plan p.fields) f ps
      (each_implied (λ p. Shows p.plan p.fields) (λ p. Shows (f p).plan (f p).fields) ps shows h.shows);
}

row_fine : (row : Row) (ps : List OpenPlan) → AreFine ps → AreFine (map (under_row row) ps)
row_fine row ps h = map_fine (under_row row) ps (λ p k. k) (λ p q e. row_same row (key p) (key q) e) h

relabelled_fine : (pairs : List Relabelling) (ps : List OpenPlan) → AreFine ps → AreFine (map (under_relabelling pairs) ps)
relabelled_fine pairs ps h = map_fine (under_relabelling pairs) ps (λ p k. k) (λ p q e. row_same Rel (key p) (key q) e) h

-- what is one of the keys is that of a plan
from_key : (f : OpenPlan → OpenPlan) (ps : List OpenPlan) (d : Derivation) → IsOneOf d (map key (map f ps)) →
    (p : OpenPlan) × (d ≡ key (f p))
from_key f ps d o =
    let k = from_map key (map f ps) d o in
    let l = from_map f ps k.0 k.1 in
    (l.0, k.2 ∙ ap key l.2)

when_fine : (b : Bool) (ps : List OpenPlan) → AreFine ps → AreFine (if b then ps else [])
when_fine true ps h = h
when_fine false ps h = none_fine

-- it holds of what is there
abbrev IfThere : {A : Type 0} → Option A → (A → Type 0) → Type 0
IfThere None P = Unit {0}
IfThere (Some a) P = P a

if_fine : {A : Type 0} (o : Option A) (f : A → List OpenPlan) → IfThere o (λ a. AreFine (f a)) → AreFine (from_option o f)
if_fine None f h = none_fine
if_fine (Some a) f h = h

if_all : {A : Type 0} (o : Option A) (P : A → Type 0) → ((a : A) → P a) → IfThere o P
if_all None P h = tt
if_all (Some a) P h = h a

if_implied : {A : Type 0} (o : Option A) (P Q : A → Type 0) → ((a : A) → P a → Q a) → IfThere o P → IfThere o Q
if_implied None P Q h k = tt
if_implied (Some a) P Q h k = h a k

told_closed : (k : MarkedTerm) → IsOpen (open_by k) → ⊥
told_closed (plain n) o = o
told_closed (mark sort) o = o

told_first : (takes : List Bool) (o : Option MarkedTerm) (r : Option (List OpenField)) → IfThere r (λ fs. AllTaken fs takes) →
    IfThere (option_and_then (λ k. option_map (λ fs. open_by k ∷ fs) r) o) (λ fs. AllTaken fs (false ∷ takes))
told_first takes None r h = tt
told_first takes (Some k) None h = tt
told_first takes (Some k) (Some fs) h = ((λ o. absurd (told_closed k o)), h)

taken_first : (takes : List Bool) (sort : ℕ) (r : Option (List OpenField)) → IfThere r (λ fs. AllTaken fs takes) →
    IfThere (option_map (λ fs. blank false sort ∷ fs) r) (λ fs. AllTaken fs (true ∷ takes))
taken_first takes sort None h = tt
taken_first takes sort (Some fs) h = ((λ o. refl), h)

-- alternatives by rules that differ

choice_apart : (ps qs : List OpenPlan) (d : Derivation) → IsOneOf d (map key (map (under_row Chl) ps)) →
    IsOneOf d (map key (map (under_row Chr) qs)) → ⊥
choice_apart ps qs d o k =
    let p = from_key (under_row Chl) ps d o in
    let q = from_key (under_row Chr) qs d k in
    differs (key p.0) (key q.0) (sym p.1 ∙ q.1)
  where
    differs : (a b : Derivation) → chl a ≡ chr b → ⊥
    differs a b e = cc

choice_fine : (ps qs : List OpenPlan) → AreFine ps → AreFine qs → AreFine (plans_of_choice ps qs)
choice_fine ps qs h k =
    both_fine (map (under_row Chl) ps) (map (under_row Chr) qs) (row_fine Chl ps h) (row_fine Chr qs k) (choice_apart ps qs)

-- a choice of a value, by its slots

val_first : (s t : Slot) (a b : Derivation) → val s a ≡ val t b → s ≡ t
val_first s t a b e = cc

values_fine : (f : Slot → List OpenPlan) (slots : List Slot) → AllDiffer slots → ((s : Slot) → AreFine (f s)) →
    ((s : Slot) (d : Derivation) → IsOneOf d (map key (f s)) → (a : Derivation) × (d ≡ val s a)) → AreFine (flat_map f slots)
values_fine f [] h each is = none_fine
values_fine f (s ∷ slots) h each is =
    both_fine (f s) (flat_map f slots) (each s) (values_fine f slots h.1 each is)
    (λ d o k.
    let p = from_map key (flat_map f slots) d k in
    let t = from_flat_map f slots p.0 p.1 in
    let a = is s d o in
    let b = is t.0 d (subst (λ z. IsOneOf z (map key (f t.0))) (sym p.2) (one_map key p.0 (f t.0) t.2)) in
    each_one (λ y. s ≡ y → ⊥) slots t.0 h.0 t.1 (val_first s t.0 a.0 b.0 (sym a.1 ∙ b.1)))

value_rules : {A : Type 0} (s : Slot) (o : Option A) (f : A → List OpenPlan) (d : Derivation) →
    IsOneOf d (map key (from_option o (λ k. map (under_row (Val s)) (f k)))) → (a : Derivation) × (d ≡ val s a)
value_rules s None f d o = absurd o
value_rules s (Some k) f d o = let p = from_key (under_row (Val s)) (f k) d o in (key p.0, p.1)

-- a choice of a gate, by places

gate_first : (n m : ℕ) (a b : Derivation) → gate n a ≡ gate m b → n ≡ m
gate_first n m a b e = cc

gate_rules : (g n : ℕ) (gates : List ℕ) (ps : List OpenPlan) (d : Derivation) → IsOneOf d (map key (plans_of_gates g n gates ps)) →
    (j : ℕ) × (n ≤ j) × ((a : Derivation) × (d ≡ gate j a))
gate_rules g n [] ps d o = absurd o
gate_rules g n (h ∷ gates) ps d o =
    let one = map (under_row (Gate n)) (map (under_relabelling (record { from = g; to = h } ∷ [])) ps) in
    elim (one_parts d (map key one) (map key (plans_of_gates g (suc n) gates ps))
    (subst (IsOneOf d) (map-append key one (plans_of_gates g (suc n) gates ps)) o)) [
      | inl k ↦ let p = from_key (under_row (Gate n)) (map (under_relabelling (record { from = g; to = h } ∷ [])) ps) d k in
          (n, omega arith, (key p.0, p.1))
      | inr k ↦ let r = gate_rules g (suc n) gates ps d k in (r.0, omega (arith, r.1), r.2)
    ]

gates_fine : (g n : ℕ) (gates : List ℕ) (ps : List OpenPlan) → AreFine ps → AreFine (plans_of_gates g n gates ps)
gates_fine g n [] ps h = none_fine
gates_fine g n (i ∷ gates) ps h =
    let pairs : List Relabelling = record { from = g; to = i } ∷ [] in
    both_fine (map (under_row (Gate n)) (map (under_relabelling pairs) ps)) (plans_of_gates g (suc n) gates ps)
    (row_fine (Gate n) (map (under_relabelling pairs) ps) (relabelled_fine pairs ps h)) (gates_fine g (suc n) gates ps h)
    (λ d o k.
    let p = from_key (under_row (Gate n)) (map (under_relabelling pairs) ps) d o in
    let r = gate_rules g (suc n) gates ps d k in
    let same : n ≡ r.0 = gate_first n r.0 (key p.0) r.2.0 (sym p.1 ∙ r.2.1) in
    absurd (omega (arith, same, r.1)))

-- a parallel composition

alone_rules : (gates : Synchronised) (row : Row) (ps : List OpenPlan) (d : Derivation) →
    IsOneOf d (map key (flat_map (plans_alone gates row) ps)) → (q : OpenPlan) × IsOneOf q ps × (d ≡ put_row row (key q))
alone_rules gates row ps d o =
    let k = from_map key (flat_map (plans_alone gates row) ps) d o in
    let q = from_flat_map (plans_alone gates row) ps k.0 k.1 in
    let e = is (is_alone gates q.0.kind) q.0 k.0 q.2 in
    (q.0, q.1, k.2 ∙ ap key e)
  where
    is : (b : Bool) (q p : OpenPlan) → IsOneOf p (if b then under_row row q ∷ [] else []) → p ≡ under_row row q
    is true q p (inl e) = e
    is true q p (inr o) = absurd o
    is false q p o = absurd o

alone_fine : (gates : Synchronised) (row : Row) (ps : List OpenPlan) → AreFine ps → AreFine (flat_map (plans_alone gates row) ps)
alone_fine gates row [] h = none_fine
alone_fine gates row (p ∷ ps) h = by_test (is_alone gates p.kind) (alone_fine gates row ps (rest_fine p ps h))
  where
    by_test : (b : Bool) → AreFine (flat_map (plans_alone gates row) ps) →
        AreFine ((if b then under_row row p ∷ [] else []) ++ flat_map (plans_alone gates row) ps)
    by_test true others =
        both_fine (under_row row p ∷ []) (flat_map (plans_alone gates row) ps) (one_fine (under_row row p) h.shows.0) others
        (λ d o k.
        let q = alone_rules gates row ps d k in
        let e : d ≡ put_row row (key p) = only d o in
        each_one (λ x. key p ≡ x → ⊥) (map key ps) (key q.0) h.differ.0 (one_map key q.0 ps q.1)
        (row_same row (key p) (key q.0) (sym e ∙ q.2)))
      where
        only : (d : Derivation) → IsOneOf d (map key (under_row row p ∷ [])) → d ≡ put_row row (key p)
        only d (inl e) = e
        only d (inr o) = absurd o
    by_test false others = others

parl_parr : (a b : Derivation) → parl a ≡ parr b → ⊥
parl_parr a b e = cc

parl_both : (a b c : Derivation) → parl a ≡ both b c → ⊥
parl_both a b c e = cc

parr_both : (a b c : Derivation) → parr a ≡ both b c → ⊥
parr_both a b c e = cc

-- a field of both is open only where it is open in each

left_open : (m n : Bool) (sort : ℕ) → IsOpen (blank (m || n) sort) → IsOpen (blank m sort)
left_open true n sort o = o
left_open false n sort o = tt

right_open : (m n : Bool) (sort other : ℕ) → IsOpen (blank (m || n) sort) → IsOpen (blank n other)
right_open true n sort other o = absurd o
right_open false true sort other o = o
right_open false false sort other o = tt

narrow_if : (b : Bool) (h f g : OpenField) → (IsOpen h → IsOpen f) → (IsOpen h → IsOpen g) →
    IfThere (if b then Some h else None) (λ x. (IsOpen x → IsOpen f) × (IsOpen x → IsOpen g))
narrow_if true h f g k l = (k, l)
narrow_if false h f g k l = tt

module _ (theory : Theory) where
  together_narrows : (f g : OpenField) → IfThere (together theory f g) (λ h. (IsOpen h → IsOpen f) × (IsOpen h → IsOpen g))
  together_narrows (fixed m v) (fixed n u) =
      narrow_if (bytes_eq v u) (fixed (m || n) v) (fixed m v) (fixed n u) (λ o. absurd o) (λ o. absurd o)
  together_narrows (fixed m v) (blank n sort) =
      narrow_if (sort_of_value theory v == sort) (fixed (m || n) v) (fixed m v) (blank n sort) (λ o. absurd o) (λ o. absurd o)
  together_narrows (blank m sort) (fixed n v) =
      narrow_if (sort_of_value theory v == sort) (fixed (m || n) v) (blank m sort) (fixed n v) (λ o. absurd o) (λ o. absurd o)
  together_narrows (blank m sort) (blank n other) =
      narrow_if (sort == other) (blank (m || n) sort) (blank m sort) (blank n other) (left_open m n sort) (right_open m n sort other)

  more_narrows : (f g : OpenField) (fs gs : List OpenField) (o : Option OpenField) (r : Option (List OpenField)) →
      IfThere o (λ h. (IsOpen h → IsOpen f) × (IsOpen h → IsOpen g)) → IfThere r (λ hs. Narrows hs fs × Narrows hs gs) →
      IfThere (option_and_then (λ h. option_map (λ hs. h ∷ hs) r) o) (λ hs. Narrows hs (f ∷ fs) × Narrows hs (g ∷ gs))
  more_narrows f g fs gs None r x y = tt
  more_narrows f g fs gs (Some h) None x y = tt
  more_narrows f g fs gs (Some h) (Some hs) x y = ((x.0, y.0), (x.1, y.1))

  all_narrow : (fs gs : List OpenField) → IfThere (all_together theory fs gs) (λ hs. Narrows hs fs × Narrows hs gs)
  all_narrow [] [] = (tt, tt)
  all_narrow [] (g ∷ gs) = tt
  all_narrow (f ∷ fs) [] = tt
  all_narrow (f ∷ fs) (g ∷ gs) =
      more_narrows f g fs gs (together theory f g) (all_together theory fs gs) (together_narrows f g) (all_narrow fs gs)

  module _ (gates : Synchronised) where
    joint_rules : (p q : OpenPlan) (d : Derivation) → IsOneOf d (map key (plans_joint theory gates p q)) → d ≡ both (key p) (key q)
    joint_rules p q d o = rules (same_kind p.kind q.kind && is_joint gates p.kind) (all_together theory p.fields q.fields) o
      where
        rules : (b : Bool) (r : Option (List OpenField)) →
            IsOneOf d (map key (if b then from_option r (λ fields. paired_plan p q fields ∷ []) else [])) → d ≡ both (key p) (key q)
        rules true None k = absurd k
        rules true (Some fields) (inl e) = e
        rules true (Some fields) (inr k) = absurd k
        rules false r k = absurd k

    joint_fine : (p q : OpenPlan) → Shows p.plan p.fields → Shows q.plan q.fields → AreFine (plans_joint theory gates p q)
    joint_fine p q h k =
        when_fine (same_kind p.kind q.kind && is_joint gates p.kind)
        (from_option (all_together theory p.fields q.fields) (λ fields. paired_plan p q fields ∷ []))
        (if_fine (all_together theory p.fields q.fields) (λ fields. paired_plan p q fields ∷ [])
        (if_implied (all_together theory p.fields q.fields) (λ hs. Narrows hs p.fields × Narrows hs q.fields)
        (λ fields. AreFine (paired_plan p q fields ∷ []))
        (λ hs n. one_fine (paired_plan p q hs) (narrowed p.plan hs p.fields n.0 h, narrowed q.plan hs q.fields n.1 k))
        (all_narrow p.fields q.fields)))

    joints_rules : (p : OpenPlan) (qs : List OpenPlan) (d : Derivation) → IsOneOf d (map key (flat_map (plans_joint theory gates p) qs)) →
        (q : OpenPlan) × IsOneOf q qs × (d ≡ both (key p) (key q))
    joints_rules p qs d o =
        let k = from_map key (flat_map (plans_joint theory gates p) qs) d o in
        let l = from_flat_map (plans_joint theory gates p) qs k.0 k.1 in
        (l.0, l.1, k.2 ∙ joint_rules p l.0 (key k.0) (one_map key k.0 (plans_joint theory gates p l.0) l.2))

    joints_fine : (p : OpenPlan) (qs : List OpenPlan) → Shows p.plan p.fields → AreFine qs →
        AreFine (flat_map (plans_joint theory gates p) qs)
    joints_fine p [] h k = none_fine
    joints_fine p (q ∷ qs) h k =
        both_fine (plans_joint theory gates p q) (flat_map (plans_joint theory gates p) qs) (joint_fine p q h k.shows.0)
        (joints_fine p qs h (rest_fine q qs k))
        (λ d o l.
        let r = joints_rules p qs d l in
        each_one (λ x. key q ≡ x → ⊥) (map key qs) (key r.0) k.differ.0 (one_map key r.0 qs r.1)
        (right_same (key p) (key q) (key p) (key r.0) (sym (joint_rules p q d o) ∙ r.2)))

    all_joints_rules : (ps qs : List OpenPlan) (d : Derivation) →
        IsOneOf d (map key (flat_map (λ p. flat_map (plans_joint theory gates p) qs) ps)) →
        (p : OpenPlan) × IsOneOf p ps × ((b : Derivation) × (d ≡ both (key p) b))
    all_joints_rules ps qs d o =
        let k = from_map key (flat_map (λ p. flat_map (plans_joint theory gates p) qs) ps) d o in
        let l = from_flat_map (λ p. flat_map (plans_joint theory gates p) qs) ps k.0 k.1 in
        let r = joints_rules l.0 qs (key k.0) (one_map key k.0 (flat_map (plans_joint theory gates l.0) qs) l.2) in
        (l.0, l.1, (key r.0, k.2 ∙ r.2))

    all_joints_fine : (ps qs : List OpenPlan) → AreFine ps → AreFine qs →
        AreFine (flat_map (λ p. flat_map (plans_joint theory gates p) qs) ps)
    all_joints_fine [] qs h k = none_fine
    all_joints_fine (p ∷ ps) qs h k =
        both_fine (flat_map (plans_joint theory gates p) qs) (flat_map (λ p. flat_map (plans_joint theory gates p) qs) ps)
        (joints_fine p qs h.shows.0 k) (all_joints_fine ps qs (rest_fine p ps h) k)
        (λ d o l.
        let a = joints_rules p qs d o in
        let b = all_joints_rules ps qs d l in
        each_one (λ x. key p ≡ x → ⊥) (map key ps) (key b.0) h.differ.0 (one_map key b.0 ps b.1)
        (left_same (key p) (key a.0) (key b.0) b.2.0 (sym a.2 ∙ b.2.1)))

    parallel_fine : (ps qs : List OpenPlan) → AreFine ps → AreFine qs → AreFine (plans_of_parallel theory gates ps qs)
    parallel_fine ps qs h k =
        let lefts = flat_map (plans_alone gates Parl) ps in
        let rights = flat_map (plans_alone gates Parr) qs in
        let joints = flat_map (λ p. flat_map (plans_joint theory gates p) qs) ps in
        both_fine lefts (rights ++ joints) (alone_fine gates Parl ps h)
        (both_fine rights joints (alone_fine gates Parr qs k) (all_joints_fine ps qs h k)
        (λ d o l.
        let a = alone_rules gates Parr qs d o in
        let b = all_joints_rules ps qs d l in
        parr_both (key a.0) (key b.0) b.2.0 (sym a.2 ∙ b.2.1)))
        (λ d o l.
        let a = alone_rules gates Parl ps d o in
        elim (one_parts d (map key rights) (map key joints) (subst (IsOneOf d) (map-append key rights joints) l)) [
          | inl r ↦ let b = alone_rules gates Parr qs d r in parl_parr (key a.0) (key b.0) (sym a.2 ∙ b.2)
          | inr r ↦ let b = all_joints_rules ps qs d r in parl_both (key a.0) (key b.0) b.2.0 (sym a.2 ∙ b.2.1)
        ])

-- hiding, enabling and disabling

abbrev ShowsIn : OpenPlan → Type 0
ShowsIn p = Shows p.plan p.fields

hiding_pass : (a b : Derivation) → hiding a ≡ pass b → ⊥
hiding_pass a b e = cc

hiding_shows : (b : Bool) (p : OpenPlan) → ShowsIn p → ShowsIn (if b then turned_by hidden p else under_row Pass p)
hiding_shows true p h = (tt, h)
hiding_shows false p h = h

hiding_one : (b c : Bool) (p q : OpenPlan) →
    key (if b then turned_by hidden p else under_row Pass p) ≡ key (if c then turned_by hidden q else under_row Pass q) → key p ≡ key q
hiding_one true true p q e = hiding_same (key p) (key q) e
hiding_one true false p q e = absurd (hiding_pass (key p) (key q) e)
hiding_one false true p q e = absurd (hiding_pass (key q) (key p) (sym e))
hiding_one false false p q e = pass_same (key p) (key q) e

hiding_fine : (gates : List ℕ) (ps : List OpenPlan) → AreFine ps → AreFine (map (plan_by_hiding gates) ps)
hiding_fine gates ps h =
    map_fine (plan_by_hiding gates) ps (λ p k. hiding_shows (is_hidden gates p.kind) p k)
    (λ p q e. hiding_one (is_hidden gates p.kind) (is_hidden gates q.kind) p q e) h

enend_enstep : (a b : Derivation) → enend a ≡ enstep b → ⊥
enend_enstep a b e = cc

enabling_shows : (b : Bool) (p : OpenPlan) → ShowsIn p → ShowsIn (if b then turned_by handed_on p else under_row Enstep p)
enabling_shows true p h = (tt, h)
enabling_shows false p h = h

enabling_one : (b c : Bool) (p q : OpenPlan) →
    key (if b then turned_by handed_on p else under_row Enstep p) ≡ key (if c then turned_by handed_on q else under_row Enstep q) →
    key p ≡ key q
enabling_one true true p q e = enend_same (key p) (key q) e
enabling_one true false p q e = absurd (enend_enstep (key p) (key q) e)
enabling_one false true p q e = absurd (enend_enstep (key q) (key p) (sym e))
enabling_one false false p q e = enstep_same (key p) (key q) e

enabling_fine : (ps : List OpenPlan) → AreFine ps → AreFine (map plan_by_enabling ps)
enabling_fine ps h =
    map_fine plan_by_enabling ps (λ p k. enabling_shows (is_end p.kind) p k)
    (λ p q e. enabling_one (is_end p.kind) (is_end q.kind) p q e) h

disend_disstep : (a b : Derivation) → disend a ≡ disstep b → ⊥
disend_disstep a b e = cc

disend_distake : (a b : Derivation) → disend a ≡ distake b → ⊥
disend_distake a b e = cc

disstep_distake : (a b : Derivation) → disstep a ≡ distake b → ⊥
disstep_distake a b e = cc

disabling_shows : (b : Bool) (p : OpenPlan) → ShowsIn p → ShowsIn (if b then under_row Disend p else under_row Disstep p)
disabling_shows true p h = h
disabling_shows false p h = h

disabling_one : (b c : Bool) (p q : OpenPlan) →
    key (if b then under_row Disend p else under_row Disstep p) ≡ key (if c then under_row Disend q else under_row Disstep q) →
    key p ≡ key q
disabling_one true true p q e = disend_same (key p) (key q) e
disabling_one true false p q e = absurd (disend_disstep (key p) (key q) e)
disabling_one false true p q e = absurd (disend_disstep (key q) (key p) (sym e))
disabling_one false false p q e = disstep_same (key p) (key q) e

disabling_apart : (b : Bool) (p : OpenPlan) (a : Derivation) → key (if b then under_row Disend p else under_row Disstep p) ≡ distake a → ⊥
disabling_apart true p a e = disend_distake (key p) a e
disabling_apart false p a e = disstep_distake (key p) a e

disabling_fine : (ps qs : List OpenPlan) → AreFine ps → AreFine qs → AreFine (plans_of_disable ps qs)
disabling_fine ps qs h k =
    both_fine (map plan_by_disabling ps) (map (under_row Distake) qs)
    (map_fine plan_by_disabling ps (λ p l. disabling_shows (is_end p.kind) p l)
    (λ p q e. disabling_one (is_end p.kind) (is_end q.kind) p q e) h)
    (row_fine Distake qs k)
    (λ d o l.
    let a = from_key plan_by_disabling ps d o in
    let b = from_key (under_row Distake) qs d l in
    disabling_apart (is_end a.0.kind) a.0 (key b.0) (sym a.1 ∙ b.1))

-- the plans of a behaviour

abbrev exit_plan : List ExitValue → List OpenField → OpenPlan
exit_plan fields fs = record { kind = ends; fields = fs; plan = termination (map takes_any fields) }

abbrev action_plan : ℕ → List ActionField → List OpenField → OpenPlan
action_plan g fields fs = record { kind = at_gate g; fields = fs; plan = prefix (map takes_value fields) }

abbrev inner_plan : OpenPlan
inner_plan = record { kind = inside; fields = []; plan = internal }

module _ (theory : Theory) (e : Evaluation) (w : Windows) (windows : WindowsDiffer w) where
  fields_taken : (m : MarkedAssignment) (fields : List ActionField) →
      IfThere (open_fields theory e m fields) (λ fs. AllTaken fs (map takes_value fields))
  fields_taken m [] = tt
  fields_taken m (give t ∷ fields) =
      told_first (map takes_value fields) (value_in theory e m t) (open_fields theory e m fields) (fields_taken m fields)
  fields_taken m (accept x ∷ fields) =
      taken_first (map takes_value fields) x.sort (open_fields theory e m fields) (fields_taken m fields)

  exit_taken : (m : MarkedAssignment) (fields : List ExitValue) →
      IfThere (open_exit theory e m fields) (λ fs. AllTaken fs (map takes_any fields))
  exit_taken m [] = tt
  exit_taken m (exit_given t ∷ fields) =
      told_first (map takes_any fields) (value_in theory e m t) (open_exit theory e m fields) (exit_taken m fields)
  exit_taken m (exit_any sort ∷ fields) = taken_first (map takes_any fields) sort (open_exit theory e m fields) (exit_taken m fields)

  module _ (called : MarkedAssignment → Behaviour → List OpenPlan)
      (below : (m : MarkedAssignment) (b : Behaviour) → AreFine (called m b)) where
    abbrev own : MarkedAssignment → Behaviour → List OpenPlan
    own m b = own_plans_in theory e w called m b

    own_fine : (m : MarkedAssignment) (b : Behaviour) → AreFine (own_plans_in theory e w called m b)
    own_fine m stop = none_fine
    own_fine m (exit fields) =
        if_fine (open_exit theory e m fields) (λ fs. exit_plan fields fs ∷ [])
        (if_implied (open_exit theory e m fields) (λ fs. AllTaken fs (map takes_any fields)) (λ fs. AreFine (exit_plan fields fs ∷ []))
        (λ fs h. one_fine (exit_plan fields fs) h) (exit_taken m fields))
    own_fine m (inner rest) = one_fine inner_plan tt
    own_fine m (action g fields p rest) =
        if_fine (open_fields theory e m fields) (λ fs. action_plan g fields fs ∷ [])
        (if_implied (open_fields theory e m fields) (λ fs. AllTaken fs (map takes_value fields))
        (λ fs. AreFine (action_plan g fields fs ∷ []))
        (λ fs h. one_fine (action_plan g fields fs) h) (fields_taken m fields))
    own_fine m (choice left right) = choice_fine (own m left) (own m right) (own_fine m left) (own_fine m right)
    own_fine m (guarded p body) =
        when_fine (premise_may_hold theory e m p) (map (under_row Guard) (own m body)) (row_fine Guard (own m body) (own_fine m body))
    own_fine m (bound bindings body) =
        if_fine (with_bindings theory e m m bindings) (λ l. map (under_row Let) (own l body))
        (if_all (with_bindings theory e m m bindings) (λ l. AreFine (map (under_row Let) (own l body)))
        (λ l. row_fine Let (own l body) (own_fine l body)))
    own_fine m (value_choice x body) =
        values_fine
        (λ slot. from_option (chosen_term theory e w slot x.sort) (λ k. map (under_row (Val slot)) (own (with_marked x k m) body)))
        (window_slots w x.sort) (window_slots_differ theory w windows x.sort)
        (λ slot. if_fine (chosen_term theory e w slot x.sort) (λ k. map (under_row (Val slot)) (own (with_marked x k m) body))
        (if_all (chosen_term theory e w slot x.sort) (λ k. AreFine (map (under_row (Val slot)) (own (with_marked x k m) body)))
        (λ k. row_fine (Val slot) (own (with_marked x k m) body) (own_fine (with_marked x k m) body))))
        (λ slot d o. value_rules slot (chosen_term theory e w slot x.sort) (λ k. own (with_marked x k m) body) d o)
    own_fine m (gate_choice g gates body) = gates_fine g 1 gates (own m body) (own_fine m body)
    own_fine m (parallel gates left right) =
        parallel_fine theory gates (own m left) (own m right) (own_fine m left) (own_fine m right)
    own_fine m (hide gates body) = hiding_fine gates (own m body) (own_fine m body)
    own_fine m (enable left xs right) = enabling_fine (own m left) (own_fine m left)
    own_fine m (disable left right) = disabling_fine (own m left) (own m right) (own_fine m left) (own_fine m right)
    own_fine m (call p actual terms) =
        if_fine (e.definition p) (λ d. from_option (with_arguments theory e m unmarked d.variables terms)
        (λ l. map (under_row Call) (map (under_relabelling (pairs_of d.gates actual)) (called l d.body))))
        (if_all (e.definition p) (λ d. AreFine (from_option (with_arguments theory e m unmarked d.variables terms)
        (λ l. map (under_row Call) (map (under_relabelling (pairs_of d.gates actual)) (called l d.body)))))
        (λ d. if_fine (with_arguments theory e m unmarked d.variables terms)
        (λ l. map (under_row Call) (map (under_relabelling (pairs_of d.gates actual)) (called l d.body)))
        (if_all (with_arguments theory e m unmarked d.variables terms)
        (λ l. AreFine (map (under_row Call) (map (under_relabelling (pairs_of d.gates actual)) (called l d.body))))
        (λ l. row_fine Call (map (under_relabelling (pairs_of d.gates actual)) (called l d.body))
        (relabelled_fine (pairs_of d.gates actual) (called l d.body) (below l d.body))))))
    own_fine m (relabel pairs body) = relabelled_fine pairs (own m body) (own_fine m body)

  below_fine : (n : ℕ) (m : MarkedAssignment) (b : Behaviour) → AreFine (own_plans_below theory e w n m b)
  below_fine zero m b = none_fine
  below_fine (suc n) m b = own_fine (own_plans_below theory e w n) (below_fine n) m b

  pub all_fine : (n : ℕ) (m : MarkedAssignment) (b : Behaviour) → AreFine (own_plans theory e w n m b)
  all_fine n m b = own_fine (own_plans_below theory e w n) (below_fine n) m b
