-- The trees of a plan: none stands twice, and all have its rules.
use Rattle.std.proofs.Common.{ℕ, ◌≡◌, ◌∙◌, inl, inr, refl, sym, ap, subst, List, [], ◌∷◌, map, flat_map, Option, Bool, true, false}
use Rattle.std.proofs.Common.{if◌then◌else◌}
use Rattle.spec_core.specs.Lists.{Each, IsOneOf}
use Rattle.spec_core.specs.Theories.{Theory}
use Rattle.spec_core.proofs.Members.{from_flat_map, from_map}
use Rattle.rule_model.specs.declared.rules.Slot.{Slot}
use Rattle.rule_model.specs.Derivations.{Derivation, pre, int, exiting, chl, chr, val, gate, guard, letting, parl, parr, both, hiding, pass}
use Rattle.rule_model.specs.Derivations.{enstep, enend, disstep, disend, distake, calling, rel}
use Rattle.symbolic_rules.specs.Windows.{Windows}
use Rattle.symbolic_composites.specs.OpenFields.{OpenField, all_choices, any_marked, choices_at_once, one_each}
use Rattle.symbolic_plans.specs.declared.scheme.Row.{Row}
use Rattle.symbolic_plans.specs.declared.scheme.Row.TheVariants.{Chl, Chr, Val, Gate, Guard, Let, Parl, Parr, Pass, Enstep, Disstep}
use Rattle.symbolic_plans.specs.declared.scheme.Row.TheVariants.{Disend, Distake, Call, Rel}
use Rattle.symbolic_plans.specs.Plans.{Plan, prefix, internal, termination, below, hidden, handed_on, together, put_row, taken_slots}
use Rattle.symbolic_plans.specs.Plans.{trees_of}
use Rattle.tree_laws.specs.Laws.{AllDiffer, WindowsDiffer}
use Rattle.tree_laws.proofs.Differing.{differ_flat, differ_map, one_of_single}
use Rattle.tree_laws.proofs.Slots.{IsSingle, IsOpen, AllTaken, NoneOpen, AgreeOpen, none_agree, taken_agree, taken_differ, each_single}
use Rattle.tree_laws.proofs.Slots.{one_each_differ, agree_same, all_choices_differ}

-- the rules of a tree, without the values that its prefixes and exits choose
abbrev pub bare : Derivation → Derivation
bare (pre slots) = pre []
bare int = int
bare (exiting slots) = exiting []
bare (chl d) = chl (bare d)
bare (chr d) = chr (bare d)
bare (val slot d) = val slot (bare d)
bare (gate j d) = gate j (bare d)
bare (guard d) = guard (bare d)
bare (letting d) = letting (bare d)
bare (parl d) = parl (bare d)
bare (parr d) = parr (bare d)
bare (both d f) = both (bare d) (bare f)
bare (hiding d) = hiding (bare d)
bare (pass d) = pass (bare d)
bare (enstep d) = enstep (bare d)
bare (enend d) = enend (bare d)
bare (disstep d) = disstep (bare d)
bare (disend d) = disend (bare d)
bare (distake d) = distake (bare d)
bare (calling d) = calling (bare d)
bare (rel d) = rel (bare d)

-- those of a plan
abbrev pub rules_of : Plan → Derivation
rules_of (prefix takes) = pre []
rules_of internal = int
rules_of (termination takes) = exiting []
rules_of (below row p) = put_row row (rules_of p)
rules_of (hidden fields p) = hiding (rules_of p)
rules_of (handed_on fields p) = enend (rules_of p)
rules_of (together p q) = both (rules_of p) (rules_of q)

bare_row : (row : Row) (d : Derivation) → bare (put_row row d) ≡ put_row row (bare d)
bare_row Chl d = refl
bare_row Chr d = refl
bare_row (Val slot) d = refl
bare_row (Gate place) d = refl
bare_row Guard d = refl
bare_row Let d = refl
bare_row Parl d = refl
bare_row Parr d = refl
bare_row Pass d = refl
bare_row Enstep d = refl
bare_row Disstep d = refl
bare_row Disend d = refl
bare_row Distake d = refl
bare_row Call d = refl
bare_row Rel d = refl

-- Each rule keeps trees apart.

chl_same : (a b : Derivation) → chl a ≡ chl b → a ≡ b
chl_same a b e = cc

chr_same : (a b : Derivation) → chr a ≡ chr b → a ≡ b
chr_same a b e = cc

val_same : (s : Slot) (a b : Derivation) → val s a ≡ val s b → a ≡ b
val_same s a b e = cc

gate_same : (n : ℕ) (a b : Derivation) → gate n a ≡ gate n b → a ≡ b
gate_same n a b e = cc

guard_same : (a b : Derivation) → guard a ≡ guard b → a ≡ b
guard_same a b e = cc

letting_same : (a b : Derivation) → letting a ≡ letting b → a ≡ b
letting_same a b e = cc

parl_same : (a b : Derivation) → parl a ≡ parl b → a ≡ b
parl_same a b e = cc

parr_same : (a b : Derivation) → parr a ≡ parr b → a ≡ b
parr_same a b e = cc

pub hiding_same : (a b : Derivation) → hiding a ≡ hiding b → a ≡ b
hiding_same a b e = cc

pub pass_same : (a b : Derivation) → pass a ≡ pass b → a ≡ b
pass_same a b e = cc

pub enstep_same : (a b : Derivation) → enstep a ≡ enstep b → a ≡ b
enstep_same a b e = cc

pub enend_same : (a b : Derivation) → enend a ≡ enend b → a ≡ b
enend_same a b e = cc

pub disstep_same : (a b : Derivation) → disstep a ≡ disstep b → a ≡ b
disstep_same a b e = cc

pub disend_same : (a b : Derivation) → disend a ≡ disend b → a ≡ b
disend_same a b e = cc

distake_same : (a b : Derivation) → distake a ≡ distake b → a ≡ b
distake_same a b e = cc

calling_same : (a b : Derivation) → calling a ≡ calling b → a ≡ b
calling_same a b e = cc

rel_same : (a b : Derivation) → rel a ≡ rel b → a ≡ b
rel_same a b e = cc

pub left_same : (a b c d : Derivation) → both a b ≡ both c d → a ≡ c
left_same a b c d e = cc

pub right_same : (a b c d : Derivation) → both a b ≡ both c d → b ≡ d
right_same a b c d e = cc

pub row_same : (row : Row) (a b : Derivation) → put_row row a ≡ put_row row b → a ≡ b
row_same Chl a b e = chl_same a b e
row_same Chr a b e = chr_same a b e
row_same (Val slot) a b e = val_same slot a b e
row_same (Gate place) a b e = gate_same place a b e
row_same Guard a b e = guard_same a b e
row_same Let a b e = letting_same a b e
row_same Parl a b e = parl_same a b e
row_same Parr a b e = parr_same a b e
row_same Pass a b e = pass_same a b e
row_same Enstep a b e = enstep_same a b e
row_same Disstep a b e = disstep_same a b e
row_same Disend a b e = disend_same a b e
row_same Distake a b e = distake_same a b e
row_same Call a b e = calling_same a b e
row_same Rel a b e = rel_same a b e

pre_same : (a b : List Slot) → pre a ≡ pre b → a ≡ b
pre_same a b e = cc

exiting_same : (a b : List Slot) → exiting a ≡ exiting b → a ≡ b
exiting_same a b e = cc

-- the trees of the plan show what its open fields have
abbrev pub Shows : Plan → List OpenField → Type 0
Shows (prefix takes) fields = AllTaken fields takes
Shows internal fields = NoneOpen fields
Shows (termination takes) fields = AllTaken fields takes
Shows (below row p) fields = Shows p fields
Shows (hidden inner p) fields = NoneOpen fields × Shows p inner
Shows (handed_on inner p) fields = NoneOpen fields × Shows p inner
Shows (together p q) fields = Shows p fields × Shows q fields

-- fewer fields are open
abbrev pub Narrows : List OpenField → List OpenField → Type 0
Narrows [] [] = Unit {0}
Narrows [] (g ∷ gs) = ⊥
Narrows (f ∷ fs) [] = ⊥
Narrows (f ∷ fs) (g ∷ gs) = (IsOpen f → IsOpen g) × Narrows fs gs

narrowed_taken : (fs gs : List OpenField) (takes : List Bool) → Narrows fs gs → AllTaken gs takes → AllTaken fs takes
narrowed_taken [] [] takes n h = h
narrowed_taken [] (g ∷ gs) takes n h = absurd n
narrowed_taken (f ∷ fs) [] takes n h = absurd n
narrowed_taken (f ∷ fs) (g ∷ gs) [] n h = absurd h
narrowed_taken (f ∷ fs) (g ∷ gs) (t ∷ takes) n h = ((λ o. h.0 (n.0 o)), narrowed_taken fs gs takes n.1 h.1)

narrowed_none : (fs gs : List OpenField) → Narrows fs gs → NoneOpen gs → NoneOpen fs
narrowed_none [] gs n h = tt
narrowed_none (f ∷ fs) [] n h = absurd n
narrowed_none (f ∷ fs) (g ∷ gs) n h = ((λ o. h.0 (n.0 o)), narrowed_none fs gs n.1 h.1)

pub narrowed : (p : Plan) (fs gs : List OpenField) → Narrows fs gs → Shows p gs → Shows p fs
narrowed (prefix takes) fs gs n h = narrowed_taken fs gs takes n h
narrowed internal fs gs n h = narrowed_none fs gs n h
narrowed (termination takes) fs gs n h = narrowed_taken fs gs takes n h
narrowed (below row p) fs gs n h = narrowed p fs gs n h
narrowed (hidden inner p) fs gs n h = (narrowed_none fs gs n h.0, h.1)
narrowed (handed_on inner p) fs gs n h = (narrowed_none fs gs n h.0, h.1)
narrowed (together p q) fs gs n h = (narrowed p fs gs n h.0, narrowed q fs gs n h.1)

single_differ : (c : List (List Slot)) → Each IsSingle c → Each AllDiffer c
single_differ [] x = tt
single_differ (slots ∷ c) x = (subst AllDiffer (sym x.0.1) (tt, tt), single_differ c x.1)

module _ (theory : Theory) (w : Windows) where
  abbrev pub trees_at : Plan → List (List Slot) → List Derivation
  trees_at p slots = trees_of theory w p slots

  -- the trees with each value that the fields may have, with what an offer gives
  abbrev pub with_fields : Plan → List (Option (List ℕ)) → List OpenField → List Derivation
  with_fields p offered fields = flat_map (λ choices. trees_at p choices) (choices_at_once fields (all_choices theory w offered fields))

  pub has_rules : (p : Plan) (slots : List (List Slot)) (d : Derivation) → IsOneOf d (trees_of theory w p slots) → bare d ≡ rules_of p
  has_rules (prefix takes) slots d o = let k = from_map pre (taken_slots takes slots) d o in ap bare k.2
  has_rules internal slots d (inl e) = ap bare e
  has_rules internal slots d (inr o) = absurd o
  has_rules (termination takes) slots d o = let k = from_map exiting (taken_slots takes slots) d o in ap bare k.2
  has_rules (below row p) slots d o =
      let k = from_map (put_row row) (trees_at p slots) d o in
      ap bare k.2 ∙ bare_row row k.0 ∙ ap (put_row row) (has_rules p slots k.0 k.1)
  has_rules (hidden fields p) slots d o =
      let k = from_map hiding (with_fields p [] fields) d o in
      let l = from_flat_map (λ choices. trees_at p choices) (choices_at_once fields (all_choices theory w [] fields)) k.0 k.1 in
      ap bare k.2 ∙ ap hiding (has_rules p l.0 k.0 l.2)
  has_rules (handed_on fields p) slots d o =
      let k = from_map enend (with_fields p [] fields) d o in
      let l = from_flat_map (λ choices. trees_at p choices) (choices_at_once fields (all_choices theory w [] fields)) k.0 k.1 in
      ap bare k.2 ∙ ap enend (has_rules p l.0 k.0 l.2)
  has_rules (together p q) slots d o =
      let k = from_flat_map (λ left. map (both left) (trees_at q slots)) (trees_at p slots) d o in
      let l = from_map (both k.0) (trees_at q slots) d k.2 in
      ap bare l.2 ∙ ap (λ x. both x (bare l.0)) (has_rules p slots k.0 k.1) ∙ ap (both (rules_of p)) (has_rules q slots l.0 l.1)

  -- a tree shows the choices
  pub agree : (p : Plan) (fs : List OpenField) (cs ds : List (List Slot)) (d : Derivation) → Shows p fs → Each IsSingle cs →
      Each IsSingle ds → IsOneOf d (trees_of theory w p cs) → IsOneOf d (trees_of theory w p ds) → AgreeOpen fs cs ds
  agree (prefix takes) fs cs ds d h x y o p =
      let k = from_map pre (taken_slots takes cs) d o in
      let l = from_map pre (taken_slots takes ds) d p in
      taken_agree fs takes cs ds k.0 h x y k.1
      (subst (λ z. IsOneOf z (taken_slots takes ds)) (sym (pre_same k.0 l.0 (sym k.2 ∙ l.2))) l.1)
  agree internal fs cs ds d h x y o p = none_agree fs cs ds h
  agree (termination takes) fs cs ds d h x y o p =
      let k = from_map exiting (taken_slots takes cs) d o in
      let l = from_map exiting (taken_slots takes ds) d p in
      taken_agree fs takes cs ds k.0 h x y k.1
      (subst (λ z. IsOneOf z (taken_slots takes ds)) (sym (exiting_same k.0 l.0 (sym k.2 ∙ l.2))) l.1)
  agree (below row q) fs cs ds d h x y o p =
      let k = from_map (put_row row) (trees_at q cs) d o in
      let l = from_map (put_row row) (trees_at q ds) d p in
      agree q fs cs ds k.0 h x y k.1 (subst (λ z. IsOneOf z (trees_at q ds)) (sym (row_same row k.0 l.0 (sym k.2 ∙ l.2))) l.1)
  agree (hidden inner q) fs cs ds d h x y o p = none_agree fs cs ds h.0
  agree (handed_on inner q) fs cs ds d h x y o p = none_agree fs cs ds h.0
  agree (together q r) fs cs ds d h x y o p =
      let k = from_flat_map (λ left. map (both left) (trees_at r cs)) (trees_at q cs) d o in
      let m = from_map (both k.0) (trees_at r cs) d k.2 in
      let l = from_flat_map (λ left. map (both left) (trees_at r ds)) (trees_at q ds) d p in
      let n = from_map (both l.0) (trees_at r ds) d l.2 in
      agree q fs cs ds k.0 h.0 x y k.1
      (subst (λ z. IsOneOf z (trees_at q ds)) (sym (left_same k.0 m.0 l.0 n.0 (sym m.2 ∙ n.2))) l.1)

  module _ (windows : WindowsDiffer w) where
    -- with each value that the fields may have, where the trees with some values differ
    spread : (p : Plan) (offered : List (Option (List ℕ))) (fs : List OpenField) → Shows p fs →
        ((cs : List (List Slot)) → Each AllDiffer cs → AllDiffer (trees_of theory w p cs)) → AllDiffer (with_fields p offered fs)
    spread p offered fs h trees = by_marks (any_marked fs) refl
      where
        by_marks : (b : Bool) → any_marked fs ≡ b → AllDiffer (flat_map (λ choices. trees_at p choices)
            (if b then all_choices theory w offered fs ∷ [] else one_each (all_choices theory w offered fs)))
        by_marks true e =
            differ_flat (λ choices. trees_at p choices) (all_choices theory w offered fs ∷ []) (tt, tt)
            (λ c o. trees c (subst (Each AllDiffer) (sym (one_of_single c (all_choices theory w offered fs) o))
            (all_choices_differ theory w windows offered fs)))
            (λ c d x o k l m.
            one_of_single c (all_choices theory w offered fs) o ∙ sym (one_of_single d (all_choices theory w offered fs) k))
        by_marks false e =
            differ_flat (λ choices. trees_at p choices) (one_each (all_choices theory w offered fs))
            (one_each_differ (all_choices theory w offered fs) (all_choices_differ theory w windows offered fs))
            (λ c o. trees c (single_differ c (each_single (all_choices theory w offered fs) c o)))
            (λ c d x o k l m. agree_same theory w offered fs c d e o k
            (agree p fs c d x h (each_single (all_choices theory w offered fs) c o) (each_single (all_choices theory w offered fs) d k) l m))

    pub trees_differ : (p : Plan) (fs : List OpenField) (cs : List (List Slot)) → Shows p fs → Each AllDiffer cs →
        AllDiffer (trees_of theory w p cs)
    trees_differ (prefix takes) fs cs h k = differ_map pre (taken_slots takes cs) pre_same (taken_differ takes cs k)
    trees_differ internal fs cs h k = (tt, tt)
    trees_differ (termination takes) fs cs h k = differ_map exiting (taken_slots takes cs) exiting_same (taken_differ takes cs k)
    trees_differ (below row p) fs cs h k = differ_map (put_row row) (trees_at p cs) (row_same row) (trees_differ p fs cs h k)
    trees_differ (hidden inner p) fs cs h k =
        differ_map hiding (with_fields p [] inner) hiding_same (spread p [] inner h.1 (λ ds x. trees_differ p inner ds h.1 x))
    trees_differ (handed_on inner p) fs cs h k =
        differ_map enend (with_fields p [] inner) enend_same (spread p [] inner h.1 (λ ds x. trees_differ p inner ds h.1 x))
    trees_differ (together p q) fs cs h k =
        differ_flat (λ left. map (both left) (trees_at q cs)) (trees_at p cs) (trees_differ p fs cs h.0 k)
        (λ a o. differ_map (both a) (trees_at q cs) (λ x y e. right_same a x a y e) (trees_differ q fs cs h.1 k))
        (λ a b d o r l m.
        let x = from_map (both a) (trees_at q cs) d l in
        let y = from_map (both b) (trees_at q cs) d m in
        left_same a x.0 b y.0 (sym x.2 ∙ y.2))

    -- the trees with each value that the fields may have
    pub field_trees_differ : (p : Plan) (offered : List (Option (List ℕ))) (fs : List OpenField) → Shows p fs →
        AllDiffer (with_fields p offered fs)
    field_trees_differ p offered fs h = spread p offered fs h (λ cs k. trees_differ p fs cs h k)
