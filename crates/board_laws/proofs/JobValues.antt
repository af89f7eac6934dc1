-- Trees for which a query may ask choose values: those of windows, those that expressions tell, and those that the offer gives.
use Rattle.std.proofs.Common.{ℕ, zero, suc, ◌≡◌, ◌==◌, ◌++◌, ◌||◌, ◌&&◌, inl, not, List, [], ◌∷◌, map, filter, flat_map, refl}
use Rattle.std.proofs.Common.{sym, subst, Option, Some, None, option_map, Bool, true, false, if◌then◌else◌, length}
use Rattle.std.specs.Prelude.{IfSome}
use Rattle.std.specs.Str.{bytes_eq}
use Rattle.spec_core.specs.Code.{Program, Relabelling, Synchronised, ActionField, give, accept, ExitValue, exit_given, exit_any}
use Rattle.spec_core.specs.Lists.{Each, IsOneOf}
use Rattle.spec_core.specs.Theories.{Theory}
use Rattle.spec_core.proofs.Lists.{each_append, each_filter, each_flat_map, each_image, each_left, each_right}
use Rattle.spec_core.proofs.Members.{each_one}
use Rattle.spec_core.proofs.Options.{map_some, then_some}
use Rattle.rule_model.specs.declared.offer.Field.{Field}
use Rattle.rule_model.specs.declared.offer.Field.TheVariants.{Give, Take}
use Rattle.rule_model.specs.declared.rules.Slot.{Slot}
use Rattle.rule_model.specs.declared.rules.Slot.TheVariants.{Of}
use Rattle.rule_model.specs.Actions.{ends, at_gate, pairs_of}
use Rattle.rule_model.specs.Behaviours.{Behaviour, stop, exit, inner, action, choice, guarded, bound, value_choice, gate_choice, parallel}
use Rattle.rule_model.specs.Behaviours.{hide, enable, disable, call, relabel}
use Rattle.rule_model.specs.Derivations.{Derivation, pre, exiting, chl, chr, val, gate, guard, letting, parl, parr, both, hiding, pass}
use Rattle.rule_model.specs.Derivations.{enstep, enend, disstep, disend, distake, calling, rel}
use Rattle.rule_model.specs.States.{PendingOffer}
use Rattle.symbolic_rules.specs.Windows.{Windows, sort_of_value}
use Rattle.symbolic_rules.specs.MarkedTerms.{MarkedTerm, plain, mark, MarkedAssignment, unmarked, with_marked, marked_instance}
use Rattle.symbolic_composites.specs.Evaluations.{Evaluation, IsExact, premise_may_hold, chosen_term, value_in, marked_value, with_bindings}
use Rattle.symbolic_composites.specs.Evaluations.{with_arguments}
use Rattle.symbolic_composites.specs.Kinds.{is_alone, is_joint, is_hidden, is_end, same_kind}
use Rattle.symbolic_composites.specs.OpenFields as fields_of
use Rattle.symbolic_composites.specs.OpenFields.{OpenField, fixed, blank, open_by, together, all_together, open_fields, open_exit}
use Rattle.symbolic_composites.specs.OpenFields.{exit_slots_of, mark_unless, is_listed, unless_listed, window_slots, choices}
use Rattle.symbolic_composites.specs.OpenFields.{all_choices, given_in, any_marked}
use Rattle.symbolic_composites.specs.OpenFields.{one_each, choices_at_once}
use Rattle.symbolic_composites.specs.Composites.{Composite, filled, from_option, under, relabelled, turned, alone, paired, joint, by_hiding}
use Rattle.symbolic_composites.specs.Composites.{by_enabling, by_disabling, of_relabel, of_gates, composites_in, below_calls, composites}
use Rattle.decision_trees.specs.Rules.{meeting, any, unseen, beyond, any_beyond, beyond_or_unseen, Waiting}
use Rattle.candidate_laws.specs.Asked.{TreeQuery, offer_in}
use Rattle.candidate_laws.specs.TreeLaws.{IsSoundWaiting}
use Rattle.candidate_laws.specs.Waiting.{may_be_asked, trees_asked}
use Rattle.node_trees.specs.Rests.{slots_of}
use Rattle.node_trees.specs.Shapes.{stands_for}
use Rattle.node_verdict.specs.Choosing.{ChoosesValue, ChoosesValues}
use Rattle.candidates.specs.Jobs.{to_expand, to_judge}
use Rattle.board_laws.specs.JobValues.{FieldGivesValue, GivesValues, HoldValues, ListedTreesChooseValues, NeededJobsChooseValues}
use Rattle.board_laws.specs.Needed.{IsOfRules}
use Rattle.board_laws.specs.Participants as acting
use Rattle.board_laws.specs.Participants.{ActsIn, itself}
use Rattle.board_laws.proofs.Living.{needed_parts_are_of_trees}
use Rattle.board_laws.proofs.Plans.{listed_of_composite}
use Rattle.board_laws.proofs.StoppingParts.{missing_are_by_nodes}

-- the list that comes of an option, and one under a test

from_some : {A B : Type 0} (P : B → Type 0) (o : Option A) (f : A → List B) → ((a : A) → o ≡ Some a → Each P (f a)) →
    Each P (from_option o f)
from_some P None f h = tt
from_some P (Some a) f h = h a refl

where_true : {B : Type 0} (P : B → Type 0) (b : Bool) (xs : List B) → Each P xs → Each P (if b then xs else [])
where_true P true xs h = h
where_true P false xs h = tt

module _ (theory : Theory) where
  abbrev Chosen : Slot → Type 0
  Chosen = ChoosesValue theory

  abbrev Values : List Slot → Type 0
  Values = Each Chosen

  -- of each field
  abbrev Choices : List (List Slot) → Type 0
  Choices = Each Values

  abbrev Trees : Derivation → Type 0
  Trees = ChoosesValues theory

  -- what an open field tells is a value
  abbrev Tells : OpenField → Type 0
  Tells (fixed m v) = ChoosesValue theory (Of v)
  Tells (blank m sort) = Unit {0}

  -- so is what an offer gives, if it does
  abbrev Given : Option (List ℕ) → Type 0
  Given None = Unit {0}
  Given (Some v) = ChoosesValue theory (Of v)

  given_values : (fields : List Field) → Each (FieldGivesValue theory) fields → Each Given (given_in fields)
  given_values [] h = tt
  given_values (Give v ∷ fields) h = (h.0, given_values fields h.1)
  given_values (Take sort ∷ fields) h = (tt, given_values fields h.1)

  mark_chosen : (b : Bool) → Values (mark_unless b)
  mark_chosen true = tt
  mark_chosen false = (tt, tt)

  unlisted : (values : List (List ℕ)) (o : Option (List ℕ)) → Given o → Values (unless_listed values o)
  unlisted values None h = tt
  unlisted values (Some v) h = by_test (is_listed v values)
    where
      by_test : (b : Bool) → Values (if b then [] else Of v ∷ [])
      by_test true = tt
      by_test false = (h, tt)

  one_of_each : (those : List (List Slot)) → Choices those → Each Choices (one_each those)
  one_of_each [] h = (tt, tt)
  one_of_each (slots ∷ those) h =
      each_flat_map Chosen Choices (λ slot. map (λ others. (slot ∷ []) ∷ others) (one_each those)) slots
      (λ slot k. each_image Choices Choices (λ others. (slot ∷ []) ∷ others) (one_each those) (λ others m. ((k, tt), m))
      (one_of_each those h.1)) h.0

  at_once : (fields : List OpenField) (those : List (List Slot)) → Choices those → Each Choices (choices_at_once fields those)
  at_once fields those h = by_test (any_marked fields)
    where
      by_test : (b : Bool) → Each Choices (if b then those ∷ [] else one_each those)
      by_test true = (h, tt)
      by_test false = one_of_each those h

  -- the slots of an action and of an exit, of those of its fields

  action_slots : (fields : List ActionField) (those : List (List Slot)) → Choices those → Each Values (fields_of.slots_of fields those)
  action_slots [] those k = (tt, tt)
  action_slots (give t ∷ fields) [] k = tt
  action_slots (accept x ∷ fields) [] k = tt
  action_slots (give t ∷ fields) (c ∷ those) k = action_slots fields those k.1
  action_slots (accept x ∷ fields) (c ∷ those) k =
      each_flat_map Chosen Values (λ slot. map (λ slots. slot ∷ slots) (fields_of.slots_of fields those)) c
      (λ slot s. each_image Values Values (λ slots. slot ∷ slots) (fields_of.slots_of fields those) (λ slots m. (s, m))
      (action_slots fields those k.1)) k.0

  exit_slots : (fields : List ExitValue) (those : List (List Slot)) → Choices those → Each Values (exit_slots_of fields those)
  exit_slots [] those k = (tt, tt)
  exit_slots (exit_given t ∷ fields) [] k = tt
  exit_slots (exit_any sort ∷ fields) [] k = tt
  exit_slots (exit_given t ∷ fields) (c ∷ those) k = exit_slots fields those k.1
  exit_slots (exit_any sort ∷ fields) (c ∷ those) k =
      each_flat_map Chosen Values (λ slot. map (λ slots. slot ∷ slots) (exit_slots_of fields those)) c
      (λ slot s. each_image Values Values (λ slots. slot ∷ slots) (exit_slots_of fields those) (λ slots m. (s, m))
      (exit_slots fields those k.1)) k.0

  -- fields of two sides, together

  told_where : (b : Bool) (c f : OpenField) → Tells c → (if b then Some c else None) ≡ Some f → Tells f
  told_where true c f h e = let same : c ≡ f = cc in subst Tells same h
  told_where false c f h e = let no : ⊥ = cc in absurd no

  told_one : (c d f : OpenField) → Tells c → Tells d → together theory c d ≡ Some f → Tells f
  told_one (fixed m v) (fixed n u) f h k e = told_where (bytes_eq v u) (fixed (m || n) v) f h e
  told_one (fixed m v) (blank n sort) f h k e = told_where (sort_of_value theory v == sort) (fixed (m || n) v) f h e
  told_one (blank m sort) (fixed n v) f h k e = told_where (sort_of_value theory v == sort) (fixed (m || n) v) f k e
  told_one (blank m sort) (blank n other) f h k e = told_where (sort == other) (blank (m || n) sort) f tt e

  told_all : (cs ds fs : List OpenField) → Each Tells cs → Each Tells ds → all_together theory cs ds ≡ Some fs → Each Tells fs
  told_all [] [] fs h k e = let same : ◌≡◌ {A = List OpenField} [] fs = cc in subst (Each Tells) same tt
  told_all (c ∷ cs) (d ∷ ds) fs h k e =
      let t = then_some (together theory c d) (λ f. option_map (λ gs. f ∷ gs) (all_together theory cs ds)) fs e in
      let m = map_some (all_together theory cs ds) (λ gs. t.0 ∷ gs) fs t.2 in
      subst (Each Tells) m.2 (told_one c d t.0 h.0 k.0 t.1, told_all cs ds m.0 h.1 k.1 m.1)
  told_all [] (d ∷ ds) fs h k e = let no : ⊥ = cc in absurd no
  told_all (c ∷ cs) [] fs h k e = let no : ⊥ = cc in absurd no

  -- A composite whose fields tell values, and whose trees choose values where its fields have values.
  record IsOfValues (c : Composite) : Type 0 where
    pub fields : Each Tells c.fields
    pub trees : (those : List (List Slot)) → Choices those → Each Trees (c.trees those)

  -- a rule that chooses nothing but values
  abbrev Keeps : (Derivation → Derivation) → Type 0
  Keeps row = (d : Derivation) → Trees d → Trees (row d)

  one_under : (row : Derivation → Derivation) → Keeps row → (c : Composite) → IsOfValues c → IsOfValues (under row c)
  one_under row keeps c h = record {
    fields = h.fields;
    trees = λ those k. each_image Trees Trees row (c.trees those) keeps (h.trees those k);
  }

  all_under : (row : Derivation → Derivation) → Keeps row → (cs : List Composite) → Each IsOfValues cs →
      Each IsOfValues (map (under row) cs)
  all_under row keeps cs h = each_image IsOfValues IsOfValues (under row) cs (one_under row keeps) h

  all_relabelled : (pairs : List Relabelling) (cs : List Composite) → Each IsOfValues cs → Each IsOfValues (of_relabel pairs cs)
  all_relabelled pairs cs h =
      each_image IsOfValues IsOfValues (relabelled pairs) cs
      (λ c k. record { fields = k.fields; trees = λ those m. each_image Trees Trees rel (c.trees those) (λ d x. x) (k.trees those m) }) h

  all_alone : (gates : Synchronised) (row : Derivation → Derivation) → Keeps row → (cs : List Composite) → Each IsOfValues cs →
      Each IsOfValues (flat_map (alone gates row) cs)
  all_alone gates row keeps cs h =
      each_flat_map IsOfValues IsOfValues (alone gates row) cs
      (λ c k. where_true IsOfValues (is_alone gates c.kind) (under row c ∷ []) (one_under row keeps c k, tt)) h

  two_joint : (gates : Synchronised) (c d : Composite) → IsOfValues c → IsOfValues d → Each IsOfValues (joint theory gates c d)
  two_joint gates c d h k =
      where_true IsOfValues (same_kind c.kind d.kind && is_joint gates c.kind)
      (from_option (all_together theory c.fields d.fields) (λ fields. paired c d fields ∷ []))
      (from_some IsOfValues (all_together theory c.fields d.fields) (λ fields. paired c d fields ∷ [])
      (λ fields e. (
        record {
          fields = told_all c.fields d.fields fields h.fields k.fields e;
          trees = λ those m.
              each_flat_map Trees Trees (λ left. map (both left) (d.trees those)) (c.trees those)
              (λ left x. each_image Trees Trees (both left) (d.trees those)
              (λ right y. each_append Chosen (slots_of left) (slots_of right) x y) (k.trees those m)) (h.trees those m);
        },
        tt,
      )))

  all_joint : (gates : Synchronised) (cs ds : List Composite) → Each IsOfValues cs → Each IsOfValues ds →
      Each IsOfValues (flat_map (λ c. flat_map (joint theory gates c) ds) cs)
  all_joint gates cs ds h k =
      each_flat_map IsOfValues IsOfValues (λ c. flat_map (joint theory gates c) ds) cs
      (λ c x. each_flat_map IsOfValues IsOfValues (joint theory gates c) ds (λ d y. two_joint gates c d x y) k) h

  all_disabled : (cs : List Composite) → Each IsOfValues cs → Each IsOfValues (map by_disabling cs)
  all_disabled cs h = each_image IsOfValues IsOfValues by_disabling cs (λ c k. by_test c k (is_end c.kind)) h
    where
      by_test : (c : Composite) → IsOfValues c → (b : Bool) → IsOfValues (if b then under disend c else under disstep c)
      by_test c k true = one_under disend (λ d x. x) c k
      by_test c k false = one_under disstep (λ d x. x) c k

  all_gates : (g n : ℕ) (gates : List ℕ) (cs : List Composite) → Each IsOfValues cs → Each IsOfValues (of_gates g n gates cs)
  all_gates g n [] cs h = tt
  all_gates g n (j ∷ gates) cs h =
      let pairs : List Relabelling = record { from = g; to = j } ∷ [] in
      each_append IsOfValues (map (under (gate n)) (of_relabel pairs cs)) (of_gates g (suc n) gates cs)
      (all_under (gate n) (λ d x. x) (of_relabel pairs cs) (all_relabelled pairs cs h)) (all_gates g (suc n) gates cs h)

  -- with windows of values
  module _ (w : Windows) (hold : HoldValues theory w) where
    of_window : (sort : ℕ) → Values (map Of (w.values sort))
    of_window sort = each_image (λ v. ChoosesValue theory (Of v)) Chosen Of (w.values sort) (λ v h. h) (hold sort)

    of_choice : (sort : ℕ) → Values (window_slots w sort)
    of_choice sort =
        each_append Chosen (map Of (w.values sort)) (mark_unless (w.complete sort)) (of_window sort) (mark_chosen (w.complete sort))

    of_field : (o : Option (List ℕ)) (f : OpenField) → Given o → Tells f → Values (choices theory w o f)
    of_field o (fixed m v) g h = (h, mark_chosen (not m || w.complete (sort_of_value theory v)))
    of_field o (blank m sort) g h =
        each_append Chosen (map Of (w.values sort)) (unless_listed (w.values sort) o ++ mark_unless (w.complete sort)) (of_window sort)
        (each_append Chosen (unless_listed (w.values sort) o) (mark_unless (w.complete sort)) (unlisted (w.values sort) o g)
        (mark_chosen (w.complete sort)))

    of_fields : (os : List (Option (List ℕ))) (fs : List OpenField) → Each Given os → Each Tells fs → Choices (all_choices theory w os fs)
    of_fields [] [] g h = tt
    of_fields (o ∷ os) [] g h = tt
    of_fields [] (f ∷ fs) g h = (of_field None f tt h.0, of_fields [] fs tt h.1)
    of_fields (o ∷ os) (f ∷ fs) g h = (of_field o f g.0 h.0, of_fields os fs g.1 h.1)

    -- what turns internal
    one_turned : (row : Derivation → Derivation) → Keeps row → (c : Composite) → IsOfValues c → IsOfValues (turned theory w row c)
    one_turned row keeps c h =
        let those = all_choices theory w [] c.fields in record {
          fields = tt;
          trees = λ slots k.
              each_image Trees Trees row (filled c those) keeps
              (each_flat_map Choices Trees c.trees (choices_at_once c.fields those) h.trees
              (at_once c.fields those (of_fields [] c.fields tt h.fields)));
        }

    all_hidden : (gates : List ℕ) (cs : List Composite) → Each IsOfValues cs → Each IsOfValues (map (by_hiding theory w gates) cs)
    all_hidden gates cs h = each_image IsOfValues IsOfValues (by_hiding theory w gates) cs (λ c k. by_test c k (is_hidden gates c.kind)) h
      where
        by_test : (c : Composite) → IsOfValues c → (b : Bool) → IsOfValues (if b then turned theory w hiding c else under pass c)
        by_test c k true = one_turned hiding (λ d x. x) c k
        by_test c k false = one_under pass (λ d x. x) c k

    all_enabled : (cs : List Composite) → Each IsOfValues cs → Each IsOfValues (map (by_enabling theory w) cs)
    all_enabled cs h = each_image IsOfValues IsOfValues (by_enabling theory w) cs (λ c k. by_test c k (is_end c.kind)) h
      where
        by_test : (c : Composite) → IsOfValues c → (b : Bool) → IsOfValues (if b then turned theory w enend c else under enstep c)
        by_test c k true = one_turned enend (λ d x. x) c k
        by_test c k false = one_under enstep (λ d x. x) c k

    -- the trees of a composite for which a query may ask, where what is offered to its fields are values
    of_offered : (os : List (Option (List ℕ))) → Each Given os → (q : TreeQuery) (c : Composite) → IsOfValues c →
        Each Trees (flat_map (λ slots. filter (may_be_asked theory w q c slots) (c.trees slots))
        (choices_at_once c.fields (all_choices theory w os c.fields)))
    of_offered os values q c h =
        let those = all_choices theory w os c.fields in
        each_flat_map Choices Trees (λ slots. filter (may_be_asked theory w q c slots) (c.trees slots)) (choices_at_once c.fields those)
        (λ slots k. each_filter Trees (may_be_asked theory w q c slots) (c.trees slots) (h.trees slots k))
        (at_once c.fields those (of_fields os c.fields values h.fields))

    -- so where its offer gives values
    of_query : (q : TreeQuery) (c : Composite) → IsOfValues c → IfSome (offer_in q) (GivesValues theory) →
        Each Trees (trees_asked theory w q c)
    of_query (meeting p) c h o = of_offered (given_in p.offer.fields) (given_values p.offer.fields o) (meeting p) c h
    of_query any c h o = of_offered [] tt any c h
    of_query unseen c h o = of_offered [] tt unseen c h
    of_query (beyond p) c h o = of_offered (given_in p.offer.fields) (given_values p.offer.fields o) (beyond p) c h
    of_query any_beyond c h o = of_offered [] tt any_beyond c h
    of_query (beyond_or_unseen p) c h o =
        of_offered (given_in p.offer.fields) (given_values p.offer.fields o) (beyond_or_unseen p) c h

module _ (program : Program) (e : Evaluation) (exact : IsExact program e) (w : Windows) (hold : HoldValues program.theory w) where
  abbrev theory : Theory
  theory = program.theory

  abbrev Are : List Composite → Type 0
  Are = Each (IsOfValues theory)

  told_value : (k j : MarkedTerm) → marked_value theory e k ≡ Some j → Tells theory (open_by j)
  told_value (plain t) j q =
      let a = map_some (e.value t) plain j q in
      subst (λ z. Tells theory (open_by z)) a.2 (a.0, refl, ((exact.value t a.0).1 a.1).is_value)
  told_value (mark sort) j q = let same : mark sort ≡ j = cc in subst (λ z. Tells theory (open_by z)) same tt

  told_fields : (m : MarkedAssignment) (fields : List ActionField) (fs : List OpenField) → open_fields theory e m fields ≡ Some fs →
      Each (Tells theory) fs
  told_fields m [] fs q = let same : ◌≡◌ {A = List OpenField} [] fs = cc in subst (Each (Tells theory)) same tt
  told_fields m (give t ∷ fields) fs q =
      let a = then_some (value_in theory e m t) (λ k. option_map (λ gs. open_by k ∷ gs) (open_fields theory e m fields)) fs q in
      let b = map_some (open_fields theory e m fields) (λ gs. open_by a.0 ∷ gs) fs a.2 in
      subst (Each (Tells theory)) b.2 (told_value (marked_instance theory m t) a.0 a.1, told_fields m fields b.0 b.1)
  told_fields m (accept x ∷ fields) fs q =
      let b = map_some (open_fields theory e m fields) (λ gs. blank false x.sort ∷ gs) fs q in
      subst (Each (Tells theory)) b.2 (tt, told_fields m fields b.0 b.1)

  told_exit : (m : MarkedAssignment) (fields : List ExitValue) (fs : List OpenField) → open_exit theory e m fields ≡ Some fs →
      Each (Tells theory) fs
  told_exit m [] fs q = let same : ◌≡◌ {A = List OpenField} [] fs = cc in subst (Each (Tells theory)) same tt
  told_exit m (exit_given t ∷ fields) fs q =
      let a = then_some (value_in theory e m t) (λ k. option_map (λ gs. open_by k ∷ gs) (open_exit theory e m fields)) fs q in
      let b = map_some (open_exit theory e m fields) (λ gs. open_by a.0 ∷ gs) fs a.2 in
      subst (Each (Tells theory)) b.2 (told_value (marked_instance theory m t) a.0 a.1, told_exit m fields b.0 b.1)
  told_exit m (exit_any sort ∷ fields) fs q =
      let b = map_some (open_exit theory e m fields) (λ gs. blank false sort ∷ gs) fs q in
      subst (Each (Tells theory)) b.2 (tt, told_exit m fields b.0 b.1)

  module _ (called : MarkedAssignment → Behaviour → List Composite)
      (bodies : (m : MarkedAssignment) (b : Behaviour) → Are (called m b)) where
    abbrev of : MarkedAssignment → Behaviour → List Composite
    of = composites_in theory e w called

    all_in : (m : MarkedAssignment) (b : Behaviour) → Are (of m b)
    all_in m stop = tt
    all_in m (exit fields) =
        from_some (IsOfValues theory) (open_exit theory e m fields)
        (λ fs. record { kind = ends; fields = fs; trees = λ slots. map exiting (exit_slots_of fields slots) } ∷ [])
        (λ fs q. (
          record {
            fields = told_exit m fields fs q;
            trees = λ slots k.
                each_image (Values theory) (Trees theory) exiting (exit_slots_of fields slots) (λ s x. x)
                (exit_slots theory fields slots k);
          },
          tt,
        ))
    all_in m (inner rest) = (record { fields = tt; trees = λ slots k. (tt, tt) }, tt)
    all_in m (action g fields p rest) =
        from_some (IsOfValues theory) (open_fields theory e m fields)
        (λ fs. record { kind = at_gate g; fields = fs; trees = λ slots. map pre (fields_of.slots_of fields slots) } ∷ [])
        (λ fs q. (
          record {
            fields = told_fields m fields fs q;
            trees = λ slots k.
                each_image (Values theory) (Trees theory) pre (fields_of.slots_of fields slots) (λ s x. x)
                (action_slots theory fields slots k);
          },
          tt,
        ))
    all_in m (choice x y) =
        each_append (IsOfValues theory) (map (under chl) (of m x)) (map (under chr) (of m y))
        (all_under theory chl (λ d h. h) (of m x) (all_in m x)) (all_under theory chr (λ d h. h) (of m y) (all_in m y))
    all_in m (guarded p b) =
        where_true (IsOfValues theory) (premise_may_hold theory e m p) (map (under guard) (of m b))
        (all_under theory guard (λ d h. h) (of m b) (all_in m b))
    all_in m (bound bindings b) =
        from_some (IsOfValues theory) (with_bindings theory e m m bindings) (λ l. map (under letting) (of l b))
        (λ l q. all_under theory letting (λ d h. h) (of l b) (all_in l b))
    all_in m (value_choice x b) =
        each_flat_map (Chosen theory) (IsOfValues theory)
        (λ slot. from_option (chosen_term theory e w slot x.sort) (λ k. map (under (val slot)) (of (with_marked x k m) b)))
        (window_slots w x.sort)
        (λ slot s. from_some (IsOfValues theory) (chosen_term theory e w slot x.sort)
        (λ k. map (under (val slot)) (of (with_marked x k m) b))
        (λ k q. all_under theory (val slot) (λ d h. (s, h)) (of (with_marked x k m) b) (all_in (with_marked x k m) b)))
        (of_choice theory w hold x.sort)
    all_in m (gate_choice g gates b) = all_gates theory g 1 gates (of m b) (all_in m b)
    all_in m (parallel gates x y) =
        let cs = of m x in
        let ds = of m y in
        let rights = flat_map (alone gates parr) ds in
        let joints = flat_map (λ c. flat_map (joint theory gates c) ds) cs in
        each_append (IsOfValues theory) (flat_map (alone gates parl) cs) (rights ++ joints)
        (all_alone theory gates parl (λ d h. h) cs (all_in m x))
        (each_append (IsOfValues theory) rights joints (all_alone theory gates parr (λ d h. h) ds (all_in m y))
        (all_joint theory gates cs ds (all_in m x) (all_in m y)))
    all_in m (hide gates b) = all_hidden theory w hold gates (of m b) (all_in m b)
    all_in m (enable x xs y) = all_enabled theory w hold (of m x) (all_in m x)
    all_in m (disable x y) =
        each_append (IsOfValues theory) (map by_disabling (of m x)) (map (under distake) (of m y))
        (all_disabled theory (of m x) (all_in m x)) (all_under theory distake (λ d h. h) (of m y) (all_in m y))
    all_in m (call p actual terms) =
        from_some (IsOfValues theory) (e.definition p)
        (λ d. from_option (with_arguments theory e m unmarked d.variables terms)
        (λ l. map (under calling) (of_relabel (pairs_of d.gates actual) (called l d.body))))
        (λ d q. from_some (IsOfValues theory) (with_arguments theory e m unmarked d.variables terms)
        (λ l. map (under calling) (of_relabel (pairs_of d.gates actual) (called l d.body)))
        (λ l r. all_under theory calling (λ x h. h) (of_relabel (pairs_of d.gates actual) (called l d.body))
        (all_relabelled theory (pairs_of d.gates actual) (called l d.body) (bodies l d.body))))
    all_in m (relabel pairs b) = all_relabelled theory pairs (of m b) (all_in m b)

  all_below : (n : ℕ) (m : MarkedAssignment) (b : Behaviour) → Are (below_calls theory e w n m b)
  all_below zero m b = tt
  all_below (suc n) m b = all_in (below_calls theory e w n) (all_below n) m b

  -- each composite of a behaviour is one of values
  all_of : (n : ℕ) (m : MarkedAssignment) (b : Behaviour) → Are (composites theory e w n m b)
  all_of n m b = all_in (below_calls theory e w n) (all_below n) m b

-- what a tree by which a behaviour acts chooses is chosen in part by the trees by which its parts act
part_chooses : (algebra : Theory) {c : Behaviour} {e : Derivation} {b : Behaviour} {d : Derivation} → ActsIn c e b d →
    ChoosesValues algebra d → ChoosesValues algebra e
part_chooses algebra itself h = h
part_chooses algebra (acting.first_chosen left right d a) h = part_chooses algebra a h
part_chooses algebra (acting.second_chosen left right d a) h = part_chooses algebra a h
part_chooses algebra (acting.first_alone gates left right d a) h = part_chooses algebra a h
part_chooses algebra (acting.second_alone gates left right d a) h = part_chooses algebra a h
part_chooses algebra (acting.first_of_both gates left right d f a) h =
    part_chooses algebra a (each_left (ChoosesValue algebra) (slots_of d) (slots_of f) h)
part_chooses algebra (acting.second_of_both gates left right d f a) h =
    part_chooses algebra a (each_right (ChoosesValue algebra) (slots_of d) (slots_of f) h)
part_chooses algebra (acting.hidden_action gates body d a) h = part_chooses algebra a h
part_chooses algebra (acting.seen_action gates body d a) h = part_chooses algebra a h
part_chooses algebra (acting.before_end left xs right d a) h = part_chooses algebra a h
part_chooses algebra (acting.at_end left xs right d a) h = part_chooses algebra a h
part_chooses algebra (acting.undisabled left right d a) h = part_chooses algebra a h
part_chooses algebra (acting.undisabled_end left right d a) h = part_chooses algebra a h
part_chooses algebra (acting.disabling left right d a) h = part_chooses algebra a h
part_chooses algebra (acting.renamed pairs body d a) h = part_chooses algebra a h

pub listed_trees_choose_values : ListedTreesChooseValues
listed_trees_choose_values program e exact w hold t own pieces q offers d listed part missing =
    let theory = program.theory in
    let c = listed_of_composite program e w q t own d listed in
    let of = missing_are_by_nodes program pieces t d part missing in
    part_chooses theory of.acts
    (each_one (ChoosesValues theory) (trees_asked theory w q c.composite) d
    (of_query theory w hold q c.composite
    (each_one (IsOfValues theory) (composites theory e w (length program.code) unmarked (stands_for program t)) c.composite
    (all_of program e exact w hold (length program.code) unmarked (stands_for program t)) c.among) offers) c.tree)

-- the offer of a query of the rules is one that is pending
offers_of_rules : (algebra : Theory) (state : Waiting PendingOffer) → IsSoundWaiting state →
    ((p : PendingOffer) → IsOneOf p state.pending → GivesValues algebra p.offer) → (q : TreeQuery) → IsOfRules state q →
    IfSome (offer_in q) (GivesValues algebra)
offers_of_rules algebra state sound values (meeting p) is = values p is
offers_of_rules algebra state sound values any is = tt
offers_of_rules algebra state sound values unseen is = tt
offers_of_rules algebra state sound values (beyond p) is =
    values p (sound.asks p (subst (IsOneOf p) (sym is.1) (inl refl)))
offers_of_rules algebra state sound values any_beyond is = tt
offers_of_rules algebra state sound values (beyond_or_unseen p) is = values p (sound.pending p is.0)

pub needed_jobs_choose_values : NeededJobsChooseValues
needed_jobs_choose_values program e exact w hold t own pieces state sound values (to_expand g) needed = tt
needed_jobs_choose_values program e exact w hold t own pieces state sound values (to_judge part) needed =
    let from = needed_parts_are_of_trees program.theory w t pieces state part needed in
    listed_trees_choose_values program e exact w hold t own pieces from.query
    (offers_of_rules program.theory state sound values from.query from.of_rules) from.tree from.listed part from.missing
