-- Each step is seen: its tree, or the tree with marks.
use Rattle.std.proofs.Common.{ℕ, ◌≡◌, ◌⊎◌, List, [], ◌∷◌, refl, sym, ap, subst, ◌∙◌, inl, inr, Bool, true, false, Option, Some, None}
use Rattle.std.proofs.Common.{Contains}
use Rattle.spec_core.specs.Lists.{Each}
use Rattle.spec_core.specs.Terms.{TermTree, variable}
use Rattle.spec_core.specs.Theories.{Theory}
use Rattle.spec_core.specs.Sorts.{FitsData}
use Rattle.spec_core.specs.Code.{Program, Variable, Relabelling}
use Rattle.rule_model.specs.declared.action.Action.{Action}
use Rattle.rule_model.specs.declared.action.Action.TheVariants.{Inner, Exit, At}
use Rattle.rule_model.specs.declared.offer.Field.{Field}
use Rattle.rule_model.specs.declared.offer.Field.TheVariants.{Give, Take}
use Rattle.rule_model.specs.declared.offer.Offer.{Offer}
use Rattle.rule_model.specs.declared.rules.Slot.TheVariants.{Of, Mark, Blank}
use Rattle.rule_model.specs.Actions.{Kind, at_gate, kind_of, doing, renamed_action, pairs_of}
use Rattle.rule_model.specs.Behaviours.{Behaviour, exit, inner, action, choice, guarded, bound, value_choice, gate_choice, parallel}
use Rattle.rule_model.specs.Behaviours.{hide, enable, disable, call, relabel}
use Rattle.rule_model.specs.Derivations.{Derivation, pre, int, exiting, chl, chr, val, gate, guard, letting, parl, parr, both, hiding, pass}
use Rattle.rule_model.specs.Derivations.{enstep, enend, disstep, disend, distake, calling, rel}
use Rattle.rule_model.specs.Derives.{DerivesWith}
use Rattle.rule_model.specs.Fields.{Spells}
use Rattle.rule_model.specs.Meets.{IsOfSort, FieldMeets, FieldsMeet, Meets}
use Rattle.rule_model.specs.Substitution.{Assignment}
use Rattle.symbolic_rules.specs.Windows.{Windows, sort_of_value}
use Rattle.symbolic_rules.specs.MarkedTerms.{MarkedTerm, plain, mark, MarkedAssignment, unmarked, with_marked}
use Rattle.symbolic_rules.specs.MarkedFields.{MarkedField, told, chosen, given, free, sort_of_field, HaveSortsOf, IsWithin}
use Rattle.symbolic_rules.specs.MayDerive.{renamed_kind, MayDeriveWith}
use Rattle.symbolic_rules.specs.Trees.{MeetsIfOffered, FieldMayMeet, FieldsMayMeet, has_mark, IsSeen, IsWindowed, IsBeyond, IsMarkedAs}
use Rattle.symbolic_rules.specs.Laws.{EachStepIsSeen}
use Rattle.symbolic_rules.proofs.Sorts.{IsSpelled, sort_of_ground}
use Rattle.symbolic_rules.proofs.Standing.{StandsForTerm, StandsForAll, unmarked_stands, premise_may_hold, guard_may_hold, with_one_more}
use Rattle.symbolic_rules.proofs.Fields.{StandsFor, StandFor, sort_stands, fields_stand, exit_stands, bindings_stand, arguments_stand}
use Rattle.symbolic_rules.proofs.Fields.{sorts_of_handed, all_agreed}
use Rattle.symbolic_rules.proofs.Marks.{same_tree, marked_twice, own_tree}
use Rattle.symbolic_rules.proofs.Dropping.{IsMarkOf, IsKeptOrMay, AreKeptOrMay, Becomes, Become}
use Rattle.symbolic_rules.proofs.Remarking.{remark}
use Rattle.symbolic_rules.proofs.Windows.{is_one_or_not, not_complete, spelled_within}

abbrev pub values_of : Action → List (List ℕ)
values_of Inner = []
values_of (Exit values) = values
values_of (At place values) = values

pub renamed_values : (pairs : List Relabelling) (a : Action) → values_of a ≡ values_of (renamed_action pairs a)
renamed_values pairs Inner = refl
renamed_values pairs (Exit values) = refl
renamed_values pairs (At place values) = refl

pub renamed_kinds : (pairs : List Relabelling) (a : Action) → kind_of (renamed_action pairs a) ≡ renamed_kind pairs (kind_of a)
renamed_kinds pairs Inner = refl
renamed_kinds pairs (Exit values) = refl
renamed_kinds pairs (At place values) = refl

-- a tree with marks, whose fields stand for the values of the action
pub record Loosened (theory : Theory) (d : Derivation) (values : List (List ℕ)) : Type 0 where
  pub tree : Derivation
  pub fields : List MarkedField
  pub marked : IsMarkedAs d tree
  pub stand : StandFor theory fields values

-- the same below one more rule
abbrev over : {theory : Theory} {values : List (List ℕ)} {d : Derivation} (row : Derivation → Derivation) →
    ((t : Derivation) → IsMarkedAs d t → IsMarkedAs (row d) (row t)) → Loosened theory d values → Loosened theory (row d) values
over row marks r = record { tree = row r.tree; fields = r.fields; marked = marks r.tree r.marked; stand = r.stand }

sort_of_mark : (theory : Theory) (sort : ℕ) (g : MarkedField) → IsMarkOf sort g → sort_of_field theory g ≡ sort
sort_of_mark theory sort (told v) h = absurd h
sort_of_mark theory sort (chosen v) h = absurd h
sort_of_mark theory sort (given other) h = h
sort_of_mark theory sort (free other) h = h

sort_stays : (theory : Theory) (b : Bool) (f g : MarkedField) → Becomes theory b f g → sort_of_field theory g ≡ sort_of_field theory f
sort_stays theory true f g h = ap (sort_of_field theory) h
sort_stays theory false f g h = sort_of_mark theory (sort_of_field theory f) g h

sorts_stay : (theory : Theory) (w : Windows) (keep : List Bool) (xs : List Variable) (fs gs : List MarkedField) →
    AreKeptOrMay theory w keep fs → Become theory keep fs gs → HaveSortsOf theory xs fs → HaveSortsOf theory xs gs
sorts_stay theory w [] xs [] gs j h k = subst (HaveSortsOf theory xs) (sym h) k
sorts_stay theory w (b ∷ keep) (x ∷ xs) (f ∷ fs) (g ∷ gs) j h k =
    (sort_stays theory b f g h.0 ∙ k.0, sorts_stay theory w keep xs fs gs j.1 h.1 k.1)
sorts_stay theory w (b ∷ keep) [] (f ∷ fs) gs j h k = absurd k
sorts_stay theory w (b ∷ keep) xs (f ∷ fs) [] j h k = absurd h
sorts_stay theory w [] xs (f ∷ fs) gs j h k = absurd j
sorts_stay theory w (b ∷ keep) xs [] gs j h k = absurd j

module _ (program : Program) (fits : FitsData program.theory) (w : Windows)
    (beyond : (sort : ℕ) (v : List ℕ) → IsSpelled program.theory sort v → (Contains (w.values sort) v → ⊥) → w.complete sort ≡ false) where
  -- whether a field is kept, so that P holds of what becomes of it
  pub record Keeping (f : MarkedField) (P : MarkedField → Type 0) : Type 0 where
    pub keep : Bool
    pub may : IsKeptOrMay program.theory w keep f
    pub holds : (g : MarkedField) → Becomes program.theory keep f g → P g

  -- the same of all fields of an action
  pub record KeepingAll (fs : List MarkedField) (P : List MarkedField → Type 0) : Type 0 where
    pub keep : List Bool
    pub may : AreKeptOrMay program.theory w keep fs
    pub hold : (gs : List MarkedField) → Become program.theory keep fs gs → P gs

  kept : (f : MarkedField) (P : MarkedField → Type 0) → P f → Keeping f P
  kept f P p = record { keep = true; may = tt; holds = λ g e. subst P (sym e) p }

  mark_is_within : (sort : ℕ) (g : MarkedField) → IsMarkOf sort g → IsWithin program.theory w g
  mark_is_within sort (told v) h = absurd h
  mark_is_within sort (chosen v) h = absurd h
  mark_is_within sort (given other) h = tt
  mark_is_within sort (free other) h = tt

  -- what is only chosen and lies beyond its window becomes a mark
  keep_within : (f : MarkedField) (v : List ℕ) → StandsFor program.theory f v → Keeping f (IsWithin program.theory w)
  keep_within (told u) v h = kept (told u) (IsWithin program.theory w) tt
  keep_within (given sort) v h = kept (given sort) (IsWithin program.theory w) tt
  keep_within (free sort) v h = absurd h
  keep_within (chosen u) v h = by_test (is_one_or_not (w.values (sort_of_value program.theory u)) u)
    where
      by_test : Contains (w.values (sort_of_value program.theory u)) u ⊎ (Contains (w.values (sort_of_value program.theory u)) u → ⊥) →
          Keeping (chosen u) (IsWithin program.theory w)
      by_test (inl c) = kept (chosen u) (IsWithin program.theory w) c
      by_test (inr out) = record {
        keep = false;
        may = beyond (sort_of_value program.theory u) u h.1 out;
        holds = λ g e. mark_is_within (sort_of_value program.theory u) g e;
      }

  keep_all_within : (fs : List MarkedField) (values : List (List ℕ)) → StandFor program.theory fs values →
      KeepingAll fs (Each (IsWithin program.theory w))
  keep_all_within [] values h = record { keep = []; may = tt; hold = λ gs e. subst (Each (IsWithin program.theory w)) (sym e) tt }
  keep_all_within (f ∷ fs) [] h = absurd h
  keep_all_within (f ∷ fs) (v ∷ values) h =
      let one = keep_within f v h.0 in
      let rest = keep_all_within fs values h.1 in
      record { keep = one.keep ∷ rest.keep; may = (one.may, rest.may); hold = both_hold one rest }
    where
      both_hold : (one : Keeping f (IsWithin program.theory w)) (rest : KeepingAll fs (Each (IsWithin program.theory w)))
          (gs : List MarkedField) → Become program.theory (one.keep ∷ rest.keep) (f ∷ fs) gs → Each (IsWithin program.theory w) gs
      both_hold one rest [] e = absurd e
      both_hold one rest (g ∷ gs) e = (one.holds g e.0, rest.hold gs e.1)

  -- what the offer gives is kept
  given_by : (f : MarkedField) (v u : List ℕ) → StandsFor program.theory f v → v ≡ u → FieldMayMeet program.theory w f (Give u)
  given_by (told x) v u h e = h ∙ e
  given_by (chosen x) v u h e = h.0 ∙ e
  given_by (given sort) v u h e = ap (sort_of_value program.theory) (sym e) ∙ h
  given_by (free sort) v u h e = absurd h

  sort_of_value_of : (v : List ℕ) (sort : ℕ) → IsOfSort program.theory v (record { 0 = sort }) → sort_of_value program.theory v ≡ sort
  sort_of_value_of [] sort h = absurd h
  sort_of_value_of (op ∷ ops) sort h = h

  taken : (g : MarkedField) (sort : ℕ) → sort_of_field program.theory g ≡ sort → IsWithin program.theory w g →
      FieldMayMeet program.theory w g (Take (record { 0 = sort }))
  taken (told v) sort e h = (e, h)
  taken (chosen v) sort e h = (e, h)
  taken (given other) sort e h = (e, h)
  taken (free other) sort e h = (e, h)

  keep_for : (f : MarkedField) (v : List ℕ) (field : Field) → StandsFor program.theory f v → FieldMeets program.theory v field →
      Keeping f (λ g. FieldMayMeet program.theory w g field)
  keep_for f v (Give u) h e = kept f (λ g. FieldMayMeet program.theory w g (Give u)) (given_by f v u h e)
  keep_for f v (Take sort) h e =
      let one = keep_within f v h in
      let at = sort_stands program.theory f v h ∙ sort_of_value_of v sort.0 e in
      record {
        keep = one.keep;
        may = one.may;
        holds = λ g b. taken g sort.0 (sort_stays program.theory one.keep f g b ∙ at) (one.holds g b);
      }

  keep_all_for : (fs : List MarkedField) (values : List (List ℕ)) (fields : List Field) → StandFor program.theory fs values →
      FieldsMeet program.theory values fields → KeepingAll fs (λ gs. FieldsMayMeet program.theory w gs fields)
  keep_all_for [] [] [] h e =
      record { keep = []; may = tt; hold = λ gs b. subst (λ (l : List MarkedField). FieldsMayMeet program.theory w l []) (sym b) tt }
  keep_all_for (f ∷ fs) (v ∷ values) (field ∷ fields) h e =
      let one = keep_for f v field h.0 e.0 in
      let rest = keep_all_for fs values fields h.1 e.1 in
      record { keep = one.keep ∷ rest.keep; may = (one.may, rest.may); hold = both_hold one rest }
    where
      both_hold : (one : Keeping f (λ g. FieldMayMeet program.theory w g field))
          (rest : KeepingAll fs (λ gs. FieldsMayMeet program.theory w gs fields)) (gs : List MarkedField) →
          Become program.theory (one.keep ∷ rest.keep) (f ∷ fs) gs → FieldsMayMeet program.theory w gs (field ∷ fields)
      both_hold one rest [] b = absurd b
      both_hold one rest (g ∷ gs) b = (one.holds g b.0, rest.hold gs b.1)
  keep_all_for [] [] (field ∷ fields) h e = absurd e
  keep_all_for (f ∷ fs) (v ∷ values) [] h e = absurd e
  keep_all_for [] (v ∷ values) fields h e = absurd h
  keep_all_for (f ∷ fs) [] fields h e = absurd h

  abbrev Loosens : MarkedAssignment → Behaviour → Derivation → Action → Type 0
  Loosens m b d a = (r : Loosened program.theory d (values_of a)) × MayDeriveWith program w m b r.tree (kind_of a) r.fields

  -- the value of a choice, or a mark where it lies beyond its window
  choose : (v : List ℕ) (x : Variable) (body : Behaviour) (m : MarkedAssignment) (d : Derivation) (a : Action) (n : TermTree) →
      Spells program.theory v n x.sort →
      ((k : MarkedTerm) → StandsForTerm program.theory k n → Loosens (with_marked x k m) body d a) →
      Contains (w.values x.sort) v ⊎ (Contains (w.values x.sort) v → ⊥) →
      Loosens m (value_choice x body) (val (Of v) d) a
  choose v x body m d a n spells next (inl c) =
      let r = next (plain n) refl in (
        over (val (Of v)) (λ t i. (Of v, t, refl, inl refl, i)) r.0,
        (plain n, (n, spells, refl), spelled_within program.theory w v n x.sort spells c, r.1),
      )
  choose v x body m d a n spells next (inr out) =
      let r = next (mark x.sort) (sort_of_ground program.theory n x.sort spells.of_sort) in (
        record { tree = val Mark r.0.tree; fields = r.0.fields; marked = (Mark, r.0.tree, refl, inr refl, r.0.marked); stand = r.0.stand },
        (mark x.sort, (beyond x.sort v (n, spells) out, refl), tt, r.1),
      )

  loosen : (d : Derivation) (b : Behaviour) (s : Assignment) (m : MarkedAssignment) (a : Action) (c : Behaviour) →
      StandsForAll program.theory m s → DerivesWith program s b d a c → Loosens m b d a
  loosen (pre slots) (action g fields p rest) s m a c k h =
      subst (Loosens m (action g fields p rest) (pre slots)) (sym h.2)
      (let r = fields_stand program.theory fits w m s k fields slots h.0 m s h.1 k h.3 in (
        record { tree = pre slots; fields = r.0; marked = same_tree (pre slots); stand = r.3 },
        (r.1, refl, r.2, guard_may_hold program.theory r.1 h.1 r.4 p h.4),
      ))
  loosen int (inner rest) s m a c k h =
      subst (Loosens m (inner rest) int) (sym h.0) (record { tree = int; fields = []; marked = refl; stand = tt }, (refl, refl))
  loosen (exiting slots) (exit fields) s m a c k h =
      subst (Loosens m (exit fields) (exiting slots)) (sym h.1)
      (let r = exit_stands program.theory fits w m s k fields slots h.0 h.2 in
      (record { tree = exiting slots; fields = r.0; marked = same_tree (exiting slots); stand = r.2 }, (refl, r.1)))
  loosen (chl d) (choice x y) s m a c k h = let r = loosen d x s m a c k h in (over chl (λ t i. (t, refl, i)) r.0, r.1)
  loosen (chr d) (choice x y) s m a c k h = let r = loosen d y s m a c k h in (over chr (λ t i. (t, refl, i)) r.0, r.1)
  loosen (val (Of v) d) (value_choice x body) s m a c k h =
      choose v x body m d a h.0 h.1
      (λ j i. loosen d body _ (with_marked x j m) a c (with_one_more program.theory m s k x j h.0 i) h.2)
      (is_one_or_not (w.values x.sort) v)
  loosen (val Mark d) (value_choice x body) s m a c k h = absurd h
  loosen (val Blank d) (value_choice x body) s m a c k h = absurd h
  loosen (gate n d) (gate_choice g gates body) s m a c k h =
      let r = loosen d (relabel (record { from = g; to = h.1 } ∷ []) body) s m a c k h.4 in
      (over (gate n) (λ t i. (t, refl, i)) r.0, (h.0, h.1, h.2, h.3, r.1))
  loosen (guard d) (guarded p body) s m a c k h =
      let r = loosen d body s m a c k h.1 in
      (over guard (λ t i. (t, refl, i)) r.0, (premise_may_hold program.theory m s k p h.0, r.1))
  loosen (letting d) (bound bindings body) s m a c k h =
      let z = bindings_stand program.theory fits w m s k bindings m s h.0 k h.1 in
      let r = loosen d body h.0 z.0 a c z.2 h.2 in
      (over letting (λ t i. (t, refl, i)) r.0, (z.0, z.1, r.1))
  loosen (parl d) (parallel gates x y) s m a c k h =
      let r = loosen d x s m a h.0 k h.1 in (over parl (λ t i. (t, refl, i)) r.0, (r.1, h.2))
  loosen (parr d) (parallel gates x y) s m a c k h =
      let r = loosen d y s m a h.0 k h.1 in (over parr (λ t i. (t, refl, i)) r.0, (r.1, h.2))
  loosen (both d e) (parallel gates x y) s m a c k h =
      let r = loosen d x s m a h.0 k h.2 in
      let q = loosen e y s m a h.1 k h.3 in
      let z = all_agreed program.theory r.0.fields q.0.fields (values_of a) r.0.stand q.0.stand in (
        record {
          tree = both r.0.tree q.0.tree;
          fields = z.0;
          marked = (r.0.tree, q.0.tree, refl, r.0.marked, q.0.marked);
          stand = z.2;
        },
        (r.0.fields, q.0.fields, r.1, q.1, h.4, z.1),
      )
  loosen (hiding d) (hide gates body) s m a c k h =
      subst (Loosens m (hide gates body) (hiding d)) (sym h.5)
      (let r = loosen d body s m (doing h.0 h.1) h.2 k h.3 in
      let keep = keep_all_within r.0.fields h.1 r.0.stand in
      let q = remark program w r.0.tree body m (kind_of (doing h.0 h.1)) r.0.fields keep.keep r.1 keep.may in (
        record {
          tree = hiding q.0.tree;
          fields = [];
          marked = (q.0.tree, refl, marked_twice d r.0.tree q.0.tree r.0.marked q.0.marked);
          stand = tt;
        },
        (h.0, q.0.fields, q.1, h.4, keep.hold q.0.fields q.0.become, refl, refl),
      ))
  loosen (pass d) (hide gates body) s m a c k h =
      let r = loosen d body s m a h.0 k h.1 in (over pass (λ t i. (t, refl, i)) r.0, (r.1, h.2))
  loosen (enstep d) (enable x xs y) s m a c k h =
      let r = loosen d x s m a h.0 k h.1 in (over enstep (λ t i. (t, refl, i)) r.0, (r.1, h.2))
  loosen (enend d) (enable x xs y) s m a c k h =
      subst (Loosens m (enable x xs y) (enend d)) (sym h.4)
      (let r = loosen d x s m (Exit h.0) h.1 k h.3 in
      let keep = keep_all_within r.0.fields h.0 r.0.stand in
      let q = remark program w r.0.tree x m (kind_of (Exit h.0)) r.0.fields keep.keep r.1 keep.may in (
        record {
          tree = enend q.0.tree;
          fields = [];
          marked = (q.0.tree, refl, marked_twice d r.0.tree q.0.tree r.0.marked q.0.marked);
          stand = tt;
        },
        (
          q.0.fields,
          q.1,
          sorts_stay program.theory w keep.keep xs r.0.fields q.0.fields keep.may q.0.become
              (sorts_of_handed program.theory xs h.0 r.0.fields s h.2 h.5 r.0.stand),
          keep.hold q.0.fields q.0.become,
          refl,
          refl,
        ),
      ))
  loosen (disstep d) (disable x y) s m a c k h =
      let r = loosen d x s m a h.0 k h.1 in (over disstep (λ t i. (t, refl, i)) r.0, (r.1, h.2))
  loosen (disend d) (disable x y) s m a c k h =
      let r = loosen d x s m a c k h.0 in (over disend (λ t i. (t, refl, i)) r.0, (r.1, h.1))
  loosen (distake d) (disable x y) s m a c k h = let r = loosen d y s m a c k h in (over distake (λ t i. (t, refl, i)) r.0, r.1)
  loosen (calling d) (call p actual terms) s m a c k h =
      let z = arguments_stand program.theory fits w m s k h.1 terms unmarked variable h.3 (unmarked_stands program.theory) h.5 in
      let r = loosen d (relabel (pairs_of h.0 actual) h.2) h.3 z.0 a c z.2 h.6 in
      (over calling (λ t i. (t, refl, i)) r.0, (h.0, h.1, h.2, z.0, h.4, z.1, r.1))
  loosen (rel d) (relabel pairs body) s m a c k h =
      subst (Loosens m (relabel pairs body) (rel d)) (sym h.3)
      (let r = loosen d body s m h.0 h.1 k h.2 in (
        record {
          tree = rel r.0.tree;
          fields = r.0.fields;
          marked = (r.0.tree, refl, r.0.marked);
          stand = subst (StandFor program.theory r.0.fields) (renamed_values pairs h.0) r.0.stand;
        },
        (kind_of h.0, r.1, renamed_kinds pairs h.0),
      ))
  loosen _ _ s m a c k h = absurd h

  -- a seen tree is windowed, and then has got no mark, or it is beyond
  which : (b : Behaviour) (o : Option Offer) (d e : Derivation) (k : Kind) → IsMarkedAs d e → IsSeen program w b o e k → (t : Bool) →
      has_mark e ≡ t → IsWindowed program w b o d k ⊎ ((e : Derivation) × IsMarkedAs d e × IsBeyond program w b o e k)
  which b o d e k marked seen true t = inr (e, marked, (seen, t))
  which b o d e k marked seen false t = inl (subst (λ (x : Derivation). IsWindowed program w b o x k) (own_tree d e marked t) (seen, t))

  meets_at : (a : Action) (offer : Offer) → Meets program.theory a offer →
      (kind_of a ≡ at_gate offer.gate.0) × FieldsMeet program.theory (values_of a) offer.fields
  meets_at Inner offer h = absurd h
  meets_at (Exit values) offer h = absurd h
  meets_at (At place values) offer h = (ap (λ g. at_gate g.0) h.0, h.1)

  seen_as : (b : Behaviour) (d : Derivation) (a : Action) → Loosens unmarked b d a → (o : Option Offer) →
      MeetsIfOffered program.theory a o →
      IsWindowed program w b o d (kind_of a) ⊎ ((e : Derivation) × IsMarkedAs d e × IsBeyond program w b o e (kind_of a))
  seen_as b d a r None h =
      let keep = keep_all_within r.0.fields (values_of a) r.0.stand in
      let q = remark program w r.0.tree b unmarked (kind_of a) r.0.fields keep.keep r.1 keep.may in
      let seen : IsSeen program w b None q.0.tree (kind_of a) =
      record { fields = q.0.fields; derives = q.1; meets = keep.hold q.0.fields q.0.become } in
      which b None d q.0.tree (kind_of a) (marked_twice d r.0.tree q.0.tree r.0.marked q.0.marked) seen (has_mark q.0.tree) refl
  seen_as b d a r (Some offer) h =
      let j = meets_at a offer h in
      let keep = keep_all_for r.0.fields (values_of a) offer.fields r.0.stand j.1 in
      let q = remark program w r.0.tree b unmarked (kind_of a) r.0.fields keep.keep r.1 keep.may in
      let seen : IsSeen program w b (Some offer) q.0.tree (kind_of a) =
      record { fields = q.0.fields; derives = q.1; meets = (j.0, keep.hold q.0.fields q.0.become) } in
      which b (Some offer) d q.0.tree (kind_of a) (marked_twice d r.0.tree q.0.tree r.0.marked q.0.marked) seen (has_mark q.0.tree) refl

pub each_step_is_seen : EachStepIsSeen
each_step_is_seen program n w executable windows b d a c h o meets =
    let fits = executable.fits in
    let beyond = not_complete program.theory executable n w windows in
    seen_as program fits w beyond b d a
    (loosen program fits w beyond d b variable unmarked a c (unmarked_stands program.theory) h) o meets
