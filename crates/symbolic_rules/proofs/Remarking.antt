-- A tree with more marks: values that are only chosen, and that nothing gives, become marks all over the tree.
use Rattle.std.proofs.Common.{◌≡◌, List, [], ◌∷◌, refl, sym, subst, inl, Bool}
use Rattle.spec_core.specs.Theories.{Theory}
use Rattle.spec_core.specs.Code.{Program}
use Rattle.rule_model.specs.Actions.{Kind, pairs_of}
use Rattle.rule_model.specs.Behaviours.{Behaviour, exit, inner, action, choice, guarded, bound, value_choice, gate_choice, parallel}
use Rattle.rule_model.specs.Behaviours.{hide, enable, disable, call, relabel}
use Rattle.rule_model.specs.Derivations.{Derivation, pre, int, exiting, chl, chr, val, gate, guard, letting, parl, parr, both, hiding, pass}
use Rattle.rule_model.specs.Derivations.{enstep, enend, disstep, disend, distake, calling, rel}
use Rattle.symbolic_rules.specs.Windows.{Windows}
use Rattle.symbolic_rules.specs.MarkedTerms.{MarkedAssignment, with_marked}
use Rattle.symbolic_rules.specs.MarkedFields.{MarkedField}
use Rattle.symbolic_rules.specs.MayDerive.{MayDeriveWith}
use Rattle.symbolic_rules.specs.Trees.{IsMarkedAs}
use Rattle.symbolic_rules.proofs.Marks.{same_tree}
use Rattle.symbolic_rules.proofs.Dropping.{AreKeptOrMay, Become, none_become, same_looser, guard_looser, drop_fields, drop_exit, all_kept}
use Rattle.symbolic_rules.proofs.Dropping.{all_still_agree}

-- a tree with more marks, and what becomes of the fields of its action
pub record Remarked (theory : Theory) (d : Derivation) (keep : List Bool) (fs : List MarkedField) : Type 0 where
  pub tree : Derivation
  pub fields : List MarkedField
  pub marked : IsMarkedAs d tree
  pub become : Become theory keep fs fields

-- the same below one more rule
abbrev pub under : {theory : Theory} {keep : List Bool} {fs : List MarkedField} {d : Derivation} (row : Derivation → Derivation) →
    ((t : Derivation) → IsMarkedAs d t → IsMarkedAs (row d) (row t)) → Remarked theory d keep fs → Remarked theory (row d) keep fs
under row marks r = record { tree = row r.tree; fields = r.fields; marked = marks r.tree r.marked; become = r.become }

-- nothing changes where the action has no field
abbrev pub unchanged : (theory : Theory) (w : Windows) (d : Derivation) (keep : List Bool) (fs : List MarkedField) → fs ≡ [] →
    AreKeptOrMay theory w keep fs → Remarked theory d keep fs
unchanged theory w d keep fs e h = record {
  tree = d;
  fields = fs;
  marked = same_tree d;
  become = subst (λ (l : List MarkedField). Become theory keep l l) (sym e)
      (none_become theory w keep (subst (AreKeptOrMay theory w keep) e h));
}

module _ (program : Program) (w : Windows) where
  abbrev pub MayStillDerive : MarkedAssignment → Behaviour → Derivation → Kind → List MarkedField → List Bool → Type 0
  MayStillDerive m b d k fs keep = (r : Remarked program.theory d keep fs) × MayDeriveWith program w m b r.tree k r.fields

  -- each field that isn't kept is a mark, and the behaviour may still do an action of this kind
  pub remark : (d : Derivation) (b : Behaviour) (m : MarkedAssignment) (k : Kind) (fs : List MarkedField) (keep : List Bool) →
      MayDeriveWith program w m b d k fs → AreKeptOrMay program.theory w keep fs → MayStillDerive m b d k fs keep
  remark (pre slots) (action g fields p rest) m k fs keep h j =
      let r = drop_fields program.theory w m fields slots fs keep m m h.0 (λ x. same_looser (m x)) h.2 j in (
        record { tree = pre r.0; fields = r.1; marked = (r.0, refl, r.3); become = r.4 },
        (r.2, h.1, r.5, guard_looser program.theory r.2 h.0 r.6 p h.3),
      )
  remark int (inner rest) m k fs keep h j = (unchanged program.theory w int keep fs h.1 j, h)
  remark (exiting slots) (exit fields) m k fs keep h j =
      let r = drop_exit program.theory w m fields slots fs keep h.1 j in
      (record { tree = exiting r.0; fields = r.1; marked = (r.0, refl, r.2); become = r.3 }, (h.0, r.4))
  remark (chl d) (choice x y) m k fs keep h j = let r = remark d x m k fs keep h j in (under chl (λ t i. (t, refl, i)) r.0, r.1)
  remark (chr d) (choice x y) m k fs keep h j = let r = remark d y m k fs keep h j in (under chr (λ t i. (t, refl, i)) r.0, r.1)
  remark (val slot d) (value_choice x body) m k fs keep h j =
      let r = remark d body (with_marked x h.0 m) k fs keep h.3 j in
      (under (val slot) (λ t i. (slot, t, refl, inl refl, i)) r.0, (h.0, h.1, h.2, r.1))
  remark (gate n d) (gate_choice g gates body) m k fs keep h j =
      let r = remark d (relabel (record { from = g; to = h.1 } ∷ []) body) m k fs keep h.4 j in
      (under (gate n) (λ t i. (t, refl, i)) r.0, (h.0, h.1, h.2, h.3, r.1))
  remark (guard d) (guarded p body) m k fs keep h j =
      let r = remark d body m k fs keep h.1 j in (under guard (λ t i. (t, refl, i)) r.0, (h.0, r.1))
  remark (letting d) (bound bindings body) m k fs keep h j =
      let r = remark d body h.0 k fs keep h.2 j in (under letting (λ t i. (t, refl, i)) r.0, (h.0, h.1, r.1))
  remark (parl d) (parallel gates x y) m k fs keep h j =
      let r = remark d x m k fs keep h.0 j in (under parl (λ t i. (t, refl, i)) r.0, (r.1, h.1))
  remark (parr d) (parallel gates x y) m k fs keep h j =
      let r = remark d y m k fs keep h.0 j in (under parr (λ t i. (t, refl, i)) r.0, (r.1, h.1))
  remark (both d e) (parallel gates x y) m k fs keep h j =
      let kept = all_kept program.theory w keep h.0 h.1 fs h.5 j in
      let r = remark d x m k h.0 keep h.2 kept.0 in
      let s = remark e y m k h.1 keep h.3 kept.1 in
      let agree = all_still_agree program.theory w keep h.0 h.1 fs r.0.fields s.0.fields h.5 j r.0.become s.0.become in (
        record {
          tree = both r.0.tree s.0.tree;
          fields = agree.0;
          marked = (r.0.tree, s.0.tree, refl, r.0.marked, s.0.marked);
          become = agree.2;
        },
        (r.0.fields, s.0.fields, r.1, s.1, h.4, agree.1),
      )
  remark (hiding d) (hide gates body) m k fs keep h j = (unchanged program.theory w (hiding d) keep fs h.6 j, h)
  remark (pass d) (hide gates body) m k fs keep h j =
      let r = remark d body m k fs keep h.0 j in (under pass (λ t i. (t, refl, i)) r.0, (r.1, h.1))
  remark (enstep d) (enable x xs y) m k fs keep h j =
      let r = remark d x m k fs keep h.0 j in (under enstep (λ t i. (t, refl, i)) r.0, (r.1, h.1))
  remark (enend d) (enable x xs y) m k fs keep h j = (unchanged program.theory w (enend d) keep fs h.5 j, h)
  remark (disstep d) (disable x y) m k fs keep h j =
      let r = remark d x m k fs keep h.0 j in (under disstep (λ t i. (t, refl, i)) r.0, (r.1, h.1))
  remark (disend d) (disable x y) m k fs keep h j =
      let r = remark d x m k fs keep h.0 j in (under disend (λ t i. (t, refl, i)) r.0, (r.1, h.1))
  remark (distake d) (disable x y) m k fs keep h j =
      let r = remark d y m k fs keep h j in (under distake (λ t i. (t, refl, i)) r.0, r.1)
  remark (calling d) (call p actual terms) m k fs keep h j =
      let r = remark d (relabel (pairs_of h.0 actual) h.2) h.3 k fs keep h.6 j in
      (under calling (λ t i. (t, refl, i)) r.0, (h.0, h.1, h.2, h.3, h.4, h.5, r.1))
  remark (rel d) (relabel pairs body) m k fs keep h j =
      let r = remark d body m h.0 fs keep h.1 j in (under rel (λ t i. (t, refl, i)) r.0, (h.0, r.1, h.2))
  remark _ _ m k fs keep h j = absurd h
