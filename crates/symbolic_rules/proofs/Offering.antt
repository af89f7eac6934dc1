-- Examples of choices of values.
use Rattle.std.proofs.Common.{ℕ, ◌≡◌, List, [], ◌∷◌, refl, sym, ap, subst, ◌∙◌, inl, inr, arith, Bool, true, false, Some, None}
use Rattle.std.proofs.Common.{Contains}
use Rattle.spec_core.specs.Terms.{TermTree, variable, preorder}
use Rattle.spec_core.specs.Executable.{IsExecutable}
use Rattle.spec_core.specs.Code.{Program}
use Rattle.data_laws.proofs.Whole.{equality_is_of_values}
use Rattle.rule_model.specs.declared.rules.Slot.{Slot}
use Rattle.rule_model.specs.declared.rules.Slot.TheVariants.{Of, Mark, Blank}
use Rattle.rule_model.specs.Actions.{Kind, at_gate}
use Rattle.rule_model.specs.Derivations.{Derivation, pre, val}
use Rattle.symbolic_rules.specs.Windows.{Windows}
use Rattle.symbolic_rules.specs.MarkedTerms.{MarkedTerm, plain, mark, unmarked, with_marked, MayHaveValue}
use Rattle.symbolic_rules.specs.MarkedFields.{MarkedField, told, given, told_by, chosen_by, IsWithin, Chooses}
use Rattle.symbolic_rules.specs.MayDerive.{MayDerive}
use Rattle.symbolic_rules.specs.Trees.{FieldsMayMeet, has_mark, IsWindowed}
use Rattle.symbolic_rules.proofs.Sorts.{sort_of_ground}
use Rattle.symbolic_rules.proofs.Windows.{spelled_within}
use Rattle.symbolic_rules.specs.Examples.{x_of, offering, choosing, offer_of, IsShown, ShowsOne, ShowsWindow, EmptySort, OfferOfValue}
use Rattle.symbolic_rules.specs.Examples.{GuardedMark}
use Rattle.symbolic_rules.proofs.Shapes.{own_value, no_field, one_given, shows_one, of_action, of_value_choice}

module _ (program : Program) (w : Windows) (g sort : ℕ) where
  -- by the tree of a value the behaviour gives it
  abbrev pub offers_value : (v : List ℕ) → (s : IsShown program w sort v) →
      MayDerive program w (offering g sort (variable 0)) (val (Of v) (pre [])) (at_gate g) (told (preorder s.0.0) ∷ [])
  offers_value v s =
      let n = s.0.0 in (
        plain n,
        (n, s.0.1, refl),
        spelled_within program.theory w v n sort s.0.1 s.1,
        (
          with_marked (x_of sort) (plain n) unmarked,
          refl,
          ((plain n, (n, own_value program.theory v n sort s.0.1, refl), refl), refl),
          tt,
        ),
      )

  -- by the tree of the mark it gives any value of the sort
  abbrev pub offers_mark : w.complete sort ≡ false →
      MayDerive program w (offering g sort (variable 0)) (val Mark (pre [])) (at_gate g) (given sort ∷ [])
  offers_mark e =
      (mark sort, (e, refl), tt, (with_marked (x_of sort) (mark sort) unmarked, refl, ((mark sort, refl, refl), refl), tt))

  -- it has no other tree
  pub record Offers (d : Derivation) (k : Kind) (fs : List MarkedField) : Type 0 where
    pub slot : Slot
    pub chosen : MarkedTerm
    pub chooses : Chooses program.theory w slot sort chosen
    pub within : IsWithin program.theory w (chosen_by chosen)
    pub tree : d ≡ val slot (pre [])
    pub at : k ≡ at_gate g
    pub value : MarkedTerm
    pub has : MayHaveValue program.theory chosen value
    pub told : fs ≡ told_by value ∷ []

  offers_only : (d : Derivation) (k : Kind) (fs : List MarkedField) → MayDerive program w (offering g sort (variable 0)) d k fs →
      Offers d k fs
  offers_only d k fs h =
      let c = of_value_choice program w unmarked (x_of sort) _ d k fs h in
      let a = of_action program w (with_marked (x_of sort) c.2 unmarked) g _ None _ c.1 k fs c.6 in
      let f = one_given program.theory w (with_marked (x_of sort) c.2 unmarked) _ a.1 (variable 0) a.0 fs a.4 in
      record {
        slot = c.0;
        chosen = c.2;
        chooses = c.4;
        within = c.5;
        tree = c.3 ∙ ap (val c.0) (a.2 ∙ ap pre f.0);
        at = a.3;
        value = f.1;
        has = f.2;
        told = f.3;
      }

  pub offered_values : ShowsWindow program w sort (offering g sort (variable 0)) (at_gate g) (λ slot. val slot (pre []))
  offered_values = record {
    within = λ v s. (record { fields = told (preorder s.0.0) ∷ []; derives = offers_value v s; meets = (tt, tt) }, refl);
    beyond = λ e. (record { fields = given sort ∷ []; derives = offers_mark e; meets = (tt, tt) }, refl);
    no_other = λ d k h.
        let s = offers_only d k h.fields h.derives in
        shows_one program w (λ slot. val slot (pre [])) d s.slot sort s.chosen s.chooses s.within s.tree;
  }

  -- only the value that is chosen is given, so an offer of another one isn't met
  marked_tree : (d : Derivation) → d ≡ val Mark (pre []) → has_mark d ≡ false → ⊥
  marked_tree d e u = let marked : true ≡ false = subst (λ (t : Derivation). has_mark t ≡ false) e u in absurd cc

  meets_value : (v : List ℕ) (u : MarkedTerm) (n : TermTree) (fs : List MarkedField) → fs ≡ told_by u ∷ [] → u ≡ plain n →
      FieldsMayMeet program.theory w fs (offer_of g v).fields → preorder n ≡ v
  meets_value v u n fs e i h =
      (subst (λ (x : MarkedTerm). FieldsMayMeet program.theory w (told_by x ∷ []) (offer_of g v).fields) i
      (subst (λ (l : List MarkedField). FieldsMayMeet program.theory w l (offer_of g v).fields) e h)).0

  not_windowed : (v : List ℕ) → IsExecutable program.theory → (Contains (w.values sort) v → ⊥) → (d : Derivation) (k : Kind) →
      IsWindowed program w (offering g sort (variable 0)) (Some (offer_of g v)) d k → ⊥
  not_windowed v executable out d k h =
      let s = offers_only d k h.0.fields h.0.derives in by_slot s s.slot s.chooses s.tree
    where
      -- the value of the expression is the chosen value itself
      by_slot : (s : Offers d k h.0.fields) (slot : Slot) → Chooses program.theory w slot sort s.chosen → d ≡ val slot (pre []) → ⊥
      by_slot s (Of u) c e =
          let has = subst (λ (x : MarkedTerm). MayHaveValue program.theory x s.value) c.2 s.has in
          let own = own_value program.theory u c.0 sort c.1 in
          let same : c.0 ≡ has.0 =
          (equality_is_of_values program.theory executable c.0 c.0 c.0 has.0 own has.1).0 own.equal in
          let at : preorder has.0 ≡ v = meets_value v s.value has.0 h.0.fields s.told has.2 h.0.meets.1 in
          let inside = subst (λ (x : MarkedTerm). IsWithin program.theory w (chosen_by x)) c.2 s.within in
          let at_sort = sort_of_ground program.theory c.0 sort c.1.of_sort in
          let listed = subst (λ (i : ℕ). Contains (w.values i) (preorder c.0)) at_sort inside in
          out (subst (Contains (w.values sort)) (ap preorder same ∙ at) listed)
      by_slot s Mark c e = marked_tree d e h.1
      by_slot s Blank c e = absurd c

  pub offer_of_value : (v : List ℕ) → OfferOfValue program w g sort v
  offer_of_value v = record {
    within = λ s. (
      record { fields = told (preorder s.0.0) ∷ []; derives = offers_value v s; meets = (refl, (sym s.0.1.spelled, tt)) },
      refl,
    );
    beyond = λ at e. (record { fields = given sort ∷ []; derives = offers_mark e; meets = (refl, (at, tt)) }, refl);
    not_windowed = not_windowed v;
  }

  pub unused_values : ShowsWindow program w sort (choosing g sort) (at_gate g) (λ slot. val slot (pre []))
  unused_values = record {
    within = λ v s. (
      record {
        fields = [];
        derives = (
          plain s.0.0,
          (s.0.0, s.0.1, refl),
          spelled_within program.theory w v s.0.0 sort s.0.1 s.1,
          (with_marked (x_of sort) (plain s.0.0) unmarked, refl, refl, tt),
        );
        meets = tt;
      },
      refl,
    );
    beyond = λ e. (
      record {
        fields = [];
        derives = (mark sort, (e, refl), tt, (with_marked (x_of sort) (mark sort) unmarked, refl, refl, tt));
        meets = tt;
      },
      refl,
    );
    no_other = λ d k h.
        let c = of_value_choice program w unmarked (x_of sort) _ d k h.fields h.derives in
        let a = of_action program w (with_marked (x_of sort) c.2 unmarked) g _ None _ c.1 k h.fields c.6 in
        let none = no_field program.theory w (with_marked (x_of sort) c.2 unmarked) _ a.1 a.0 h.fields a.4 in
        shows_one program w (λ slot. val slot (pre [])) d c.0 sort c.2 c.4 c.5 (c.3 ∙ ap (val c.0) (a.2 ∙ ap pre none));
  }

  no_both : (b : Bool) → b ≡ true → b ≡ false → ⊥
  no_both b h k = cc

  pub empty_sort : EmptySort program w g sort
  empty_sort = record { none = λ empty complete d k h. nothing empty complete d (unused_values.no_other d k h) }
    where
      nothing : w.values sort ≡ [] → w.complete sort ≡ true → (d : Derivation) →
          ShowsOne program w sort (λ slot. val slot (pre [])) d → ⊥
      nothing empty complete d (inl s) =
          let listed = subst (λ (l : List (List ℕ)). Contains l s.0) empty s.1.1 in
          let l = listed.1 in
          omega arith
      nothing empty complete d (inr s) = no_both (w.complete sort) complete s.0

-- the mark for x passes the guard
pub guarded_mark : (program : Program) (w : Windows) (sort : ℕ) (e : TermTree) → GuardedMark program w sort e
guarded_mark program w sort e = record {
  beyond = λ c. (record { fields = []; derives = (mark sort, (c, refl), tt, (tt, (refl, refl))); meets = tt }, refl);
}
