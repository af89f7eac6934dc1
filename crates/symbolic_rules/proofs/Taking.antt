-- Examples of values that are taken.
use Rattle.std.proofs.Common.{ℕ, ◌≡◌, ◌⊎◌, List, [], ◌∷◌, refl, sym, ap, subst, ◌∙◌, inl, inr, Bool, true, false, if◌then◌else◌}
use Rattle.std.proofs.Common.{Option, None}
use Rattle.std.proofs.lemmas.Bool.{eq-eqb}
use Rattle.spec_core.specs.Lists.{Each}
use Rattle.spec_core.specs.Terms.{TermTree, preorder}
use Rattle.spec_core.specs.Theories.{Premise}
use Rattle.spec_core.specs.Code.{Program, Variable}
use Rattle.rule_model.specs.declared.rules.Slot.TheVariants.{Of, Mark}
use Rattle.rule_model.specs.Actions.{Kind, at_gate, inside, among, IsUnhidden}
use Rattle.rule_model.specs.Derivations.{Derivation, pre, hiding, pass}
use Rattle.rule_model.specs.Fields.{Spells}
use Rattle.symbolic_rules.specs.Windows.{Windows}
use Rattle.symbolic_rules.specs.MarkedTerms.{plain, mark, unmarked, with_marked, GuardMayHold}
use Rattle.symbolic_rules.specs.MarkedFields.{MarkedField, chosen, free, IsWithin}
use Rattle.symbolic_rules.specs.MayDerive.{MayDerive}
use Rattle.symbolic_rules.proofs.Windows.{spelled_within}
use Rattle.symbolic_rules.specs.Examples.{x_of, taking, taking_inside, ShowsOne, ShowsWindow, OfferGives}
use Rattle.symbolic_rules.proofs.Shapes.{one_taken, shows_one, shows_under, of_action, of_hide}

module _ (program : Program) (w : Windows) (g : ℕ) (x : Variable) (p : Option Premise) where
  -- it takes a value of the sort, or has its mark, where the predicate may hold
  abbrev pub takes_value : (v : List ℕ) (n : TermTree) → Spells program.theory v n x.sort →
      GuardMayHold program.theory (with_marked x (plain n) unmarked) p →
      MayDerive program w (taking g x p) (pre (Of v ∷ [])) (at_gate g) (chosen (preorder n) ∷ [])
  takes_value v n spells holds = (with_marked x (plain n) unmarked, refl, (plain n, (n, spells, refl), refl, refl), holds)

  abbrev pub takes_mark : w.complete x.sort ≡ false → GuardMayHold program.theory (with_marked x (mark x.sort) unmarked) p →
      MayDerive program w (taking g x p) (pre (Mark ∷ [])) (at_gate g) (free x.sort ∷ [])
  takes_mark e holds = (with_marked x (mark x.sort) unmarked, refl, (mark x.sort, (e, refl), refl, refl), holds)

module _ (program : Program) (w : Windows) (g sort : ℕ) where
  -- where nothing is given, what is taken is a value of the window, or the mark
  shape : (d : Derivation) (k : Kind) (fs : List MarkedField) → MayDerive program w (taking g (x_of sort) None) d k fs →
      Each (IsWithin program.theory w) fs → ShowsOne program w sort (λ slot. pre (slot ∷ [])) d
  shape d k fs h within =
      let a = of_action program w unmarked g _ None _ d k fs h in
      let t = one_taken program.theory w unmarked unmarked a.1 (x_of sort) a.0 fs a.4 in
      let inside = (subst (Each (IsWithin program.theory w)) t.4 within).0 in
      shows_one program w (λ slot. pre (slot ∷ [])) d t.0 sort t.1 t.3 inside (a.2 ∙ ap pre t.2)

  pub taken_values : ShowsWindow program w sort (taking g (x_of sort) None) (at_gate g) (λ slot. pre (slot ∷ []))
  taken_values = record {
    within = λ v s. (
      record {
        fields = chosen (preorder s.0.0) ∷ [];
        derives = takes_value program w g (x_of sort) None v s.0.0 s.0.1 tt;
        meets = (spelled_within program.theory w v s.0.0 sort s.0.1 s.1, tt);
      },
      refl,
    );
    beyond = λ e. (
      record { fields = free sort ∷ []; derives = takes_mark program w g (x_of sort) None e tt; meets = (tt, tt) },
      refl,
    );
    no_other = λ d k h. shape d k h.fields h.derives h.meets;
  }

  pub offer_gives : OfferGives program w g sort
  offer_gives = record {
    windowed = λ v n spells. (
      record {
        fields = chosen (preorder n) ∷ [];
        derives = takes_value program w g (x_of sort) None v n spells tt;
        meets = (refl, (sym spells.spelled, tt));
      },
      refl,
    );
  }

  hidden : among g (g ∷ []) ≡ true
  hidden = ap (λ (b : Bool). if b then true else false) (eq-eqb g g refl)

  not_unhidden : (k : Kind) → k ≡ at_gate g → IsUnhidden (g ∷ []) k → ⊥
  not_unhidden k e h =
      let no : true ≡ false = sym hidden ∙ subst (IsUnhidden (g ∷ [])) e h in absurd cc

  pub hidden_values : ShowsWindow program w sort (taking_inside g sort) inside (λ slot. hiding (pre (slot ∷ [])))
  hidden_values = record {
    within = λ v s. (
      record {
        fields = [];
        derives = (
          g,
          chosen (preorder s.0.0) ∷ [],
          takes_value program w g (x_of sort) None v s.0.0 s.0.1 tt,
          hidden,
          (spelled_within program.theory w v s.0.0 sort s.0.1 s.1, tt),
          refl,
          refl,
        );
        meets = tt;
      },
      refl,
    );
    beyond = λ e. (
      record {
        fields = [];
        derives = (g, free sort ∷ [], takes_mark program w g (x_of sort) None e tt, hidden, (tt, tt), refl, refl);
        meets = tt;
      },
      refl,
    );
    no_other = λ d k h. let r = of_hide program w unmarked (g ∷ []) _ d k h.fields h.derives in by_row d k h.fields r.0 r.1;
  }
    where
      by_row : (d : Derivation) (k : Kind) (fs : List MarkedField) (e : Derivation) →
          ((i : ℕ) × (gs : List MarkedField) × (d ≡ hiding e) × MayDerive program w (taking g (x_of sort) None) e (at_gate i) gs ×
          Each (IsWithin program.theory w) gs) ⊎
          ((d ≡ pass e) × MayDerive program w (taking g (x_of sort) None) e k fs × IsUnhidden (g ∷ []) k) →
          ShowsOne program w sort (λ slot. hiding (pre (slot ∷ []))) d
      by_row d k fs e (inl r) =
          shows_under program w hiding (λ slot. pre (slot ∷ [])) d e sort r.2 (shape e (at_gate r.0) r.1 r.3 r.4)
      by_row d k fs e (inr r) = let a = of_action program w unmarked g _ None _ e k fs r.1 in absurd (not_unhidden k a.3 r.2)
