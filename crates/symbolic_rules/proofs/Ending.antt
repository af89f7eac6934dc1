-- Examples of values that a termination hands on.
use Rattle.std.proofs.Common.{ℕ, ◌≡◌, ◌⊎◌, List, [], ◌∷◌, refl, ap, subst, ◌∙◌, inl, inr}
use Rattle.spec_core.specs.Lists.{Each}
use Rattle.spec_core.specs.Terms.{preorder}
use Rattle.spec_core.specs.Code.{Program, exit_any}
use Rattle.rule_model.specs.Actions.{Kind, inside, ends, IsNoEnd}
use Rattle.rule_model.specs.Behaviours.{exit}
use Rattle.rule_model.specs.Derivations.{Derivation, exiting, enstep, enend}
use Rattle.symbolic_rules.specs.Windows.{Windows}
use Rattle.symbolic_rules.specs.MarkedTerms.{plain, mark, unmarked}
use Rattle.symbolic_rules.specs.MarkedFields.{MarkedField, told, chosen, free, IsWithin}
use Rattle.symbolic_rules.specs.MayDerive.{MayDerive}
use Rattle.symbolic_rules.proofs.Sorts.{sort_of_ground}
use Rattle.symbolic_rules.proofs.Windows.{spelled_within}
use Rattle.symbolic_rules.specs.Examples.{handing_on, ShowsOne, ShowsWindow, GivenValues}
use Rattle.symbolic_rules.proofs.Shapes.{one_any, shows_one, shows_under, of_exit, of_enable}

module _ (program : Program) (w : Windows) (sort : ℕ) where
  -- what `exit(any S)` chooses is a value of the window, or the mark
  shape : (d : Derivation) (k : Kind) (fs : List MarkedField) → MayDerive program w (exit (exit_any sort ∷ [])) d k fs →
      Each (IsWithin program.theory w) fs → ShowsOne program w sort (λ slot. exiting (slot ∷ [])) d
  shape d k fs h within =
      let a = of_exit program w unmarked _ d k fs h in
      let t = one_any program.theory w unmarked sort a.0 fs a.3 in
      let inside = (subst (Each (IsWithin program.theory w)) t.4 within).0 in
      shows_one program w (λ slot. exiting (slot ∷ [])) d t.0 sort t.1 t.3 inside (a.1 ∙ ap exiting t.2)

  not_ending : (k : Kind) → k ≡ ends → IsNoEnd k → ⊥
  not_ending k e h = subst IsNoEnd e h

  pub handed_values : ShowsWindow program w sort (handing_on sort) inside (λ slot. enend (exiting (slot ∷ [])))
  handed_values = record {
    within = λ v s. (
      record {
        fields = [];
        derives = (
          chosen (preorder s.0.0) ∷ [],
          (refl, ((plain s.0.0, (s.0.0, s.0.1, refl), refl), tt)),
          (sort_of_ground program.theory s.0.0 sort s.0.1.of_sort, tt),
          (spelled_within program.theory w v s.0.0 sort s.0.1 s.1, tt),
          refl,
          refl,
        );
        meets = tt;
      },
      refl,
    );
    beyond = λ e. (
      record {
        fields = [];
        derives = (free sort ∷ [], (refl, ((mark sort, (e, refl), refl), tt)), (refl, tt), (tt, tt), refl, refl);
        meets = tt;
      },
      refl,
    );
    no_other = λ d k h. let r = of_enable program w unmarked _ _ _ d k h.fields h.derives in by_row d k h.fields r.0 r.1;
  }
    where
      by_row : (d : Derivation) (k : Kind) (fs : List MarkedField) (e : Derivation) →
          ((gs : List MarkedField) × (d ≡ enend e) × MayDerive program w (exit (exit_any sort ∷ [])) e ends gs ×
          Each (IsWithin program.theory w) gs) ⊎
          ((d ≡ enstep e) × MayDerive program w (exit (exit_any sort ∷ [])) e k fs × IsNoEnd k) →
          ShowsOne program w sort (λ slot. enend (exiting (slot ∷ []))) d
      by_row d k fs e (inl r) = shows_under program w enend (λ slot. exiting (slot ∷ [])) d e sort r.1 (shape e ends r.0 r.2 r.3)
      by_row d k fs e (inr r) = let a = of_exit program w unmarked _ e k fs r.1 in absurd (not_ending k a.2 r.2)

-- each side gives what the other one chooses
pub given_values : (program : Program) (w : Windows) (sort c e other : ℕ) → GivenValues program w sort c e other
given_values program w sort c e other = record {
  windowed = λ u v n m gives spells gives_other spells_other. (
    record {
      fields = [];
      derives = (
        told (preorder n) ∷ told (preorder m) ∷ [],
        (
          chosen (preorder n) ∷ told (preorder m) ∷ [],
          told (preorder n) ∷ chosen (preorder m) ∷ [],
          (refl, ((plain n, (n, spells, refl), refl), ((plain m, (m, gives_other, refl), refl), tt))),
          (refl, ((plain n, (n, gives, refl), refl), ((plain m, (m, spells_other, refl), refl), tt))),
          tt,
          ((refl, refl), ((refl, refl), refl)),
        ),
        (
          sort_of_ground program.theory n sort spells.of_sort,
          (sort_of_ground program.theory m other spells_other.of_sort, tt),
        ),
        (tt, (tt, tt)),
        refl,
        refl,
      );
      meets = tt;
    },
    refl,
  );
}
