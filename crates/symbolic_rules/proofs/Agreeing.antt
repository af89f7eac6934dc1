-- Examples of sides that agree.
use Rattle.std.proofs.Common.{ℕ, ◌≡◌, List, [], ◌∷◌, refl, sym, ap, subst, ◌∙◌, Some, None, inl, inr, ◌⊎◌}
use Rattle.std.proofs.lemmas.Bool.{both_ways}
use Rattle.spec_core.specs.Terms.{TermTree, variable, preorder}
use Rattle.spec_core.specs.Theories.{Premise, premise}
use Rattle.spec_core.specs.Code.{Program, Variable}
use Rattle.rule_model.specs.Actions.{Kind, at_gate}
use Rattle.rule_model.specs.Behaviours.{stop, action, guarded}
use Rattle.rule_model.specs.Derivations.{Derivation, pre, chl, chr}
use Rattle.rule_model.specs.Fields.{PremiseHolds}
use Rattle.rule_model.specs.Meets.{result_sort}
use Rattle.rule_model.specs.Substitution.{with_term}
use Rattle.symbolic_rules.specs.Windows.{Windows}
use Rattle.symbolic_rules.specs.MarkedTerms.{plain, mark, unmarked, with_marked, PremiseMayHold}
use Rattle.symbolic_rules.specs.MarkedFields.{MarkedField, told, chosen, given, free, AllAgree}
use Rattle.symbolic_rules.specs.MayDerive.{MayDerive}
use Rattle.symbolic_rules.proofs.Sorts.{sort_of_ground}
use Rattle.symbolic_rules.proofs.Standing.{unmarked_stands, premise_may_hold, with_one_more}
use Rattle.symbolic_rules.proofs.Windows.{spelled_within}
use Rattle.symbolic_rules.proofs.Acting.{premise_holds}
use Rattle.symbolic_rules.specs.Examples.{x_of, y_of, z_of, AgreedValues, CompleteAnswers, GivenMarks, ThreeTake, FalseGuard}
use Rattle.symbolic_rules.proofs.Shapes.{no_field, mark_taken, value_taken, never_agree, of_action, of_choice, of_guarded}
use Rattle.symbolic_rules.proofs.Offering.{offers_value, offers_mark}
use Rattle.symbolic_rules.proofs.Taking.{takes_value, takes_mark}

pub agreed_values : (program : Program) (w : Windows) (g sort : ℕ) → AgreedValues program w g sort
agreed_values program w g sort = record {
  within = λ v s. (
    record {
      fields = told (preorder s.0.0) ∷ [];
      derives = (
        told (preorder s.0.0) ∷ [],
        chosen (preorder s.0.0) ∷ [],
        offers_value program w g sort v s,
        takes_value program w g (y_of sort) None v s.0.0 s.0.1 tt,
        refl,
        ((refl, refl), refl),
      );
      meets = (tt, tt);
    },
    refl,
  );
  beyond = λ e. (
    record {
      fields = given sort ∷ [];
      derives = (
        given sort ∷ [],
        free sort ∷ [],
        offers_mark program w g sort e,
        takes_mark program w g (y_of sort) None e tt,
        refl,
        ((refl, refl), refl),
      );
      meets = (tt, tt);
    },
    refl,
  );
  taken = λ e v s. (
    record {
      fields = chosen (preorder s.0.0) ∷ [];
      derives = (
        given sort ∷ [],
        chosen (preorder s.0.0) ∷ [],
        offers_mark program w g sort e,
        takes_value program w g (y_of sort) None v s.0.0 s.0.1 tt,
        refl,
        ((sort_of_ground program.theory s.0.0 sort s.0.1.of_sort, refl), refl),
      );
      meets = (spelled_within program.theory w v s.0.0 sort s.0.1 s.1, tt);
    },
    refl,
  );
}

pub complete_answers : (program : Program) (w : Windows) (g f sort other : ℕ) → CompleteAnswers program w g f sort other
complete_answers program w g f sort other = record {
  beyond = λ result e v s. (
    record {
      fields = chosen (preorder s.0.0) ∷ [];
      derives = (
        given (result_sort program.theory f) ∷ [],
        chosen (preorder s.0.0) ∷ [],
        (
          mark sort,
          (e, refl),
          tt,
          (
            with_marked (x_of sort) (mark sort) unmarked,
            refl,
            ((mark (result_sort program.theory f), refl, refl), refl),
            tt,
          ),
        ),
        takes_value program w g (y_of other) None v s.0.0 s.0.1 tt,
        refl,
        ((sort_of_ground program.theory s.0.0 other s.0.1.of_sort ∙ sym result, refl), refl),
      );
      meets = (spelled_within program.theory w v s.0.0 other s.0.1 s.1, tt);
    },
    refl,
  );
  no_mark = λ complete o d k h.
      let t = mark_taken program.theory w unmarked unmarked h.derives.3.0 (y_of other) h.derives.1 h.derives.3.2 in
      both_ways (w.complete other) t.0 complete;
}

pub given_marks : (program : Program) (w : Windows) (g sort : ℕ) (e : TermTree) → GivenMarks program w g sort e
given_marks program w g sort e = record {
  beyond = λ c v s. (
    record {
      fields = chosen (preorder s.0.0) ∷ [];
      derives = (
        given sort ∷ [],
        chosen (preorder s.0.0) ∷ [],
        (
          given sort ∷ [],
          free sort ∷ [],
          offers_mark program w g sort c,
          takes_mark program w g (y_of sort) (Some (premise (variable 1) e)) c tt,
          refl,
          ((refl, refl), refl),
        ),
        takes_value program w g (z_of sort) None v s.0.0 s.0.1 tt,
        refl,
        ((sort_of_ground program.theory s.0.0 sort s.0.1.of_sort, refl), refl),
      );
      meets = (spelled_within program.theory w v s.0.0 sort s.0.1 s.1, tt);
    },
    refl,
  );
  not_seen = λ o v d k h.
      let right = h.derives.3 in
      let y = mark_taken program.theory w unmarked unmarked right.2.0 (y_of sort) right.0 right.2.2 in
      let z = value_taken program.theory w unmarked unmarked right.3.0 (z_of sort) v right.1 right.3.2 in
      never_agree program.theory w sort (preorder z.0) h.derives.1
      (subst (λ (l : List MarkedField). AllAgree program.theory (free sort ∷ []) l h.derives.1) z.1
      (subst (λ (l : List MarkedField). AllAgree program.theory l right.1 h.derives.1) y.1 right.5));
}

-- where a predicate holds with a value for a variable, it may hold
holds_of : (program : Program) (n : TermTree) (x : Variable) (p : Premise) →
    PremiseHolds program.theory (with_term x n variable) p → PremiseMayHold program.theory (with_marked x (plain n) unmarked) p
holds_of program n x p h =
    premise_may_hold program.theory (with_marked x (plain n) unmarked) (with_term x n variable)
    (with_one_more program.theory unmarked variable (unmarked_stands program.theory) x (plain n) n refl) p h

pub three_take : (program : Program) (w : Windows) (g sort : ℕ) (p q : Premise) → ThreeTake program w g sort p q
three_take program w g sort p q = record {
  windowed = λ v n spells c holds holds_too.
      let at = sort_of_ground program.theory n sort spells.of_sort in
      let may = holds_of program n in (
        record {
          fields = chosen (preorder n) ∷ [];
          derives = (
            chosen (preorder n) ∷ [],
            chosen (preorder n) ∷ [],
            (
              chosen (preorder n) ∷ [],
              chosen (preorder n) ∷ [],
              takes_value program w g (x_of sort) None v n spells tt,
              takes_value program w g (y_of sort) (Some p) v n spells (may (y_of sort) p holds),
              refl,
              ((refl, refl), refl),
            ),
            takes_value program w g (z_of sort) (Some q) v n spells (may (z_of sort) q holds_too),
            refl,
            ((refl, refl), refl),
          );
          meets = (refl, ((at, spelled_within program.theory w v n sort spells c), tt));
        },
        refl,
      );
}

pub false_guard : (program : Program) (w : Windows) (a b : ℕ) (p : Premise) → FalseGuard program w a b p
false_guard program w a b p = record {
  only = λ fails o d k h. let c = of_choice program w unmarked _ _ d k h.fields h.derives in by_side fails d k h.fields c.0 c.1;
}
  where
    by_side : (PremiseHolds program.theory variable p → ⊥) → (d : Derivation) (k : Kind) (fs : List MarkedField) (e : Derivation) →
        (d ≡ chl e) × MayDerive program w (guarded p (action a [] None stop)) e k fs ⊎
        (d ≡ chr e) × MayDerive program w (action b [] None stop) e k fs →
        (d ≡ chr (pre [])) × (k ≡ at_gate b)
    by_side fails d k fs e (inl h) =
        absurd (fails (premise_holds program.theory unmarked variable (λ x. refl) p (of_guarded program w unmarked p _ e k fs h.1)))
    by_side fails d k fs e (inr h) =
        let r = of_action program w unmarked b _ None _ e k fs h.1 in
        let none = no_field program.theory w unmarked unmarked r.1 r.0 fs r.4 in
        (h.0 ∙ ap chr (r.2 ∙ ap pre none), r.3)
