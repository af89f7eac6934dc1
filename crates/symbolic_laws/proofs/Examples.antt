-- Worked examples of loosened trees.
use Rattle.std.proofs.Common.{ℕ, ◌≡◌, ◌||◌, refl, sym, ap, not, List, [], ◌∷◌, true, false, if◌then◌else◌}
use Rattle.spec_core.specs.Terms.{variable}
use Rattle.spec_core.specs.Code.{give}
use Rattle.rule_model.specs.declared.rules.Slot.TheVariants.{Of, Mark}
use Rattle.rule_model.specs.Derivations.{pre, val, both}
use Rattle.symbolic_rules.specs.Trees.{is_mark}
use Rattle.symbolic_rules.specs.Windows.{Windows}
use Rattle.symbolic_composites.specs.OpenFields.{is_listed}
use Rattle.symbolic_laws.specs.Loosened.{Marking, no_marks, with_mark, told_in, either_told, loosened_slot}
use Rattle.symbolic_laws.specs.Examples.{ValuesAreLoosened}

module _ (w : Windows) (sort : ℕ) (v : List ℕ) (out : is_listed v (w.values sort) ≡ false) where
  lost : Mark ≡ loosened_slot w sort false (Of v)
  lost = ap (λ b. if b then Of v else Mark) (sym out)

  -- the variable of this number of a choice has a mark
  abbrev marked_at : ℕ → Marking
  marked_at x = with_mark (record { number = x; sort = sort }) (is_mark (loosened_slot w sort false (Of v))) no_marks

pub values_are_loosened : ValuesAreLoosened
values_are_loosened program w g sort v out = record {
  chosen = (
    told_in (marked_at w sort v out 0) (give (variable 0) ∷ []),
    (pre [], ap (λ slot. val slot (pre [])) (lost w sort v out), (refl, refl)),
  );
  taken = (false ∷ [], (ap (λ slot. pre (slot ∷ [])) (lost w sort v out), refl));
  offered = (false ∷ [], (refl, refl));
  hidden = ([], (pre (Mark ∷ []), false ∷ [], refl, (ap (λ slot. pre (slot ∷ [])) (lost w sort v out), refl), refl));
  told = λ c. (
    true ∷ [],
    (pre [], pre (Of v ∷ []), true ∷ [], false ∷ [], refl, (refl, refl), (refl, refl), refl),
  );
  marked =
      let by_left = told_in (marked_at w sort v out 1) (give (variable 1) ∷ []) in (
        either_told by_left (false ∷ []),
        (
          both (pre []) (pre (Mark ∷ [])),
          ap (λ slot. val slot (both (pre []) (pre (Mark ∷ [])))) (lost w sort v out),
          (
            pre [],
            pre (Mark ∷ []),
            by_left,
            false ∷ [],
            refl,
            (refl, refl),
            (
              ap (λ b. pre ((if (not (is_mark (if b then Of v else Mark)) || false) || b then Of v else Mark) ∷ [])) (sym out),
              refl,
            ),
            refl,
          ),
        ),
      );
}
