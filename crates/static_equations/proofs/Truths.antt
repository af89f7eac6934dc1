-- What is added for an expression that is to be true.
use Rattle.std.proofs.Common.{◌≡◌, List, ◌++◌, Option, Some, None}
use Rattle.std.specs.Prelude.{option_map}
use Rattle.lotos_ast.specs.declared.place.Place.{Place}
use Rattle.lotos_ast.specs.declared.refusal.Refusal.{Refusal}
use Rattle.spec_core.specs.declared.items.Sort.{Sort}
use Rattle.spec_core.specs.Theories.{premise}
use Rattle.sort_overloads.specs.Expressions.{Expression}
use Rattle.sort_overloads.specs.Judged.{Adds, IsJudged}
use Rattle.sort_overloads.specs.Listed.{Typed}
use Rattle.sort_overloads.specs.Readings.{Context}
use Rattle.sort_overloads.specs.Refused.{unknowns}
use Rattle.static_equations.specs.Premisses.{or_no_reading, IsTruthJudged, by_truth, without}
use Rattle.static_equations.specs.Truths.{truth}

module _ (c : Context) (e : Expression) (place : Place) (old now : List Refusal) where
  pub no-truth : truth c ≡ None → now ≡ old ++ or_no_reading place (unknowns c e) → Adds (IsTruthJudged c e place None) old now
  no-truth none added = record { refusals = or_no_reading place (unknowns c e); such = without none; behind = added }

  pub with-truth : (t : Typed) (sort : Sort) (found : Option Typed) → truth c ≡ Some t → sort.0 ≡ t.sort → Adds (IsJudged c e (Some sort) place found) old now →
      Adds (IsTruthJudged c e place (option_map (λ x. premise x.term t.term) found)) old now
  with-truth t sort found is same h = record { refusals = h.refusals; such = by_truth t sort found h.refusals is same h.such; behind = h.behind }
