-- An index has what its tree has.
use Rattle.std.proofs.Common.{ℕ, ◌≡◌, ◌<◌, ◌≤◌, ◌∙◌, List, [], map, ap, arith}
use Rattle.spec_core.specs.Code.{Program}
use Rattle.symbolic_rules.specs.Windows.{Windows}
use Rattle.symbolic_plans.specs.declared.composite.OpenComposite.{OpenComposite}
use Rattle.node_trees.specs.Shapes.{Shape}
use Rattle.candidate_composites.specs.Known.{made, expanded_plans}
use Rattle.candidate_composites.proofs.Whole.{expanded_are_all}
use Rattle.candidate_count.specs.Counts.{limited, offers_limit, offers_of_tree}
use Rattle.offer_index.specs.Index.{IsIndexOf, plans_at, plans_of}

-- where there aren't more possible agreements than are looked at, it lists all
pub is_index : (program : Program) (w : Windows) (t : Shape) (total : ℕ) (all : List OpenComposite) →
    plans_of all ≡ expanded_plans program.theory t → total ≡ limited (offers_of_tree program w t) → total ≤ offers_limit →
    IsIndexOf program w t (record { total = total; composites = all })
is_index program w t total all plans counted few = record {
  total = counted;
  offers = λ gate. record {
    few = λ h. ap (plans_at gate) plans;
    many = λ many. absurd (omega (arith, few, many));
  };
  whole = λ h none. ap (map made) plans ∙ expanded_are_all program.theory t none;
}

-- else none
pub is_empty_index : (program : Program) (w : Windows) (t : Shape) (total : ℕ) (none : List OpenComposite) →
    none ≡ [] → total ≡ limited (offers_of_tree program w t) → offers_limit < total →
    IsIndexOf program w t (record { total = total; composites = none })
is_empty_index program w t total none empty counted many = record {
  total = counted;
  offers = λ gate. record {
    few = λ few. absurd (omega (arith, few, many));
    many = λ h. ap (λ l. plans_at gate (plans_of l)) empty;
  };
  whole = λ few h. absurd (omega (arith, few, many));
}
