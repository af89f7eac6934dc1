-- Worked examples of loosened trees, of values that lie beyond their window.
use Rattle.std.specs.Prelude.{ℕ, ◌≡◌, List, [], ◌∷◌, Some, None, false}
use Rattle.spec_core.specs.Terms.{variable, apply, no_terms}
use Rattle.spec_core.specs.Code.{Program, give, every_gate}
use Rattle.rule_model.specs.declared.rules.Slot.TheVariants.{Of, Mark}
use Rattle.rule_model.specs.Behaviours.{Behaviour, stop, action, parallel, value_choice}
use Rattle.rule_model.specs.Derivations.{pre, val, both, hiding}
use Rattle.symbolic_rules.specs.Windows.{Windows}
use Rattle.symbolic_composites.specs.OpenFields.{is_listed}
use Rattle.symbolic_rules.specs.Examples.{x_of, y_of, offering, taking, taking_inside, offer_of}
use Rattle.symbolic_laws.specs.Loosened.{IsLoosened}

-- `g !c; stop || g ?x:S; stop`
abbrev pub handed_by_constant : ℕ → ℕ → ℕ → Behaviour
handed_by_constant g sort c = parallel every_gate (action g (give (apply c no_terms) ∷ []) None stop) (taking g (x_of sort) None)

-- `choice y:S [] (g !y; stop || g ?x:S; stop)`
abbrev pub handed_by_choice : ℕ → ℕ → Behaviour
handed_by_choice g sort =
    value_choice (y_of sort) (parallel every_gate (action g (give (variable 1) ∷ []) None stop) (taking g (x_of sort) None))

module _ (program : Program) (w : Windows) (g sort : ℕ) (v : List ℕ) where
  -- What becomes of a value that isn't in the window of its sort.
  --   chosen: at a choice of a value it becomes the mark, also where the offer gives it;
  --   taken: at a `?` it becomes the mark;
  --   offered: unless the offer gives it;
  --   hidden: at a hidden gate no offer gives it;
  --   told: it stays where another side tells it by an expression;
  --   marked: but an expression that holds a mark tells nothing.
  pub record AreLoosened : Type 0 where
    pub chosen : IsLoosened program w (offering g sort (variable 0)) (Some (offer_of g v)) (val (Of v) (pre [])) (val Mark (pre []))
    pub taken : IsLoosened program w (taking g (x_of sort) None) None (pre (Of v ∷ [])) (pre (Mark ∷ []))
    pub offered : IsLoosened program w (taking g (x_of sort) None) (Some (offer_of g v)) (pre (Of v ∷ [])) (pre (Of v ∷ []))
    pub hidden : IsLoosened program w (taking_inside g sort) None (hiding (pre (Of v ∷ []))) (hiding (pre (Mark ∷ [])))
    pub told : (c : ℕ) → IsLoosened program w (handed_by_constant g sort c) None (both (pre []) (pre (Of v ∷ [])))
        (both (pre []) (pre (Of v ∷ [])))
    pub marked : IsLoosened program w (handed_by_choice g sort) None (val (Of v) (both (pre []) (pre (Of v ∷ []))))
        (val Mark (both (pre []) (pre (Mark ∷ []))))

abbrev pub ValuesAreLoosened : Type 0
ValuesAreLoosened =
    (program : Program) (w : Windows) (g sort : ℕ) (v : List ℕ) → is_listed v (w.values sort) ≡ false → AreLoosened program w g sort v
