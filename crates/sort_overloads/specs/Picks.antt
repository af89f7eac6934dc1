-- What is answered where these readings fit.
use Rattle.std.specs.Prelude.{ℕ, ◌≡◌, List, [], ◌∷◌}
use Rattle.lotos_ast.specs.declared.place.Place.{Place}
use Rattle.lotos_ast.specs.declared.refusal.Refusal.{Refusal}
use Rattle.lotos_ast.specs.declared.refusal.RefusalKind.TheVariants.{NoReading, Ambiguous}
use Rattle.spec_core.specs.Terms.{TermTree}
use Rattle.sort_overloads.specs.Readings.{Context}
use Rattle.sort_overloads.specs.Listed.{Typed}
use Rattle.sort_overloads.specs.Refused.{refused, text_in}

-- there is one, and it is this term of this sort
abbrev pub IsOneReading : List Typed → TermTree → ℕ → Type 0
IsOneReading [] t sort = ⊥
IsOneReading (x ∷ []) t sort = (t ≡ x.term) × (sort ≡ x.sort)
IsOneReading (x ∷ y ∷ zs) t sort = ⊥

-- there is none, or more than one, of which the first two are named
abbrev pub IsPickRefusal : Context → Place → List Typed → Refusal → Type 0
IsPickRefusal c place [] r = r ≡ refused NoReading place []
IsPickRefusal c place (x ∷ []) r = ⊥
IsPickRefusal c place (x ∷ y ∷ zs) r = r ≡ refused Ambiguous place (text_in c x.term ∷ text_in c y.term ∷ [])
