-- What is added for an expression.
use Rattle.std.proofs.Common.{Option, Some, None, ◌≡◌, ◌<◌, ◌≤◌, List, [], ◌∷◌, ◌++◌, length, refl, ap, ◌∙◌, subst, arith, append_assoc}
use Rattle.lotos_ast.specs.declared.place.Place.{Place}
use Rattle.lotos_ast.specs.declared.refusal.Refusal.{Refusal}
use Rattle.spec_core.specs.declared.items.Sort.{Sort}
use Rattle.sort_overloads.specs.Expressions.{Expression}
use Rattle.sort_overloads.specs.Judged.{Adds, IsJudged, read, unread, unknown}
use Rattle.sort_overloads.specs.Listed.{Typed}
use Rattle.sort_overloads.specs.Overloads.{IsOnlyReading}
use Rattle.sort_overloads.specs.Readings.{Context}
use Rattle.sort_overloads.specs.Refused.{unknowns, IsOverloadRefusal}

none-added : {A : Type 0} (old more : List A) → length (old ++ more) ≤ length old → more ≡ []
none-added [] [] h = refl
none-added [] (x ∷ xs) h = absurd (omega arith)
none-added (x ∷ xs) more h = none-added xs more (omega arith)

not-longer : {A : Type 0} (old : List A) → length old < length (old ++ []) → ⊥
not-longer [] h = omega arith
not-longer (x ∷ xs) h = not-longer xs (omega arith)

module _ (c : Context) (e : Expression) (wanted : Option Sort) (place : Place) (old new : List Refusal) (added : new ≡ old ++ unknowns c e) where
  pub unknown-behind : length old < length new → Adds (IsJudged c e wanted place None) old new
  unknown-behind longer = by (unknowns c e) refl (subst (λ z. length old < length z) added longer)
    where
      by : (us : List Refusal) → unknowns c e ≡ us → length old < length (old ++ unknowns c e) → Adds (IsJudged c e wanted place None) old new
      by [] h l = absurd (not-longer old (subst (λ z. length old < length (old ++ z)) h l))
      by (r ∷ rs) h l = record { refusals = r ∷ rs; such = unknown r rs h; behind = added ∙ ap (λ z. old ++ z) h }

  all-known : length new ≤ length old → unknowns c e ≡ []
  all-known h = none-added old (unknowns c e) (subst (λ z. length z ≤ length old) added h)

  pub read-behind : (x : Typed) → length new ≤ length old → IsOnlyReading c e wanted x.term x.sort → Adds (IsJudged c e wanted place (Some x)) old new
  read-behind x h only = record { refusals = []; such = read x (all-known h) only; behind = added ∙ ap (λ z. old ++ z) (all-known h) }

  pub unread-behind : (r : Refusal) (now : List Refusal) → length new ≤ length old → now ≡ new ++ (r ∷ []) → IsOverloadRefusal c e wanted place r → Adds (IsJudged c e wanted place None) old now
  unread-behind r now h pushed refused = record {
    refusals = r ∷ [];
    such = unread r (all-known h) refused;
    behind = pushed ∙ ap (λ z. z ++ (r ∷ [])) (added ∙ ap (λ z. old ++ z) (all-known h)) ∙ append_assoc old [] (r ∷ []);
  }
