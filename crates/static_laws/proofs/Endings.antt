-- How two parts end together.
use Rattle.std.proofs.Common.{ℕ, ◌≡◌, List, map, refl, sym}
use Rattle.std.specs.Prelude.{Option, Some, None, option_map, nat_eq}
use Rattle.std.specs.Cmp.Lexicographic.{pointwise, same_text}
use Rattle.std.proofs.lemmas.Option.{same_Some}
use Rattle.spec_core.specs.Code.{Variable}
use Rattle.spec_core.specs.Functionality.{Functionality, noexit, exits, IsEither, IsBoth, Accepts, sort_of_variable}
use Rattle.static_readings.specs.Joins.{if_same, either, both}
use Rattle.static_readings.specs.Readings.{accepting}
use Rattle.static_laws.proofs.Options.{if-some}

same-sorts : (sorts others : List ℕ) (w : Functionality) → if_same sorts others ≡ Some w → (sorts ≡ others) × (w ≡ exits sorts)
same-sorts sorts others w e =
    let h = if-some (pointwise nat_eq sorts others) (exits sorts) w e in
    (same_text sorts others (sym h.0), sym h.1)

pub either-is : (f g w : Functionality) → either f g ≡ Some w → IsEither f g w
either-is noexit g w e = sym (same_Some g w e)
either-is (exits sorts) noexit w e = sym (same_Some (exits sorts) w e)
either-is (exits sorts) (exits others) w e = same-sorts sorts others w e

pub both-is : (f g w : Functionality) → both f g ≡ Some w → IsBoth f g w
both-is noexit g w e = sym (same_Some noexit w e)
both-is (exits sorts) noexit w e = sym (same_Some noexit w e)
both-is (exits sorts) (exits others) w e = same-sorts sorts others w e

-- a functionality goes with itself
pub both-same : (f : Functionality) → IsBoth f f f
both-same noexit = refl
both-same (exits sorts) = (refl, refl)

accepted-same : (sorts others : List ℕ) (g w : Functionality) (o : Option Functionality) → if_same sorts others ≡ o →
    option_map (λ _. g) o ≡ Some w → (sorts ≡ others) × (w ≡ g)
accepted-same sorts others g w None e h = absurd (cc)
accepted-same sorts others g w (Some f) e h = ((same-sorts sorts others f e).0, sym (same_Some g w h))

pub accepting-is : (f : Functionality) (xs : List Variable) (g w : Functionality) → accepting f xs g ≡ Some w → Accepts f xs × (w ≡ g)
accepting-is noexit xs g w e = (tt, sym (same_Some g w e))
accepting-is (exits sorts) xs g w e =
    accepted-same sorts (map sort_of_variable xs) g w (if_same sorts (map sort_of_variable xs)) refl e
