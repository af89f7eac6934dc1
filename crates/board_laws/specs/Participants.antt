-- Which parts of a behaviour act by a tree of rules. (This profile.)
use Rattle.std.specs.Prelude.{ℕ, List}
use Rattle.spec_core.specs.Code.{Variable, Relabelling, Synchronised}
use Rattle.rule_model.specs.Behaviours.{Behaviour, choice, parallel, hide, enable, disable, relabel}
use Rattle.rule_model.specs.Derivations.{Derivation, chl, chr, parl, parr, both, hiding, pass, enstep, enend, disstep, disend, distake, rel}

-- By a tree of rules of a behaviour the part c acts by the tree e: the part is the behaviour itself, or one of a side that acts by the rule at
-- the top. Conditions of the rules aren't asked, nor what other sides do.
pub data ActsIn (c : Behaviour) (e : Derivation) : Behaviour → Derivation → Type 0 where
  itself : ActsIn c e c e
  first_chosen : (left right : Behaviour) (d : Derivation) → ActsIn c e left d → ActsIn c e (choice left right) (chl d)
  second_chosen : (left right : Behaviour) (d : Derivation) → ActsIn c e right d → ActsIn c e (choice left right) (chr d)
  first_alone : (gates : Synchronised) (left right : Behaviour) (d : Derivation) → ActsIn c e left d →
      ActsIn c e (parallel gates left right) (parl d)
  second_alone : (gates : Synchronised) (left right : Behaviour) (d : Derivation) → ActsIn c e right d →
      ActsIn c e (parallel gates left right) (parr d)
  first_of_both : (gates : Synchronised) (left right : Behaviour) (d f : Derivation) → ActsIn c e left d →
      ActsIn c e (parallel gates left right) (both d f)
  second_of_both : (gates : Synchronised) (left right : Behaviour) (d f : Derivation) → ActsIn c e right f →
      ActsIn c e (parallel gates left right) (both d f)
  hidden_action : (gates : List ℕ) (body : Behaviour) (d : Derivation) → ActsIn c e body d → ActsIn c e (hide gates body) (hiding d)
  seen_action : (gates : List ℕ) (body : Behaviour) (d : Derivation) → ActsIn c e body d → ActsIn c e (hide gates body) (pass d)
  before_end : (left : Behaviour) (xs : List Variable) (right : Behaviour) (d : Derivation) → ActsIn c e left d →
      ActsIn c e (enable left xs right) (enstep d)
  at_end : (left : Behaviour) (xs : List Variable) (right : Behaviour) (d : Derivation) → ActsIn c e left d →
      ActsIn c e (enable left xs right) (enend d)
  undisabled : (left right : Behaviour) (d : Derivation) → ActsIn c e left d → ActsIn c e (disable left right) (disstep d)
  undisabled_end : (left right : Behaviour) (d : Derivation) → ActsIn c e left d → ActsIn c e (disable left right) (disend d)
  disabling : (left right : Behaviour) (d : Derivation) → ActsIn c e right d → ActsIn c e (disable left right) (distake d)
  renamed : (pairs : List Relabelling) (body : Behaviour) (d : Derivation) → ActsIn c e body d → ActsIn c e (relabel pairs body) (rel d)
