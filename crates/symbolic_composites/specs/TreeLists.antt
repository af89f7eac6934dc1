-- The ordered lists of windowed and of beyond trees. (This profile.)
use Rattle.std.specs.Prelude.{ℕ, zero, suc, ◌&&◌, not, List, [], filter, flat_map, Option, Some, None, Bool}
use Rattle.spec_core.specs.Theories.{Theory}
use Rattle.rule_model.specs.declared.offer.Offer.{Offer}
use Rattle.rule_model.specs.Behaviours.{Behaviour}
use Rattle.rule_model.specs.Derivations.{Derivation, pre, int, exiting, chl, chr, val, gate, guard, letting, parl, parr, both, hiding, pass}
use Rattle.rule_model.specs.Derivations.{enstep, enend, disstep, disend, distake, calling, rel}
use Rattle.symbolic_rules.specs.Windows.{Windows}
use Rattle.symbolic_rules.specs.MarkedTerms.{unmarked}
use Rattle.symbolic_rules.specs.Trees.{has_mark}
use Rattle.symbolic_composites.specs.Evaluations.{Evaluation}
use Rattle.symbolic_composites.specs.OpenFields.{all_choices, given_in}
use Rattle.symbolic_composites.specs.Composites.{Composite, filled, composites}

-- what an offer gives, if there is one
abbrev pub offered : Option Offer → List (Option (List ℕ))
offered None = []
offered (Some offer) = given_in offer.fields

module _ (theory : Theory) (e : Evaluation) (w : Windows) (n : ℕ) (b : Behaviour) (o : Option Offer) where
  -- the trees of all composites of the closed behaviour with each value that may be seen for the offer, if there is one; whether they are
  -- seen is still to be asked
  abbrev pub candidates : List Derivation
  candidates = flat_map (λ (c : Composite). filled c (all_choices theory w (offered o) c.fields)) (composites theory e w n unmarked b)

  -- those that are seen, as a test says, without a mark; and those with one
  abbrev pub windowed_trees : (Derivation → Bool) → List Derivation
  windowed_trees is_seen = filter (λ d. not (has_mark d) && is_seen d) candidates

  abbrev pub beyond_trees : (Derivation → Bool) → List Derivation
  beyond_trees is_seen = filter (λ d. has_mark d && is_seen d) candidates

-- at most n calls stand in one another in the tree
abbrev pub Nests : ℕ → Derivation → Type 0
Nests n (pre slots) = Unit {0}
Nests n int = Unit {0}
Nests n (exiting slots) = Unit {0}
Nests n (chl d) = Nests n d
Nests n (chr d) = Nests n d
Nests n (val slot d) = Nests n d
Nests n (gate j d) = Nests n d
Nests n (guard d) = Nests n d
Nests n (letting d) = Nests n d
Nests n (parl d) = Nests n d
Nests n (parr d) = Nests n d
Nests n (both d f) = Nests n d × Nests n f
Nests n (hiding d) = Nests n d
Nests n (pass d) = Nests n d
Nests n (enstep d) = Nests n d
Nests n (enend d) = Nests n d
Nests n (disstep d) = Nests n d
Nests n (disend d) = Nests n d
Nests n (distake d) = Nests n d
Nests zero (calling d) = ⊥
Nests (suc n) (calling d) = Nests n d
Nests n (rel d) = Nests n d
