-- Which gaps stand first among what is sought. (This profile.)
use Rattle.std.specs.Prelude.{◌≡◌, ◌&&◌, ◌++◌, Bool, true, false, List, [], ◌∷◌, map}
use Rattle.spec_core.specs.Code.{Synchronised}
use Rattle.rule_model.specs.Actions.{Kind}
use Rattle.decision_trees.specs.Gaps.{OrGap, gap}
use Rattle.symbolic_composites.specs.Kinds.{is_alone}
use Rattle.node_trees.specs.declared.origin.Gen.{Gen}
use Rattle.candidate_composites.specs.declared.foremost.Foremost.{Foremost}

-- the gaps of these generations
abbrev pub gaps_of : {A : Type 0} → List Gen → List (OrGap A)
gaps_of generations = map (λ (g : Gen). gap g.0) generations

-- these gaps stand first, one behind the other; and behind them there is nothing, where they are alone
abbrev pub StandFirst : {A : Type 0} → Bool → List Gen → List (OrGap A) → Type 0
StandFirst true generations l = l ≡ gaps_of generations
StandFirst {A = A} false generations l = (rest : List (OrGap A)) × (l ≡ gaps_of generations ++ rest)

abbrev pub IsForemost : {A : Type 0} → Foremost → List (OrGap A) → Type 0
IsForemost f l = StandFirst f.alone f.gaps.items l

-- a side of a parallel composition does each of these kinds alone
abbrev pub are_alone : Synchronised → List Kind → Bool
are_alone gates [] = true
are_alone gates (k ∷ ks) = is_alone gates k && are_alone gates ks
