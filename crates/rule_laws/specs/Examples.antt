-- Behaviours for examples.
use Rattle.std.specs.Prelude.{ℕ, [], ◌∷◌, None}
use Rattle.spec_core.specs.Code.{these_gates}
use Rattle.rule_model.specs.Behaviours.{Behaviour, stop, action, parallel}
use Rattle.rule_model.specs.Derivations.{Derivation, parl, parr, both}

-- `g; stop`
abbrev pub once : ℕ → Behaviour
once g = action g [] None stop

-- `g; stop |[g]| h; stop`
abbrev pub at_first : ℕ → ℕ → Behaviour
at_first g h = parallel (these_gates (g ∷ [])) (once g) (once h)

-- the tree of a parallel composition with its sides exchanged
abbrev pub mirrored : Derivation → Derivation
mirrored (parl d) = parr d
mirrored (parr d) = parl d
mirrored (both d e) = both e d
mirrored d = d

-- a parallel composition with its sides exchanged
abbrev pub exchanged : Behaviour → Behaviour
exchanged (parallel gates b c) = parallel gates c b
exchanged b = b
