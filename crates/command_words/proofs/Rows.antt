-- Words that are written out, and the commands that they name.
use Rattle.std.proofs.Common.{[], ◌∷◌, Some, None, ◌≡◌, refl, codes}
use Rattle.clap.proofs.OnLiterals.{clap_on_literals}
use Rattle.command_words.specs.Commands.{run, command_of}
use Rattle.command_words.specs.Options.{usual}

-- an option before the names, in one word
pub before : command_of (codes "run" ∷ codes "--workers=2" ∷ codes "a" ∷ codes "b" ∷ []) ≡ Some (run (codes "a") (codes "b") usual.settings 2 usual.format)
unfolding clap_on_literals
before = refl

-- and the same behind them, in two words
pub behind : command_of (codes "run" ∷ codes "a" ∷ codes "b" ∷ codes "--workers" ∷ codes "2" ∷ []) ≡ Some (run (codes "a") (codes "b") usual.settings 2 usual.format)
unfolding clap_on_literals
behind = refl

-- a name that is missing
pub missing : command_of (codes "run" ∷ codes "a" ∷ []) ≡ None
unfolding clap_on_literals
missing = refl
