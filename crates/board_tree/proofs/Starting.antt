-- The tree of a specification's behaviour.
use Rattle.std.proofs.Common.{ℕ, ◌≡◌, [], refl, sym, subst, ◌∙◌}
use Rattle.spec_core.specs.Code.{Program}
use Rattle.spec_core.specs.Ready.{IsReady}
use Rattle.rule_model.specs.Behaviours.{Behaviour}
use Rattle.rule_model.specs.Code.{StandsAt, IsStart}
use Rattle.rule_origins.specs.Parts.{behaviour_at}
use Rattle.rule_origins.specs.Values.{assignment}
use Rattle.rule_origins.proofs.Standing.{behaviours_stand}
use Rattle.rule_laws.proofs.Nothing.{empty_substitutions_change_nothing}
use Rattle.node_trees.specs.Generations.{IsFresh, IsSound}
use Rattle.node_trees.specs.Origins.{scoped}
use Rattle.node_trees.specs.Shapes.{Shape, AllWait}

-- without values a behaviour of the code is itself
pub scoped_nothing : (program : Program) (n : ℕ) → scoped program n [] ≡ behaviour_at program n
unfolding assignment
scoped_nothing program n = empty_substitutions_change_nothing (assignment program.theory []) (λ x. refl) (behaviour_at program n)

pub start_stands : (program : Program) (b : Behaviour) → IsReady program → b ≡ scoped program program.start [] → IsStart program b
start_stands program b ready e =
    subst (StandsAt program program.start) (sym (e ∙ scoped_nothing program program.start))
    (behaviours_stand program ready program.start ready.start)

pub fresh_sound : (low high : ℕ) (t : Shape) → IsFresh low high t → IsSound t high
fresh_sound low high t f = record { apart = f.apart; below = λ up n s. (f.new up n s).below }

pub fresh_waits : (low high : ℕ) (t : Shape) → IsFresh low high t → AllWait t
fresh_waits low high t f up n s = (f.new up n s).waits

pub ruleset starting_rows = (start_stands, fresh_sound, fresh_waits)
