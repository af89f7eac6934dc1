-- What is done where the code of an origin stands.
use Rattle.std.proofs.Common.{ℕ, ◌≡◌, List, subst}
use Rattle.spec_core.specs.Code.{Program, Relabelling}
use Rattle.spec_core.specs.Executable.{IsExecutable}
use Rattle.rule_model.specs.Behaviours.{Behaviour}
use Rattle.rule_model.specs.Derivations.{Derivation}
use Rattle.rule_model.specs.Substitution.{put}
use Rattle.rule_origins.specs.Values.{assignment}
use Rattle.symbolic_plans.specs.Plans.{Plan}
use Rattle.node_trees.specs.Origins.{relabelled_by}
use Rattle.node_trees.specs.Rests.{Way, does_of, remainder_of, IsWayOf}
use Rattle.node_trees.proofs.Tidying.{put_relabelled}
use Rattle.node_steps.specs.declared.turn.Turn.{Turn}
use Rattle.node_steps.specs.Blanks.{blank_tree, DoesNothingBy}
use Rattle.node_steps.specs.Turns.{TurnsAt, NoTurn}
use Rattle.node_steps.proofs.Turning.{way_is, none_is}

module _ (program : Program) (executable : IsExecutable program.theory) (values : List (ℕ × List ℕ)) (pairs : List Relabelling)
    (b q : Behaviour) (stands : q ≡ relabelled_by pairs b) (p : Plan) where
  -- what is done where the code of an origin stands is done by what the origin stands for
  pub origin_way : (t : Turn) (rules : Derivation) → TurnsAt program 0 (assignment program.theory values) q p t → rules ≡ blank_tree p →
      IsWayOf program (relabelled_by pairs (put (assignment program.theory values) b))
      (record { rules = rules; action = does_of t.action; rest = remainder_of t.rest })
  origin_way t rules h is =
      let s = assignment program.theory values in
      let way : Way = record { rules = rules; action = does_of t.action; rest = remainder_of t.rest } in
      subst (λ z. IsWayOf program z way) (put_relabelled s pairs b)
      (subst (λ z. IsWayOf program (put s z) way) stands (way_is program executable values q p t rules h is))

  pub no_origin_way : NoTurn program (assignment program.theory values) q p →
      DoesNothingBy program (relabelled_by pairs (put (assignment program.theory values) b)) p
  no_origin_way h =
      let s = assignment program.theory values in
      subst (λ z. DoesNothingBy program z p) (put_relabelled s pairs b)
      (subst (λ z. DoesNothingBy program (put s z) p) stands (none_is program executable values q p h))
