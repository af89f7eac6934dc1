-- What a step of a tree keeps.
use Rattle.std.proofs.Common.{ℕ, ◌≡◌, ⊎_elim, List, None, sym, subst, arith}
use Rattle.spec_core.specs.Code.{Program}
use Rattle.rule_model.specs.declared.action.Action.{Action}
use Rattle.rule_model.specs.Derivations.{Derivation}
use Rattle.node_trees.specs.declared.origin.Gen.{Gen}
use Rattle.node_trees.specs.Differences.{IsDifference}
use Rattle.node_trees.specs.Generations.{IsSound}
use Rattle.node_trees.specs.Shapes.{Held, Shape, IsWorkOf}
use Rattle.board_tree.specs.Steps.{Moves}
use Rattle.board_tree.specs.Views.{IsStep}

module _ (program : Program) (old new : Shape) (d : Derivation) (a : Action) (next later : ℕ) where
  pub moved_sound : IsSound old next → Moves program old d a new next later → IsSound new later
  moved_sound s m =
      let v = m.goes.advances s in
      record {
        apart = v.apart;
        below = λ up n h.
            ⊎_elim (λ l. let b = s.below up n l.0 in let k = v.more in omega (arith, b, k)) (λ r. r.below) (v.keeps up n h);
      }

  waits_right : (n : Held) → n.work ≡ None → IsWorkOf program n.source n.work
  waits_right n e = subst (IsWorkOf program n.source) (sym e) tt

  pub moved_step : (gone came : List Gen) → IsSound old next → Moves program old d a new next later →
      IsDifference gone old new →
      IsDifference came new old →
      IsStep program old next d new later gone came
  moved_step gone came s m ended began =
      let v = m.goes.advances s in
      record {
        stands = λ right follows e c h. sym (m.becomes.becomes right follows e c h).1;
        more = v.more;
        keeps = v.keeps;
        leaves = v.leaves;
        right = λ right up n h. ⊎_elim (λ l. right up n l.0) (λ r. waits_right n r.waits) (v.keeps up n h);
        ended = ended;
        began = began;
      }
