use Rattle.std.proofs.Common.{◌+◌, ◌*◌}
use Rattle.rule_model.specs.declared.beh.Beh.{size-Beh}
use Rattle.rule_substitution.proofs.scope.Scope.+put.Given as goal

abbrev pub decreases-put : goal.decreases-put
decreases-put l = 2 * size-Beh l.from.now

abbrev pub decreases-put_in_action : goal.decreases-put_in_action
decreases-put_in_action l = 2 * size-Beh l.rest.now + 1

abbrev pub decreases-put_in_enable : goal.decreases-put_in_enable
decreases-put_in_enable l = 2 * size-Beh l.right.now + 1

abbrev pub decreases-put_in_guarded : goal.decreases-put_in_guarded
decreases-put_in_guarded l = 2 * size-Beh l.body.now + 1

abbrev pub decreases-put_in_let : goal.decreases-put_in_let
decreases-put_in_let l = 2 * size-Beh l.body.now + 1

abbrev pub decreases-put_in_values : goal.decreases-put_in_values
decreases-put_in_values l = 2 * size-Beh l.body.now + 1
