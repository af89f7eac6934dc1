use Rattle.std.proofs.Common.{◌≡◌, subst, sym}
use Rattle.spec_core.specs.declared.code.Checked.{Checked}
use Rattle.spec_core.specs.Code.{program_of}
use Rattle.rule_model.specs.Derivations.{Derivation, derivation_of}
use Rattle.rule_model.specs.Derives.{Derives}
use Rattle.board_tree.specs.Changes.{changed}
use Rattle.board_tree.specs.Steps.{Follows, Moves}
use Rattle.node_trees.specs.Shapes.{Shape}
use Rattle.board_core.specs.Views.{program, state, tree}
use Rattle.board_lists.proofs.Firsts.{by_step}
use Rattle.board_lists.proofs.list.with_action.Goals as goal

pub returns-clause-candidate : goal.returns-clause-candidate
returns-clause-candidate c =
    let v = c.args.board.now in
    let m = c.requires.acts in
    let d = derivation_of c.args.rules.now in
    let ready = c.in_ok-ready.ready in
    let next = changed ready.change (tree v) in
    let same : derivation_of c.in_ok-rules.rules ≡ d = c.in_ok-rules.ensures.equal in
    let moves =
    subst (λ (k : Checked). Moves (program_of k) (tree v) d ready.action next 0 ready.next) c.checked.ensures
    (subst (λ (t : Shape). Moves (program_of c.checked.result.now) t d ready.action (changed ready.change t) 0 ready.next)
    c.nodes.ensures c.in_ok-ready.ensures.moved)
    in
    record {
      rest = m.rest;
      derives =
          subst (λ (z : Derivation). Derives (program v) (state v).behaviour z ready.action m.rest) (sym same)
          (by_step (program v) (state v) (tree v) next c.what_is_known_is_so.ensures.known.right c.log_is_a_derivation.ensures.reached d
          ready.action 0 ready.next moves m);
      follows = subst (Follows (tree v)) (sym same) m.follows;
    }
