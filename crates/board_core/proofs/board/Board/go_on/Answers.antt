use Rattle.std.proofs.Common.{◌≡◌, ◌∙◌, option_map, ap, map, length, refl, rules, sym, None, Some}
use Rattle.std.proofs.lemmas.List.{length-map}
use Rattle.std.specs.List.{slice_get}
use Rattle.spec_core.proofs.Lists.{each_slice_get}
use Rattle.rule_model.specs.Derivations.{derivation_of}
use Rattle.decision_trees.specs.Rules.{goes_on}
use Rattle.board_laws.specs.Drawing.{drawn}
use Rattle.board_core.specs.Settled.{MayFollow}
use Rattle.board_core.specs.Views.{BoardView, program, state, tree}
use Rattle.board_core.proofs.Entries.{acts, on_ok_both, same_draw}
use Rattle.board_core.proofs.board.Board.go_on.Goals as goal

pub act-requires-clause-may : goal.act-requires-clause-may
act-requires-clause-may c =
    let v = c.args.self.now in
    each_slice_get (MayFollow (program v) (state v) (tree v) None) (map derivation_of c.args.those.items) c.drawn-number.result
    (derivation_of c.in-Some.rules) c.requires.due.done.1
    (sym c.tree_at.ensures ∙ ap (option_map derivation_of) c.in-Some.is)

pub returns-clause-settled : goal.returns-clause-settled
returns-clause-settled c =
    let v = c.args.self.now in
    let trees = map derivation_of c.args.those.items in
    let d = derivation_of c.in-Some.rules in
    let there : slice_get trees c.drawn-number.result ≡ Some d = sym c.tree_at.ensures ∙ ap (option_map derivation_of) c.in-Some.is in
    let many : c.len-2.result ≡ length c.args.those.items = search rules in
    let number : c.drawn-number.result ≡ drawn v.settings.draw v.settings.seed (state v).actions (length trees) =
    same_draw c.drawn-number.result _ v.settings.draw _ v.settings.seed _ (state v).actions _ (length trees) c.drawn-number.ensures.drawn
    (ap (λ (z : BoardView). z.settings.draw) c.self.view_is) (ap (λ (z : BoardView). z.settings.seed) c.self.view_is) c.actions.ensures
    (many ∙ sym (length-map c.args.those.items derivation_of)) in
    on_ok_both c.act.result
    (acts v c.act.new.self (goes_on trees) c.requires.due c.requires.rules c.requires.stop c.act.ensures.stop d None
    (λ a. (c.requires.below, d, ap (slice_get trees) (sym number) ∙ there, a, refl)))
    c.act.ensures.acted c.act.ensures.stepped
