use Rattle.std.proofs.Common.{◌∙◌, ap, sym, ◌++◌, ◌∷◌, []}
use Rattle.std.proofs.lemmas.List.{append-nil}
use Rattle.lotos_ast.specs.declared.refusal.RefusalKind.{RefusalKind}
use Rattle.type_names.specs.Refused.{refused}
use Rattle.type_names.proofs.Sets.{refused_there, none_refused}
use Rattle.type_names.proofs.declared_items.add_item_twice.Goals as goal

pub returns-in_ok-push-clause-refusals : goal.returns-in_ok-push-clause-refusals
returns-in_ok-push-clause-refusals c = λ ds d is same at.
    let old = c.args.refusals.now.items in
    c.in_ok-push.ensures.items ∙ ap (λ r. old ++ r ∷ []) (c.refused.ensures ∙ ap (refused RefusalKind.DuplicateName) (sym at))
    ∙ ap (λ z. old ++ z) (sym (refused_there c.args.before.now c.args.item ds d c.in_ok-add.field-0 c.in_ok-add.ensures.new c.if-not-branch.true is same))

pub returns-else-not-branch-clause-refusals : goal.returns-else-not-branch-clause-refusals
returns-else-not-branch-clause-refusals c = λ ds d is same at.
    let old = c.args.refusals.now.items in
    sym (append-nil old)
    ∙ ap (λ z. old ++ z) (sym (none_refused c.args.before.now c.args.item ds d c.in_ok-add.field-0 c.in_ok-add.ensures.new c.if-not-branch.false is same))
