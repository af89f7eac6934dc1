use Rattle.std.proofs.Common.{◌∙◌, ap, map, ◌++◌, ◌∷◌, []}
use Rattle.std.proofs.lemmas.List.{map-append}
use Rattle.type_contents.specs.Views.{described_of}
use Rattle.type_contents.proofs.Found.{put_all, left_all}
use Rattle.type_contents.proofs.flat.add_new.Goals as goal

pub returns-in_ok-push-clause-all : goal.returns-in_ok-push-clause-all
returns-in_ok-push-clause-all c =
    let ds = map described_of c.args.all.now.items in
    put_all c.args.found.now.keys c.in_ok-item.item ds (map described_of c.push.new.self.items) (described_of c.args.one.now) c.in_ok-insert.field-0 c.requires c.in_ok-item.ensures c.in_ok-insert.ensures.added c.if-branch.true
    (ap (map described_of) c.in_ok-push.ensures.items ∙ map-append described_of c.args.all.now.items (c.in_ok-copied.field-0 ∷ []) ∙ ap (λ z. ds ++ z ∷ []) c.in_ok-copied.ensures)

pub returns-else-branch-clause-all : goal.returns-else-branch-clause-all
returns-else-branch-clause-all c =
    left_all c.args.found.now.keys c.in_ok-item.item (map described_of c.args.all.now.items) (described_of c.args.one.now) c.in_ok-insert.field-0 c.requires c.in_ok-item.ensures c.in_ok-insert.ensures.added c.if-branch.false
