use Rattle.std.proofs.Common.{◌∙◌, ap, sym, not, ◌||◌}
use Rattle.type_contents.specs.Views.{item_of}
use Rattle.type_contents.proofs.Keys.{same_key}
use Rattle.type_names.specs.NameSets.{has_item}
use Rattle.type_names.proofs.Sets.{has_key, has_after}
use Rattle.type_names.proofs.item_set.ItemSet.add.Goals as goal

pub returns-clause-new : goal.returns-clause-new
returns-clause-new c = c.in_ok-new.ensures.added ∙ ap not (has_key c.args.self.now c.args.item)

pub returns-clause-items : goal.returns-clause-items
returns-clause-items c = λ x.
    let old = c.args.self.now in
    sym (has_key (record { items = c.insert.new.self }) x) ∙ c.in_ok-new.ensures.updates.0 x
    ∙ has_after x _ old.items.keys (has_item old (item_of x)) (has_key old x)
    ∙ ap (λ z. has_item old (item_of x) || z) (same_key c.args.item x)
