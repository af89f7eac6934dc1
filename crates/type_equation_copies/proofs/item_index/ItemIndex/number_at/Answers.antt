use Rattle.std.proofs.Common.{ap, ◌∙◌}
use Rattle.std.specs.Prelude.{unwrap_or}
use Rattle.type_equation_copies.proofs.Named.{found_by_key}
use Rattle.type_equation_copies.proofs.item_index.ItemIndex.number_at.Goals as goal

pub returns-in-None : goal.returns-in-None
returns-in-None c =
    let index = c.args.self.now in
    ap (λ o. unwrap_or o index.count) (c.in-None.ensures.value ∙ found_by_key c.args.item.now index.numbers.entries)

pub returns-in-Some : goal.returns-in-Some
returns-in-Some c =
    let index = c.args.self.now in
    ap (λ o. unwrap_or o index.count) (c.in-Some.ensures.value ∙ found_by_key c.args.item.now index.numbers.entries)
