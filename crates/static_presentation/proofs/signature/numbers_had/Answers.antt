use Rattle.std.proofs.Common.{◌∙◌, map, ap, sym, nat_lt, if◌then◌else◌}
use Rattle.std.specs.BTreeSet.{insert_key}
use Rattle.std.specs.Ordering.{nat_cmp}
use Rattle.std.proofs.lemmas.List.{length-map, take_all}
use Rattle.type_contents.specs.Views.{item_of, described_of, items_at}
use Rattle.type_equation_copies.specs.Indexes.{items_in}
use Rattle.static_presentation.specs.Signatures.{numbers_had}
use Rattle.static_presentation.proofs.Had.{nothing_had, had_next}
use Rattle.static_presentation.proofs.signature.numbers_had.Goals as goal

pub loop-number-init : goal.loop-number-init
loop-number-init c = c.new-found.ensures.empty ∙ nothing_had (map described_of c.args.all.now)

pub loop-number-preserved : goal.loop-number-preserved
loop-number-preserved c =
    let all = map described_of c.args.all.now in
    had_next c.args.table.now c.args.items.now c.loop-number.number-index (item_of c.item.result.now) all c.loop-number.found.keys c.put_number.new.found.keys c.number.result
    c.loop-number-test.true c.item.ensures c.requires.once (c.number.ensures (items_in all) c.requires.index) c.loop-number.invariant
    (c.in_ok-put_number.ensures ∙ ap (λ k. if nat_lt c.number.result k then insert_key nat_cmp c.loop-number.found.keys c.number.result else c.loop-number.found.keys) (sym (length-map c.args.all.now described_of)))

pub returns : goal.returns
returns c =
    c.in_ok-numbers.ensures ∙ c.loop-number.invariant
    ∙ ap (λ ns. numbers_had (items_at c.args.table.now ns) (map described_of c.args.all.now)) (take_all c.loop-number.number-index c.args.items.now c.loop-number-test.false)
