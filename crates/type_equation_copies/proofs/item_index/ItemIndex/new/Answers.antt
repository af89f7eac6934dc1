use Rattle.std.proofs.Common.{◌≡◌, ◌∙◌, sym, ap, Bor, Bool, ◌+◌, ◌-◌, refl, length, drop, arith, if◌then◌else◌}
use Rattle.std.specs.List.{position_or_len}
use Rattle.std.proofs.lemmas.List.{length-map}
use Rattle.type_contents.specs.declared.item.Item as code
use Rattle.type_contents.specs.Items.{is_same_item}
use Rattle.type_contents.specs.Views.{item_of}
use Rattle.type_contents.proofs.Indexed.{front_next}
use Rattle.type_equation_copies.specs.Indexes.{item_at}
use Rattle.type_equation_copies.proofs.Named.{position_through}
use Rattle.type_equation_copies.proofs.item_index.ItemIndex.new.Goals as goal

pub loop-behind-preserved : goal.loop-behind-preserved
loop-behind-preserved c =
    let items = c.args.items.now in
    let k = length items - 1 - c.loop-behind.behind in
    record {
      count = c.put.ensures.count ∙ c.loop-behind.invariant.count;
      numbers = λ x.
          let same : Bor code.Item → Bool = λ y. is_same_item (item_of x) (item_at y) in
          c.in_ok-put.ensures.numbers x ∙ ap (λ z. if same c.index-items-number.result then k else z) (c.loop-behind.invariant.numbers x)
          ∙ front_next same items c.loop-behind.behind k c.index-items-number.result c.loop-behind-test.true refl c.index-items-number.is;
    }

pub returns : goal.returns
returns c =
    let items = c.args.items.now in
    let end : length items - c.loop-behind.behind ≡ 0 = omega (arith, c.loop-behind-test.false) in
    record {
      count = c.loop-behind.invariant.count ∙ sym (length-map items item_at);
      numbers = λ x.
          let same : Bor code.Item → Bool = λ y. is_same_item (item_of x) (item_at y) in
          let zero : 0 + position_or_len same items ≡ position_or_len same items = omega arith in
          c.loop-behind.invariant.numbers x ∙ ap (λ k. k + position_or_len same (drop k items)) end ∙ zero
          ∙ sym (position_through item_at (is_same_item (item_of x)) items);
    }
