use Rattle.std.proofs.Common.{◌∙◌, sym, ap}
use Rattle.std.specs.Str.{bytes_eq}
use Rattle.type_contents.specs.Views.{described_of}
use Rattle.static_presentation.proofs.Lists.{mapped-place, mapped-no-place}
use Rattle.static_presentation.proofs.signature.sort_number.Goals as goal

pub returns-then-is_same_text-clause-number : goal.returns-then-is_same_text-clause-number
returns-then-is_same_text-clause-number c =
    mapped-place described_of (λ d. bytes_eq d.item.name c.args.name.now) c.args.sorts.now c.loop-i.i c.index-sorts-i.result c.loop-i-test.true c.index-sorts-i.is c.loop-i.invariant
    (ap (λ z. bytes_eq z c.args.name.now) (sym c.as_str.ensures.value) ∙ sym c.is_same_text.ensures ∙ c.if-is_same_text.true)

pub returns-clause-number : goal.returns-clause-number
returns-clause-number c = mapped-no-place described_of (λ d. bytes_eq d.item.name c.args.name.now) c.args.sorts.now c.loop-i.i c.loop-i-test.false c.loop-i.invariant
