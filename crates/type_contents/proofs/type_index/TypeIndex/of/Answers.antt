use Rattle.std.proofs.Common.{◌∙◌, ap, ◌+◌, ◌-◌, refl, length, drop, if◌then◌else◌}
use Rattle.type_contents.specs.Uses.{is_called}
use Rattle.type_contents.proofs.Indexed.{front_next}
use Rattle.type_contents.proofs.type_index.TypeIndex.of.Goals as goal

pub loop-behind-preserved : goal.loop-behind-preserved
loop-behind-preserved c =
    let types = c.args.types.now in
    let k = length types - 1 - c.loop-behind.behind in
    record {
      count = c.put.ensures.count ∙ c.loop-behind.invariant.count;
      numbers = λ name.
          c.in_ok-put.ensures.numbers name ∙ ap (λ z. if is_called name c.index-types-number.result then k else z) (c.loop-behind.invariant.numbers name)
          ∙ front_next (is_called name) types c.loop-behind.behind k c.index-types-number.result c.loop-behind-test.true refl c.index-types-number.is;
    }
