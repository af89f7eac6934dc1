use Rattle.std.proofs.Common.{◌==◌, length, not, ap, ◌∙◌}
use Rattle.sort_overloads.proofs.Numbered.{any-numbers}
use Rattle.sort_overloads.proofs.name_index.NameIndex.has.Goals as goal

pub returns : goal.returns
returns c = record {
  known = λ operations h.
      ap not c.is_empty.ensures ∙ ap (λ z. not (length z == 0)) (c.in_ok-numbers.ensures.numbers ∙ h c.args.name.now) ∙ any-numbers c.args.name.now 0 operations;
}
