use Rattle.std.proofs.Common.{arith}
use Rattle.std.proofs.lemmas.Grind.{text_groups}
use Rattle.sort_overloads.proofs.name_index.NameIndex.add.Goals as goal

pub returns : goal.returns
returns c = grind (arith, text_groups)
