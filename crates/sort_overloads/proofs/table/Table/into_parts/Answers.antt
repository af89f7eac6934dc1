use Rattle.sort_overloads.proofs.Whole.{whole}
use Rattle.sort_overloads.proofs.table.Table.into_parts.Goals as goal

pub returns : goal.returns
returns c = whole c.args.self
