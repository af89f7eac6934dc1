use Rattle.front_laws.proofs.WhereParts.{text_types_are_named}
use Rattle.front_laws.proofs.named.text_types_are_named.Goals as goal

pub returns : goal.returns
returns c = text_types_are_named
