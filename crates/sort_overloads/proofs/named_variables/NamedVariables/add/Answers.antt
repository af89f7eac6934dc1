use Rattle.std.proofs.Common.{arith}
use Rattle.std.proofs.lemmas.Grind.{text_groups}
use Rattle.std.proofs.lemmas.List.{map-append}
use Rattle.sort_overloads.proofs.named_variables.NamedVariables.add.Goals as goal

pub returns-in_err-push-clause-refused : goal.returns-in_err-push-clause-refused
returns-in_err-push-clause-refused c = grind (arith, text_groups)

pub returns-clause-put : goal.returns-clause-put
returns-clause-put c = grind (arith, text_groups, map-append)
