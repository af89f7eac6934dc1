use Rattle.lotos_ast.proofs.GrammarLaws.{read_without_limits, stops_without_limits, read_or_too_deep, stops_or_too_deep, front_before_fault}
use Rattle.lotos_ast.proofs.laws.limits_change_nothing_below_them.Goals as goal

pub returns-clause-read : goal.returns-clause-read
returns-clause-read c = read_without_limits

pub returns-clause-stops : goal.returns-clause-stops
returns-clause-stops c = stops_without_limits

pub returns-clause-read_or_deep : goal.returns-clause-read_or_deep
returns-clause-read_or_deep c = read_or_too_deep

pub returns-clause-stops_or_deep : goal.returns-clause-stops_or_deep
returns-clause-stops_or_deep c = stops_or_too_deep

pub returns-clause-front : goal.returns-clause-front
returns-clause-front c = front_before_fault
