use Rattle.std.proofs.Common.{rules}
use Rattle.data_parser.proofs.OperationNames.{declaration_reads, name_steps}
use Rattle.data_parser.proofs.operation.operation_declaration.Goals as goal

pub returns-clause-read : goal.returns-clause-read
returns-clause-read c =
    declaration_reads _ _ _ _ record {
      place = c.place-place.result;
      names = c.in_ok-declared.declared.names;
      arguments =
          c.in_ok-sorts.sorts.arguments;
      result = c.in_ok-sorts.sorts.result;
    } c.in_ok-declared.declared.between c.place-place.ensures
    c.in_ok-declared.ensures.read c.in_ok-sorts.ensures.read

pub returns-in_err-declared-clause-halts : goal.returns-in_err-declared-clause-halts
returns-in_err-declared-clause-halts c = search (name_steps, rules)

pub returns-in_err-sorts-clause-halts : goal.returns-in_err-sorts-clause-halts
returns-in_err-sorts-clause-halts c = search (name_steps, rules)
