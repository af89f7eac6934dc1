-- Specifications with what evaluates their terms.
use Rattle.spec_core.specs.Code.{Program, program_of}
use Rattle.match_code.specs.declared.prepared.Prepared.{Prepared}

-- the program of the specification
abbrev pub program_in : Prepared → Program
program_in prepared = program_of prepared.checked.now
