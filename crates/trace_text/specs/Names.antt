-- The names that a specification gives to what a log holds.
use Rattle.spec_core.specs.Code.{Program, program_of}
use Rattle.spec_core.specs.TermText.{term_text}
use Rattle.std.specs.Prelude.{[]}
use Rattle.value_text.specs.declared.vocabulary.Vocabulary.{Vocabulary}
use Rattle.value_text.specs.Values.{name_at, value_text}
use Rattle.trace_text.specs.Trace.{Names}

-- gates, sorts and operations have the names of their declarations
abbrev pub names_in : Program → Names
names_in program = record {
  gate = λ place. name_at program.gates place.0;
  sort = λ sort. name_at program.theory.sorts sort.0;
  term = term_text program.theory.sorts program.theory.operations [];
  value = value_text program.theory;
}

abbrev pub names_with : Vocabulary → Names
names_with v = names_in (program_of v.checked.now)
