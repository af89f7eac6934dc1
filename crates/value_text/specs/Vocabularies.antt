-- What is known of a specification's operations before anything is printed.
use Rattle.std.specs.Prelude.{◌≡◌}
use Rattle.spec_core.specs.Code.{program_of}
use Rattle.spec_core.specs.Theories.{Theory}
use Rattle.value_text.specs.declared.vocabulary.Vocabulary.{Vocabulary}
use Rattle.value_text.specs.Values.{sharing}

-- the vocabulary knows of each operation whether another one shares its name and its argument sorts
abbrev pub IsWhole : Vocabulary → Type 0
IsWhole v = v.shared.items ≡ sharing (program_of v.checked.now).theory.operations

-- the data of a vocabulary's specification
abbrev pub theory_in : Vocabulary → Theory
theory_in v = (program_of v.checked.now).theory
