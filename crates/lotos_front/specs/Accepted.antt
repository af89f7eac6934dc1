-- Texts whose data can be run.
use Rattle.std.specs.Prelude.{ℕ, List}
use Rattle.spec_core.specs.Executable.{IsExecutable}
use Rattle.spec_core.specs.Theories.{Theory}
use Rattle.lotos_front.specs.Stages.{IsDataIn}

-- the data of a text, where nothing is refused of them: each ground term has one value
pub record IsExecutableIn (text : List ℕ) (theory : Theory) : Type 0 where
  pub data_of : IsDataIn text theory
  pub executable : IsExecutable theory
