-- Laws: what is printed of a value is read as that value, and as no other.
use Rattle.std.specs.Prelude.{ℕ, ◌≡◌, true, List, ◌++◌, Some}
use Rattle.spec_core.specs.Code.{Program}
use Rattle.spec_core.specs.Ready.{AreNamed}
use Rattle.spec_core.specs.Sorts.{FitsData}
use Rattle.value_text.specs.Values.{value_text, IsGroundList}
use Rattle.value_reader.specs.Ends.{ends_value}
use Rattle.value_reader.specs.Stands.{read_in}

-- the text of a ground term, with anything behind it before which a term may end, is read as that term
abbrev pub PrintedIsRead : Type 0
PrintedIsRead = (program : Program) → FitsData program.theory → AreNamed program → (value rest : List ℕ) →
    IsGroundList program.theory value → ends_value rest ≡ true →
    read_in program.theory (value_text program.theory value ++ rest) ≡ Some value

-- ground terms with one text are one
abbrev pub OneValue : Type 0
OneValue = (program : Program) → FitsData program.theory → AreNamed program → (value other : List ℕ) →
    IsGroundList program.theory value → IsGroundList program.theory other →
    value_text program.theory value ≡ value_text program.theory other → value ≡ other
