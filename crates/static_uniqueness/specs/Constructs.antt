-- What is read of constructs that are alike is the same.
use Rattle.std.specs.Prelude.{ℕ, List, Option}
use Rattle.lotos_ast.specs.declared.refusal.Refusal.{Refusal}
use Rattle.static_readings.specs.Joins.{Read}
use Rattle.static_readings.specs.Readings.{IsRead}
use Rattle.static_readings.specs.Sites.{Site}
use Rattle.static_constructs.specs.Constructs.{Construct}
use Rattle.static_uniqueness.specs.ConstructsAlike.{AreConstructsAlike}

abbrev pub SameIsRead : Type 0
SameIsRead = (s : Site) (from : ℕ) (b c : Construct) → AreConstructsAlike b c → (found : Option Read) (refusals : List Refusal) →
    IsRead s from b found refusals → IsRead s from c found refusals
