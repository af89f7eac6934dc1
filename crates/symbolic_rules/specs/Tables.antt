-- Windows in a table, by the numbers of the sorts.
use Rattle.std.specs.Prelude.{List, [], Option, Some, None, Bool, true, ℕ}
use Rattle.std.specs.List.{slice_get}
use Rattle.spec_core.specs.declared.window.Window.{Window}
use Rattle.symbolic_rules.specs.Windows.{Windows}

abbrev pub values_of : Option Window → List (List ℕ)
values_of None = []
values_of (Some window) = window.values.items

abbrev pub complete_of : Option Window → Bool
complete_of None = true
complete_of (Some window) = window.complete

-- the windows of a table; a sort beyond it has no values
abbrev pub windows_in : List Window → Windows
windows_in table = record { values = λ sort. values_of (slice_get table sort); complete = λ sort. complete_of (slice_get table sort) }
