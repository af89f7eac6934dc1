-- What the definitions see of the values of the code.
use Rattle.std.specs.Prelude.{map, []}
use Rattle.sort_overloads.specs.Readings.{Context}
use Rattle.static_processes.specs.Views.{entry_of}
use Rattle.static_check.specs.Bodies as bodies
use Rattle.static_check.specs.declared.setting.Setting.{Setting}

-- the sorts and operations alone
abbrev pub data_of : Context → Context
data_of c = record { sorts = c.sorts; operations = c.operations; variables = [] }

-- what all bodies are read by, over these sorts and operations
abbrev pub setting_of : Context → Setting → bodies.Setting
setting_of c s = record { context = data_of c; gates = s.gates; table = map entry_of s.table.now }
