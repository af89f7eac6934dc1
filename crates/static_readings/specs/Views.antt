-- What the definitions see of the values of the code.
use Rattle.std.specs.Prelude.{Option, ℕ, List, map, option_map, Vec}
use Rattle.std.specs.declared.alloc.Global.{Global}
use Rattle.spec_core.specs.Numbers.{sort_number}
use Rattle.spec_core.specs.Functionality as core
use Rattle.spec_core.specs.declared.code.ActField.{ActField}
use Rattle.spec_core.specs.declared.code.ExitField.{ExitField}
use Rattle.spec_core.specs.declared.items.Sort.{Sort}
use Rattle.spec_core.specs.Code as code
use Rattle.spec_core.specs.Code.{node_of, action_field_of}
use Rattle.static_readings.specs.Outputs as outputs
use Rattle.static_readings.specs.Sites as sites
use Rattle.static_readings.specs.declared.functionality.Functionality.{Functionality}
use Rattle.static_readings.specs.declared.functionality.Functionality.TheVariants.{NoExit, Exits}
use Rattle.static_readings.specs.declared.heading.Heading.{Heading}
use Rattle.static_readings.specs.declared.output.Output.{Output}

abbrev pub functionality_of : Functionality → core.Functionality
functionality_of NoExit = core.noexit
functionality_of (Exits sorts) = core.exits (map sort_number sorts.items)

abbrev pub heading_of : Heading → sites.Heading
heading_of h = record {
  name = h.name;
  number = h.number;
  gates = h.gates;
  sorts = map (λ sort. option_map sort_number sort) h.sorts.items;
  functionality = option_map functionality_of h.functionality;
}

abbrev pub output_of : Output → outputs.Output
output_of o = record { code = map node_of o.code.items; refusals = o.refusals.items }

-- a value with which a behaviour ends, and its sort
abbrev pub exit_value_at : ExitField × Sort → code.ExitValue × ℕ
exit_value_at v = (code.exit_value_of v.0, v.1.0)

abbrev pub sort_if_known : Option Sort → Option ℕ
sort_if_known sort = option_map sort_number sort

-- the fields of an offer
abbrev pub fields_of : Vec ActField Global → List code.ActionField
fields_of fields = map action_field_of fields.items
