-- Calls of processes that are made at once: before any action of the behaviour that makes them, and before the right side of an enabling
-- (this profile).
use Rattle.std.specs.Prelude.{List, [], ◌∷◌, ◌++◌, Option, Some, None}
use Rattle.lotos_ast.specs.declared.place.Place.{Place}
use Rattle.static_constructs.specs.Constructs.{Construct, stops, exits, acts_inside, acts, chooses, asks, binds, chooses_values, chooses_gates}
use Rattle.static_constructs.specs.Constructs.{composes, hides, enables, disables, calls, copies}
use Rattle.static_readings.specs.Sites.{Site, Heading, process_named}
use Rattle.static_call_cycles.specs.declared.call.Call.{Call}

-- the call of a process at this place, if there is one of the name
abbrev pub call_of : Place → Option Heading → List Call
call_of place None = []
call_of place (Some p) = record { place = place; process = p.number } ∷ []

-- the calls that a construct makes at once, in the order of the text. What stands behind an action or a `>>` isn't called at once;
-- all else is
abbrev pub calls_at_once : Site → Construct → List Call
calls_at_once s stops = []
calls_at_once s (exits values) = []
calls_at_once s (acts_inside b) = []
calls_at_once s (acts gate offers predicate b) = []
calls_at_once s (chooses place a b) = calls_at_once s a ++ calls_at_once s b
calls_at_once s (asks p b) = calls_at_once s b
calls_at_once s (binds bindings b) = calls_at_once s b
calls_at_once s (chooses_values ds b) = calls_at_once s b
calls_at_once s (chooses_gates cs b) = calls_at_once s b
calls_at_once s (composes place operator a b) = calls_at_once s a ++ calls_at_once s b
calls_at_once s (hides gates b) = calls_at_once s b
calls_at_once s (enables place a ds b) = calls_at_once s a
calls_at_once s (disables place a b) = calls_at_once s a ++ calls_at_once s b
calls_at_once s (calls name gates es) = call_of name.place (process_named s name)
calls_at_once s (copies gate among operator b) = calls_at_once s b
