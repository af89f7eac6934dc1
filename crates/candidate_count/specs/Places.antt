-- Behaviours of the code, whichever gates and values they have.
use Rattle.std.specs.Prelude.{List, [], ◌∷◌}
use Rattle.spec_core.specs.Code.{Program, Relabelling}
use Rattle.rule_model.specs.Behaviours.{Behaviour, call, relabel}
use Rattle.rule_origins.specs.Parts.{behaviour_at}
use Rattle.candidate_count.specs.declared.places.Place.{Place}
use Rattle.candidate_count.specs.declared.places.Place.TheVariants.{At, Renamed, Called}

-- the behaviour at a number of the code, or this relabelled, or a call
abbrev pub placed : Program → Place → Behaviour
placed program (At n) = behaviour_at program n
placed program (Renamed n) = relabel [] (behaviour_at program n)
placed program (Called p) = call p [] []

-- what a behaviour is under a relabelling, tidied: two relabellings one over the other are one, and a call stays one
abbrev pub renamed_once : Behaviour → Behaviour
renamed_once (relabel pairs b) = renamed_once b
renamed_once (call p gates terms) = call p [] []
renamed_once b = relabel [] b

-- the same under a relabelling that may be empty, which is none
abbrev pub renamed_by : List Relabelling → Behaviour → Behaviour
renamed_by [] b = b
renamed_by (m ∷ pairs) b = renamed_once b
