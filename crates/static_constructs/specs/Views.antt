-- What the definitions see of the values of the code.
use Rattle.std.specs.Prelude.{option_map, box_value}
use Rattle.static_constructs.specs.Constructs.{stops, exits, acts_inside, acts, chooses, asks, binds, chooses_values, chooses_gates}
use Rattle.static_constructs.specs.Constructs.{composes, hides, enables, disables, calls, copies}
use Rattle.static_constructs.specs.Constructs as written
use Rattle.static_constructs.specs.declared.construct.Construct.{Construct}
use Rattle.static_constructs.specs.declared.construct.Construct.TheOpen.{Construct-F, Stop, Exit, Inner, Act, Choice, Guard, Let, Values}
use Rattle.static_constructs.specs.declared.construct.Construct.TheOpen.{Gates, Parallel}
use Rattle.static_constructs.specs.declared.construct.Construct.TheOpen.{Hide, Enable, Disable, Call, Par}
use Rattle.static_constructs.specs.declared.construct.Construct.TheFolds.{fold-Construct}

abbrev pub construct_step : Construct-F written.Construct → written.Construct
construct_step Stop = stops
construct_step (Exit values) = exits values.now
construct_step (Inner rest) = acts_inside (box_value rest)
construct_step (Act gate offers predicate rest) = acts gate.now offers.now (option_map (λ p. p.now) predicate) (box_value rest)
construct_step (Choice place left right) = chooses place (box_value left) (box_value right)
construct_step (Guard condition inner) = asks condition.now (box_value inner)
construct_step (Let bindings inner) = binds bindings.now (box_value inner)
construct_step (Values declarations inner) = chooses_values declarations.now (box_value inner)
construct_step (Gates choices inner) = chooses_gates choices.now (box_value inner)
construct_step (Parallel place operator left right) = composes place operator.now (box_value left) (box_value right)
construct_step (Hide gates inner) = hides gates.now (box_value inner)
construct_step (Enable place left accepts right) = enables place (box_value left) accepts.now (box_value right)
construct_step (Disable place left right) = disables place (box_value left) (box_value right)
construct_step (Call name gates values) = calls name.now gates.now values.now
construct_step (Par gate gates operator inner) = copies gate.now gates.now operator.now (box_value inner)

-- the construct that a value of the program stands for
abbrev pub construct_of : Construct → written.Construct
construct_of = fold-Construct written.Construct construct_step
