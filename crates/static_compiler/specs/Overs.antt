-- The construct that stands over a part.
use Rattle.std.specs.Prelude.{option_map}
use Rattle.static_constructs.specs.Constructs.{Construct, acts_inside, acts, asks, binds, chooses_values, chooses_gates, hides, copies}
use Rattle.static_compiler.specs.declared.over.Over.{Over}
use Rattle.static_compiler.specs.declared.over.Over.TheVariants.{Inner, Act, Guard, Let, Values, Gates, Hide, Par}

abbrev pub whole_of : Over → Construct → Construct
whole_of Inner part = acts_inside part
whole_of (Act gate offers predicate) part = acts gate.now offers.now (option_map (λ p. p.now) predicate) part
whole_of (Guard condition) part = asks condition.now part
whole_of (Let bindings) part = binds bindings.now part
whole_of (Values declarations) part = chooses_values declarations.now part
whole_of (Gates choices) part = chooses_gates choices.now part
whole_of (Hide gates) part = hides gates.now part
whole_of (Par gate gates operator) part = copies gate.now gates.now operator.now part
