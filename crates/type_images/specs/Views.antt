-- What the definitions see of the values of the code.
use Rattle.spec_core.specs.Theories.{ConditionalEquation, equation_of}
use Rattle.type_images.specs.declared.shared.SharedEquation.{SharedEquation}
use Rattle.type_images.specs.declared.numbers.Renumbering.{Renumbering}
use Rattle.type_images.specs.Images.{NewNumbers}

abbrev pub numbers_of : Renumbering → NewNumbers
numbers_of r = record { sorts = r.sorts.items; operations = r.operations.items }

abbrev pub shared_of : SharedEquation → ConditionalEquation
shared_of s = equation_of s.equation.value
