-- Names that the heading of a specification has (ISO 8807, lexical tokens; and this profile).
use Rattle.lotos_ast.specs.declared.spec.Spec.{Spec}
use Rattle.static_constructs.specs.Written.{gates_in}
use Rattle.spec_core.specs.Lists.{Each}
use Rattle.spec_core.specs.Names.{IsIdentifier}

-- each gate in the heading has a name that the grammar allows
abbrev pub AreGatesNamed : Spec → Type 0
AreGatesNamed spec = Each (λ t. IsIdentifier t.text) (gates_in spec.gates)
