-- What tokens say of a specification.
use Rattle.std.specs.Prelude.{List, []}
use Rattle.lotos_ast.specs.declared.spec.Spec.{Spec}
use Rattle.lotos_ast.specs.declared.token.Token.{Token}
use Rattle.lotos_ast.specs.Notation.{part, specification}
use Rattle.lotos_ast.specs.Parsing.{IsParsed}
use Rattle.lotos_ast.specs.SpecTrees.{spec_tree}
use Rattle.static_uniqueness.specs.SpecificationsAlike.{AreSpecificationsAlike}

-- specifications that are read of the same tokens are alike
abbrev pub TokensDetermineSpecifications : Type 0
TokensDetermineSpecifications = (tokens : List Token) (a b : Spec) →
    IsParsed (part specification) tokens (spec_tree a) [] → IsParsed (part specification) tokens (spec_tree b) [] →
    AreSpecificationsAlike a b
