-- What types have of their own, they have in one way only.
use Rattle.std.proofs.Common.{List, [], ◌∷◌, map, ap, sym, ◌∙◌}
use Rattle.std.specs.List.{zip}
use Rattle.lotos_ast.specs.declared.types.EquationBody.{EquationBody}
use Rattle.lotos_ast.specs.declared.types.TypeDef.{TypeDef}
use Rattle.static_equations.specs.Laws.{IsOne}
use Rattle.static_equations.proofs.Uniqueness.{gathers-one, body-one}
use Rattle.type_contents.specs.Contents.{Content, contents}
use Rattle.type_contents.specs.Items.{Item, Described}
use Rattle.type_contents.specs.Numbering.{all_sorts, all_operations}
use Rattle.static_presentation.specs.Moved.{moved_equation}
use Rattle.static_presentation.specs.Own.{bodies, AreRead, IsOwnOf, AreOwnEquations}
use Rattle.static_presentation.specs.Signatures.{type_context, numbers_had}

read-one : (sorts operations : List Described) (items : List Item) (written : List EquationBody) → IsOne (AreRead sorts operations items written)
read-one sorts operations items written f g rs ss (own, h, e) (other, k, l) =
    let one = gathers-one _ (body-one (type_context sorts operations items)) written own other rs ss h k in
    (e ∙ ap (map (moved_equation (numbers_had items sorts) (numbers_had items operations))) one.0 ∙ sym l, one.1)

of-type-one : (sorts operations : List Described) (e : TypeDef × Content) → IsOne (IsOwnOf sorts operations e)
of-type-one sorts operations e f g rs ss (own, h, k) (other, l, m) =
    let one = read-one sorts operations e.1.items (bodies e.0) own other rs ss k m in (h ∙ ap (λ z. z ∷ []) one.0 ∙ sym l, one.1)

pub own-one : (types : List TypeDef) → IsOne (AreOwnEquations types)
own-one types = gathers-one _ (of-type-one (all_sorts types) (all_operations types)) (zip types (contents types))
