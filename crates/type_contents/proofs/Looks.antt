-- What a type has depends on what those have from which it is made, and on no other.
use Rattle.std.proofs.Common.{◌≡◌, ◌∙◌, refl, ap, List, [], ◌∷◌, ◌++◌, map}
use Rattle.std.specs.List.{AllByRecursion, flat_map, slice_index_or}
use Rattle.lotos_ast.specs.declared.token.Token.{Token}
use Rattle.lotos_ast.specs.declared.types.TypeDef.{TypeDef}
use Rattle.lotos_ast.specs.declared.types.TypeDef.TheVariants.{Library, Definition}
use Rattle.lotos_ast.specs.declared.types.TypeBody.{TypeBody}
use Rattle.lotos_ast.specs.declared.types.TypeBody.TheVariants.{Declared, Renamed, Actualized}
use Rattle.type_contents.specs.Lists.{listed}
use Rattle.type_contents.specs.Items.{item_of, union}
use Rattle.type_contents.specs.Own.{own_items, own_formals}
use Rattle.type_contents.specs.Images.{image, renaming_of}
use Rattle.type_contents.specs.Uses.{number_of, uses_by, links}
use Rattle.type_contents.specs.Contents.{Content, no_content, content_of, items_of, formals_of, kept, items_by, formals_by, made_from}

abbrev AgreeOn : List TypeDef → List Content → List Content → List Token → Type 0
AgreeOn types t u names = AllByRecursion (λ j. slice_index_or t j no_content ≡ slice_index_or u j no_content) (map (number_of types) names)

same_items : (types : List TypeDef) (t u : List Content) (names : List Token) → AgreeOn types t u names → flat_map (items_of types t) names ≡ flat_map (items_of types u) names
same_items types t u [] h = refl
same_items types t u (x ∷ xs) h = ap (λ c. c.items ++ flat_map (items_of types t) xs) h.0 ∙ ap (λ z. items_of types u x ++ z) (same_items types t u xs h.1)

same_formals : (types : List TypeDef) (t u : List Content) (names : List Token) → AgreeOn types t u names → flat_map (formals_of types t) names ≡ flat_map (formals_of types u) names
same_formals types t u [] h = refl
same_formals types t u (x ∷ xs) h = ap (λ c. c.formals ++ flat_map (formals_of types t) xs) h.0 ∙ ap (λ z. formals_of types u x ++ z) (same_formals types t u xs h.1)

items_agree : (types : List TypeDef) (t u : List Content) (body : TypeBody) → AgreeOn types t u (uses_by body) → items_by types t body ≡ items_by types u body
items_agree types t u (Declared place imports formals sorts operations equations) h = ap (λ z. z ++ map item_of (own_items formals sorts operations)) (same_items types t u (listed imports) h)
items_agree types t u (Renamed place source pairs) h = ap (λ c. map (image (renaming_of pairs)) c.items) h.0
items_agree types t u (Actualized place source actuals pairs) h =
    ap (λ z. z ++ kept (content_of types t source) (renaming_of pairs)) (same_items types t u actuals.items h.1) ∙ ap (λ c. flat_map (items_of types u) actuals.items ++ kept c (renaming_of pairs)) h.0

formals_agree : (types : List TypeDef) (t u : List Content) (body : TypeBody) → AgreeOn types t u (uses_by body) → formals_by types t body ≡ formals_by types u body
formals_agree types t u (Declared place imports formals sorts operations equations) h = ap (λ z. z ++ map item_of (own_formals formals)) (same_formals types t u (listed imports) h)
formals_agree types t u (Renamed place source pairs) h = ap (λ c. map (image (renaming_of pairs)) c.formals) h.0
formals_agree types t u (Actualized place source actuals pairs) h = same_formals types t u actuals.items h.1

pub made_agree : (types : List TypeDef) (d : TypeDef) (t u : List Content) → AllByRecursion (λ j. slice_index_or t j no_content ≡ slice_index_or u j no_content) (links types d) → made_from types t d ≡ made_from types u d
made_agree types (Library place names) t u h = refl
made_agree types (Definition place name body) t u h =
    ap (λ z. record { items = union z; formals = union (formals_by types t body) }) (items_agree types t u body h)
    ∙ ap (λ z. record { items = union (items_by types u body); formals = union z }) (formals_agree types t u body h)
