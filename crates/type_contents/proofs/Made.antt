-- What is made of types, by numbers in a table, and what it stands for.
use Rattle.std.proofs.Common.{◌≡◌, ◌∙◌, refl, sym, ap, List, [], ◌∷◌, ◌++◌, ℕ, zero, suc, ◌≤◌, length, map, take, Option, None, Some, get_or}
use Rattle.std.specs.List.{flat_map, slice_index_or}
use Rattle.std.proofs.lemmas.List.{map-append}
use Rattle.lotos_ast.specs.declared.types.TypeDef.{TypeDef}
use Rattle.type_contents.specs.declared.numbers.Numbers.{Numbers}
use Rattle.type_contents.specs.Items.{Item, item_of, union}
use Rattle.type_contents.specs.Linked.{items_at_number, formals_at_number, items_linked, formals_linked, made_linked}
use Rattle.type_contents.specs.Own.{own_items, own_formals}
use Rattle.type_contents.specs.Lists.{listed}
use Rattle.std.proofs.lemmas.List.Folds.{flat_map-map}
use Rattle.lotos_ast.specs.declared.types.TypeDef.TheVariants.{Library, Definition}
use Rattle.lotos_ast.specs.declared.types.TypeBody.{TypeBody}
use Rattle.lotos_ast.specs.declared.types.TypeBody.TheVariants.{Declared, Renamed, Actualized}
use Rattle.type_contents.specs.Uses.{number_of, uses_by, links}
use Rattle.type_contents.specs.Contents.{Content, no_content, content_of, kept_one, kept, items_by, formals_by, made_from}
use Rattle.type_contents.specs.Images.{Renaming, renaming_of}
use Rattle.type_contents.specs.Views.{items_at, no_item, AreWithin, made_at, made_items, made_formals, item_numbers, formal_numbers, IsMadeWithin, AreMadeWithin}
use Rattle.type_contents.proofs.Tables.{within_joined, within_more, grown_length, items_stay}

items_of_one : (t : List Item) (m : Option Numbers) → items_at t (made_items m) ≡ (made_at t m).items
items_of_one t None = refl
items_of_one t (Some n) = refl

formals_of_one : (t : List Item) (m : Option Numbers) → items_at t (made_formals m) ≡ (made_at t m).formals
formals_of_one t None = refl
formals_of_one t (Some n) = refl

made_read : (t : List Item) (made : List (Option Numbers)) (k : ℕ) → slice_index_or (map (made_at t) made) k no_content ≡ made_at t (slice_index_or made k None)
made_read t [] k = refl
made_read t (m ∷ ms) zero = refl
made_read t (m ∷ ms) (suc k) = made_read t ms k

pub items_numbered : (t : List Item) (made : List (Option Numbers)) (k : ℕ) → items_at t (item_numbers made k) ≡ items_at_number (map (made_at t) made) k
items_numbered t made k = items_of_one t (slice_index_or made k None) ∙ ap (λ c. c.items) (sym (made_read t made k))

pub formals_numbered : (t : List Item) (made : List (Option Numbers)) (k : ℕ) → items_at t (formal_numbers made k) ≡ formals_at_number (map (made_at t) made) k
formals_numbered t made k = formals_of_one t (slice_index_or made k None) ∙ ap (λ c. c.formals) (sym (made_read t made k))

-- through a list of numbers
all_numbered : (t : List Item) (f : ℕ → List ℕ) (g : ℕ → List Item) → ((k : ℕ) → items_at t (f k) ≡ g k) → (ks : List ℕ) → items_at t (flat_map f ks) ≡ flat_map g ks
all_numbered t f g each [] = refl
all_numbered t f g each (x ∷ xs) = map-append (λ k. get_or t k no_item) (f x) (flat_map f xs) ∙ ap (λ z. z ++ items_at t (flat_map f xs)) (each x) ∙ ap (λ z. g x ++ z) (all_numbered t f g each xs)

pub all_items_numbered : (t : List Item) (made : List (Option Numbers)) (ks : List ℕ) → items_at t (flat_map (item_numbers made) ks) ≡ flat_map (items_at_number (map (made_at t) made)) ks
all_items_numbered t made ks = all_numbered t (item_numbers made) (items_at_number (map (made_at t) made)) (items_numbered t made) ks

pub all_formals_numbered : (t : List Item) (made : List (Option Numbers)) (ks : List ℕ) → items_at t (flat_map (formal_numbers made) ks) ≡ flat_map (formals_at_number (map (made_at t) made)) ks
all_formals_numbered t made ks = all_numbered t (formal_numbers made) (formals_at_number (map (made_at t) made)) (formals_numbered t made) ks

-- all numbers are in the table

within_read : (bound : ℕ) (made : List (Option Numbers)) (k : ℕ) → AreMadeWithin bound made → IsMadeWithin bound (slice_index_or made k None)
within_read bound [] k h = (tt, tt)
within_read bound (m ∷ ms) zero h = h.0
within_read bound (m ∷ ms) (suc k) h = within_read bound ms k h.1

pub items_within : (bound : ℕ) (made : List (Option Numbers)) (k : ℕ) → AreMadeWithin bound made → AreWithin bound (item_numbers made k)
items_within bound made k h = let p : IsMadeWithin bound (slice_index_or made k None) = within_read bound made k h in p.0

pub formals_within : (bound : ℕ) (made : List (Option Numbers)) (k : ℕ) → AreMadeWithin bound made → AreWithin bound (formal_numbers made k)
formals_within bound made k h = let p : IsMadeWithin bound (slice_index_or made k None) = within_read bound made k h in p.1

all_within : (bound : ℕ) (f : ℕ → List ℕ) → ((k : ℕ) → AreWithin bound (f k)) → (ks : List ℕ) → AreWithin bound (flat_map f ks)
all_within bound f each [] = tt
all_within bound f each (x ∷ xs) = within_joined bound (f x) (flat_map f xs) (each x) (all_within bound f each xs)

pub all_items_within : (bound : ℕ) (made : List (Option Numbers)) (ks : List ℕ) → AreMadeWithin bound made → AreWithin bound (flat_map (item_numbers made) ks)
all_items_within bound made ks h = all_within bound (item_numbers made) (λ k. items_within bound made k h) ks

pub all_formals_within : (bound : ℕ) (made : List (Option Numbers)) (ks : List ℕ) → AreMadeWithin bound made → AreWithin bound (flat_map (formal_numbers made) ks)
all_formals_within bound made ks h = all_within bound (formal_numbers made) (λ k. formals_within bound made k h) ks

-- a table that grows keeps what stands for it

one_made_stays : (t u : List Item) (m : Option Numbers) → take (length t) u ≡ t → IsMadeWithin (length t) m → made_at u m ≡ made_at t m
one_made_stays t u None e h = refl
one_made_stays t u (Some n) e h =
    ap (λ z. record { items = z; formals = items_at u n.formals.items }) (items_stay t u n.items.items e h.0)
    ∙ ap (λ z. record { items = items_at t n.items.items; formals = z }) (items_stay t u n.formals.items e h.1)

pub made_stays : (t u : List Item) (made : List (Option Numbers)) → take (length t) u ≡ t → AreMadeWithin (length t) made → map (made_at u) made ≡ map (made_at t) made
made_stays t u [] e h = refl
made_stays t u (m ∷ ms) e h = ap (λ z. z ∷ map (made_at u) ms) (one_made_stays t u m e h.0) ∙ ap (λ z. made_at t m ∷ z) (made_stays t u ms e h.1)

pub made_within_more : (m n : ℕ) (made : List (Option Numbers)) → m ≤ n → AreMadeWithin m made → AreMadeWithin n made
made_within_more m n [] le h = tt
made_within_more m n (x ∷ xs) le h = ((within_more m n (made_items x) le h.0.0, within_more m n (made_formals x) le h.0.1), made_within_more m n xs le h.1)

-- parts of a content

pub named_and_more : (t : List Item) (ns : List ℕ) (xs more ys : List Item) → items_at t ns ≡ xs → more ≡ ys → items_at t ns ++ more ≡ xs ++ ys
named_and_more t ns xs more ys e f = ap (λ z. z ++ more) e ∙ ap (λ z. xs ++ z) f

pub same_kept : (f g : List Item) (r s : Renaming) (xs ys : List Item) → f ≡ g → r ≡ s → xs ≡ ys → flat_map (kept_one f r) xs ≡ flat_map (kept_one g s) ys
same_kept f g r s xs ys d e h = ap (λ z. flat_map (kept_one z r) xs) d ∙ ap (λ z. flat_map (kept_one g z) xs) e ∙ ap (flat_map (kept_one g s)) h

-- the items of numbers of a table before it grew, and of further ones
pub joined_stay : (t u : List Item) (ns ms : List ℕ) (more : List Item) → take (length t) u ≡ t → AreWithin (length t) ns → items_at u ms ≡ more → items_at u (ns ++ ms) ≡ items_at t ns ++ more
joined_stay t u ns ms more e h f = map-append (λ k. get_or u k no_item) ns ms ∙ named_and_more u ns (items_at t ns) (items_at u ms) more (items_stay t u ns e h) f

pub within_both : (t u : List Item) (ns ms : List ℕ) → take (length t) u ≡ t → AreWithin (length t) ns → AreWithin (length u) ms → AreWithin (length u) (ns ++ ms)
within_both t u ns ms e h k = within_joined (length u) ns ms (within_more (length t) (length u) ns (grown_length t u e) h) k

-- what was made before the table grew
pub made_before : (t u : List Item) (ns : List ℕ) (xs : List Item) → take (length t) u ≡ t → AreWithin (length t) ns → items_at t ns ≡ xs → items_at u ns ≡ xs
made_before t u ns xs e h f = items_stay t u ns e h ∙ f

pub numbered_within : (bound : ℕ) (made : List (Option Numbers)) (k : ℕ) → AreMadeWithin bound made → IsMadeWithin bound (slice_index_or made k None)
numbered_within bound made k h = within_read bound made k h

-- by numbers and by names

items_by_names : (types : List TypeDef) (t : List Content) (body : TypeBody) → items_linked t (map (number_of types) (uses_by body)) body ≡ items_by types t body
items_by_names types t (Declared place imports formals sorts operations equations) = ap (λ z. z ++ map item_of (own_items formals sorts operations)) (flat_map-map (items_at_number t) (number_of types) (listed imports))
items_by_names types t (Renamed place source pairs) = refl
items_by_names types t (Actualized place source actuals pairs) = ap (λ z. z ++ kept (content_of types t source) (renaming_of pairs)) (flat_map-map (items_at_number t) (number_of types) actuals.items)

formals_by_names : (types : List TypeDef) (t : List Content) (body : TypeBody) → formals_linked t (map (number_of types) (uses_by body)) body ≡ formals_by types t body
formals_by_names types t (Declared place imports formals sorts operations equations) = ap (λ z. z ++ map item_of (own_formals formals)) (flat_map-map (formals_at_number t) (number_of types) (listed imports))
formals_by_names types t (Renamed place source pairs) = refl
formals_by_names types t (Actualized place source actuals pairs) = flat_map-map (formals_at_number t) (number_of types) actuals.items

pub made_by_names : (types : List TypeDef) (t : List Content) (linked : List ℕ) (d : TypeDef) → linked ≡ links types d → made_linked t linked d ≡ made_from types t d
made_by_names types t linked (Library place names) e = refl
made_by_names types t linked (Definition place name body) e =
    ap (λ z. made_linked t z (Definition place name body)) e
    ∙ ap (λ z. record { items = union z; formals = union (formals_linked t (map (number_of types) (uses_by body)) body) }) (items_by_names types t body)
    ∙ ap (λ z. record { items = union (items_by types t body); formals = union z }) (formals_by_names types t body)
