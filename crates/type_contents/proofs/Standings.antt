-- How types stand among others, found one after another.
use Rattle.std.proofs.Common.{◌≡◌, ◌∙◌, refl, sym, ap, subst, List, [], ◌∷◌, ◌++◌, ℕ, zero, suc, ◌<◌, ◌≤◌, length, map, set, get_or, Option, None, Some, is_some, option_map, Bool, true, false, ◌||◌, nat_eq}
use Rattle.std.specs.List.{AllByRecursion, list_all, list_any, flat_map, slice_index_or}
use Rattle.std.proofs.lemmas.List.{get_or-map, length-map}
use Rattle.std.proofs.lemmas.Option.{none-some}
use Rattle.lotos_ast.specs.declared.token.Token.{Token}
use Rattle.lotos_ast.specs.declared.types.TypeDef.{TypeDef}
use Rattle.lotos_ast.specs.declared.types.TypeDef.TheVariants.{Library, Definition}
use Rattle.lotos_ast.specs.declared.types.TypeBody.{TypeBody}
use Rattle.lotos_ast.specs.declared.types.TypeBody.TheVariants.{Declared, Renamed, Actualized}
use Rattle.type_contents.specs.declared.standing.Standing.{Standing}
use Rattle.type_contents.specs.declared.schedule.Links.{Links}
use Rattle.type_contents.specs.Lists.{listed, each_once}
use Rattle.type_contents.specs.Uses.{number_of, uses_by, links}
use Rattle.type_contents.specs.FormalTypes.{declares_formals, is_formal_in, is_formal_by, is_formal_from, formal_types}
use Rattle.type_contents.specs.Numbering.{parts_from, parts}
use Rattle.type_contents.specs.Settled.{are_ready, known, IsSettled}
use Rattle.type_contents.specs.Views.{formal_at, parts_at, AreStandingsSettled}
use Rattle.type_contents.proofs.Settled.{settle_one, all_settled}
use Rattle.type_contents.proofs.Schedules.{ready_through, set_through, each_through}

-- they depend on those of which a type is made

abbrev pub AgreeOn : {A : Type 0} → A → List A → List A → List ℕ → Type 0
AgreeOn nothing t u used = AllByRecursion (λ j. slice_index_or t j nothing ≡ slice_index_or u j nothing) used

one_formal : (types : List TypeDef) (t u : List Bool) (names : List Token) → AgreeOn false t u (map (number_of types) names) → list_any (is_formal_in types t) names ≡ list_any (is_formal_in types u) names
one_formal types t u [] h = refl
one_formal types t u (x ∷ xs) h = ap (λ z. z || list_any (is_formal_in types t) xs) h.0 ∙ ap (λ z. is_formal_in types u x || z) (one_formal types t u xs h.1)

formal_agree_by : (types : List TypeDef) (t u : List Bool) (body : TypeBody) → AgreeOn false t u (map (number_of types) (uses_by body)) → is_formal_by types t body ≡ is_formal_by types u body
formal_agree_by types t u (Declared place imports formals sorts operations equations) h = ap (λ z. declares_formals formals || z) (one_formal types t u (listed imports) h)
formal_agree_by types t u (Renamed place source pairs) h = h.0
formal_agree_by types t u (Actualized place source actuals pairs) h = refl

formal_agree : (types : List TypeDef) (d : TypeDef) (t u : List Bool) → AgreeOn false t u (links types d) → is_formal_from types t d ≡ is_formal_from types u d
formal_agree types (Library place names) t u h = refl
formal_agree types (Definition place name body) t u h = formal_agree_by types t u body h

parts_agree_on : (t u : List (List ℕ)) (used : List ℕ) → AgreeOn [] t u used → flat_map (λ k. k ∷ slice_index_or t k []) used ≡ flat_map (λ k. k ∷ slice_index_or u k []) used
parts_agree_on t u [] h = refl
parts_agree_on t u (k ∷ ks) h = ap (λ z. (k ∷ z) ++ flat_map (λ j. j ∷ slice_index_or t j []) ks) h.0 ∙ ap (λ z. (k ∷ slice_index_or u k []) ++ z) (parts_agree_on t u ks h.1)

parts_agree : (types : List TypeDef) (d : TypeDef) (t u : List (List ℕ)) → AgreeOn [] t u (links types d) → parts_from types t d ≡ parts_from types u d
parts_agree types d t u h = ap (each_once nat_eq) (parts_agree_on t u (links types d) h)

-- found one after another

known_formal : (found : List (Option Standing)) → known false (map (option_map (λ s. s.formal)) found) ≡ map formal_at found
known_formal [] = refl
known_formal (None ∷ xs) = ap (λ z. false ∷ z) (known_formal xs)
known_formal (Some s ∷ xs) = ap (λ z. s.formal ∷ z) (known_formal xs)

known_parts : (found : List (Option Standing)) → known [] (map (option_map (λ s. s.parts.items)) found) ≡ map parts_at found
known_parts [] = refl
known_parts (None ∷ xs) = ap (λ z. [] ∷ z) (known_parts xs)
known_parts (Some s ∷ xs) = ap (λ z. s.parts.items ∷ z) (known_parts xs)

pub one_more : {S A : Type 0} (nothing : A) (make : List A → TypeDef → A) (view : S → A) (used : TypeDef → List ℕ) (types : List TypeDef)
    → ((d : TypeDef) (t u : List A) → AgreeOn nothing t u (used d) → make t d ≡ make u d)
    → (found : List (Option S)) (n k : ℕ) (one : S) (d : TypeDef) → length found ≡ length types → k < length types → d ≡ get_or types k d → view one ≡ make (known nothing (map (option_map view) found)) d
    → are_ready found (slice_index_or (map used types) k []) ≡ true → IsSettled nothing make types (map (option_map view) found) n → IsSettled nothing make types (map (option_map view) (set found k (Some one))) (suc n)
one_more nothing make view used types looks found n k one d same less at is ready settled =
    subst (λ f. IsSettled nothing make types f (suc n)) (sym (set_through view found k one))
    (settle_one nothing make types (map (option_map view) found) n k d (view one) (used d) (looks d) settled (length-map found (option_map view) ∙ same) less at
    (ready_through view found (used d) ∙ ap (are_ready found) (sym (get_or-map used types k d [] less ∙ ap used (sym at))) ∙ ready) is)

pub one_stands : (types : List TypeDef) (found : List (Option Standing)) (n k : ℕ) (one : Standing) (d : TypeDef) → length found ≡ length types → k < length types → d ≡ get_or types k d
    → one.formal ≡ is_formal_from types (map formal_at found) d → one.parts.items ≡ parts_from types (map parts_at found) d
    → are_ready found (slice_index_or (map (links types) types) k []) ≡ true → AreStandingsSettled types found n → AreStandingsSettled types (set found k (Some one)) (suc n)
one_stands types found n k one d same less at formal parts ready settled = (
  one_more false (is_formal_from types) (λ s. s.formal) (links types) types (formal_agree types) found n k one d same less at (formal ∙ ap (λ z. is_formal_from types z d) (sym (known_formal found))) ready settled.0,
  one_more [] (parts_from types) (λ s. s.parts.items) (links types) types (parts_agree types) found n k one d same less at (parts ∙ ap (λ z. parts_from types z d) (sym (known_parts found))) ready settled.1,
)

pub all_formal : (types : List TypeDef) (found : List (Option Standing)) (n : ℕ) → AreStandingsSettled types found n → n ≤ length types → length found ≡ length types → list_all is_some found ≡ true → map formal_at found ≡ formal_types types
all_formal types found n settled le same each =
    sym (known_formal found) ∙ all_settled false (is_formal_from types) types (map (option_map (λ s. s.formal)) found) n settled.0 le (length-map found (option_map (λ s. s.formal)) ∙ same) (each_through (λ s. s.formal) found ∙ each)

pub all_parts : (types : List TypeDef) (found : List (Option Standing)) (n : ℕ) → AreStandingsSettled types found n → n ≤ length types → length found ≡ length types → list_all is_some found ≡ true → map parts_at found ≡ parts types
all_parts types found n settled le same each =
    sym (known_parts found) ∙ all_settled [] (parts_from types) types (map (option_map (λ s. s.parts.items)) found) n settled.1 le (length-map found (option_map (λ s. s.parts.items)) ∙ same) (each_through (λ s. s.parts.items) found ∙ each)

-- nothing is found yet

nothing_read : {S A : Type 0} (types : List TypeDef) (f : S → A) (k : ℕ) → slice_index_or (map (option_map f) (map (λ _. None) types)) k None ≡ None
nothing_read [] f k = refl
nothing_read (d ∷ ds) f zero = refl
nothing_read (d ∷ ds) f (suc k) = nothing_read ds f k

pub none_at : {S A : Type 0} (nothing : A) (make : List A → TypeDef → A) (view : S → A) (types : List TypeDef) (found : List (Option S)) → found ≡ map (λ _. None) types → IsSettled nothing make types (map (option_map view) found) 0
none_at nothing make view types found is k x at m le = absurd (none-some x (sym (nothing_read types view k) ∙ sym (ap (λ z. slice_index_or (map (option_map view) z) k None) is) ∙ at))

pub none_stand : (types : List TypeDef) (found : List (Option Standing)) → found ≡ map (λ _. None) types → AreStandingsSettled types found 0
none_stand types found is = (none_at false (is_formal_from types) (λ s. s.formal) types found is, none_at [] (parts_from types) (λ s. s.parts.items) types found is)

nothing_formal : (types : List TypeDef) → map formal_at (map (λ _. None) types) ≡ map (λ _. false) types
nothing_formal [] = refl
nothing_formal (d ∷ ds) = ap (λ z. false ∷ z) (nothing_formal ds)

pub none_formal : (types : List TypeDef) (found : List (Option Standing)) → found ≡ map (λ _. None) types → map formal_at found ≡ map (λ _. false) types
none_formal types found is = ap (map formal_at) is ∙ nothing_formal types

nothing_parts : (types : List TypeDef) → map parts_at (map (λ _. None) types) ≡ map (λ _. []) types
nothing_parts [] = refl
nothing_parts (d ∷ ds) = ap (λ z. [] ∷ z) (nothing_parts ds)

pub none_parts : (types : List TypeDef) (found : List (Option Standing)) → found ≡ map (λ _. None) types → map parts_at found ≡ map (λ _. []) types
none_parts types found is = ap (map parts_at) is ∙ nothing_parts types

-- the links of a type, read from the table of links
pub linked_at : (types : List TypeDef) (linked : List Links) (k : ℕ) (l : Links) (d : TypeDef) → map (λ (m : Links). m.numbers.items) linked ≡ map (links types) types → k < length types → l ≡ get_or linked k l → d ≡ get_or types k d → l.numbers.items ≡ links types d
linked_at types linked k l d e less here at =
    let w : k < length linked = subst (λ n. k < n) (sym (length-map types (links types)) ∙ sym (ap length e) ∙ length-map linked (λ (m : Links). m.numbers.items)) less in
    ap (λ (m : Links). m.numbers.items) here ∙ sym (get_or-map (λ (m : Links). m.numbers.items) linked k l [] w) ∙ ap (λ z. get_or z k []) e ∙ get_or-map (links types) types k d [] less ∙ ap (links types) (sym at)
