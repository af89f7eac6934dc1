-- Those that stand in one `where` part.
use Rattle.std.proofs.Common.{ℕ, ◌≡◌, ◌∙◌, refl, sym, ap, ◌+◌, arith, List, [], ◌∷◌, ◌++◌, length, Bool, true, false, Option, Some, append_assoc, if◌then◌else◌}
use Rattle.std.specs.List.{slice_get}
use Rattle.std.proofs.lemmas.Grind.{flat_map-append}
use Rattle.static_processes.specs.Processes.{Entry, stands_in, standing_from, standing_in, names_in}
use Rattle.static_processes.specs.WhereParts.{name_of, names_at}

stands : (pre : List Entry) (e : Entry) (es : List Entry) → slice_get (pre ++ e ∷ es) (length pre) ≡ Some e
stands [] e es = refl
stands (x ∷ xs) e es = stands xs e es

longer : (pre : List Entry) (e : Entry) → length (pre ++ e ∷ []) ≡ length pre + 1
longer [] e = refl
longer (x ∷ xs) e = let h : length (xs ++ e ∷ []) ≡ length xs + 1 = longer xs e in omega (arith, h)

one_name : (pre : List Entry) (e : Entry) (es : List Entry) (b : Bool)
    → names_at (pre ++ e ∷ es) (if b then length pre ∷ [] else []) ≡ (if b then e.process.name ∷ [] else [])
one_name pre e es true = ap (λ o. name_of o ++ []) (stands pre e es)
one_name pre e es false = refl

names_from : (within : Option ℕ) (pre es : List Entry) → names_at (pre ++ es) (standing_from within (length pre) es) ≡ names_in es within
names_from within pre [] = refl
names_from within pre (e ∷ es) =
    flat_map-append (λ n. name_of (slice_get (pre ++ e ∷ es) n)) (if stands_in within e then length pre ∷ [] else []) (standing_from within (length pre + 1) es)
    ∙ ap (λ ts. ts ++ names_at (pre ++ e ∷ es) (standing_from within (length pre + 1) es)) (one_name pre e es (stands_in within e))
    ∙ ap (λ ts. (if stands_in within e then e.process.name ∷ [] else []) ++ ts)
    (ap (λ n. names_at (pre ++ e ∷ es) (standing_from within n es)) (sym (longer pre e))
    ∙ ap (λ zs. names_at zs (standing_from within (length (pre ++ e ∷ [])) es)) (sym (append_assoc pre (e ∷ []) es))
    ∙ names_from within (pre ++ e ∷ []) es)

pub names_standing : (within : Option ℕ) (table : List Entry) → names_at table (standing_in table within) ≡ names_in table within
names_standing within table = names_from within [] table
