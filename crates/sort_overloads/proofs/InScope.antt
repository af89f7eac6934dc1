-- Variables by their names, one more or one less.
use Rattle.std.proofs.Common.{ℕ, suc, ◌≡◌, ◌+◌, ◌-◌, ◌∙◌, refl, sym, ap, arith, List, [], ◌∷◌, ◌++◌, length, map, take, append_assoc, append-nil, Bool, true, false, ◌||◌, Option, Some, None, if◌then◌else◌}
use Rattle.std.specs.Prelude.{is_some}
use Rattle.std.specs.Char.{to_ascii_lowercase}
use Rattle.std.specs.List.{list_any, slice_get}
use Rattle.std.specs.Option.{option_or}
use Rattle.std.specs.Str.{bytes_eq}
use Rattle.std.proofs.lemmas.List.{length-append, length-map, map-append, take-append-le, take_all}
use Rattle.spec_core.specs.Terms.{variable}
use Rattle.spec_core.specs.declared.items.Sort.{Sort}
use Rattle.sort_overloads.specs.Listed.{Typed, is_same_name, last_variable}
use Rattle.sort_overloads.specs.Readings.{Declared}
use Rattle.sort_overloads.specs.Tables.{found_of}
use Rattle.sort_overloads.specs.Variables.{declared_of, variables_named}
use Rattle.sort_overloads.specs.declared.variables.Variable.{Variable}
use Rattle.sort_overloads.proofs.Numbered.{same-either-way}

pub last_removed : {A : Type 0} (b : Bool) (xs : List A) → (b ≡ true → xs ≡ []) → xs ≡ (if b then take (length xs - 1) xs else xs)
last_removed true xs none = none refl ∙ sym (ap (λ ys. take (length ys - 1) ys) (none refl))
last_removed false xs none = refl

-- the variable of this number alone, where it has the name
abbrev one : List ℕ → ℕ → Declared → List Typed
one name x v = if bytes_eq (map to_ascii_lowercase v.name) name then record { term = variable x; sort = v.sort } ∷ [] else []

both : (name : List ℕ) (x : ℕ) (vs ws : List Declared) → variables_named name x (vs ++ ws) ≡ variables_named name x vs ++ variables_named name (x + length vs) ws
both name x [] ws = ap (λ i. variables_named name i ws) (omega arith)
both name x (v ∷ vs) ws =
    let e : suc x + length vs ≡ x + suc (length vs) = omega arith in
    ap (λ z. one name x v ++ z) (both name (suc x) vs ws ∙ ap (λ i. variables_named name (suc x) vs ++ variables_named name i ws) e)
    ∙ sym (append_assoc (one name x v) (variables_named name (suc x) vs) (variables_named name (x + suc (length vs)) ws))

one_more : (name : List ℕ) (vs : List Variable) (v : Variable)
    → variables_named name 0 (map declared_of (vs ++ v ∷ [])) ≡ variables_named name 0 (map declared_of vs) ++ one name (length vs) (declared_of v)
one_more name vs v =
    ap (variables_named name 0) (map-append declared_of vs (v ∷ []))
    ∙ both name 0 (map declared_of vs) (declared_of v ∷ [])
    ∙ ap (λ z. variables_named name 0 (map declared_of vs) ++ z)
    (append-nil (one name (0 + length (map declared_of vs)) (declared_of v)) ∙ ap (λ i. one name i (declared_of v)) (omega (arith, length-map vs declared_of)))

-- what is kept under each name, with one more variable
pub put : (old new : List ℕ → List Typed) (vs ws : List Variable) (v : Variable) (small : List ℕ) (number : ℕ)
    → small ≡ map to_ascii_lowercase v.name → number ≡ length vs → ws ≡ vs ++ v ∷ []
    → ((name : List ℕ) → old name ≡ variables_named name 0 (map declared_of vs))
    → ((name : List ℕ) → new name ≡ old name ++ (if bytes_eq name small then record { term = variable number; sort = v.sort.0 } ∷ [] else []))
    → (name : List ℕ) → new name ≡ variables_named name 0 (map declared_of ws)
put old new vs ws v small number is counted more before after name =
    after name
    ∙ ap (λ z. z ++ (if bytes_eq name small then record { term = variable number; sort = v.sort.0 } ∷ [] else [])) (before name)
    ∙ ap (λ b. variables_named name 0 (map declared_of vs) ++ (if b then record { term = variable number; sort = v.sort.0 } ∷ [] else []))
    (ap (bytes_eq name) is ∙ same-either-way name (map to_ascii_lowercase v.name))
    ∙ ap (λ i. variables_named name 0 (map declared_of vs) ++ one name i (declared_of v)) counted
    ∙ sym (one_more name vs v)
    ∙ ap (λ us. variables_named name 0 (map declared_of us)) (sym more)

without_last : {A : Type 0} (xs : List A) (x : A) → take (length (xs ++ x ∷ []) - 1) (xs ++ x ∷ []) ≡ xs
without_last xs x = ap (λ n. take n (xs ++ x ∷ [])) (omega (arith, length-append xs (x ∷ []))) ∙ take-append-le (length xs) xs (x ∷ []) (omega arith) ∙ take_all (length xs) xs (omega arith)

one_less : {A : Type 0} (b : Bool) (xs : List A) (x : A)
    → (if b then take (length (xs ++ (if b then x ∷ [] else [])) - 1) (xs ++ (if b then x ∷ [] else [])) else xs ++ (if b then x ∷ [] else [])) ≡ xs
one_less true xs x = without_last xs x
one_less false xs x = append-nil xs

-- what is kept under each name, without the last variable
pub removed : (old new : List ℕ → List Typed) (vs ws : List Variable) (v : Variable) (small : List ℕ) → small ≡ map to_ascii_lowercase v.name → vs ≡ ws ++ v ∷ []
    → ((name : List ℕ) → old name ≡ variables_named name 0 (map declared_of vs))
    → ((name : List ℕ) → new name ≡ (if bytes_eq small name then take (length (old name) - 1) (old name) else old name))
    → (name : List ℕ) → new name ≡ variables_named name 0 (map declared_of ws)
removed old new vs ws v small is less before after name =
    let all = before name ∙ ap (λ us. variables_named name 0 (map declared_of us)) less ∙ one_more name ws v in
    after name
    ∙ ap (λ z. if bytes_eq z name then take (length (old name) - 1) (old name) else old name) is
    ∙ ap (λ z. if bytes_eq (map to_ascii_lowercase v.name) name then take (length z - 1) z else z) all
    ∙ one_less (bytes_eq (map to_ascii_lowercase v.name) name) (variables_named name 0 (map declared_of ws)) (record { term = variable (length ws); sort = v.sort.0 })

abbrev last_of : {A : Type 0} → List A → Option A
last_of [] = None
last_of (x ∷ xs) = option_or (last_of xs) (Some x)

at_end : {A : Type 0} (xs : List A) → slice_get xs (length xs - 1) ≡ last_of xs
at_end [] = refl
at_end (x ∷ []) = refl
at_end {A = A} (x ∷ y ∷ xs) =
    let e : length (x ∷ y ∷ xs) - 1 ≡ suc (length (y ∷ xs) - 1) = omega arith in
    ap (slice_get (x ∷ y ∷ xs)) e ∙ at_end (y ∷ xs) ∙ there (last_of xs)
  where
    there : (o : Option A) → option_or o (Some y) ≡ option_or (option_or o (Some y)) (Some x)
    there None = refl
    there (Some z) = refl

last_by : (name : List ℕ) (found : Option Typed) (x : ℕ) (vs : List Declared)
    → last_variable name found x vs ≡ option_or (last_of (variables_named (map to_ascii_lowercase name) x vs)) found
last_by name found x [] = refl
last_by name found x (v ∷ vs) = step (is_same_name v.name name) (λ f. last_by name f (suc x) vs)
  where
    rest : List Typed
    rest = variables_named (map to_ascii_lowercase name) (suc x) vs

    over : (o : Option Typed) (t : Typed) → option_or o (Some t) ≡ option_or (option_or o (Some t)) found
    over None t = refl
    over (Some z) t = refl

    step : (b : Bool) → ((f : Option Typed) → last_variable name f (suc x) vs ≡ option_or (last_of rest) f) → last_variable name (if b then Some (record { term = variable x; sort = v.sort }) else found) (suc x) vs
        ≡ option_or (last_of ((if b then record { term = variable x; sort = v.sort } ∷ [] else []) ++ rest)) found
    step true h = h (Some (record { term = variable x; sort = v.sort })) ∙ over (last_of rest) (record { term = variable x; sort = v.sort })
    step false h = h found

-- the last of those of the name is the last variable of the name
pub last_is : (name : List ℕ) (vs : List Declared) (found : Option Typed)
    → found ≡ slice_get (variables_named (map to_ascii_lowercase name) 0 vs) (length (variables_named (map to_ascii_lowercase name) 0 vs) - 1)
    → found ≡ last_variable name None 0 vs
last_is name vs found is = is ∙ at_end (variables_named (map to_ascii_lowercase name) 0 vs) ∙ none (last_of (variables_named (map to_ascii_lowercase name) 0 vs)) ∙ sym (last_by name None 0 vs)
  where
    none : (o : Option Typed) → o ≡ option_or o None
    none None = refl
    none (Some t) = refl

-- a reading is found where a variable has the name

pub found_there : (o : Option (ℕ × Sort)) → is_some o ≡ is_some (found_of o)
found_there None = refl
found_there (Some x) = refl

any_found : (name : List ℕ) (found : Option Typed) (x : ℕ) (vs : List Declared)
    → is_some (last_variable name found x vs) ≡ is_some found || list_any (λ v. is_same_name v.name name) vs
any_found name None x [] = refl
any_found name (Some t) x [] = refl
any_found name found x (v ∷ vs) = step (is_same_name v.name name) found (λ f. any_found name f (suc x) vs)
  where
    rest : Bool
    rest = list_any (λ w. is_same_name w.name name) vs

    step : (b : Bool) (o : Option Typed) → ((f : Option Typed) → is_some (last_variable name f (suc x) vs) ≡ is_some f || rest)
        → is_some (last_variable name (if b then Some (record { term = variable x; sort = v.sort }) else o) (suc x) vs) ≡ is_some o || (b || rest)
    step true None h = h (Some (record { term = variable x; sort = v.sort }))
    step true (Some t) h = h (Some (record { term = variable x; sort = v.sort }))
    step false o h = h o

pub any_is : (name : List ℕ) (vs : List Declared) (found : Option Typed) → found ≡ last_variable name None 0 vs
    → is_some found ≡ list_any (λ v. is_same_name v.name name) vs
any_is name vs found is = ap is_some is ∙ any_found name None 0 vs
