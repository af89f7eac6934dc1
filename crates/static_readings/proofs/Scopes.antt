-- What is put into scope, and left again.
use Rattle.std.proofs.Common.{ℕ, ◌≡◌, ◌∙◌, ◌<◌, ◌≤◌, ◌+◌, refl, sym, ap, arith, List, [], ◌∷◌, ◌++◌, length, get_or, take, map, append-nil, append_assoc}
use Rattle.std.specs.List.{flat_map}
use Rattle.std.proofs.lemmas.Grind.{flat_map-append}
use Rattle.std.proofs.lemmas.List.{map-append, take-map, take_all}
use Rattle.std.proofs.Math.Seq.{take-append_seam}
use Rattle.spec_core.specs.Theories.{Operation}
use Rattle.spec_core.proofs.Lists.{take_next}
use Rattle.lotos_ast.specs.declared.token.Token.{Token}
use Rattle.sort_overloads.specs.Readings.{Declared}
use Rattle.static_readings.specs.Calls.{variable_of}
use Rattle.static_readings.specs.Declarations.{of_one_sort}
use Rattle.static_readings.specs.Offers as offers
use Rattle.static_readings.specs.Offers.{offered_variables}
use Rattle.static_readings.specs.Sites.{Site, Heading, with_gates, with_variables, with_first}
use Rattle.lotos_ast.specs.declared.behaviour.Binding.{Binding}
use Rattle.lotos_ast.specs.declared.behaviour.Offer.{Offer}
use Rattle.lotos_ast.specs.declared.behaviour.Offer.TheVariants.{Variables}
use Rattle.lotos_ast.specs.declared.declaration.Declaration.{Declaration}
use Rattle.static_equations.specs.Variables.{sort_named, variables_of, all_variables}

pub gates_joined : (s : Site) (ts us : List Token) → with_gates (with_gates s ts) us ≡ with_gates s (ts ++ us)
gates_joined s ts us =
    ap (λ gs. record { context = s.context; gates = gs; first_gate = s.first_gate; processes = s.processes })
    (append_assoc s.gates (map (λ t. t.text) ts) (map (λ t. t.text) us) ∙ ap (λ gs. s.gates ++ gs) (sym (map-append (λ t. t.text) ts us)))

pub gates_next : (s now then : Site) (ts : List Token) (i : ℕ) (t : Token) → i < length ts → t ≡ get_or ts i t → now ≡ with_gates s (take i ts)
    → then ≡ with_gates now (t ∷ []) → then ≡ with_gates s (take (i + 1) ts)
gates_next s now then ts i t within at before more =
    more ∙ ap (λ z. with_gates z (t ∷ [])) before ∙ gates_joined s (take i ts) (t ∷ []) ∙ ap (with_gates s) (sym (take_next ts i t within at))

pub gates_all : (s now : Site) (ts : List Token) (i : ℕ) → length ts ≤ i → now ≡ with_gates s (take i ts) → now ≡ with_gates s ts
gates_all s now ts i past h = h ∙ ap (with_gates s) (take_all i ts past)

pub variables_joined : (s : Site) (xs ys : List Declared) → with_variables (with_variables s xs) ys ≡ with_variables s (xs ++ ys)
variables_joined s xs ys =
    ap (λ vs. record { context = record { sorts = s.context.sorts; operations = s.context.operations; variables = vs }; gates = s.gates; first_gate = s.first_gate; processes = s.processes })
    (append_assoc s.context.variables xs ys)

pub variables_next : (s now then : Site) (ts : List Token) (i : ℕ) (t sort : Token) (v : Declared) → i < length ts → t ≡ get_or ts i t
    → now ≡ with_variables s (of_one_sort s.context.sorts (take i ts) sort) → of_one_sort s.context.sorts (t ∷ []) sort ≡ v ∷ []
    → then ≡ with_variables now (v ∷ []) → then ≡ with_variables s (of_one_sort s.context.sorts (take (i + 1) ts) sort)
variables_next s now then ts i t sort v within at before one more =
    more ∙ ap (λ z. with_variables z (v ∷ [])) before ∙ variables_joined s (of_one_sort s.context.sorts (take i ts) sort) (v ∷ [])
    ∙ ap (λ vs. with_variables s (of_one_sort s.context.sorts (take i ts) sort ++ vs)) (sym one)
    ∙ ap (with_variables s) (sym (map-append (λ t. record { name = t.text; sort = sort_named s.context.sorts sort.text }) (take i ts) (t ∷ [])))
    ∙ ap (λ us. with_variables s (of_one_sort s.context.sorts us sort)) (sym (take_next ts i t within at))

pub variables_all : (s now : Site) (ts : List Token) (i : ℕ) (sort : Token) → length ts ≤ i → now ≡ with_variables s (of_one_sort s.context.sorts (take i ts) sort)
    → now ≡ with_variables s (of_one_sort s.context.sorts ts sort)
variables_all s now ts i sort past h = h ∙ ap (λ us. with_variables s (of_one_sort s.context.sorts us sort)) (take_all i ts past)

-- the first variables and gates, as the program has them
pub first_left : {G : Type 0} (g : G → List ℕ) (sorts : List (List ℕ)) (operations : List Operation) (first : ℕ) (processes : List Heading)
    (vs ws : List Declared) (gs hs : List G) (i j : ℕ) → ws ≡ take i vs → hs ≡ take j gs
    → record { context = record { sorts = sorts; operations = operations; variables = ws }; gates = map g hs; first_gate = first; processes = processes }
    ≡ with_first (record { context = record { sorts = sorts; operations = operations; variables = vs }; gates = map g gs; first_gate = first; processes = processes }) i j
first_left g sorts operations first processes vs ws gs hs i j a b =
    ap (λ xs. record { context = record { sorts = sorts; operations = operations; variables = xs }; gates = map g hs; first_gate = first; processes = processes }) a
    ∙ ap (λ ys. record { context = record { sorts = sorts; operations = operations; variables = take i vs }; gates = ys; first_gate = first; processes = processes })
    (ap (map g) b ∙ sym (take-map g j gs))

-- one more of some variables that are put into scope, where they go by sorts and operations alone
put_next : {A : Type 0} (f : Site → A → List Declared) (s now then : Site) → ((vs : List Declared) (x : A) → f (with_variables s vs) x ≡ f s x)
    → (xs : List A) (i : ℕ) (x : A) → i < length xs → x ≡ get_or xs i x → now ≡ with_variables s (flat_map (f s) (take i xs))
    → then ≡ with_variables now (f now x) → then ≡ with_variables s (flat_map (f s) (take (i + 1) xs))
put_next f s now then keeps xs i x within at before more =
    let put = flat_map (f s) (take i xs) in
    more ∙ ap (λ z. with_variables z (f z x)) before
    ∙ ap (λ vs. with_variables (with_variables s put) vs) (keeps put x)
    ∙ variables_joined s put (f s x)
    ∙ ap (with_variables s) (sym (flat_map-append (f s) (take i xs) (x ∷ []) ∙ ap (λ z. put ++ z) (append-nil (f s x))))
    ∙ ap (λ ys. with_variables s (flat_map (f s) ys)) (sym (take_next xs i x within at))

put_all : {A : Type 0} (f : List A → List Declared) (s now : Site) (xs : List A) (i : ℕ) → length xs ≤ i → now ≡ with_variables s (f (take i xs))
    → now ≡ with_variables s (f xs)
put_all f s now xs i past h = h ∙ ap (λ ys. with_variables s (f ys)) (take_all i xs past)

pub declared_next : (s now then : Site) (ds : List Declaration) (i : ℕ) (d : Declaration) → i < length ds → d ≡ get_or ds i d
    → now ≡ with_variables s (all_variables s.context.sorts (take i ds)) → then ≡ with_variables now (of_one_sort now.context.sorts d.names.items d.sort)
    → then ≡ with_variables s (all_variables s.context.sorts (take (i + 1) ds))
declared_next s now then ds i d within at before more =
    put_next (λ z e. variables_of z.context.sorts e) s now then (λ vs e. refl) ds i d within at before more

pub declared_all : (s now : Site) (ds : List Declaration) (i : ℕ) → length ds ≤ i → now ≡ with_variables s (all_variables s.context.sorts (take i ds))
    → now ≡ with_variables s (all_variables s.context.sorts ds)
declared_all s now ds i past h = put_all (all_variables s.context.sorts) s now ds i past h

offered_keeps : (s : Site) (vs : List Declared) (o : Offer) → offers.variables_of (with_variables s vs) o ≡ offers.variables_of s o
offered_keeps s vs (Offer.Value place value) = refl
offered_keeps s vs (Variables place names sort) = refl

pub offered_next : (s now then : Site) (os : List Offer) (i : ℕ) (o : Offer) → i < length os → o ≡ get_or os i o
    → now ≡ with_variables s (offered_variables s (take i os)) → then ≡ with_variables now (offers.variables_of now o)
    → then ≡ with_variables s (offered_variables s (take (i + 1) os))
offered_next s now then os i o within at before more = put_next offers.variables_of s now then (offered_keeps s) os i o within at before more

pub offered_all : (s now : Site) (os : List Offer) (i : ℕ) → length os ≤ i → now ≡ with_variables s (offered_variables s (take i os))
    → now ≡ with_variables s (offered_variables s os)
offered_all s now os i past h = put_all (offered_variables s) s now os i past h

pub bound_next : (s now then : Site) (bs : List Binding) (i : ℕ) (b : Binding) → i < length bs → b ≡ get_or bs i b
    → now ≡ with_variables s (map (variable_of s) (take i bs))
    → then ≡ with_variables now (record { name = b.name.text; sort = sort_named now.context.sorts b.sort.text } ∷ [])
    → then ≡ with_variables s (map (variable_of s) (take (i + 1) bs))
bound_next s now then bs i b within at before more =
    more ∙ ap (λ z. with_variables z (variable_of z b ∷ [])) before
    ∙ variables_joined s (map (variable_of s) (take i bs)) (variable_of s b ∷ [])
    ∙ ap (with_variables s) (sym (map-append (variable_of s) (take i bs) (b ∷ [])))
    ∙ ap (λ ys. with_variables s (map (variable_of s) ys)) (sym (take_next bs i b within at))

pub bound_all : (s now : Site) (bs : List Binding) (i : ℕ) → length bs ≤ i → now ≡ with_variables s (map (variable_of s) (take i bs))
    → now ≡ with_variables s (map (variable_of s) bs)
bound_all s now bs i past h = put_all (map (variable_of s)) s now bs i past h

-- nothing more is in scope than the first variables and gates

pub variables_left : (s : Site) (vs : List Declared) → with_first (with_variables s vs) (length s.context.variables) (length s.gates) ≡ s
variables_left s vs =
    ap (λ xs. record {
      context = record { sorts = s.context.sorts; operations = s.context.operations; variables = xs };
      gates = take (length s.gates) s.gates;
      first_gate = s.first_gate;
      processes = s.processes;
    }) (take-append_seam s.context.variables vs)
    ∙ ap (λ gs. record { context = s.context; gates = gs; first_gate = s.first_gate; processes = s.processes })
    (take_all (length s.gates) s.gates (omega arith))

pub gates_left : (s : Site) (ts : List Token) → with_first (with_gates s ts) (length s.context.variables) (length s.gates) ≡ s
gates_left s ts =
    ap (λ xs. record {
      context = record { sorts = s.context.sorts; operations = s.context.operations; variables = xs };
      gates = take (length s.gates) (s.gates ++ map (λ t. t.text) ts);
      first_gate = s.first_gate;
      processes = s.processes;
    })
    (take_all (length s.context.variables) s.context.variables (omega arith))
    ∙ ap (λ gs. record { context = s.context; gates = gs; first_gate = s.first_gate; processes = s.processes })
    (take-append_seam s.gates (map (λ t. t.text) ts))

pub site_left : (s : Site) → with_first s (length s.context.variables) (length s.gates) ≡ s
site_left s =
    ap (λ xs. record {
      context = record { sorts = s.context.sorts; operations = s.context.operations; variables = xs };
      gates = take (length s.gates) s.gates;
      first_gate = s.first_gate;
      processes = s.processes;
    })
    (take_all (length s.context.variables) s.context.variables (omega arith))
    ∙ ap (λ gs. record { context = s.context; gates = gs; first_gate = s.first_gate; processes = s.processes })
    (take_all (length s.gates) s.gates (omega arith))
