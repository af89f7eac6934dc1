-- Sorts of headings of which none is refused.
use Rattle.std.proofs.Common.{ℕ, zero, suc, ◌≡◌, List, [], ◌∷◌, ◌++◌, map, refl, sym, ap, subst, ◌∙◌}
use Rattle.std.specs.Prelude.{Option, Some, None, option_map, IfSome, Bool, true, false, ◌&&◌, if◌then◌else◌}
use Rattle.std.specs.List.{flat_map, list_all, slice_get}
use Rattle.std.proofs.lemmas.List.{map-append}
use Rattle.lotos_ast.specs.declared.declaration.Declaration.{Declaration}
use Rattle.lotos_ast.specs.declared.declaration.Functionality.{Functionality}
use Rattle.lotos_ast.specs.declared.declaration.Functionality.TheVariants.{NoExit, Exit}
use Rattle.lotos_ast.specs.declared.refusal.RefusalKind.TheVariants.{UnknownSort}
use Rattle.lotos_ast.specs.declared.token.Token.{Token}
use Rattle.static_constructs.specs.Written.{listed}
use Rattle.spec_core.specs.Code.{Variable}
use Rattle.spec_core.specs.Functionality as core
use Rattle.spec_core.specs.Functionality.{VariableFits}
use Rattle.spec_core.specs.Lists.{Each}
use Rattle.spec_core.specs.Sorts.{no_variables}
use Rattle.spec_core.specs.Theories.{Theory}
use Rattle.spec_core.proofs.Lists.{both_empty, cons_not_empty}
use Rattle.sort_overloads.specs.Readings.{Context, Declared}
use Rattle.sort_overloads.specs.Refused.{refused, is_sort_known, unknown_sort}
use Rattle.static_equations.specs.Variables.{all_variables, variables_of, sort_named}
use Rattle.static_readings.specs.Declarations.{numbered_from, are_known, declared_names}
use Rattle.static_readings.specs.ReadsAll.{before}
use Rattle.static_readings.specs.Sites.{Site}
use Rattle.type_names.specs.DuplicateNames.{names_twice}
use Rattle.static_processes.specs.Headings.{known_sort, known_sorts, declared, parameter_sorts, functionality_refusals, parameter_refusals}
use Rattle.static_laws.proofs.CompiledVariables.{declared-fit}
use Rattle.static_check.specs.Compiled.{data_context}

-- what is refused of each is nothing where nothing is refused of all
pub none_of_each : {A B : Type 0} (f : A → List B) (xs : List A) → flat_map f xs ≡ [] → (k : ℕ) (x : A) → slice_get xs k ≡ Some x → f x ≡ []
none_of_each f [] e k x at = absurd (cc)
none_of_each f (y ∷ ys) e zero x at =
    let same : y ≡ x = cc in
    ap f (sym same) ∙ (both_empty (f y) (flat_map f ys) e).0
none_of_each f (y ∷ ys) e (suc k) x at = none_of_each f ys (both_empty (f y) (flat_map f ys) e).1 k x at

-- where nothing is refused of what fails a test, it passes
passed : {A : Type 0} (b : Bool) (r : A) → (if b then [] else r ∷ []) ≡ [] → b ≡ true
passed true r e = refl
passed false r e = absurd (cons_not_empty r [] e)

-- a functionality that is declared over sorts that are known
abbrev pub or_noexit : Option core.Functionality → core.Functionality
or_noexit None = core.noexit
or_noexit (Some f) = f

module _ (c : Context) where
  known : (t : Token) → unknown_sort c t ≡ [] → is_sort_known c t.text ≡ true
  known t e = passed (is_sort_known c t.text) (refused UnknownSort t.place []) e

  known-number : (t : Token) → unknown_sort c t ≡ [] → known_sort c t ≡ Some (sort_named c.sorts t.text)
  known-number t e = ap (λ b. if b then Some (sort_named c.sorts t.text) else None) (known t e)

  known-numbers : (ts : List Token) → flat_map (unknown_sort c) ts ≡ [] → (ns : List ℕ) × (known_sorts c ts ≡ Some ns)
  known-numbers [] e = ([], refl)
  known-numbers (t ∷ ts) e =
      let parts = both_empty (unknown_sort c t) (flat_map (unknown_sort c) ts) e in
      let rest = known-numbers ts parts.1 in (
        sort_named c.sorts t.text ∷ rest.0,
        ap (λ o. before o (known_sorts c ts)) (known-number t parts.0) ∙ ap (λ o. before (Some (sort_named c.sorts t.text)) o) rest.1,
      )

  pub declared-known : (f : Functionality) → functionality_refusals c f ≡ [] → declared c f ≡ Some (or_noexit (declared c f))
  declared-known (NoExit place) e = refl
  declared-known (Exit place sorts) e =
      subst (λ o. option_map core.exits o ≡ Some (or_noexit (option_map core.exits o))) (sym (known-numbers (listed sorts) e).1) refl

  -- declarations of which no sort is refused

  abbrev AllKnown : List Declaration → Type 0
  AllKnown ds = flat_map (λ d. unknown_sort c d.sort) ds ≡ []

  known-first : (d : Declaration) (ds : List Declaration) → AllKnown (d ∷ ds) → (unknown_sort c d.sort ≡ []) × AllKnown ds
  known-first d ds e = both_empty (unknown_sort c d.sort) (flat_map (λ d. unknown_sort c d.sort) ds) e

  sorts-of-names : (d : Declaration) → unknown_sort c d.sort ≡ [] → (names : List Token) →
      map (λ t. known_sort c d.sort) names
      ≡ map (λ (v : Declared). Some v.sort) (map (λ name. record { name = name.text; sort = sort_named c.sorts d.sort.text }) names)
  sorts-of-names d e [] = refl
  sorts-of-names d e (t ∷ ts) =
      ap (λ o. o ∷ map (λ t. known_sort c d.sort) ts) (known-number d.sort e) ∙ ap (λ l. Some (sort_named c.sorts d.sort.text) ∷ l) (sorts-of-names d e ts)

  sorts-of-variables : (ds : List Declaration) → AllKnown ds →
      parameter_sorts c ds ≡ map (λ (v : Declared). Some v.sort) (all_variables c.sorts ds)
  sorts-of-variables [] e = refl
  sorts-of-variables (d ∷ ds) e =
      let parts = known-first d ds e in
      ap (λ l. l ++ parameter_sorts c ds) (sorts-of-names d parts.0 d.names.items)
      ∙ ap (λ l. map (λ (v : Declared). Some v.sort) (variables_of c.sorts d) ++ l) (sorts-of-variables ds parts.1)
      ∙ sym (map-append (λ (v : Declared). Some v.sort) (variables_of c.sorts d) (all_variables c.sorts ds))

  sorts-of-numbered : (vs : List Declared) (n : ℕ) → map (λ (v : Declared). Some v.sort) vs ≡ map (λ (x : Variable). Some x.sort) (numbered_from n vs)
  sorts-of-numbered [] n = refl
  sorts-of-numbered (v ∷ vs) n = ap (λ l. Some v.sort ∷ l) (sorts-of-numbered vs (suc n))

  parameters-known : (ds : List Declaration) → parameter_refusals c ds ≡ [] → AllKnown ds
  parameters-known ds e = (both_empty (names_twice (declared_names ds)) (flat_map (λ d. unknown_sort c d.sort) ds) e).1

  pub parameters-sorted : (ds : List Declaration) → parameter_refusals c ds ≡ [] →
      parameter_sorts c ds ≡ map (λ (x : Variable). Some x.sort) (numbered_from 0 (all_variables c.sorts ds))
  parameters-sorted ds e = sorts-of-variables ds (parameters-known ds e) ∙ sorts-of-numbered (all_variables c.sorts ds) 0

  all-known : (ds : List Declaration) → AllKnown ds → list_all (λ d. is_sort_known c d.sort.text) ds ≡ true
  all-known [] e = refl
  all-known (d ∷ ds) e =
      let parts = known-first d ds e in
      ap (λ b. b && list_all (λ d. is_sort_known c d.sort.text) ds) (known d.sort parts.0) ∙ all-known ds parts.1

if-there : {A : Type 0} (P : A → Type 0) (b : Bool) (x : A) → b ≡ true → IfSome (if b then Some x else None) P → P x
if-there P true x e h = h
if-there P false x e h = absurd (cc)

-- a site in which nothing but the data is in scope
abbrev data_site : Theory → Site
data_site theory = record { context = data_context theory; gates = []; first_gate = 0; processes = [] }

-- variables of sorts that are known fit
pub parameters-fit : (theory : Theory) (ds : List Declaration) → parameter_refusals (data_context theory) ds ≡ [] →
    Each (VariableFits theory) (numbered_from 0 (all_variables theory.sorts ds))
parameters-fit theory ds e =
    (if-there (λ xs. Each (VariableFits theory) xs × (xs ≡ numbered_from 0 (all_variables theory.sorts ds))) (are_known (data_site theory) ds)
    (numbered_from 0 (all_variables theory.sorts ds))
    (all-known (data_context theory) ds (parameters-known (data_context theory) ds e))
    (declared-fit theory (data_site theory) no_variables (record { sorts = refl; operations = refl; variables = λ x. refl }) ds)).0
