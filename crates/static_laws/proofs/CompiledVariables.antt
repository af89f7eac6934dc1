-- Variables in scope, and variables that are declared.
use Rattle.std.proofs.Common.{ℕ, zero, suc, ◌≡◌, ◌<◌, ◌+◌, List, [], ◌∷◌, ◌++◌, length, map, refl, sym, ap, subst, ◌∙◌, arith}
use Rattle.std.proofs.Common.{length-append, append_assoc, append-nil}
use Rattle.std.proofs.Math.Dec.{eqb-suc-zero, eqb-zero-suc, eqb-suc-suc}
use Rattle.std.proofs.lemmas.List.{length-map, map-append}
use Rattle.std.proofs.Math.Bool.{cond}
use Rattle.std.specs.Prelude.{Option, Some, IfSome, Bool, true, false, ◌==◌, ◌||◌, not, if◌then◌else◌}
use Rattle.std.specs.List.{slice_get, list_any}
use Rattle.std.proofs.lemmas.Bool.{and_parts}
use Rattle.lotos_ast.specs.declared.declaration.Declaration.{Declaration}
use Rattle.lotos_ast.specs.declared.token.Token.{Token}
use Rattle.spec_core.specs.Functionality.{with_variable, VariableFits, sort_of_variable}
use Rattle.spec_core.specs.Functionality as core
use Rattle.spec_core.specs.Lists.{Each}
use Rattle.spec_core.specs.Sorts.{IsDeclaredSort}
use Rattle.spec_core.specs.Theories.{Theory}
use Rattle.spec_core.proofs.Lists.{each_append}
use Rattle.sort_overloads.specs.Listed.{is_same_name}
use Rattle.sort_overloads.specs.Readings.{Declared}
use Rattle.sort_overloads.specs.Refused.{is_sort_known}
use Rattle.static_equations.specs.Variables.{all_variables, variables_of, sort_named}
use Rattle.static_readings.specs.Declarations.{numbered_from, are_known, declared_variables}
use Rattle.static_readings.specs.Sites.{Site, sort_of, with_variables}
use Rattle.static_laws.specs.Standing.{AgreesWithData}
use Rattle.static_laws.proofs.Options.{if-passed}

-- one more element, seen from the front
pushed : (ss : List ℕ) (v y : ℕ) → (if y == length ss then Some v else slice_get ss y) ≡ slice_get (ss ++ (v ∷ [])) y
pushed [] v zero = refl
pushed [] v (suc y) = rw eqb-suc-zero refl
pushed (s ∷ ss) v zero = rw eqb-zero-suc refl
pushed (s ∷ ss) v (suc y) = rw eqb-suc-suc (pushed ss v y)

pub numbered-sorts : (vs : List Declared) (n : ℕ) (ss : List ℕ) (vars : ℕ → Option ℕ) → length ss ≡ n →
    ((y : ℕ) → vars y ≡ slice_get ss y) →
    (y : ℕ) → core.with_variables (numbered_from n vs) vars y ≡ slice_get (ss ++ map (λ v. v.sort) vs) y
numbered-sorts [] n ss vars e h y = h y ∙ ap (λ l. slice_get l y) (sym (append-nil ss))
numbered-sorts (v ∷ vs) n ss vars e h y =
    numbered-sorts vs (suc n) (ss ++ (v.sort ∷ [])) (with_variable (record { number = n; sort = v.sort }) vars)
    (omega (arith, length-append ss (v.sort ∷ [])))
    (λ z. ap (λ o. if z == n then Some v.sort else o) (h z) ∙ subst (λ m. (if z == m then Some v.sort else slice_get ss z) ≡ slice_get (ss ++ (v.sort ∷ [])) z) e (pushed ss v.sort z)) y
    ∙ ap (λ l. slice_get l y) (append_assoc ss (v.sort ∷ []) (map (λ v. v.sort) vs))

-- the variables in scope are those of the context, with further ones
pub more-variables : (theory : Theory) (s : Site) (vs : List Declared) (vars : ℕ → Option ℕ) → AgreesWithData theory s.context vars →
    AgreesWithData theory (with_variables s vs).context (core.with_variables (numbered_from (length s.context.variables) vs) vars)
more-variables theory s vs vars h = record {
  sorts = h.sorts;
  operations = h.operations;
  variables = λ y. numbered-sorts vs (length s.context.variables) (map (λ v. v.sort) s.context.variables) vars
      (length-map s.context.variables (λ v. v.sort)) h.variables y
      ∙ ap (λ l. slice_get l y) (sym (map-append (λ v. v.sort) s.context.variables vs));
}

-- a sort that is known is one of the sorts

below-step : (b : Bool) (q : Bool) (m n : ℕ) → (q ≡ true → m < n) → (b || q) ≡ true → cond (not b) (1 + m) 0 < suc n
below-step true q m n h e = omega arith
below-step false q m n h e = omega (arith, h e)

known-below : (sorts : List (List ℕ)) (name : List ℕ) → list_any (λ other. is_same_name other name) sorts ≡ true → sort_named sorts name < length sorts
known-below [] name h = absurd (grind (arith, h))
known-below (s ∷ sorts) name h =
    below-step (is_same_name s name) (list_any (λ other. is_same_name other name) sorts) (sort_named sorts name) (length sorts)
    (known-below sorts name) h

pub sort-of-fits : (theory : Theory) (s : Site) (vars : ℕ → Option ℕ) → AgreesWithData theory s.context vars → (t : Token) →
    IfSome (sort_of s t) (IsDeclaredSort theory)
sort-of-fits theory s vars h t =
    if-passed (IsDeclaredSort theory) (is_sort_known s.context t.text) (sort_named s.context.sorts t.text)
    (λ k. subst (λ sorts. sort_named s.context.sorts t.text < length sorts) h.sorts (known-below s.context.sorts t.text k))

-- variables of sorts that are known
pub each-numbered : (theory : Theory) (vs : List Declared) (n : ℕ) → Each (λ (v : Declared). IsDeclaredSort theory v.sort) vs →
    Each (VariableFits theory) (numbered_from n vs)
each-numbered theory [] n h = tt
each-numbered theory (v ∷ vs) n h = (h.0, each-numbered theory vs (suc n) h.1)

pub each-of-one-sort : (theory : Theory) (sort : ℕ) (names : List Token) → IsDeclaredSort theory sort →
    Each (λ (v : Declared). IsDeclaredSort theory v.sort) (map (λ t. record { name = t.text; sort = sort }) names)
each-of-one-sort theory sort [] h = tt
each-of-one-sort theory sort (t ∷ ts) h = (h, each-of-one-sort theory sort ts h)

module _ (theory : Theory) (s : Site) (vars : ℕ → Option ℕ) (agrees : AgreesWithData theory s.context vars) where
  pub known-sort : (name : List ℕ) → is_sort_known s.context name ≡ true → IsDeclaredSort theory (sort_named s.context.sorts name)
  known-sort name k = subst (λ sorts. sort_named s.context.sorts name < length sorts) agrees.sorts (known-below s.context.sorts name k)

  all-known : (ds : List Declaration) → are_known s ds ≡ true → Each (λ (v : Declared). IsDeclaredSort theory v.sort) (all_variables s.context.sorts ds)
  all-known [] h = tt
  all-known (d ∷ ds) h =
      let k = and_parts (is_sort_known s.context d.sort.text) (are_known s ds) h in
      each_append (λ (v : Declared). IsDeclaredSort theory v.sort) (variables_of s.context.sorts d) (all_variables s.context.sorts ds)
      (each-of-one-sort theory (sort_named s.context.sorts d.sort.text) d.names.items (known-sort d.sort.text k.0))
      (all-known ds k.1)

  pub declared-fit : (ds : List Declaration) → IfSome (declared_variables s ds)
      (λ xs. Each (VariableFits theory) xs × (xs ≡ numbered_from (length s.context.variables) (all_variables s.context.sorts ds)))
  declared-fit ds =
      if-passed (λ xs. Each (VariableFits theory) xs × (xs ≡ numbered_from (length s.context.variables) (all_variables s.context.sorts ds)))
      (are_known s ds) (numbered_from (length s.context.variables) (all_variables s.context.sorts ds))
      (λ k. (each-numbered theory (all_variables s.context.sorts ds) (length s.context.variables) (all-known ds k), refl))
