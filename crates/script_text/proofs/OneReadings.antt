-- Expressions with one reading, and those without.
use Rattle.std.proofs.Common.{ℕ, zero, suc, ◌≡◌, inl, inr, List, [], ◌∷◌, ◌++◌, Bool, true, false, Option, Some, None, refl, sym, ap, subst, ◌∙◌, arith, if◌then◌else◌}
use Rattle.std.specs.List.{slice_get, list_any}
use Rattle.std.specs.Char.{to_ascii_lowercase}
use Rattle.std.specs.Prelude.{map}
use Rattle.std.proofs.lemmas.Slice.Eq.{bytes_eq-Decides}
use Rattle.std.proofs.lemmas.Bool.{or_right, or_left}
use Rattle.lotos_ast.specs.declared.place.Place.{Place}
use Rattle.lotos_ast.specs.declared.refusal.Refusal.{Refusal}
use Rattle.lotos_ast.specs.declared.refusal.RefusalKind.TheVariants.{UnknownName, UnknownSort}
use Rattle.lotos_ast.specs.declared.token.Token.{Token}
use Rattle.lotos_ast.specs.FirstRefusals.{first_refusal}
use Rattle.spec_core.specs.Names.{IsSameName}
use Rattle.spec_core.specs.Sorts.{OnSome, HasSort, HaveSorts, no_variables}
use Rattle.spec_core.specs.Terms.{TermTree, TermTrees, no_terms, and_term, preorder}
use Rattle.spec_core.specs.Theories.{Theory, Operation}
use Rattle.spec_core.specs.Windows.{IsLess, IsBefore}
use Rattle.sort_overloads.specs.Expressions.{Position, before, between, Expression, Expressions, named, applied, said, nothing, no_expressions, and_expression}
use Rattle.sort_overloads.specs.Listed.{is_same_name}
use Rattle.sort_overloads.specs.Overloads.{IsOnlyReading}
use Rattle.sort_overloads.specs.Readings.{Context, Declared, spelling, IsReading, AreReadings}
use Rattle.sort_overloads.specs.Refused.{is_called, is_known, unknown_name, unknown_sort, unknowns, all_unknowns, refused, IsOverloadRefusal, no_reading, ambiguous, IsExpressionRefusal, unknown, known}
use Rattle.script_text.specs.Meanings.{context_in, is_of_sort, says_unknown_sort, IsUnclear}

-- what holds of an element that is there is found
on_some : {A Q : Type 0} {P : A → Type 0} (o : Option A) → ((x : A) → P x → Q) → OnSome o P → Q
on_some None f h = absurd h
on_some (Some x) f h = f x h

any_there : {A : Type 0} {P : A → Type 0} (p : A → Bool) (xs : List A) (i : ℕ) → ((x : A) → P x → p x ≡ true) → OnSome (slice_get xs i) P →
    list_any p xs ≡ true
any_there p [] zero f h = absurd h
any_there p [] (suc i) f h = absurd h
any_there p (x ∷ xs) zero f h = or_left (p x) (list_any p xs) (f x h)
any_there p (x ∷ xs) (suc i) f h = or_right (p x) (list_any p xs) (any_there p xs i f h)

same : (a b : List ℕ) → IsSameName a b → is_same_name a b ≡ true
same a b h = (bytes_eq-Decides (map to_ascii_lowercase a) (map to_ascii_lowercase b)).1 h

nothing_unknown : {A : Type 0} (b : Bool) (xs : List A) → b ≡ true → (if b then [] else xs) ≡ []
nothing_unknown b xs e = ap (λ (c : Bool). if c then [] else xs) e

both_empty : {A : Type 0} (xs ys : List A) → xs ≡ [] → ys ≡ [] → xs ++ ys ≡ []
both_empty xs ys e f = ap (λ zs. zs ++ ys) e ∙ f

called : (position : Position) (name : List ℕ) (d : Operation) → IsSameName d.name (spelling position name) → is_called name d ≡ true
called before name d h = or_left (is_same_name d.name name) (is_same_name d.name (spelling between name)) (same d.name name h)
called between name d h = or_right (is_same_name d.name name) (is_same_name d.name (spelling between name)) (same d.name (spelling between name) h)

known_name : (c : Context) (name : Token) → is_known c name.text ≡ true → unknown_name c name ≡ []
known_name c name h = nothing_unknown (is_known c name.text) (refused UnknownName name.place [] ∷ []) h

by_variable : (c : Context) (name : Token) (x sort : ℕ) →
    OnSome (slice_get c.variables x) (λ v. IsSameName v.name name.text × (v.sort ≡ sort)) → unknown_name c name ≡ []
by_variable c name x sort h =
    known_name c name (or_left (list_any (λ v. is_same_name v.name name.text) c.variables) (list_any (is_called name.text) c.operations)
    (any_there {P = λ v. IsSameName v.name name.text × (v.sort ≡ sort)} (λ v. is_same_name v.name name.text) c.variables x
    (λ v p. same v.name name.text p.0) h))

by_operation : (c : Context) (position : Position) (name : Token) (f : ℕ) {P : Operation → Type 0} →
    ((d : Operation) → P d → IsSameName d.name (spelling position name.text)) → OnSome (slice_get c.operations f) P → unknown_name c name ≡ []
by_operation c position name f {P} g h =
    known_name c name (or_right (list_any (λ v. is_same_name v.name name.text) c.variables) (list_any (is_called name.text) c.operations)
    (any_there {P = P} (is_called name.text) c.operations f (λ d p. called position name.text d (g d p)) h))

by_sort : (c : Context) (name : Token) (sort : ℕ) → OnSome (slice_get c.sorts sort) (λ other. IsSameName other name.text) → unknown_sort c name ≡ []
by_sort c name sort h =
    nothing_unknown (list_any (λ other. is_same_name other name.text) c.sorts) (refused UnknownSort name.place [] ∷ [])
    (any_there {P = λ other. IsSameName other name.text} (λ other. is_same_name other name.text) c.sorts sort
    (λ other p. same other name.text p) h)

of_parts : (c : Context) (position : Position) (name : Token) (es : Expressions) → unknown_name c name ≡ [] → all_unknowns c es ≡ [] →
    unknowns c (applied position name es) ≡ []
of_parts c before name es h k = both_empty (unknown_name c name) (all_unknowns c es) h k
of_parts c between name no_expressions h k = both_empty (unknown_name c name) [] h k
of_parts c between name (and_expression e es) h k =
    let first : unknowns c e ≡ [] = front (unknowns c e) (all_unknowns c es) k in
    let rest : all_unknowns c es ≡ [] = back (unknowns c e) (all_unknowns c es) k in
    both_empty (unknowns c e ++ unknown_name c name) (all_unknowns c es) (both_empty (unknowns c e) (unknown_name c name) first h) rest
  where
    front : {A : Type 0} (xs ys : List A) → xs ++ ys ≡ [] → xs ≡ []
    front [] ys e = refl
    front (x ∷ xs) ys e = absurd (cc)

    back : {A : Type 0} (xs ys : List A) → xs ++ ys ≡ [] → ys ≡ []
    back [] ys e = e
    back (x ∷ xs) ys e = absurd (cc)

-- where an expression has a reading, all its names and sorts are known
mutual
  pub reading_known : (c : Context) (e : Expression) (t : TermTree) (sort : ℕ) → IsReading c e t sort → unknowns c e ≡ []
  reading_known c (named name) t sort (inl h) = by_variable c name h.0 sort h.2.0
  reading_known c (named name) t sort (inr h) =
      by_operation c before name h.1.0 {P = λ d. IsSameName d.name name.text × (d.result ≡ sort) × (d.args ≡ [])} (λ d p. p.0) h.1.2
  reading_known c (applied position name es) t sort h =
      of_parts c position name es
      (by_operation c position name h.0
      {P = λ d. IsSameName d.name (spelling position name.text) × (d.result ≡ sort) × AreReadings c es h.1 d.args} (λ d p. p.0) h.3)
      (on_some {P = λ d. IsSameName d.name (spelling position name.text) × (d.result ≡ sort) × AreReadings c es h.1 d.args}
      (slice_get c.operations h.0) (λ d p. readings_known c es h.1 d.args p.2) h.3)
  reading_known c (said e name) t sort h = both_empty (unknowns c e) (unknown_sort c name) (reading_known c e t sort h.0) (by_sort c name sort h.1)
  reading_known c nothing t sort h = absurd h

  readings_known : (c : Context) (es : Expressions) (ts : TermTrees) (sorts : List ℕ) → AreReadings c es ts sorts → all_unknowns c es ≡ []
  readings_known c no_expressions ts sorts h = refl
  readings_known c (and_expression e es) no_terms [] h = absurd h
  readings_known c (and_expression e es) no_terms (sort ∷ sorts) h = absurd h
  readings_known c (and_expression e es) (and_term t ts) [] h = absurd h
  readings_known c (and_expression e es) (and_term t ts) (sort ∷ sorts) h =
      both_empty (unknowns c e) (all_unknowns c es) (reading_known c e t sort h.0) (readings_known c es ts sorts h.1)

-- and so it says no unknown sort
pub reading_sorts_known : (c : Context) (e : Expression) (t : TermTree) (sort : ℕ) → IsReading c e t sort → says_unknown_sort c e ≡ false
reading_sorts_known c e t sort h = ap (list_any is_of_sort) (reading_known c e t sort h)

-- an expression that is refused has no one reading
not_less : (xs : List ℕ) → IsLess xs xs → ⊥
not_less [] h = h
not_less (x ∷ xs) (inl h) = absurd (omega arith)
not_less (x ∷ xs) (inr h) = not_less xs h.1

not_before : (xs : List ℕ) → IsBefore xs xs → ⊥
not_before xs (inl h) = absurd (omega arith)
not_before xs (inr h) = not_less xs h.1

overload_unclear : (c : Context) (e : Expression) (place : Place) (r : Refusal) → IsOverloadRefusal c e None place r →
    (t : TermTree) (sort : ℕ) → IsOnlyReading c e None t sort → ⊥
overload_unclear c e place r (no_reading h) t sort k = h t sort tt k.reading
overload_unclear c e place r (ambiguous a b f) t sort k =
    let x : a ≡ t = (k.only a f.first_sort tt f.first).0 in
    let y : b ≡ t = (k.only b f.second_sort tt f.second).0 in
    not_before (preorder t) (subst (λ z. IsBefore (preorder t) (preorder z)) y (subst (λ z. IsBefore (preorder z) (preorder b)) x f.in_order))

unclear : (c : Context) (e : Expression) (place : Place) (r : Refusal) → IsExpressionRefusal c e None place r →
    (t : TermTree) (sort : ℕ) → IsOnlyReading c e None t sort → ⊥
unclear c e place r (unknown h) t sort k =
    let none : first_refusal [] ≡ Some r = sym (ap first_refusal (reading_known c e t sort k.reading)) ∙ h in cc
unclear c e place r (known u h) t sort k = overload_unclear c e place r h t sort k

pub refused_unclear : (c : Context) (e : Expression) (place : Place) (r : Refusal) → IsExpressionRefusal c e None place r → IsUnclear c e
refused_unclear c e place r h = record { none = unclear c e place r h }

-- a reading without variables is a ground term of its sort
none_there : (P : Declared → Type 0) (x : ℕ) → OnSome (slice_get [] x) P → ⊥
none_there P zero h = h
none_there P (suc x) h = h

on_some_of : {A : Type 0} {P Q : A → Type 0} (o : Option A) → ((x : A) → P x → Q x) → OnSome o P → OnSome o Q
on_some_of None f h = h
on_some_of (Some x) f h = f x h

mutual
  pub reading_sort : (theory : Theory) (e : Expression) (t : TermTree) (sort : ℕ) → IsReading (context_in theory) e t sort →
      HasSort theory no_variables t sort
  reading_sort theory (named name) t sort (inl h) = absurd (none_there (λ v. IsSameName v.name name.text × (v.sort ≡ sort)) h.0 h.2.0)
  reading_sort theory (named name) t sort (inr h) =
      subst (λ u. HasSort theory no_variables u sort) (sym h.1.1)
      (on_some_of (slice_get theory.operations h.1.0) (λ d p. (p.1, subst (λ args. HaveSorts theory no_variables no_terms args) (sym p.2) tt)) h.1.2)
  reading_sort theory (applied position name es) t sort h =
      subst (λ u. HasSort theory no_variables u sort) (sym h.2)
      (on_some_of (slice_get theory.operations h.0) (λ d p. (p.1, readings_sorts theory es h.1 d.args p.2)) h.3)
  reading_sort theory (said e name) t sort h = reading_sort theory e t sort h.0
  reading_sort theory nothing t sort h = absurd h

  readings_sorts : (theory : Theory) (es : Expressions) (ts : TermTrees) (sorts : List ℕ) → AreReadings (context_in theory) es ts sorts →
      HaveSorts theory no_variables ts sorts
  readings_sorts theory no_expressions no_terms [] h = tt
  readings_sorts theory no_expressions no_terms (sort ∷ sorts) h = absurd h
  readings_sorts theory no_expressions (and_term t ts) [] h = absurd h
  readings_sorts theory no_expressions (and_term t ts) (sort ∷ sorts) h = absurd h
  readings_sorts theory (and_expression e es) no_terms [] h = absurd h
  readings_sorts theory (and_expression e es) no_terms (sort ∷ sorts) h = absurd h
  readings_sorts theory (and_expression e es) (and_term t ts) [] h = absurd h
  readings_sorts theory (and_expression e es) (and_term t ts) (sort ∷ sorts) h =
      (reading_sort theory e t sort h.0, readings_sorts theory es ts sorts h.1)
