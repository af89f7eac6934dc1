-- Expressions with one reading.
use Rattle.std.proofs.Common.{ℕ, ◌≡◌, ◌∙◌, inl, inr, false, List, [], ◌∷◌, map, Option, Some, None, unwrap_or, refl, ap, sym, subst}
use Rattle.std.specs.Char.{to_ascii_lowercase}
use Rattle.std.specs.List.{slice_get}
use Rattle.lotos_ast.specs.declared.token.Token.{Token}
use Rattle.spec_core.specs.Lists.{Each, NoTwo}
use Rattle.spec_core.specs.Names.{IsSameName, IsIdentifier}
use Rattle.spec_core.specs.Ready.{IsSameOperation}
use Rattle.spec_core.specs.Sorts.{OnSome, FitsData, OperationFits}
use Rattle.spec_core.specs.Terms.{TermTree, TermTrees, apply, no_terms, and_term}
use Rattle.spec_core.specs.Theories.{Operation, Theory}
use Rattle.spec_core.proofs.Lists.{each_slice_get}
use Rattle.sort_overloads.specs.Expressions.{Position, Expression, Expressions, named, applied, said, no_expressions, and_expression}
use Rattle.sort_overloads.specs.Overloads.{IsOnlyReading}
use Rattle.sort_overloads.specs.Readings.{Context, spelling, IsVariable, IsReading, AreReadings}
use Rattle.script_text.specs.Meanings.{context_in}
use Rattle.value_text.specs.Values.{is_shared, name_at}
use Rattle.value_text.proofs.Names.{at_place, one_place}
use Rattle.script_laws.proofs.Operations.{one_alone, one_of_sort}

-- these terms are the one reading of each expression, and have these sorts
pub record AreOnlyReadings (c : Context) (es : Expressions) (ts : TermTrees) (sorts : List ℕ) : Type 0 where
  pub readings : AreReadings c es ts sorts
  pub only : (us : TermTrees) (others : List ℕ) → AreReadings c es us others → (us ≡ ts) × (others ≡ sorts)

pub none_read : (c : Context) → AreOnlyReadings c no_expressions no_terms []
none_read c = record { readings = tt; only = only }
  where
    only : (us : TermTrees) (others : List ℕ) → AreReadings c no_expressions us others → (us ≡ no_terms) × (others ≡ [])
    only no_terms [] h = (refl, refl)
    only no_terms (s ∷ sorts) h = absurd h
    only (and_term u us) [] h = absurd h
    only (and_term u us) (s ∷ sorts) h = absurd h

pub one_more_read : (c : Context) (e : Expression) (es : Expressions) (t : TermTree) (ts : TermTrees) (a : ℕ) (sorts : List ℕ) →
    IsOnlyReading c e None t a → AreOnlyReadings c es ts sorts → AreOnlyReadings c (and_expression e es) (and_term t ts) (a ∷ sorts)
one_more_read c e es t ts a sorts one rest = record { readings = (one.reading, rest.readings); only = only }
  where
    only : (us : TermTrees) (others : List ℕ) → AreReadings c (and_expression e es) us others → (us ≡ and_term t ts) × (others ≡ a ∷ sorts)
    only no_terms [] h = absurd h
    only no_terms (s ∷ others) h = absurd h
    only (and_term u us) [] h = absurd h
    only (and_term u us) (s ∷ others) h =
        let first = one.only u s tt h.0 in
        let more = rest.only us others h.1 in
        (ap (λ z. and_term z us) first.0 ∙ ap (and_term t) more.0, ap (λ z. z ∷ others) first.1 ∙ ap (λ z. a ∷ z) more.1)

-- the term begins with an operation of the same name and argument sorts, and has its sort
pub record IsAlike (theory : Theory) (d : Operation) (ts : TermTrees) (u : TermTree) (sort : ℕ) : Type 0 where
  pub number : ℕ
  pub operation : Operation
  pub at : slice_get theory.operations number ≡ Some operation
  pub name : IsSameName operation.name d.name
  pub args : operation.args ≡ d.args
  pub result : operation.result ≡ sort
  pub whole : u ≡ apply number ts

-- each reading of the expression is alike
pub record ReadsAlike (theory : Theory) (e : Expression) (d : Operation) (f : ℕ) (ts : TermTrees) : Type 0 where
  pub reading : IsReading (context_in theory) e (apply f ts) d.result
  pub others : (u : TermTree) (sort : ℕ) → IsReading (context_in theory) e u sort → IsAlike theory d ts u sort

there : {A : Type 0} (P : A → Type 0) (o : Option A) (x : A) → o ≡ Some x → P x → OnSome o P
there P o x at h = subst (λ z. OnSome z P) (sym at) h

found : {A : Type 0} (P : A → Type 0) (o : Option A) → OnSome o P → (x : A) × (o ≡ Some x) × P x
found P None h = absurd h
found P (Some x) h = (x, refl, h)

no_variable : (name : List ℕ) (x sort : ℕ) → IsVariable name [] x sort → ⊥
no_variable name x sort h = absurd h.0

abbrev IsConstant : List ℕ → ℕ → Operation → Type 0
IsConstant name sort x = IsSameName x.name name × (x.result ≡ sort) × (x.args ≡ [])

abbrev IsOver : Context → List ℕ → Expressions → TermTrees → ℕ → Operation → Type 0
IsOver c name es us sort x = IsSameName x.name name × (x.result ≡ sort) × AreReadings c es us x.args

-- a constant by its name
pub constant_read : (theory : Theory) (f : ℕ) (d : Operation) (n : Token) → slice_get theory.operations f ≡ Some d → d.args ≡ [] →
    n.text ≡ d.name → ReadsAlike theory (named n) d f no_terms
constant_read theory f d n at args text = record { reading = reading; others = others }
  where
    reading : IsReading (context_in theory) (named n) (apply f no_terms) d.result
    reading =
        inr (tt, (f, refl, there (IsConstant n.text d.result) (slice_get theory.operations f) d at (ap (map to_ascii_lowercase) (sym text), refl, args)))

    others : (u : TermTree) (sort : ℕ) → IsReading (context_in theory) (named n) u sort → IsAlike theory d no_terms u sort
    others u sort (inl h) = absurd (no_variable n.text h.0 sort h.2)
    others u sort (inr h) =
        let k = found (IsConstant n.text sort) (slice_get theory.operations h.1.0) h.1.2 in
        record {
          number = h.1.0;
          operation = k.0;
          at = k.1;
          name = k.2.0 ∙ ap (map to_ascii_lowercase) text;
          args = k.2.2 ∙ sym args;
          result = k.2.1;
          whole = h.1.1;
        }

-- an operation over arguments
pub applied_read : (theory : Theory) (f : ℕ) (d : Operation) (position : Position) (n : Token) (es : Expressions) (ts : TermTrees) →
    slice_get theory.operations f ≡ Some d → d.name ≡ spelling position n.text → AreOnlyReadings (context_in theory) es ts d.args →
    ReadsAlike theory (applied position n es) d f ts
applied_read theory f d position n es ts at name args = record { reading = reading; others = others }
  where
    reading : IsReading (context_in theory) (applied position n es) (apply f ts) d.result
    reading =
        (f, ts, refl, there (IsOver (context_in theory) (spelling position n.text) es ts d.result) (slice_get theory.operations f) d at (ap (map to_ascii_lowercase) name, refl, args.readings))

    others : (u : TermTree) (sort : ℕ) → IsReading (context_in theory) (applied position n es) u sort → IsAlike theory d ts u sort
    others u sort h =
        let k = found (IsOver (context_in theory) (spelling position n.text) es h.1 sort) (slice_get theory.operations h.0) h.3 in
        let same = args.only h.1 k.0.args k.2.2 in
        record {
          number = h.0;
          operation = k.0;
          at = k.1;
          name = k.2.0 ∙ ap (map to_ascii_lowercase) (sym name);
          args = same.1;
          result = k.2.1;
          whole = h.2 ∙ ap (apply h.0) same.0;
        }

-- the sort of one that is alike and has the same number
same_sort : (theory : Theory) (f : ℕ) (d : Operation) (ts : TermTrees) (u : TermTree) (sort : ℕ) → slice_get theory.operations f ≡ Some d →
    (k : IsAlike theory d ts u sort) → k.number ≡ f → (u ≡ apply f ts) × (sort ≡ d.result)
same_sort theory f d ts u sort at k e =
    let one : Some k.operation ≡ Some d = sym k.at ∙ ap (slice_get theory.operations) e ∙ at in
    let same : k.operation ≡ d = cc in
    (k.whole ∙ ap (λ z. apply z ts) e, sym k.result ∙ ap (λ (x : Operation). x.result) same)

-- where no other operation shares name and argument sorts, the expression has one reading
pub one_unsaid : (theory : Theory) (e : Expression) (d : Operation) (f : ℕ) (ts : TermTrees) → slice_get theory.operations f ≡ Some d →
    is_shared theory.operations d ≡ false → ReadsAlike theory e d f ts → IsOnlyReading (context_in theory) e None (apply f ts) d.result
one_unsaid theory e d f ts at alone h =
    record {
      wanted_sort = tt;
      reading = h.reading;
      only = λ u other w k.
          let l = h.others u other k in
          same_sort theory f d ts u other at l (one_alone theory.operations f l.number d l.operation at l.at l.name l.args alone);
    }

-- and else it has one with the sort behind it
pub one_said : (theory : Theory) (fits : FitsData theory) (sorts : Each IsIdentifier theory.sorts) (sorts_differ : NoTwo IsSameName theory.sorts)
    (operations_differ : NoTwo IsSameOperation theory.operations) (e : Expression) (d : Operation) (f : ℕ) (ts : TermTrees) (n : Token) →
    slice_get theory.operations f ≡ Some d → n.text ≡ name_at theory.sorts d.result → ReadsAlike theory e d f ts →
    IsOnlyReading (context_in theory) (said e n) None (apply f ts) d.result
one_said theory fits sorts sorts_differ operations_differ e d f ts n at text h =
    let q = at_place IsIdentifier theory.sorts d.result sorts (each_slice_get (OperationFits theory) theory.operations f d fits.operations at).0 in
    let named_so : n.text ≡ q.item = text ∙ ap (λ o. unwrap_or o []) q.at in
    record {
      wanted_sort = tt;
      reading = (
        h.reading,
        there (λ other. IsSameName other n.text) (slice_get theory.sorts d.result) q.item q.at
            (ap (map to_ascii_lowercase) (sym named_so)),
      );
      only = λ u other w k.
          let l = h.others u other k.0 in
          let s = found (λ name. IsSameName name n.text) (slice_get theory.sorts other) k.1 in
          let same : IsSameName s.0 q.item = s.2 ∙ ap (map to_ascii_lowercase) named_so in
          let sort : other ≡ d.result =
          one_place IsSameName theory.sorts other d.result s.0 q.item sorts_differ s.1 q.at same (sym same) in
          same_sort theory f d ts u other at l
          (one_of_sort theory.operations f l.number d l.operation operations_differ at l.at l.name l.args (l.result ∙ sort));
    }
