-- Calls of processes stand for what they are read from.
use Rattle.std.proofs.Common.{ℕ, ◌≡◌, List, [], ◌∷◌, length, sym, ap, subst, ◌∙◌}
use Rattle.std.specs.Prelude.{Option, Some, None, option_map, IfSome, Bool, true, false, ◌==◌}
use Rattle.std.specs.List.{find}
use Rattle.std.proofs.Math.Bool.{cond}
use Rattle.std.proofs.lemmas.Bool.{eqb-true, and_parts}
use Rattle.std.proofs.lemmas.List.{length-map}
use Rattle.lotos_ast.specs.declared.expression.Expr.{Expr}
use Rattle.lotos_ast.specs.declared.refusal.Refusal.{Refusal}
use Rattle.lotos_ast.specs.declared.token.Token.{Token}
use Rattle.spec_core.specs.Code.{Program, call}
use Rattle.spec_core.specs.Functionality.{Functionality, call_fits, AreGatesInScope, ValuesFit}
use Rattle.spec_core.specs.Lists.{Each}
use Rattle.spec_core.specs.Terms.{TermTree}
use Rattle.sort_overloads.specs.Listed.{is_same_name}
use Rattle.static_readings.specs.Calls.{AreValuesRead, called, IsCallRead, unknown, miscounted, counted}
use Rattle.static_readings.specs.Declarations.{gate_numbers}
use Rattle.static_readings.specs.Joins.{Read, single}
use Rattle.static_readings.specs.Sites.{Site, Heading, process_named}
use Rattle.static_laws.specs.Standing.{Agrees, HeadingAgrees}
use Rattle.static_laws.proofs.Gates.{gates-fit, gates-counted}
use Rattle.static_laws.proofs.Rows.{Holds}
use Rattle.static_laws.proofs.Standings.{Stands, stands-single}
use Rattle.static_laws.proofs.Values.{values-fit}

found-or : {A : Type 0} (P : A → Type 0) (b : Bool) (x : A) (o : Option A) → P x → IfSome o P → IfSome (cond b (Some x) o) P
found-or P true x o h g = h
found-or P false x o h g = g

-- what holds of each holds of the one that is found
pub each-found : {A : Type 0} (P : A → Type 0) (test : A → Bool) (xs : List A) → Each P xs → IfSome (find test xs) P
each-found P test [] h = tt
each-found P test (x ∷ xs) h = found-or P (test x) x (find test xs) h.0 (each-found P test xs h.1)

module _ (program : Program) (processes : ℕ → Functionality) (s : Site) (from : ℕ) (gates : List ℕ) (vars : ℕ → Option ℕ) where
  call-stands : (p : Heading) → HeadingAgrees program processes p → (gs : Option (List ℕ)) (values : Option (List TermTree)) →
      IfSome gs (AreGatesInScope program gates) → IfSome gs (λ l. length l ≡ p.gates) →
      ((h : HeadingAgrees program processes p) → IfSome values (λ ts. ValuesFit program.theory vars ts h.variables)) →
      IfSome (called p gs values) (Stands program processes gates vars from)
  call-stands p h None values scope count fit = tt
  call-stands p h (Some gs) None scope count fit = tt
  call-stands p h (Some gs) (Some values) scope count fit =
      subst (λ o. IfSome (option_map (single (call p.number gs values)) o) (Stands program processes gates vars from)) (sym h.functionality)
      (stands-single program processes gates vars from (call p.number gs values) (processes p.number)
      (call_fits h.formal h.variables h.body h.defined (count ∙ sym h.gates) scope (fit h)))

  pub call-row : Agrees program processes s gates vars → (name : Token) (ts : List Token) (es : List Expr) (o : Option Heading) →
      IfSome o (HeadingAgrees program processes) → (x : Option Read) (rs : List Refusal) → IsCallRead s name ts es o x rs →
      IfSome x (Stands program processes gates vars from)
  call-row h name ts es o agree x rs unknown = tt
  call-row h name ts es o agree x rs (miscounted p other) = tt
  call-row h name ts es o agree x rs (counted p values refusals counts d) =
      let k = and_parts (length ts == p.gates) (length es == length p.sorts) counts in
      call-stands p agree (gate_numbers s ts) values (gates-fit program s gates h.gates_in_scope ts)
      (subst (λ n. IfSome (gate_numbers s ts) (λ l. length l ≡ n)) (eqb-true (length ts) p.gates k.0) (gates-counted s ts))
      (λ a. values-fit program.theory s vars h.data_agrees es a.variables values refusals
      (eqb-true (length es) (length p.sorts) k.1 ∙ ap length a.sorts ∙ length-map a.variables (λ x. Some x.sort))
      (subst (λ sorts. AreValuesRead s sorts es values refusals) a.sorts d))

pub called-row : (program : Program) (processes : ℕ → Functionality) (s : Site) (from : ℕ) (name : Token) (ts : List Token) (es : List Expr)
    (x : Option Read) (rs : List Refusal) → IsCallRead s name ts es (process_named s name) x rs →
    Holds program processes s from x
called-row program processes s from name ts es x rs d gates vars h =
    call-row program processes s from gates vars h name ts es (process_named s name)
    (each-found (HeadingAgrees program processes) (λ p. is_same_name p.name name.text) s.processes h.headings) x rs d
