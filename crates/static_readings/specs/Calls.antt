-- Expressions whose sort is declared: the values of a call, and those of a `let`.
use Rattle.std.specs.Prelude.{◌≡◌, ℕ, List, [], ◌∷◌, ◌++◌, length, Option, Some, None, option_map, ◌==◌, ◌&&◌, Bool, true, false}
use Rattle.std.specs.List.{zip, enumerate_from}
use Rattle.lotos_ast.specs.declared.behaviour.Binding.{Binding}
use Rattle.lotos_ast.specs.declared.expression.Expr.{Expr}
use Rattle.lotos_ast.specs.declared.refusal.Refusal.{Refusal}
use Rattle.lotos_ast.specs.declared.refusal.RefusalKind.TheVariants.{UnknownProcess, WrongCount}
use Rattle.lotos_ast.specs.declared.token.Token.{Token}
use Rattle.lotos_ast.specs.ExpressionTrees.{expr_tree}
use Rattle.spec_core.specs.declared.items.Sort.{Sort}
use Rattle.spec_core.specs.Code as code
use Rattle.spec_core.specs.Code.{Node, call}
use Rattle.spec_core.specs.Terms.{TermTree, variable}
use Rattle.sort_overloads.specs.Expressions.{expression}
use Rattle.sort_overloads.specs.Listed.{Typed}
use Rattle.sort_overloads.specs.Readings.{Declared}
use Rattle.sort_overloads.specs.Refused.{refused, unknowns, unknown_sort}
use Rattle.static_equations.specs.Variables.{sort_named}
use Rattle.static_readings.specs.Declarations.{unknown_gates, gate_numbers}
use Rattle.static_readings.specs.Joins.{Read, single}
use Rattle.static_readings.specs.Offers.{IsExpressionRead}
use Rattle.static_readings.specs.ReadsAll.{ReadsAll}
use Rattle.static_readings.specs.Sites.{Site, Heading, sort_of}

-- an expression of a sort; where the sort isn't known, it is asked for its unknown names alone
pub data IsValueRead (s : Site) : Option ℕ → Expr → Option TermTree → List Refusal → Type 0 where
  sorted : (sort : Sort) (e : Expr) (x : Option Typed) (rs : List Refusal) → IsExpressionRead s (Some sort) e x rs →
      IsValueRead s (Some sort.0) e (option_map (λ x. x.term) x) rs
  unsorted : (e : Expr) → IsValueRead s None e None (unknowns s.context (expression (expr_tree e)))

-- What stands for a parameter: the value of the expression. Where the parameter's sort isn't known, each expression fits of which nothing is
-- refused; a variable stands for it, in code that isn't used, since the text is refused at the sort.
abbrev pub fitting : Option ℕ → List Refusal → Option TermTree → Option TermTree
fitting (Some sort) rs t = t
fitting None [] t = Some (variable 0)
fitting None (r ∷ rs) t = None

-- an expression for a parameter of this sort, if it is known
pub data IsArgumentRead (s : Site) (sort : Option ℕ) (e : Expr) : Option TermTree → List Refusal → Type 0 where
  fitted : (t : Option TermTree) (rs : List Refusal) → IsValueRead s sort e t rs → IsArgumentRead s sort e (fitting sort rs t) rs

-- expressions, each for a parameter of its sort
abbrev pub AreValuesRead : Site → List (Option ℕ) → List Expr → Option (List TermTree) → List Refusal → Type 0
AreValuesRead s sorts es = ReadsAll (λ e. IsArgumentRead s e.0 e.1) (zip sorts es)

-- the call of a process, where its gates and values are there
abbrev pub called : Heading → Option (List ℕ) → Option (List TermTree) → Option Read
called p (Some gates) (Some values) = option_map (single (call p.number gates values)) p.functionality
called p _ _ = None

-- as many gates and values as the process has
abbrev pub has_counts : Heading → List Token → List Expr → Bool
has_counts p gates values = (length gates == p.gates) && (length values == length p.sorts)

-- a call of a process of this name, if there is one. Where there is none, or counts differ, nothing else is asked of the call
pub data IsCallRead (s : Site) (name : Token) (gates : List Token) (es : List Expr) :
    Option Heading → Option Read → List Refusal → Type 0 where
  unknown : IsCallRead s name gates es None None (refused UnknownProcess name.place [] ∷ [])
  miscounted : (p : Heading) → has_counts p gates es ≡ false →
      IsCallRead s name gates es (Some p) None (refused WrongCount name.place [] ∷ [])
  counted : (p : Heading) (values : Option (List TermTree)) (rs : List Refusal) → has_counts p gates es ≡ true →
      AreValuesRead s p.sorts es values rs →
      IsCallRead s name gates es (Some p) (called p (gate_numbers s gates) values) (unknown_gates s gates ++ rs)

-- the variables of a `let`

abbrev pub variable_of : Site → Binding → Declared
variable_of s b = record { name = b.name.text; sort = sort_named s.context.sorts b.sort.text }

-- its value, as that of the variable of a number
abbrev pub bound_to : Site → ℕ → Binding → TermTree → code.Binding
bound_to s n b t = record { variable = record { number = n; sort = sort_named s.context.sorts b.sort.text }; term = t }

-- a binding, which doesn't see the variables of the others
pub data IsBindingRead (s : Site) : ℕ × Binding → Option code.Binding → List Refusal → Type 0 where
  bound : {n : ℕ} (b : Binding) (t : Option TermTree) (rs : List Refusal) → IsValueRead s (sort_of s b.sort) b.value t rs →
      IsBindingRead s (n, b) (option_map (bound_to s n b) t) (unknown_sort s.context b.sort ++ rs)

abbrev pub AreBindingsRead : Site → List Binding → Option (List code.Binding) → List Refusal → Type 0
AreBindingsRead s bindings = ReadsAll (IsBindingRead s) (enumerate_from (length s.context.variables) bindings)
