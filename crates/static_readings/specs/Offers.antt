-- What an action offers, and the values with which a behaviour ends.
use Rattle.std.specs.Prelude.{◌≡◌, ℕ, ◌+◌, List, [], ◌∷◌, map, length, Option, Some, None, option_map, if◌then◌else◌, Vec}
use Rattle.std.specs.List.{flat_map}
use Rattle.std.specs.declared.alloc.Global.{Global}
use Rattle.lotos_ast.specs.declared.behaviour.ExitValue.{ExitValue}
use Rattle.lotos_ast.specs.declared.behaviour.ExitValue.TheVariants.{Any}
use Rattle.lotos_ast.specs.declared.behaviour.Offer.{Offer}
use Rattle.lotos_ast.specs.declared.behaviour.Offer.TheVariants.{Variables}
use Rattle.lotos_ast.specs.declared.expression.Expr.{Expr}
use Rattle.lotos_ast.specs.declared.expression.Premiss.{Premiss}
use Rattle.lotos_ast.specs.declared.place.Place.{Place}
use Rattle.lotos_ast.specs.declared.refusal.Refusal.{Refusal}
use Rattle.lotos_ast.specs.declared.token.Token.{Token}
use Rattle.lotos_ast.specs.ExpressionTrees.{expr_tree}
use Rattle.lotos_ast.specs.ListTrees.{tree_place}
use Rattle.spec_core.specs.declared.items.Sort.{Sort}
use Rattle.spec_core.specs.Code as code
use Rattle.spec_core.specs.Code.{ActionField, give, accept, exit_given, exit_any}
use Rattle.spec_core.specs.Theories.{Premise}
use Rattle.sort_overloads.specs.Expressions.{expression}
use Rattle.sort_overloads.specs.Judged.{IsJudged}
use Rattle.sort_overloads.specs.Listed.{Typed}
use Rattle.sort_overloads.specs.Readings.{Declared}
use Rattle.sort_overloads.specs.Refused.{is_sort_known, unknown_sort}
use Rattle.static_equations.specs.Premisses.{IsPremissJudged}
use Rattle.static_readings.specs.Declarations.{of_one_sort, numbered_from}
use Rattle.static_readings.specs.ReadsAll.{ReadsAll}
use Rattle.static_readings.specs.Sites.{Site, sort_of}

-- an expression with a wanted sort, or with none
abbrev pub IsExpressionRead : Site → Option Sort → Expr → Option Typed → List Refusal → Type 0
IsExpressionRead s wanted e = IsJudged s.context (expression (expr_tree e)) wanted (tree_place (expr_tree e))

-- the variables that an offer declares, and their names

abbrev pub variables_of : Site → Offer → List Declared
variables_of s (Offer.Value place value) = []
variables_of s (Variables place names sort) = of_one_sort s.context.sorts names.items sort

abbrev pub names_of : Offer → List Token
names_of (Offer.Value place value) = []
names_of (Variables place names sort) = names.items

abbrev pub offered_variables : Site → List Offer → List Declared
offered_variables s offers = flat_map (variables_of s) offers

abbrev pub offered_names : List Offer → List Token
offered_names offers = flat_map names_of offers

-- the fields of variables of which the first has this number, where their sort is known
abbrev pub accepting : Site → ℕ → List Token → Token → Option (List ActionField)
accepting s n names sort =
    if is_sort_known s.context sort.text then Some (map accept (numbered_from n (of_one_sort s.context.sorts names sort))) else None

-- the fields of an offer, whose first variable has this number; it doesn't see the variables that the action declares
pub data IsOfferRead (s : Site) : ℕ × Offer → Option (List ActionField) → List Refusal → Type 0 where
  value : {n : ℕ} {place : Place} (e : Expr) (x : Option Typed) (rs : List Refusal) → IsExpressionRead s None e x rs →
      IsOfferRead s (n, Offer.Value place e) (option_map (λ x. give x.term ∷ []) x) rs
  variables : {n : ℕ} {place : Place} (names : Vec Token Global) (sort : Token) →
      IsOfferRead s (n, Variables place names sort) (accepting s n names.items sort) (unknown_sort s.context sort)

-- offers, each with the number of its first variable
abbrev pub numbered_offers : ℕ → List Offer → List (ℕ × Offer)
numbered_offers n [] = []
numbered_offers n (o ∷ os) = (n, o) ∷ numbered_offers (n + length (names_of o)) os

-- the fields of offers, by offers
abbrev pub AreOffersRead : Site → List Offer → Option (List (List ActionField)) → List Refusal → Type 0
AreOffersRead s offers = ReadsAll (IsOfferRead s) (numbered_offers (length s.context.variables) offers)

-- a predicate, if there is one
abbrev pub IsPredicateRead : Site → Option Premiss → Option (Option Premise) → List Refusal → Type 0
IsPredicateRead s None found refusals = (found ≡ Some None) × (refusals ≡ [])
IsPredicateRead s (Some p) found refusals = (x : Option Premise) × (found ≡ option_map (λ p. Some p) x)
    × IsPremissJudged s.context p x refusals

-- a value with which a behaviour ends, and its sort

abbrev pub any_value : Site → Token → Option (code.ExitValue × ℕ)
any_value s sort = option_map (λ n. (exit_any n, n)) (sort_of s sort)

pub data IsExitValueRead (s : Site) : ExitValue → Option (code.ExitValue × ℕ) → List Refusal → Type 0 where
  any : {place : Place} (sort : Token) → IsExitValueRead s (Any place sort) (any_value s sort) (unknown_sort s.context sort)
  value : {place : Place} (e : Expr) (x : Option Typed) (rs : List Refusal) → IsExpressionRead s None e x rs →
      IsExitValueRead s (ExitValue.Value place e) (option_map (λ x. (exit_given x.term, x.sort)) x) rs

abbrev pub AreExitValuesRead : Site → List ExitValue → Option (List (code.ExitValue × ℕ)) → List Refusal → Type 0
AreExitValuesRead s = ReadsAll (IsExitValueRead s)
