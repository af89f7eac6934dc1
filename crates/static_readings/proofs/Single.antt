-- What single values are read as.
use Rattle.std.proofs.Common.{ℕ, ◌≡◌, sym, subst, List, [], ◌∷◌, ◌++◌, length, length-append, append-nil, arith, Option, Some, None, append_assoc, if◌then◌else◌, Bool, true, false, refl, ◌∙◌, ap}
use Rattle.std.specs.Prelude.{option_map}
use Rattle.std.proofs.lemmas.List.{nil_from_length}
use Rattle.lotos_ast.specs.declared.behaviour.ExitValue.{ExitValue}
use Rattle.lotos_ast.specs.declared.behaviour.ExitValue.TheVariants.{Any}
use Rattle.lotos_ast.specs.declared.expression.Expr.{Expr}
use Rattle.lotos_ast.specs.declared.place.Place.{Place}
use Rattle.lotos_ast.specs.declared.refusal.Refusal.{Refusal}
use Rattle.lotos_ast.specs.declared.token.Token.{Token}
use Rattle.lotos_ast.specs.ExpressionTrees.{expr_tree}
use Rattle.spec_core.specs.declared.items.Sort.{Sort}
use Rattle.spec_core.specs.Code.{exit_given, exit_any}
use Rattle.sort_overloads.specs.Expressions.{expression}
use Rattle.sort_overloads.specs.Judged.{Adds}
use Rattle.sort_overloads.specs.Listed.{Typed}
use Rattle.sort_overloads.specs.Refused.{unknowns, unknown_sort}
use Rattle.lotos_ast.specs.declared.behaviour.Binding.{Binding}
use Rattle.spec_core.specs.Terms.{TermTree, variable}
use Rattle.static_equations.specs.Variables.{sort_named}
use Rattle.sort_overloads.specs.Refused.{is_sort_known}
use Rattle.static_readings.specs.Calls.{IsValueRead, sorted, unsorted, fitting, IsArgumentRead, fitted, IsBindingRead, bound, bound_to}
use Rattle.static_readings.specs.Offers.{IsExpressionRead, IsExitValueRead, any, value}
use Rattle.static_readings.specs.Sites.{Site, sort_of}

-- what is added in one sense is added in another that follows from it
pub added_as : {P Q : List Refusal → Type 0} (old new : List Refusal) → ((rs : List Refusal) → P rs → Q rs) → Adds P old new → Adds Q old new
added_as old new f h = record { refusals = h.refusals; such = f h.refusals h.such; behind = h.behind }

pub value_unsorted : (s : Site) (e : Expr) (old new : List Refusal) → new ≡ old ++ unknowns s.context (expression (expr_tree e))
    → Adds (IsValueRead s None e None) old new
value_unsorted s e old new h = record { refusals = unknowns s.context (expression (expr_tree e)); such = unsorted e; behind = h }

pub value_unread : (s : Site) (sort : Sort) (e : Expr) (old new : List Refusal) → Adds (IsExpressionRead s (Some sort) e None) old new
    → Adds (IsValueRead s (Some sort.0) e None) old new
value_unread s sort e old new h = added_as old new (λ rs p. sorted sort e None rs p) h

pub value_read : (s : Site) (sort : Sort) (e : Expr) (x : Typed) (old new : List Refusal) → Adds (IsExpressionRead s (Some sort) e (Some x)) old new
    → Adds (IsValueRead s (Some sort.0) e (Some x.term)) old new
value_read s sort e x old new h = added_as old new (λ rs p. sorted sort e (Some x) rs p) h

-- for a parameter whose sort isn't known: a variable where nothing was added, and else nothing

pub argument_open : (s : Site) (e : Expr) (t : Option TermTree) (old new : List Refusal) → Adds (IsValueRead s None e t) old new
    → length new ≡ length old → Adds (IsArgumentRead s None e (Some (variable 0))) old new
argument_open s e t old new h same =
    let l = length-append old h.refusals in
    let b = ap length h.behind in
    let n : h.refusals ≡ [] = nil_from_length h.refusals (omega (arith, l, b, same)) in
    record {
      refusals = h.refusals;
      such = subst (λ u. IsArgumentRead s None e u h.refusals) (ap (λ rs. fitting None rs t) n) (fitted t h.refusals h.such);
      behind = h.behind;
    }

pub argument_hindered : (s : Site) (e : Expr) (t : Option TermTree) (old new : List Refusal) → Adds (IsValueRead s None e t) old new
    → (length new ≡ length old → ⊥) → Adds (IsArgumentRead s None e None) old new
argument_hindered s e t old new h differ = by_refusals h.refusals h.such h.behind
  where
    by_refusals : (rs : List Refusal) → IsValueRead s None e t rs → new ≡ old ++ rs → Adds (IsArgumentRead s None e None) old new
    by_refusals [] such behind = absurd (differ (ap length (behind ∙ append-nil old)))
    by_refusals (r ∷ rs) such behind = record { refusals = r ∷ rs; such = fitted t (r ∷ rs) such; behind = behind }

pub argument_known : (s : Site) (sort : Sort) (e : Expr) (t : Option TermTree) (old new : List Refusal) → Adds (IsValueRead s (Some sort.0) e t) old new
    → Adds (IsArgumentRead s (Some sort.0) e t) old new
argument_known s sort e t old new h = record { refusals = h.refusals; such = fitted t h.refusals h.such; behind = h.behind }

-- any value of a sort
any_as : (s : Site) (place : Place) (t : Token) (o : Option ℕ) → o ≡ sort_of s t → (old new : List Refusal) → new ≡ old ++ unknown_sort s.context t
    → Adds (IsExitValueRead s (Any place t) (option_map (λ n. (exit_any n, n)) o)) old new
any_as s place t o is old new h = record {
  refusals = unknown_sort s.context t;
  such = subst (λ z. IsExitValueRead s (Any place t) (option_map (λ n. (exit_any n, n)) z) (unknown_sort s.context t)) (sym is) (any t);
  behind = h;
}

pub any_unknown : (s : Site) (place : Place) (t : Token) (old new : List Refusal) → None ≡ sort_of s t
    → new ≡ old ++ unknown_sort s.context t → Adds (IsExitValueRead s (Any place t) None) old new
any_unknown s place t old new unknown h = any_as s place t None unknown old new h

pub any_known : (s : Site) (place : Place) (t : Token) (n : ℕ) (old new : List Refusal) → Some n ≡ sort_of s t
    → new ≡ old ++ unknown_sort s.context t → Adds (IsExitValueRead s (Any place t) (Some (exit_any n, n))) old new
any_known s place t n old new known h = any_as s place t (Some n) known old new h

pub exit_unread : (s : Site) (place : Place) (e : Expr) (old new : List Refusal) → Adds (IsExpressionRead s None e None) old new
    → Adds (IsExitValueRead s (ExitValue.Value place e) None) old new
exit_unread s place e old new h = added_as old new (λ rs p. value e None rs p) h

pub exit_read : (s : Site) (place : Place) (e : Expr) (x : Typed) (old new : List Refusal) → Adds (IsExpressionRead s None e (Some x)) old new
    → Adds (IsExitValueRead s (ExitValue.Value place e) (Some (exit_given x.term, x.sort))) old new
exit_read s place e x old new h = added_as old new (λ rs p. value e (Some x) rs p) h

-- a binding, whose sort is asked for first

pub binding_unsorted : (s : Site) (n : ℕ) (b : Binding) (old mid new : List Refusal) → None ≡ sort_of s b.sort
    → mid ≡ old ++ unknown_sort s.context b.sort → new ≡ mid ++ unknowns s.context (expression (expr_tree b.value))
    → Adds (IsBindingRead s (n, b) None) old new
binding_unsorted s n b old mid new is first second = record {
  refusals = unknown_sort s.context b.sort ++ unknowns s.context (expression (expr_tree b.value));
  such = bound b None (unknowns s.context (expression (expr_tree b.value))) (subst (λ o. IsValueRead s o b.value None (unknowns s.context (expression (expr_tree b.value)))) is (unsorted b.value));
  behind = second ∙ ap (λ z. z ++ unknowns s.context (expression (expr_tree b.value))) first ∙ append_assoc old (unknown_sort s.context b.sort) (unknowns s.context (expression (expr_tree b.value)));
}

binding_as : (s : Site) (n : ℕ) (b : Binding) (sort : ℕ) (t : Option TermTree) (old mid new : List Refusal) → Some sort ≡ sort_of s b.sort
    → mid ≡ old ++ unknown_sort s.context b.sort → Adds (IsValueRead s (Some sort) b.value t) mid new
    → Adds (IsBindingRead s (n, b) (option_map (bound_to s n b) t)) old new
binding_as s n b sort t old mid new is first h = record {
  refusals = unknown_sort s.context b.sort ++ h.refusals;
  such = bound b t h.refusals (subst (λ o. IsValueRead s o b.value t h.refusals) is h.such);
  behind = h.behind ∙ ap (λ z. z ++ h.refusals) first ∙ append_assoc old (unknown_sort s.context b.sort) h.refusals;
}

pub binding_unread : (s : Site) (n : ℕ) (b : Binding) (sort : ℕ) (old mid new : List Refusal) → Some sort ≡ sort_of s b.sort
    → mid ≡ old ++ unknown_sort s.context b.sort → Adds (IsValueRead s (Some sort) b.value None) mid new
    → Adds (IsBindingRead s (n, b) None) old new
binding_unread s n b sort old mid new is first h = binding_as s n b sort None old mid new is first h

pub named_sort : (s : Site) (t : Token) (sort : ℕ) → Some sort ≡ sort_of s t → sort_named s.context.sorts t.text ≡ sort
named_sort s t sort is = by_test (is_sort_known s.context t.text) refl
  where
    same : Some sort ≡ Some (sort_named s.context.sorts t.text) → sort_named s.context.sorts t.text ≡ sort
    same e = cc

    differ : Some sort ≡ None → ⊥
    differ e = cc

    by_test : (b : Bool) → is_sort_known s.context t.text ≡ b → sort_named s.context.sorts t.text ≡ sort
    by_test true e = same (is ∙ ap (λ b. if b then Some (sort_named s.context.sorts t.text) else None) e)
    by_test false e = absurd (differ (is ∙ ap (λ b. if b then Some (sort_named s.context.sorts t.text) else None) e))

pub binding_read : (s : Site) (n : ℕ) (b : Binding) (sort : ℕ) (t : TermTree) (old mid new : List Refusal) → Some sort ≡ sort_of s b.sort
    → mid ≡ old ++ unknown_sort s.context b.sort → Adds (IsValueRead s (Some sort) b.value (Some t)) mid new
    → Adds (IsBindingRead s (n, b) (Some (record { variable = record { number = n; sort = sort }; term = t }))) old new
binding_read s n b sort t old mid new is first h =
    subst (λ z. Adds (IsBindingRead s (n, b) (Some (record { variable = record { number = n; sort = z }; term = t }))) old new) (named_sort s b.sort sort is)
    (binding_as s n b sort (Some t) old mid new is first h)

pub ruleset exit_rows = (any_unknown, any_known, exit_unread, exit_read)
