-- The unknown names of expressions, part by part.
use Rattle.std.proofs.Common.{ℕ, ◌≡◌, ◌<◌, ◌≤◌, ◌+◌, List, [], ◌∷◌, ◌++◌, length, map, drop, get_or, refl, ap, sym, subst, ◌∙◌, append_assoc}
use Rattle.std.proofs.lemmas.List.{append-nil, drop_all}
use Rattle.std.specs.List.{flat_map}
use Rattle.lotos_ast.specs.declared.place.Place.{Place}
use Rattle.lotos_ast.specs.declared.refusal.Refusal.{Refusal}
use Rattle.lotos_ast.specs.declared.token.Token.{Token}
use Rattle.lotos_ast.specs.Reads.{Tree, leaf, both, right, present, node}
use Rattle.lotos_ast.specs.ListTrees.{repeated_tree, list_tree, behind, between}
use Rattle.lotos_ast.specs.ExpressionTrees.{infixes_tree, of_sort}
use Rattle.sort_overloads.specs.Expressions.{Expression, said, infix_application, with_sorts, expression, chain, simple_expression, head_expression}
use Rattle.sort_overloads.specs.Expressions.{arguments, further}
use Rattle.sort_overloads.specs.Readings.{Context}
use Rattle.sort_overloads.specs.Refused.{unknowns, all_unknowns, unknown_name, unknown_sort}
use Rattle.sort_overloads.proofs.Loops.{dropped-next}

-- what is listed for an expression of which these operations are left to be read
pub record ListedSoFar (c : Context) (whole : Expression) (left_over : List Tree) (old now : List Refusal) : Type 0 where
  pub read : Expression
  pub listed : now ≡ old ++ unknowns c read
  pub same : chain read (infixes_tree left_over) ≡ whole

pub listed-next : {A : Type 0} (c : Context) (whole : Expression) (f : A → Tree) (xs : List A) (i : ℕ) (x : A) (p : Place) (name : Token) (operand : Tree) (old before middle now : List Refusal) → i < length xs → x ≡ get_or xs i x →
    f x ≡ node p (both (leaf name) operand) → middle ≡ before ++ unknown_name c name → now ≡ middle ++ unknowns c (simple_expression operand) →
    ListedSoFar c whole (map f (drop i xs)) old before → ListedSoFar c whole (map f (drop (i + 1) xs)) old now
listed-next c whole f xs i x p name operand old before middle now within at e b n h = record {
  read = infix_application name h.read (simple_expression operand);
  listed =
      let us = unknowns c h.read in
      let vs = unknown_name c name in
      let ws = unknowns c (simple_expression operand) in
      n ∙ ap (λ z. z ++ ws) (b ∙ ap (λ z. z ++ vs) h.listed) ∙ ap (λ z. z ++ ws) (append_assoc old us vs) ∙ append_assoc old (us ++ vs) ws
      ∙ ap (λ z. old ++ ((us ++ vs) ++ z)) (sym (append-nil ws));
  same = sym (ap (λ z. chain h.read (infixes_tree (map f z))) (dropped-next xs i x within at) ∙ ap (λ z. chain h.read (infixes_tree (z ∷ map f (drop (i + 1) xs)))) e) ∙ h.same;
}

pub listed-all : {A : Type 0} (c : Context) (whole : Expression) (f : A → Tree) (xs : List A) (i : ℕ) (old now : List Refusal) → length xs ≤ i → ListedSoFar c whole (map f (drop i xs)) old now → now ≡ old ++ unknowns c whole
listed-all c whole f xs i old now ended h =
    let e : h.read ≡ whole = sym (ap (λ z. chain h.read (infixes_tree (map f z))) (drop_all i xs ended)) ∙ h.same in
    subst (λ z. now ≡ old ++ unknowns c z) e h.listed

-- the same of the sorts that are said of an operand
pub record SaidListed (c : Context) (whole : Expression) (left_over : List Token) (old now : List Refusal) : Type 0 where
  pub read : Expression
  pub listed : now ≡ old ++ unknowns c read
  pub same : with_sorts read (repeated_tree (map of_sort left_over)) ≡ whole

pub said-listed-next : (c : Context) (whole : Expression) (xs : List Token) (i : ℕ) (x : Token) (old before now : List Refusal) → i < length xs → x ≡ get_or xs i x → now ≡ before ++ unknown_sort c x →
    SaidListed c whole (drop i xs) old before → SaidListed c whole (drop (i + 1) xs) old now
said-listed-next c whole xs i x old before now within at n h = record {
  read = said h.read x;
  listed = n ∙ ap (λ z. z ++ unknown_sort c x) h.listed ∙ append_assoc old (unknowns c h.read) (unknown_sort c x);
  same = sym (ap (λ z. with_sorts h.read (repeated_tree (map of_sort z))) (dropped-next xs i x within at)) ∙ h.same;
}

pub said-listed-all : (c : Context) (whole : Expression) (xs : List Token) (i : ℕ) (old now : List Refusal) → length xs ≤ i → SaidListed c whole (drop i xs) old now → now ≡ old ++ unknowns c whole
said-listed-all c whole xs i old now ended h =
    let e : h.read ≡ whole = sym (ap (λ z. with_sorts h.read (repeated_tree (map of_sort z))) (drop_all i xs ended)) ∙ h.same in
    subst (λ z. now ≡ old ++ unknowns c z) e h.listed

-- arguments, one after another
further-listed : {A : Type 0} (c : Context) (f : A → Tree) (xs : List A) → all_unknowns c (further (repeated_tree (map behind (map f xs)))) ≡ flat_map (λ a. unknowns c (expression (f a))) xs
further-listed c f [] = refl
further-listed c f (x ∷ xs) = ap (λ z. unknowns c (expression (f x)) ++ z) (further-listed c f xs)

pub arguments-listed : {A : Type 0} (c : Context) (f : A → Tree) (xs : List A) → all_unknowns c (arguments (list_tree (map f xs))) ≡ flat_map (λ a. unknowns c (expression (f a))) xs
arguments-listed c f [] = refl
arguments-listed c f (x ∷ xs) = ap (λ z. unknowns c (expression (f x)) ++ z) (further-listed c f xs)

-- an operation before its arguments
pub applied-listed : {A : Type 0} (c : Context) (tree : Tree) (p : Place) (name : Token) (f : A → Tree) (xs : List A) (old named now : List Refusal) →
    tree ≡ node p (right (both (leaf name) (present (between (list_tree (map f xs)))))) → named ≡ old ++ unknown_name c name → now ≡ named ++ flat_map (λ a. unknowns c (expression (f a))) xs → now ≡ old ++ unknowns c (head_expression tree)
applied-listed c tree p name f xs old named now e h n =
    let us = unknown_name c name in
    let vs = flat_map (λ a. unknowns c (expression (f a))) xs in
    n ∙ ap (λ z. z ++ vs) h ∙ append_assoc old us vs
    ∙ ap (λ z. old ++ z) (ap (λ z. us ++ z) (sym (arguments-listed c f xs)) ∙ sym (ap (λ t. unknowns c (head_expression t)) e))
