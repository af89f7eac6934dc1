-- Values spelled and compared part by part.
use Rattle.std.proofs.Common.{ℕ, ◌≡◌, List, [], ◌∷◌, ◌++◌, map, sym, ap, ◌∙◌, append_assoc}
use Rattle.std.proofs.lemmas.List.{append-nil, map-append}
use Rattle.spec_core.specs.Lists.{Each}
use Rattle.spec_core.specs.Terms.{TermTree, TermTrees, variable, apply, no_terms, and_term, preorder, preorders}
use Rattle.value_nodes.specs.declared.node.Node.{Node}
use Rattle.value_nodes.specs.declared.spelling.Part.{Part}
use Rattle.value_nodes.specs.Nodes.{arguments, tree_at, IsOver, HasArguments}
use Rattle.value_nodes.specs.declared.spelling.Part.TheVariants.{Whole as WholePart, Arguments as ArgumentsPart}
use Rattle.spec_core.specs.declared.items.Op.{Op}
use Rattle.spec_core.specs.Numbers.{op_number}
use Rattle.value_nodes.specs.Parts.{word, words}

pub words_push : (rows : List Node) (ps : List Part) (p : Part) → words rows (ps ++ p ∷ []) ≡ word rows p ++ words rows ps
words_push rows [] p = sym (append-nil (word rows p))
words_push rows (q ∷ ps) p = ap (λ us. us ++ word rows q) (words_push rows ps p) ∙ append_assoc (word rows p) (words rows ps) (word rows q)

pub each_less : {A : Type 0} (P : A → Type 0) (xs : List A) (x : A) → Each P (xs ++ x ∷ []) → Each P xs × P x
each_less P [] x e = (tt, e.0)
each_less P (y ∷ xs) x e = let r = each_less P xs x e.1 in ((e.0, r.0), r.1)

pub whole_word : (f : ℕ) (t : TermTree) → IsOver f t → preorder t ≡ f ∷ preorders (arguments t)
whole_word f (variable x) o = absurd o
whole_word f (apply g ts) o = ap (λ h. h ∷ preorders ts) (sym o)

pub no_parts : (f : ℕ) (t : TermTree) → t ≡ apply f no_terms → preorders (arguments t) ≡ []
no_parts f t e = ap (λ u. preorders (arguments u)) e

pub one_part : (f : ℕ) (t a : TermTree) → t ≡ apply f (and_term a no_terms) → preorders (arguments t) ≡ preorder a
one_part f t a e = ap (λ u. preorders (arguments u)) e ∙ append-nil (preorder a)

pub more_parts : (f : ℕ) (t a r : TermTree) → t ≡ apply f (and_term a (arguments r)) →
    preorders (arguments t) ≡ preorder a ++ preorders (arguments r)
more_parts f t a r e = ap (λ u. preorders (arguments u)) e

-- one operation over the same arguments
pub over_same : (f g : ℕ) (t u : TermTree) → IsOver f t → IsOver g u → f ≡ g → arguments t ≡ arguments u → t ≡ u
over_same f g (variable x) u o p q e = absurd o
over_same f g (apply h ts) (variable x) o p q e = absurd p
over_same f g (apply h ts) (apply i us) o p q e = let k : h ≡ i = sym o ∙ q ∙ p in cc

pub same_over : (f g : ℕ) (t u : TermTree) → IsOver f t → IsOver g u → t ≡ u → f ≡ g
same_over f g (variable x) u o p e = absurd o
same_over f g (apply h ts) (variable x) o p e = absurd p
same_over f g (apply h ts) (apply i us) o p e = let k : h ≡ i = cc in o ∙ k ∙ sym p

pub none_some : (f g : ℕ) (t u a : TermTree) (r : TermTrees) → t ≡ apply f no_terms → u ≡ apply g (and_term a r) →
    arguments t ≡ arguments u → ⊥
none_some f g t u a r e h q =
    let k : no_terms ≡ and_term a r = sym (ap arguments e) ∙ q ∙ ap arguments h in
    let n : ⊥ = cc in n

pub one_more : (f g : ℕ) (t u a b r : TermTree) → t ≡ apply f (and_term a no_terms) → u ≡ apply g (and_term b (arguments r)) →
    HasArguments r → arguments t ≡ arguments u → ⊥
one_more f g t u a b r e h some q =
    let k : and_term a no_terms ≡ and_term b (arguments r) = sym (ap arguments e) ∙ q ∙ ap arguments h in
    let n : no_terms ≡ arguments r = cc in some (sym n)

pub parts_same : (f g : ℕ) (t u a b : TermTree) (r s : TermTrees) → t ≡ apply f (and_term a r) → u ≡ apply g (and_term b s) →
    arguments t ≡ arguments u → (a ≡ b) × (r ≡ s)
parts_same f g t u a b r s e h q =
    let k : and_term a r ≡ and_term b s = sym (ap arguments e) ∙ q ∙ ap arguments h in
    let x : a ≡ b = cc in let y : r ≡ s = cc in (x, y)

pub same_parts : (f g : ℕ) (t u a b : TermTree) (r s : TermTrees) → t ≡ apply f (and_term a r) → u ≡ apply g (and_term b s) → a ≡ b →
    r ≡ s → arguments t ≡ arguments u
same_parts f g t u a b r s e h p q = ap arguments e ∙ ap (λ c. and_term c r) p ∙ ap (and_term b) q ∙ sym (ap arguments h)

pub whole_spelled : (rows : List Node) (ops : List Op) (o : Op) (n : ℕ) (parts : List Part) → IsOver o.0 (tree_at rows n) →
    map op_number (ops ++ o ∷ []) ++ words rows (parts ++ ArgumentsPart n ∷ []) ≡ map op_number ops ++
    (preorder (tree_at rows n) ++ words rows parts)
whole_spelled rows ops o n parts h =
    let a : map op_number (ops ++ o ∷ []) ≡ map op_number ops ++ o.0 ∷ [] = map-append op_number ops (o ∷ []) in
    let b = words_push rows parts (ArgumentsPart n) in
    let w = whole_word o.0 (tree_at rows n) h in
    ap (λ us. us ++ words rows (parts ++ ArgumentsPart n ∷ [])) a
    ∙ ap (λ us. (map op_number ops ++ o.0 ∷ []) ++ us) b
    ∙ append_assoc (map op_number ops) (o.0 ∷ []) (preorders (arguments (tree_at rows n)) ++ words rows parts)
    ∙ ap (λ us. map op_number ops ++ (us ++ words rows parts)) (sym w)

pub one_spelled : (rows : List Node) (f n a : ℕ) (parts : List Part) → tree_at rows n ≡ apply f (and_term (tree_at rows a) no_terms) →
    words rows (parts ++ WholePart a ∷ []) ≡ preorders (arguments (tree_at rows n)) ++ words rows parts
one_spelled rows f n a parts e =
    words_push rows parts (WholePart a) ∙ ap (λ us. us ++ words rows parts) (sym (one_part f (tree_at rows n) (tree_at rows a) e))

pub more_spelled : (rows : List Node) (f n a r : ℕ) (parts : List Part) →
    tree_at rows n ≡ apply f (and_term (tree_at rows a) (arguments (tree_at rows r))) →
    words rows ((parts ++ ArgumentsPart r ∷ []) ++ WholePart a ∷ []) ≡ preorders (arguments (tree_at rows n)) ++ words rows parts
more_spelled rows f n a r parts e =
    words_push rows (parts ++ ArgumentsPart r ∷ []) (WholePart a)
    ∙ ap (λ us. preorder (tree_at rows a) ++ us) (words_push rows parts (ArgumentsPart r))
    ∙ sym (append_assoc (preorder (tree_at rows a)) (preorders (arguments (tree_at rows r))) (words rows parts))
    ∙ ap (λ us. us ++ words rows parts) (sym (more_parts f (tree_at rows n) (tree_at rows a) (tree_at rows r) e))
