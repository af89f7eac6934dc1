-- Trees of parts of the grammar, whatever was read for them.
use Rattle.std.proofs.Common.{◌≡◌, ◌∙◌, refl, sym, ap, subst, List, [], ◌∷◌, map, true}
use Rattle.lotos_ast.specs.declared.mark.Mark.{Mark}
use Rattle.lotos_ast.specs.declared.place.Place.{Place}
use Rattle.lotos_ast.specs.declared.token.Token.{Token}
use Rattle.lotos_ast.specs.Grammar.{rule}
use Rattle.lotos_ast.specs.Nesting.{Nesting}
use Rattle.lotos_ast.specs.Notation.{Part, Wanted, Reduction, fits, Syntax, quoted, kept, sequence, either, optional, repeated, placed, reduced, bracketed, enclosed, part}
use Rattle.lotos_ast.specs.ListTrees.{repeated_tree, behind, list_tree}
use Rattle.lotos_ast.specs.Reads.{Tree, unkept, leaf, both, left, right, absent, present, no_more, more, node, reduce, Reads, reads_quoted, reads_kept, reads_sequence, reads_left, reads_right, reads_absent, reads_present, reads_no_more, reads_more, reads_placed, reads_reduced, reads_bracketed, reads_enclosed, reads_part}
use Rattle.lotos_ast.specs.Begins.{mark_at}
use Rattle.lotos_ast.specs.TokenMarks.{mark_of}
use Rattle.spec_core.specs.Lists.{Each}
use Rattle.syntax_laws.specs.Alike.{AreAlike}

-- the tree is one of the part, and each token that it keeps is as it must be
pub data IsTreeWith (Is : Wanted → Token → Type 0) : Syntax → Tree → Type 0 where
  of_quoted : {k : Mark} → IsTreeWith Is (quoted k) unkept
  of_kept : {w : Wanted} (t : Token) → Is w t → IsTreeWith Is (kept w) (leaf t)
  of_sequence : {a b : Syntax} {x y : Tree} → IsTreeWith Is a x → IsTreeWith Is b y → IsTreeWith Is (sequence a b) (both x y)
  of_left : {a b : Syntax} {x : Tree} → IsTreeWith Is a x → IsTreeWith Is (either a b) (left x)
  of_right : {a b : Syntax} {x : Tree} → IsTreeWith Is b x → IsTreeWith Is (either a b) (right x)
  of_absent : {a : Syntax} → IsTreeWith Is (optional a) absent
  of_present : {a : Syntax} {x : Tree} → IsTreeWith Is a x → IsTreeWith Is (optional a) (present x)
  of_no_more : {a : Syntax} → IsTreeWith Is (repeated a) no_more
  of_more : {a : Syntax} {x y : Tree} → IsTreeWith Is a x → IsTreeWith Is (repeated a) y → IsTreeWith Is (repeated a) (more x y)
  of_placed : {p : Place} {a : Syntax} {x : Tree} → IsTreeWith Is a x → IsTreeWith Is (placed a) (node p x)
  of_reduced : {u : Reduction} {a : Syntax} (x : Tree) {y : Tree} → reduce u x ≡ y → IsTreeWith Is a x → IsTreeWith Is (reduced u a) y
  of_bracketed : {a : Syntax} {x : Tree} → IsTreeWith Is a x → IsTreeWith Is (bracketed a) x
  of_enclosed : {a : Syntax} {x : Tree} → IsTreeWith Is a x → IsTreeWith Is (enclosed a) x
  of_part : {p : Place} {q : Part} {x : Tree} → IsTreeWith Is (rule q) x → IsTreeWith Is (part q) (node p x)

-- what is read of tokens of which something holds is such a tree, where this makes kept tokens be as they must; and it holds of what is left
module _ (Is : Wanted → Token → Type 0) (Holds : Token → Type 0) (makes : (w : Wanted) (t : Token) → fits w (mark_of t) ≡ true → Holds t → Is w t) where
  first-holds : (t : Token) (s r : List Token) → s ≡ t ∷ r → Each Holds s → Holds t × Each Holds r
  first-holds t s r e h = subst (Each Holds) e h

  first-mark : (w : Wanted) (t : Token) (s r : List Token) → s ≡ t ∷ r → fits w (mark_at s) ≡ true → fits w (mark_of t) ≡ true
  first-mark w t s r e h = sym (ap (λ zs. fits w (mark_at zs)) e) ∙ h

  pub tree-read-with : {d : Nesting} {g : Syntax} {s r : List Token} {x : Tree} → Reads d g s x r → Each Holds s → IsTreeWith Is g x × Each Holds r
  tree-read-with (reads_quoted {t = t} {s = s} {r = r} e m v) h = (of_quoted, (first-holds t s r e h).1)
  tree-read-with (reads_kept {w = w} {t = t} {s = s} {r = r} e m v) h =
      let n = first-holds t s r e h in
      (of_kept t (makes w t (first-mark w t s r e m) n.0), n.1)
  tree-read-with (reads_sequence m h k) n = let u = tree-read-with h n in let v = tree-read-with k u.1 in (of_sequence u.0 v.0, v.1)
  tree-read-with (reads_left b h) n = let u = tree-read-with h n in (of_left u.0, u.1)
  tree-read-with (reads_right b h) n = let u = tree-read-with h n in (of_right u.0, u.1)
  tree-read-with (reads_absent b e) n = (of_absent, subst (Each Holds) e n)
  tree-read-with (reads_present b h) n = let u = tree-read-with h n in (of_present u.0, u.1)
  tree-read-with (reads_no_more b e) n = (of_no_more, subst (Each Holds) e n)
  tree-read-with (reads_more m b h k) n = let u = tree-read-with h n in let v = tree-read-with k u.1 in (of_more u.0 v.0, v.1)
  tree-read-with (reads_placed e h) n = let u = tree-read-with h n in (of_placed u.0, u.1)
  tree-read-with (reads_reduced {x = x} e h) n = let u = tree-read-with h n in (of_reduced x e u.0, u.1)
  tree-read-with (reads_bracketed h) n = let u = tree-read-with h n in (of_bracketed u.0, u.1)
  tree-read-with (reads_enclosed h) n = let u = tree-read-with h n in (of_enclosed u.0, u.1)
  tree-read-with (reads_part e h) n = let u = tree-read-with h n in (of_part u.0, u.1)

-- a tree of a part, whatever its tokens are
abbrev pub IsTreeOf : Syntax → Tree → Type 0
IsTreeOf = IsTreeWith (λ w t. Unit {0})

pub tree-read : {d : Nesting} {g : Syntax} {s r : List Token} {x : Tree} → Reads d g s x r → IsTreeOf g x
tree-read {s = s} h = (tree-read-with (λ (w : Wanted) (t : Token). Unit {0}) (λ (t : Token). Unit {0}) (λ w t e h. tt) h (any s)).0
  where
    any : (ts : List Token) → Each (λ (t : Token). Unit {0}) ts
    any [] = tt
    any (t ∷ ts) = (tt, any ts)

-- the parts of a tree, by the part of the grammar

abbrev pub OnBoth : Tree → (Tree → Tree → Type 0) → Type 0
OnBoth (both x y) P = P x y
OnBoth _ P = ⊥

abbrev pub OnEither : Tree → (Tree → Type 0) → (Tree → Type 0) → Type 0
OnEither (left x) P Q = P x
OnEither (right x) P Q = Q x
OnEither _ P Q = ⊥

abbrev pub OnPresent : Tree → (Tree → Type 0) → Type 0
OnPresent (present x) P = P x
OnPresent _ P = Unit {0}

abbrev pub OnMore : Tree → (Tree → Tree → Type 0) → Type 0
OnMore (more x y) P = P x y
OnMore _ P = Unit {0}

abbrev pub OnNode : Tree → (Tree → Type 0) → Type 0
OnNode (node p x) P = P x
OnNode _ P = ⊥

abbrev pub OnLeaf : Tree → (Token → Type 0) → Type 0
OnLeaf (leaf t) P = P t
OnLeaf _ P = ⊥

abbrev pub Parts : (Wanted → Token → Type 0) → Syntax → Tree → Type 0
Parts Is (quoted k) t = Unit {0}
Parts Is (kept w) t = OnLeaf t (Is w)
Parts Is (sequence a b) t = OnBoth t (λ x y. IsTreeWith Is a x × IsTreeWith Is b y)
Parts Is (either a b) t = OnEither t (IsTreeWith Is a) (IsTreeWith Is b)
Parts Is (optional a) t = OnPresent t (IsTreeWith Is a)
Parts Is (repeated a) t = OnMore t (λ x y. IsTreeWith Is a x × IsTreeWith Is (repeated a) y)
Parts Is (placed a) t = OnNode t (IsTreeWith Is a)
Parts Is (reduced u a) t = (x : Tree) × (reduce u x ≡ t) × IsTreeWith Is a x
Parts Is (bracketed a) t = IsTreeWith Is a t
Parts Is (enclosed a) t = IsTreeWith Is a t
Parts Is (part q) t = OnNode t (IsTreeWith Is (rule q))

pub parts : {Is : Wanted → Token → Type 0} {g : Syntax} {t : Tree} → IsTreeWith Is g t → Parts Is g t
parts of_quoted = tt
parts (of_kept t h) = h
parts (of_sequence h k) = (h, k)
parts (of_left h) = h
parts (of_right h) = h
parts of_absent = tt
parts (of_present h) = h
parts of_no_more = tt
parts (of_more h k) = (h, k)
parts (of_placed h) = h
parts (of_reduced x e h) = (x, e, h)
parts (of_bracketed h) = h
parts (of_enclosed h) = h
parts (of_part h) = h

-- lists whose trees are equal

module _ {A : Type 0} (R : A → A → Type 0) (f : A → Tree) where
  pub repeated-alike : (g : Syntax) → ((x y : A) → IsTreeOf g (f x) → f x ≡ f y → R x y) → (xs ys : List A) → IsTreeOf (repeated g) (repeated_tree (map f xs)) →
      repeated_tree (map f xs) ≡ repeated_tree (map f ys) → AreAlike R xs ys
  repeated-alike g each [] [] h e = tt
  repeated-alike g each [] (y ∷ ys) h e = absurd (cc)
  repeated-alike g each (x ∷ xs) [] h e = absurd (cc)
  repeated-alike g each (x ∷ xs) (y ∷ ys) h e =
      let p : IsTreeOf g (f x) × IsTreeOf (repeated g) (repeated_tree (map f xs)) = parts h in
      let a : f x ≡ f y = cc in
      let b : repeated_tree (map f xs) ≡ repeated_tree (map f ys) = cc in
      (each x y p.0 a, repeated-alike g each xs ys p.1 b)

  pub all-alike : ((x y : A) → f x ≡ f y → R x y) → (xs ys : List A) → repeated_tree (map f xs) ≡ repeated_tree (map f ys) → AreAlike R xs ys
  all-alike each [] [] e = tt
  all-alike each [] (y ∷ ys) e = absurd (cc)
  all-alike each (x ∷ xs) [] e = absurd (cc)
  all-alike each (x ∷ xs) (y ∷ ys) e =
      let a : f x ≡ f y = cc in
      let b : repeated_tree (map f xs) ≡ repeated_tree (map f ys) = cc in
      (each x y a, all-alike each xs ys b)

  behind-alike : ((x y : A) → f x ≡ f y → R x y) → (xs ys : List A) → repeated_tree (map behind (map f xs)) ≡ repeated_tree (map behind (map f ys)) → AreAlike R xs ys
  behind-alike each [] [] e = tt
  behind-alike each [] (y ∷ ys) e = absurd (cc)
  behind-alike each (x ∷ xs) [] e = absurd (cc)
  behind-alike each (x ∷ xs) (y ∷ ys) e =
      let a : f x ≡ f y = cc in
      let b : repeated_tree (map behind (map f xs)) ≡ repeated_tree (map behind (map f ys)) = cc in
      (each x y a, behind-alike each xs ys b)

  pub listed-alike : ((x y : A) → f x ≡ f y → R x y) → (xs ys : List A) → list_tree (map f xs) ≡ list_tree (map f ys) → AreAlike R xs ys
  listed-alike each [] [] e = tt
  listed-alike each [] (y ∷ ys) e = absurd (cc)
  listed-alike each (x ∷ xs) [] e = absurd (cc)
  listed-alike each (x ∷ xs) (y ∷ ys) e =
      let a : f x ≡ f y = cc in
      let b : repeated_tree (map behind (map f xs)) ≡ repeated_tree (map behind (map f ys)) = cc in
      (each x y a, behind-alike each xs ys b)

  pub behind-list-alike : ((x y : A) → f x ≡ f y → R x y) → (xs ys : List A) → repeated_tree (map behind (map f xs)) ≡ repeated_tree (map behind (map f ys)) → AreAlike R xs ys
  behind-list-alike = behind-alike

-- elements that are equal one by one
pub same-list : {A : Type 0} (xs ys : List A) → AreAlike (λ x y. x ≡ y) xs ys → xs ≡ ys
same-list [] [] h = refl
same-list [] (y ∷ ys) h = absurd h
same-list (x ∷ xs) [] h = absurd h
same-list (x ∷ xs) (y ∷ ys) h = let a = h.0 in let b = same-list xs ys h.1 in cc

leaf-one : (t u : Token) → leaf t ≡ leaf u → t ≡ u
leaf-one t u e = cc

pub tokens-one : (xs ys : List Token) → list_tree (map leaf xs) ≡ list_tree (map leaf ys) → xs ≡ ys
tokens-one xs ys e = same-list xs ys (listed-alike (λ x y. x ≡ y) leaf leaf-one xs ys e)

pub further-tokens-one : (xs ys : List Token) → repeated_tree (map behind (map leaf xs)) ≡ repeated_tree (map behind (map leaf ys)) → xs ≡ ys
further-tokens-one xs ys e = same-list xs ys (behind-list-alike (λ x y. x ≡ y) leaf leaf-one xs ys e)
