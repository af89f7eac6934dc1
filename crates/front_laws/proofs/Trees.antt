-- Trees of the grammar whose tokens are named.
use Rattle.std.proofs.Common.{ℕ, ◌≡◌, refl, List, [], ◌∷◌, map, Bool, true, false, ◌||◌, Some, inl, inr, cond}
use Rattle.std.specs.Prelude.{unwrap_or}
use Rattle.std.specs.List.{list_any}
use Rattle.std.proofs.lemmas.Bool.{or_cases, both_ways}
use Rattle.lotos_ast.specs.declared.mark.Mark.{Mark}
use Rattle.lotos_ast.specs.declared.mark.Mark.TheVariants.{Identifier, Numeral, Operation, Unknown}
use Rattle.lotos_ast.specs.declared.token.Token.{Token}
use Rattle.lotos_ast.specs.declared.token.TokenKind.{TokenKind}
use Rattle.lotos_ast.specs.MarkNumbers.{is_same_mark}
use Rattle.lotos_ast.specs.Marks.{is_same_word, find_mark, reserved_words, symbol_spellings}
use Rattle.lotos_ast.specs.Nesting.{Nesting}
use Rattle.lotos_ast.specs.Notation.{Wanted, marked, named, fits, Syntax, sequence, repeated, identifier, name}
use Rattle.lotos_ast.specs.ListTrees.{repeated_tree, behind, list_tree}
use Rattle.lotos_ast.specs.Reads.{Tree, unkept, leaf, Reads}
use Rattle.lotos_ast.specs.TokenMarks.{class_mark, mark_of}
use Rattle.spec_core.specs.Lists.{Each}
use Rattle.spec_core.specs.Names.{IsIdentifier, IsPlainName}
use Rattle.syntax_laws.proofs.Trees.{IsTreeWith, parts, tree-read-with}
use Rattle.syntax_laws.specs.Tokens.{IsNameOf, IsTokenNamed}

-- a token that the grammar keeps is of the kind that it wants, and named
abbrev pub IsKept : Wanted → Token → Type 0
IsKept w t = (fits w (mark_of t) ≡ true) × IsTokenNamed t

-- the tree is one of the part, and its tokens are named
abbrev pub IsTreeOf : Syntax → Tree → Type 0
IsTreeOf = IsTreeWith IsKept

-- what is read of tokens that are named is such a tree, and what is left is named
pub tree-read : {d : Nesting} {g : Syntax} {s r : List Token} {x : Tree} → Reads d g s x r → Each IsTokenNamed s → IsTreeOf g x × Each IsTokenNamed r
tree-read = tree-read-with IsKept IsTokenNamed (λ w t e h. (e, h))

-- tokens by their marks

not-in-table : (k : Mark) (word : List ℕ) (table : List (List ℕ × Mark)) → list_any (λ (e : List ℕ × Mark). is_same_mark k e.1) table ≡ false → is_same_mark k Unknown ≡ false →
    is_same_mark k (unwrap_or (find_mark word table) Unknown) ≡ false
not-in-table k word [] h u = u
not-in-table k word (e ∷ es) h u = by-test (is_same_word word e.0) (is_same_mark k e.1) refl h (λ g. not-in-table k word es g u)
  where
    by-test : (b c : Bool) → is_same_mark k e.1 ≡ c → (c || list_any (λ (e : List ℕ × Mark). is_same_mark k e.1) es) ≡ false →
        (list_any (λ (e : List ℕ × Mark). is_same_mark k e.1) es ≡ false → is_same_mark k (unwrap_or (find_mark word es) Unknown) ≡ false) → is_same_mark k (unwrap_or (cond b (Some e.1) (find_mark word es)) Unknown) ≡ false
    by-test b true q g next = absurd (cc)
    by-test true false q g next = q
    by-test false false q g next = next g

no-keyword : (k : Mark) (text : List ℕ) → list_any (λ (e : List ℕ × Mark). is_same_mark k e.1) reserved_words ≡ false → is_same_mark k Unknown ≡ false → is_same_mark k (class_mark TokenKind.Keyword text) ≡ true → ⊥
no-keyword k text h u e = both_ways (is_same_mark k (class_mark TokenKind.Keyword text)) (not-in-table k text reserved_words h u) e

no-symbol : (k : Mark) (text : List ℕ) → list_any (λ (e : List ℕ × Mark). is_same_mark k e.1) symbol_spellings ≡ false → is_same_mark k Unknown ≡ false → is_same_mark k (class_mark TokenKind.Symbol text) ≡ true → ⊥
no-symbol k text h u e = both_ways (is_same_mark k (class_mark TokenKind.Symbol text)) (not-in-table k text symbol_spellings h u) e

identifier-named : (k : TokenKind) (text : List ℕ) → is_same_mark Identifier (class_mark k text) ≡ true → IsNameOf k text → IsIdentifier text
identifier-named TokenKind.Keyword text e h = absurd (no-keyword Identifier text refl refl e)
identifier-named TokenKind.Identifier text e h = h
identifier-named TokenKind.Numeral text e h = absurd (cc)
identifier-named TokenKind.Operation text e h = absurd (cc)
identifier-named TokenKind.Symbol text e h = absurd (no-symbol Identifier text refl refl e)
identifier-named TokenKind.ConstructorMark text e h = absurd (cc)
identifier-named TokenKind.ExternalMark text e h = absurd (cc)

any-keyword : (text : List ℕ) → fits named (class_mark TokenKind.Keyword text) ≡ true → ⊥
any-keyword text e = elim (or_cases (is_same_mark Identifier m) (is_same_mark Numeral m || is_same_mark Operation m) e) [
  | inl h ↦ no-keyword Identifier text refl refl h
  | inr h ↦ elim (or_cases (is_same_mark Numeral m) (is_same_mark Operation m) h) [
    | inl i ↦ no-keyword Numeral text refl refl i
    | inr i ↦ no-keyword Operation text refl refl i
  ]
]
  where
    m : Mark
    m = class_mark TokenKind.Keyword text

any-symbol : (text : List ℕ) → fits named (class_mark TokenKind.Symbol text) ≡ true → ⊥
any-symbol text e = elim (or_cases (is_same_mark Identifier m) (is_same_mark Numeral m || is_same_mark Operation m) e) [
  | inl h ↦ no-symbol Identifier text refl refl h
  | inr h ↦ elim (or_cases (is_same_mark Numeral m) (is_same_mark Operation m) h) [
    | inl i ↦ no-symbol Numeral text refl refl i
    | inr i ↦ no-symbol Operation text refl refl i
  ]
]
  where
    m : Mark
    m = class_mark TokenKind.Symbol text

name-named : (k : TokenKind) (text : List ℕ) → fits named (class_mark k text) ≡ true → IsNameOf k text → IsPlainName text
name-named TokenKind.Keyword text e h = absurd (any-keyword text e)
name-named TokenKind.Identifier text e h = inl h.word
name-named TokenKind.Numeral text e h = inl h
name-named TokenKind.Operation text e h = inr h
name-named TokenKind.Symbol text e h = absurd (any-symbol text e)
name-named TokenKind.ConstructorMark text e h = absurd (cc)
name-named TokenKind.ExternalMark text e h = absurd (cc)

pub identifier-at : (t : Token) → IsTreeOf identifier (leaf t) → IsIdentifier t.text
identifier-at t h = let p : (fits (marked Identifier) (mark_of t) ≡ true) × IsTokenNamed t = parts h in identifier-named t.kind t.text p.0 p.1

pub name-at : (t : Token) → IsTreeOf name (leaf t) → IsPlainName t.text
name-at t h = let p : (fits named (mark_of t) ≡ true) × IsTokenNamed t = parts h in name-named t.kind t.text p.0 p.1

-- lists

pub repeated-each : {A : Type 0} (P : A → Type 0) (g : Syntax) (f : A → Tree) → ((x : A) → IsTreeOf g (f x) → P x) → (xs : List A) → IsTreeOf (repeated g) (repeated_tree (map f xs)) → Each P xs
repeated-each P g f each [] h = tt
repeated-each P g f each (x ∷ xs) h = let p : IsTreeOf g (f x) × IsTreeOf (repeated g) (repeated_tree (map f xs)) = parts h in (each x p.0, repeated-each P g f each xs p.1)

behind-each : {A : Type 0} (P : A → Type 0) (q g : Syntax) (f : A → Tree) → ((x : A) → IsTreeOf g (f x) → P x) → (xs : List A) → IsTreeOf (repeated (sequence q g)) (repeated_tree (map behind (map f xs))) → Each P xs
behind-each P q g f each [] h = tt
behind-each P q g f each (x ∷ xs) h =
    let p : IsTreeOf (sequence q g) (behind (f x)) × IsTreeOf (repeated (sequence q g)) (repeated_tree (map behind (map f xs))) = parts h in
    let o : IsTreeOf q unkept × IsTreeOf g (f x) = parts p.0 in
    (each x o.1, behind-each P q g f each xs p.1)

pub listed-each : {A : Type 0} (P : A → Type 0) (q g : Syntax) (f : A → Tree) → ((x : A) → IsTreeOf g (f x) → P x) → (xs : List A) → IsTreeOf (sequence g (repeated (sequence q g))) (list_tree (map f xs)) → Each P xs
listed-each P q g f each [] h = tt
listed-each P q g f each (x ∷ xs) h =
    let p : IsTreeOf g (f x) × IsTreeOf (repeated (sequence q g)) (repeated_tree (map behind (map f xs))) = parts h in
    (each x p.0, behind-each P q g f each xs p.1)
