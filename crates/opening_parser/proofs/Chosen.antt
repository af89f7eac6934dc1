-- The alternatives of a behaviour without an operator, by the mark of its first token.
use Rattle.std.proofs.Common.{List, Bool, true, false, ◌≡◌, refl, subst}
use Rattle.lotos_ast.specs.declared.mark.Mark.{Mark}
use Rattle.lotos_ast.specs.declared.token.Token.{Token}
use Rattle.lotos_ast.specs.MarkNumbers.{is_same_mark}
use Rattle.lotos_ast.specs.Notation.{Part, Syntax, quoted, part, placed, ◌▸◌, ◌∣◌, bracketed, in_parentheses, unary, atom, behaviour}
use Rattle.lotos_ast.specs.Grammar.{rule, predicate, prefixed}
use Rattle.lotos_ast.specs.Begins.{mark_at, place_at, is_among, starts}
use Rattle.lotos_ast.specs.Nesting.{Nesting, in_bracket}
use Rattle.lotos_ast.specs.Reads.{Tree, left, right, node, reads_part, reads_placed}
use Rattle.lotos_ast.specs.BehaviourTrees.{atomic_tree}
use Rattle.lotos_ast.proofs.Tables.{same_equal}
use Rattle.syntax_cursor.specs.declared.parse_fault.ParseFault.{ParseFault}
use Rattle.syntax_cursor.specs.Parsers.{Halts}
use Rattle.syntax_cursor.proofs.Rows.{halts_part, halts_placed}
use Rattle.opening_parser.specs.Leads.{Leads}
use Rattle.opening_parser.specs.Openings.{named_part, hide_part, let_part, choice_part, par_part, last_part, before_last}
use Rattle.opening_parser.proofs.Leads.{leads_none, leads_left, leads_right, leads_bracketed}

-- what a part begins with, where the next token has this mark
at : (g : Syntax) (k : Mark) (b : Bool) (s : List Token) → is_same_mark k (mark_at s) ≡ true → starts g k ≡ b → starts g (mark_at s) ≡ b
at g k b s h e = subst (λ z. starts g z ≡ b) (same_equal k (mark_at s) h) e

leads_part : (d : Nesting) (p : Part) (s : List Token) (f : Tree → Tree) (n : Nesting) (z : Syntax) (m : List Token) →
    Leads d (rule p) s f n z m →
    Leads d (part p) s (λ x. node (place_at s) (f x)) n z m
leads_part d p s f n z m h = record {
  reads = λ x r k. reads_part refl (h.reads x r k);
  halts = λ e r k. halts_part e d p s r (h.halts e r k);
}

pub leads_placed : (d : Nesting) (a : Syntax) (s : List Token) (f : Tree → Tree) (n : Nesting) (z : Syntax) (m : List Token) →
    Leads d a s f n z m →
    Leads d (placed a) s (λ x. node (place_at s) (f x)) n z m
leads_placed d a s f n z m h = record {
  reads = λ x r k. reads_placed refl (h.reads x r k);
  halts = λ e r k. halts_placed e d a s r (h.halts e r k);
}

-- `[`
pub guard_chosen : (d : Nesting) (s : List Token) →
    is_same_mark Mark.LeftBracket (mark_at s) ≡ true →
    Leads d (part unary) s (λ x. node (place_at s) (left x)) d (predicate ▸ quoted Mark.Arrow ▸ prefixed) s
guard_chosen d s h = leads_part d unary s _ d _ s (leads_left d _ _ s _ d _ s h (leads_none d _ s))

-- `i`
pub internal_chosen : (d : Nesting) (s : List Token) →
    is_same_mark Mark.I (mark_at s) ≡ true →
    Leads d (part unary) s (λ x. node (place_at s) (right (left x))) d (placed (quoted Mark.I) ▸ quoted Mark.Semicolon ▸ prefixed) s
internal_chosen d s h =
    leads_part d unary s _ d _ s
    (leads_right d (predicate ▸ quoted Mark.Arrow ▸ prefixed) _ s _ d _ s
    (at (predicate ▸ quoted Mark.Arrow ▸ prefixed) Mark.I false s h refl)
    (leads_left d _ _ s _ d _ s h (leads_none d _ s)))

-- an identifier
pub named_chosen : (d : Nesting) (s : List Token) →
    is_same_mark Mark.Identifier (mark_at s) ≡ true →
    Leads d (part unary) s (λ x. node (place_at s) (right (right (left (node (place_at s) x))))) d named_part s
named_chosen d s h =
    leads_part d unary s _ d _ s
    (leads_right d (predicate ▸ quoted Mark.Arrow ▸ prefixed) _ s _ d _ s
    (at (predicate ▸ quoted Mark.Arrow ▸ prefixed) Mark.Identifier false s h refl)
    (leads_right d (placed (quoted Mark.I) ▸ quoted Mark.Semicolon ▸ prefixed) _ s _ d _ s
    (at (placed (quoted Mark.I) ▸ quoted Mark.Semicolon ▸ prefixed) Mark.Identifier false s h refl)
    (leads_left d _ _ s _ d _ s h (leads_placed d _ s _ d _ s (leads_none d _ s)))))

-- any other token: an atom
pub atom_chosen : (d : Nesting) (s : List Token) (f : Tree → Tree) (n : Nesting) (z : Syntax) →
    is_same_mark Mark.LeftBracket (mark_at s) ≡ false → is_same_mark Mark.I (mark_at s) ≡ false →
    is_same_mark Mark.Identifier (mark_at s) ≡ false → Leads d (rule atom) s f n z s →
    Leads d (part unary) s (λ x. atomic_tree (place_at s) (f x)) n z s
atom_chosen d s f n z i j k h =
    leads_part d unary s _ n z s
    (leads_right d _ _ s _ n z s i (leads_right d _ _ s _ n z s j (leads_right d _ _ s _ n z s k (leads_part d atom s f n z s h))))

atom_at : (d : Nesting) (s : List Token) (k : Mark) (f : Tree → Tree) (n : Nesting) (z : Syntax) →
    is_same_mark k (mark_at s) ≡ true → is_same_mark Mark.LeftBracket k ≡ false → is_same_mark Mark.I k ≡ false →
    is_same_mark Mark.Identifier k ≡ false → Leads d (rule atom) s f n z s →
    Leads d (part unary) s (λ x. atomic_tree (place_at s) (f x)) n z s
atom_at d s k f n z h a b c g =
    atom_chosen d s f n z (at (quoted Mark.LeftBracket) k false s h a) (at (quoted Mark.I) k false s h b)
    (at (quoted Mark.Identifier) k false s h c) g

-- `(`
pub parenthesis_chosen : (d : Nesting) (s : List Token) →
    is_same_mark Mark.LeftParenthesis (mark_at s) ≡ true →
    Leads d (part unary) s (λ x. atomic_tree (place_at s) (left x)) (in_bracket d)
    (quoted Mark.LeftParenthesis ▸ part behaviour ▸ quoted Mark.RightParenthesis) s
parenthesis_chosen d s h =
    atom_at d s Mark.LeftParenthesis _ (in_bracket d) _ h refl refl refl
    (leads_left d _ _ s _ (in_bracket d) _ s h (leads_bracketed d _ s _ (in_bracket d) _ s (leads_none (in_bracket d) _ s)))

-- an alternative behind the one with parentheses, behind that with `hide`, and so on
not_parenthesis : (d : Nesting) (s : List Token) (k : Mark) (b : Syntax) (f : Tree → Tree) (n : Nesting) (z : Syntax) →
    is_same_mark k (mark_at s) ≡ true → is_same_mark Mark.LeftParenthesis k ≡ false → Leads d b s f n z s →
    Leads d (in_parentheses (part behaviour) ∣ b) s (λ x. right (f x)) n z s
not_parenthesis d s k b f n z h e g =
    leads_right d (in_parentheses (part behaviour)) b s f n z s (at (in_parentheses (part behaviour)) k false s h e) g

not_headed : (d : Nesting) (s : List Token) (k j : Mark) (a b : Syntax) (f : Tree → Tree) (n : Nesting) (z : Syntax) →
    is_same_mark k (mark_at s) ≡ true → is_same_mark j k ≡ false → Leads d b s f n z s →
    Leads d (bracketed (quoted j ▸ a) ∣ b) s (λ x. right (f x)) n z s
not_headed d s k j a b f n z h e g = leads_right d (bracketed (quoted j ▸ a)) b s f n z s (at (quoted j) k false s h e) g

headed : (d : Nesting) (s : List Token) (k : Mark) (a b : Syntax) →
    is_same_mark k (mark_at s) ≡ true →
    Leads d (bracketed (quoted k ▸ a) ∣ b) s (λ x. left x) (in_bracket d) (quoted k ▸ a) s
headed d s k a b h = leads_left d _ b s _ (in_bracket d) _ s h (leads_bracketed d _ s _ (in_bracket d) _ s (leads_none (in_bracket d) _ s))

pub hide_chosen : (d : Nesting) (s : List Token) →
    is_same_mark Mark.Hide (mark_at s) ≡ true →
    Leads d (part unary) s (λ x. atomic_tree (place_at s) (right (left x))) (in_bracket d) hide_part s
hide_chosen d s h =
    atom_at d s Mark.Hide _ (in_bracket d) _ h refl refl refl (not_parenthesis d s Mark.Hide _ _ _ _ h refl (headed d s Mark.Hide _ _ h))

pub let_chosen : (d : Nesting) (s : List Token) →
    is_same_mark Mark.Let (mark_at s) ≡ true →
    Leads d (part unary) s (λ x. atomic_tree (place_at s) (right (right (left x)))) (in_bracket d) let_part s
let_chosen d s h =
    atom_at d s Mark.Let _ (in_bracket d) _ h refl refl refl (not_parenthesis d s Mark.Let _ _ _ _ h refl
    (not_headed d s Mark.Let Mark.Hide _ _ _ _ _ h refl (headed d s Mark.Let _ _ h)))

pub choice_chosen : (d : Nesting) (s : List Token) →
    is_same_mark Mark.Choice (mark_at s) ≡ true →
    Leads d (part unary) s (λ x. atomic_tree (place_at s) (right (right (right (left x))))) (in_bracket d) choice_part s
choice_chosen d s h =
    atom_at d s Mark.Choice _ (in_bracket d) _ h refl refl refl (not_parenthesis d s Mark.Choice _ _ _ _ h refl
    (not_headed d s Mark.Choice Mark.Hide _ _ _ _ _ h refl
    (not_headed d s Mark.Choice Mark.Let _ _ _ _ _ h refl (headed d s Mark.Choice _ _ h))))

pub par_chosen : (d : Nesting) (s : List Token) →
    is_same_mark Mark.Par (mark_at s) ≡ true →
    Leads d (part unary) s (λ x. atomic_tree (place_at s) (right (right (right (right (left x)))))) (in_bracket d) par_part s
par_chosen d s h =
    atom_at d s Mark.Par _ (in_bracket d) _ h refl refl refl (not_parenthesis d s Mark.Par _ _ _ _ h refl
    (not_headed d s Mark.Par Mark.Hide _ _ _ _ _ h refl (not_headed d s Mark.Par Mark.Let _ _ _ _ _ h refl
    (not_headed d s Mark.Par Mark.Choice _ _ _ _ _ h refl (headed d s Mark.Par _ _ h)))))

halts_chosen : (e : ParseFault) (d : Nesting) (g : Syntax) (s : List Token) (f : Tree → Tree) (n : Nesting) (z : Syntax) (r : List Token) →
    Leads d g s f n z s → Halts e n z s r →
    Halts e d g s r
halts_chosen e d g s f n z r h k = h.halts e r k

-- the last two alternatives
apart : (k : Mark) (ks : List Mark) (m : Mark) (b : Bool) → is_same_mark k m ≡ b → is_among ks m ≡ false → is_among ks k ≡ true → b ≡ false
apart k ks m false e h i = refl
apart k ks m true e h i = let g : is_among ks m ≡ true = subst (λ z. is_among ks z ≡ true) (same_equal k m e) i in cc

isnt : (k : Mark) (s : List Token) →
    is_among before_last (mark_at s) ≡ false → is_among before_last k ≡ true →
    is_same_mark k (mark_at s) ≡ false
isnt k s h i = apart k before_last (mark_at s) (is_same_mark k (mark_at s)) refl h i

pub last_chosen : (d : Nesting) (s : List Token) →
    is_among before_last (mark_at s) ≡ false →
    Leads d (part unary) s (λ x. atomic_tree (place_at s) (right (right (right (right (right x)))))) d last_part s
last_chosen d s h =
    atom_chosen d s _ d _ (isnt Mark.LeftBracket s h refl) (isnt Mark.I s h refl) (isnt Mark.Identifier s h refl)
    (leads_right d _ _ s _ d _ s (isnt Mark.LeftParenthesis s h refl)
    (leads_right d _ _ s _ d _ s (isnt Mark.Hide s h refl)
    (leads_right d _ _ s _ d _ s (isnt Mark.Let s h refl)
    (leads_right d _ _ s _ d _ s (isnt Mark.Choice s h refl)
    (leads_right d _ _ s _ d _ s (isnt Mark.Par s h refl) (leads_none d last_part s))))))

-- where the alternative stops, the behaviour does

pub guard_halts : (e : ParseFault) (d : Nesting) (s r : List Token) →
    is_same_mark Mark.LeftBracket (mark_at s) ≡ true → Halts e d (predicate ▸ quoted Mark.Arrow ▸ prefixed) s r →
    Halts e d (part unary) s r
guard_halts e d s r h k = halts_chosen e d _ s _ _ _ r (guard_chosen d s h) k

pub internal_halts : (e : ParseFault) (d : Nesting) (s r : List Token) →
    is_same_mark Mark.I (mark_at s) ≡ true → Halts e d (placed (quoted Mark.I) ▸ quoted Mark.Semicolon ▸ prefixed) s r →
    Halts e d (part unary) s r
internal_halts e d s r h k = halts_chosen e d _ s _ _ _ r (internal_chosen d s h) k

pub named_halts : (e : ParseFault) (d : Nesting) (s r : List Token) →
    is_same_mark Mark.Identifier (mark_at s) ≡ true → Halts e d named_part s r →
    Halts e d (part unary) s r
named_halts e d s r h k = halts_chosen e d _ s _ _ _ r (named_chosen d s h) k

pub parenthesis_halts : (e : ParseFault) (d : Nesting) (s r : List Token) →
    is_same_mark Mark.LeftParenthesis (mark_at s) ≡ true →
    Halts e (in_bracket d) (quoted Mark.LeftParenthesis ▸ part behaviour ▸ quoted Mark.RightParenthesis) s r →
    Halts e d (part unary) s r
parenthesis_halts e d s r h k = halts_chosen e d _ s _ _ _ r (parenthesis_chosen d s h) k

pub hide_halts : (e : ParseFault) (d : Nesting) (s r : List Token) →
    is_same_mark Mark.Hide (mark_at s) ≡ true → Halts e (in_bracket d) hide_part s r →
    Halts e d (part unary) s r
hide_halts e d s r h k = halts_chosen e d _ s _ _ _ r (hide_chosen d s h) k

pub let_halts : (e : ParseFault) (d : Nesting) (s r : List Token) →
    is_same_mark Mark.Let (mark_at s) ≡ true → Halts e (in_bracket d) let_part s r →
    Halts e d (part unary) s r
let_halts e d s r h k = halts_chosen e d _ s _ _ _ r (let_chosen d s h) k

pub choice_halts : (e : ParseFault) (d : Nesting) (s r : List Token) →
    is_same_mark Mark.Choice (mark_at s) ≡ true → Halts e (in_bracket d) choice_part s r →
    Halts e d (part unary) s r
choice_halts e d s r h k = halts_chosen e d _ s _ _ _ r (choice_chosen d s h) k

pub par_halts : (e : ParseFault) (d : Nesting) (s r : List Token) →
    is_same_mark Mark.Par (mark_at s) ≡ true → Halts e (in_bracket d) par_part s r →
    Halts e d (part unary) s r
par_halts e d s r h k = halts_chosen e d _ s _ _ _ r (par_chosen d s h) k

pub last_halts : (e : ParseFault) (d : Nesting) (s r : List Token) →
    is_among before_last (mark_at s) ≡ false → Halts e d last_part s r →
    Halts e d (part unary) s r
last_halts e d s r h k = halts_chosen e d _ s _ _ _ r (last_chosen d s h) k
