-- How the parts of a term are read.
use Rattle.std.proofs.Common.{◌≡◌, inl, inr, refl, ap, List, ◌∷◌, true, false}
use Rattle.lotos_ast.specs.declared.mark.Mark.{Mark}
use Rattle.lotos_ast.specs.declared.token.Token.{Token}
use Rattle.lotos_ast.specs.Begins.{mark_at, place_at}
use Rattle.lotos_ast.specs.MarkNumbers.{is_same_mark}
use Rattle.lotos_ast.specs.Nesting.{Nesting, in_bracket, in_construct, is_within}
use Rattle.lotos_ast.specs.Notation.{marked, named, fits, Syntax, quoted, sequence, repeated, part, list, identifier, expression, simple, head}
use Rattle.lotos_ast.specs.Reads.{Tree, unkept, leaf, both, left, right, absent, present, no_more, more, node}
use Rattle.lotos_ast.specs.Reads.{Reads, reads_quoted, reads_kept, reads_sequence, reads_left, reads_right, reads_absent, reads_present, reads_no_more, reads_more, reads_bracketed, reads_enclosed, reads_part}
use Rattle.lotos_ast.specs.TokenMarks.{mark_of}
use Rattle.script_laws.proofs.Fronts.{IsNameMark}

-- no bracket opens
abbrev pub IsNoOpening : Mark → Type 0
IsNoOpening m = is_same_mark Mark.LeftParenthesis m ≡ false

-- no sort follows
abbrev pub IsNoOf : Mark → Type 0
IsNoOf m = is_same_mark Mark.Of m ≡ false

-- no name follows
abbrev pub IsNoName : Mark → Type 0
IsNoName m = fits named m ≡ false

pub name_fits : (m : Mark) → IsNameMark m → fits named m ≡ true
name_fits m (inl e) = ap (fits named) e
name_fits m (inr (inl e)) = ap (fits named) e
name_fits m (inr (inr e)) = ap (fits named) e

pub name_no_opening : (m : Mark) → IsNameMark m → IsNoOpening m
name_no_opening m (inl e) = ap (is_same_mark Mark.LeftParenthesis) e
name_no_opening m (inr (inl e)) = ap (is_same_mark Mark.LeftParenthesis) e
name_no_opening m (inr (inr e)) = ap (is_same_mark Mark.LeftParenthesis) e

pub name_no_of : (m : Mark) → IsNameMark m → IsNoOf m
name_no_of m (inl e) = ap (is_same_mark Mark.Of) e
name_no_of m (inr (inl e)) = ap (is_same_mark Mark.Of) e
name_no_of m (inr (inr e)) = ap (is_same_mark Mark.Of) e

abbrev pub sorts_part : Syntax
sorts_part = repeated (sequence (quoted Mark.Of) identifier)

abbrev pub further_part : Syntax
further_part = repeated (sequence (quoted Mark.Comma) (part expression))

-- a name alone
pub constant_head : (d : Nesting) (n : Token) (ts : List Token) → is_within d ≡ true → IsNameMark (mark_of n) → IsNoOpening (mark_at ts) →
    Reads d (part head) (n ∷ ts) (node n.place (right (both (leaf n) absent))) ts
constant_head d n ts within name stop =
    reads_part refl (reads_right (name_no_opening (mark_of n) name)
    (reads_sequence ts (reads_kept refl (name_fits (mark_of n) name) within) (reads_absent stop refl)))

-- a name with arguments
pub call_head : (d : Nesting) (n opening closing : Token) (s ts : List Token) (x : Tree) → is_within d ≡ true → is_within (in_bracket d) ≡ true →
    IsNameMark (mark_of n) → mark_of opening ≡ Mark.LeftParenthesis → mark_of closing ≡ Mark.RightParenthesis →
    Reads (in_bracket d) (list (part expression)) s x (closing ∷ ts) →
    Reads d (part head) (n ∷ opening ∷ s) (node n.place (right (both (leaf n) (present (both unkept (both x unkept)))))) ts
call_head d n opening closing s ts x within inside name opens closes h =
    reads_part refl (reads_right (name_no_opening (mark_of n) name)
    (reads_sequence (opening ∷ s) (reads_kept refl (name_fits (mark_of n) name) within)
    (reads_present (ap (is_same_mark Mark.LeftParenthesis) opens)
    (reads_bracketed (reads_sequence s (reads_quoted refl opens inside) (reads_sequence (closing ∷ ts) h (reads_quoted refl closes inside)))))))

-- an expression in brackets
pub group_head : (d : Nesting) (opening closing : Token) (s ts : List Token) (x : Tree) → is_within (in_bracket d) ≡ true →
    mark_of opening ≡ Mark.LeftParenthesis → mark_of closing ≡ Mark.RightParenthesis → Reads (in_bracket d) (part expression) s x (closing ∷ ts) →
    Reads d (part head) (opening ∷ s) (node opening.place (left (both unkept (both x unkept)))) ts
group_head d opening closing s ts x inside opens closes h =
    reads_part refl (reads_left (ap (is_same_mark Mark.LeftParenthesis) opens)
    (reads_bracketed (reads_sequence s (reads_quoted refl opens inside) (reads_sequence (closing ∷ ts) h (reads_quoted refl closes inside)))))

-- with the sort behind it, or without
pub unsaid : (d : Nesting) (ts : List Token) → IsNoOf (mark_at ts) → Reads d sorts_part ts no_more ts
unsaid d ts stop = reads_no_more stop refl

pub said_sort : (d : Nesting) (o n : Token) (ts : List Token) → is_within d ≡ true → mark_of o ≡ Mark.Of → mark_of n ≡ Mark.Identifier →
    IsNoOf (mark_at ts) → Reads d sorts_part (o ∷ n ∷ ts) (more (both unkept (leaf n)) no_more) ts
said_sort d o n ts within of_mark name stop =
    reads_more ts (ap (is_same_mark Mark.Of) of_mark)
    (reads_sequence (n ∷ ts) (reads_quoted refl of_mark within) (reads_kept refl (ap (fits (marked Mark.Identifier)) name) within))
    (reads_no_more stop refl)

pub operand : (d : Nesting) (s m ts : List Token) (x y : Tree) → Reads d (part head) s x m → Reads d sorts_part m y ts →
    Reads d (part simple) s (node (place_at s) (both x y)) ts
operand d s m ts x y h k = reads_part refl (reads_sequence m h k)

-- an operand alone
pub lone_operand : (d : Nesting) (s ts : List Token) (x : Tree) → Reads d (part simple) s x ts → IsNoName (mark_at ts) →
    Reads d (part expression) s (node (place_at s) (both x absent)) ts
lone_operand d s ts x h stop = reads_part refl (reads_sequence ts h (reads_absent stop refl))

-- two operands with a name between them
pub two_operands : (d : Nesting) (s m ts : List Token) (n : Token) (x y : Tree) → is_within d ≡ true → IsNameMark (mark_of n) →
    Reads d (part simple) s x (n ∷ m) → Reads (in_construct d) (part simple) m y ts → IsNoName (mark_at ts) →
    Reads d (part expression) s (node (place_at s) (both x (present (node n.place (both (leaf n) (both y absent)))))) ts
two_operands d s m ts n x y within name h k stop =
    reads_part refl (reads_sequence (n ∷ m) h
    (reads_present (name_fits (mark_of n) name)
    (reads_part refl (reads_sequence m (reads_kept refl (name_fits (mark_of n) name) within)
    (reads_enclosed (reads_sequence ts k (reads_absent stop refl)))))))

-- further arguments
pub no_further : (d : Nesting) (closing : Token) (ts : List Token) → mark_of closing ≡ Mark.RightParenthesis →
    Reads d further_part (closing ∷ ts) no_more (closing ∷ ts)
no_further d closing ts closes = reads_no_more (ap (is_same_mark Mark.Comma) closes) refl

pub one_further : (d : Nesting) (comma : Token) (s m ts : List Token) (x y : Tree) → is_within d ≡ true → mark_of comma ≡ Mark.Comma →
    Reads d (part expression) s x m → Reads d further_part m y ts → Reads d further_part (comma ∷ s) (more (both unkept x) y) ts
one_further d comma s m ts x y within commas h k =
    reads_more m (ap (is_same_mark Mark.Comma) commas) (reads_sequence s (reads_quoted refl commas within) h) k
