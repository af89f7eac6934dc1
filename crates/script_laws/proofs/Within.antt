-- What is read of a part of a term is read of its parts.
use Rattle.std.proofs.Common.{ℕ, ◌≡◌, ◌≤◌, ◌&&◌, refl, sym, ap, subst, List, ◌∷◌, Bool, true, false, nat_le, leb-true}
use Rattle.lotos_ast.specs.declared.mark.Mark.{Mark}
use Rattle.lotos_ast.specs.declared.token.Token.{Token}
use Rattle.lotos_ast.specs.Begins.{mark_at, starts}
use Rattle.lotos_ast.specs.Fronts.{Accepts}
use Rattle.lotos_ast.specs.Grammar.{rule}
use Rattle.lotos_ast.specs.MarkNumbers.{is_same_mark}
use Rattle.lotos_ast.specs.Nesting.{Nesting, unlimited, nested, in_bracket, in_construct, is_within}
use Rattle.lotos_ast.specs.Notation.{Part, Wanted, Syntax, quoted, kept, sequence, either, optional, repeated, bracketed, enclosed, part, list, in_parentheses, expression, infixes, simple, head}
use Rattle.lotos_ast.specs.Reads.{Tree, Reads, reads_quoted, reads_kept, reads_sequence, reads_left, reads_right, reads_absent, reads_present, reads_no_more, reads_more, reads_bracketed, reads_enclosed, reads_part}
use Rattle.lotos_ast.specs.TokenMarks.{mark_of}
use Rattle.lotos_ast.proofs.Limits.{reads_unlimited}
use Rattle.lotos_ast.proofs.OneReading.{one_reading}
use Rattle.script_laws.proofs.Fronts.{IsNameMark}
use Rattle.script_laws.proofs.Grammar.{name_fits, name_no_opening, further_part}

-- the first part is read, and the second behind it
pub record AcceptBoth (d : Nesting) (a b : Syntax) (s r : List Token) : Type 0 where
  pub middle : List Token
  pub first : Accepts d a s middle
  pub second : Accepts d b middle r

in_part : {d : Nesting} {q : Part} {s r : List Token} {x : Tree} → Reads d (part q) s x r → Accepts d (rule q) s r
in_part (reads_part {x = y} e h) = (y, h)

in_sequence : {d : Nesting} {a b : Syntax} {s r : List Token} {x : Tree} → Reads d (sequence a b) s x r → AcceptBoth d a b s r
in_sequence (reads_sequence {x = y} {y = z} m h k) = record { middle = m; first = (y, h); second = (z, k) }

in_left : {d : Nesting} {a b : Syntax} {s r : List Token} {x : Tree} → starts a (mark_at s) ≡ true → Reads d (either a b) s x r → Accepts d a s r
in_left e (reads_left {x = y} f h) = (y, h)
in_left e (reads_right f h) = absurd (cc)

in_right : {d : Nesting} {a b : Syntax} {s r : List Token} {x : Tree} → starts a (mark_at s) ≡ false → Reads d (either a b) s x r → Accepts d b s r
in_right e (reads_left f h) = absurd (cc)
in_right e (reads_right {x = y} f h) = (y, h)

in_optional : {d : Nesting} {a : Syntax} {s r : List Token} {x : Tree} → starts a (mark_at s) ≡ true → Reads d (optional a) s x r → Accepts d a s r
in_optional e (reads_absent f i) = absurd (cc)
in_optional e (reads_present {x = y} f h) = (y, h)

in_repeated : {d : Nesting} {a : Syntax} {s r : List Token} {x : Tree} → starts a (mark_at s) ≡ true → Reads d (repeated a) s x r →
    AcceptBoth d a (repeated a) s r
in_repeated e (reads_no_more f i) = absurd (cc)
in_repeated e (reads_more {x = y} {y = z} m f h k) = record { middle = m; first = (y, h); second = (z, k) }

in_brackets : {d : Nesting} {a : Syntax} {s r : List Token} {x : Tree} → Reads d (bracketed a) s x r → Accepts (in_bracket d) a s r
in_brackets (reads_bracketed {x = y} h) = (y, h)

in_enclosed : {d : Nesting} {a : Syntax} {s r : List Token} {x : Tree} → Reads d (enclosed a) s x r → Accepts (in_construct d) a s r
in_enclosed (reads_enclosed {x = y} h) = (y, h)

kept_within : {d : Nesting} {w : Wanted} {s r : List Token} {x : Tree} → Reads d (kept w) s x r → is_within d ≡ true
kept_within (reads_kept e f w) = w

behind_kept : {d : Nesting} {w : Wanted} {t : Token} {s r : List Token} {x : Tree} → Reads d (kept w) (t ∷ s) x r → r ≡ s
behind_kept (reads_kept e f w) = cc

behind_quoted : {d : Nesting} {k : Mark} {t : Token} {s r : List Token} {x : Tree} → Reads d (quoted k) (t ∷ s) x r → r ≡ s
behind_quoted (reads_quoted e f w) = cc

-- a part is read to one place
pub same_rest : {d : Nesting} {g : Syntax} {s r q : List Token} {x : Tree} → Reads unlimited g s x r → Accepts d g s q → q ≡ r
same_rest h k = sym (one_reading h (reads_unlimited k.1)).1

pub from : (d : Nesting) (g : Syntax) (s m r : List Token) → m ≡ s → Accepts d g m r → Accepts d g s r
from d g s m r e h = subst (λ z. Accepts d g z r) e h

-- the name, or what stands in brackets
abbrev pub AcceptsSome : Nesting → Syntax → List Token → Type 0
AcceptsSome d g s = (r : List Token) × Accepts d g s r

pub head_of : (d : Nesting) (s r : List Token) → Accepts d (part simple) s r → AcceptsSome d (part head) s
head_of d s r h =
    let k = in_sequence (in_part h.1).1 in
    (k.middle, k.first)

pub constant_within : (d : Nesting) (n : Token) (s r : List Token) → IsNameMark (mark_of n) → Accepts d (part head) (n ∷ s) r → is_within d ≡ true
constant_within d n s r name_mark h =
    let k = in_sequence (in_right (name_no_opening (mark_of n) name_mark) (in_part h.1).1).1 in
    kept_within k.first.1

pub in_call : (d : Nesting) (n opening : Token) (s r : List Token) → IsNameMark (mark_of n) → mark_of opening ≡ Mark.LeftParenthesis →
    Accepts d (part head) (n ∷ opening ∷ s) r → AcceptsSome (in_bracket d) (list (part expression)) s
in_call d n opening s r name_mark opens h =
    let k = in_sequence (in_right (name_no_opening (mark_of n) name_mark) (in_part h.1).1).1 in
    let m = from d (optional (in_parentheses (list (part expression)))) (opening ∷ s) k.middle r (behind_kept k.first.1) k.second in
    let l = in_sequence (in_brackets (in_optional (ap (is_same_mark Mark.LeftParenthesis) opens) m.1).1).1 in
    let inside = in_sequence l.second.1 in
    (inside.middle, from (in_bracket d) (list (part expression)) s l.middle inside.middle (behind_quoted l.first.1) inside.first)

pub in_group : (d : Nesting) (opening : Token) (s r : List Token) → mark_of opening ≡ Mark.LeftParenthesis →
    Accepts d (part head) (opening ∷ s) r → AcceptsSome (in_bracket d) (part expression) s
in_group d opening s r opens h =
    let l = in_sequence (in_brackets (in_left (ap (is_same_mark Mark.LeftParenthesis) opens) (in_part h.1).1).1).1 in
    let inside = in_sequence l.second.1 in
    (inside.middle, from (in_bracket d) (part expression) s l.middle inside.middle (behind_quoted l.first.1) inside.first)

-- the first argument, and the others
pub in_list : (d : Nesting) (s r : List Token) → Accepts d (list (part expression)) s r → AcceptBoth d (part expression) further_part s r
in_list d s r h = in_sequence h.1

-- the next of further arguments, and the others
pub in_further : (d : Nesting) (comma : Token) (s r : List Token) → mark_of comma ≡ Mark.Comma → Accepts d further_part (comma ∷ s) r →
    AcceptBoth d (part expression) further_part s r
in_further d comma s r commas h =
    let k = in_repeated (ap (is_same_mark Mark.Comma) commas) h.1 in
    let l = in_sequence k.first.1 in
    record {
      middle = k.middle;
      first = from d (part expression) s l.middle k.middle (behind_quoted l.first.1) l.second;
      second = k.second;
    }

-- the first operand, and what follows it
pub in_expression : (d : Nesting) (s r : List Token) → Accepts d (part expression) s r → AcceptBoth d (part simple) (optional (part infixes)) s r
in_expression d s r h = in_sequence (in_part h.1).1

-- the operand behind a name between two
pub in_infixes : (d : Nesting) (n : Token) (s r : List Token) → IsNameMark (mark_of n) → Accepts d (optional (part infixes)) (n ∷ s) r →
    AcceptsSome (in_construct d) (part simple) s
in_infixes d n s r name_mark h =
    let k = in_sequence (in_part (in_optional (name_fits (mark_of n) name_mark) h.1).1).1 in
    let l = in_sequence (in_enclosed k.second.1).1 in
    (l.middle, from (in_construct d) (part simple) s k.middle l.middle (behind_kept k.first.1) l.first)

pub few_brackets : (b c : ℕ) → is_within (nested b c) ≡ true → b ≤ 256
few_brackets b c h = leb-true b 256 (first (nat_le b 256) (nat_le c 4096) h)
  where
    first : (x y : Bool) → (x && y) ≡ true → x ≡ true
    first true y h = refl
    first false y h = absurd (cc)
