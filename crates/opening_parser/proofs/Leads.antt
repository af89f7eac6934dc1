-- What was read of a part: nothing yet, an alternative chosen, one part more, and its end.
use Rattle.std.proofs.Common.{List, true, false, ◌≡◌, sym, subst}
use Rattle.lotos_ast.specs.declared.token.Token.{Token}
use Rattle.lotos_ast.specs.Notation.{Syntax, sequence, either, bracketed}
use Rattle.lotos_ast.specs.Begins.{mark_at, starts}
use Rattle.lotos_ast.specs.Nesting.{Nesting, in_bracket}
use Rattle.lotos_ast.specs.Reads.{Tree, both, left, right, Reads, reads_sequence, reads_left, reads_right, reads_bracketed}
use Rattle.syntax_cursor.specs.declared.parse_fault.ParseFault.{ParseFault}
use Rattle.syntax_cursor.specs.Parsers.{Halts}
use Rattle.syntax_cursor.proofs.Rows.{halts_second, halts_left, halts_right, halts_bracketed}
use Rattle.opening_parser.specs.Leads.{Leads}

pub leads_none : (d : Nesting) (g : Syntax) (s : List Token) → Leads d g s (λ x. x) d g s
leads_none d g s = record { reads = λ x r h. h; halts = λ e r h. h }

pub leads_left : (d : Nesting) (a b : Syntax) (s : List Token) (f : Tree → Tree) (n : Nesting) (z : Syntax) (m : List Token) →
    starts a (mark_at s) ≡ true → Leads d a s f n z m →
    Leads d (either a b) s (λ x. left (f x)) n z m
leads_left d a b s f n z m i h = record {
  reads = λ x r k. reads_left i (h.reads x r k);
  halts = λ e r k. halts_left e d a b s r i (h.halts e r k);
}

pub leads_right : (d : Nesting) (a b : Syntax) (s : List Token) (f : Tree → Tree) (n : Nesting) (z : Syntax) (m : List Token) →
    starts a (mark_at s) ≡ false → Leads d b s f n z m →
    Leads d (either a b) s (λ x. right (f x)) n z m
leads_right d a b s f n z m i h = record {
  reads = λ x r k. reads_right i (h.reads x r k);
  halts = λ e r k. halts_right e d a b s r i (h.halts e r k);
}

pub leads_bracketed : (d : Nesting) (a : Syntax) (s : List Token) (f : Tree → Tree) (n : Nesting) (z : Syntax) (m : List Token) →
    Leads (in_bracket d) a s f n z m →
    Leads d (bracketed a) s f n z m
leads_bracketed d a s f n z m h = record {
  reads = λ x r k. reads_bracketed (h.reads x r k);
  halts = λ e r k. halts_bracketed e d a s r (h.halts e r k);
}

-- the first part of a sequence more
pub leads_on : {d : Nesting} {g : Syntax} {s : List Token} {f : Tree → Tree} {n : Nesting} {a z : Syntax} {m : List Token} {x : Tree}
    {r : List Token} →
    Leads d g s f n (sequence a z) m → Reads n a m x r →
    Leads d g s (λ y. f (both x y)) n z r
leads_on {n = n} {a = a} {z = z} {m = m} {x = x} {r = r} h j = record {
  reads = λ y q k. h.reads (both x y) q (reads_sequence r j k);
  halts = λ e q k. h.halts e q (halts_second e n a z m q x r j k);
}

-- what goes on within what was begun
pub leads_within : {d : Nesting} {g : Syntax} {s : List Token} {f : Tree → Tree} {n : Nesting} {a : Syntax} {m : List Token}
    {h : Tree → Tree} {p : Nesting} {z : Syntax} {r : List Token} →
    Leads d g s f n a m → Leads n a m h p z r →
    Leads d g s (λ x. f (h x)) p z r
leads_within {h = h} i k = record {
  reads = λ x q j. i.reads (h x) q (k.reads x q j);
  halts = λ e q j. i.halts e q (k.halts e q j);
}

-- what was begun is read with what completes it
pub completed : (d : Nesting) (g : Syntax) (s : List Token) (f : Tree → Tree) (n : Nesting) (z : Syntax) (m : List Token) (x t : Tree)
    (r : List Token) →
    Leads d g s f n z m → Reads n z m x r → t ≡ f x →
    Reads d g s t r
completed d g s f n z m x t r h k e = subst (λ y. Reads d g s y r) (sym e) (h.reads x r k)

pub completed_halts : (e : ParseFault) (d : Nesting) (g : Syntax) (s : List Token) (f : Tree → Tree) (n : Nesting) (z : Syntax)
    (m r : List Token) →
    Leads d g s f n z m → Halts e n z m r →
    Halts e d g s r
completed_halts e d g s f n z m r h k = h.halts e r k
