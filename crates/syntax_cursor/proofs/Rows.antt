-- The rows of Reads for one token, and those of Stops for the reason that a parser's fault tells.
use Rattle.std.proofs.Common.{List, ◌∷◌, true, false, Some, ◌≡◌, refl, sym, subst, ◌∙◌}
use Rattle.std.proofs.lemmas.Option.{same_Some}
use Rattle.lotos_ast.specs.declared.mark.Mark.{Mark}
use Rattle.lotos_ast.specs.declared.token.Token.{Token}
use Rattle.lotos_ast.specs.MarkNumbers.{is_same_mark}
use Rattle.lotos_ast.specs.Notation.{Part, Wanted, Reduction, presence, fits, Syntax, quoted, kept, sequence, either, optional, repeated, placed, reduced, bracketed, enclosed, part}
use Rattle.lotos_ast.specs.Grammar.{rule}
use Rattle.lotos_ast.specs.Begins.{mark_at, place_at, starts}
use Rattle.lotos_ast.specs.declared.fault.Fault.{Fault}
use Rattle.lotos_ast.specs.Nesting.{Nesting, in_bracket, in_construct, is_within, fault_at}
use Rattle.lotos_ast.specs.Reads.{Tree, Reads, Stops, unkept, reads_quoted, reads_absent, reads_present, reads_reduced, reads_part, stops_quoted, stops_kept, deep_quoted, deep_kept, stops_first, stops_second, stops_left, stops_right, stops_optional, stops_repeated, stops_later, stops_placed, stops_reduced, stops_bracketed, stops_enclosed, stops_part}
use Rattle.lotos_ast.specs.ListTrees.{tree_place}
use Rattle.lotos_ast.proofs.Tables.{same_equal}
use Rattle.syntax_cursor.specs.declared.parse_fault.ParseFault.{ParseFault}
use Rattle.syntax_cursor.specs.declared.parse_fault.ParseFault.TheVariants.{Stopped, Memory}
use Rattle.syntax_cursor.specs.Parsers.{reason_of, Halts}

-- want of memory tells nothing
pub halts_memory : (d : Nesting) (g : Syntax) (s r : List Token) → Halts Memory d g s r
halts_memory d g s r = record { stops = λ f i. cc }

pub halts_unexpected : (e : ParseFault) (d : Nesting) (k : Mark) (s : List Token) →
    is_same_mark k (mark_at s) ≡ false → reason_of e ≡ Some (fault_at (is_within d) (mark_at s)) →
    Halts e d (quoted k) s s
halts_unexpected e d k s h i = record { stops = λ f j. stops_quoted h (same_Some _ _ (sym i ∙ j)) refl }

pub halts_unkept : (e : ParseFault) (d : Nesting) (w : Wanted) (s : List Token) →
    fits w (mark_at s) ≡ false → reason_of e ≡ Some (fault_at (is_within d) (mark_at s)) →
    Halts e d (kept w) s s
halts_unkept e d w s h i = record { stops = λ f j. stops_kept h (same_Some _ _ (sym i ∙ j)) refl }

pub halts_too_deep : (d : Nesting) (k : Mark) (s : List Token) →
    is_same_mark k (mark_at s) ≡ true → is_within d ≡ false →
    Halts (Stopped Fault.TooDeep) d (quoted k) s s
halts_too_deep d k s h i =
    record { stops = λ f j. subst (λ z. Stops d z (quoted k) s s) (same_Some _ _ j) (deep_quoted (sym (same_equal k (mark_at s) h)) i refl) }

pub halts_kept_too_deep : (d : Nesting) (w : Wanted) (s : List Token) →
    fits w (mark_at s) ≡ true → is_within d ≡ false →
    Halts (Stopped Fault.TooDeep) d (kept w) s s
halts_kept_too_deep d w s h i = record { stops = λ f j. subst (λ z. Stops d z (kept w) s s) (same_Some _ _ j) (deep_kept h i refl) }

pub reads_passed : (d : Nesting) (k : Mark) (t : Token) (s r : List Token) →
    s ≡ t ∷ r → is_same_mark k (mark_at s) ≡ true → is_within d ≡ true →
    Reads d (quoted k) s unkept r
reads_passed d k t s r e h i = reads_quoted e (sym (same_equal k (mark_at s) h)) i

-- a part of which the tree doesn't keep whether it stands there
pub reads_unless : (d : Nesting) (a : Syntax) (s r : List Token) →
    starts a (mark_at s) ≡ false → s ≡ r →
    Reads d (reduced presence (optional a)) s unkept r
reads_unless d a s r h e = reads_reduced refl (reads_absent h e)

pub reads_if : (d : Nesting) (a : Syntax) (s r : List Token) (x : Tree) →
    starts a (mark_at s) ≡ true → Reads d a s x r →
    Reads d (reduced presence (optional a)) s unkept r
reads_if d a s r x b h = reads_reduced refl (reads_present b h)

-- the tree of a rule has the place of its first token
pub part_place : (d : Nesting) (q : Part) (s : List Token) (x : Tree) (r : List Token) → Reads d (part q) s x r → place_at s ≡ tree_place x
part_place d q s x r (reads_part e h) = e

pub halts_first : (e : ParseFault) (d : Nesting) (a b : Syntax) (s r : List Token) → Halts e d a s r → Halts e d (sequence a b) s r
halts_first e d a b s r h = record { stops = λ f i. stops_first (h.stops f i) }

pub halts_second : (e : ParseFault) (d : Nesting) (a b : Syntax) (s r : List Token) (x : Tree) (m : List Token) →
    Reads d a s x m → Halts e d b m r →
    Halts e d (sequence a b) s r
halts_second e d a b s r x m k h = record { stops = λ f i. stops_second m k (h.stops f i) }

pub halts_left : (e : ParseFault) (d : Nesting) (a b : Syntax) (s r : List Token) →
    starts a (mark_at s) ≡ true → Halts e d a s r →
    Halts e d (either a b) s r
halts_left e d a b s r k h = record { stops = λ f i. stops_left k (h.stops f i) }

pub halts_right : (e : ParseFault) (d : Nesting) (a b : Syntax) (s r : List Token) →
    starts a (mark_at s) ≡ false → Halts e d b s r →
    Halts e d (either a b) s r
halts_right e d a b s r k h = record { stops = λ f i. stops_right k (h.stops f i) }

pub halts_optional : (e : ParseFault) (d : Nesting) (a : Syntax) (s r : List Token) →
    starts a (mark_at s) ≡ true → Halts e d a s r →
    Halts e d (optional a) s r
halts_optional e d a s r k h = record { stops = λ f i. stops_optional k (h.stops f i) }

pub halts_repeated : (e : ParseFault) (d : Nesting) (a : Syntax) (s r : List Token) →
    starts a (mark_at s) ≡ true → Halts e d a s r →
    Halts e d (repeated a) s r
halts_repeated e d a s r k h = record { stops = λ f i. stops_repeated k (h.stops f i) }

pub halts_later : (e : ParseFault) (d : Nesting) (a : Syntax) (s r : List Token) (x : Tree) (m : List Token) →
    starts a (mark_at s) ≡ true → Reads d a s x m → Halts e d (repeated a) m r →
    Halts e d (repeated a) s r
halts_later e d a s r x m k j h = record { stops = λ f i. stops_later m k j (h.stops f i) }

pub halts_placed : (e : ParseFault) (d : Nesting) (a : Syntax) (s r : List Token) → Halts e d a s r → Halts e d (placed a) s r
halts_placed e d a s r h = record { stops = λ f i. stops_placed (h.stops f i) }

pub halts_reduced : (e : ParseFault) (d : Nesting) (u : Reduction) (a : Syntax) (s r : List Token) →
    Halts e d a s r →
    Halts e d (reduced u a) s r
halts_reduced e d u a s r h = record { stops = λ f i. stops_reduced (h.stops f i) }

pub halts_bracketed : (e : ParseFault) (d : Nesting) (a : Syntax) (s r : List Token) →
    Halts e (in_bracket d) a s r →
    Halts e d (bracketed a) s r
halts_bracketed e d a s r h = record { stops = λ f i. stops_bracketed (h.stops f i) }

pub halts_enclosed : (e : ParseFault) (d : Nesting) (a : Syntax) (s r : List Token) →
    Halts e (in_construct d) a s r →
    Halts e d (enclosed a) s r
halts_enclosed e d a s r h = record { stops = λ f i. stops_enclosed (h.stops f i) }

pub halts_part : (e : ParseFault) (d : Nesting) (q : Part) (s r : List Token) → Halts e d (rule q) s r → Halts e d (part q) s r
halts_part e d q s r h = record { stops = λ f i. stops_part (h.stops f i) }
