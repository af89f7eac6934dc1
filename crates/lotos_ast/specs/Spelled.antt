-- The grammar as it is written: an alternative is any of them, an optional or repeated part stands or stands not. No token
-- ahead decides. Where the right side of an operator may belong to an inner or an outer behaviour, it belongs to the inner
-- one: so `hide`, `let`, `choice` and `par` reach as far to the right as they can.
use Rattle.std.specs.Prelude.{List, [], ◌∷◌, Bool, true, false, ◌||◌, ◌&&◌, ◌≡◌}
use Rattle.lotos_ast.specs.declared.mark.Mark.{Mark}
use Rattle.lotos_ast.specs.declared.token.Token.{Token}
use Rattle.lotos_ast.specs.Notation.{Part, Wanted, Reduction, fits, Syntax, quoted, kept, sequence, either, optional}
use Rattle.lotos_ast.specs.Notation.{repeated, placed, reduced, bracketed, enclosed, part, enabling, disabling}
use Rattle.lotos_ast.specs.Notation.{composing, choosing}
use Rattle.lotos_ast.specs.Grammar.{rule}
use Rattle.lotos_ast.specs.Begins.{mark_at, is_empty, starts}
use Rattle.lotos_ast.specs.GoesOn.{onward}

-- an operator with its right side
abbrev pub is_far_part : Part → Bool
is_far_part enabling = true
is_far_part disabling = true
is_far_part composing = true
is_far_part choosing = true
is_far_part p = false

abbrev pub is_far : Syntax → Bool
is_far (quoted k) = false
is_far (kept w) = false
is_far (sequence a b) = false
is_far (either a b) = false
is_far (optional a) = false
is_far (repeated a) = false
is_far (placed a) = false
is_far (reduced u a) = false
is_far (bracketed a) = false
is_far (enclosed a) = false
is_far (part p) = is_far_part p

-- the tokens from the first list to the second spell the part
pub data Spelled : Syntax → List Token → List Token → Type 0 where
  spelled_quoted : {k : Mark} {t : Token} {s r : List Token} →
      s ≡ t ∷ r → mark_at s ≡ k → Spelled (quoted k) s r
  spelled_kept : {w : Wanted} {t : Token} {s r : List Token} →
      s ≡ t ∷ r → fits w (mark_at s) ≡ true → Spelled (kept w) s r
  spelled_sequence : {a b : Syntax} {s r : List Token} (m : List Token) →
      Spelled a s m → Spelled b m r → Spelled (sequence a b) s r
  spelled_left : {a b : Syntax} {s r : List Token} →
      Spelled a s r → Spelled (either a b) s r
  spelled_right : {a b : Syntax} {s r : List Token} →
      Spelled b s r → Spelled (either a b) s r
  spelled_absent : {a : Syntax} {s r : List Token} →
      (is_far a ≡ true → starts a (mark_at s) ≡ false) → s ≡ r → Spelled (optional a) s r
  spelled_present : {a : Syntax} {s r : List Token} →
      Spelled a s r → Spelled (optional a) s r
  spelled_no_more : {a : Syntax} {s r : List Token} →
      s ≡ r → Spelled (repeated a) s r
  spelled_more : {a : Syntax} {s r : List Token} (m : List Token) →
      Spelled a s m → Spelled (repeated a) m r → Spelled (repeated a) s r
  spelled_placed : {a : Syntax} {s r : List Token} →
      Spelled a s r → Spelled (placed a) s r
  spelled_reduced : {u : Reduction} {a : Syntax} {s r : List Token} →
      Spelled a s r → Spelled (reduced u a) s r
  spelled_bracketed : {a : Syntax} {s r : List Token} →
      Spelled a s r → Spelled (bracketed a) s r
  spelled_enclosed : {a : Syntax} {s r : List Token} →
      Spelled a s r → Spelled (enclosed a) s r
  spelled_part : {p : Part} {s r : List Token} →
      Spelled (rule p) s r → Spelled (part p) s r

-- all tokens spell the part
abbrev pub Spells : Syntax → List Token → Type 0
Spells g s = Spelled g s []

abbrev pub unless : Bool → Bool → Bool
unless true b = false
unless false b = b

-- by which tokens a part that is spelled may go on
abbrev pub reaches : Syntax → Mark → Bool
reaches (quoted k) m = false
reaches (kept w) m = false
reaches (sequence a b) m = reaches b m || is_empty b && reaches a m
reaches (either a b) m = reaches a m || (reaches b m || is_empty b && starts a m)
reaches (optional a) m = unless (is_far a) (starts a m) || reaches a m
reaches (repeated a) m = starts a m || reaches a m
reaches (placed a) m = reaches a m
reaches (reduced u a) m = reaches a m
reaches (bracketed a) m = reaches a m
reaches (enclosed a) m = reaches a m
reaches (part p) m = onward p m
