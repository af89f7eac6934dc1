-- What a part of the grammar reads with one token ahead, and where reading stops.
use Rattle.std.specs.Prelude.{List, ◌∷◌, true, false, ◌≡◌}
use Rattle.lotos_ast.specs.declared.mark.Mark.{Mark}
use Rattle.lotos_ast.specs.declared.place.Place.{Place}
use Rattle.lotos_ast.specs.declared.token.Token.{Token}
use Rattle.lotos_ast.specs.MarkNumbers.{is_same_mark}
use Rattle.lotos_ast.specs.Notation.{Part, Wanted, Reduction, presence, last_mark, fits, Syntax, quoted, kept, sequence}
use Rattle.lotos_ast.specs.Notation.{either, optional, repeated, placed, reduced, bracketed, enclosed, part}
use Rattle.lotos_ast.specs.Grammar.{rule}
use Rattle.lotos_ast.specs.Begins.{mark_at, place_at, starts}
use Rattle.lotos_ast.specs.declared.fault.Fault.{Fault}
use Rattle.lotos_ast.specs.Nesting.{Nesting, in_bracket, in_construct, is_within, fault_at}

-- a tree of the grammar: what was read for each part
pub data Tree : Type 0 where
  unkept : Tree  -- a token that isn't kept
  leaf : Token → Tree
  both : Tree → Tree → Tree
  left : Tree → Tree  -- the first of two alternatives
  right : Tree → Tree
  absent : Tree
  present : Tree → Tree
  no_more : Tree
  more : Tree → Tree → Tree  -- one, and any number of further ones
  node : Place → Tree → Tree  -- with the place of its first token

-- the tree that is kept
abbrev pub reduce : Reduction → Tree → Tree
reduce presence x = unkept
reduce last_mark (present (both x y)) = y
reduce last_mark x = absent

-- The tokens from the first list to the second are read as the part, which the tree stands for. An alternative, an optional
-- or a repeated part is taken where it can begin with the next token. No token is nested too deep.
pub data Reads : Nesting → Syntax → List Token → Tree → List Token → Type 0 where
  reads_quoted : {d : Nesting} {k : Mark} {t : Token} {s r : List Token} →
      s ≡ t ∷ r → mark_at s ≡ k → is_within d ≡ true → Reads d (quoted k) s unkept r
  reads_kept : {d : Nesting} {w : Wanted} {t : Token} {s r : List Token} →
      s ≡ t ∷ r → fits w (mark_at s) ≡ true → is_within d ≡ true → Reads d (kept w) s (leaf t) r
  reads_sequence : {d : Nesting} {a b : Syntax} {s r : List Token} {x y : Tree} (m : List Token) →
      Reads d a s x m → Reads d b m y r → Reads d (sequence a b) s (both x y) r
  reads_left : {d : Nesting} {a b : Syntax} {s r : List Token} {x : Tree} →
      starts a (mark_at s) ≡ true → Reads d a s x r → Reads d (either a b) s (left x) r
  reads_right : {d : Nesting} {a b : Syntax} {s r : List Token} {x : Tree} →
      starts a (mark_at s) ≡ false → Reads d b s x r → Reads d (either a b) s (right x) r
  reads_absent : {d : Nesting} {a : Syntax} {s r : List Token} →
      starts a (mark_at s) ≡ false → s ≡ r → Reads d (optional a) s absent r
  reads_present : {d : Nesting} {a : Syntax} {s r : List Token} {x : Tree} →
      starts a (mark_at s) ≡ true → Reads d a s x r → Reads d (optional a) s (present x) r
  reads_no_more : {d : Nesting} {a : Syntax} {s r : List Token} →
      starts a (mark_at s) ≡ false → s ≡ r → Reads d (repeated a) s no_more r
  reads_more : {d : Nesting} {a : Syntax} {s r : List Token} {x y : Tree} (m : List Token) →
      starts a (mark_at s) ≡ true → Reads d a s x m → Reads d (repeated a) m y r → Reads d (repeated a) s (more x y) r
  reads_placed : {d : Nesting} {p : Place} {a : Syntax} {s r : List Token} {x : Tree} →
      place_at s ≡ p → Reads d a s x r → Reads d (placed a) s (node p x) r
  reads_reduced : {d : Nesting} {u : Reduction} {a : Syntax} {s r : List Token} {x y : Tree} →
      reduce u x ≡ y → Reads d a s x r → Reads d (reduced u a) s y r
  reads_bracketed : {d : Nesting} {a : Syntax} {s r : List Token} {x : Tree} →
      Reads (in_bracket d) a s x r → Reads d (bracketed a) s x r
  reads_enclosed : {d : Nesting} {a : Syntax} {s r : List Token} {x : Tree} →
      Reads (in_construct d) a s x r → Reads d (enclosed a) s x r
  reads_part : {d : Nesting} {p : Place} {q : Part} {s r : List Token} {x : Tree} →
      place_at s ≡ p → Reads d (rule q) s x r → Reads d (part q) s (node p x) r

-- Reading the part from the tokens of the first list stops before those of the second, for this reason.
pub data Stops : Nesting → Fault → Syntax → List Token → List Token → Type 0 where
  stops_quoted : {d : Nesting} {f : Fault} {k : Mark} {s r : List Token} →
      is_same_mark k (mark_at s) ≡ false → fault_at (is_within d) (mark_at s) ≡ f → s ≡ r → Stops d f (quoted k) s r
  stops_kept : {d : Nesting} {f : Fault} {w : Wanted} {s r : List Token} →
      fits w (mark_at s) ≡ false → fault_at (is_within d) (mark_at s) ≡ f → s ≡ r → Stops d f (kept w) s r
  deep_quoted : {d : Nesting} {k : Mark} {s r : List Token} →
      mark_at s ≡ k → is_within d ≡ false → s ≡ r → Stops d Fault.TooDeep (quoted k) s r
  deep_kept : {d : Nesting} {w : Wanted} {s r : List Token} →
      fits w (mark_at s) ≡ true → is_within d ≡ false → s ≡ r → Stops d Fault.TooDeep (kept w) s r
  stops_first : {d : Nesting} {f : Fault} {a b : Syntax} {s r : List Token} →
      Stops d f a s r → Stops d f (sequence a b) s r
  stops_second : {d : Nesting} {f : Fault} {a b : Syntax} {s r : List Token} {x : Tree} (m : List Token) →
      Reads d a s x m → Stops d f b m r → Stops d f (sequence a b) s r
  stops_left : {d : Nesting} {f : Fault} {a b : Syntax} {s r : List Token} →
      starts a (mark_at s) ≡ true → Stops d f a s r → Stops d f (either a b) s r
  stops_right : {d : Nesting} {f : Fault} {a b : Syntax} {s r : List Token} →
      starts a (mark_at s) ≡ false → Stops d f b s r → Stops d f (either a b) s r
  stops_optional : {d : Nesting} {f : Fault} {a : Syntax} {s r : List Token} →
      starts a (mark_at s) ≡ true → Stops d f a s r → Stops d f (optional a) s r
  stops_repeated : {d : Nesting} {f : Fault} {a : Syntax} {s r : List Token} →
      starts a (mark_at s) ≡ true → Stops d f a s r → Stops d f (repeated a) s r
  stops_later : {d : Nesting} {f : Fault} {a : Syntax} {s r : List Token} {x : Tree} (m : List Token) →
      starts a (mark_at s) ≡ true → Reads d a s x m → Stops d f (repeated a) m r → Stops d f (repeated a) s r
  stops_placed : {d : Nesting} {f : Fault} {a : Syntax} {s r : List Token} →
      Stops d f a s r → Stops d f (placed a) s r
  stops_reduced : {d : Nesting} {f : Fault} {u : Reduction} {a : Syntax} {s r : List Token} →
      Stops d f a s r → Stops d f (reduced u a) s r
  stops_bracketed : {d : Nesting} {f : Fault} {a : Syntax} {s r : List Token} →
      Stops (in_bracket d) f a s r → Stops d f (bracketed a) s r
  stops_enclosed : {d : Nesting} {f : Fault} {a : Syntax} {s r : List Token} →
      Stops (in_construct d) f a s r → Stops d f (enclosed a) s r
  stops_part : {d : Nesting} {f : Fault} {q : Part} {s r : List Token} →
      Stops d f (rule q) s r → Stops d f (part q) s r
