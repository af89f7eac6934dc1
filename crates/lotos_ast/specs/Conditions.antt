-- What the laws ask of a grammar. Each rule is checked by computing.
use Rattle.std.specs.Prelude.{Bool, true, false, not, ◌||◌, ◌≡◌}
use Rattle.lotos_ast.specs.declared.mark.Mark.{Mark}
use Rattle.lotos_ast.specs.TokenMarks.{mark_of}
use Rattle.lotos_ast.specs.MarkNumbers.{is_same_mark, AllMarks}
use Rattle.lotos_ast.specs.Notation.{fits, Syntax, quoted, kept, sequence, either, optional, repeated, placed, reduced}
use Rattle.lotos_ast.specs.Notation.{bracketed, enclosed, part}
use Rattle.lotos_ast.specs.Begins.{mark_at, is_empty, starts}
use Rattle.lotos_ast.specs.GoesOn.{extends}
use Rattle.lotos_ast.specs.Shortest.{sample, sample_of, short}
use Rattle.lotos_ast.specs.Spelled.{reaches}

-- no token is the end, and no repeated part begins with it
abbrev pub NeverTakesEnd : Syntax → Type 0
NeverTakesEnd (quoted k) = is_same_mark k Mark.End ≡ false
NeverTakesEnd (kept w) = fits w Mark.End ≡ false
NeverTakesEnd (sequence a b) = NeverTakesEnd a × NeverTakesEnd b
NeverTakesEnd (either a b) = NeverTakesEnd a × NeverTakesEnd b
NeverTakesEnd (optional a) = NeverTakesEnd a
NeverTakesEnd (repeated a) = NeverTakesEnd a × (starts a Mark.End ≡ false)
NeverTakesEnd (placed a) = NeverTakesEnd a
NeverTakesEnd (reduced u a) = NeverTakesEnd a
NeverTakesEnd (bracketed a) = NeverTakesEnd a
NeverTakesEnd (enclosed a) = NeverTakesEnd a
NeverTakesEnd (part p) = Unit {0}

-- the shortest texts are what they are said to be: each token has its mark, and none goes on the part before it
abbrev pub HasShortestTexts : Syntax → Type 0
HasShortestTexts (quoted k) = mark_of (sample k) ≡ k
HasShortestTexts (kept w) = fits w (mark_of (sample_of w)) ≡ true
HasShortestTexts (sequence a b) = HasShortestTexts a × HasShortestTexts b × (extends a (mark_at (short b)) ≡ false)
HasShortestTexts (either a b) = HasShortestTexts a × HasShortestTexts b × (starts a (mark_at (short b)) ≡ false)
HasShortestTexts (optional a) = HasShortestTexts a
HasShortestTexts (repeated a) = HasShortestTexts a
HasShortestTexts (placed a) = HasShortestTexts a
HasShortestTexts (reduced u a) = HasShortestTexts a
HasShortestTexts (bracketed a) = HasShortestTexts a
HasShortestTexts (enclosed a) = HasShortestTexts a
HasShortestTexts (part p) = Unit {0}

abbrev pub implies : Bool → Bool → Bool
implies a b = not a || b

-- no mark fits both tests
abbrev pub Apart : (Mark → Bool) → (Mark → Bool) → Type 0
Apart first second = AllMarks (λ m. implies (first m) (not (second m)))

-- One token ahead decides: what a part begins with isn't what the part before it may go on by, nor what another alternative
-- begins with. What may be left out or repeated has at least one token.
abbrev pub IsPredictive : Syntax → Type 0
IsPredictive (quoted k) = Unit {0}
IsPredictive (kept w) = Unit {0}
IsPredictive (sequence a b) = IsPredictive a × IsPredictive b × Apart (starts b) (reaches a)
IsPredictive (either a b) = IsPredictive a × IsPredictive b × Apart (starts b) (starts a) × (is_empty a ≡ false)
IsPredictive (optional a) = IsPredictive a × (is_empty a ≡ false)
IsPredictive (repeated a) = IsPredictive a × (is_empty a ≡ false) × Apart (starts a) (reaches a)
IsPredictive (placed a) = IsPredictive a
IsPredictive (reduced u a) = IsPredictive a
IsPredictive (bracketed a) = IsPredictive a
IsPredictive (enclosed a) = IsPredictive a
IsPredictive (part p) = Unit {0}

-- all of them hold, and the part doesn't go on by the end
abbrev pub IsWellFormed : Syntax → Type 0
IsWellFormed g = NeverTakesEnd g × HasShortestTexts g × IsPredictive g × (reaches g Mark.End ≡ false)
