-- The rows of Reads and Stops, with all that they speak of as arguments.
use Rattle.std.proofs.Common.{List, ◌∷◌, true, false, ◌≡◌}
use Rattle.lotos_ast.specs.declared.mark.Mark.{Mark}
use Rattle.lotos_ast.specs.declared.place.Place.{Place}
use Rattle.lotos_ast.specs.declared.token.Token.{Token}
use Rattle.lotos_ast.specs.MarkNumbers.{is_same_mark}
use Rattle.lotos_ast.specs.Notation.{Part, Wanted, Reduction, fits, Syntax, quoted, kept, sequence, either, optional, repeated, placed, reduced, bracketed, enclosed, part}
use Rattle.lotos_ast.specs.Grammar.{rule}
use Rattle.lotos_ast.specs.Begins.{mark_at, place_at, starts}
use Rattle.lotos_ast.specs.declared.fault.Fault.{Fault}
use Rattle.lotos_ast.specs.Nesting.{Nesting, in_bracket, in_construct, is_within, fault_at}
use Rattle.lotos_ast.specs.Reads.{Tree, reduce, unkept, leaf, both, left, right, absent, present, no_more, more, node, Reads, Stops, reads_quoted, reads_kept, reads_sequence, reads_left, reads_right, reads_absent, reads_present, reads_no_more, reads_more, reads_placed, reads_reduced, reads_bracketed, reads_enclosed, reads_part, stops_quoted, stops_kept, deep_quoted, deep_kept, stops_first, stops_second, stops_left, stops_right, stops_optional, stops_repeated, stops_later, stops_placed, stops_reduced, stops_bracketed, stops_enclosed, stops_part}

pub reads_quoted_at : (d : Nesting) (k : Mark) (t : Token) (s r : List Token) → s ≡ t ∷ r → mark_at s ≡ k → is_within d ≡ true → Reads d (quoted k) s unkept r
reads_quoted_at d k t s r h0 h1 h2 = reads_quoted h0 h1 h2

pub reads_kept_at : (d : Nesting) (w : Wanted) (t : Token) (s r : List Token) → s ≡ t ∷ r → fits w (mark_at s) ≡ true → is_within d ≡ true → Reads d (kept w) s (leaf t) r
reads_kept_at d w t s r h0 h1 h2 = reads_kept h0 h1 h2

pub reads_sequence_at : (d : Nesting) (a b : Syntax) (s r : List Token) (x y : Tree) (m : List Token) → Reads d a s x m → Reads d b m y r → Reads d (sequence a b) s (both x y) r
reads_sequence_at d a b s r x y m h0 h1 = reads_sequence m h0 h1

pub reads_left_at : (d : Nesting) (a b : Syntax) (s r : List Token) (x : Tree) → starts a (mark_at s) ≡ true → Reads d a s x r → Reads d (either a b) s (left x) r
reads_left_at d a b s r x h0 h1 = reads_left h0 h1

pub reads_right_at : (d : Nesting) (a b : Syntax) (s r : List Token) (x : Tree) → starts a (mark_at s) ≡ false → Reads d b s x r → Reads d (either a b) s (right x) r
reads_right_at d a b s r x h0 h1 = reads_right h0 h1

pub reads_absent_at : (d : Nesting) (a : Syntax) (s r : List Token) → starts a (mark_at s) ≡ false → s ≡ r → Reads d (optional a) s absent r
reads_absent_at d a s r h0 h1 = reads_absent h0 h1

pub reads_present_at : (d : Nesting) (a : Syntax) (s r : List Token) (x : Tree) → starts a (mark_at s) ≡ true → Reads d a s x r → Reads d (optional a) s (present x) r
reads_present_at d a s r x h0 h1 = reads_present h0 h1

pub reads_no_more_at : (d : Nesting) (a : Syntax) (s r : List Token) → starts a (mark_at s) ≡ false → s ≡ r → Reads d (repeated a) s no_more r
reads_no_more_at d a s r h0 h1 = reads_no_more h0 h1

pub reads_more_at : (d : Nesting) (a : Syntax) (s r : List Token) (x y : Tree) (m : List Token) → starts a (mark_at s) ≡ true → Reads d a s x m → Reads d (repeated a) m y r → Reads d (repeated a) s (more x y) r
reads_more_at d a s r x y m h0 h1 h2 = reads_more m h0 h1 h2

pub reads_placed_at : (d : Nesting) (p : Place) (a : Syntax) (s r : List Token) (x : Tree) → place_at s ≡ p → Reads d a s x r → Reads d (placed a) s (node p x) r
reads_placed_at d p a s r x h0 h1 = reads_placed h0 h1

pub reads_reduced_at : (d : Nesting) (u : Reduction) (a : Syntax) (s r : List Token) (x y : Tree) → reduce u x ≡ y → Reads d a s x r → Reads d (reduced u a) s y r
reads_reduced_at d u a s r x y h0 h1 = reads_reduced h0 h1

pub reads_bracketed_at : (d : Nesting) (a : Syntax) (s r : List Token) (x : Tree) → Reads (in_bracket d) a s x r → Reads d (bracketed a) s x r
reads_bracketed_at d a s r x h0 = reads_bracketed h0

pub reads_enclosed_at : (d : Nesting) (a : Syntax) (s r : List Token) (x : Tree) → Reads (in_construct d) a s x r → Reads d (enclosed a) s x r
reads_enclosed_at d a s r x h0 = reads_enclosed h0

pub reads_part_at : (d : Nesting) (p : Place) (q : Part) (s r : List Token) (x : Tree) → place_at s ≡ p → Reads d (rule q) s x r → Reads d (part q) s (node p x) r
reads_part_at d p q s r x h0 h1 = reads_part h0 h1

pub stops_quoted_at : (d : Nesting) (f : Fault) (k : Mark) (s r : List Token) → is_same_mark k (mark_at s) ≡ false → fault_at (is_within d) (mark_at s) ≡ f → s ≡ r → Stops d f (quoted k) s r
stops_quoted_at d f k s r h0 h1 h2 = stops_quoted h0 h1 h2

pub stops_kept_at : (d : Nesting) (f : Fault) (w : Wanted) (s r : List Token) → fits w (mark_at s) ≡ false → fault_at (is_within d) (mark_at s) ≡ f → s ≡ r → Stops d f (kept w) s r
stops_kept_at d f w s r h0 h1 h2 = stops_kept h0 h1 h2

pub deep_quoted_at : (d : Nesting) (k : Mark) (s r : List Token) → mark_at s ≡ k → is_within d ≡ false → s ≡ r → Stops d Fault.TooDeep (quoted k) s r
deep_quoted_at d k s r h0 h1 h2 = deep_quoted h0 h1 h2

pub deep_kept_at : (d : Nesting) (w : Wanted) (s r : List Token) → fits w (mark_at s) ≡ true → is_within d ≡ false → s ≡ r → Stops d Fault.TooDeep (kept w) s r
deep_kept_at d w s r h0 h1 h2 = deep_kept h0 h1 h2

pub stops_first_at : (d : Nesting) (f : Fault) (a b : Syntax) (s r : List Token) → Stops d f a s r → Stops d f (sequence a b) s r
stops_first_at d f a b s r h0 = stops_first h0

pub stops_second_at : (d : Nesting) (f : Fault) (a b : Syntax) (s r : List Token) (x : Tree) (m : List Token) → Reads d a s x m → Stops d f b m r → Stops d f (sequence a b) s r
stops_second_at d f a b s r x m h0 h1 = stops_second m h0 h1

pub stops_left_at : (d : Nesting) (f : Fault) (a b : Syntax) (s r : List Token) → starts a (mark_at s) ≡ true → Stops d f a s r → Stops d f (either a b) s r
stops_left_at d f a b s r h0 h1 = stops_left h0 h1

pub stops_right_at : (d : Nesting) (f : Fault) (a b : Syntax) (s r : List Token) → starts a (mark_at s) ≡ false → Stops d f b s r → Stops d f (either a b) s r
stops_right_at d f a b s r h0 h1 = stops_right h0 h1

pub stops_optional_at : (d : Nesting) (f : Fault) (a : Syntax) (s r : List Token) → starts a (mark_at s) ≡ true → Stops d f a s r → Stops d f (optional a) s r
stops_optional_at d f a s r h0 h1 = stops_optional h0 h1

pub stops_repeated_at : (d : Nesting) (f : Fault) (a : Syntax) (s r : List Token) → starts a (mark_at s) ≡ true → Stops d f a s r → Stops d f (repeated a) s r
stops_repeated_at d f a s r h0 h1 = stops_repeated h0 h1

pub stops_later_at : (d : Nesting) (f : Fault) (a : Syntax) (s r : List Token) (x : Tree) (m : List Token) → starts a (mark_at s) ≡ true → Reads d a s x m → Stops d f (repeated a) m r → Stops d f (repeated a) s r
stops_later_at d f a s r x m h0 h1 h2 = stops_later m h0 h1 h2

pub stops_placed_at : (d : Nesting) (f : Fault) (a : Syntax) (s r : List Token) → Stops d f a s r → Stops d f (placed a) s r
stops_placed_at d f a s r h0 = stops_placed h0

pub stops_reduced_at : (d : Nesting) (f : Fault) (u : Reduction) (a : Syntax) (s r : List Token) → Stops d f a s r → Stops d f (reduced u a) s r
stops_reduced_at d f u a s r h0 = stops_reduced h0

pub stops_bracketed_at : (d : Nesting) (f : Fault) (a : Syntax) (s r : List Token) → Stops (in_bracket d) f a s r → Stops d f (bracketed a) s r
stops_bracketed_at d f a s r h0 = stops_bracketed h0

pub stops_enclosed_at : (d : Nesting) (f : Fault) (a : Syntax) (s r : List Token) → Stops (in_construct d) f a s r → Stops d f (enclosed a) s r
stops_enclosed_at d f a s r h0 = stops_enclosed h0

pub stops_part_at : (d : Nesting) (f : Fault) (q : Part) (s r : List Token) → Stops d f (rule q) s r → Stops d f (part q) s r
stops_part_at d f q s r h0 = stops_part h0
