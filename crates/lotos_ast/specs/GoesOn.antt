-- By which tokens a part that was read would have gone on.
use Rattle.std.specs.Prelude.{[], ◌∷◌, Bool, true, false, ◌||◌, ◌&&◌}
use Rattle.lotos_ast.specs.declared.mark.Mark.{Mark}
use Rattle.lotos_ast.specs.MarkNumbers.{is_same_mark}
use Rattle.lotos_ast.specs.Notation.{Part, named, fits, Syntax, quoted, kept, sequence, either, optional, repeated}
use Rattle.lotos_ast.specs.Notation.{placed, reduced, bracketed, enclosed, part, functionality, sort_part}
use Rattle.lotos_ast.specs.Notation.{operation_part, equation_part, sort_equations, equations, equation, premiss}
use Rattle.lotos_ast.specs.Notation.{for_all, declarations, expression, infixes, simple, head, behaviour, enabling}
use Rattle.lotos_ast.specs.Notation.{disable, disabling, parallel, composing, choice, choosing, unary, offer, atom}
use Rattle.lotos_ast.specs.Notation.{exit_value, binding}
use Rattle.lotos_ast.specs.Begins.{is_among, begins_name, is_empty, starts}

abbrev pub after_expression : Mark → Bool
after_expression m = is_among (Mark.LeftParenthesis ∷ Mark.Of ∷ []) m || fits named m

abbrev pub after_equation : Mark → Bool
after_equation m = is_among (Mark.Comma ∷ Mark.DoubleArrow ∷ []) m || after_expression m

-- behind a behaviour, operators aside
abbrev pub after_process : Mark → Bool
after_process m = is_among (Mark.Semicolon ∷ Mark.Exclamation ∷ Mark.Question ∷ Mark.LeftBracket ∷ Mark.LeftParenthesis ∷ []) m

-- a rule, operators aside
abbrev pub onward : Part → Mark → Bool
onward functionality m = is_same_mark Mark.LeftParenthesis m
onward sort_part m = is_among (Mark.Comma ∷ Mark.Identifier ∷ []) m
onward operation_part m = begins_name m
onward equation_part m = is_among (Mark.ForAll ∷ Mark.OfSort ∷ Mark.Semicolon ∷ []) m || after_equation m
onward sort_equations m = is_among (Mark.ForAll ∷ Mark.Semicolon ∷ []) m || after_equation m
onward equations m = is_same_mark Mark.Semicolon m || after_equation m
onward equation m = after_equation m
onward premiss m = is_same_mark Mark.Equals m || after_expression m
onward for_all m = is_same_mark Mark.Comma m
onward declarations m = is_same_mark Mark.Comma m
onward expression m = after_expression m
onward infixes m = after_expression m
onward simple m = is_among (Mark.LeftParenthesis ∷ Mark.Of ∷ []) m
onward head m = is_same_mark Mark.LeftParenthesis m
onward behaviour m = after_process m
onward enabling m = after_process m
onward disable m = after_process m
onward disabling m = after_process m
onward parallel m = after_process m
onward composing m = after_process m
onward choice m = after_process m
onward choosing m = after_process m
onward unary m = after_process m
onward offer m = after_expression m
onward atom m = after_process m
onward exit_value m = after_expression m
onward binding m = after_expression m
onward p m = false

-- a behaviour, or a part of one that ends with a behaviour
abbrev pub ends_with_behaviour : Part → Bool
ends_with_behaviour behaviour = true
ends_with_behaviour enabling = true
ends_with_behaviour disable = true
ends_with_behaviour disabling = true
ends_with_behaviour parallel = true
ends_with_behaviour composing = true
ends_with_behaviour choice = true
ends_with_behaviour choosing = true
ends_with_behaviour unary = true
ends_with_behaviour atom = true
ends_with_behaviour p = false

abbrev pub is_operator : Mark → Bool
is_operator m = is_among (Mark.Brackets ∷ Mark.Interleave ∷ Mark.Synchronise ∷ Mark.LeftBars ∷ Mark.Disable ∷ Mark.Enable ∷ []) m

-- a rule
abbrev pub goes_on : Part → Mark → Bool
goes_on p m = onward p m || ends_with_behaviour p && is_operator m

-- a part
abbrev pub extends : Syntax → Mark → Bool
extends (quoted k) m = false
extends (kept w) m = false
extends (sequence a b) m = extends b m || is_empty b && extends a m
extends (either a b) m = extends a m || (extends b m || is_empty b && starts a m)
extends (optional a) m = starts a m || extends a m
extends (repeated a) m = starts a m || extends a m
extends (placed a) m = extends a m
extends (reduced u a) m = extends a m
extends (bracketed a) m = extends a m
extends (enclosed a) m = extends a m
extends (part p) m = goes_on p m
