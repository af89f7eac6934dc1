-- Which tokens a part of the grammar begins with, by their marks.
use Rattle.std.specs.Prelude.{List, [], ◌∷◌, Bool, true, false, ◌||◌, ◌&&◌}
use Rattle.lotos_ast.specs.declared.mark.Mark.{Mark}
use Rattle.lotos_ast.specs.declared.place.Place.{Place}
use Rattle.lotos_ast.specs.declared.token.Token.{Token}
use Rattle.lotos_ast.specs.TokenMarks.{mark_of}
use Rattle.lotos_ast.specs.MarkNumbers.{is_same_mark}
use Rattle.lotos_ast.specs.Notation.{Part, named, fits, Syntax, quoted, kept, sequence, either, optional, repeated}
use Rattle.lotos_ast.specs.Notation.{placed, reduced, bracketed, enclosed, part, specification, gate_list}
use Rattle.lotos_ast.specs.Notation.{functionality, type_definition, where_item, sort_part, operation_part}
use Rattle.lotos_ast.specs.Notation.{operation_names, infix_names, operation_name, equation_part, sort_equations}
use Rattle.lotos_ast.specs.Notation.{equations, equation, premiss, for_all, declarations, declaration, sort_pair}
use Rattle.lotos_ast.specs.Notation.{operation_pair, expression, infixes, simple, head, process, behaviour, enabling}
use Rattle.lotos_ast.specs.Notation.{disable, disabling, parallel, composing, operator, choice, choosing, unary, offer}
use Rattle.lotos_ast.specs.Notation.{atom, exit_value, binding, gate_choice}

-- the mark of the next token, and its place; a list without tokens has the mark of the end, and no place
abbrev pub mark_at : List Token → Mark
mark_at [] = Mark.End
mark_at (t ∷ ts) = mark_of t

abbrev pub no_place : Place
no_place = record { line = 0; column = 0 }

abbrev pub place_at : List Token → Place
place_at [] = no_place
place_at (t ∷ ts) = t.place

-- whether a mark is one of these
abbrev pub is_among : List Mark → Mark → Bool
is_among [] m = false
is_among (k ∷ ks) m = is_same_mark k m || is_among ks m

abbrev pub begins_name : Mark → Bool
begins_name m = fits named m || is_same_mark Mark.Underscore m

abbrev pub begins_expression : Mark → Bool
begins_expression m = is_same_mark Mark.LeftParenthesis m || fits named m

abbrev pub begins_atom : Mark → Bool
begins_atom m = is_among (Mark.LeftParenthesis ∷ Mark.Hide ∷ Mark.Let ∷ Mark.Choice ∷ Mark.Par ∷ Mark.Exit ∷ Mark.Stop ∷ []) m

abbrev pub begins_behaviour : Mark → Bool
begins_behaviour m = is_among (Mark.LeftBracket ∷ Mark.I ∷ Mark.Identifier ∷ []) m || begins_atom m

abbrev pub begins_operator : Mark → Bool
begins_operator m = is_among (Mark.Interleave ∷ Mark.Synchronise ∷ Mark.LeftBars ∷ []) m

-- which tokens each rule begins with
abbrev pub begins : Part → Mark → Bool
begins specification m = is_same_mark Mark.Specification m
begins gate_list m = is_same_mark Mark.LeftBracket m
begins functionality m = is_among (Mark.NoExit ∷ Mark.Exit ∷ []) m
begins type_definition m = is_among (Mark.Library ∷ Mark.TypeKeyword ∷ []) m
begins where_item m = is_among (Mark.Library ∷ Mark.TypeKeyword ∷ Mark.Process ∷ []) m
begins sort_part m = is_same_mark Mark.Sorts m
begins operation_part m = is_same_mark Mark.Opns m
begins operation_names m = begins_name m
begins infix_names m = begins_name m
begins operation_name m = begins_name m
begins equation_part m = is_same_mark Mark.Eqns m
begins sort_equations m = is_same_mark Mark.OfSort m
begins equations m = begins_expression m
begins equation m = begins_expression m
begins premiss m = begins_expression m
begins for_all m = is_same_mark Mark.ForAll m
begins declarations m = is_same_mark Mark.Identifier m
begins declaration m = is_same_mark Mark.Identifier m
begins sort_pair m = is_same_mark Mark.Identifier m
begins operation_pair m = begins_name m
begins expression m = begins_expression m
begins infixes m = fits named m
begins simple m = begins_expression m
begins head m = begins_expression m
begins process m = is_same_mark Mark.Process m
begins behaviour m = begins_behaviour m
begins enabling m = is_same_mark Mark.Enable m
begins disable m = begins_behaviour m
begins disabling m = is_same_mark Mark.Disable m
begins parallel m = begins_behaviour m
begins composing m = begins_operator m
begins operator m = begins_operator m
begins choice m = begins_behaviour m
begins choosing m = is_same_mark Mark.Brackets m
begins unary m = begins_behaviour m
begins offer m = is_among (Mark.Exclamation ∷ Mark.Question ∷ []) m
begins atom m = begins_atom m
begins exit_value m = is_same_mark Mark.Any m || begins_expression m
begins binding m = is_same_mark Mark.Identifier m
begins gate_choice m = is_same_mark Mark.Identifier m

-- whether no token at all may stand for a part; each rule has at least one
abbrev pub is_empty : Syntax → Bool
is_empty (quoted k) = false
is_empty (kept w) = false
is_empty (sequence a b) = is_empty a && is_empty b
is_empty (either a b) = is_empty a || is_empty b
is_empty (optional a) = true
is_empty (repeated a) = true
is_empty (placed a) = is_empty a
is_empty (reduced u a) = is_empty a
is_empty (bracketed a) = is_empty a
is_empty (enclosed a) = is_empty a
is_empty (part p) = false

-- the second where the first part may be empty
abbrev pub or_behind : Bool → Bool → Bool → Bool
or_behind true first second = first || second
or_behind false first second = first

-- whether a part begins with a token that has this mark
abbrev pub starts : Syntax → Mark → Bool
starts (quoted k) m = is_same_mark k m
starts (kept w) m = fits w m
starts (sequence a b) m = or_behind (is_empty a) (starts a m) (starts b m)
starts (either a b) m = starts a m || starts b m
starts (optional a) m = starts a m
starts (repeated a) m = starts a m
starts (placed a) m = starts a m
starts (reduced u a) m = starts a m
starts (bracketed a) m = starts a m
starts (enclosed a) m = starts a m
starts (part p) m = begins p m
