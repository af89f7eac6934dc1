-- The notation that the grammar is written in, as data (extended Backus-Naur form, as in ISO 8807).
use Rattle.std.specs.Prelude.{Bool, ◌||◌}
use Rattle.lotos_ast.specs.declared.mark.Mark.{Mark}
use Rattle.lotos_ast.specs.declared.mark.Mark.TheVariants.{Identifier, Numeral, Operation, Comma, LeftParenthesis}
use Rattle.lotos_ast.specs.declared.mark.Mark.TheVariants.{RightParenthesis, ConstructorMark}
use Rattle.lotos_ast.specs.MarkNumbers.{is_same_mark}

-- the rules of the grammar, by name
pub data Part : Type 0 where
  specification : Part
  gate_list : Part
  functionality : Part
  type_definition : Part
  where_item : Part
  sort_part : Part
  operation_part : Part
  operation_names : Part
  infix_names : Part
  operation_name : Part
  equation_part : Part
  sort_equations : Part
  equations : Part
  equation : Part
  premiss : Part
  for_all : Part
  declarations : Part
  declaration : Part
  sort_pair : Part
  operation_pair : Part
  expression : Part
  infixes : Part
  simple : Part
  head : Part
  process : Part
  behaviour : Part
  enabling : Part
  disable : Part
  disabling : Part
  parallel : Part
  composing : Part
  operator : Part
  choice : Part
  choosing : Part
  unary : Part
  offer : Part
  atom : Part
  exit_value : Part
  binding : Part
  gate_choice : Part

-- tokens that a syntax tree keeps: those with one mark, or names of operations and variables
pub data Wanted : Type 0 where
  marked : Mark → Wanted
  named : Wanted

-- whether a token with this mark is one of them; a name is an identifier, a numeral or an operation
abbrev pub fits : Wanted → Mark → Bool
fits (marked k) m = is_same_mark k m
fits named m = is_same_mark Identifier m || (is_same_mark Numeral m || is_same_mark Operation m)

-- what isn't kept of a part that was read
pub data Reduction : Type 0 where
  presence : Reduction  -- whether it stands there
  last_mark : Reduction  -- of a mark and what may follow it: the mark

-- a part of the grammar
pub data Syntax : Type 0 where
  quoted : Mark → Syntax  -- a token that the syntax tree doesn't keep
  kept : Wanted → Syntax  -- a token that it keeps
  sequence : Syntax → Syntax → Syntax  -- the first, then the second
  either : Syntax → Syntax → Syntax  -- the first or the second
  optional : Syntax → Syntax
  repeated : Syntax → Syntax  -- any number of times
  placed : Syntax → Syntax  -- the tree has the place of its first token, or of the next token where it has none
  reduced : Reduction → Syntax → Syntax  -- the tree doesn't keep all of it
  bracketed : Syntax → Syntax  -- one open bracket more
  enclosed : Syntax → Syntax  -- one construct more stands round it
  part : Part → Syntax  -- a rule

infixr 30 ◌▸◌
abbrev pub ◌▸◌ : Syntax → Syntax → Syntax
a ▸ b = sequence a b

infixr 20 ◌∣◌
abbrev pub ◌∣◌ : Syntax → Syntax → Syntax
a ∣ b = either a b

-- an identifier, a name, and the comment that marks a constructor
abbrev pub identifier : Syntax
identifier = kept (marked Identifier)

abbrev pub name : Syntax
name = kept named

abbrev pub constructor_mark : Syntax
constructor_mark = kept (marked ConstructorMark)

-- one x or more, with commas between them
abbrev pub list : Syntax → Syntax
list x = x ▸ repeated (quoted Comma ▸ x)

-- one x or more; a comma between two of them may be left out
abbrev pub loose_list : Syntax → Syntax
loose_list x = x ▸ repeated (reduced presence (optional (quoted Comma)) ▸ x)

-- a mark m, behind which x may stand; or nothing
abbrev pub mark_and : Mark → Syntax → Syntax
mark_and m x = reduced last_mark (optional (quoted m ▸ optional x))

-- x in parentheses, which are an open bracket from the first one on
abbrev pub in_parentheses : Syntax → Syntax
in_parentheses x = bracketed (quoted LeftParenthesis ▸ x ▸ quoted RightParenthesis)
