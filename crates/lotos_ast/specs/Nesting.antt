-- How deep a token is nested, and why a text is refused at a token.
use Rattle.std.specs.Prelude.{ℕ, ◌+◌, Bool, true, nat_le, ◌&&◌, if◌then◌else◌}
use Rattle.lotos_ast.specs.declared.mark.Mark.{Mark}
use Rattle.lotos_ast.specs.declared.fault.Fault.{Fault}
use Rattle.lotos_ast.specs.declared.nest.Nest.{Nest}
use Rattle.lotos_ast.specs.MarkNumbers.{is_same_mark}

-- the number of open brackets and of constructs that stand round a token; or any number of both is allowed
pub data Nesting : Type 0 where
  unlimited : Nesting
  nested : ℕ → ℕ → Nesting

-- round a text's first token no bracket is open, and no construct stands
abbrev pub outermost : Nesting
outermost = nested 0 0

-- what the program's counts say
abbrev pub nesting_of : Nest → Nesting
nesting_of n = nested n.brackets n.constructs

-- one open bracket more, which is a construct too
abbrev pub in_bracket : Nesting → Nesting
in_bracket unlimited = unlimited
in_bracket (nested brackets constructs) = nested (brackets + 1) (constructs + 1)

-- one construct more
abbrev pub in_construct : Nesting → Nesting
in_construct unlimited = unlimited
in_construct (nested brackets constructs) = nested brackets (constructs + 1)

-- whether a token may be nested so deep (profile)
abbrev pub is_within : Nesting → Bool
is_within unlimited = true
is_within (nested brackets constructs) = nat_le brackets 256 && nat_le constructs 4096

-- The fault at a token with which no text goes on. At an external mark the nesting counts first.
abbrev pub fault_at : Bool → Mark → Fault
fault_at within m =
    if is_same_mark Mark.ExternalMark m then (if within then Fault.External else Fault.TooDeep)
    else Fault.Unexpected
