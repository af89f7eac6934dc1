-- Equations by the operations of their left sides, as the code keeps them.
use Rattle.std.specs.Prelude.{ℕ, ◌≡◌, nat_eq, List, [], Bool, false, map, Option, Some, None, Vec}
use Rattle.std.specs.Borrow.{Bor}
use Rattle.std.specs.List.{filter}
use Rattle.std.specs.Option.{option_map_or}
use Rattle.std.specs.declared.alloc.Global.{Global}
use Rattle.indexmap.specs.IndexMap.{get}
use Rattle.spec_core.specs.Terms.{TermTree, variable, apply}
use Rattle.spec_core.specs.Theories.{ConditionalEquation, equation_of}
use Rattle.cover_search.specs.declared.heads.Headed.{Headed}
use Rattle.cover_search.specs.declared.heads.HeadIndex.{HeadIndex}

-- whether a term is this operation over some terms
abbrev pub is_application : ℕ → TermTree → Bool
is_application f (variable x) = false
is_application f (apply g ts) = nat_eq f g

-- whether an equation's left side is this operation over some terms
abbrev pub is_headed : ℕ → ConditionalEquation → Bool
is_headed f e = is_application f e.left

-- the equations of an operation among these
abbrev pub headed : ℕ → List ConditionalEquation → List ConditionalEquation
headed f es = filter (is_headed f) es

abbrev pub headed_equation : Headed → ConditionalEquation
headed_equation e = equation_of e.equation.now

abbrev pub equations_at : List Headed → List ConditionalEquation
equations_at es = map headed_equation es

-- the same where there may be none
abbrev pub headed_in : Option (Bor (List Headed)) → List ConditionalEquation
headed_in None = []
headed_in (Some es) = equations_at es.now

-- those that an index has for an operation
abbrev pub headed_at : HeadIndex → ℕ → List ConditionalEquation
headed_at index f = option_map_or (λ (es : Vec Headed Global). equations_at es.items) (get nat_eq index.all f) []

-- the index has for each operation its equations, in their order
abbrev pub IsHeadIndexOf : HeadIndex → List ConditionalEquation → Type 0
IsHeadIndexOf index es = (f : ℕ) → headed_at index f ≡ headed f es
