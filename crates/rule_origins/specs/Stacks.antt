-- Terms on a stack.
use Rattle.std.specs.Prelude.{List, map, reverse}
use Rattle.spec_core.specs.declared.term.Term.{Term}
use Rattle.spec_core.specs.Terms.{TermTree, term_of}

-- the terms from the top, which is the last one of the list
abbrev pub from_top : List Term → List TermTree
from_top items = map term_of (reverse items)
