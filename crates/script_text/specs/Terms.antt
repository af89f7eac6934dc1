-- Ground terms as texts. (This profile.)
use Rattle.std.specs.Prelude.{ℕ, ◌≡◌, List, true, false, None}
use Rattle.lotos_ast.specs.declared.text_kind.TextKind.{TextKind}
use Rattle.lotos_ast.specs.declared.text_kind.TextKind.TheVariants.{Form, Sort, Term}
use Rattle.lotos_ast.specs.Notation.{part, expression}
use Rattle.lotos_ast.specs.Reads.{Tree}
use Rattle.spec_core.specs.Terms.{TermTree}
use Rattle.spec_core.specs.Theories.{Theory}
use Rattle.sort_overloads.specs.Expressions as expressions
use Rattle.sort_overloads.specs.Overloads.{IsOnlyReading}
use Rattle.script_text.specs.Meanings.{context_in, says_unknown_sort, IsUnclear}
use Rattle.script_text.specs.Texts.{IsTextOf, IsNoTextOf}

-- the text is an expression without variables, of which this term, of this sort, is the one reading
pub record SpellsTerm (theory : Theory) (text : List ℕ) (t : TermTree) (sort : ℕ) : Type 0 where
  pub tree : Tree
  pub written : IsTextOf (part expression) text tree
  pub reading : IsOnlyReading (context_in theory) (expressions.expression tree) None t sort

-- why a text spells no term, in this order: it is no expression; it says of a term that it is of an unknown sort; it hasn't exactly one
-- reading
pub data IsTermFault (theory : Theory) (text : List ℕ) : TextKind → Type 0 where
  no_expression : IsNoTextOf (part expression) text → IsTermFault theory text Form
  unknown_sort : (tree : Tree) → IsTextOf (part expression) text tree →
      says_unknown_sort (context_in theory) (expressions.expression tree) ≡ true → IsTermFault theory text Sort
  unclear : (tree : Tree) → IsTextOf (part expression) text tree →
      says_unknown_sort (context_in theory) (expressions.expression tree) ≡ false →
      IsUnclear (context_in theory) (expressions.expression tree) → IsTermFault theory text Term
