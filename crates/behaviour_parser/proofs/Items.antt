-- The items of a `where`, from the parts that were read.
use Rattle.std.proofs.Common.{List, true, false, ◌≡◌, sym, subst}
use Rattle.lotos_ast.specs.declared.mark.Mark.{Mark}
use Rattle.lotos_ast.specs.declared.token.Token.{Token}
use Rattle.lotos_ast.specs.MarkNumbers.{is_same_mark}
use Rattle.lotos_ast.specs.Notation.{Part, quoted, optional, repeated, part, type_definition, where_item, process}
use Rattle.lotos_ast.specs.Grammar.{where_part}
use Rattle.lotos_ast.specs.Begins.{mark_at, place_at, starts}
use Rattle.lotos_ast.specs.Nesting.{Nesting}
use Rattle.lotos_ast.specs.Reads.{Tree, unkept, left, right, node, Reads, reads_left, reads_right, reads_part}
use Rattle.lotos_ast.specs.ListTrees.{tree_place}
use Rattle.syntax_cursor.specs.declared.parse_fault.ParseFault.{ParseFault}
use Rattle.syntax_cursor.specs.Parsers.{Halts}
use Rattle.syntax_cursor.proofs.Rows.{halts_second, halts_optional}

-- a rule's tree has the place of the first token
part_place : {d : Nesting} {q : Part} {s r : List Token} {x : Tree} → Reads d (part q) s x r → place_at s ≡ tree_place x
part_place (reads_part e h) = e

pub type_reads : (d : Nesting) (s r : List Token) (x t : Tree) →
    starts (part type_definition) (mark_at s) ≡ true → Reads d (part type_definition) s x r → t ≡ node (tree_place x) (left x) →
    Reads d (part where_item) s t r
type_reads d s r x t b h e = subst (λ z. Reads d (part where_item) s z r) (sym e) (reads_part (part_place h) (reads_left b h))

pub process_item_reads : (d : Nesting) (s r : List Token) (x t : Tree) →
    starts (part type_definition) (mark_at s) ≡ false → Reads d (part process) s x r → t ≡ node (tree_place x) (right x) →
    Reads d (part where_item) s t r
process_item_reads d s r x t b h e = subst (λ z. Reads d (part where_item) s z r) (sym e) (reads_part (part_place h) (reads_right b h))

pub where_halts : (e : ParseFault) (d : Nesting) (s m r : List Token) →
    is_same_mark Mark.Where (mark_at s) ≡ true → Reads d (quoted Mark.Where) s unkept m → Halts e d (repeated (part where_item)) m r →
    Halts e d (optional where_part) s r
where_halts e d s m r b h k =
    halts_optional e d where_part s r b (halts_second e d (quoted Mark.Where) (repeated (part where_item)) s r unkept m h k)
