-- Equations of one sort: none yet, one more, and the last one; premisses put together.
use Rattle.std.proofs.Common.{List, [], ◌∷◌, ◌++◌, Some, Vec, true, false, ◌≡◌, refl, sym, subst, ap, ◌∙◌, map, append_assoc}
use Rattle.std.specs.List.{insert}
use Rattle.std.specs.declared.alloc.Global.{Global}
use Rattle.std.proofs.lemmas.List.{append-nil, map-append}
use Rattle.lotos_ast.specs.declared.mark.Mark.{Mark}
use Rattle.lotos_ast.specs.declared.token.Token.{Token}
use Rattle.lotos_ast.specs.declared.expression.Expr.{Expr}
use Rattle.lotos_ast.specs.declared.expression.Premiss.{Premiss}
use Rattle.lotos_ast.specs.declared.types.Equation.{Equation}
use Rattle.lotos_ast.specs.MarkNumbers.{is_same_mark}
use Rattle.lotos_ast.specs.Notation.{last_mark, mark_and, quoted, optional, part, equation, equations, ◌▸◌}
use Rattle.lotos_ast.specs.Begins.{mark_at, begins_expression}
use Rattle.lotos_ast.specs.Nesting.{Nesting}
use Rattle.lotos_ast.specs.Reads.{Tree, unkept, both, node, absent, present, Reads, reads_sequence, reads_absent, reads_present, reads_reduced, reads_part}
use Rattle.lotos_ast.specs.ListTrees.{tree_place}
use Rattle.lotos_ast.specs.ExpressionTrees.{expr_tree, premiss_tree}
use Rattle.lotos_ast.specs.TypeTrees.{first_premiss_tree, conclusion_tree, premisses_tree, sides_tree, equation_tree, equations_tree}
use Rattle.syntax_cursor.specs.declared.parse_fault.ParseFault.{ParseFault}
use Rattle.syntax_cursor.specs.Parsers.{Halts}
use Rattle.data_parser.specs.Equations.{EquationsOn}
use Rattle.syntax_cursor.proofs.Rows.{part_place, halts_memory, halts_first, halts_second, halts_optional, halts_reduced, halts_part}

pub premisses_put_together : (first : Premiss) (rest : List Premiss) (all : Vec Premiss Global) (l r : Expr) →
    all.items ≡ insert rest 0 first →
    sides_tree (Some all) l r ≡ node first.place
    (both (expr_tree first.left) (first_premiss_tree first.right (conclusion_tree (map premiss_tree rest) l r)))
premisses_put_together first rest all l r e = ap (λ z. premisses_tree z l r) e

pub equations_none : (d : Nesting) (s : List Token) → EquationsOn d s [] s
equations_none d s = record { reads = λ ys r h. h; halts = λ e r h. h }

pub equations_all : (d : Nesting) (s : List Token) (xs : List Tree) (m : List Token) →
    EquationsOn d s xs m → begins_expression (mark_at m) ≡ false →
    Reads d (optional (part equations)) s (equations_tree xs) m
equations_all d s xs m h b =
    subst (λ z. Reads d (optional (part equations)) s (equations_tree z) m) (append-nil xs) (h.reads [] m (reads_absent b refl))

-- one equation, with what follows it
one_reads : (d : Nesting) (m q r : List Token) (x y : Tree) →
    begins_expression (mark_at m) ≡ true → Reads d (part equation) m x q → Reads d (mark_and Mark.Semicolon (part equations)) q y r →
    Reads d (optional (part equations)) m (present (node (tree_place x) (both x y))) r
one_reads d m q r x y b h k = reads_present b (reads_part (part_place d equation m x q h) (reads_sequence q h k))

one_halts : (e : ParseFault) (d : Nesting) (m q r : List Token) (x : Tree) →
    begins_expression (mark_at m) ≡ true → Reads d (part equation) m x q → Halts e d (mark_and Mark.Semicolon (part equations)) q r →
    Halts e d (optional (part equations)) m r
one_halts e d m q r x b h k =
    halts_optional e d (part equations) m r b
    (halts_part e d equations m r (halts_second e d (part equation) (mark_and Mark.Semicolon (part equations)) m r x q h k))

with_one : (d : Nesting) (s : List Token) (xs : List Tree) (m q w : List Token) (x : Tree) →
    EquationsOn d s xs m → begins_expression (mark_at m) ≡ true → Reads d (part equation) m x q →
    is_same_mark Mark.Semicolon (mark_at q) ≡ true → Reads d (quoted Mark.Semicolon) q unkept w →
    EquationsOn d s (xs ++ x ∷ []) w
with_one d s xs m q w x h b g i k = record {
  reads = λ ys r j. subst (λ z. Reads d (optional (part equations)) s (equations_tree z) r) (sym (append_assoc xs (x ∷ []) ys))
      (h.reads (x ∷ ys) r (one_reads d m q r x (equations_tree ys) b g (reads_reduced refl (reads_present i (reads_sequence w k j)))));
  halts = λ e r j. h.halts e r
      (one_halts e d m q r x b g (halts_reduced e d last_mark (optional (quoted Mark.Semicolon ▸ optional (part equations))) q r
      (halts_optional e d (quoted Mark.Semicolon ▸ optional (part equations)) q r i
      (halts_second e d (quoted Mark.Semicolon) (optional (part equations)) q r unkept w k j))));
}

pub equations_next : (d : Nesting) (s : List Token) (all : List Equation) (m q w : List Token) (x : Equation) (now : List Equation) →
    EquationsOn d s (map equation_tree all) m → begins_expression (mark_at m) ≡ true → Reads d (part equation) m (equation_tree x) q →
    is_same_mark Mark.Semicolon (mark_at q) ≡ true → Reads d (quoted Mark.Semicolon) q unkept w → now ≡ all ++ x ∷ [] →
    EquationsOn d s (map equation_tree now) w
equations_next d s all m q w x now h b g i k e =
    subst (λ z. EquationsOn d s z w) (sym (ap (map equation_tree) e ∙ map-append equation_tree all (x ∷ [])))
    (with_one d s (map equation_tree all) m q w (equation_tree x) h b g i k)

pub equations_last : (d : Nesting) (s : List Token) (all : List Equation) (m q : List Token) (x : Equation) (now : List Equation) →
    EquationsOn d s (map equation_tree all) m → begins_expression (mark_at m) ≡ true → Reads d (part equation) m (equation_tree x) q →
    is_same_mark Mark.Semicolon (mark_at q) ≡ false → now ≡ all ++ x ∷ [] →
    Reads d (optional (part equations)) s (equations_tree (map equation_tree now)) q
equations_last d s all m q x now h b g i e =
    subst (λ z. Reads d (optional (part equations)) s (equations_tree z) q)
    (sym (ap (map equation_tree) e ∙ map-append equation_tree all (x ∷ [])))
    (h.reads (equation_tree x ∷ []) q (one_reads d m q q (equation_tree x) absent b g (reads_reduced refl (reads_absent i refl))))

pub halts_in_equation : (e : ParseFault) (d : Nesting) (s : List Token) (xs : List Tree) (m r : List Token) →
    EquationsOn d s xs m → begins_expression (mark_at m) ≡ true → Halts e d (part equation) m r →
    Halts e d (optional (part equations)) s r
halts_in_equation e d s xs m r h b k =
    h.halts e r (halts_optional e d (part equations) m r b
    (halts_part e d equations m r (halts_first e d (part equation) (mark_and Mark.Semicolon (part equations)) m r k)))

pub halts_at_semicolon : (e : ParseFault) (d : Nesting) (s : List Token) (xs : List Tree) (m q r : List Token) (x : Tree) →
    EquationsOn d s xs m → begins_expression (mark_at m) ≡ true → Reads d (part equation) m x q →
    is_same_mark Mark.Semicolon (mark_at q) ≡ true → Halts e d (quoted Mark.Semicolon) q r →
    Halts e d (optional (part equations)) s r
halts_at_semicolon e d s xs m q r x h b g i k =
    h.halts e r (one_halts e d m q r x b g (halts_reduced e d last_mark (optional (quoted Mark.Semicolon ▸ optional (part equations))) q r
    (halts_optional e d (quoted Mark.Semicolon ▸ optional (part equations)) q r i
    (halts_first e d (quoted Mark.Semicolon) (optional (part equations)) q r k))))

pub ruleset equation_steps = (equations_none, equations_all, equations_last, halts_in_equation, halts_at_semicolon, halts_memory)
