-- A chain of operations: nothing yet, one more, and its end.
use Rattle.std.proofs.Common.{List, [], ◌∷◌, ◌++◌, true, false, ◌≡◌, refl, sym, subst, ap, ◌∙◌, map, append_assoc}
use Rattle.std.proofs.lemmas.List.{append-nil, map-append}
use Rattle.lotos_ast.specs.declared.token.Token.{Token}
use Rattle.lotos_ast.specs.declared.expression.Infix.{Infix}
use Rattle.lotos_ast.specs.Notation.{fits, named, name, kept, optional, enclosed, ◌▸◌, part, infixes, simple}
use Rattle.lotos_ast.specs.Begins.{mark_at, place_at}
use Rattle.lotos_ast.specs.Nesting.{Nesting, in_construct}
use Rattle.lotos_ast.specs.Reads.{Tree, leaf, both, node, Reads, reads_sequence, reads_absent, reads_present, reads_enclosed, reads_part}
use Rattle.lotos_ast.specs.ExpressionTrees.{infixes_tree, infix_tree}
use Rattle.syntax_cursor.specs.declared.parse_fault.ParseFault.{ParseFault}
use Rattle.syntax_cursor.specs.Parsers.{Halts}
use Rattle.data_parser.specs.Chains.{ChainsOn}
use Rattle.syntax_cursor.proofs.Rows.{halts_memory, halts_first, halts_second, halts_optional, halts_enclosed, halts_part}

pub chain_none : (d : Nesting) (s : List Token) → ChainsOn d s [] d s
chain_none d s = record { reads = λ ys r h. h; halts = λ e r h. h }

pub chain_all : (d : Nesting) (s : List Token) (xs : List Tree) (n : Nesting) (m : List Token) →
    ChainsOn d s xs n m → fits named (mark_at m) ≡ false →
    Reads d (optional (part infixes)) s (infixes_tree xs) m
chain_all d s xs n m h b =
    subst (λ z. Reads d (optional (part infixes)) s (infixes_tree z) m) (append-nil xs) (h.reads [] m (reads_absent b refl))

pub chain_halts_at_name : (e : ParseFault) (d : Nesting) (s : List Token) (xs : List Tree) (n : Nesting) (m r : List Token) →
    ChainsOn d s xs n m → fits named (mark_at m) ≡ true → Halts e n (kept named) m r →
    Halts e d (optional (part infixes)) s r
chain_halts_at_name e d s xs n m r h b k =
    h.halts e r (halts_optional e n (part infixes) m r b
    (halts_part e n infixes m r (halts_first e n name (enclosed (part simple ▸ optional (part infixes))) m r k)))

pub chain_halts_at_operand : (e : ParseFault) (d : Nesting) (s : List Token) (xs : List Tree) (n : Nesting) (m q r : List Token)
    (t : Token) →
    ChainsOn d s xs n m → fits named (mark_at m) ≡ true → Reads n (kept named) m (leaf t) q → Halts e (in_construct n) (part simple) q r →
    Halts e d (optional (part infixes)) s r
chain_halts_at_operand e d s xs n m q r t h b i k =
    h.halts e r (halts_optional e n (part infixes) m r b (halts_part e n infixes m r
    (halts_second e n name (enclosed (part simple ▸ optional (part infixes))) m r (leaf t) q i
    (halts_enclosed e n (part simple ▸ optional (part infixes)) q r
    (halts_first e (in_construct n) (part simple) (optional (part infixes)) q r k)))))

one_more : (d : Nesting) (s : List Token) (xs : List Tree) (n : Nesting) (m q r : List Token) (t : Token) (x : Tree) →
    ChainsOn d s xs n m → fits named (mark_at m) ≡ true → Reads n (kept named) m (leaf t) q → Reads (in_construct n) (part simple) q x r →
    ChainsOn d s (xs ++ node (place_at m) (both (leaf t) x) ∷ []) (in_construct n) r
one_more d s xs n m q r t x h b i k = record {
  reads = λ ys p j. subst (λ z. Reads d (optional (part infixes)) s (infixes_tree z) p)
      (sym (append_assoc xs (node (place_at m) (both (leaf t) x) ∷ []) ys))
      (h.reads (node (place_at m) (both (leaf t) x) ∷ ys) p
      (reads_present b (reads_part refl (reads_sequence q i (reads_enclosed (reads_sequence r k j))))));
  halts = λ e p j. h.halts e p (halts_optional e n (part infixes) m p b (halts_part e n infixes m p
      (halts_second e n name (enclosed (part simple ▸ optional (part infixes))) m p (leaf t) q i
      (halts_enclosed e n (part simple ▸ optional (part infixes)) q p
      (halts_second e (in_construct n) (part simple) (optional (part infixes)) q p x r k j)))));
}

pub chain_next : (d : Nesting) (s : List Token) (all : List Infix) (n p : Nesting) (m q r : List Token) (t : Token) (x : Tree) (i : Infix)
    (now : List Infix) →
    ChainsOn d s (map infix_tree all) n m → fits named (mark_at m) ≡ true → Reads n (kept named) m (leaf t) q → p ≡ in_construct n →
    Reads p (part simple) q x r → infix_tree i ≡ node (place_at m) (both (leaf t) x) → now ≡ all ++ i ∷ [] →
    ChainsOn d s (map infix_tree now) p r
chain_next d s all n p m q r t x i now h b j g k f e =
    subst (λ z. ChainsOn d s z p r)
    (sym (ap (map infix_tree) e ∙ map-append infix_tree all (i ∷ []) ∙ ap (λ z. map infix_tree all ++ z ∷ []) f))
    (subst (λ z. ChainsOn d s (map infix_tree all ++ node (place_at m) (both (leaf t) x) ∷ []) z r) (sym g)
    (one_more d s (map infix_tree all) n m q r t x h b j (subst (λ z. Reads z (part simple) q x r) g k)))

pub ruleset chain_steps = (chain_none, chain_all, chain_halts_at_name, chain_halts_at_operand, halts_memory)
