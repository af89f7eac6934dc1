-- A repeated part: nothing yet, one more, and its end; and lists.
use Rattle.std.proofs.Common.{List, [], ◌∷◌, ◌++◌, true, false, ◌≡◌, refl, sym, subst, ap, ◌∙◌, map, append_assoc}
use Rattle.std.specs.List.{insert}
use Rattle.std.proofs.lemmas.List.{append-nil, map-append}
use Rattle.std.proofs.lemmas.Simd.{map-map}
use Rattle.lotos_ast.specs.declared.token.Token.{Token}
use Rattle.lotos_ast.specs.Notation.{Syntax, sequence, repeated}
use Rattle.lotos_ast.specs.Begins.{mark_at, starts}
use Rattle.lotos_ast.specs.Nesting.{Nesting}
use Rattle.lotos_ast.specs.Reads.{Tree, Reads, reads_sequence, reads_no_more, reads_more}
use Rattle.lotos_ast.specs.ListTrees.{repeated_tree, list_tree, behind}
use Rattle.syntax_cursor.specs.declared.parse_fault.ParseFault.{ParseFault}
use Rattle.syntax_cursor.specs.Parsers.{Halts}
use Rattle.syntax_cursor.specs.Loops.{Repeats}
use Rattle.syntax_cursor.proofs.Rows.{halts_memory, halts_first, halts_second, halts_repeated, halts_later}

pub repeats_none : (d : Nesting) (a : Syntax) (s : List Token) → Repeats d a s [] s
repeats_none d a s = record { reads = λ ys r h. h; halts = λ e r h. h }

one_more : (d : Nesting) (a : Syntax) (s : List Token) (xs : List Tree) (m : List Token) (x : Tree) (r : List Token) →
    Repeats d a s xs m → starts a (mark_at m) ≡ true → Reads d a m x r →
    Repeats d a s (xs ++ x ∷ []) r
one_more d a s xs m x r h b g = record {
  reads = λ ys q k. subst (λ z. Reads d (repeated a) s (repeated_tree z) q) (sym (append_assoc xs (x ∷ []) ys))
      (h.reads (x ∷ ys) q (reads_more r b g k));
  halts = λ e q k. h.halts e q (halts_later e d a m q x r b g k);
}

pub repeats_next : {T : Type 0} (d : Nesting) (f : T → Tree) (a : Syntax) (s : List Token) (all : List T) (m : List Token) (x : T)
    (r : List Token) (now : List T) →
    Repeats d a s (map f all) m → starts a (mark_at m) ≡ true → Reads d a m (f x) r → now ≡ all ++ x ∷ [] →
    Repeats d a s (map f now) r
repeats_next d f a s all m x r now h b g e =
    subst (λ z. Repeats d a s z r) (sym (ap (map f) e ∙ map-append f all (x ∷ []))) (one_more d a s (map f all) m (f x) r h b g)

pub repeats_all : (d : Nesting) (a : Syntax) (s : List Token) (xs : List Tree) (m : List Token) →
    Repeats d a s xs m → starts a (mark_at m) ≡ false →
    Reads d (repeated a) s (repeated_tree xs) m
repeats_all d a s xs m h b = subst (λ z. Reads d (repeated a) s (repeated_tree z) m) (append-nil xs) (h.reads [] m (reads_no_more b refl))

pub repeats_halts : (e : ParseFault) (d : Nesting) (a : Syntax) (s : List Token) (xs : List Tree) (m r : List Token) →
    Repeats d a s xs m → starts a (mark_at m) ≡ true → Halts e d a m r →
    Halts e d (repeated a) s r
repeats_halts e d a s xs m r h b g = h.halts e r (halts_repeated e d a m r b g)

-- the items of a list behind its first one
pub reads_behind : {T : Type 0} (d : Nesting) (f : T → Tree) (a : Syntax) (s r : List Token) (all : List T) →
    Reads d (repeated a) s (repeated_tree (map (λ x. behind (f x)) all)) r →
    Reads d (repeated a) s (repeated_tree (map behind (map f all))) r
reads_behind d f a s r all h = subst (λ z. Reads d (repeated a) s (repeated_tree z) r) (sym (map-map behind f all)) h

-- an item and those behind it, put together
pub reads_list : {T : Type 0} (d : Nesting) (f : T → Tree) (a b : Syntax) (s m r : List Token) (first : T) (rest now : List T) →
    Reads d a s (f first) m → Reads d (repeated b) m (repeated_tree (map behind (map f rest))) r → now ≡ insert rest 0 first →
    Reads d (sequence a (repeated b)) s (list_tree (map f now)) r
reads_list d f a b s m r first rest now h k e =
    subst (λ z. Reads d (sequence a (repeated b)) s (list_tree (map f z)) r) (sym e) (reads_sequence m h k)

-- what the loops and lists need
pub ruleset loop_steps = (repeats_none, repeats_all, repeats_halts, reads_behind, reads_list, halts_memory, halts_first, halts_second)
