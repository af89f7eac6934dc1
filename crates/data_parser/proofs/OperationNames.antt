-- Operations with one list of sorts: the first one, the next one, and the sorts.
use Rattle.std.proofs.Common.{List, [], ◌∷◌, ◌++◌, Bool, true, false, ◌||◌, Option, Some, Vec, ◌≡◌, sym, subst, append_assoc}
use Rattle.std.proofs.lemmas.List.{append-nil}
use Rattle.std.specs.declared.alloc.Global.{Global}
use Rattle.lotos_ast.specs.declared.mark.Mark.{Mark}
use Rattle.lotos_ast.specs.declared.place.Place.{Place}
use Rattle.lotos_ast.specs.declared.token.Token.{Token}
use Rattle.lotos_ast.specs.declared.types.DeclaredName.{DeclaredName}
use Rattle.lotos_ast.specs.declared.types.OperationName.{OperationName}
use Rattle.lotos_ast.specs.declared.types.OperationName.TheVariants.{Prefix, Infix}
use Rattle.lotos_ast.specs.declared.types.OperationDecl.{OperationDecl}
use Rattle.lotos_ast.specs.MarkNumbers.{is_same_mark}
use Rattle.lotos_ast.specs.Notation.{quoted, optional, part, operation_name, operation_names, constructor_mark, ◌▸◌}
use Rattle.lotos_ast.specs.Grammar.{infix_end, operation_declaration}
use Rattle.lotos_ast.specs.Begins.{mark_at, place_at}
use Rattle.lotos_ast.specs.declared.fault.Fault.{Fault}
use Rattle.lotos_ast.specs.Nesting.{Nesting}
use Rattle.lotos_ast.specs.Reads.{unkept, both, right, leaf, Reads, Stops, reads_sequence, reads_left, reads_right, reads_placed, reads_part, stops_first, stops_second, stops_left, stops_right, stops_placed, stops_part}
use Rattle.lotos_ast.specs.ListTrees.{optional_token_tree, behind}
use Rattle.lotos_ast.specs.TypeTrees.{names_tree, operation_name_tree, two_sorts_tree, both_sorts_tree, operation_decl_tree}
use Rattle.syntax_cursor.specs.declared.parse_fault.ParseFault.{ParseFault}
use Rattle.syntax_cursor.specs.Parsers.{Halts}
use Rattle.syntax_cursor.proofs.Rows.{halts_memory}
use Rattle.data_parser.specs.OperationNames.{is_infix, after_names, after_names_tree, NamesOn}

-- the first name, with what follows it
first_reads : (d : Nesting) (s m r : List Token) (place : Place) (name : OperationName) (mark : Option Token) (ys : List DeclaredName)
    (sorts : Option (Vec Token Global)) (result : Token) →
    Reads d (part operation_name ▸ optional constructor_mark) s (both (operation_name_tree name) (optional_token_tree mark)) m →
    place ≡ place_at s → Reads d (after_names (is_infix name)) m (after_names_tree (is_infix name) ys sorts result) r →
    Reads d (part operation_names) s (names_tree (record { place = place; name = name; mark = mark } ∷ ys) sorts result) r
first_reads d s m r place (Prefix p t) mark ys sorts result (reads_sequence u (reads_part e (reads_left b h)) k) i g =
    reads_part (sym i) (reads_left b (reads_sequence u (reads_placed e h) (reads_sequence m k g)))
first_reads d s m r place (Infix p t) mark ys sorts result (reads_sequence u (reads_part e (reads_right b h)) k) i g =
    reads_part (sym i) (reads_right b (reads_sequence u (reads_placed e h) (reads_sequence m k g)))

-- behind the first name, what follows it stops
first_stops : (d : Nesting) (f : Fault) (s m r : List Token) (name : OperationName) (mark : Option Token) →
    Reads d (part operation_name ▸ optional constructor_mark) s (both (operation_name_tree name) (optional_token_tree mark)) m →
    Stops d f (after_names (is_infix name)) m r →
    Stops d f (part operation_names) s r
first_stops d f s m r (Prefix p t) mark (reads_sequence u (reads_part e (reads_left b h)) k) g =
    stops_part (stops_left b (stops_second u (reads_placed e h) (stops_second m k g)))
first_stops d f s m r (Infix p t) mark (reads_sequence u (reads_part e (reads_right b h)) k) g =
    stops_part (stops_right b (stops_second u (reads_placed e h) (stops_second m k g)))

-- the first name itself stops
name_stops : (d : Nesting) (f : Fault) (s r : List Token) →
    Stops d f (part operation_name ▸ optional constructor_mark) s r →
    Stops d f (part operation_names) s r
name_stops d f s r (stops_first (stops_part (stops_left b h))) = stops_part (stops_left b (stops_first (stops_placed h)))
name_stops d f s r (stops_first (stops_part (stops_right b h))) = stops_part (stops_right b (stops_first (stops_placed h)))
name_stops d f s r (stops_second m (reads_part e (reads_left b h)) k) =
    stops_part (stops_left b (stops_second m (reads_placed e h) (stops_first k)))
name_stops d f s r (stops_second m (reads_part e (reads_right b h)) k) =
    stops_part (stops_right b (stops_second m (reads_placed e h) (stops_first k)))

pub halts_in_first : (e : ParseFault) (d : Nesting) (s r : List Token) →
    Halts e d (part operation_name ▸ optional constructor_mark) s r →
    Halts e d (part operation_names) s r
halts_in_first e d s r h = record { stops = λ f i. name_stops d f s r (h.stops f i) }

pub names_first : (d : Nesting) (s m : List Token) (n : DeclaredName) (now : List DeclaredName) (between : Bool) →
    Reads d (part operation_name ▸ optional constructor_mark) s (both (operation_name_tree n.name) (optional_token_tree n.mark)) m →
    n.place ≡ place_at s → now ≡ n ∷ [] → between ≡ is_infix n.name →
    NamesOn d s now between m
names_first d s m n now between h i e j =
    subst (λ z. NamesOn d s z between m) (sym e) (subst (λ z. NamesOn d s (n ∷ []) z m) (sym j) record {
      reads = λ ys sorts result r k. first_reads d s m r n.place n.name n.mark ys sorts result h i k;
      halts = λ e r k. record { stops = λ f j. first_stops d f s m r n.name n.mark h (k.stops f j) };
    })

-- a further name, with what follows it, where one before it stands between its arguments or none does
next_reads : (between : Bool) (d : Nesting) (s u m r : List Token) (n : DeclaredName) (ys : List DeclaredName)
    (sorts : Option (Vec Token Global)) (result : Token) →
    is_same_mark Mark.Comma (mark_at s) ≡ true → Reads d (quoted Mark.Comma) s unkept u →
    Reads d (part operation_name ▸ optional constructor_mark) u (both (operation_name_tree n.name) (optional_token_tree n.mark)) m →
    n.place ≡ place_at u →
    Reads d (after_names (between || is_infix n.name)) m (after_names_tree (between || is_infix n.name) ys sorts result) r →
    Reads d (after_names between) s (after_names_tree between (n ∷ ys) sorts result) r
next_reads true d s u m r n ys sorts result b c (reads_sequence w h k) i g =
    reads_left b (reads_sequence u c (reads_part (sym i) (reads_sequence w h (reads_sequence m k g))))
next_reads false d s u m r n ys sorts result b c h i g =
    reads_left b (reads_sequence u c (first_reads d u m r n.place n.name n.mark ys sorts result h i g))

next_stops : (between : Bool) (d : Nesting) (f : Fault) (s u m r : List Token) (n : DeclaredName) →
    is_same_mark Mark.Comma (mark_at s) ≡ true → Reads d (quoted Mark.Comma) s unkept u →
    Reads d (part operation_name ▸ optional constructor_mark) u (both (operation_name_tree n.name) (optional_token_tree n.mark)) m →
    Stops d f (after_names (between || is_infix n.name)) m r →
    Stops d f (after_names between) s r
next_stops true d f s u m r n b c (reads_sequence w h k) g =
    stops_left b (stops_second u c (stops_part (stops_second w h (stops_second m k g))))
next_stops false d f s u m r n b c h g = stops_left b (stops_second u c (first_stops d f u m r n.name n.mark h g))

pub names_next : (d : Nesting) (s : List Token) (all : List DeclaredName) (between : Bool) (m u v : List Token) (n : DeclaredName)
    (now : List DeclaredName) (between_now : Bool) →
    NamesOn d s all between m → is_same_mark Mark.Comma (mark_at m) ≡ true → Reads d (quoted Mark.Comma) m unkept u →
    Reads d (part operation_name ▸ optional constructor_mark) u (both (operation_name_tree n.name) (optional_token_tree n.mark)) v →
    n.place ≡ place_at u → now ≡ all ++ n ∷ [] → between_now ≡ between || is_infix n.name →
    NamesOn d s now between_now v
names_next d s all between m u v n now between_now h b c k i e j =
    subst (λ z. NamesOn d s z between_now v) (sym e) (subst (λ z. NamesOn d s (all ++ n ∷ []) z v) (sym j) record {
      reads = λ ys sorts result r g. subst (λ z. Reads d (part operation_names) s (names_tree z sorts result) r)
          (sym (append_assoc all (n ∷ []) ys)) (h.reads (n ∷ ys) sorts result r (next_reads between d m u v r n ys sorts result b c k i g));
      halts = λ x r g. h.halts x r (record { stops = λ f y. next_stops between d f m u v r n b c k (g.stops f y) });
    })

comma_stops : (between : Bool) (d : Nesting) (f : Fault) (s r : List Token) →
    is_same_mark Mark.Comma (mark_at s) ≡ true → Stops d f (quoted Mark.Comma) s r →
    Stops d f (after_names between) s r
comma_stops true d f s r b g = stops_left b (stops_first g)
comma_stops false d f s r b g = stops_left b (stops_first g)

pub halts_at_comma : (e : ParseFault) (d : Nesting) (s : List Token) (all : List DeclaredName) (between : Bool) (m r : List Token) →
    NamesOn d s all between m → is_same_mark Mark.Comma (mark_at m) ≡ true → Halts e d (quoted Mark.Comma) m r →
    Halts e d (part operation_names) s r
halts_at_comma e d s all between m r h b g = h.halts e r (record { stops = λ f i. comma_stops between d f m r b (g.stops f i) })

in_next_stops : (between : Bool) (d : Nesting) (f : Fault) (s u r : List Token) →
    is_same_mark Mark.Comma (mark_at s) ≡ true → Reads d (quoted Mark.Comma) s unkept u →
    Stops d f (part operation_name ▸ optional constructor_mark) u r →
    Stops d f (after_names between) s r
in_next_stops true d f s u r b c (stops_first h) = stops_left b (stops_second u c (stops_part (stops_first h)))
in_next_stops true d f s u r b c (stops_second m h k) = stops_left b (stops_second u c (stops_part (stops_second m h (stops_first k))))
in_next_stops false d f s u r b c h = stops_left b (stops_second u c (name_stops d f u r h))

pub halts_in_next : (e : ParseFault) (d : Nesting) (s : List Token) (all : List DeclaredName) (between : Bool) (m u r : List Token) →
    NamesOn d s all between m → is_same_mark Mark.Comma (mark_at m) ≡ true → Reads d (quoted Mark.Comma) m unkept u →
    Halts e d (part operation_name ▸ optional constructor_mark) u r →
    Halts e d (part operation_names) s r
halts_in_next e d s all between m u r h b c g = h.halts e r (record { stops = λ f i. in_next_stops between d f m u r b c (g.stops f i) })

-- two argument sorts, in a vector
pub reads_two_sorts : (d : Nesting) (s r : List Token) (first second result : Token) (sorts : Vec Token Global) →
    sorts.items ≡ first ∷ second ∷ [] →
    Reads d infix_end s (right (behind (both (leaf first) (behind (both (leaf second) (behind (leaf result))))))) r →
    Reads d infix_end s (right (both_sorts_tree (Some sorts) result)) r
reads_two_sorts d s r first second result sorts e h = subst (λ z. Reads d infix_end s (right (two_sorts_tree z result)) r) (sym e) h

-- the whole declaration
pub declaration_reads : (d : Nesting) (s m r : List Token) (o : OperationDecl) (between : Bool) →
    o.place ≡ place_at s → NamesOn d s o.names.items between m →
    Reads d (after_names between) m (after_names_tree between [] o.arguments o.result) r →
    Reads d operation_declaration s (operation_decl_tree o) r
declaration_reads d s m r o between i h g =
    reads_placed (sym i) (subst
    (λ z. Reads d (part operation_names) s (names_tree z o.arguments o.result) r) (append-nil o.names.items)
    (h.reads [] o.arguments o.result r g))

pub declaration_halts : (e : ParseFault) (d : Nesting) (s : List Token) (all : List DeclaredName) (between : Bool) (m r : List Token) →
    NamesOn d s all between m → Halts e d (after_names between) m r →
    Halts e d operation_declaration s r
declaration_halts e d s all between m r h g = let k = h.halts e r g in record { stops = λ f i. stops_placed (k.stops f i) }

pub declaration_halts_in_names : (e : ParseFault) (d : Nesting) (s r : List Token) →
    Halts e d (part operation_names) s r →
    Halts e d operation_declaration s r
declaration_halts_in_names e d s r h = record { stops = λ f i. stops_placed (h.stops f i) }

pub ruleset name_steps = (halts_in_first, halts_at_comma, halts_in_next, declaration_halts, declaration_halts_in_names, halts_memory)
