-- What stands before the first behaviour inside another one, from the parts that were read.
use Rattle.std.proofs.Common.{List, true, false, ◌≡◌, refl, sym, subst, ap, ◌∙◌, Option, Vec, map}
use Rattle.std.specs.List.{insert}
use Rattle.std.specs.declared.alloc.Global.{Global}
use Rattle.lotos_ast.specs.declared.mark.Mark.{Mark}
use Rattle.lotos_ast.specs.declared.place.Place.{Place}
use Rattle.lotos_ast.specs.declared.token.Token.{Token}
use Rattle.lotos_ast.specs.declared.expression.Expr.{Expr}
use Rattle.lotos_ast.specs.declared.expression.Premiss.{Premiss}
use Rattle.lotos_ast.specs.declared.declaration.Declaration.{Declaration}
use Rattle.lotos_ast.specs.declared.declaration.GateList.{GateList}
use Rattle.lotos_ast.specs.declared.behaviour.Binding.{Binding}
use Rattle.lotos_ast.specs.declared.behaviour.ExitValue.{ExitValue}
use Rattle.lotos_ast.specs.declared.behaviour.GateChoice.{GateChoice}
use Rattle.lotos_ast.specs.declared.behaviour.Offer.{Offer}
use Rattle.lotos_ast.specs.declared.behaviour.Operator.{Operator}
use Rattle.lotos_ast.specs.declared.behaviour.Action.TheVariants.{Internal, Plain, Offering}
use Rattle.lotos_ast.specs.MarkNumbers.{is_same_mark}
use Rattle.lotos_ast.specs.Notation.{Syntax, sequence, quoted, repeated, part, optional, placed, ◌▸◌, identifier, list, in_parentheses, unary, behaviour, offer, binding, gate_list, gate_choice, declaration, operator, expression, exit_value}
use Rattle.lotos_ast.specs.Grammar.{predicate, prefixed}
use Rattle.lotos_ast.specs.Begins.{mark_at, place_at, is_among, starts}
use Rattle.lotos_ast.specs.Nesting.{Nesting, in_bracket}
use Rattle.lotos_ast.specs.Reads.{Tree, unkept, leaf, both, left, right, node, Reads, reads_sequence, reads_placed, reads_left, reads_right}
use Rattle.lotos_ast.specs.ListTrees.{repeated_tree, list_tree, token_list_tree, behind}
use Rattle.lotos_ast.specs.ExpressionTrees.{values_tree}
use Rattle.lotos_ast.specs.DeclarationTrees.{declaration_tree, gate_list_tree, optional_gates_tree}
use Rattle.lotos_ast.specs.BehaviourTrees.{exit_values_tree, predicate_tree, optional_predicate_tree, offer_tree, offers_tree, binding_tree, gate_choice_tree, operator_tree, atomic_tree, brackets_tree, first_names_tree, choice_declarations_tree, choice_gates_tree}
use Rattle.syntax_cursor.specs.declared.parse_fault.ParseFault.{ParseFault}
use Rattle.syntax_cursor.specs.Parsers.{Halts}
use Rattle.syntax_cursor.proofs.Rows.{halts_second}
use Rattle.opening_parser.specs.Leads.{Leads}
use Rattle.opening_parser.specs.declared.prefix.Offers.{Offers}
use Rattle.opening_parser.specs.declared.opening.Prefix.{Prefix}
use Rattle.opening_parser.specs.declared.opening.Heading.{Heading}
use Rattle.opening_parser.specs.declared.opening.Prefix.TheVariants.{Guard, Action}
use Rattle.opening_parser.specs.declared.opening.Heading.TheVariants.{Hide, Let, Values, Gates, Par}
use Rattle.opening_parser.specs.Openings.{IsPrefix, IsHeading, CompletesChoice, heading_tree, parenthesis_tree, named_choice_tree, offering_tree, offering, choice_range, choice_part, gates_part, values_part, last_part, before_last}
use Rattle.opening_parser.proofs.Leads.{leads_none, leads_left, leads_right, leads_on, leads_within}
use Rattle.opening_parser.proofs.Chosen.{guard_chosen, internal_chosen, named_chosen, parenthesis_chosen, hide_chosen, let_chosen, choice_chosen, par_chosen, last_chosen, leads_placed}

pub same_prefix : (d : Nesting) (s m : List Token) (a b : Prefix) → a ≡ b → IsPrefix d s b m → IsPrefix d s a m
same_prefix d s m a b e h = subst (λ z. IsPrefix d s z m) (sym e) h

pub same_heading : (d : Nesting) (s m : List Token) (a b : Heading) → a ≡ b → IsHeading d s b m → IsHeading d s a m
same_heading d s m a b e h = subst (λ z. IsHeading d s z m) (sym e) h

pub guard_leads : (d : Nesting) (s m r : List Token) (p : Place) (g : Premiss) →
    is_same_mark Mark.LeftBracket (mark_at s) ≡ true → p ≡ place_at s → Reads d predicate s (predicate_tree g) m →
    Reads d (quoted Mark.Arrow) m unkept r →
    IsPrefix d s (Guard p g) r
guard_leads d s m r p g h e j k = subst (λ z. IsPrefix d s (Guard z g) r) (sym e) (leads_on (leads_on (guard_chosen d s h) j) k)

pub halts_behind_placed : (e : ParseFault) (d : Nesting) (a b : Syntax) (s m r : List Token) (x : Tree) →
    Reads d a s x m → Halts e d b m r →
    Halts e d (sequence (placed a) b) s r
halts_behind_placed e d a b s m r x h k = halts_second e d (placed a) b s r (node (place_at s) x) m (reads_placed refl h) k

pub internal_leads : (d : Nesting) (s m r : List Token) (p : Place) →
    is_same_mark Mark.I (mark_at s) ≡ true → p ≡ place_at s → Reads d (quoted Mark.I) s unkept m →
    Reads d (quoted Mark.Semicolon) m unkept r →
    IsPrefix d s (Action p (Internal p)) r
internal_leads d s m r p h e j k =
    subst (λ z. IsPrefix d s (Action z (Internal z)) r) (sym e) (leads_on (leads_on (internal_chosen d s h) (reads_placed refl j)) k)

pub plain_leads : (d : Nesting) (s m r : List Token) (p : Place) (t : Token) →
    is_same_mark Mark.Identifier (mark_at s) ≡ true → p ≡ place_at s → Reads d identifier s (leaf t) m →
    is_same_mark Mark.Semicolon (mark_at m) ≡ true → Reads d (quoted Mark.Semicolon) m unkept r →
    IsPrefix d s (Action p (Plain p t)) r
plain_leads d s m r p t h e j i k =
    subst (λ z. IsPrefix d s (Action z (Plain z t)) r) (sym e)
    (leads_within (leads_on (named_chosen d s h) j) (leads_left d _ _ m _ d _ r i (leads_on (leads_none d _ m) k)))

-- the values of an action, with what has to hold of them
pub offering_leads : (d : Nesting) (s m q r u : List Token) (first : Offer) (rest : List Offer) (o : Offers) →
    Reads d (part offer) s (offer_tree first) m → Reads d (repeated (part offer)) m (repeated_tree (map offer_tree rest)) q →
    Reads d (optional predicate) q (optional_predicate_tree o.predicate) r → Reads d (quoted Mark.Semicolon) r unkept u →
    o.offers.items ≡ insert rest 0 first →
    Leads d offering s (offering_tree o) d prefixed u
offering_leads d s m q r u first rest o h i j k e =
    subst (λ z. Leads d offering s (λ x. offers_tree z (both (optional_predicate_tree o.predicate) (behind x))) d prefixed u) (sym e)
    (leads_on (leads_on (leads_on (leads_on (leads_none d offering s) h) i) j) k)

pub offered_leads : (d : Nesting) (s m r : List Token) (p : Place) (t : Token) (o : Offers) →
    is_same_mark Mark.Identifier (mark_at s) ≡ true → p ≡ place_at s → Reads d identifier s (leaf t) m →
    is_same_mark Mark.Semicolon (mark_at m) ≡ false → starts (part offer) (mark_at m) ≡ true →
    Leads d offering m (offering_tree o) d prefixed r →
    IsPrefix d s (Action p (Offering p t o.offers o.predicate)) r
offered_leads d s m r p t o h e j i b k =
    subst (λ z. IsPrefix d s (Action z (Offering z t o.offers o.predicate)) r) (sym e)
    (leads_within (leads_on (named_chosen d s h) j) (leads_right d _ _ m _ d _ r i (leads_left d _ _ m _ d _ r b k)))

pub call_reads : (d : Nesting) (s m q r : List Token) (p : Place) (t : Token) (gates : Option GateList) (values : Option (Vec Expr Global))
    (x : Tree) →
    is_same_mark Mark.Identifier (mark_at s) ≡ true → p ≡ place_at s → Reads d identifier s (leaf t) m →
    is_same_mark Mark.Semicolon (mark_at m) ≡ false → starts (part offer) (mark_at m) ≡ false →
    Reads d (optional (part gate_list)) m (optional_gates_tree gates) q →
    Reads d (optional (in_parentheses (list (part expression)))) q (values_tree values) r →
    x ≡ node p (right (right (left (node p (both (leaf t) (right (right (both (optional_gates_tree gates) (values_tree values))))))))) →
    Reads d (part unary) s x r
call_reads d s m q r p t gates values x h e j i b k l c =
    subst (λ z. Reads d (part unary) s z r) (sym c)
    (subst (λ z. Reads d (part unary) s
    (node z (right (right (left (node z (both (leaf t) (right (right (both (optional_gates_tree gates) (values_tree values)))))))))) r)
    (sym e)
    ((named_chosen d s h).reads _ r (reads_sequence m j (reads_right i (reads_right b (reads_sequence q k l))))))

pub parenthesis_leads : (d : Nesting) (s r : List Token) (p : Place) →
    is_same_mark Mark.LeftParenthesis (mark_at s) ≡ true → p ≡ place_at s → Reads (in_bracket d) (quoted Mark.LeftParenthesis) s unkept r →
    Leads d (part unary) s (parenthesis_tree p) (in_bracket d) (part behaviour ▸ quoted Mark.RightParenthesis) r
parenthesis_leads d s r p h e j =
    subst (λ z. Leads d (part unary) s (parenthesis_tree z) (in_bracket d) (part behaviour ▸ quoted Mark.RightParenthesis) r) (sym e)
    (leads_on (parenthesis_chosen d s h) j)

pub hide_leads : (d : Nesting) (s m q r : List Token) (p : Place) (gates : Vec Token Global) →
    is_same_mark Mark.Hide (mark_at s) ≡ true → p ≡ place_at s → Reads (in_bracket d) (quoted Mark.Hide) s unkept m →
    Reads (in_bracket d) (list identifier) m (token_list_tree gates.items) q → Reads (in_bracket d) (quoted Mark.In) q unkept r →
    IsHeading d s (Hide p gates) r
hide_leads d s m q r p gates h e i j k =
    subst (λ z. IsHeading d s (Hide z gates) r) (sym e) (leads_on (leads_on (leads_on (hide_chosen d s h) i) j) k)

pub let_leads : (d : Nesting) (s m q r : List Token) (p : Place) (bindings : Vec Binding Global) →
    is_same_mark Mark.Let (mark_at s) ≡ true → p ≡ place_at s → Reads (in_bracket d) (quoted Mark.Let) s unkept m →
    Reads (in_bracket d) (list (part binding)) m (list_tree (map binding_tree bindings.items)) q →
    Reads (in_bracket d) (quoted Mark.In) q unkept r →
    IsHeading d s (Let p bindings) r
let_leads d s m q r p bindings h e i j k =
    subst (λ z. IsHeading d s (Let z bindings) r) (sym e) (leads_on (leads_on (leads_on (let_chosen d s h) i) j) k)

pub par_leads : (d : Nesting) (s m q u v r : List Token) (p : Place) (t : Token) (g : GateList) (o : Operator) →
    is_same_mark Mark.Par (mark_at s) ≡ true → p ≡ place_at s → Reads (in_bracket d) (quoted Mark.Par) s unkept m →
    Reads (in_bracket d) identifier m (leaf t) q → Reads (in_bracket d) (quoted Mark.In) q unkept u →
    Reads (in_bracket d) (part gate_list) u (gate_list_tree g) v → Reads (in_bracket d) (part operator) v (operator_tree o) r →
    IsHeading d s (Par p t g o) r
par_leads d s m q u v r p t g o h e i j k l x =
    subst (λ z. IsHeading d s (Par z t g o) r) (sym e) (leads_on (leads_on (leads_on (leads_on (leads_on (par_chosen d s h) i) j) k) l) x)

last_reads : (d : Nesting) (s r : List Token) (p : Place) (x t : Tree) →
    is_among before_last (mark_at s) ≡ false → p ≡ place_at s → Reads d last_part s x r →
    t ≡ atomic_tree p (right (right (right (right (right x))))) →
    Reads d (part unary) s t r
last_reads d s r p x t h e i c =
    subst (λ z. Reads d (part unary) s z r) (sym c)
    (subst (λ z. Reads d (part unary) s (atomic_tree z (right (right (right (right (right x)))))) r) (sym e)
    ((last_chosen d s h).reads x r i))

pub exit_reads : (d : Nesting) (s m r : List Token) (p : Place) (values : Option (Vec ExitValue Global)) (t : Tree) →
    is_among before_last (mark_at s) ≡ false → p ≡ place_at s → is_same_mark Mark.Exit (mark_at s) ≡ true →
    Reads d (quoted Mark.Exit) s unkept m → Reads d (optional (in_parentheses (list (part exit_value)))) m (exit_values_tree values) r →
    t ≡ atomic_tree p (right (right (right (right (right (left (behind (exit_values_tree values)))))))) →
    Reads d (part unary) s t r
exit_reads d s m r p values t h e i j k c = last_reads d s r p _ t h e (reads_left i (reads_sequence m j k)) c

pub stop_reads : (d : Nesting) (s r : List Token) (p : Place) (t : Tree) →
    is_among before_last (mark_at s) ≡ false → p ≡ place_at s → is_same_mark Mark.Exit (mark_at s) ≡ false →
    Reads d (quoted Mark.Stop) s unkept r → t ≡ atomic_tree p (right (right (right (right (right (right unkept)))))) →
    Reads d (part unary) s t r
stop_reads d s r p t h e i j c = last_reads d s r p _ t h e (reads_right i j) c

-- a choice, from its first name on
pub choice_leads : (d n : Nesting) (s m q r : List Token) (p f : Place) (t : Token) (h : Heading) →
    n ≡ in_bracket d → is_same_mark Mark.Choice (mark_at s) ≡ true → p ≡ place_at s → Reads n (quoted Mark.Choice) s unkept m →
    f ≡ place_at m → Reads n identifier m (leaf t) q → CompletesChoice n p f t q h r →
    IsHeading d s h r
choice_leads d n s m q r p f t h y b e i c j k =
    let begun : Leads d (part unary) s (λ x. atomic_tree (place_at s) (right (right (right (left x))))) n choice_part s =
    subst (λ z. Leads d (part unary) s (λ x. atomic_tree (place_at s) (right (right (right (left x))))) z choice_part s) (sym y)
    (choice_chosen d s b) in
    let range : Leads n (identifier ▸ choice_range) m (λ x. both (leaf t) (k.tree x)) n (part behaviour) r =
    leads_within (leads_on (leads_none n (identifier ▸ choice_range) m) j) k.leads in
    let all : Leads d (part unary) s (λ x. named_choice_tree (place_at s) (place_at m) t (k.tree x)) n (part behaviour) r =
    leads_within (leads_on begun i) (leads_placed n _ m _ n _ r (leads_placed n _ m _ n _ r range)) in
    subst (λ z. Leads d (part unary) s (heading_tree h) z (part behaviour) r) y
    (subst (λ z. Leads d (part unary) s z n (part behaviour) r) (sym k.same)
    (subst (λ z. Leads d (part unary) s (λ x. named_choice_tree z f t (k.tree x)) n (part behaviour) r) (sym e)
    (subst (λ z. Leads d (part unary) s (λ x. named_choice_tree (place_at s) z t (k.tree x)) n (part behaviour) r) (sym c) all)))

pub gates_complete : (d : Nesting) (s u v w r : List Token) (p f b : Place) (t : Token) (g : GateList) (rest : List GateChoice)
    (all : Vec GateChoice Global) →
    is_same_mark Mark.In (mark_at s) ≡ true → Reads d (quoted Mark.In) s unkept u → Reads d (part gate_list) u (gate_list_tree g) v →
    Reads d (repeated (quoted Mark.Comma ▸ part gate_choice)) v (repeated_tree (map behind (map gate_choice_tree rest))) w →
    b ≡ place_at w → Reads d (quoted Mark.Brackets) w unkept r → all.items ≡ insert rest 0 (record { place = f; gate = t; gates = g }) →
    CompletesChoice d p f t s (Gates p all b) r
gates_complete d s u v w r p f b t g rest all h i j k a z o =
    let behind_in : Tree → Tree = λ x. both (gate_list_tree g) (both (repeated_tree (map behind (map gate_choice_tree rest))) x) in
    record {
      tree = λ x. left (behind (behind_in (brackets_tree b x)));
      leads = subst (λ c. Leads d choice_range s (λ x. left (behind (behind_in (brackets_tree c x)))) d (part behaviour) r) (sym a)
          (leads_left d gates_part values_part s _ d _ r h
          (leads_on (leads_on (leads_on (leads_on (leads_none d gates_part s) i) j) k) (reads_placed refl z)));
      same = ap (λ c x. atomic_tree p (right (right (right (left (behind (choice_gates_tree c (brackets_tree b x)))))))) o;
    }

pub values_complete : (d : Nesting) (s u v w x r : List Token) (p f b : Place) (t k : Token) (names : Vec Token Global)
    (others : List Token) (rest : List Declaration) (all : Vec Declaration Global) →
    is_same_mark Mark.In (mark_at s) ≡ false →
    Reads d (repeated (quoted Mark.Comma ▸ identifier)) s (repeated_tree (map behind (map leaf others))) u →
    Reads d (quoted Mark.Colon) u unkept v → Reads d identifier v (leaf k) w →
    Reads d (repeated (quoted Mark.Comma ▸ part declaration)) w (repeated_tree (map behind (map declaration_tree rest))) x →
    b ≡ place_at x → Reads d (quoted Mark.Brackets) x unkept r → names.items ≡ insert others 0 t →
    all.items ≡ insert rest 0 (record { place = f; names = names; sort = k }) →
    CompletesChoice d p f t s (Values p (record { place = f; list = all }) b) r
values_complete d s u v w x r p f b t k names others rest all h i1 i2 i3 i4 a z o1 o2 =
    let behind_sort : Tree → Tree = λ y. behind (both (leaf k) (both (repeated_tree (map behind (map declaration_tree rest))) y)) in
    record {
      tree = λ y. right (both (repeated_tree (map behind (map leaf others))) (behind_sort (brackets_tree b y)));
      leads = subst (λ c. Leads d choice_range s
          (λ y. right (both (repeated_tree (map behind (map leaf others))) (behind_sort (brackets_tree c y)))) d (part behaviour) r) (sym a)
          (leads_right d gates_part values_part s _ d _ r h
          (leads_on (leads_on (leads_on (leads_on (leads_on (leads_none d values_part s) i1) i2) i3) i4) (reads_placed refl z)));
      same = ap (λ c y. atomic_tree p (right (right (right (left (behind (node f (choice_declarations_tree c (brackets_tree b y))))))))) o2
          ∙ ap (λ c y. atomic_tree p
          (right (right (right (left (behind (node f (first_names_tree f c (behind_sort (brackets_tree b y)))))))))) o1;
    }
