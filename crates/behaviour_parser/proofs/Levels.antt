-- The levels of operators, and behaviours without an operator, from the parts that were read.
use Rattle.std.proofs.Common.{List, true, false, ◌≡◌, refl, sym, subst}
use Rattle.lotos_ast.specs.declared.mark.Mark.{Mark}
use Rattle.lotos_ast.specs.declared.place.Place.{Place}
use Rattle.lotos_ast.specs.declared.token.Token.{Token}
use Rattle.lotos_ast.specs.MarkNumbers.{is_same_mark}
use Rattle.lotos_ast.specs.Notation.{Part, Syntax, quoted, optional, enclosed, part, ◌▸◌, declarations, behaviour, enabling, disable, disabling, parallel, composing, operator, choice, choosing, unary}
use Rattle.lotos_ast.specs.Grammar.{rule, prefixed}
use Rattle.lotos_ast.specs.Begins.{mark_at, place_at, starts}
use Rattle.lotos_ast.specs.Nesting.{Nesting, in_bracket, in_construct}
use Rattle.lotos_ast.specs.Reads.{Tree, unkept, both, absent, present, node, Reads, reads_sequence, reads_absent, reads_present, reads_enclosed, reads_part}
use Rattle.syntax_cursor.specs.declared.parse_fault.ParseFault.{ParseFault}
use Rattle.syntax_cursor.specs.Parsers.{Halts}
use Rattle.syntax_cursor.proofs.Rows.{halts_memory, halts_first, halts_second, halts_optional, halts_enclosed, halts_part}
use Rattle.opening_parser.specs.declared.opening.Prefix.{Prefix}
use Rattle.opening_parser.specs.declared.opening.Heading.{Heading}
use Rattle.opening_parser.specs.Leads.{Leads}
use Rattle.opening_parser.specs.Openings.{prefix_tree, heading_tree, parenthesis_tree}

-- a level p: a part a, and b behind it, which may be left out
alone : (d : Nesting) (p a b : Part) (s m : List Token) (x : Tree) →
    rule p ≡ part a ▸ optional (part b) → Reads d (part a) s x m → starts (part b) (mark_at m) ≡ false →
    Reads d (part p) s (node (place_at s) (both x absent)) m
alone d p a b s m x e h i = reads_part refl (subst (λ z. Reads d z s (both x absent) m) (sym e) (reads_sequence m h (reads_absent i refl)))

joined : (d : Nesting) (p a b : Part) (s m r : List Token) (x y : Tree) →
    rule p ≡ part a ▸ optional (part b) → Reads d (part a) s x m → starts (part b) (mark_at m) ≡ true → Reads d (part b) m y r →
    Reads d (part p) s (node (place_at s) (both x (present y))) r
joined d p a b s m r x y e h i k =
    reads_part refl (subst (λ z. Reads d z s (both x (present y)) r) (sym e) (reads_sequence m h (reads_present i k)))

stops_first : (e : ParseFault) (d : Nesting) (p a b : Part) (s r : List Token) →
    rule p ≡ part a ▸ optional (part b) → Halts e d (part a) s r →
    Halts e d (part p) s r
stops_first e d p a b s r c h =
    halts_part e d p s r (subst (λ z. Halts e d z s r) (sym c) (halts_first e d (part a) (optional (part b)) s r h))

stops_behind : (e : ParseFault) (d : Nesting) (p a b : Part) (s m r : List Token) (x : Tree) →
    rule p ≡ part a ▸ optional (part b) → Reads d (part a) s x m → starts (part b) (mark_at m) ≡ true → Halts e d (rule b) m r →
    Halts e d (part p) s r
stops_behind e d p a b s m r x c h i k =
    halts_part e d p s r (subst (λ z. Halts e d z s r) (sym c) (halts_second e d (part a) (optional (part b)) s r x m h
    (halts_optional e d (part b) m r i (halts_part e d b m r k))))

placed_tree : (d : Nesting) (g : Syntax) (s r : List Token) (p : Place) (f : Place → Tree) (t : Tree) →
    p ≡ place_at s → t ≡ f p → Reads d g s (f (place_at s)) r →
    Reads d g s t r
placed_tree d g s r p f t c e h = subst (λ z. Reads d g s z r) (sym e) (subst (λ z. Reads d g s (f z) r) (sym c) h)

-- both places, that of the level and that of its operator
placed_trees : (d : Nesting) (g : Syntax) (s m r : List Token) (p q : Place) (f : Place → Place → Tree) (t : Tree) →
    p ≡ place_at s → q ≡ place_at m → t ≡ f p q → Reads d g s (f (place_at s) (place_at m)) r →
    Reads d g s t r
placed_trees d g s m r p q f t c k e h = placed_tree d g s r p (λ z. f z q) t c e (subst (λ z. Reads d g s (f (place_at s) z) r) (sym k) h)

-- behaviour
pub behaviour_alone : (d : Nesting) (s m : List Token) (p : Place) (x t : Tree) →
    p ≡ place_at s → Reads d (part disable) s x m → is_same_mark Mark.Enable (mark_at m) ≡ false → t ≡ node p (both x absent) →
    Reads d (part behaviour) s t m
behaviour_alone d s m p x t c h i e =
    placed_tree d (part behaviour) s m p (λ z. node z (both x absent)) t c e (alone d behaviour disable enabling s m x refl h i)

pub behaviour_halts_first : (e : ParseFault) (d : Nesting) (s r : List Token) →
    Halts e d (part disable) s r →
    Halts e d (part behaviour) s r
behaviour_halts_first e d s r h = stops_first e d behaviour disable enabling s r refl h

pub behaviour_joined : (d : Nesting) (s m q v r : List Token) (p sign : Place) (x a y t : Tree) →
    p ≡ place_at s → Reads d (part disable) s x m → sign ≡ place_at m → is_same_mark Mark.Enable (mark_at m) ≡ true →
    Reads d (quoted Mark.Enable) m unkept q → Reads d (optional (quoted Mark.Accept ▸ part declarations ▸ quoted Mark.In)) q a v →
    Reads (in_construct d) (part behaviour) v y r → t ≡ node p (both x (present (node sign (both unkept (both a y))))) →
    Reads d (part behaviour) s t r
behaviour_joined d s m q v r p sign x a y t c h k i j l o e =
    placed_trees d (part behaviour) s m r p sign (λ z w. node z (both x (present (node w (both unkept (both a y)))))) t c k e
    (joined d behaviour disable enabling s m r x (node (place_at m) (both unkept (both a y))) refl h i
    (reads_part refl (reads_sequence q j (reads_sequence v l (reads_enclosed o)))))

pub behaviour_halts_sign : (e : ParseFault) (d : Nesting) (s m r : List Token) (x : Tree) →
    Reads d (part disable) s x m → is_same_mark Mark.Enable (mark_at m) ≡ true → Halts e d (quoted Mark.Enable) m r →
    Halts e d (part behaviour) s r
behaviour_halts_sign e d s m r x h i k =
    stops_behind e d behaviour disable enabling s m r x refl h i
    (halts_first e d (quoted Mark.Enable)
    (optional (quoted Mark.Accept ▸ part declarations ▸ quoted Mark.In) ▸ enclosed (part behaviour)) m r k)

pub behaviour_halts_accepts : (e : ParseFault) (d : Nesting) (s m q r : List Token) (x : Tree) →
    Reads d (part disable) s x m → is_same_mark Mark.Enable (mark_at m) ≡ true → Reads d (quoted Mark.Enable) m unkept q →
    Halts e d (optional (quoted Mark.Accept ▸ part declarations ▸ quoted Mark.In)) q r →
    Halts e d (part behaviour) s r
behaviour_halts_accepts e d s m q r x h i j k =
    stops_behind e d behaviour disable enabling s m r x refl h i
    (halts_second e d (quoted Mark.Enable)
    (optional (quoted Mark.Accept ▸ part declarations ▸ quoted Mark.In) ▸ enclosed (part behaviour)) m r unkept q j
    (halts_first e d (optional (quoted Mark.Accept ▸ part declarations ▸ quoted Mark.In)) (enclosed (part behaviour)) q r k))

pub behaviour_halts_right : (e : ParseFault) (d : Nesting) (s m q v r : List Token) (x a : Tree) →
    Reads d (part disable) s x m → is_same_mark Mark.Enable (mark_at m) ≡ true → Reads d (quoted Mark.Enable) m unkept q →
    Reads d (optional (quoted Mark.Accept ▸ part declarations ▸ quoted Mark.In)) q a v → Halts e (in_construct d) (part behaviour) v r →
    Halts e d (part behaviour) s r
behaviour_halts_right e d s m q v r x a h i j l k =
    stops_behind e d behaviour disable enabling s m r x refl h i
    (halts_second e d (quoted Mark.Enable)
    (optional (quoted Mark.Accept ▸ part declarations ▸ quoted Mark.In) ▸ enclosed (part behaviour)) m r unkept q j
    (halts_second e d (optional (quoted Mark.Accept ▸ part declarations ▸ quoted Mark.In)) (enclosed (part behaviour)) q r a v l
    (halts_enclosed e d (part behaviour) v r k)))

-- disable
pub disable_alone : (d : Nesting) (s m : List Token) (p : Place) (x t : Tree) →
    p ≡ place_at s → Reads d (part parallel) s x m → is_same_mark Mark.Disable (mark_at m) ≡ false → t ≡ node p (both x absent) →
    Reads d (part disable) s t m
disable_alone d s m p x t c h i e =
    placed_tree d (part disable) s m p (λ z. node z (both x absent)) t c e (alone d disable parallel disabling s m x refl h i)

pub disable_halts_first : (e : ParseFault) (d : Nesting) (s r : List Token) → Halts e d (part parallel) s r → Halts e d (part disable) s r
disable_halts_first e d s r h = stops_first e d disable parallel disabling s r refl h

pub disable_joined : (d : Nesting) (s m q r : List Token) (p sign : Place) (x y t : Tree) →
    p ≡ place_at s → Reads d (part parallel) s x m → sign ≡ place_at m → is_same_mark Mark.Disable (mark_at m) ≡ true →
    Reads d (quoted Mark.Disable) m unkept q → Reads (in_construct d) (part disable) q y r →
    t ≡ node p (both x (present (node sign (both unkept y)))) →
    Reads d (part disable) s t r
disable_joined d s m q r p sign x y t c h k i j o e =
    placed_trees d (part disable) s m r p sign (λ z v. node z (both x (present (node v (both unkept y))))) t c k e
    (joined d disable parallel disabling s m r x (node (place_at m) (both unkept y)) refl h i
    (reads_part refl (reads_sequence q j (reads_enclosed o))))

pub disable_halts_sign : (e : ParseFault) (d : Nesting) (s m r : List Token) (x : Tree) →
    Reads d (part parallel) s x m → is_same_mark Mark.Disable (mark_at m) ≡ true → Halts e d (quoted Mark.Disable) m r →
    Halts e d (part disable) s r
disable_halts_sign e d s m r x h i k =
    stops_behind e d disable parallel disabling s m r x refl h i (halts_first e d (quoted Mark.Disable) (enclosed (part disable)) m r k)

pub disable_halts_right : (e : ParseFault) (d : Nesting) (s m q r : List Token) (x : Tree) →
    Reads d (part parallel) s x m → is_same_mark Mark.Disable (mark_at m) ≡ true → Reads d (quoted Mark.Disable) m unkept q →
    Halts e (in_construct d) (part disable) q r →
    Halts e d (part disable) s r
disable_halts_right e d s m q r x h i j k =
    stops_behind e d disable parallel disabling s m r x refl h i
    (halts_second e d (quoted Mark.Disable) (enclosed (part disable)) m r unkept q j (halts_enclosed e d (part disable) q r k))

-- parallel
pub parallel_alone : (d : Nesting) (s m : List Token) (p : Place) (x t : Tree) →
    p ≡ place_at s → Reads d (part choice) s x m → starts (part composing) (mark_at m) ≡ false → t ≡ node p (both x absent) →
    Reads d (part parallel) s t m
parallel_alone d s m p x t c h i e =
    placed_tree d (part parallel) s m p (λ z. node z (both x absent)) t c e (alone d parallel choice composing s m x refl h i)

pub parallel_halts_first : (e : ParseFault) (d : Nesting) (s r : List Token) → Halts e d (part choice) s r → Halts e d (part parallel) s r
parallel_halts_first e d s r h = stops_first e d parallel choice composing s r refl h

pub parallel_joined : (d : Nesting) (s m q r : List Token) (p sign : Place) (x w y t : Tree) →
    p ≡ place_at s → Reads d (part choice) s x m → sign ≡ place_at m → starts (part composing) (mark_at m) ≡ true →
    Reads d (part operator) m w q → Reads (in_construct d) (part parallel) q y r → t ≡ node p (both x (present (node sign (both w y)))) →
    Reads d (part parallel) s t r
parallel_joined d s m q r p sign x w y t c h k i j o e =
    placed_trees d (part parallel) s m r p sign (λ z v. node z (both x (present (node v (both w y))))) t c k e
    (joined d parallel choice composing s m r x (node (place_at m) (both w y)) refl h i
    (reads_part refl (reads_sequence q j (reads_enclosed o))))

pub parallel_halts_sign : (e : ParseFault) (d : Nesting) (s m r : List Token) (x : Tree) →
    Reads d (part choice) s x m → starts (part composing) (mark_at m) ≡ true → Halts e d (part operator) m r →
    Halts e d (part parallel) s r
parallel_halts_sign e d s m r x h i k =
    stops_behind e d parallel choice composing s m r x refl h i (halts_first e d (part operator) (enclosed (part parallel)) m r k)

pub parallel_halts_right : (e : ParseFault) (d : Nesting) (s m q r : List Token) (x w : Tree) →
    Reads d (part choice) s x m → starts (part composing) (mark_at m) ≡ true → Reads d (part operator) m w q →
    Halts e (in_construct d) (part parallel) q r →
    Halts e d (part parallel) s r
parallel_halts_right e d s m q r x w h i j k =
    stops_behind e d parallel choice composing s m r x refl h i
    (halts_second e d (part operator) (enclosed (part parallel)) m r w q j (halts_enclosed e d (part parallel) q r k))

-- choice
pub choice_alone : (d : Nesting) (s m : List Token) (p : Place) (x t : Tree) →
    p ≡ place_at s → Reads d (part unary) s x m → is_same_mark Mark.Brackets (mark_at m) ≡ false → t ≡ node p (both x absent) →
    Reads d (part choice) s t m
choice_alone d s m p x t c h i e =
    placed_tree d (part choice) s m p (λ z. node z (both x absent)) t c e (alone d choice unary choosing s m x refl h i)

pub choice_halts_first : (e : ParseFault) (d : Nesting) (s r : List Token) → Halts e d (part unary) s r → Halts e d (part choice) s r
choice_halts_first e d s r h = stops_first e d choice unary choosing s r refl h

pub choice_joined : (d : Nesting) (s m q r : List Token) (p sign : Place) (x y t : Tree) →
    p ≡ place_at s → Reads d (part unary) s x m → sign ≡ place_at m → is_same_mark Mark.Brackets (mark_at m) ≡ true →
    Reads d (quoted Mark.Brackets) m unkept q → Reads (in_construct d) (part choice) q y r →
    t ≡ node p (both x (present (node sign (both unkept y)))) →
    Reads d (part choice) s t r
choice_joined d s m q r p sign x y t c h k i j o e =
    placed_trees d (part choice) s m r p sign (λ z v. node z (both x (present (node v (both unkept y))))) t c k e
    (joined d choice unary choosing s m r x (node (place_at m) (both unkept y)) refl h i
    (reads_part refl (reads_sequence q j (reads_enclosed o))))

pub choice_halts_sign : (e : ParseFault) (d : Nesting) (s m r : List Token) (x : Tree) →
    Reads d (part unary) s x m → is_same_mark Mark.Brackets (mark_at m) ≡ true → Halts e d (quoted Mark.Brackets) m r →
    Halts e d (part choice) s r
choice_halts_sign e d s m r x h i k =
    stops_behind e d choice unary choosing s m r x refl h i (halts_first e d (quoted Mark.Brackets) (enclosed (part choice)) m r k)

pub choice_halts_right : (e : ParseFault) (d : Nesting) (s m q r : List Token) (x : Tree) →
    Reads d (part unary) s x m → is_same_mark Mark.Brackets (mark_at m) ≡ true → Reads d (quoted Mark.Brackets) m unkept q →
    Halts e (in_construct d) (part choice) q r →
    Halts e d (part choice) s r
choice_halts_right e d s m q r x h i j k =
    stops_behind e d choice unary choosing s m r x refl h i
    (halts_second e d (quoted Mark.Brackets) (enclosed (part choice)) m r unkept q j (halts_enclosed e d (part choice) q r k))

-- behaviours without an operator
pub prefix_read : (d : Nesting) (s m r : List Token) (p : Prefix) (x t : Tree) →
    Leads d (part unary) s (prefix_tree p) d prefixed m → Reads (in_construct d) (part unary) m x r → t ≡ prefix_tree p x →
    Reads d (part unary) s t r
prefix_read d s m r p x t h k e = subst (λ z. Reads d (part unary) s z r) (sym e) (h.reads x r (reads_enclosed k))

pub prefix_halts : (e : ParseFault) (d : Nesting) (s m r : List Token) (p : Prefix) →
    Leads d (part unary) s (prefix_tree p) d prefixed m → Halts e (in_construct d) (part unary) m r →
    Halts e d (part unary) s r
prefix_halts e d s m r p h k = h.halts e r (halts_enclosed e d (part unary) m r k)

pub heading_read : (d : Nesting) (s m r : List Token) (a : Heading) (x t : Tree) →
    Leads d (part unary) s (heading_tree a) (in_bracket d) (part behaviour) m → Reads (in_bracket d) (part behaviour) m x r →
    t ≡ heading_tree a x →
    Reads d (part unary) s t r
heading_read d s m r a x t h k e = subst (λ z. Reads d (part unary) s z r) (sym e) (h.reads x r k)

pub heading_halts : (e : ParseFault) (d : Nesting) (s m r : List Token) (a : Heading) →
    Leads d (part unary) s (heading_tree a) (in_bracket d) (part behaviour) m → Halts e (in_bracket d) (part behaviour) m r →
    Halts e d (part unary) s r
heading_halts e d s m r a h k = h.halts e r k

pub group_read : (d : Nesting) (s m q r : List Token) (p : Place) (x t : Tree) →
    Leads d (part unary) s (parenthesis_tree p) (in_bracket d) (part behaviour ▸ quoted Mark.RightParenthesis) m →
    Reads (in_bracket d) (part behaviour) m x q → Reads (in_bracket d) (quoted Mark.RightParenthesis) q unkept r →
    t ≡ parenthesis_tree p (both x unkept) →
    Reads d (part unary) s t r
group_read d s m q r p x t h k j e = subst (λ z. Reads d (part unary) s z r) (sym e) (h.reads (both x unkept) r (reads_sequence q k j))

pub group_halts_inner : (e : ParseFault) (d : Nesting) (s m r : List Token) (p : Place) →
    Leads d (part unary) s (parenthesis_tree p) (in_bracket d) (part behaviour ▸ quoted Mark.RightParenthesis) m →
    Halts e (in_bracket d) (part behaviour) m r →
    Halts e d (part unary) s r
group_halts_inner e d s m r p h k = h.halts e r (halts_first e (in_bracket d) (part behaviour) (quoted Mark.RightParenthesis) m r k)

pub group_halts_end : (e : ParseFault) (d : Nesting) (s m q r : List Token) (p : Place) (x : Tree) →
    Leads d (part unary) s (parenthesis_tree p) (in_bracket d) (part behaviour ▸ quoted Mark.RightParenthesis) m →
    Reads (in_bracket d) (part behaviour) m x q → Halts e (in_bracket d) (quoted Mark.RightParenthesis) q r →
    Halts e d (part unary) s r
group_halts_end e d s m q r p x h j k =
    h.halts e r (halts_second e (in_bracket d) (part behaviour) (quoted Mark.RightParenthesis) m r x q j k)

-- what each level needs

pub ruleset behaviour_steps = (
  behaviour_alone,
  behaviour_joined,
  behaviour_halts_first,
  behaviour_halts_sign,
  behaviour_halts_accepts,
  behaviour_halts_right,
  halts_memory,
)

pub ruleset disable_steps = (disable_alone, disable_joined, disable_halts_first, disable_halts_sign, disable_halts_right, halts_memory)

pub ruleset parallel_steps = (
  parallel_alone,
  parallel_joined,
  parallel_halts_first,
  parallel_halts_sign,
  parallel_halts_right,
  halts_memory,
)

pub ruleset choice_steps = (choice_alone, choice_joined, choice_halts_first, choice_halts_sign, choice_halts_right, halts_memory)

pub ruleset unary_steps = (
  prefix_read,
  prefix_halts,
  heading_read,
  heading_halts,
  group_read,
  group_halts_inner,
  group_halts_end,
  halts_memory,
)
