-- The text of a ground term is read as an operand whose one reading is that term.
use Rattle.std.proofs.Common.{ℕ, suc, ◌≡◌, ◌∙◌, ◌⊎◌, inl, inr, ◌+◌, ◌*◌, ◌-◌, ◌≤◌, ◌==◌, Bool, true, false, List, [], ◌∷◌, ◌++◌, codes, length}
use Rattle.std.proofs.Common.{Option, Some, None, nat_le, max, refl, ap, sym, subst, arith, if◌then◌else◌, append_assoc, append-nil, unwrap_or, le-leb}
use Rattle.std.specs.List.{slice_get}
use Rattle.std.proofs.Math.Nat.{le-max_left, le-max_right, max-le}
use Rattle.std.proofs.lemmas.Bool.{and_from}
use Rattle.lotos_ast.specs.declared.mark.Mark.{Mark}
use Rattle.lotos_ast.specs.declared.place.Place.{Place}
use Rattle.lotos_ast.specs.declared.token.Token.{Token}
use Rattle.lotos_ast.specs.declared.token.TokenKind.TheVariants.{Keyword, Identifier, Symbol}
use Rattle.lotos_ast.specs.Begins.{mark_at, place_at}
use Rattle.lotos_ast.specs.Fronts.{Accepts}
use Rattle.lotos_ast.specs.MarkNumbers.{is_same_mark}
use Rattle.lotos_ast.specs.Nesting.{Nesting, unlimited, nested, in_bracket, in_construct, is_within}
use Rattle.lotos_ast.specs.Notation.{part, simple, expression, infixes, optional}
use Rattle.lotos_ast.specs.Places.{next_place, place_after}
use Rattle.lotos_ast.specs.Reads.{Tree, unkept, leaf, both, left, right, absent, present, no_more, more, node, Reads, reads_sequence}
use Rattle.lotos_ast.specs.TokenMarks.{mark_of}
use Rattle.lotos_ast.specs.Tokenizes.{IsSpelled}
use Rattle.spec_core.specs.Lists.{Each, NoTwo}
use Rattle.spec_core.specs.Names.{IsOperationName, IsIdentifier, IsPlainName, IsSameName}
use Rattle.spec_core.specs.Ready.{IsSameOperation}
use Rattle.spec_core.specs.Sorts.{FitsData, HasSort, HaveSorts, OnSome, OperationFits, no_variables}
use Rattle.spec_core.specs.TermText.{infix_at, gap_before, head_name, operation_name}
use Rattle.spec_core.specs.Terms.{TermTree, TermTrees, variable, apply, no_terms, and_term, width}
use Rattle.spec_core.specs.Theories.{Operation, Theory}
use Rattle.spec_core.proofs.Lists.{each_slice_get}
use Rattle.sort_overloads.specs.Expressions.{Expression, Expressions, before, between, named, applied, no_expressions, and_expression, with_sorts, simple_expression, further}
use Rattle.sort_overloads.specs.Overloads.{IsOnlyReading}
use Rattle.script_text.specs.Meanings.{context_in}
use Rattle.value_text.specs.Values.{is_shared, name_at}
use Rattle.value_text.proofs.Names.{EndsTerm, at_place, plain_begins, stops}
use Rattle.value_text.proofs.OneTerm.{Form, plain, infixed, IsOver, over, text, suffix, gap, commas, constant_text, prefix_text, infix_text, ends_suffix, commas_end, first_sort, form_at}
use Rattle.script_laws.specs.Depths.{depth, depth_over}
use Rattle.script_laws.proofs.Bytes.{turned}
use Rattle.script_laws.proofs.Fronts.{token, name_front, identifier_front, NoStar, opening_front, closing_front, comma_front, blank_front, gap_front, of_front}
use Rattle.script_laws.proofs.Grammar.{IsNoOpening, IsNoOf, IsNoName, name_no_opening, name_no_of, sorts_part, further_part, constant_head, call_head, group_head, unsaid, said_sort, operand, lone_operand, two_operands, no_further, one_further}
use Rattle.script_laws.proofs.Within.{same_rest, from, head_of, constant_within, in_call, in_group, in_list, in_further, in_expression, in_infixes, few_brackets}
use Rattle.script_laws.proofs.Readings.{AreOnlyReadings, none_read, one_more_read, ReadsAlike, constant_read, applied_read, one_unsaid, one_said}

-- places behind two texts
placed : (p : Place) (x y : List ℕ) → place_after p (x ++ y) ≡ place_after (place_after p x) y
placed p [] y = refl
placed p (b ∷ x) y = placed (next_place p b) x y

-- so many more brackets may open here
abbrev pub HasRoom : ℕ → Nesting → Type 0
HasRoom n unlimited = Unit {0}
HasRoom n (nested b c) = (b + n ≤ 256) × (c + 2 * n ≤ 4096)

within : (n : ℕ) (d : Nesting) → HasRoom n d → is_within d ≡ true
within n unlimited h = refl
within n (nested b c) h =
    and_from (nat_le b 256) (nat_le c 4096) (le-leb b 256 (omega (arith, h.0))) (le-leb c 4096 (omega (arith, h.1)))

less_room : (m n : ℕ) (d : Nesting) → n ≤ m → HasRoom m d → HasRoom n d
less_room m n unlimited l h = tt
less_room m n (nested b c) l h = (omega (arith, l, h.0), omega (arith, l, h.1))

room_inside : (n : ℕ) (d : Nesting) → HasRoom (1 + n) d → HasRoom n (in_bracket d)
room_inside n unlimited h = tt
room_inside n (nested b c) h = (omega (arith, h.0), omega (arith, h.1))

room_between : (n : ℕ) (d : Nesting) → HasRoom (1 + n) d → HasRoom n (in_construct (in_bracket d))
room_between n unlimited h = tt
room_between n (nested b c) h = (omega (arith, h.0), omega (arith, h.1))

room_first : (t : TermTree) (ts : TermTrees) (d : Nesting) → HasRoom (depth_over (and_term t ts)) d → HasRoom (1 + depth t) d
room_first t ts d h = less_room (depth_over (and_term t ts)) (1 + depth t) d (le-max_left (1 + depth t) (depth_over ts)) h

room_others : (t : TermTree) (ts : TermTrees) (d : Nesting) → HasRoom (depth_over (and_term t ts)) d → HasRoom (depth_over ts) d
room_others t ts d h = less_room (depth_over (and_term t ts)) (depth_over ts) d (le-max_right (1 + depth t) (depth_over ts)) h

-- two bounds are one of the greater
both_below : (b x y : ℕ) → b + x ≤ 256 → b + y ≤ 256 → b + max x y ≤ 256
both_below b x y h k =
    let m : max x y ≤ 256 - b = max-le (omega (arith, h)) (omega (arith, k)) in
    omega (arith, m, h)

-- what a term doesn't go on with
abbrev Follows : List Token → Type 0
Follows ts = IsNoOpening (mark_at ts) × IsNoOf (mark_at ts)

-- the marks behind an argument
abbrev IsBehindArgument : Mark → Type 0
IsBehindArgument m = (m ≡ Mark.Comma) ⊎ (m ≡ Mark.RightParenthesis)

argument_ends : (m : Mark) → IsBehindArgument m → IsNoOpening m × IsNoOf m × IsNoName m
argument_ends m (inl e) =
    (ap (is_same_mark Mark.LeftParenthesis) e, ap (is_same_mark Mark.Of) e, subst IsNoName (sym e) refl)
argument_ends m (inr e) =
    (ap (is_same_mark Mark.LeftParenthesis) e, ap (is_same_mark Mark.Of) e, subst IsNoName (sym e) refl)

-- The tokens of a text that is spelled before others are an operand, whose one reading is this term. It is read wherever there is room for
-- its brackets, and nowhere else.
pub record IsOperand (theory : Theory) (p : Place) (s : List ℕ) (ts : List Token) (t : TermTree) (a : ℕ) : Type 0 where
  pub tokens : List Token
  pub cut : IsSpelled false p s tokens
  pub tree : Tree
  pub read : (d : Nesting) → HasRoom (depth t) d → Reads d (part simple) tokens tree ts
  pub deep : (b c : ℕ) (q : List Token) → Accepts (nested b c) (part simple) tokens q → b + depth t ≤ 256
  pub one : IsOnlyReading (context_in theory) (simple_expression tree) None t a

-- the sort behind an operation, where it is written, makes its one reading
record HasSuffix (theory : Theory) (p : Place) (s : List ℕ) (ts : List Token) (f : ℕ) (o : Operation) : Type 0 where
  tokens : List Token
  cut : IsSpelled false p s tokens
  tree : Tree
  read : (d : Nesting) → is_within d ≡ true → Reads d sorts_part tokens tree ts
  ends : IsNoOpening (mark_at tokens)
  one : (e : Expression) (us : TermTrees) → ReadsAlike theory e o f us →
      IsOnlyReading (context_in theory) (with_sorts e tree) None (apply f us) o.result

-- further arguments and the bracket behind them
record AreFurther (theory : Theory) (p : Place) (s : List ℕ) (us : List Token) (ts : TermTrees) (sorts : List ℕ) : Type 0 where
  tokens : List Token
  cut : IsSpelled false p s tokens
  last : Token
  closes : mark_of last ≡ Mark.RightParenthesis
  tree : Tree
  read : (d : Nesting) → HasRoom (depth_over ts) d → Reads (in_bracket d) further_part tokens tree (last ∷ us)
  deep : (b c : ℕ) (q : List Token) → b ≤ 256 → Accepts (nested (b + 1) (c + 1)) further_part tokens q → b + depth_over ts ≤ 256
  first : IsBehindArgument (mark_at tokens)
  only : AreOnlyReadings (context_in theory) (further tree) ts sorts

-- a name doesn't begin with `*` but behind a blank
name_star : (w z : List ℕ) → IsPlainName w → NoStar (gap_before w ++ (w ++ z))
name_star [] z h = absurd (let k = plain_begins [] h in omega (arith, k))
name_star (b ∷ w) z h = go (b == 42) refl
  where
    go : (x : Bool) → (b == 42) ≡ x → NoStar ((if x then codes " " else []) ++ ((b ∷ w) ++ z))
    go true e = refl
    go false e = turned b 42 e

module _ (theory : Theory) (fits : FitsData theory) (names : Each (λ d. IsOperationName (length d.args) d.name) theory.operations)
    (sorts : Each IsIdentifier theory.sorts) (sorts_differ : NoTwo IsSameName theory.sorts)
    (operations_differ : NoTwo IsSameOperation theory.operations) where
  suffix_read : (f : ℕ) (o : Operation) → slice_get theory.operations f ≡ Some o → (p : Place) (r : List ℕ) (ts : List Token) →
      EndsTerm r → Follows ts → IsSpelled false (place_after p (suffix theory o)) r ts → HasSuffix theory p (suffix theory o ++ r) ts f o
  suffix_read f o at p r ts ends follows rest = go (is_shared theory.operations o) refl rest
    where
      identifier : IsIdentifier (name_at theory.sorts o.result)
      identifier =
          let q = at_place IsIdentifier theory.sorts o.result sorts (each_slice_get (OperationFits theory) theory.operations f o fits.operations at).0 in
          subst IsIdentifier (sym (ap (λ z. unwrap_or z []) q.at)) q.holds

      go : (x : Bool) → is_shared theory.operations o ≡ x →
          IsSpelled false (place_after p (if x then codes " of " ++ name_at theory.sorts o.result else [])) r ts →
          HasSuffix theory p ((if x then codes " of " ++ name_at theory.sorts o.result else []) ++ r) ts f o
      go true shared rest =
          let q : Place = place_after p (codes " of ") in
          let n : Token = token Identifier q (name_at theory.sorts o.result) in
          let word : Token = token Keyword (place_after p (codes " ")) (codes "of") in
          record {
            tokens = word ∷ n ∷ ts;
            cut =
                of_front p (name_at theory.sorts o.result ++ r) (n ∷ ts)
                (identifier_front q (name_at theory.sorts o.result) r ts identifier (stops r ends) rest);
            tree = more (both unkept (leaf n)) no_more;
            read = λ d inside. said_sort d word n ts inside refl refl follows.1;
            ends = refl;
            one = λ e us k. one_said theory fits sorts sorts_differ operations_differ e o f us n at refl k;
          }
      go false alone rest =
          record {
            tokens = ts;
            cut = rest;
            tree = no_more;
            read = λ d inside. unsaid d ts follows.1;
            ends = follows.0;
            one = λ e us k. one_unsaid theory e o f us at alone k;
          }

  -- wherever a term's text stands, it is read as an operand whose one reading is the term
  abbrev IsRead : TermTree → Type 0
  IsRead t = (a : ℕ) (p : Place) (r : List ℕ) (ts : List Token) → HasSort theory no_variables t a → EndsTerm r → Follows ts →
      IsSpelled false (place_after p (text theory t)) r ts → IsOperand theory p (text theory t ++ r) ts t a

  abbrev AreRead : TermTrees → Type 0
  AreRead no_terms = Unit {0}
  AreRead (and_term t ts) = IsRead t × AreRead ts

  -- an operand, and an argument that is one operand alone, are read to what follows them
  operand_rest : (t : TermTree) (a : ℕ) (p : Place) (s : List ℕ) (ts : List Token) (k : IsOperand theory p s ts t a) →
      (d : Nesting) (q : List Token) → Accepts d (part simple) k.tokens q → q ≡ ts
  operand_rest t a p s ts k d q h = same_rest (k.read unlimited tt) h

  argument_rest : (t : TermTree) (a : ℕ) (p : Place) (s : List ℕ) (ts : List Token) (k : IsOperand theory p s ts t a) → IsNoName (mark_at ts) →
      (d : Nesting) (q : List Token) → Accepts d (part expression) k.tokens q → q ≡ ts
  argument_rest t a p s ts k stop d q h = same_rest (lone_operand unlimited k.tokens ts k.tree (k.read unlimited tt) stop) h

  further_read : (ts : TermTrees) (x : List ℕ) (p : Place) (r : List ℕ) (us : List Token) → AreRead ts →
      HaveSorts theory no_variables ts x → IsSpelled false (place_after p (commas theory ts)) r us →
      AreFurther theory p (commas theory ts ++ r) us ts x
  further_read no_terms [] p r us read h rest =
      record {
        tokens = token Symbol p (codes ")") ∷ us;
        cut = closing_front p r us rest;
        last = token Symbol p (codes ")");
        closes = refl;
        tree = no_more;
        read = λ d room. no_further (in_bracket d) (token Symbol p (codes ")")) us refl;
        deep = λ b c q few g. omega (arith, few);
        first = inr refl;
        only = none_read (context_in theory);
      }
  further_read no_terms (a ∷ x) p r us read h rest = absurd h
  further_read (and_term t ts) [] p r us read h rest = absurd h
  further_read (and_term t ts) (a ∷ x) p r us read h rest =
      let q : Place = place_after p (codes ",") in
      let behind : AreFurther theory (place_after q (text theory t)) (commas theory ts ++ r) us ts x =
      further_read ts x (place_after q (text theory t)) r us read.1 h.1
      (subst (λ z. IsSpelled false z r us) (placed q (text theory t) (commas theory ts)) rest) in
      let ends = argument_ends (mark_at behind.tokens) behind.first in
      let one : IsOperand theory q (text theory t ++ (commas theory ts ++ r)) behind.tokens t a =
      read.0 a q (commas theory ts ++ r) behind.tokens h.0 (commas_end theory fits names ts r) (ends.0, ends.1) behind.cut in
      let comma : Token = token Symbol p (codes ",") in
      let lone : Tree = node (place_at one.tokens) (both one.tree absent) in
      record {
        tokens = comma ∷ one.tokens;
        cut =
            comma_front p ((text theory t ++ commas theory ts) ++ r) one.tokens
            (subst (λ z. IsSpelled false q z one.tokens) (sym (append_assoc (text theory t) (commas theory ts) r)) one.cut);
        last = behind.last;
        closes = behind.closes;
        tree = more (both unkept lone) behind.tree;
        read = λ d room.
            let inside : HasRoom (depth t) (in_bracket d) = room_inside (depth t) d (room_first t ts d room) in
            one_further (in_bracket d) comma one.tokens behind.tokens (behind.last ∷ us) lone behind.tree (within (depth t) (in_bracket d) inside)
            refl (lone_operand (in_bracket d) one.tokens behind.tokens one.tree (one.read (in_bracket d) inside) ends.2)
            (behind.read d (room_others t ts d room));
        deep = λ b c z few g.
            let k = in_further (nested (b + 1) (c + 1)) comma one.tokens z refl g in
            let l = in_expression (nested (b + 1) (c + 1)) one.tokens k.middle k.first in
            let m = one.deep (b + 1) (c + 1) l.middle l.first in
            let same = argument_rest t a q (text theory t ++ (commas theory ts ++ r)) behind.tokens one ends.2 (nested (b + 1) (c + 1)) k.middle k.first in
            let n = behind.deep b c z few (from (nested (b + 1) (c + 1)) further_part behind.tokens k.middle z same k.second) in
            both_below b (1 + depth t) (depth_over ts) (omega (arith, m)) n;
        first = inl refl;
        only = one_more_read (context_in theory) (simple_expression one.tree) (further behind.tree) t ts a x one.one behind.only;
      }

  -- no `*` stands right behind a bracket
  gap_so : (f : ℕ) (ts : TermTrees) (d : Operation) → slice_get theory.operations f ≡ Some d → gap theory (apply f ts) ≡ gap_before d.name
  gap_so f ts d at = ap (λ o. gap_before (operation_name o)) at

  no_star_over : (f : ℕ) (ts : TermTrees) (k : IsOver theory f ts) → Form k.operation.name (width ts) → (z : List ℕ) →
      NoStar (gap_before k.operation.name ++ (text theory (apply f ts) ++ z))
  no_star_over f no_terms k (plain p none) z =
      subst (λ y. NoStar (gap_before k.operation.name ++ y)) (sym (constant_text theory f k.operation z k.at))
      (name_star k.operation.name (suffix theory k.operation ++ z) p)
  no_star_over f (and_term t ts) k (plain p none) z =
      subst (λ y. NoStar (gap_before k.operation.name ++ y)) (sym (prefix_text theory f k.operation t ts z k.at none))
      (name_star k.operation.name (40 ∷ (gap theory t ++ (text theory t ++ (commas theory ts ++ (suffix theory k.operation ++ z))))) p)
  no_star_over f (and_term t (and_term u no_terms)) k (infixed w p two some is) z =
      subst (λ y. NoStar (y ++ (text theory (apply f (and_term t (and_term u no_terms))) ++ z))) (sym (ap gap_before is))
      (subst NoStar (sym (infix_text theory f k.operation w t u z k.at some)) refl)
  no_star_over f no_terms k (infixed w p two some is) z = absurd (omega (arith, two))
  no_star_over f (and_term t no_terms) k (infixed w p two some is) z = absurd (omega (arith, two))
  no_star_over f (and_term t (and_term u (and_term v ts))) k (infixed w p two some is) z = absurd (omega (arith, two))

  no_star : (t : TermTree) (a : ℕ) (z : List ℕ) → HasSort theory no_variables t a → NoStar (gap theory t ++ (text theory t ++ z))
  no_star (variable x) a z h = absurd (cc)
  no_star (apply f ts) a z h =
      let k = over theory f ts a h in
      subst (λ g. NoStar (g ++ (text theory (apply f ts) ++ z))) (sym (gap_so f ts k.operation k.at))
      (no_star_over f ts k (form_at theory fits names f ts k) z)

  no_args : (x : List ℕ) → HaveSorts theory no_variables no_terms x → x ≡ []
  no_args [] h = refl
  no_args (a ∷ x) h = absurd h

  -- the texts, with nothing behind them
  whole_constant : (f : ℕ) (d : Operation) → slice_get theory.operations f ≡ Some d →
      text theory (apply f no_terms) ≡ d.name ++ suffix theory d
  whole_constant f d at =
      sym (append-nil (text theory (apply f no_terms))) ∙ constant_text theory f d [] at ∙ ap (λ l. d.name ++ l) (append-nil (suffix theory d))

  whole_prefix : (f : ℕ) (d : Operation) (t : TermTree) (ts : TermTrees) → slice_get theory.operations f ≡ Some d →
      infix_at d.name (suc (width ts)) ≡ None →
      text theory (apply f (and_term t ts)) ≡ d.name ++ (40 ∷ (gap theory t ++ (text theory t ++ (commas theory ts ++ suffix theory d))))
  whole_prefix f d t ts at none =
      sym (append-nil (text theory (apply f (and_term t ts)))) ∙ prefix_text theory f d t ts [] at none
      ∙ ap (λ l. d.name ++ (40 ∷ (gap theory t ++ (text theory t ++ (commas theory ts ++ l))))) (append-nil (suffix theory d))

  whole_infix : (f : ℕ) (d : Operation) (w : List ℕ) (t u : TermTree) → slice_get theory.operations f ≡ Some d → infix_at d.name 2 ≡ Some w →
      text theory (apply f (and_term t (and_term u no_terms)))
      ≡ 40 ∷ (gap theory t ++ (text theory t ++ (32 ∷ (w ++ (32 ∷ (text theory u ++ (41 ∷ suffix theory d)))))))
  whole_infix f d w t u at some =
      sym (append-nil (text theory (apply f (and_term t (and_term u no_terms))))) ∙ infix_text theory f d w t u [] at some
      ∙ ap (λ l. 40 ∷ (gap theory t ++ (text theory t ++ (32 ∷ (w ++ (32 ∷ (text theory u ++ (41 ∷ l)))))))) (append-nil (suffix theory d))

  read_constant : (f : ℕ) (k : IsOver theory f no_terms) → IsPlainName k.operation.name → (p : Place) (r : List ℕ) (ts : List Token) →
      EndsTerm r → Follows ts → IsSpelled false (place_after p (text theory (apply f no_terms))) r ts →
      IsOperand theory p (text theory (apply f no_terms) ++ r) ts (apply f no_terms) k.operation.result
  read_constant f k plain_name p r ts ends follows rest =
      let d : Operation = k.operation in
      let behind : IsSpelled false (place_after (place_after p d.name) (suffix theory d)) r ts =
      subst (λ q. IsSpelled false q r ts) (ap (place_after p) (whole_constant f d k.at) ∙ placed p d.name (suffix theory d)) rest in
      let s = suffix_read f d k.at (place_after p d.name) r ts ends follows behind in
      let front =
      name_front p d.name (suffix theory d ++ r) s.tokens plain_name (stops (suffix theory d ++ r) (ends_suffix theory d r ends)) s.cut in
      let n : Token = token front.kind p d.name in
      let head_tree : Tree = node p (right (both (leaf n) absent)) in
      record {
        tokens = n ∷ s.tokens;
        cut = subst (λ z. IsSpelled false p z (n ∷ s.tokens)) (sym (constant_text theory f d r k.at)) front.cut;
        tree = node p (both head_tree s.tree);
        read = λ e room.
            operand e (n ∷ s.tokens) s.tokens ts head_tree s.tree (constant_head e n s.tokens (within 0 e room) front.mark s.ends)
            (s.read e (within 0 e room));
        deep = λ b c q g.
            let h = head_of (nested b c) (n ∷ s.tokens) q g in
            let few = few_brackets b c (constant_within (nested b c) n s.tokens h.0 front.mark h.1) in
            omega (arith, few);
        one = s.one (named n) no_terms (constant_read theory f d n k.at (no_args d.args k.args) refl);
      }

  read_prefix : (f : ℕ) (t : TermTree) (ts : TermTrees) (k : IsOver theory f (and_term t ts)) → IsPlainName k.operation.name →
      infix_at k.operation.name (suc (width ts)) ≡ None → IsRead t → AreRead ts → (p : Place) (r : List ℕ) (us : List Token) →
      EndsTerm r → Follows us → IsSpelled false (place_after p (text theory (apply f (and_term t ts)))) r us →
      IsOperand theory p (text theory (apply f (and_term t ts)) ++ r) us (apply f (and_term t ts)) k.operation.result
  read_prefix f t ts k plain_name none read_first read_others p r us ends follows rest =
      let d : Operation = k.operation in
      let args = first_sort theory fits names t ts d.args k.args in
      let last : List ℕ = suffix theory d in
      let p1 : Place = place_after p d.name in
      let p2 : Place = place_after p1 (codes "(") in
      let p3 : Place = place_after p2 (gap theory t) in
      let p4 : Place = place_after p3 (text theory t) in
      let p5 : Place = place_after p4 (commas theory ts) in
      let places : place_after p (text theory (apply f (and_term t ts))) ≡ place_after p5 last =
      ap (place_after p) (whole_prefix f d t ts k.at none)
      ∙ placed p d.name (40 ∷ (gap theory t ++ (text theory t ++ (commas theory ts ++ last))))
      ∙ placed p2 (gap theory t) (text theory t ++ (commas theory ts ++ last))
      ∙ placed p3 (text theory t) (commas theory ts ++ last)
      ∙ placed p4 (commas theory ts) last in
      let s = suffix_read f d k.at p5 r us ends follows (subst (λ q. IsSpelled false q r us) places rest) in
      let others = further_read ts args.1 p4 (last ++ r) s.tokens read_others args.3 s.cut in
      let behind = argument_ends (mark_at others.tokens) others.first in
      let z : List ℕ = commas theory ts ++ (last ++ r) in
      let one : IsOperand theory p3 (text theory t ++ z) others.tokens t args.0 =
      read_first args.0 p3 z others.tokens args.2 (commas_end theory fits names ts (last ++ r)) (behind.0, behind.1) others.cut in
      let opening : Token = token Symbol p1 (codes "(") in
      let opened =
      opening_front p1 (gap theory t ++ (text theory t ++ z)) one.tokens (no_star t args.0 z args.2)
      (gap_front p2 (head_name theory.operations [] t) (text theory t ++ z) one.tokens one.cut) in
      let front = name_front p d.name (40 ∷ (gap theory t ++ (text theory t ++ z))) (opening ∷ one.tokens) plain_name refl opened in
      let n : Token = token front.kind p d.name in
      let lone : Tree = node (place_at one.tokens) (both one.tree absent) in
      let tree_list : Tree = both lone others.tree in
      let head_tree : Tree = node p (right (both (leaf n) (present (both unkept (both tree_list unkept))))) in
      let es : Expressions = and_expression (simple_expression one.tree) (further others.tree) in
      let only : AreOnlyReadings (context_in theory) es (and_term t ts) d.args =
      subst (AreOnlyReadings (context_in theory) es (and_term t ts)) (sym args.4)
      (one_more_read (context_in theory) (simple_expression one.tree) (further others.tree) t ts args.0 args.1 one.one others.only) in
      record {
        tokens = n ∷ opening ∷ one.tokens;
        cut = subst (λ y. IsSpelled false p y (n ∷ opening ∷ one.tokens)) (sym (prefix_text theory f d t ts r k.at none)) front.cut;
        tree = node p (both head_tree s.tree);
        read = λ e room.
            let inside : is_within e ≡ true = within (depth_over (and_term t ts)) e room in
            let room_in : HasRoom (depth t) (in_bracket e) = room_inside (depth t) e (room_first t ts e room) in
            operand e (n ∷ opening ∷ one.tokens) s.tokens us head_tree s.tree
            (call_head e n opening others.last one.tokens s.tokens tree_list inside (within (depth t) (in_bracket e) room_in) front.mark refl
            others.closes
            (reads_sequence others.tokens
            (lone_operand (in_bracket e) one.tokens others.tokens one.tree (one.read (in_bracket e) room_in) behind.2)
            (others.read e (room_others t ts e room)))) (s.read e inside);
        deep = λ b c q g.
            let e : Nesting = nested (b + 1) (c + 1) in
            let h = head_of (nested b c) (n ∷ opening ∷ one.tokens) q g in
            let i = in_call (nested b c) n opening one.tokens h.0 front.mark refl h.1 in
            let j = in_list e one.tokens i.0 i.1 in
            let l = in_expression e one.tokens j.middle j.first in
            let m = one.deep (b + 1) (c + 1) l.middle l.first in
            let same = argument_rest t args.0 p3 (text theory t ++ z) others.tokens one behind.2 e j.middle j.first in
            let few : b ≤ 256 = omega (arith, m) in
            let rest_deep = others.deep b c i.0 few (from e further_part others.tokens j.middle i.0 same j.second) in
            both_below b (1 + depth t) (depth_over ts) (omega (arith, m)) rest_deep;
        one = s.one (applied before n es) (and_term t ts) (applied_read theory f d before n es (and_term t ts) k.at refl only);
      }

  read_infix : (f : ℕ) (t u : TermTree) (k : IsOver theory f (and_term t (and_term u no_terms))) (w : List ℕ) → IsPlainName w →
      infix_at k.operation.name 2 ≡ Some w → k.operation.name ≡ 95 ∷ (w ++ 95 ∷ []) → IsRead t → IsRead u →
      (p : Place) (r : List ℕ) (us : List Token) → EndsTerm r → Follows us →
      IsSpelled false (place_after p (text theory (apply f (and_term t (and_term u no_terms))))) r us →
      IsOperand theory p (text theory (apply f (and_term t (and_term u no_terms))) ++ r) us
      (apply f (and_term t (and_term u no_terms))) k.operation.result
  read_infix f t u k w plain_name some is read_first read_second p r us ends follows rest =
      let d : Operation = k.operation in
      let x = first_sort theory fits names t (and_term u no_terms) d.args k.args in
      let y = first_sort theory fits names u no_terms x.1 x.3 in
      let last : List ℕ = suffix theory d in
      let p1 : Place = place_after p (codes "(") in
      let p2 : Place = place_after p1 (gap theory t) in
      let p3 : Place = place_after p2 (text theory t) in
      let p4 : Place = place_after p3 (codes " ") in
      let p5 : Place = place_after p4 w in
      let p6 : Place = place_after p5 (codes " ") in
      let p7 : Place = place_after p6 (text theory u) in
      let p8 : Place = place_after p7 (codes ")") in
      let places : place_after p (text theory (apply f (and_term t (and_term u no_terms)))) ≡ place_after p8 last =
      ap (place_after p) (whole_infix f d w t u k.at some)
      ∙ placed p1 (gap theory t) (text theory t ++ (32 ∷ (w ++ (32 ∷ (text theory u ++ (41 ∷ last))))))
      ∙ placed p2 (text theory t) (32 ∷ (w ++ (32 ∷ (text theory u ++ (41 ∷ last)))))
      ∙ placed p4 w (32 ∷ (text theory u ++ (41 ∷ last)))
      ∙ placed p6 (text theory u) (41 ∷ last) in
      let s = suffix_read f d k.at p8 r us ends follows (subst (λ q. IsSpelled false q r us) places rest) in
      let closing : Token = token Symbol p7 (codes ")") in
      let closed = closing_front p7 (last ++ r) s.tokens s.cut in
      let end : List ℕ = 41 ∷ (last ++ r) in
      let second : IsOperand theory p6 (text theory u ++ end) (closing ∷ s.tokens) u y.0 =
      read_second y.0 p6 end (closing ∷ s.tokens) y.2 (inr (inr (inl refl))) (refl, refl) closed in
      let front =
      name_front p4 w (32 ∷ (text theory u ++ end)) second.tokens plain_name refl
      (blank_front p5 (text theory u ++ end) second.tokens second.cut) in
      let n : Token = token front.kind p4 w in
      let behind : List ℕ = 32 ∷ (w ++ (32 ∷ (text theory u ++ end))) in
      let one : IsOperand theory p2 (text theory t ++ behind) (n ∷ second.tokens) t x.0 =
      read_first x.0 p2 behind (n ∷ second.tokens) x.2 (inr (inl refl))
      (name_no_opening (mark_of n) front.mark, name_no_of (mark_of n) front.mark)
      (blank_front p3 (w ++ (32 ∷ (text theory u ++ end))) (n ∷ second.tokens) front.cut) in
      let opening : Token = token Symbol p (codes "(") in
      let opened =
      opening_front p (gap theory t ++ (text theory t ++ behind)) one.tokens (no_star t x.0 behind x.2)
      (gap_front p1 (head_name theory.operations [] t) (text theory t ++ behind) one.tokens one.cut) in
      let inner : Tree = node (place_at one.tokens) (both one.tree (present (node p4 (both (leaf n) (both second.tree absent))))) in
      let head_tree : Tree = node p (left (both unkept (both inner unkept))) in
      let e1 : Expression = simple_expression one.tree in
      let e2 : Expression = simple_expression second.tree in
      let es : Expressions = and_expression e1 (and_expression e2 no_expressions) in
      let only : AreOnlyReadings (context_in theory) es (and_term t (and_term u no_terms)) d.args =
      subst (AreOnlyReadings (context_in theory) es (and_term t (and_term u no_terms)))
      (sym (x.4 ∙ ap (λ z. x.0 ∷ z) (y.4 ∙ ap (λ z. y.0 ∷ z) (no_args y.1 y.3))))
      (one_more_read (context_in theory) e1 (and_expression e2 no_expressions) t (and_term u no_terms) x.0 (y.0 ∷ []) one.one
      (one_more_read (context_in theory) e2 no_expressions u no_terms y.0 [] second.one (none_read (context_in theory)))) in
      record {
        tokens = opening ∷ one.tokens;
        cut = subst (λ z. IsSpelled false p z (opening ∷ one.tokens)) (sym (infix_text theory f d w t u r k.at some)) opened;
        tree = node p (both head_tree s.tree);
        read = λ e room.
            let room_t : HasRoom (depth t) (in_bracket e) = room_inside (depth t) e (room_first t (and_term u no_terms) e room) in
            let room_u : HasRoom (depth u) (in_construct (in_bracket e)) =
            room_between (depth u) e (room_first u no_terms e (room_others t (and_term u no_terms) e room)) in
            let within_in : is_within (in_bracket e) ≡ true = within (depth t) (in_bracket e) room_t in
            operand e (opening ∷ one.tokens) s.tokens us head_tree s.tree
            (group_head e opening closing one.tokens s.tokens inner within_in refl refl
            (two_operands (in_bracket e) one.tokens second.tokens (closing ∷ s.tokens) n one.tree second.tree within_in front.mark
            (one.read (in_bracket e) room_t) (second.read (in_construct (in_bracket e)) room_u) refl))
            (s.read e (within (depth_over (and_term t (and_term u no_terms))) e room));
        deep = λ b c q g.
            let e : Nesting = nested (b + 1) (c + 1) in
            let h = head_of (nested b c) (opening ∷ one.tokens) q g in
            let i = in_group (nested b c) opening one.tokens h.0 refl h.1 in
            let j = in_expression e one.tokens i.0 i.1 in
            let m = one.deep (b + 1) (c + 1) j.middle j.first in
            let same = operand_rest t x.0 p2 (text theory t ++ behind) (n ∷ second.tokens) one e j.middle j.first in
            let l = in_infixes e n second.tokens i.0 front.mark (from e (optional (part infixes)) (n ∷ second.tokens) j.middle i.0 same j.second) in
            let o = second.deep (b + 1) ((c + 1) + 1) l.0 l.1 in
            both_below b (1 + depth t) (depth_over (and_term u no_terms)) (omega (arith, m))
            (both_below b (1 + depth u) 0 (omega (arith, o)) (omega (arith, m)));
        one =
            s.one (applied between n es) (and_term t (and_term u no_terms))
            (applied_read theory f d between n es (and_term t (and_term u no_terms)) k.at is only);
      }

  read_over : (f : ℕ) (ts : TermTrees) (k : IsOver theory f ts) → AreRead ts → Form k.operation.name (width ts) →
      (p : Place) (r : List ℕ) (us : List Token) → EndsTerm r → Follows us →
      IsSpelled false (place_after p (text theory (apply f ts))) r us →
      IsOperand theory p (text theory (apply f ts) ++ r) us (apply f ts) k.operation.result
  read_over f no_terms k read (plain p none) q r us ends follows rest = read_constant f k p q r us ends follows rest
  read_over f (and_term t ts) k read (plain p none) q r us ends follows rest =
      read_prefix f t ts k p none read.0 read.1 q r us ends follows rest
  read_over f (and_term t (and_term u no_terms)) k read (infixed w p two some is) q r us ends follows rest =
      read_infix f t u k w p some is read.0 read.1.0 q r us ends follows rest
  read_over f no_terms k read (infixed w p two some is) q r us ends follows rest = absurd (omega (arith, two))
  read_over f (and_term t no_terms) k read (infixed w p two some is) q r us ends follows rest = absurd (omega (arith, two))
  read_over f (and_term t (and_term u (and_term v ts))) k read (infixed w p two some is) q r us ends follows rest =
      absurd (omega (arith, two))

  result_so : (f : ℕ) (ts : TermTrees) (a : ℕ) (k : IsOver theory f ts) → HasSort theory no_variables (apply f ts) a → k.operation.result ≡ a
  result_so f ts a k h = go (slice_get theory.operations f) k.at h
    where
      go : (o : Option Operation) → o ≡ Some k.operation → OnSome o (λ d. (d.result ≡ a) × HaveSorts theory no_variables ts d.args) →
          k.operation.result ≡ a
      go None at h = absurd h
      go (Some d) at h = let same : d ≡ k.operation = cc in ap (λ (x : Operation). x.result) (sym same) ∙ h.0

  read_apply : (f : ℕ) (ts : TermTrees) → AreRead ts → IsRead (apply f ts)
  read_apply f ts read a p r us h ends follows rest =
      let k = over theory f ts a h in
      subst (IsOperand theory p (text theory (apply f ts) ++ r) us (apply f ts)) (result_so f ts a k h)
      (read_over f ts k read (form_at theory fits names f ts k) p r us ends follows rest)

  mutual
    pub is_read : (t : TermTree) → IsRead t
    is_read (variable x) = λ a p r ts h. absurd (cc)
    is_read (apply f ts) = read_apply f ts (are_read ts)

    are_read : (ts : TermTrees) → AreRead ts
    are_read no_terms = tt
    are_read (and_term t ts) = (is_read t, are_read ts)
