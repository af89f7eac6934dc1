-- The pieces of a term's text, and how far they go.
use Rattle.std.proofs.Common.{ℕ, zero, suc, ◌≡◌, inl, inr, ◌==◌, ◌&&◌, Bool, true, false, if◌then◌else◌, List, [], ◌∷◌, ◌++◌, codes, length}
use Rattle.value_text.specs.Bytes.{is_name_byte}
use Rattle.std.proofs.Common.{Option, Some, None, refl, ap, sym, ◌∙◌, subst, arith, append_assoc, map, nat_eq, unwrap_or}
use Rattle.std.specs.Bool.{Decides}
use Rattle.std.specs.Char.{to_ascii_lowercase}
use Rattle.std.specs.List.{list_any, slice_get}
use Rattle.std.specs.Str.{bytes_eq}
use Rattle.std.proofs.lemmas.Slice.Eq.{bytes_eq-Decides}
use Rattle.spec_core.specs.Lists.{Each, IsOneOf}
use Rattle.spec_core.specs.Names.{IsPlainName, IsOperationName, IsIdentifier, reserved_words}
use Rattle.spec_core.specs.Sorts.{FitsData, HasSort, HaveSorts, OperationFits, no_variables}
use Rattle.spec_core.specs.TermText.{infix_at, gap_before, head_name}
use Rattle.spec_core.specs.Terms.{TermTree, TermTrees, variable, apply, no_terms, and_term, width}
use Rattle.spec_core.specs.Theories.{Operation, Theory}
use Rattle.spec_core.proofs.Lists.{each_slice_get}
use Rattle.spec_core.proofs.Members.{one_slice_get}
use Rattle.value_text.specs.Values.{is_shared, name_at}
use Rattle.value_text.proofs.Names.{EndsTerm, among, at_place, identifier_run, plain_begins, plain_run, stops}
use Rattle.value_text.proofs.OneTerm.{Form, plain, infixed, IsOver, over, text, suffix, gap, commas, constant_text, prefix_text, infix_text, ends_suffix, commas_end, first_sort, form_at}
use Rattle.value_text.proofs.Runs as runs
use Rattle.value_reader.specs.Extents.{Place, start, behind_word, behind_arguments, inside, extent}
use Rattle.value_reader.specs.Items.{Piece, word, opening, closing, comma, of_sort, other, begins_word, longer, joined_to, pieces}
use Rattle.value_reader.specs.Items.{is_of, is_word, as_sort, items_in, items, mark}
use Rattle.value_reader.specs.Spelled.{more_pieces, call_pieces, sort_pieces, pieces_over, pieces_of, pieces_of_all}

-- no name byte comes first
no_word : (r : List ℕ) → runs.Stops is_name_byte r → begins_word r ≡ false
no_word [] h = refl
no_word (b ∷ r) h = h

pieces_of_byte : (b : ℕ) (bs : List ℕ) → is_name_byte b ≡ true → pieces (b ∷ bs) ≡ joined_to (begins_word bs) b (pieces bs)
pieces_of_byte b bs h = ap (λ c. if c then joined_to (begins_word bs) b (pieces bs) else if b == 32 then pieces bs else mark b ∷ pieces bs) h

-- a run of name bytes is a word
pub pieces_of_run : (b : ℕ) (w r : List ℕ) → runs.IsRun is_name_byte (b ∷ w) → runs.Stops is_name_byte r → pieces ((b ∷ w) ++ r) ≡ word (b ∷ w) ∷ pieces r
pieces_of_run b [] r run ends =
    pieces_of_byte b r run.0 ∙ ap (λ c. joined_to c b (pieces r)) (no_word r ends)
pieces_of_run b (c ∷ w) r run ends =
    pieces_of_byte b ((c ∷ w) ++ r) run.0 ∙ ap (λ k. joined_to k b (pieces ((c ∷ w) ++ r))) run.1.0
    ∙ ap (longer b) (pieces_of_run c w r run.1 ends)

-- what isn't the word `of` stands alone
alone : (p : Piece) (ps : List Piece) → is_of p ≡ false → items_in (p ∷ ps) ≡ p ∷ items_in ps
alone p [] h = refl
alone p (q ∷ ps) h = ap (λ (b : Bool). if b && is_word q then as_sort q ∷ items_in ps else p ∷ items_in (q ∷ ps)) h

reserved_of : IsOneOf (map to_ascii_lowercase (codes "of")) reserved_words
reserved_of = one_slice_get reserved_words 24 (codes "of") refl

-- no name of an operation is the word `of`
free_name : (w : List ℕ) → IsPlainName w → w ≡ codes "of" → ⊥
free_name w (inl h) e = h.free (subst (λ z. IsOneOf (map to_ascii_lowercase z) reserved_words) (sym e) reserved_of)
free_name [] (inr h) e = cc
free_name (b ∷ w) (inr h) e =
    let sign : list_any (nat_eq b) (codes "#%&*+-./<=>@\\^~{}") ≡ true = among b (codes "#%&*+-./<=>@\\^~{}") h.bytes.0 in
    let first : b ≡ 111 = cc in
    let no : list_any (nat_eq 111) (codes "#%&*+-./<=>@\\^~{}") ≡ true = ap (λ z. list_any (nat_eq z) (codes "#%&*+-./<=>@\\^~{}")) (sym first) ∙ sign in
    cc

not_of : (w : List ℕ) → IsPlainName w → is_of (word w) ≡ false
not_of w h = go (bytes_eq w (codes "of")) (bytes_eq-Decides w (codes "of"))
  where
    go : (c : Bool) → Decides c (w ≡ codes "of") → c ≡ false
    go true d = absurd (free_name w h (d.0 refl))
    go false d = refl

-- a name is a word
items_name : (w r : List ℕ) → IsPlainName w → runs.Stops is_name_byte r → items (w ++ r) ≡ word w ∷ items r
items_name [] r h ends = absurd (let k = plain_begins [] h in omega (arith, k))
items_name (b ∷ w) r h ends = ap items_in (pieces_of_run b w r (plain_run (b ∷ w) h) ends) ∙ alone (word (b ∷ w)) (pieces r) (not_of (b ∷ w) h)

items_opening : (r : List ℕ) → items (40 ∷ r) ≡ opening ∷ items r
items_opening r = alone opening (pieces r) refl

items_closing : (r : List ℕ) → items (41 ∷ r) ≡ closing ∷ items r
items_closing r = alone closing (pieces r) refl

items_comma : (r : List ℕ) → items (44 ∷ r) ≡ comma ∷ items r
items_comma r = alone comma (pieces r) refl

items_gap : (name r : List ℕ) → items (gap_before name ++ r) ≡ items r
items_gap [] r = refl
items_gap (b ∷ bs) r = go (b == 42)
  where
    go : (c : Bool) → items ((if c then codes " " else []) ++ r) ≡ items r
    go true = refl
    go false = refl

pieces_of_word : (w r : List ℕ) → IsIdentifier w → runs.Stops is_name_byte r → pieces (w ++ r) ≡ word w ∷ pieces r
pieces_of_word [] r h ends = absurd h.letter
pieces_of_word (b ∷ w) r h ends = pieces_of_run b w r (identifier_run (b ∷ w) h) ends

module _ (theory : Theory) (fits : FitsData theory) (names : Each (λ d. IsOperationName (length d.args) d.name) theory.operations)
    (sorts : Each IsIdentifier theory.sorts) where
  items_suffix : (f : ℕ) (d : Operation) (r : List ℕ) → slice_get theory.operations f ≡ Some d → EndsTerm r →
      items (suffix theory d ++ r) ≡ sort_pieces theory d ++ items r
  items_suffix f d r at ends = go (is_shared theory.operations d)
    where
      go : (c : Bool) →
          items ((if c then codes " of " ++ name_at theory.sorts d.result else []) ++ r)
          ≡ (if c then of_sort (name_at theory.sorts d.result) ∷ [] else []) ++ items r
      go true =
          let k = at_place IsIdentifier theory.sorts d.result sorts (each_slice_get (OperationFits theory) theory.operations f d fits.operations at).0 in
          let n : name_at theory.sorts d.result ≡ k.item = ap (λ o. unwrap_or o []) k.at in
          ap (λ z. items ((codes " of " ++ z) ++ r)) n
          ∙ ap (λ ps. items_in (word (codes "of") ∷ ps)) (pieces_of_word k.item r k.holds (stops r ends))
          ∙ ap (λ z. of_sort z ∷ items r) (sym n)
      go false = refl

  -- the pieces of a term's text, and then those of what follows
  abbrev HasPieces : TermTree → Type 0
  HasPieces t = (a : ℕ) (r : List ℕ) → HasSort theory no_variables t a → EndsTerm r → items (text theory t ++ r) ≡ pieces_of theory t ++ items r

  abbrev AllHave : TermTrees → Type 0
  AllHave no_terms = Unit {0}
  AllHave (and_term t ts) = HasPieces t × AllHave ts

  items_commas : (ts : TermTrees) (x r : List ℕ) → AllHave ts → HaveSorts theory no_variables ts x →
      items (commas theory ts ++ r) ≡ more_pieces (pieces_of_all theory ts) ++ items r
  items_commas no_terms x r have h = items_closing r
  items_commas (and_term t ts) [] r have h = absurd h
  items_commas (and_term t ts) (a ∷ x) r have h =
      items_comma ((text theory t ++ commas theory ts) ++ r)
      ∙ ap (λ l. comma ∷ items l) (append_assoc (text theory t) (commas theory ts) r)
      ∙ ap (λ l. comma ∷ l) (have.0 a (commas theory ts ++ r) h.0 (commas_end theory fits names ts r))
      ∙ ap (λ l. comma ∷ (pieces_of theory t ++ l)) (items_commas ts x r have.1 h.1)
      ∙ ap (λ l. comma ∷ l) (sym (append_assoc (pieces_of theory t) (more_pieces (pieces_of_all theory ts)) (items r)))

  pub pieces_at : (f : ℕ) (ts : TermTrees) (d : Operation) (o : Option (List ℕ)) → slice_get theory.operations f ≡ Some d →
      infix_at d.name (width ts) ≡ o →
      pieces_of theory (apply f ts) ≡ call_pieces d.name o (pieces_of_all theory ts) ++ sort_pieces theory d
  pieces_at f ts d o at form =
      ap (λ x. pieces_over theory x (width ts) (pieces_of_all theory ts)) at
      ∙ ap (λ x. call_pieces d.name x (pieces_of_all theory ts) ++ sort_pieces theory d) form

  over_form : (f : ℕ) (ts : TermTrees) (k : IsOver theory f ts) → AllHave ts → Form k.operation.name (width ts) → (r : List ℕ) → EndsTerm r →
      items (text theory (apply f ts) ++ r) ≡ pieces_of theory (apply f ts) ++ items r
  over_form f no_terms k have (plain p none) r ends =
      let d : Operation = k.operation in
      ap items (constant_text theory f d r k.at)
      ∙ items_name d.name (suffix theory d ++ r) p (stops (suffix theory d ++ r) (ends_suffix theory d r ends))
      ∙ ap (λ l. word d.name ∷ l) (items_suffix f d r k.at ends)
      ∙ ap (λ l. l ++ items r) (sym (pieces_at f no_terms d None k.at none))
  over_form f (and_term t ts) k have (plain p none) r ends =
      let d : Operation = k.operation in
      let s = first_sort theory fits names t ts d.args k.args in
      let behind : List ℕ = suffix theory d ++ r in
      let more : List Piece = more_pieces (pieces_of_all theory ts) in
      ap items (prefix_text theory f d t ts r k.at none)
      ∙ items_name d.name (40 ∷ (gap theory t ++ (text theory t ++ (commas theory ts ++ behind)))) p refl
      ∙ ap (λ l. word d.name ∷ l) (items_opening (gap theory t ++ (text theory t ++ (commas theory ts ++ behind))))
      ∙ ap (λ l. word d.name ∷ opening ∷ l) (items_gap (head_name theory.operations [] t) (text theory t ++ (commas theory ts ++ behind)))
      ∙ ap (λ l. word d.name ∷ opening ∷ l) (have.0 s.0 (commas theory ts ++ behind) s.2 (commas_end theory fits names ts behind))
      ∙ ap (λ l. word d.name ∷ opening ∷ (pieces_of theory t ++ l)) (items_commas ts s.1 behind have.1 s.3)
      ∙ ap (λ l. word d.name ∷ opening ∷ (pieces_of theory t ++ (more ++ l))) (items_suffix f d r k.at ends)
      ∙ ap (λ l. word d.name ∷ opening ∷ l) (prefix_pieces (pieces_of theory t) more (sort_pieces theory d) (items r))
      ∙ ap (λ l. l ++ items r) (sym (pieces_at f (and_term t ts) d None k.at none))
    where
      prefix_pieces : (a b c e : List Piece) → a ++ (b ++ (c ++ e)) ≡ ((a ++ b) ++ c) ++ e
      prefix_pieces a b c e = simp append_assoc
  over_form f (and_term t (and_term u no_terms)) k have (infixed w p two some is) r ends =
      let d : Operation = k.operation in
      let s = first_sort theory fits names t (and_term u no_terms) d.args k.args in
      let v = first_sort theory fits names u no_terms s.1 s.3 in
      let behind : List ℕ = suffix theory d ++ r in
      let second : List ℕ = text theory u ++ (41 ∷ behind) in
      let x : List Piece = pieces_of theory t in
      let y : List Piece = pieces_of theory u in
      ap items (infix_text theory f d w t u r k.at some)
      ∙ items_opening (gap theory t ++ (text theory t ++ (32 ∷ (w ++ (32 ∷ second)))))
      ∙ ap (λ l. opening ∷ l) (items_gap (head_name theory.operations [] t) (text theory t ++ (32 ∷ (w ++ (32 ∷ second)))))
      ∙ ap (λ l. opening ∷ l) (have.0 s.0 (32 ∷ (w ++ (32 ∷ second))) s.2 (inr (inl refl)))
      ∙ ap (λ l. opening ∷ (x ++ l)) (items_name w (32 ∷ second) p refl)
      ∙ ap (λ l. opening ∷ (x ++ word w ∷ l)) (have.1.0 v.0 (41 ∷ behind) v.2 (inr (inr (inl refl))))
      ∙ ap (λ l. opening ∷ (x ++ word w ∷ (y ++ l))) (items_closing behind)
      ∙ ap (λ l. opening ∷ (x ++ word w ∷ (y ++ closing ∷ l))) (items_suffix f d r k.at ends)
      ∙ ap (λ l. opening ∷ l) (infix_pieces x (word w ∷ []) y (closing ∷ []) (sort_pieces theory d) (items r))
      ∙ ap (λ l. l ++ items r) (sym (pieces_at f (and_term t (and_term u no_terms)) d (Some w) k.at some))
    where
      infix_pieces : (a b c e g h : List Piece) → a ++ (b ++ (c ++ (e ++ (g ++ h)))) ≡ ((a ++ (b ++ (c ++ e))) ++ g) ++ h
      infix_pieces a b c e g h = simp append_assoc
  over_form f no_terms k have (infixed w p two some is) r ends = absurd (omega (arith, two))
  over_form f (and_term t no_terms) k have (infixed w p two some is) r ends = absurd (omega (arith, two))
  over_form f (and_term t (and_term u (and_term v ts))) k have (infixed w p two some is) r ends = absurd (omega (arith, two))

  have_over : (f : ℕ) (ts : TermTrees) → AllHave ts → HasPieces (apply f ts)
  have_over f ts have a r h ends = let k = over theory f ts a h in over_form f ts k have (form_at theory fits names f ts k) r ends

  mutual
    pub has_pieces : (t : TermTree) → HasPieces t
    has_pieces (variable x) = λ a r h. absurd (cc)
    has_pieces (apply f ts) = have_over f ts (all_have ts)

    all_have : (ts : TermTrees) → AllHave ts
    all_have no_terms = tt
    all_have (and_term t ts) = (has_pieces t, all_have ts)

  -- within brackets all pieces of a term belong to it
  abbrev GoesThrough : TermTree → Type 0
  GoesThrough t = (a n : ℕ) (ps : List Piece) → HasSort theory no_variables t a →
      extent (pieces_of theory t ++ ps) (inside n) ≡ pieces_of theory t ++ extent ps (inside n)

  abbrev AllGo : TermTrees → Type 0
  AllGo no_terms = Unit {0}
  AllGo (and_term t ts) = GoesThrough t × AllGo ts

  sort_goes : (d : Operation) (n : ℕ) (ps : List Piece) → extent (sort_pieces theory d ++ ps) (inside n) ≡ sort_pieces theory d ++ extent ps (inside n)
  sort_goes d n ps = go (is_shared theory.operations d)
    where
      go : (c : Bool) →
          extent ((if c then of_sort (name_at theory.sorts d.result) ∷ [] else []) ++ ps) (inside n)
          ≡ (if c then of_sort (name_at theory.sorts d.result) ∷ [] else []) ++ extent ps (inside n)
      go true = of_inside n
        where
          of_inside : (n : ℕ) → extent (of_sort (name_at theory.sorts d.result) ∷ ps) (inside n) ≡ of_sort (name_at theory.sorts d.result) ∷ extent ps (inside n)
          of_inside zero = refl
          of_inside (suc n) = refl
      go false = refl

  word_inside : (w : List ℕ) (n : ℕ) (ps : List Piece) → extent (word w ∷ ps) (inside n) ≡ word w ∷ extent ps (inside n)
  word_inside w zero ps = refl
  word_inside w (suc n) ps = refl

  comma_inside : (n : ℕ) (ps : List Piece) → extent (comma ∷ ps) (inside n) ≡ comma ∷ extent ps (inside n)
  comma_inside zero ps = refl
  comma_inside (suc n) ps = refl

  opening_inside : (n : ℕ) (ps : List Piece) → extent (opening ∷ ps) (inside n) ≡ opening ∷ extent ps (inside (suc n))
  opening_inside zero ps = refl
  opening_inside (suc n) ps = refl

  -- where a bracket closes
  abbrev out_of : ℕ → Place
  out_of zero = behind_arguments
  out_of (suc n) = inside n

  closing_inside : (n : ℕ) (ps : List Piece) → extent (closing ∷ ps) (inside n) ≡ closing ∷ extent ps (out_of n)
  closing_inside zero ps = refl
  closing_inside (suc n) ps = refl

  more_go : (ts : TermTrees) (x : List ℕ) (n : ℕ) (ps : List Piece) → AllGo ts → HaveSorts theory no_variables ts x →
      extent (more_pieces (pieces_of_all theory ts) ++ ps) (inside n) ≡ more_pieces (pieces_of_all theory ts) ++ extent ps (out_of n)
  more_go no_terms x n ps go h = closing_inside n ps
  more_go (and_term t ts) [] n ps go h = absurd h
  more_go (and_term t ts) (a ∷ x) n ps go h =
      comma_inside n ((pieces_of theory t ++ more_pieces (pieces_of_all theory ts)) ++ ps)
      ∙ ap (λ l. comma ∷ extent l (inside n)) (append_assoc (pieces_of theory t) (more_pieces (pieces_of_all theory ts)) ps)
      ∙ ap (λ l. comma ∷ l) (go.0 a n (more_pieces (pieces_of_all theory ts) ++ ps) h.0)
      ∙ ap (λ l. comma ∷ (pieces_of theory t ++ l)) (more_go ts x n ps go.1 h.1)
      ∙ ap (λ l. comma ∷ l) (sym (append_assoc (pieces_of theory t) (more_pieces (pieces_of_all theory ts)) (extent ps (out_of n))))

  -- what an operation and its arguments are written as goes through, and so does the sort behind it
  calls_go : (f : ℕ) (ts : TermTrees) (k : IsOver theory f ts) → AllGo ts → Form k.operation.name (width ts) → (n : ℕ) (ps : List Piece) →
      extent (pieces_of theory (apply f ts) ++ ps) (inside n) ≡ pieces_of theory (apply f ts) ++ extent ps (inside n)
  calls_go f no_terms k go (plain p none) n ps =
      let d : Operation = k.operation in
      let whole = pieces_at f no_terms d None k.at none in
      ap (λ l. extent (l ++ ps) (inside n)) whole
      ∙ word_inside d.name n (sort_pieces theory d ++ ps)
      ∙ ap (λ l. word d.name ∷ l) (sort_goes d n ps)
      ∙ ap (λ l. l ++ extent ps (inside n)) (sym whole)
  calls_go f (and_term t ts) k go (plain p none) n ps =
      let d : Operation = k.operation in
      let s = first_sort theory fits names t ts d.args k.args in
      let whole = pieces_at f (and_term t ts) d None k.at none in
      let more : List Piece = more_pieces (pieces_of_all theory ts) in
      let behind : List Piece = sort_pieces theory d ++ ps in
      ap (λ l. extent (l ++ ps) (inside n)) whole
      ∙ ap (λ l. extent (word d.name ∷ opening ∷ l) (inside n)) (sym (prefix_pieces (pieces_of theory t) more (sort_pieces theory d) ps))
      ∙ word_inside d.name n (opening ∷ (pieces_of theory t ++ (more ++ behind)))
      ∙ ap (λ l. word d.name ∷ l) (opening_inside n (pieces_of theory t ++ (more ++ behind)))
      ∙ ap (λ l. word d.name ∷ opening ∷ l) (go.0 s.0 (suc n) (more ++ behind) s.2)
      ∙ ap (λ l. word d.name ∷ opening ∷ (pieces_of theory t ++ l)) (more_go ts s.1 (suc n) behind go.1 s.3)
      ∙ ap (λ l. word d.name ∷ opening ∷ (pieces_of theory t ++ (more ++ l))) (sort_goes d n ps)
      ∙ ap (λ l. word d.name ∷ opening ∷ l) (prefix_pieces (pieces_of theory t) more (sort_pieces theory d) (extent ps (inside n)))
      ∙ ap (λ l. l ++ extent ps (inside n)) (sym whole)
    where
      prefix_pieces : (a b c e : List Piece) → a ++ (b ++ (c ++ e)) ≡ ((a ++ b) ++ c) ++ e
      prefix_pieces a b c e = simp append_assoc
  calls_go f (and_term t (and_term u no_terms)) k go (infixed w p two some is) n ps =
      let d : Operation = k.operation in
      let s = first_sort theory fits names t (and_term u no_terms) d.args k.args in
      let v = first_sort theory fits names u no_terms s.1 s.3 in
      let whole = pieces_at f (and_term t (and_term u no_terms)) d (Some w) k.at some in
      let x : List Piece = pieces_of theory t in
      let y : List Piece = pieces_of theory u in
      let behind : List Piece = sort_pieces theory d ++ ps in
      ap (λ l. extent (l ++ ps) (inside n)) whole
      ∙ ap (λ l. extent (opening ∷ l) (inside n)) (sym (infix_pieces x (word w ∷ []) y (closing ∷ []) (sort_pieces theory d) ps))
      ∙ opening_inside n (x ++ word w ∷ (y ++ closing ∷ behind))
      ∙ ap (λ l. opening ∷ l) (go.0 s.0 (suc n) (word w ∷ (y ++ closing ∷ behind)) s.2)
      ∙ ap (λ l. opening ∷ (x ++ l)) (word_inside w (suc n) (y ++ closing ∷ behind))
      ∙ ap (λ l. opening ∷ (x ++ word w ∷ l)) (go.1.0 v.0 (suc n) (closing ∷ behind) v.2)
      ∙ ap (λ l. opening ∷ (x ++ word w ∷ (y ++ closing ∷ l))) (sort_goes d n ps)
      ∙ ap (λ l. opening ∷ l) (infix_pieces x (word w ∷ []) y (closing ∷ []) (sort_pieces theory d) (extent ps (inside n)))
      ∙ ap (λ l. l ++ extent ps (inside n)) (sym whole)
    where
      infix_pieces : (a b c e g h : List Piece) → a ++ (b ++ (c ++ (e ++ (g ++ h)))) ≡ ((a ++ (b ++ (c ++ e))) ++ g) ++ h
      infix_pieces a b c e g h = simp append_assoc
  calls_go f no_terms k go (infixed w p two some is) n ps = absurd (omega (arith, two))
  calls_go f (and_term t no_terms) k go (infixed w p two some is) n ps = absurd (omega (arith, two))
  calls_go f (and_term t (and_term u (and_term v ts))) k go (infixed w p two some is) n ps = absurd (omega (arith, two))

  go_over : (f : ℕ) (ts : TermTrees) → AllGo ts → GoesThrough (apply f ts)
  go_over f ts go a n ps h = let k = over theory f ts a h in calls_go f ts k go (form_at theory fits names f ts k) n ps

  mutual
    goes_through : (t : TermTree) → GoesThrough t
    goes_through (variable x) = λ a n ps h. absurd (cc)
    goes_through (apply f ts) = go_over f ts (all_go ts)

    all_go : (ts : TermTrees) → AllGo ts
    all_go no_terms = tt
    all_go (and_term t ts) = (goes_through t, all_go ts)

  -- what follows a term doesn't go on with it
  abbrev pub EndsThere : List Piece → Type 0
  EndsThere [] = Unit {0}
  EndsThere (word w ∷ ps) = Unit {0}
  EndsThere (opening ∷ ps) = ⊥
  EndsThere (closing ∷ ps) = Unit {0}
  EndsThere (comma ∷ ps) = Unit {0}
  EndsThere (of_sort w ∷ ps) = ⊥
  EndsThere (other ∷ ps) = Unit {0}

  none_behind : (ps : List Piece) → EndsThere ps → extent ps behind_arguments ≡ []
  none_behind [] h = refl
  none_behind (word w ∷ ps) h = refl
  none_behind (opening ∷ ps) h = absurd h
  none_behind (closing ∷ ps) h = refl
  none_behind (comma ∷ ps) h = refl
  none_behind (of_sort w ∷ ps) h = absurd h
  none_behind (other ∷ ps) h = refl

  none_behind_word : (ps : List Piece) → EndsThere ps → extent ps behind_word ≡ []
  none_behind_word [] h = refl
  none_behind_word (word w ∷ ps) h = refl
  none_behind_word (opening ∷ ps) h = absurd h
  none_behind_word (closing ∷ ps) h = refl
  none_behind_word (comma ∷ ps) h = refl
  none_behind_word (of_sort w ∷ ps) h = absurd h
  none_behind_word (other ∷ ps) h = refl

  sort_ends : (d : Operation) (ps : List Piece) → EndsThere ps → extent (sort_pieces theory d ++ ps) behind_arguments ≡ sort_pieces theory d
  sort_ends d ps h = go (is_shared theory.operations d)
    where
      go : (c : Bool) →
          extent ((if c then of_sort (name_at theory.sorts d.result) ∷ [] else []) ++ ps) behind_arguments
          ≡ (if c then of_sort (name_at theory.sorts d.result) ∷ [] else [])
      go true = refl
      go false = none_behind ps h

  sort_ends_word : (d : Operation) (ps : List Piece) → EndsThere ps → extent (sort_pieces theory d ++ ps) behind_word ≡ sort_pieces theory d
  sort_ends_word d ps h = go (is_shared theory.operations d)
    where
      go : (c : Bool) →
          extent ((if c then of_sort (name_at theory.sorts d.result) ∷ [] else []) ++ ps) behind_word
          ≡ (if c then of_sort (name_at theory.sorts d.result) ∷ [] else [])
      go true = refl
      go false = none_behind_word ps h

  whole_extent : (f : ℕ) (ts : TermTrees) (k : IsOver theory f ts) → Form k.operation.name (width ts) → (ps : List Piece) → EndsThere ps →
      extent (pieces_of theory (apply f ts) ++ ps) start ≡ pieces_of theory (apply f ts)
  whole_extent f no_terms k (plain p none) ps ends =
      let d : Operation = k.operation in
      let whole = pieces_at f no_terms d None k.at none in
      ap (λ l. extent (l ++ ps) start) whole ∙ ap (λ l. word d.name ∷ l) (sort_ends_word d ps ends) ∙ sym whole
  whole_extent f (and_term t ts) k (plain p none) ps ends =
      let d : Operation = k.operation in
      let s = first_sort theory fits names t ts d.args k.args in
      let whole = pieces_at f (and_term t ts) d None k.at none in
      let more : List Piece = more_pieces (pieces_of_all theory ts) in
      let behind : List Piece = sort_pieces theory d ++ ps in
      ap (λ l. extent (l ++ ps) start) whole
      ∙ ap (λ l. extent (word d.name ∷ opening ∷ l) start) (sym (prefix_pieces (pieces_of theory t) more (sort_pieces theory d) ps))
      ∙ ap (λ l. word d.name ∷ opening ∷ l) (goes_through t s.0 0 (more ++ behind) s.2)
      ∙ ap (λ l. word d.name ∷ opening ∷ (pieces_of theory t ++ l)) (more_go ts s.1 0 behind (all_go ts) s.3)
      ∙ ap (λ l. word d.name ∷ opening ∷ (pieces_of theory t ++ (more ++ l))) (sort_ends d ps ends)
      ∙ ap (λ l. word d.name ∷ opening ∷ l) (sym (append_assoc (pieces_of theory t) more (sort_pieces theory d)))
      ∙ sym whole
    where
      prefix_pieces : (a b c e : List Piece) → a ++ (b ++ (c ++ e)) ≡ ((a ++ b) ++ c) ++ e
      prefix_pieces a b c e = simp append_assoc
  whole_extent f (and_term t (and_term u no_terms)) k (infixed w p two some is) ps ends =
      let d : Operation = k.operation in
      let s = first_sort theory fits names t (and_term u no_terms) d.args k.args in
      let v = first_sort theory fits names u no_terms s.1 s.3 in
      let whole = pieces_at f (and_term t (and_term u no_terms)) d (Some w) k.at some in
      let x : List Piece = pieces_of theory t in
      let y : List Piece = pieces_of theory u in
      let behind : List Piece = sort_pieces theory d ++ ps in
      ap (λ l. extent (l ++ ps) start) whole
      ∙ ap (λ l. extent (opening ∷ l) start) (sym (infix_pieces x (word w ∷ []) y (closing ∷ []) (sort_pieces theory d) ps))
      ∙ ap (λ l. opening ∷ l) (goes_through t s.0 0 (word w ∷ (y ++ closing ∷ behind)) s.2)
      ∙ ap (λ l. opening ∷ (x ++ word w ∷ l)) (goes_through u v.0 0 (closing ∷ behind) v.2)
      ∙ ap (λ l. opening ∷ (x ++ word w ∷ (y ++ closing ∷ l))) (sort_ends d ps ends)
      ∙ ap (λ l. opening ∷ l) (ending_pieces x (word w ∷ []) y (closing ∷ []) (sort_pieces theory d))
      ∙ sym whole
    where
      infix_pieces : (a b c e g h : List Piece) → a ++ (b ++ (c ++ (e ++ (g ++ h)))) ≡ ((a ++ (b ++ (c ++ e))) ++ g) ++ h
      infix_pieces a b c e g h = simp append_assoc

      ending_pieces : (a b c e g : List Piece) → a ++ (b ++ (c ++ (e ++ g))) ≡ (a ++ (b ++ (c ++ e))) ++ g
      ending_pieces a b c e g = simp append_assoc
  whole_extent f no_terms k (infixed w p two some is) ps ends = absurd (omega (arith, two))
  whole_extent f (and_term t no_terms) k (infixed w p two some is) ps ends = absurd (omega (arith, two))
  whole_extent f (and_term t (and_term u (and_term v ts))) k (infixed w p two some is) ps ends = absurd (omega (arith, two))

  -- the pieces that are taken of a text that begins with a term are those of the term
  pub extent_of : (t : TermTree) (a : ℕ) (r : List ℕ) → HasSort theory no_variables t a → EndsTerm r → EndsThere (items r) →
      extent (items (text theory t ++ r)) start ≡ pieces_of theory t
  extent_of (variable x) a r h ends there = absurd (cc)
  extent_of (apply f ts) a r h ends there =
      let k = over theory f ts a h in
      ap (λ l. extent l start) (has_pieces (apply f ts) a r h ends) ∙ whole_extent f ts k (form_at theory fits names f ts k) (items r) there
