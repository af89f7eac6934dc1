-- Reading the pieces of a term from the right gives its operations and its sort.
use Rattle.std.proofs.Common.{ℕ, ◌≡◌, ◌-◌, Bool, true, false, if◌then◌else◌, List, [], ◌∷◌, ◌++◌, length, take, drop}
use Rattle.std.proofs.Common.{Option, Some, None, option_map, refl, ap, sym, ◌∙◌, arith, length-append, append_assoc}
use Rattle.std.specs.List.{slice_get}
use Rattle.std.proofs.lemmas.List.{append-nil}
use Rattle.spec_core.specs.Lists.{Each, NoTwo}
use Rattle.spec_core.specs.Names.{IsIdentifier, IsOperationName, IsSameName}
use Rattle.spec_core.specs.Ready.{IsSameOperation}
use Rattle.spec_core.specs.Sorts.{FitsData, HasSort, HaveSorts, OnSome, no_variables}
use Rattle.spec_core.specs.Terms.{TermTree, TermTrees, variable, apply, no_terms, and_term, width, preorder, preorders}
use Rattle.spec_core.specs.Theories.{Operation, Theory}
use Rattle.value_text.specs.Values.{is_shared, name_at}
use Rattle.value_text.proofs.OneTerm.{Form, plain, infixed, IsOver, over, first_sort, form_at}
use Rattle.value_reader.specs.Items.{Piece, word, opening, closing, comma, of_sort}
use Rattle.value_reader.specs.Spelled.{more_pieces, sort_pieces, pieces_of, pieces_of_all}
use Rattle.value_reader.specs.Stands.{Bracket, Stand, expects, has_term, State, first_at, is_call, result_of, underscored, with_operation}
use Rattle.value_reader.specs.Stands.{applied, step_on, run, nothing_read}
use Rattle.value_reader.proofs.Finding.{found, written_sort}
use Rattle.value_reader.proofs.Pieces.{pieces_at}

abbrev state : Stand → List Bracket → List ℕ → List ℕ → State
state stand brackets sorts value = record { stand = stand; brackets = brackets; sorts = sorts; value = value }

-- the arguments' sorts stand before the others
args_first : (x so : List ℕ) → take (length (x ++ so) - length so) (x ++ so) ≡ x
args_first x so = ap (λ n. take n (x ++ so)) (count x so) ∙ front x so
  where
    count : (x so : List ℕ) → length (x ++ so) - length so ≡ length x
    count x so = omega (arith, length-append x so)

    front : (x so : List ℕ) → take (length x) (x ++ so) ≡ x
    front [] so = refl
    front (a ∷ x) so = ap (λ l. a ∷ l) (front x so)

others_behind : (x so : List ℕ) → drop (length (x ++ so) - length so) (x ++ so) ≡ so
others_behind x so = ap (λ n. drop n (x ++ so)) (count x so) ∙ back x so
  where
    count : (x so : List ℕ) → length (x ++ so) - length so ≡ length x
    count x so = omega (arith, length-append x so)

    back : (x so : List ℕ) → drop (length x) (x ++ so) ≡ so
    back [] so = refl
    back (a ∷ x) so = back x so

module _ (theory : Theory) (fits : FitsData theory) (names : Each (λ d. IsOperationName (length d.args) d.name) theory.operations)
    (sorts : Each IsIdentifier theory.sorts) (sorts_differ : NoTwo IsSameName theory.sorts)
    (operations_differ : NoTwo IsSameOperation theory.operations) where
  -- the operation over its arguments
  applied_so : (f : ℕ) (d : Operation) (bs : List Bracket) (so va : List ℕ) → slice_get theory.operations f ≡ Some d →
      applied theory d.name (length so) (written_sort theory d) bs (d.args ++ so) va ≡ Some (state has_term bs (d.result ∷ so) (f ∷ va))
  applied_so f d bs so va at =
      let n : ℕ = length (d.args ++ so) - length so in
      ap (λ x. option_map (with_operation theory bs (d.args ++ so) va n)
      (first_at (is_call theory.sorts d.name x (written_sort theory d)) theory.operations)) (args_first d.args so)
      ∙ ap (option_map (with_operation theory bs (d.args ++ so) va n))
      (found theory fits sorts sorts_differ operations_differ f d at)
      ∙ ap (λ x. Some (state has_term bs (result_of (slice_get theory.operations f) ∷ x) (f ∷ va))) (others_behind d.args so)
      ∙ ap (λ o. Some (state has_term bs (result_of o ∷ so) (f ∷ va))) at

  -- a term is read behind what was read before
  abbrev IsRead : TermTree → Type 0
  IsRead t = (a : ℕ) (ps : List Piece) (s : State) (bs : List Bracket) (so va : List ℕ) → HasSort theory no_variables t a →
      run theory ps s ≡ Some (state (expects None) bs so va) →
      run theory (pieces_of theory t ++ ps) s ≡ Some (state has_term bs (a ∷ so) (preorder t ++ va))

  abbrev AreRead : TermTrees → Type 0
  AreRead no_terms = Unit {0}
  AreRead (and_term t ts) = IsRead t × AreRead ts

  sort_read : (d : Operation) (ps : List Piece) (s : State) (bs : List Bracket) (so va : List ℕ) →
      run theory ps s ≡ Some (state (expects None) bs so va) →
      run theory (sort_pieces theory d ++ ps) s ≡ Some (state (expects (written_sort theory d)) bs so va)
  sort_read d ps s bs so va h = go (is_shared theory.operations d)
    where
      go : (c : Bool) →
          run theory ((if c then of_sort (name_at theory.sorts d.result) ∷ [] else []) ++ ps) s
          ≡ Some (state (expects (if c then Some (name_at theory.sorts d.result) else None)) bs so va)
      go true = ap (step_on theory (of_sort (name_at theory.sorts d.result))) h
      go false = h

  abbrev bracket : Option (List ℕ) → List ℕ → Option (List ℕ) → Bracket
  bracket sort so between = record { sort = sort; base = length so; between = between }

  more_read : (ts : TermTrees) (x : List ℕ) (sort : Option (List ℕ)) (ps : List Piece) (s : State) (bs : List Bracket) (so va : List ℕ) →
      AreRead ts → HaveSorts theory no_variables ts x → run theory ps s ≡ Some (state (expects sort) bs so va) →
      run theory (more_pieces (pieces_of_all theory ts) ++ ps) s
      ≡ Some (state (expects None) (bracket sort so None ∷ bs) (x ++ so) (preorders ts ++ va))
  more_read no_terms [] sort ps s bs so va read h k = ap (step_on theory closing) k
  more_read no_terms (a ∷ x) sort ps s bs so va read h k = absurd h
  more_read (and_term t ts) [] sort ps s bs so va read h k = absurd h
  more_read (and_term t ts) (a ∷ x) sort ps s bs so va read h k =
      let more : List Piece = more_pieces (pieces_of_all theory ts) in
      let rest = more_read ts x sort ps s bs so va read.1 h.1 k in
      let one = read.0 a (more ++ ps) s (bracket sort so None ∷ bs) (x ++ so) (preorders ts ++ va) h.0 rest in
      ap (λ l. step_on theory comma (run theory l s)) (append_assoc (pieces_of theory t) more ps)
      ∙ ap (step_on theory comma) one
      ∙ ap (λ l. Some (state (expects None) (bracket sort so None ∷ bs) (a ∷ (x ++ so)) l)) (sym (append_assoc (preorder t) (preorders ts) va))

  empty : (x : List ℕ) → HaveSorts theory no_variables no_terms x → x ≡ []
  empty [] h = refl
  empty (a ∷ x) h = absurd h

  read_over : (f : ℕ) (ts : TermTrees) (k : IsOver theory f ts) → AreRead ts → Form k.operation.name (width ts) →
      (ps : List Piece) (s : State) (bs : List Bracket) (so va : List ℕ) → run theory ps s ≡ Some (state (expects None) bs so va) →
      run theory (pieces_of theory (apply f ts) ++ ps) s ≡ Some (state has_term bs (k.operation.result ∷ so) (preorder (apply f ts) ++ va))
  read_over f no_terms k read (plain p none) ps s bs so va h =
      let d : Operation = k.operation in
      let no_args : d.args ≡ [] = empty d.args k.args in
      ap (λ l. run theory (l ++ ps) s) (pieces_at theory fits names sorts f no_terms d None k.at none)
      ∙ ap (step_on theory (word d.name)) (sort_read d ps s bs so va h)
      ∙ ap (λ x. applied theory d.name (length so) (written_sort theory d) bs (x ++ so) va) (sym no_args)
      ∙ applied_so f d bs so va k.at
  read_over f (and_term t ts) k read (plain p none) ps s bs so va h =
      let d : Operation = k.operation in
      let x = first_sort theory fits names t ts d.args k.args in
      let more : List Piece = more_pieces (pieces_of_all theory ts) in
      let sort : Option (List ℕ) = written_sort theory d in
      let behind = more_read ts x.1 sort (sort_pieces theory d ++ ps) s bs so va read.1 x.3 (sort_read d ps s bs so va h) in
      let head =
      read.0 x.0 (more ++ (sort_pieces theory d ++ ps)) s (bracket sort so None ∷ bs) (x.1 ++ so) (preorders ts ++ va) x.2 behind in
      let args : x.0 ∷ x.1 ≡ d.args = sym x.4 in
      ap (λ l. run theory (l ++ ps) s) (pieces_at theory fits names sorts f (and_term t ts) d None k.at none)
      ∙ ap (λ l. step_on theory (word d.name) (step_on theory opening (run theory l s)))
      (prefix_pieces (pieces_of theory t) more (sort_pieces theory d) ps)
      ∙ ap (λ r. step_on theory (word d.name) (step_on theory opening r)) head
      ∙ ap (λ y. applied theory d.name (length so) sort bs (y ++ so) (preorder t ++ (preorders ts ++ va))) args
      ∙ applied_so f d bs so (preorder t ++ (preorders ts ++ va)) k.at
      ∙ ap (λ l. Some (state has_term bs (d.result ∷ so) (f ∷ l))) (sym (append_assoc (preorder t) (preorders ts) va))
    where
      prefix_pieces : (a b c e : List Piece) → ((a ++ b) ++ c) ++ e ≡ a ++ (b ++ (c ++ e))
      prefix_pieces a b c e = simp append_assoc
  read_over f (and_term t (and_term u no_terms)) k read (infixed w p two some is) ps s bs so va h =
      let d : Operation = k.operation in
      let x = first_sort theory fits names t (and_term u no_terms) d.args k.args in
      let y = first_sort theory fits names u no_terms x.1 x.3 in
      let sort : Option (List ℕ) = written_sort theory d in
      let open_at : Bracket = bracket sort so None in
      let behind : List Piece = closing ∷ (sort_pieces theory d ++ ps) in
      let closed : run theory behind s ≡ Some (state (expects None) (open_at ∷ bs) so va) =
      ap (step_on theory closing) (sort_read d ps s bs so va h) in
      let second = read.1.0 y.0 behind s (open_at ∷ bs) so va y.2 closed in
      let between : run theory (word w ∷ (pieces_of theory u ++ behind)) s
      ≡ Some (state (expects None) (bracket sort so (Some w) ∷ bs) (y.0 ∷ so) (preorder u ++ va)) =
      ap (step_on theory (word w)) second in
      let head =
      read.0 x.0 (word w ∷ (pieces_of theory u ++ behind)) s (bracket sort so (Some w) ∷ bs) (y.0 ∷ so) (preorder u ++ va) x.2 between in
      let args : x.0 ∷ y.0 ∷ [] ≡ d.args = sym (x.4 ∙ ap (λ z. x.0 ∷ z) (y.4 ∙ ap (λ z. y.0 ∷ z) (empty y.1 y.3))) in
      ap (λ l. run theory (l ++ ps) s) (pieces_at theory fits names sorts f (and_term t (and_term u no_terms)) d (Some w) k.at some)
      ∙ ap (λ l. step_on theory opening (run theory l s))
      (infix_pieces (pieces_of theory t) (word w ∷ []) (pieces_of theory u) (closing ∷ []) (sort_pieces theory d) ps)
      ∙ ap (step_on theory opening) head
      ∙ ap (λ z. applied theory (underscored w) (length so) sort bs (z ++ so) (preorder t ++ (preorder u ++ va))) args
      ∙ ap (λ z. applied theory z (length so) sort bs (d.args ++ so) (preorder t ++ (preorder u ++ va))) (sym is)
      ∙ applied_so f d bs so (preorder t ++ (preorder u ++ va)) k.at
      ∙ ap (λ l. Some (state has_term bs (d.result ∷ so) (f ∷ l))) (infix_value (preorder t) (preorder u) va)
    where
      infix_pieces : (a b c e g h : List Piece) → ((a ++ (b ++ (c ++ e))) ++ g) ++ h ≡ a ++ (b ++ (c ++ (e ++ (g ++ h))))
      infix_pieces a b c e g h = simp append_assoc

      infix_value : (a b c : List ℕ) → a ++ (b ++ c) ≡ (a ++ (b ++ [])) ++ c
      infix_value a b c = ap (λ z. a ++ (z ++ c)) (sym (append-nil b)) ∙ sym (append_assoc a (b ++ []) c)
  read_over f no_terms k read (infixed w p two some is) ps s bs so va h = absurd (omega (arith, two))
  read_over f (and_term t no_terms) k read (infixed w p two some is) ps s bs so va h = absurd (omega (arith, two))
  read_over f (and_term t (and_term u (and_term v ts))) k read (infixed w p two some is) ps s bs so va h = absurd (omega (arith, two))

  result_so : (f : ℕ) (ts : TermTrees) (a : ℕ) (k : IsOver theory f ts) → HasSort theory no_variables (apply f ts) a → k.operation.result ≡ a
  result_so f ts a k h = go (slice_get theory.operations f) k.at h
    where
      go : (o : Option Operation) → o ≡ Some k.operation → OnSome o (λ d. (d.result ≡ a) × HaveSorts theory no_variables ts d.args) →
          k.operation.result ≡ a
      go None at h = absurd h
      go (Some d) at h = let same : d ≡ k.operation = cc in ap (λ (x : Operation). x.result) (sym same) ∙ h.0

  read_apply : (f : ℕ) (ts : TermTrees) → AreRead ts → IsRead (apply f ts)
  read_apply f ts read a ps s bs so va h k =
      let over_f = over theory f ts a h in
      read_over f ts over_f read (form_at theory fits names f ts over_f) ps s bs so va k
      ∙ ap (λ z. Some (state has_term bs (z ∷ so) (preorder (apply f ts) ++ va))) (result_so f ts a over_f h)

  mutual
    is_read : (t : TermTree) → IsRead t
    is_read (variable x) = λ a ps s bs so va h. absurd (cc)
    is_read (apply f ts) = read_apply f ts (are_read ts)

    are_read : (ts : TermTrees) → AreRead ts
    are_read no_terms = tt
    are_read (and_term t ts) = (is_read t, are_read ts)

  -- the pieces of a term alone
  pub whole_read : (t : TermTree) (a : ℕ) → HasSort theory no_variables t a →
      run theory (pieces_of theory t) nothing_read ≡ Some (state has_term [] (a ∷ []) (preorder t))
  whole_read t a h =
      ap (λ l. run theory l nothing_read) (sym (append-nil (pieces_of theory t)))
      ∙ is_read t a [] nothing_read [] [] [] h refl
      ∙ ap (λ l. Some (state has_term [] (a ∷ []) l)) (append-nil (preorder t))
