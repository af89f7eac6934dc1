-- The text of a ground term is the text of that term alone, whatever follows.
use Rattle.std.proofs.Common.{ℕ, suc, ◌≡◌, ◌⊎◌, inl, inr, ◌==◌, Bool, true, false, List, [], ◌∷◌, ◌++◌, codes, length, drop}
use Rattle.value_text.specs.Bytes.{is_name_byte}
use Rattle.std.proofs.Common.{Option, Some, None, nat_eq, refl, ap, sym, ◌∙◌, subst, arith, if◌then◌else◌, append_assoc, IsTrue}
use Rattle.std.specs.Bool.{Decides}
use Rattle.std.specs.Char.{is_ascii_alphanumeric}
use Rattle.std.specs.List.{slice_get, list_any}
use Rattle.std.proofs.lemmas.Bool.Decides.{Decides-eqb}
use Rattle.std.proofs.lemmas.List.{append-nil}
use Rattle.spec_core.specs.Lists.{Each, NoTwo}
use Rattle.spec_core.specs.Names.{IsPlainName, IsOperationName, IsIdentifier, IsSameName}
use Rattle.spec_core.specs.Ready.{IsSameOperation}
use Rattle.spec_core.specs.Sorts.{HasSort, HaveSorts, OnSome, FitsData, OperationFits, no_variables}
use Rattle.spec_core.specs.TermText.{infix_word, infix_at, prefix_opening, opening_by, separator_by, closing, joined, gap_before, head_name}
use Rattle.spec_core.specs.TermText.{application_text, sort_text, term_text, term_texts}
use Rattle.spec_core.specs.Terms.{TermTree, TermTrees, variable, apply, no_terms, and_term, width}
use Rattle.spec_core.specs.Theories.{Operation, Theory}
use Rattle.spec_core.proofs.Spelling.{no_infix, one_infix}
use Rattle.spec_core.proofs.Lists.{each_slice_get}
use Rattle.value_text.specs.Values.{is_shared}
use Rattle.value_text.proofs.Names.{EndsTerm, stops, plain_run, plain_begins, among}
use Rattle.value_text.proofs.Operations.{one_sorts, one_suffix, of_sort}
use Rattle.value_text.proofs.Runs.{Stops, one_run}

-- how an operation is written: its name before its arguments, or a word between two of them
pub data Form (name : List ℕ) (n : ℕ) : Type 0 where
  plain : IsPlainName name → infix_at name n ≡ None → Form name n
  infixed : (word : List ℕ) → IsPlainName word → n ≡ 2 → infix_at name n ≡ Some word → name ≡ 95 ∷ (word ++ 95 ∷ []) → Form name n

no_underscore : (name : List ℕ) → IsPlainName name → (word : List ℕ) → name ≡ 95 ∷ word → ⊥
no_underscore [] p word e = cc
no_underscore (b ∷ bs) (inl p) word e =
    let first : b ≡ 95 = cc in
    let letter : IsTrue (is_ascii_alphanumeric 95) = subst (λ z. IsTrue (is_ascii_alphanumeric z)) first p.first in
    cc
no_underscore (b ∷ bs) (inr p) word e =
    let first : b ≡ 95 = cc in
    let sign : list_any (nat_eq 95) (codes "#%&*+-./<=>@\\^~{}") ≡ true =
    subst (λ z. list_any (nat_eq z) (codes "#%&*+-./<=>@\\^~{}") ≡ true) first (among b (codes "#%&*+-./<=>@\\^~{}") p.bytes.0) in
    cc

at_two : (n : ℕ) (o : Option (List ℕ)) → (b : Bool) → Decides b (n ≡ 2) → n ≡ 2 → (if b then o else None) ≡ o
at_two n o true d e = refl
at_two n o false d e = absurd (let no : false ≡ true = d.1 e in cc)

either_none : (b : Bool) (o : Option (List ℕ)) → o ≡ None → (if b then o else None) ≡ None
either_none true o e = e
either_none false o e = refl

pub form_of : (name : List ℕ) (n : ℕ) → IsOperationName n name → Form name n
form_of name n (inl p) =
    plain p (either_none (n == 2) (infix_word name) (no_infix name (λ word e. no_underscore name p (word ++ 95 ∷ []) e)))
form_of name n (inr p) =
    infixed p.1.0 p.1.2 p.0 (at_two n (infix_word name) (n == 2) (Decides-eqb n 2) p.0 ∙ one_infix name p.1.0 p.1.1) p.1.1

-- what is known of the operation of a term
pub record IsOver (theory : Theory) (f : ℕ) (ts : TermTrees) : Type 0 where
  pub operation : Operation
  pub at : slice_get theory.operations f ≡ Some operation
  pub args : HaveSorts theory no_variables ts operation.args

on_some : {A : Type 0} (P : A → Type 0) (o : Option A) → OnSome o P → (x : A) × (o ≡ Some x) × P x
on_some P None h = absurd h
on_some P (Some x) h = (x, refl, h)

pub over : (theory : Theory) (f : ℕ) (ts : TermTrees) (a : ℕ) → HasSort theory no_variables (apply f ts) a → IsOver theory f ts
over theory f ts a h =
    let q = on_some (λ d. (d.result ≡ a) × HaveSorts theory no_variables ts d.args) (slice_get theory.operations f) h in
    record { operation = q.0; at = q.1; args = q.2.1 }

pub as_wide : (theory : Theory) (ts : TermTrees) (sorts : List ℕ) → HaveSorts theory no_variables ts sorts → width ts ≡ length sorts
as_wide theory no_terms [] h = refl
as_wide theory no_terms (s ∷ sorts) h = absurd h
as_wide theory (and_term t ts) [] h = absurd h
as_wide theory (and_term t ts) (s ∷ sorts) h = ap suc (as_wide theory ts sorts h.1)

opened : (name : List ℕ) (n : ℕ) → prefix_opening name (suc n) ≡ name ++ codes "("
opened name n = go (suc n == 0) (Decides-eqb (suc n) 0)
  where
    go : (b : Bool) → Decides b (suc n ≡ 0) → (if b then name else name ++ codes "(") ≡ name ++ codes "("
    go true d = absurd (let e = d.0 refl in omega (arith, e))
    go false d = refl

closed : (n : ℕ) → closing (suc n) ≡ codes ")"
closed n = go (suc n == 0) (Decides-eqb (suc n) 0)
  where
    go : (b : Bool) → Decides b (suc n ≡ 0) → (if b then [] else codes ")") ≡ codes ")"
    go true d = absurd (let e = d.0 refl in omega (arith, e))
    go false d = refl

abbrev first : List ℕ → ℕ
first [] = 0
first (b ∷ bs) = b

module _ (theory : Theory) where
  abbrev pub text : TermTree → List ℕ
  text t = term_text theory.sorts theory.operations [] t

  abbrev pub suffix : Operation → List ℕ
  suffix d = sort_text theory.sorts theory.operations d

  -- the blank before an argument that begins with `*`
  abbrev pub gap : TermTree → List ℕ
  gap t = gap_before (head_name theory.operations [] t)

  -- further arguments, and the bracket behind them
  abbrev pub commas : TermTrees → List ℕ
  commas no_terms = codes ")"
  commas (and_term t ts) = 44 ∷ (text t ++ commas ts)

  joined_so : (t : TermTree) (ts : TermTrees) →
      joined (codes ",") (term_texts theory.sorts theory.operations [] (and_term t ts)) ++ codes ")" ≡ text t ++ commas ts
  joined_so t no_terms = refl
  joined_so t (and_term u ts) =
      append_assoc (text t) (44 ∷ joined (codes ",") (term_texts theory.sorts theory.operations [] (and_term u ts))) (codes ")")
      ∙ ap (λ l. text t ++ (44 ∷ l)) (joined_so u ts)

  constant_parts : (n s r : List ℕ) → (n ++ [] ++ [] ++ [] ++ s) ++ r ≡ n ++ (s ++ r)
  constant_parts n s r =
      ap (λ l. (l ++ s) ++ r) (append-nil (n ++ [] ++ []) ∙ append-nil (n ++ []) ∙ append-nil n) ∙ append_assoc n s r

  -- the text of a constant
  pub constant_text : (f : ℕ) (d : Operation) (r : List ℕ) → slice_get theory.operations f ≡ Some d →
      text (apply f no_terms) ++ r ≡ d.name ++ (suffix d ++ r)
  constant_text f d r at =
      ap (λ o. application_text theory.sorts theory.operations 0 [] [] o ++ r) at ∙ constant_parts d.name (suffix d) r

  prefix_parts : (n p g j s r : List ℕ) → (n ++ p ++ g ++ j ++ codes ")" ++ s) ++ r ≡ n ++ (p ++ (g ++ ((j ++ codes ")") ++ (s ++ r))))
  prefix_parts n p g j s r = simp append_assoc

  -- the text of an operation whose name stands before its arguments
  pub prefix_text : (f : ℕ) (d : Operation) (t : TermTree) (ts : TermTrees) (r : List ℕ) → slice_get theory.operations f ≡ Some d →
      infix_at d.name (suc (width ts)) ≡ None →
      text (apply f (and_term t ts)) ++ r ≡ d.name ++ (40 ∷ (gap t ++ (text t ++ (commas ts ++ (suffix d ++ r)))))
  prefix_text f d t ts r at none =
      let n : ℕ = suc (width ts) in
      let texts : List (List ℕ) = term_texts theory.sorts theory.operations [] (and_term t ts) in
      ap (λ o. application_text theory.sorts theory.operations n (gap t) texts o ++ r) at
      ∙ ap (λ o. (opening_by d.name n o ++ gap t ++ joined (separator_by o) texts ++ closing n ++ suffix d) ++ r) none
      ∙ ap (λ l. (l ++ gap t ++ joined (codes ",") texts ++ closing n ++ suffix d) ++ r) (opened d.name (width ts))
      ∙ ap (λ l. ((d.name ++ codes "(") ++ gap t ++ joined (codes ",") texts ++ l ++ suffix d) ++ r) (closed (width ts))
      ∙ prefix_parts d.name (codes "(") (gap t) (joined (codes ",") texts) (suffix d) r
      ∙ ap (λ l. d.name ++ (40 ∷ (gap t ++ (l ++ (suffix d ++ r))))) (joined_so t ts)
      ∙ ap (λ l. d.name ++ (40 ∷ (gap t ++ l))) (append_assoc (text t) (commas ts) (suffix d ++ r))

  infix_parts : (o g a k w b c s r : List ℕ) →
      (o ++ g ++ (a ++ ((k ++ w ++ k) ++ b)) ++ c ++ s) ++ r ≡ o ++ (g ++ (a ++ (k ++ (w ++ (k ++ (b ++ (c ++ (s ++ r))))))))
  infix_parts o g a k w b c s r = simp append_assoc

  -- the text of an operation whose name stands between its arguments
  pub infix_text : (f : ℕ) (d : Operation) (word : List ℕ) (t u : TermTree) (r : List ℕ) → slice_get theory.operations f ≡ Some d →
      infix_at d.name 2 ≡ Some word →
      text (apply f (and_term t (and_term u no_terms))) ++ r
      ≡ 40 ∷ (gap t ++ (text t ++ (32 ∷ (word ++ (32 ∷ (text u ++ (41 ∷ (suffix d ++ r))))))))
  infix_text f d word t u r at some =
      ap (λ o. application_text theory.sorts theory.operations 2 (gap t) (text t ∷ text u ∷ []) o ++ r) at
      ∙ ap (λ o.
      (opening_by d.name 2 o ++ gap t ++ joined (separator_by o) (text t ∷ text u ∷ []) ++ codes ")" ++ suffix d) ++ r) some
      ∙ infix_parts (codes "(") (gap t) (text t) (codes " ") word (text u) (codes ")") (suffix d) r

  pub ends_suffix : (d : Operation) (r : List ℕ) → EndsTerm r → EndsTerm (suffix d ++ r)
  ends_suffix d r h = go (is_shared theory.operations d)
    where
      go : (b : Bool) → EndsTerm (of_sort theory.sorts b d.result ++ r)
      go true = inr (inl refl)
      go false = h

  gap_cases : (name : List ℕ) → (gap_before name ≡ []) ⊎ (gap_before name ≡ 32 ∷ [])
  gap_cases [] = inl refl
  gap_cases (b ∷ bs) = go (b == 42)
    where
      go : (c : Bool) → ((if c then codes " " else []) ≡ []) ⊎ ((if c then codes " " else []) ≡ 32 ∷ [])
      go true = inr refl
      go false = inl refl

  -- this text is that of no other ground term, whatever follows
  abbrev pub IsAlone : TermTree → Type 0
  IsAlone t =
      (u : TermTree) (a b : ℕ) (r s : List ℕ) → HasSort theory no_variables t a → HasSort theory no_variables u b → EndsTerm r → EndsTerm s →
      text t ++ r ≡ text u ++ s → (t ≡ u) × (r ≡ s)

  abbrev pub AreAlone : TermTrees → Type 0
  AreAlone no_terms = Unit {0}
  AreAlone (and_term t ts) = IsAlone t × AreAlone ts

  -- a term's text doesn't begin with a blank
  no_run : (name x y : List ℕ) (b : ℕ) → IsPlainName name → is_name_byte b ≡ false → name ++ x ≡ b ∷ y → ⊥
  no_run [] x y b p h e = let k = plain_begins [] p in omega (arith, k)
  no_run (c ∷ cs) x y b p h e =
      let first : c ≡ b = cc in
      let yes : is_name_byte c ≡ true = (plain_run (c ∷ cs) p).0 in
      let no : is_name_byte c ≡ false = ap is_name_byte first ∙ h in
      cc

  module _ (fits : FitsData theory) (names : Each (λ d. IsOperationName (length d.args) d.name) theory.operations) where
    pub form_at : (f : ℕ) (ts : TermTrees) (k : IsOver theory f ts) → Form k.operation.name (width ts)
    form_at f ts k =
        subst (Form k.operation.name) (sym (as_wide theory ts k.operation.args k.args))
        (form_of k.operation.name (length k.operation.args)
        (each_slice_get (λ d. IsOperationName (length d.args) d.name) theory.operations f k.operation names k.at))

    -- nor with any byte but those of names and an opening bracket
    begins : (f : ℕ) (ts : TermTrees) (k : IsOver theory f ts) (b : ℕ) (r y : List ℕ) →
        Form k.operation.name (width ts) → is_name_byte b ≡ false → (40 ≡ b → ⊥) → text (apply f ts) ++ r ≡ b ∷ y → ⊥
    begins f no_terms k b r y (plain p none) free other e =
        no_run k.operation.name (suffix k.operation ++ r) y b p free (sym (constant_text f k.operation r k.at) ∙ e)
    begins f (and_term t ts) k b r y (plain p none) free other e =
        no_run k.operation.name (40 ∷ (gap t ++ (text t ++ (commas ts ++ (suffix k.operation ++ r))))) y b p free
        (sym (prefix_text f k.operation t ts r k.at none) ∙ e)
    begins f no_terms k b r y (infixed word p two some is) free other e = omega (arith, two)
    begins f (and_term t no_terms) k b r y (infixed word p two some is) free other e = omega (arith, two)
    begins f (and_term t (and_term u no_terms)) k b r y (infixed word p two some is) free other e =
        let whole = sym (infix_text f k.operation word t u r k.at some) ∙ e in
        let first : 40 ≡ b = cc in
        other first
    begins f (and_term t (and_term u (and_term v ts))) k b r y (infixed word p two some is) free other e = omega (arith, two)

    pub begins_term : (t : TermTree) (a b : ℕ) (r y : List ℕ) → HasSort theory no_variables t a → is_name_byte b ≡ false → (40 ≡ b → ⊥) →
        text t ++ r ≡ b ∷ y → ⊥
    begins_term (variable x) a b r y h free other e = cc
    begins_term (apply f ts) a b r y h free other e =
        let k = over theory f ts a h in
        begins f ts k b r y (form_at f ts k) free other e

    -- the blank before the first argument tells nothing
    one_gap : (t u : TermTree) (a b : ℕ) (r s : List ℕ) → HasSort theory no_variables t a → HasSort theory no_variables u b →
        gap t ++ (text t ++ r) ≡ gap u ++ (text u ++ s) → text t ++ r ≡ text u ++ s
    one_gap t u a b r s h k e = go (gap t) (gap u) (gap_cases (head_name theory.operations [] t)) (gap_cases (head_name theory.operations [] u)) e
      where
        no_open : ◌≡◌ {A = ℕ} 40 32 → ⊥
        no_open e = omega (arith, e)

        go : (x y : List ℕ) → (x ≡ []) ⊎ (x ≡ 32 ∷ []) → (y ≡ []) ⊎ (y ≡ 32 ∷ []) → x ++ (text t ++ r) ≡ y ++ (text u ++ s) →
            text t ++ r ≡ text u ++ s
        go x y (inl p) (inl q) e = ap (λ l. l ++ (text t ++ r)) (sym p) ∙ e ∙ ap (λ l. l ++ (text u ++ s)) q
        go x y (inl p) (inr q) e =
            absurd (begins_term t a 32 r (text u ++ s) h refl no_open
            (ap (λ l. l ++ (text t ++ r)) (sym p) ∙ e ∙ ap (λ l. l ++ (text u ++ s)) q))
        go x y (inr p) (inl q) e =
            absurd (begins_term u b 32 s (text t ++ r) k refl no_open
            (sym (ap (λ l. l ++ (text t ++ r)) (sym p) ∙ e ∙ ap (λ l. l ++ (text u ++ s)) q)))
        go x y (inr p) (inr q) e =
            ap (drop 1) (ap (λ l. l ++ (text t ++ r)) (sym p) ∙ e ∙ ap (λ l. l ++ (text u ++ s)) q)

    pub commas_end : (ts : TermTrees) (r : List ℕ) → EndsTerm (commas ts ++ r)
    commas_end no_terms r = inr (inr (inl refl))
    commas_end (and_term t ts) r = inr (inr (inr (inl refl)))

    -- further arguments
    one_commas : (ts us : TermTrees) (x y r s : List ℕ) → AreAlone ts → HaveSorts theory no_variables ts x →
        HaveSorts theory no_variables us y → commas ts ++ r ≡ commas us ++ s → (ts ≡ us) × (r ≡ s)
    one_commas no_terms no_terms x y r s alone h k e = (refl, ap (drop 1) e)
    one_commas no_terms (and_term u us) x y r s alone h k e = absurd (omega (arith, ap first e))
    one_commas (and_term t ts) no_terms x y r s alone h k e = absurd (omega (arith, ap first e))
    one_commas (and_term t ts) (and_term u us) [] y r s alone h k e = absurd h
    one_commas (and_term t ts) (and_term u us) (a ∷ x) [] r s alone h k e = absurd k
    one_commas (and_term t ts) (and_term u us) (a ∷ x) (b ∷ y) r s alone h k e =
        let one =
        alone.0 u a b (commas ts ++ r) (commas us ++ s) h.0 k.0 (commas_end ts r) (commas_end us s)
        (sym (append_assoc (text t) (commas ts) r) ∙ ap (drop 1) e ∙ append_assoc (text u) (commas us) s) in
        let rest = one_commas ts us x y r s alone.1 h.1 k.1 one.1 in
        (ap (λ z. and_term z ts) one.0 ∙ ap (λ z. and_term u z) rest.0, rest.1)

    not_open : (x y : List ℕ) → EndsTerm x → x ≡ 40 ∷ y → ⊥
    not_open x y h e = go (subst EndsTerm e h)
      where
        go : EndsTerm (40 ∷ y) → ⊥
        go (inl q) = omega (arith, q)
        go (inr (inl q)) = omega (arith, q)
        go (inr (inr (inl q))) = omega (arith, q)
        go (inr (inr (inr (inl q)))) = omega (arith, q)
        go (inr (inr (inr (inr (inl q))))) = omega (arith, q)
        go (inr (inr (inr (inr (inr q))))) = q

    -- the sort of the first argument, and those of the others
    pub first_sort : (t : TermTree) (ts : TermTrees) (sorts : List ℕ) → HaveSorts theory no_variables (and_term t ts) sorts →
        (a : ℕ) × (others : List ℕ) × HasSort theory no_variables t a × HaveSorts theory no_variables ts others × (sorts ≡ a ∷ others)
    first_sort t ts [] h = absurd h
    first_sort t ts (a ∷ others) h = (a, others, h.0, h.1, refl)

    plain_not_open : (f : ℕ) (ts : TermTrees) (k : IsOver theory f ts) (r y : List ℕ) →
        IsPlainName k.operation.name → infix_at k.operation.name (width ts) ≡ None → text (apply f ts) ++ r ≡ 40 ∷ y → ⊥
    plain_not_open f no_terms k r y p none e =
        no_run k.operation.name (suffix k.operation ++ r) y 40 p refl (sym (constant_text f k.operation r k.at) ∙ e)
    plain_not_open f (and_term t ts) k r y p none e =
        no_run k.operation.name (40 ∷ (gap t ++ (text t ++ (commas ts ++ (suffix k.operation ++ r))))) y 40 p refl
        (sym (prefix_text f k.operation t ts r k.at none) ∙ e)

    infix_opens : (f : ℕ) (ts : TermTrees) (k : IsOver theory f ts) (word r : List ℕ) → width ts ≡ 2 →
        infix_at k.operation.name (width ts) ≡ Some word → (y : List ℕ) × (text (apply f ts) ++ r ≡ 40 ∷ y)
    infix_opens f no_terms k word r two some = absurd (omega (arith, two))
    infix_opens f (and_term t no_terms) k word r two some = absurd (omega (arith, two))
    infix_opens f (and_term t (and_term u no_terms)) k word r two some = (_, infix_text f k.operation word t u r k.at some)
    infix_opens f (and_term t (and_term u (and_term v ts))) k word r two some = absurd (omega (arith, two))

    suffix_stops : (d : Operation) (r : List ℕ) → EndsTerm r → Stops is_name_byte (suffix d ++ r)
    suffix_stops d r h = stops (suffix d ++ r) (ends_suffix d r h)

    module _ (sorts : Each IsIdentifier theory.sorts) (sorts_differ : NoTwo IsSameName theory.sorts)
        (operations_differ : NoTwo IsSameOperation theory.operations) where
      -- two operations with one name over equal arguments
      same_suffix : (f g : ℕ) (ts us : TermTrees) (k : IsOver theory f ts) (l : IsOver theory g us) (r s : List ℕ) →
          k.operation.name ≡ l.operation.name → ts ≡ us → EndsTerm r → EndsTerm s → suffix k.operation ++ r ≡ suffix l.operation ++ s →
          (apply f ts ≡ apply g us) × (r ≡ s)
      same_suffix f g ts us k l r s n same er es e =
          let args : k.operation.args ≡ l.operation.args =
          one_sorts theory no_variables us k.operation.args l.operation.args
          (subst (λ z. HaveSorts theory no_variables z k.operation.args) same k.args) l.args in
          let one =
          one_suffix theory f g k.operation l.operation r s sorts sorts_differ operations_differ
          (each_slice_get (OperationFits theory) theory.operations f k.operation fits.operations k.at).0
          (each_slice_get (OperationFits theory) theory.operations g l.operation fits.operations l.at).0 k.at l.at n args er es e in
          (ap (λ z. apply z ts) one.0 ∙ ap (λ z. apply g z) same, one.1)

      -- both names stand before their arguments
      both_plain : (f g : ℕ) (ts us : TermTrees) (k : IsOver theory f ts) (l : IsOver theory g us) (r s : List ℕ) → AreAlone ts →
          IsPlainName k.operation.name → infix_at k.operation.name (width ts) ≡ None → IsPlainName l.operation.name →
          infix_at l.operation.name (width us) ≡ None → EndsTerm r → EndsTerm s → text (apply f ts) ++ r ≡ text (apply g us) ++ s →
          (apply f ts ≡ apply g us) × (r ≡ s)
      both_plain f g no_terms no_terms k l r s alone p m q n er es e =
          let one =
          one_run is_name_byte k.operation.name l.operation.name (suffix k.operation ++ r) (suffix l.operation ++ s)
          (plain_run k.operation.name p) (plain_run l.operation.name q) (suffix_stops k.operation r er) (suffix_stops l.operation s es)
          (sym (constant_text f k.operation r k.at) ∙ e ∙ constant_text g l.operation s l.at) in
          same_suffix f g no_terms no_terms k l r s one.0 refl er es one.1
      both_plain f g no_terms (and_term u us) k l r s alone p m q n er es e =
          let one =
          one_run is_name_byte k.operation.name l.operation.name (suffix k.operation ++ r)
          (40 ∷ (gap u ++ (text u ++ (commas us ++ (suffix l.operation ++ s)))))
          (plain_run k.operation.name p) (plain_run l.operation.name q) (suffix_stops k.operation r er) refl
          (sym (constant_text f k.operation r k.at) ∙ e ∙ prefix_text g l.operation u us s l.at n) in
          absurd (not_open (suffix k.operation ++ r) (gap u ++ (text u ++ (commas us ++ (suffix l.operation ++ s))))
          (ends_suffix k.operation r er) one.1)
      both_plain f g (and_term t ts) no_terms k l r s alone p m q n er es e =
          let one =
          one_run is_name_byte k.operation.name l.operation.name
          (40 ∷ (gap t ++ (text t ++ (commas ts ++ (suffix k.operation ++ r))))) (suffix l.operation ++ s)
          (plain_run k.operation.name p) (plain_run l.operation.name q) refl (suffix_stops l.operation s es)
          (sym (prefix_text f k.operation t ts r k.at m) ∙ e ∙ constant_text g l.operation s l.at) in
          absurd (not_open (suffix l.operation ++ s) (gap t ++ (text t ++ (commas ts ++ (suffix k.operation ++ r))))
          (ends_suffix l.operation s es) (sym one.1))
      both_plain f g (and_term t ts) (and_term u us) k l r s alone p m q n er es e =
          let one =
          one_run is_name_byte k.operation.name l.operation.name
          (40 ∷ (gap t ++ (text t ++ (commas ts ++ (suffix k.operation ++ r)))))
          (40 ∷ (gap u ++ (text u ++ (commas us ++ (suffix l.operation ++ s)))))
          (plain_run k.operation.name p) (plain_run l.operation.name q) refl refl
          (sym (prefix_text f k.operation t ts r k.at m) ∙ e ∙ prefix_text g l.operation u us s l.at n) in
          let a = first_sort t ts k.operation.args k.args in
          let b = first_sort u us l.operation.args l.args in
          let inside =
          one_gap t u a.0 b.0 (commas ts ++ (suffix k.operation ++ r)) (commas us ++ (suffix l.operation ++ s)) a.2 b.2 (ap (drop 1) one.1) in
          let head =
          alone.0 u a.0 b.0 (commas ts ++ (suffix k.operation ++ r)) (commas us ++ (suffix l.operation ++ s)) a.2 b.2
          (commas_end ts (suffix k.operation ++ r)) (commas_end us (suffix l.operation ++ s)) inside in
          let rest = one_commas ts us a.1 b.1 (suffix k.operation ++ r) (suffix l.operation ++ s) alone.1 a.3 b.3 head.1 in
          same_suffix f g (and_term t ts) (and_term u us) k l r s one.0
          (ap (λ z. and_term z ts) head.0 ∙ ap (λ z. and_term u z) rest.0) er es rest.1

      -- both names stand between their arguments
      both_infixed : (f g : ℕ) (ts us : TermTrees) (k : IsOver theory f ts) (l : IsOver theory g us) (v w r s : List ℕ) → AreAlone ts →
          IsPlainName v → width ts ≡ 2 → infix_at k.operation.name (width ts) ≡ Some v → k.operation.name ≡ 95 ∷ (v ++ 95 ∷ []) →
          IsPlainName w → width us ≡ 2 → infix_at l.operation.name (width us) ≡ Some w → l.operation.name ≡ 95 ∷ (w ++ 95 ∷ []) →
          EndsTerm r → EndsTerm s → text (apply f ts) ++ r ≡ text (apply g us) ++ s → (apply f ts ≡ apply g us) × (r ≡ s)
      both_infixed f g (and_term t (and_term x no_terms)) (and_term u (and_term y no_terms)) k l v w r s alone p two m i q too n j er es e =
          let a = first_sort t (and_term x no_terms) k.operation.args k.args in
          let b = first_sort u (and_term y no_terms) l.operation.args l.args in
          let c = first_sort x no_terms a.1 a.3 in
          let d = first_sort y no_terms b.1 b.3 in
          let behind : List ℕ = 32 ∷ (v ++ (32 ∷ (text x ++ (41 ∷ (suffix k.operation ++ r))))) in
          let beyond : List ℕ = 32 ∷ (w ++ (32 ∷ (text y ++ (41 ∷ (suffix l.operation ++ s))))) in
          let inside =
          one_gap t u a.0 b.0 behind beyond a.2 b.2
          (ap (drop 1) (sym (infix_text f k.operation v t x r k.at m) ∙ e ∙ infix_text g l.operation w u y s l.at n)) in
          let head = alone.0 u a.0 b.0 behind beyond a.2 b.2 (inr (inl refl)) (inr (inl refl)) inside in
          let name =
          one_run is_name_byte v w (32 ∷ (text x ++ (41 ∷ (suffix k.operation ++ r)))) (32 ∷ (text y ++ (41 ∷ (suffix l.operation ++ s))))
          (plain_run v p) (plain_run w q) refl refl (ap (drop 1) head.1) in
          let last =
          alone.1.0 y c.0 d.0 (41 ∷ (suffix k.operation ++ r)) (41 ∷ (suffix l.operation ++ s)) c.2 d.2 (inr (inr (inl refl)))
          (inr (inr (inl refl))) (ap (drop 1) name.1) in
          same_suffix f g (and_term t (and_term x no_terms)) (and_term u (and_term y no_terms)) k l r s
          (i ∙ ap (λ z. 95 ∷ (z ++ 95 ∷ [])) name.0 ∙ sym j)
          (ap (λ z. and_term z (and_term x no_terms)) head.0 ∙ ap (λ z. and_term u (and_term z no_terms)) last.0) er es (ap (drop 1) last.1)
      both_infixed f g no_terms us k l v w r s alone p two m i q too n j er es e = absurd (omega (arith, two))
      both_infixed f g (and_term t no_terms) us k l v w r s alone p two m i q too n j er es e = absurd (omega (arith, two))
      both_infixed f g (and_term t (and_term x (and_term z ts))) us k l v w r s alone p two m i q too n j er es e = absurd (omega (arith, two))
      both_infixed f g ts no_terms k l v w r s alone p two m i q too n j er es e = absurd (omega (arith, too))
      both_infixed f g ts (and_term u no_terms) k l v w r s alone p two m i q too n j er es e = absurd (omega (arith, too))
      both_infixed f g ts (and_term u (and_term y (and_term z us))) k l v w r s alone p two m i q too n j er es e =
          absurd (omega (arith, too))

      by_forms : (f g : ℕ) (ts us : TermTrees) (k : IsOver theory f ts) (l : IsOver theory g us) (r s : List ℕ) → AreAlone ts →
          Form k.operation.name (width ts) → Form l.operation.name (width us) → EndsTerm r → EndsTerm s →
          text (apply f ts) ++ r ≡ text (apply g us) ++ s → (apply f ts ≡ apply g us) × (r ≡ s)
      by_forms f g ts us k l r s alone (plain p m) (plain q n) er es e = both_plain f g ts us k l r s alone p m q n er es e
      by_forms f g ts us k l r s alone (plain p m) (infixed w q too n j) er es e =
          let y = infix_opens g us l w s too n in
          absurd (plain_not_open f ts k r y.0 p m (e ∙ y.1))
      by_forms f g ts us k l r s alone (infixed v p two m i) (plain q n) er es e =
          let y = infix_opens f ts k v r two m in
          absurd (plain_not_open g us l s y.0 q n (sym e ∙ y.1))
      by_forms f g ts us k l r s alone (infixed v p two m i) (infixed w q too n j) er es e =
          both_infixed f g ts us k l v w r s alone p two m i q too n j er es e

      alone_over : (f : ℕ) (ts : TermTrees) → AreAlone ts → IsAlone (apply f ts)
      alone_over f ts alone (variable x) a b r s h k er es e = absurd (cc)
      alone_over f ts alone (apply g us) a b r s h k er es e =
          let m = over theory f ts a h in
          let n = over theory g us b k in
          by_forms f g ts us m n r s alone (form_at f ts m) (form_at g us n) er es e

      mutual
        pub one_term : (t : TermTree) → IsAlone t
        one_term (variable x) = λ u a b r s h. absurd (cc)
        one_term (apply f ts) = alone_over f ts (one_terms ts)

        one_terms : (ts : TermTrees) → AreAlone ts
        one_terms no_terms = tt
        one_terms (and_term t ts) = (one_term t, one_terms ts)
