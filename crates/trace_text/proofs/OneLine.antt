-- The text of a line's parts is that of these parts alone, whatever follows.
use Rattle.std.proofs.Common.{ℕ, ◌≡◌, inl, inr, ◌<◌, ◌^◌, true, List, [], ◌∷◌, ◌++◌, codes, length}
use Rattle.value_text.specs.Bytes.{is_name_byte}
use Rattle.std.proofs.Common.{Option, Some, None, refl, ap, sym, ◌∙◌, subst, arith, append_assoc, drop, flat_map, decimal, map, unwrap_or}
use Rattle.std.specs.Char.{is_ascii_digit, to_ascii_lowercase}
use Rattle.spec_core.specs.Code.{Program}
use Rattle.spec_core.specs.Lists.{Each, IsOneOf}
use Rattle.spec_core.specs.Names.{IsIdentifier, reserved_words}
use Rattle.spec_core.specs.Ready.{AreNamed}
use Rattle.spec_core.specs.Sorts.{FitsData, FitsGround, IsDeclaredSort}
use Rattle.spec_core.specs.Terms.{TermTree}
use Rattle.spec_core.specs.declared.items.Gate.{Gate}
use Rattle.spec_core.specs.declared.items.Sort.{Sort}
use Rattle.spec_core.proofs.Members.{one_slice_get}
use Rattle.rule_model.specs.declared.action.Action.{Action}
use Rattle.rule_model.specs.declared.action.Action.TheVariants.{Inner, Exit, At}
use Rattle.rule_model.specs.declared.offer.Field.{Field}
use Rattle.rule_model.specs.declared.offer.Field.TheVariants.{Give, Take}
use Rattle.rule_model.specs.declared.offer.Offer.{Offer}
use Rattle.rule_model.specs.declared.reply.LimitKind.{LimitKind}
use Rattle.rule_model.specs.declared.reply.LimitKind.TheVariants.{Steps, Spread, Offers}
use Rattle.rule_model.specs.Events.{OfferName}
use Rattle.trace_text.specs.Fits.{IsClient, NameFits, ByFits, FieldFits, OfferFits, ActionFits}
use Rattle.trace_text.specs.Trace.{Names, name_text, by_text, limit_word, field_text, offer_text, values_text, action_text}
use Rattle.trace_text.specs.Names.{names_in}
use Rattle.value_text.specs.Values.{IsGroundList, value_text}
use Rattle.value_text.proofs.Names.{EndsTerm, at_place, identifier_run, one_named, stops}
use Rattle.value_text.proofs.OneTerm.{one_term}
use Rattle.value_text.proofs.OneValue.{one_value}
use Rattle.value_text.proofs.Runs.{Stops, one_number, one_run}

abbrev pub first : List ℕ → ℕ
first [] = 0
first (b ∷ bs) = b

abbrev pub second : List ℕ → ℕ
second [] = 0
second (b ∷ bs) = first bs

-- a client and the number of one of its offers
client_small : (n : ℕ) → IsClient n → n < 2 ^ 64
client_small n h = let small : 64 < 2 ^ 64 = omega arith in omega (arith, h, small)

name_parts : (name : OfferName) (r : List ℕ) → name_text name ++ r ≡ decimal name.0 ++ (46 ∷ (decimal name.1 ++ r))
name_parts name r = simp append_assoc

pub one_client : (m n : ℕ) (r s : List ℕ) → IsClient m → IsClient n → Stops is_ascii_digit r → Stops is_ascii_digit s →
    decimal m ++ r ≡ decimal n ++ s → (m ≡ n) × (r ≡ s)
one_client m n r s a b c d h = one_number m n r s (client_small m a) (client_small n b) c d h

pub one_name : (x y : OfferName) (r s : List ℕ) → NameFits x → NameFits y → Stops is_ascii_digit r → Stops is_ascii_digit s →
    name_text x ++ r ≡ name_text y ++ s → (x ≡ y) × (r ≡ s)
one_name x y r s a b c d h =
    let k =
    one_client x.0 y.0 (46 ∷ (decimal x.1 ++ r)) (46 ∷ (decimal y.1 ++ s)) a.0 b.0 refl refl (sym (name_parts x r) ∙ h ∙ name_parts y s) in
    let n = one_number x.1 y.1 r s a.2 b.2 c d (ap (drop 1) k.1) in
    (ap (λ z. (z, x.1)) k.0 ∙ ap (λ z. (y.0, z)) n.0, n.1)

pub one_by : (x y : Option OfferName) (r s : List ℕ) → ByFits x → ByFits y →
    by_text x ++ (codes " rules " ++ r) ≡ by_text y ++ (codes " rules " ++ s) → (x ≡ y) × (r ≡ s)
one_by None None r s a b h = (refl, ap (drop 7) h)
one_by None (Some y) r s a b h = absurd (omega (arith, ap second h))
one_by (Some x) None r s a b h = absurd (omega (arith, ap second h))
one_by (Some x) (Some y) r s a b h =
    let one =
    one_name x y (codes " rules " ++ r) (codes " rules " ++ s) a b refl refl
    (ap (drop 4) (sym (append_assoc (codes " by ") (name_text x) (codes " rules " ++ r)) ∙ h
    ∙ append_assoc (codes " by ") (name_text y) (codes " rules " ++ s))) in
    (ap Some one.0, ap (drop 7) one.1)

-- names of offers, each behind a blank, up to the end of the line
abbrev pub names_text : List OfferName → List ℕ
names_text names = flat_map (λ name. codes " " ++ name_text name) names

names_stop : (names : List OfferName) (r : List ℕ) → Stops is_ascii_digit (names_text names ++ (10 ∷ r))
names_stop [] r = refl
names_stop (x ∷ names) r = refl

pub one_names : (xs ys : List OfferName) (r s : List ℕ) → Each NameFits xs → Each NameFits ys →
    names_text xs ++ (10 ∷ r) ≡ names_text ys ++ (10 ∷ s) → (xs ≡ ys) × (r ≡ s)
one_names [] [] r s a b h = (refl, ap (drop 1) h)
one_names [] (y ∷ ys) r s a b h = absurd (omega (arith, ap first h))
one_names (x ∷ xs) [] r s a b h = absurd (omega (arith, ap first h))
one_names (x ∷ xs) (y ∷ ys) r s a b h =
    let one =
    one_name x y (names_text xs ++ (10 ∷ r)) (names_text ys ++ (10 ∷ s)) a.0 b.0 (names_stop xs r) (names_stop ys s)
    (ap (drop 1) (sym (append_assoc (codes " " ++ name_text x) (names_text xs) (10 ∷ r)) ∙ h
    ∙ append_assoc (codes " " ++ name_text y) (names_text ys) (10 ∷ s))) in
    let rest = one_names xs ys r s a.1 b.1 one.1 in
    (ap (λ z. z ∷ xs) one.0 ∙ ap (λ z. y ∷ z) rest.0, rest.1)

pub one_limit : (x y : LimitKind) (r s : List ℕ) → limit_word x ++ r ≡ limit_word y ++ s → (x ≡ y) × (r ≡ s)
one_limit Steps Steps r s h = (refl, ap (drop 11) h)
one_limit Steps Spread r s h = absurd (omega (arith, ap (λ l. first (drop 7 l)) h))
one_limit Steps Offers r s h = absurd (omega (arith, ap (λ l. first (drop 6 l)) h))
one_limit Spread Steps r s h = absurd (omega (arith, ap (λ l. first (drop 7 l)) h))
one_limit Spread Spread r s h = (refl, ap (drop 12) h)
one_limit Spread Offers r s h = absurd (omega (arith, ap (λ l. first (drop 6 l)) h))
one_limit Offers Steps r s h = absurd (omega (arith, ap (λ l. first (drop 6 l)) h))
one_limit Offers Spread r s h = absurd (omega (arith, ap (λ l. first (drop 6 l)) h))
one_limit Offers Offers r s h = (refl, ap (drop 12) h)

-- what follows fields: the end of a line, or a blank and a byte with which no field begins
abbrev pub EndsFields : List ℕ → Type 0
EndsFields r = EndsTerm r × (first r ≡ 32 → second r ≡ 33 → ⊥) × (first r ≡ 32 → second r ≡ 63 → ⊥)

module _ (program : Program) (fits : FitsData program.theory) (named : AreNamed program) where
  abbrev names : Names
  names = names_in program

  pub one_list : (v w r s : List ℕ) → IsGroundList program.theory v → IsGroundList program.theory w → EndsTerm r → EndsTerm s →
      value_text program.theory v ++ r ≡ value_text program.theory w ++ s → (v ≡ w) × (r ≡ s)
  one_list = one_value program.theory fits named.operations named.sorts named.sorts_differ named.operations_differ

  pub one_ground : (t u : TermTree) (r s : List ℕ) → FitsGround program.theory t → FitsGround program.theory u → EndsTerm r → EndsTerm s →
      names.term t ++ r ≡ names.term u ++ s → (t ≡ u) × (r ≡ s)
  one_ground t u r s a b =
      one_term program.theory fits named.operations named.sorts named.sorts_differ named.operations_differ t u a.0 b.0 r s a.1 b.1

  pub one_gate : (g h : Gate) (r s : List ℕ) → g.0 < length program.gates → h.0 < length program.gates → EndsTerm r → EndsTerm s →
      names.gate g ++ r ≡ names.gate h ++ s → (g ≡ h) × (r ≡ s)
  one_gate g h r s a b c d e =
      let one = one_named program.gates g.0 h.0 r s named.gates named.gates_differ a b c d e in
      (ap (λ (n : ℕ). let gate : Gate = record { 0 = n } in gate) one.0, one.1)

  one_sort_name : (g h : Sort) (r s : List ℕ) → IsDeclaredSort program.theory g.0 → IsDeclaredSort program.theory h.0 → EndsTerm r → EndsTerm s →
      names.sort g ++ r ≡ names.sort h ++ s → (g ≡ h) × (r ≡ s)
  one_sort_name g h r s a b c d e =
      let one = one_named program.theory.sorts g.0 h.0 r s named.sorts named.sorts_differ a b c d e in
      (ap (λ (n : ℕ). let sort : Sort = record { 0 = n } in sort) one.0, one.1)

  abbrev fields_text : List Field → List ℕ
  fields_text fields = flat_map (field_text names) fields

  fields_end : (fields : List Field) (r : List ℕ) → EndsTerm r → EndsTerm (fields_text fields ++ r)
  fields_end [] r h = h
  fields_end (Give v ∷ fields) r h = inr (inl refl)
  fields_end (Take sort ∷ fields) r h = inr (inl refl)

  one_field : (x y : Field) (r s : List ℕ) → FieldFits program x → FieldFits program y → EndsTerm r → EndsTerm s →
      field_text names x ++ r ≡ field_text names y ++ s → (x ≡ y) × (r ≡ s)
  one_field (Give v) (Give w) r s a b c d h =
      let one =
      one_list v w r s a b c d
      (ap (drop 2) (sym (append_assoc (codes " !") (names.value v) r) ∙ h ∙ append_assoc (codes " !") (names.value w) s)) in
      (ap Give one.0, one.1)
  one_field (Give v) (Take sort) r s a b c d h = absurd (omega (arith, ap second h))
  one_field (Take sort) (Give w) r s a b c d h = absurd (omega (arith, ap second h))
  one_field (Take x) (Take y) r s a b c d h =
      let one =
      one_sort_name x y r s a b c d
      (ap (drop 2) (sym (append_assoc (codes " ?") (names.sort x) r) ∙ h ∙ append_assoc (codes " ?") (names.sort y) s)) in
      (ap Take one.0, one.1)

  no_field : (x : Field) (r s : List ℕ) → EndsFields r → r ≡ field_text names x ++ s → ⊥
  no_field (Give v) r s k h = k.1 (ap first h) (ap second h)
  no_field (Take sort) r s k h = k.2 (ap first h) (ap second h)

  pub one_fields : (xs ys : List Field) (r s : List ℕ) → Each (FieldFits program) xs → Each (FieldFits program) ys →
      EndsFields r → EndsFields s → fields_text xs ++ r ≡ fields_text ys ++ s → (xs ≡ ys) × (r ≡ s)
  one_fields [] [] r s a b c d h = (refl, h)
  one_fields [] (y ∷ ys) r s a b c d h =
      absurd (no_field y r (fields_text ys ++ s) c (h ∙ append_assoc (field_text names y) (fields_text ys) s))
  one_fields (x ∷ xs) [] r s a b c d h =
      absurd (no_field x s (fields_text xs ++ r) d (sym h ∙ append_assoc (field_text names x) (fields_text xs) r))
  one_fields (x ∷ xs) (y ∷ ys) r s a b c d h =
      let one =
      one_field x y (fields_text xs ++ r) (fields_text ys ++ s) a.0 b.0 (fields_end xs r c.0) (fields_end ys s d.0)
      (sym (append_assoc (field_text names x) (fields_text xs) r) ∙ h ∙ append_assoc (field_text names y) (fields_text ys) s) in
      let rest = one_fields xs ys r s a.1 b.1 c d one.1 in
      (ap (λ z. z ∷ xs) one.0 ∙ ap (λ z. y ∷ z) rest.0, rest.1)

  pub one_offer : (x y : Offer) (r s : List ℕ) → OfferFits program x → OfferFits program y → EndsFields r → EndsFields s →
      offer_text names x ++ r ≡ offer_text names y ++ s → (x ≡ y) × (r ≡ s)
  one_offer x y r s a b c d h =
      let g =
      one_gate x.gate y.gate (fields_text x.fields ++ r) (fields_text y.fields ++ s) a.0 b.0 (fields_end x.fields r c.0)
      (fields_end y.fields s d.0)
      (sym (append_assoc (names.gate x.gate) (fields_text x.fields) r) ∙ h ∙ append_assoc (names.gate y.gate) (fields_text y.fields) s) in
      let f = one_fields x.fields y.fields r s a.1 b.1 c d g.1 in (
        ap (λ (z : Gate). let offer : Offer = record { gate = z; fields = x.fields } in offer) g.0
            ∙ ap (λ (z : List Field). let offer : Offer = record { gate = y.gate; fields = z } in offer) f.0,
        f.1,
      )

  -- the values of an action are written as fields that give them
  given : (values : List (List ℕ)) → values_text names values ≡ fields_text (map Give values)
  given [] = refl
  given (v ∷ values) = ap (λ l. (codes " !" ++ names.value v) ++ l) (given values)

  given_fit : (values : List (List ℕ)) → Each (IsGroundList program.theory) values → Each (FieldFits program) (map Give values)
  given_fit [] h = tt
  given_fit (v ∷ values) h = (h.0, given_fit values h.1)

  given_alike : (x y : List (List ℕ)) → map Give x ≡ map Give y → x ≡ y
  given_alike [] [] h = refl
  given_alike [] (w ∷ y) h = absurd (cc)
  given_alike (v ∷ x) [] h = absurd (cc)
  given_alike (v ∷ x) (w ∷ y) h =
      let one : v ≡ w = cc in
      let rest : map Give x ≡ map Give y = cc in
      ap (λ z. z ∷ x) one ∙ ap (λ z. w ∷ z) (given_alike x y rest)

  values_end : (values : List (List ℕ)) (r : List ℕ) → EndsTerm r → EndsTerm (values_text names values ++ r)
  values_end [] r h = h
  values_end (v ∷ values) r h = inr (inl refl)

  one_values : (x y : List (List ℕ)) (r s : List ℕ) → Each (IsGroundList program.theory) x → Each (IsGroundList program.theory) y →
      EndsFields r → EndsFields s → values_text names x ++ r ≡ values_text names y ++ s → (x ≡ y) × (r ≡ s)
  one_values x y r s a b c d h =
      let one =
      one_fields (map Give x) (map Give y) r s (given_fit x a) (given_fit y b) c d
      (ap (λ l. l ++ r) (sym (given x)) ∙ h ∙ ap (λ l. l ++ s) (given y)) in
      (given_alike x y one.0, one.1)

  pub internal : IsOneOf (map to_ascii_lowercase (codes "i")) reserved_words
  internal = one_slice_get reserved_words 18 (codes "i") refl

  pub ending : IsOneOf (map to_ascii_lowercase (codes "exit")) reserved_words
  ending = one_slice_get reserved_words 11 (codes "exit") refl

  -- no gate has a reserved word as its name
  pub free_gate : (g : Gate) (word x y : List ℕ) → g.0 < length program.gates → IsOneOf (map to_ascii_lowercase word) reserved_words →
      Each (λ b. is_name_byte b ≡ true) word → EndsTerm x → EndsTerm y → word ++ x ≡ names.gate g ++ y → ⊥
  free_gate g word x y within reserved run ex ey h =
      let k = at_place IsIdentifier program.gates g.0 named.gates within in
      let n : names.gate g ≡ k.item = ap (λ o. unwrap_or o []) k.at in
      let one =
      one_run is_name_byte word k.item x y run (identifier_run k.item k.holds) (stops x ex) (stops y ey) (h ∙ ap (λ l. l ++ y) n) in
      k.holds.word.free (subst (λ z. IsOneOf (map to_ascii_lowercase z) reserved_words) one.0 reserved)

  pub one_action : (x y : Action) (r s : List ℕ) → ActionFits program x → ActionFits program y → EndsFields r → EndsFields s →
      action_text names x ++ r ≡ action_text names y ++ s → (x ≡ y) × (r ≡ s)
  one_action Inner Inner r s a b c d h = (refl, ap (drop 1) h)
  one_action Inner (Exit w) r s a b c d h = absurd (omega (arith, ap first h))
  one_action Inner (At g w) r s a b c d h =
      absurd (free_gate g (codes "i") r (values_text names w ++ s) b.0 internal (refl, tt) c.0 (values_end w s d.0)
      (h ∙ append_assoc (names.gate g) (values_text names w) s))
  one_action (Exit v) Inner r s a b c d h = absurd (omega (arith, ap first h))
  one_action (Exit v) (Exit w) r s a b c d h =
      let one =
      one_values v w r s a b c d
      (ap (drop 4) (sym (append_assoc (codes "exit") (values_text names v) r) ∙ h ∙ append_assoc (codes "exit") (values_text names w) s)) in
      (ap Exit one.0, one.1)
  one_action (Exit v) (At g w) r s a b c d h =
      absurd (free_gate g (codes "exit") (values_text names v ++ r) (values_text names w ++ s) b.0 ending (refl, (refl, (refl, (refl, tt))))
      (values_end v r c.0) (values_end w s d.0)
      (sym (append_assoc (codes "exit") (values_text names v) r) ∙ h ∙ append_assoc (names.gate g) (values_text names w) s))
  one_action (At g v) Inner r s a b c d h =
      absurd (free_gate g (codes "i") s (values_text names v ++ r) a.0 internal (refl, tt) d.0 (values_end v r c.0)
      (sym h ∙ append_assoc (names.gate g) (values_text names v) r))
  one_action (At g v) (Exit w) r s a b c d h =
      absurd (free_gate g (codes "exit") (values_text names w ++ s) (values_text names v ++ r) a.0 ending (refl, (refl, (refl, (refl, tt))))
      (values_end w s d.0) (values_end v r c.0)
      (sym (append_assoc (codes "exit") (values_text names w) s) ∙ sym h ∙ append_assoc (names.gate g) (values_text names v) r))
  one_action (At g v) (At e w) r s a b c d h =
      let k =
      one_gate g e (values_text names v ++ r) (values_text names w ++ s) a.0 b.0 (values_end v r c.0) (values_end w s d.0)
      (sym (append_assoc (names.gate g) (values_text names v) r) ∙ h ∙ append_assoc (names.gate e) (values_text names w) s) in
      let l = one_values v w r s a.1 b.1 c d k.1 in
      (ap (λ z. At z v) k.0 ∙ ap (λ z. At e z) l.0, l.1)
