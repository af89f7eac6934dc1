-- Actions and offers that are read are those that are written.
use Rattle.std.proofs.Common.{ℕ, ◌≡◌, ◌<◌, Bool, true, false, List, ◌∷◌, ◌++◌, codes, Option, Some, None, refl, sym, ap, subst, ◌∙◌, length, arith}
use Rattle.std.proofs.Common.{append_assoc, flat_map, drop}
use Rattle.spec_core.specs.Code.{Program}
use Rattle.spec_core.specs.Lists.{Each}
use Rattle.spec_core.specs.Ready.{AreNamed}
use Rattle.spec_core.specs.Sorts.{FitsData}
use Rattle.spec_core.specs.declared.items.Gate.{Gate}
use Rattle.rule_model.specs.declared.action.Action.{Action}
use Rattle.rule_model.specs.declared.action.Action.TheVariants.{Inner, Exit, At}
use Rattle.rule_model.specs.declared.offer.Field.{Field}
use Rattle.rule_model.specs.declared.offer.Offer.{Offer}
use Rattle.trace_text.specs.Fits.{ActionFits, FieldFits, OfferFits}
use Rattle.trace_text.specs.Names.{names_in}
use Rattle.trace_text.specs.Trace.{Names, action_text, field_text, offer_text, values_text}
use Rattle.trace_text.proofs.OneLine.{ending, first, free_gate, internal}
use Rattle.value_text.specs.Values.{IsGroundList, name_at}
use Rattle.value_text.proofs.Names.{EndsTerm}
use Rattle.trace_reader.specs.Cursors.{EndsFields, Finds, Takes, behind, ending_there, past}
use Rattle.trace_reader.proofs.Ends.{fields_go, value_term, values_go}
use Rattle.trace_reader.proofs.Naming.{at_text, taken_not, there_so}

-- what stands behind a word that was taken as a name
word_taken : (word text : List ℕ) (old new : Option (List ℕ)) (b : Bool) → Takes (ending_there (past word old)) old b new → b ≡ true →
    old ≡ Some text → (rest : List ℕ) × ((text ≡ word ++ rest) × EndsTerm rest) × (new ≡ Some rest)
word_taken word text old new b takes here e =
    go (ending_there (behind word text)) refl (subst (λ s. Takes (ending_there (past word s)) s b new) e takes)
  where
    go : (o : Option (List ℕ)) → ending_there (behind word text) ≡ o → Takes o (Some text) b new →
        (rest : List ℕ) × ((text ≡ word ++ rest) × EndsTerm rest) × (new ≡ Some rest)
    go None k h = absurd (let wrong : true ≡ false = sym here ∙ h.0 in cc)
    go (Some rest) k h = (rest, at_text word text (behind word text) rest refl k, h.1)

-- a word that stands there as a name is taken
word_left : (word rest : List ℕ) (old new : Option (List ℕ)) (b : Bool) → Takes (ending_there (past word old)) old b new → b ≡ false →
    old ≡ Some (word ++ rest) → EndsTerm rest → ⊥
word_left word rest old new b takes fails e ends =
    let k = taken_not (ending_there (past word old)) old new b takes fails in
    let l = subst (λ s. ending_there (past word s) ≡ None) e k.0 in
    let wrong : None ≡ Some rest = sym l ∙ there_so word (word ++ rest) rest refl ends in
    cc

gate_alike : (m : ℕ) (g : Gate) → m ≡ g.0 → ◌≡◌ {A = Gate} (record { 0 = m }) g
gate_alike m g e = ap (λ (n : ℕ). let gate : Gate = record { 0 = n } in gate) e

module _ (program : Program) where
  abbrev names : Names
  names = names_in program

  -- an offer
  pub offer_read : (gate : ℕ) (fields : List Field) (old mid last : Option (List ℕ)) →
      Finds (name_at program.gates) (λ i. i < length program.gates) EndsTerm old mid (λ i. gate ≡ i) →
      Finds (flat_map (field_text names)) (Each (FieldFits program)) EndsFields mid last (λ all. fields ≡ all) →
      Finds (offer_text names) (OfferFits program) EndsFields old last
      (λ it. ◌≡◌ {A = Offer} (record { gate = record { 0 = gate }; fields = fields }) it)
  offer_read gate fields old mid last f g x rest fits ends e =
      let one =
      f x.gate.0 (flat_map (field_text names) x.fields ++ rest) fits.0
      (value_term (flat_map (field_text names) x.fields ++ rest) (fields_go names x.fields rest ends))
      (e ∙ ap Some (append_assoc (names.gate x.gate) (flat_map (field_text names) x.fields) rest)) in
      let two = g x.fields rest fits.1 ends one.1 in (
        ap (λ (z : Gate). let offer : Offer = record { gate = z; fields = fields } in offer) (gate_alike gate x.gate one.0)
            ∙ ap (λ (z : List Field). let offer : Offer = record { gate = x.gate; fields = z } in offer) two.0,
        two.1,
      )

  module _ (fits : FitsData program.theory) (named : AreNamed program) where
    values_end : (values : List (List ℕ)) (rest : List ℕ) → EndsFields rest → EndsTerm (values_text names values ++ rest)
    values_end values rest ends = value_term (values_text names values ++ rest) (values_go names values rest ends)

    fields_end : (rest : List ℕ) → EndsFields rest → EndsTerm rest
    fields_end rest ends = value_term rest ends.2

    -- the internal action
    pub inner_read : (old new : Option (List ℕ)) (b : Bool) → Takes (ending_there (past (codes "i") old)) old b new → b ≡ true →
        Finds (action_text names) (ActionFits program) EndsFields old new (λ it. Inner ≡ it)
    inner_read old new b takes here x rest fit ends e =
        let k = word_taken (codes "i") (action_text names x ++ rest) old new b takes here e in go x fit k.0 k.1.0 k.1.1 k.2
      where
        go : (x : Action) → ActionFits program x → (r : List ℕ) → action_text names x ++ rest ≡ codes "i" ++ r → EndsTerm r → new ≡ Some r →
            (Inner ≡ x) × (new ≡ Some rest)
        go Inner f r t er n = (refl, n ∙ ap Some (sym (ap (drop 1) t)))
        go (Exit v) f r t er n = absurd (omega (arith, ap first t))
        go (At g v) f r t er n =
            absurd (free_gate program fits named g (codes "i") r (values_text names v ++ rest) f.0 (internal program fits named) (refl, tt) er
            (values_end v rest ends) (sym t ∙ append_assoc (names.gate g) (values_text names v) rest))

    module _ (old new mid last : Option (List ℕ)) (a b : Bool) (first_not : Takes (ending_there (past (codes "i") old)) old a new) (fails : a ≡ false)
        (second : Takes (ending_there (past (codes "exit") new)) new b mid) where
      same : new ≡ old
      same = (taken_not (ending_there (past (codes "i") old)) old new a first_not fails).1

      not_inner : (rest : List ℕ) → EndsFields rest → old ≡ Some (105 ∷ rest) → ⊥
      not_inner rest ends e = word_left (codes "i") rest old new a first_not fails e (fields_end rest ends)

      -- the termination
      pub exit_read : b ≡ true → (values : List (List ℕ)) →
          Finds (values_text names) (Each (IsGroundList program.theory)) EndsFields mid last (λ all. values ≡ all) →
          Finds (action_text names) (ActionFits program) EndsFields old last (λ it. Exit values ≡ it)
      exit_read here values f x rest fit ends e =
          let k = word_taken (codes "exit") (action_text names x ++ rest) new mid b second here (same ∙ e) in go x fit e k.0 k.1.0 k.1.1 k.2
        where
          go : (x : Action) → ActionFits program x → old ≡ Some (action_text names x ++ rest) → (r : List ℕ) →
              action_text names x ++ rest ≡ codes "exit" ++ r → EndsTerm r → mid ≡ Some r → (Exit values ≡ x) × (last ≡ Some rest)
          go Inner g h r t er n = absurd (not_inner rest ends h)
          go (Exit v) g h r t er n =
              let q = f v rest g ends (n ∙ ap Some (sym (ap (drop 4) t))) in (ap Exit q.0, q.1)
          go (At w v) g h r t er n =
              absurd (free_gate program fits named w (codes "exit") r (values_text names v ++ rest) g.0 (ending program fits named)
              (refl, (refl, (refl, (refl, tt)))) er (values_end v rest ends) (sym t ∙ append_assoc (names.gate w) (values_text names v) rest))

      -- an action at a gate
      pub at_read : b ≡ false → (gate : ℕ) (values : List (List ℕ)) (behind_gate : Option (List ℕ)) →
          Finds (name_at program.gates) (λ i. i < length program.gates) EndsTerm mid behind_gate (λ i. gate ≡ i) →
          Finds (values_text names) (Each (IsGroundList program.theory)) EndsFields behind_gate last (λ all. values ≡ all) →
          Finds (action_text names) (ActionFits program) EndsFields old last (λ it. At (record { 0 = gate }) values ≡ it)
      at_read none gate values behind_gate f g x rest fit ends e = go x fit e
        where
          go : (x : Action) → ActionFits program x → old ≡ Some (action_text names x ++ rest) →
              (At (record { 0 = gate }) values ≡ x) × (last ≡ Some rest)
          go Inner k h = absurd (not_inner rest ends h)
          go (Exit v) k h =
              absurd (word_left (codes "exit") (values_text names v ++ rest) new mid b second none (same ∙ h) (values_end v rest ends))
          go (At w v) k h =
              let l = (taken_not (ending_there (past (codes "exit") new)) new mid b second none).1 in
              let one =
              f w.0 (values_text names v ++ rest) k.0 (values_end v rest ends)
              (l ∙ same ∙ h ∙ ap Some (append_assoc (names.gate w) (values_text names v) rest)) in
              let two = g v rest k.1 ends one.1 in
              (ap (λ z. At z values) (gate_alike gate w one.0) ∙ ap (At w) two.0, two.1)
