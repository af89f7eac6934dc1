-- Slots with which a field may meet a field of an offer.
use Rattle.std.proofs.Common.{ℕ, ◌≡◌, ◌∙◌, ◌++◌, List, [], ◌∷◌, map, filter, length, Some, None, option_map, refl, ap, sym}
use Rattle.std.proofs.Common.{Bool, true, false, cond, if◌then◌else◌, ◌==◌, ◌||◌, arith, rules, subst}
use Rattle.std.proofs.lemmas.Bool.{eq-eqb}
use Rattle.std.proofs.lemmas.List.{append-nil}
use Rattle.std.proofs.lemmas.List.Elements.{filter-append}
use Rattle.std.proofs.lemmas.Slice.Eq.{bytes_eq-Decides}
use Rattle.std.specs.Str.{bytes_eq}
use Rattle.spec_core.specs.declared.items.Sort.{Sort}
use Rattle.spec_core.specs.Theories.{Theory}
use Rattle.spec_core.proofs.Lists.{filter_none}
use Rattle.rule_model.specs.declared.offer.Field.{Field}
use Rattle.rule_model.specs.declared.offer.Field.TheVariants.{Give, Take}
use Rattle.rule_model.specs.declared.rules.Slot.{Slot}
use Rattle.rule_model.specs.declared.rules.Slot.TheVariants.{Of}
use Rattle.symbolic_rules.specs.Windows.{Windows}
use Rattle.symbolic_composites.specs.OpenFields.{OpenField, blank, all_choices, choices, given_in, is_listed, is_marked}
use Rattle.symbolic_composites.specs.OpenFields.{mark_unless, unless_listed}
use Rattle.candidate_laws.specs.Waiting.{is_slot}
use Rattle.candidate_search.specs.Searches.{each_meeting, meeting_slots}
use Rattle.candidate_search.proofs.Found.{filter_all}

-- the slots with this value
abbrev pub same_as : List ℕ → List Slot → List Slot
same_as u slots = filter (λ own. is_slot u (own ∷ [])) slots

same : (u : List ℕ) → bytes_eq u u ≡ true
same u = search (bytes_eq-Decides u u, rules)

listed_none : (u : List ℕ) (values : List (List ℕ)) → length (same_as u (map Of values)) ≡ 0 → is_listed u values ≡ false
listed_none u [] e = refl
listed_none u (v ∷ values) e = by_first (bytes_eq v u) (listed_none u values) e
  where
    by_first : (b : Bool) → (length (same_as u (map Of values)) ≡ 0 → is_listed u values ≡ false) →
        length (cond (b || false) (Of v ∷ same_as u (map Of values)) (same_as u (map Of values))) ≡ 0 → (b || is_listed u values) ≡ false
    by_first true others e = absurd (omega (arith, e))
    by_first false others e = others e

listed_some : (u : List ℕ) (values : List (List ℕ)) → (length (same_as u (map Of values)) ≡ 0 → ⊥) → is_listed u values ≡ true
listed_some u [] e = absurd (e refl)
listed_some u (v ∷ values) e = by_first (bytes_eq v u) (listed_some u values) e
  where
    by_first : (b : Bool) → ((length (same_as u (map Of values)) ≡ 0 → ⊥) → is_listed u values ≡ true) →
        (length (cond (b || false) (Of v ∷ same_as u (map Of values)) (same_as u (map Of values))) ≡ 0 → ⊥) →
        (b || is_listed u values) ≡ true
    by_first true others e = refl
    by_first false others e = others e

-- the mark has no value
without_mark : (u : List ℕ) (complete : Bool) → same_as u (mark_unless complete) ≡ []
without_mark u true = refl
without_mark u false = refl

module _ (theory : Theory) (w : Windows) where
  -- the slots of the window, and the one that is given, apart
  apart : (u : List ℕ) (sort : ℕ) →
      same_as u (choices theory w (Some u) (blank false sort)) ≡
      same_as u (map Of (w.values sort)) ++ same_as u (unless_listed (w.values sort) (Some u))
  apart u sort =
      let values = map Of (w.values sort) in
      let given = unless_listed (w.values sort) (Some u) in
      filter-append (λ own. is_slot u (own ∷ [])) values (given ++ mark_unless (w.complete sort))
      ∙ ap (λ z. same_as u values ++ z)
      (filter-append (λ own. is_slot u (own ∷ [])) given (mark_unless (w.complete sort))
      ∙ ap (λ z. same_as u given ++ z) (without_mark u (w.complete sort)) ∙ append-nil (same_as u given))

  -- where no value of the window is the one that is given, that one stands alone
  pub given_alone : (u : List ℕ) (sort : ℕ) (slots all : List Slot) → slots ≡ same_as u (map Of (w.values sort)) → length slots ≡ 0 →
      all ≡ slots ++ Of u ∷ [] → all ≡ same_as u (choices theory w (Some u) (blank false sort))
  given_alone u sort slots all e none h =
      let values = w.values sort in
      let kept : same_as u (unless_listed values (Some u)) ≡ Of u ∷ [] =
      ap (λ b. same_as u (if b then [] else Of u ∷ [])) (listed_none u values (ap length (sym e) ∙ none))
      ∙ ap (λ b. cond (b || false) (Of u ∷ []) []) (same u) in
      h ∙ ap (λ z. z ++ Of u ∷ []) e ∙ ap (λ z. same_as u (map Of values) ++ z) (sym kept) ∙ sym (apart u sort)

  pub given_listed : (u : List ℕ) (sort : ℕ) (slots : List Slot) → slots ≡ same_as u (map Of (w.values sort)) → (length slots ≡ 0 → ⊥) →
      slots ≡ same_as u (choices theory w (Some u) (blank false sort))
  given_listed u sort slots e some =
      let values = w.values sort in
      let gone : same_as u (unless_listed values (Some u)) ≡ [] =
      ap (λ b. same_as u (if b then [] else Of u ∷ [])) (listed_some u values (λ none. some (ap length e ∙ none))) in
      e ∙ sym (append-nil (same_as u (map Of values))) ∙ ap (λ z. same_as u (map Of values) ++ z) (sym gone) ∙ sym (apart u sort)

  -- Of a field for which no expression tells a value, and none gives a mark: the slots that have the value that is given; or all, where a
  -- value of its sort is taken; or none.

  pub blank_given : (f : OpenField) (m : Bool) (sort : ℕ) (field : Field) (u : List ℕ) (kept : List Slot) → f ≡ blank m sort →
      field ≡ Give u → is_marked f ≡ false → kept ≡ same_as u (choices theory w (Some u) (blank false sort)) → kept ≡ meeting_slots theory w f field
  blank_given f m sort field u kept e gives unmarked h =
      let none : m ≡ false = sym (ap is_marked e) ∙ unmarked in
      subst (λ (z : OpenField). kept ≡ meeting_slots theory w z field) (sym e)
      (subst (λ (z : Field). kept ≡ meeting_slots theory w (blank m sort) z) (sym gives)
      (subst (λ (b : Bool). kept ≡ meeting_slots theory w (blank b sort) (Give u)) (sym none) h))

  pub blank_taken : (f : OpenField) (m : Bool) (sort : ℕ) (field : Field) (other : Sort) (kept : List Slot) → f ≡ blank m sort →
      field ≡ Take other → sort ≡ other.0 → kept ≡ choices theory w None f → kept ≡ meeting_slots theory w f field
  blank_taken f m sort field other kept e takes same h =
      subst (λ (z : OpenField). kept ≡ meeting_slots theory w z field) (sym e)
      (subst (λ (z : Field). kept ≡ meeting_slots theory w (blank m sort) z) (sym takes)
      (h ∙ ap (choices theory w None) e ∙ sym (filter_all (choices theory w None (blank m sort)))
      ∙ ap (λ b. filter (λ slot. b) (choices theory w None (blank m sort))) (sym (eq-eqb sort other.0 same))))

  pub blank_passed : (f : OpenField) (m : Bool) (sort : ℕ) (field : Field) (other : Sort) (kept : List Slot) → f ≡ blank m sort →
      field ≡ Take other → (sort == other.0) ≡ false → kept ≡ [] → kept ≡ meeting_slots theory w f field
  blank_passed f m sort field other kept e takes differ h =
      subst (λ (z : OpenField). kept ≡ meeting_slots theory w z field) (sym e)
      (subst (λ (z : Field). kept ≡ meeting_slots theory w (blank m sort) z) (sym takes)
      (h ∙ sym (filter_none (λ slot. sort == other.0) (choices theory w None (blank m sort)) (λ slot. differ))))

  -- the first field beside the others
  pub with_first : (f : OpenField) (fs : List OpenField) (field : Field) (fields : List Field) →
      each_meeting theory (f ∷ fs) (all_choices theory w (given_in (field ∷ fields)) (f ∷ fs)) (field ∷ fields) ≡
      option_map (λ others. meeting_slots theory w f field ∷ others) (each_meeting theory fs (all_choices theory w (given_in fields) fs) fields)
  with_first f fs (Give v) fields = refl
  with_first f fs (Take sort) fields = refl
