-- What is known of values that are told or chosen.
use Rattle.std.proofs.Common.{ℕ, ◌≡◌, ◌+◌, List, [], ◌∷◌, ◌++◌, length, map, refl, sym, ap, subst, ◌∙◌, append_assoc, arith}
use Rattle.std.proofs.Common.{Some, length-append}
use Rattle.std.specs.List.{slice_get}
use Rattle.spec_core.specs.Executable.{IsExecutable}
use Rattle.spec_core.specs.Terms.{TermTree, variable, instance, preorder}
use Rattle.spec_core.specs.Theories.{Theory}
use Rattle.spec_core.specs.Values.{HasValue}
use Rattle.spec_core.specs.Code.{Variable, ExitValue, exit_given, exit_any, ActionField, give, accept}
use Rattle.rule_laws.proofs.OneStep.{one_value}
use Rattle.rule_model.specs.declared.rules.Slot.{Slot}
use Rattle.rule_model.specs.declared.rules.Slot.TheVariants.{Of, Mark, Blank}
use Rattle.rule_model.specs.Fields.{GivesValue, FieldsHave, ExitHas, IsHandedOn}
use Rattle.rule_model.specs.Substitution.{Assignment, with_term}
use Rattle.rule_origins.specs.Values.{term_spelled, with_values, assignment, values_for}
use Rattle.rule_origins.proofs.Reading.{values_are_read}
use Rattle.node_values.specs.Found.{Spelled}
use Rattle.node_trees.specs.declared.rest.Known.{Known}
use Rattle.node_trees.specs.declared.rest.Known.TheVariants.{Told, Chosen}
use Rattle.node_trees.specs.Rests.{value_in, known_in, values_in}
use Rattle.node_steps.specs.Knowing.{tell, known_for, AreFieldsAt, HaveNoFields, AreExitAt, HaveNoExit}

-- what stands at a place of a list
pub at_place : (before rest : List Slot) (slot : Slot) (from : ℕ) → length before ≡ from → slice_get (before ++ (slot ∷ rest)) from ≡ Some slot
at_place before rest slot from e = subst (λ n. slice_get (before ++ (slot ∷ rest)) n ≡ Some slot) e (there before)
  where
    there : (xs : List Slot) → slice_get (xs ++ (slot ∷ rest)) (length xs) ≡ Some slot
    there [] = refl
    there (x ∷ xs) = there xs

-- a list with one slot moved from the front of the second part to the end of the first
pub moved : (before xs after : List Slot) (slot : Slot) → (before ++ (slot ∷ [])) ++ (xs ++ after) ≡ before ++ ((slot ∷ xs) ++ after)
moved before xs after slot = append_assoc before (slot ∷ []) (xs ++ after)

pub one_longer : (before : List Slot) (slot : Slot) (from n : ℕ) → length before ≡ from → n ≡ from + 1 → length (before ++ (slot ∷ [])) ≡ n
one_longer before slot from n e f = length-append before (slot ∷ []) ∙ omega (arith, e, f)

-- values that are told are what they were
pub values_told : (chosen : List Slot) (values : List (ℕ × List ℕ)) → values_in chosen (tell values) ≡ values
values_told chosen [] = refl
values_told chosen (b ∷ values) = ap (λ (l : List (ℕ × List ℕ)). b ∷ l) (values_told chosen values)

pub values_joined : (chosen : List Slot) (xs ys : List (ℕ × Known)) → values_in chosen (xs ++ ys) ≡ values_in chosen xs ++ values_in chosen ys
values_joined chosen [] ys = refl
values_joined chosen (b ∷ xs) ys =
    ap (λ (l : List (ℕ × List ℕ)). (b.0, known_in chosen b.1) ∷ l) (values_joined chosen xs ys)

pub values_handed : (chosen : List Slot) (xs : List Variable) (known : List Known) →
    values_in chosen (known_for xs known) ≡ values_for xs (map (known_in chosen) known)
values_handed chosen [] known = refl
values_handed chosen (x ∷ xs) [] = refl
values_handed chosen (x ∷ xs) (k ∷ known) =
    ap (λ (l : List (ℕ × List ℕ)). (x.number, known_in chosen k) ∷ l) (values_handed chosen xs known)

module _ (theory : Theory) where
  pub with_joined : (values more : List (ℕ × List ℕ)) (s : Assignment) →
      with_values theory (values ++ more) s ≡ with_values theory more (with_values theory values s)
  with_joined [] more s = refl
  with_joined (b ∷ values) more s =
      with_joined values more (with_term (record { number = b.0; sort = 0 }) (term_spelled theory b.0 b.1) s)

  -- values after others, all told before the chosen ones
  pub all_values : (chosen : List Slot) (values : List (ℕ × List ℕ)) (binders : List (ℕ × Known)) →
      assignment theory (values_in chosen (tell values ++ binders)) ≡ with_values theory (values_in chosen binders) (assignment theory values)
  unfolding assignment
  all_values chosen values binders =
      ap (assignment theory) (values_joined chosen (tell values) binders ∙ ap (λ l. l ++ values_in chosen binders) (values_told chosen values))
      ∙ with_joined values (values_in chosen binders) variable

  -- what is handed on is what is read
  pub handed_is_read : (xs : List Variable) (handed : List (List ℕ)) (s u : Assignment) →
      IsHandedOn theory s xs handed u → u ≡ with_values theory (values_for xs handed) s
  handed_is_read [] [] s u h = h
  handed_is_read (x ∷ xs) (v ∷ handed) s u h =
      handed_is_read xs handed (with_term x h.0 s) u h.2
      ∙ ap (λ n. with_values theory (values_for xs handed) (with_term x n s)) (sym (values_are_read theory x.number v h.0 x.sort h.1))
  handed_is_read _ _ s u h = absurd h

module _ (theory : Theory) (executable : IsExecutable theory) where
  -- a term's value is the told one
  told_value : (t n : TermTree) (v w : List ℕ) → Spelled theory t v → GivesValue theory t w n → w ≡ v
  told_value t n v w h g = g.spelled ∙ ap preorder (one_value theory executable t n h.value g.value h.has) ∙ sym h.spelled

  -- what the records below say
  abbrev FieldsAt : Assignment → ℕ → List ActionField → List Known → List (ℕ × Known) → Type 0
  FieldsAt s from fields known binders =
      (before after slots : List Slot) (values : List (List ℕ)) (t u : Assignment) → length before ≡ from →
      FieldsHave theory s t fields slots values u →
      (values ≡ map (known_in (before ++ (slots ++ after))) known) ×
      (u ≡ with_values theory (values_in (before ++ (slots ++ after)) binders) t)

  abbrev NoFields : Assignment → List ActionField → Type 0
  NoFields s fields = (slots : List Slot) (values : List (List ℕ)) (t u : Assignment) → FieldsHave theory s t fields slots values u → ⊥

  abbrev ExitAt : Assignment → ℕ → List ExitValue → List Known → Type 0
  ExitAt s from fields known =
      (before after slots : List Slot) (values : List (List ℕ)) → length before ≡ from → ExitHas theory s fields slots values →
      values ≡ map (known_in (before ++ (slots ++ after))) known

  abbrev NoExit : Assignment → List ExitValue → Type 0
  NoExit s fields = (slots : List Slot) (values : List (List ℕ)) → ExitHas theory s fields slots values → ⊥

  no_fields-at : (s : Assignment) (from : ℕ) → FieldsAt s from [] [] []
  no_fields-at s from before after [] [] t u e h = (refl, h)
  no_fields-at s from before after [] (v ∷ values) t u e h = absurd h
  no_fields-at s from before after (slot ∷ slots) values t u e h = absurd h

  told_first-at : (s : Assignment) (from : ℕ) (e : TermTree) (fields : List ActionField) (known : List Known) (binders : List (ℕ × Known))
      (v : List ℕ) → Spelled theory (instance s e) v → FieldsAt s from fields known binders →
      FieldsAt s from (give e ∷ fields) (Told v ∷ known) binders
  told_first-at s from e fields known binders v found rest before after slots [] t u l h = absurd h
  told_first-at s from e fields known binders v found rest before after slots (w ∷ values) t u l h =
      let r = rest before after slots values t u l h.1 in (
        ap (λ (x : List ℕ). x ∷ values) (told_value (instance s e) h.0.0 v w found h.0.1) ∙ ap (λ (l : List (List ℕ)). v ∷ l) r.0,
        r.1,
      )

  untold_first-at : (s : Assignment) (e : TermTree) (fields : List ActionField) → ((n : TermTree) → HasValue theory (instance s e) n → ⊥) →
      NoFields s (give e ∷ fields)
  untold_first-at s e fields none slots [] t u h = absurd h
  untold_first-at s e fields none slots (v ∷ values) t u h = none h.0.0 h.0.1.value

  untold_later-at : (s : Assignment) (e : TermTree) (fields : List ActionField) → NoFields s fields →
      NoFields s (give e ∷ fields)
  untold_later-at s e fields none slots [] t u h = absurd h
  untold_later-at s e fields none slots (v ∷ values) t u h = none slots values t u h.1

  chosen_first-at : (s : Assignment) (from next : ℕ) (x : Variable) (fields : List ActionField) (known : List Known)
      (binders : List (ℕ × Known)) → next ≡ from + 1 → FieldsAt s next fields known binders →
      FieldsAt s from (accept x ∷ fields) (Chosen from ∷ known) ((x.number, Chosen from) ∷ binders)
  chosen_first-at s from next x fields known binders e rest before after (Of w ∷ slots) (v ∷ values) t u l h =
      let there : known_in (before ++ (Of w ∷ (slots ++ after))) (Chosen from) ≡ w =
      ap value_in (at_place before (slots ++ after) (Of w) from l) in
      let r = rest (before ++ (Of w ∷ [])) after slots values (with_term x h.1 t) u (one_longer before (Of w) from next l e) h.3 in
      let chosen = before ++ (Of w ∷ (slots ++ after)) in
      let same = moved before slots after (Of w) in
      let read : term_spelled theory x.number w ≡ h.1 = values_are_read theory x.number w h.1 x.sort h.2 in (
        ap (λ (y : List ℕ). y ∷ values) (sym h.0 ∙ sym there)
            ∙ ap (λ (l : List (List ℕ)). known_in chosen (Chosen from) ∷ l) (r.0 ∙ ap (λ (c : List Slot). map (known_in c) known) same),
        r.1
            ∙ ap (λ (c : List Slot). with_values theory (values_in c binders) (with_term x h.1 t)) same
            ∙ ap (λ (n : TermTree). with_values theory (values_in chosen binders) (with_term x n t)) (sym read)
            ∙ ap (λ (y : List ℕ). with_values theory (values_in chosen binders) (with_term x (term_spelled theory x.number y) t))
            (sym there),
      )
  chosen_first-at s from next x fields known binders e rest before after (Of w ∷ slots) [] t u l h = absurd h
  chosen_first-at s from next x fields known binders e rest before after (Mark ∷ slots) values t u l h = absurd h
  chosen_first-at s from next x fields known binders e rest before after (Blank ∷ slots) values t u l h = absurd h
  chosen_first-at s from next x fields known binders e rest before after [] values t u l h = absurd h

  unchosen_later-at : (s : Assignment) (x : Variable) (fields : List ActionField) → NoFields s fields →
      NoFields s (accept x ∷ fields)
  unchosen_later-at s x fields none (Of w ∷ slots) (v ∷ values) t u h = none slots values (with_term x h.1 t) u h.3
  unchosen_later-at s x fields none (Of w ∷ slots) [] t u h = absurd h
  unchosen_later-at s x fields none (Mark ∷ slots) values t u h = absurd h
  unchosen_later-at s x fields none (Blank ∷ slots) values t u h = absurd h
  unchosen_later-at s x fields none [] values t u h = absurd h

  no_exit-at : (s : Assignment) (from : ℕ) → ExitAt s from [] []
  no_exit-at s from before after [] [] e h = refl
  no_exit-at s from before after [] (v ∷ values) e h = absurd h
  no_exit-at s from before after (slot ∷ slots) values e h = absurd h

  told_exit-at : (s : Assignment) (from : ℕ) (e : TermTree) (fields : List ExitValue) (known : List Known) (v : List ℕ) →
      Spelled theory (instance s e) v → ExitAt s from fields known → ExitAt s from (exit_given e ∷ fields) (Told v ∷ known)
  told_exit-at s from e fields known v found rest before after slots [] l h = absurd h
  told_exit-at s from e fields known v found rest before after slots (w ∷ values) l h =
      ap (λ (x : List ℕ). x ∷ values) (told_value (instance s e) h.0.0 v w found h.0.1)
      ∙ ap (λ (l : List (List ℕ)). v ∷ l) (rest before after slots values l h.1)

  untold_exit-at : (s : Assignment) (e : TermTree) (fields : List ExitValue) → ((n : TermTree) → HasValue theory (instance s e) n → ⊥) →
      NoExit s (exit_given e ∷ fields)
  untold_exit-at s e fields none slots [] h = absurd h
  untold_exit-at s e fields none slots (v ∷ values) h = none h.0.0 h.0.1.value

  untold_exit_later-at : (s : Assignment) (e : TermTree) (fields : List ExitValue) → NoExit s fields →
      NoExit s (exit_given e ∷ fields)
  untold_exit_later-at s e fields none slots [] h = absurd h
  untold_exit_later-at s e fields none slots (v ∷ values) h = none slots values h.1

  chosen_exit-at : (s : Assignment) (from next sort : ℕ) (fields : List ExitValue) (known : List Known) → next ≡ from + 1 →
      ExitAt s next fields known → ExitAt s from (exit_any sort ∷ fields) (Chosen from ∷ known)
  chosen_exit-at s from next sort fields known e rest before after (Of w ∷ slots) (v ∷ values) l h =
      let there : known_in (before ++ (Of w ∷ (slots ++ after))) (Chosen from) ≡ w =
      ap value_in (at_place before (slots ++ after) (Of w) from l) in
      ap (λ (y : List ℕ). y ∷ values) (sym h.0 ∙ sym there)
      ∙ ap (λ (l : List (List ℕ)). known_in (before ++ (Of w ∷ (slots ++ after))) (Chosen from) ∷ l)
      (rest (before ++ (Of w ∷ [])) after slots values (one_longer before (Of w) from next l e) h.2
      ∙ ap (λ (c : List Slot). map (known_in c) known) (moved before slots after (Of w)))
  chosen_exit-at s from next sort fields known e rest before after (Of w ∷ slots) [] l h = absurd h
  chosen_exit-at s from next sort fields known e rest before after (Mark ∷ slots) values l h = absurd h
  chosen_exit-at s from next sort fields known e rest before after (Blank ∷ slots) values l h = absurd h
  chosen_exit-at s from next sort fields known e rest before after [] values l h = absurd h

  unchosen_exit-at : (s : Assignment) (sort : ℕ) (fields : List ExitValue) → NoExit s fields →
      NoExit s (exit_any sort ∷ fields)
  unchosen_exit-at s sort fields none (Of w ∷ slots) (v ∷ values) h = none slots values h.2
  unchosen_exit-at s sort fields none (Of w ∷ slots) [] h = absurd h
  unchosen_exit-at s sort fields none (Mark ∷ slots) values h = absurd h
  unchosen_exit-at s sort fields none (Blank ∷ slots) values h = absurd h
  unchosen_exit-at s sort fields none [] values h = absurd h

  pub no_fields : (s : Assignment) (from : ℕ) → AreFieldsAt theory s from [] [] []
  no_fields s from = record { are = no_fields-at s from }

  pub told_first : (s : Assignment) (from : ℕ) (all fields : List ActionField) (e : TermTree) (known others : List Known)
      (binders more : List (ℕ × Known)) (v : List ℕ) → all ≡ give e ∷ fields → Spelled theory (instance s e) v →
      AreFieldsAt theory s from fields others more → known ≡ Told v ∷ others → binders ≡ more → AreFieldsAt theory s from all known binders
  told_first s from all fields e known others binders more v is found rest k b =
      subst (λ (l : List ActionField). AreFieldsAt theory s from l known binders) (sym is)
      (subst (λ (l : List Known). AreFieldsAt theory s from (give e ∷ fields) l binders) (sym k)
      (subst (λ (l : List (ℕ × Known)). AreFieldsAt theory s from (give e ∷ fields) (Told v ∷ others) l) (sym b)
      (record { are = told_first-at s from e fields others more v found rest.are })))

  pub untold_first : (s : Assignment) (all fields : List ActionField) (e : TermTree) → all ≡ give e ∷ fields →
      ((n : TermTree) → HasValue theory (instance s e) n → ⊥) → HaveNoFields theory s all
  untold_first s all fields e is none =
      subst (λ (l : List ActionField). HaveNoFields theory s l) (sym is) (record { none = untold_first-at s e fields none })

  pub untold_later : (s : Assignment) (all fields : List ActionField) (e : TermTree) → all ≡ give e ∷ fields →
      HaveNoFields theory s fields → HaveNoFields theory s all
  untold_later s all fields e is h =
      subst (λ (l : List ActionField). HaveNoFields theory s l) (sym is) (record { none = untold_later-at s e fields h.none })

  pub chosen_first : (s : Assignment) (from next : ℕ) (all fields : List ActionField) (x : Variable) (known others : List Known)
      (binders more : List (ℕ × Known)) → all ≡ accept x ∷ fields → next ≡ from + 1 → AreFieldsAt theory s next fields others more →
      known ≡ Chosen from ∷ others → binders ≡ (x.number, Chosen from) ∷ more → AreFieldsAt theory s from all known binders
  chosen_first s from next all fields x known others binders more is e rest k b =
      subst (λ (l : List ActionField). AreFieldsAt theory s from l known binders) (sym is)
      (subst (λ (l : List Known). AreFieldsAt theory s from (accept x ∷ fields) l binders) (sym k)
      (subst (λ (l : List (ℕ × Known)). AreFieldsAt theory s from (accept x ∷ fields) (Chosen from ∷ others) l) (sym b)
      (record { are = chosen_first-at s from next x fields others more e rest.are })))

  pub unchosen_later : (s : Assignment) (all fields : List ActionField) (x : Variable) → all ≡ accept x ∷ fields →
      HaveNoFields theory s fields → HaveNoFields theory s all
  unchosen_later s all fields x is h =
      subst (λ (l : List ActionField). HaveNoFields theory s l) (sym is) (record { none = unchosen_later-at s x fields h.none })

  pub no_exit : (s : Assignment) (from : ℕ) → AreExitAt theory s from [] []
  no_exit s from = record { are = no_exit-at s from }

  pub told_exit : (s : Assignment) (from : ℕ) (all fields : List ExitValue) (e : TermTree) (known others : List Known) (v : List ℕ) →
      all ≡ exit_given e ∷ fields → Spelled theory (instance s e) v → AreExitAt theory s from fields others → known ≡ Told v ∷ others →
      AreExitAt theory s from all known
  told_exit s from all fields e known others v is found rest k =
      subst (λ (l : List ExitValue). AreExitAt theory s from l known) (sym is)
      (subst (λ (l : List Known). AreExitAt theory s from (exit_given e ∷ fields) l) (sym k)
      (record { are = told_exit-at s from e fields others v found rest.are }))

  pub untold_exit : (s : Assignment) (all fields : List ExitValue) (e : TermTree) → all ≡ exit_given e ∷ fields →
      ((n : TermTree) → HasValue theory (instance s e) n → ⊥) → HaveNoExit theory s all
  untold_exit s all fields e is none =
      subst (λ (l : List ExitValue). HaveNoExit theory s l) (sym is) (record { none = untold_exit-at s e fields none })

  pub untold_exit_later : (s : Assignment) (all fields : List ExitValue) (e : TermTree) → all ≡ exit_given e ∷ fields →
      HaveNoExit theory s fields → HaveNoExit theory s all
  untold_exit_later s all fields e is h =
      subst (λ (l : List ExitValue). HaveNoExit theory s l) (sym is) (record { none = untold_exit_later-at s e fields h.none })

  pub chosen_exit : (s : Assignment) (from next sort : ℕ) (all fields : List ExitValue) (known others : List Known) →
      all ≡ exit_any sort ∷ fields → next ≡ from + 1 → AreExitAt theory s next fields others → known ≡ Chosen from ∷ others →
      AreExitAt theory s from all known
  chosen_exit s from next sort all fields known others is e rest k =
      subst (λ (l : List ExitValue). AreExitAt theory s from l known) (sym is)
      (subst (λ (l : List Known). AreExitAt theory s from (exit_any sort ∷ fields) l) (sym k)
      (record { are = chosen_exit-at s from next sort fields others e rest.are }))

  pub unchosen_exit : (s : Assignment) (sort : ℕ) (all fields : List ExitValue) → all ≡ exit_any sort ∷ fields →
      HaveNoExit theory s fields → HaveNoExit theory s all
  unchosen_exit s sort all fields is h =
      subst (λ (l : List ExitValue). HaveNoExit theory s l) (sym is) (record { none = unchosen_exit-at s sort fields h.none })
