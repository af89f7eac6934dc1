-- Offers of the user.
use Rattle.std.proofs.Common.{ℕ, ◌≡◌, refl, subst, List, [], ◌∷◌}
use Rattle.spec_core.specs.declared.code.Checked.{Checked}
use Rattle.spec_core.specs.Lists.{Each}
use Rattle.spec_core.specs.Theories.{Theory, theory_of}
use Rattle.rule_model.specs.declared.offer.Field.{Field}
use Rattle.rule_model.specs.declared.offer.Field.TheVariants.{Give, Take}
use Rattle.rule_model.specs.declared.reply.Reply.{Reply}
use Rattle.rule_model.specs.Answers.{answer_of}
use Rattle.rule_model.specs.Wishes.{Wish}
use Rattle.script_offers.specs.declared.fault.WishFault.{WishFault}
use Rattle.script_offers.specs.Faults.{IsFaultOf}
use Rattle.script_offers.specs.Given.{IsValuedWithin, given_by}
use Rattle.script_offers.specs.Valued.{AreValuedFields, IsValuedField, IsValuedWish}
use Rattle.script_text.specs.Wishes.{WishedField, gives, takes, Wished}
use Rattle.board_laws.specs.JobValues.{FieldGivesValue, GivesValues}
use Rattle.board_core.specs.Views.{BoardView, state}
use Rattle.simulator_steps.specs.declared.asking.Answered.{Answered}
use Rattle.simulator_steps.specs.declared.asking.Answered.TheVariants.{Told}
use Rattle.simulator_steps.specs.Asking.{IsAnswered}
use Rattle.simulator.specs.Offering.{ComesOfOffer, TellsFault, is_asked, is_without}

-- what the fields of a wish give are values
module _ (theory : Theory) where
  field_gives : (w : WishedField) (f : Field) → IsValuedField theory w f → FieldGivesValue theory f
  field_gives (gives t) (Give v) h = (h.0, h.1.spelled, h.1.value.is_value)
  field_gives (gives t) (Take sort) h = absurd h
  field_gives (takes sort) (Give v) h = absurd h
  field_gives (takes sort) (Take other) h = tt

  fields_give : (ws : List WishedField) (fs : List Field) → AreValuedFields theory ws fs → Each (FieldGivesValue theory) fs
  fields_give [] [] h = tt
  fields_give [] (f ∷ fs) h = absurd h
  fields_give (w ∷ ws) [] h = absurd h
  fields_give (w ∷ ws) (f ∷ fs) h = (field_gives w f h.0, fields_give ws fs h.1)

  pub offer_gives : (w : Wished) (o : Wish) → IsValuedWish theory w o → GivesValues theory o.offer
  offer_gives w o h = fields_give w.fields o.offer.fields h.fields

module _ (v : BoardView) (checked : Checked) (same : checked ≡ v.session.checked) (budget : ℕ) (limit : budget ≡ v.settings.budget)
    (w : Wished) where
  -- each term has its value, and the offer is answered
  pub asked_so : (new : BoardView) (o : Wish) → IsValuedWish (theory_of checked.algebra) w o →
      Each (IsValuedWithin (theory_of checked.algebra) budget) (given_by w.fields) → (answered : Answered) →
      IsAnswered v new o.offer answered → ComesOfOffer v new w answered
  asked_so new o valued within answered h =
      is_asked o (subst (λ (c : Checked). IsValuedWish (theory_of c.algebra) w o) same valued)
      (subst (λ (n : ℕ). Each (IsValuedWithin (theory_of v.session.checked.algebra) n) (given_by w.fields)) limit
      (subst (λ (c : Checked). Each (IsValuedWithin (theory_of c.algebra) budget) (given_by w.fields)) same within)) h

  -- a term has none
  pub without_value : (fault : WishFault) (reply : Reply) (at : ℕ) → at ≡ (state v).actions →
      IsFaultOf (theory_of checked.algebra) budget (given_by w.fields) fault → TellsFault at fault (answer_of reply) →
      ComesOfOffer v v w (Told reply)
  without_value fault reply at count first tells =
      is_without reply refl
      (record {
        fault = fault;
        first =
            subst (λ (n : ℕ). IsFaultOf (theory_of v.session.checked.algebra) n (given_by w.fields) fault) limit
            (subst (λ (c : Checked). IsFaultOf (theory_of c.algebra) budget (given_by w.fields) fault) same first);
        tells = subst (λ (n : ℕ). TellsFault n fault (answer_of reply)) count tells;
      }) refl
