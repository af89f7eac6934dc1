-- What is answered of an offer, and what else holds then.
use Rattle.std.proofs.Common.{ℕ, ◌≡◌, List, Result, Ok, Err, IfOk, true, map, sym, subst, ap, ◌∙◌}
use Rattle.lotos_ast.specs.declared.text_kind.TextKind.{TextKind}
use Rattle.spec_core.specs.Code.{Program}
use Rattle.sort_overloads.specs.Readings.{Context}
use Rattle.script_text.specs.declared.fault.LineFault.{LineFault}
use Rattle.script_text.specs.declared.fault.LineFault.TheVariants.{Kind, Memory}
use Rattle.script_text.specs.declared.wish.Wish.{Wish}
use Rattle.script_text.specs.declared.written.WrittenField.{WrittenField}
use Rattle.script_text.specs.declared.written.WrittenOffer.{WrittenOffer}
use Rattle.script_text.specs.Answers.{IfKind, OnKind}
use Rattle.script_text.specs.Faults.{IsOfferFault}
use Rattle.script_text.specs.Meanings.{context_in, OfferMeans}
use Rattle.script_text.specs.Offers.{SpellsOffer, SpellsNoOffer}
use Rattle.script_text.specs.Scripts.{WishFits}
use Rattle.script_text.specs.Texts.{IsTextOf, IsNoTextOf}
use Rattle.script_text.specs.Views.{field_of, offer_tree}
use Rattle.script_text.specs.Wishes.{Wished, wished_of}
use Rattle.script_text.specs.Written.{Field, wish_offer, gate_in, offered_in}
use Rattle.script_text.proofs.FieldTrees.{fields_said}
use Rattle.script_text.proofs.OneOffer.{one_offer_meaning, offer_or_fault, offer_fits}
use Rattle.script_text.proofs.WholeTexts.{one_text}

-- what stands in the tree of an offer that was read
offer_spelled : (program : Program) (text : List ℕ) (c : Context) (o : WrittenOffer) (w : Wish) → IsTextOf wish_offer text (offer_tree o) →
    c ≡ context_in program.theory → w.ask ≡ true →
    OfferMeans c program.gates o.gate.text (map field_of o.fields.items) (wished_of w) → SpellsOffer program text (wished_of w)
offer_spelled program text c o w h e a m = record {
  tree = offer_tree o;
  written = h;
  asks = a;
  means = subst (λ fields. OfferMeans (context_in program.theory) program.gates o.gate.text fields (wished_of w)) (sym (fields_said o.fields.items))
      (subst (λ z. OfferMeans z program.gates o.gate.text (map field_of o.fields.items) (wished_of w)) e m);
}

-- a text that is no offer spells none
pub no_text_offered : (program : Program) (text : List ℕ) → IsNoTextOf wish_offer text → SpellsNoOffer program text
no_text_offered program text h = record { none = λ w k. h.none k.tree k.written }

-- nor does one whose offer is at fault
fault_offered : (program : Program) (text : List ℕ) (c : Context) (o : WrittenOffer) (kind : TextKind) →
    IsTextOf wish_offer text (offer_tree o) → c ≡ context_in program.theory →
    IsOfferFault c program.gates o.gate.text (map field_of o.fields.items) kind → SpellsNoOffer program text
fault_offered program text c o kind h e f = record {
  none = λ w k.
      let same : k.tree ≡ offer_tree o = one_text k.written h in
      let fields : offered_in k.tree ≡ map field_of o.fields.items = ap offered_in same ∙ fields_said o.fields.items in
      let means : OfferMeans (context_in program.theory) program.gates o.gate.text (map field_of o.fields.items) w =
      subst (λ z. OfferMeans (context_in program.theory) program.gates o.gate.text z w) fields
      (subst (λ z. OfferMeans (context_in program.theory) program.gates z (offered_in k.tree) w) (ap gate_in same) k.means) in
      offer_or_fault (context_in program.theory) program.gates o.gate.text (map field_of o.fields.items) w kind means
      (subst (λ z. IsOfferFault z program.gates o.gate.text (map field_of o.fields.items) kind) e f);
}

-- what is answered of an offer that was read, by what its gate and fields mean
module _ (program : Program) (text : List ℕ) (c : Context) (gates : List (List ℕ)) (o : WrittenOffer) (fields : List WrittenField)
    (h : IsTextOf wish_offer text (offer_tree o)) (e : c ≡ context_in program.theory) (f : gates ≡ program.gates)
    (g : fields ≡ o.fields.items) where
  there : (w : Wished) → OfferMeans c gates o.gate.text (map field_of fields) w →
      OfferMeans c program.gates o.gate.text (map field_of o.fields.items) w
  there w m =
      subst (λ z. OfferMeans c program.gates o.gate.text (map field_of z) w) g
      (subst (λ z. OfferMeans c z o.gate.text (map field_of fields) w) f m)

  pub spelled_answer : (r : Result Wish LineFault) → IfOk r (λ w. OfferMeans c gates o.gate.text (map field_of fields) (wished_of w)) →
      IfOk r (λ w. w.ask ≡ true) → IfOk r (λ w. SpellsOffer program text (wished_of w))
  spelled_answer (Ok w) m a = offer_spelled program text c o w h e a (there (wished_of w) m)
  spelled_answer (Err fault) m a = tt

  pub faulty_answer : (r : Result Wish LineFault) → IfKind r (IsOfferFault c gates o.gate.text (map field_of fields)) →
      IfKind r (λ kind. SpellsNoOffer program text)
  faulty_answer (Ok w) k = tt
  faulty_answer (Err (Kind kind)) k =
      fault_offered program text c o kind h e
      (subst (λ z. IsOfferFault c program.gates o.gate.text (map field_of z) kind) g
      (subst (λ z. IsOfferFault c z o.gate.text (map field_of fields) kind) f k))
  faulty_answer (Err Memory) k = tt

-- an offer that a text spells is the only one
pub one_offer : (program : Program) (text : List ℕ) (w v : Wished) → SpellsOffer program text w → SpellsOffer program text v → w ≡ v
one_offer program text w v h k =
    let same : k.tree ≡ h.tree = one_text k.written h.written in
    one_offer_meaning (context_in program.theory) program.gates (gate_in h.tree) (offered_in h.tree) w v (h.asks ∙ sym k.asks) h.means
    (subst (λ tree. OfferMeans (context_in program.theory) program.gates (gate_in tree) (offered_in tree) v) same k.means)

pub only_offer : (program : Program) (text : List ℕ) (r : Result Wish LineFault) → IfOk r (λ w. SpellsOffer program text (wished_of w)) →
    IfOk r (λ w. (other : Wished) → SpellsOffer program text other → other ≡ wished_of w)
only_offer program text (Ok w) h = λ other k. one_offer program text other (wished_of w) k h
only_offer program text (Err e) h = tt

pub fitting_offer : (program : Program) (text : List ℕ) (r : Result Wish LineFault) → IfOk r (λ w. SpellsOffer program text (wished_of w)) →
    IfOk r (λ w. WishFits program (wished_of w))
fitting_offer program text (Ok w) h = offer_fits program (gate_in h.tree) (offered_in h.tree) (wished_of w) h.means
fitting_offer program text (Err e) h = tt
