-- Trees of rules that are tested to be one are one.
use Rattle.std.proofs.Common.{◌≡◌, ◌==◌, List, [], ◌∷◌, refl, ap, subst, ◌∙◌, true}
use Rattle.rule_model.specs.declared.rules.Slot.{Slot}
use Rattle.rule_model.specs.declared.rules.Slot.TheVariants.{Of, Mark, Blank}
use Rattle.rule_model.specs.Derivations.{Derivation, pre, int, exiting, chl, chr, val, gate, guard, letting, parl, parr, both, hiding, pass}
use Rattle.rule_model.specs.Derivations.{enstep, enend, disstep, disend, distake, calling, rel}
use Rattle.std.proofs.lemmas.Bool.Decides.{Decides-eqb}
use Rattle.std.proofs.lemmas.Bool.{and_from, and_parts, false≢true}
use Rattle.std.proofs.lemmas.Slice.Eq.{bytes_eq-Decides}
use Rattle.symbolic_composites.proofs.Tests.{same_value, same_number}
use Rattle.candidate_verdicts.specs.Same.{same_slot, same_slots, same_rules}
use Rattle.candidate_verdicts.specs.Laws.{SameRulesAreOne}

slot_is : (s t : Slot) → same_slot s t ≡ true → s ≡ t
slot_is (Of v) (Of u) e = ap Of ((bytes_eq-Decides v u).0 e)
slot_is Mark Mark e = refl
slot_is Blank Blank e = refl
slot_is _ _ e = absurd (false≢true e)

slot_same : (s : Slot) → same_slot s s ≡ true
slot_same (Of v) = same_value v v refl
slot_same Mark = refl
slot_same Blank = refl

slots_are : (ss ts : List Slot) → same_slots ss ts ≡ true → ss ≡ ts
slots_are [] [] e = refl
slots_are (s ∷ ss) (t ∷ ts) e =
    let r = and_parts (same_slot s t) (same_slots ss ts) e in
    ap (λ z. z ∷ ss) (slot_is s t r.0) ∙ ap (λ z. t ∷ z) (slots_are ss ts r.1)
slots_are _ _ e = absurd (false≢true e)

slots_same : (ss : List Slot) → same_slots ss ss ≡ true
slots_same [] = refl
slots_same (s ∷ ss) = and_from (same_slot s s) (same_slots ss ss) (slot_same s) (slots_same ss)

pub rules_are : (d e : Derivation) → same_rules d e ≡ true → d ≡ e
rules_are (pre ss) (pre ts) q = ap pre (slots_are ss ts q)
rules_are int int q = refl
rules_are (exiting ss) (exiting ts) q = ap exiting (slots_are ss ts q)
rules_are (chl d) (chl e) q = ap chl (rules_are d e q)
rules_are (chr d) (chr e) q = ap chr (rules_are d e q)
rules_are (val s d) (val t e) q =
    let r = and_parts (same_slot s t) (same_rules d e) q in
    ap (λ z. val z d) (slot_is s t r.0) ∙ ap (val t) (rules_are d e r.1)
rules_are (gate i d) (gate j e) q =
    let r = and_parts (i == j) (same_rules d e) q in
    ap (λ z. gate z d) ((Decides-eqb i j).0 r.0) ∙ ap (gate j) (rules_are d e r.1)
rules_are (guard d) (guard e) q = ap guard (rules_are d e q)
rules_are (letting d) (letting e) q = ap letting (rules_are d e q)
rules_are (parl d) (parl e) q = ap parl (rules_are d e q)
rules_are (parr d) (parr e) q = ap parr (rules_are d e q)
rules_are (both d f) (both e g) q =
    let r = and_parts (same_rules d e) (same_rules f g) q in
    ap (λ z. both z f) (rules_are d e r.0) ∙ ap (both e) (rules_are f g r.1)
rules_are (hiding d) (hiding e) q = ap hiding (rules_are d e q)
rules_are (pass d) (pass e) q = ap pass (rules_are d e q)
rules_are (enstep d) (enstep e) q = ap enstep (rules_are d e q)
rules_are (enend d) (enend e) q = ap enend (rules_are d e q)
rules_are (disstep d) (disstep e) q = ap disstep (rules_are d e q)
rules_are (disend d) (disend e) q = ap disend (rules_are d e q)
rules_are (distake d) (distake e) q = ap distake (rules_are d e q)
rules_are (calling d) (calling e) q = ap calling (rules_are d e q)
rules_are (rel d) (rel e) q = ap rel (rules_are d e q)
rules_are _ _ q = absurd (false≢true q)

pub rules_same : (d : Derivation) → same_rules d d ≡ true
rules_same (pre ss) = slots_same ss
rules_same int = refl
rules_same (exiting ss) = slots_same ss
rules_same (chl d) = rules_same d
rules_same (chr d) = rules_same d
rules_same (val s d) = and_from (same_slot s s) (same_rules d d) (slot_same s) (rules_same d)
rules_same (gate i d) = and_from (i == i) (same_rules d d) (same_number i i refl) (rules_same d)
rules_same (guard d) = rules_same d
rules_same (letting d) = rules_same d
rules_same (parl d) = rules_same d
rules_same (parr d) = rules_same d
rules_same (both d e) = and_from (same_rules d d) (same_rules e e) (rules_same d) (rules_same e)
rules_same (hiding d) = rules_same d
rules_same (pass d) = rules_same d
rules_same (enstep d) = rules_same d
rules_same (enend d) = rules_same d
rules_same (disstep d) = rules_same d
rules_same (disend d) = rules_same d
rules_same (distake d) = rules_same d
rules_same (calling d) = rules_same d
rules_same (rel d) = rules_same d

pub same_rules_are_one : SameRulesAreOne
same_rules_are_one d e = (rules_are d e, λ q. subst (λ z. same_rules d z ≡ true) q (rules_same d))
