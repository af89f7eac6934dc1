-- Values and terms that are found.
use Rattle.std.proofs.Common.{ℕ, ◌≡◌, Bool, true, false, List, ◌∷◌, ◌++◌, codes, Option, Some, None, refl, sym, ap, subst, ◌∙◌, arith}
use Rattle.spec_core.specs.Code.{Program}
use Rattle.spec_core.specs.Ready.{AreNamed}
use Rattle.spec_core.specs.Sorts.{FitsData, FitsGround}
use Rattle.spec_core.specs.Terms.{TermTree, preorder}
use Rattle.spec_core.specs.Theories.{Theory}
use Rattle.rule_model.specs.declared.rules.Slot.{Slot}
use Rattle.rule_model.specs.declared.rules.Slot.TheVariants.{Of, Mark, Blank}
use Rattle.trace_text.specs.Fits.{SlotFits}
use Rattle.trace_text.specs.Names.{names_in}
use Rattle.trace_text.specs.Trace.{slot_text}
use Rattle.trace_text.proofs.OneLine.{one_list}
use Rattle.value_text.specs.Values.{IsGroundList, value_text}
use Rattle.value_text.proofs.OneTerm.{text}
use Rattle.value_text.proofs.OneValue.{begins_value, value_is_term}
use Rattle.value_terms.specs.Stacks.{HasArguments}
use Rattle.value_terms.proofs.Enough.{one_term, sorted_arguments}
use Rattle.trace_reader.specs.Cursors.{EndsValue, Takes, behind, past}
use Rattle.trace_reader.proofs.Behind.{joined_so}
use Rattle.trace_reader.proofs.Ends.{value_term}

pub some_alike : (x y : List ℕ) → Some x ≡ Some y → x ≡ y
some_alike x y h = cc

-- what stands behind a word that was taken
pub taken_so : (word text : List ℕ) (old new : Option (List ℕ)) (b : Bool) → Takes (past word old) old b new → b ≡ true → old ≡ Some text →
    (rest : List ℕ) × (text ≡ word ++ rest) × (new ≡ Some rest)
taken_so word text old new b takes here e = go (behind word text) refl (subst (λ s. Takes (past word s) s b new) e takes)
  where
    go : (o : Option (List ℕ)) → behind word text ≡ o → Takes o (Some text) b new → (rest : List ℕ) × (text ≡ word ++ rest) × (new ≡ Some rest)
    go None k h = absurd (let wrong : true ≡ false = sym here ∙ h.0 in cc)
    go (Some rest) k h = (rest, joined_so word text rest k, h.1)

module _ (program : Program) (fits : FitsData program.theory) (named : AreNamed program) where
  pub value_found : (text w r v rest : List ℕ) → IsGroundList program.theory w → text ≡ value_text program.theory w ++ r → EndsValue r →
      IsGroundList program.theory v → EndsValue rest → text ≡ value_text program.theory v ++ rest → (w ≡ v) × (r ≡ rest)
  value_found text w r v rest a e ends b ends_too f =
      one_list program fits named w v r rest a b (value_term r ends) (value_term rest ends_too) (sym e ∙ f)

  -- no value begins with the mark
  pub slot_marked : (x : Slot) (rest : List ℕ) (old new : Option (List ℕ)) (b : Bool) → SlotFits program x →
      Takes (past (codes "?") old) old b new → b ≡ true → old ≡ Some (slot_text (names_in program) x ++ rest) → (Mark ≡ x) × (new ≡ Some rest)
  slot_marked (Of v) rest old new b fit takes here e =
      let k = taken_so (codes "?") (value_text program.theory v ++ rest) old new b takes here e in
      absurd (begins_value program.theory fits named.operations v 63 rest k.0 fit refl (λ q. omega (arith, q)) k.1)
  slot_marked Mark rest old new b fit takes here e =
      let k = taken_so (codes "?") (63 ∷ rest) old new b takes here e in
      let same : 63 ∷ rest ≡ 63 ∷ k.0 = k.1 in
      let behind : rest ≡ k.0 = cc in
      (refl, k.2 ∙ ap Some (sym behind))
  slot_marked Blank rest old new b fit takes here e = absurd fit

module _ (theory : Theory) where
  pub ground_list : (t : TermTree) → FitsGround theory t → IsGroundList theory (preorder t)
  ground_list t fit = record { term = t; spelled = refl; fits = fit }

  pub ground_text : (t : TermTree) → FitsGround theory t → text theory t ≡ value_text theory (preorder t)
  ground_text t fit = sym (value_is_term theory t fit.0 fit.1)

  pub term_alike : (t u : TermTree) (ops : List ℕ) → HasArguments theory t → ops ≡ preorder t → FitsGround theory u → ops ≡ preorder u → t ≡ u
  term_alike t u ops a e fit f = one_term theory t u a (sorted_arguments theory u fit.0 fit.1) (sym e ∙ f)

  pub ground_of : (t : TermTree) (ops : List ℕ) → HasArguments theory t → ops ≡ preorder t → IsGroundList theory ops → FitsGround theory t
  ground_of t ops a e g = subst (FitsGround theory) (sym (term_alike t g.term ops a e g.fits g.spelled)) g.fits
