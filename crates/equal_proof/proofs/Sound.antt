-- What certificates prove is provably equal.
use Rattle.std.proofs.Common.{ℕ, List, [], ◌∷◌, map, refl, sym, subst}
use Rattle.std.specs.List.{slice_get}
use Rattle.spec_core.specs.Lists.{Each}
use Rattle.spec_core.specs.Equality.{Equal, AreEqual, PremisesHold, by_reflexivity, by_symmetry, by_transitivity, by_congruence}
use Rattle.spec_core.specs.Equality.{by_equation, none_equal, more_equal, none_asked, more_asked}
use Rattle.spec_core.specs.Executable.{IsExecutable}
use Rattle.spec_core.specs.Orthogonality.{HasNoLooseVariables}
use Rattle.spec_core.specs.Sorts.{FitsGround, EquationFits}
use Rattle.spec_core.specs.Terms.{TermTree, terms}
use Rattle.spec_core.specs.Theories.{Premise, premise, Theory}
use Rattle.spec_core.proofs.Lists.{each_left, each_right, each_push, each_slice_get}
use Rattle.spec_core.proofs.Members.{one_slice_get}
use Rattle.value_table.proofs.Spelled.{call_fits, some_declared}
use Rattle.equal_proof.specs.declared.proof.ProofStep.{ProofStep}
use Rattle.equal_proof.specs.declared.proof.ProofStep.TheVariants.{Same, Turn, Chain, Inside, Use}
use Rattle.equal_proof.specs.Certificates.{Sides, left_of, right_of, premise_instance, Infers, StepOf, Runs, bound_by, variables_of}
use Rattle.equal_proof.specs.Laws.{CertificatesAreSound}
use Rattle.equal_proof.proofs.Bound.{bound_is_ground, left_fits, right_fits}

module _ (theory : Theory) (ex : IsExecutable theory) where
  -- both sides are of the data, and provably equal
  abbrev pub Holds : Sides → Type 0
  Holds p = FitsGround theory p.0 × FitsGround theory p.1 × Equal theory p.0 p.1

  arguments_equal : (taken : List Sides) → Each Holds taken → AreEqual theory (terms (map left_of taken)) (terms (map right_of taken))
  arguments_equal [] h = none_equal
  arguments_equal (p ∷ ps) h = more_equal h.0.2 (arguments_equal ps h.1)

  premises_hold : (s : ℕ → TermTree) (ps : List Premise) → Each Holds (map (premise_instance s) ps) → PremisesHold theory s ps
  premises_hold s [] h = none_asked
  premises_hold s (premise a b ∷ ps) h = more_asked h.0.2 (premises_hold s ps h.1)

  inferred : (step : ProofStep) (taken : List Sides) (put : Sides) → Infers theory step taken put → Each Holds taken → Holds put
  inferred (Same value) taken put h held = subst Holds (sym h.4) (h.1, h.1, by_reflexivity h.1)
  inferred Turn taken put h held =
      let e = subst (Each Holds) h.2 held in subst Holds (sym h.3) (e.0.1, e.0.0, by_symmetry e.0.2)
  inferred Chain taken put h held =
      let e = subst (Each Holds) h.3 held in subst Holds (sym h.4) (e.0.0, e.1.0.1, by_transitivity h.1 e.0.2 e.1.0.2)
  inferred (Inside f) taken put h held =
      let d = some_declared (slice_get theory.operations f.0) h.0 in
      let left = call_fits theory f.0 (terms (map left_of taken)) d.0 d.1 d.2.0 in
      let right = call_fits theory f.0 (terms (map right_of taken)) d.0 d.1 d.2.1 in
      subst Holds (sym h.1) (left, right, by_congruence left (arguments_equal taken held))
  inferred (Use equation values) taken put h held =
      let d = some_declared (slice_get theory.equations equation) h in
      let closed = each_slice_get HasNoLooseVariables theory.equations equation d.0 ex.orthogonal.closed d.1 in
      let fits = each_slice_get (EquationFits theory) theory.equations equation d.0 ex.fits.equations d.1 in
      let i = d.2 in
      let s = bound_by (variables_of d.0.left) i.0 in
      let held_premises = premises_hold s d.0.premises (subst (Each Holds) i.3.0 held) in
      subst Holds (sym i.3.1) (
        left_fits theory d.0 closed i.0 i.2 fits,
        right_fits theory d.0 closed i.0 i.2 fits,
        by_equation d.0 s (one_slice_get theory.equations equation d.0 d.1) (bound_is_ground theory d.0 closed i.0 i.2) held_premises refl
            refl,
      )

  stepped : (step : ProofStep) (old new : List Sides) → StepOf theory step old new → Each Holds old → Each Holds new
  stepped step old new h held =
      let all = subst (Each Holds) h.before held in
      let put = inferred step h.taken h.put h.inferred (each_right Holds h.rest h.taken all) in
      subst (Each Holds) (sym h.after) (each_push Holds h.rest h.put (each_left Holds h.rest h.taken all) put)

  ran : (steps : List ProofStep) (old new : List Sides) → Runs theory steps old new → Each Holds old → Each Holds new
  ran [] old new h held = subst (Each Holds) (sym h) held
  ran (step ∷ steps) old new h held = ran steps h.0 new h.2 (stepped step old h.0 h.1 held)

pub certificates_are_sound : CertificatesAreSound
certificates_are_sound theory ex steps t u h = (ran theory ex steps [] ((t, u) ∷ []) h tt).0
