-- The faults of parts, and of rules by their parts.
use Rattle.std.proofs.Common.{ℕ, ◌≡◌, List, Result, IfErr, sym, subst}
use Rattle.std.proofs.lemmas.Result.{IfErr-weaker}
use Rattle.spec_core.specs.Code.{Program}
use Rattle.rule_model.specs.Behaviours.{Behaviour}
use Rattle.rule_model.specs.Derivations.{Derivation}
use Rattle.rule_model.specs.Substitution.{Assignment}
use Rattle.rule_walk.specs.declared.fault.FireFault.{FireFault}
use Rattle.rule_walk.specs.declared.fault.FireFault.TheVariants.{Unfit, Spent, TooLarge, Memory}
use Rattle.rule_walk.specs.Asking.{Asks}
use Rattle.rule_walk.specs.Faults.{Explains, Within, IsFault, OnUnfit}
use Rattle.rule_walk.specs.Parts.{OnFirst, IsUnfitAt}
use Rattle.rule_walk.proofs.Misfits.{Is, first_fault}

pub unfit_on : (f : FireFault) (U V : List ℕ → Type 0) → ((path : List ℕ) → U path → V path) → OnUnfit f U → OnUnfit f V
unfit_on (Unfit at) U V k h = k at.items h
unfit_on (Spent term) U V k h = tt
unfit_on (TooLarge term) U V k h = tt
unfit_on Memory U V k h = tt

module _ (program : Program) (budget : ℕ) (s : Assignment) (b : Behaviour) where
  -- a fault of the tree that this one is
  pub on_rule : {A : Type 0} (r : Result A FireFault) (d rule : Derivation) (P : FireFault → Type 0) → d ≡ rule →
      ((f : FireFault) → P f → IsFault program budget s b rule f) → IfErr r P → IfErr r (IsFault program budget s b d)
  on_rule {A} r d rule P is k =
      IfErr-weaker r P (IsFault program budget s b d) (λ f h. subst (λ (e : Derivation). IsFault program budget s b e f) (sym is) (k f h))

  -- the fault of the first part of the construct
  pub part_fault : (d rule : Derivation) (whole : Behaviour) (t : Assignment) (c : Behaviour) (e : Derivation) (f : FireFault) → d ≡ rule →
      b ≡ whole → OnFirst program s whole rule (Is program t c e) →
      Explains program.theory budget (Within 0 (IsUnfitAt program t c e)) (Asks program t c e) f → IsFault program budget s b d f
  part_fault d rule whole t c e f is construct first h =
      subst (λ (x : Derivation). IsFault program budget s b x f) (sym is)
      (first_fault program budget s b rule f t c e
      (subst (λ (x : Behaviour). OnFirst program s x rule (Is program t c e)) (sym construct) first) h)

  pub part_faults : {A : Type 0} (r : Result A FireFault) (d rule : Derivation) (whole : Behaviour) (t : Assignment) (c : Behaviour)
      (e : Derivation) → d ≡ rule → b ≡ whole → OnFirst program s whole rule (Is program t c e) →
      IfErr r (Explains program.theory budget (Within 0 (IsUnfitAt program t c e)) (Asks program t c e)) →
      IfErr r (IsFault program budget s b d)
  part_faults {A} r d rule whole t c e is construct first =
      IfErr-weaker r (Explains program.theory budget (Within 0 (IsUnfitAt program t c e)) (Asks program t c e)) (IsFault program budget s b d)
      (λ f. part_fault d rule whole t c e f is construct first)
