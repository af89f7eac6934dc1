-- Why each rule gives no step.
use Rattle.std.proofs.Common.{ℕ, ◌≡◌, List, [], ◌∷◌, Option, refl, sym, subst, inr, ◌∙◌}
use Rattle.spec_core.specs.Code.{Program, Variable, Synchronised, ActionField}
use Rattle.spec_core.specs.Executable.{IsExecutable}
use Rattle.spec_core.specs.Terms.{TermTree, variable}
use Rattle.spec_core.specs.Theories.{Premise, Theory}
use Rattle.rule_laws.proofs.OneStep.{one_filled, one_definition, one_step}
use Rattle.rule_model.specs.declared.action.Action.{Action}
use Rattle.rule_model.specs.declared.action.Action.TheVariants.{Exit}
use Rattle.rule_model.specs.declared.rules.Slot.{Slot}
use Rattle.rule_model.specs.declared.rules.Slot.TheVariants.{Of, Mark, Blank}
use Rattle.rule_model.specs.Actions.{kind_of, IsJoint}
use Rattle.rule_model.specs.Behaviours.{Behaviour, action, choice, guarded, bound, value_choice, gate_choice, parallel}
use Rattle.rule_model.specs.Behaviours.{hide, enable, disable, call, relabel}
use Rattle.rule_model.specs.Code.{IsDefinition}
use Rattle.rule_model.specs.Derivations.{Derivation, pre, chl, chr, val, gate, guard, letting, parl, parr, both, hiding, pass}
use Rattle.rule_model.specs.Derivations.{enstep, enend, disstep, disend, distake, calling, rel}
use Rattle.rule_model.specs.Derives.{DerivesWith}
use Rattle.rule_model.specs.Fields.{Spells, GuardHolds, FieldsHave, ArgumentsHave, IsHandedOn}
use Rattle.rule_model.specs.Substitution.{Assignment}
use Rattle.rule_walk.specs.declared.fault.FireFault.{FireFault}
use Rattle.rule_walk.specs.Asking.{ChoiceAsks, GuardAsks, ArgumentsAsk, RuleAsks, Asks}
use Rattle.rule_walk.specs.Ends.{CanHandOn}
use Rattle.rule_walk.specs.Faults.{Explains, Here, Within, IsMisfit, IsFault, HasNoArguments}
use Rattle.rule_walk.specs.Faults.{HandsOnNothing}
use Rattle.rule_walk.specs.Parts.{HasNone, OnFirst, OnSecond, At, IsUnfit, IsUnfitAt}
use Rattle.rule_walk.proofs.Faults.{explains_on, misfit_explains, misfit_on}

exits_one : (values others : List (List ℕ)) → ◌≡◌ {A = Action} (Exit values) (Exit others) → values ≡ others
exits_one values others e = cc

-- a termination whose values don't fit
pub unhanded : (theory : Theory) (s : Assignment) (xs : List Variable) (a : Action) (values : List (List ℕ)) (f : FireFault) →
    a ≡ Exit values → IsMisfit (HandsOnNothing theory s xs values) f → IsMisfit (CanHandOn theory s xs a → ⊥) f
unhanded theory s xs a values f is =
    misfit_on (HandsOnNothing theory s xs values) (CanHandOn theory s xs a → ⊥) f
    (λ none k.
    none k.1 (subst (λ (l : List (List ℕ)). IsHandedOn theory s xs l k.1) (exits_one k.0 values (sym k.2 ∙ is)) k.3))

module _ (program : Program) where
  -- the terms for the variables, the behaviour and the tree are these
  abbrev pub Is : Assignment → Behaviour → Derivation → Assignment → Behaviour → Derivation → Type 0
  Is s b d t c e = (t ≡ s) × (c ≡ b) × (e ≡ d)

  pub first_map : (d : Derivation) (b : Behaviour) (s : Assignment) (P Q : Assignment → Behaviour → Derivation → Type 0) →
      ((t : Assignment) (c : Behaviour) (e : Derivation) → P t c e → Q t c e) → OnFirst program s b d P → OnFirst program s b d Q
  first_map (chl d) (choice left right) s P Q k h = k s left d h
  first_map (chr d) (choice left right) s P Q k h = k s right d h
  first_map (val (Of v) d) (value_choice x body) s P Q k h = (h.0, h.1, k _ body d h.2)
  first_map (val (Of v) d) _ s P Q k h = absurd h
  first_map (val Mark d) b s P Q k h = absurd h
  first_map (val Blank d) b s P Q k h = absurd h
  first_map (gate j d) (gate_choice g gates body) s P Q k h = (h.0, h.1, h.2, h.3, k s _ d h.4)
  first_map (guard d) (guarded p body) s P Q k h = (h.0, k s body d h.1)
  first_map (letting d) (bound bindings body) s P Q k h = (h.0, h.1, k h.0 body d h.2)
  first_map (parl d) (parallel gates left right) s P Q k h = k s left d h
  first_map (parr d) (parallel gates left right) s P Q k h = k s right d h
  first_map (both d e) (parallel gates left right) s P Q k h = k s left d h
  first_map (hiding d) (hide gates body) s P Q k h = k s body d h
  first_map (pass d) (hide gates body) s P Q k h = k s body d h
  first_map (enstep d) (enable left xs right) s P Q k h = k s left d h
  first_map (enend d) (enable left xs right) s P Q k h = k s left d h
  first_map (disstep d) (disable left right) s P Q k h = k s left d h
  first_map (disend d) (disable left right) s P Q k h = k s left d h
  first_map (distake d) (disable left right) s P Q k h = k s right d h
  first_map (calling d) (call p actual terms) s P Q k h = (h.0, h.1, h.2, h.3, h.4, h.5, k h.3 _ d h.6)
  first_map (rel d) (relabel pairs body) s P Q k h = k s body d h
  first_map _ _ s P Q k h = absurd h

  -- what holds of these holds of the first part, where it is these
  first_of : (d e : Derivation) (b c : Behaviour) (s t : Assignment) (P : Assignment → Behaviour → Derivation → Type 0) →
      OnFirst program s b d (Is t c e) → P t c e → OnFirst program s b d P
  first_of d e b c s t P is h =
      first_map d b s (Is t c e) P
      (λ u x y same.
      subst (λ (v : Assignment). P v x y) (sym same.0)
      (subst (λ (z : Behaviour). P t z y) (sym same.1) (subst (λ (z : Derivation). P t c z) (sym same.2) h))) is

  module _ (budget : ℕ) (s : Assignment) (b : Behaviour) (d : Derivation) (f : FireFault) where
    abbrev pub Fault : Type 0
    Fault = IsFault program budget s b d f

    pub own_fault : (U : Type 0) (A : TermTree → Type 0) → (U → IsUnfit program s b d) →
        ((x : TermTree) → A x → RuleAsks program x s b d) → Explains program.theory budget (Here U) A f → Fault
    own_fault U A unfit asks =
        explains_on program.theory budget (Here U) (IsUnfitAt program s b d) A (Asks program s b d) f
        (λ path h. subst (IsUnfitAt program s b d) (sym h.0) (unfit h.1)) (λ x h. ([], asks x h))

    pub own_misfit : (P : Type 0) → (P → IsUnfit program s b d) → IsMisfit P f → Fault
    own_misfit P unfit = misfit_explains program.theory budget P (IsUnfitAt program s b d) (Asks program s b d) f unfit

    -- the fault of the first part
    pub first_fault : (t : Assignment) (c : Behaviour) (e : Derivation) → OnFirst program s b d (Is t c e) →
        Explains program.theory budget (Within 0 (IsUnfitAt program t c e)) (Asks program t c e) f → Fault
    first_fault t c e is =
        explains_on program.theory budget (Within 0 (IsUnfitAt program t c e)) (IsUnfitAt program s b d) (Asks program t c e)
        (Asks program s b d) f
        (λ path h.
        subst (IsUnfitAt program s b d) (sym h.1)
        (first_of d e b c s t (λ u x y. At program u x y h.0 (IsUnfit program)) is h.2))
        (λ x h. (0 ∷ h.0, first_of d e b c s t (λ u y z. At program u y z h.0 (RuleAsks program x)) is h.1))

-- what a part does isn't what the rule asks of it
pub condition_fault : (program : Program) → IsExecutable program.theory → (budget : ℕ) (s : Assignment) (b : Behaviour) (whole : Derivation)
    (f : FireFault) (part : Behaviour) (d : Derivation) (a : Action) (e : Behaviour) (P : Action → Type 0) →
    DerivesWith program s part d a e →
    ((x : Action) (y : Behaviour) → DerivesWith program s b whole x y →
    (z : Action) × (w : Behaviour) × DerivesWith program s part d z w × P z) →
    (OnFirst program s b whole (HasNone program) → HasNone program s part d) → (OnSecond program s b whole (HasNone program) → ⊥) →
    IsMisfit (P a → ⊥) f → IsFault program budget s b whole f
condition_fault program executable budget s b whole f part d a e P does needs first second =
    own_misfit program budget s b whole f (P a → ⊥)
    (λ none. (
      λ k.
          let n = needs k.0 k.1 k.2 in none (subst P (one_step program executable d part s n.0 a n.1 e n.2 does).0 n.3),
      λ k. first k (a, e, does),
      second,
    ))

module _ (program : Program) (executable : IsExecutable program.theory) (budget : ℕ) (s : Assignment) (b : Behaviour) (f : FireFault) where
  pub pre_guard : (g : ℕ) (fields : List ActionField) (p : Option Premise) (rest : Behaviour) (slots : List Slot)
      (values : List (List ℕ)) (t : Assignment) → b ≡ action g fields p rest → FieldsHave program.theory s s fields slots values t →
      Explains program.theory budget (Here (GuardHolds program.theory t p → ⊥)) (GuardAsks program.theory t p) f →
      IsFault program budget s b (pre slots) f
  pre_guard g fields p rest slots values t is filled h =
      subst (λ (c : Behaviour). IsFault program budget s c (pre slots) f) (sym is)
      (own_fault program budget s (action g fields p rest) (pre slots) f (GuardHolds program.theory t p → ⊥)
      (GuardAsks program.theory t p)
      (λ none. (
        λ k.
            none (subst (λ (r : Assignment). GuardHolds program.theory r p)
            (one_filled program.theory executable s fields slots k.2.0 values s k.2.1 t k.2.3 filled).1 k.2.4),
        λ k. k,
        λ k. k,
      )) (λ x k. inr (values, t, filled, k)) h)

  -- the tree chooses no value of the sort
  pub value_unchosen : (x : Variable) (body : Behaviour) (slot : Slot) (d : Derivation) → b ≡ value_choice x body →
      Explains program.theory budget (Here ((w : List ℕ) (n : TermTree) → slot ≡ Of w → Spells program.theory w n x.sort → ⊥))
      (ChoiceAsks program.theory x.sort slot) f → IsFault program budget s b (val slot d) f
  value_unchosen x body slot d is h =
      subst (λ (c : Behaviour). IsFault program budget s c (val slot d) f) (sym is)
      (own_fault program budget s (value_choice x body) (val slot d) f
      ((w : List ℕ) (n : TermTree) → slot ≡ Of w → Spells program.theory w n x.sort → ⊥) (ChoiceAsks program.theory x.sort slot)
      (unchosen slot) (λ y k. k) h)
    where
      unchosen : (o : Slot) → ((w : List ℕ) (n : TermTree) → o ≡ Of w → Spells program.theory w n x.sort → ⊥) →
          IsUnfit program s (value_choice x body) (val o d)
      unchosen (Of v) none = (λ k. none v k.2.0 refl k.2.1, λ k. none v k.0 refl k.1, λ k. k)
      unchosen Mark none = (λ k. k.2, λ k. k, λ k. k)
      unchosen Blank none = (λ k. k.2, λ k. k, λ k. k)

  pub call_undefined : (p : ℕ) (actual : List ℕ) (terms : List TermTree) (d : Derivation) → b ≡ call p actual terms →
      ((formal : List ℕ) (xs : List Variable) (body : Behaviour) → IsDefinition program p formal xs body → ⊥) →
      IsMisfit (Unit {0}) f → IsFault program budget s b (calling d) f
  call_undefined p actual terms d is none h =
      subst (λ (c : Behaviour). IsFault program budget s c (calling d) f) (sym is)
      (own_misfit program budget s (call p actual terms) (calling d) f (Unit {0})
      (λ _. (λ k. none k.2.0 k.2.1 k.2.2 k.2.4, λ k. none k.0 k.1 k.2 k.4, λ k. k)) h)

  pub call_arguments : (p : ℕ) (actual : List ℕ) (terms : List TermTree) (formal : List ℕ) (xs : List Variable) (body : Behaviour)
      (d : Derivation) → b ≡ call p actual terms → IsDefinition program p formal xs body →
      Explains program.theory budget (Here (HasNoArguments program.theory s variable xs terms)) (ArgumentsAsk program.theory s xs terms) f →
      IsFault program budget s b (calling d) f
  call_arguments p actual terms formal xs body d is defined h =
      subst (λ (c : Behaviour). IsFault program budget s c (calling d) f) (sym is)
      (own_fault program budget s (call p actual terms) (calling d) f (HasNoArguments program.theory s variable xs terms)
      (ArgumentsAsk program.theory s xs terms)
      (λ none. (
        λ k. other none k.2.0 k.2.1 k.2.2 k.2.3 k.2.4 k.2.5,
        λ k. other none k.0 k.1 k.2 k.3 k.4 k.5,
        λ k. k,
      )) (λ x k. (formal, xs, body, defined, k)) h)
    where
      other : HasNoArguments program.theory s variable xs terms → (gates : List ℕ) (ys : List Variable) (c : Behaviour) (t : Assignment) →
          IsDefinition program p gates ys c → ArgumentsHave program.theory s variable ys terms t → ⊥
      other none gates ys c t again have =
          none t (subst (λ (zs : List Variable). ArgumentsHave program.theory s variable zs terms t)
          (one_definition program p gates formal ys xs c body again defined).1 have)

  pub not_joint : (gates : Synchronised) (left right : Behaviour) (d e : Derivation) (a x : Action) (c y : Behaviour) →
      b ≡ parallel gates left right → DerivesWith program s left d a c → DerivesWith program s right e x y →
      IsMisfit ((x ≡ a) × IsJoint gates (kind_of a) → ⊥) f → IsFault program budget s b (both d e) f
  not_joint gates left right d e a x c y is first second h =
      subst (λ (z : Behaviour). IsFault program budget s z (both d e) f) (sym is)
      (own_misfit program budget s (parallel gates left right) (both d e) f ((x ≡ a) × IsJoint gates (kind_of a) → ⊥)
      (λ none. (
        λ k.
            let l = (one_step program executable d left s k.0 a k.2.0 c k.2.2 first).0 in
            let r = (one_step program executable e right s k.0 x k.2.1 y k.2.3 second).0 in
            none (sym r ∙ l, subst (λ (z : Action). IsJoint gates (kind_of z)) l k.2.4),
        λ k. k (a, c, first),
        λ k. k.1 (x, y, second),
      )) h)

  -- the fault of the second part, once the first one does something
  pub second_fault : (gates : Synchronised) (left right : Behaviour) (d e : Derivation) (a : Action) (c : Behaviour) →
      b ≡ parallel gates left right → DerivesWith program s left d a c →
      Explains program.theory budget (Within 1 (IsUnfitAt program s right e)) (Asks program s right e) f →
      IsFault program budget s b (both d e) f
  second_fault gates left right d e a c is first =
      subst (λ (z : Behaviour). Explains program.theory budget (Within 1 (IsUnfitAt program s right e)) (Asks program s right e) f →
      IsFault program budget s z (both d e) f) (sym is)
      (explains_on program.theory budget (Within 1 (IsUnfitAt program s right e))
      (IsUnfitAt program s (parallel gates left right) (both d e)) (Asks program s right e)
      (Asks program s (parallel gates left right) (both d e)) f
      (λ path h.
      subst (IsUnfitAt program s (parallel gates left right) (both d e)) (sym h.1) ((a, c, first), h.2))
      (λ x h. (1 ∷ h.0, ((a, c, first), h.1))))
