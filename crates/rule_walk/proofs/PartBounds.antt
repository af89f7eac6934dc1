-- Which terms a tree asks: those of its own rule, and those of its parts.
use Rattle.std.proofs.Common.{zero, suc, ◌≡◌, [], ◌∷◌, sym, subst}
use Rattle.spec_core.specs.Code.{Program}
use Rattle.spec_core.specs.Executable.{IsExecutable}
use Rattle.spec_core.specs.Terms.{TermTree}
use Rattle.rule_model.specs.declared.rules.Slot.TheVariants.{Of, Mark, Blank}
use Rattle.rule_model.specs.Behaviours.{Behaviour, exit, action, choice, guarded, bound, value_choice, gate_choice, parallel}
use Rattle.rule_model.specs.Behaviours.{hide, enable, disable, call, relabel}
use Rattle.rule_model.specs.Constructs.{OnExit, OnInner, OnAction, OnChoice, OnGuarded, OnBound, OnValueChoice, OnGateChoice, OnParallel}
use Rattle.rule_model.specs.Constructs.{OnHide, OnEnable, OnDisable, OnCall, OnRelabel}
use Rattle.rule_model.specs.Derivations.{Derivation, pre, int, exiting, chl, chr, val, gate, guard, letting, parl, parr, both, hiding, pass}
use Rattle.rule_model.specs.Derivations.{enstep, enend, disstep, disend, distake, calling, rel}
use Rattle.rule_model.specs.Substitution.{Assignment}
use Rattle.rule_walk.specs.Asking.{RuleAsks, Asks}
use Rattle.rule_walk.specs.Parts.{OnFirst, OnSecond, At}
use Rattle.rule_walk.proofs.Misfits.{Is, first_map}
use Rattle.rule_walk.proofs.NoStep.{second_map}
use Rattle.rule_walk.proofs.OnePath.{first_both}

module _ (program : Program) where
  -- the behaviour is the construct that the rule at the root is for
  abbrev pub IsItsConstruct : Behaviour → Derivation → Type 0
  IsItsConstruct b (pre slots) = OnAction b (λ _ _ _ _. Unit {0})
  IsItsConstruct b int = OnInner b (λ _. Unit {0})
  IsItsConstruct b (exiting slots) = OnExit b (λ _. Unit {0})
  IsItsConstruct b (chl d) = OnChoice b (λ _ _. Unit {0})
  IsItsConstruct b (chr d) = OnChoice b (λ _ _. Unit {0})
  IsItsConstruct b (val slot d) = OnValueChoice b (λ _ _. Unit {0})
  IsItsConstruct b (gate j d) = OnGateChoice b (λ _ _ _. Unit {0})
  IsItsConstruct b (guard d) = OnGuarded b (λ _ _. Unit {0})
  IsItsConstruct b (letting d) = OnBound b (λ _ _. Unit {0})
  IsItsConstruct b (parl d) = OnParallel b (λ _ _ _. Unit {0})
  IsItsConstruct b (parr d) = OnParallel b (λ _ _ _. Unit {0})
  IsItsConstruct b (both d e) = OnParallel b (λ _ _ _. Unit {0})
  IsItsConstruct b (hiding d) = OnHide b (λ _ _. Unit {0})
  IsItsConstruct b (pass d) = OnHide b (λ _ _. Unit {0})
  IsItsConstruct b (enstep d) = OnEnable b (λ _ _ _. Unit {0})
  IsItsConstruct b (enend d) = OnEnable b (λ _ _ _. Unit {0})
  IsItsConstruct b (disstep d) = OnDisable b (λ _ _. Unit {0})
  IsItsConstruct b (disend d) = OnDisable b (λ _ _. Unit {0})
  IsItsConstruct b (distake d) = OnDisable b (λ _ _. Unit {0})
  IsItsConstruct b (calling d) = OnCall b (λ _ _ _. Unit {0})
  IsItsConstruct b (rel d) = OnRelabel b (λ _ _. Unit {0})

  rule_fits : (x : TermTree) (s : Assignment) (d : Derivation) (b : Behaviour) → RuleAsks program x s b d → IsItsConstruct b d
  rule_fits x s (pre slots) (action g fields p rest) h = tt
  rule_fits x s (exiting slots) (exit fields) h = tt
  rule_fits x s (val slot d) (value_choice y body) h = tt
  rule_fits x s (guard d) (guarded p body) h = tt
  rule_fits x s (letting d) (bound bindings body) h = tt
  rule_fits x s (calling d) (call p actual terms) h = tt
  rule_fits x s _ _ h = absurd h

  pub first_fits : (P : Assignment → Behaviour → Derivation → Type 0) (s : Assignment) (d : Derivation) (b : Behaviour) →
      OnFirst program s b d P → IsItsConstruct b d
  first_fits P s (chl d) (choice left right) h = tt
  first_fits P s (chr d) (choice left right) h = tt
  first_fits P s (val (Of v) d) (value_choice x body) h = tt
  first_fits P s (val (Of v) d) _ h = absurd h
  first_fits P s (val Mark d) b h = absurd h
  first_fits P s (val Blank d) b h = absurd h
  first_fits P s (gate j d) (gate_choice g gates body) h = tt
  first_fits P s (guard d) (guarded p body) h = tt
  first_fits P s (letting d) (bound bindings body) h = tt
  first_fits P s (parl d) (parallel gates left right) h = tt
  first_fits P s (parr d) (parallel gates left right) h = tt
  first_fits P s (both d e) (parallel gates left right) h = tt
  first_fits P s (hiding d) (hide gates body) h = tt
  first_fits P s (pass d) (hide gates body) h = tt
  first_fits P s (enstep d) (enable left xs right) h = tt
  first_fits P s (enend d) (enable left xs right) h = tt
  first_fits P s (disstep d) (disable left right) h = tt
  first_fits P s (disend d) (disable left right) h = tt
  first_fits P s (distake d) (disable left right) h = tt
  first_fits P s (calling d) (call p actual terms) h = tt
  first_fits P s (rel d) (relabel pairs body) h = tt
  first_fits P s _ _ h = absurd h

  second_fits : (P : Assignment → Behaviour → Derivation → Type 0) (s : Assignment) (d : Derivation) (b : Behaviour) →
      OnSecond program s b d P → IsItsConstruct b d
  second_fits P s (both d e) (parallel gates left right) h = tt
  second_fits P s _ _ h = absurd h

  -- a tree asks no term of another construct
  asks_fit : (s : Assignment) (b : Behaviour) (d : Derivation) (x : TermTree) → Asks program s b d x → IsItsConstruct b d
  asks_fit s b d x ([], h) = rule_fits x s d b h
  asks_fit s b d x (zero ∷ path, h) = first_fits (λ t c e. At program t c e path (RuleAsks program x)) s d b h
  asks_fit s b d x (suc zero ∷ path, h) = second_fits (λ t c e. At program t c e path (RuleAsks program x)) s d b h
  asks_fit s b d x (suc (suc n) ∷ path, h) = absurd h

  pub asks_nothing : (W : TermTree → Type 0) (s : Assignment) (b : Behaviour) (d rule : Derivation) → d ≡ rule →
      (IsItsConstruct b rule → ⊥) → (x : TermTree) → Asks program s b d x → W x
  asks_nothing W s b d rule is none x h =
      absurd (none (subst (λ (e : Derivation). IsItsConstruct b e) is (asks_fit s b d x h)))

  module _ (executable : IsExecutable program.theory) (W : TermTree → Type 0) (s : Assignment) where
    -- W holds of each term that is asked, where it does of those that the rule asks, and of those that its parts ask
    asked_in : (b : Behaviour) (d : Derivation) → ((x : TermTree) → RuleAsks program x s b d → W x) →
        ((x : TermTree) → OnFirst program s b d (λ t c e. Asks program t c e x) → W x) →
        ((x : TermTree) → OnSecond program s b d (λ t c e. Asks program t c e x) → W x) → (x : TermTree) → Asks program s b d x → W x
    asked_in b d rule first second x ([], h) = rule x h
    asked_in b d rule first second x (zero ∷ path, h) =
        first x (first_map program d b s (λ t c e. At program t c e path (RuleAsks program x)) (λ t c e. Asks program t c e x)
        (λ t c e k. (path, k)) h)
    asked_in b d rule first second x (suc zero ∷ path, h) =
        second x (second_map program executable d b s (λ t c e. At program t c e path (RuleAsks program x))
        (λ t c e. Asks program t c e x)
        (λ t c e k. (path, k)) h)
    asked_in b d rule first second x (suc (suc n) ∷ path, h) = absurd h

    -- those of the first part, where it is this one
    first_asked : (b : Behaviour) (d : Derivation) (t : Assignment) (c : Behaviour) (e : Derivation) → OnFirst program s b d (Is program t c e) →
        ((x : TermTree) → Asks program t c e x → W x) → (x : TermTree) → OnFirst program s b d (λ u y z. Asks program u y z x) → W x
    first_asked b d t c e is k x h =
        first_both program executable d b s (Is program t c e) (λ u y z. Asks program u y z x)
        (λ u y z same asked.
        k x (subst (λ (a : Derivation). Asks program t c a x) same.2
        (subst (λ (a : Behaviour). Asks program t a z x) same.1
        (subst (λ (a : Assignment). Asks program a y z x) same.0 asked)))) is h

    -- the same, where the tree and the behaviour are these
    pub asked_at : (b : Behaviour) (d rule : Derivation) (whole : Behaviour) → d ≡ rule → b ≡ whole →
        ((x : TermTree) → RuleAsks program x s whole rule → W x) →
        ((x : TermTree) → OnFirst program s whole rule (λ t c e. Asks program t c e x) → W x) →
        ((x : TermTree) → OnSecond program s whole rule (λ t c e. Asks program t c e x) → W x) → (x : TermTree) → Asks program s b d x → W x
    asked_at b d rule whole is construct own first second =
        subst (λ (e : Derivation). (x : TermTree) → Asks program s b e x → W x) (sym is)
        (subst (λ (c : Behaviour). (x : TermTree) → Asks program s c rule x → W x) (sym construct) (asked_in whole rule own first second))

    -- the same, where the first part is this one
    pub part_asked : (b : Behaviour) (d rule : Derivation) (whole : Behaviour) (t : Assignment) (c : Behaviour) (e : Derivation) → d ≡ rule → b ≡ whole →
        OnFirst program s whole rule (Is program t c e) → ((x : TermTree) → RuleAsks program x s whole rule → W x) →
        ((x : TermTree) → OnSecond program s whole rule (λ u y z. Asks program u y z x) → W x) →
        ((x : TermTree) → Asks program t c e x → W x) → (x : TermTree) → Asks program s b d x → W x
    part_asked b d rule whole t c e is construct first own second k =
        asked_at b d rule whole is construct own (first_asked whole rule t c e first k) second
