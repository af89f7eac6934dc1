-- Rules over one part.
use Rattle.std.proofs.Common.{ℕ, ◌≡◌, List, Result, Ok, Err, Option, Some, None, IfOk, IfErr, refl, sym, subst}
use Rattle.std.proofs.lemmas.Result.{IfErr-weaker}
use Rattle.spec_core.specs.Code.{Program}
use Rattle.spec_core.specs.Executable.{IsExecutable}
use Rattle.spec_core.specs.Terms.{TermTree}
use Rattle.spec_core.specs.Theories.{Theory}
use Rattle.rewriter.specs.Answers.{IsWithin}
use Rattle.rule_model.specs.declared.action.Action.{Action}
use Rattle.rule_model.specs.declared.action.Action.TheVariants.{Exit}
use Rattle.rule_model.specs.Actions.{doing, kind_of, IsAlone, IsUnhidden, IsNoEnd, IsEnd}
use Rattle.rule_model.specs.Behaviours.{Behaviour, behaviour_of, inner, choice, parallel, hide, enable, disable, relabel}
use Rattle.rule_model.specs.Constructs.{OnInner}
use Rattle.rule_model.specs.Derivations.{Derivation, pre, int, exiting, chl, chr, val, gate, guard, letting, parl, parr, both, hiding, pass}
use Rattle.rule_model.specs.Derivations.{enstep, enend, disstep, disend, distake, calling, rel}
use Rattle.rule_model.specs.Derives.{DerivesWith}
use Rattle.rule_model.specs.Substitution.{Assignment}
use Rattle.rule_walk.specs.declared.fault.FireFault.{FireFault}
use Rattle.rule_walk.specs.declared.fault.FireFault.TheVariants.{Unfit, Spent, TooLarge, Memory}
use Rattle.rule_walk.specs.declared.rows.Step.{Step}
use Rattle.rule_walk.specs.Answers.{Fails, Answers, Leaves}
use Rattle.rule_walk.specs.Asking.{RuleAsks, Asks}
use Rattle.rule_walk.specs.Bounds.{FaultBounds, Bounds, BoundsEach}
use Rattle.rule_walk.specs.Faults.{Explains, IsBelow, IsFault, IsMisfit, Within}
use Rattle.rule_walk.specs.Frames.{Surrounding, Framed, part_under, IsOver, Admits, Makes}
use Rattle.rule_walk.specs.Parts.{HasNone, OnFirst, OnSecond, IsUnfitAt}
use Rattle.rule_walk.proofs.Bounds.{fault_within}
use Rattle.rule_walk.proofs.Faults.{memory}
use Rattle.rule_walk.proofs.Misfits.{Is, own_misfit, first_fault, condition_fault}
use Rattle.rule_walk.proofs.OnePath.{first_both}
use Rattle.rule_walk.proofs.PartBounds.{IsItsConstruct, first_fits, asks_nothing, part_asked}
use Rattle.rule_walk.proofs.RuleBounds.{inner_asked}

-- the frame and the part are these
abbrev IsFramed : Option Framed → Surrounding → Behaviour → Type 0
IsFramed (Some x) frame part = (x.frame ≡ frame) × (x.part ≡ part)
IsFramed None frame part = ⊥

abbrev HasNoPart : Option Framed → Type 0
HasNoPart (Some x) = ⊥
HasNoPart None = Unit {0}

module _ (program : Program) (s : Assignment) where
  -- the part does something that the rule admits
  abbrev Needs : Option Framed → Derivation → Type 0
  Needs (Some x) e = (z : Action) × (w : Behaviour) × DerivesWith program s x.part e z w × Admits program.theory s x.frame z
  Needs None e = ⊥

  -- the part does a and becomes f, and the rule makes of it that the whole does x and becomes c
  abbrev Carries : Option Framed → Derivation → Action → Behaviour → Action → Behaviour → Type 0
  Carries (Some y) e a f x c = DerivesWith program s y.part e a f × Makes program.theory s y.frame a f x c
  Carries None e a f x c = ⊥

  -- a rule over one part is about the construct that has the part
  lacks : (b : Behaviour) (d e : Derivation) → IsOver d e → HasNoPart (part_under b d) → IsItsConstruct program b d → ⊥
  lacks (choice left right) (chl d) e over none h = none
  lacks (choice left right) (chr d) e over none h = none
  lacks (parallel gates left right) (parl d) e over none h = none
  lacks (parallel gates left right) (parr d) e over none h = none
  lacks (hide gates body) (hiding d) e over none h = none
  lacks (hide gates body) (pass d) e over none h = none
  lacks (enable left xs right) (enstep d) e over none h = none
  lacks (enable left xs right) (enend d) e over none h = none
  lacks (disable left right) (disstep d) e over none h = none
  lacks (disable left right) (disend d) e over none h = none
  lacks (disable left right) (distake d) e over none h = none
  lacks (relabel pairs body) (rel d) e over none h = none
  lacks b (pre slots) e over none h = over
  lacks b int e over none h = over
  lacks b (exiting slots) e over none h = over
  lacks b (val slot d) e over none h = over
  lacks b (gate j d) e over none h = over
  lacks b (guard d) e over none h = over
  lacks b (letting d) e over none h = over
  lacks b (both d f) e over none h = over
  lacks b (calling d) e over none h = over
  lacks _ _ e over none h = absurd h

  first_is : (b : Behaviour) (d e : Derivation) (frame : Surrounding) (part : Behaviour) → IsOver d e →
      IsFramed (part_under b d) frame part → OnFirst program s b d (Is program s part e)
  first_is (choice left right) (chl d) e frame part over is = (refl, is.1, sym over)
  first_is (choice left right) (chr d) e frame part over is = (refl, is.1, sym over)
  first_is (parallel gates left right) (parl d) e frame part over is = (refl, is.1, sym over)
  first_is (parallel gates left right) (parr d) e frame part over is = (refl, is.1, sym over)
  first_is (hide gates body) (hiding d) e frame part over is = (refl, is.1, sym over)
  first_is (hide gates body) (pass d) e frame part over is = (refl, is.1, sym over)
  first_is (enable left xs right) (enstep d) e frame part over is = (refl, is.1, sym over)
  first_is (enable left xs right) (enend d) e frame part over is = (refl, is.1, sym over)
  first_is (disable left right) (disstep d) e frame part over is = (refl, is.1, sym over)
  first_is (disable left right) (disend d) e frame part over is = (refl, is.1, sym over)
  first_is (disable left right) (distake d) e frame part over is = (refl, is.1, sym over)
  first_is (relabel pairs body) (rel d) e frame part over is = (refl, is.1, sym over)
  first_is _ _ e frame part over is = absurd is

  no_second : (b : Behaviour) (d e : Derivation) (P : Assignment → Behaviour → Derivation → Type 0) → IsOver d e →
      OnSecond program s b d P → ⊥
  no_second b (both d f) e P over h = over
  no_second b _ e P over h = absurd h

  asks_none : (b : Behaviour) (d e : Derivation) (x : TermTree) → IsOver d e → RuleAsks program x s b d → ⊥
  asks_none b (pre slots) e x over h = over
  asks_none b (exiting slots) e x over h = over
  asks_none b (val slot d) e x over h = over
  asks_none b (guard d) e x over h = over
  asks_none b (letting d) e x over h = over
  asks_none b (calling d) e x over h = over
  asks_none b _ e x over h = absurd h

  moved : (q : Behaviour) (d e : Derivation) (a x : Action) (f : Behaviour) → e ≡ d → x ≡ a → DerivesWith program s q e a f →
      DerivesWith program s q d x f
  moved q d e a x f is same h =
      subst (λ (z : Action). DerivesWith program s q d z f) (sym same) (subst (λ (y : Derivation). DerivesWith program s q y a f) is h)

  becomes : (q : Behaviour) (d e : Derivation) (a x : Action) (f c : Behaviour) → e ≡ d → x ≡ a → c ≡ f → DerivesWith program s q e a f →
      DerivesWith program s q d x c
  becomes q d e a x f c is same rest h = subst (λ (w : Behaviour). DerivesWith program s q d x w) (sym rest) (moved q d e a x f is same h)

  whole : (b : Behaviour) (d e : Derivation) (a : Action) (f : Behaviour) (x : Action) (c : Behaviour) → IsOver d e →
      Carries (part_under b d) e a f x c → DerivesWith program s b d x c
  whole (choice left right) (chl d) e a f x c over h = becomes left d e a x f c over h.1.0 h.1.1 h.0
  whole (choice left right) (chr d) e a f x c over h = becomes right d e a x f c over h.1.0 h.1.1 h.0
  whole (parallel gates left right) (parl d) e a f x c over h =
      (f, moved left d e a x f over h.1.0 h.0, subst (λ (z : Action). IsAlone gates (kind_of z)) (sym h.1.0) h.1.1, h.1.2)
  whole (parallel gates left right) (parr d) e a f x c over h =
      (f, moved right d e a x f over h.1.0 h.0, subst (λ (z : Action). IsAlone gates (kind_of z)) (sym h.1.0) h.1.1, h.1.2)
  whole (hide gates body) (hiding d) e a f x c over h =
      let at = h.1.1 in (at.0, at.1, f, moved body d e a (doing at.0 at.1) f over (sym at.2) h.0, at.3, h.1.0, h.1.2)
  whole (hide gates body) (pass d) e a f x c over h =
      (f, moved body d e a x f over h.1.0 h.0, subst (λ (z : Action). IsUnhidden gates (kind_of z)) (sym h.1.0) h.1.1, h.1.2)
  whole (enable left xs right) (enstep d) e a f x c over h =
      (f, moved left d e a x f over h.1.0 h.0, subst (λ (z : Action). IsNoEnd (kind_of z)) (sym h.1.0) h.1.1, h.1.2)
  whole (enable left xs right) (enend d) e a f x c over h =
      let to = h.1.1 in (to.0, f, to.1, moved left d e a (Exit to.0) f over (sym to.2) h.0, h.1.0, to.3, to.4)
  whole (disable left right) (disstep d) e a f x c over h =
      (f, moved left d e a x f over h.1.0 h.0, subst (λ (z : Action). IsNoEnd (kind_of z)) (sym h.1.0) h.1.1, h.1.2)
  whole (disable left right) (disend d) e a f x c over h =
      (becomes left d e a x f c over h.1.0 h.1.1 h.0, subst (λ (z : Action). IsEnd (kind_of z)) (sym h.1.0) h.1.2)
  whole (disable left right) (distake d) e a f x c over h = becomes right d e a x f c over h.1.0 h.1.1 h.0
  whole (relabel pairs body) (rel d) e a f x c over h = (a, f, moved body d e a a f over refl h.0, h.1.0, h.1.1)
  whole _ _ e a f x c over h = absurd h

  needs : (b : Behaviour) (d e : Derivation) (x : Action) (c : Behaviour) → IsOver d e → DerivesWith program s b d x c →
      Needs (part_under b d) e
  needs (choice left right) (chl d) e x c over k = (x, c, moved left e d x x c (sym over) refl k, tt)
  needs (choice left right) (chr d) e x c over k = (x, c, moved right e d x x c (sym over) refl k, tt)
  needs (parallel gates left right) (parl d) e x c over k = (x, k.0, moved left e d x x k.0 (sym over) refl k.1, k.2)
  needs (parallel gates left right) (parr d) e x c over k = (x, k.0, moved right e d x x k.0 (sym over) refl k.1, k.2)
  needs (hide gates body) (hiding d) e x c over k =
      let a = doing k.0 k.1 in (a, k.2, moved body e d a a k.2 (sym over) refl k.3, (k.0, k.1, refl, k.4))
  needs (hide gates body) (pass d) e x c over k = (x, k.0, moved body e d x x k.0 (sym over) refl k.1, k.2)
  needs (enable left xs right) (enstep d) e x c over k = (x, k.0, moved left e d x x k.0 (sym over) refl k.1, k.2)
  needs (enable left xs right) (enend d) e x c over k =
      (Exit k.0, k.1, moved left e d (Exit k.0) (Exit k.0) k.1 (sym over) refl k.3, (k.0, k.2, refl, k.5))
  needs (disable left right) (disstep d) e x c over k = (x, k.0, moved left e d x x k.0 (sym over) refl k.1, k.2)
  needs (disable left right) (disend d) e x c over k = (x, c, moved left e d x x c (sym over) refl k.0, k.1)
  needs (disable left right) (distake d) e x c over k = (x, c, moved right e d x x c (sym over) refl k, tt)
  needs (relabel pairs body) (rel d) e x c over k = (k.0, k.1, moved body e d k.0 k.0 k.1 (sym over) refl k.2, tt)
  needs b (pre slots) e x c over k = absurd over
  needs b int e x c over k = absurd over
  needs b (exiting slots) e x c over k = absurd over
  needs b (val slot d) e x c over k = absurd over
  needs b (gate j d) e x c over k = absurd over
  needs b (guard d) e x c over k = absurd over
  needs b (letting d) e x c over k = absurd over
  needs b (both d f) e x c over k = absurd over
  needs b (calling d) e x c over k = absurd over
  needs _ _ e x c over k = absurd k

module _ (program : Program) (executable : IsExecutable program.theory) (budget : ℕ) (s : Assignment) (b : Behaviour) (d e : Derivation)
    (over : IsOver d e) where
  -- the construct has no part for the rule
  pub no_part : (f : FireFault) → part_under b d ≡ None → IsMisfit (Unit {0}) f → Fails program budget s b d f
  no_part f none misfit =
      let lacking : HasNoPart (part_under b d) = subst HasNoPart (sym none) tt in
      let other : IsItsConstruct program b d → ⊥ = lacks program s b d e over lacking in
      record {
        fault =
            own_misfit program budget s b d f (Unit {0})
            (λ _. (
              λ k. subst (λ (o : Option Framed). Needs program s o e) none (needs program s b d e k.0 k.1 over k.2),
              λ k. other (first_fits program (HasNone program) s d b k),
              no_second program s b d e (HasNone program) over,
            )) misfit;
        within = asks_nothing program (FaultBounds program.theory budget f) s b d d refl other;
      }

  module _ (x : Framed) (is : part_under b d ≡ Some x) where
    first : OnFirst program s b d (Is program s x.part e)
    first =
        first_is program s b d e x.frame x.part over
        (subst (λ (o : Option Framed). IsFramed o x.frame x.part) (sym is) (refl, refl))

    -- what holds of each term that the part asks holds of each that the whole asks
    of_part : (W : TermTree → Type 0) → ((y : TermTree) → Asks program s x.part e y → W y) → (y : TermTree) → Asks program s b d y → W y
    of_part W =
        part_asked program executable W s b d d b s x.part e refl refl first (λ y h. absurd (asks_none program s b d e y over h))
        (λ y h. absurd (no_second program s b d e (λ t c g. Asks program t c g y) over h))

    pub part_fails : (f : FireFault) →
        Explains program.theory budget (Within 0 (IsUnfitAt program s x.part e)) (Asks program s x.part e) f →
        ((y : TermTree) → Asks program s x.part e y → FaultBounds program.theory budget f y) → Fails program budget s b d f
    part_fails f why within =
        record {
          fault = first_fault program budget s b d f s x.part e first why;
          within = of_part (FaultBounds program.theory budget f) within;
        }

    lacks_step : OnFirst program s b d (HasNone program) → HasNone program s x.part e
    lacks_step =
        first_both program executable d b s (Is program s x.part e) (HasNone program)
        (λ t c g same none.
        subst (HasNone program s x.part) same.2
        (subst (λ (z : Behaviour). HasNone program s z g) same.1 (subst (λ (z : Assignment). HasNone program z c g) same.0 none))) first

    pub part_does : (done : Step) (r : Result Step FireFault) →
        DerivesWith program s x.part e done.action (behaviour_of done.rest) →
        ((y : TermTree) → Asks program s x.part e y → IsWithin program.theory y budget) → Leaves program.theory s x.frame done r →
        Answers program budget s b d r
    part_does done (Ok r) does within made =
        record {
          derives =
              whole program s b d e done.action (behaviour_of done.rest) r.action (behaviour_of r.rest) over
              (subst (λ (o : Option Framed).
              Carries program s o e done.action (behaviour_of done.rest) r.action (behaviour_of r.rest)) (sym is) (does, made));
          within = of_part (λ y. IsWithin program.theory y budget) within;
        }
    part_does done (Err f) does within misfit =
        record {
          fault =
              condition_fault program executable budget s b d f x.part e done.action (behaviour_of done.rest)
              (Admits program.theory s x.frame) does
              (λ z w k. subst (λ (o : Option Framed). Needs program s o e) is (needs program s b d e z w over k)) lacks_step
              (no_second program s b d e (HasNone program) over) misfit;
          within = of_part (FaultBounds program.theory budget f) (λ y h. fault_within program.theory budget f y (within y h));
        }

module _ (program : Program) (budget : ℕ) (s : Assignment) (b : Behaviour) where
  -- the answer is this fault
  pub failed : (d : Derivation) (r : Result Step FireFault) (f : FireFault) → r ≡ Err f → Fails program budget s b d f →
      Answers program budget s b d r
  failed d r f is h = subst (λ (q : Result Step FireFault). Answers program budget s b d q) (sym is) h

  answers_of : (d : Derivation) (r : Result Step FireFault) → BoundsEach program.theory budget (Asks program s b d) r →
      IfOk r (λ x. DerivesWith program s b d x.action (behaviour_of x.rest)) → IfErr r (IsFault program budget s b d) →
      Answers program budget s b d r
  answers_of d (Ok x) within does fault = record { derives = does; within = within }
  answers_of d (Err f) within does fault = record { fault = fault; within = within }

  -- the answer by the tree that this one is
  pub answers : (d rule : Derivation) (r : Result Step FireFault) → BoundsEach program.theory budget (Asks program s b rule) r → d ≡ rule →
      IfOk r (λ x. DerivesWith program s b rule x.action (behaviour_of x.rest)) → IfErr r (IsFault program budget s b rule) →
      Answers program budget s b d r
  answers d rule r within is does fault =
      subst (λ (e : Derivation). Answers program budget s b e r) (sym is) (answers_of rule r within does fault)

-- the fault of a part, told of the whole
pub below_explains : (theory : Theory) (budget place : ℕ) (U : List ℕ → Type 0) (A : TermTree → Type 0) (f e : FireFault) →
    IsBelow place f e → Explains theory budget U A f → Explains theory budget (Within place U) A e
below_explains theory budget place U A (Unfit at) (Unfit to) is h =
    record { unfit = (at.items, is, h.unfit); spent = tt; too_large = tt }
below_explains theory budget place U A (Unfit at) (Spent term) is h = absurd is
below_explains theory budget place U A (Unfit at) (TooLarge term) is h = absurd is
below_explains theory budget place U A (Unfit at) Memory is h = record { unfit = tt; spent = tt; too_large = tt }
below_explains theory budget place U A (Spent term) e is h =
    subst (Explains theory budget (Within place U) A) (sym is) (record { unfit = tt; spent = h.spent; too_large = tt })
below_explains theory budget place U A (TooLarge term) e is h =
    subst (Explains theory budget (Within place U) A) (sym is) (record { unfit = tt; spent = tt; too_large = h.too_large })
below_explains theory budget place U A Memory e is h = memory theory budget (Within place U) A e is

-- what the part does isn't what the rule asks
pub not_admitted : (theory : Theory) (s : Assignment) (frame : Surrounding) (done : Step) (r : Result Step FireFault) (f : FireFault) →
    r ≡ Err f → IsMisfit (Admits theory s frame done.action → ⊥) f → Leaves theory s frame done r
not_admitted theory s frame done r f is h = subst (Leaves theory s frame done) (sym is) h

inner_there : (b : Behaviour) (P : Behaviour → Type 0) → OnInner b P → OnInner b (λ _. Unit {0})
inner_there (inner rest) P h = tt
inner_there _ P h = absurd h

-- an internal action
pub inner_answers : (program : Program) → IsExecutable program.theory → (budget : ℕ) (s : Assignment) (b : Behaviour) (d : Derivation)
    (r : Result Step FireFault) → d ≡ int → IfOk r (λ x. DerivesWith program s b int x.action (behaviour_of x.rest)) →
    IfErr r (IsMisfit (OnInner b (λ _. Unit {0}) → ⊥)) → Answers program budget s b d r
inner_answers program executable budget s b d r is does misfit =
    answers program budget s b d int r (inner_asked program executable (Bounds program.theory budget r) s b int refl) is does
    (IfErr-weaker r (IsMisfit (OnInner b (λ _. Unit {0}) → ⊥)) (IsFault program budget s b int)
    (λ f.
    own_misfit program budget s b int f (OnInner b (λ _. Unit {0}) → ⊥)
    (λ none. (λ k. none (inner_there b _ k.2), λ k. k, λ k. k))) misfit)
