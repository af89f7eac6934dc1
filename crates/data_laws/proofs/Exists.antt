-- Each ground term has a value and a cost.
use Rattle.std.proofs.Common.{ℕ, suc, ◌≡◌, ◌≤◌, ◌+◌, List, [], ◌∷◌, refl, sym, ap, subst, ◌∙◌, arith, inl, inr, ◌⊎◌}
use Rattle.spec_core.specs.Lists.{Each}
use Rattle.spec_core.specs.Terms.{TermTree, TermTrees, variable, apply, no_terms, and_term, width, instance, instances, Occurs}
use Rattle.spec_core.specs.Theories.{Premise, premise, ConditionalEquation, Theory, Heads, OccursInPremises}
use Rattle.spec_core.specs.Constructors.{HeadsNone, IsConstructor}
use Rattle.spec_core.specs.Orthogonality.{HasNoLooseVariables}
use Rattle.spec_core.specs.Evaluation.{Evaluates, EvaluatesAll, Tries, Asks, called, none, more, final, unlike, like, used, holds, fails}
use Rattle.spec_core.specs.Order.{IsInsideAny, IsSmaller, DependsOn, itself, onward, IsAbove, IsLevel, IsBelow, AreBelow, PremiseIsBelow}
use Rattle.spec_core.specs.Order.{Decreases}
use Rattle.data_laws.proofs.Sorted.{IsSorted, PremiseHasSort}
use Rattle.data_laws.proofs.Fit.{IsFit, Fits, FitAll, fit_values, fits_sorted, side_fits}
use Rattle.data_laws.proofs.Still.{AllFail, IsRefuted, MayStay, IsStill, AreStill, own_value, part_any, inside_instances, smaller_values}
use Rattle.data_laws.proofs.Matching.{Tells, matches, same_term}
use Rattle.data_laws.proofs.Narrow.{IsNarrow, AreNarrow, PremiseIsNarrow, EquationIsNarrow}
use Rattle.data_laws.proofs.Smaller.{IsLow, low, all_low}

-- what every equation owes
pub record Owes (theory : Theory) (n : ℕ) (e : ConditionalEquation) : Type 0 where
  pub sorted : IsSorted theory e
  pub tight : HasNoLooseVariables e
  pub narrow : EquationIsNarrow n e
  pub headed : (s : ℕ → TermTree) (f : ℕ) (vs : TermTrees) → instance s e.left ≡ apply f vs → (ps : TermTrees) × (e.left ≡ apply f ps)
  pub decreases : (f : ℕ) (ps : TermTrees) → e.left ≡ apply f ps → Decreases theory f ps e

-- a term has a value
abbrev pub Settles : Theory → TermTree → Type 0
Settles theory t = (v : TermTree) × (k : ℕ) × Evaluates theory t v k × IsStill theory v

abbrev pub SettleAll : Theory → TermTrees → Type 0
SettleAll theory ts = (vs : TermTrees) × (k : ℕ) × EvaluatesAll theory ts vs k × AreStill theory vs

abbrev pub CallSettles : Theory → ℕ → TermTrees → Type 0
CallSettles theory f vs = (v : TermTree) × (k : ℕ) × Tries theory theory.equations f vs v k × IsStill theory v

-- the operations below f, and so on down, come to an end
pub data EndsAt (theory : Theory) : ℕ → Type 0 where
  ends_at : (f : ℕ) → ((g : ℕ) → IsAbove theory f g → EndsAt theory g) → EndsAt theory f

pub reaches_on : (theory : Theory) (f g h : ℕ) → DependsOn theory f g → DependsOn theory g h → DependsOn theory f h
reaches_on theory f g h (itself f') r = r
reaches_on theory f g h (onward f' x g' m a) r = onward f x h m (reaches_on theory x g h a r)

pub above_level : (theory : Theory) (f g h : ℕ) → IsLevel theory f g → IsAbove theory g h → IsAbove theory f h
above_level theory f g h l a = (reaches_on theory f g h l.0 a.0, λ b. a.1 (reaches_on theory h f g b l.0))

pub level_level : (theory : Theory) (f g h : ℕ) → IsLevel theory f g → IsLevel theory g h → IsLevel theory f h
level_level theory f g h l a = (reaches_on theory f g h l.0 a.0, reaches_on theory h g f a.1 l.1)

pub constructor_may_stay : (theory : Theory) (f : ℕ) → IsConstructor theory f → MayStay theory f
constructor_may_stay theory f c = λ sort given closed. c

pub constructor_stays : (theory : Theory) (es : List ConditionalEquation) (f : ℕ) (vs : TermTrees) →
    Each (λ e. (s : ℕ → TermTree) (f : ℕ) (vs : TermTrees) → instance s e.left ≡ apply f vs → (ps : TermTrees) × (e.left ≡ apply f ps)) es
    → Each (λ e. Heads f e → ⊥) es → Tries theory es f vs (apply f vs) 0
constructor_stays theory [] f vs h c = final refl refl
constructor_stays theory (e ∷ es) f vs h c = unlike (λ s q. c.0 (h.0 s f vs q)) (constructor_stays theory es f vs h.1 c.1)

pub constructor_refutes : (theory : Theory) (es : List ConditionalEquation) (f : ℕ) (vs : TermTrees) →
    Each (λ e. (s : ℕ → TermTree) (f : ℕ) (vs : TermTrees) → instance s e.left ≡ apply f vs → (ps : TermTrees) × (e.left ≡ apply f ps)) es
    → Each (λ e. Heads f e → ⊥) es → Each (IsRefuted theory f vs) es
constructor_refutes theory [] f vs h c = tt
constructor_refutes theory (e ∷ es) f vs h c = (inl (λ s q. c.0 (h.0 s f vs q)), constructor_refutes theory es f vs h.1 c.1)

abbrev pub Headed : ConditionalEquation → Type 0
Headed e = (s : ℕ → TermTree) (f : ℕ) (vs : TermTrees) → instance s e.left ≡ apply f vs → (ps : TermTrees) × (e.left ≡ apply f ps)

pub width_instances : (s : ℕ → TermTree) (ts : TermTrees) → width (instances s ts) ≡ width ts
width_instances s no_terms = refl
width_instances s (and_term t ts) = ap suc (width_instances s ts)

pub width_values : (theory : Theory) {ts vs : TermTrees} {n : ℕ} → EvaluatesAll theory ts vs n → width ts ≡ width vs
width_values theory (none e) = refl
width_values theory (more n m a b e) = ap suc (width_values theory b)

-- of one equation that matches f over vs by s: each term below its left side has a value
module _ (theory : Theory) (n : ℕ) (tight : Each HasNoLooseVariables theory.equations) (sorted : Each (IsSorted theory) theory.equations)
    (headed : Each Headed theory.equations) (bare : (g : ℕ) → IsConstructor theory g → HeadsNone theory g) (f : ℕ) (ps : TermTrees)
    (s : ℕ → TermTree) (still : AreStill theory (instances s ps))
    (higher : (g : ℕ) → IsAbove theory f g → (vs : TermTrees) → IsFit theory g vs → AreStill theory vs → CallSettles theory g vs)
    (level : (g : ℕ) → IsLevel theory f g → (vs : TermTrees) → width vs ≤ n → IsSmaller vs (instances s ps) → IsFit theory g vs →
    AreStill theory vs → CallSettles theory g vs) where
  settled_part : (t : TermTree) → IsInsideAny t ps → Settles theory (instance s t)
  settled_part t i =
      let h = part_any theory (instance s t) (instances s ps) (inside_instances s t ps i) still in
      let v = own_value theory (instance s t) h in
      (instance s t, v.0, v.1, h)

  after_arguments : (g : ℕ) (ts : TermTrees) → SettleAll theory ts →
      ((vs : TermTrees) (k : ℕ) → EvaluatesAll theory ts vs k → AreStill theory vs → CallSettles theory g vs) →
      Settles theory (apply g ts)
  after_arguments g ts a call =
      let c = call a.0 a.1 a.2 a.3 in
      (c.0, a.1 + c.1, called a.0 a.1 c.1 a.2 c.2 refl, c.3)

  made : (g : ℕ) → IsConstructor theory g → (vs : TermTrees) → AreStill theory vs → CallSettles theory g vs
  made g c vs h =
      let t = constructor_stays theory theory.equations g vs headed (bare g c) in
      (apply g vs, 0, t, (h, constructor_may_stay theory g c, (0, t), constructor_refutes theory theory.equations g vs headed (bare g c)))

  by_head : (g : ℕ) (ts : TermTrees) → width ts ≤ n → IsFit theory g (instances s ts) → SettleAll theory (instances s ts) →
      IsConstructor theory g ⊎ IsAbove theory f g ⊎ IsLevel theory f g × IsSmaller ts ps → Settles theory (apply g (instances s ts))
  by_head g ts w i a (inl c) = after_arguments g (instances s ts) a (λ vs k e h. made g c vs h)
  by_head g ts w i a (inr (inl c)) =
      after_arguments g (instances s ts) a (λ vs k e h. higher g c vs (fit_values theory tight sorted g e i) h)
  by_head g ts w i a (inr (inr c)) =
      after_arguments g (instances s ts) a
      (λ vs k e h. level g c.0 vs (narrow_values ts vs k e w) (smaller_values theory tight s ts ps vs k c.1 still e)
      (fit_values theory tight sorted g e i) h)
    where
      narrow_values : (ts vs : TermTrees) (k : ℕ) → EvaluatesAll theory (instances s ts) vs k → width ts ≤ n → width vs ≤ n
      narrow_values ts vs k e w = omega (arith, width_values theory e, width_instances s ts)

  mutual
    pub below_settles : (t : TermTree) → Fits theory (instance s t) → IsNarrow n t → IsBelow theory f ps t → Settles theory (instance s t)
    below_settles (variable x) i w b = settled_part (variable x) b
    below_settles (apply g ts) j w (inl i) = settled_part (apply g ts) i
    below_settles (apply g ts) j w (inr b) = by_head g ts w.0 j.0 (below_settle ts j.1 w.1 b.0) b.1

    below_settle : (ts : TermTrees) → FitAll theory (instances s ts) → AreNarrow n ts → AreBelow theory f ps ts →
        SettleAll theory (instances s ts)
    below_settle no_terms j w b = (no_terms, 0, none refl, tt)
    below_settle (and_term t ts) j w b =
        let x = below_settles t j.0 w.0 b.0 in
        let y = below_settle ts j.1 w.1 b.1 in
        (and_term x.0 y.0, x.1 + y.1, more x.1 y.1 x.2 y.2 refl, (x.3, y.3))

args : {f : ℕ} {g : ℕ} {ts us : TermTrees} → apply f ts ≡ apply g us → ts ≡ us
args e = cc

abbrev pub PremiseIsFit : Theory → (ℕ → TermTree) → Premise → Type 0
PremiseIsFit theory s (premise a b) = Fits theory (instance s a) × Fits theory (instance s b)

premises_fit : (theory : Theory) (e : ConditionalEquation) (w : IsSorted theory e) (s : ℕ → TermTree) (f : ℕ) (vs : TermTrees) →
    instance s e.left ≡ apply f vs → IsFit theory f vs → (asked : List Premise) → Each (PremiseHasSort theory w.vars) asked →
    ((x : ℕ) → OccursInPremises x asked → Occurs x e.left) → Each (PremiseIsFit theory s) asked
premises_fit theory e w s f vs q i [] h o = tt
premises_fit theory e w s f vs q i (premise a b ∷ asked) h o = (
  (
    fits_sorted theory (instance s a) h.0.0 (side_fits theory e w s f vs q i a h.0.0 h.0.1 (λ x k. o x (inl k))),
    fits_sorted theory (instance s b) h.0.0 (side_fits theory e w s f vs q i b h.0.0 h.0.2 (λ x k. o x (inr (inl k)))),
  ),
  premises_fit theory e w s f vs q i asked h.1 (λ x k. o x (inr (inr k))),
)

abbrev pub PremiseSettles : Theory → (ℕ → TermTree) → Premise → Type 0
PremiseSettles theory s (premise a b) = Settles theory (instance s a) × Settles theory (instance s b)

-- what is known once some equations are tried: the value, which is still, or the call itself
abbrev pub TrySettles : Theory → List ConditionalEquation → ℕ → TermTrees → Type 0
TrySettles theory es f vs = (v : TermTree) × (k : ℕ) × Tries theory es f vs v k ×
    (IsStill theory v ⊎ ((v ≡ apply f vs) × MayStay theory f) × Each (IsRefuted theory f vs) es)

abbrev pub AskSettles : Theory → List ConditionalEquation → ℕ → TermTrees → (ℕ → TermTree) → TermTree → List Premise → Type 0
AskSettles theory es f vs s r ps = (v : TermTree) × (k : ℕ) × Asks theory ps r s es f vs v k ×
    (IsStill theory v ⊎ ((v ≡ apply f vs) × MayStay theory f) × AllFail theory s ps × Each (IsRefuted theory f vs) es)

module _ (theory : Theory) (s : ℕ → TermTree) (f : ℕ) (vs : TermTrees) where
  -- the premises in order, and then the right side, where all that is asked has a value
  ask : (ps : List Premise) (r : TermTree) (es : List ConditionalEquation) → Each (PremiseSettles theory s) ps →
      Settles theory (instance s r) → ((AllFail theory s ps) → TrySettles theory es f vs) → AskSettles theory es f vs s r ps
  ask [] r es h last next = (last.0, last.1 + 1, used last.1 last.2 refl, inl last.3)
  ask (premise a b ∷ ps) r es h last next = compare (same_term h.0.0.0 h.0.1.0) (ask ps r es h.1 last (λ g. next (inr g)))
    where
      later : {v : TermTree} → IsStill theory v ⊎ ((v ≡ apply f vs) × MayStay theory f) × AllFail theory s ps ×
          Each (IsRefuted theory f vs) es →
          IsStill theory v ⊎ ((v ≡ apply f vs) × MayStay theory f) × AllFail theory s (premise a b ∷ ps) × Each (IsRefuted theory f vs) es
      later (inl x) = inl x
      later (inr x) = inr (x.0, inr x.1, x.2)

      now : {v : TermTree} → (h.0.0.0 ≡ h.0.1.0 → ⊥) →
          IsStill theory v ⊎ ((v ≡ apply f vs) × MayStay theory f) × Each (IsRefuted theory f vs) es →
          IsStill theory v ⊎ ((v ≡ apply f vs) × MayStay theory f) × AllFail theory s (premise a b ∷ ps) × Each (IsRefuted theory f vs) es
      now d (inl x) = inl x
      now d (inr x) = inr (x.0, inl (h.0.0.0, h.0.1.0, h.0.0.1, h.0.1.1, h.0.0.2, h.0.1.2, d), x.1)

      compare : Tells (h.0.0.0 ≡ h.0.1.0) → AskSettles theory es f vs s r ps → AskSettles theory es f vs s r (premise a b ∷ ps)
      compare (inl e) z = (
        z.0,
        h.0.0.1 + h.0.1.1 + z.1,
        holds h.0.0.0 h.0.0.1 h.0.1.1 z.1 h.0.0.2 (subst (λ w. Evaluates theory (instance s b) w h.0.1.1) (sym e) h.0.1.2) z.2 refl,
        later z.3,
      )
      compare (inr d) z =
          let z = next (inl (h.0.0.0, h.0.1.0, h.0.0.1, h.0.1.1, h.0.0.2, h.0.1.2, d)) in
          (z.0, h.0.0.1 + h.0.1.1 + z.1, fails h.0.0.0 h.0.1.0 h.0.0.1 h.0.1.1 z.1 h.0.0.2 h.0.1.2 d z.2 refl, now d z.3)

-- an equation that was asked and doesn't apply: its premises' sides have values
abbrev pub IsPassed : Theory → ℕ → TermTrees → ConditionalEquation → Type 0
IsPassed theory f vs e = ((s : ℕ → TermTree) → instance s e.left ≡ apply f vs → ⊥) ⊎
    ((s : ℕ → TermTree) × (instance s e.left ≡ apply f vs) × Each (PremiseSettles theory s) e.premises × AllFail theory s e.premises)

-- an operation to which no equation applies may stay
abbrev pub Ends : Theory → Type 0
Ends theory = (f : ℕ) (vs : TermTrees) → IsFit theory f vs → AreStill theory vs → Each (IsPassed theory f vs) theory.equations →
    MayStay theory f

module _ (theory : Theory) (n : ℕ) (tight : Each HasNoLooseVariables theory.equations) (sorted : Each (IsSorted theory) theory.equations)
    (headed : Each Headed theory.equations) (bare : (g : ℕ) → IsConstructor theory g → HeadsNone theory g) (ends : Ends theory) (f : ℕ)
    (vs : TermTrees) (fit : IsFit theory f vs) (still : AreStill theory vs)
    (higher : (g : ℕ) → IsAbove theory f g → (ws : TermTrees) → IsFit theory g ws → AreStill theory ws → CallSettles theory g ws)
    (level : (g : ℕ) → IsLevel theory f g → (ws : TermTrees) → width ws ≤ n → IsSmaller ws vs → IsFit theory g ws →
    AreStill theory ws → CallSettles theory g ws) where
  side : (ps : TermTrees) (s : ℕ → TermTree) → vs ≡ instances s ps → (t : TermTree) → Fits theory (instance s t) → IsNarrow n t →
      IsBelow theory f ps t → Settles theory (instance s t)
  side ps s e t j w b =
      below_settles theory n tight sorted headed bare f ps s (subst (AreStill theory) e still) higher
      (λ g l ws i d j h. level g l ws i (subst (IsSmaller ws) (sym e) d) j h) t j w b

  sides : (ps : TermTrees) (s : ℕ → TermTree) → vs ≡ instances s ps → (asked : List Premise) → Each (PremiseIsFit theory s) asked →
      Each (PremiseIsNarrow n) asked → Each (PremiseIsBelow theory f ps) asked → Each (PremiseSettles theory s) asked
  sides ps s e [] j w b = tt
  sides ps s e (premise x y ∷ asked) j w b =
      ((side ps s e x j.0.0 w.0.0 b.0.0, side ps s e y j.0.1 w.0.1 b.0.1), sides ps s e asked j.1 w.1 b.1)

  -- the equations in order
  try : (es : List ConditionalEquation) → Each (Owes theory n) es → (Each (IsPassed theory f vs) es → MayStay theory f) →
      TrySettles theory es f vs
  try [] o last = (apply f vs, 0, final refl refl, inr ((refl, last tt), tt))
  try (e ∷ es) o last = on (matches e.left (apply f vs)) (λ r. try es o.1 (λ rs. last (r, rs)))
    where
      past : {v : TermTree} → IsRefuted theory f vs e →
          IsStill theory v ⊎ ((v ≡ apply f vs) × MayStay theory f) × Each (IsRefuted theory f vs) es →
          IsStill theory v ⊎ ((v ≡ apply f vs) × MayStay theory f) × Each (IsRefuted theory f vs) (e ∷ es)
      past r (inl x) = inl x
      past r (inr x) = inr (x.0, (r, x.1))

      through : {v : TermTree} (s : ℕ → TermTree) → instance s e.left ≡ apply f vs →
          IsStill theory v ⊎ ((v ≡ apply f vs) × MayStay theory f) × AllFail theory s e.premises × Each (IsRefuted theory f vs) es →
          IsStill theory v ⊎ ((v ≡ apply f vs) × MayStay theory f) × Each (IsRefuted theory f vs) (e ∷ es)
      through s q (inl x) = inl x
      through s q (inr x) = inr (x.0, (inr (s, q, x.1), x.2))

      on : Tells ((s : ℕ → TermTree) × (instance s e.left ≡ apply f vs)) → (IsPassed theory f vs e → TrySettles theory es f vs) →
          TrySettles theory (e ∷ es) f vs
      on (inr unfit) next =
          let z = next (inl (λ s q. unfit (s, q))) in
          (z.0, z.1, unlike (λ s q. unfit (s, q)) z.2, past (inl (λ s q. unfit (s, q))) z.3)
      on (inl m) next =
          let h = o.0.headed m.0 f vs m.1 in
          let d = o.0.decreases f h.0 h.1 in
          let q : vs ≡ instances m.0 h.0 = args (sym m.1 ∙ ap (instance m.0) h.1) in
          let w = o.0.sorted in
          let j = premises_fit theory e w m.0 f vs m.1 fit e.premises w.asked o.0.tight.premises in
          let i = fits_sorted theory (instance m.0 e.right) w.sort
          (side_fits theory e w m.0 f vs m.1 fit e.right w.sort w.right o.0.tight.right) in
          let ss = sides h.0 m.0 q e.premises j o.0.narrow.1 d.asked in
          let z = ask theory m.0 f vs e.premises e.right es ss
          (side h.0 m.0 q e.right i o.0.narrow.0 d.right)
          (λ g. next (inr (m.0, m.1, ss, g))) in
          (z.0, z.1, like m.0 m.1 z.2, through m.0 m.1 z.3)

-- every call over values, for the operations level with f, once those below are known
module _ (theory : Theory) (n : ℕ) (owed : Each (Owes theory n) theory.equations) (tight : Each HasNoLooseVariables theory.equations)
    (sorted : Each (IsSorted theory) theory.equations) (headed : Each Headed theory.equations)
    (bare : (g : ℕ) → IsConstructor theory g → HeadsNone theory g) (ends : Ends theory) where
  finish : (f : ℕ) (vs : TermTrees) → AreStill theory vs → TrySettles theory theory.equations f vs → CallSettles theory f vs
  finish f vs h x = last x.0 x.1 x.2 x.3
    where
      last : (v : TermTree) (k : ℕ) → Tries theory theory.equations f vs v k →
          IsStill theory v ⊎ ((v ≡ apply f vs) × MayStay theory f) × Each (IsRefuted theory f vs) theory.equations →
          CallSettles theory f vs
      last v k t (inl s) = (v, k, t, s)
      last v k t (inr e) =
          let u = subst (λ v. Tries theory theory.equations f vs v k) e.0.0 t in
          (apply f vs, k, u, (h, e.0.1, (k, u), e.1))

  by_list : (f : ℕ) → ((g : ℕ) → IsAbove theory f g → (ws : TermTrees) → IsFit theory g ws → AreStill theory ws → CallSettles theory g ws)
      → (vs : TermTrees) → IsLow n vs → (g : ℕ) → IsLevel theory f g → IsFit theory g vs → AreStill theory vs → CallSettles theory g vs
  by_list f higher vs (low vs' deeper) g l j h =
      finish g vs' h (try theory n tight sorted headed bare ends g vs' j h
      (λ k a ws i s. higher k (above_level theory f g k l a) ws i s)
      (λ k a ws w d i s. by_list f higher ws (deeper ws w d) k (level_level theory f g k l a) i s)
      theory.equations owed (ends g vs' j h))

  pub by_operation : (f : ℕ) → EndsAt theory f → (vs : TermTrees) → IsFit theory f vs → AreStill theory vs → CallSettles theory f vs
  by_operation f (ends_at f' deeper) vs j h =
      by_list f' (λ g a ws i s. by_operation g (deeper g a) ws i s) vs (low vs (λ ws w d. all_low n ws w)) f' (itself f', itself f') j h

  module _ (deep : (f : ℕ) → EndsAt theory f) where
    mutual
      -- every ground term that fits has a value and a cost
      pub settles : (t : TermTree) → Fits theory t → Settles theory t
      settles (variable x) j = absurd j
      settles (apply f ts) j =
          let a = settle_all ts j.1 in
          let c = by_operation f (deep f) a.0 (fit_values theory tight sorted f a.2 j.0) a.3 in
          (c.0, a.1 + c.1, called a.0 a.1 c.1 a.2 c.2 refl, c.3)

      pub settle_all : (ts : TermTrees) → FitAll theory ts → SettleAll theory ts
      settle_all no_terms j = (no_terms, 0, none refl, tt)
      settle_all (and_term t ts) j =
          let x = settles t j.0 in
          let y = settle_all ts j.1 in
          (and_term x.0 y.0, x.1 + y.1, more x.1 y.1 x.2 y.2 refl, (x.3, y.3))
