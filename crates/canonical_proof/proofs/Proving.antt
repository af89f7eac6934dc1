-- The canonical certificate of an equation proves it.
use Rattle.std.proofs.Common.{ℕ, suc, ◌≡◌, ◌+◌, List, [], ◌∷◌, ◌++◌, map, refl, sym, ap, subst, ◌∙◌, arith, inl, inr, Some}
use Rattle.std.proofs.lemmas.List.{append_assoc, append-nil}
use Rattle.std.specs.List.{slice_get}
use Rattle.spec_core.specs.Lists.{Each}
use Rattle.spec_core.specs.Equality.{IsGroundFor}
use Rattle.spec_core.specs.Executable.{IsExecutable}
use Rattle.spec_core.specs.Orthogonality.{HasNoLooseVariables, HasPatterns}
use Rattle.spec_core.specs.Sorts.{OnSome, HasSort, HaveSorts, EquationFits, PremiseFits, no_variables}
use Rattle.spec_core.specs.Terms.{TermTree, TermTrees, apply, no_terms, and_term, instance, preorder, terms, Occurs}
use Rattle.spec_core.specs.Theories.{Operation, Premise, premise, ConditionalEquation, Theory, OccursInPremises}
use Rattle.spec_core.proofs.Instances.{instance_sort}
use Rattle.spec_core.proofs.Lists.{each_slice_get}
use Rattle.spec_core.proofs.OneValue.{same_instance}
use Rattle.spec_core.proofs.Sound.{match_is_ground, right_sort}
use Rattle.data_laws.proofs.Conditions.{declared, sorted_of}
use Rattle.data_laws.proofs.Sorted.{keeps_sort, keep_sorts}
use Rattle.value_table.proofs.Spelled.{some_declared}
use Rattle.equal_proof.specs.declared.proof.ProofStep.{ProofStep}
use Rattle.equal_proof.specs.declared.proof.ProofStep.TheVariants.{Same, Turn, Chain, Inside, Use}
use Rattle.equal_proof.specs.Certificates.{Sides, left_of, right_of, premise_instance, bound_by, variables_of, IsInside}
use Rattle.equal_proof.specs.Certificates.{IsInstance, StepOf, Runs}
use Rattle.equal_proof.proofs.Bound.{SidesFitBy}
use Rattle.canonical_proof.specs.Canonical.{Writes, WritesAll, WritesCall, WritesPremises, of_call, none_written, one_written, stays}
use Rattle.canonical_proof.specs.Canonical.{passed, applied, none_left, one_holds, given_by, use_of}
use Rattle.canonical_proof.specs.Laws.{CanonicalCertificatesProve}
use Rattle.canonical_proof.specs.Lines.{Line, line_of, turn, chain, inside}
use Rattle.canonical_proof.proofs.Evaluated.{evaluated, all_evaluated}
use Rattle.canonical_proof.proofs.Given.{bound_is_given, given_fit}

given_terms : (s : ℕ → TermTree) (xs : List ℕ) → given_by s xs ≡ map preorder (map s xs)
given_terms s [] = refl
given_terms s (x ∷ xs) = ap (λ vs. preorder (s x) ∷ vs) (given_terms s xs)

same_premises : (s z : ℕ → TermTree) (ps : List Premise) → ((x : ℕ) → OccursInPremises x ps → s x ≡ z x) →
    map (premise_instance s) ps ≡ map (premise_instance z) ps
same_premises s z [] h = refl
same_premises s z (premise a b ∷ ps) h =
    let l = same_instance s z a (λ x o. h x (inl o)) in
    let r = same_instance s z b (λ x o. h x (inr (inl o))) in
    ap (λ (t : TermTree). (t, instance s b) ∷ map (premise_instance s) ps) l
    ∙ ap (λ (t : TermTree). (instance z a, t) ∷ map (premise_instance s) ps) r
    ∙ ap (λ (qs : List Sides). (instance z a, instance z b) ∷ qs) (same_premises s z ps (λ x o. h x (inr (inr o))))

-- the equations between the terms of two lists, one by one
abbrev pairs : TermTrees → TermTrees → List Sides
pairs no_terms us = []
pairs (and_term t ts) no_terms = []
pairs (and_term t ts) (and_term u us) = (t, u) ∷ pairs ts us

module _ (theory : Theory) where
  -- each step of this line makes the one stack the other
  abbrev Takes : Line → List Sides → List Sides → Type 0
  Takes line old new = (step : ProofStep) → line_of step ≡ line → StepOf theory step old new

  -- lines one after another
  abbrev LinesRun : List Line → List Sides → List Sides → Type 0
  LinesRun [] old new = new ≡ old
  LinesRun (line ∷ lines) old new = (middle : List Sides) × Takes line old middle × LinesRun lines middle new

  one_more : (lines : List Line) (line : Line) (old middle new : List Sides) → LinesRun lines old middle → Takes line middle new →
      LinesRun (lines ++ line ∷ []) old new
  one_more [] line old middle new e h = (new, subst (λ m. Takes line m new) e h, refl)
  one_more (l ∷ lines) line old middle new r h = (r.0, r.1, one_more lines line r.0 middle new r.2 h)

  steps_run : (steps : List ProofStep) (old new : List Sides) → LinesRun (map line_of steps) old new → Runs theory steps old new
  steps_run [] old new h = h
  steps_run (step ∷ steps) old new h = (h.0, h.1 step refl, steps_run steps h.0 new h.2)

  turn_takes : (rest : List Sides) (t u : TermTree) → Takes turn (rest ++ (t, u) ∷ []) (rest ++ (u, t) ∷ [])
  turn_takes rest t u (Same value) e = absurd (cc)
  turn_takes rest t u Turn e =
      record { rest = rest; taken = (t, u) ∷ []; put = (u, t); before = refl; inferred = (t, u, refl, refl); after = refl }
  turn_takes rest t u Chain e = absurd (cc)
  turn_takes rest t u (Inside f) e = absurd (cc)
  turn_takes rest t u (Use equation values) e = absurd (cc)

  chain_takes : (rest : List Sides) (t u w : TermTree) → Takes chain (rest ++ (t, u) ∷ [] ++ (u, w) ∷ []) (rest ++ (t, w) ∷ [])
  chain_takes rest t u w (Same value) e = absurd (cc)
  chain_takes rest t u w Turn e = absurd (cc)
  chain_takes rest t u w Chain e = record {
    rest = rest;
    taken = (t, u) ∷ (u, w) ∷ [];
    put = (t, w);
    before = append_assoc rest ((t, u) ∷ []) ((u, w) ∷ []);
    inferred = (t, u, w, refl, refl);
    after = refl;
  }
  chain_takes rest t u w (Inside f) e = absurd (cc)
  chain_takes rest t u w (Use equation values) e = absurd (cc)

  inside_takes : (f : ℕ) (rest taken : List Sides) → OnSome (slice_get theory.operations f) (λ (d : Operation). IsInside theory d taken) →
      Takes (inside f) (rest ++ taken) (rest ++ (apply f (terms (map left_of taken)), apply f (terms (map right_of taken))) ∷ [])
  inside_takes f rest taken h (Same value) e = absurd (cc)
  inside_takes f rest taken h Turn e = absurd (cc)
  inside_takes f rest taken h Chain e = absurd (cc)
  inside_takes f rest taken h (Inside op) e =
      let q : f ≡ op.0 = cc in record {
        rest = rest;
        taken = taken;
        put = (apply f (terms (map left_of taken)), apply f (terms (map right_of taken)));
        before = refl;
        inferred = (
          subst (λ g. OnSome (slice_get theory.operations g) (λ (d : Operation). IsInside theory d taken)) q h,
          ap (λ (g : ℕ). (apply g (terms (map left_of taken)), apply g (terms (map right_of taken)))) q,
        );
        after = refl;
      }
  inside_takes f rest taken h (Use equation values) e = absurd (cc)

  use_takes : (e : ConditionalEquation) (number : ℕ) (s : ℕ → TermTree) (rest taken : List Sides) (put : Sides) →
      slice_get theory.equations number ≡ Some e → IsInstance theory e (given_by s (variables_of e.left)) taken put →
      Takes (use_of e number s) (rest ++ taken) (rest ++ put ∷ [])
  use_takes e number s rest taken put at h (Same value) q = absurd (cc)
  use_takes e number s rest taken put at h Turn q = absurd (cc)
  use_takes e number s rest taken put at h Chain q = absurd (cc)
  use_takes e number s rest taken put at h (Inside op) q = absurd (cc)
  use_takes e number s rest taken put at h (Use equation values) q =
      let n : number ≡ equation = cc in
      let v : given_by s (variables_of e.left) ≡ values.items = cc in
      record {
        rest = rest;
        taken = taken;
        put = put;
        before = refl;
        inferred = subst (λ o. OnSome o (λ (d : ConditionalEquation). IsInstance theory d values.items taken put))
            (sym at ∙ ap (slice_get theory.equations) n) (subst (λ vs. IsInstance theory e vs taken put) v h);
        after = refl;
      }

  pairs_lefts : (ts us : TermTrees) (sorts : List ℕ) → HaveSorts theory no_variables ts sorts → HaveSorts theory no_variables us sorts →
      terms (map left_of (pairs ts us)) ≡ ts
  pairs_lefts no_terms us sorts h k = refl
  pairs_lefts (and_term t ts) us [] h k = absurd h
  pairs_lefts (and_term t ts) no_terms (c ∷ sorts) h k = absurd k
  pairs_lefts (and_term t ts) (and_term u us) (c ∷ sorts) h k = ap (and_term t) (pairs_lefts ts us sorts h.1 k.1)

  pairs_rights : (ts us : TermTrees) (sorts : List ℕ) → HaveSorts theory no_variables ts sorts → HaveSorts theory no_variables us sorts →
      terms (map right_of (pairs ts us)) ≡ us
  pairs_rights no_terms no_terms sorts h k = refl
  pairs_rights no_terms (and_term u us) [] h k = absurd k
  pairs_rights no_terms (and_term u us) (c ∷ sorts) h k = absurd h
  pairs_rights (and_term t ts) us [] h k = absurd h
  pairs_rights (and_term t ts) no_terms (c ∷ sorts) h k = absurd k
  pairs_rights (and_term t ts) (and_term u us) (c ∷ sorts) h k = ap (and_term u) (pairs_rights ts us sorts h.1 k.1)

  module _ (e : ConditionalEquation) (fits : EquationFits theory e) (closed : HasNoLooseVariables e) (s : ℕ → TermTree)
      (ground : IsGroundFor theory e s) where
    instance_given : IsInstance theory e (given_by s (variables_of e.left)) (map (premise_instance s) e.premises)
        (instance s e.left, instance s e.right)
    instance_given =
        let z = bound_by (variables_of e.left) (map s (variables_of e.left)) in
        let agree : (x : ℕ) → Occurs x e.left → s x ≡ z x = λ x o. sym (bound_is_given s e.left x o) in (
          map s (variables_of e.left),
          given_terms s (variables_of e.left),
          given_fit theory e.sorts s e.left sorted,
          (
            same_premises s z e.premises (λ x o. agree x (closed.premises x o)),
            ap (λ (t : TermTree). (t, instance s e.right)) (same_instance s z e.left agree)
                ∙ ap (λ (t : TermTree). (instance z e.left, t)) (same_instance s z e.right (λ x o. agree x (closed.right x o))),
          ),
        )
      where
        sorted : (x : ℕ) → Occurs x e.left → OnSome (slice_get e.sorts x) (λ (sort : ℕ). HasSort theory no_variables (s x) sort)
        sorted x o =
            let d = declared theory (slice_get e.sorts) e.left fits.sides.0 fits.sides.1 x o in
            subst (λ o. OnSome o (λ (sort : ℕ). HasSort theory no_variables (s x) sort)) (sym d.1) (ground x d.0 (inl o) d.1)

    premises_fit : (ps : List Premise) → Each (PremiseFits theory (slice_get e.sorts)) ps →
        ((x : ℕ) → OccursInPremises x ps → OccursInPremises x e.premises) → Each (SidesFitBy theory s) ps
    premises_fit [] h within = tt
    premises_fit (premise a b ∷ ps) h within =
        let l = instance_sort theory (slice_get e.sorts) s a h.0.0 h.0.1 (λ x c o d. ground x c (inr (inr (within x (inl o)))) d) in
        let r = instance_sort theory (slice_get e.sorts) s b h.0.0 h.0.2 (λ x c o d. ground x c (inr (inr (within x (inr (inl o))))) d) in
        (((h.0.0, l), (h.0.0, r)), premises_fit ps h.1 (λ x o. within x (inr (inr o))))

module _ (theory : Theory) (ex : IsExecutable theory) where
  -- these are the equations from this number on
  abbrev AreFrom : ℕ → List ConditionalEquation → Type 0
  AreFrom number es = (i : ℕ) → slice_get theory.equations (number + i) ≡ slice_get es i

  -- a value has the sort of its term
  value_sort : {t v : TermTree} {before after : List Line} → Writes theory t v before after → (sort : ℕ) →
      HasSort theory no_variables t sort → HasSort theory no_variables v sort
  value_sort x sort h = keeps_sort theory ex.orthogonal.closed (sorted_of theory ex) (evaluated theory x).1 sort h

  value_sorts : {ts vs : TermTrees} {before after : List Line} → WritesAll theory ts vs before after → (sorts : List ℕ) →
      HaveSorts theory no_variables ts sorts → HaveSorts theory no_variables vs sorts
  value_sorts x sorts h = keep_sorts theory ex.orthogonal.closed (sorted_of theory ex) (all_evaluated theory x).1 sorts h

  -- the operation over terms and over their values
  inside_both : (f : ℕ) (ts vs : TermTrees) (d : Operation) → slice_get theory.operations f ≡ Some d →
      HaveSorts theory no_variables ts d.args → HaveSorts theory no_variables vs d.args → (old : List Sides) (lines : List Line) →
      LinesRun theory lines [] (old ++ pairs ts vs) → LinesRun theory (lines ++ inside f ∷ []) [] (old ++ (apply f ts, apply f vs) ∷ [])
  inside_both f ts vs d at h k old lines run =
      let l = pairs_lefts theory ts vs d.args h k in
      let r = pairs_rights theory ts vs d.args h k in
      let i : IsInside theory d (pairs ts vs) = (
        subst (λ us. HaveSorts theory no_variables us d.args) (sym l) h,
        subst (λ us. HaveSorts theory no_variables us d.args) (sym r) k,
      ) in
      let o = subst (λ o. OnSome o (λ (c : Operation). IsInside theory c (pairs ts vs))) (sym at) i in
      let q = one_more theory lines (inside f) [] (old ++ pairs ts vs)
      (old ++ (apply f (terms (map left_of (pairs ts vs))), apply f (terms (map right_of (pairs ts vs)))) ∷ [])
      run (inside_takes theory f old (pairs ts vs) o) in
      subst (λ us. LinesRun theory (lines ++ inside f ∷ []) [] (old ++ (apply f ts, apply f us) ∷ [])) r
      (subst (λ us. LinesRun theory (lines ++ inside f ∷ []) [] (old ++ (apply f us, apply f (terms (map right_of (pairs ts vs)))) ∷ [])) l q)

  -- the use of an equation whose left side's instance is the operation over values
  used_on : (number : ℕ) (e : ConditionalEquation) (s : ℕ → TermTree) (t u : TermTree) → slice_get theory.equations number ≡ Some e →
      IsGroundFor theory e s → instance s e.left ≡ u → (old : List Sides) (lines : List Line) →
      LinesRun theory lines [] (old ++ (t, u) ∷ [] ++ map (premise_instance s) e.premises) →
      LinesRun theory (lines ++ use_of e number s ∷ [] ++ chain ∷ []) [] (old ++ (t, instance s e.right) ∷ [])
  used_on number e s t u at ground g old lines run =
      let fits = each_slice_get (EquationFits theory) theory.equations number e ex.fits.equations at in
      let closed = each_slice_get HasNoLooseVariables theory.equations number e ex.orthogonal.closed at in
      let i = instance_given theory e fits closed s ground in
      let p = one_more theory lines (use_of e number s) [] (old ++ (t, u) ∷ [] ++ map (premise_instance s) e.premises)
      (old ++ (t, u) ∷ [] ++ (instance s e.left, instance s e.right) ∷ []) run
      (use_takes theory e number s (old ++ (t, u) ∷ []) (map (premise_instance s) e.premises) (instance s e.left, instance s e.right) at i)
      in
      let q = subst (λ (l : TermTree). LinesRun theory (lines ++ use_of e number s ∷ []) []
      (old ++ (t, u) ∷ [] ++ (l, instance s e.right) ∷ [])) g p in
      one_more theory (lines ++ use_of e number s ∷ []) chain [] (old ++ (t, u) ∷ [] ++ (u, instance s e.right) ∷ [])
      (old ++ (t, instance s e.right) ∷ []) q (chain_takes theory old t u (instance s e.right))

  -- equations a = w and b = w make a = b
  joined : (a b w : TermTree) (old : List Sides) (lines : List Line) → LinesRun theory lines [] (old ++ (a, w) ∷ [] ++ (b, w) ∷ []) →
      LinesRun theory (lines ++ turn ∷ [] ++ chain ∷ []) [] (old ++ (a, b) ∷ [])
  joined a b w old lines run =
      let q = one_more theory lines turn [] (old ++ (a, w) ∷ [] ++ (b, w) ∷ []) (old ++ (a, w) ∷ [] ++ (w, b) ∷ []) run
      (turn_takes theory (old ++ (a, w) ∷ []) b w) in
      one_more theory (lines ++ turn ∷ []) chain [] (old ++ (a, w) ∷ [] ++ (w, b) ∷ []) (old ++ (a, b) ∷ []) q (chain_takes theory old a w b)

  mutual
    -- behind the lines of a term stands the equation between it and its value
    proves : {t v : TermTree} {before after : List Line} → Writes theory t v before after → (sort : ℕ) →
        HasSort theory no_variables t sort → (old : List Sides) → LinesRun theory before [] old → LinesRun theory after [] (old ++ (t, v) ∷ [])
    proves (of_call {f} {ts} vs middle x y) sort h old run =
        let d = some_declared (slice_get theory.operations f) h in
        let k = value_sorts x d.0.args d.2.1 in
        let s = subst (λ o. OnSome o (λ (c : Operation). (c.result ≡ sort) × HaveSorts theory no_variables vs c.args)) (sym d.1)
        ((d.2.0, k)) in
        let p = all_prove x d.0.args d.2.1 old run in
        call_proves y (apply f ts) sort s (λ i. ap (slice_get theory.equations) (omega arith)) old
        (inside_both f ts vs d.0 d.1 d.2.1 k old middle p)

    all_prove : {ts vs : TermTrees} {before after : List Line} → WritesAll theory ts vs before after → (sorts : List ℕ) →
        HaveSorts theory no_variables ts sorts → (old : List Sides) → LinesRun theory before [] old →
        LinesRun theory after [] (old ++ pairs ts vs)
    all_prove {before = before} (none_written e) sorts h old run =
        subst (λ ls. LinesRun theory ls [] (old ++ [])) (sym e) (subst (λ st. LinesRun theory before [] st) (sym (append-nil old)) run)
    all_prove (one_written middle x y) [] h old run = absurd h
    all_prove {after = after} (one_written {t} {v} {ts} {vs} middle x y) (c ∷ sorts) h old run =
        let p = proves x c h.0 old run in
        let q = all_prove y sorts h.1 (old ++ (t, v) ∷ []) p in
        subst (λ st. LinesRun theory after [] st) (append_assoc old ((t, v) ∷ []) (pairs ts vs)) q

    call_proves : {number f : ℕ} {es : List ConditionalEquation} {vs : TermTrees} {v : TermTree} {before after : List Line} →
        WritesCall theory number es f vs v before after → (t : TermTree) (sort : ℕ) → HasSort theory no_variables (apply f vs) sort →
        AreFrom number es → (old : List Sides) → LinesRun theory before [] (old ++ (t, apply f vs) ∷ []) →
        LinesRun theory after [] (old ++ (t, v) ∷ [])
    call_proves {v = v} {before = before} (stays e k) t sort h from old run =
        subst (λ ls. LinesRun theory ls [] (old ++ (t, v) ∷ [])) (sym k)
        (subst (λ (u : TermTree). LinesRun theory before [] (old ++ (t, u) ∷ [])) (sym e) run)
    call_proves {number = number} (passed p x) t sort h from old run =
        call_proves x t sort h (λ i. ap (slice_get theory.equations) (omega arith) ∙ from (suc i)) old run
    call_proves {number = number} {f = f} {vs = vs} {v = v} (applied {e = e} s premised reached g x y k) t sort h from old run =
        let at : slice_get theory.equations number ≡ Some e = ap (slice_get theory.equations) (omega arith) ∙ from 0 in
        let fits = each_slice_get (EquationFits theory) theory.equations number e ex.fits.equations at in
        let patterns = each_slice_get (HasPatterns theory) theory.equations number e ex.orthogonal.patterns at in
        let closed = each_slice_get HasNoLooseVariables theory.equations number e ex.orthogonal.closed at in
        let ground = match_is_ground theory e fits patterns closed s f vs g sort h in
        let right = right_sort theory e fits patterns closed s f vs g sort h in
        let p = premises_prove x (premises_fit theory e fits closed s ground e.premises fits.premises (λ x o. o))
        (old ++ (t, apply f vs) ∷ []) run in
        let c = used_on number e s t (apply f vs) at ground g old premised p in
        let r = proves y sort right (old ++ (t, instance s e.right) ∷ []) c in
        let z = one_more theory reached chain [] (old ++ (t, instance s e.right) ∷ [] ++ (instance s e.right, v) ∷ []) (old ++ (t, v) ∷ []) r
        (chain_takes theory old t (instance s e.right) v) in
        subst (λ ls. LinesRun theory ls [] (old ++ (t, v) ∷ [])) (sym k) z

    premises_prove : {s : ℕ → TermTree} {ps : List Premise} {before after : List Line} → WritesPremises theory s ps before after →
        Each (SidesFitBy theory s) ps → (old : List Sides) → LinesRun theory before [] old →
        LinesRun theory after [] (old ++ map (premise_instance s) ps)
    premises_prove {before = before} (none_left e) h old run =
        subst (λ ls. LinesRun theory ls [] (old ++ [])) (sym e) (subst (λ st. LinesRun theory before [] st) (sym (append-nil old)) run)
    premises_prove {s = s} {after = after} (one_holds {a = a} {b = b} {ps = ps} w left right x y z) h old run =
        let p = proves x h.0.0.0 h.0.0.1 old run in
        let q = proves y h.0.1.0 h.0.1.1 (old ++ (instance s a, w) ∷ []) p in
        let j = joined (instance s a) (instance s b) w old right q in
        let r = premises_prove z h.1 (old ++ (instance s a, instance s b) ∷ []) j in
        subst (λ st. LinesRun theory after [] st)
        (append_assoc old ((instance s a, instance s b) ∷ []) (map (premise_instance s) ps)) r

pub certificates_prove : CanonicalCertificatesProve
certificates_prove theory ex steps t u f g h =
    let a = proves theory ex h.of_left f.0 f.1 [] refl in
    let b = proves theory ex h.of_right g.0 g.1 ((t, h.value) ∷ []) a in
    let c = joined theory ex t u h.value [] h.last b in
    steps_run theory steps [] ((t, u) ∷ []) (subst (λ ls. LinesRun theory ls [] ((t, u) ∷ [])) (sym h.whole) c)
