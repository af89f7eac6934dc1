-- What steps infer, by the rows of a table.
use Rattle.std.proofs.Common.{ℕ, zero, suc, ◌≡◌, ◌<◌, ◌≤◌, ◌+◌, ◌-◌, ◌↔◌, List, [], ◌∷◌, ◌++◌, length, map, take, drop, refl, sym, ap}
use Rattle.std.proofs.Common.{subst, ◌∙◌, arith, Option, Some, None, slice_index_or, Bool, true, false, ◌==◌, IsTrue, get_or, MatchOption}
use Rattle.std.proofs.Common.{IfSome, IfNone, IfOk, OnOk, Ok, Err, Result}
use Rattle.std.proofs.lemmas.Bool.{eq-eqb, eqb-true}
use Rattle.std.proofs.lemmas.List.{length-map, map-append, take_all, take-append-drop}
use Rattle.spec_core.proofs.Lists.{each_get_or, each_push, each_right, each_take, map_next, own_default}
use Rattle.std.proofs.lemmas.Option.{slice_get_past}
use Rattle.std.specs.List.{slice_get}
use Rattle.spec_core.specs.declared.items.Op.{Op}
use Rattle.spec_core.specs.declared.items.Sort.{Sort}
use Rattle.spec_core.specs.Numbers.{sort_number}
use Rattle.spec_core.specs.declared.term.Term.{Term}
use Rattle.spec_core.specs.Lists.{Each}
use Rattle.spec_core.specs.Sorts.{OnSome, HasSort, HaveSorts, FitsGround, no_variables}
use Rattle.spec_core.specs.Terms.{TermTree, apply, instance, instances, preorder, term_of, terms}
use Rattle.spec_core.specs.Theories.{Premise, premise_of, ConditionalEquation, Operation, Theory}
use Rattle.value_table.specs.Tables.{Application, tree_at, AreFit, IsLonger, IsRow}
use Rattle.value_table.proofs.Spelled.{list_fits, on_declared, some_declared}
use Rattle.value_table.proofs.Tables.{same_trees, still_rows}
use Rattle.equal_proof.specs.declared.pair.Pair.{Pair}
use Rattle.equal_proof.specs.declared.proof.ProofStep.TheVariants.{Same, Turn, Chain, Inside}
use Rattle.equal_proof.specs.Certificates.{Sides, left_of, right_of, variables_of, bound_by, premise_instance, FitVariables, Infers}
use Rattle.equal_proof.specs.Certificates.{IsInside, IsInstance, IsInstanceBy}
use Rattle.equal_proof.specs.Outcomes.{IsOneLeft}
use Rattle.equal_proof.specs.Pairs.{instance_at, instances_at, premise_fits_at, sides_at, stack_of, IsPair}
use Rattle.equal_proof.proofs.Bound.{bound_here, bound_later, variables_fit, SidesFitBy}
use Rattle.equal_proof.proofs.OneOutcome.{first_left, first_of, first_right, list_of_terms, one_list, rest_of}
use Rattle.equal_proof.proofs.Running.{stack_stays}

pub on_some : {A : Type 0} (P : A → Type 0) (o : Option A) (d : A) → o ≡ Some d → P d → OnSome o P
on_some P o d e p = subst (λ x. OnSome x P) (sym e) p

-- the instance of an operation over terms of the program
pub instances_listed : (s : ℕ → TermTree) (args : List Term) →
    instances s (terms (map term_of args)) ≡ terms (map (λ t. instance s (term_of t)) args)
instances_listed s [] = refl
instances_listed s (t ∷ ts) = let r = instances_listed s ts in cc

pub args_fit : (theory : Theory) (f : ℕ) (us : List TermTree) → FitsGround theory (apply f (terms us)) → Each (FitsGround theory) us
args_fit theory f us h = of (slice_get theory.operations f) h.1
  where
    of : (o : Option Operation) → OnSome o (λ (d : Operation). (d.result ≡ h.0) × HaveSorts theory no_variables (terms us) d.args) →
        Each (FitsGround theory) us
    of None p = absurd p
    of (Some d) p = subst (Each (FitsGround theory)) (list_of_terms us) (list_fits theory (terms us) d.args p.1)

-- an instance stays in a longer table
pub instance_stays : (old new : List Application) → IsLonger old new → (xs is : List ℕ) (t : Term) → Each (IsRow old) is →
    instance_at new xs is t ≡ instance_at old xs is t
instance_stays old new h xs is t e = ap (λ us. instance (bound_by xs us) (term_of t)) (same_trees old new h is e)

pub instances_stay : (old new : List Application) → IsLonger old new → (xs is : List ℕ) (ts : List Term) → Each (IsRow old) is →
    instances_at new xs is ts ≡ instances_at old xs is ts
instances_stay old new h xs is ts e = ap (λ us. map (λ (t : Term). instance (bound_by xs us) (term_of t)) ts) (same_trees old new h is e)

-- another list of terms by which the values are an instance is the one that was read
pub instance_read : (theory : Theory) (e : ConditionalEquation) (values : List (List ℕ)) (ts : List TermTree) (taken : List Sides)
    (put : Sides) →
    values ≡ map preorder ts → FitVariables theory e.sorts (variables_of e.left) ts → IsInstance theory e values taken put →
    IsInstanceBy e ts taken put
instance_read theory e values ts taken put spelled fit h =
    let same = one_list theory values h.0 ts (variables_fit theory e.sorts (variables_of e.left) h.0 h.2)
    (variables_fit theory e.sorts (variables_of e.left) ts fit) h.1 spelled in
    subst (λ us. IsInstanceBy e us taken put) same h.3

abbrev pub no_pair : Pair
no_pair = record { left = 0; right = 0 }

-- lists of one and of two pairs
pub one_pair : (xs : List Pair) → 1 ≤ length xs → length xs < 2 → xs ≡ slice_index_or xs 0 no_pair ∷ []
one_pair [] a b = absurd (omega (arith, a))
one_pair (x ∷ []) a b = refl
one_pair (x ∷ y ∷ xs) a b = absurd (omega (arith, b))

pub two_pairs : (xs : List Pair) → 2 ≤ length xs → length xs < 3 → xs ≡ slice_index_or xs 0 no_pair ∷ slice_index_or xs 1 no_pair ∷ []
two_pairs [] a b = absurd (omega (arith, a))
two_pairs (x ∷ []) a b = absurd (omega (arith, a))
two_pairs (x ∷ y ∷ []) a b = refl
two_pairs (x ∷ y ∷ z ∷ xs) a b = absurd (omega (arith, b))

pub stack_length : (rows : List Application) (pairs : List Pair) (stack : List Sides) → stack_of rows pairs ≡ stack →
    length pairs ≡ length stack
stack_length rows pairs stack e = sym (length-map pairs (sides_at rows)) ∙ ap length e

module _ (theory : Theory) where
  pub same_inferred : (rows new : List Application) (value : List ℕ) (row : ℕ) (taken : List Pair) → AreFit theory new → IsRow new row →
      value ≡ preorder (tree_at new row) → length taken ≡ 0 →
      Infers theory (Same value) (stack_of rows taken) (sides_at new (record { left = row; right = row }))
  same_inferred rows new value row [] fit there spelled none = (tree_at new row, fit row there, spelled, refl, refl)
  same_inferred rows new value row (p ∷ taken) fit there spelled none = absurd (omega (arith, none))

  pub turn_inferred : (rows : List Application) (taken : List Pair) (p : Pair) → taken ≡ p ∷ [] →
      Infers theory Turn (stack_of rows taken) (sides_at rows (record { left = p.right; right = p.left }))
  turn_inferred rows taken p e = (tree_at rows p.left, tree_at rows p.right, ap (stack_of rows) e, refl)

  pub turn_needs_one : (rows : List Application) (taken : List Pair) (put : Sides) → Infers theory Turn (stack_of rows taken) put →
      length taken ≡ 1
  turn_needs_one rows taken put h = stack_length rows taken _ h.2

  pub chain_needs_two : (rows : List Application) (taken : List Pair) (put : Sides) → Infers theory Chain (stack_of rows taken) put →
      length taken ≡ 2
  chain_needs_two rows taken put h = stack_length rows taken _ h.3

  pub chain_inferred : (rows : List Application) (taken : List Pair) (p q : Pair) → taken ≡ p ∷ q ∷ [] →
      tree_at rows p.right ≡ tree_at rows q.left →
      Infers theory Chain (stack_of rows taken) (sides_at rows (record { left = p.left; right = q.right }))
  chain_inferred rows taken p q e m = (
    tree_at rows p.left,
    tree_at rows p.right,
    tree_at rows q.right,
    ap (stack_of rows) e
        ∙ ap (λ (t : TermTree). (tree_at rows p.left, tree_at rows p.right) ∷ (t, tree_at rows q.right) ∷ []) (sym m),
    refl,
  )

  pub chain_meets : (rows : List Application) (taken : List Pair) (p q : Pair) (put : Sides) → taken ≡ p ∷ q ∷ [] →
      Infers theory Chain (stack_of rows taken) put → tree_at rows p.right ≡ tree_at rows q.left
  chain_meets rows taken p q put e h =
      let k : ◌≡◌ {A = List Sides} (sides_at rows p ∷ sides_at rows q ∷ []) ((h.0, h.1) ∷ (h.1, h.2) ∷ []) =
      ap (stack_of rows) (sym e) ∙ h.3 in
      let a : tree_at rows p.right ≡ h.1 = ap (first_right h.1) k in
      let b : tree_at rows q.left ≡ h.1 = ap (λ (ps : List Sides). first_left h.1 (rest_of ps)) k in
      a ∙ sym b

  pub inside_inferred : (old middle new : List Application) (f : Op) (d : Operation) (left_args right_args : List ℕ) (l r : ℕ)
      (taken : List Pair) → slice_get theory.operations f.0 ≡ Some d → IsLonger old middle → IsLonger middle new → IsRow middle l →
      Each (IsRow old) right_args →
      map (tree_at old) left_args ≡ map left_of (stack_of old taken) → map (tree_at old) right_args ≡ map right_of (stack_of old taken) →
      HaveSorts theory no_variables (terms (map (tree_at old) left_args)) d.args →
      HaveSorts theory no_variables (terms (map (tree_at old) right_args)) d.args →
      tree_at middle l ≡ apply f.0 (terms (map (tree_at old) left_args)) →
      tree_at new r ≡ apply f.0 (terms (map (tree_at middle) right_args)) →
      Infers theory (Inside f) (stack_of old taken) (sides_at new (record { left = l; right = r }))
  inside_inferred old middle new f d left_args right_args l r taken found g k there rows a b x y p q =
      let u : tree_at new l ≡ apply f.0 (terms (map left_of (stack_of old taken))) =
      k.same l there ∙ p ∙ ap (λ ts. apply f.0 (terms ts)) a in
      let v : tree_at new r ≡ apply f.0 (terms (map right_of (stack_of old taken))) =
      q ∙ ap (λ ts. apply f.0 (terms ts)) (same_trees old middle g right_args rows ∙ b) in (
        on_some (λ (c : Operation). IsInside theory c (stack_of old taken)) (slice_get theory.operations f.0) d found (
          subst (λ ts. HaveSorts theory no_variables (terms ts) d.args) a x,
          subst (λ ts. HaveSorts theory no_variables (terms ts) d.args) b y,
        ),
        ap (λ (t : TermTree). (t, tree_at new r)) u ∙ ap (λ (t : TermTree). (apply f.0 (terms (map left_of (stack_of old taken))), t)) v,
      )

  pub inside_sorts : (rows : List Application) (f : Op) (d : Operation) (taken : List Pair) (put : Sides) →
      slice_get theory.operations f.0 ≡ Some d → Infers theory (Inside f) (stack_of rows taken) put →
      IsInside theory d (stack_of rows taken)
  inside_sorts rows f d taken put found h =
      on_declared (λ (c : Operation). IsInside theory c (stack_of rows taken)) (slice_get theory.operations f.0) d found h.0

  -- values for variables
  pub no_sort : (sorts : List Sort) (x : ℕ) (t : TermTree) → length sorts ≤ x →
      OnSome (slice_get (map sort_number sorts) x) (λ (sort : ℕ). HasSort theory no_variables t sort) → ⊥
  no_sort sorts x t past h =
      let l = length-map sorts sort_number in
      let e = slice_get_past (map sort_number sorts) x (omega (arith, l, past)) in
      subst (λ o. OnSome o (λ (sort : ℕ). HasSort theory no_variables t sort)) e h

  pub sort_there : (sorts : List ℕ) (x : ℕ) (t : TermTree) → OnSome (slice_get sorts x) (λ (sort : ℕ). HasSort theory no_variables t sort) →
      FitsGround theory t
  sort_there sorts x t h = let d = some_declared (slice_get sorts x) h in (d.0, d.2)

  pub read_one : (values : List ℕ) (rest : List (List ℕ)) (sorts : List ℕ) (x : ℕ) (xs : List ℕ) (ts : List TermTree) →
      values ∷ rest ≡ map preorder ts → FitVariables theory sorts (x ∷ xs) ts →
      (t : TermTree) × (us : List TermTree) × (values ≡ preorder t) ×
      OnSome (slice_get sorts x) (λ (sort : ℕ). HasSort theory no_variables t sort) × (rest ≡ map preorder us) ×
      FitVariables theory sorts xs us
  read_one value rest sorts x xs [] e f = absurd f
  read_one value rest sorts x xs (t ∷ ts) e f =
      let a : value ≡ preorder t = cc in let b : rest ≡ map preorder ts = cc in (t, ts, a, f.0, b, f.1)

-- premises by the rows of their instances
pub premise_same : (old new : List Application) (xs is : List ℕ) (p : Term × Term) (pair : Pair) (l r : ℕ) → IsLonger old new →
    IsPair old pair → tree_at new l ≡ instance_at old xs is p.0 → tree_at new r ≡ instance_at old xs is p.1 →
    tree_at new pair.left ≡ tree_at new l → tree_at new pair.right ≡ tree_at new r →
    sides_at old pair ≡ premise_instance (bound_by xs (map (tree_at old) is)) (premise_of p)
premise_same old new xs is p pair l r g there a b x y =
    let u : tree_at old pair.left ≡ instance_at old xs is p.0 = sym (g.same pair.left there.0) ∙ x ∙ a in
    let v : tree_at old pair.right ≡ instance_at old xs is p.1 = sym (g.same pair.right there.1) ∙ y ∙ b in
    ap (λ (t : TermTree). (t, tree_at old pair.right)) u ∙ ap (λ (t : TermTree). (instance_at old xs is p.0, t)) v

pub premise_sides : (old new : List Application) (xs is : List ℕ) (p : Term × Term) (pair : Pair) (l r : ℕ) → IsLonger old new →
    IsPair old pair → tree_at new l ≡ instance_at old xs is p.0 → tree_at new r ≡ instance_at old xs is p.1 →
    sides_at old pair ≡ premise_instance (bound_by xs (map (tree_at old) is)) (premise_of p) →
    (tree_at new pair.left ≡ tree_at new l) × (tree_at new pair.right ≡ tree_at new r)
premise_sides old new xs is p pair l r g there a b e =
    (g.same pair.left there.0 ∙ ap left_of e ∙ sym a, g.same pair.right there.1 ∙ ap right_of e ∙ sym b)

iff_at : (R : Type 0) (x y z w : List Sides) → x ≡ z → y ≡ w → (R ↔ (x ≡ y)) → R ↔ (z ≡ w)
iff_at R x y z w a b h = (λ r. sym a ∙ h.0 r ∙ b, λ e. h.1 (a ∙ e ∙ sym b))

-- one more premise holds, where these others do or don't
pub premises_more : (R : Type 0) (old middle : List Application) (xs is : List ℕ) (pair : Pair) (taken rest : List Pair)
    (p : Term × Term) (premises others : List (Term × Term)) → IsLonger old middle → Each (IsRow old) is → Each (IsPair old) rest →
    sides_at old pair ∷ stack_of old rest ≡ stack_of old taken → premise_of p ∷ map premise_of others ≡ map premise_of premises →
    sides_at old pair ≡ premise_instance (bound_by xs (map (tree_at old) is)) (premise_of p) →
    (R ↔ (stack_of middle rest ≡ map (premise_instance (bound_by xs (map (tree_at middle) is))) (map premise_of others))) →
    R ↔ (stack_of old taken ≡ map (premise_instance (bound_by xs (map (tree_at old) is))) (map premise_of premises))
premises_more R old middle xs is pair taken rest p premises others g rows there a b same h =
    let s : ℕ → TermTree = bound_by xs (map (tree_at old) is) in
    let k : R ↔ (stack_of old rest ≡ map (premise_instance s) (map premise_of others)) =
    iff_at R _ _ _ _ (stack_stays old middle g rest there)
    (ap (λ us. map (premise_instance (bound_by xs us)) (map premise_of others)) (same_trees old middle g is rows)) h in (
      λ r. sym a ∙ ap (λ (x : Sides). x ∷ stack_of old rest) same ∙ ap (λ (ps : List Sides). premise_instance s (premise_of p) ∷ ps) (k.0 r)
          ∙ ap (map (premise_instance s)) b,
      λ e. k.1 (ap rest_of (a ∙ e ∙ sym (ap (map (premise_instance s)) b))),
    )

pub premises_not : (old : List Application) (xs is : List ℕ) (pair : Pair) (taken rest : List Pair) (p : Term × Term)
    (premises others : List (Term × Term)) → sides_at old pair ∷ stack_of old rest ≡ stack_of old taken →
    premise_of p ∷ map premise_of others ≡ map premise_of premises →
    (sides_at old pair ≡ premise_instance (bound_by xs (map (tree_at old) is)) (premise_of p) → ⊥) →
    stack_of old taken ≡ map (premise_instance (bound_by xs (map (tree_at old) is))) (map premise_of premises) → ⊥
premises_not old xs is pair taken rest p premises others a b differ e =
    let s : ℕ → TermTree = bound_by xs (map (tree_at old) is) in
    let k : sides_at old pair ∷ stack_of old rest ≡ premise_instance s (premise_of p) ∷ map (premise_instance s) (map premise_of others) =
    a ∙ e ∙ sym (ap (map (premise_instance s)) b) in
    differ (ap (first_of (sides_at old pair)) k)

-- the instances of premises fit
pub premises_fit_at : (theory : Theory) (e : ConditionalEquation) (rows : List Application) (xs is : List ℕ) (ps : List (Term × Term)) →
    xs ≡ variables_of e.left →
    Each (λ (q : Premise). SidesFitBy theory (bound_by (variables_of e.left) (map (tree_at rows) is)) q) (map premise_of ps) →
    Each (premise_fits_at theory rows xs is) ps
premises_fit_at theory e rows xs is [] same h = tt
premises_fit_at theory e rows xs is (p ∷ ps) same h =
    (subst (λ ys. premise_fits_at theory rows ys is p) (sym same) h.0, premises_fit_at theory e rows xs is ps same h.1)

pub no_length : (b : Bool) (n : ℕ) → b ≡ (n == 0) → b ≡ false → n ≡ 0 → ⊥
no_length b n e f z = let t : true ≡ false = sym (eq-eqb n 0 z) ∙ sym e ∙ f in let w : ⊥ = cc in w

pub none_length : (b : Bool) (n : ℕ) → b ≡ (n == 0) → b ≡ true → n ≡ 0
none_length b n e t = eqb-true n 0 (sym e ∙ t)

pub nothing : {A : Type 0} (xs : List A) → length xs ≡ 0 → xs ≡ []
nothing [] h = refl
nothing (x ∷ xs) h = absurd (omega (arith, h))

pub pair_of_each : (rows : List Application) (pairs : List Pair) (i : ℕ) → i < length pairs → Each (IsPair rows) pairs →
    IsPair rows (slice_index_or pairs i no_pair)
pair_of_each rows pairs i h e = each_get_or (IsPair rows) pairs i no_pair h e

-- the sides of one more equation
pub lefts_more : (rows : List Application) (pairs : List Pair) (is new : List ℕ) (i : ℕ) → i < length pairs → Each (IsPair rows) pairs →
    new ≡ is ++ (slice_index_or pairs i no_pair).left ∷ [] → Each (IsRow rows) is →
    map (tree_at rows) is ≡ map left_of (stack_of rows (take i pairs)) →
    Each (IsRow rows) new × (map (tree_at rows) new ≡ map left_of (stack_of rows (take (i + 1) pairs)))
lefts_more rows pairs is new i within there e a b =
    let x : Pair = slice_index_or pairs i no_pair in
    let k = map_next (sides_at rows) pairs i x within (own_default pairs i no_pair within) in (
      subst (Each (IsRow rows)) (sym e) (each_push (IsRow rows) is x.left a (pair_of_each rows pairs i within there).0),
      ap (map (tree_at rows)) e ∙ map-append (tree_at rows) is (x.left ∷ []) ∙ ap (λ ts. ts ++ tree_at rows x.left ∷ []) b
          ∙ sym (ap (map left_of) k ∙ map-append left_of (stack_of rows (take i pairs)) (sides_at rows x ∷ [])),
    )

pub rights_more : (rows : List Application) (pairs : List Pair) (is new : List ℕ) (i : ℕ) → i < length pairs → Each (IsPair rows) pairs →
    new ≡ is ++ (slice_index_or pairs i no_pair).right ∷ [] → Each (IsRow rows) is →
    map (tree_at rows) is ≡ map right_of (stack_of rows (take i pairs)) →
    Each (IsRow rows) new × (map (tree_at rows) new ≡ map right_of (stack_of rows (take (i + 1) pairs)))
rights_more rows pairs is new i within there e a b =
    let x : Pair = slice_index_or pairs i no_pair in
    let k = map_next (sides_at rows) pairs i x within (own_default pairs i no_pair within) in (
      subst (Each (IsRow rows)) (sym e) (each_push (IsRow rows) is x.right a (pair_of_each rows pairs i within there).1),
      ap (map (tree_at rows)) e ∙ map-append (tree_at rows) is (x.right ∷ []) ∙ ap (λ ts. ts ++ tree_at rows x.right ∷ []) b
          ∙ sym (ap (map right_of) k ∙ map-append right_of (stack_of rows (take i pairs)) (sides_at rows x ∷ [])),
    )

-- what is bound to the first variable, and to another one
behind_first : {A : Type 0} (x : A) (xs : List A) → take (length (x ∷ xs) - 1) xs ≡ xs
behind_first x xs = take_all (length (x ∷ xs) - 1) xs (omega arith)

pub bound_first : (f : ℕ → TermTree) (xs is : List ℕ) (x : ℕ) → 1 ≤ length xs → 1 ≤ length is → slice_index_or xs 0 0 ≡ x →
    f (slice_index_or is 0 0) ≡ bound_by xs (map f is) x
bound_first f [] is x a b e = absurd (omega (arith, a))
bound_first f (y ∷ ys) [] x a b e = absurd (omega (arith, b))
bound_first f (y ∷ ys) (i ∷ is) x a b e = sym (bound_here x y ys (f i) (map f is) e)

pub bound_others : (f : ℕ → TermTree) (xs is : List ℕ) (x : ℕ) → 1 ≤ length xs → 1 ≤ length is → (slice_index_or xs 0 0 ≡ x → ⊥) →
    bound_by (take (length xs - 1) (drop 1 xs)) (map f (take (length is - 1) (drop 1 is))) x ≡ bound_by xs (map f is) x
bound_others f [] is x a b ne = absurd (omega (arith, a))
bound_others f (y ∷ ys) [] x a b ne = absurd (omega (arith, b))
bound_others f (y ∷ ys) (i ∷ is) x a b ne =
    ap (λ zs. bound_by zs (map f (take (length (i ∷ is) - 1) is)) x) (behind_first y ys)
    ∙ ap (λ js. bound_by ys (map f js) x) (behind_first i is)
    ∙ sym (bound_later x y ys (f i) (map f is) ne)

-- one more instance
pub instances_more : (old middle new : List Application) (xs is : List ℕ) (all : List Term) (t : Term) (i row : ℕ) (made pushed : List ℕ) →
    IsLonger old middle → IsLonger middle new → Each (IsRow old) is → Each (IsRow middle) made → IsRow new row → i < length all →
    t ≡ get_or all i t → tree_at new row ≡ instance_at middle xs is t → pushed ≡ made ++ row ∷ [] →
    map (tree_at middle) made ≡ instances_at old xs is (take i all) →
    Each (IsRow new) pushed × (map (tree_at new) pushed ≡ instances_at old xs is (take (i + 1) all))
instances_more old middle new xs is all t i row made pushed g k rows there r within at tree e trees = (
  subst (Each (IsRow new)) (sym e) (each_push (IsRow new) made row (still_rows middle new k made there) r),
  ap (map (tree_at new)) e ∙ map-append (tree_at new) made (row ∷ [])
      ∙ ap (λ ts. ts ++ tree_at new row ∷ []) (same_trees middle new k made there ∙ trees)
      ∙ ap (λ (u : TermTree). instances_at old xs is (take i all) ++ u ∷ []) (tree ∙ instance_stays old middle g xs is t rows)
      ∙ sym (map_next (instance_at old xs is) all i t within at),
)

pub instance_of_call : (old middle new : List Application) (xs is : List ℕ) (term : TermTree) (f row : ℕ) (args : List Term)
    (made : List ℕ) →
    term ≡ apply f (terms (map term_of args)) → map (tree_at middle) made ≡ instances_at old xs is args →
    tree_at new row ≡ apply f (terms (map (tree_at middle) made)) →
    tree_at new row ≡ instance (bound_by xs (map (tree_at old) is)) term
instance_of_call old middle new xs is term f row args made e trees tree =
    tree ∙ ap (λ ts. apply f (terms ts)) trees
    ∙ ap (apply f) (sym (instances_listed (bound_by xs (map (tree_at old) is)) args))
    ∙ ap (instance (bound_by xs (map (tree_at old) is))) (sym e)

pub call_instance_fits : (theory : Theory) (old : List Application) (xs is : List ℕ) (term : TermTree) (f : ℕ) (args : List Term) →
    term ≡ apply f (terms (map term_of args)) → FitsGround theory (instance (bound_by xs (map (tree_at old) is)) term) →
    FitsGround theory (apply f (terms (instances_at old xs is args)))
call_instance_fits theory old xs is term f args e h =
    subst (FitsGround theory)
    (ap (instance (bound_by xs (map (tree_at old) is))) e
    ∙ ap (apply f) (instances_listed (bound_by xs (map (tree_at old) is)) args))
    h

pub none_declared : {A : Type 0} (P : A → Type 0) (o : Option A) → o ≡ None → OnSome o P → ⊥
none_declared P o e p = subst (λ x. OnSome x P) e p

pub sort_at : (sorts : List Sort) (x : ℕ) (d : Sort) → x < length sorts → slice_get (map sort_number sorts) x ≡ Some ((get_or sorts x d).0)
sort_at [] x d h = absurd (omega arith)
sort_at (s ∷ sorts) zero d h = refl
sort_at (s ∷ sorts) (suc x) d h = sort_at sorts x d (omega (arith, h))

pub each_of_map : {A B : Type 0} (P : B → Type 0) (f : A → B) (xs : List A) (i : ℕ) (x : A) → Each P (map f xs) → i < length xs →
    x ≡ get_or xs i x → P (f x)
each_of_map P f [] i x e h at = absurd (omega arith)
each_of_map P f (y ∷ ys) zero x e h at = subst (λ z. P (f z)) (sym at) e.0
each_of_map P f (y ∷ ys) (suc i) x e h at = each_of_map P f ys i x e.1 (omega (arith, h)) at

pub with_first_some : {V : Type 0} (found : Option V) (items : V → List ℕ) (P : List ℕ → Type 0) (all : List ℕ) →
    MatchOption found ⊥ (λ v. items v ≡ all) → P all → IfSome found (λ v. P (items v))
with_first_some None items P all m p = absurd m
with_first_some (Some v) items P all m p = subst P (sym m) p

pub with_first_none : {V : Type 0} (found : Option V) (items : V → List ℕ) (N : Type 0) (all : List ℕ) →
    MatchOption found ⊥ (λ v. items v ≡ all) → IfNone found N
with_first_none None items N all m = absurd m
with_first_none (Some v) items N all m = tt

pub list_parts : {A : Type 0} (xs : List A) (d : A) → 1 ≤ length xs → get_or xs 0 d ∷ take (length xs - 1) (drop 1 xs) ≡ xs
list_parts [] d h = absurd (omega (arith, h))
list_parts (x ∷ xs) d h = ap (λ ys. x ∷ ys) (behind_first x xs)

module _ (theory : Theory) (sorts : List ℕ) where
  pub fit_nothing : (xs : List ℕ) → length xs < 1 → FitVariables theory sorts xs []
  fit_nothing [] h = tt
  fit_nothing (x ∷ xs) h = absurd (omega (arith, h))

  pub fit_none : (xs : List ℕ) (ts : List TermTree) → length xs < 1 → FitVariables theory sorts xs ts → length ts ≡ 0
  fit_none [] [] h f = refl
  fit_none [] (t ∷ ts) h f = absurd f
  fit_none (x ∷ xs) ts h f = absurd (omega (arith, h))

  pub fit_some : (xs : List ℕ) (ts : List TermTree) → 1 ≤ length xs → FitVariables theory sorts xs ts → 1 ≤ length ts
  fit_some [] ts h f = absurd (omega (arith, h))
  fit_some (x ∷ xs) [] h f = absurd f
  fit_some (x ∷ xs) (t ∷ ts) h f = omega arith

  pub fit_more : (xs : List ℕ) (t : TermTree) (ts : List TermTree) → 1 ≤ length xs →
      OnSome (slice_get sorts (slice_index_or xs 0 0)) (λ (sort : ℕ). HasSort theory no_variables t sort) →
      FitVariables theory sorts (take (length xs - 1) (drop 1 xs)) ts → FitVariables theory sorts xs (t ∷ ts)
  fit_more [] t ts h a f = absurd (omega (arith, h))
  fit_more (x ∷ xs) t ts h a f = (a, subst (λ ys. FitVariables theory sorts ys ts) (behind_first x xs) f)

  -- terms for variables, the first and the others
  pub record Parts (xs : List ℕ) (value : List ℕ) (rest : List (List ℕ)) : Type 0 where
    pub first_term : TermTree
    pub others : List TermTree
    pub spelled : value ≡ preorder first_term
    pub sort : OnSome (slice_get sorts (slice_index_or xs 0 0)) (λ (sort : ℕ). HasSort theory no_variables first_term sort)
    pub rest_spelled : rest ≡ map preorder others
    pub fits : FitVariables theory sorts (take (length xs - 1) (drop 1 xs)) others

  pub parts : (xs : List ℕ) (values : List (List ℕ)) (value : List ℕ) (ts : List TermTree) → 1 ≤ length xs → 1 ≤ length values →
      value ≡ get_or values 0 value → values ≡ map preorder ts → FitVariables theory sorts xs ts →
      Parts xs value (take (length values - 1) (drop 1 values))
  parts [] values value ts a b at e f = absurd (omega (arith, a))
  parts (x ∷ xs) values value [] a b at e f = absurd f
  parts (x ∷ xs) values value (t ∷ ts) a b at e f = record {
    first_term = t;
    others = ts;
    spelled = at ∙ ap (λ vs. get_or vs 0 value) e;
    sort = f.0;
    rest_spelled = ap (λ vs. take (length vs - 1) (drop 1 vs)) e ∙ behind_first (preorder t) (map preorder ts);
    fits = subst (λ ys. FitVariables theory sorts ys ts) (sym (behind_first x xs)) f.1;
  }

-- an equation's instance by rows
pub instance_inferred : (e : ConditionalEquation) (old middle new : List Application) (xs is : List ℕ) (taken : List Pair) (l r : ℕ)
    (left right : Term) → xs ≡ variables_of e.left → term_of left ≡ e.left → term_of right ≡ e.right →
    stack_of old taken ≡ map (premise_instance (bound_by xs (map (tree_at old) is))) e.premises →
    tree_at new l ≡ instance_at old xs is left → tree_at new r ≡ instance_at old xs is right →
    IsInstanceBy e (map (tree_at old) is) (stack_of old taken) (sides_at new (record { left = l; right = r }))
instance_inferred e old middle new xs is taken l r left right same a b held x y =
    let s : ℕ → TermTree = bound_by (variables_of e.left) (map (tree_at old) is) in
    let u : tree_at new l ≡ instance s e.left =
    x ∙ ap (λ ys. instance (bound_by ys (map (tree_at old) is)) (term_of left)) same ∙ ap (instance s) a in
    let v : tree_at new r ≡ instance s e.right =
    y ∙ ap (λ ys. instance (bound_by ys (map (tree_at old) is)) (term_of right)) same ∙ ap (instance s) b in (
      held ∙ ap (λ ys. map (premise_instance (bound_by ys (map (tree_at old) is))) e.premises) same,
      ap (λ (t : TermTree). (t, tree_at new r)) u ∙ ap (λ (t : TermTree). (instance s e.left, t)) v,
    )

pub none_then : {V : Type 0} {P Q : Type 0} (found : Option V) → IfNone found P → (P → Q) → IfNone found Q
none_then None p f = f p
none_then (Some v) p f = tt

pub on_any : {V E P : Type 0} (r : Result V E) → P → OnOk r P
on_any (Ok v) p = p
on_any (Err e) p = tt

pub both_ok : {V E R : Type 0} {P Q : V → Type 0} (r : Result V E) → IfOk r P → IfOk r Q → ((v : V) → P v → Q v → R) → OnOk r R
both_ok (Ok v) p q f = f v p q
both_ok (Err e) p q f = tt

-- the first of a list, and those behind it
pub map_parts : {A B : Type 0} (f : A → B) (xs : List A) (d : A) → 1 ≤ length xs →
    f (get_or xs 0 d) ∷ map f (take (length xs - 1) (drop 1 xs)) ≡ map f xs
map_parts f [] d h = absurd (omega (arith, h))
map_parts f (x ∷ xs) d h = ap (λ ys. f x ∷ map f ys) (behind_first x xs)

pub each_head : {A : Type 0} (P : A → Type 0) (xs : List A) (x : A) → 1 ≤ length xs → x ≡ get_or xs 0 x → Each P xs → P x
each_head P [] x h at e = absurd (omega (arith, h))
each_head P (y ∷ ys) x h at e = subst P (sym at) e.0

pub each_behind : {A : Type 0} (P : A → Type 0) (xs : List A) → Each P xs → Each P (take (length xs - 1) (drop 1 xs))
each_behind P [] e = each_take P 0 [] tt
each_behind P (x ∷ xs) e = subst (Each P) (sym (behind_first x xs)) e.1

pub each_from : {A : Type 0} (P : A → Type 0) (n : ℕ) (xs : List A) → Each P xs → Each P (drop n xs)
each_from P n xs e = each_right P (take n xs) (drop n xs) (subst (Each P) (sym (take-append-drop n xs)) e)

-- premises and equations of which there are none
pub premises_decide_none : (b : Bool) (rows : List Application) (taken : List Pair) (premises : List (Term × Term)) (f : Premise → Sides) →
    length premises < 1 → b ≡ (length taken == 0) →
    (IsTrue b → stack_of rows taken ≡ map f (map premise_of premises)) × (stack_of rows taken ≡ map f (map premise_of premises) → IsTrue b)
premises_decide_none b rows taken [] f h e = (
  λ t. ap (stack_of rows) (nothing taken (none_length b (length taken) e t)),
  λ k. e ∙ eq-eqb (length taken) 0 (stack_length rows taken [] k),
)
premises_decide_none b rows taken (p ∷ premises) f h e = absurd (omega (arith, h))

pub premises_lack : (rows : List Application) (taken : List Pair) (premises : List (Term × Term)) (f : Premise → Sides) → length taken < 1 →
    1 ≤ length premises →
    (IsTrue false → stack_of rows taken ≡ map f (map premise_of premises)) ×
    (stack_of rows taken ≡ map f (map premise_of premises) → IsTrue false)
premises_lack rows taken premises f h k = (
  λ t. let n : false ≡ true = t in absurd (cc),
  λ e. let a = stack_length rows taken (map f (map premise_of premises)) e in
      let b = length-map (map premise_of premises) f in
      let c = length-map premises premise_of in
      absurd (omega (arith, a, b, c, h, k)),
)

pub premises_fit_on : (theory : Theory) (old new : List Application) → IsLonger old new → (xs is : List ℕ) (ps : List (Term × Term)) →
    Each (IsRow old) is → Each (premise_fits_at theory old xs is) ps → Each (premise_fits_at theory new xs is) ps
premises_fit_on theory old new g xs is [] rows h = tt
premises_fit_on theory old new g xs is (p ∷ ps) rows h = (
  (
    subst (FitsGround theory) (sym (instance_stays old new g xs is p.0 rows)) h.0.0,
    subst (FitsGround theory) (sym (instance_stays old new g xs is p.1 rows)) h.0.1,
  ),
  premises_fit_on theory old new g xs is ps rows h.1,
)

pub side_fits : (theory : Theory) (e : ConditionalEquation) (old new : List Application) (xs is : List ℕ) (t : Term) →
    xs ≡ variables_of e.left → IsLonger old new → Each (IsRow old) is →
    FitsGround theory (instance (bound_by (variables_of e.left) (map (tree_at old) is)) (term_of t)) →
    FitsGround theory (instance_at new xs is t)
side_fits theory e old new xs is t same g rows h =
    subst (FitsGround theory) (sym (instance_stays old new g xs is t rows))
    (subst (λ ys. FitsGround theory (instance (bound_by ys (map (tree_at old) is)) (term_of t))) (sym same) h)

pub one_left : (rows : List Application) (stack : List Pair) (p : Pair) (left right : List ℕ) → stack ≡ p ∷ [] →
    left ≡ preorder (tree_at rows p.left) → right ≡ preorder (tree_at rows p.right) → IsOneLeft (stack_of rows stack) left right
one_left rows stack p left right e a b = (tree_at rows p.left, tree_at rows p.right, ap (stack_of rows) e, a, b)

-- what is known of lists is known of those that they are equal to
pub sorts_moved : (theory : Theory) (rows : List Application) (found given : List ℕ) (has sorts : List Sort) → found ≡ given → has ≡ sorts →
    HaveSorts theory no_variables (terms (map (tree_at rows) found)) (map sort_number has) →
    HaveSorts theory no_variables (terms (map (tree_at rows) given)) (map sort_number sorts)
sorts_moved theory rows found given has sorts a b h =
    subst (λ is. HaveSorts theory no_variables (terms (map (tree_at rows) is)) (map sort_number sorts)) a
    (subst (λ ss. HaveSorts theory no_variables (terms (map (tree_at rows) found)) (map sort_number ss)) b h)

pub variables_moved : (theory : Theory) (has sorts : List Sort) (found xs : List ℕ) (ts : List TermTree) → has ≡ sorts → found ≡ xs →
    FitVariables theory (map sort_number has) found ts → FitVariables theory (map sort_number sorts) xs ts
variables_moved theory has sorts found xs ts a b h =
    subst (λ ys. FitVariables theory (map sort_number sorts) ys ts) b
    (subst (λ ss. FitVariables theory (map sort_number ss) found ts) a h)
