-- Rules and chosen values of trees with blanks.
use Rattle.std.proofs.Common.{ℕ, zero, suc, ◌≡◌, ◌+◌, ◌*◌, ◌<◌, ◌∙◌, List, ◌++◌, length, refl, sym, ap, subst, append_assoc}
use Rattle.std.proofs.Common.{length-append, arith, Option, Some, None, IfSome, IfNone, Result, Ok, Err, IfOk}
use Rattle.std.specs.Fn.{iterate}
use Rattle.rule_model.specs.Derivations.{Derivation}
use Rattle.symbolic_plans.specs.declared.scheme.Row.{Row}
use Rattle.symbolic_plans.specs.declared.scheme.Row.TheVariants.{Chl, Chr, Val, Gate, Guard, Let, Parl, Parr, Pass, Enstep, Disstep}
use Rattle.symbolic_plans.specs.declared.scheme.Row.TheVariants.{Disend, Distake, Call, Rel}
use Rattle.symbolic_plans.specs.Plans.{Plan, below, put_row}
use Rattle.symbolic_plans.proofs.Runs.{iterate_through}
use Rattle.node_trees.specs.Rests.{rows_of, slots_of}
use Rattle.node_trees.specs.Blanks.{blank_tree, own_rows, chosen_by}

-- a rule over a tree comes first
pub rows_first : (row : Row) (e : Derivation) → rows_of (put_row row e) ≡ own_rows row ++ rows_of e
rows_first Chl e = refl
rows_first Chr e = refl
rows_first (Val slot) e = refl
rows_first (Gate j) e = refl
rows_first Guard e = refl
rows_first Let e = refl
rows_first Parl e = refl
rows_first Parr e = refl
rows_first Pass e = refl
rows_first Enstep e = refl
rows_first Disstep e = refl
rows_first Disend e = refl
rows_first Distake e = refl
rows_first Call e = refl
rows_first Rel e = refl

-- what a rule over a tree chooses comes first
pub slots_first : (row : Row) (e : Derivation) → slots_of (put_row row e) ≡ chosen_by row ++ slots_of e
slots_first Chl e = refl
slots_first Chr e = refl
slots_first (Val slot) e = refl
slots_first (Gate j) e = refl
slots_first Guard e = refl
slots_first Let e = refl
slots_first Parl e = refl
slots_first Parr e = refl
slots_first Pass e = refl
slots_first Enstep e = refl
slots_first Disstep e = refl
slots_first Disend e = refl
slots_first Distake e = refl
slots_first Call e = refl
slots_first Rel e = refl

-- the tree of a run of one rule
run_tree : (row : Row) (more : ℕ) (p plan : Plan) → plan ≡ below row (iterate (below row) more p) →
    blank_tree plan ≡ put_row row (iterate (put_row row) more (blank_tree p))
run_tree row more p plan is =
    ap blank_tree is ∙ ap (put_row row) (iterate_through (below row) (put_row row) blank_tree (λ q. refl) more p)

-- a list of a tree, in which what the rule itself has comes first
module _ {A : Type 0} (row : Row) (list : Derivation → List A) (own : List A)
    (first : (e : Derivation) → list (put_row row e) ≡ own ++ list e) where
  pub whole_run : {R E : Type 0} (more : ℕ) (p plan : Plan) → plan ≡ below row (iterate (below row) more p) →
      (before one run all : List A) (r : Result R E) → one ≡ before ++ own →
      ((d : Derivation) → run ++ list d ≡ one ++ list (iterate (put_row row) more d)) →
      IfOk r (λ x. all ≡ run ++ list (blank_tree p)) → IfOk r (λ x. all ≡ before ++ list (blank_tree plan))
  whole_run more p plan is before one run all (Err x) a b c = tt
  whole_run more p plan is before one run all (Ok x) a b c =
      let d = iterate (put_row row) more (blank_tree p) in
      c
      ∙ b (blank_tree p)
      ∙ ap (λ l. l ++ list d) a
      ∙ append_assoc before own (list d)
      ∙ ap (λ l. before ++ l) (sym (first d) ∙ ap list (sym (run_tree row more p plan is)))

-- what is counted of a run, where each of its rules counts so much
pub counted_run : {A : Type 0} (f : A → A) (count : A → ℕ) (own : ℕ) → ((x : A) → count (f x) ≡ own + count x) → (more : ℕ) (x : A) →
    count (f (iterate f more x)) ≡ suc more * own + count x
counted_run {A} f count own each more x = each (iterate f more x) ∙ ap (λ k. own + k) (so_often more x) ∙ first more (count x)
  where
    none : (k : ℕ) → k ≡ 0 * own + k
    none k = grind arith

    once : (n k : ℕ) → n * own + (own + k) ≡ suc n * own + k
    once n k = grind arith

    so_often : (n : ℕ) (y : A) → count (iterate f n y) ≡ n * own + count y
    so_often zero y = none (count y)
    so_often (suc n) y = so_often n (f y) ∙ ap (λ k. n * own + k) (each y) ∙ once n (count y)

    first : (n k : ℕ) → own + (n * own + k) ≡ suc n * own + k
    first n k = grind arith

-- how many rows are left behind a run, and behind what is below it
module _ (row : Row) (more : ℕ) (p plan : Plan) (is : plan ≡ below row (iterate (below row) more p)) where
  run_rows : length (rows_of (blank_tree plan)) ≡ suc more * length (own_rows row) + length (rows_of (blank_tree p))
  run_rows =
      ap (λ d. length (rows_of d)) (run_tree row more p plan is)
      ∙ counted_run (put_row row) (λ e. length (rows_of e)) (length (own_rows row))
      (λ e. ap (λ (l : List ℕ). length l) (rows_first row e) ∙ length-append (own_rows row) (rows_of e)) more (blank_tree p)

  pub too_few_for_run : (count : ℕ) → count < suc more * length (own_rows row) → count < length (rows_of (blank_tree plan))
  too_few_for_run count h = subst (λ n. count < n) (sym run_rows) (fewer _ _ h)
    where
      fewer : (run others : ℕ) → count < run → count < run + others
      fewer run others h = omega (arith, h)

  pub too_few_below : (count rest : ℕ) (r : Option ℕ) → count ≡ suc more * length (own_rows row) + rest →
      IfNone r (rest < length (rows_of (blank_tree p))) → IfNone r (count < length (rows_of (blank_tree plan)))
  too_few_below count rest None e h = subst (λ n. count < n) (sym run_rows) (fewer _ _ e h)
    where
      fewer : (run others : ℕ) → count ≡ run + rest → rest < others → count < run + others
      fewer run others e h = omega (arith, e, h)
  too_few_below count rest (Some n) e h = tt

  pub left_below : (count rest : ℕ) (r : Option ℕ) → count ≡ suc more * length (own_rows row) + rest →
      IfSome r (λ n. rest ≡ length (rows_of (blank_tree p)) + n) → IfSome r (λ n. count ≡ length (rows_of (blank_tree plan)) + n)
  left_below count rest None e h = tt
  left_below count rest (Some n) e h = subst (λ k. count ≡ k + n) (sym run_rows) (behind _ _ e h)
    where
      behind : (run others : ℕ) → count ≡ run + rest → rest ≡ others + n → count ≡ run + others + n
      behind run others e h = omega (arith, e, h)
