-- What stacks of terms spell.
use Rattle.std.proofs.Common.{ℕ, zero, suc, ◌≡◌, ◌≤◌, ◌<◌, ◌+◌, List, [], ◌∷◌, ◌++◌, Option, Some, None, IfNone, length, map, reverse}
use Rattle.std.proofs.Common.{drop, get_or, refl}
use Rattle.std.proofs.Common.{sym, ap, subst, ◌∙◌, arith, append_assoc, ◌-◌}
use Rattle.std.proofs.lemmas.List.{append-nil, length-append, length-reverse, reverse-append, drop-map}
use Rattle.std.proofs.Math.Seq.{drop-cons}
use Rattle.std.specs.List.{slice_get}
use Rattle.spec_core.specs.declared.term.Term.{Term}
use Rattle.spec_core.specs.Constructors.{IsConstructor, IsConstructed, AreConstructed}
use Rattle.spec_core.specs.Lists.{Each}
use Rattle.spec_core.specs.Sorts.{OnSome, HasSort, HaveSorts, no_variables}
use Rattle.spec_core.specs.Terms.{TermTree, TermTrees, variable, apply, no_terms, and_term, terms, term_of, preorder, preorders, width}
use Rattle.spec_core.specs.Theories.{Operation, Theory}
use Rattle.data_laws.proofs.Fit.{on_use}
use Rattle.value_terms.specs.Spelled.{SpellsTerm}
use Rattle.spec_core.specs.declared.items.Op.{Op}
use Rattle.spec_core.specs.Numbers.{op_number}
use Rattle.spec_core.proofs.Lists.{each_append, each_left, each_right}
use Rattle.value_terms.specs.Stacks.{HasArguments, HaveArguments, stacked, IsRead}
use Rattle.value_terms.proofs.Enough.{due, IsEnough, one_more_symbol, one_term, sorted_arguments}

-- one more argument is taken from the top
pub one_more : (whole before after args more : List Term) (t : Term) →
    whole ≡ before ++ reverse args → before ≡ after ++ t ∷ [] → more ≡ args ++ t ∷ [] → whole ≡ after ++ reverse more
one_more whole before after args more t is popped pushed =
    is
    ∙ ap (λ (l : List Term). l ++ reverse args) popped
    ∙ append_assoc after (t ∷ []) (reverse args)
    ∙ ap (λ (l : List Term). after ++ l) (sym (ap reverse pushed ∙ reverse-append args (t ∷ [])))

-- the stack that gave so many is used up
pub used_up : (whole before args : List Term) (n : ℕ) → whole ≡ before ++ reverse args → before ≡ [] → length args ≡ n → length whole ≡ n
used_up whole before args n is none counted =
    ap length (is ∙ ap (λ (l : List Term). l ++ reverse args) none) ∙ length-reverse args ∙ counted

stacked_joined : (ts us : List Term) → stacked (ts ++ us) ≡ stacked us ++ stacked ts
stacked_joined [] us = sym (append-nil (stacked us))
stacked_joined (t ∷ ts) us =
    ap (λ (l : List ℕ). l ++ preorder (term_of t)) (stacked_joined ts us) ∙ append_assoc (stacked us) (stacked ts) (preorder (term_of t))

preorders_of_reverse : (args : List Term) → stacked (reverse args) ≡ preorders (terms (map term_of args))
preorders_of_reverse [] = refl
preorders_of_reverse (t ∷ args) =
    ap stacked (reverse-append (t ∷ []) args)
    ∙ stacked_joined (reverse args) (t ∷ [])
    ∙ ap (λ (l : List ℕ). preorder (term_of t) ++ l) (preorders_of_reverse args)

width_of : (args : List Term) → width (terms (map term_of args)) ≡ length args
width_of [] = refl
width_of (t ∷ args) = ap suc (width_of args)

with_count : (o : Option Operation) (n m : ℕ) → OnSome o (λ d. length d.args ≡ n) → n ≡ m → OnSome o (λ d. length d.args ≡ m)
with_count None n m h e = absurd h
with_count (Some d) n m h e = h ∙ e

pub none_there : (o : Option Operation) (m : ℕ) → o ≡ None → OnSome o (λ d. length d.args ≤ m) → ⊥
none_there None m e k = k
none_there (Some d) m e k = cc

pub few_there : (o : Option Operation) (n m : ℕ) → OnSome o (λ d. length d.args ≡ n) → m < n → OnSome o (λ d. length d.args ≤ m) → ⊥
few_there None n m h w k = k
few_there (Some d) n m h w k = omega (arith, h, w, k)

-- the next operation from the back of a list
pub next_from_back : (ops : List Op) (i : ℕ) → i < length ops →
    map op_number (drop (length ops - (i + 1)) ops) ≡
    (get_or ops (length ops - 1 - i) (record { 0 = 0 })).0 ∷ map op_number (drop (length ops - i) ops)
next_from_back ops i within =
    let here : length ops - (i + 1) ≡ length ops - 1 - i = omega arith in
    let behind : suc (length ops - 1 - i) ≡ length ops - i = omega arith in
    ap (λ (k : ℕ). map op_number (drop k ops)) here
    ∙ ap (map op_number) (drop-cons ops (length ops - 1 - i) (record { 0 = 0 }) (omega arith))
    ∙ ap (λ (k : ℕ). (get_or ops (length ops - 1 - i) (record { 0 = 0 })).0 ∷ map op_number (drop k ops)) behind

pub all_from_back : (ops : List Op) (i : ℕ) → length ops ≤ i → map op_number (drop (length ops - i) ops) ≡ map op_number ops
all_from_back ops i over =
    let none : length ops - i ≡ 0 = omega arith in
    ap (λ (k : ℕ). map op_number (drop k ops)) none

-- what holds of each operation of a list holds of one of them
pub each_get : (P : ℕ → Type 0) (ops : List Op) (i : ℕ) (d : Op) → i < length ops → Each P (map op_number ops) → P (get_or ops i d).0
each_get P [] i d within h = absurd (omega arith)
each_get P (x ∷ xs) zero d within h = h.0
each_get P (x ∷ xs) (suc i) d within h = each_get P xs i d (omega arith) h.1

module _ (theory : Theory) where
  reversed_arguments : (args : List Term) → Each (λ t. HasArguments theory (term_of t)) (reverse args) →
      HaveArguments theory (terms (map term_of args))
  reversed_arguments [] h = tt
  reversed_arguments (t ∷ args) h =
      let k = subst (Each (λ t. HasArguments theory (term_of t))) (reverse-append (t ∷ []) args) h in (
        (each_right (λ t. HasArguments theory (term_of t)) (reverse args) (t ∷ []) k).0,
        reversed_arguments args (each_left (λ t. HasArguments theory (term_of t)) (reverse args) (t ∷ []) k),
      )

  -- the operation over the arguments taken is put on top
  pub put_on_top : (old left new args : List Term) (t : Term) (f n : ℕ) (w : List ℕ) →
      OnSome (slice_get theory.operations f) (λ d. length d.args ≡ n) → old ≡ left ++ reverse args → length args ≡ n →
      new ≡ left ++ t ∷ [] → term_of t ≡ apply f (terms (map term_of args)) → IsRead theory old w → IsRead theory new (f ∷ w)
  put_on_top old left new args t f n w declared taken counted pushed is read =
      let all = subst (Each (λ t. HasArguments theory (term_of t))) taken read.arguments in
      record {
        spelled =
            ap stacked pushed
            ∙ stacked_joined left (t ∷ [])
            ∙ ap (λ (u : TermTree). preorder u ++ stacked left) is
            ∙ ap (λ (l : List ℕ). f ∷ (l ++ stacked left)) (sym (preorders_of_reverse args))
            ∙ ap (λ (l : List ℕ). f ∷ l) (sym (stacked_joined left (reverse args)) ∙ ap stacked (sym taken) ∙ read.spelled);
        arguments =
            subst (Each (λ t. HasArguments theory (term_of t))) (sym pushed)
            (each_append (λ t. HasArguments theory (term_of t)) left (t ∷ [])
            (each_left (λ t. HasArguments theory (term_of t)) left (reverse args) all) (
              subst (HasArguments theory) (sym is) (
                with_count (slice_get theory.operations f) n (width (terms (map term_of args))) declared (sym counted ∙ sym (width_of
                    args)),
                reversed_arguments args (each_right (λ t. HasArguments theory (term_of t)) left (reverse args) all),
              ),
              tt,
            ));
      }

  due_joined : (v w : List ℕ) → due theory (v ++ w) ≡ due theory v + due theory w
  due_joined [] w = omega arith
  due_joined (f ∷ v) w = let k = due_joined v w in omega (arith, k)

  symbols_of : (ts : List Term) → Each (λ t. HasArguments theory (term_of t)) ts →
      length (stacked ts) ≡ length ts + due theory (stacked ts)
  symbols_of [] h = refl
  symbols_of (t ∷ ts) h =
      let k = one_more_symbol theory (term_of t) h.0 in
      let l = symbols_of ts h.1 in
      let m = length-append (stacked ts) (preorder (term_of t)) in
      let d = due_joined (stacked ts) (preorder (term_of t)) in
      omega (arith, k, l, m, d)

  -- how many terms a stack has
  terms_there : (stack : List Term) (w : List ℕ) → IsRead theory stack w → length w ≡ length stack + due theory w
  terms_there stack w read =
      subst (λ (l : List ℕ). length l ≡ length stack + due theory l) read.spelled (symbols_of stack read.arguments)

  enough_there : (o : Option Operation) (k m n : ℕ) → OnSome o (λ d. length d.args + k ≤ m) → m ≡ n + k → OnSome o (λ d. length d.args ≤ n)
  enough_there None k m n h e = absurd h
  enough_there (Some d) k m n h e = omega (arith, h, e)

  -- behind the operation there are enough terms for it
  pub never_few : (stack : List Term) (w : List ℕ) (f : ℕ) → IsRead theory stack w → IsEnough theory (f ∷ w) →
      OnSome (slice_get theory.operations f) (λ d. length d.args ≤ length stack)
  never_few stack w f read enough =
      enough_there (slice_get theory.operations f) (due theory w) (length w) (length stack) enough.0 (terms_there stack w read)

  enough_dropped : (k : ℕ) (w : List ℕ) → IsEnough theory w → IsEnough theory (drop k w)
  enough_dropped zero w h = h
  enough_dropped (suc k) [] h = tt
  enough_dropped (suc k) (f ∷ w) h = enough_dropped k w h.1

  -- behind the next operation from the back too
  pub enough_from_back : (ops : List Op) (i : ℕ) → i < length ops → IsEnough theory (map op_number ops) →
      IsEnough theory ((get_or ops (length ops - 1 - i) (record { 0 = 0 })).0 ∷ map op_number (drop (length ops - i) ops))
  enough_from_back ops i within h =
      subst (IsEnough theory) (drop-map op_number (length ops - (i + 1)) ops ∙ next_from_back ops i within)
      (enough_dropped (length ops - (i + 1)) (map op_number ops) h)

  -- a term's operations leave one term on the stack
  pub one_left : (stack : List Term) (w : List ℕ) (t : TermTree) → IsRead theory stack w → HasArguments theory t → w ≡ preorder t →
      length stack ≡ 1
  one_left stack w t read h is =
      let k = one_more_symbol theory t h in
      let l = subst (λ (v : List ℕ). length v ≡ length stack + due theory v) is (terms_there stack w read) in
      omega (arith, k, l)

  pub none_read : (o : Option Term) (stack : List Term) (w : List ℕ) → IsRead theory stack w → IfNone o (length stack ≡ 1 → ⊥) →
      IfNone o ((t : TermTree) → HasArguments theory t → w ≡ preorder t → ⊥)
  none_read None stack w read other = λ t h is. other (one_left stack w t read h is)
  none_read (Some u) stack w read other = tt

  -- what the only term of a stack spells
  pub only_term : (stack : List Term) (w : List ℕ) (t : Term) → IsRead theory stack w → stack ≡ t ∷ [] →
      (w ≡ preorder (term_of t)) × HasArguments theory (term_of t)
  only_term stack w t read is = (
    sym read.spelled ∙ ap stacked is,
    (subst (Each (λ t. HasArguments theory (term_of t))) is read.arguments).0,
  )

  mutual
    constructed : (t : TermTree) (sort : ℕ) → HasSort theory no_variables t sort → Each (IsConstructor theory) (preorder t) →
        IsConstructed theory t
    constructed (variable x) sort fits h = let n : ⊥ = cc in absurd n
    constructed (apply f ts) sort fits h =
        on_use (slice_get theory.operations f) fits (λ d p. (h.0, all_constructed ts d.args p.1 h.1))

    all_constructed : (ts : TermTrees) (sorts : List ℕ) → HaveSorts theory no_variables ts sorts → Each (IsConstructor theory) (preorders
        ts) →
        AreConstructed theory ts
    all_constructed no_terms sorts fits h = tt
    all_constructed (and_term t ts) [] fits h = absurd fits
    all_constructed (and_term t ts) (c ∷ sorts) fits h = (
      constructed t c fits.0 (each_left (IsConstructor theory) (preorder t) (preorders ts) h),
      all_constructed ts sorts fits.1 (each_right (IsConstructor theory) (preorder t) (preorders ts) h),
    )

  mutual
    of_constructors : (t : TermTree) → IsConstructed theory t → Each (IsConstructor theory) (preorder t)
    of_constructors (variable x) h = absurd h
    of_constructors (apply f ts) h = (h.0, all_of_constructors ts h.1)

    all_of_constructors : (ts : TermTrees) → AreConstructed theory ts → Each (IsConstructor theory) (preorders ts)
    all_of_constructors no_terms h = tt
    all_of_constructors (and_term t ts) h =
        each_append (IsConstructor theory) (preorder t) (preorders ts) (of_constructors t h.0) (all_of_constructors ts h.1)

  -- a list of constructors that spells a term of the sort spells a ground constructor term
  pub spells_constructed : (v : List ℕ) (t : TermTree) (sort : ℕ) → SpellsTerm theory v t sort → Each (IsConstructor theory) v →
      IsConstructed theory t
  spells_constructed v t sort h all = constructed t sort h.of_sort (subst (Each (IsConstructor theory)) h.spelled all)

  -- and what spells one is a list of constructors
  pub constructed_spelled : (v : List ℕ) (t : TermTree) (sort : ℕ) → SpellsTerm theory v t sort → IsConstructed theory t →
      Each (IsConstructor theory) v
  constructed_spelled v t sort h c = subst (Each (IsConstructor theory)) (sym h.spelled) (of_constructors t c)

  -- a term with the operations of a term of the sort is that term
  pub term_sort : (v : List ℕ) (t u : TermTree) (sort : ℕ) → SpellsTerm theory v t sort → v ≡ preorder u → HasArguments theory u →
      HasSort theory no_variables u sort
  term_sort v t u sort h is arguments =
      subst (λ (w : TermTree). HasSort theory no_variables w sort)
      (one_term theory t u (sorted_arguments theory t sort h.of_sort) arguments (sym h.spelled ∙ is)) h.of_sort
