-- Texts of values, operation by operation.
use Rattle.std.proofs.Common.{ℕ, zero, suc, ◌≡◌, ◌<◌, ◌≤◌, ◌-◌, ◌==◌, Bool, true, false, if◌then◌else◌, List, [], ◌∷◌, ◌++◌, length, drop}
use Rattle.std.proofs.Common.{Option, Some, None, refl, ap, sym, ◌∙◌, arith, append_assoc, add-one, ◌+◌, reverse}
use Rattle.std.specs.Bool.{Decides}
use Rattle.std.proofs.lemmas.Bool.Decides.{Decides-eqb}
use Rattle.std.proofs.lemmas.List.{append-nil, reverse-append}
use Rattle.spec_core.specs.Terms.{TermTree, TermTrees, width}
use Rattle.spec_core.specs.TermText.{opening, separator, closing, joined, between_at, sort_text, gap_before, first_gap, term_texts}
use Rattle.spec_core.specs.TermText.{application_text}
use Rattle.spec_core.specs.Theories.{Operation, Theory}
use Rattle.value_text.proofs.Lists.{drop_behind}
use Rattle.value_text.specs.Values.{declared_width, first_terms, first_text, terms_in}
use Rattle.value_text.specs.Unfinished.{joined_from, first_name, opening_text, rest_of, rest_text, first_rest}
use Rattle.value_text.specs.declared.value.Frame.{Frame}
use Rattle.std.specs.List.{slice_get}

-- the blank before the first argument
pub no_gap : (operations : List Operation) (n : ℕ) (ts : List TermTree) → n ≡ 0 → first_gap operations [] (first_terms n ts) ≡ []
no_gap operations zero ts e = refl
no_gap operations (suc n) ts e = absurd (omega (arith, e))

pub gap : (operations : List Operation) (n : ℕ) (fs : List ℕ) → 0 < n →
    first_gap operations [] (first_terms n (terms_in operations fs)) ≡ gap_before (first_name operations fs)
gap operations zero fs h = absurd (omega arith)
gap operations (suc n) [] h = refl
gap operations (suc n) (f ∷ fs) h = refl

-- what stands before the arguments of a declared operation, and of one that isn't declared
pub opened_at : (theory : Theory) (o : Option Operation) (d : Operation) (n : ℕ) (ts : List TermTree) (out named gapped : List ℕ) →
    o ≡ Some d → n ≡ length d.args → named ≡ out ++ opening d.name n →
    gapped ≡ named ++ first_gap theory.operations [] (first_terms n ts) → gapped ≡ out ++ opening_text theory o ts
opened_at theory o d n ts out named gapped at same a b =
    b
    ∙ ap (λ l. l ++ first_gap theory.operations [] (first_terms n ts)) a
    ∙ append_assoc out (opening d.name n) (first_gap theory.operations [] (first_terms n ts))
    ∙ ap (λ m. out ++ (opening d.name m ++ first_gap theory.operations [] (first_terms m ts))) same
    ∙ ap (λ x. out ++ opening_text theory x ts) (sym at)

pub not_opened : (theory : Theory) (o : Option Operation) (ts : List TermTree) (out : List ℕ) → o ≡ None → out ≡ out ++ opening_text theory o ts
not_opened theory o ts out at = sym (append-nil out) ∙ ap (λ x. out ++ opening_text theory x ts) (sym at)

between_later : (between : List ℕ) (i : ℕ) → between_at between (suc i) ≡ between
between_later between i = go (suc i == 0) (Decides-eqb (suc i) 0)
  where
    go : (b : Bool) → Decides b (suc i ≡ 0) → (if b then [] else between) ≡ between
    go true d = absurd (let e = d.0 refl in omega (arith, e))
    go false d = refl

joined_later : (between : List ℕ) (i : ℕ) (x : List ℕ) (xs : List (List ℕ)) → joined between (x ∷ xs) ≡ x ++ joined_from between (suc i) xs
joined_later between i x [] = sym (append-nil x)
joined_later between i x (y ∷ xs) =
    ap (λ l. x ++ (between ++ l)) (joined_later between (suc i) y xs)
    ∙ ap (λ b. x ++ (b ++ (y ++ joined_from between (suc (suc i)) xs))) (sym (between_later between i))

-- texts with a separator between two of them, one after another
pub joined_so : (between : List ℕ) (xs : List (List ℕ)) → joined between xs ≡ joined_from between 0 xs
joined_so between [] = refl
joined_so between (x ∷ xs) = joined_later between 0 x xs

wide : (n : ℕ) (ts : List TermTree) → width (first_terms n ts) ≡ n
wide zero ts = refl
wide (suc n) [] = ap suc (wide n [])
wide (suc n) (t ∷ ts) = ap suc (wide n ts)

module _ (theory : Theory) where
  abbrev texts : TermTrees → List (List ℕ)
  texts = term_texts theory.sorts theory.operations []

  abbrev last : Operation → List ℕ
  last d = closing (length d.args) ++ sort_text theory.sorts theory.operations d

  regroup : (o g j c s : List ℕ) → o ++ g ++ j ++ c ++ s ≡ (o ++ g) ++ (j ++ (c ++ s))
  regroup o g j c s = simp append_assoc

  -- the text of an operation over the terms that follow
  pub whole_text : (o : Option Operation) (ts : List TermTree) →
      application_text theory.sorts theory.operations (width (first_terms (declared_width o) ts))
      (first_gap theory.operations [] (first_terms (declared_width o) ts)) (texts (first_terms (declared_width o) ts)) o
      ≡ opening_text theory o ts ++ rest_of theory o 0 ts
  whole_text None ts = refl
  whole_text (Some d) ts =
      let n : ℕ = length d.args in
      let gap : List ℕ = first_gap theory.operations [] (first_terms n ts) in
      ap (λ m. application_text theory.sorts theory.operations m gap (texts (first_terms n ts)) (Some d)) (wide n ts)
      ∙ ap (λ l. opening d.name n ++ gap ++ l ++ closing n ++ sort_text theory.sorts theory.operations d)
      (joined_so (separator d.name n) (texts (first_terms n ts)))
      ∙ regroup (opening d.name n) gap (joined_from (separator d.name n) 0 (texts (first_terms n ts))) (closing n)
      (sort_text theory.sorts theory.operations d)
      ∙ ap (λ m. (opening d.name n ++ gap) ++ (joined_from (separator d.name n) 0 (texts (first_terms m ts)) ++ last d))
      (let e : n ≡ n - 0 = omega arith in e)

  one_first : (n : ℕ) (ts : List TermTree) → texts (first_terms (suc n) ts) ≡ first_text theory ts ∷ texts (first_terms n (drop 1 ts))
  one_first n [] = refl
  one_first n (t ∷ ts) = refl

  regroup_more : (b t j l : List ℕ) → (b ++ (t ++ j)) ++ l ≡ b ++ (t ++ (j ++ l))
  regroup_more b t j l = simp append_assoc

  -- one argument more, and the end of the arguments
  pub one_more : (o : Option Operation) (d : Operation) (begun : ℕ) (ts : List TermTree) → o ≡ Some d → begun < length d.args →
      rest_of theory o begun ts
      ≡ between_at (separator d.name (length d.args)) begun ++ (first_text theory ts ++ rest_of theory o (begun + 1) (drop 1 ts))
  one_more o d begun ts at within =
      let n : ℕ = length d.args in
      let left : ℕ = n - (begun + 1) in
      let between : List ℕ = separator d.name n in
      let e : n - begun ≡ suc left = omega arith in
      ap (λ x. rest_of theory x begun ts) at
      ∙ ap (λ m. joined_from between begun (texts (first_terms m ts)) ++ last d) e
      ∙ ap (λ l. joined_from between begun l ++ last d) (one_first left ts)
      ∙ ap (λ k. (between_at between begun ++ (first_text theory ts ++ joined_from between k (texts (first_terms left (drop 1 ts))))) ++ last d)
      (sym (add-one begun))
      ∙ regroup_more (between_at between begun) (first_text theory ts)
      (joined_from between (begun + 1) (texts (first_terms left (drop 1 ts)))) (last d)
      ∙ ap (λ x. between_at between begun ++ (first_text theory ts ++ rest_of theory x (begun + 1) (drop 1 ts))) (sym at)

  pub no_more : (o : Option Operation) (d : Operation) (begun : ℕ) (ts : List TermTree) → o ≡ Some d → length d.args ≤ begun →
      rest_of theory o begun ts ≡ closing (length d.args) ++ sort_text theory.sorts theory.operations d
  no_more o d begun ts at beyond =
      ap (λ x. rest_of theory x begun ts) at
      ∙ ap (λ n.
      joined_from (separator d.name (length d.args)) begun (texts (first_terms n ts)) ++
      (closing (length d.args) ++ sort_text theory.sorts theory.operations d)) (let e : length d.args - begun ≡ 0 = omega arith in e)

  -- an operation whose arguments follow
  pub head_put : (frame : Frame) (frames new : List Frame) (fs : List ℕ) (out opened : List ℕ) →
      frame.begun ≡ 0 → new ≡ frames ++ frame ∷ [] →
      opened ≡ out ++ opening_text theory (slice_get theory.operations frame.op.0) (terms_in theory.operations fs) →
      opened ++ rest_text theory (reverse new) (terms_in theory.operations fs)
      ≡ out ++ first_rest theory (reverse frames) (terms_in theory.operations (frame.op.0 ∷ fs))
  head_put frame frames new fs out opened none pushed put =
      let o : Option Operation = slice_get theory.operations frame.op.0 in
      let ts : List TermTree = terms_in theory.operations fs in
      let behind : List ℕ → List ℕ = λ l. l ++ rest_text theory (reverse frames) (drop (declared_width o) ts) in
      ap (λ l. opened ++ rest_text theory l ts) (ap reverse pushed ∙ reverse-append frames (frame ∷ []))
      ∙ ap (λ k. opened ++ (rest_of theory o k ts ++ rest_text theory (reverse frames) (drop (declared_width o - k) ts))) none
      ∙ ap (λ m. opened ++ (rest_of theory o 0 ts ++ rest_text theory (reverse frames) (drop m ts)))
      (let e : declared_width o - 0 ≡ declared_width o = omega arith in e)
      ∙ ap (λ l. l ++ behind (rest_of theory o 0 ts)) put
      ∙ regroup_head out (opening_text theory o ts) (rest_of theory o 0 ts) (rest_text theory (reverse frames) (drop (declared_width o) ts))
      ∙ ap (λ l. out ++ behind l) (sym (whole_text o ts))
    where
      regroup_head : (o p r b : List ℕ) → (o ++ p) ++ (r ++ b) ≡ o ++ ((p ++ r) ++ b)
      regroup_head o p r b = simp append_assoc

  -- one argument more of an operation that is printed in part
  pub argument_put : (frame : Frame) (d : Operation) (n : ℕ) (frames new : List Frame) (ts : List TermTree) (out separated : List ℕ) →
      slice_get theory.operations frame.op.0 ≡ Some d → n ≡ length d.args → frame.begun < n →
      new ≡ frames ++ record { op = frame.op; begun = frame.begun + 1 } ∷ [] →
      separated ≡ out ++ between_at (separator d.name n) frame.begun →
      separated ++ first_rest theory (reverse new) ts ≡ out ++ rest_text theory (frame ∷ reverse frames) ts
  argument_put frame d n frames new ts out separated at same more pushed put =
      let o : Option Operation = slice_get theory.operations frame.op.0 in
      let next : Frame = record { op = frame.op; begun = frame.begun + 1 } in
      let w : declared_width o ≡ n = ap declared_width at ∙ sym same in
      let e : declared_width o - frame.begun ≡ suc (declared_width o - (frame.begun + 1)) = omega arith in
      let after : List ℕ = rest_text theory (reverse frames) (drop (declared_width o - (frame.begun + 1)) (drop 1 ts)) in
      ap (λ l. separated ++ first_rest theory l ts) (ap reverse pushed ∙ reverse-append frames (next ∷ []))
      ∙ ap (λ l. l ++ (first_text theory ts ++ (rest_of theory o (frame.begun + 1) (drop 1 ts) ++ after))) put
      ∙ ap (λ m. (out ++ between_at (separator d.name m) frame.begun) ++
      (first_text theory ts ++ (rest_of theory o (frame.begun + 1) (drop 1 ts) ++ after))) same
      ∙ regroup_argument out (between_at (separator d.name (length d.args)) frame.begun) (first_text theory ts)
      (rest_of theory o (frame.begun + 1) (drop 1 ts)) after
      ∙ ap (λ l. out ++ (l ++ after)) (sym (one_more o d frame.begun ts at (omega (arith, same, more))))
      ∙ ap (λ l. out ++ (rest_of theory o frame.begun ts ++ rest_text theory (reverse frames) l))
      (sym (ap (λ k. drop k ts) e ∙ drop_behind (declared_width o - (frame.begun + 1)) ts))
    where
      regroup_argument : (o b t r a : List ℕ) → (o ++ b) ++ (t ++ (r ++ a)) ≡ o ++ ((b ++ (t ++ r)) ++ a)
      regroup_argument o b t r a = simp append_assoc

  -- the end of an operation's arguments
  pub end_put : (frame : Frame) (d : Operation) (n : ℕ) (frames : List Frame) (ts : List TermTree) (out ended : List ℕ) →
      slice_get theory.operations frame.op.0 ≡ Some d → n ≡ length d.args → n ≤ frame.begun →
      ended ≡ out ++ (closing n ++ sort_text theory.sorts theory.operations d) →
      ended ++ rest_text theory frames ts ≡ out ++ rest_text theory (frame ∷ frames) ts
  end_put frame d n frames ts out ended at same beyond put =
      let o : Option Operation = slice_get theory.operations frame.op.0 in
      let w : declared_width o ≡ n = ap declared_width at ∙ sym same in
      let e : 0 ≡ declared_width o - frame.begun = omega arith in
      ap (λ l. l ++ rest_text theory frames ts) put
      ∙ ap (λ m. (out ++ (closing m ++ sort_text theory.sorts theory.operations d)) ++ rest_text theory frames ts) same
      ∙ append_assoc out (last d) (rest_text theory frames ts)
      ∙ ap (λ l. out ++ (l ++ rest_text theory frames ts)) (sym (no_more o d frame.begun ts at (omega (arith, same, beyond))))
      ∙ ap (λ k. out ++ (rest_of theory o frame.begun ts ++ rest_text theory frames (drop k ts))) e

  -- what isn't declared has nothing left to print
  pub nothing_put : (frame : Frame) (frames : List Frame) (ts : List TermTree) (out : List ℕ) →
      slice_get theory.operations frame.op.0 ≡ None →
      out ++ rest_text theory frames ts ≡ out ++ rest_text theory (frame ∷ frames) ts
  nothing_put frame frames ts out at =
      let o : Option Operation = slice_get theory.operations frame.op.0 in
      let w : declared_width o ≡ 0 = ap declared_width at in
      let e : 0 ≡ declared_width o - frame.begun = omega arith in
      ap (λ k. out ++ rest_text theory frames (drop k ts)) e
      ∙ ap (λ x. out ++ (rest_of theory x frame.begun ts ++ rest_text theory frames (drop (declared_width o - frame.begun) ts))) (sym at)
