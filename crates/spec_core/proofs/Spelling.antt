-- The pieces of a term's text.
use Rattle.std.proofs.Common.{ℕ, zero, suc, ◌≡◌, ◌<◌, ◌≤◌, ◌+◌, ◌-◌, ◌==◌, List, [], ◌∷◌, ◌++◌, length, map, take, drop, get_or, refl, ap}
use Rattle.std.proofs.Common.{sym, subst, ◌∙◌, arith, add-one, append_assoc, Bool, true, false, Option, Some, None, MatchOption}
use Rattle.std.proofs.Common.{if◌then◌else◌}
use Rattle.std.proofs.lemmas.List.{append-nil, length-append}
use Rattle.std.specs.Bool.{Decides}
use Rattle.std.specs.List.{slice_get}
use Rattle.std.specs.Str.{bytes_eq}
use Rattle.std.proofs.lemmas.Bool.Decides.{Decides-eqb}
use Rattle.std.proofs.lemmas.Slice.Eq.{bytes_eq-Decides}
use Rattle.spec_core.specs.declared.term.Term.{Term}
use Rattle.spec_core.specs.declared.signature.OpDecl.{OpDecl}
use Rattle.spec_core.specs.Terms.{TermTree, TermTrees, apply, terms, term_of, width}
use Rattle.spec_core.specs.TermText.{infix_word, opening, separator, closing, joined, between_at, sort_text, first_gap, application_text}
use Rattle.spec_core.specs.TermText.{term_text, term_texts}
use Rattle.spec_core.specs.Theories.{Operation, operation_of}

pub no_infix : (name : List ℕ) → ((word : List ℕ) → name ≡ 95 ∷ (word ++ 95 ∷ []) → ⊥) → infix_word name ≡ None
no_infix name none =
    go (bytes_eq name (95 ∷ (take (length name - 2) (drop 1 name) ++ 95 ∷ [])))
    (bytes_eq-Decides name (95 ∷ (take (length name - 2) (drop 1 name) ++ 95 ∷ [])))
  where
    go : (b : Bool) →
        Decides b (name ≡ 95 ∷ (take (length name - 2) (drop 1 name) ++ 95 ∷ [])) →
        (if b then Some (take (length name - 2) (drop 1 name)) else None) ≡ None
    go true d = absurd (none _ (d.0 refl))
    go false d = refl

front_taken : (w : List ℕ) (n : ℕ) → n ≡ length w → take n (w ++ 95 ∷ []) ≡ w
front_taken [] n e = subst (λ k. take {A = ℕ} k (95 ∷ []) ≡ []) (sym e) refl
front_taken (b ∷ w) n e = subst (λ k. take k (b ∷ (w ++ 95 ∷ [])) ≡ b ∷ w) (sym e) (ap (λ z. b ∷ z) (front_taken w (length w) refl))

pub one_infix : (name word : List ℕ) → name ≡ 95 ∷ (word ++ 95 ∷ []) → infix_word name ≡ Some word
one_infix name word e = subst (λ n. infix_word n ≡ Some word) (sym e)
    (go (take (length (95 ∷ (word ++ 95 ∷ [])) - 2) (word ++ 95 ∷ []))
    (bytes_eq (95 ∷ (word ++ 95 ∷ [])) (95 ∷ (take (length (95 ∷ (word ++ 95 ∷ [])) - 2) (word ++ 95 ∷ []) ++ 95 ∷ [])))
    (front_taken word (length (95 ∷ (word ++ 95 ∷ [])) - 2) (let n = length-append word (95 ∷ []) in omega (arith, n)))
    (bytes_eq-Decides (95 ∷ (word ++ 95 ∷ [])) (95 ∷ (take (length (95 ∷ (word ++ 95 ∷ [])) - 2) (word ++ 95 ∷ []) ++ 95 ∷ []))))
  where
    go : (w : List ℕ) (b : Bool) →
        w ≡ word → Decides b (95 ∷ (word ++ 95 ∷ []) ≡ 95 ∷ (w ++ 95 ∷ [])) → (if b then Some w else None) ≡ Some word
    go w true same d = ap Some same
    go w false same d = let no : false ≡ true = d.1 (ap (λ x. 95 ∷ (x ++ 95 ∷ [])) (sym same)) in cc

pub match_option_implied : {A : Type 0} {P P' : Type 0} {Q Q' : A → Type 0} (o : Option A) →
    (P → P') → ((x : A) → Q x → Q' x) → MatchOption o P Q → MatchOption o P' Q'
match_option_implied None f g h = f h
match_option_implied (Some x) f g h = g x h

pub width-terms : (xs : List Term) → length xs ≡ width (terms (map term_of xs))
width-terms [] = refl
width-terms (x ∷ xs) = ap suc (width-terms xs)

pub operation-at : (ops : List OpDecl) (i : ℕ) (d : OpDecl) →
    i < length ops → d ≡ get_or ops i d → slice_get (map operation_of ops) i ≡ Some (operation_of d)
operation-at [] i d within e = absurd (omega arith)
operation-at (x ∷ xs) zero d within e = ap (λ y. Some (operation_of y)) (sym e)
operation-at (x ∷ xs) (suc i) d within e = operation-at xs i d (omega arith) e

pub no-operation-at : (ops : List OpDecl) (i : ℕ) → length ops ≤ i → slice_get (map operation_of ops) i ≡ None
no-operation-at [] zero h = refl
no-operation-at [] (suc i) h = refl
no-operation-at (x ∷ xs) zero h = absurd (omega arith)
no-operation-at (x ∷ xs) (suc i) h = no-operation-at xs i (omega arith)

between_later : (between : List ℕ) (i : ℕ) → between_at between (suc i) ≡ between
between_later between i = go (suc i == 0) (Decides-eqb (suc i) 0)
  where
    go : (b : Bool) → Decides b (suc i ≡ 0) → (if b then [] else between) ≡ between
    go true d = absurd (let e = d.0 refl in omega (arith, e))
    go false d = refl

joined_next : (between : List ℕ) (f : Term → List ℕ) (ts : List Term) (i : ℕ) (d : Term) →
    i < length ts →
    joined between (map f (take (suc i) ts)) ≡ joined between (map f (take i ts)) ++ (between_at between i ++ f (get_or ts i d))
joined_next between f [] i d within = absurd (omega arith)
joined_next between f (t ∷ ts) zero d within = refl
joined_next between f (t ∷ []) (suc i) d within = absurd (omega arith)
joined_next between f (t ∷ u ∷ us) (suc zero) d within = refl
joined_next between f (t ∷ u ∷ us) (suc (suc i)) d within =
    let r = joined_next between f (u ∷ us) (suc i) d (omega arith) in
    ap (λ z. f t ++ (between ++ z)) r
    ∙ ap (λ b. f t ++ (between ++ (joined between (f u ∷ map f (take i us)) ++ (b ++ f (get_or us i d)))))
    (between_later between i ∙ sym (between_later between (suc i)))
    ∙ simp append_assoc

module _ (sorts : List (List ℕ)) (operations : List Operation) (names : List (List ℕ)) where
  abbrev text : Term → List ℕ
  text t = term_text sorts operations names (term_of t)

  texts-map : (xs : List Term) → term_texts sorts operations names (terms (map term_of xs)) ≡ map text xs
  texts-map [] = refl
  texts-map (x ∷ xs) = ap (λ ys. text x ∷ ys) (texts-map xs)

  pub argument_added : (between : List ℕ) (args items : List Term) (i : ℕ) (t : Term) (before start middle after : List ℕ) →
      items ≡ args → i < length items → t ≡ get_or items i t →
      before ≡ start ++ joined between (term_texts sorts operations names (terms (map term_of (take i args)))) →
      middle ≡ before ++ between_at between i → after ≡ middle ++ text t →
      after ≡ start ++ joined between (term_texts sorts operations names (terms (map term_of (take (i + 1) args))))
  argument_added between args items i t before start middle after same within at a b c =
      let w : i < length args = omega (arith, ap length same) in
      let e : t ≡ get_or args i t = at ∙ ap (λ zs. get_or zs i t) same in
      let r = joined_next between text args i t w in
      let m : joined between (term_texts sorts operations names (terms (map term_of (take (i + 1) args)))) ≡
      joined between (map text (take i args)) ++ (between_at between i ++ text t) =
      ap (joined between) (texts-map (take (i + 1) args))
      ∙ ap (λ k. joined between (map text (take k args))) (add-one i)
      ∙ r
      ∙ ap (λ u. joined between (map text (take i args)) ++ (between_at between i ++ text u)) (sym e) in
      let p : before ≡ start ++ joined between (map text (take i args)) =
      a ∙ ap (λ xs. start ++ joined between xs) (texts-map (take i args)) in
      c
      ∙ ap (λ o. o ++ text t) (b ∙ ap (λ o. o ++ between_at between i) p)
      ∙ regroup_added start (joined between (map text (take i args))) (between_at between i) (text t)
      ∙ ap (λ o. start ++ o) (sym m)
    where
      regroup_added : (o j b x : List ℕ) → ((o ++ j) ++ b) ++ x ≡ o ++ (j ++ (b ++ x))
      regroup_added o j b x = simp append_assoc

  pub spelled : (t : TermTree) (f : ℕ) (args : List Term) (d : Operation) (n : ℕ) (o0 o1 o2 o3 o4 : List ℕ) →
      t ≡ apply f (terms (map term_of args)) → slice_get operations f ≡ Some d → n ≡ length args →
      o1 ≡ o0 ++ (opening d.name n ++ first_gap operations names (terms (map term_of args))) →
      o2 ≡ o1 ++ joined (separator d.name n) (term_texts sorts operations names (terms (map term_of args))) → o3 ≡ o2 ++ closing n →
      o4 ≡ o3 ++ sort_text sorts operations d → o4 ≡ o0 ++ term_text sorts operations names t
  spelled t f args d n o0 o1 o2 o3 o4 te de ne a b c e =
      let ts : TermTrees = terms (map term_of args) in
      let gap : List ℕ = first_gap operations names ts in
      let texts : List (List ℕ) = term_texts sorts operations names ts in
      let w : n ≡ width ts = ne ∙ width-terms args in
      e
      ∙ ap (λ o. o ++ sort_text sorts operations d)
      (c ∙ ap (λ o. o ++ closing n) (b ∙ ap (λ o. o ++ joined (separator d.name n) texts) a))
      ∙ regroup o0 (opening d.name n) gap (joined (separator d.name n) texts) (closing n) (sort_text sorts operations d)
      ∙ ap (λ m. o0 ++ application_text sorts operations m gap texts (Some d)) w
      ∙ ap (λ x. o0 ++ application_text sorts operations (width ts) gap texts x) (sym de)
      ∙ ap (λ u. o0 ++ term_text sorts operations names u) (sym te)
    where
      regroup : (o a g j c s : List ℕ) → (((o ++ (a ++ g)) ++ j) ++ c) ++ s ≡ o ++ ((((a ++ g) ++ j) ++ c) ++ s)
      regroup o a g j c s = simp append_assoc

  pub unspelled : (t : TermTree) (f : ℕ) (args : List Term) (o : List ℕ) →
      t ≡ apply f (terms (map term_of args)) → slice_get operations f ≡ None → o ≡ o ++ term_text sorts operations names t
  unspelled t f args o te de =
      let gone : term_text sorts operations names t ≡ [] =
      ap (term_text sorts operations names) te
      ∙ ap (application_text sorts operations (width (terms (map term_of args)))
      (first_gap operations names (terms (map term_of args))) (term_texts sorts operations names (terms (map term_of args))))
      de in
      sym (ap (λ x. o ++ x) gone ∙ simp append-nil)
