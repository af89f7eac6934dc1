-- Rows that operations are put into.
use Rattle.std.proofs.Common.{ℕ, zero, suc, ◌≡◌, ◌<◌, ◌≤◌, ◌+◌, List, [], ◌∷◌, ◌++◌, Vec, length, map, take, get_or, set, replicate, refl, sym, subst, ap, arith, inl, inr, ◌⊎◌, ◌∙◌}
use Rattle.std.proofs.lemmas.List.{take_all, map-append, replicate-append-replicate}
use Rattle.std.specs.declared.alloc.Global.{Global}
use Rattle.spec_core.specs.declared.term.Term.{Term}
use Rattle.spec_core.specs.Lists.{OneOf, IsOneOf}
use Rattle.spec_core.specs.Order.{HasOperation, AnyHasOperation, PremisesHaveOperation}
use Rattle.spec_core.specs.Terms.{term_of, terms}
use Rattle.spec_core.specs.Theories.{premise_of}
use Rattle.spec_core.proofs.Lists.{take_next}
use Rattle.spec_core.proofs.Members.{one_left, one_parts, some_left, some_last, some_parts}
use Rattle.path_order.specs.Mentioning.{numbers_of, IsNoted, AreNoted}

abbrev Related : Type 1
Related = ℕ → ℕ → Type 0

pub nothing_noted : (rows : List (List ℕ)) (R : Related) → ((g h : ℕ) → R g h → g < length rows → ⊥) → AreNoted R rows rows
nothing_noted rows R none = record {
  kept = λ g h i. i;
  only = λ g h i. inl i;
  added = λ g h r w. absurd (none g h r w);
  sized = refl;
}

pub noted_so : (R S : Related) (old new : List (List ℕ)) → ((g h : ℕ) → R g h → S g h) → ((g h : ℕ) → S g h → R g h) → AreNoted R old new → AreNoted S old new
noted_so R S old new forth back n = record {
  kept = n.kept;
  only = λ g h i. elim (n.only g h i) [ inl o ↦ inl o | inr r ↦ inr (forth g h r) ];
  added = λ g h s w. n.added g h (back g h s) w;
  sized = n.sized;
}

pub noted_both : (R S : Related) (old mid new : List (List ℕ)) → AreNoted R old mid → AreNoted S mid new → AreNoted (λ g h. R g h ⊎ S g h) old new
noted_both R S old mid new n m = record {
  kept = λ g h i. m.kept g h (n.kept g h i);
  only = λ g h i. elim (m.only g h i) [ inr s ↦ inr (inr s) | inl j ↦ elim (n.only g h j) [ inl o ↦ inl o | inr r ↦ inr (inl r) ] ];
  added = λ g h r w. elim r [ inl a ↦ m.kept g h (n.added g h a w) | inr b ↦ m.added g h b (subst (λ k. g < k) (sym n.sized) w) ];
  sized = m.sized ∙ n.sized;
}

-- what two things put in for one operation
pub noted_for_one : (P Q : ℕ → Type 0) (x : ℕ) (old mid new : List (List ℕ)) → AreNoted (λ g h. P g × (h ≡ x)) old mid →
    AreNoted (λ g h. Q g × (h ≡ x)) mid new → AreNoted (λ g h. (P g ⊎ Q g) × (h ≡ x)) old new
noted_for_one P Q x old mid new n m = noted_so (λ g h. (P g × (h ≡ x)) ⊎ (Q g × (h ≡ x))) (λ g h. (P g ⊎ Q g) × (h ≡ x)) old new
    (λ g h r. elim r [ inl a ↦ (inl a.0, a.1) | inr b ↦ (inr b.0, b.1) ])
    (λ g h r. elim r.0 [ inl a ↦ inl (a, r.1) | inr b ↦ inr (b, r.1) ])
    (noted_both (λ g h. P g × (h ≡ x)) (λ g h. Q g × (h ≡ x)) old mid new n m)

-- an element more of a list that a loop goes over
pub noted_next : {A : Type 0} (R : A → Related) (xs : List A) (i : ℕ) (x : A) (old mid new : List (List ℕ)) → i < length xs → x ≡ get_or xs i x →
    AreNoted (λ g h. OneOf (λ y. R y g h) (take i xs)) old mid → AreNoted (R x) mid new → AreNoted (λ g h. OneOf (λ y. R y g h) (take (i + 1) xs)) old new
noted_next {A = A} R xs i x old mid new w at n m =
    let grown : take (i + 1) xs ≡ take i xs ++ x ∷ [] = take_next xs i x w at in
    let all : List A → Related = λ ys g h. OneOf (λ y. R y g h) ys in
    let joined : AreNoted (all (take i xs ++ x ∷ [])) old new = noted_so (λ g h. all (take i xs) g h ⊎ R x g h) (all (take i xs ++ x ∷ [])) old new
    (λ g h r. elim r [ inl o ↦ some_left (λ y. R y g h) (take i xs) (x ∷ []) o | inr k ↦ some_last (λ y. R y g h) (take i xs) x k ])
    (λ g h o. elim (some_parts (λ y. R y g h) (take i xs) (x ∷ []) o) [ inl a ↦ inl a | inr b ↦ elim b [ inl k ↦ inr k | inr n ↦ absurd n ] ])
    (noted_both (all (take i xs)) (R x) old mid new n m) in
    subst (λ ys. AreNoted (all ys) old new) (sym grown) joined

pub noted_end : {A : Type 0} (R : A → Related) (xs : List A) (i : ℕ) (old new : List (List ℕ)) → length xs ≤ i →
    AreNoted (λ g h. OneOf (λ y. R y g h) (take i xs)) old new → AreNoted (λ g h. OneOf (λ y. R y g h) xs) old new
noted_end R xs i old new w n = subst (λ ys. AreNoted (λ g h. OneOf (λ y. R y g h) ys) old new) (take_all i xs w) n

-- an operation that is put into one row
module _ (v w : Vec ℕ Global) (x : ℕ) (more : w.items ≡ v.items ++ x ∷ []) where
  kept_there : (rows : List (Vec ℕ Global)) (place : ℕ) → v ≡ get_or rows place v → (g h : ℕ) →
      IsNoted (map numbers_of rows) g h → IsNoted (map numbers_of (set rows place w)) g h
  kept_there [] place at g h i = i
  kept_there (r ∷ rs) zero at zero h i = subst (IsOneOf h) (sym more) (one_left h v.items (x ∷ []) (subst (λ r. IsOneOf h r.items) (sym at) i))
  kept_there (r ∷ rs) zero at (suc g) h i = i
  kept_there (r ∷ rs) (suc place) at zero h i = i
  kept_there (r ∷ rs) (suc place) at (suc g) h i = kept_there rs place at g h i

  only_there : (rows : List (Vec ℕ Global)) (place : ℕ) → v ≡ get_or rows place v → (g h : ℕ) →
      IsNoted (map numbers_of (set rows place w)) g h → IsNoted (map numbers_of rows) g h ⊎ (g ≡ place) × (h ≡ x)
  only_there [] place at g h i = inl i
  only_there (r ∷ rs) zero at zero h i = elim (one_parts h v.items (x ∷ []) (subst (IsOneOf h) more i)) [
    | inl a ↦ inl (subst (λ r. IsOneOf h r.items) at a)
    | inr b ↦ elim b [ inl e ↦ inr (refl, e) | inr n ↦ absurd n ]
  ]
  only_there (r ∷ rs) zero at (suc g) h i = inl i
  only_there (r ∷ rs) (suc place) at zero h i = inl i
  only_there (r ∷ rs) (suc place) at (suc g) h i = elim (only_there rs place at g h i) [ inl a ↦ inl a | inr b ↦ inr (ap suc b.0, b.1) ]

  added_there : (rows : List (Vec ℕ Global)) (place : ℕ) → place < length rows → IsNoted (map numbers_of (set rows place w)) place x
  added_there [] place within = absurd (omega arith)
  added_there (r ∷ rs) zero within = subst (IsOneOf x) (sym more) (some_last (λ y. x ≡ y) v.items x refl)
  added_there (r ∷ rs) (suc place) within = added_there rs place (omega (arith, within))

  sized_there : (rows : List (Vec ℕ Global)) (place : ℕ) → length (map numbers_of (set rows place w)) ≡ length (map numbers_of rows)
  sized_there [] place = refl
  sized_there (r ∷ rs) zero = refl
  sized_there (r ∷ rs) (suc place) = ap suc (sized_there rs place)

  pub noted_there : (old new : List (Vec ℕ Global)) (place : ℕ) → place < length old → v ≡ get_or old place v → new ≡ set old place w →
      AreNoted (λ g h. (g ≡ place) × (h ≡ x)) (map numbers_of old) (map numbers_of new)
  noted_there old new place within at is = subst (λ rows. AreNoted (λ g h. (g ≡ place) × (h ≡ x)) (map numbers_of old) (map numbers_of rows)) (sym is) record {
    kept = kept_there old place at;
    only = only_there old place at;
    added = λ g h e room. subst (λ k. IsNoted (map numbers_of (set old place w)) k h) (sym e.0) (subst (IsNoted (map numbers_of (set old place w)) place) (sym e.1) (added_there old place within));
    sized = sized_there old place;
  }

-- rows in which nothing stands
abbrev no_numbers : List ℕ
no_numbers = []

pub one_empty_more : (old new : List (Vec ℕ Global)) (v : Vec ℕ Global) (n : ℕ) → map numbers_of old ≡ replicate n no_numbers → new ≡ old ++ v ∷ [] →
    v.items ≡ [] → map numbers_of new ≡ replicate (n + 1) no_numbers
one_empty_more old new v n is grown empty =
    ap (map numbers_of) grown ∙ map-append numbers_of old (v ∷ []) ∙ ap (λ rows. rows ++ v.items ∷ []) is
    ∙ ap (λ row. replicate n no_numbers ++ row ∷ []) empty ∙ replicate-append-replicate n 1 no_numbers

pub none_in_empty : (n g h : ℕ) → IsNoted (replicate n no_numbers) g h → ⊥
none_in_empty zero g h i = i
none_in_empty (suc n) zero h i = i
none_in_empty (suc n) (suc g) h i = none_in_empty n g h i

-- operations of terms and of premises that stand in a list
pub any_one : (g : ℕ) (ts : List Term) → AnyHasOperation g (terms (map term_of ts)) → OneOf (λ t. HasOperation g (term_of t)) ts
any_one g [] h = h
any_one g (t ∷ ts) (inl h) = inl h
any_one g (t ∷ ts) (inr h) = inr (any_one g ts h)

pub one_any : (g : ℕ) (ts : List Term) → OneOf (λ t. HasOperation g (term_of t)) ts → AnyHasOperation g (terms (map term_of ts))
one_any g [] h = h
one_any g (t ∷ ts) (inl h) = inl h
one_any g (t ∷ ts) (inr h) = inr (one_any g ts h)

abbrev pub HasOperationAt : (Term × Term) → ℕ → Type 0
HasOperationAt p g = HasOperation g (term_of p.0) ⊎ HasOperation g (term_of p.1)

pub premises_one : (g : ℕ) (ps : List (Term × Term)) → PremisesHaveOperation g (map premise_of ps) → OneOf (λ p. HasOperationAt p g) ps
premises_one g [] h = h
premises_one g (p ∷ ps) (inl h) = inl (inl h)
premises_one g (p ∷ ps) (inr (inl h)) = inl (inr h)
premises_one g (p ∷ ps) (inr (inr h)) = inr (premises_one g ps h)

pub one_premises : (g : ℕ) (ps : List (Term × Term)) → OneOf (λ p. HasOperationAt p g) ps → PremisesHaveOperation g (map premise_of ps)
one_premises g [] h = h
one_premises g (p ∷ ps) (inl (inl h)) = inl h
one_premises g (p ∷ ps) (inl (inr h)) = inr (inl h)
one_premises g (p ∷ ps) (inr h) = inr (inr (one_premises g ps h))

-- an image of which something holds
pub one_image : {A B : Type 0} (P : B → Type 0) (f : A → B) (xs : List A) → OneOf (λ x. P (f x)) xs → OneOf P (map f xs)
one_image P f [] o = o
one_image P f (x ∷ xs) (inl h) = inl h
one_image P f (x ∷ xs) (inr o) = inr (one_image P f xs o)

pub image_one : {A B : Type 0} (P : B → Type 0) (f : A → B) (xs : List A) → OneOf P (map f xs) → OneOf (λ x. P (f x)) xs
image_one P f [] o = o
image_one P f (x ∷ xs) (inl h) = inl h
image_one P f (x ∷ xs) (inr o) = inr (image_one P f xs o)

-- one thing that holds beside what holds of one element
pub one_beside : {A : Type 0} (P : A → Type 0) (B : Type 0) (xs : List A) → OneOf P xs × B → OneOf (λ y. P y × B) xs
one_beside P B [] h = h.0
one_beside P B (x ∷ xs) (inl p, b) = inl (p, b)
one_beside P B (x ∷ xs) (inr o, b) = inr (one_beside P B xs (o, b))

pub beside_one : {A : Type 0} (P : A → Type 0) (B : Type 0) (xs : List A) → OneOf (λ y. P y × B) xs → OneOf P xs × B
beside_one P B [] o = absurd o
beside_one P B (x ∷ xs) (inl p) = (inl p.0, p.1)
beside_one P B (x ∷ xs) (inr o) = let r = beside_one P B xs o in (inr r.0, r.1)
