-- Sorts all of whose constructors are constants.
use Rattle.std.proofs.Common.{ℕ, zero, suc, ◌≡◌, ◌∙◌, ◌<◌, ◌+◌, List, [], ◌∷◌, length, map, take, get_or, refl, sym, ap, subst, arith, inl, inr}
use Rattle.std.specs.List.{slice_get}
use Rattle.std.proofs.Math.Decide.{ℕ_discrete}
use Rattle.std.proofs.lemmas.List.{map-append, take_more}
use Rattle.std.proofs.lemmas.Option.{slice_get_within}
use Rattle.spec_core.specs.Cover.{IsConstant, HasConstants}
use Rattle.spec_core.specs.declared.items.Op.{Op}
use Rattle.spec_core.specs.Lists.{Each, IsOneOf}
use Rattle.spec_core.specs.Numbers.{op_number}
use Rattle.spec_core.specs.Sorts.{OnSome}
use Rattle.spec_core.specs.Theories.{Theory}
use Rattle.spec_core.proofs.Lists.{each_push}
use Rattle.spec_core.proofs.Members.{each_one, some_last, some_left, some_parts}
use Rattle.cover_search.specs.Constructors.{IsConstructorOf, AreConstructorsBelow, AreConstructorsOf}
use Rattle.cover_search.proofs.Options.{on_some}
use Rattle.cover_groups.specs.Fullness.{TakesNothing}

-- an operation that a loop comes to
pub op_listed : (ops : List Op) (i : ℕ) (none : Op) → i < length ops → IsOneOf (get_or ops i none).0 (map op_number ops)
op_listed [] i none within = absurd (omega (arith, within))
op_listed (op ∷ ops) zero none within = inl refl
op_listed (op ∷ ops) (suc i) none within = inr (op_listed ops i none (omega (arith, within)))

pub ops_next : (P : ℕ → Type 0) (ops : List Op) (i : ℕ) (none : Op) → i < length ops → Each P (map op_number (take i ops)) →
    P (get_or ops i none).0 → Each P (map op_number (take (i + 1) ops))
ops_next P ops i none within before here =
    subst (Each P) (sym (ap (map op_number) (take_more ops i none within) ∙ map-append op_number (take i ops) (get_or ops i none ∷ [])))
    (each_push P (map op_number (take i ops)) (get_or ops i none).0 before here)

module _ (theory : Theory) (s : ℕ) where
  from_listed : (n : ℕ) (cs : List ℕ) → AreConstructorsBelow theory s n cs → (c : ℕ) → IsOneOf c cs → IsConstructorOf theory s c
  from_listed zero cs h c o = absurd (subst (IsOneOf c) h o)
  from_listed (suc n) cs (inl h) c o = elim (some_parts (λ x. c ≡ x) h.1.0 (n ∷ []) (subst (IsOneOf c) h.1.1 o)) [
    | inl before ↦ from_listed n h.1.0 h.1.2 c before
    | inr last ↦ elim last [ inl same ↦ subst (IsConstructorOf theory s) (sym same) h.0 | inr none ↦ absurd none ]
  ]
  from_listed (suc n) cs (inr h) c o = from_listed n cs h.1 c o

  listed_below : (n : ℕ) (cs : List ℕ) → AreConstructorsBelow theory s n cs → (c : ℕ) → c < n → IsConstructorOf theory s c → IsOneOf c cs
  listed_below zero cs h c below k = absurd (omega (arith, below))
  listed_below (suc n) cs (inl h) c below k = subst (IsOneOf c) (sym h.1.1) (elim (ℕ_discrete c n) [
    | yes same ↦ some_last (λ x. c ≡ x) h.1.0 n same
    | no other ↦ some_left (λ x. c ≡ x) h.1.0 (n ∷ []) (listed_below n h.1.0 h.1.2 c (let e = other in omega (arith, below, e)) k)
  ])
  listed_below (suc n) cs (inr h) c below k = elim (ℕ_discrete c n) [
    | yes same ↦ absurd (h.0 (subst (IsConstructorOf theory s) same k))
    | no other ↦ listed_below n cs h.1 c (let e = other in omega (arith, below, e)) k
  ]

  module _ (cs : List ℕ) (are : AreConstructorsOf theory s cs) where
    pub all_constants : Each (TakesNothing theory) cs → HasConstants theory s
    all_constants h c d there k sort =
        let within : c < length theory.operations = slice_get_within theory.operations c d there in
        let listed = listed_below (length theory.operations) cs are c within
        (k, subst (λ o. OnSome o (λ d. d.result ≡ s)) (sym there) sort) in
        subst (λ o. OnSome o (λ d. d.args ≡ [])) there (each_one (TakesNothing theory) cs c h listed)

    pub listed_constant : HasConstants theory s → (c : ℕ) → IsOneOf c cs → IsConstant theory s c
    listed_constant h c o =
        let k = from_listed (length theory.operations) cs are c o in
        let d = on_some (slice_get theory.operations c) (λ d. d.result ≡ s) k.1 in
        (k.0, subst (λ x. OnSome x (λ d. (d.result ≡ s) × (d.args ≡ []))) (sym d.1) (d.2, h c d.0 d.1 k.0 d.2))

    pub takes_nothing : (c : ℕ) → IsOneOf c cs → HasConstants theory s → TakesNothing theory c
    takes_nothing c o h =
        let k = listed_constant h c o in
        let d = on_some (slice_get theory.operations c) (λ d. (d.result ≡ s) × (d.args ≡ [])) k.1 in
        subst (λ x. OnSome x (λ d. d.args ≡ [])) (sym d.1) d.2.1

    pub constant_listed : (c : ℕ) → IsConstant theory s c → IsOneOf c cs
    constant_listed c k =
        let d = on_some (slice_get theory.operations c) (λ d. (d.result ≡ s) × (d.args ≡ [])) k.1 in
        listed_below (length theory.operations) cs are c (slice_get_within theory.operations c d.0 d.1)
        (k.0, subst (λ x. OnSome x (λ d. d.result ≡ s)) (sym d.1) d.2.0)
