-- Clients: who is open, and how many offers each has made.
use Rattle.std.proofs.Common.{ℕ, suc, zero, ◌+◌, ◌≡◌, ◌↔◌, ◌∙◌, refl, sym, ap, subst, arith, List, [], ◌∷◌, map, Contains, Bool, true, false, nat_eq, ◌⊎◌, inl, inr, not, ◌&&◌, ◌||◌, if◌then◌else◌}
use Rattle.std.proofs.lemmas.Bool.{eqb-true, eq-eqb, and_from, and_parts, or_cases, or_left, or_right, true≢false}
use Rattle.std.specs.List.{filter}
use Rattle.spec_core.proofs.Members.{contains_first, contains_later, contains_none}
use Rattle.log_states.specs.declared.clients.Client.{Client}
use Rattle.log_states.specs.Clients.{open_among, is_open_among, made_by, closed, having_made, new_client, numbers_from}
use Rattle.log_states.proofs.Members.{in_cases}
use Rattle.log_states.proofs.Tests.{by_cases, on_either}

-- the open clients of a list that begins with an open one, and of one that doesn't
pub with_open : (c : Client) (cs : List Client) → c.is_open ≡ true → open_among (c ∷ cs) ≡ c.number ∷ open_among cs
with_open c cs e = ap (λ b. if b then c.number ∷ open_among cs else open_among cs) e

pub without_open : (c : Client) (cs : List Client) → c.is_open ≡ false → open_among (c ∷ cs) ≡ open_among cs
without_open c cs e = ap (λ b. if b then c.number ∷ open_among cs else open_among cs) e

pub is_open : (cs : List Client) (n : ℕ) → is_open_among cs n ≡ true → Contains (open_among cs) n
is_open [] n h = absurd (cc)
is_open (c ∷ cs) n h = on_either (or_cases (c.is_open && nat_eq c.number n) (is_open_among cs n) h)
    (λ k.
    let m = and_parts c.is_open (nat_eq c.number n) k in
    subst (λ z. Contains z n) (sym (with_open c cs m.0))
    (subst (λ z. Contains (z ∷ open_among cs) n) (sym (eqb-true c.number n m.1)) (contains_first n (open_among cs))))
    (λ k. by_cases c.is_open
    (λ e. subst (λ z. Contains z n) (sym (with_open c cs e)) (contains_later c.number n (open_among cs) (is_open cs n k)))
    (λ e. subst (λ z. Contains z n) (sym (without_open c cs e)) (is_open cs n k)))

pub open_is : (cs : List Client) (n : ℕ) → Contains (open_among cs) n → is_open_among cs n ≡ true
open_is [] n h = absurd (contains_none n h)
open_is (c ∷ cs) n h = by_cases c.is_open
    (λ e. on_either (in_cases c.number n (open_among cs) (subst (λ z. Contains z n) (with_open c cs e) h))
    (λ k. or_left (c.is_open && nat_eq c.number n) (is_open_among cs n) (and_from c.is_open (nat_eq c.number n) e (eq-eqb c.number n k)))
    (λ k. or_right (c.is_open && nat_eq c.number n) (is_open_among cs n) (open_is cs n k)))
    (λ e. or_right (c.is_open && nat_eq c.number n) (is_open_among cs n) (open_is cs n (subst (λ z. Contains z n) (without_open c cs e) h)))

-- one client that has made offers

made_keeps_open : (n k : ℕ) (c : Client) → (having_made n k c).is_open ≡ c.is_open
made_keeps_open n k c = by_cases (nat_eq c.number n) (λ e. ap (λ b. (if b then record { number = c.number; is_open = c.is_open; made = k } else c).is_open) e) (λ e. ap (λ b. (if b then record { number = c.number; is_open = c.is_open; made = k } else c).is_open) e)

made_keeps_number : (n k : ℕ) (c : Client) → (having_made n k c).number ≡ c.number
made_keeps_number n k c = by_cases (nat_eq c.number n) (λ e. ap (λ b. (if b then record { number = c.number; is_open = c.is_open; made = k } else c).number) e) (λ e. ap (λ b. (if b then record { number = c.number; is_open = c.is_open; made = k } else c).number) e)

pub offers_open : (n k : ℕ) (cs : List Client) → open_among (map (having_made n k) cs) ≡ open_among cs
offers_open n k [] = refl
offers_open n k (c ∷ cs) = λ i. if made_keeps_open n k c i then made_keeps_number n k c i ∷ offers_open n k cs i else offers_open n k cs i

made_there : (n k : ℕ) (c : Client) → nat_eq c.number n ≡ true → (having_made n k c).made ≡ k
made_there n k c e = ap (λ b. (if b then record { number = c.number; is_open = c.is_open; made = k } else c).made) e

made_elsewhere : (n k : ℕ) (c : Client) → nat_eq c.number n ≡ false → having_made n k c ≡ c
made_elsewhere n k c e = ap (λ b. if b then record { number = c.number; is_open = c.is_open; made = k } else c) e

-- the one that is there has made so many
pub has_made : (n k : ℕ) (cs : List Client) → is_open_among cs n ≡ true → made_by (map (having_made n k) cs) n ≡ k
has_made n k [] h = absurd (cc)
has_made n k (c ∷ cs) h = by_cases (nat_eq c.number n)
    (λ e.
    let same : nat_eq n (having_made n k c).number ≡ true = eq-eqb n (having_made n k c).number (sym (eqb-true c.number n e) ∙ sym (made_keeps_number n k c)) in
    ap (λ b. if b then (having_made n k c).made else made_by (map (having_made n k) cs) n) same ∙ made_there n k c e)
    (λ e. by_cases (nat_eq n (having_made n k c).number)
    (λ f. absurd (true≢false (sym (eq-eqb c.number n (sym (made_keeps_number n k c) ∙ sym (eqb-true n (having_made n k c).number f))) ∙ e)))
    (λ f. ap (λ b. if b then (having_made n k c).made else made_by (map (having_made n k) cs) n) f ∙ has_made n k cs (further c cs n e h)))
  where
    further : (c : Client) (cs : List Client) (n : ℕ) → nat_eq c.number n ≡ false → is_open_among (c ∷ cs) n ≡ true → is_open_among cs n ≡ true
    further c cs n e h = pick c cs n e (or_cases (c.is_open && nat_eq c.number n) (is_open_among cs n) h)
      where
        pick : (c : Client) (cs : List Client) (n : ℕ) → nat_eq c.number n ≡ false → (c.is_open && nat_eq c.number n ≡ true) ⊎ (is_open_among cs n ≡ true) → is_open_among cs n ≡ true
        pick c cs n e (inl m) = absurd (true≢false (sym (and_parts c.is_open (nat_eq c.number n) m).1 ∙ e))
        pick c cs n e (inr m) = m

-- and the others as many as before
pub others_made : (n k x : ℕ) (cs : List Client) → nat_eq x n ≡ false → made_by (map (having_made n k) cs) x ≡ made_by cs x
others_made n k x [] h = refl
others_made n k x (c ∷ cs) h = by_cases (nat_eq c.number n)
    (λ e.
    let a : nat_eq x (having_made n k c).number ≡ nat_eq x c.number = ap (λ z. nat_eq x z) (made_keeps_number n k c) in
    let not-it : nat_eq x c.number ≡ false = ap (λ z. nat_eq x z) (eqb-true c.number n e) ∙ h in
    ap (λ b. if b then (having_made n k c).made else made_by (map (having_made n k) cs) x) (a ∙ not-it) ∙ others_made n k x cs h
    ∙ sym (ap (λ b. if b then c.made else made_by cs x) not-it))
    (λ e. λ i. if nat_eq x (made_elsewhere n k c e i).number then (made_elsewhere n k c e i).made else others_made n k x cs h i)

-- one client that isn't open any more

closed_keeps_number : (n : ℕ) (c : Client) → (closed n c).number ≡ c.number
closed_keeps_number n c = by_cases (nat_eq c.number n) (λ e. ap (λ b. (if b then record { number = c.number; is_open = false; made = c.made } else c).number) e) (λ e. ap (λ b. (if b then record { number = c.number; is_open = false; made = c.made } else c).number) e)

closed_keeps_made : (n : ℕ) (c : Client) → (closed n c).made ≡ c.made
closed_keeps_made n c = by_cases (nat_eq c.number n) (λ e. ap (λ b. (if b then record { number = c.number; is_open = false; made = c.made } else c).made) e) (λ e. ap (λ b. (if b then record { number = c.number; is_open = false; made = c.made } else c).made) e)

closed_there : (n : ℕ) (c : Client) → nat_eq c.number n ≡ true → (closed n c).is_open ≡ false
closed_there n c e = ap (λ b. (if b then record { number = c.number; is_open = false; made = c.made } else c).is_open) e

closed_elsewhere : (n : ℕ) (c : Client) → nat_eq c.number n ≡ false → closed n c ≡ c
closed_elsewhere n c e = ap (λ b. if b then record { number = c.number; is_open = false; made = c.made } else c) e

pub closing_keeps_made : (n x : ℕ) (cs : List Client) → made_by (map (closed n) cs) x ≡ made_by cs x
closing_keeps_made n x [] = refl
closing_keeps_made n x (c ∷ cs) = λ i. if nat_eq x (closed_keeps_number n c i) then closed_keeps_made n c i else closing_keeps_made n x cs i

abbrev others : ℕ → List ℕ → List ℕ
others n ns = filter (λ other. not (nat_eq other n)) ns

dropped : (n m : ℕ) (ns : List ℕ) → nat_eq m n ≡ true → others n (m ∷ ns) ≡ others n ns
dropped n m ns e = ap (λ b. if not b then m ∷ others n ns else others n ns) e

left_in : (n m : ℕ) (ns : List ℕ) → nat_eq m n ≡ false → others n (m ∷ ns) ≡ m ∷ others n ns
left_in n m ns e = ap (λ b. if not b then m ∷ others n ns else others n ns) e

pub closing_leaves : (n : ℕ) (cs : List Client) → open_among (map (closed n) cs) ≡ others n (open_among cs)
closing_leaves n [] = refl
closing_leaves n (c ∷ cs) = by_cases (nat_eq c.number n)
    (λ e. without_open (closed n c) (map (closed n) cs) (closed_there n c e) ∙ closing_leaves n cs
    ∙ by_cases c.is_open (λ f. sym (ap (others n) (with_open c cs f) ∙ dropped n c.number (open_among cs) e)) (λ f. sym (ap (others n) (without_open c cs f))))
    (λ e. ap (λ z. open_among (z ∷ map (closed n) cs)) (closed_elsewhere n c e)
    ∙ by_cases c.is_open
    (λ f. with_open c (map (closed n) cs) f ∙ ap (λ z. c.number ∷ z) (closing_leaves n cs) ∙ sym (ap (others n) (with_open c cs f) ∙ left_in n c.number (open_among cs) e))
    (λ f. without_open c (map (closed n) cs) f ∙ closing_leaves n cs ∙ sym (ap (others n) (without_open c cs f))))

-- clients at the beginning

pub new_open : (ns : List ℕ) → open_among (map new_client ns) ≡ ns
new_open [] = refl
new_open (n ∷ ns) = ap (λ z. n ∷ z) (new_open ns)

pub new_made : (ns : List ℕ) (x : ℕ) → made_by (map new_client ns) x ≡ 0
new_made [] x = refl
new_made (n ∷ ns) x = by_cases (nat_eq x n) (λ e. ap (λ b. if b then 0 else made_by (map new_client ns) x) e) (λ e. ap (λ b. if b then 0 else made_by (map new_client ns) x) e ∙ new_made ns x)
