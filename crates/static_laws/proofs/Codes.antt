-- Where the nodes of a construct stand in a program.
use Rattle.std.proofs.Common.{ℕ, suc, ◌≡◌, ◌+◌, List, [], ◌∷◌, ◌++◌, length, refl, sym, ap, ◌∙◌, arith, append_assoc}
use Rattle.std.proofs.Common.{length-append}
use Rattle.std.specs.Prelude.{pred, Some}
use Rattle.std.specs.List.{slice_get}
use Rattle.spec_core.specs.Code.{Node, Program}
use Rattle.static_laws.specs.Standing.{StandAt}

seam : {A : Type 0} (xs : List A) (y : A) (ys : List A) → slice_get (xs ++ (y ∷ ys)) (length xs) ≡ Some y
seam [] y ys = refl
seam (x ∷ xs) y ys = seam xs y ys

pred-is : (m n : ℕ) → m ≡ suc n → pred m ≡ n
pred-is m n e = ap pred e

module _ {program : Program} where
  -- those in front, and those behind
  pub in-front : {from : ℕ} (xs ys : List Node) → StandAt program from (xs ++ ys) → StandAt program from xs
  in-front xs ys h = record {
    prior = h.prior;
    more = ys ++ h.more;
    code = h.code ∙ ap (λ l. h.prior ++ l) (append_assoc xs ys h.more);
    number = h.number;
  }

  pub behind : {from : ℕ} (xs ys : List Node) → StandAt program from (xs ++ ys) → StandAt program (from + length xs) ys
  behind xs ys h = record {
    prior = h.prior ++ xs;
    more = h.more;
    code = h.code ∙ ap (λ l. h.prior ++ l) (append_assoc xs ys h.more) ∙ sym (append_assoc h.prior xs (ys ++ h.more));
    number = length-append h.prior xs ∙ ap (λ n. n + length xs) h.number;
  }

  pub node-at : {from : ℕ} (n : Node) (ns : List Node) → StandAt program from (n ∷ ns) → slice_get program.code from ≡ Some n
  node-at {from} n ns h =
      ap (λ c. slice_get c from) h.code ∙ ap (λ i. slice_get (h.prior ++ (n ∷ (ns ++ h.more))) i) (sym h.number)
      ∙ seam h.prior n (ns ++ h.more)

  -- the last of nodes
  pub last-at : {from : ℕ} (ns : List Node) (n : Node) → StandAt program from (ns ++ (n ∷ [])) →
      slice_get program.code (pred (from + length (ns ++ (n ∷ [])))) ≡ Some n
  last-at {from} ns n h =
      let e : pred (from + length (ns ++ (n ∷ []))) ≡ from + length ns =
      pred-is (from + length (ns ++ (n ∷ []))) (from + length ns) (omega (arith, length-append ns (n ∷ []))) in
      ap (λ i. slice_get program.code i) e ∙ node-at n [] (behind ns (n ∷ []) h)
