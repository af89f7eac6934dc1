-- A chain of cells, from left to right.
use Rattle.std.proofs.Common.{ℕ, zero, suc, ◌≡◌, ◌<◌, ◌+◌, ◌-◌, Bool, true, false, ap, sym, ◌∙◌, arith, List, [], ◌++◌, codes, flat_map, nat_lt, if◌then◌else◌}
use Rattle.std.specs.List.{join_by, range_with_len, repeat}
use Rattle.std.proofs.lemmas.Bool.Decides.{nat_tests}
use Rattle.std.proofs.lemmas.Fmt.{decimal_digit}
use Rattle.std.proofs.lemmas.List.{append-nil, append_assoc}
use Rattle.spec_generator.specs.Links.{link}
use Rattle.spec_generator.specs.Specifications.{cell, chain, gate, meeting}
use Rattle.spec_generator.proofs.Ranges.{brackets_behind}

is_last : (n j : ℕ) → n ≡ j + 1 → nat_lt (j + 1) n ≡ false
is_last n j e = grind (arith, nat_tests)

isnt_last : (n j : ℕ) → j + 1 < n → nat_lt (j + 1) n ≡ true
isnt_last n j e = grind (arith, nat_tests)

link_at_end : (n j : ℕ) → n ≡ j + 1 → link n j ≡ cell j ++ meeting j
link_at_end n j e =
    ap (λ (b : Bool). cell j ++ (meeting j ++ (if b then codes "(" else []))) (is_last n j e)
    ∙ ap (λ text. cell j ++ text) (append-nil (meeting j))

link_before_end : (n j : ℕ) → j + 1 < n → link n j ≡ cell j ++ meeting j ++ codes "("
link_before_end n j h =
    ap (λ (b : Bool). cell j ++ (meeting j ++ (if b then codes "(" else []))) (isnt_last n j h)
    ∙ sym (append_assoc (cell j) (meeting j) (codes "("))

regrouped : (a f c r e : List ℕ) → (a ++ ((f ++ c) ++ r)) ++ e ≡ ((a ++ f) ++ c) ++ (r ++ e)
regrouped a f c r e = simp append_assoc

-- the links, then the last cell, and then the closing brackets
from_left : (n k j : ℕ) → n ≡ j + suc k →
    chain j (suc k) ≡ flat_map (link n) (range_with_len j (suc k)) ++ cell n ++ repeat k (codes ")")
from_left n zero j e =
    let last : n ≡ j + 1 = omega arith in
    ap (λ m. (cell j ++ meeting j) ++ cell m) (sym last)
    ∙ ap (λ text. text ++ cell n) (sym (link_at_end n j last))
    ∙ ap (λ text. text ++ cell n) (sym (append-nil (link n j)))
    ∙ sym (append-nil ((link n j ++ []) ++ cell n))
from_left n (suc k) j e =
    let first = cell j ++ meeting j ++ codes "(" in
    let rest = flat_map (link n) (range_with_len (j + 1) (suc k)) in
    let more : n ≡ (j + 1) + suc k = omega arith in
    let within : j + 1 < n = omega arith in
    ap (λ text. (first ++ text) ++ codes ")") (from_left n k (j + 1) more)
    ∙ regrouped first rest (cell n) (repeat k (codes ")")) (codes ")")
    ∙ ap (λ text. ((first ++ rest) ++ cell n) ++ text) (brackets_behind k)
    ∙ ap (λ text. ((text ++ rest) ++ cell n) ++ repeat (suc k) (codes ")")) (sym (link_before_end n j within))

pub chain_put : (n count : ℕ) (start links last after : List ℕ) → 1 < n → count ≡ n - 2 →
    links ≡ start ++ flat_map (link n) (range_with_len 1 (n - 1)) → last ≡ links ++ cell n → after ≡ last ++ repeat count (codes ")") →
    after ≡ start ++ chain 1 (n - 1)
chain_put n count start links last after some left h put closed =
    let more : n ≡ 1 + suc (n - 2) = omega arith in
    let cells : n - 1 ≡ suc (n - 2) = omega arith in
    let rest = flat_map (link n) (range_with_len 1 (suc (n - 2))) in
    closed
    ∙ ap (λ text. text ++ repeat count (codes ")")) put
    ∙ ap (λ text. (text ++ cell n) ++ repeat count (codes ")")) h
    ∙ ap (λ k. ((start ++ flat_map (link n) (range_with_len 1 k)) ++ cell n) ++ repeat count (codes ")")) cells
    ∙ ap (λ k. ((start ++ rest) ++ cell n) ++ repeat k (codes ")")) left
    ∙ ap (λ text. text ++ repeat (n - 2) (codes ")")) (append_assoc start rest (cell n))
    ∙ append_assoc start (rest ++ cell n) (repeat (n - 2) (codes ")"))
    ∙ ap (λ text. start ++ text) (sym (from_left n (n - 2) 1 more))
    ∙ ap (λ k. start ++ chain 1 k) (sym cells)

-- the names of the gates between cells, joined

first_gate : codes "g1" ≡ gate 1
first_gate = ap (λ digits. codes "g" ++ digits) (sym (decimal_digit 1 (omega arith)))

pub hidden_put : (n : ℕ) (start first after : List ℕ) → 1 < n → first ≡ start ++ codes "g1" →
    after ≡ first ++ flat_map (λ j. codes ", " ++ gate j) (range_with_len 2 (n - 2)) →
    after ≡ start ++ join_by gate (codes ", ") (range_with_len 1 (n - 1))
hidden_put n start first after some put h =
    let cells : n - 1 ≡ suc (n - 2) = omega arith in
    h
    ∙ ap (λ text. text ++ flat_map (λ j. codes ", " ++ gate j) (range_with_len 2 (n - 2))) put
    ∙ ap (λ text. (start ++ text) ++ flat_map (λ j. codes ", " ++ gate j) (range_with_len 2 (n - 2))) first_gate
    ∙ append_assoc start (gate 1) (flat_map (λ j. codes ", " ++ gate j) (range_with_len 2 (n - 2)))
    ∙ ap (λ k. start ++ join_by gate (codes ", ") (range_with_len 1 k)) (sym cells)
