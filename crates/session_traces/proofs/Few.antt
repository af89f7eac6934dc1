-- A client of a script makes few offers.
use Rattle.std.proofs.Common.{ℕ, zero, suc, ◌+◌, ◌==◌, ◌<◌, ◌≤◌, ◌^◌, ◌++◌, sym, subst, List, [], ◌∷◌, arith, length, Bool, true, false}
use Rattle.std.proofs.Common.{if◌then◌else◌, Option, Some, None, option_to_list}
use Rattle.std.specs.List.{slice_split}
use Rattle.std.specs.Str.Lines.{lines, lines_of_parts}
use Rattle.std.proofs.lemmas.List.Splits.{length-slice_split}
use Rattle.std.proofs.lemmas.List.Sums.{count_by-le-length}
use Rattle.spec_core.specs.Code.{Program}
use Rattle.spec_core.specs.Lists.{Each}
use Rattle.spec_core.proofs.Lists.{each_implied, each_push}
use Rattle.sort_overloads.specs.Readings.{Context}
use Rattle.script_text.specs.Scripts.{LinesSay, SpellsScript, by_client, greatest_client, more_lines, no_lines, wishes_of, wishes_up_to}
use Rattle.script_text.specs.Wishes.{ClientWish, Wished}

-- no more lines than parts, and no more parts than bytes and one

few_lines : (parts : List (List ℕ)) → length (lines_of_parts parts) ≤ length parts
few_lines [] = omega arith
few_lines (x ∷ []) = by_length (length x == 0)
  where
    by_length : (b : Bool) → length (if b then [] else x ∷ []) ≤ 1
    by_length true = omega arith
    by_length false = omega arith
few_lines (x ∷ y ∷ more) = let h = few_lines (y ∷ more) in omega (arith, h)

lines_short : (text : List ℕ) → length (lines text) ≤ length text + 1
lines_short text =
    let h = few_lines (slice_split (λ b. b == 10) text) in
    let k = length-slice_split (λ b. b == 10) text in
    let l = count_by-le-length (λ b. b == 10) text in
    omega (arith, h, k, l)

-- no more is said than there are lines
said_short : (c : Context) (gates texts : List (List ℕ)) (said : List ClientWish) → LinesSay c gates texts said → length said ≤ length texts
said_short c gates [] _ no_lines = omega arith
said_short c gates (text ∷ texts) all (more_lines x said h i e) =
    subst (λ (z : List ClientWish). length z ≤ suc (length texts)) (sym e) (one_more x (said_short c gates texts said i))
  where
    one_more : (x : Option ClientWish) → length said ≤ length texts → length (option_to_list x ++ said) ≤ suc (length texts)
    one_more None h = omega (arith, h)
    one_more (Some w) h = omega (arith, h)

-- and none has more wishes than there are
own_short : (k : ℕ) (said : List ClientWish) → length (wishes_of k said) ≤ length said
own_short k [] = omega arith
own_short k (x ∷ xs) = by_test (x.client == k) (own_short k xs)
  where
    by_test : (b : Bool) → length (wishes_of k xs) ≤ length xs →
        length (if b then x.wish ∷ wishes_of k xs else wishes_of k xs) ≤ suc (length xs)
    by_test true h = omega (arith, h)
    by_test false h = omega (arith, h)

each_short : (n : ℕ) (said : List ClientWish) → Each (λ (ws : List Wished). length ws ≤ length said) (wishes_up_to n said)
each_short zero said = tt
each_short (suc n) said =
    each_push (λ (ws : List Wished). length ws ≤ length said) (wishes_up_to n said) (wishes_of (suc n) said) (each_short n said)
    (own_short (suc n) said)

pub script_short : (program : Program) (text : List ℕ) (clients : List (List Wished)) → SpellsScript program text clients →
    Each (λ (ws : List Wished). length ws < 2 ^ 64) clients
script_short program text clients h =
    let short = h.short in
    let few = lines_short text in
    let said = said_short _ program.gates (lines text) h.said h.say in
    subst (Each (λ (ws : List Wished). length ws < 2 ^ 64)) (sym h.each_client)
    (each_implied (λ (ws : List Wished). length ws ≤ length h.said) (λ (ws : List Wished). length ws < 2 ^ 64) (by_client h.said)
    (λ ws own. low (length ws) (length h.said) (length (lines text)) (length text) own said few short)
    (each_short (greatest_client h.said) h.said))
  where
    low : (a b c d : ℕ) → a ≤ b → b ≤ c → c ≤ d + 1 → d ≤ 1048576 → a < 2 ^ 64
    low a b c d e f g i = let top : 1048577 < 2 ^ 64 = omega arith in omega (arith, e, f, g, i, top)
