-- A pair of lines more.
use Rattle.std.proofs.Common.{ℕ, ◌≡◌, ◌<◌, ◌+◌, ◌^◌, refl, ap, sym, ◌∙◌, arith, List, ◌++◌, add-one, flat_map}
use Rattle.std.specs.List.{range_with_len}
use Rattle.std.proofs.lemmas.List.{append-nil}
use Rattle.spec_generator.specs.Numbers.{draw, next, number_of}
use Rattle.spec_generator.specs.Scripts.{pair, script_text}
use Rattle.spec_generator.proofs.Ranges.{text_more}

-- where this many pairs are put: the number from which the last one is drawn, and the text
pub record ArePut (seed n turns last : ℕ) (start text : List ℕ) : Type 0 where
  pub drawn : last ≡ number_of seed turns
  pub small : last < 2 ^ 31
  pub put : text ≡ start ++ flat_map (λ j. pair n (draw (number_of seed j))) (range_with_len 1 turns)

pub none_put : (seed n first : ℕ) (start : List ℕ) → first ≡ number_of seed 0 → first < 2 ^ 31 → ArePut seed n 0 first start start
none_put seed n first start is bound = record { drawn = is; small = bound; put = sym (append-nil start) }

pub pair_more : (seed n turns old last : ℕ) (start before after : List ℕ) → ArePut seed n turns old start before →
    last ≡ next old → last < 2 ^ 31 → after ≡ before ++ pair n (draw last) → ArePut seed n (turns + 1) last start after
pair_more seed n turns old last start before after h is bound added =
    let from : last ≡ number_of seed (turns + 1) = is ∙ ap next h.drawn ∙ ap (number_of seed) (sym (add-one turns)) in
    let at : 1 + turns ≡ turns + 1 = omega arith in
    record {
      drawn = from;
      small = bound;
      put =
          text_more (λ j. pair n (draw (number_of seed j))) start before after 1 turns (turns + 1) (turns + 1) at refl h.put
          (added ∙ ap (λ x. before ++ pair n (draw x)) from);
    }

pub all_put : (seed n turns last : ℕ) (start text : List ℕ) → ArePut seed n turns last start text → turns ≡ n →
    text ≡ start ++ script_text seed n
all_put seed n turns last start text h e =
    h.put ∙ ap (λ k. start ++ flat_map (λ j. pair n (draw (number_of seed j))) (range_with_len 1 k)) e
