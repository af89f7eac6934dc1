use Rattle.std.proofs.Common.{ℕ, ◌≡◌, ◌+◌, ◌-◌, ◌++◌, ◌∙◌, rules, ap, arith, codes, flat_map, string_bytes}
use Rattle.std.specs.List.{range_with_len}
use Rattle.spec_generator.specs.Specifications.{gate}
use Rattle.spec_generator.proofs.Chains.{hidden_put}
use Rattle.spec_generator.proofs.Ranges.{text_more}
use Rattle.spec_generator.proofs.specification.put_hidden.Goals as goal

pub loop-number-preserved : goal.loop-number-preserved
loop-number-preserved c =
    text_more (λ j. codes ", " ++ gate j) (string_bytes c.put.new.out) (string_bytes c.loop-number.out) (string_bytes c.write.new.self) 2
    (c.loop-number.number-counter - 2) c.loop-number.number-counter (c.loop-number.number-counter + 1 - 2) (omega arith) (omega arith)
    c.loop-number.invariant (search rules)

pub returns : goal.returns
returns c =
    let all : c.loop-number.number-counter ≡ c.args.size = omega arith in
    hidden_put c.args.size (string_bytes c.args.out.now) (string_bytes c.put.new.out) (string_bytes c.loop-number.out) c.requires
    c.in_ok-put.ensures
    (c.loop-number.invariant
    ∙ ap (λ (n : ℕ). string_bytes c.put.new.out ++ flat_map (λ j. codes ", " ++ gate j) (range_with_len 2 (n - 2))) all)
