use Rattle.candidate_count.proofs.Limited.{product_limited}
use Rattle.candidate_count.proofs.counting.times.Goals as goal

pub returns : goal.returns
returns c = record {
  product = λ a b e f.
      product_limited c.args.one c.args.other c.saturating_mul.result c.limited.result a b c.saturating_mul.ensures c.limited.ensures e f;
}
