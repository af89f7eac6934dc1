use Rattle.std.proofs.Common.{◌≡◌, ◌-◌, ◌++◌, ◌∙◌, List, [], ap, arith, option_to_list, sym, take, vec_len}
use Rattle.candidates.specs.declared.job.NodeJob.{NodeJob}
use Rattle.candidates.proofs.Taking.{one_left}
use Rattle.candidates.proofs.entry.first_of.Goals as goal

pub returns : goal.returns
returns c =
    let one = c.truncate.new.self in
    let len = c.truncate.ensures.len in
    let last : vec_len one - 1 ≡ 0 = omega (arith, len) in
    let empty : c.pop.new.self.items ≡ [] = c.pop.ensures.rest ∙ ap (λ n. take n one.items) last in
    one_left c.args.jobs.items c.pop.result
    (sym c.truncate.ensures.items ∙ c.pop.ensures.items ∙ ap (λ (xs : List NodeJob). xs ++ option_to_list c.pop.result) empty)
