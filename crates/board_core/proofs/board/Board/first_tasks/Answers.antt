use Rattle.std.proofs.Common.{◌≡◌, ◌∙◌, ◌+◌, [], ap, arith, map, rules, suc, sym}
use Rattle.std.proofs.lemmas.Option.{IfSome_then}
use Rattle.decision_trees.specs.Lazy.{first}
use Rattle.candidates.specs.Jobs.{with_job}
use Rattle.candidates.specs.Models.{job_of}
use Rattle.decision_order.specs.Jobs.{taken_on}
use Rattle.board_core.specs.Views.{needed_at}
use Rattle.board_core.proofs.Knowing.{first_taken}
use Rattle.board_core.proofs.board.Board.first_tasks.Goals as goal

pub returns-clause-first : goal.returns-clause-first
returns-clause-first c =
    let v = c.args.self.now in
    c.first_apart.ensures.first ∙ ap first c.in_ok-tasks.ensures.jobs
    ∙ first_taken (c.from.result + 1) (map job_of v.out) (needed_at v) (omega arith)

pub returns-clause-those : goal.returns-clause-those
returns-clause-those c =
    let v = c.args.self.now in
    let same : c.from.result ≡ c.args.more = search rules in
    let count : c.from.result + 1 ≡ suc c.args.more = omega (arith, same) in
    IfSome_then c.first_apart.result c.first_apart.ensures.those
    (λ r e. e ∙ c.in_ok-tasks.ensures.jobs ∙ ap (λ n. taken_on (with_job n (map job_of v.out)) [] (needed_at v)) count)
