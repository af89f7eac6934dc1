use Rattle.std.proofs.Common.{◌≡◌, ◌∙◌, false, length, map, nat_lt, rules}
use Rattle.std.proofs.lemmas.Result.{on_ok_weaker}
use Rattle.candidate_search.specs.Searches.{query_of}
use Rattle.decision_order.specs.Jobs.{taken_on}
use Rattle.candidates.specs.Jobs.{expansions_of}
use Rattle.candidates.specs.KnownTrees.{trees_for, with_job_in}
use Rattle.candidates.specs.Models.{job_of}
use Rattle.candidates.proofs.StandingFirst.{first_alone, first_full, first_past, none_held}
use Rattle.candidates.proofs.Taking.{no_room}
use Rattle.candidates.proofs.known_tree.KnownTree.missing_to_first.Goals as goal

pub returns-then-foremost-clause-taken : goal.returns-then-foremost-clause-taken
returns-then-foremost-clause-taken c =
    let s = c.args.self.now in
    let q = query_of c.args.search in
    let f = c.in_ok-foremost.foremost in
    let old = map job_of c.args.jobs.now.items in
    let new = map job_of c.add_expansions.new.jobs.items in
    let taken : new ≡ taken_on (with_job_in s c.args.limit) old (expansions_of f.gaps.items) = search rules in
    first_alone s q c.args.limit f.alone f.gaps.items (trees_for s q) c.in_ok-foremost.ensures old new taken (search rules)

pub returns-then-foremost-clause-asked : goal.returns-then-foremost-clause-asked
returns-then-foremost-clause-asked c =
    let s = c.args.self.now in
    let q = query_of c.args.search in
    let f = c.in_ok-foremost.foremost in
    let old = map job_of c.args.jobs.now.items in
    let new = map job_of c.add_expansions.new.jobs.items in
    let taken : new ≡ taken_on (with_job_in s c.args.limit) old (expansions_of f.gaps.items) = search rules in
    none_held s q c.args.limit f.alone f.gaps.items (trees_for s q) c.in_ok-foremost.ensures old new taken (search rules)

pub returns-then-is_full-clause-taken : goal.returns-then-is_full-clause-taken
returns-then-is_full-clause-taken c =
    let s = c.args.self.now in
    let q = query_of c.args.search in
    let f = c.in_ok-foremost.foremost in
    let old = map job_of c.args.jobs.now.items in
    let new = map job_of c.add_expansions.new.jobs.items in
    let taken : new ≡ taken_on (with_job_in s c.args.limit) old (expansions_of f.gaps.items) = search rules in
    let full : nat_lt (length new) c.args.limit ≡ false = search rules in
    first_full s q c.args.limit f.alone f.gaps.items (trees_for s q) c.in_ok-foremost.ensures old new taken full

pub returns-then-is_full-clause-asked : goal.returns-then-is_full-clause-asked
returns-then-is_full-clause-asked c questions =
    let new = map job_of c.add_expansions.new.jobs.items in
    let full : nat_lt (length new) c.args.limit ≡ false = search rules in
    no_room c.args.limit (map job_of c.args.self.now.out.now) new questions full

pub returns-clause-taken : goal.returns-clause-taken
returns-clause-taken c =
    let s = c.args.self.now in
    let q = query_of c.args.search in
    let f = c.in_ok-foremost.foremost in
    let old = map job_of c.args.jobs.now.items in
    let new = map job_of c.add_expansions.new.jobs.items in
    let taken : new ≡ taken_on (with_job_in s c.args.limit) old (expansions_of f.gaps.items) = search rules in
    on_ok_weaker c.missing_along.result (λ e. e ∙ first_past s q c.args.limit f.alone f.gaps.items (trees_for s q) c.in_ok-foremost.ensures old new taken) c.missing_along.ensures.taken
