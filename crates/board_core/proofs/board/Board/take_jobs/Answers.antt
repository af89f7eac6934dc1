use Rattle.std.proofs.Common.{◌≡◌, ◌∙◌, ◌∷◌, ◌<◌, ◌≤◌, IsTrue, List, None, Some, false, ap, inl, inr, map, option_map, refl, rules, suc, subst, sym}
use Rattle.std.proofs.lemmas.Option.{MatchOption-at_some}
use Rattle.spec_core.specs.Lists.{Each, IsOneOf}
use Rattle.candidates.specs.declared.job.NodeJob as declared
use Rattle.candidates.specs.Models.{job_of}
use Rattle.candidate_count.specs.Counts.{offers_limit, offers_of_tree}
use Rattle.board_laws.specs.Reasons.{LooksForTrees}
use Rattle.board_core.specs.Views.{BoardView, needed_at, program, state, tree, windows}
use Rattle.board_core.specs.Working.{AreAsked, IsVerdict, first_free, none_needed}
use Rattle.board_core.proofs.Knowing.{others_are_asked}
use Rattle.board_core.proofs.board.Board.take_jobs.Goals as goal

pub returns-then-not-goes_on-clause-none : goal.returns-then-not-goes_on-clause-none
returns-then-not-goes_on-clause-none c =
    let not_on : c.goes_on.result ≡ false = search rules in
    inl (c.goes_on.ensures.none not_on, refl)

pub returns-in-None-clause-none : goal.returns-in-None-clause-none
returns-in-None-clause-none c =
    let on : IsTrue c.goes_on.result = search rules in
    let goes = c.goes_on.ensures.goes_on on in
    let same = c.list_composites.ensures.same in
    let none = sym c.in_ok-first_tasks.ensures.first ∙ ap (option_map (λ r. job_of r.0)) c.in-None.is in
    inl (
      none_needed goes.0 goes.1 (subst (λ (v : BoardView). first_free v ≡ None) same none),
      ap (λ (v : BoardView). v.stop) same,
    )

pub returns-then-branch-clause-none : goal.returns-then-branch-clause-none
returns-then-branch-clause-none c =
    let on : IsTrue c.goes_on.result = search rules in
    let many : IsTrue c.in_ok-is_too_much-in-Some.field-0 = search rules in
    let h = c.in_ok-is_too_much-in-Some.ensures.many many in
    let same = c.list_composites.ensures.same in
    let first = sym c.in_ok-first_tasks.ensures.first ∙ ap (option_map (λ r. job_of r.0)) c.in-Some.is in
    inr (record {
      running = (c.goes_on.ensures.goes_on on).0;
      looks = c.goes_on.ensures.looks on;
      job = job_of c.in-Some.task;
      first = subst (λ (v : BoardView). first_free v ≡ Some (job_of c.in-Some.task)) same first;
      verdict = h.0;
      many = subst (λ (v : BoardView). offers_limit < offers_of_tree (program v) (windows v) (tree v)) same h.1;
      stop = refl;
    })

pub hand_out-requires-clause-first : goal.hand_out-requires-clause-first
hand_out-requires-clause-first c =
    sym c.in_ok-first_tasks.ensures.first ∙ ap (option_map (λ r. job_of r.0)) c.in-Some.is

pub hand_out-requires-clause-looks : goal.hand_out-requires-clause-looks
hand_out-requires-clause-looks c =
    let on : IsTrue c.goes_on.result = search rules in
    subst (λ (v : BoardView). LooksForTrees (state v)) (sym c.list_composites.ensures.same) (c.goes_on.ensures.looks on)

pub with_origins-requires-clause-looks : goal.with_origins-requires-clause-looks
with_origins-requires-clause-looks c =
    let on : IsTrue c.goes_on.result = search rules in
    subst (λ (v : BoardView). LooksForTrees (state v)) (sym c.list_composites.ensures.same) (c.goes_on.ensures.looks on)

pub with_origins-requires-clause-needed : goal.with_origins-requires-clause-needed
with_origins-requires-clause-needed c =
    let v = c.list_composites.new.self in
    let tasks : c.deref.result.now ≡ c.in-Some.tasks.items = c.deref.ensures.value in
    subst (λ (l : List declared.NodeJob). Each (λ job. IsOneOf job (needed_at v)) (map job_of l)) (sym tasks)
    (others_are_asked (suc c.args.more) (map job_of v.out) (needed_at v) (job_of c.in-Some.task) (map job_of c.in-Some.tasks.items)
    (MatchOption-at_some _ _ _ c.in-Some.is c.in_ok-first_tasks.ensures.those))

pub returns-in_ok-first-in-Some-clause-asked : goal.returns-in_ok-first-in-Some-clause-asked
returns-in_ok-first-in-Some-clause-asked c =
    let jobs = c.in_ok-first-in-Some.first ∷ c.in_ok-others-in-Some.others.items in
    let asked : AreAsked c.list_composites.new.self (suc c.args.more) jobs = search rules in
    subst (λ (v : BoardView). AreAsked v (suc c.args.more) jobs) c.list_composites.ensures.same asked

pub returns-in_ok-first-in-Some-clause-few : goal.returns-in_ok-first-in-Some-clause-few
returns-in_ok-first-in-Some-clause-few c =
    let b = c.list_composites.new.self in
    let few : IsVerdict (job_of c.in_ok-first-in-Some.first.task) → offers_of_tree (program b) (windows b) (tree b) ≤ offers_limit =
    search rules in
    λ verdict.
    subst (λ (v : BoardView). offers_of_tree (program v) (windows v) (tree v) ≤ offers_limit) c.list_composites.ensures.same (few verdict)
