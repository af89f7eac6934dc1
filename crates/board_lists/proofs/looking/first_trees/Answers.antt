use Rattle.std.proofs.Common.{◌≡◌, ◌∙◌, ◌∷◌, List, [], ap, arith, length, length-append, map, subst, sym}
use Rattle.std.specs.Prelude.{MatchOption}
use Rattle.std.proofs.lemmas.List.{map-append}
use Rattle.spec_core.specs.Lists.{Each}
use Rattle.spec_core.proofs.Lists.{each_push}
use Rattle.candidates.specs.Models.{job_of}
use Rattle.rule_model.specs.Derivations.{Derivation, derivation_of}
use Rattle.candidate_search.specs.Searches.{query_of}
use Rattle.candidates.specs.Walks.{ahead, met_of}
use Rattle.board_lists.specs.declared.looking.Seen.{Seen}
use Rattle.board_core.specs.declared.job.Job.{Job}
use Rattle.board_lists.specs.Looking.{HasPassed, IsSound, Says}
use Rattle.board_lists.proofs.Reasons.{found_job_is_sound, found_out}
use Rattle.board_lists.proofs.Searching.{met_is_listed, past_absent, past_missing, past_tree}
use Rattle.board_lists.proofs.looking.first_trees.Goals as goal

pub loop-left-preserved-in-Absent : goal.loop-left-preserved-in-Absent
loop-left-preserved-in-Absent c =
    let v = c.args.board.now in
    let q = query_of c.args.search in
    let i = c.loop-left.invariant in
    let left = ahead c.loop-left.walk in
    let x = met_of c.in-Some.met in
    let rest = ahead c.next.new.self in
    let next =
    subst (λ o. MatchOption o (left ≡ []) (λ met. left ≡ met_of met ∷ rest)) c.in-Some.is c.in_ok-next.ensures.next
    in
    record {
      passed =
          past_absent v q c.loop-left.jobs.items (map derivation_of c.loop-left.those.items) left i.passed x rest next
          (subst (λ (s : Seen). Says v q x s) c.in-Absent.is c.in_ok-seen_at-in-Some.ensures);
      sound = i.sound;
      counted = i.counted;
    }

pub loop-left-preserved-in-Tree : goal.loop-left-preserved-in-Tree
loop-left-preserved-in-Tree c =
    let v = c.args.board.now in
    let q = query_of c.args.search in
    let i = c.loop-left.invariant in
    let those = c.loop-left.those.items in
    let left = ahead c.loop-left.walk in
    let x = met_of c.in-Some.met in
    let rest = ahead c.next.new.self in
    let tree = c.in-Tree.tree in
    let next =
    subst (λ o. MatchOption o (left ≡ []) (λ met. left ≡ met_of met ∷ rest)) c.in-Some.is c.in_ok-next.ensures.next
    in
    let more = c.in_ok-push-in-Tree.ensures.items in
    let longer = ap length more in
    let by = length-append those (tree ∷ []) in
    let some = c.loop-left-test.true in
    let before = i.counted in
    record {
      passed =
          subst (λ (found : List Derivation). HasPassed v q c.loop-left.jobs.items found rest)
          (sym (ap (map derivation_of) more ∙ map-append derivation_of those (tree ∷ [])))
          (past_tree v q c.loop-left.jobs.items (map derivation_of those) left i.passed x rest next tree
          (subst (λ (s : Seen). Says v q x s) c.in-Tree.is c.in_ok-seen_at-in-Some.ensures));
      sound = i.sound;
      counted = omega (arith, longer, by, some, before);
    }

pub with_origin-requires : goal.with_origin-requires
with_origin-requires c =
    let v = c.args.board.now in
    let q = query_of c.args.search in
    let i = c.loop-left.invariant in
    let left = ahead c.loop-left.walk in
    let x = met_of c.in-Some.met in
    let rest = ahead c.next.new.self in
    let next =
    subst (λ o. MatchOption o (left ≡ []) (λ met. left ≡ met_of met ∷ rest)) c.in-Some.is c.in_ok-next.ensures.next
    in
    let known = c.what_is_known_is_so.ensures in
    let log = c.log_is_a_derivation.ensures in
    record {
      lives =
          (found_out v (known.known, known.living) log.ready c.generations_are_sound.ensures.apart log.reached q c.requires.all x
          (met_is_listed v q c.loop-left.jobs.items (map derivation_of c.loop-left.those.items) left i.passed x rest next)
          (job_of c.in-Missing.task) (subst (λ (s : Seen). Says v q x s) c.in-Missing.is c.in_ok-seen_at-in-Some.ensures)).lives;
    }

pub returns-then-expands : goal.returns-then-expands
returns-then-expands c =
    let v = c.args.board.now in
    let q = query_of c.args.search in
    let i = c.loop-left.invariant in
    let left = ahead c.loop-left.walk in
    let x = met_of c.in-Some.met in
    let rest = ahead c.next.new.self in
    let next =
    subst (λ o. MatchOption o (left ≡ []) (λ met. left ≡ met_of met ∷ rest)) c.in-Some.is c.in_ok-next.ensures.next
    in
    let known = c.what_is_known_is_so.ensures in
    let log = c.log_is_a_derivation.ensures in
    let jobs = c.loop-left.jobs.items in
    let job = c.in_ok-with_origin-in-Missing.field-0 in
    let made = c.in_ok-with_origin-in-Missing.ensures in
    let more = c.in_ok-push-in-Missing.ensures.items in
    record {
      comes =
          subst (Each (IsSound v)) (sym more)
          (each_push (IsSound v) jobs job i.sound
          (found_job_is_sound v (known.known, known.living) log.ready c.generations_are_sound.ensures.apart log.reached q c.requires.all x
          (met_is_listed v q jobs (map derivation_of c.loop-left.those.items) left i.passed x rest next) c.in-Missing.task
          (subst (λ (s : Seen). Says v q x s) c.in-Missing.is c.in_ok-seen_at-in-Some.ensures) job made.task made.origin));
    }

pub loop-left-preserved : goal.loop-left-preserved
loop-left-preserved c =
    let v = c.args.board.now in
    let q = query_of c.args.search in
    let i = c.loop-left.invariant in
    let left = ahead c.loop-left.walk in
    let x = met_of c.in-Some.met in
    let rest = ahead c.next.new.self in
    let next =
    subst (λ o. MatchOption o (left ≡ []) (λ met. left ≡ met_of met ∷ rest)) c.in-Some.is c.in_ok-next.ensures.next
    in
    let known = c.what_is_known_is_so.ensures in
    let log = c.log_is_a_derivation.ensures in
    let those = map derivation_of c.loop-left.those.items in
    let jobs = c.loop-left.jobs.items in
    let job = c.in_ok-with_origin-in-Missing.field-0 in
    let made = c.in_ok-with_origin-in-Missing.ensures in
    let more = c.in_ok-push-in-Missing.ensures.items in
    let longer = ap length more in
    let by = length-append jobs (job ∷ []) in
    let some = c.loop-left-test.true in
    let before = i.counted in
    record {
      passed =
          subst (λ (js : List Job). HasPassed v q js those rest) (sym more) (past_missing v q jobs those left i.passed x rest next job);
      sound =
          subst (Each (IsSound v)) (sym more)
          (each_push (IsSound v) jobs job i.sound
          (found_job_is_sound v (known.known, known.living) log.ready c.generations_are_sound.ensures.apart log.reached q c.requires.all x
          (met_is_listed v q jobs those left i.passed x rest next) c.in-Missing.task
          (subst (λ (s : Seen). Says v q x s) c.in-Missing.is c.in_ok-seen_at-in-Some.ensures) job made.task made.origin));
      counted = omega (arith, longer, by, some, before);
    }
