use Rattle.std.proofs.Common.{◌≡◌, map, sym, ap, subst, ◌∙◌}
use Rattle.spec_core.specs.Lists.{Each}
use Rattle.spec_core.specs.Terms.{term_of}
use Rattle.spec_core.specs.Theories.{theory_of}
use Rattle.value_nodes.specs.Nodes.{tree_at}
use Rattle.value_nodes.proofs.Nodes.{longer_on, same_trees, still_nodes}
use Rattle.rewriter.specs.Steps.{task_of}
use Rattle.rewriter.proofs.Calls.{same_tasks, still_steps}
use Rattle.rewriter.proofs.Following.{all_held, copied_own, copied_small}
use Rattle.match_code.specs.Entries.{IsEntry}
use Rattle.match_code.specs.States.{waiting_of}
use Rattle.match_code.proofs.States.{at_copies, counted_copies}
use Rattle.match_code.proofs.tidying.compact.Goals as goal

pub returns : goal.returns
returns c =
    let t = theory_of c.args.algebra.now in
    let s = c.requires.stands.state in
    let rows = c.args.store.now.nodes in
    let runs = c.args.runs.now in
    let one = c.follow.new.into in
    let two = c.follow-2.new.into in
    let new = c.follow_all.new.into in
    let values = c.follow.new.self in
    let todo = c.follow-2.new.self in
    let here = c.in_ok-follow.ensures in
    let later = c.in_ok-follow-2.ensures in
    let last = c.in_ok-runs.ensures in
    let longer = longer_on one two new later.longer last.longer in
    let steps = later.steps t s.ready.steps in
    let tasks : map (task_of t new) todo ≡ map (task_of t rows) runs.todo =
    same_tasks t two new last.longer todo (all_held t two todo steps) ∙ later.same t in
    let trees : map (tree_at new) values ≡ map (tree_at rows) runs.values =
    same_trees one new longer values here.there ∙ here.same in
    record {
      stands = record {
        state = at_copies t (term_of c.args.term.now) c.args.budget rows new runs.frames c.in_ok-runs.field-0 runs.todo todo runs.values values
            runs.uses s
            (record {
              steps = still_steps t two new last.longer todo steps;
              values = still_nodes one new longer values here.there;
              own = copied_own t rows new last.copies.no_other s.ready.own;
              small = copied_small rows new last.copies.no_other s.ready.small;
              counted = counted_copies t rows new runs.todo todo runs.values values runs.uses tasks trees s.ready.counted;
            })
            last.frames
            (last.same ∙ ap (map (waiting_of t rows)) c.replace-frames.ensures.value)
            tasks trees;
        remembers = subst (Each (IsEntry t new)) (sym c.closed.ensures.none) tt;
      };
    }
