use Rattle.std.proofs.Common.{arith, ◌++◌, ◌≡◌, ◌∙◌, [], ap, sym, append-nil, map, vec_len}
use Rattle.std.proofs.lemmas.Bool.{eqb-true}
use Rattle.std.proofs.lemmas.List.{nil_from_length}
use Rattle.session_threads.specs.Rows.{worker_row}
use Rattle.session_threads.proofs.Ordering.{first_taken, worker_more}
use Rattle.session_threads.proofs.run.worker_rows.Goals as goal

pub loop-passes-preserved : goal.loop-passes-preserved
loop-passes-preserved c = record {
  so =
      worker_more c.args.passes.items c.loop-passes.passes.items c.remove-pass.new.self.items c.remove-pass.result c.loop-passes.rows.items
      c.push.new.self.items c.loop-passes.invariant.so
      (first_taken c.loop-passes.passes.items c.remove-pass.new.self.items c.remove-pass.result (omega arith) c.remove-pass.ensures.value
      c.remove-pass.ensures.items)
      c.in_ok-push.ensures.items;
}

pub returns : goal.returns
returns c =
    let empty = eqb-true (vec_len c.loop-passes.passes) 0 (sym c.loop-passes-test.ensures) in
    let none : c.loop-passes.passes.items ≡ [] = nil_from_length c.loop-passes.passes.items (omega (arith, empty)) in
    record {
      rows =
          sym (ap (λ l. c.loop-passes.rows.items ++ map worker_row l) none ∙ append-nil c.loop-passes.rows.items)
          ∙ c.loop-passes.invariant.so;
    }
