use Rattle.std.proofs.Common.{◌≡◌, arith, append-nil, subst, sym, [], vec_len}
use Rattle.std.proofs.lemmas.Bool.{eqb-true}
use Rattle.std.proofs.lemmas.List.{nil_from_length}
use Rattle.session_threads.specs.Started.{AreStarted}
use Rattle.session_threads.proofs.threads.start_rows.Goals as goal

pub returns-clause-started : goal.returns-clause-started
returns-clause-started g c =
    let all = c.loop-rows.all.items in
    let left = c.loop-rows.rows.items in
    let empty = eqb-true (vec_len c.loop-rows.rows) 0 (sym c.loop-rows-test.ensures) in
    let none : left ≡ [] = nil_from_length left (omega (arith, empty)) in
    subst (AreStarted c.args.rows.items) (append-nil all) (c.loop-rows.invariant.started [] (subst (λ l. AreStarted l []) (sym none) tt))
