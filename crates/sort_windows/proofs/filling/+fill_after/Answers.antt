use Rattle.std.specs.List.{slice_get}
use Rattle.std.proofs.Common.{ℕ, List, Some, rules, ◌≡◌, ◌<◌, ◌≤◌, ◌+◌, ◌++◌, length, map, take, drop, ◌-◌, get_or, arith, sym, subst, ◌∙◌}
use Rattle.std.proofs.lemmas.Option.{MatchOption-at_none, MatchOption-at_some}
use Rattle.spec_core.specs.Lists.{Each}
use Rattle.spec_core.specs.Numbers.{sort_number}
use Rattle.spec_core.specs.Theories.{theory_of}
use Rattle.spec_core.specs.Windows.{IsMember}
use Rattle.spec_core.proofs.Members.{each_one}
use Rattle.sort_windows.specs.Found.{IsClosedFrom, windows_of}
use Rattle.sort_windows.proofs.Gained.{filled, both_false}
use Rattle.sort_windows.proofs.Reached.{shorter_closed}
use Rattle.sort_windows.proofs.Rows.{begins_at, begins_none, closed_at, closed_next, one_of_at}
use Rattle.sort_windows.proofs.filling.+fill_after.Goals as goal

pub returns-then-are_shorter-clause-closed : goal.returns-then-are_shorter-clause-closed
returns-then-are_shorter-clause-closed t c = λ h.
    let s = c.are_shorter.ensures.shorter c.if-are_shorter.true in
    let e : c.values_of.result.now ≡ windows_of c.args.windows.now.items c.args.sort.0 = search rules in
    shorter_closed c.args.limit (windows_of c.args.windows.now.items) c.args.sort.0 (map sort_number c.args.args.now) c.args.front.now
    (subst (λ xs. length xs ≡ c.args.limit) e s.0) (subst (Each (λ w. length w < length c.args.front.now)) e s.1)

pub returns-in-None-clause-closed : goal.returns-in-None-clause-closed
returns-in-None-clause-closed t c = λ h.
    let n = MatchOption-at_none (length c.values_of-in-loop-place.result.now ≤ c.loop-place.place)
    (λ all. (w : List ℕ) × (slice_get c.values_of-in-loop-place.result.now c.loop-place.place ≡ Some w) × (all ≡ c.args.front.now ++ w))
    c.in-None.is c.in_ok-next-in-len1-up.ensures in
    let e : c.values_of-in-loop-place.result.now ≡ windows_of c.loop-place.windows.items (get_or c.args.args.now 0 (record { 0 = 0 })).0 =
    search rules in
    closed_at c.args.limit (windows_of c.loop-place.windows.items) c.args.sort.0 c.args.args.now (record { 0 = 0 }) c.args.front.now
    c.loop-place.place c.in-len1-up.len_at_least (subst (λ xs. length xs ≤ c.loop-place.place) e n)
    (c.loop-place.invariant.closed h)

pub fill_after-requires : goal.fill_after-requires
fill_after-requires t c =
    let theory = theory_of c.args.algebra.now in
    let n = MatchOption-at_some (length c.values_of-in-loop-place.result.now ≤ c.loop-place.place)
    (λ all. (w : List ℕ) × (slice_get c.values_of-in-loop-place.result.now c.loop-place.place ≡ Some w) × (all ≡ c.args.front.now ++ w))
    c.in-Some.longer c.in-Some.is c.in_ok-next-in-len1-up.ensures in
    let first = (get_or c.args.args.now 0 (record { 0 = 0 })).0 in
    let e : c.values_of-in-loop-place.result.now ≡ windows_of c.loop-place.windows.items first = search rules in
    let member : IsMember theory first n.0 =
    each_one (IsMember theory first) (windows_of c.loop-place.windows.items first) n.0 (c.loop-place.invariant.windows.members first)
    (one_of_at (windows_of c.loop-place.windows.items first) c.loop-place.place n.0
    (subst (λ xs. slice_get xs c.loop-place.place ≡ Some n.0) e n.1)) in (
      search rules,
      (
        search rules,
        begins_at theory c.args.sort.0 c.args.args.now (record { 0 = 0 }) c.args.front.now n.0 c.in-Some.longer c.in-len1-up.len_at_least
            c.requires.begins member n.2,
      ),
    )

pub loop-place-preserved : goal.loop-place-preserved
loop-place-preserved t c =
    let n = MatchOption-at_some (length c.values_of-in-loop-place.result.now ≤ c.loop-place.place)
    (λ all. (w : List ℕ) × (slice_get c.values_of-in-loop-place.result.now c.loop-place.place ≡ Some w) × (all ≡ c.args.front.now ++ w))
    c.in-Some.longer c.in-Some.is c.in_ok-next-in-len1-up.ensures in
    let first = (get_or c.args.args.now 0 (record { 0 = 0 })).0 in
    let rest = map sort_number (take (length c.args.args.now - 1) (drop 1 c.args.args.now)) in
    let e : c.values_of-in-loop-place.result.now ≡ windows_of c.loop-place.windows.items first = search rules in
    let more = c.in_ok-more-in-Some.ensures in
    let inv = c.loop-place.invariant in
    let all_closed = λ (all : List (List (List ℕ))) (w : List ℕ).
    IsClosedFrom c.args.limit (windows_of all) c.args.sort.0 rest (c.args.front.now ++ w) in
    record {
      windows = more.windows;
      same = λ h. let b = both_false _ _ h in more.same b.1 ∙ inv.same b.0;
      closed = λ h.
          let b = both_false _ _ h in
          let s = more.same b.1 in
          let here : all_closed c.loop-place.windows.items n.0 =
          subst (λ all. IsClosedFrom c.args.limit (windows_of all) c.args.sort.0 rest (c.args.front.now ++ n.0)) s
          (subst (IsClosedFrom c.args.limit (windows_of c.fill_after.new.windows.items) c.args.sort.0 rest) n.2 (more.closed b.1)) in
          subst (λ all. Each (all_closed all) (take (c.loop-place.place + 1) (windows_of all first))) (sym s)
          (closed_next (all_closed c.loop-place.windows.items) (windows_of c.loop-place.windows.items first) c.loop-place.place n.0
          (subst (λ xs. slice_get xs c.loop-place.place ≡ Some n.0) e n.1) here (inv.closed b.0));
    }

pub returns-in-empty-clause-windows : goal.returns-in-empty-clause-windows
returns-in-empty-clause-windows t c =
    filled (theory_of c.args.algebra.now) c.args.limit c.args.sort.0 c.args.front.now c.args.windows.now.items
    c.fill_itself.new.windows.items c.fill_itself.result c.requires.windows
    (begins_none (theory_of c.args.algebra.now) c.args.sort.0 c.args.args.now c.args.front.now c.in-empty.len_below c.requires.begins)
    c.fill_itself.ensures.gained c.fill_itself.ensures.same

pub returns-after-loop-place-clause-closed : goal.returns-after-loop-place-clause-closed
returns-after-loop-place-clause-closed t c = λ h.
    let most = c.loop-place.invariant.windows.at_most (get_or c.args.args.now 0 (record { 0 = 0 })).0 in
    closed_at c.args.limit (windows_of c.loop-place.windows.items) c.args.sort.0 c.args.args.now (record { 0 = 0 }) c.args.front.now
    c.loop-place.place c.in-len1-up.len_at_least (omega (arith, most, c.loop-place-test.false)) (c.loop-place.invariant.closed h)
