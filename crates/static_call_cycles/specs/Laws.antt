-- What holds of calls that are made at once.
use Rattle.std.specs.Prelude.{ℕ, ◌≡◌, ◌↔◌, List, []}
use Rattle.type_cycles.specs.MadeFrom.{AreAcyclic}
use Rattle.static_call_cycles.specs.Unguarded.{links, unguarded_refusals}
use Rattle.static_call_cycles.specs.declared.call.Call.{Call}

-- nothing is refused exactly where no process calls itself at once, directly or through others
abbrev pub NothingRefusedWhereAcyclic : Type 0
NothingRefusedWhereAcyclic = (names : List (List ℕ)) (all : List (List Call)) → (unguarded_refusals names all ≡ []) ↔ AreAcyclic (links all)
