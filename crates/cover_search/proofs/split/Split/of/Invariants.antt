use Rattle.std.proofs.Common.{ℕ, ◌≡◌, Option, map, take}
use Rattle.std.specs.List.{flat_map}
use Rattle.spec_core.specs.Terms.{term_of, terms}
use Rattle.cover_search.specs.Search.{rows_of}
use Rattle.cover_search.specs.Splits.{number_if, numbers_at, operation_at}
use Rattle.cover_search.proofs.split.Split.of.Given as goal

abbrev pub invariant-loop-number : goal.invariant-loop-number
invariant-loop-number l = (o : Option ℕ) → numbers_at l.split o ≡ flat_map (λ n. number_if o (operation_at (rows_of l.rows) (terms (map term_of l.row)) (terms (map term_of l.pattern)) n) n) (take l.number-index l.numbers)
