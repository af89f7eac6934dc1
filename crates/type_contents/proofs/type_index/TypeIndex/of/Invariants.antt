use Rattle.std.proofs.Common.{◌≡◌, ◌+◌, ◌-◌, ℕ, List, length, drop}
use Rattle.std.specs.List.{position_or_len}
use Rattle.type_contents.specs.TypeIndexes.{number_at}
use Rattle.type_contents.specs.Uses.{is_called}
use Rattle.type_contents.proofs.type_index.TypeIndex.of.Given as goal

abbrev pub invariant-loop-behind : goal.invariant-loop-behind
invariant-loop-behind l = record {
  count : l.index.count ≡ length l.types;
  numbers : (name : List ℕ) → number_at l.index name ≡ (length l.types - l.behind) + position_or_len (is_called name) (drop (length l.types - l.behind) l.types);
}
