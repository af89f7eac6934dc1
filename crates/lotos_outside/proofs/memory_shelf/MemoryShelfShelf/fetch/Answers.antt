use Rattle.std.proofs.Common.{rules, inl, inr}
use Rattle.lotos_outside.proofs.memory_shelf.MemoryShelfShelf.fetch.Goals as goal
use Rattle.lotos_outside.proofs.memory_shelf.MemoryShelfShelf.fetch.Goals.{then-contains, else-contains}

pub returns-in_default-clause-failed_only : goal.returns-in_default-clause-failed_only
returns-in_default-clause-failed_only c =
    λ _. elim c.if-contains.branch [ then-contains w ↦ inl (search rules) | else-contains w ↦ inr (search rules) ]
