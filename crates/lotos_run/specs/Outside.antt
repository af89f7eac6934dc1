-- What is known of the outside of a call.
use Rattle.std.specs.Prelude.{ℕ, List, Option}
use Rattle.lotos_outside.specs.Shelf.{Notes}
use Rattle.command_lines.specs.Inputs.{Input}

-- of the shelf: its files, where it tells them, and the names whose fetch failed, before the call and after it
pub record Shelved : Type 0 where
  pub files : Option (List ℕ → Option (List ℕ))
  pub failed_before : List (List ℕ)
  pub failed_after : List (List ℕ)

-- the fetch of this name failed in the call
abbrev pub IsUnread : Shelved → List ℕ → Type 0
IsUnread shelf name = Notes shelf.failed_before shelf.failed_after name

-- of the shelf, of the input, and of what the sink had taken, before the call and after it, where it tells that
pub record Outside : Type 0 where
  pub shelf : Shelved
  pub input : Input
  pub written_before : Option (List ℕ)
  pub written_after : Option (List ℕ)

abbrev pub shelved : Option (List ℕ → Option (List ℕ)) → List (List ℕ) → List (List ℕ) → Shelved
shelved files before after = record { files = files; failed_before = before; failed_after = after }

abbrev pub outside : Shelved → Input → Option (List ℕ) → Option (List ℕ) → Outside
outside shelf input written written_after =
    record { shelf = shelf; input = input; written_before = written; written_after = written_after }
