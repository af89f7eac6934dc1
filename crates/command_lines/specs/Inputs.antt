-- What is known of an input.
use Rattle.std.specs.Prelude.{ℕ, ◌≡◌, List, [], Option, IfSome}
use Rattle.lotos_outside.specs.Counts.{Rose}
use Rattle.lotos_outside.specs.Source.{with_first}

-- the bytes that it has left, where it tells them, and how many faults there were, before a call and after it
pub record Input : Type 0 where
  pub left_before : Option (List ℕ)
  pub left_after : Option (List ℕ)
  pub faults_before : ℕ
  pub faults_after : ℕ

-- the call was given these bytes of it
abbrev pub Gave : Input → List ℕ → Type 0
Gave input bytes = input.left_before ≡ with_first bytes input.left_after

-- it was read to its end
abbrev pub IsAtEnd : Input → Type 0
IsAtEnd input = IfSome input.left_after (λ left. left ≡ [])

-- a read failed in the call
abbrev pub IsUnread : Input → Type 0
IsUnread input = Rose input.faults_before input.faults_after

abbrev pub inlet : Option (List ℕ) → Option (List ℕ) → ℕ → ℕ → Input
inlet left left_after faults faults_after =
    record { left_before = left; left_after = left_after; faults_before = faults; faults_after = faults_after }
