-- The table of a board has the windows of its session.
use Rattle.std.proofs.Common.{ℕ, ◌≡◌, ◌<◌, ◌≤◌, List, length, ap, arith}
use Rattle.std.proofs.lemmas.Option.{slice_get_past}
use Rattle.run_settings.specs.declared.settings.Settings.{Settings}
use Rattle.spec_core.specs.declared.window.Window.{Window}
use Rattle.spec_core.specs.Code.{Program}
use Rattle.sort_windows.specs.Found.{AreBySorts}
use Rattle.symbolic_rules.specs.Tables.{windows_in, values_of, complete_of}
use Rattle.board_laws.proofs.Top.{table_windows}
use Rattle.board_laws.specs.Next.{AreSessionWindows}

pub table_of_session : (program : Program) (settings : Settings) (table : List Window) →
    AreBySorts program.theory settings.values table → length table ≡ length program.theory.sorts →
    AreSessionWindows program settings (windows_in table)
table_of_session program settings table rows long = record {
  sized = table_windows program.theory settings.values table rows long;
  others = λ sort undeclared.
      let none = slice_get_past table sort (past sort undeclared) in (ap values_of none, ap complete_of none);
}
  where
    past : (sort : ℕ) → (sort < length program.theory.sorts → ⊥) → length table ≤ sort
    past sort undeclared = omega (arith, undeclared, long)
