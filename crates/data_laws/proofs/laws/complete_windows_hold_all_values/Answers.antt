use Rattle.data_laws.proofs.Whole.{complete_windows_hold_all_values}
use Rattle.data_laws.proofs.laws.complete_windows_hold_all_values.Goals as goal

pub returns : goal.returns
returns c = complete_windows_hold_all_values
