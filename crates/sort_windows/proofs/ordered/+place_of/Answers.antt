use Rattle.sort_windows.proofs.Gained.{place_at_front_of}
use Rattle.spec_core.proofs.Lists.{untrue}
use Rattle.sort_windows.proofs.ordered.+place_of.Goals as goal

pub returns-else-is_before : goal.returns-else-is_before
returns-else-is_before t c = record {
  place =
      place_at_front_of _ _ _ c.in-len1-up.len_at_least c.first-item.is c.requires.in_order
      (λ h. untrue (c.if-is_before.ensures.decides.1 h)) c.requires.new;
}
