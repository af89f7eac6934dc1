use Rattle.std.proofs.Common.{subst}
use Rattle.spec_core.specs.Lists.{Each}
use Rattle.session_threads.specs.Started.{IsHereDone}
use Rattle.session_threads.proofs.Spawning.{each_before}
use Rattle.session_threads.proofs.threads.+all_joined.Goals as goal

pub joined-row-requires : goal.joined-row-requires
joined-row-requires g t c = record {
  over =
      (each_before IsHereDone c.pop.new.self.items c.in-Some.last (subst (Each IsHereDone) c.in-Some.ensures.items c.requires.over)).1;
}
