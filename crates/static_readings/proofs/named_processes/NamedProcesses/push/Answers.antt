use Rattle.std.proofs.Common.{rules, string_bytes, Some}
use Rattle.std.proofs.lemmas.Map.Text.{hash_map_updates_text}
use Rattle.indexmap.specs.IndexMap.{get_by_text}
use Rattle.static_readings.proofs.Named.{not_first, now_first}
use Rattle.static_readings.proofs.named_processes.NamedProcesses.push.Goals as goal

pub invariant_of-self-then-contains_key : goal.invariant_of-self-then-contains_key
invariant_of-self-then-contains_key c = λ name. not_first (get_by_text c.self.inside.first) c.self.inside.all.items c.push.new.self.items c.args.heading (string_bytes c.in_ok-name.name) (search rules) c.in_ok-push.ensures.items (search rules) c.self.invariant name

pub invariant_of-self-in-Ok : goal.invariant_of-self-in-Ok
invariant_of-self-in-Ok c = λ name. now_first (get_by_text c.self.inside.first) (get_by_text c.insert.new.self) c.self.inside.all.items c.push.new.self.items c.args.heading (string_bytes c.in_ok-name.name)
    (search rules) c.in_ok-push.ensures.items (search rules)
    (hash_map_updates_text (string_bytes c.in_ok-name.name) c.self.inside.first c.insert.new.self (Some c.args.heading) c.in-Ok.ensures.updates) c.self.invariant name
