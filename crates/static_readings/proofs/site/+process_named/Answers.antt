use Rattle.std.proofs.Common.{rules}
use Rattle.static_readings.specs.Named.{has_small_name}
use Rattle.static_readings.specs.Views.{heading_of}
use Rattle.static_readings.proofs.Named.{among_first, among_others}
use Rattle.static_readings.proofs.site.+process_named.Goals as goal

pub returns-in-None : goal.returns-in-None
returns-in-None t c = among_others (has_small_name c.args.name.now) c.args.visible.now c.first-item.result _ c.in-len1-up.len_at_least c.first-item.is (search rules) c.process_named.ensures

pub returns-in-Some : goal.returns-in-Some
returns-in-Some t c = among_first (has_small_name c.args.name.now) c.args.visible.now c.first-item.result (heading_of c.in-Some.heading.now) c.in-len1-up.len_at_least c.first-item.is (search rules)
