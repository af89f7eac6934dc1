use Rattle.std.proofs.Common.{◌≡◌, ◌++◌, map, drop}
use Rattle.static_call_cycles.specs.Unguarded.{links, refusals_from}
use Rattle.static_call_cycles.proofs.unguarded.add_unguarded.Given as goal

abbrev pub invariant-loop-number : goal.invariant-loop-number
invariant-loop-number l = record {
  links : l.links.items ≡ links (map (λ calls. calls.items) l.all);
  refused : l.refusals.items ++ refusals_from (map (λ n. n.now) l.names) l.links.items l.number (map (λ calls. calls.items) (drop l.number l.all))
      ≡ l.initial.refusals.items ++ refusals_from (map (λ n. n.now) l.names) l.links.items 0 (map (λ calls. calls.items) l.all);
}
