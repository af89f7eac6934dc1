use Rattle.std.proofs.Common.{sym, ap, subst}
use Rattle.spec_core.specs.Lists.{Each}
use Rattle.match_code.specs.Entries.{IsEntry}
use Rattle.match_code.proofs.engine.next_store.Goals as goal

pub returns : goal.returns
returns c = record {
  store = λ theory s. record {
    own = s.own;
    small = s.small;
    remembers = subst (Each (IsEntry theory c.args.store.nodes)) (sym (ap (λ es. es.items) c.calm.ensures.same)) s.remembers;
  };
}
