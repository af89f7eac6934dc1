use Rattle.std.proofs.Common.{rules, ◌≡◌, length, set, refl, subst, ◌<◌}
use Rattle.std.specs.Prelude.{vec_len}
use Rattle.path_order.proofs.Noting.{noted_there}
use Rattle.path_order.proofs.mentions.push_into.Goals as goal

pub returns : goal.returns
returns c =
    let rows = c.args.rows.now.items in
    let had : vec_len c.args.rows.now ≡ length rows = search rules in
    noted_there c.index_mut.result.now c.push.new.self c.args.head c.in_ok-push.ensures.items rows (set rows c.args.place c.push.new.self) c.args.place
    (subst (λ n. c.args.place < n) had c.requires.there) c.index_mut.ensures.value refl
