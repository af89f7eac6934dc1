use Rattle.std.proofs.Common.{rules, ◌≡◌, length}
use Rattle.std.specs.Prelude.{vec_len}
use Rattle.script_text.proofs.Grouping.{wish_added}
use Rattle.script_text.proofs.script.add_wish.Goals as goal

pub returns : goal.returns
returns c =
    let had : vec_len c.args.clients.now ≡ length c.args.clients.now.items = (search rules) in
    record {
      added = λ before is. wish_added before c.args.client c.args.wish c.args.clients.now.items c.make_room.new.clients.items
          c.push_wish.new.clients.items (vec_len c.args.clients.now) c.requires.client had c.in_ok-make_room.ensures c.in_ok-push_wish.ensures is;
    }
