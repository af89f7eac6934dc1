use Rattle.std.proofs.Common.{◌≡◌, map, subst}
use Rattle.path_order.specs.Mentioning.{AreNoted, numbers_of}
use Rattle.path_order.proofs.mentions.Mentions.note.Goals as goal

pub returns-in_ok-push_into : goal.returns-in_ok-push_into
returns-in_ok-push_into c =
    subst (λ rows. AreNoted (λ g h. (g ≡ c.args.op.0) × (h ≡ c.args.head.0)) rows (map numbers_of c.push_into.new.rows.items)) c.self.view_is
    c.in_ok-push_into.ensures
