use Rattle.std.proofs.Common.{rules, ◌≡◌, refl, subst, sym, map}
use Rattle.spec_core.specs.Code.{program_of}
use Rattle.board_tree.specs.Views.{shape}
use Rattle.rule_model.specs.Events.{event_of}
use Rattle.board_record.proofs.Growing.{one_state}
use Rattle.board_record.specs.contracts.record.Record.{the_view}
use Rattle.board_record.specs.Records.{IsRecord}
use Rattle.board_record.specs.Views.{program, SameLog}
use Rattle.node_trees.specs.Rests.{expansion_of}
use Rattle.node_trees.specs.Shapes.{IsRight, IsWorkFor}
use Rattle.board_record.proofs.record.Record.post.Goals as goal

pub invariant_of-self : goal.invariant_of-self
invariant_of-self c =
    let v = c.self.inside in
    let p = program_of v.checked in
    subst (IsRecord p v.clients (map event_of v.entries.items))
    (sym (one_state p (shape v.tree) (shape c.post.new.self) v.session (c.post.ensures.stands p))) c.self.invariant

pub returns-clause-same : goal.returns-clause-same
returns-clause-same c =
    let v = c.self.inside in
    let p = program_of v.checked in
    let new = the_view (record {
      checked = v.checked;
      clients = v.clients;
      entries = v.entries;
      session = v.session;
      tree = c.post.new.self;
      ready = v.ready;
    }) in
    subst (λ z. SameLog z new) c.self.view_is (refl, one_state p (shape v.tree) (shape c.post.new.self) v.session (c.post.ensures.stands p), refl)

pub returns-clause-right : goal.returns-clause-right
returns-clause-right c for right =
    let p = program c.args.self.now in
    let same : c.args.self.now.tree ≡ c.self.inside.tree = search rules in
    c.post.ensures.right p (subst (λ t. IsWorkFor p (shape t) c.args.generation.0 (expansion_of c.args.work)) same for)
    (subst (λ t. IsRight p (shape t)) same right)
