use Rattle.std.proofs.Common.{◌≡◌, rules, ap, subst, ◌∙◌}
use Rattle.node_trees.specs.Rests.{expansion_of}
use Rattle.node_trees.specs.Shapes.{shape_of, posted, stands_for, IsRight, IsWorkFor}
use Rattle.board_tree.specs.Views.{shape}
use Rattle.node_trees.proofs.Posts.{post_is_posted, post_stands, post_right, post_sound}
use Rattle.board_tree.proofs.tree.Tree.post.Goals as goal

pub invariant_of-self : goal.invariant_of-self
invariant_of-self c =
    post_sound c.args.generation.0 c.self.inside.next (expansion_of c.args.work) (shape_of c.self.inside.root) (shape_of c.post.new.self)
    c.post.ensures.posted c.self.invariant

pub returns-clause-posted : goal.returns-clause-posted
returns-clause-posted c =
    let same : shape_of c.self.inside.root ≡ shape c.args.self.now = search rules in
    post_is_posted c.args.generation.0 c.self.inside.next (expansion_of c.args.work) (shape_of c.self.inside.root) (shape_of c.post.new.self)
    c.post.ensures.posted c.self.invariant
    ∙ ap (posted c.args.generation.0 (expansion_of c.args.work)) same

pub returns-clause-stands : goal.returns-clause-stands
returns-clause-stands c program =
    let same : shape_of c.self.inside.root ≡ shape c.args.self.now = search rules in
    post_stands c.args.generation.0 c.self.inside.next (expansion_of c.args.work) (shape_of c.self.inside.root) (shape_of c.post.new.self)
    c.post.ensures.posted c.self.invariant program
    ∙ ap (stands_for program) same

pub returns-clause-right : goal.returns-clause-right
returns-clause-right c program for right =
    let same : shape c.args.self.now ≡ shape_of c.self.inside.root = search rules in
    post_right c.args.generation.0 c.self.inside.next (expansion_of c.args.work) (shape_of c.self.inside.root) (shape_of c.post.new.self)
    c.post.ensures.posted c.self.invariant program
    (subst (λ t. IsWorkFor program t c.args.generation.0 (expansion_of c.args.work)) same for)
    (subst (IsRight program) same right)
