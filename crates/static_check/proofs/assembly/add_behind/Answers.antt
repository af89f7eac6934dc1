use Rattle.std.proofs.Common.{◌∙◌, ◌++◌, ap, sym, map}
use Rattle.std.proofs.lemmas.List.{drop-map, map-append}
use Rattle.spec_core.specs.Code.{node_of}
use Rattle.static_check.proofs.assembly.add_behind.Goals as goal

pub returns : goal.returns
returns c =
    ap (map node_of) c.in_ok-append.ensures.items ∙ map-append node_of c.args.nodes.now.items c.in_ok-others.others.items
    ∙ ap (λ others. map node_of c.args.nodes.now.items ++ map node_of others) c.in_ok-others.ensures.tail
    ∙ ap (λ others. map node_of c.args.nodes.now.items ++ others) (sym (drop-map node_of c.args.count c.args.code.items))
