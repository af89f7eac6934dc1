-- The types that a type imports, put together.
use Rattle.std.proofs.Common.{List, Some, Vec, ◌≡◌, ap, map}
use Rattle.std.specs.List.{insert}
use Rattle.std.specs.declared.alloc.Global.{Global}
use Rattle.lotos_ast.specs.declared.token.Token.{Token}
use Rattle.lotos_ast.specs.Reads.{Tree, leaf, both, left, right}
use Rattle.lotos_ast.specs.ListTrees.{repeated_tree, behind}
use Rattle.lotos_ast.specs.TypeTrees.{imports_tree, declared_body_tree}

pub imports_put_together : (first : Token) (rest : List Token) (all : Vec Token Global) (items : Tree) →
    all.items ≡ insert rest 0 first →
    declared_body_tree (Some all) items ≡ left (both (leaf first) (right (right (both (repeated_tree (map behind (map leaf rest))) items))))
imports_put_together first rest all items e = ap (λ z. imports_tree z items) e
