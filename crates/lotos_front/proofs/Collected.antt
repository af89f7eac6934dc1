-- Types that are collected from trees.
use Rattle.std.proofs.Common.{◌≡◌, ◌∙◌, refl, sym, ap, List, [], ◌∷◌, ◌++◌, map, append_assoc}
use Rattle.std.proofs.lemmas.List.{append-nil, map-append}
use Rattle.lotos_ast.specs.declared.spec.WhereItem.{WhereItem}
use Rattle.lotos_ast.specs.declared.types.TypeDef.{TypeDef}
use Rattle.lotos_ast.specs.ListTrees.{repeated_tree}
use Rattle.lotos_ast.specs.Reads.{Tree}
use Rattle.lotos_ast.specs.SpecTrees.{where_item_tree}
use Rattle.lotos_ast.specs.TypeTrees.{type_def_tree}
use Rattle.lotos_front.specs.Types.{item_types, all_types, repeated_trees}

pub trees_of : (ts : List Tree) → repeated_trees (repeated_tree ts) ≡ ts
trees_of [] = refl
trees_of (t ∷ ts) = ap (λ z. t ∷ z) (trees_of ts)

all_joined : (xs ys : List Tree) → all_types (repeated_tree (xs ++ ys)) ≡ all_types (repeated_tree xs) ++ all_types (repeated_tree ys)
all_joined [] ys = refl
all_joined (x ∷ xs) ys = ap (λ z. item_types x ++ z) (all_joined xs ys) ∙ sym (append_assoc (item_types x) (all_types (repeated_tree xs)) (all_types (repeated_tree ys)))

-- one more item
pub one_more : (old now then : List Tree) (items : List WhereItem) (item : WhereItem) → now ≡ old ++ all_types (repeated_tree (map where_item_tree items)) → then ≡ now ++ item_types (where_item_tree item) →
    then ≡ old ++ all_types (repeated_tree (map where_item_tree (items ++ item ∷ [])))
one_more old now then items item before more =
    more ∙ ap (λ z. z ++ item_types (where_item_tree item)) before
    ∙ append_assoc old (all_types (repeated_tree (map where_item_tree items))) (item_types (where_item_tree item))
    ∙ ap (λ z. old ++ z) (ap (λ z. all_types (repeated_tree (map where_item_tree items)) ++ z) (sym (append-nil (item_types (where_item_tree item))))
    ∙ sym (ap (λ z. all_types (repeated_tree z)) (map-append where_item_tree items (item ∷ [])) ∙ all_joined (map where_item_tree items) (where_item_tree item ∷ [])))

-- the global types, and those behind them
pub globals : (types all : List TypeDef) (more : List Tree) → map type_def_tree all ≡ map type_def_tree types ++ more → map type_def_tree all ≡ repeated_trees (repeated_tree (map type_def_tree types)) ++ more
globals types all more e = e ∙ ap (λ z. z ++ more) (sym (trees_of (map type_def_tree types)))
