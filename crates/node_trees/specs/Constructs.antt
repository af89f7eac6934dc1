-- The operator at the root of a tree.
use Rattle.node_trees.specs.Shapes.{Shape, leaf, over, between, hidden, relabelled, enabled, choosing, beside, disabling}

abbrev pub IsLeaf : Shape → Type 0
IsLeaf (leaf n) = Unit {0}
IsLeaf _ = ⊥

abbrev pub IsChoosing : Shape → Type 0
IsChoosing (between choosing x y) = Unit {0}
IsChoosing _ = ⊥

abbrev pub IsBeside : Shape → Type 0
IsBeside (between (beside gates) x y) = Unit {0}
IsBeside _ = ⊥

abbrev pub IsDisabling : Shape → Type 0
IsDisabling (between disabling x y) = Unit {0}
IsDisabling _ = ⊥

abbrev pub IsHidden : Shape → Type 0
IsHidden (over (hidden gates) x) = Unit {0}
IsHidden _ = ⊥

abbrev pub IsRelabelled : Shape → Type 0
IsRelabelled (over (relabelled pairs) x) = Unit {0}
IsRelabelled _ = ⊥

abbrev pub IsEnabled : Shape → Type 0
IsEnabled (over (enabled xs right values) x) = Unit {0}
IsEnabled _ = ⊥

-- under a relabelling the tree is tidy as it is: it is no relabelling, and no node, which may be a call
abbrev pub IsTidy : Shape → Type 0
IsTidy (leaf n) = ⊥
IsTidy (over (relabelled pairs) x) = ⊥
IsTidy _ = Unit {0}
