-- What the code makes of the composites of a tree: those that are made of nodes' composites whose actions are sought at the whole, and the
-- gaps, unless the composites of expanded nodes alone are listed. A parallel composition changes the kind of no action, so an action of a
-- node is sought where it is below the operators over one part. Unless all are listed, what the right side of a parallel composition could
-- do only together with the left one is left out where the left side can't do it. That drops gaps from which nothing comes that is sought,
-- unless whatever there is is sought: then, with the gaps, what right sides could do is all listed while a node waits. A gap of the left side
-- of a parallel composition is left out of what that side does alone, and of what it does together with the right one, where nothing comes
-- of it there that is sought; and so is a gap of the right side of what that does together with a plan of the left one. So of the ways from a
-- gap up through many operators few are followed up.
use Rattle.std.specs.Prelude.{ℕ, ◌++◌, ◌&&◌, ◌||◌, List, [], ◌∷◌, map, filter, flat_map, Option, Some, None, Bool}
use Rattle.std.specs.Prelude.{true, false, if◌then◌else◌}
use Rattle.spec_core.specs.Theories.{Theory}
use Rattle.spec_core.specs.Code.{Synchronised}
use Rattle.rule_model.specs.Actions.{Kind}
use Rattle.symbolic_plans.specs.declared.scheme.Row.TheVariants.{Parl, Parr}
use Rattle.symbolic_plans.specs.OpenPlans.{OpenPlan}
use Rattle.candidate_laws.specs.Sought.{Sought, Step, every_kind, these_kinds, is_sought, seeks_some, under_one, by_itself, with_another}
use Rattle.candidate_laws.specs.Sought.{as_another, sought_at, sought_below}
use Rattle.node_trees.specs.Rests.{Work}
use Rattle.node_trees.specs.Shapes.{Shape, leaf, ended, over, between, Binary, choosing, beside, disabling}
use Rattle.candidate_composites.specs.Known.{PlacedPlan, made, awaited, stepped, placed_alone, placed_over_one, placed_over_two}
use Rattle.candidate_composites.specs.Known.{placed_partners}
use Rattle.candidate_composites.specs.Contexts.{some_joint}
use Rattle.candidate_composites.specs.Joining.{Joins, free, lets, right_of}
use Rattle.candidate_composites.specs.declared.listed.Listed.{Listed}
use Rattle.candidate_composites.specs.declared.listed.Listed.TheVariants.{All, Pruned, Expanded}

-- some node of the tree waits for its expansion

abbrev pub node_waits : Option Work → Bool
node_waits None = true
node_waits (Some work) = false

abbrev pub some_waits : Shape → Bool
some_waits (leaf n) = node_waits n.work
some_waits ended = false
some_waits (over o x) = some_waits x
some_waits (between o x y) = some_waits x || some_waits y

-- what can't come up by the left sides of parallel compositions is left out
abbrev pub prunes : Listed → Bool
prunes All = false
prunes Pruned = true
prunes Expanded = true

-- there is a gap in the place of each node that waits
abbrev pub has_gaps : Listed → Bool
has_gaps All = true
has_gaps Pruned = true
has_gaps Expanded = false

-- what is listed of the composites that are sought, with the gaps
abbrev pub listed_for : Sought → Shape → Listed
listed_for every_kind t = if some_waits t then All else Pruned
listed_for (these_kinds ks) t = Pruned

-- an action of a part is sought, and may come up
abbrev pub is_kept : Sought → Joins → Kind → Bool
is_kept v c k = lets c k && is_sought v k

-- of the plans of a node those whose actions are kept
abbrev pub kept_at : Listed → Sought → Joins → ℕ → Option Work → List PlacedPlan
kept_at l v c g None = if has_gaps l then awaited g [] ∷ [] else []
kept_at l v c g (Some work) = map made (filter (λ (p : OpenPlan). is_kept v c p.kind) work.plans)

-- it is a plan, or a gap from below whose steps something comes that is sought
abbrev pub keeps : Sought → PlacedPlan → Bool
keeps v (made p) = true
keeps v (awaited g steps) = seeks_some (sought_at steps v)

-- those of these that are kept below a step, where something is sought there
abbrev pub where_sought : Step → Sought → List PlacedPlan → List PlacedPlan
where_sought step v ps = if seeks_some (sought_below step v) then filter (keeps (sought_below step v)) ps else []

-- those of the left side of a parallel composition that stay by themselves
abbrev pub staying : Synchronised → Sought → List PlacedPlan → List PlacedPlan
staying gates v ps = where_sought (by_itself gates) v ps

-- those of it that may meet the right side
abbrev pub meeting : Synchronised → Sought → List PlacedPlan → List PlacedPlan
meeting gates v ps = where_sought (with_another gates) v ps

-- those of the left side of an operator that say what the right side may do with it: of a parallel composition all, where some may meet it
abbrev pub offering : Binary → Sought → List PlacedPlan → List PlacedPlan
offering choosing v ps = ps
offering (beside gates) v ps = if some_joint gates (meeting gates v ps) then ps else []
offering disabling v ps = ps

-- a plan of the left side together with those of the right side that are kept beside it
abbrev pub kept_partners : Theory → Synchronised → Sought → List PlacedPlan → OpenPlan → List PlacedPlan
kept_partners theory gates v qs p = placed_partners theory gates (filter (keeps (sought_below (as_another p.kind) v)) qs) p

-- of a parallel composition, where of its left side these stay by themselves, and these may meet the right side
abbrev pub kept_beside : Theory → Synchronised → Sought → List PlacedPlan → List PlacedPlan → List PlacedPlan → List PlacedPlan
kept_beside theory gates v ps ms qs =
    placed_alone gates Parl ps ++
    (placed_alone gates Parr qs ++ flat_map (stepped (with_another gates) (kept_partners theory gates v qs)) ms)

-- of an operator over two parts
abbrev pub kept_over_two : Theory → Binary → Sought → List PlacedPlan → List PlacedPlan → List PlacedPlan
kept_over_two theory choosing v ps qs = placed_over_two theory choosing ps qs
kept_over_two theory (beside gates) v ps qs =
    kept_beside theory gates v (staying gates v ps) (meeting gates v ps) qs
kept_over_two theory disabling v ps qs = placed_over_two theory disabling ps qs

-- of a tree
abbrev pub kept_plans : Theory → Listed → Shape → Sought → Joins → List PlacedPlan
kept_plans theory l (leaf n) v c = kept_at l v c n.generation n.work
kept_plans theory l ended v c = []
kept_plans theory l (over o x) v c = map (placed_over_one o) (kept_plans theory l x (sought_below (under_one o) v) free)
kept_plans theory l (between o x y) v c =
    kept_over_two theory o v (kept_plans theory l x v c)
    (kept_plans theory l y v (right_of (prunes l) o (offering o v (kept_plans theory l x v c)) c))
