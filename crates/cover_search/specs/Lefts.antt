-- Equations by keys of their left sides, as the code keeps them.
use Rattle.std.specs.Prelude.{ℕ, ◌≡◌, nat_eq, List, [], Vec}
use Rattle.std.specs.List.{filter}
use Rattle.std.specs.Option.{option_map_or}
use Rattle.std.specs.declared.alloc.Global.{Global}
use Rattle.indexmap.specs.IndexMap.{get}
use Rattle.spec_core.specs.Theories.{ConditionalEquation}
use Rattle.type_images.specs.Groups.{key_of}
use Rattle.cover_search.specs.Heads.{equations_at}
use Rattle.cover_search.specs.declared.heads.Headed.{Headed}
use Rattle.cover_search.specs.declared.lefts.LeftIndex.{LeftIndex}

-- the equations of this key among these
abbrev pub keyed : ℕ → List ConditionalEquation → List ConditionalEquation
keyed k es = filter (λ e. nat_eq k (key_of e)) es

-- those that an index has for a key
abbrev pub keyed_at : LeftIndex → ℕ → List ConditionalEquation
keyed_at index k = option_map_or (λ (es : Vec Headed Global). equations_at es.items) (get nat_eq index.all k) []

-- the index has for each key its equations, in their order
abbrev pub IsLeftIndexOf : LeftIndex → List ConditionalEquation → Type 0
IsLeftIndexOf index es = (k : ℕ) → keyed_at index k ≡ keyed k es
