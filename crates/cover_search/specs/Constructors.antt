-- Constructors by their sorts, as the code keeps them.
use Rattle.std.specs.Prelude.{ℕ, zero, suc, ◌≡◌, ◌⊎◌, nat_eq, List, [], ◌∷◌, ◌++◌, length, map, Vec}
use Rattle.std.specs.List.{slice_get}
use Rattle.std.specs.Option.{option_map_or}
use Rattle.std.specs.declared.alloc.Global.{Global}
use Rattle.indexmap.specs.IndexMap.{get}
use Rattle.spec_core.specs.declared.items.Op.{Op}
use Rattle.spec_core.specs.Constructors.{IsConstructor}
use Rattle.spec_core.specs.Numbers.{op_number}
use Rattle.spec_core.specs.Sorts.{OnSome}
use Rattle.spec_core.specs.Theories.{Theory}
use Rattle.cover_search.specs.declared.constructors.ConstructorIndex.{ConstructorIndex}

-- the operation c is a constructor of the sort
abbrev pub IsConstructorOf : Theory → ℕ → ℕ → Type 0
IsConstructorOf theory s c = IsConstructor theory c × OnSome (slice_get theory.operations c) (λ d. d.result ≡ s)

-- these are the constructors of the sort among the operations below n, in their order
abbrev pub AreConstructorsBelow : Theory → ℕ → ℕ → List ℕ → Type 0
AreConstructorsBelow theory s zero cs = cs ≡ []
AreConstructorsBelow theory s (suc n) cs =
    IsConstructorOf theory s n × ((rest : List ℕ) × (cs ≡ rest ++ n ∷ []) × AreConstructorsBelow theory s n rest) ⊎
    (IsConstructorOf theory s n → ⊥) × AreConstructorsBelow theory s n cs

-- these are the constructors of the sort, in their order
abbrev pub AreConstructorsOf : Theory → ℕ → List ℕ → Type 0
AreConstructorsOf theory s cs = AreConstructorsBelow theory s (length theory.operations) cs

-- the operation c was put behind these, if it is a constructor of the sort
abbrev pub IsConstructorAdded : Theory → ℕ → ℕ → List ℕ → List ℕ → Type 0
IsConstructorAdded theory s c old new =
    IsConstructorOf theory s c × (new ≡ old ++ c ∷ []) ⊎ (IsConstructorOf theory s c → ⊥) × (new ≡ old)

-- those that an index has for a sort
abbrev pub constructors_at : ConstructorIndex → ℕ → List ℕ
constructors_at index s = option_map_or (λ (ops : Vec Op Global). map op_number ops.items) (get nat_eq index.all s) []

-- the index has for each sort its constructors
abbrev pub IsConstructorIndexOf : ConstructorIndex → Theory → Type 0
IsConstructorIndexOf index theory = (s : ℕ) → AreConstructorsOf theory s (constructors_at index s)
