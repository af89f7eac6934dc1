-- What constructs are read as: the nodes of their code, and how they end (ISO 8807, functionality).
use Rattle.std.specs.Prelude.{ℕ, pred, ◌+◌, List, [], ◌∷◌, ◌++◌, length, Option, Some, None, option_map, if◌then◌else◌, nat_eq}
use Rattle.std.specs.Cmp.Lexicographic.{pointwise}
use Rattle.lotos_ast.specs.declared.place.Place.{Place}
use Rattle.lotos_ast.specs.declared.refusal.Refusal.{Refusal}
use Rattle.lotos_ast.specs.declared.refusal.RefusalKind.TheVariants.{WrongFunctionality}
use Rattle.spec_core.specs.Code.{Node}
use Rattle.spec_core.specs.Functionality.{Functionality, noexit, exits}
use Rattle.sort_overloads.specs.Refused.{refused}

-- the nodes of a construct, each behind those of its parts, and how it ends
pub record Read : Type 0 where
  pub nodes : List Node
  pub functionality : Functionality

-- the number of a construct whose nodes begin at this number: that of the last of them
abbrev pub root : ℕ → Read → ℕ
root from r = pred (from + length r.nodes)

-- where the next nodes begin
abbrev pub after : ℕ → Option Read → ℕ
after from None = from
after from (Some r) = from + length r.nodes

-- a construct without parts
abbrev pub single : Node → Functionality → Read
single node f = record { nodes = node ∷ []; functionality = f }

-- a construct over one part, which ends as its part does
abbrev pub around : ℕ → (ℕ → Node) → Read → Read
around from make r = record { nodes = r.nodes ++ make (root from r) ∷ []; functionality = r.functionality }

-- a construct over two parts that ends in this way
abbrev pub over : ℕ → (ℕ → ℕ → Node) → Read → Read → Functionality → Read
over from make x y f = record {
  nodes = x.nodes ++ (y.nodes ++ make (root from x) (root (from + length x.nodes) y) ∷ []);
  functionality = f;
}

-- how two parts end together, if they may stand together

abbrev pub if_same : List ℕ → List ℕ → Option Functionality
if_same sorts others = if pointwise nat_eq sorts others then Some (exits sorts) else None

-- in a choice or a disabling: as the parts that exit, which must agree
abbrev pub either : Functionality → Functionality → Option Functionality
either noexit g = Some g
either (exits sorts) noexit = Some (exits sorts)
either (exits sorts) (exits others) = if_same sorts others

-- in a parallel composition: they exit only where both parts do, which must agree
abbrev pub both : Functionality → Functionality → Option Functionality
both noexit g = Some noexit
both (exits sorts) noexit = Some noexit
both (exits sorts) (exits others) = if_same sorts others

-- two parts that are read, joined where they may stand together; where they may not, that is refused. Where a part isn't read, nothing is
-- asked

abbrev pub joined : ℕ → (Functionality → Functionality → Option Functionality) → (ℕ → ℕ → Node) → Option Read → Option Read → Option Read
joined from combine make (Some x) (Some y) = option_map (over from make x y) (combine x.functionality y.functionality)
joined from combine make _ _ = None

abbrev pub refused_if_none : Option Functionality → Place → List Refusal
refused_if_none None place = refused WrongFunctionality place [] ∷ []
refused_if_none (Some f) place = []

abbrev pub disagreement : Place → (Functionality → Functionality → Option Functionality) → Option Read → Option Read → List Refusal
disagreement place combine (Some x) (Some y) = refused_if_none (combine x.functionality y.functionality) place
disagreement place combine _ _ = []
