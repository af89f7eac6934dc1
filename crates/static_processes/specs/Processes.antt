-- The processes that a specification defines (ISO 8807, process definitions): what each says, where it stands, and which processes can be
-- called there. They are numbered from 0 in the order of the text (this profile).
use Rattle.std.specs.Prelude.{ℕ, ◌+◌, List, [], ◌∷◌, ◌++◌, map, length, Bool, true, false, ◌==◌, Option, Some, None}
use Rattle.std.specs.Prelude.{if◌then◌else◌}
use Rattle.std.specs.List.{flat_map}
use Rattle.lotos_ast.specs.declared.declaration.Declaration.{Declaration}
use Rattle.lotos_ast.specs.declared.declaration.Functionality.{Functionality}
use Rattle.lotos_ast.specs.declared.spec.Process.{Process, Process-F, fold-Process}
use Rattle.lotos_ast.specs.declared.spec.Spec.{Spec}
use Rattle.lotos_ast.specs.declared.spec.WhereItem.{WhereItem}
use Rattle.lotos_ast.specs.declared.spec.WhereItem.TheOpen.{WhereItem-F, Types, Definition}
use Rattle.lotos_ast.specs.declared.spec.WhereItem.TheFolds.{fold-WhereItem}
use Rattle.lotos_ast.specs.declared.token.Token.{Token}
use Rattle.static_constructs.specs.Constructs.{Construct}
use Rattle.static_constructs.specs.Written.{listed, gates_in, declarations_in, behaviour_written}

-- what the definition of a process says of it
pub record Defined : Type 0 where
  pub name : Token
  pub gates : List Token
  pub parameters : List Declaration
  pub functionality : Functionality
  pub body : Construct

-- a process, with the numbers of those in whose `where` parts it stands, the innermost first
pub record Entry : Type 0 where
  pub process : Defined
  pub around : List ℕ

abbrev pub defined_by : {A B : Type 0} → Process-F A B → Defined
defined_by p = record {
  name = p.name;
  gates = gates_in p.gates;
  parameters = declarations_in p.parameters;
  functionality = p.functionality;
  body = behaviour_written p.behaviour;
}

-- the entries of a part of the text, where the first of them has this number and the part stands within these
abbrev pub Entries : Type 0
Entries = ℕ → List ℕ → List Entry

abbrev pub one_after_another : List Entries → Entries
one_after_another [] number around = []
one_after_another (f ∷ fs) number around = f number around ++ one_after_another fs (number + length (f number around)) around

abbrev pub item_step : WhereItem-F Entries Entries → Entries
item_step (Types types) number around = []
item_step (Definition p) number around = p number around

-- a process, and behind it those of its `where` part
abbrev pub process_step : Process-F Entries Entries → Entries
process_step p number around =
    record { process = defined_by p; around = around } ∷ one_after_another (listed p.items) (number + 1) (number ∷ around)

abbrev pub item_entries : WhereItem → Entries
item_entries = fold-WhereItem Entries Entries item_step process_step

abbrev pub process_entries : Process → Entries
process_entries = fold-Process Entries Entries item_step process_step

-- all processes of a specification
abbrev pub entries : Spec → List Entry
entries s = one_after_another (map item_entries (listed s.items)) 0 []

-- whether it stands in the `where` part of the process of this number; where there is none, in that of the specification

abbrev pub is_innermost : Option ℕ → List ℕ → Bool
is_innermost None [] = true
is_innermost None (q ∷ around) = false
is_innermost (Some p) [] = false
is_innermost (Some p) (q ∷ around) = p == q

abbrev pub stands_in : Option ℕ → Entry → Bool
stands_in within e = is_innermost within e.around

-- the numbers of those that stand there, where the first has this number
abbrev pub standing_from : Option ℕ → ℕ → List Entry → List ℕ
standing_from within number [] = []
standing_from within number (e ∷ es) = (if stands_in within e then number ∷ [] else []) ++ standing_from within (number + 1) es

abbrev pub standing_in : List Entry → Option ℕ → List ℕ
standing_in table within = standing_from within 0 table

-- the numbers of those that can be called within these: those of the innermost `where` part stand first, those of the specification's last
abbrev pub visible_in : List Entry → List ℕ → List ℕ
visible_in table [] = standing_in table None
visible_in table (p ∷ around) = standing_in table (Some p) ++ visible_in table around

-- the names of those that stand in one `where` part
abbrev pub names_in : List Entry → Option ℕ → List Token
names_in table within = flat_map (λ e. if stands_in within e then e.process.name ∷ [] else []) table
