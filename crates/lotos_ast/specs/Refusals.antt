-- Refusals of a text: their numbers, in the order in which this profile lists them, and their names.
use Rattle.std.specs.Prelude.{ℕ, List, codes, Result, Ok, Err}
use Rattle.lotos_ast.specs.declared.refusal.RefusalKind.{RefusalKind}
use Rattle.lotos_ast.specs.declared.refusal.RefusalKind.TheVariants.{BadByte, OpenComment, Unexpected, TooDeep, TooLong}
use Rattle.lotos_ast.specs.declared.refusal.RefusalKind.TheVariants.{UnknownType, TypeCycle, UnknownSort, DuplicateName}
use Rattle.lotos_ast.specs.declared.refusal.RefusalKind.TheVariants.{BadRenaming, BadActual, UnknownName, NoReading}
use Rattle.lotos_ast.specs.declared.refusal.RefusalKind.TheVariants.{Ambiguous, ConstructorHasEquation}
use Rattle.lotos_ast.specs.declared.refusal.RefusalKind.TheVariants.{PatternHasDefined, NotLeftLinear, LooseVariable}
use Rattle.lotos_ast.specs.declared.refusal.RefusalKind.TheVariants.{Overlap, NotDecreasing, UnknownGate}
use Rattle.lotos_ast.specs.declared.refusal.RefusalKind.TheVariants.{UnknownProcess, WrongCount, WrongFunctionality}
use Rattle.lotos_ast.specs.declared.refusal.RefusalKind.TheVariants.{Unguarded, External}
use Rattle.lotos_ast.specs.declared.refusal.Refusal.{Refusal}
use Rattle.lotos_ast.specs.declared.refusal.FrontFault.{FrontFault}
use Rattle.lotos_ast.specs.declared.refusal.FrontFault.TheVariants.{Refused, Memory}

abbrev pub number_of : RefusalKind → ℕ
number_of BadByte = 1
number_of OpenComment = 2
number_of Unexpected = 3
number_of TooDeep = 4
number_of TooLong = 5
number_of UnknownType = 6
number_of TypeCycle = 7
number_of UnknownSort = 8
number_of DuplicateName = 9
number_of BadRenaming = 10
number_of BadActual = 11
number_of UnknownName = 12
number_of NoReading = 13
number_of Ambiguous = 14
number_of ConstructorHasEquation = 15
number_of PatternHasDefined = 16
number_of NotLeftLinear = 17
number_of LooseVariable = 18
number_of Overlap = 19
number_of NotDecreasing = 20
number_of UnknownGate = 22
number_of UnknownProcess = 23
number_of WrongCount = 24
number_of WrongFunctionality = 25
number_of Unguarded = 26
number_of External = 27

-- the name by which a refusal of this kind is printed
abbrev pub name_of : RefusalKind → List ℕ
name_of BadByte = codes "BadByte"
name_of OpenComment = codes "OpenComment"
name_of Unexpected = codes "Unexpected"
name_of TooDeep = codes "TooDeep"
name_of TooLong = codes "TooLong"
name_of UnknownType = codes "UnknownType"
name_of TypeCycle = codes "TypeCycle"
name_of UnknownSort = codes "UnknownSort"
name_of DuplicateName = codes "DuplicateName"
name_of BadRenaming = codes "BadRenaming"
name_of BadActual = codes "BadActual"
name_of UnknownName = codes "UnknownName"
name_of NoReading = codes "NoReading"
name_of Ambiguous = codes "Ambiguous"
name_of ConstructorHasEquation = codes "ConstructorHasEquation"
name_of PatternHasDefined = codes "PatternHasDefined"
name_of NotLeftLinear = codes "NotLeftLinear"
name_of LooseVariable = codes "LooseVariable"
name_of Overlap = codes "Overlap"
name_of NotDecreasing = codes "NotDecreasing"
name_of UnknownGate = codes "UnknownGate"
name_of UnknownProcess = codes "UnknownProcess"
name_of WrongCount = codes "WrongCount"
name_of WrongFunctionality = codes "WrongFunctionality"
name_of Unguarded = codes "Unguarded"
name_of External = codes "External"

-- what holds of the refusal, where the fault is one
abbrev pub OnRefusal : FrontFault → (Refusal → Type 0) → Type 0
OnRefusal (Refused refusal) P = P refusal
OnRefusal Memory P = Unit {0}

-- what holds of the refusal, where the answer is one
abbrev pub IfRefused : {T : Type 0} → Result T FrontFault → (Refusal → Type 0) → Type 0
IfRefused (Ok value) P = Unit {0}
IfRefused (Err fault) P = OnRefusal fault P
