-- Scripts: what each client wishes, line by line (docs/FORMATS.md, "Scripts").
use Rattle.std.specs.Prelude.{ℕ, zero, suc, ◌+◌, ◌<◌, ◌≤◌, ◌==◌, ◌≡◌, max, List, [], ◌∷◌, ◌++◌, length}
use Rattle.std.specs.Prelude.{if◌then◌else◌, Option, Some, None, option_to_list}
use Rattle.std.specs.Str.Lines.{lines}
use Rattle.lotos_ast.specs.declared.text_kind.TextKind.{TextKind}
use Rattle.lotos_ast.specs.declared.text_kind.TextKind.TheVariants.{Long}
use Rattle.spec_core.specs.Code.{Program}
use Rattle.spec_core.specs.Lists.{Each}
use Rattle.spec_core.specs.Sorts.{FitsGround, IsDeclaredSort}
use Rattle.spec_core.specs.Theories.{Theory}
use Rattle.sort_overloads.specs.Readings.{Context}
use Rattle.script_text.specs.Faults.{IsLineFault}
use Rattle.script_text.specs.Meanings.{context_in, LineMeans}
use Rattle.script_text.specs.Wishes.{WishedField, gives, takes, Wished, ClientWish}
use Rattle.script_text.specs.Written.{Line, IsLine}

-- the greatest number of bytes in a script, 2^20
abbrev pub script_limit : ℕ
script_limit = 1048576

-- what a line says: nothing, or what one client wishes
pub data LineSays (c : Context) (gates : List (List ℕ)) (text : List ℕ) : Option ClientWish → Type 0 where
  nothing_said : IsLine text None → LineSays c gates text None
  wish_said : (l : Line) (x : ClientWish) → IsLine text (Some l) → LineMeans c gates l x → LineSays c gates text (Some x)

-- what lines say, one after another
pub data LinesSay (c : Context) (gates : List (List ℕ)) : List (List ℕ) → List ClientWish → Type 0 where
  no_lines : LinesSay c gates [] []
  more_lines : {text : List ℕ} {texts : List (List ℕ)} {all : List ClientWish} (x : Option ClientWish) (said : List ClientWish) →
      LineSays c gates text x → LinesSay c gates texts said → all ≡ option_to_list x ++ said → LinesSay c gates (text ∷ texts) all

-- the wishes of one client, in the order of the lines
abbrev pub wishes_of : ℕ → List ClientWish → List Wished
wishes_of k [] = []
wishes_of k (x ∷ xs) = if x.client == k then x.wish ∷ wishes_of k xs else wishes_of k xs

-- the greatest number of a client; 0 where there is none
abbrev pub greatest_client : List ClientWish → ℕ
greatest_client [] = 0
greatest_client (x ∷ xs) = max x.client (greatest_client xs)

-- the wishes of the clients 1 to n
abbrev pub wishes_up_to : ℕ → List ClientWish → List (List Wished)
wishes_up_to zero said = []
wishes_up_to (suc n) said = wishes_up_to n said ++ wishes_of (suc n) said ∷ []

-- the wishes of each client, from client 1 to the one with the greatest number
abbrev pub by_client : List ClientWish → List (List Wished)
by_client said = wishes_up_to (greatest_client said) said

-- the text is a script in which each client, from client 1 on, has these wishes
pub record SpellsScript (program : Program) (text : List ℕ) (clients : List (List Wished)) : Type 0 where
  pub short : length text ≤ script_limit
  pub said : List ClientWish
  pub say : LinesSay (context_in program.theory) program.gates (lines text) said
  pub each_client : clients ≡ by_client said

-- a term that is given is a ground term of the data, and a sort that is taken is one of the data
abbrev pub FieldFits : Theory → WishedField → Type 0
FieldFits theory (gives t) = FitsGround theory t
FieldFits theory (takes sort) = IsDeclaredSort theory sort

-- the gate is one of the heading, and each field fits
pub record WishFits (program : Program) (w : Wished) : Type 0 where
  pub gate : w.gate < length program.gates
  pub fields : Each (FieldFits program.theory) w.fields

-- of these lines, the first that says nothing right is the one behind so many others, and its fault is of this kind
pub record IsFirstFault (c : Context) (gates : List (List ℕ)) (texts : List (List ℕ)) (count : ℕ) (kind : TextKind) : Type 0 where
  pub before : List (List ℕ)
  pub text : List ℕ
  pub behind : List (List ℕ)
  pub parts : texts ≡ before ++ text ∷ behind
  pub counted : count ≡ length before
  pub said : List ClientWish
  pub say : LinesSay c gates before said
  pub fault : IsLineFault c gates text kind

-- why a text is no script: it is too long, with line 0; or the first line at fault, lines being counted from 1
pub data IsScriptFault (program : Program) (text : List ℕ) : ℕ → TextKind → Type 0 where
  too_long : {number : ℕ} {kind : TextKind} → script_limit < length text → number ≡ 0 → kind ≡ Long → IsScriptFault program text number kind
  at_line : {number : ℕ} {kind : TextKind} (count : ℕ) → length text ≤ script_limit → number ≡ count + 1 →
      IsFirstFault (context_in program.theory) program.gates (lines text) count kind → IsScriptFault program text number kind
