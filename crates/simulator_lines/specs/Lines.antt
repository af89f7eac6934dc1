-- Lines of the simulator (docs/FORMATS.md, "Lines of the simulator").
use Rattle.std.specs.Prelude.{ℕ, ◌≡◌, ◌++◌, ◌==◌, ◌||◌, ◌&&◌, not, min, List, [], ◌∷◌, Bool, true, false, codes, length}
use Rattle.std.specs.Char.{is_ascii_digit}
use Rattle.std.specs.List.{list_all}
use Rattle.spec_core.specs.Code.{Program}
use Rattle.script_text.specs.Numbers.{number_behind}
use Rattle.script_text.specs.Offers.{SpellsOffer}
use Rattle.script_text.specs.Scripts.{WishFits}
use Rattle.script_text.specs.Wishes.{Wished, wished_of}
use Rattle.simulator_lines.specs.declared.line.SimLine.{SimLine}
use Rattle.simulator_lines.specs.declared.line.SimLine.TheVariants.{Menu, Do, Offer, Trace, Quit}

-- what a line asks for: the steps that are possible; to do one of them; to do the first that meets an offer; what was done; nothing more
pub data Asked : Type 0 where
  menu : Asked
  step : ℕ → Asked
  offered : Wished → Asked
  trace : Asked
  quit : Asked

abbrev pub asked_of : SimLine → Asked
asked_of Menu = menu
asked_of (Do number) = step number
asked_of (Offer wish) = offered (wished_of wish)
asked_of Trace = trace
asked_of Quit = quit

-- decimal digits, one at least
abbrev pub are_digits : List ℕ → Bool
are_digits digits = list_all is_ascii_digit digits && not (length digits == 0)

-- 2^32 - 1, which stands for each greater number too
abbrev pub greatest : ℕ
greatest = 4294967295

abbrev pub number_in : List ℕ → ℕ
number_in digits = min (number_behind 0 digits) greatest

-- behind a word: a blank, a tab, a carriage return, or the bracket of a comment
abbrev pub stands_apart : List ℕ → Bool
stands_apart [] = false
stands_apart (b ∷ bs) = (b == 32) || (b == 9) || (b == 13) || (b == 40)

-- a line of several words
pub data IsLongLine (program : Program) (text : List ℕ) : Asked → Type 0 where
  step_line : (digits : List ℕ) → text ≡ codes "do " ++ digits → are_digits digits ≡ true → IsLongLine program text (step (number_in digits))
  offer_line : (rest : List ℕ) (w : Wished) → text ≡ codes "offer" ++ rest → stands_apart rest ≡ true → SpellsOffer program rest w →
      IsLongLine program text (offered w)

-- a line, byte by byte
pub data IsLine (program : Program) (text : List ℕ) : Asked → Type 0 where
  menu_line : text ≡ codes "menu" → IsLine program text menu
  trace_line : text ≡ codes "trace" → IsLine program text trace
  quit_line : text ≡ codes "quit" → IsLine program text quit
  long_line : {asked : Asked} → IsLongLine program text asked → IsLine program text asked

-- the text is no line
pub record IsNoLongLine (program : Program) (text : List ℕ) : Type 0 where
  pub none : (asked : Asked) → IsLongLine program text asked → ⊥

pub record IsNoLine (program : Program) (text : List ℕ) : Type 0 where
  pub none : (asked : Asked) → IsLine program text asked → ⊥

-- an offer is at a gate of the heading, over ground terms and sorts of the data
abbrev pub AskedFits : Program → Asked → Type 0
AskedFits program menu = Unit {0}
AskedFits program (step n) = Unit {0}
AskedFits program (offered w) = WishFits program w
AskedFits program trace = Unit {0}
AskedFits program quit = Unit {0}
