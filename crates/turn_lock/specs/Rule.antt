-- The rule of the lock: which seat has which ticket, where the value is, and what each seat has seen of the list.
-- The lock has three words, `ticket` (the next ticket), `serving` (the ticket whose turn it is) and the length of the list,
-- behind them the bells, at which threads sleep, and one slot for the value.
use Rattle.std.specs.Prelude.{◌≡◌, ◌⊎◌, ℕ, ◌^◌, ◌<◌, ◌≤◌, Bool, true, false, List, [], ◌∷◌, length, Option, Some}
use mathlib.Core.Option.{some, none}
use mathlib.Core.Option as maybe
use lib.ListN.{get_elem?}
use Rattle.atomic_table.specs.Table.{State}
use Rattle.turn_lock.specs.declared.rule.Account.{Account}
use Rattle.turn_lock.specs.declared.rule.Origin.{Origin}
use Rattle.turn_lock.specs.declared.rule.View.{View}
use Rattle.turn_lock.specs.declared.rule.Phase.{Phase}
use Rattle.turn_lock.specs.declared.rule.Phase.TheVariants.{Idle, Drawn, Called, Published}
use Rattle.turn_lock.specs.Entries.{Begins, made_by, NamesBelow}

-- a seat in this phase has this ticket
abbrev pub HasTicket : ℕ → Phase → Type 0
HasTicket t Idle = ⊥
HasTicket t (Drawn u) = u ≡ t
HasTicket t (Called u) = u ≡ t
HasTicket t (Published u) = u ≡ t

-- a seat in this phase has the slot
abbrev pub HasSlot : Phase → Type 0
HasSlot Idle = ⊥
HasSlot (Drawn t) = ⊥
HasSlot (Called t) = Unit {0}
HasSlot (Published t) = Unit {0}

-- What the rule says of the phase of the view j, which has seen a list. `holder t` is the view with ticket t, so two views
-- have different tickets. Whoever has the slot has the ticket that is served, and has seen the longest list
module _ {E : Type 0} (serving ticket : ℕ) (longest : List E) (out : Bool) (holder : ℕ → ℕ) (j : ℕ) where
  abbrev pub FitsPhase : List E → Phase → Type 0
  FitsPhase seen Idle = Unit {0}
  FitsPhase seen (Drawn t) = (serving ≤ t) × (t < ticket) × (holder t ≡ j) × (t ≡ serving → out ≡ false)
  FitsPhase seen (Called t) = (serving ≡ t) × (t < ticket) × (holder t ≡ j) × (out ≡ true) × (seen ≡ longest)
  FitsPhase seen (Published t) = (serving ≡ t) × (t < ticket) × (holder t ≡ j) × (out ≡ true) × (seen ≡ longest)

module _ {E : Type 0} where
  -- one of the accounts has this number
  abbrev pub HasNumber : ℕ → List (Account E) → Type 0
  HasNumber n [] = ⊥
  HasNumber n (a ∷ rest) = (a.number ≡ n) ⊎ HasNumber n rest

  -- the numbers of the accounts are all different
  abbrev pub AllDiffer : List (Account E) → Type 0
  AllDiffer [] = Unit {0}
  AllDiffer (a ∷ rest) = (¬ HasNumber a.number rest) × AllDiffer rest

module _ {E F : Type 0} where
  -- a view's own account, and those of the seats that were joined into it
  abbrev pub accounts_of : View E F → List (Account E)
  accounts_of v = v.account ∷ v.joined

  -- the view isn't spent, and has an account with this number
  abbrev pub AnswersFor : ℕ → View E F → Type 0
  AnswersFor n v = (v.spent ≡ false) × HasNumber n (accounts_of v)

-- What the rule says of an account that the view j has. `place n` is the view that answers for the number n, so two views
-- have different numbers
module _ {E : Type 0} (maker : E → Option ℕ) (longest : List E) (made : ℕ) (place : ℕ → ℕ) (j : ℕ) where
  pub record FitsList (a : Account E) : Type 0 where
    pub prefix : Begins a.seen longest
    pub own : made_by maker a.number longest ≡ a.own
    pub below : a.number < made
    pub here : place a.number ≡ j

  abbrev pub AllFit : List (Account E) → Type 0
  AllFit [] = Unit {0}
  AllFit (a ∷ rest) = FitsList a × AllFit rest

module _ {T E F : Type 0} (list : T → List E) (fixed : T → F) where
  -- what the lock was made with
  abbrev pub origin_of : T → ℕ → Origin E F
  origin_of x seats = record { opening = list x; fixed = Some (fixed x); seats = seats }

  -- the slot is out, or is at home with a value that has this list and this fixed part
  abbrev pub IsSlot : F → Bool → List E → List (maybe.Option (Option T)) → Type 0
  IsSlot same true longest homes = homes ≡ none ∷ []
  IsSlot same false longest homes = (x : T) × (homes ≡ some (Some x) ∷ []) × (list x ≡ longest) × (fixed x ≡ same)

module _ {T E F : Type 0} (list : T → List E) (fixed : T → F) (maker : E → Option ℕ) where
  -- the view of the first seat of a lock round x
  abbrev pub first_view : T → ℕ → View E F
  first_view x seats = record {
    account = record { number = 0; seen = list x; own = made_by maker 0 (list x) };
    joined = [];
    phase = Idle;
    spent = false;
    is_first = true;
    next = 1;
    origin = origin_of list fixed x seats;
  }

  -- What the rule says of the view j. A spent view is only idle
  pub record FitsView (origin : Origin E F) (serving ticket made : ℕ) (longest : List E) (out : Bool) (holder place : ℕ → ℕ)
      (first_at j : ℕ) (v : View E F) : Type 0 where
    pub origin_stays : v.spent ≡ false → v.origin ≡ origin
    pub spent_is_idle : v.spent ≡ true → v.phase ≡ Idle
    pub phase : FitsPhase serving ticket longest out holder j v.account.seen v.phase
    pub accounts : v.spent ≡ false → AllFit maker longest made place j (accounts_of v)
    pub different : v.spent ≡ false → AllDiffer (accounts_of v)
    pub first : v.is_first ≡ true → (v.spent ≡ false) × (v.next ≡ made) × (j ≡ first_at)

  -- The rule, of a lock that was made round `opened` with so many seats. It says what is there: the next ticket, the ticket
  -- that is served, the bells, the longest list, whether the slot is out, how many numbers were made, the view with each
  -- ticket, the view that answers for each number, and where the first seat's view stands
  pub record KeepsRule (opened : T) (seats : ℕ) (s : State (Option T) (View E F)) : Type 0 where
    pub ticket : ℕ
    pub serving : ℕ
    pub bells : List ℕ
    pub longest : List E
    pub out : Bool
    pub made : ℕ
    pub holder : ℕ → ℕ
    pub place : ℕ → ℕ
    pub first_at : ℕ
    -- the bells may hold anything
    pub words_are : s.words ≡ ticket ∷ serving ∷ length longest ∷ bells
    pub ordered : (serving ≤ ticket) × (ticket < 2 ^ 64) × (made ≤ seats)
    -- at home the slot has a value with the longest list and the lock's fixed part
    pub slot : IsSlot list fixed (fixed opened) out longest s.homes
    pub began : Begins (list opened) longest
    -- the entries name seats of the lock alone
    pub named : NamesBelow maker seats longest
    -- a number that isn't made yet has its entries of the opening list and no others
    pub unmade : (n : ℕ) → made ≤ n → made_by maker n longest ≡ made_by maker n (list opened)
    pub each : (j : ℕ) (v : View E F) → get_elem? s.views j ≡ some v
        → FitsView (origin_of list fixed opened seats) serving ticket made longest out holder place first_at j v
    -- each ticket from `serving` up to below `ticket` has its view
    pub queue : (t : ℕ) → serving ≤ t → t < ticket → (v : View E F) × (get_elem? s.views (holder t) ≡ some v) × HasTicket t v.phase
    -- where the slot is out, the view with the served ticket has it
    pub busy : out ≡ true → (v : View E F) × (get_elem? s.views (holder serving) ≡ some v) × HasSlot v.phase
    -- the first seat has its view, whose next number is `made`
    pub first_seat : (v : View E F) × (get_elem? s.views first_at ≡ some v) × (v.is_first ≡ true)
    -- each number that was made has its view
    pub numbers : (n : ℕ) → n < made → (v : View E F) × (get_elem? s.views (place n) ≡ some v) × AnswersFor n v
