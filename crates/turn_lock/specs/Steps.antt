-- What each step tells the seat that makes it.
use Rattle.std.specs.Prelude.{◌≡◌, ◌≢◌, ℕ, ◌+◌, ◌||◌, Bool, true, false, cond, drop, List, [], ◌∷◌, ◌++◌, length, Option, Some, None}
use Rattle.atomic_table.specs.Table.{Me, Step}
use Rattle.atomic_table.specs.declared.shared.Seat.{Seat}
use Rattle.turn_lock.specs.declared.rule.View.{View}
use Rattle.turn_lock.specs.declared.rule.Phase.{Phase}
use Rattle.turn_lock.specs.declared.rule.Phase.TheVariants.{Idle, Drawn, Called, Published}
use Rattle.turn_lock.specs.Entries.{Begins, made_by, NamesBelow}
use Rattle.turn_lock.specs.Rule.{accounts_of}

-- whether a seat in this phase is in its turn, or waits for it
abbrev pub is_in_turn : Phase → Bool
is_in_turn Idle = false
is_in_turn (Drawn t) = true
is_in_turn (Called t) = true
is_in_turn (Published t) = true

module _ {E F : Type 0} where
  -- the view in another phase
  abbrev pub in_phase : View E F → Phase → View E F
  in_phase v phase = record v { phase = phase }

  -- the view in another phase, with other lists
  abbrev pub with_lists : View E F → Phase → List E → List E → View E F
  with_lists v phase seen own = record v { phase = phase; account = record v.account { seen = seen; own = own } }

module _ {T E F : Type 0} where
  -- the seat has no ticket and no slot
  abbrev pub IsResting : Seat (Option T) (View E F) → Type 0
  IsResting s = (s.me.0.phase ≡ Idle) × (s.me.0.spent ≡ false) × (s.me.1 ≡ [])

  -- the seat was called, and has the slot, whose value was taken out
  abbrev pub HasTurn : Seat (Option T) (View E F) → Type 0
  HasTurn s = ((t : ℕ) × (s.me.0.phase ≡ Called t)) × (s.me.0.spent ≡ false) × (s.me.1 ≡ (0, None) ∷ [])

  -- a seat between two calls rests or has the turn
  abbrev pub IsBetweenCalls : Seat (Option T) (View E F) → Type 0
  IsBetweenCalls s = (is_in_turn s.me.0.phase ≡ false → IsResting s) × (is_in_turn s.me.0.phase ≡ true → HasTurn s)

  -- draw a ticket: where the word was as expected, the seat has it as its ticket
  abbrev pub drew : Step (Option T) → Me (Option T) (View E F) → ℕ → Me (Option T) (View E F) → Type 0
  drew st m found m' = (found ≡ st.first → m' ≡ (in_phase m.0 (Drawn found), m.1)) × (found ≢ st.first → m' ≡ m)

  -- pass the turn: the seat is idle, and the slot goes home
  abbrev pub passed : Step (Option T) → Me (Option T) (View E F) → ℕ → Me (Option T) (View E F) → Type 0
  passed st m found m' = m' ≡ (in_phase m.0 Idle, [])

  -- ring a bell: the seat stays as it is
  abbrev pub rang : Step (Option T) → Me (Option T) (View E F) → ℕ → Me (Option T) (View E F) → Type 0
  rang st m found m' = m' ≡ m

  module _ (list : T → List E) (fixed : T → F) (maker : E → Option ℕ) where
    -- What is known of the value that a seat gets with its turn: its list begins with all that the seat has seen, the
    -- seat's own entries there are those that it made, the entries name seats of the lock alone, and its fixed part is the
    -- lock's. The lock's fixed part and the number of its seats are named by the caller
    pub record Gets (fixed_part : Option F) (seats : ℕ) (v : View E F) (x : T) : Type 0 where
      pub prefix : Begins v.account.seen (list x)
      pub own : made_by maker v.account.number (list x) ≡ v.account.own
      pub named : NamesBelow maker seats (list x)
      pub fixed_stays : Some (fixed x) ≡ fixed_part

    -- look: where the seat's ticket is served, it is called, and it gets the slot with a value, whose list it has then seen
    abbrev pub looked : Option F → ℕ → Step (Option T) → Me (Option T) (View E F) → ℕ → Me (Option T) (View E F) → Type 0
    looked fixed_part seats st m found m' = (t : ℕ) → m.0.phase ≡ Drawn t
        → (found ≡ t →
        (x : T) × (m' ≡ (with_lists m.0 (Called t) (list x) m.0.account.own, (0, Some x) ∷ m.1)) × Gets fixed_part seats m.0 x) ×
        (found ≢ t → m' ≡ m)

  -- publish the length of the list that is given: the seat has seen that list, and made its own entries there
  abbrev pub published : (E → Option ℕ) → List E → Step (Option T) → Me (Option T) (View E F) → ℕ → Me (Option T) (View E F) → Type 0
  published maker given st m found m' =
      (t : ℕ) → m.0.phase ≡ Called t → m' ≡ (with_lists m.0 (Published t) given (made_by maker m.0.account.number given), m.1)

module _ {E F : Type 0} where
  -- the first seat after a split: its next number is one more
  abbrev pub after_split : View E F → View E F
  after_split v = record v { next = v.next + 1 }

  -- the new seat of a split: it has seen the same, and its own entries are those of the opening list
  abbrev pub new_view : (E → Option ℕ) → View E F → View E F
  new_view maker v = record {
    account = record { number = v.next; seen = v.account.seen; own = made_by maker v.next v.origin.opening };
    joined = [];
    phase = Idle;
    spent = false;
    is_first = false;
    next = 0;
    origin = v.origin;
  }

  -- a seat into which another was joined: it keeps the longer of the two lists, of which the other is a beginning, and the
  -- accounts of both
  abbrev pub after_join : View E F → View E F → View E F
  after_join v w = record v {
    account = record v.account { seen = v.account.seen ++ drop (length v.account.seen) w.account.seen };
    joined = accounts_of w ++ v.joined;
    is_first = v.is_first || w.is_first;
    next = cond w.is_first w.next v.next;
  }

  -- a seat that was joined into another
  abbrev pub spent_view : View E F
  spent_view = record {
    account = record { number = 0; seen = []; own = [] };
    joined = [];
    phase = Idle;
    spent = true;
    is_first = false;
    next = 0;
    origin = record { opening = []; fixed = None; seats = 0 };
  }
