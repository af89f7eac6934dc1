-- How the pieces of a term are read from the right: each operation's arguments, and their sorts, are known when its name comes.
use Rattle.std.specs.Prelude.{ℕ, suc, ◌-◌, ◌&&◌, Bool, true, if◌then◌else◌, List, [], ◌∷◌, ◌++◌, length, take, drop, Option, Some, None}
use Rattle.std.specs.Prelude.{option_map}
use Rattle.std.specs.List.{slice_get}
use Rattle.std.specs.Str.{bytes_eq}
use Rattle.spec_core.specs.Theories.{Operation, Theory}
use Rattle.value_text.specs.Values.{name_at}
use Rattle.value_reader.specs.Items.{Piece, word, opening, closing, comma, of_sort, other, items}
use Rattle.value_reader.specs.Extents.{extent, start}

-- a bracket whose term is being read: the sort that stands behind it, how many sorts there were before its arguments, and the word
-- between two of them
pub record Bracket : Type 0 where
  pub sort : Option (List ℕ)
  pub base : ℕ
  pub between : Option (List ℕ)

-- a term is to come, of this sort where one is written; a term was read; or the name of an operation over arguments is to come
pub data Stand : Type 0 where
  expects : Option (List ℕ) → Stand
  has_term : Stand
  calls : Option (List ℕ) → ℕ → Stand

-- with the innermost bracket first, the sorts of the terms that were read from the left on, and the operations in preorder
pub record State : Type 0 where
  pub stand : Stand
  pub brackets : List Bracket
  pub sorts : List ℕ
  pub value : List ℕ

-- the place of the first that passes
abbrev pub first_at : (Operation → Bool) → List Operation → Option ℕ
first_at p [] = None
first_at p (d ∷ ds) = if p d then Some 0 else option_map suc (first_at p ds)

abbrev pub is_written : List (List ℕ) → Option (List ℕ) → Operation → Bool
is_written sorts None d = true
is_written sorts (Some w) d = bytes_eq (name_at sorts d.result) w

-- the operation has this name and these argument sorts, and its result sort this name where one is written
abbrev pub is_call : List (List ℕ) → List ℕ → List ℕ → Option (List ℕ) → Operation → Bool
is_call sorts name args sort d = (bytes_eq d.name name && bytes_eq d.args args) && is_written sorts sort d

abbrev pub result_of : Option Operation → ℕ
result_of None = 0
result_of (Some d) = d.result

-- the name of an operation that stands between its arguments
abbrev pub underscored : List ℕ → List ℕ
underscored w = 95 ∷ (w ++ 95 ∷ [])

module _ (theory : Theory) where
  -- the operation f over the first n of the terms that were read
  abbrev pub with_operation : List Bracket → List ℕ → List ℕ → ℕ → ℕ → State
  with_operation brackets sorts value n f = record {
    stand = has_term;
    brackets = brackets;
    sorts = result_of (slice_get theory.operations f) ∷ drop n sorts;
    value = f ∷ value;
  }

  -- the operation of this name over the terms that were read behind so many others
  abbrev pub applied : List ℕ → ℕ → Option (List ℕ) → List Bracket → List ℕ → List ℕ → Option State
  applied name base sort brackets sorts value =
      option_map (with_operation brackets sorts value (length sorts - base))
      (first_at (is_call theory.sorts name (take (length sorts - base) sorts) sort) theory.operations)

  -- a bracket opens: behind a word between the arguments this is their operation, else the name is still to come
  abbrev pub opened_by : Option (List ℕ) → Bracket → List Bracket → List ℕ → List ℕ → Option State
  opened_by (Some w) b bs sorts value = applied (underscored w) b.base b.sort bs sorts value
  opened_by None b bs sorts value = Some (record { stand = calls b.sort b.base; brackets = bs; sorts = sorts; value = value })

  -- what each piece does: of a term that is to come, of one that was read, and of an operation whose name is to come
  abbrev pub step_before : Piece → Option (List ℕ) → List Bracket → List ℕ → List ℕ → Option State
  step_before (word w) sort bs sorts value = applied w (length sorts) sort bs sorts value
  step_before closing sort bs sorts value =
      Some (record {
        stand = expects None;
        brackets = record { sort = sort; base = length sorts; between = None } ∷ bs;
        sorts = sorts;
        value = value;
      })
  step_before (of_sort w) sort bs sorts value = Some (record { stand = expects (Some w); brackets = bs; sorts = sorts; value = value })
  step_before opening sort bs sorts value = None
  step_before comma sort bs sorts value = None
  step_before other sort bs sorts value = None

  abbrev pub step_behind : Piece → List Bracket → List ℕ → List ℕ → Option State
  step_behind (word w) (b ∷ bs) sorts value =
      Some (record { stand = expects None; brackets = record b { between = Some w } ∷ bs; sorts = sorts; value = value })
  step_behind opening (b ∷ bs) sorts value = opened_by b.between b bs sorts value
  step_behind comma bs sorts value = Some (record { stand = expects None; brackets = bs; sorts = sorts; value = value })
  step_behind _ bs sorts value = None

  abbrev pub step_call : Piece → Option (List ℕ) → ℕ → List Bracket → List ℕ → List ℕ → Option State
  step_call (word w) sort base bs sorts value = applied w base sort bs sorts value
  step_call opening sort base bs sorts value = None
  step_call closing sort base bs sorts value = None
  step_call comma sort base bs sorts value = None
  step_call (of_sort w) sort base bs sorts value = None
  step_call other sort base bs sorts value = None

  abbrev pub step_at : Stand → Piece → List Bracket → List ℕ → List ℕ → Option State
  step_at (expects sort) p bs sorts value = step_before p sort bs sorts value
  step_at has_term p bs sorts value = step_behind p bs sorts value
  step_at (calls sort base) p bs sorts value = step_call p sort base bs sorts value

  abbrev pub step : Piece → State → Option State
  step p s = step_at s.stand p s.brackets s.sorts s.value

  abbrev pub step_on : Piece → Option State → Option State
  step_on p None = None
  step_on p (Some s) = step p s

  -- all pieces, from the right
  abbrev pub run : List Piece → State → Option State
  run [] s = Some s
  run (p ∷ ps) s = step_on p (run ps s)

-- nothing was read yet
abbrev pub nothing_read : State
nothing_read = record { stand = expects None; brackets = []; sorts = []; value = [] }

-- the value of one whole term
abbrev pub whole_at : Stand → List Bracket → List ℕ → List ℕ → Option (List ℕ)
whole_at has_term [] (a ∷ []) value = Some value
whole_at stand brackets sorts value = None

abbrev pub whole_value : State → Option (List ℕ)
whole_value s = whole_at s.stand s.brackets s.sorts s.value

abbrev pub whole_of : Option State → Option (List ℕ)
whole_of None = None
whole_of (Some s) = whole_value s

-- what is read of the term with which a text begins
abbrev pub read_in : Theory → List ℕ → Option (List ℕ)
read_in theory text = whole_of (run theory (extent (items text) start) nothing_read)
