-- What the program answers to searches that still ask something, and which of it is taken on. Some of what is asked is out: somebody works
-- at it.
use Rattle.std.specs.Prelude.{◌≡◌, List, fold, filter, not, Option, Bool, true, false}
use Rattle.decision_trees.specs.Lazy.{first}
use Rattle.decision_order.specs.declared.asking.Asked.{Asked}
use Rattle.decision_order.specs.declared.asking.Asked.TheVariants.{Full, Held, Unheld}

-- the questions that aren't out, in order
abbrev pub not_out : {Q : Type 0} → (Q → Bool) → List Q → List Q
not_out is_out questions = filter (λ q. not (is_out q)) questions

abbrev pub first_not_out : {Q : Type 0} → (Q → Bool) → List Q → Option Q
first_not_out is_out questions = first (not_out is_out questions)

-- what is taken on, after these questions, with what was; how one question is taken on is given
abbrev pub taken_on : {Q : Type 0} → (List Q → Q → List Q) → List Q → List Q → List Q
taken_on take taken questions = fold take taken questions

-- the search was gone through, and whether a candidate is known to hold; or so many questions are taken on that no more are
abbrev pub Tells : {Q : Type 0} → (List Q → Q → List Q) → List Q → Bool → Asked → Type 0
Tells {Q = Q} take taken is_there Full = (questions : List Q) → taken_on take taken questions ≡ taken
Tells take taken is_there Held = is_there ≡ true
Tells take taken is_there Unheld = is_there ≡ false
