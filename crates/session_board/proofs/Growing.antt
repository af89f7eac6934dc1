-- How the list behind the lock grows.
use Rattle.std.proofs.Common.{ℕ, ◌+◌, ◌≡◌, ◌∙◌, refl, sym, ap, arith, List, [], ◌∷◌, ◌++◌, length, map, take, cond}
use Rattle.std.proofs.Common.{append-nil, append_assoc, Bool, true, false, Some, None}
use Rattle.std.specs.Prelude.{All}
use Rattle.std.specs.List.{AllByRecursion}
use Rattle.std.proofs.lemmas.List.{length-append, take-append-le}
use Rattle.std.proofs.lemmas.List.Elements.{All-append, All-from_recursion, All-nil, All-weaker, filter-append, recursion_from_All}
use Rattle.spec_core.specs.Lists.{Each}
use Rattle.turn_lock.specs.Entries.{is_named, Begins, Continues, made_by}
use Rattle.rule_model.specs.declared.log.Entry.{Entry}
use Rattle.rule_model.specs.Events.{Event, event_of, pended, acted, replied, stalled, left}
use Rattle.session_laws.specs.Logs.{IsOfClient}
use Rattle.session_board.specs.declared.line.Line.{Line}
use Rattle.session_board.specs.declared.line.Line.TheVariants.{Happened, Halted}
use Rattle.session_board.specs.declared.spot.Spot.{Spot}
use Rattle.session_board.specs.Answers.{IsSpot}
use Rattle.session_board.specs.Growing.{GrowsByNone}
use Rattle.session_board.specs.Lines.{actions_after, events_in, lines_of, maker_of, mark, seat_for}
use Rattle.session_board.specs.Shared.{SharedView, lines}
use Rattle.session_board.proofs.Lists.{lines_behind}

abbrev IsOfNone : Line → Type 0
IsOfNone line = maker_of line ≡ None

-- an entry that no client makes, no seat makes
none_makes : (event : Event) → (IsOfClient event → ⊥) → seat_for event ≡ None
none_makes (pended client number offer ask) h = absurd (h tt)
none_makes (acted action d by) h = refl
none_makes (replied client number answer) h = refl
none_makes (stalled names) h = refl
none_makes (left client) h = absurd (h tt)

none_make : (xs : List Entry) → Each (λ entry. IsOfClient (event_of entry) → ⊥) xs → AllByRecursion IsOfNone (map Happened xs)
none_make [] h = tt
none_make (x ∷ xs) h = (none_makes (event_of x) h.0, none_make xs h.1)

mark_of_none : (halted : Bool) → All IsOfNone (mark halted)
mark_of_none true = All-from_recursion IsOfNone (Halted ∷ []) (refl, tt)
mark_of_none false = All-nil IsOfNone

-- by entries that no client makes, and a mark
pub grows_by_none : (old new : SharedView) (more : List Entry) → old.halted ≡ false →
    new.board.session.entries ≡ old.board.session.entries ++ more → Each (λ entry. IsOfClient (event_of entry) → ⊥) more →
    GrowsByNone old new
grows_by_none old new more running grown own = (
  map Happened more ++ mark new.halted,
  ap (λ l. lines_of l new.halted) grown ∙ lines_behind old.board.session.entries more new.halted
      ∙ ap (λ b. lines_of old.board.session.entries b ++ (map Happened more ++ mark new.halted)) (sym running),
  All-append IsOfNone (map Happened more) (mark new.halted) (All-from_recursion IsOfNone (map Happened more) (none_make more own))
      (mark_of_none new.halted),
)

-- by nothing, or by a mark alone
pub grows_by_mark : (old new : SharedView) → old.halted ≡ false → new.board.session.entries ≡ old.board.session.entries → GrowsByNone old new
grows_by_mark old new running same = grows_by_none old new [] running (same ∙ sym (append-nil old.board.session.entries)) tt

pub stays_grown : (v : SharedView) → GrowsByNone v v
stays_grown v = ([], sym (append-nil (lines v)), All-nil IsOfNone)

-- by lines that none makes, and then by others
pub grows_on : (first second third : SharedView) → GrowsByNone first second → GrowsByNone second third → GrowsByNone first third
grows_on first second third g h = (
  g.0 ++ h.0,
  h.1 ∙ ap (λ l. l ++ h.0) g.1 ∙ append_assoc (lines first) g.0 h.0,
  All-append IsOfNone g.0 h.0 g.2 h.2,
)

-- what the seats know where the list grew by lines that none makes

pub continues_by_none : (n : ℕ) (xs ys : List Line) (more : List Line) → ys ≡ xs ++ more → All IsOfNone more → Continues maker_of n xs ys
continues_by_none n xs ys more grown none = (
  more,
  grown,
  All-weaker IsOfNone (λ line. (k : ℕ) → maker_of line ≡ Some k → k ≡ n)
      (λ line none k is. let never : ⊥ = cc in absurd never) more none,
)

none_made : (n : ℕ) (more : List Line) → AllByRecursion IsOfNone more → made_by maker_of n more ≡ []
none_made n [] h = refl
none_made n (line ∷ more) h =
    ap (λ m. cond (is_named n m) (line ∷ made_by maker_of n more) (made_by maker_of n more)) h.0 ∙ none_made n more h.1

pub made_by_none : (n : ℕ) (xs ys more : List Line) → ys ≡ xs ++ more → All IsOfNone more → made_by maker_of n ys ≡ made_by maker_of n xs
made_by_none n xs ys more grown none =
    ap (made_by maker_of n) grown ∙ filter-append (λ line. is_named n (maker_of line)) xs more
    ∙ ap (λ l. made_by maker_of n xs ++ l) (none_made n more (recursion_from_All IsOfNone more none)) ∙ append-nil (made_by maker_of n xs)

-- a spot stays one where the list goes on
pub spot_stays : (xs ys : List Line) (spot : Spot) → Begins xs ys → IsSpot xs spot → IsSpot ys spot
spot_stays xs ys spot begins is =
    let longer : length ys ≡ length xs + length begins.0 = ap length begins.1 ∙ length-append xs begins.0 in
    record {
      within = omega (arith, longer, is.within);
      actions =
          is.actions
          ∙ ap (λ l. actions_after 0 (events_in l)) (sym (ap (take spot.lines) begins.1 ∙ take-append-le spot.lines xs begins.0 is.within));
    }
