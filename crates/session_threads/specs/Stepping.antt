-- Who is served turn by turn. (This profile.)
use Rattle.std.specs.Prelude.{◌≡◌, ◌++◌, ◌∷◌, List, false, map}
use Rattle.rule_model.specs.Wishes.{Wish}
use Rattle.rule_model.specs.declared.wish.ClientWish.{ClientWish}
use Rattle.rule_model.specs.WishViews.{wish_of}
use Rattle.session.specs.Passes.{PassView, HasLeft}
use Rattle.session.specs.Sessions.{SessionView, IsClientOf, IsWorkerOf, who_of}
use Rattle.session.specs.Waiting.{WaitingView}
use Rattle.session_threads.specs.declared.rows.Row.{Row}
use Rattle.session_threads.specs.declared.rows.Row.TheVariants.{Client, Worker}
use Rattle.session_threads.specs.declared.stepping.Stepped.{Stepped}
use Rattle.session_threads.specs.declared.stepping.Stepped.TheVariants.{Resting, Waiting, Working, Over}
use Rattle.session_threads.specs.Rows.{wishes_made, FitSession, IsServed}

-- A client of the session hasn't left, and its wishes are those that it has made and those that are left, which fit the session.
pub record IsResting (s : SessionView) (wishes : List ClientWish) (pass : PassView) (left : List ClientWish) : Type 0 where
  pub ours : IsClientOf s pass
  pub stays : HasLeft pass → ⊥
  pub fit : FitSession s (map wish_of left)
  pub made : map wish_of wishes ≡ wishes_made pass ++ map wish_of left

abbrev pub wish_awaited : WaitingView → Wish
wish_awaited w = record { offer = w.offer; ask = w.ask }

-- so it is, but for the wish of which it awaits the answer
pub record IsAwaiting (s : SessionView) (wishes : List ClientWish) (w : WaitingView) (left : List ClientWish) : Type 0 where
  pub ours : IsClientOf s w.before
  pub stays : HasLeft w.before → ⊥
  pub fit : FitSession s (map wish_of left)
  pub made : map wish_of wishes ≡ wishes_made w.before ++ wish_awaited w ∷ map wish_of left

-- what is known of who is served
abbrev pub IsSound : SessionView → Stepped → Type 0
IsSound s (Resting pass wishes left) = IsResting s wishes.now pass left.now
IsSound s (Waiting pass wishes left) = IsAwaiting s wishes.now pass left.now
IsSound s (Working pass) = IsWorkerOf s (who_of pass)
IsSound s (Over new) = IsServed new

-- who is served, as a row
abbrev pub row_of : Stepped → Row
row_of (Resting pass wishes left) = Client pass wishes false
row_of (Waiting pass wishes left) = Client pass.before wishes false
row_of (Working pass) = Worker pass false
row_of (Over row) = row

-- who has done all that it was to do
abbrev pub IsAllDone : Stepped → Type 0
IsAllDone (Over new) = IsServed new
IsAllDone _ = ⊥
