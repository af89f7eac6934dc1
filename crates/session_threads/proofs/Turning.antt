-- Who is served turn by turn.
use Rattle.std.proofs.Common.{◌≡◌, ◌∙◌, arith, ap, append-nil, append_assoc, length, map, refl, subst, sym, Bool, Bor, false, List, [], ◌∷◌, ◌++◌}
use Rattle.std.specs.List.{IsFirstAndRest}
use Rattle.rule_model.specs.Answers.{Answer}
use Rattle.rule_model.specs.declared.wish.ClientWish.{ClientWish}
use Rattle.rule_model.specs.WishViews.{wish_of}
use Rattle.session.specs.Passes.{PassView, KnowsAnswer, SamePass}
use Rattle.session.specs.Sessions.{SessionView}
use Rattle.session.specs.Waiting.{WaitingView}
use Rattle.session_threads.specs.declared.rows.Row.{Row}
use Rattle.session_threads.specs.declared.rows.Row.TheVariants.{Client, Worker}
use Rattle.session_threads.specs.declared.rows.ServedClient.{ServedClient}
use Rattle.session_threads.specs.Rows.{wishes_made, FitSession, IsReadyClient, IsServedClient, SameRow}
use Rattle.session_threads.specs.Stepping.{IsAwaiting, IsResting, wish_awaited}
use Rattle.session_threads.proofs.Wishing.{new_stays, nothing_wished, one_wish_more, same_client, stays_on}

-- a client that has done nothing yet
pub resting_first : (s : SessionView) (pass : PassView) (wishes : List ClientWish) → IsReadyClient s pass wishes → IsResting s wishes pass wishes
resting_first s pass wishes h = record {
  ours = h.0;
  stays = new_stays pass h.1;
  fit = h.2;
  made = ap (λ l. l ++ map wish_of wishes) (sym (nothing_wished pass h.1));
}

-- a client that wasn't begun with in a thread
pub here_unbegun : (s : SessionView) (pass : PassView) (wishes : Bor (List ClientWish)) (was_done : Bool) (served : ServedClient) →
    served.is_begun ≡ false → IsReadyClient s pass wishes.now → IsServedClient pass wishes.now served →
    SameRow (Client pass wishes was_done) (Client served.pass wishes false) × IsResting s wishes.now served.pass wishes.now
here_unbegun s pass wishes was_done served unbegun ready is = (
  (is.same, refl),
  subst (λ (p : PassView). IsResting s wishes.now p wishes.now) (sym (is.not_begun unbegun)) (resting_first s pass wishes.now ready),
)

-- where nothing is left
pub all_made : (wishes left : List ClientWish) (p q : PassView) → length left ≡ 0 → map wish_of wishes ≡ wishes_made p ++ map wish_of left →
    wishes_made q ≡ wishes_made p → wishes_made q ≡ map wish_of wishes
all_made wishes [] p q none made same = same ∙ sym (append-nil (wishes_made p)) ∙ sym made
all_made wishes (wish ∷ left) p q none made same = absurd (omega (arith, none))

-- the first that is left, and the others
pub first_fits : (s : SessionView) (left : List ClientWish) (wish : ClientWish) (rest : List ClientWish) → IsFirstAndRest left wish rest →
    FitSession s (map wish_of left) → FitSession s (map wish_of (wish ∷ rest))
first_fits s left wish rest is fit = subst (λ l. FitSession s (map wish_of l)) is.0 fit

-- a client makes its offer
pub awaits : (s : SessionView) (wishes left : List ClientWish) (pass : PassView) (wish : ClientWish) (rest : List ClientWish) (w : WaitingView) →
    IsResting s wishes pass left → IsFirstAndRest left wish rest → w ≡ record { before = pass; offer = wish.offer; ask = wish.ask } →
    IsAwaiting s wishes w rest
awaits s wishes left pass wish rest w h is same =
    let now : WaitingView = record { before = pass; offer = wish.offer; ask = wish.ask } in
    let awaiting : IsAwaiting s wishes now rest = record {
      ours = h.ours;
      stays = h.stays;
      fit = (first_fits s left wish rest is h.fit).1;
      made = h.made ∙ ap (λ l. wishes_made pass ++ map wish_of l) is.0;
    } in
    subst (λ v. IsAwaiting s wishes v rest) (sym same) awaiting

-- and has its answer
pub rests_again : (s : SessionView) (wishes left : List ClientWish) (w : WaitingView) (pass : PassView) (answer : Answer) →
    IsAwaiting s wishes w left → SamePass w.before pass → KnowsAnswer w.before w.offer w.ask answer pass → IsResting s wishes pass left
rests_again s wishes left w pass answer h same knows = record {
  ours = same_client s w.before pass h.ours same;
  stays = stays_on w.before pass w.offer w.ask answer knows same h.stays;
  fit = h.fit;
  made =
      h.made ∙ sym (append_assoc (wishes_made w.before) (wish_awaited w ∷ []) (map wish_of left))
      ∙ ap (λ l. l ++ map wish_of left) (sym (one_wish_more w.before pass w.offer w.ask answer knows same));
}

-- rows

pub same_row_on : (a b c : Row) → SameRow a b → SameRow b c → SameRow a c
same_row_on (Client p u x) (Client q v y) (Client r w z) h k = ((k.0.0 ∙ h.0.0, k.0.1 ∙ h.0.1), k.1 ∙ h.1)
same_row_on (Worker p x) (Worker q y) (Worker r z) h k = k ∙ h
same_row_on (Client p u x) (Client q v y) (Worker r z) h k = absurd k
same_row_on (Client p u x) (Worker q y) c h k = absurd h
same_row_on (Worker p x) (Client q v y) c h k = absurd h
same_row_on (Worker p x) (Worker q y) (Client r w z) h k = absurd k

pub same_row_itself : (row : Row) → SameRow row row
same_row_itself (Client p v x) = ((refl, refl), refl)
same_row_itself (Worker p x) = refl
