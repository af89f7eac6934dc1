-- One row behind others.
use Rattle.std.proofs.Common.{◌≡◌, ◌∙◌, ap, append_assoc, map, refl, subst, sym, Bor, List, [], ◌∷◌, ◌++◌}
use Rattle.spec_core.specs.Lists.{Each}
use Rattle.session_threads.specs.declared.rows.Row.{Row}
use Rattle.session_threads.specs.declared.rows.Row.TheVariants.{Client, Worker}
use Rattle.rule_model.specs.declared.wish.ClientWish.{ClientWish}
use Rattle.rule_model.specs.WishViews.{wish_of}
use Rattle.session_threads.specs.declared.rows.ServedClient.{ServedClient}
use Rattle.session_threads.specs.declared.rows.ServedWorker.{ServedWorker}
use Rattle.session_threads.specs.declared.threads.Started.{Started}
use Rattle.session_threads.specs.declared.threads.Started.TheVariants.{ClientThread, WorkerThread, Here}
use Rattle.session_threads.specs.declared.stepping.Stepped.{Stepped}
use Rattle.session_threads.specs.Rows.{AreServed, IsServed, IsServedClient, IsServedWorker, SameRow}
use Rattle.session_threads.specs.Started.{AreStarted, IsStarted, StaysStarted}
use Rattle.session_threads.specs.Stepping.{row_of}
use Rattle.session_threads.proofs.Turning.{same_row_on}

-- rows that are started, and one more
pub started_behind : (rows : List Row) (all : List Started) (row : Row) (one : Started) → AreStarted rows all → IsStarted row one →
    AreStarted (rows ++ row ∷ []) (all ++ one ∷ [])
started_behind [] [] row one h is = (is, tt)
started_behind [] (other ∷ all) row one h is = absurd h
started_behind (first ∷ rows) [] row one h is = absurd h
started_behind (first ∷ rows) (other ∷ all) row one h is = (h.0, started_behind rows all row one h.1 is)

-- rows that are served, and one more
served_behind : (rows news : List Row) (row new : Row) → AreServed rows news → SameRow row new → IsServed new →
    AreServed (rows ++ row ∷ []) (news ++ new ∷ [])
served_behind [] [] row new h same served = (same, served, tt)
served_behind [] (other ∷ news) row new h same served = absurd h
served_behind (first ∷ rows) [] row new h same served = absurd h
served_behind (first ∷ rows) (other ∷ news) row new h same served = (h.0, h.1, served_behind rows news row new h.2 same served)

-- the last row, and those before it
last_of : (rows : List Row) (others : List Started) (last : Started) → AreStarted rows (others ++ last ∷ []) →
    (front : List Row) × (row : Row) × (rows ≡ front ++ row ∷ []) × AreStarted front others × IsStarted row last
last_of [] [] last h = absurd h
last_of (row ∷ []) [] last h = ([], row, refl, tt, h.0)
last_of (row ∷ next ∷ rows) [] last h = absurd h.1
last_of [] (other ∷ others) last h = absurd h
last_of (first ∷ rows) (other ∷ others) last h =
    let rest = last_of rows others last h.1 in
    (first ∷ rest.0, rest.1, ap (λ l. first ∷ l) rest.2, (h.0, rest.3), rest.4)

pub last_joined : (rows : List Row) (others : List Started) (last : Started) (news : List Row) (new : Row) →
    AreStarted rows (others ++ last ∷ []) → ((front : List Row) → AreStarted front others → AreServed front news) →
    ((row : Row) → IsStarted row last → SameRow row new × IsServed new) → AreServed rows (news ++ new ∷ [])
last_joined rows others last news new h before joined =
    let parts = last_of rows others last h in
    let is = joined parts.1 parts.4 in
    subst (λ l. AreServed l (news ++ new ∷ [])) (sym parts.2) (served_behind parts.0 news parts.1 new (before parts.0 parts.3) is.0 is.1)

-- what a worker's thread leaves is as it promised
abbrev pub IsLeft : Started → ServedWorker → Type 0
IsLeft (WorkerThread thread) served = IsServedWorker thread.promise.pass.value served
IsLeft _ served = ⊥

pub worker_joined : (row : Row) (started : Started) (served : ServedWorker) → IsLeft started served → IsStarted row started →
    SameRow row (Worker served.pass served.is_done) × Unit {0}
worker_joined (Client pass wishes was_done) (WorkerThread thread) served left h = absurd h
worker_joined (Worker pass was_done) (WorkerThread thread) served left h = (h served left, tt)
worker_joined row (ClientThread thread were) served left h = absurd left
worker_joined row (Here new) served left h = absurd left

-- so is what a client's thread leaves, of which this is the row
abbrev pub IsRowLeft : Started → ServedClient → Row → Type 0
IsRowLeft (ClientThread thread wishes) served new =
    IsServedClient thread.promise.pass.value thread.promise.wishes.now served × (new ≡ Client served.pass wishes served.is_done)
IsRowLeft _ served new = ⊥

pub client_joined : (row : Row) (started : Started) (served : ServedClient) (new : Row) → IsRowLeft started served new → IsStarted row started →
    SameRow row new × IsServed new
client_joined (Client pass wishes was_done) (ClientThread thread were) served new left h =
    let is = h.1 served left.0 in
    let same : map wish_of wishes.now ≡ map wish_of were.now = ap (λ (l : Bor (List ClientWish)). map wish_of l.now) (sym h.0) in
    subst (λ r. SameRow (Client pass wishes was_done) r × IsServed r) (sym left.1)
    ((is.same, h.0), λ done. ((is.done done).0, (is.done done).1 ∙ same))
client_joined (Worker pass was_done) (ClientThread thread were) served new left h = absurd h
client_joined row (WorkerThread thread) served new left h = absurd left
client_joined row (Here state) served new left h = absurd left

-- who is served here, after a turn
pub here_started : (row : Row) (state next : Stepped) → SameRow (row_of state) (row_of next) → IsStarted row (Here state) → IsStarted row (Here next)
here_started (Client pass wishes was_done) state next same h =
    same_row_on (Client pass wishes was_done) (row_of state) (row_of next) h same
here_started (Worker pass was_done) state next same h = same_row_on (Worker pass was_done) (row_of state) (row_of next) h same

-- and once it has done all
pub here_joined : (row : Row) (state : Stepped) (new : Row) → new ≡ row_of state → IsServed new → IsStarted row (Here state) →
    SameRow row new × IsServed new
here_joined (Client pass wishes was_done) state new is served h = (subst (SameRow (Client pass wishes was_done)) (sym is) h, served)
here_joined (Worker pass was_done) state new is served h = (subst (SameRow (Worker pass was_done)) (sym is) h, served)

-- no rows
pub none_joined : (rows : List Row) → AreStarted rows [] → AreServed rows []
none_joined [] h = tt
none_joined (row ∷ rows) h = absurd h

-- the rows that are left to be started, after one more has been
pub more_started : (all left rest : List Row) (old : List Started) (row : Row) (one : Started) →
    ((more : List Started) → AreStarted left more → AreStarted all (old ++ more)) → left ≡ row ∷ rest → IsStarted row one →
    (more : List Started) → AreStarted rest more → AreStarted all ((old ++ one ∷ []) ++ more)
more_started all left rest old row one so is this more h =
    subst (AreStarted all) (sym (append_assoc old (one ∷ []) more)) (so (one ∷ more) (subst (λ l. AreStarted l (one ∷ more)) (sym is) (this, h)))

-- one more of which something is known
pub each_behind : {A : Type 0} (P : A → Type 0) (xs : List A) (x : A) → Each P xs → P x → Each P (xs ++ x ∷ [])
each_behind P [] x h is = (is, tt)
each_behind P (y ∷ xs) x h is = (h.0, each_behind P xs x h.1 is)

pub each_before : {A : Type 0} (P : A → Type 0) (xs : List A) (x : A) → Each P (xs ++ x ∷ []) → Each P xs × P x
each_before P [] x h = (tt, h.0)
each_before P (y ∷ xs) x h = let rest = each_before P xs x h.1 in ((h.0, rest.0), rest.1)

-- of rows that are started, the last, after a turn, behind the others, after theirs
pub stays_behind : (old new : List Started) (last next : Started) → StaysStarted old new →
    ((row : Row) → IsStarted row last → IsStarted row next) → StaysStarted (old ++ last ∷ []) (new ++ next ∷ [])
stays_behind old new last next stays step rows h =
    let parts = last_of rows old last h in
    subst (λ l. AreStarted l (new ++ next ∷ [])) (sym parts.2)
    (started_behind parts.0 new parts.1 next (stays parts.0 parts.3) (step parts.1 parts.4))
