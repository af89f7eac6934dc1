-- How a session is made round a new lock, and its seats are dealt.
use Rattle.std.proofs.Common.{ℕ, zero, suc, ◌+◌, ◌≤◌, ◌≡◌, ◌∙◌, refl, sym, ap, subst, arith, List, [], ◌∷◌, ◌++◌, map, take, drop}
use Rattle.std.proofs.Common.{length, false}
use Rattle.std.specs.List.{AllByRecursion, range_with_len}
use Rattle.std.proofs.lemmas.List.{same_from_push}
use Rattle.std.proofs.lemmas.List.FromFn.{length-map-range_with_len, map-range_with_len_more, take-map-range_with_len}
use Rattle.std.proofs.lemmas.Simd.{map-map}
use Rattle.spec_core.specs.declared.code.Checked.{Checked}
use Rattle.run_settings.specs.declared.settings.Settings.{Settings}
use Rattle.spec_core.specs.declared.window.Window.{Window}
use Rattle.spec_core.specs.Code.{Program, program_of}
use Rattle.spec_core.specs.Ready.{IsReady}
use Rattle.sort_windows.specs.Found.{AreBySorts}
use Rattle.turn_lock.specs.Seats.{LockId, LockModel, SeatModel, new_seat, new_seats}
use Rattle.session_board.specs.declared.fixed.FixedPart.{FixedPart}
use Rattle.session_board.specs.declared.line.Line.{Line}
use Rattle.session_board.specs.Lines.{maker_of}
use Rattle.session.specs.Sessions.{IsWellMade}
use Rattle.session.specs.Starting.{AreFresh, content_of, new_pass, new_work_pass, pass_of, work_pass_of}
use Rattle.session.proofs.Starting.{same_rows, same_windows}

-- rows

drop_row : {A : Type 0} (f : ℕ → A) (a n m : ℕ) → drop n (map f (range_with_len a (n + m))) ≡ map f (range_with_len (a + n) m)
drop_row f a zero m =
    ap (λ k. map f (range_with_len a k)) (let e : 0 + m ≡ m = omega arith in e)
    ∙ ap (λ k. map f (range_with_len k m)) (let e : a ≡ a + 0 = omega arith in e)
drop_row f a (suc n) m =
    ap (λ k. drop (suc n) (map f (range_with_len a k))) (let e : suc n + m ≡ suc (n + m) = omega arith in e)
    ∙ drop_row f (a + 1) n m ∙ ap (λ k. map f (range_with_len k m)) (let e : a + 1 + n ≡ a + suc n = omega arith in e)

-- seats of a new lock

abbrev row : LockId → ℕ → ℕ → List (SeatModel Line)
row id a n = map (new_seat maker_of id []) (range_with_len a n)

pub row_rests : (id : LockId) (a n : ℕ) → AllByRecursion (λ (seat : SeatModel Line). seat.holds_turn ≡ false) (row id a n)
row_rests id a zero = tt
row_rests id a (suc n) = (refl, row_rests id (a + 1) n)

pub row_is_fresh : (id : LockId) (a n : ℕ) → AreFresh a (row id a n)
row_is_fresh id a zero = tt
row_is_fresh id a (suc n) = (refl, refl, refl, row_is_fresh id (a + 1) n)

pub row_of_passes : (id : LockId) (a n : ℕ) → map pass_of (row id a n) ≡ map (new_pass id) (range_with_len a n)
row_of_passes id a n = map-map pass_of (new_seat maker_of id []) (range_with_len a n)

pub row_of_work_passes : (id : LockId) (clients a n : ℕ) →
    map (work_pass_of clients) (row id a n) ≡ map (new_work_pass id clients) (range_with_len a n)
row_of_work_passes id clients a n = map-map (work_pass_of clients) (new_seat maker_of id []) (range_with_len a n)

-- the last seat is kept, those before it are the workers', and the first ones the clients'
pub record AreDealt (id : LockId) (clients workers : ℕ) (seats : List (SeatModel Line)) (keeper : SeatModel Line) : Type 0 where
  pub enough : clients ≤ length seats
  pub first : take clients seats ≡ row id 0 clients
  pub later : drop clients seats ≡ row id clients workers
  pub last : keeper ≡ new_seat maker_of id [] (clients + workers)

pub deals : (id : LockId) (opening : List Line) (clients workers : ℕ) (all seats : List (SeatModel Line)) (keeper : SeatModel Line) →
    opening ≡ [] → all ≡ new_seats maker_of id opening (clients + workers + 1) → all ≡ seats ++ keeper ∷ [] →
    AreDealt id clients workers seats keeper
deals id opening clients workers all seats keeper new is kept =
    let f = new_seat maker_of id [] in
    let whole : seats ++ keeper ∷ [] ≡ row id 0 (clients + workers) ++ f (clients + workers) ∷ [] =
    sym kept ∙ is ∙ ap (λ l. new_seats maker_of id l (clients + workers + 1)) new
    ∙ map-range_with_len_more f 0 (clients + workers) (clients + workers) (omega arith) in
    let apart = same_from_push seats (row id 0 (clients + workers)) keeper (f (clients + workers)) whole in
    let later = ap (drop clients) apart.0 ∙ drop_row f 0 clients workers in
    record {
      enough = omega (arith, ap length apart.0, length-map-range_with_len f 0 (clients + workers));
      first = ap (take clients) apart.0 ∙ take-map-range_with_len f 0 (clients + workers) clients (omega arith);
      later = later ∙ ap (λ k. row id k workers) (let e : 0 + clients ≡ clients = omega arith in e);
      last = apart.1;
    }

-- a session round a new lock is well made
pub well_made : (lock : LockModel FixedPart) (f : FixedPart) (own checked : Checked) (settings : Settings) (windows : List Window)
    (k clients workers : ℕ) (keeper : SeatModel Line) → lock.fixed ≡ f → f.checked ≡ checked → f.settings ≡ settings → f.clients ≡ clients →
    program_of own ≡ program_of checked → map content_of windows ≡ map content_of f.windows → IsReady (program_of checked) →
    AreBySorts (program_of f.checked).theory k f.windows → lock.seats ≡ clients + workers + 1 →
    keeper ≡ new_seat maker_of lock.id [] (clients + workers) → IsWellMade lock own settings windows workers keeper
well_made lock f own checked settings windows k clients workers keeper fixed is_checked are_settings are_clients copied same ready rows seats
    last =
    let program : program_of own ≡ program_of lock.fixed.checked =
    copied ∙ ap program_of (sym is_checked) ∙ ap (λ (part : FixedPart). program_of part.checked) (sym fixed) in
    let program_there : program_of f.checked ≡ program_of own = ap program_of is_checked ∙ sym copied in
    let count : clients ≡ lock.fixed.clients = sym are_clients ∙ ap (λ (part : FixedPart). part.clients) (sym fixed) in
    record {
      program_is = program;
      settings_are = sym are_settings ∙ ap (λ (part : FixedPart). part.settings) (sym fixed);
      windows_are = same_windows windows lock.fixed.windows (same ∙ ap (λ (part : FixedPart). map content_of part.windows) (sym fixed));
      ready = subst (λ p. IsReady p) (sym copied) ready;
      rows = (
        k,
        subst (λ (p : Program). AreBySorts p.theory k windows) program_there
            (same_rows windows f.windows same (program_of f.checked).theory k rows),
      );
      seats = seats ∙ ap (λ n. n + workers + 1) count;
      keeper_rests = (ap (λ (s : SeatModel Line). s.lock) last, ap (λ (s : SeatModel Line). s.holds_turn) last);
      keeper_is_last = ap (λ (s : SeatModel Line). s.number) last ∙ ap (λ n. n + workers) count;
    }
