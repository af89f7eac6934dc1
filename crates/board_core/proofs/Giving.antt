-- Each offer that a session has seen gives values, and so does each that is pending; jobs have trees that choose values.
use Rattle.std.proofs.Common.{ℕ, ◌≡◌, sym, subst, List, [], ◌∷◌, ◌++◌, Option, Some, None, Result, Ok, Err, Bool}
use Rattle.std.proofs.Common.{map, refl}
use Rattle.std.specs.Prelude.{IfOk, OnErr, OnOk}
use Rattle.std.specs.List.{slice_get}
use Rattle.spec_core.specs.declared.code.Checked.{Checked}
use Rattle.spec_core.specs.declared.window.Window.{Window}
use Rattle.spec_core.specs.Code.{Program, program_of}
use Rattle.spec_core.specs.Executable.{IsExecutable}
use Rattle.spec_core.specs.Lists.{Each}
use Rattle.spec_core.specs.Theories.{Theory}
use Rattle.spec_core.specs.Windows.{IsMember}
use Rattle.spec_core.proofs.Lists.{each_filter, each_implied, each_push}
use Rattle.rule_model.specs.declared.offer.Offer.{Offer}
use Rattle.rule_model.specs.declared.rules.Slot.TheVariants.{Of}
use Rattle.rule_model.specs.Events.{Event, OfferName, pended, acted, replied, stalled, left}
use Rattle.rule_model.specs.Legal.{IsDerivation, IsPossible}
use Rattle.rule_model.specs.States.{PendingOffer, State, without_taken}
use Rattle.node_trees.specs.Shapes.{Shape}
use Rattle.offer_index.specs.Index.{IndexView}
use Rattle.symbolic_rules.specs.Tables.{values_of, windows_in}
use Rattle.sort_windows.specs.Found.{AreBySorts}
use Rattle.node_verdict.specs.Choosing.{ChoosesValue}
use Rattle.board_laws.specs.JobValues.{GivesValues, HoldValues}
use Rattle.board_laws.proofs.Sorts.{member_is_spelled}
use Rattle.board_record.specs.Views as records
use Rattle.board_record.specs.Views.{RecordView}
use Rattle.board_tree.specs.Views.{shape}
use Rattle.candidates.specs.Models.{job_of}
use Rattle.board_core.specs.Boards.{AllOfferValues, AreOfLiving, IsIndexed, IsIndexedBoard, IsKnown, OffersValues}
use Rattle.board_core.specs.Views.{BoardView, pieces}

-- where nothing happened yet
pub none_offered : (r : RecordView) → records.events r ≡ [] → AllOfferValues r
none_offered r e = subst (Each (OffersValues (records.program r).theory)) (sym e) tt

module _ (r u : RecordView) (setting : records.SameSetting r u) (h : AllOfferValues r) where
  -- where nothing more happened
  pub nothing_more : records.events u ≡ records.events r → AllOfferValues u
  nothing_more e =
      subst (λ (k : Checked). Each (OffersValues (program_of k).theory) (records.events u)) (sym setting.0)
      (subst (Each (OffersValues (records.program r).theory)) (sym e) h)

  -- after one more event
  pub one_more : (event : Event) → records.events u ≡ records.events r ++ event ∷ [] → OffersValues (records.program r).theory event →
      AllOfferValues u
  one_more event e k =
      subst (λ (c : Checked). Each (OffersValues (program_of c).theory) (records.events u)) (sym setting.0)
      (subst (Each (OffersValues (records.program r).theory)) (sym e)
      (each_push (OffersValues (records.program r).theory) (records.events r) event h k))

  -- after one more, or want of memory
  pub perhaps_more : {T E : Type 0} (x : Result T E) (event : Event) → OnOk x (records.events u ≡ records.events r ++ event ∷ []) →
      OnErr x (records.SameLog r u) → OffersValues (records.program r).theory event → AllOfferValues u
  perhaps_more (Ok t) event a b k = one_more event a k
  perhaps_more (Err e) event a b k = nothing_more b.0

  -- after an offer, or a refusal
  pub offered : {E : Type 0} (x : Result ℕ E) (client : ℕ) (offer : Offer) (ask : Bool) →
      IfOk x (λ n. records.events u ≡ records.events r ++ pended client n offer ask ∷ []) → OnErr x (records.SameLog r u) →
      GivesValues (records.program r).theory offer → AllOfferValues u
  offered (Ok n) client offer ask a b k = one_more (pended client n offer ask) a k
  offered (Err e) client offer ask a b k = nothing_more b.0

-- what holds of a board, with this specification, this tree and this next generation in place of its own
abbrev HoldsOn : BoardView → Option IndexView → Checked → Shape → ℕ → Type 0
HoldsOn v index k t n =
    (IsKnown (program_of k) v.settings.values v.windows t (pieces v) n × AreOfLiving t (pieces v) (map job_of v.out)) ×
    IsIndexed (program_of k) v.windows t index

-- it holds with another record of one specification and one tree
pub moved : (v : BoardView) (index : Option IndexView) (u : RecordView) → records.SameSetting v.session u →
    shape u.tree ≡ shape v.session.tree → u.tree.next ≡ v.session.tree.next → IsIndexedBoard v index →
    IsIndexedBoard (record v { session = u }) index
moved v index u setting tree next h =
    subst (λ n. HoldsOn v index u.checked (shape u.tree) n) (sym next)
    (subst (λ t. HoldsOn v index u.checked t v.session.tree.next) (sym tree)
    (subst (λ k. HoldsOn v index k (shape v.session.tree) v.session.tree.next) (sym setting.0) h))

module _ (program : Program) where
  abbrev Gives : PendingOffer → Type 0
  Gives p = GivesValues program.theory p.offer

  taken : (by : Option OfferName) (pending : List PendingOffer) → Each Gives pending → Each Gives (without_taken by pending)
  taken None pending h = h
  taken (Some name) pending h = each_filter Gives _ pending h

  -- what an event leaves pending
  after_event : (s t : State) (event : Event) → IsPossible program s event t → OffersValues program.theory event → Each Gives s.pending →
      Each Gives t.pending
  after_event s t (pended client number offer ask) h k all =
      subst (λ (z : State). Each Gives z.pending) (sym h.4)
      (each_push Gives s.pending (record { client = client; number = number; offer = offer; ask = ask }) all k)
  after_event s t (acted action d by) h k all =
      subst (λ (z : State). Each Gives z.pending) (sym h.3) (taken by s.pending all)
  after_event s t (replied client number answer) h k all =
      subst (λ (z : State). Each Gives z.pending) (sym h.2) (taken (Some (client, number)) s.pending all)
  after_event s t (stalled names) h k all = subst (λ (z : State). Each Gives z.pending) (sym h.2) tt
  after_event s t (left client) h k all = subst (λ (z : State). Each Gives z.pending) (sym h.2) all

  -- where each offer of a log gives values, so does each that is pending then
  pub pending_gives : (log : List Event) (s t : State) → IsDerivation program log s t → Each (OffersValues program.theory) log →
      Each Gives s.pending → Each Gives t.pending
  pending_gives [] s t h k all = subst (λ (z : State). Each Gives z.pending) (sym h) all
  pending_gives (event ∷ log) s t h k all = pending_gives log h.0 t h.2 k.1 (after_event s h.0 event h.1 k.0 all)

-- the windows of a table hold values
module _ (theory : Theory) (executable : IsExecutable theory) where
  abbrev Value : List ℕ → Type 0
  Value v = ChoosesValue theory (Of v)

  of_row : (sort : ℕ) (o : Option Window) → ((window : Window) → o ≡ Some window → Each (IsMember theory sort) window.values.items) →
      Each Value (values_of o)
  of_row sort None k = tt
  of_row sort (Some window) k =
      each_implied (IsMember theory sort) Value window.values.items
      (λ v t. (t.0, t.1, (member_is_spelled theory executable v sort t).is_value)) (k window refl)

  pub rows_hold_values : (size : ℕ) (rows : List Window) → AreBySorts theory size rows → HoldValues theory (windows_in rows)
  rows_hold_values size rows h sort = of_row sort (slice_get rows sort) (λ window e. (h sort window e).members)
