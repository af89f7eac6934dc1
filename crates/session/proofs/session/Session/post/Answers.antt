use Rattle.std.proofs.Common.{rules, ◌≡◌, ◌∙◌, ◌+◌, refl, sym, ap, subst, false, true, Ok, Err, IfErr, OnErr}
use Rattle.turn_lock.specs.Entries.{Continues, made_by}
use Rattle.rule_model.specs.Events.{pended}
use Rattle.board_record.specs.declared.faults.PendFault.TheVariants.{NotOpen, AlreadyPending, NoSuchGate, Memory}
use Rattle.session_board.specs.Faults.{ExplainsNoOffer}
use Rattle.session_board.specs.Growing.{GrowsByNone}
use Rattle.session_board.specs.Lines.{maker_of}
use Rattle.session_board.specs.Shared.{fixed_part, lines}
use Rattle.session_board.proofs.Growing.{stays_grown}
use Rattle.session.specs.Passes.{HasHalted}
use Rattle.session.proofs.Posting.{gives_either, has_left_before, has_no_gate, may_call}
use Rattle.session.proofs.Seats.{gives_none, halted_by, halts, has_its_answers, has_made, has_seen_more, is_halted}
use Rattle.session.proofs.session.Session.post.Goals as goal

pub give-requires-clause-list : goal.give-requires-clause-list
give-requires-clause-list g c =
    let v = c.take-held.result.value in
    let held = c.take-held.new.seat in
    let seen : held.seen ≡ lines v = search rules in
    subst (λ l. Continues maker_of held.number l (lines v)) (sym seen) (gives_none held.number v v (stays_grown v))

pub returns-then-is_halted-clause-fault : goal.returns-then-is_halted-clause-fault
returns-then-is_halted-clause-fault g c =
    let v = c.take-held.result.value in
    let marked : v.halted ≡ true = search rules in
    let seen : c.give.new.seat.seen ≡ lines v = search rules in
    subst HasHalted (sym seen) (is_halted v marked)

pub give-requires-2-clause-list : goal.give-requires-2-clause-list
give-requires-2-clause-list g c =
    let v = c.take-held.result.value in
    let w = c.pend-posted.new.self in
    let held = c.take-held.new.seat in
    let seen : held.seen ≡ lines v = search rules in
    let same : held.number ≡ c.args.seat.now.number = search rules in
    subst (λ l. Continues maker_of held.number l (lines w)) (sym seen)
    (gives_either held.number c.args.client v w c.pend-posted.result (λ r. pended c.args.client r.0 c.args.offer.now c.args.ask) (ap (λ n. n + 1) same ∙ c.requires.idle.numbered)
    (λ r. refl) c.pend-posted.ensures.pended c.pend-posted.ensures.none)

pub unreachable-requires : goal.unreachable-requires
unreachable-requires g c =
    let v = c.take-held.result.value in
    let w = c.pend-posted.new.self in
    let running : v.halted ≡ false = search rules in
    let is : c.pend-posted.result ≡ Err AlreadyPending = search rules in
    let h = subst (λ r. IfErr r (ExplainsNoOffer v w c.args.client c.args.offer.now)) is c.pend-posted.ensures.fault in
    h (has_its_answers c.args.seat.now c.args.client v c.requires.idle c.take-held.ensures.list running)

pub returns-in-Ok-clause-made : goal.returns-in-Ok-clause-made
returns-in-Ok-clause-made g c =
    let old = c.args.seat.now in
    let new = c.give-2.new.seat in
    let v = c.take-held.result.value in
    let w = c.pend-posted.new.self in
    let seen : new.seen ≡ lines w = search rules in
    let own : new.own ≡ made_by maker_of old.number (lines w) = search rules in
    has_made old new v w c.take-held.ensures.list seen own c.args.client (pended c.args.client c.in-Ok.made.0 c.args.offer.now c.args.ask) c.requires.idle.numbered refl c.in-Ok.ensures.pended

pub returns-in-Ok-clause-may : goal.returns-in-Ok-clause-may
returns-in-Ok-clause-may g c =
    let v = c.take-held.result.value in
    let s = c.args.self.now in
    let same : fixed_part v ≡ s.lock.fixed = search rules in
    may_call c.args.client v c.args.seat.now c.requires.idle.numbered c.take-held.ensures.list s same c.args.offer.now c.in-Ok.ensures.may

pub returns-in-Ok-clause-halted : goal.returns-in-Ok-clause-halted
returns-in-Ok-clause-halted g c halted =
    let w = c.pend-posted.new.self in
    let seen : c.give-2.new.seat.seen ≡ lines w = search rules in
    let is : c.pend-posted.result ≡ Ok c.in-Ok.made = search rules in
    let e = c.pend-posted.ensures.unmarked (halted_by c.give-2.new.seat w seen halted) in
    let never : ⊥ = cc in absurd never

pub returns-in-Err-NotOpen-clause-none : goal.returns-in-Err-NotOpen-clause-none
returns-in-Err-NotOpen-clause-none g c =
    let old = c.args.seat.now in
    let new = c.give-2.new.seat in
    let v = c.take-held.result.value in
    let w = c.pend-posted.new.self in
    let seen : new.seen ≡ lines w = search rules in
    let own : new.own ≡ made_by maker_of old.number (lines w) = search rules in
    let is : c.pend-posted.result ≡ Err NotOpen = search rules in
    has_seen_more old new v w c.take-held.ensures.list seen own (subst (λ r. OnErr r (GrowsByNone v w)) is c.pend-posted.ensures.none)

pub returns-in-Err-NotOpen-clause-fault : goal.returns-in-Err-NotOpen-clause-fault
returns-in-Err-NotOpen-clause-fault g c =
    let new = c.give-2.new.seat in
    let v = c.take-held.result.value in
    let w = c.pend-posted.new.self in
    let s = c.args.self.now in
    let same : fixed_part v ≡ s.lock.fixed = search rules in
    let is : c.pend-posted.result ≡ Err NotOpen = search rules in
    let h = subst (λ r. IfErr r (ExplainsNoOffer v w c.args.client c.args.offer.now)) is c.pend-posted.ensures.fault in
    has_left_before c.args.client v c.args.seat.now c.requires.idle.numbered c.take-held.ensures.list s same c.args.offer.now w new h

pub returns-in-Err-NotOpen-clause-halted : goal.returns-in-Err-NotOpen-clause-halted
returns-in-Err-NotOpen-clause-halted g c halted =
    let w = c.pend-posted.new.self in
    let seen : c.give-2.new.seat.seen ≡ lines w = search rules in
    let is : c.pend-posted.result ≡ Err NotOpen = search rules in
    let e = c.pend-posted.ensures.unmarked (halted_by c.give-2.new.seat w seen halted) in
    let never : ⊥ = cc in absurd never

pub returns-in-Err-NoSuchGate-clause-none : goal.returns-in-Err-NoSuchGate-clause-none
returns-in-Err-NoSuchGate-clause-none g c =
    let old = c.args.seat.now in
    let new = c.give-2.new.seat in
    let v = c.take-held.result.value in
    let w = c.pend-posted.new.self in
    let seen : new.seen ≡ lines w = search rules in
    let own : new.own ≡ made_by maker_of old.number (lines w) = search rules in
    let is : c.pend-posted.result ≡ Err NoSuchGate = search rules in
    has_seen_more old new v w c.take-held.ensures.list seen own (subst (λ r. OnErr r (GrowsByNone v w)) is c.pend-posted.ensures.none)

pub returns-in-Err-NoSuchGate-clause-fault : goal.returns-in-Err-NoSuchGate-clause-fault
returns-in-Err-NoSuchGate-clause-fault g c =
    let new = c.give-2.new.seat in
    let v = c.take-held.result.value in
    let w = c.pend-posted.new.self in
    let s = c.args.self.now in
    let same : fixed_part v ≡ s.lock.fixed = search rules in
    let is : c.pend-posted.result ≡ Err NoSuchGate = search rules in
    let h = subst (λ r. IfErr r (ExplainsNoOffer v w c.args.client c.args.offer.now)) is c.pend-posted.ensures.fault in
    has_no_gate c.args.client v c.args.seat.now c.requires.idle.numbered c.take-held.ensures.list s same c.args.offer.now w new h

pub returns-in-Err-NoSuchGate-clause-halted : goal.returns-in-Err-NoSuchGate-clause-halted
returns-in-Err-NoSuchGate-clause-halted g c halted =
    let w = c.pend-posted.new.self in
    let seen : c.give-2.new.seat.seen ≡ lines w = search rules in
    let is : c.pend-posted.result ≡ Err NoSuchGate = search rules in
    let e = c.pend-posted.ensures.unmarked (halted_by c.give-2.new.seat w seen halted) in
    let never : ⊥ = cc in absurd never

pub returns-in-Err-Memory-clause-none : goal.returns-in-Err-Memory-clause-none
returns-in-Err-Memory-clause-none g c =
    let old = c.args.seat.now in
    let new = c.give-2.new.seat in
    let v = c.take-held.result.value in
    let w = c.pend-posted.new.self in
    let seen : new.seen ≡ lines w = search rules in
    let own : new.own ≡ made_by maker_of old.number (lines w) = search rules in
    let is : c.pend-posted.result ≡ Err Memory = search rules in
    has_seen_more old new v w c.take-held.ensures.list seen own (subst (λ r. OnErr r (GrowsByNone v w)) is c.pend-posted.ensures.none)

pub returns-in-Err-Memory-clause-fault : goal.returns-in-Err-Memory-clause-fault
returns-in-Err-Memory-clause-fault g c =
    let old = c.args.seat.now in
    let new = c.give-2.new.seat in
    let v = c.take-held.result.value in
    let w = c.pend-posted.new.self in
    let seen : new.seen ≡ lines w = search rules in
    let own : new.own ≡ made_by maker_of old.number (lines w) = search rules in
    let is : c.pend-posted.result ≡ Err Memory = search rules in
    let h = subst (λ r. IfErr r (ExplainsNoOffer v w c.args.client c.args.offer.now)) is c.pend-posted.ensures.fault in
    halts old new v w c.take-held.ensures.list seen own h
