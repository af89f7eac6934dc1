-- The reply, the end and the entry that are read are those that are written.
use Rattle.std.proofs.Common.{ℕ, ◌≡◌, true, false, List, [], ◌++◌, codes, decimal, Option, Some, None, IsSome, Result, Ok, Err, IfOk, refl, sym, ap, ◌∙◌}
use Rattle.std.proofs.Common.{append_assoc, flat_map}
use Rattle.spec_core.specs.Code.{Program}
use Rattle.spec_core.specs.Lists.{Each}
use Rattle.spec_core.specs.Sorts.{FitsGround}
use Rattle.spec_core.specs.Terms.{TermTree}
use Rattle.rule_model.specs.declared.action.Action.{Action}
use Rattle.rule_model.specs.declared.log.Entry.{Entry}
use Rattle.rule_model.specs.declared.offer.Offer.{Offer}
use Rattle.rule_model.specs.declared.reply.LimitKind.{LimitKind}
use Rattle.rule_model.specs.Answers.{Answer, taken, deadlock, stalls, beyond, not_now, ended, spent, too_large, limit}
use Rattle.rule_model.specs.Derivations.{Derivation}
use Rattle.rule_model.specs.Events.{OfferName, Event, pended, acted, replied, stalled, left, event_of, Ending, exits, deadlocked, waiting}
use Rattle.rule_model.specs.Events.{ends_beyond, ends_spent, ends_too_large, ends_at_limit}
use Rattle.trace_text.specs.declared.format.Format.{Format}
use Rattle.trace_text.specs.Formats.{format_line, rules_text}
use Rattle.trace_text.specs.Fits.{ActionFits, AnswerFits, ByFits, EndingFits, EventFits, IsClient, NameFits, OfferFits, TreeFits}
use Rattle.trace_text.specs.Names.{names_in}
use Rattle.trace_text.specs.Trace.{Names, action_text, answer_word, by_text, end_word, event_line, limit_word, name_text, offer_text, tree_text}
use Rattle.trace_reader.specs.declared.line_word.EntryWord.{EntryWord}
use Rattle.trace_reader.specs.declared.line_word.EntryWord.TheVariants as entries
use Rattle.trace_reader.specs.declared.line_word.ReplyWord.{ReplyWord}
use Rattle.trace_reader.specs.declared.line_word.ReplyWord.TheVariants as replies
use Rattle.trace_reader.specs.declared.line_word.EndWord.{EndWord}
use Rattle.trace_reader.specs.declared.line_word.EndWord.TheVariants as ends
use Rattle.trace_reader.specs.Cursors.{EndsTree, EndsValue, Finds, IsNothing}
use Rattle.trace_reader.specs.Entries.{IsNumbered}
use Rattle.trace_reader.specs.LineWords.{ending_word, entry_word, reply_word}
use Rattle.trace_reader.proofs.Ends.{nothing_tree, nothing_value}

-- the word of a reply
abbrev reply_top : Answer → ReplyWord
reply_top (taken at values) = replies.Deadlock
reply_top (deadlock at) = replies.Deadlock
reply_top (stalls at) = replies.Deadlock
reply_top (beyond at d) = replies.Beyond
reply_top (not_now at) = replies.NotNow
reply_top (ended at) = replies.Ended
reply_top (spent at t) = replies.Spent
reply_top (too_large at t) = replies.Large
reply_top (limit at kind) = replies.Limit kind

abbrev end_top : Ending → EndWord
end_top exits = ends.Exit
end_top deadlocked = ends.Deadlock
end_top waiting = ends.Waiting
end_top ends_beyond = ends.Beyond
end_top (ends_spent t) = ends.Spent
end_top (ends_too_large t) = ends.Large
end_top (ends_at_limit kind) = ends.Limit kind

abbrev entry_top : Event → EntryWord
entry_top (pended client number offer true) = entries.Ask
entry_top (pended client number offer false) = entries.Pend
entry_top (acted action d by) = entries.Act
entry_top (replied client number answer) = entries.Reply
entry_top (stalled all) = entries.Stall
entry_top (left client) = entries.Leave

pub any_numbered : {E : Type 0} (r : Result Entry E) (n : ℕ) → IfOk r (λ entry. (m : ℕ) → IsNumbered m (event_of entry)) →
    IfOk r (λ entry. IsNumbered n (event_of entry))
any_numbered (Ok entry) n h = h n
any_numbered (Err e) n h = tt

module _ (program : Program) where
  abbrev names : Names
  names = names_in program

  abbrev behind_reply : Answer → List ℕ → List ℕ
  behind_reply (taken at values) rest = rest
  behind_reply (deadlock at) rest = rest
  behind_reply (stalls at) rest = rest
  behind_reply (beyond at d) rest = tree_text names d ++ rest
  behind_reply (not_now at) rest = rest
  behind_reply (ended at) rest = rest
  behind_reply (spent at t) rest = names.term t ++ rest
  behind_reply (too_large at t) rest = names.term t ++ rest
  behind_reply (limit at kind) rest = rest

  reply_so : (a : Answer) (rest : List ℕ) → AnswerFits program a → answer_word names a ++ rest ≡ reply_word (reply_top a) ++ behind_reply a rest
  reply_so (taken at values) rest h = absurd h
  reply_so (deadlock at) rest h = refl
  reply_so (stalls at) rest h = absurd h
  reply_so (beyond at d) rest h = refl
  reply_so (not_now at) rest h = refl
  reply_so (ended at) rest h = refl
  reply_so (spent at t) rest h = refl
  reply_so (too_large at t) rest h = refl
  reply_so (limit at kind) rest h = refl

  abbrev behind_end : Ending → List ℕ → List ℕ
  behind_end exits rest = rest
  behind_end deadlocked rest = rest
  behind_end waiting rest = rest
  behind_end ends_beyond rest = rest
  behind_end (ends_spent t) rest = names.term t ++ rest
  behind_end (ends_too_large t) rest = names.term t ++ rest
  behind_end (ends_at_limit kind) rest = rest

  end_is : (e : Ending) (rest : List ℕ) → end_word names e ++ rest ≡ ending_word (end_top e) ++ behind_end e rest
  end_is exits rest = refl
  end_is deadlocked rest = refl
  end_is waiting rest = refl
  end_is ends_beyond rest = refl
  end_is (ends_spent t) rest = refl
  end_is (ends_too_large t) rest = refl
  end_is (ends_at_limit kind) rest = refl

  -- a reply with the word that is written
  abbrev FindsReply : Option (List ℕ) → Option (List ℕ) → List ℕ → Type 0
  FindsReply old new w = Finds (answer_word names) (AnswerFits program) IsNothing old new (λ it. w ≡ answer_word names it)

  module _ (old new : Option (List ℕ)) (o : Option ReplyWord)
      (finds : Finds reply_word (λ word. Unit {0}) (λ rest. Unit {0}) old new (λ word. o ≡ Some word)) where
    abbrev IsReply : Answer → List ℕ → Type 0
    IsReply a rest = (o ≡ Some (reply_top a)) × (new ≡ Some (behind_reply a rest))

    at_reply : (a : Answer) (rest : List ℕ) → AnswerFits program a → old ≡ Some (answer_word names a ++ rest) → IsReply a rest
    at_reply a rest fits e = finds (reply_top a) (behind_reply a rest) tt tt (e ∙ ap Some (reply_so a rest fits))

    pub no_reply : o ≡ None → (a : Answer) (rest : List ℕ) → AnswerFits program a → old ≡ Some (answer_word names a ++ rest) → ⊥
    no_reply k a rest fits e = let wrong : None ≡ Some (reply_top a) = sym k ∙ (at_reply a rest fits e).0 in cc

    pub deadlock_read : o ≡ Some replies.Deadlock → FindsReply old new (codes "deadlock")
    deadlock_read k a rest fits ends e = go a (at_reply a rest fits e) fits
      where
        go : (a : Answer) → IsReply a rest → AnswerFits program a → (codes "deadlock" ≡ answer_word names a) × (new ≡ Some rest)
        go (deadlock at) h fit = (refl, h.1)
        go (taken at values) h fit = absurd fit
        go (stalls at) h fit = absurd fit
        go _ h fit = absurd (let wrong = sym h.0 ∙ k in cc)

    pub not_now_read : o ≡ Some replies.NotNow → FindsReply old new (codes "notnow")
    not_now_read k a rest fits ends e = go a (at_reply a rest fits e) fits
      where
        go : (a : Answer) → IsReply a rest → AnswerFits program a → (codes "notnow" ≡ answer_word names a) × (new ≡ Some rest)
        go (not_now at) h fit = (refl, h.1)
        go (taken at values) h fit = absurd fit
        go (stalls at) h fit = absurd fit
        go _ h fit = absurd (let wrong = sym h.0 ∙ k in cc)

    pub ended_read : o ≡ Some replies.Ended → FindsReply old new (codes "ended")
    ended_read k a rest fits ends e = go a (at_reply a rest fits e) fits
      where
        go : (a : Answer) → IsReply a rest → AnswerFits program a → (codes "ended" ≡ answer_word names a) × (new ≡ Some rest)
        go (ended at) h fit = (refl, h.1)
        go (taken at values) h fit = absurd fit
        go (stalls at) h fit = absurd fit
        go _ h fit = absurd (let wrong = sym h.0 ∙ k in cc)

    pub limit_read : (kind : LimitKind) → o ≡ Some (replies.Limit kind) → FindsReply old new (limit_word kind)
    limit_read kind k a rest fits ends e = go a (at_reply a rest fits e) fits
      where
        go : (a : Answer) → IsReply a rest → AnswerFits program a → (limit_word kind ≡ answer_word names a) × (new ≡ Some rest)
        go (limit at other) h fit = let both = sym k ∙ h.0 in let same : kind ≡ other = cc in (ap limit_word same, h.1)
        go (taken at values) h fit = absurd fit
        go (stalls at) h fit = absurd fit
        go _ h fit = absurd (let wrong = sym h.0 ∙ k in cc)

    pub beyond_read : o ≡ Some replies.Beyond → (x : Derivation) (last : Option (List ℕ)) →
        Finds (tree_text names) (TreeFits program) EndsTree new last (λ d. x ≡ d) → FindsReply old last (codes "beyond " ++ tree_text names x)
    beyond_read k x last f a rest fits ends e = go a (at_reply a rest fits e) fits
      where
        go : (a : Answer) → IsReply a rest → AnswerFits program a → (codes "beyond " ++ tree_text names x ≡ answer_word names a) × (last ≡ Some rest)
        go (beyond at d) h fit =
            let q = f d rest fit (nothing_tree rest ends) h.1 in (ap (λ z. codes "beyond " ++ tree_text names z) q.0, q.1)
        go (taken at values) h fit = absurd fit
        go (stalls at) h fit = absurd fit
        go _ h fit = absurd (let wrong = sym h.0 ∙ k in cc)

    pub spent_read : o ≡ Some replies.Spent → (x : TermTree) (last : Option (List ℕ)) →
        Finds names.term (FitsGround program.theory) EndsValue new last (λ t. x ≡ t) → FindsReply old last (codes "spent " ++ names.term x)
    spent_read k x last f a rest fits ends e = go a (at_reply a rest fits e) fits
      where
        go : (a : Answer) → IsReply a rest → AnswerFits program a → (codes "spent " ++ names.term x ≡ answer_word names a) × (last ≡ Some rest)
        go (spent at t) h fit = let q = f t rest fit (nothing_value rest ends) h.1 in (ap (λ z. codes "spent " ++ names.term z) q.0, q.1)
        go (taken at values) h fit = absurd fit
        go (stalls at) h fit = absurd fit
        go _ h fit = absurd (let wrong = sym h.0 ∙ k in cc)

    pub large_read : o ≡ Some replies.Large → (x : TermTree) (last : Option (List ℕ)) →
        Finds names.term (FitsGround program.theory) EndsValue new last (λ t. x ≡ t) → FindsReply old last (codes "large " ++ names.term x)
    large_read k x last f a rest fits ends e = go a (at_reply a rest fits e) fits
      where
        go : (a : Answer) → IsReply a rest → AnswerFits program a → (codes "large " ++ names.term x ≡ answer_word names a) × (last ≡ Some rest)
        go (too_large at t) h fit = let q = f t rest fit (nothing_value rest ends) h.1 in (ap (λ z. codes "large " ++ names.term z) q.0, q.1)
        go (taken at values) h fit = absurd fit
        go (stalls at) h fit = absurd fit
        go _ h fit = absurd (let wrong = sym h.0 ∙ k in cc)

  -- an end
  abbrev FindsEnd : Option (List ℕ) → Option (List ℕ) → Ending → Type 0
  FindsEnd old new x = Finds (end_word names) (EndingFits program) IsNothing old new (λ it. x ≡ it)

  module _ (old new : Option (List ℕ)) (o : Option EndWord)
      (finds : Finds ending_word (λ word. Unit {0}) (λ rest. Unit {0}) old new (λ word. o ≡ Some word)) where
    abbrev IsEnd : Ending → List ℕ → Type 0
    IsEnd a rest = (o ≡ Some (end_top a)) × (new ≡ Some (behind_end a rest))

    at_end : (a : Ending) (rest : List ℕ) → old ≡ Some (end_word names a ++ rest) → IsEnd a rest
    at_end a rest e = finds (end_top a) (behind_end a rest) tt tt (e ∙ ap Some (end_is a rest))

    pub no_ending : o ≡ None → (a : Ending) (rest : List ℕ) → old ≡ Some (end_word names a ++ rest) → ⊥
    no_ending k a rest e = let wrong : None ≡ Some (end_top a) = sym k ∙ (at_end a rest e).0 in cc

    pub end_exit : o ≡ Some ends.Exit → FindsEnd old new exits
    end_exit k a rest fits nothing e = go a (at_end a rest e)
      where
        go : (a : Ending) → IsEnd a rest → (exits ≡ a) × (new ≡ Some rest)
        go exits h = (refl, h.1)
        go _ h = absurd (let wrong = sym h.0 ∙ k in cc)

    pub end_deadlock : o ≡ Some ends.Deadlock → FindsEnd old new deadlocked
    end_deadlock k a rest fits nothing e = go a (at_end a rest e)
      where
        go : (a : Ending) → IsEnd a rest → (deadlocked ≡ a) × (new ≡ Some rest)
        go deadlocked h = (refl, h.1)
        go _ h = absurd (let wrong = sym h.0 ∙ k in cc)

    pub end_waiting : o ≡ Some ends.Waiting → FindsEnd old new waiting
    end_waiting k a rest fits nothing e = go a (at_end a rest e)
      where
        go : (a : Ending) → IsEnd a rest → (waiting ≡ a) × (new ≡ Some rest)
        go waiting h = (refl, h.1)
        go _ h = absurd (let wrong = sym h.0 ∙ k in cc)

    pub end_beyond : o ≡ Some ends.Beyond → FindsEnd old new ends_beyond
    end_beyond k a rest fits nothing e = go a (at_end a rest e)
      where
        go : (a : Ending) → IsEnd a rest → (ends_beyond ≡ a) × (new ≡ Some rest)
        go ends_beyond h = (refl, h.1)
        go _ h = absurd (let wrong = sym h.0 ∙ k in cc)

    pub end_limit : (kind : LimitKind) → o ≡ Some (ends.Limit kind) → FindsEnd old new (ends_at_limit kind)
    end_limit kind k a rest fits nothing e = go a (at_end a rest e)
      where
        go : (a : Ending) → IsEnd a rest → (ends_at_limit kind ≡ a) × (new ≡ Some rest)
        go (ends_at_limit other) h = let both = sym k ∙ h.0 in let same : kind ≡ other = cc in (ap ends_at_limit same, h.1)
        go _ h = absurd (let wrong = sym h.0 ∙ k in cc)

    pub end_spent : o ≡ Some ends.Spent → (x : TermTree) (last : Option (List ℕ)) →
        Finds names.term (FitsGround program.theory) EndsValue new last (λ t. x ≡ t) → FindsEnd old last (ends_spent x)
    end_spent k x last f a rest fits nothing e = go a (at_end a rest e) fits
      where
        go : (a : Ending) → IsEnd a rest → EndingFits program a → (ends_spent x ≡ a) × (last ≡ Some rest)
        go (ends_spent t) h fit = let q = f t rest fit (nothing_value rest nothing) h.1 in (ap ends_spent q.0, q.1)
        go _ h fit = absurd (let wrong = sym h.0 ∙ k in cc)

    pub end_large : o ≡ Some ends.Large → (x : TermTree) (last : Option (List ℕ)) →
        Finds names.term (FitsGround program.theory) EndsValue new last (λ t. x ≡ t) → FindsEnd old last (ends_too_large x)
    end_large k x last f a rest fits nothing e = go a (at_end a rest e) fits
      where
        go : (a : Ending) → IsEnd a rest → EndingFits program a → (ends_too_large x ≡ a) × (last ≡ Some rest)
        go (ends_too_large t) h fit = let q = f t rest fit (nothing_value rest nothing) h.1 in (ap ends_too_large q.0, q.1)
        go _ h fit = absurd (let wrong = sym h.0 ∙ k in cc)

  pub any_fits : {E : Type 0} (last : Option (List ℕ)) (r : Result Entry E) → IfOk r (λ entry. (p : Program) → IsSome last → EventFits p (event_of entry)) →
      IfOk r (λ entry. IsSome last → EventFits program (event_of entry))
  any_fits last (Ok entry) h = h program
  any_fits last (Err e) h = tt

  -- lines in a format, where the tree before has the given text
  module _ (format : Format) (tree : List ℕ) where
    abbrev behind_entry : Event → List ℕ
    behind_entry (pended client number offer ask) = name_text (client, number) ++ (codes " " ++ offer_text names offer)
    behind_entry (acted action d by) = action_text names action ++ (by_text by ++ (codes " rules " ++ rules_text format tree (tree_text names d)))
    behind_entry (replied client number answer) = name_text (client, number) ++ (codes " " ++ answer_word names answer)
    behind_entry (stalled all) = flat_map (λ name. codes " " ++ name_text name) all
    behind_entry (left client) = decimal client

    three_parts : (w m b o : List ℕ) → w ++ m ++ b ++ o ≡ w ++ (m ++ (b ++ o))
    three_parts w m b o = simp append_assoc

    four_parts : (w a b u t : List ℕ) → w ++ a ++ b ++ u ++ t ≡ w ++ (a ++ (b ++ (u ++ t)))
    four_parts w a b u t = simp append_assoc

    entry_so : (x : Event) → format_line names format tree x ≡ entry_word (entry_top x) ++ behind_entry x
    entry_so (pended client number offer true) = three_parts (codes "ask ") (name_text (client, number)) (codes " ") (offer_text names offer)
    entry_so (pended client number offer false) = three_parts (codes "pend ") (name_text (client, number)) (codes " ") (offer_text names offer)
    entry_so (acted action d by) = four_parts (codes "act ") (action_text names action) (by_text by) (codes " rules ") (rules_text format tree (tree_text names d))
    entry_so (replied client number answer) = three_parts (codes "reply ") (name_text (client, number)) (codes " ") (answer_word names answer)
    entry_so (stalled all) = refl
    entry_so (left client) = refl

    -- an entry with the line that is written
    abbrev FindsEntry : Option (List ℕ) → Option (List ℕ) → Event → Type 0
    FindsEntry old last x = (event : Event) → EventFits program event → old ≡ Some (format_line names format tree event) →
        (event_line names x ≡ event_line names event) × IsSome last

    module _ (old new : Option (List ℕ)) (o : Option EntryWord)
        (finds : Finds entry_word (λ word. Unit {0}) (λ rest. Unit {0}) old new (λ word. o ≡ Some word)) where
      abbrev IsEntry : Event → Type 0
      IsEntry x = (o ≡ Some (entry_top x)) × (new ≡ Some (behind_entry x))

      at_entry : (x : Event) → old ≡ Some (format_line names format tree x) → IsEntry x
      at_entry x e = finds (entry_top x) (behind_entry x) tt tt (e ∙ ap Some (entry_so x))

      pub no_entry : o ≡ None → (x : Event) → old ≡ Some (format_line names format tree x) → ⊥
      no_entry k x e = let wrong : None ≡ Some (entry_top x) = sym k ∙ (at_entry x e).0 in cc

      pub leave_read : o ≡ Some entries.Leave → (client : ℕ) (last : Option (List ℕ)) →
          ((n : ℕ) → IsClient n → new ≡ Some (decimal n) → (client ≡ n) × IsSome last) → FindsEntry old last (left client)
      leave_read k client last f x fits e = go x (at_entry x e) fits
        where
          go : (x : Event) → IsEntry x → EventFits program x → (event_line names (left client) ≡ event_line names x) × IsSome last
          go (left n) h fit = let q = f n fit h.1 in (ap (λ z. event_line names (left z)) q.0, q.1)
          go (pended client number offer true) h fit = absurd (let wrong = sym h.0 ∙ k in cc)
          go (pended client number offer false) h fit = absurd (let wrong = sym h.0 ∙ k in cc)
          go _ h fit = absurd (let wrong = sym h.0 ∙ k in cc)

    module _ {E : Type 0} (old new last : Option (List ℕ)) (o : Option EntryWord)
        (finds : Finds entry_word (λ word. Unit {0}) (λ rest. Unit {0}) old new (λ word. o ≡ Some word)) where
      pub ask_read : o ≡ Some entries.Ask → (r : Result Entry E) → IfOk r (λ entry. (name : OfferName) (offer : Offer) → NameFits name → OfferFits program offer →
          new ≡ Some (name_text name ++ (codes " " ++ offer_text names offer)) → (event_of entry ≡ pended name.0 name.1 offer true) × IsSome last) →
          IfOk r (λ entry. FindsEntry old last (event_of entry))
      ask_read k (Err e) f = tt
      ask_read k (Ok entry) f = λ x fits e. go x (at_entry old new o finds x e) fits
        where
          go : (x : Event) → IsEntry old new o finds x → EventFits program x → (event_line names (event_of entry) ≡ event_line names x) × IsSome last
          go (pended client number offer true) h fit = let q = f (client, number) offer fit.0 fit.1 h.1 in (ap (event_line names) q.0, q.1)
          go (pended client number offer false) h fit = absurd (let wrong = sym h.0 ∙ k in cc)
          go _ h fit = absurd (let wrong = sym h.0 ∙ k in cc)

    module _ {E : Type 0} (old new last : Option (List ℕ)) (o : Option EntryWord)
        (finds : Finds entry_word (λ word. Unit {0}) (λ rest. Unit {0}) old new (λ word. o ≡ Some word)) where
      pub pend_read : o ≡ Some entries.Pend → (r : Result Entry E) → IfOk r (λ entry. (name : OfferName) (offer : Offer) → NameFits name → OfferFits program offer →
          new ≡ Some (name_text name ++ (codes " " ++ offer_text names offer)) → (event_of entry ≡ pended name.0 name.1 offer false) × IsSome last) →
          IfOk r (λ entry. FindsEntry old last (event_of entry))
      pend_read k (Err e) f = tt
      pend_read k (Ok entry) f = λ x fits e. go x (at_entry old new o finds x e) fits
        where
          go : (x : Event) → IsEntry old new o finds x → EventFits program x → (event_line names (event_of entry) ≡ event_line names x) × IsSome last
          go (pended client number offer false) h fit = let q = f (client, number) offer fit.0 fit.1 h.1 in (ap (event_line names) q.0, q.1)
          go (pended client number offer true) h fit = absurd (let wrong = sym h.0 ∙ k in cc)
          go _ h fit = absurd (let wrong = sym h.0 ∙ k in cc)

    module _ {E : Type 0} (old new last : Option (List ℕ)) (o : Option EntryWord)
        (finds : Finds entry_word (λ word. Unit {0}) (λ rest. Unit {0}) old new (λ word. o ≡ Some word)) where
      pub act_read : o ≡ Some entries.Act → (r : Result Entry E) → IfOk r (λ entry. (action : Action) (d : Derivation) (by : Option OfferName) → ActionFits program action → TreeFits program d → ByFits by →
          new ≡ Some (action_text names action ++ (by_text by ++ (codes " rules " ++ rules_text format tree (tree_text names d)))) → (event_of entry ≡ acted action d by) × IsSome last) →
          IfOk r (λ entry. FindsEntry old last (event_of entry))
      act_read k (Err e) f = tt
      act_read k (Ok entry) f = λ x fits e. go x (at_entry old new o finds x e) fits
        where
          go : (x : Event) → IsEntry old new o finds x → EventFits program x → (event_line names (event_of entry) ≡ event_line names x) × IsSome last
          go (acted action d by) h fit = let q = f action d by fit.0 fit.1 fit.2 h.1 in (ap (event_line names) q.0, q.1)
          go (pended client number offer true) h fit = absurd (let wrong = sym h.0 ∙ k in cc)
          go (pended client number offer false) h fit = absurd (let wrong = sym h.0 ∙ k in cc)
          go _ h fit = absurd (let wrong = sym h.0 ∙ k in cc)

    module _ {E : Type 0} (old new last : Option (List ℕ)) (o : Option EntryWord)
        (finds : Finds entry_word (λ word. Unit {0}) (λ rest. Unit {0}) old new (λ word. o ≡ Some word)) where
      pub reply_read : o ≡ Some entries.Reply → (r : Result Entry E) → IfOk r (λ entry. (name : OfferName) (answer : Answer) → NameFits name → AnswerFits program answer →
          new ≡ Some (name_text name ++ (codes " " ++ answer_word names answer)) →
          (event_line names (event_of entry) ≡ event_line names (replied name.0 name.1 answer)) × IsSome last) →
          IfOk r (λ entry. FindsEntry old last (event_of entry))
      reply_read k (Err e) f = tt
      reply_read k (Ok entry) f = λ x fits e. go x (at_entry old new o finds x e) fits
        where
          go : (x : Event) → IsEntry old new o finds x → EventFits program x → (event_line names (event_of entry) ≡ event_line names x) × IsSome last
          go (replied client number answer) h fit = f (client, number) answer fit.0 fit.1 h.1
          go (pended client number offer true) h fit = absurd (let wrong = sym h.0 ∙ k in cc)
          go (pended client number offer false) h fit = absurd (let wrong = sym h.0 ∙ k in cc)
          go _ h fit = absurd (let wrong = sym h.0 ∙ k in cc)

    module _ {E : Type 0} (old new last : Option (List ℕ)) (o : Option EntryWord)
        (finds : Finds entry_word (λ word. Unit {0}) (λ rest. Unit {0}) old new (λ word. o ≡ Some word)) where
      pub stall_read : o ≡ Some entries.Stall → (r : Result Entry E) → IfOk r (λ entry. (all : List OfferName) → (all ≡ [] → ⊥) → Each NameFits all →
          new ≡ Some (flat_map (λ name. codes " " ++ name_text name) all) → (event_of entry ≡ stalled all) × IsSome last) →
          IfOk r (λ entry. FindsEntry old last (event_of entry))
      stall_read k (Err e) f = tt
      stall_read k (Ok entry) f = λ x fits e. go x (at_entry old new o finds x e) fits
        where
          go : (x : Event) → IsEntry old new o finds x → EventFits program x → (event_line names (event_of entry) ≡ event_line names x) × IsSome last
          go (stalled all) h fit = let q = f all fit.0 fit.1 h.1 in (ap (event_line names) q.0, q.1)
          go (pended client number offer true) h fit = absurd (let wrong = sym h.0 ∙ k in cc)
          go (pended client number offer false) h fit = absurd (let wrong = sym h.0 ∙ k in cc)
          go _ h fit = absurd (let wrong = sym h.0 ∙ k in cc)
