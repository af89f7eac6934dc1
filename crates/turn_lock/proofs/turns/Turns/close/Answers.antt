use Rattle.std.proofs.Common.{◌≡◌, sym, ap, subst, ◌∙◌, [], ◌∷◌, ◌++◌, ◌<◌, Some, rules}
use Rattle.std.specs.Prelude.{All, Contains, map}
use Rattle.std.specs.Option.{IsSome}
use Rattle.turn_lock.specs.Entries.{Begins, NamesBelow}
use Rattle.turn_lock.specs.Seats.{AgreesWith}
use Rattle.turn_lock.proofs.Closing.{closing}
use Rattle.turn_lock.proofs.turns.Turns.close.Goals as goal

pub unwrap-requires : goal.unwrap-requires
unwrap-requires g c =
    let T = g.T.Standing in
    let key = c.self.inside.table.shared.key in let same = c.gather-place.ensures.same in let own = c.gather-place.ensures.own in
    let end =
    closing T.list T.fixed T.maker key.value.value key.seats _ _ _ _ c.pop.new.self.items c.in-Some.last
    c.close_with-closed.ensures.values.2 same.1.0 same.1.1
    (λ n below.
    subst (λ row. Contains (map (λ s. s.number) row) n) c.in-Some.ensures.items
    (c.requires.complete n (subst (λ k. n < k) (ap (λ l. l.seats) c.self.view_is) below)))
    c.gather-place.ensures.others
    (own.0 ∙ ap (λ s. s.number) c.last.view_is) (own.1 ∙ ap (λ s. s.own) c.last.view_is)
    (subst (λ l. Begins l c.gather-place.result.me.0.account.seen) (ap (λ s. s.seen) c.last.view_is) own.2) c.take-out.result
    c.take-out.ensures.value in
    subst (λ o. IsSome o) (sym end.1) (search rules)

pub returns-clause-fixed : goal.returns-clause-fixed
returns-clause-fixed g c =
    let T = g.T.Standing in
    let key = c.self.inside.table.shared.key in let same = c.gather-place.ensures.same in let own = c.gather-place.ensures.own in
    let end =
    closing T.list T.fixed T.maker key.value.value key.seats _ _ _ _ c.pop.new.self.items c.in-Some.last
    c.close_with-closed.ensures.values.2 same.1.0 same.1.1
    (λ n below.
    subst (λ row. Contains (map (λ s. s.number) row) n) c.in-Some.ensures.items
    (c.requires.complete n (subst (λ k. n < k) (ap (λ l. l.seats) c.self.view_is) below)))
    c.gather-place.ensures.others
    (own.0 ∙ ap (λ s. s.number) c.last.view_is) (own.1 ∙ ap (λ s. s.own) c.last.view_is)
    (subst (λ l. Begins l c.gather-place.result.me.0.account.seen) (ap (λ s. s.seen) c.last.view_is) own.2) c.take-out.result
    c.take-out.ensures.value in
    let both : Some end.0 ≡ Some c.unwrap.result = sym end.1 ∙ c.unwrap.ensures in let is : end.0 ≡ c.unwrap.result = cc in
    ap T.fixed (sym is) ∙ (end.2 ∙ ap (λ l. l.fixed) c.self.view_is)

pub returns-clause-lists : goal.returns-clause-lists
returns-clause-lists g c =
    let T = g.T.Standing in
    let key = c.self.inside.table.shared.key in let same = c.gather-place.ensures.same in let own = c.gather-place.ensures.own in
    let end =
    closing T.list T.fixed T.maker key.value.value key.seats _ _ _ _ c.pop.new.self.items c.in-Some.last
    c.close_with-closed.ensures.values.2 same.1.0 same.1.1
    (λ n below.
    subst (λ row. Contains (map (λ s. s.number) row) n) c.in-Some.ensures.items
    (c.requires.complete n (subst (λ k. n < k) (ap (λ l. l.seats) c.self.view_is) below)))
    c.gather-place.ensures.others
    (own.0 ∙ ap (λ s. s.number) c.last.view_is) (own.1 ∙ ap (λ s. s.own) c.last.view_is)
    (subst (λ l. Begins l c.gather-place.result.me.0.account.seen) (ap (λ s. s.seen) c.last.view_is) own.2) c.take-out.result
    c.take-out.ensures.value in
    let both : Some end.0 ≡ Some c.unwrap.result = sym end.1 ∙ c.unwrap.ensures in let is : end.0 ≡ c.unwrap.result = cc in
    subst (λ l. All (AgreesWith T.maker (T.list c.unwrap.result)) l) (sym c.in-Some.ensures.items)
    (subst (λ x. All (AgreesWith T.maker (T.list x)) (c.pop.new.self.items ++ c.in-Some.last ∷ [])) is end.3)

pub returns-clause-named : goal.returns-clause-named
returns-clause-named g c =
    let T = g.T.Standing in
    let key = c.self.inside.table.shared.key in let same = c.gather-place.ensures.same in let own = c.gather-place.ensures.own in
    let end =
    closing T.list T.fixed T.maker key.value.value key.seats _ _ _ _ c.pop.new.self.items c.in-Some.last
    c.close_with-closed.ensures.values.2 same.1.0 same.1.1
    (λ n below.
    subst (λ row. Contains (map (λ s. s.number) row) n) c.in-Some.ensures.items
    (c.requires.complete n (subst (λ k. n < k) (ap (λ l. l.seats) c.self.view_is) below)))
    c.gather-place.ensures.others
    (own.0 ∙ ap (λ s. s.number) c.last.view_is) (own.1 ∙ ap (λ s. s.own) c.last.view_is)
    (subst (λ l. Begins l c.gather-place.result.me.0.account.seen) (ap (λ s. s.seen) c.last.view_is) own.2) c.take-out.result
    c.take-out.ensures.value in
    let both : Some end.0 ≡ Some c.unwrap.result = sym end.1 ∙ c.unwrap.ensures in let is : end.0 ≡ c.unwrap.result = cc in
    subst (λ k. NamesBelow T.maker k (T.list c.unwrap.result)) (ap (λ l. l.seats) c.self.view_is)
    (subst (λ x. NamesBelow T.maker key.seats (T.list x)) is end.4)
