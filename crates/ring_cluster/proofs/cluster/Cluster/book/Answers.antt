use Rattle.std.proofs.Common.{◌≡◌, ◌-◌, ap, arith, subst, ◌∙◌}
use Rattle.std.specs.Prelude.{IfSome}
use Rattle.confirm_book.specs.Book.{IsBookOf, without_room}
use Rattle.confirm_book.proofs.Books.{book_is}
use Rattle.ring_rules.specs.Step.{size}
use Rattle.ring_parties.specs.Parties.{Keeps}
use Rattle.ring_parties.specs.Keeps.{keeps_at, kinds_of, round_of}
use Rattle.ring_parties.specs.States.{state}
use Rattle.ring_parties.proofs.keeping.Rounds.{round_within}
use Rattle.ring_parties.proofs.events.After.{lawful_after}
use Rattle.ring_cluster.specs.Seen.{state_of}
use Rattle.ring_parties.proofs.lists.Lists.{if_some_from}
use Rattle.ring_cluster.proofs.rounds.Holding.{parties_many}
use Rattle.ring_cluster.proofs.cluster.Cluster.book.Goals as goal

pub returns-clause-there : goal.returns-clause-there
returns-clause-there c =
    let count = parties_many c.self.inside.credit c.self.inside.names.items c.self.inside.journal.items (c.self.inside.parties).all c.self.invariant.standing in
    (λ some. let w = c.book.ensures.there.0 some in (w.0, omega (arith, w.1, count, ap (λ x. size (state_of x)) c.self.view_is)), λ w. c.book.ensures.there.1 (w.0, omega (arith, w.1, count, ap (λ x. size (state_of x)) c.self.view_is)))

pub returns-clause-stands : goal.returns-clause-stands
returns-clause-stands c =
    let w = state c.self.inside.credit c.self.inside.names.items c.self.inside.journal.items in
    let x = c.args.id.0 in
    let count = parties_many c.self.inside.credit c.self.inside.names.items c.self.inside.journal.items (c.self.inside.parties).all c.self.invariant.standing in
    let fit = (lawful_after c.self.inside.credit c.self.inside.names.items c.self.inside.journal.items c.self.invariant.standing.journal).fit in
    subst (λ y. IfSome c.book.result (λ b. IsBookOf (kinds_of (state_of y) x) (round_of (state_of y) x) b.now)) c.self.view_is
    (if_some_from (λ b. without_room b.now ≡ (keeps_at (c.self.inside.parties).keeps (x - 1)).book) _ c.book.result
    (λ some b e.
    book_is (kinds_of w x) (round_of w x) b.now (round_within w x fit)
    (e ∙ ap (λ (k : Keeps). k.book) (c.self.invariant.keeps.each x (c.book.ensures.there.0 some).0 (omega (arith, (c.book.ensures.there.0 some).1, count)))))
    c.book.ensures.kept)
