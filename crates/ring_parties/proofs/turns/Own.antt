-- What a member keeps of its own messages when it takes a packet: as many as before, of which no more have come round.
use Rattle.std.proofs.Common.{◌≡◌, ℕ, ◌+◌, ◌-◌, ◌≤◌, Bool, true, false, cond, Option, Some, None, refl, sym, ap, subst, ◌∙◌, arith}
use Rattle.std.proofs.lemmas.Bool.{eq-eqb}
use Rattle.confirm_book.specs.Book.{Ledger, last_of, without_room, came_round}
use Rattle.std.proofs.lemmas.List.{length-drop}
use Rattle.activity.specs.Kept.{Kept, got_of, no_kept}
use Rattle.activity.specs.Packets.{LineSeen, got_in}
use Rattle.activity.specs.Plan.{fits, accepted}
use Rattle.activity.proofs.Fits.{WentRound, went_round}
use Rattle.activity.proofs.Marks.{accepted_passed, planned, marks_kept}
use Rattle.group_view.specs.Ring.{is_in}
use Rattle.ring_rules.specs.View.{between}
use Rattle.ring_rules.specs.Step.{is_owned}
use Rattle.gm_member.specs.Packets.{PacketById, places, known_at, line_at}
use Rattle.gm_member.specs.Held.{Held, Incoming, owns, took_from}
use Rattle.gm_member.proofs.Places.{tabled_at}
use Rattle.ring_parties.specs.Keeps.{own_known}

-- of these there are as many as there were, and no more of them are forgotten than there are
abbrev pub SameOwn : Kept → Kept → Type 0
SameOwn old new = (got_of new ≡ got_of old) × (new.forgot ≤ got_of old)

-- a line of its own messages
own_accepted : (k : Kept) (o : Option LineSeen) → SameOwn k (accepted true k o)
own_accepted k None = (refl, omega arith)
own_accepted k (Some c) = by (fits true k c) refl
  where
    by : (b : Bool) → fits true k c ≡ b → SameOwn k (accepted true k (Some c))
    by false h = subst (SameOwn k) (sym (accepted_passed true k c h)) (refl, omega arith)
    by true h =
        let r : WentRound k c (got_in c) c.forgot = went_round true k c c.origin (got_in c) c.forgot (planned true k c h) in
        let m = marks_kept true k c h in
        let g : got_of (accepted true k (Some c)) ≡ got_of k = ap (λ x. x.got) m in
        let f : (accepted true k (Some c)).forgot ≡ got_in c = ap (λ x. x.forgot) m in
        (g, subst (λ n. n ≤ got_of k) (sym f) r.got)

-- the member answers for its own messages
pub own_took : (h : Held) (k : PacketById) (c : Incoming) → 1 ≤ h.id → h.id ≤ 64 → SameOwn (own_known h) (own_known (took_from h k c))
unfolding places
own_took h k c some few =
    let i : h.id - 1 + 1 ≡ h.id = omega arith in
    let mine : owns h c.from (h.id - 1) ≡ true = ap (λ p. is_owned h.view h.id c.from p) i ∙ ap (λ b. cond b true (is_in h.id (between h.view c.from h.id))) (eq-eqb h.id h.id refl) in
    let is : own_known (took_from h k c) ≡ accepted true (own_known h) (line_at k.lines (h.id - 1)) =
    tabled_at (λ p. accepted (owns h c.from p) (known_at h.known p) (line_at k.lines p)) 64 (h.id - 1) no_kept (omega arith)
    ∙ ap (λ b. accepted b (own_known h) (line_at k.lines (h.id - 1))) mine in
    subst (SameOwn (own_known h)) (sym is) (own_accepted (own_known h) (line_at k.lines (h.id - 1)))

-- a book has as many messages once some have come round
pub last_same : (to : ℕ) (b : Ledger) → to ≤ last_of b → last_of (without_room (came_round to b)) ≡ last_of b
last_same to b few = omega (arith, few, length-drop (to - b.confirmed) b.waiting)
