-- What a party says in a round.
use Rattle.std.proofs.Common.{◌≡◌, ℕ, ◌+◌, ◌-◌, ◌≤◌, true, false, List, [], ◌∷◌, length, Option, Some, None, Ok, refl, sym, ap, subst, ◌∙◌, arith, length-append}
use Rattle.std.specs.Prelude.{Result, Err, ◌&&◌, not, nat_eq}
use Rattle.std.proofs.lemmas.Bool.{eq-eqb}
use Rattle.std.proofs.lemmas.List.{get_or-set_same}
use Rattle.std.proofs.lemmas.List.FromFn.{length-map-range_with_len}
use Rattle.queue_core.specs.declared.message.Message.{Message}
use Rattle.queue_core.specs.declared.message.Message.TheVariants as message
use Rattle.queue_core.specs.declared.op.Op.{Op}
use Rattle.queue_core.specs.declared.op.Op.TheVariants as op
use Rattle.queue_core.specs.Shown.{as_position, least_of, delivery_of}
use Rattle.queue_mirror.specs.Master.{lead_refusal, start_refusal, or_refused, on_position, if_delivered}
use Rattle.ring_names.specs.declared.numbers.Position.{Position}
use Rattle.ring_names.specs.declared.reason.Reason.{Reason}
use Rattle.activity.specs.Kept.{got_of, kept_of, joined, no_kept}
use Rattle.confirm_book.specs.Book.{last_of}
use Rattle.ring_names.specs.Reason.{code_of}
use Rattle.lamport_merge.specs.Recorder.{Recorded, noted, noted_some}
use Rattle.ring_rules.specs.declared.event.Client.{Client}
use Rattle.ring_rules.specs.declared.event.Client.TheVariants as client
use Rattle.ring_rules.specs.declared.event.Event.{Event}
use Rattle.ring_rules.specs.declared.event.Event.TheVariants as event
use Rattle.ring_rules.specs.declared.kind.Asking.TheVariants as asking
use Rattle.ring_rules.specs.declared.kind.Kind.TheVariants as shown
use Rattle.ring_rules.specs.Kind.{Kind, Says, Steps, Copying, Changes, Stops, Reads, Tells, Saying, Own, OfQueue, QueueSaying, Publishes, Does, kind_of, shown_kind}
use Rattle.ring_rules.specs.Event.{by_of, asked_of, event_of, asked_op, queue_message, is_asked, is_told, is_passing}
use Rattle.gm_member.specs.Packets.{places}
use Rattle.gm_member.specs.Held.{Held, published_held, up_refused}
use Rattle.gm_member.specs.Said.{event_saying, said}
use Rattle.gm_member.specs.Shown.{held_of, ends_of, recorded_of, spare_of}
use Rattle.ring_parties.specs.declared.party.Party.{Party}
use Rattle.ring_parties.specs.Parties.{Shown, Keeps, ANode, shown_in, keeps_in}
use Rattle.ring_parties.specs.Keeps.{own_known, said_by, saying_refused, publishing, kind_of_message}
use Rattle.ring_parties.specs.Acting.{Casts, alone_refused}
use Rattle.ring_parties.specs.Round.{Seat, Did, refused_by_itself}
use Rattle.ring_parties.specs.Turn.{SameNames, MayTurn, SitsAt, Acted}
use Rattle.ring_parties.specs.Turns.{is_saying, answered_by, is_by_itself}
use Rattle.ring_parties.proofs.turns.Named.{names_none, names_published}
use Rattle.ring_parties.proofs.turns.Same.{may_go_on, may_same, acted_once, still_deed, seat_after, shows_same}

-- ---- the event by which it says something

-- what it says of its queue is an operation
queue_said : (h : Held) (k : Keeps) (q : QueueSaying) (m : Message) → said_by (OfQueue q) h k ≡ Ok m → (o : Op) × (asked_op k.mirror h.view h.id k.started q ≡ Ok o) × (m ≡ message.Queue o)
queue_said h k q m e = of_op (asked_op k.mirror h.view h.id k.started q) e
  where
    of_op : (r : Result Op Reason) → queue_message r ≡ Ok m → (o : Op) × (r ≡ Ok o) × (m ≡ message.Queue o)
    of_op (Ok o) f = (o, refl, cc)
    of_op (Err r) f = cc

-- on a position that was found
of_found : (why : Option Reason) (at : Result Position Reason) (make : Position → Op) (o : Op) → or_refused why (on_position make at) ≡ Ok o → (p : Position) × (o ≡ make p)
of_found None (Ok p) make o e = (p, cc)
of_found None (Err r) make o e = cc
of_found (Some r) at make o e = cc

-- on one that was handed out
of_given : (why : Option Reason) (given : Result (Unit {0}) Reason) (is o : Op) → or_refused why (if_delivered is given) ≡ Ok o → o ≡ is
of_given None (Ok u) is o e = cc
of_given None (Err r) is o e = cc
of_given (Some r) given is o e = cc

-- or on none
of_none : (why : Option Reason) (is o : Op) → or_refused why (Ok is) ≡ Ok o → o ≡ is
of_none None is o e = cc
of_none (Some r) is o e = cc

pub event_said : (e : Event) (s : Saying) (h : Held) (k : Keeps) (m : Message) (name : List ℕ) → kind_of e ≡ Says s → by_of e ≡ name → said_by s h k ≡ Ok m → event_saying name m ≡ Some e
event_said (event.Cast by body) s h k m name kind own said =
    let is : Own body ≡ s = cc in
    let same : Ok (message.Cast body) ≡ Ok m = ap (λ x. said_by x h k) is ∙ said in
    let sent : message.Cast body ≡ m = cc in
    ap (event_saying name) (sym sent) ∙ ap (λ n. Some (event.Cast n body)) (sym own)
event_said (event.Publish by body) s h k m name kind own said =
    let is : OfQueue (Publishes body) ≡ s = cc in
    let o = queue_said h k (Publishes body) m (ap (λ x. said_by x h k) is ∙ said) in
    let same = of_none (lead_refusal h.view h.id k.started) (op.Publish (as_position k.mirror.queue.next) body) o.0 o.1 in
    ap (event_saying name) (o.2 ∙ ap message.Queue same) ∙ ap (λ n. Some (event.Publish n body)) (sym own)
event_said (event.Get by) s h k m name kind own said =
    let is : OfQueue (Does asking.Get) ≡ s = cc in
    let o = queue_said h k (Does asking.Get) m (ap (λ x. said_by x h k) is ∙ said) in
    let same = of_found (lead_refusal h.view h.id k.started) (least_of k.mirror.queue.items) op.Deliver o.0 o.1 in
    ap (event_saying name) (o.2 ∙ ap message.Queue same.1) ∙ ap (λ n. Some (event.Get n)) (sym own)
event_said (event.Pop by) s h k m name kind own said =
    let is : OfQueue (Does asking.Pop) ≡ s = cc in
    let o = queue_said h k (Does asking.Pop) m (ap (λ x. said_by x h k) is ∙ said) in
    let same = of_found (lead_refusal h.view h.id k.started) (least_of k.mirror.queue.items) op.Drop o.0 o.1 in
    ap (event_saying name) (o.2 ∙ ap message.Queue same.1) ∙ ap (λ n. Some (event.Pop n)) (sym own)
event_said (event.Ack by at) s h k m name kind own said =
    let is : OfQueue (Does (asking.Ack at)) ≡ s = cc in
    let o = queue_said h k (Does (asking.Ack at)) m (ap (λ x. said_by x h k) is ∙ said) in
    let same = of_given (lead_refusal h.view h.id k.started) (delivery_of at.0 k.mirror.queue.items) (op.Ack at) o.0 o.1 in
    ap (event_saying name) (o.2 ∙ ap message.Queue same) ∙ ap (λ n. Some (event.Ack n at)) (sym own)
event_said (event.Requeue by at) s h k m name kind own said =
    let is : OfQueue (Does (asking.Requeue at)) ≡ s = cc in
    let o = queue_said h k (Does (asking.Requeue at)) m (ap (λ x. said_by x h k) is ∙ said) in
    let same = of_given (lead_refusal h.view h.id k.started) (delivery_of at.0 k.mirror.queue.items) (op.Requeue at) o.0 o.1 in
    ap (event_saying name) (o.2 ∙ ap message.Queue same) ∙ ap (λ n. Some (event.Requeue n at)) (sym own)
event_said (event.Depth by) s h k m name kind own said =
    let is : OfQueue (Does asking.Depth) ≡ s = cc in
    let o = queue_said h k (Does asking.Depth) m (ap (λ x. said_by x h k) is ∙ said) in
    let same = of_none (lead_refusal h.view h.id k.started) (op.Depth (length k.mirror.queue.items)) o.0 o.1 in
    ap (event_saying name) (o.2 ∙ ap message.Queue same) ∙ ap (λ n. Some (event.Depth n)) (sym own)
event_said (event.Start by) s h k m name kind own said =
    let is : OfQueue (Does asking.Start) ≡ s = cc in
    let o = queue_said h k (Does asking.Start) m (ap (λ x. said_by x h k) is ∙ said) in
    let same = of_none (start_refusal h.view h.id k.started) (op.Start (length k.mirror.queue.items)) o.0 o.1 in
    ap (event_saying name) (o.2 ∙ ap message.Queue same) ∙ ap (λ n. Some (event.Start n)) (sym own)
event_said e s h k m name kind own said = cc

-- ---- its book

-- the row of the member itself, once it has published a message
own_published : (m : ANode) (x : Message) → own_known (published_held (held_of m) x) ≡ joined x (own_known (held_of m))
unfolding places
own_published m x =
    get_or-set_same (held_of m).known ((held_of m).id - 1) (joined x (own_known (held_of m))) no_kept
    (omega (arith, m.own.0, m.own.1, length-map-range_with_len (λ p. kept_of m.tables (p + 1)) 0 64))

-- It has what the member has published.
pub booked_said : (m : ANode) (x : Message) (version : ℕ) (k : Keeps) → last_of k.book ≡ got_of (own_known (held_of m)) → last_of (publishing x version k).book ≡ got_of (own_known (published_held (held_of m) x))
booked_said m x version k booked =
    omega (arith, booked, length-append k.book.waiting (kind_of_message x ∷ []), length-append (own_known (held_of m)).messages (x ∷ []), ap got_of (own_published m x))

-- ---- it says something

-- what is said is there
pub saying_read : (k : Kind) → is_saying k ≡ true → (s : Saying) × (k ≡ Says s)
saying_read (Says s) e = (s, refl)
saying_read k e = cc

pub saying_shown : (k : Kind) → is_saying k ≡ true → shown_kind k ≡ shown.Says
saying_shown (Says s) e = refl
saying_shown k e = cc

pub shown_saying : (k : Kind) → shown_kind k ≡ shown.Says → is_saying k ≡ true
shown_saying (Says s) e = refl
shown_saying k e = cc

pub shown_other : (k : Kind) → (shown_kind k ≡ shown.Says → ⊥) → is_saying k ≡ false
shown_other (Says s) ne = absurd (ne refl)
shown_other (Steps s) ne = refl
shown_other (Copying s) ne = refl
shown_other (Changes c) ne = refl
shown_other Stops ne = refl
shown_other (Reads version) ne = refl
shown_other (Tells code inner) ne = refl

pub said_acted : (e : Event) (p q : Party) (m : Message) → MayTurn p → is_saying (kind_of e) ≡ true → by_of e ≡ (held_of p.node).name → alone_refused (kind_of e) (keeps_in p) (shown_in p) ≡ None
    → ((s : Saying) → kind_of e ≡ Says s → said_by s (shown_in p).held (keeps_in p) ≡ Ok m) → Casts m (shown_in p) (shown_in q) → keeps_in q ≡ publishing m (shown_in p).held.view.version (keeps_in p)
    → ends_of q.node ≡ ends_of p.node → recorded_of q.node ≡ said (held_of p.node).name m (recorded_of p.node) → spare_of p.node ≤ spare_of q.node → Acted (e ∷ []) p q
said_acted e p q m may says own enabled says_it casts keeps ends recorded spare =
    acted_once e p q may after own noted_it spare ends (subst (SameNames (held_of p.node)) (sym held) (names_published (held_of p.node) m)) (ap (λ (g : Held). g.out) held) (ap (λ (g : Held). g.current) held) did
  where
    s : Saying
    s = (saying_read (kind_of e) says).0

    is : kind_of e ≡ Says s
    is = (saying_read (kind_of e) says).1

    held : held_of q.node ≡ published_held (held_of p.node) m
    held = ap (λ (x : Shown). x.held) casts

    noted_it : recorded_of q.node ≡ noted e (recorded_of p.node)
    noted_it = recorded ∙ ap (λ o. noted_some o (recorded_of p.node)) (event_said e s (held_of p.node) (keeps_in p) m (held_of p.node).name is own (says_it s is))

    booked : last_of (keeps_in q).book ≡ got_of (own_known (held_of q.node))
    booked =
        ap (λ (k : Keeps). last_of k.book) keeps ∙ booked_said p.node m (held_of p.node).view.version (keeps_in p) may.booked
        ∙ sym (ap (λ (g : Held). got_of (own_known g)) held)

    after : MayTurn q
    after = may_go_on p q may (ap (λ (r : Recorded). r.is_alone) noted_it) (ap (λ (g : Held). g.phase) held) (ap (λ (g : Held). g.asks) held) (ap (λ (g : Held). g.out) held) (ap (λ (g : Held). g.current) held)
        (ap (λ (x : Shown). x.ends) casts) booked

    may_say : up_refused (held_of p.node) (saying_refused s (held_of p.node) (keeps_in p)) ≡ None
    may_say = sym (ap (λ k. alone_refused k (keeps_in p) (shown_in p)) is) ∙ enabled

    did : (a : Seat) → SitsAt a p → Did (kind_of e) ((recorded_of p.node).time + 1) (still_deed e) a (seat_after a q)
    did a sits = subst (λ (k : Kind). Did k ((recorded_of p.node).time + 1) (still_deed e) a (seat_after a q)) (sym is) (
      m,
      ap (λ g. up_refused g (saying_refused s g a.keeps)) sits.held ∙ ap (λ k. up_refused (held_of p.node) (saying_refused s (held_of p.node) k)) sits.keeps ∙ may_say,
      ap (λ g. said_by s g a.keeps) sits.held ∙ ap (said_by s (held_of p.node)) sits.keeps ∙ says_it s is,
      ap (λ g. record a { held = g; keeps = keeps_in q }) (held ∙ ap (λ g. published_held g m) (sym sits.held))
          ∙ ap (λ k. record a { held = published_held a.held m; keeps = k }) (keeps ∙ ap (λ (g : Held). publishing m g.view.version (keeps_in p)) (sym sits.held) ∙ ap (publishing m a.held.view.version) (sym sits.keeps)),
      (refl, refl),
    )

-- ---- it tells a refusal

pub refused_acted : (code : ℕ) (task : Client) (p q : Party) → MayTurn p → asked_of task ≡ (held_of p.node).name → is_told code (refused_by_itself (kind_of (event_of task)) (held_of p.node) (keeps_in p)) ≡ true
    → recorded_of q.node ≡ noted (event.Refuse code task) (recorded_of p.node) → spare_of p.node ≤ spare_of q.node → held_of q.node ≡ held_of p.node → ends_of q.node ≡ ends_of p.node → keeps_in q ≡ keeps_in p → Acted (event.Refuse code task ∷ []) p q
refused_acted code task p q may own told recorded spare held ends keeps =
    acted_once (event.Refuse code task) p q may (may_same p q may (ap (λ (r : Recorded). r.is_alone) recorded) (shows_same p q held ends) keeps) own recorded spare ends (subst (SameNames (held_of p.node)) (sym held) (names_none (held_of p.node))) (ap (λ (g : Held). g.out) held) (ap (λ (g : Held). g.current) held)
    (λ a sits. (
      ap (λ g. is_told code (refused_by_itself (kind_of (event_of task)) g a.keeps)) sits.held ∙ ap (λ k. is_told code (refused_by_itself (kind_of (event_of task)) (held_of p.node) k)) sits.keeps ∙ told,
      ap (λ g. record a { held = g; keeps = keeps_in q }) (held ∙ sym sits.held) ∙ ap (λ k. record a { keeps = k }) (keeps ∙ sym sits.keeps),
      (refl, refl),
    ))

-- ---- what a client asks

pub asked_client : (t : Client) → is_asked (event_of t) ≡ true
asked_client (client.Cast by body) = refl
asked_client (client.Publish by body) = refl
asked_client (client.Get by) = refl
asked_client (client.Pop by) = refl
asked_client (client.Ack by at) = refl
asked_client (client.Requeue by at) = refl
asked_client (client.Sync by target) = refl
asked_client (client.Stop by) = refl
asked_client (client.Admit by name) = refl

pub answered_client : (t : Client) → answered_by (event_of t) ≡ event_of t
answered_client (client.Cast by body) = refl
answered_client (client.Publish by body) = refl
answered_client (client.Get by) = refl
answered_client (client.Pop by) = refl
answered_client (client.Ack by at) = refl
answered_client (client.Requeue by at) = refl
answered_client (client.Sync by target) = refl
answered_client (client.Stop by) = refl
answered_client (client.Admit by name) = refl

pub itself_client : (t : Client) → is_by_itself (event_of t) ≡ is_saying (kind_of (event_of t))
itself_client (client.Cast by body) = refl
itself_client (client.Publish by body) = refl
itself_client (client.Get by) = refl
itself_client (client.Pop by) = refl
itself_client (client.Ack by at) = refl
itself_client (client.Requeue by at) = refl
itself_client (client.Sync by target) = refl
itself_client (client.Stop by) = refl
itself_client (client.Admit by name) = refl

-- what a member tells by itself of what it would say is what refuses that
pub refused_saying : (k : Kind) (p : Party) → is_saying k ≡ true → refused_by_itself k (held_of p.node) (keeps_in p) ≡ alone_refused k (keeps_in p) (shown_in p)
refused_saying (Says s) p says = refl
refused_saying k p says = cc

-- a refusal that doesn't pass is told with its number
pub told_so : (r : Reason) (code : ℕ) (o : Option Reason) → code ≡ code_of r → is_passing r ≡ false → o ≡ Some r → is_told code o ≡ true
told_so r code o same stays is =
    ap (is_told code) is ∙ ap (λ b. nat_eq (code_of r) code && not b) stays ∙ ap (λ b. b && true) (eq-eqb (code_of r) code (sym same))
