-- What an event does to the parties, before the ends of links meet.
use Rattle.std.specs.Prelude.{◌≡◌, ℕ, ◌+◌, ◌<◌, ◌≤◌, ◌++◌, ◌∷◌, Bool, true, false, not, cond, List, [], length, Option, Some, None, MatchOption, slice_index_or, map, nat_eq, nat_lt, ⊤, Ok}
use Rattle.std.specs.List.{filter}
use Rattle.queue_core.specs.declared.message.Message.{Message}
use Rattle.ring_names.specs.declared.reason.Reason.{Reason}
use Rattle.ring_names.specs.declared.reason.Reason.TheVariants as reason
use Rattle.ring_names.specs.declared.numbers.CreditSpec.{CreditSpec}
use Rattle.ordered_link.specs.Names.{PairName}
use Rattle.credit_flow.specs.Credit.{grant_due}
use Rattle.credit_flow.specs.Link.{with_grant}
use Rattle.group_view.specs.declared.link.LinkName.{LinkName}
use Rattle.group_view.specs.View.{Group}
use Rattle.group_view.specs.Change.{marked, erased, registered, admitted}
use Rattle.group_view.specs.Since.{view_at}
use Rattle.promotion.specs.Elect.{installed}
use Rattle.ring_rules.specs.declared.kind.LinkStep.{LinkStep}
use Rattle.ring_rules.specs.declared.kind.LinkStep.TheVariants as step
use Rattle.ring_rules.specs.declared.kind.ViewChange.TheVariants as change
use Rattle.ring_rules.specs.declared.kind.Kind.{Kind as ShownKind}
use Rattle.ring_rules.specs.declared.kind.Kind.TheVariants as shown
use Rattle.ring_rules.specs.Kind.{Kind, Says, Steps, Copying, Changes, Stops, Reads, Tells}
use Rattle.ring_rules.specs.Refusal.{refuse_if, is_empty}
use Rattle.ring_rules.specs.View.{right_of}
use Rattle.ring_rules.specs.Machine.{runs_phase}
use Rattle.ring_rules.specs.Event.{version_refusal}
use Rattle.gm_member.specs.Packets.{PacketById}
use Rattle.gm_member.specs.Held.{Held, joining_held, Outgoing, Incoming, at_some, active_refused, up_refused, on_some, published_held, put_held, packet_on, put_refused, pick_refused, take_refused, took_held, gained_held, ended_held, stopped_held, is_for, stays, sends_to, fresh_out as unsent_on, fresh_in as arriving_in, refreshed_held, first_at_door, picked_held, without, collected_held}
use Rattle.gm_member.specs.View.{ring_link}
use Rattle.gm_member.specs.Shown.{When}
use Rattle.ring_parties.specs.Ends.{PacketShown, OutSeen, InSeen, opened_out, fresh_in}
use Rattle.ring_parties.specs.Parties.{EndsSeen, Shown, Keeps, Deposit, Parties, node_at, with_node}
use Rattle.activity.specs.Kept.{got_of}
use Rattle.confirm_book.specs.Book.{last_of}
use Rattle.ring_parties.specs.Keeps.{said_by, saying_refused, own_known, round_next}

-- ---- one end

-- a packet, as it stands on a link
abbrev pub sent_of : PacketById → PacketShown
sent_of k = record { view = k.view; lines = k.lines }

-- Items were put, grants that had come back were gained, and it has ended or not.
pub record ActsOut (items : List (Option PacketShown)) (grants : List ℕ) (is_ended : Bool) (o o' : OutSeen) : Type 0 where
  pub put : o'.put ≡ o.put ++ items
  pub gained : o'.gained ≡ o.gained ++ grants
  pub back : grants ++ o'.back ≡ o.back
  pub initial : o'.initial ≡ o.initial
  pub ring : o'.ring ≡ o.ring
  pub ended : o'.ended ≡ is_ended

-- The oldest item, a packet, was taken, and the grant that is due is given.
pub record TakesIn (due : Option ℕ) (n : InSeen) (k : PacketShown) (n' : InSeen) : Type 0 where
  pub taken : n'.taken ≡ n.taken ++ Some k ∷ []
  pub items : n.items ≡ Some k ∷ n'.items
  pub given : n'.given ≡ with_grant n.given due
  pub late : n'.late ≡ None
  pub room : length n'.given + n'.free ≡ length n.given + n.free
  pub initial : n'.initial ≡ n.initial
  pub ring : n'.ring ≡ n.ring

-- ---- what a member needs of its ends for its calls

-- A running member has the end of the link on which it sends, which hasn't ended, and there a packet for which it has credit has a slot. It has
-- the end of the link from which it takes, where no grant waits, and the grant that a packet may bring has a slot. It keeps no grant, and no
-- end that it has replaced or left.
pub record IsReady (m : Shown) : Type 0 where
  pub out : runs_phase m.held.phase ≡ true → MatchOption m.held.out ⊤ (λ h. MatchOption m.ends.out ⊥ (λ o. (o.ended ≡ false) × (0 < h.credit.credit → 1 < o.free)))
  pub link : MatchOption m.held.current ⊤ (λ _. MatchOption m.ends.link ⊥ (λ n. (n.late ≡ None) × ((k : PacketShown) (rest : List (Option PacketShown)) → n.items ≡ Some k ∷ rest → 0 < n.free)))
  pub returned : m.ends.returned ≡ None
  pub old_outs : m.ends.old_outs ≡ []
  pub old_ins : m.ends.old_ins ≡ []

-- ---- refusals, by what a member holds and what its ends show

-- the first item of a link
abbrev pub first_item : Option InSeen → List (Option PacketShown)
first_item end = at_some end [] (λ n. n.items)

-- why a member with a view of this version takes no packet from a link with these items
abbrev pub items_refused : ℕ → List (Option PacketShown) → Option Reason
items_refused have [] = Some reason.NothingToTake
items_refused have (None ∷ items) = Some reason.EndNext
items_refused have (Some k ∷ items) = version_refusal k.view have

-- why no end
abbrev pub end_refused : List (Option PacketShown) → Option Reason
end_refused [] = Some reason.NothingToTake
end_refused (None ∷ items) = None
end_refused (Some k ∷ items) = Some reason.PacketNext

-- the grants that have come back to an out end
abbrev pub back_of : Option OutSeen → List ℕ
back_of end = at_some end [] (λ o. o.back)

-- ---- of what a member does by itself, the first condition that fails

-- of the taking of a packet
abbrev pub packet_refused : Shown → Option Reason
packet_refused m = take_refused m.held (items_refused m.held.view.version (first_item m.ends.link))

-- of the taking of a link's end
abbrev pub link_end_refused : Shown → Option Reason
link_end_refused m = take_refused m.held (end_refused (first_item m.ends.link))

-- of a gain
abbrev pub grant_refused : Shown → Option Reason
grant_refused m = up_refused m.held (on_some m.held.out reason.NoOutLink (λ _. refuse_if (is_empty (back_of m.ends.out)) reason.NoGrant))

-- The book of a party has all messages that its member has published, and no more of them come round by the next packet.
pub record IsBooked (m : Shown) (k : Keeps) : Type 0 where
  pub last : last_of k.book ≡ got_of (own_known m.held)
  pub round : packet_refused m ≡ None → round_next m ≤ last_of k.book

-- of a stop
abbrev pub stop_refused : Shown → Option Reason
stop_refused m = active_refused m.held None

-- of a refresh to a version, where the newest is another
abbrev pub look_refused : ℕ → Shown → ℕ → Option Reason
look_refused newest m version = up_refused m.held (refuse_if (cond (nat_lt version m.held.view.version) true (nat_lt newest version)) (reason.ViewOutOfRange version m.held.view.version newest))

-- ---- one member

-- it has published a message
abbrev pub Casts : Message → Shown → Shown → Type 0
Casts m a b = b ≡ record a { held = published_held a.held m }

-- it has put a packet
abbrev pub PutsPacket : Shown → Shown → Type 0
PutsPacket a b =
    (h : Outgoing) × (o : OutSeen) × (o' : OutSeen) × (a.held.out ≡ Some h) × (a.ends.out ≡ Some o)
    × ActsOut (Some (sent_of (packet_on a.held.view.version a.held.known h)) ∷ []) [] false o o'
    × (b ≡ record { held = put_held a.held; ends = record a.ends { out = Some o' } })

-- the grant that is due with the next load from the link that it takes from
abbrev pub due_of : Held → Option ℕ
due_of h = at_some h.current None (λ l. grant_due l.counted)

-- it has taken one
abbrev pub TakesPacket : Shown → Shown → Type 0
TakesPacket a b =
    (k : PacketById) × (n : InSeen) × (n' : InSeen) × (a.ends.link ≡ Some n) × TakesIn (due_of a.held) n (sent_of k) n'
    × (b ≡ record { held = took_held a.held k; ends = record a.ends { link = Some n' } })

-- it has taken the end of its link, and given up its own end of it
abbrev pub TakesEnd : Shown → Shown → Type 0
TakesEnd a b =
    (n : InSeen) × (rest : List (Option PacketShown)) × (a.ends.link ≡ Some n) × (n.items ≡ None ∷ rest)
    × (b ≡ record { held = ended_held a.held; ends = record a.ends { link = None } })

-- it has gained the oldest grant
abbrev pub Gains : Shown → Shown → Type 0
Gains a b =
    (amount : ℕ) × (o : OutSeen) × (o' : OutSeen) × (a.ends.out ≡ Some o) × ActsOut [] (amount ∷ []) o.ended o o'
    × (b ≡ record { held = gained_held a.held amount; ends = record a.ends { out = Some o' } })

-- its out end has ended, where it has one
abbrev pub EndsIts : Option OutSeen → Option OutSeen → Type 0
EndsIts None b = b ≡ None
EndsIts (Some o) b = (o' : OutSeen) × ActsOut (None ∷ []) [] true o o' × (b ≡ Some o')

-- it has stopped
abbrev pub Halts : Shown → Shown → Type 0
Halts a b = EndsIts a.ends.out b.ends.out × (b ≡ record { held = stopped_held a.held; ends = record a.ends { out = b.ends.out } })

-- it has picked the first link at its door that it may
abbrev pub Picks : Shown → Shown → Type 0
Picks a b =
    (i : ℕ) × (first_at_door a.held ≡ Some i)
    × (b ≡ record { held = picked_held a.held; ends = record a.ends { link = slice_index_or a.ends.door i None; door = without i a.ends.door } })

-- ---- what a member does by itself: it says something, or does a step on its links; what it says of the queue, by what its party keeps

-- whether what is read of a kind is that
abbrev pub is_alone : ShownKind → Bool
is_alone shown.Says = true
is_alone (shown.Links s) = true
is_alone k = false

-- the first condition of a step that fails
abbrev pub step_refused : LinkStep → Shown → Option Reason
step_refused step.Put a = put_refused a.held
step_refused step.Take a = packet_refused a
step_refused step.TakeEnd a = link_end_refused a
step_refused step.Gain a = grant_refused a
step_refused step.Pick a = pick_refused a.held

-- what a step does
abbrev pub DoesStep : LinkStep → Shown → Shown → Type 0
DoesStep step.Put = PutsPacket
DoesStep step.Take = TakesPacket
DoesStep step.TakeEnd = TakesEnd
DoesStep step.Gain = Gains
DoesStep step.Pick = Picks

-- the first condition that fails of what it does by itself, of a step on a copy, or of its stop
abbrev pub alone_refused : Kind → Keeps → Shown → Option Reason
alone_refused (Says s) keeps a = up_refused a.held (saying_refused s a.held keeps)
alone_refused (Steps s) keeps a = step_refused s a
alone_refused (Copying s) keeps a = up_refused a.held (Some reason.Waiting)
alone_refused Stops keeps a = stop_refused a
alone_refused k keeps a = None

-- what it does by itself
abbrev pub DoesAlone : Kind → Keeps → Shown → Shown → Type 0
DoesAlone (Says s) keeps a b = (m : Message) × (said_by s a.held keeps ≡ Ok m) × Casts m a b
DoesAlone (Steps s) keeps a b = DoesStep s a b
DoesAlone k keeps a b = ⊥

-- ---- a member that has another view

-- of two lists side by side, what stands in the second where the first passes a test
abbrev pub beside : {A B : Type 0} → (A → Bool) → List A → List B → List B
beside t [] ys = []
beside t (x ∷ xs) [] = []
beside t (x ∷ xs) (y ∷ ys) = cond (t x) (y ∷ beside t xs ys) (beside t xs ys)

-- what stays of the end of the link from which it takes
abbrev pub kept_end : Group → ℕ → Option Incoming → Option InSeen → Option InSeen
kept_end v x None e = None
kept_end v x (Some l) e = cond (is_for v x l) e None

-- the ends that it has then: those of links that stay
abbrev pub looked_ends : Group → Shown → EndsSeen
looked_ends v a = record a.ends { link = kept_end v a.held.id a.held.current a.ends.link; door = beside (stays v a.held.id) a.held.door a.ends.door }

-- its out end is replaced, where it had one, which has ended
abbrev pub Replacing : ℕ → Option Outgoing → Option OutSeen → Option (LinkName × OutSeen) → Type 0
Replacing x None o replaced = replaced ≡ None
Replacing x (Some h) None replaced = ⊥
Replacing x (Some h) (Some o) replaced = (o' : OutSeen) × ActsOut (None ∷ []) [] true o o' × (replaced ≡ Some (ring_link x h.to h.opened, o'))

-- the first packet of the link that it opens
abbrev pub first_sent : Shown → Group → PacketShown
first_sent a v = sent_of (packet_on v.version a.held.known (unsent_on a.held.initial a.held.more (right_of v a.held.id) v.version))

-- It has a view, and sends to its right neighbour in it: as it did, or on a new link, whose in end is to wait for its receiver.
abbrev pub Looks : Group → Shown → Shown → Option Deposit → Option (LinkName × OutSeen) → Type 0
Looks v a b new replaced =
    When (sends_to a.held.out (right_of v a.held.id))
    ((b ≡ record { held = refreshed_held a.held v; ends = looked_ends v a }) × (new ≡ None) × (replaced ≡ None))
    × When (not (sends_to a.held.out (right_of v a.held.id)))
    ((ring : PairName) × (ring.slots ≡ a.held.initial + 1) × (b ≡ record { held = refreshed_held a.held v; ends = record (looked_ends v a) { out = Some (opened_out ring a.held.initial (first_sent a v)) } })
    × (new ≡ Some (record { name = ring_link a.held.id (right_of v a.held.id) v.version; end = Some (fresh_in ring a.held.initial) }))
    × Replacing a.held.id a.held.out a.ends.out replaced)

-- ---- all parties

-- a link waits behind the others
abbrev pub depositing : Option Deposit → Parties → Parties
depositing None q = q
depositing (Some new) q = record q { deposits = q.deposits ++ new ∷ [] }

-- the newest view
abbrev pub newest_of : Parties → Group
newest_of q = view_at q.views (length q.views)

-- another view follows
abbrev pub viewing : Group → Parties → Parties
viewing v q = record q { views = q.views ++ v ∷ [] }

-- the one in which p is erased, and a master is elected where none stands
abbrev pub erasing : Parties → ℕ → Group
erasing q p = installed (erased (newest_of q) p)

-- the one in which x is registered as synchronised, and a master is elected where none stands
abbrev pub registering : Parties → ℕ → Group
registering q x = installed (registered (newest_of q) x)

-- the member at a place has another view
abbrev pub LooksAt : Group → ℕ → Parties → Parties → Option (LinkName × OutSeen) → Type 0
LooksAt v i q q' replaced = (b : Shown) × (new : Option Deposit) × Looks v (node_at q i) b new replaced × (q' ≡ depositing new (with_node q i b))

-- the links of a member are of this credit
abbrev pub HasCredit : CreditSpec → Held → Type 0
HasCredit credit h = (credit.initial ≡ h.initial) × (credit.more ≡ h.more)

-- the view in which the member at a place has admitted one of a name
abbrev pub admitting : Parties → ℕ → List ℕ → Group
admitting q i name = admitted (newest_of q) (i + 1) name

-- a member that joins with a view, and has this end of the link to it
abbrev pub joined : CreditSpec → List ℕ → ℕ → Group → Option InSeen → Shown
joined credit name id v end = record {
  held = joining_held credit name id v;
  ends = record { out = None; returned = None; link = end; door = []; old_outs = []; old_ins = [] };
}

-- one more is among the members
abbrev pub joining : Shown → Parties → Parties
joining m q = record q { nodes = q.nodes ++ m ∷ [] }

-- the member at a place has a view, and one of this name and id joins with it, for whom the link is that this opens
abbrev pub LetsIn : Group → CreditSpec → List ℕ → ℕ → ℕ → Parties → Parties → Option (LinkName × OutSeen) → Type 0
LetsIn v credit name id i q q' replaced =
    (b : Shown) × (new : Option Deposit) × Looks v (node_at q i) b new replaced
    × (q' ≡ joining (joined credit name id v (at_some new None (λ (d : Deposit). d.end))) (viewing v (with_node q i b)))

-- the member at a place admits one of a name
abbrev pub AdmitsAt : List ℕ → ℕ → Parties → Parties → Option (LinkName × OutSeen) → Type 0
AdmitsAt name i q q' replaced = (credit : CreditSpec) × HasCredit credit (node_at q i).held × LetsIn (admitting q i name) credit name (newest_of q).next_id i q q' replaced

-- what the member at place i, whose party keeps that, does of a kind; d is the id of the one that is marked or erased; a refusal changes
-- nothing
abbrev pub Acts : Kind → Keeps → ℕ → ℕ → Parties → Parties → Option (LinkName × OutSeen) → Type 0
Acts Stops keeps i d q q' replaced = (b : Shown) × Halts (node_at q i) b × (q' ≡ record (with_node q i b) { stopped = q.stopped ++ (i + 1) ∷ [] }) × (replaced ≡ None)
Acts (Changes (change.Mark dead)) keeps i d q q' replaced = LooksAt (marked (newest_of q) d) i (viewing (marked (newest_of q) d) q) q' replaced
Acts (Changes (change.Erase origin)) keeps i d q q' replaced = LooksAt (erasing q d) i (viewing (erasing q d) q) q' replaced
Acts (Changes (change.Admit name)) keeps i d q q' replaced = AdmitsAt name i q q' replaced
Acts (Changes change.Register) keeps i d q q' replaced = LooksAt (registering q (i + 1)) i (viewing (registering q (i + 1)) q) q' replaced
Acts (Reads version) keeps i d q q' replaced = LooksAt (view_at q.views version) i q q' replaced
Acts (Tells code inner) keeps i d q q' replaced = (q' ≡ q) × (replaced ≡ None)
Acts k keeps i d q q' replaced = (b : Shown) × DoesAlone k keeps (node_at q i) b × (q' ≡ with_node q i b) × (replaced ≡ None)

-- ---- collecting

-- whether a link waits for the member of an id
abbrev pub waits_at : ℕ → Deposit → Bool
waits_at x d = nat_eq d.name.to.0 x

-- such a link, as its receiver has it that has taken nothing from it
abbrev pub received : Held → Deposit → Incoming
received h d = arriving_in h.initial h.more d.name.from.0 d.name.view

-- whether the receiver keeps it
abbrev pub is_kept_by : Held → Deposit → Bool
is_kept_by h d = stays h.view h.id (received h d)

-- These links come to the member's door, but for those that it may not take from any more.
pub record Collects (a b : Shown) (links : List Deposit) : Type 0 where
  pub held : b.held ≡ collected_held a.held (map (received a.held) links)
  pub ends : b.ends ≡ record a.ends { door = a.ends.door ++ map (λ d. d.end) (filter (is_kept_by a.held) links) }
