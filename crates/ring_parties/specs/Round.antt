-- A round: what members do in it by themselves, side by side, on the links that they have.
use Rattle.std.specs.Prelude.{◌≡◌, ℕ, ◌<◌, ◌≤◌, true, false, cond, nat_eq, ◌⊎◌, List, [], ◌∷◌, ◌++◌, length, map, slice_index_or, Option, Some, None, Ok}
use Rattle.std.specs.List.{filter}
use Rattle.queue_core.specs.declared.message.Message.{Message}
use Rattle.queue_mirror.specs.Mirror.{apply_ops}
use Rattle.confirm_book.specs.Book.{without_room, came_round}
use Rattle.ring_names.specs.declared.reason.Reason.{Reason}
use Rattle.ring_names.specs.declared.reason.Reason.TheVariants as reason
use Rattle.lamport_merge.specs.Merge.{Entry, Log}
use Rattle.ring_rules.specs.declared.event.Event.{Event}
use Rattle.ring_rules.specs.declared.kind.LinkStep.TheVariants as step
use Rattle.ring_rules.specs.declared.kind.ViewChange.TheVariants as change
use Rattle.ring_rules.specs.Kind.{Kind, Says, Steps, Copying, Changes, Stops, Reads, Tells, kind_of}
use Rattle.ring_rules.specs.Machine.{World, member_at, link_at}
use Rattle.ring_rules.specs.Step.{size}
use Rattle.ring_rules.specs.Event.{version_refusal, is_told, by_of, event_of}
use Rattle.gm_member.specs.Packets.{PacketById}
use Rattle.gm_member.specs.Held.{Held, Outgoing, at_some, up_refused, active_refused, put_refused, take_refused, gain_refused, pick_refused, published_held, put_held, packet_on, took_held, ended_held, gained_held, stopped_held, picked_held, first_at_door, without}
use Rattle.gm_member.specs.Stands.{incoming_in, held_in, door_links}
use Rattle.ring_parties.specs.Ends.{PacketShown, items_in}
use Rattle.ring_parties.specs.Parties.{Keeps}
use Rattle.ring_parties.specs.Keeps.{keeps_of, said_by, saying_refused, publishing, ops_first, round_first}
use Rattle.ring_parties.specs.Acting.{sent_of, due_of}
use Rattle.ring_parties.specs.Standing.{is_to, name_of, has_out, has_in}
use Rattle.ring_parties.specs.RoundActs.{Stamped, Act, push, pop, things, early, acts_at, timed, puts, takes}

-- A member in a round: what it holds, what its party keeps, and where among the links of the ring those stand on which it sends, from which
-- it takes, and that it has at its door.
pub record Seat : Type 0 where
  pub held : Held
  pub keeps : Keeps
  pub out : Option ℕ
  pub current : Option ℕ
  pub door : List ℕ

-- What an entry of a log tells: the event, and what it did to links, there and on their ways back.
pub record Deed : Type 0 where
  pub event : Event
  pub there : List (ℕ × Act (Option PacketShown))
  pub back : List (ℕ × Act ℕ)

-- ---- what a member does by itself

-- nothing is done to a link
abbrev pub NoActs : Deed → Type 0
NoActs d = (d.there ≡ []) × (d.back ≡ [])

-- what is kept once a member has taken this packet
abbrev pub keeps_taken : Held → PacketShown → Keeps → Keeps
keeps_taken h p k = record k {
  mirror = apply_ops k.mirror (ops_first h (Some p ∷ []));
  book = without_room (came_round (round_first h (Some p ∷ [])) k.book);
}

-- why a member doesn't do what a client asks of this kind, as far as it tells that by itself
abbrev pub refused_by_itself : Kind → Held → Keeps → Option Reason
refused_by_itself (Says s) h k = up_refused h (saying_refused s h k)
refused_by_itself (Copying s) h k = up_refused h (Some reason.Waiting)
refused_by_itself Stops h k = active_refused h None
refused_by_itself (Changes (change.Admit name)) h k = up_refused h None
refused_by_itself kind h k = None

-- the member did something of this kind at a time: by what it held it might, and it holds then what that makes of it
abbrev pub Did : Kind → ℕ → Deed → Seat → Seat → Type 0
Did (Says s) t d a b =
    (m : Message) × (up_refused a.held (saying_refused s a.held a.keeps) ≡ None) × (said_by s a.held a.keeps ≡ Ok m)
    × (b ≡ record a { held = published_held a.held m; keeps = publishing m a.held.view.version a.keeps }) × NoActs d
Did (Steps step.Put) t d a b =
    (h : Outgoing) × (s : ℕ) × (stamp : ℕ) × (a.held.out ≡ Some h) × (a.out ≡ Some s) × (put_refused a.held ≡ None) × (t ≤ stamp)
    × (b ≡ record a { held = put_held a.held })
    × (d.there ≡ (s, push (record { stamp = stamp; it = Some (sent_of (packet_on a.held.view.version a.held.known h)) })) ∷ []) × (d.back ≡ [])
Did (Steps step.Take) t d a b =
    (k : PacketById) × (s : ℕ) × (stamp : ℕ) × (given : ℕ) × (a.current ≡ Some s) × (take_refused a.held (version_refusal k.view a.held.view.version) ≡ None) × (stamp < t) × (t ≤ given)
    × (b ≡ record a { held = took_held a.held k; keeps = keeps_taken a.held (sent_of k) a.keeps })
    × (d.there ≡ (s, pop (record { stamp = stamp; it = Some (sent_of k) })) ∷ [])
    × (d.back ≡ at_some (due_of a.held) [] (λ g. (s, push (record { stamp = given; it = g })) ∷ []))
Did (Steps step.TakeEnd) t d a b =
    (s : ℕ) × (stamp : ℕ) × (a.current ≡ Some s) × (take_refused a.held None ≡ None) × (stamp < t)
    × (b ≡ record a { held = ended_held a.held; current = None })
    × (d.there ≡ (s, pop (record { stamp = stamp; it = None })) ∷ []) × (d.back ≡ [])
Did (Steps step.Gain) t d a b =
    (s : ℕ) × (stamp : ℕ) × (g : ℕ) × (a.out ≡ Some s) × (gain_refused a.held ≡ None) × (stamp < t)
    × (b ≡ record a { held = gained_held a.held g })
    × (d.there ≡ []) × (d.back ≡ (s, pop (record { stamp = stamp; it = g })) ∷ [])
Did (Steps step.Pick) t d a b =
    (i : ℕ) × (i < length a.door) × (first_at_door a.held ≡ Some i) × (pick_refused a.held ≡ None)
    × (b ≡ record a { held = picked_held a.held; current = Some (slice_index_or a.door i 0); door = without i a.door }) × NoActs d
Did Stops t d a b =
    (stamp : ℕ) × (active_refused a.held None ≡ None) × (t ≤ stamp) × (b ≡ record a { held = stopped_held a.held })
    × (d.there ≡ at_some a.out [] (λ s. (s, push (record { stamp = stamp; it = None })) ∷ [])) × (d.back ≡ [])
Did (Tells code inner) t d a b = (is_told code (refused_by_itself (kind_of (event_of inner)) a.held a.keeps) ≡ true) × (b ≡ a) × NoActs d
Did (Copying s) t d a b = ⊥
Did (Changes c) t d a b = ⊥
Did (Reads version) t d a b = ⊥

-- one entry of its log, with its time: an event of its own, which it did
abbrev pub IsEntry : (ℕ × Deed) → Seat → Seat → Type 0
IsEntry e a b = (by_of e.1.event ≡ a.held.name) × Did (kind_of e.1.event) e.0 e.1 a b

-- a local run: the entries of a log, one after another, from what the member was before to what it is after
abbrev pub IsLocalRun : List (ℕ × Deed) → Seat → Seat → Type 0
IsLocalRun [] a b = b ≡ a
IsLocalRun (e ∷ es) a b = (c : Seat) × IsEntry e a c × IsLocalRun es c b

-- ---- all members

-- A member sits in a state of the ring, at the id x, but for the links at its door that it hasn't collected yet, which are among those that
-- wait at the registrar.
pub record Sits (w : World) (post : List ℕ) (x : ℕ) (m : Seat) : Type 0 where
  pub held : m.held ≡ record (held_in w x) { door = map (incoming_in w) m.door }
  pub keeps : m.keeps ≡ keeps_of w x
  pub out : m.out ≡ (member_at w x).out
  pub current : m.current ≡ (member_at w x).current
  pub door : door_links w x ≡ m.door ++ filter (is_to w x) post

-- Where all members are, what each link holds, and what is under way on its way back.
pub record Configuration : Type 0 where
  pub seats : ℕ → Seat
  pub items : ℕ → List (Stamped (Option PacketShown))
  pub grants : ℕ → List (Stamped ℕ)

-- they are those of a state of the ring; of a link that was taken to its end nothing is said of what it holds
pub record IsIn (w : World) (post : List ℕ) (c : Configuration) : Type 0 where
  pub seats : (x : ℕ) → 1 ≤ x → x < size w → Sits w post x (c.seats x)
  pub items : (s : ℕ) → (link_at w s).over ≡ false → things (c.items s) ≡ items_in w (link_at w s)
  pub grants : (s : ℕ) → things (c.grants s) ≡ (link_at w s).flow.grants

-- No view is made from one state to another, and no link opens: links have their places and names, the members that sent on one do so still,
-- and its receiver may take from it only where it might.
pub record SameLinks (w w' : World) : Type 0 where
  pub size_is : size w' ≡ size w
  pub views : w'.views ≡ w.views
  pub many : length w'.links ≡ length w.links
  pub names : (s : ℕ) → name_of w' s ≡ name_of w s
  pub has_outs : (s : ℕ) → has_out w' s ≡ has_out w s
  pub opens : (s : ℕ) → has_in w' s ≡ true → has_in w s ≡ true

-- ---- what is done to one link

-- by a log
abbrev pub items_at : ℕ → List (ℕ × Deed) → List (ℕ × Act (Option PacketShown))
items_at s [] = []
items_at s (e ∷ es) = timed e.0 (acts_at s e.1.there) ++ items_at s es

-- and on its way back
abbrev pub grants_at : ℕ → List (ℕ × Deed) → List (ℕ × Act ℕ)
grants_at s [] = []
grants_at s (e ∷ es) = timed e.0 (acts_at s e.1.back) ++ grants_at s es

-- the entries of a party among logs
abbrev pub entries_by : ℕ → List (Log Deed) → List (ℕ × Deed)
entries_by p [] = []
entries_by p (l ∷ ls) = cond (nat_eq l.party p) l.entries (entries_by p ls)

-- Members have taken their turns in a round, from a on, and are so in b: each has written a local run, and nobody else has written any; and
-- of each link what it held and what its sender put is what its receiver took and what it holds, and so of the grants on its way back.
pub record TookTurns (w : World) (logs : List (Log Deed)) (a b : Configuration) : Type 0 where
  pub runs : (x : ℕ) → 1 ≤ x → x < size w → IsLocalRun (entries_by x logs) (a.seats x) (b.seats x)
  pub nobody_else : (x : ℕ) → (x < 1) ⊎ (size w ≤ x) → entries_by x logs ≡ []
  pub items : (s : ℕ) → a.items s ++ puts (items_at s (entries_by (link_at w s).sender logs)) ≡ takes (items_at s (entries_by (link_at w s).receiver logs)) ++ b.items s
  pub grants : (s : ℕ) → a.grants s ++ puts (grants_at s (entries_by (link_at w s).receiver logs)) ≡ takes (grants_at s (entries_by (link_at w s).sender logs)) ++ b.grants s

-- the events of a merge
abbrev pub events_in : List (Entry Deed) → List Event
events_in m = map (λ (e : Entry Deed). e.event.event) m

-- what each member is in a state of the ring, with nothing waiting at the registrar; all that stands on links is of earlier rounds
abbrev pub configuration_of : World → Configuration
configuration_of w = record {
  seats = λ x. record { held = held_in w x; keeps = keeps_of w x; out = (member_at w x).out; current = (member_at w x).current; door = door_links w x };
  items = λ s. early (items_in w (link_at w s));
  grants = λ s. early (link_at w s).flow.grants;
}
