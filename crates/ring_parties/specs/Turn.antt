-- What a party does in a round by itself, beside the others: what it holds then, what passes the ends of its links, and what it records.
use Rattle.std.specs.Prelude.{◌≡◌, ℕ, ◌+◌, ◌<◌, ◌≤◌, Bool, true, false, cond, nat_eq, List, [], ◌∷◌, ◌++◌, length, map, Option, Some, None, is_some, MatchOption, ⊤, Result, IfOk, OnErr}
use Rattle.ring_names.specs.declared.memory.OutOfMemory.{OutOfMemory}
use Rattle.ring_names.specs.declared.numbers.Stamp.{Stamp}
use Rattle.lamport_merge.specs.Recorder.{is_late}
use Rattle.rtrb.specs.Ring.{sent, received as got, known_items, known_free}
use Rattle.ordered_link.specs.declared.grant.Grant.{Grant}
use Rattle.ordered_link.specs.declared.item.Item.{Item}
use Rattle.ordered_link.specs.declared.ring.RingOut.{RingOut}
use Rattle.ordered_link.specs.declared.ring.RingIn.{RingIn}
use Rattle.ordered_link.specs.Names.{out_pair, in_pair}
use Rattle.activity.specs.declared.packet.Load.{Load}
use Rattle.activity.specs.Kept.{got_of}
use Rattle.confirm_book.specs.Book.{last_of}
use Rattle.ring_rules.specs.declared.event.Event.{Event}
use Rattle.ring_rules.specs.declared.phase.Phase.TheVariants.{Up}
use Rattle.ring_rules.specs.OpenLinks.{is_place}
use Rattle.gm_member.specs.Loads.{stamp_of}
use Rattle.gm_member.specs.Held.{Held}
use Rattle.gm_member.specs.Shown.{held_of, ends_of, recorded_of, spare_of, out_name_of, in_name_of}
use Rattle.ring_parties.specs.declared.party.Party.{Party}
use Rattle.ring_parties.specs.Ends.{PacketShown, InSeen, OutSeen}
use Rattle.ring_parties.specs.Parties.{ANode, content, shown_of, keeps_in}
use Rattle.ring_parties.specs.Keeps.{own_known}
use Rattle.ring_parties.specs.RoundActs.{Stamped, things, puts, takes}
use Rattle.ring_parties.specs.Round.{Seat, Deed, IsLocalRun, items_at, grants_at}
use Rattle.ring_parties.specs.Closed.{has_end}

-- ---- what passes, with its times

-- the time of a stamp in the round of a number; 0 where it is of another
abbrev pub time_at : ℕ → Stamp → ℕ
time_at round s = cond (nat_eq s.round round) s.time 0

-- an item of a link
abbrev pub timed_item : ℕ → Item Load → Stamped (Option PacketShown)
timed_item round x = record { stamp = time_at round (stamp_of x); it = content x }

-- a grant
abbrev pub timed_grant : ℕ → Grant → Stamped ℕ
timed_grant round g = record { stamp = time_at round g.stamp; it = g.amount }

-- items of a link
abbrev pub timed_items : ℕ → List (Item Load) → List (Stamped (Option PacketShown))
timed_items round xs = map (timed_item round) xs

-- grants
abbrev pub timed_grants : ℕ → List Grant → List (Stamped ℕ)
timed_grants round gs = map (timed_grant round) gs

-- An out end: these were put, all packets, and these grants gained, of those that it knew to have come back. It ends no more than before, and
-- is of the same rings.
pub record OutPasses (round : ℕ) (put : List (Stamped (Option PacketShown))) (gained : List (Stamped ℕ)) (o o' : RingOut Load) : Type 0 where
  pub items : timed_items round (sent o'.items) ≡ timed_items round (sent o.items) ++ put
  pub unended : has_end (things put) ≡ false
  pub grants : timed_grants round (got o'.back) ≡ timed_grants round (got o.back) ++ gained
  pub back : gained ++ timed_grants round (known_items o'.back) ≡ timed_grants round (known_items o.back)
  pub ended : o'.ended ≡ o.ended
  pub initial : o'.initial ≡ o.initial
  pub ring : out_pair o' ≡ out_pair o

-- An end that was not looked at: what was taken and what it knows besides is what it was, the end of the link is known to stand there still,
-- and so many slots are known on the way back as are left.
pub record Rests (round : ℕ) (n n' : RingIn Load) : Type 0 where
  pub items : timed_items round (got n'.items) ++ timed_items round (known_items n'.items) ≡ timed_items round (got n.items) ++ timed_items round (known_items n.items)
  pub end_stands : has_end (map content (known_items n'.items)) ≡ true
  pub room : length (sent n'.back) + known_free n'.back ≡ length (sent n.back) + known_free n.back

-- An in end: these were taken, and these grants given, none of which waits. It is of the same rings; and where it knew that the end of the
-- link stands there, it was not looked at.
pub record InPasses (round : ℕ) (taken : List (Stamped (Option PacketShown))) (given : List (Stamped ℕ)) (n n' : RingIn Load) : Type 0 where
  pub items : timed_items round (got n'.items) ≡ timed_items round (got n.items) ++ taken
  pub grants : timed_grants round (sent n'.back) ≡ timed_grants round (sent n.back) ++ given
  pub late : n'.late ≡ None
  pub initial : n'.initial ≡ n.initial
  pub ring : in_pair n' ≡ in_pair n
  pub rests : has_end (map content (known_items n.items)) ≡ true → Rests round n n'

-- so of the out end of a member, where it has one
abbrev pub OutsPass : ℕ → List (Stamped (Option PacketShown)) → List (Stamped ℕ) → Option (RingOut Load) → Option (RingOut Load) → Type 0
OutsPass round put gained None b = (b ≡ None) × (put ≡ []) × (gained ≡ [])
OutsPass round put gained (Some o) b = (o' : RingOut Load) × (b ≡ Some o') × OutPasses round put gained o o'

-- and of its in end
abbrev pub InsPass : ℕ → List (Stamped (Option PacketShown)) → List (Stamped ℕ) → Option (RingIn Load) → Option (RingIn Load) → Type 0
InsPass round taken given None b = (b ≡ None) × (taken ≡ []) × (given ≡ [])
InsPass round taken given (Some n) b = (n' : RingIn Load) × (b ≡ Some n') × InPasses round taken given n n'

-- ---- a party

-- what it has recorded, without times
abbrev pub events_by : Party → List Event
events_by p = map (λ (e : ℕ × Event). e.1) (recorded_of p.node).entries

-- the number of its round
abbrev pub round_of : Party → ℕ
round_of p = (recorded_of p.node).round

-- A party that may take turns in a round: its member is up and not alone, has the ends of the links on which it sends and from which it takes,
-- and no grant waits with it; and its book has what it has published.
pub record MayTurn (p : Party) : Type 0 where
  pub beside : (recorded_of p.node).is_alone ≡ false
  pub up : (held_of p.node).phase ≡ Up
  pub free : (held_of p.node).asks ≡ false
  pub out : MatchOption (held_of p.node).out ⊤ (λ _. MatchOption (shown_of p.node).ends.out ⊥ (λ (o : OutSeen). o.ended ≡ false))
  pub link : MatchOption (held_of p.node).current ⊤ (λ _. MatchOption (shown_of p.node).ends.link ⊥ (λ (n : InSeen). n.late ≡ None))
  pub returned : (shown_of p.node).ends.returned ≡ None
  pub booked : last_of (keeps_in p).book ≡ got_of (own_known (held_of p.node))

-- the way back of the link from which a member takes is known to have a free slot
abbrev pub HasRoomBack : ANode → Type 0
HasRoomBack m = (n : RingIn Load) × ((ends_of m).link ≡ Some n) × (0 < known_free n.back)

-- the oldest grant that its out end knows to have come back may be gained in this round
abbrev pub HasEarlyGrant : ANode → Type 0
HasEarlyGrant m = (o : RingOut Load) × (g : Grant) × (rest : List Grant) × ((ends_of m).out ≡ Some o) × (known_items o.back ≡ g ∷ rest) × (is_late (recorded_of m) g.stamp ≡ false)

-- A party sits at a seat: its member holds, and it keeps, what the seat does, which has a place for each of its two links.
pub record SitsAt (a : Seat) (p : Party) : Type 0 where
  pub held : a.held ≡ held_of p.node
  pub keeps : a.keeps ≡ keeps_in p
  pub out : is_some a.out ≡ is_some (held_of p.node).out
  pub current : is_some a.current ≡ is_some (held_of p.node).current

-- A member has its id and its name, and sends on a link of the same name and takes from one.
pub record SameNames (a b : Held) : Type 0 where
  pub id : b.id ≡ a.id
  pub name : b.name ≡ a.name
  pub out : out_name_of b ≡ out_name_of a
  pub current : in_name_of b 0 ≡ in_name_of a 0

-- It has come from one seat to another by these entries of its log, at the same links, and these have passed the ends of its links.
pub record Turned (round : ℕ) (a b : Seat) (es : List (ℕ × Deed)) (p p' : Party) : Type 0 where
  pub run : IsLocalRun es a b
  pub sits : SitsAt b p'
  pub same_out : b.out ≡ a.out
  pub same_current : b.current ≡ a.current
  pub same_door : b.door ≡ a.door
  pub names : SameNames a.held b.held
  pub put : List (Stamped (Option PacketShown))
  pub gained : List (Stamped ℕ)
  pub taken : List (Stamped (Option PacketShown))
  pub given : List (Stamped ℕ)
  pub puts_are : (s : ℕ) → puts (items_at s es) ≡ cond (is_place a.out s) put []
  pub gains_are : (s : ℕ) → takes (grants_at s es) ≡ cond (is_place a.out s) gained []
  pub takes_are : (s : ℕ) → takes (items_at s es) ≡ cond (is_place a.current s) taken []
  pub gives_are : (s : ℕ) → puts (grants_at s es) ≡ cond (is_place a.current s) given []
  pub out_end : OutsPass round put gained (ends_of p.node).out (ends_of p'.node).out
  pub in_end : InsPass round taken given (ends_of p.node).link (ends_of p'.node).link
  pub others : ends_of p'.node ≡ record (ends_of p.node) { out = (ends_of p'.node).out; link = (ends_of p'.node).link }
  pub recorded : (recorded_of p'.node).entries ≡ (recorded_of p.node).entries ++ map (λ (e : ℕ × Deed). (e.0, e.1.event)) es

-- from whatever seat it began
abbrev pub TakesTurns : Party → Party → Type 0
TakesTurns p p' = (a : Seat) → SitsAt a p → (b : Seat) × (es : List (ℕ × Deed)) × Turned (round_of p) a b es p p'

-- A party has done these events in a round, and may go on in it.
pub record Acted (events : List Event) (p p' : Party) : Type 0 where
  pub turns : TakesTurns p p'
  pub may : MayTurn p'
  pub round : round_of p' ≡ round_of p
  pub records : events_by p' ≡ events_by p ++ events
  pub room : spare_of p.node ≤ spare_of p'.node + length events
  pub still : events ≡ [] → recorded_of p'.node ≡ recorded_of p.node

-- It tries to do one event, such as this: whether it did.
pub record TriesTurn (is_such : Event → Type 0) (p p' : Party) (result : Result Bool OutOfMemory) : Type 0 where
  pub did : IfOk result (λ b. b ≡ true → (e : Event) × is_such e × Acted (e ∷ []) p p')
  pub did_not : IfOk result (λ b. b ≡ false → Acted [] p p')
  pub err : OnErr result (Acted [] p p')
