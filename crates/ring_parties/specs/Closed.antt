-- What the parties of a cluster show once a round is closed: its members have done what they did, the ends of their links have met behind it, and
-- those that they left or replaced are gone.
use Rattle.std.specs.Prelude.{◌≡◌, ℕ, ◌-◌, ◌<◌, ◌≤◌, ◌++◌, Bool, true, false, ◌&&◌, ◌||◌, ◌⊎◌, cond, List, [], ◌∷◌, length, map, Option, Some, None, option_map}
use Rattle.group_view.specs.Ring.{is_in}
use Rattle.lamport_merge.specs.Merge.{Log}
use Rattle.ring_rules.specs.Machine.{World, link_at}
use Rattle.ring_rules.specs.OpenLinks.{is_place}
use Rattle.ring_rules.specs.Step.{size}
use Rattle.ring_rules.specs.Event.{is_stopped}
use Rattle.ring_parties.specs.Ends.{PacketShown, OutSeen, InSeen}
use Rattle.ring_parties.specs.Parties.{Keeps, Shown, Parties, node_at}
use Rattle.ring_parties.specs.Keeps.{keeps_at}
use Rattle.ring_parties.specs.Standing.{Places, HaveDone, name_of, has_out}
use Rattle.ring_parties.specs.RoundActs.{Stamped, things, puts, takes}
use Rattle.ring_parties.specs.Round.{Seat, Deed, IsLocalRun, Configuration, items_at, grants_at, entries_by}
use Rattle.ring_parties.specs.Seated.{has_in_at, has_out_at}

-- ---- one member

-- A member shows what its seat holds, and the ends of its links as they stand at their places; it has none that it has replaced or left.
pub record ShowsSeat (p : Places) (a : Seat) (m : Shown) : Type 0 where
  pub held : m.held ≡ a.held
  pub out : m.ends.out ≡ option_map p.outs a.out
  pub returned : m.ends.returned ≡ None
  pub link : m.ends.link ≡ option_map p.ins a.current
  pub ends : m.ends.door ≡ map (λ s. Some (p.ins s)) a.door
  pub old_outs : m.ends.old_outs ≡ []
  pub old_ins : m.ends.old_ins ≡ []

-- ---- one link

-- whether the member of a seat takes from the link at a place, or has it at its door, or may come to have it, where these wait for their receivers
abbrev pub may_take : List ℕ → Seat → ℕ → Bool
may_take post a s = is_place a.current s || (is_in s a.door || is_in s post)

-- whether the receiver of a link might take from it, and still may
abbrev pub stays_open : World → List ℕ → Configuration → ℕ → Bool
stays_open w post b s = has_in_at w s && may_take post (b.seats (link_at w s).receiver) s

-- whether the end of a link is among items
abbrev pub has_end : List (Option PacketShown) → Bool
has_end [] = false
has_end (Some k ∷ items) = has_end items
has_end (None ∷ items) = true

-- Ends of a link that showed o and n show this once a round is closed, in which these were put, and these grants given.
pub record LinkCloses (both : Bool) (o : OutSeen) (n : InSeen) (o' : OutSeen) (n' : InSeen) (puts : List (Option PacketShown)) (gives : List ℕ) : Type 0 where
  -- they have met; where the out end was dropped before, the in end knew all that was put
  pub met : HaveDone both o' n'
  -- an out end ends where it puts the end of the link
  pub ended : o'.ended ≡ (o.ended || has_end puts)
  -- no grant waits in the in end
  pub late : n'.late ≡ None
  -- where the out end was dropped before, nothing was gained, and the grants were given behind the others
  pub dropped : both ≡ false → (o'.gained ≡ o.gained) × (n'.given ≡ n.given ++ gives)
  -- they are still the ends of that link
  pub out_initial : o'.initial ≡ o.initial
  pub in_initial : n'.initial ≡ n.initial
  pub out_ring : o'.ring ≡ o.ring
  pub in_ring : n'.ring ≡ n.ring

-- ---- all of them

-- what was put on a link in a round
abbrev pub put_on : World → List (Log Deed) → ℕ → List (Stamped (Option PacketShown))
put_on w logs s = puts (items_at s (entries_by (link_at w s).sender logs))

-- and the grants that were given on its way back
abbrev pub given_on : World → List (Log Deed) → ℕ → List (Stamped ℕ)
given_on w logs s = puts (grants_at s (entries_by (link_at w s).receiver logs))

-- Members have taken their turns in a round, from a on, and are so in b, as their ends know it: of each link whose receiver has its in end what
-- stood there and was put is what was taken and stands there, and so of the grants on the way back of one whose sender has its out end. Of other
-- links nothing is said.
pub record TookTurnsByEnds (w : World) (logs : List (Log Deed)) (a b : Configuration) : Type 0 where
  pub runs : (x : ℕ) → 1 ≤ x → x < size w → IsLocalRun (entries_by x logs) (a.seats x) (b.seats x)
  pub nobody_else : (x : ℕ) → (x < 1) ⊎ (size w ≤ x) → entries_by x logs ≡ []
  pub items : (s : ℕ) → has_in_at w s ≡ true → a.items s ++ put_on w logs s ≡ takes (items_at s (entries_by (link_at w s).receiver logs)) ++ b.items s
  pub grants : (s : ℕ) → has_out_at w s ≡ true → a.grants s ++ given_on w logs s ≡ takes (grants_at s (entries_by (link_at w s).sender logs)) ++ b.grants s

-- all that there is then: from a link without an in end nobody took, and on one without an out end nobody gained
abbrev pub completed : World → List (Log Deed) → Configuration → Configuration → Configuration
completed w logs a b = record {
  seats = b.seats;
  items = λ s. cond (has_in_at w s) (b.items s) (a.items s ++ put_on w logs s);
  grants = λ s. cond (has_out_at w s) (b.grants s) (a.grants s ++ given_on w logs s);
}

-- The parties q stood in w, with the ends of links at the places p. A round is closed, in which members wrote these logs, and are so in b, as
-- their ends know it: q' shows and ks' keeps what they hold and keep then, with the ends at the places p'.
pub record HasClosed (w : World) (q : Parties) (p : Places) (logs : List (Log Deed)) (b : Configuration) (q' : Parties) (ks' : List Keeps) (p' : Places) : Type 0 where
  -- nobody has come
  pub count : length q'.nodes ≡ length q.nodes
  pub each : (x : ℕ) → 1 ≤ x → x < size w → ShowsSeat p' (b.seats x) (node_at q' (x - 1))
  pub keeps_count : length ks' ≡ length q.nodes
  pub keeps : (x : ℕ) → 1 ≤ x → x < size w → keeps_at ks' (x - 1) ≡ (b.seats x).keeps
  -- no view was made, and the registrar has notice of just the members that have stopped
  pub views : q'.views ≡ q.views
  pub stopped : (x : ℕ) → 1 ≤ x → x < size w → is_in x q'.stopped ≡ is_stopped (b.seats x).held.phase
  pub nobody_else : (x : ℕ) → size w ≤ x → is_in x q'.stopped ≡ false
  -- the links wait for their receivers that waited, with their ends
  pub post : p'.deposits ≡ p.deposits
  pub deposits : q'.deposits ≡ map (λ s. record { name = name_of w s; end = Some (p'.ins s) }) p.deposits
  -- the ends of links have met, and in ends know what stands there
  pub ends : (s : ℕ) → stays_open w p.deposits b s ≡ true → LinkCloses (has_out w s) (p.outs s) (p.ins s) (p'.outs s) (p'.ins s) (things (put_on w logs s)) (things (given_on w logs s))
  pub stand : (s : ℕ) → stays_open w p.deposits b s ≡ true → things (b.items s) ≡ (p'.ins s).items
  -- out ends know what is under way on ways back, also where the receiver has left the link
  pub back : (s : ℕ) → has_out_at w s ≡ true → things (b.grants s) ≡ (p'.outs s).back
