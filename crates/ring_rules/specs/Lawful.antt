-- The laws of the ring: of single states, and from one state to the next.
use Rattle.std.specs.Prelude.{Bool, ◌≡◌, ◌⊎◌, None, ℕ, ◌+◌, ◌-◌, ◌<◌, ◌≤◌, true, Some, slice_index_or, List, [], ◌∷◌, ◌++◌, length, take, drop, max, sum, ⊤}
use Rattle.queue_core.specs.declared.message.Message.{Message}
use Rattle.credit_flow.specs.Link.{oldest as oldest_grant}
use Rattle.ring_rules.specs.declared.numbers.Numbers.{Numbers}
use Rattle.ring_rules.specs.Rows.{Row, messages_between, regained}
use Rattle.group_view.specs.View.{as_id, is_erased}
use Rattle.group_view.specs.Since.{KeepsSince}
use Rattle.ring_rules.specs.Machine.{Waiting, Up, Packet, Link, World, no_packet, row_at, numbers_at, member_at, link_at, view_in, newest, runs, oldest}
use Rattle.ring_rules.specs.OpenLinks.{number, is_open, packets_of}
use Rattle.ring_rules.specs.Step.{size, log_of}

-- what member q knows of origin p
abbrev pub row_of : World → ℕ → ℕ → Row
row_of w q p = row_at (member_at w q) p

-- ---- logs

-- a running publisher has received its whole own log
abbrev pub HasOwnLog : World → Type 0
HasOwnLog w = (p : ℕ) → runs w p ≡ true → (row_of w p p).got ≡ length (log_of w p)

-- no number of a row is greater than n
pub record RowIsWithin (n : ℕ) (r : Row) : Type 0 where
  pub got : r.got ≤ n
  pub forgot : r.forgot ≤ n
  pub retired : r.retired ≤ n

-- no number that a packet says of an origin is greater than n
pub record NumbersAreWithin (n : ℕ) (k : Numbers) : Type 0 where
  pub lo : k.lo ≤ n
  pub got : k.got ≤ n
  pub forgot : k.forgot ≤ n

-- nor of these packets
abbrev pub PacketsAreWithin : ℕ → ℕ → List Packet → Type 0
PacketsAreWithin n p [] = ⊤
PacketsAreWithin n p (k ∷ ks) = NumbersAreWithin n (numbers_at k p) × PacketsAreWithin n p ks

-- no number for an origin is greater than the length of its log: of the members, of the packets on the links, and of what
-- was last sent and last taken
pub record StaysWithinLogs (w : World) : Type 0 where
  pub rows : (q p : ℕ) → RowIsWithin (length (log_of w p)) (row_of w q p)
  pub packets : (s p : ℕ) → PacketsAreWithin (length (log_of w p)) p (link_at w s).packets
  pub sent : (s p : ℕ) → NumbersAreWithin (length (log_of w p)) (numbers_at (link_at w s).sending.sent p)
  pub had : (s p : ℕ) → NumbersAreWithin (length (log_of w p)) (numbers_at (link_at w s).had.sent p)

-- ---- credit

-- The credit of a link, whose initial credit is this: what the sender may still send, the packets on the link, those counted
-- since the last grant, and the grants under way are together the initial credit. So no link ever holds more packets than
-- that; and a grant becomes credit whole.
pub record CreditIsKept (initial : ℕ) (l : Link) : Type 0 where
  pub kept : l.flow.sender.credit + length l.packets + l.flow.receiver.taken + sum l.flow.grants ≡ initial
  pub few : length l.packets ≤ initial
  pub whole : (regained l.flow).sender.credit ≡ l.flow.sender.credit + oldest_grant l.flow.grants

-- each link keeps this credit, whether its members run or not
abbrev pub KeepsCredit : ℕ → World → Type 0
KeepsCredit initial w = (s : ℕ) → s < length w.links → CreditIsKept initial (link_at w s)

-- ---- confirmed

-- A message that has come round to its publisher, whether that runs still or has stopped, each member that is up has received,
-- or counted by its first packet: what was published after its admission it has received. And the first packet of every
-- member that waits counts it.
pub record ConfirmedEverywhere (w : World) : Type 0 where
  pub up : (q p : ℕ) → 1 ≤ p → p < size w → (member_at w q).phase ≡ Up → (row_of w p p).forgot ≤ (row_of w q p).got
  pub waits : (q p s : ℕ) → 1 ≤ p → p < size w → (member_at w q).phase ≡ Waiting → (member_at w q).current ≡ Some s → (row_of w p p).forgot ≤ (numbers_at (oldest (link_at w s)) p).got

-- ---- erasure

-- whether an origin is erased in the newest view
abbrev pub has_erased : World → ℕ → Bool
has_erased w p = is_erased (view_in w (newest w)).entries p

-- All that is said of an origin is one number: what each running member got and forgot, where one that waits counts with the
-- first packet of its link, and what each packet says that is open to one.
pub record AgreesOn (w : World) (p n : ℕ) : Type 0 where
  pub got : (q : ℕ) → runs w q ≡ true → number (λ k. k.got) (λ r. r.got) w p q ≡ n
  pub forgot : (q : ℕ) → runs w q ≡ true → number (λ k. k.forgot) (λ r. r.forgot) w p q ≡ n
  pub packets : (q s i : ℕ) → runs w q ≡ true → s < length w.links → is_open w q s ≡ true → i < length (packets_of w q s)
      → ((numbers_at (slice_index_or (packets_of w q s) i no_packet) p).got ≡ n) × ((numbers_at (slice_index_or (packets_of w q s) i no_packet) p).forgot ≡ n)

-- of an erased origin there is such a number
pub record IsAgreed (w : World) (p : ℕ) : Type 0 where
  pub on : ℕ
  pub agrees : AgreesOn w p on

-- of each
abbrev pub ErasedAgrees : World → Type 0
ErasedAgrees w = (p : ℕ) → 1 ≤ p → p < size w → has_erased w p ≡ true → IsAgreed w p

-- from one state to a later one, an erased origin stays it, and what is agreed on of it stays too
pub record StaysErased (w w' : World) : Type 0 where
  pub erased : (p : ℕ) → 1 ≤ p → p < size w → has_erased w p ≡ true → has_erased w' p ≡ true
  pub agrees : (p n : ℕ) → 1 ≤ p → p < size w → has_erased w p ≡ true → AgreesOn w p n → AgreesOn w' p n

-- ---- who leads

-- From one state to a later one no term falls; in one term the master stays, or there is none any more; and another leads, or
-- nobody, only where the master is erased.
pub record LeadsOn (w w' : World) : Type 0 where
  pub rises : (view_in w (newest w)).term ≤ (view_in w' (newest w')).term
  pub stays : (view_in w' (newest w')).term ≡ (view_in w (newest w)).term → ((view_in w' (newest w')).master ≡ (view_in w (newest w)).master) ⊎ ((view_in w' (newest w')).master ≡ None)
  pub gone : (m : ℕ) → 1 ≤ m → m < size w → (view_in w (newest w)).master ≡ Some (as_id m) → ((view_in w' (newest w')).master ≡ (view_in w (newest w)).master) ⊎ (has_erased w' m ≡ true)

-- ---- since

-- In each view of a run, whatever change it came by, each entry has just the version from which its left neighbour has been it.
-- The views are those from version 1 on: before them stands nobody.
abbrev pub ViewsKeepSince : World → Type 0
ViewsKeepSince w = KeepsSince (drop 1 w.views)

-- ---- joining

-- A member receives each origin from its base on, and its base isn't above the length that the origin's log had when it was
-- admitted. So it receives every message that was published after its admission.
pub record JoinsInTime (w : World) : Type 0 where
  pub base : (q p : ℕ) → (row_of w q p).base ≤ (row_of w q p).born
  pub born : (q p : ℕ) → (row_of w q p).born ≤ length (log_of w p)
  pub first : (q p s : ℕ) → (member_at w q).phase ≡ Waiting → (member_at w q).current ≡ Some s → (numbers_at (oldest (link_at w s)) p).got ≤ (row_of w q p).born

-- from one state to a later one, the length that an origin's log had at a member's admission is kept as it was
abbrev pub KeepsBorn : World → World → Type 0
KeepsBorn w w' = (q p : ℕ) → q < size w → p < size w → (row_of w' q p).born ≡ (row_of w q p).born

-- ---- numbers never fall

-- from one state to a later one the members stay, logs only grow, and numbers never fall; and who has got something of an
-- origin has the same base for it, from which on it receives
pub record NeverFalls (w w' : World) : Type 0 where
  pub more : size w ≤ size w'
  pub logs : (p : ℕ) → take (length (log_of w p)) (log_of w' p) ≡ log_of w p
  pub got : (q p : ℕ) → (row_of w q p).got ≤ (row_of w' q p).got
  pub forgot : (q p : ℕ) → (row_of w q p).forgot ≤ (row_of w' q p).forgot
  pub retired : (q p : ℕ) → (row_of w q p).retired ≤ (row_of w' q p).retired
  pub base : (q p : ℕ) → 0 < (row_of w q p).got → (row_of w' q p).base ≡ (row_of w q p).base

-- ---- in order

-- what a member heard of a publisher is the publisher's log from the member's base up to the number that it got: in order,
-- without gap, and each message once; the base of a member of the opening is 0
abbrev pub HearsInOrder : World → Type 0
HearsInOrder w = (q p : ℕ) → (row_of w q p).heard ≡ messages_between (row_of w q p).base (row_of w q p).got (log_of w p)

-- what was published after a member was admitted, and no later than something that it has got, it has heard, at its place: the
-- message at place k of the log, counted from 0, stands in what it heard where those before the base are left out
pub record StandsAt (heard log : List Message) (base k : ℕ) : Type 0 where
  pub there : k - base < length heard
  pub same : (m : Message) → slice_index_or heard (k - base) m ≡ slice_index_or log k m

-- of each member and origin
abbrev pub HearsAllSince : World → Type 0
HearsAllSince w = (q p k : ℕ) → (row_of w q p).born ≤ k → k < (row_of w q p).got → StandsAt (row_of w q p).heard (log_of w p) (row_of w q p).base k

-- a message that has come round to its publisher stands, at its place, in what each member that is up has heard, where it was
-- published after that member's admission
abbrev pub ConfirmedIsHeard : World → Type 0
ConfirmedIsHeard w =
    (q p k : ℕ) → 1 ≤ p → p < size w → (member_at w q).phase ≡ Up → (row_of w q p).born ≤ k → k < (row_of w p p).forgot
    → StandsAt (row_of w q p).heard (log_of w p) (row_of w q p).base k

-- from one state to a later one, what a member hears is what follows in the publisher's log: after what it has got, and from
-- its base on where it takes its first packet meanwhile
abbrev pub HearsWhatFollows : World → World → Type 0
HearsWhatFollows w w' = (q p : ℕ) → (row_of w' q p).heard ≡ (row_of w q p).heard ++ messages_between (max (row_of w q p).got (row_of w' q p).base) (row_of w' q p).got (log_of w' p)
