-- The steps of a member, at its id.
use Rattle.std.specs.Prelude.{ℕ, ◌+◌, ◌-◌, Bool, true, false, cond, List, [], ◌∷◌, ◌++◌, length, map, drop, slice_set, slice_index_or, nat_eq, Option, Some, None}
use Rattle.std.specs.Prelude.{◌||◌}
use Rattle.std.specs.List.{range_with_len, flat_map, list_any}
use Rattle.ring_names.specs.declared.numbers.CreditSpec.{CreditSpec}
use Rattle.queue_core.specs.declared.message.Message.{Message}
use Rattle.queue_core.specs.declared.op.Op.{Op}
use Rattle.queue_mirror.specs.Mirror.{MirrorState, founding, joining, apply_ops, is_tell}
use Rattle.queue_laws.specs.Part.{ops_of, ops}
use Rattle.queue_laws.specs.Starting.{is_start}
use Rattle.ring_rules.specs.declared.numbers.Numbers.{Numbers}
use Rattle.ring_rules.specs.Rows.{Row, no_row, no_numbers, full_flow, born_row, published_row, next_numbers, spent, counted as counted_flow, regained, taken_row, brought}
use Rattle.group_view.specs.View.{Group}
use Rattle.group_view.specs.Ring.{is_in}
use Rattle.group_view.specs.Since.{no_group}
use Rattle.group_view.specs.Change.{opening as opening_group, admitted}
use Rattle.ring_rules.specs.Machine.{Waiting, Up, Stopped, Packet, Member, Sending, Ending, Link, World, no_sending, no_member, row_at, numbers_at, member_at, link_at, view_in, newest, is_kept, oldest}
use Rattle.ring_rules.specs.View.{between, left_of, right_of}

-- the member of id i is another
abbrev pub with_member : World → ℕ → Member → World
with_member w i y = record w { members = slice_set w.members i y }

-- the link at place s is another
abbrev pub with_link : World → ℕ → Link → World
with_link w s l = record w { links = slice_set w.links s l }

-- one more than the greatest id
abbrev pub size : World → ℕ
size w = length w.members

-- the log of an origin
abbrev pub log_of : World → ℕ → List Message
log_of w p = (member_at w p).log

-- ---- packets

-- the numbers of a member's rows, beside those last sent
abbrev pub next_lines : Bool → List Row → List Numbers → List Numbers
next_lines fresh [] last = []
next_lines fresh (r ∷ rs) [] = next_numbers fresh r no_numbers ∷ next_lines fresh rs []
next_lines fresh (r ∷ rs) (k ∷ ks) = next_numbers fresh r k ∷ next_lines fresh rs ks

-- the next packet of a member on a link whose sending side is this
abbrev pub next_packet : Member → Sending → Packet
next_packet y s = record { version = y.version; numbers = next_lines s.fresh y.rows s.sent.numbers }

-- a packet joins the link behind the others; its numbers are the last sent, and it takes one credit
abbrev pub pushed : Link → Packet → Link
pushed l k = record l { packets = l.packets ++ k ∷ []; sending = record { fresh = false; sent = k }; flow = spent l.flow }

-- the oldest packet is gone, the receiver has counted it, and it is the one taken last
abbrev pub popped : Link → Link
popped l = record l { packets = drop 1 l.packets; had = record { fresh = false; sent = oldest l }; flow = counted_flow l.flow }

-- x puts a packet on its out link o
abbrev pub put_on : World → ℕ → ℕ → World
put_on w x o = with_link w o (pushed (link_at w o) (next_packet (member_at w x) (link_at w o).sending))

-- the oldest grant on its out link o becomes credit
abbrev pub gain_on : World → ℕ → World
gain_on w o = with_link w o (record (link_at w o) { flow = regained (link_at w o).flow })

-- ---- publishing

-- the log of member x gains a message, which counts as received at once, and which its mirror takes
abbrev pub published : ℕ → Message → Member → Member
published x m y = record y {
  log = y.log ++ m ∷ [];
  rows = slice_set y.rows x (published_row (row_at y x) m);
  mirror = apply_ops y.mirror (ops_of m);
  started = y.started || list_any is_start (ops_of m);
  told = cond (list_any is_tell (ops_of m)) y.version y.told;
}

-- x publishes a message
abbrev pub publish_at : World → ℕ → Message → World
publish_at w x m = with_member w x (published x m (member_at w x))

-- ---- a take by y from its current link s

-- y, and those between s and y in y's view
abbrev pub is_owned : Group → ℕ → ℕ → ℕ → Bool
is_owned v y s p = cond (nat_eq p y) true (is_in p (between v s y))

-- the queue's operations that a packet brings of the origins below n
abbrev pub news_of : ℕ → (ℕ → Bool) → (ℕ → List Message) → Member → Packet → List Op
news_of n own logs y k = flat_map (λ p. ops (brought (own p) (logs p) (row_at y p) (numbers_at k p))) (range_with_len 0 n)

-- a taker knows of each origin what its row and the packet give together, and its mirror takes what is brought; own tells for
-- whom it answers
abbrev pub taken : ℕ → (ℕ → Bool) → (ℕ → List Message) → Member → Packet → Member
taken n own logs y k = record y {
  rows = map (λ p. taken_row (own p) (logs p) (row_at y p) (numbers_at k p)) (range_with_len 0 n);
  mirror = apply_ops y.mirror (news_of n own logs y k);
}

-- the operations that the oldest packet of link s brings y of an origin
abbrev pub brought_at : World → ℕ → ℕ → ℕ → List Op
brought_at w y s p = ops (brought (is_owned (view_in w (member_at w y).version) y (link_at w s).sender p) (log_of w p) (row_at (member_at w y) p) (numbers_at (oldest (link_at w s)) p))

-- what y is after it has taken the oldest packet of link s
abbrev pub taker : World → ℕ → ℕ → Member
taker w y s = taken (size w) (is_owned (view_in w (member_at w y).version) y (link_at w s).sender) (log_of w) (member_at w y) (oldest (link_at w s))

-- that packet is gone from the link
abbrev pub take_from : World → ℕ → ℕ → World
take_from w y s = with_link (with_member w y (taker w y s)) s (popped (link_at w s))

-- the first take of a member that waits: it receives nothing, and is up
abbrev pub begun_row : Row → Numbers → Row
begun_row r k = record r { got = k.got; forgot = k.forgot; base = k.got }

-- its rows are those of the packet
abbrev pub begun : ℕ → Member → Packet → Member
begun n y k = record y { phase = Up; rows = map (λ p. begun_row (row_at y p) (numbers_at k p)) (range_with_len 0 n); whole = false }

-- and the packet is gone from the link
abbrev pub begin_from : World → ℕ → ℕ → World
begin_from w y s = with_link (with_member w y (begun (size w) (member_at w y) (oldest (link_at w s)))) s (popped (link_at w s))

-- ---- where the member takes from

-- a member takes from another link, or from none
abbrev pub with_current : Option ℕ → Member → Member
with_current s y = record y { current = s }

-- y takes from link s, or from none
abbrev pub current_is : World → ℕ → Option ℕ → World
current_is w y s = with_member w y (with_current s (member_at w y))

-- the end of link s was taken
abbrev pub finished : Link → Link
finished l = record l { over = true }

-- y has taken its current link s to its end
abbrev pub leave_link : World → ℕ → ℕ → World
leave_link w y s = with_link (current_is w y None) s (finished (link_at w s))

-- ---- a copy that is done

-- a member's mirror is the one that a copy has made, and so it is whole
abbrev pub copied : MirrorState → Member → Member
copied m y = record y { mirror = m; whole = true }

-- that of y
abbrev pub copied_at : World → ℕ → MirrorState → World
copied_at w y m = with_member w y (copied m (member_at w y))

-- ---- a stop of x

-- a link ends so, if it hasn't ended yet
abbrev pub ended_so : Ending → Option Ending → Option Ending
ended_so why None = Some why
ended_so why (Some first) = Some first

-- a link ends so
abbrev pub ended : Ending → Link → Link
ended why l = record l { ending = ended_so why l.ending }

-- the link that a member sends on ends
abbrev pub end_out : Ending → World → Option ℕ → World
end_out why w None = w
end_out why w (Some o) = with_link w o (ended why (link_at w o))

-- a member has stopped
abbrev pub stopped : Member → Member
stopped y = record y { phase = Stopped }

-- x stops
abbrev pub stop_at : World → ℕ → World
stop_at w x = with_member w x (stopped (member_at w x))

-- ---- a new view

-- a view follows the others
abbrev pub with_view : World → Group → World
with_view w v = record w { views = w.views ++ v ∷ [] }

-- ---- an admission

-- who joins: it waits for the first packet on the link that opens next, and has the version that comes next
abbrev pub joiner : World → List ℕ → Member
joiner w name = record {
  name = name;
  phase = Waiting;
  version = length w.views;
  log = [];
  rows = map (λ p. born_row (log_of w p)) (range_with_len 0 (size w + 1));
  out = None;
  current = Some (length w.links);
  mirror = joining;
  started = false;
  told = 0;
  whole = false;
}

-- the view in which m has admitted one of this name
abbrev pub admitted_view : World → ℕ → List ℕ → Group
admitted_view w m name = admitted (view_in w (newest w)) m name

-- it and its view have come
abbrev pub come_to : World → ℕ → List ℕ → World
come_to w m name = record w { members = w.members ++ joiner w name ∷ []; views = w.views ++ admitted_view w m name ∷ [] }

-- ---- a refresh of x to v

-- what stays of the current link
abbrev pub kept_current : (ℕ → Bool) → Option ℕ → Option ℕ
kept_current kept None = None
kept_current kept (Some s) = cond (kept s) (Some s) None

-- x with the view of version v, and its current link where that is kept up to it
abbrev pub moved_to : World → ℕ → ℕ → Member
moved_to w x v = record (member_at w x) { version = v; current = kept_current (λ s. is_kept w (link_at w s) v) (member_at w x).current }

-- its view, and its current link where that is kept
abbrev pub look_at : World → ℕ → ℕ → World
look_at w x v = with_member w x (moved_to w x v)

-- a link with this credit on which nothing was put
abbrev pub fresh_link : World → ℕ → ℕ → ℕ → Link
fresh_link w x z version =
    record { sender = x; receiver = z; opened = version; packets = []; ending = None; over = false; sending = no_sending; had = no_sending; flow = full_flow w.initial w.more }

-- a link opens at the door of z, with the first packet of x
abbrev pub opened_link : World → ℕ → ℕ → Link
opened_link w x z =
    pushed (fresh_link w x z (member_at w x).version) (next_packet (member_at w x) no_sending)

-- a link to z opens behind the others, and x sends on it
abbrev pub open_to : World → ℕ → ℕ → World
open_to w x z = with_member (record w { links = w.links ++ opened_link w x z ∷ [] }) x (record (member_at w x) { out = Some (length w.links) })

-- ---- the opening of a ring

-- the link from member i to its right neighbour; it is the one before the i-th
abbrev pub opening_link : CreditSpec → List (List ℕ) → ℕ → Link
opening_link credit names i = record {
  sender = i;
  receiver = right_of (opening_group names) i;
  opened = 1;
  packets = [];
  ending = None;
  over = false;
  sending = no_sending;
  had = no_sending;
  flow = full_flow credit.initial credit.more;
}

-- the member of id i at the opening; it sends on the link at its own place, and takes from that of its left neighbour
abbrev pub opening_member : List (List ℕ) → ℕ → Member
opening_member names i = record {
  name = slice_index_or ([] ∷ names) i [];
  phase = Up;
  version = 1;
  log = [];
  rows = map (λ _. no_row) (range_with_len 0 (length names + 1));
  out = Some (i - 1);
  current = Some (left_of (opening_group names) i - 1);
  mirror = founding;
  started = false;
  told = 0;
  whole = true;
}

-- the ring with these members opens: all are up, nobody has published, and each has an empty link to its right neighbour
abbrev pub opening : CreditSpec → List (List ℕ) → World
opening credit names = record {
  members = no_member ∷ map (opening_member names) (range_with_len 1 (length names));
  links = map (opening_link credit names) (range_with_len 1 (length names));
  views = no_group ∷ opening_group names ∷ [];
  initial = credit.initial;
  more = credit.more;
}

-- whether the link that a member sends on goes to z
abbrev pub sends_to : World → ℕ → Option ℕ → Bool
sends_to w z None = false
sends_to w z (Some o) = nat_eq (link_at w o).receiver z
