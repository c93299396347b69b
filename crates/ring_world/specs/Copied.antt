-- What the structs of copies show.
use Rattle.std.specs.Prelude.{◌≡◌, ℕ, ◌-◌, ◌<◌, ◌≤◌, Bool, true, false, List, [], length, map, slice_index_or, vec_len, vec_capacity, Option, Some, None}
use Rattle.ring_names.specs.declared.numbers.CreditSpec.{CreditSpec}
use Rattle.queue_core.specs.declared.message.Message.{Message}
use Rattle.queue_core.specs.declared.message.Message.TheVariants.{Cast, Queue}
use Rattle.queue_core.specs.Queue.{Item}
use Rattle.queue_sync.specs.Copy.{load_of, item_of, loads_of}
use Rattle.group_view.specs.View.{Group}
use Rattle.ring_rules.specs.Rows.{full_flow}
use Rattle.ring_copies.specs.Copies.{CopyLink, CopyWorld, no_copy_link, judged, let_go_one, halted_one, looked_one}
use Rattle.ring_copies.specs.Events.{is_mark_of, sort_of, done_in}
use Rattle.ring_copies.specs.Laws.{CopiesRise}
use Rattle.ring_rules.specs.Machine.{World, member_at, view_in, runs}
use Rattle.ring_rules.specs.Step.{size}
use Rattle.ring_rules.specs.Kind.{kind_of, shown_kind}
use Rattle.ring_rules.specs.Event.{by_of, id_of}
use Rattle.ring_rules.specs.declared.event.Event.{Event}
use Rattle.ring_rules.specs.declared.kind.Kind.{Kind as ShownKind}
use Rattle.ring_rules.specs.declared.kind.Kind.TheVariants as shown
use Rattle.ring_world.specs.Placed.{IsPlaced}
use Rattle.ring_world.specs.declared.plain_copy.PlainCopy.{PlainCopy}
use Rattle.ring_world.specs.declared.state.Ring.{Ring}
use Rattle.ring_world.specs.Shows.{world_of}

-- a copy
abbrev pub copy_of : PlainCopy → CopyLink
copy_of c = record {
  sender = c.sender;
  receiver = c.receiver;
  opened = c.opened;
  mark = c.mark;
  to_put = c.out.to_put;
  loads = map load_of c.loads.items;
  ended = c.ended;
  aside = map item_of c.aside.items;
  flow = record { sender = c.out.credit; receiver = c.incoming; grants = c.grants.items };
  over = c.over;
}

-- a ring with its copies
abbrev pub state_in : Ring → List PlainCopy → CopyWorld
state_in r cs = record { ring = world_of r; copies = map copy_of cs }

-- a copy that opens behind a mark, with its whole credit
abbrev pub copy_new : CreditSpec → ℕ → ℕ → ℕ → ℕ → List Item → CopyLink
copy_new credit x n version mark items = record {
  sender = x;
  receiver = n;
  opened = version;
  mark = mark;
  to_put = loads_of items;
  loads = [];
  ended = false;
  aside = [];
  flow = full_flow credit.initial credit.more;
  over = false;
}

-- the copy at a place
abbrev pub copy_in_list : List PlainCopy → ℕ → CopyLink
copy_in_list cs i = slice_index_or (map copy_of cs) i no_copy_link

-- how many grants more go under way on a copy without memory
abbrev pub room_of : PlainCopy → ℕ
room_of c = vec_capacity c.grants - vec_len c.grants

-- so many on each
abbrev pub HaveRoom : ℕ → List PlainCopy → Type 0
HaveRoom n cs = (i : ℕ) → i < length cs → n ≤ slice_index_or (map room_of cs) i 0

-- The items of copies rise, and mirrors begin at position 1: so what a receiver has kept aside is all that came.
pub record AreCopied (W : CopyWorld) : Type 0 where
  pub rise : CopiesRise W
  pub some : (y : ℕ) → 1 ≤ (member_at W.ring y).mirror.queue.next

-- a copy whose receiver is judged blocked or not
abbrev pub judged_copy : Bool → CopyLink → CopyLink
judged_copy blocked c = record c { flow = judged blocked c.flow }

-- ---- a copy after an event of member x

-- where it has stopped
abbrev pub halted_if : Bool → ℕ → CopyLink → CopyLink
halted_if true x c = halted_one x c
halted_if false x c = c

-- where it has read a view
abbrev pub read_if : Option Group → ℕ → CopyLink → CopyLink
read_if (Some g) x c = looked_one g x c
read_if None x c = c

-- where it isn't blocked
abbrev pub freed_if : Bool → ℕ → CopyLink → CopyLink
freed_if true x c = c
freed_if false x c = let_go_one x c

-- all of it
abbrev pub followed_copy : Bool → Option Group → Bool → ℕ → CopyLink → CopyLink
followed_copy stops view blocked x c = freed_if blocked x (read_if view x (halted_if stops x c))

-- all copies, beside a ring that is so after it
abbrev pub after_flags : Bool → Bool → World → ℕ → List CopyLink → List CopyLink
after_flags true reads w x cs = map (halted_one x) cs
after_flags false true w x cs = map (looked_one (view_in w (member_at w x).version) x) cs
after_flags false false w x cs = cs

-- whether one of a kind stops, and whether it reads a view
abbrev pub stops_kind : ShownKind → Bool
stops_kind shown.Stops = true
stops_kind k = false

abbrev pub reads_kind : ShownKind → Bool
reads_kind (shown.Changes c) = true
reads_kind (shown.Reads version) = true
reads_kind k = false

-- What the code needs of a ring behind an event of member x: its parts stand, x is there, and runs where it has read a view.
pub record IsThen (w : World) (x : ℕ) (reads : Bool) : Type 0 where
  pub placed : IsPlaced w
  pub there : x < size w
  pub runs : reads ≡ true → runs w x ≡ true

-- the same of each member that has this name
abbrev pub AreThen : CopyWorld → Event → Type 0
AreThen W e = (x : ℕ) → Some x ≡ id_of W.ring (by_of e) → IsThen (done_in W (sort_of e) x).ring x (reads_kind (shown_kind (kind_of e)))

-- ---- marks

-- whether a message marks a copy to n
abbrev pub marks_copy : ℕ → Message → Bool
marks_copy n (Cast body) = false
marks_copy n (Queue o) = is_mark_of n o
