-- Copies of the master's queue to mirrors: the links that they go by, and what each step does to one.
use Rattle.std.specs.Prelude.{ℕ, ◌+◌, Bool, true, false, ◌&&◌, not, max, nat_eq, cond, List, [], ◌∷◌, ◌++◌, length, map, take, drop, position, slice_index_or, Option, Some, None}
use Rattle.queue_core.specs.declared.op.Op.{Op}
use Rattle.queue_core.specs.Queue.{Item, QueueState}
use Rattle.queue_core.specs.Legal.{run}
use Rattle.queue_mirror.specs.Mirror.{MirrorState, copy_of}
use Rattle.queue_sync.specs.Copy.{Load, loads_of, kept_aside}
use Rattle.queue_laws.specs.Part.{ops}
use Rattle.queue_laws.specs.Copies.{high, next_run}
use Rattle.credit_flow.specs.Credit.{is_blocked, holding_back, released}
use Rattle.credit_flow.specs.Link.{with_grant, grant_of}
use Rattle.group_view.specs.Ring.{is_in}
use Rattle.group_view.specs.View.{Group, ids, is_erased}
use Rattle.ring_rules.specs.View.{is_live}
use Rattle.ring_rules.specs.Refusal.{is_empty}
use Rattle.ring_rules.specs.Rows.{Flow, full_flow, spent, counted, regained}
use Rattle.ring_rules.specs.Machine.{World, member_at, link_at, row_at}
use Rattle.ring_rules.specs.Step.{log_of}

-- A copy's link: from which master to whom, the version at which it was opened, and the number of its mark in the master's
-- log; the loads that are still to be put, those on the way, the oldest first, and whether an end stands behind them, as
-- the master has stopped; the items that the receiver keeps aside; its credit; and whether it is over.
pub record CopyLink : Type 0 where
  pub sender : ℕ
  pub receiver : ℕ
  pub opened : ℕ
  pub mark : ℕ
  pub to_put : List Load
  pub loads : List Load
  pub ended : Bool
  pub aside : List Item
  pub flow : Flow
  pub over : Bool

-- a ring, and the copies in it, in order of opening
pub record CopyWorld : Type 0 where
  pub ring : World
  pub copies : List CopyLink

-- what stands beyond the copies
abbrev pub no_copy_link : CopyLink
no_copy_link = record { sender = 0; receiver = 0; opened = 0; mark = 0; to_put = []; loads = []; ended = false; aside = []; flow = full_flow 0 0; over = true }

-- the copy at a place
abbrev pub copy_link_at : List CopyLink → ℕ → CopyLink
copy_link_at cs i = slice_index_or cs i no_copy_link

-- ---- a member's sides

-- x puts on it: it isn't over, and not all is put
abbrev pub is_put_by : ℕ → CopyLink → Bool
is_put_by x c = nat_eq c.sender x && (not c.over && not (is_empty c.to_put))

-- y takes from it
abbrev pub is_taken_by : ℕ → CopyLink → Bool
is_taken_by y c = nat_eq c.receiver y && not c.over

-- the copy on which x puts: it has at most one
abbrev pub copy_out : List CopyLink → ℕ → Option ℕ
copy_out cs x = position (is_put_by x) cs

-- the oldest one from which y takes
abbrev pub copy_in : List CopyLink → ℕ → Option ℕ
copy_in cs y = position (is_taken_by y) cs

-- ---- the opening, a put and a gain

-- x opens a copy to n behind its mark, which is the next message of its log
abbrev pub new_copy : World → ℕ → ℕ → CopyLink
new_copy w x n = record {
  sender = x;
  receiver = n;
  opened = (member_at w x).version;
  mark = length (log_of w x) + 1;
  to_put = loads_of (member_at w x).mirror.queue.items;
  loads = [];
  ended = false;
  aside = [];
  flow = full_flow w.initial w.more;
  over = false;
}

-- the next load goes on the link, and takes one credit
abbrev pub copy_put : CopyLink → CopyLink
copy_put c = record c { to_put = drop 1 c.to_put; loads = c.loads ++ take 1 c.to_put; flow = spent c.flow }

-- the oldest grant under way becomes credit
abbrev pub copy_gained : CopyLink → CopyLink
copy_gained c = record c { flow = regained c.flow }

-- ---- grants of a receiver that is blocked

-- whether a member is blocked: its out link is there and has no credit
abbrev pub is_blocked_by : World → Option ℕ → Bool
is_blocked_by w None = false
is_blocked_by w (Some o) = is_blocked (link_at w o).flow.sender

abbrev pub is_blocked_at : World → ℕ → Bool
is_blocked_at w y = is_blocked_by w (member_at w y).out

-- a blocked receiver holds its grants back; of one that isn't, all that were held go under way as one grant of their sum
abbrev pub judged : Bool → Flow → Flow
judged true f = record f { receiver = holding_back f.receiver }
judged false f = record f { receiver = released f.receiver; grants = with_grant f.grants (grant_of f.receiver.held) }

-- the same of each copy to y, after an event of it
abbrev pub let_go_one : ℕ → CopyLink → CopyLink
let_go_one y c = cond (nat_eq c.receiver y) (record c { flow = judged false c.flow }) c

abbrev pub let_go : Bool → ℕ → List CopyLink → List CopyLink
let_go true y cs = cs
let_go false y cs = map (let_go_one y) cs

-- ---- a take

-- the oldest load is gone, and the receiver has counted it
abbrev pub load_taken : Bool → CopyLink → CopyLink
load_taken blocked c = record c { loads = drop 1 c.loads; flow = counted (judged blocked c.flow) }

-- an item is kept aside
abbrev pub item_taken : Bool → Item → CopyLink → CopyLink
item_taken blocked i c = record (load_taken blocked c) { aside = c.aside ++ i ∷ [] }

-- all is taken
abbrev pub done_taken : Bool → CopyLink → CopyLink
done_taken blocked c = record (load_taken blocked c) { aside = []; over = true }

-- the copy is over before that, and what it brought is dropped
abbrev pub dropped : CopyLink → CopyLink
dropped c = record c { aside = []; over = true }

-- these items kept aside, one after another
abbrev pub all_kept : List Item → QueueState → QueueState
all_kept [] q = q
all_kept (i ∷ xs) q = all_kept xs (kept_aside i q)

-- the operations of the copy's master behind the mark, as far as y has received them
abbrev pub since_copy : World → ℕ → CopyLink → List Op
since_copy w y c = ops (drop c.mark (take (row_at (member_at w y) c.sender).got (log_of w c.sender)))

-- what a copy makes of a mirror: the items with the operations behind the mark; the next position is the greatest of the
-- mirror's, of one more than the greatest copied position, and of that which those operations give
abbrev pub copied_queue : QueueState → List Item → List Op → QueueState
copied_queue q aside since = record {
  next = max q.next (max (high aside) (next_run aside since (high aside)));
  items = run aside since;
}

abbrev pub copied_mirror : World → ℕ → CopyLink → MirrorState
copied_mirror w y c = copy_of (copied_queue (member_at w y).mirror.queue c.aside (since_copy w y c))

-- ---- what ends a copy

-- x stops: an end stands behind the loads of the copy on which it puts
abbrev pub halted_one : ℕ → CopyLink → CopyLink
halted_one x c = cond (is_put_by x c) (record c { ended = true }) c

-- whether a member stands in a view and is erased there
abbrev pub is_gone : Group → ℕ → Bool
is_gone g p = is_in p (ids g.entries) && is_erased g.entries p

-- x reads a view: a copy on which it puts is over where its target isn't live there, and one from which it takes where its
-- sender is erased there
abbrev pub looked_one : Group → ℕ → CopyLink → CopyLink
looked_one g x c =
    cond (is_taken_by x c && is_gone g c.sender) (dropped c)
    (cond (is_put_by x c && not (is_live g c.receiver)) (record c { over = true }) c)
