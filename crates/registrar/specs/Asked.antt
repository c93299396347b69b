-- Why a request is refused: the first of its conditions that fails.
use Rattle.std.specs.Prelude.{ℕ, Bool, ◌&&◌, ◌||◌, not, nat_eq, nat_le, List, Option}
use Rattle.std.specs.List.{list_any}
use Rattle.ring_names.specs.declared.reason.Reason.{Reason}
use Rattle.ring_names.specs.declared.reason.Reason.TheVariants as reason
use Rattle.group_view.specs.Link.{is_ring}
use Rattle.group_view.specs.declared.request.Request.{Request}
use Rattle.group_view.specs.declared.request.Request.TheVariants.{Mark, Refresh, Admit, Erase, Synced, Stopped, Deposit, Collect}
use Rattle.group_view.specs.Ring.{is_in}
use Rattle.group_view.specs.Change.{sync_refusal, admit_refusal as group_refusal}
use Rattle.group_view.specs.View.{Group, entry_in, is_live, is_dead, is_alias, left_of, right_of}
use Rattle.group_view.specs.Since.{view_at}
use Rattle.ring_rules.specs.Refusal.{refuse_if, or_else}
use Rattle.ring_rules.specs.Event.{missing_refusal}
use Rattle.registrar.specs.declared.waiting_link.WaitingLink.{WaitingLink}
use Rattle.registrar.specs.Registry.{Registry, newest, is_known}

-- whether d is x's left neighbour in a view
abbrev pub is_left : Group → ℕ → ℕ → Bool
is_left g x d = nat_eq d (left_of g.entries x)

-- whether x is live in a view, and d is one of its neighbours there
abbrev pub is_beside : Group → ℕ → ℕ → Bool
is_beside g x d = is_live g.entries x && (is_left g x d || nat_eq d (right_of g.entries x))

-- the version from which x's left neighbour in a view has been it
abbrev pub since_in : Group → ℕ → ℕ
since_in g x = (entry_in g.entries x).since

module _ {I : Type 0} where
  -- whether a link of the ring goes from d to x, and was opened at a version or later
  abbrev pub is_ring_from : ℕ → ℕ → ℕ → WaitingLink I → Bool
  is_ring_from d x since s = is_ring s.name.kind && (nat_eq s.name.from.0 d && (nat_eq s.name.to.0 x && nat_le since s.name.view))

  -- whether such a link waits here
  abbrev pub waits_from : List (WaitingLink I) → ℕ → ℕ → ℕ → Bool
  waits_from links d x since = list_any (is_ring_from d x since) links

  -- whether x, which holds a view, still has something to take from d, its left neighbour there: by its own word, or by
  -- a link that waits here for it
  abbrev pub has_more : List (WaitingLink I) → Group → ℕ → ℕ → Bool → Bool
  has_more links g x d has_current = is_left g x d && (has_current || waits_from links d x (since_in g x))

  -- x has d marked only where both are known, d is its neighbour in the view that x holds, lives in the newest view, and gave
  -- notice that it stopped, and where x has nothing more to take from it
  abbrev pub mark_refusal : Registry I → ℕ → ℕ → ℕ → Bool → Option Reason
  mark_refusal r x d v has_current =
      or_else (refuse_if (not (is_known r x)) reason.UnknownMember)
      (or_else (refuse_if (not (is_known r d)) reason.UnknownMember)
      (or_else (refuse_if (not (is_beside (view_at r.views v) x d)) reason.NotNeighbour)
      (or_else (refuse_if (not (is_live (newest r).entries d)) reason.AlreadyDead)
      (or_else (refuse_if (not (is_in d r.stopped)) reason.NotStopped)
      (refuse_if (has_more r.links (view_at r.views v) x d has_current) reason.LinkNotEnded)))))

  -- x admits one of this name only where the newest view lets it: x is known and lives there, the name is free, and there
  -- is room
  abbrev pub admit_refusal : Registry I → ℕ → List ℕ → Option Reason
  admit_refusal r x name = group_refusal (newest r).entries x name

  -- x has p erased only where both are known, p is dead in the newest view, x answers for it as dead in the view that x holds,
  -- and where what x says that it got of p is what it says has come round of it
  abbrev pub erase_refusal : Registry I → ℕ → ℕ → ℕ → ℕ → ℕ → Option Reason
  erase_refusal r x p got retired v =
      or_else (refuse_if (not (is_known r x)) reason.UnknownMember)
      (or_else (refuse_if (not (is_known r p)) reason.UnknownMember)
      (or_else (refuse_if (not (is_dead (newest r).entries p)) reason.NotDead)
      (or_else (refuse_if (not (is_alias (view_at r.views v).entries x p)) reason.NotOwner)
      (refuse_if (not (nat_eq got retired)) (reason.NotRetired got retired)))))

  -- x is registered as synchronised only where the newest view lets it: x is known and lives there, and isn't registered yet;
  -- and where its mirror, as x says, misses nothing
  abbrev pub synced_refusal : Registry I → ℕ → Option ℕ → Option Reason
  synced_refusal r x missing = or_else (sync_refusal (newest r).entries x) (missing_refusal missing)

  -- x asks only where it is known
  abbrev pub unknown_refusal : Registry I → ℕ → Option Reason
  unknown_refusal r x = refuse_if (not (is_known r x)) reason.UnknownMember

  -- x gives notice only once
  abbrev pub stop_refusal : Registry I → ℕ → Option Reason
  stop_refusal r x = or_else (unknown_refusal r x) (refuse_if (is_in x r.stopped) reason.Stopped)

  -- the first failing condition of a request, if one fails
  abbrev pub request_refusal : Registry I → Request I → Option Reason
  request_refusal r (Mark by dead view has_current) = mark_refusal r by.0 dead.0 view has_current
  request_refusal r (Refresh by) = unknown_refusal r by.0
  request_refusal r (Admit by name) = admit_refusal r by.0 name
  request_refusal r (Erase by origin got retired view) = erase_refusal r by.0 origin.0 got retired view
  request_refusal r (Synced by missing) = synced_refusal r by.0 missing
  request_refusal r (Stopped by) = stop_refusal r by.0
  request_refusal r (Deposit by to view kind link) = or_else (unknown_refusal r by.0) (unknown_refusal r to.0)
  request_refusal r (Collect by) = unknown_refusal r by.0
