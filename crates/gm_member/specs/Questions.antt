-- What a member asks the registrar, and what the answer does to it.
use Rattle.std.specs.Prelude.{◌-◌, Bool, true, false, ◌||◌, is_some, List, ⊤}
use Rattle.group_view.specs.View.{Group, as_id}
use Rattle.group_view.specs.declared.request.Request.{Request}
use Rattle.group_view.specs.declared.request.Request.TheVariants as request
use Rattle.group_view.specs.declared.request.Answer.{Answer}
use Rattle.group_view.specs.declared.request.Answer.TheVariants.{Viewed, Admitted, Links, Noted, No}
use Rattle.group_view.specs.declared.request.Deposited.{Deposited}
use Rattle.activity.specs.Kept.{got_of}
use Rattle.gm_member.specs.declared.questions.Ask.{Ask}
use Rattle.gm_member.specs.declared.questions.Ask.TheVariants.{Mark, Admit, Erase, Register, Refresh, Collect}
use Rattle.gm_member.specs.Packets.{known_at}
use Rattle.gm_member.specs.Held.{Held, first_at_door, answered_held, refreshed_held, collected_held}
use Rattle.gm_member.specs.Arrivals.{incoming_of}

-- whether the answer may be a view
abbrev pub may_bring_view : Ask → Bool
may_bring_view (Mark dead) = true
may_bring_view (Admit newcomer) = true
may_bring_view (Erase origin) = true
may_bring_view (Register missing) = true
may_bring_view Refresh = true
may_bring_view Collect = false

-- whether a member takes from a link, or has one at its door from its left neighbour
abbrev pub has_link : Held → Bool
has_link h = is_some h.current || is_some (first_at_door h)

module _ {I : Type 0} where
  -- what is asked of the registrar; of an id 0 an erasure tells what is kept of the first origin
  abbrev pub asked_for : Held → Ask → Request I
  asked_for h (Mark dead) = request.Mark (as_id h.id) dead h.view.version (has_link h)
  asked_for h (Admit newcomer) = request.Admit (as_id h.id) newcomer
  asked_for h (Erase origin) =
      request.Erase (as_id h.id) origin (got_of (known_at h.known (origin.0 - 1))) (known_at h.known (origin.0 - 1)).retired h.view.version
  asked_for h (Register missing) = request.Synced (as_id h.id) missing
  asked_for h Refresh = request.Refresh (as_id h.id)
  asked_for h Collect = request.Collect (as_id h.id)

  -- P of the view that is answered
  abbrev pub OfView : Answer I → (Group → Type 0) → Type 0
  OfView (Viewed v) P = P v
  OfView (Admitted v id) P = P v
  OfView (Links links) P = ⊤
  OfView Noted P = ⊤
  OfView (No r) P = ⊤

  -- P of the links that are
  abbrev pub OfLinks : Answer I → (List (Deposited I) → Type 0) → Type 0
  OfLinks (Viewed v) P = ⊤
  OfLinks (Admitted v id) P = ⊤
  OfLinks (Links links) P = P links
  OfLinks Noted P = ⊤
  OfLinks (No r) P = ⊤

  -- P where neither is
  abbrev pub OfWord : Answer I → Type 0 → Type 0
  OfWord (Viewed v) P = ⊤
  OfWord (Admitted v id) P = ⊤
  OfWord (Links links) P = ⊤
  OfWord Noted P = P
  OfWord (No r) P = P

  -- what the member holds after an answer: its question is closed, and it reads the view, or has the links at its door
  abbrev pub answered_by : Held → Answer I → Held
  answered_by h (Viewed v) = refreshed_held (answered_held h) v
  answered_by h (Admitted v id) = refreshed_held (answered_held h) v
  answered_by h (Links links) = collected_held (answered_held h) (incoming_of h links)
  answered_by h Noted = answered_held h
  answered_by h (No r) = answered_held h
