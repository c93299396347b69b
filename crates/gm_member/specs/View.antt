-- What the structs of a member show.
use Rattle.std.specs.Prelude.{ℕ, ◌+◌, List, map, Bool, true, false, cond, [], ◌∷◌, Option, Some, None}
use Rattle.activity.specs.Kept.{Kept, KeptRow, kept_of}
use Rattle.activity.specs.LastSent.{LastSent, LastSentRow, never_sent, sent_of}
use Rattle.gm_member.specs.Packets.{places}
use Rattle.std.specs.List.{filter, flat_map}
use Rattle.group_view.specs.declared.link.LinkName.{LinkName}
use Rattle.group_view.specs.declared.link.LinkKind.TheVariants.{Ring}
use Rattle.group_view.specs.View.{Group, as_id}
use Rattle.ring_rules.specs.declared.phase.Phase.{Phase}
use Rattle.ring_rules.specs.declared.phase.Phase.TheVariants.{Waiting, Up, Stopped}
use Rattle.gm_member.specs.declared.links.OutLink.{OutLink}
use Rattle.gm_member.specs.declared.links.InLink.{InLink}
use Rattle.gm_member.specs.Held.{Outgoing, Incoming, is_for, stays, at_some}

-- what a member's tables keep of each origin, by places
abbrev pub all_kept : List KeptRow → List Kept
all_kept rows = map (λ p. kept_of rows (p + 1)) places

-- what was last sent of each
abbrev pub all_sent : List LastSentRow → List LastSent
all_sent rows = map (λ p. sent_of rows (p + 1)) places

module _ {O : Type 0} where
  -- what was last sent of an origin on the link on which a member sends, where it sends on one
  abbrev pub last_sent_on : Option (OutLink O) → ℕ → LastSent
  last_sent_on out p = at_some out never_sent (λ l. sent_of l.sent p)

  -- the link on which a member sends
  abbrev pub out_of : OutLink O → Outgoing
  out_of l = record { to = l.to.0; opened = l.opened; fresh = l.fresh; last_sent = all_sent l.sent; credit = l.credit }

module _ {I : Type 0} where
  -- a link to a member
  abbrev pub in_of : InLink I → Incoming
  in_of l = record { from = l.from.0; opened = l.opened; counted = l.counted }

  -- the end of such a link, where it isn't lent
  abbrev pub end_of : InLink I → Option I
  end_of l = l.end

module _ {O : Type 0} where
  -- whether the end of the link on which a member sends is there and has ended
  abbrev pub has_ended : (O → Bool) → Option (OutLink O) → Bool
  has_ended ended out = at_some out false (λ l. at_some l.end false ended)

-- how many stand there: one or none
abbrev pub count_of : {A : Type 0} → Option A → ℕ
count_of there = at_some there 0 (λ _. 1)

-- whether a member is up
abbrev pub is_up : Phase → Bool
is_up Waiting = false
is_up Up = true
is_up Stopped = false

-- whether it is where it has a question open
abbrev pub is_up_where : Bool → Phase → Bool
is_up_where true phase = is_up phase
is_up_where false phase = true

-- an end that was left, where it was there, with the name of its link
abbrev pub left_end : {A : Type 0} → LinkName → Option A → List (LinkName × A)
left_end name end = at_some end [] (λ a. (name, a) ∷ [])

-- the name of a link between members
abbrev pub ring_link : ℕ → ℕ → ℕ → LinkName
ring_link from to opened = record { from = as_id from; to = as_id to; view = opened; kind = Ring }

module _ {I : Type 0} where
  -- whether a link stays at the door of the member of an id that has this view
  abbrev pub stays_at : Group → ℕ → InLink I → Bool
  stays_at v y l = stays v y (in_of l)

  -- the end of a link that such a member leaves
  abbrev pub left_link : ℕ → InLink I → List (LinkName × I)
  left_link y l = left_end (ring_link l.from.0 y l.opened) l.end

  -- what stays of one link
  abbrev pub kept_one : Group → ℕ → InLink I → List (InLink I)
  kept_one v y l = cond (stays_at v y l) (l ∷ []) []

  -- its end, where it is left
  abbrev pub left_one : Group → ℕ → InLink I → List (LinkName × I)
  left_one v y l = cond (stays_at v y l) [] (left_link y l)

  -- of all of them
  abbrev pub kept_links : Group → ℕ → List (InLink I) → List (InLink I)
  kept_links v y links = filter (stays_at v y) links

  -- the ends of those that are left
  abbrev pub left_links : Group → ℕ → List (InLink I) → List (LinkName × I)
  left_links v y links = flat_map (left_one v y) links

  -- what stays of the link from which such a member takes
  abbrev pub kept_link : Group → ℕ → Option (InLink I) → Option (InLink I)
  kept_link v y link = at_some link None (λ l. cond (is_for v y (in_of l)) (Some l) None)

  -- its end, where it is left
  abbrev pub left_current : Group → ℕ → Option (InLink I) → List (LinkName × I)
  left_current v y link = at_some link [] (λ l. cond (is_for v y (in_of l)) [] (left_link y l))
