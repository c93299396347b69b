-- Links that come to a member from the registrar.
use Rattle.std.specs.Prelude.{ℕ, Bool, not, ◌&&◌, ◌++◌, List, map, Option, Some}
use Rattle.std.specs.List.{filter}
use Rattle.ring_names.specs.declared.numbers.CreditSpec.{CreditSpec}
use Rattle.credit_flow.specs.Credit.{none_taken}
use Rattle.group_view.specs.View.{Group, as_id}
use Rattle.group_view.specs.Link.{is_ring}
use Rattle.group_view.specs.declared.link.LinkName.{LinkName}
use Rattle.group_view.specs.declared.request.Deposited.{Deposited}
use Rattle.gm_member.specs.declared.links.InLink.{InLink}
use Rattle.gm_member.specs.Held.{Held, Incoming, fresh_in, stays}
use Rattle.gm_member.specs.Shown.{Ends}

module _ {I : Type 0} where
  -- whether a link that has come is one of the ring
  abbrev pub is_ring_link : Deposited I → Bool
  is_ring_link d = is_ring d.kind

  -- whether it joins the door of the member of an id that has this view
  abbrev pub joins : Group → ℕ → Deposited I → Bool
  joins v y d = is_ring d.kind && stays v y (fresh_in 0 0 d.from.0 d.view)

  -- the link at the door, with nothing counted
  abbrev pub arrived_link : CreditSpec → Deposited I → InLink I
  arrived_link credit d = record { from = d.from; opened = d.view; counted = none_taken credit.initial credit.more; end = Some d.link }

  -- the end, with the name of its link
  abbrev pub arrived_end : ℕ → Deposited I → LinkName × I
  arrived_end y d = (record { from = d.from; to = as_id y; view = d.view; kind = d.kind }, d.link)

  -- those that join the door, in their order
  abbrev pub joined_links : Group → ℕ → CreditSpec → List (Deposited I) → List (InLink I)
  joined_links v y credit links = map (arrived_link credit) (filter (joins v y) links)

  -- the ends of the others
  abbrev pub turned_ends : Group → ℕ → List (Deposited I) → List (LinkName × I)
  turned_ends v y links = map (arrived_end y) (filter (λ d. not (joins v y d)) links)

  -- what a link that has come to a member is to it
  abbrev pub arrived_in : Held → Deposited I → Incoming
  arrived_in h d = fresh_in h.initial h.more d.from.0 d.view

  -- those of the ring among links that have come
  abbrev pub incoming_of : Held → List (Deposited I) → List Incoming
  incoming_of h links = map (arrived_in h) (filter is_ring_link links)

  -- an end that is there
  abbrev pub given_end : Deposited I → Option I
  given_end d = Some d.link

module _ {O I : Type 0} where
  -- the ends of a member, with those of links that have come: at the door behind the others, or behind those that were left
  abbrev pub with_arrived : Held → Ends O I → List (Deposited I) → Ends O I
  with_arrived h e links = record e {
    door = e.door ++ map given_end (filter (joins h.view h.id) links);
    old_ins = e.old_ins ++ turned_ends h.view h.id links;
  }
