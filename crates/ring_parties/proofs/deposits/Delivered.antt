-- Parties that owe the registrar nothing, and what holds of them where they stand.
use Rattle.std.proofs.Common.{◌≡◌, ℕ, ◌+◌, ◌-◌, ◌<◌, ◌≤◌, true, false, List, [], length, map, get_or, set, Option, Some, None, sym, ap, subst, ◌∙◌, refl, arith}
use Rattle.std.specs.Prelude.{is_some}
use Rattle.std.proofs.lemmas.List.{length-map, map-set}
use Rattle.group_view.proofs.Truth.{none_there}
use Rattle.ordered_link.specs.declared.ring.RingIn.{RingIn}
use Rattle.registrar.specs.Registry.{Registry, AreHere, is_known, newest}
use Rattle.gm_member.specs.Held.{up_refused}
use Rattle.registrar.specs.Asked.{stop_refusal}
use Rattle.activity.specs.declared.packet.Load.{Load}
use Rattle.ring_parties.specs.declared.pending_deposit.PendingDeposit.{PendingDeposit}
use Rattle.ring_parties.specs.declared.parties.Parties.TheInside.{Inside}
use Rattle.ring_parties.specs.Behind.{behind}
use Rattle.ring_parties.specs.Gathered.{gathered}
use Rattle.ring_parties.specs.declared.party.Party.{Party}
use Rattle.ring_parties.specs.Parties.{ANode, Shown, Keeps, PartiesSeen, parties, shown_of, shown_in, keeps_in, node_at}
use Rattle.ring_parties.specs.Keeps.{keeps_at}
use Rattle.ring_parties.specs.Standing.{StandSomewhere}
use Rattle.ring_parties.specs.Acting.{IsReady, IsBooked, stop_refused}
use Rattle.ring_parties.specs.Collecting.{AreOfRing}
use Rattle.ring_parties.specs.Refused.{office_of, admission_refused}
use Rattle.ring_parties.specs.Looking.{ask_refused}
use Rattle.gm_member.specs.declared.questions.Ask.{Ask}
use Rattle.ring_parties.proofs.events.After.{here_after, id_after, free_after, ready_after}
use Rattle.ring_parties.proofs.events.Closing.{few_after, unheard_after, stands_after, handed_within, MayLookAt}
use Rattle.ring_parties.proofs.events.Newcomers.{LetsJoin, joins_after}
use Rattle.ring_parties.proofs.deposits.Gathers.{all_ring, is_known_there}
use Rattle.ring_parties.proofs.standing.Nodes.{read_shown, same_shown, shown_at, read_keeps, same_keeps}
use Rattle.ring_parties.proofs.events.Refusing.{ask_same}

-- members, a registrar and a link behind it, as the parties are seen of which they are the parts
abbrev pub seen_as : List Party → Registry (RingIn Load) → Option PendingDeposit → PartiesSeen
seen_as ns r pending = record { all = parties ns r (behind pending); keeps = map keeps_in ns; owes = is_some pending }

module _ (a : Inside) (q : PartiesSeen) (is : gathered a ≡ q) where
  -- a place among the members is one among what they show
  pub inside : (i : ℕ) → i < length q.all.nodes → i < length a.members.items
  inside i l = subst (λ n. i < n) (sym (ap (λ (x : PartiesSeen). length x.all.nodes) is) ∙ length-map a.members.items shown_in) l

  -- what the member at a place shows
  pub shown_is : (i : ℕ) → i < length q.all.nodes → (x : Party) → x ≡ get_or a.members.items i x → shown_in x ≡ node_at q.all i
  shown_is i l x e = sym (read_shown a.members.items i x (inside i l) e) ∙ ap (λ (y : PartiesSeen). node_at y.all i) is

  -- what its party keeps
  pub keeps_is : (i : ℕ) → i < length q.all.nodes → (x : Party) → x ≡ get_or a.members.items i x → keeps_in x ≡ keeps_at q.keeps i
  keeps_is i l x e = sym (read_keeps a.members.items i x (inside i l) e) ∙ ap (λ (y : PartiesSeen). keeps_at y.keeps i) is

  -- all keep what they kept where the party at a place does
  pub still_kept : (i : ℕ) → i < length q.all.nodes → (x y : Party) → x ≡ get_or a.members.items i x → keeps_in y ≡ keeps_in x → map keeps_in (set a.members.items i y) ≡ q.keeps
  still_kept i l x y e k = same_keeps a.members.items i x y (inside i l) e k ∙ ap (λ (z : PartiesSeen). z.keeps) is

  -- or another thing there
  pub then_kept : (i : ℕ) → i < length q.all.nodes → (x y : Party) (keeps : Keeps) → x ≡ get_or a.members.items i x → keeps_in y ≡ keeps → map keeps_in (set a.members.items i y) ≡ set q.keeps i keeps
  then_kept i l x y keeps e k = map-set keeps_in a.members.items i y ∙ ap (set (map keeps_in a.members.items) i) k ∙ ap (λ (z : PartiesSeen). set z.keeps i keeps) is

  -- they are seen as they were where the party at a place is
  pub as_before : (i : ℕ) → i < length q.all.nodes → (x y : Party) → x ≡ get_or a.members.items i x → shown_in y ≡ shown_in x → keeps_in y ≡ keeps_in x → seen_as (set a.members.items i y) a.registrar a.pending_deposit ≡ q
  as_before i l x y e shown keeps =
      ap (λ ms. record (seen_as (set a.members.items i y) a.registrar a.pending_deposit) { all = record (parties a.members.items a.registrar (behind a.pending_deposit)) { nodes = ms } }) (same_shown a.members.items i x y (inside i l) e shown)
      ∙ ap (λ ks. record (seen_as a.members.items a.registrar a.pending_deposit) { keeps = ks }) (same_keeps a.members.items i x y (inside i l) e keeps)
      ∙ is

  -- and so where its member shows what it showed
  pub unchanged : (i : ℕ) → i < length q.all.nodes → (x : Party) (y : ANode) → x ≡ get_or a.members.items i x → shown_of y ≡ shown_in x → seen_as (set a.members.items i (record x { node = y })) a.registrar a.pending_deposit ≡ q
  unchanged i l x y e k = as_before i l x (record x { node = y }) e k refl

  -- where nothing is owed, nothing waits behind the links that stand at the registrar
  pub none_behind : q.owes ≡ false → (ns : List Party) (r : Registry (RingIn Load)) → parties ns r (behind a.pending_deposit) ≡ parties ns r []
  none_behind none ns r = ap (λ l. parties ns r (behind l)) (none_there a.pending_deposit (ap (λ (x : PartiesSeen). x.owes) is ∙ none))

  pub bare : q.owes ≡ false → q.all ≡ parties a.members.items a.registrar []
  bare none = sym (ap (λ (x : PartiesSeen). x.all) is) ∙ none_behind none a.members.items a.registrar

  module _ (s : StandSomewhere q.all) where
    shows : StandSomewhere (parties a.members.items a.registrar (behind a.pending_deposit))
    shows = subst (λ (x : PartiesSeen). StandSomewhere x.all) (sym is) s

    -- no link that stands at the registrar is lent
    pub here : AreHere a.registrar.links
    here = here_after shows.0 shows.1 shows.2 a.members.items a.registrar (behind a.pending_deposit) shows.3

    pub few : length a.members.items ≤ 64
    few = few_after shows.0 shows.1 shows.2 a.members.items a.registrar (behind a.pending_deposit) shows.3

    -- who sends on a link that waits behind the registrar has a place among the members
    pub sender_place : (u : PendingDeposit) → a.pending_deposit ≡ Some u → (1 ≤ u.name.from.0) × (u.name.from.0 - 1 < length a.members.items)
    sender_place u e =
        let (low, high) = handed_within shows.0 shows.1 shows.2 a.members.items a.registrar a.pending_deposit u e shows.3 in
        (low, omega (arith, low, high))

    module _ (i : ℕ) (l : i < length q.all.nodes) where
      -- of the member at a place no question is open, and it may be called
      pub asks_nothing : (x : Party) → x ≡ get_or a.members.items i x → (shown_in x).held.asks ≡ false
      asks_nothing x e = subst (λ (m : Shown). m.held.asks ≡ false) (sym (shown_is i l x e)) (free_after s.0 s.1 s.2 q.all i s.3 l)

      -- its id is that of its place
      pub id_is : (x : Party) → x ≡ get_or a.members.items i x → (shown_in x).held.id ≡ i + 1
      id_is x e = ap (λ (m : Shown). m.held.id) (shown_is i l x e) ∙ id_after s.0 s.1 s.2 q.all i s.3 l

      pub is_ready : (x : Party) → x ≡ get_or a.members.items i x → IsReady (shown_in x)
      is_ready x e = subst IsReady (sym (shown_is i l x e)) (ready_after s.0 s.1 s.2 q.all i s.3 l)

  -- its book has what it has published
  pub is_booked : (i : ℕ) → i < length q.all.nodes → IsBooked (node_at q.all i) (keeps_at q.keeps i) → (x : Party) → x ≡ get_or a.members.items i x → IsBooked (shown_in x) (keeps_in x)
  is_booked i l b x e = subst (λ m. IsBooked m (keeps_in x)) (sym (shown_is i l x e)) (subst (IsBooked (node_at q.all i)) (sym (keeps_is i l x e)) b)

  module _ (none : q.owes ≡ false) (s : StandSomewhere q.all) where
    stand : StandSomewhere (parties a.members.items a.registrar [])
    stand = subst StandSomewhere (bare none) s

    -- each is one of the ring
    pub of_ring : AreOfRing a.registrar.links
    of_ring = all_ring stand.0 stand.1 stand.2 a.members.items a.registrar stand.3

    module _ (i : ℕ) (l : i < length q.all.nodes) where
      -- the registrar hasn't heard of it that it stopped, where it hasn't
      pub unheard : (x : Party) → x ≡ get_or a.members.items i x → stop_refused (shown_in x) ≡ None → stop_refusal a.registrar (i + 1) ≡ None
      unheard x e k = unheard_after stand.0 stand.1 stand.2 a.members.items a.registrar i stand.3 (inside i l) (ap stop_refused (read_shown a.members.items i x (inside i l) e) ∙ k)

      -- it may read any view that isn't refused
      pub may_look : (x : Party) → x ≡ get_or a.members.items i x → (version : ℕ) → MayLookAt a.registrar (shown_in x) version
      may_look x e version =
          subst (λ m. MayLookAt a.registrar m version) (read_shown a.members.items i x (inside i l) e)
          (stands_after stand.0 stand.1 stand.2 a.members.items a.registrar i version stand.3 (inside i l))

      -- whom it admits may join, where that isn't refused
      pub may_join : (x : Party) → x ≡ get_or a.members.items i x → (name : List ℕ) → up_refused (shown_in x).held (admission_refused (newest a.registrar) name) ≡ None → LetsJoin (newest a.registrar) (i + 1) name
      may_join x e name none =
          joins_after stand.0 stand.1 stand.2 a.members.items a.registrar i name stand.3 (inside i l)
          (ap (λ (m : Shown). up_refused m.held (admission_refused (newest a.registrar) name)) (read_shown a.members.items i x (inside i l) e) ∙ none)

      -- the registrar knows it
      pub known : (x : Party) → x ≡ get_or a.members.items i x → is_known a.registrar (shown_in x).held.id ≡ true
      known x e =
          subst (λ (m : Shown). is_known a.registrar m.held.id ≡ true) (read_shown a.members.items i x (inside i l) e)
          (is_known_there stand.0 stand.1 stand.2 a.members.items a.registrar stand.3 i (inside i l))

      -- why it isn't answered with a view
      pub ask_is : (x : Party) → x ≡ get_or a.members.items i x → (what : Ask) → ask_refused (office_of q.all) (node_at q.all i) what ≡ ask_refused a.registrar (shown_in x) what
      ask_is x e what =
          ap (λ p. ask_refused (office_of p) (node_at p i) what) (bare none)
          ∙ ask_same a.members.items a.registrar (shown_at a.members.items i) what
          ∙ ap (λ m. ask_refused a.registrar m what) (read_shown a.members.items i x (inside i l) e)
