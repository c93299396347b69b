-- What a member that stands in a state, where members may stop, holds of it, and what its ends show.
use Rattle.std.proofs.Common.{◌≡◌, ℕ, ◌+◌, ◌-◌, ◌<◌, ◌≤◌, Bool, true, false, not, ◌||◌, nat_eq, List, length, map, take, get_or, Some, None, refl, sym, ap, subst, ◌∙◌, arith}
use Rattle.std.specs.Prelude.{◌&&◌, Option, is_some, option_map, position, bytes_eq}
use Rattle.std.specs.List.{filter, range_with_len}
use Rattle.std.proofs.Math.Seq.{take-append_seam}
use Rattle.std.proofs.lemmas.Simd.{map-map, splat_is_map}
use Rattle.std.proofs.lemmas.List.{same_lists, length-map, get_or-map}
use Rattle.std.proofs.lemmas.List.FromFn.{length-range_with_len}
use Rattle.ring_rules.proofs.rings.Maps.{position_map}
use Rattle.group_view.specs.declared.link.LinkName.{LinkName}
use Rattle.ring_names.specs.declared.numbers.CreditSpec.{CreditSpec}
use Rattle.ring_rules.specs.declared.event.Event.{Event}
use Rattle.activity.specs.Kept.{Kept, got_of}
use Rattle.ring_rules.specs.Machine.{World, member_at, link_at, view_in, newest, runs}
use Rattle.ring_rules.specs.Step.{size, log_of}
use Rattle.ring_rules.specs.Lawful.{row_of}
use Rattle.gm_member.specs.Held.{Held, Incoming}
use Rattle.gm_member.specs.Packets.{known_at}
use Rattle.std.specs.List.{list_any}
use Rattle.group_view.specs.declared.entry.Entry.{Entry}
use Rattle.ring_rules.specs.Settling.{owes_telling}
use Rattle.ring_rules.specs.Work.{is_untold}
use Rattle.ring_cluster.proofs.rounds.Asking.{any_counted}
use Rattle.gm_member.specs.Stands.{kept_by, held_in, incoming_in, outgoing_in, door_links}
use Rattle.gm_member.proofs.Knowing.{got_kept}
use Rattle.gm_member.specs.Shown.{out_name_of}
use Rattle.gm_member.proofs.Fit.{IsFit, reached_fit}
use Rattle.gm_member.proofs.Facts.{held_known, right_row, version_of_view}
use Rattle.ring_rules.specs.Work.{is_stale}
use Rattle.ring_cluster.specs.Holds.{HoldsOf, ShowsOf}
use Rattle.ring_cluster.specs.Seen.{collected_by}
use Rattle.ring_parties.specs.States.{state}
use Rattle.ring_parties.specs.Ends.{PacketShown, OutSeen, InSeen, HaveMet, items_in}
use Rattle.ordered_link.specs.Names.{PairName}
use Rattle.ring_parties.specs.Opened.{opened_at, opened_parties}
use Rattle.ring_parties.specs.Parties.{Shown, Parties, no_shown, node_at, names_shown}
use Rattle.ring_parties.specs.Standing.{Places, StandAfter, MemberStands, is_to, has_in, has_out}
use Rattle.ring_cluster.specs.Agendas.{place_among}
use Rattle.ring_cluster.specs.Published.{names_in}
use Rattle.ring_parties.specs.Refused.{id_named}
use Rattle.ring_cluster.proofs.work.Logged.{names_in_many, name_in_at}
use Rattle.ring_parties.proofs.lists.Lists.{some_injective}
use Rattle.ring_parties.proofs.lists.Truth.{made_some}
use Rattle.ring_parties.proofs.standing.Frames.{made_first}
use Rattle.ring_parties.proofs.standing.Placing.{in_door_is, waits_has}
use Rattle.ring_parties.proofs.standing.Writing.{map_agree}
use Rattle.ring_parties.proofs.work.Lawful.{IsLawfulAt, lawful_at}
use Rattle.ring_parties.proofs.meetings.NamedLinks.{out_is_open, out_has, current_has}
use Rattle.ring_parties.proofs.meetings.Known.{all_know}
use Rattle.ring_parties.proofs.events.OneEvent.{met_both}
use Rattle.ring_parties.proofs.events.Ready.{all_settled, settled_items}

-- what a member holds that stands at an id, but for its door
abbrev pub IsHeld : World → ℕ → Held → Type 0
IsHeld w x h = h ≡ record (held_in w x) { door = h.door }

pub held_but_door : (w : World) (x : ℕ) (h : Held) (door : List Incoming) → h ≡ record (held_in w x) { door = door } → IsHeld w x h
held_but_door w x h door e = e ∙ ap (λ d. record (held_in w x) { door = d }) (sym (ap (λ k. k.door) e))

pub held_holds : (w : World) (x : ℕ) (h : Held) → IsFit w → IsHeld w x h → HoldsOf w x h
held_holds w x h f e = record {
  id = ap (λ k. k.id) e;
  name = ap (λ k. k.name) e;
  phase = ap (λ k. k.phase) e;
  view = ap (λ k. k.view) e;
  got = λ p some lt. ap got_of (row p some lt) ∙ got_kept (log_of w p) (row_of w x p) (right_row w x p f);
  forgot = λ p some lt. ap (λ (k : Kept). k.forgot) (row p some lt);
  retired = λ p some lt. ap (λ (k : Kept). k.retired) (row p some lt);
  messages = λ p some lt. ap (λ (k : Kept). k.messages) (row p some lt);
  base = λ p some lt. ap (λ (k : Kept). k.base) (row p some lt);
}
  where
    row : (p : ℕ) → 1 ≤ p → p < size w → known_at h.known (p - 1) ≡ kept_by (log_of w p) (row_of w x p)
    row p some lt =
        let back : p - 1 + 1 ≡ p = omega arith in
        ap (λ k. known_at k.known (p - 1)) e ∙ held_known w x (p - 1) (omega (arith, f.few)) ∙ ap (λ q. kept_by (log_of w q) (row_of w x q)) back

-- ---- the member at a place, of the opening or joined

-- there are as many parties as members
pub parties_many : (credit : CreditSpec) (names : List (List ℕ)) (events : List Event) (q : Parties) → StandAfter credit names events q → length q.nodes + 1 ≡ size (state credit names events)
parties_many credit names events q s = s.stand.stand.count

-- the links at the door of one: the oldest of those that wait for it, as many as it has collected
abbrev pub at_door : World → Parties → ℕ → List ℕ
at_door w q x = take (get_or (collected_by q) (x - 1) 0) (door_links w x)

-- those are the ones that stand there
door_is : (w : World) (p : Places) (q : Parties) (x : ℕ) (m : MemberStands w p x (node_at q (x - 1))) → x - 1 < length q.nodes → at_door w q x ≡ m.door
door_is w p q x m lt =
    ap (λ n. take n (door_links w x)) (get_or-map (λ (a : Shown). length a.held.door) q.nodes (x - 1) no_shown 0 lt ∙ ap (λ h. length h.door) m.held ∙ length-map m.door (incoming_in w))
    ∙ ap (take (length m.door)) m.comes
    ∙ take-append_seam m.door (filter (is_to w x) p.deposits)

-- in a ring that opens nobody has collected a link
pub none_collected : (credit : CreditSpec) (names : List (List ℕ)) (q : Parties) → (rings : ℕ → PairName) × (q ≡ opened_parties rings credit names) → collected_by q ≡ map (λ _. 0) names
none_collected credit names q (rings, is) =
    let places : List ℕ = range_with_len 0 (length names) in
    ap collected_by is
    ∙ map-map (λ (m : Shown). length m.held.door) (opened_at rings credit names) places
    ∙ sym (splat_is_map places (length names) 0 (length-range_with_len 0 (length names)))
    ∙ splat_is_map names (length names) 0 refl

-- what it holds
abbrev pub StandsIn : World → ℕ → List ℕ → Held → Type 0
StandsIn w x links h = h ≡ record (held_in w x) { door = map (incoming_in w) links }

pub member_stands : (credit : CreditSpec) (names : List (List ℕ)) (events : List Event) (q : Parties) (x : ℕ) → StandAfter credit names events q → 1 ≤ x → x < size (state credit names events)
    → StandsIn (state credit names events) x (at_door (state credit names events) q x) (node_at q (x - 1)).held
member_stands credit names events q x s some lt =
    let w : World = state credit names events in
    let m : MemberStands w s.stand.places x (node_at q (x - 1)) = s.stand.stand.each x some lt in
    m.held ∙ ap (λ ds. record (held_in w x) { door = map (incoming_in w) ds }) (sym (door_is w s.stand.places q x m (omega (arith, some, lt, s.stand.stand.count))))

pub member_holds : (credit : CreditSpec) (names : List (List ℕ)) (events : List Event) (q : Parties) (x : ℕ) → StandAfter credit names events q → 1 ≤ x → x < size (state credit names events) → HoldsOf (state credit names events) x (node_at q (x - 1)).held
member_holds credit names events q x s some lt =
    held_holds (state credit names events) x (node_at q (x - 1)).held (reached_fit credit names events s.journal.are s.journal.run)
    (held_but_door (state credit names events) x (node_at q (x - 1)).held _ (member_stands credit names events q x s some lt))

-- what its ends show
pub member_shows : (credit : CreditSpec) (names : List (List ℕ)) (events : List Event) (q : Parties) (x : ℕ) → StandAfter credit names events q → 1 ≤ x → x < size (state credit names events) → ShowsOf (state credit names events) x (at_door (state credit names events) q x) (node_at q (x - 1)).ends
member_shows credit names events q x s some lt = record {
  items = ap (option_map (λ (n : InSeen). n.items)) stands.link ∙ items_by (member_at w x).current refl;
  door =
      ap (map (option_map (λ (n : InSeen). n.items))) stands.ends
      ∙ map-map (option_map (λ (n : InSeen). n.items)) (λ k. Some (p.ins k)) stands.door
      ∙ ends_by
      ∙ ap (map shown_on) (sym (door_is w p q x stands (omega (arith, some, lt, s.stand.stand.count))));
  grants = ap (option_map (λ (o : OutSeen). o.back)) stands.out ∙ grants_by (member_at w x).out refl;
  free = λ run k o at is. free_at run k o at (ap (option_map p.outs) (sym at) ∙ sym stands.out ∙ is);
  returned = stands.returned;
  old_outs = stands.old_outs;
  old_ins = stands.old_ins;
}
  where
    w : World
    w = state credit names events

    p : Places
    p = s.stand.places

    stands : MemberStands w p x (node_at q (x - 1))
    stands = s.stand.stand.each x some lt

    h : IsLawfulAt credit w
    h = lawful_at credit names events s.journal.are s.journal.run

    items_by : (c : Option ℕ) → (member_at w x).current ≡ c → option_map (λ (n : InSeen). n.items) (option_map p.ins c) ≡ option_map (λ k. items_in w (link_at w k)) c
    items_by None e = refl
    items_by (Some k) e =
        let there : k < length w.links = (h.fit.own_ends.current x k e).0 in
        let has : has_in w k ≡ true = current_has credit w x k h e in
        ap Some (settled_items credit.initial w k (p.outs k) (p.ins k) (all_settled w p k s.stand.met there has) (s.stand.stand.carry k there has))

    -- what the link at a place shows at its in end
    shown_on : ℕ → Option (List (Option PacketShown))
    shown_on k = Some (items_in w (link_at w k))

    waits_by : map (λ k. Some (p.ins k).items) (door_links w x) ≡ map shown_on (door_links w x)
    waits_by = map_agree (λ k. Some (p.ins k).items) shown_on (door_links w x) (λ k i.
        let at = in_door_is w x k i in
        let has : has_in w k ≡ true = waits_has w x k at.2 at.1 in
        ap Some (settled_items credit.initial w k (p.outs k) (p.ins k) (all_settled w p k s.stand.met at.0 has) (s.stand.stand.carry k at.0 has)))

    ends_by : map (λ k. Some (p.ins k).items) stands.door ≡ map shown_on stands.door
    ends_by = made_first (λ k. Some (p.ins k).items) shown_on stands.door (filter (is_to w x) p.deposits) (subst (λ ds. map (λ k. Some (p.ins k).items) ds ≡ map shown_on ds) stands.comes waits_by)

    grants_by : (c : Option ℕ) → (member_at w x).out ≡ c → option_map (λ (o : OutSeen). o.back) (option_map p.outs c) ≡ option_map (λ k. (link_at w k).flow.grants) c
    grants_by None e = refl
    grants_by (Some k) e = ap Some (all_know credit.initial w q s.stand k (h.fit.own_ends.out x k e).0 (out_has credit w x k h e))

    free_at : runs w x ≡ true → (k : ℕ) (o : OutSeen) → (member_at w x).out ≡ Some k → Some (p.outs k) ≡ Some o → o.free + length (items_in w (link_at w k)) ≡ o.initial + 1
    free_at run k o at is =
        let there : k < length w.links = (h.fit.own_ends.out x k at).0 in
        let has : has_in w k ≡ true = out_is_open credit w x k h run at in
        let met : HaveMet (p.outs k) (p.ins k) = met_both (has_out w k) (p.outs k) (p.ins k) (out_has credit w x k h at) (s.stand.met k there has) in
        let items : (p.ins k).items ≡ items_in w (link_at w k) = settled_items credit.initial w k (p.outs k) (p.ins k) (all_settled w p k s.stand.met there has) (s.stand.stand.carry k there has) in
        subst (λ (y : OutSeen). y.free + length (items_in w (link_at w k)) ≡ y.initial + 1) (some_injective (p.outs k) o is) (ap (λ xs. (p.outs k).free + length xs) (sym items) ∙ met.free)

-- the names that they show are those of the members
pub names_are : (credit : CreditSpec) (names : List (List ℕ)) (events : List Event) (q : Parties) → StandAfter credit names events q → names_shown q ≡ names_in (state credit names events)
names_are credit names events q s = same_lists (names_shown q) (names_in w) many (λ k d l.
    let lt : k < length q.nodes = omega (arith, l, length-map q.nodes (λ (m : Shown). m.held.name)) in
    let back : k + 1 - 1 ≡ k = omega arith in
    get_or-map (λ (m : Shown). m.held.name) q.nodes k no_shown d lt
    ∙ ap (λ i. (node_at q i).held.name) (sym back)
    ∙ ap (λ h. h.name) (member_stands credit names events q (k + 1) s (omega arith) (omega (arith, lt, parties_many credit names events q s)))
    ∙ sym (name_in_at w k d (omega (arith, lt, parties_many credit names events q s))))
  where
    w : World
    w = state credit names events

    many : length (names_shown q) ≡ length (names_in w)
    many = omega (arith, length-map q.nodes (λ (m : Shown). m.held.name), names_in_many w, parties_many credit names events q s)

-- so a name that is found among them is found in the state
one_less : (a b : Option ℕ) → option_map (λ i. i + 1) a ≡ option_map (λ i. i + 1) b → a ≡ b
one_less None None e = refl
one_less None (Some b) e = cc
one_less (Some a) None e = cc
one_less (Some a) (Some b) e = let both : a + 1 ≡ b + 1 = cc in ap Some (omega (arith, both))

pub place_is : (credit : CreditSpec) (names : List (List ℕ)) (events : List Event) (q : Parties) (name : List ℕ) (o : Option ℕ) → StandAfter credit names events q → id_named q name ≡ option_map (λ i. i + 1) o → o ≡ place_among (names_in (state credit names events)) name
place_is credit names events q name o s is =
    one_less o (position (λ (m : Shown). bytes_eq m.held.name name) q.nodes) (sym is)
    ∙ sym (position_map (λ n. bytes_eq n name) (λ (m : Shown). m.held.name) q.nodes)
    ∙ ap (λ ns. place_among ns name) (names_are credit names events q s)

-- ---- whom a member has to tell

pub held_untold : (w : World) (x version told : ℕ) (entries : List Entry) (h : Held) → IsFit w → IsHeld w x h → version ≡ h.view.version → entries ≡ h.view.entries → told ≡ (member_at w x).told
    → list_any (is_untold version told) entries ≡ owes_telling w (Some x)
held_untold w x version told entries h f e ve ee te =
    let own : version ≡ (member_at w x).version = ve ∙ ap (λ (k : Held). k.view.version) e ∙ version_of_view w (member_at w x).version f.good.views (f.good.inv.is_ring.held x) in
    let all : entries ≡ (view_in w (member_at w x).version).entries = ee ∙ ap (λ (k : Held). k.view.entries) e in
    ap (λ v. list_any (is_untold v told) entries) own ∙ ap (λ t. list_any (is_untold (member_at w x).version t) entries) te
    ∙ ap (list_any (is_untold (member_at w x).version (member_at w x).told)) all
    ∙ any_counted (is_untold (member_at w x).version (member_at w x).told) (view_in w (member_at w x).version).entries

-- ---- whether a member is stale

pub not_and : (a b : Bool) → (not a || not b) ≡ not (a && b)
not_and true b = refl
not_and false b = refl

-- the version of the newest view
pub newest_version : (w : World) → IsFit w → (view_in w (newest w)).version ≡ newest w
newest_version w f = version_of_view w (newest w) f.good.views (omega arith)

pub held_stale : (w : World) (x have newer : ℕ) (name : Option LinkName) (h : Held) → IsFit w → IsHeld w x h → have ≡ h.view.version → newer ≡ (view_in w (newest w)).version → name ≡ out_name_of h
    → (not (nat_eq have newer) || not (is_some name)) ≡ is_stale (newest w) (member_at w x)
held_stale w x have newer name h f e he ne oe =
    let own : have ≡ (member_at w x).version = he ∙ ap (λ (k : Held). k.view.version) e ∙ version_of_view w (member_at w x).version f.good.views (f.good.inv.is_ring.held x) in
    let top : newer ≡ newest w = ne ∙ newest_version w f in
    let out : is_some name ≡ is_some (member_at w x).out = ap is_some oe ∙ made_some _ h.out ∙ ap (λ (k : Held). is_some k.out) e ∙ made_some (outgoing_in w) (member_at w x).out in
    not_and (nat_eq have newer) (is_some name) ∙ ap (λ b. not (b && is_some name)) (ap (λ a. nat_eq a newer) own ∙ ap (nat_eq (member_at w x).version) top) ∙ ap (λ b. not (nat_eq (member_at w x).version (newest w) && b)) out
