-- What stays where one member and one link are written: the doors, the links that are open, what the packets stand for, and how a member stands.
use Rattle.gm_member.specs.Packets.{places}
use Rattle.std.proofs.Common.{◌≡◌, ℕ, suc, ◌+◌, ◌<◌, Bool, true, cond, nat_eq, List, [], ◌∷◌, ◌++◌, length, map, Some, is_some, refl, sym, ap, subst, ◌∙◌, false, Option, None, append_assoc, append-nil}
use Rattle.std.specs.Prelude.{◌||◌, option_map}
use Rattle.std.specs.List.{filter, range_with_len}
use Rattle.std.proofs.lemmas.List.{length-set}
use Rattle.credit_flow.specs.Credit.{none_taken}
use Rattle.ring_rules.specs.Compact.{passed, before_next}
use Rattle.ring_rules.specs.Machine.{World, Link, Member, Packet, Sending, no_link, no_member, numbers_at, member_at, link_at}
use Rattle.ring_rules.specs.OpenLinks.{is_place, is_current}
use Rattle.ring_rules.specs.Step.{size, log_of, with_member, with_link}
use Rattle.ring_rules.proofs.rings.Lists.{at_set}
use Rattle.gm_member.specs.Held.{Held, Incoming}
use Rattle.gm_member.specs.View.{ring_link}
use Rattle.gm_member.specs.Stands.{incoming_in, waits_for, door_links, door_in, held_in, line_for, lines_in}
use Rattle.gm_member.proofs.Places.{map-range_same}
use Rattle.gm_member.proofs.Parts.{Seen, waits_seen, there_same}
use Rattle.gm_member.proofs.DoorLists.{made_agree}
use Rattle.ring_parties.specs.Ends.{PacketShown, OutSeen, InSeen, packet_in, packets_in, end_items, items_in, Carries, Fits, fresh_in}
use Rattle.ordered_link.specs.Names.{PairName}
use Rattle.ring_parties.specs.Parties.{Shown, Parties}
use Rattle.ring_parties.specs.Standing.{Places, MemberStands, name_of, is_to, has_out, has_in}
use Rattle.ring_parties.specs.Replaced.{StandBetween, moved_by}
use Rattle.group_view.specs.declared.link.LinkName.{LinkName}
use Rattle.ring_parties.specs.Acting.{ActsOut}
use Rattle.std.proofs.lemmas.Bool.{false≢true}
use Rattle.ring_rules.specs.declared.phase.Ending.{Ending}

-- the parties stand in a state after an event of x, in which the ends that it may have moved have still to meet
abbrev pub StandMoved : ℕ → ℕ → World → Parties → Option (LinkName × OutSeen) → Type 0
StandMoved initial x w q replaced = StandBetween initial w (moved_by x w) q replaced

-- ---- lists

-- what is made of the first of two lists
pub made_first : {A : Type 0} (f g : ℕ → A) (xs ys : List ℕ) → map f (xs ++ ys) ≡ map g (xs ++ ys) → map f xs ≡ map g xs
made_first f g [] ys e = refl
made_first f g (x ∷ xs) ys e =
    let first : f x ≡ g x = cc in
    let later : map f (xs ++ ys) ≡ map g (xs ++ ys) = cc in
    ap (λ a. a ∷ map f xs) first ∙ ap (λ ys. g x ∷ ys) (made_first f g xs ys later)

-- tests that agree keep the same
pub same_filter : (t t' : ℕ → Bool) (xs : List ℕ) → ((s : ℕ) → t s ≡ t' s) → filter t xs ≡ filter t' xs
same_filter t t' [] h = refl
same_filter t t' (x ∷ xs) h = ap (λ b. cond b (x ∷ filter t xs) (filter t xs)) (h x) ∙ ap (λ ys. cond (t' x) (x ∷ ys) ys) (same_filter t t' xs h)

-- ---- one of many is written

-- what each member has is as it was where the one that is written has the same
pub same_of : {A : Type 0} (f : Member → A) (w : World) (x : ℕ) (m : Member) → x < size w → f m ≡ f (member_at w x) → (y : ℕ) → f (member_at (with_member w x m) y) ≡ f (member_at w y)
same_of f w x m lt e y = at_set (λ k a. f a ≡ f (member_at w k)) w.members x y m no_member lt e (λ _. refl)

-- and so of links
pub same_link_of : {A : Type 0} (f : Link → A) (w : World) (s : ℕ) (l : Link) → s < length w.links → f l ≡ f (link_at w s) → (j : ℕ) → f (link_at (with_link w s l) j) ≡ f (link_at w j)
same_link_of f w s l lt e j = at_set (λ k a. f a ≡ f (link_at w k)) w.links s j l no_link lt e (λ _. refl)

-- ---- the way of a link

-- from whom it comes, to whom and since when, and whether its end was taken
pub record Way : Type 0 where
  pub from : ℕ
  pub to : ℕ
  pub opened : ℕ
  pub over : Bool

abbrev pub way : Link → Way
way l = record { from = l.sender; to = l.receiver; opened = l.opened; over = l.over }

abbrev pub way_seen : Way → Seen
way_seen a = record { from = a.from; to = a.to; opened = a.opened; over = a.over; counted = none_taken 0 0 }

-- Members have their versions and their links, and links go their way.
pub record SameWays (w w' : World) : Type 0 where
  pub size_is : size w' ≡ size w
  pub many : length w'.links ≡ length w.links
  pub views : w'.views ≡ w.views
  pub ways : (s : ℕ) → way (link_at w' s) ≡ way (link_at w s)
  pub versions : (x : ℕ) → (member_at w' x).version ≡ (member_at w x).version
  pub currents : (x : ℕ) → (member_at w' x).current ≡ (member_at w x).current
  pub outs : (x : ℕ) → (member_at w' x).out ≡ (member_at w x).out

-- a member is written that has the same
pub member_ways : (w : World) (x : ℕ) (y : Member) → x < size w → y.version ≡ (member_at w x).version → y.current ≡ (member_at w x).current → y.out ≡ (member_at w x).out → SameWays w (with_member w x y)
member_ways w x y lt v c o = record {
  size_is = length-set w.members x y;
  many = refl;
  views = refl;
  ways = λ s. refl;
  versions = same_of (λ (a : Member). a.version) w x y lt v;
  currents = same_of (λ (a : Member). a.current) w x y lt c;
  outs = same_of (λ (a : Member). a.out) w x y lt o;
}

-- a link is written that goes the same way
pub link_ways : (w : World) (s : ℕ) (l : Link) → s < length w.links → way l ≡ way (link_at w s) → SameWays w (with_link w s l)
link_ways w s l lt e = record {
  size_is = refl;
  many = length-set w.links s l;
  views = refl;
  ways = same_link_of way w s l lt e;
  versions = λ x. refl;
  currents = λ x. refl;
  outs = λ x. refl;
}

-- one after the other
pub ways_both : (w w1 w2 : World) → SameWays w w1 → SameWays w1 w2 → SameWays w w2
ways_both w w1 w2 a b = record {
  size_is = b.size_is ∙ a.size_is;
  many = b.many ∙ a.many;
  views = b.views ∙ a.views;
  ways = λ s. b.ways s ∙ a.ways s;
  versions = λ x. b.versions x ∙ a.versions x;
  currents = λ x. b.currents x ∙ a.currents x;
  outs = λ x. b.outs x ∙ a.outs x;
}

-- names
pub same_name : (w w' : World) (s : ℕ) → way (link_at w' s) ≡ way (link_at w s) → name_of w' s ≡ name_of w s
same_name w w' s e = ap (λ (a : Way). ring_link a.from a.to a.opened) e

-- receivers
pub same_to : (w w' : World) (x s : ℕ) → way (link_at w' s) ≡ way (link_at w s) → is_to w' x s ≡ is_to w x s
same_to w w' x s e = ap (λ (a : Way). nat_eq a.to x) e

-- whether a link waits
pub same_waits : (w w' : World) (x s : ℕ) → SameWays w w' → waits_for w' x s ≡ waits_for w x s
same_waits w w' x s h =
    ap (λ vs. waits_seen vs (member_at w' x).current (member_at w' x).version x s (way_seen (way (link_at w' s)))) h.views
    ∙ ap (λ c. waits_seen w.views c (member_at w' x).version x s (way_seen (way (link_at w' s)))) (h.currents x)
    ∙ ap (λ v. waits_seen w.views (member_at w x).current v x s (way_seen (way (link_at w' s)))) (h.versions x)
    ∙ ap (λ a. waits_seen w.views (member_at w x).current (member_at w x).version x s (way_seen a)) (h.ways s)

-- doors
pub same_doors : (w w' : World) (x : ℕ) → SameWays w w' → door_links w' x ≡ door_links w x
same_doors w w' x h = ap (λ n. filter (waits_for w' x) (range_with_len 0 n)) h.many ∙ same_filter (waits_for w' x) (waits_for w x) (range_with_len 0 (length w.links)) (λ s. same_waits w w' x s h)

-- which links are open
pub same_in : (w w' : World) (s : ℕ) → SameWays w w' → has_in w' s ≡ has_in w s
same_in w w' s h =
    ap (λ (a : Way). is_current w' a.to s || waits_for w' a.to s) (h.ways s)
    ∙ ap (λ c. is_place c s || waits_for w' (link_at w s).receiver s) (h.currents (link_at w s).receiver)
    ∙ ap (λ b. is_current w (link_at w s).receiver s || b) (same_waits w w' (link_at w s).receiver s h)

-- and which have their out end
pub same_out : (w w' : World) (s : ℕ) → SameWays w w' → has_out w' s ≡ has_out w s
same_out w w' s h = ap (λ (a : Way). is_place (member_at w' a.from).out s) (h.ways s) ∙ ap (λ o. is_place o s) (h.outs (link_at w s).sender)

-- ---- packets

-- they stand for the same where the logs are the same
pub same_lines : (w w' : World) (before : Sending) (k : Packet) → ((p : ℕ) → log_of w' p ≡ log_of w p) → lines_in w' before k ≡ lines_in w before k
unfolding places
same_lines w w' before k h = map-range_same (λ p. line_for before.fresh (log_of w' (p + 1)) p (numbers_at k (p + 1)) (numbers_at before.sent (p + 1))) (λ p. line_for before.fresh (log_of w (p + 1)) p (numbers_at k (p + 1)) (numbers_at before.sent (p + 1))) 64
    (λ p _. ap (λ log. line_for before.fresh log p (numbers_at k (p + 1)) (numbers_at before.sent (p + 1))) (h (p + 1)))

pub same_packets : (w w' : World) (before : Sending) (ks : List Packet) → ((p : ℕ) → log_of w' p ≡ log_of w p) → packets_in w' before ks ≡ packets_in w before ks
same_packets w w' before [] h = refl
same_packets w w' before (k ∷ ks) h =
    ap (λ ls. Some (record { view = k.version; lines = ls }) ∷ packets_in w' (passed k) ks) (same_lines w w' before k h)
    ∙ ap (λ xs. packet_in w before k ∷ xs) (same_packets w w' (passed k) ks h)

-- one more behind them
pub packets_push : (w : World) (before : Sending) (ks : List Packet) (k : Packet) → packets_in w before (ks ++ k ∷ []) ≡ packets_in w before ks ++ packet_in w (before_next before ks) k ∷ []
packets_push w before [] k = refl
packets_push w before (j ∷ ks) k = ap (λ xs. packet_in w before j ∷ xs) (packets_push w (passed j) ks k)

-- how many they are
pub packets_many : (w : World) (before : Sending) (ks : List Packet) → length (packets_in w before ks) ≡ length ks
packets_many w before [] = refl
packets_many w before (k ∷ ks) = ap suc (packets_many w (passed k) ks)

-- ends that carry a link carry it in another state where its packets stand for the same
pub carries_still : (initial : ℕ) (w w' : World) (l l' : Link) (o : OutSeen) (n : InSeen) → packets_in w' l'.had l'.packets ≡ packets_in w l.had l.packets → l'.ending ≡ l.ending → l'.flow.grants ≡ l.flow.grants → Carries w initial l o n → Carries w' initial l' o n
carries_still initial w w' l l' o n ep ee eg c = record {
  items = ap (λ e. n.taken ++ (packets_in w' l'.had l'.packets ++ end_items e)) ee ∙ ap (λ ks. n.taken ++ (ks ++ end_items l.ending)) ep ∙ c.items;
  grants = ap (λ gs. o.gained ++ gs) eg ∙ c.grants;
  late = c.late;
  ended = c.ended ∙ ap is_some (sym ee);
  initial = c.initial;
  fits = c.fits;
}

-- and so where the logs are the same
pub carries_logs : (initial : ℕ) (w w' : World) (l : Link) (o : OutSeen) (n : InSeen) → ((p : ℕ) → log_of w' p ≡ log_of w p) → Carries w initial l o n → Carries w' initial l o n
carries_logs initial w w' l o n logs c = carries_still initial w w' l l o n (same_packets w w' l.had l.packets logs) refl refl c

-- the same of a link that is the same
pub carries_same : (initial : ℕ) (w w' : World) (s : ℕ) (o : OutSeen) (n : InSeen) → ((p : ℕ) → log_of w' p ≡ log_of w p) → link_at w' s ≡ link_at w s → Carries w initial (link_at w s) o n → Carries w' initial (link_at w' s) o n
carries_same initial w w' s o n logs e c = subst (λ l. Carries w' initial l o n) (sym e) (carries_logs initial w w' (link_at w s) o n logs c)

-- ends that have just opened carry a link on which these items stand, and for which nothing was given back
pub opened_carries : (ring : PairName) (initial : ℕ) (w : World) (l : Link) (items : List (Option PacketShown)) (free : ℕ) → ring.slots ≡ initial + 1 → items ≡ items_in w l → l.flow.grants ≡ [] → l.ending ≡ None
    → Carries w initial l (record { put = items; gained = []; back = []; initial = initial; free = free; ended = false; ring = ring }) (fresh_in ring initial)
opened_carries ring initial w l items free wide stand grants goes_on = record {
  items = sym stand;
  grants = grants;
  late = refl;
  ended = sym (ap is_some goes_on);
  initial = refl;
  fits = record { initial = refl; ring = refl; slots = wide };
}

-- an end that was put on, or gained, may meet as it might
pub acts_fit : (items : List (Option PacketShown)) (grants : List ℕ) (is_ended : Bool) (o o' : OutSeen) (n : InSeen) → ActsOut items grants is_ended o o' → Fits o n → Fits o' n
acts_fit items grants is_ended o o' n t f = record {
  initial = f.initial ∙ sym t.initial;
  ring = f.ring ∙ sym t.ring;
  slots = ap (λ (r : PairName). r.slots) t.ring ∙ f.slots ∙ ap (λ i. i + 1) (sym t.initial);
}

-- ends carry a link still on whose out end these items were put
pub acts_carries : (initial : ℕ) (w : World) (l l' : Link) (o o' : OutSeen) (n : InSeen) (items : List (Option PacketShown)) (is_ended : Bool) → ActsOut items [] is_ended o o' → items_in w l ++ items ≡ items_in w l' → l'.flow.grants ≡ l.flow.grants → is_ended ≡ is_some l'.ending → Carries w initial l o n → Carries w initial l' o' n
acts_carries initial w l l' o o' n items is_ended t stand grants ends c = record {
  items = ap (λ xs. n.taken ++ xs) (sym stand) ∙ sym (append_assoc n.taken (items_in w l) items) ∙ ap (λ xs. xs ++ items) c.items ∙ sym t.put;
  grants = ap (λ gs. o'.gained ++ gs) grants ∙ ap (λ gs. gs ++ l.flow.grants) (t.gained ∙ append-nil o.gained) ∙ c.grants;
  late = c.late;
  ended = t.ended ∙ ends;
  initial = t.initial ∙ c.initial;
  fits = acts_fit items [] is_ended o o' n t c.fits;
}

-- where a link has ended, its end stands behind what stood there
pub end_put : (w : World) (l l' : Link) → l.ending ≡ None → packets_in w l'.had l'.packets ≡ packets_in w l.had l.packets → is_some l'.ending ≡ true → items_in w l ++ None ∷ [] ≡ items_in w l'
end_put w l l' goes_on ep ends =
    ap (λ e. (packets_in w l.had l.packets ++ end_items e) ++ None ∷ []) goes_on
    ∙ ap (λ xs. xs ++ None ∷ []) (append-nil (packets_in w l.had l.packets))
    ∙ ap (λ xs. xs ++ None ∷ []) (sym ep)
    ∙ ap (λ xs. packets_in w l'.had l'.packets ++ xs) (last_item l'.ending ends)
  where
    last_item : (e : Option Ending) → is_some e ≡ true → None ∷ [] ≡ end_items e
    last_item None k = absurd (false≢true k)
    last_item (Some why) k = refl

-- and its ends carry it
pub end_carries : (initial : ℕ) (w : World) (l l' : Link) (o o' : OutSeen) (n : InSeen) → l.ending ≡ None → packets_in w l'.had l'.packets ≡ packets_in w l.had l.packets → is_some l'.ending ≡ true → l'.flow.grants ≡ l.flow.grants → ActsOut (None ∷ []) [] true o o' → Carries w initial l o n → Carries w initial l' o' n
end_carries initial w l l' o o' n goes_on ep ends eg t = acts_carries initial w l l' o o' n (None ∷ []) true t (end_put w l l' goes_on ep ends) eg (sym ends)

-- ---- members

-- At the door of the member y stand the links that stood there, and their in ends show what they showed.
pub record SameDoor (w w' : World) (p p' : Places) (y : ℕ) : Type 0 where
  pub doors : door_links w' y ≡ door_links w y
  pub to : (s : ℕ) → is_to w' y s ≡ is_to w y s
  pub deposits : p'.deposits ≡ p.deposits
  pub ins : (s : ℕ) → waits_for w y s ≡ true → p'.ins s ≡ p.ins s

-- A member does something to what it holds, but for its door, and holds then what the new state has for it; of its ends only those of the links
-- on which it sends and from which it takes may show something else.
pub record Does (w w' : World) (y : ℕ) (m b : Shown) (out : Option OutSeen) (link : Option InSeen) : Type 0 where
  pub does : Held → Held
  pub but_door : (g : Held) (ds : List Incoming) → does (record g { door = ds }) ≡ record (does g) { door = ds }
  pub stands : does (held_in w y) ≡ held_in w' y
  pub is : b ≡ record { held = does m.held; ends = record m.ends { out = out; link = link } }

-- it stands in the new state where those two ends are the ones of its links
pub goes_stands : (w w' : World) (p p' : Places) (y : ℕ) (m b : Shown) (out : Option OutSeen) (link : Option InSeen) → SameDoor w w' p p' y → Does w w' y m b out link
    → out ≡ option_map p'.outs (member_at w' y).out → link ≡ option_map p'.ins (member_at w' y).current → MemberStands w p y m → MemberStands w' p' y b
goes_stands w w' p p' y m b out link d g eo el h =
    let rest : List ℕ = filter (is_to w y) p.deposits in
    let same_door : (g.does (held_in w y)).door ≡ door_in w y = ap (λ (a : Held). a.door) (g.but_door (held_in w y) (door_in w y)) in
    let all_same : map (incoming_in w) (door_links w y) ≡ map (incoming_in w') (door_links w' y) = sym same_door ∙ ap (λ (a : Held). a.door) g.stands in
    let parts : map (incoming_in w) (h.door ++ rest) ≡ map (incoming_in w') (h.door ++ rest) =
    ap (map (incoming_in w)) (sym h.comes) ∙ all_same ∙ ap (map (incoming_in w')) (d.doors ∙ h.comes) in
    let ends_made : map (λ s. Some (p'.ins s)) (h.door ++ rest) ≡ map (λ s. Some (p.ins s)) (h.door ++ rest) =
    ap (map (λ s. Some (p'.ins s))) (sym h.comes) ∙ made_agree (λ s. Some (p'.ins s)) (λ s. Some (p.ins s)) (waits_for w y) 0 (length w.links) (λ s _ _ e. ap (λ n. Some n) (d.ins s e)) ∙ ap (map (λ s. Some (p.ins s))) h.comes in
    record {
      door = h.door;
      comes = d.doors ∙ h.comes ∙ ap (λ xs. h.door ++ xs) (same_filter (is_to w y) (is_to w' y) p.deposits (λ s. sym (d.to s)) ∙ ap (filter (is_to w' y)) (sym d.deposits));
      held =
          ap (λ (a : Shown). a.held) g.is ∙ ap g.does h.held ∙ g.but_door (held_in w y) (map (incoming_in w) h.door)
          ∙ ap (λ ds. record (g.does (held_in w y)) { door = ds }) (made_first (incoming_in w) (incoming_in w') h.door rest parts)
          ∙ ap (λ (a : Held). record a { door = map (incoming_in w') h.door }) g.stands;
      out = ap (λ (a : Shown). a.ends.out) g.is ∙ eo;
      returned = ap (λ (a : Shown). a.ends.returned) g.is ∙ h.returned;
      link = ap (λ (a : Shown). a.ends.link) g.is ∙ el;
      ends = ap (λ (a : Shown). a.ends.door) g.is ∙ h.ends ∙ sym (made_first (λ s. Some (p'.ins s)) (λ s. Some (p.ins s)) h.door rest ends_made);
      old_outs = ap (λ (a : Shown). a.ends.old_outs) g.is ∙ h.old_outs;
      old_ins = ap (λ (a : Shown). a.ends.old_ins) g.is ∙ h.old_ins;
    }

-- and so does one that does nothing and whose links are the same
pub stays_stands : (w w' : World) (p p' : Places) (y : ℕ) (m : Shown) → SameDoor w w' p p' y → held_in w y ≡ held_in w' y → (member_at w' y).out ≡ (member_at w y).out → (member_at w' y).current ≡ (member_at w y).current
    → ((s : ℕ) → (member_at w y).out ≡ Some s → p'.outs s ≡ p.outs s) → ((s : ℕ) → (member_at w y).current ≡ Some s → p'.ins s ≡ p.ins s) → MemberStands w p y m → MemberStands w' p' y m
stays_stands w w' p p' y m d stands same_out same_current outs ins h = goes_stands w w' p p' y m m m.ends.out m.ends.link d
    (record { does = λ g. g; but_door = λ g ds. refl; stands = stands; is = refl })
    (h.out ∙ sym (there_same p'.outs p.outs (member_at w y).out outs) ∙ ap (option_map p'.outs) (sym same_out))
    (h.link ∙ sym (there_same p'.ins p.ins (member_at w y).current ins) ∙ ap (option_map p'.ins) (sym same_current))
    h
