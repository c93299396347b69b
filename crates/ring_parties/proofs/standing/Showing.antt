-- The parties stand as before where one end of a link shows something else.
use Rattle.std.proofs.Common.{◌≡◌, ◌≢◌, ℕ, ◌+◌, ◌-◌, ◌<◌, ◌≤◌, true, false, nat_eq, if◌then◌else◌, List, Option, length, get_or, set, map, Some, refl, sym, ap, subst, ◌∙◌, arith, ⊎_elim}
use Rattle.std.specs.Prelude.{option_map}
use Rattle.std.proofs.lemmas.Bool.{false≢true, cases_eq, false_from_ne_true}
use Rattle.std.proofs.lemmas.List.{length-set, get_or-set_same, get_or-set_other}
use Rattle.group_view.specs.Ring.{is_in}
use Rattle.group_view.proofs.Rings.{nat_eq-same}
use Rattle.ring_rules.specs.Machine.{World, member_at, link_at}
use Rattle.ring_rules.specs.OpenLinks.{is_place}
use Rattle.ring_rules.specs.Step.{size}
use Rattle.ring_rules.proofs.invariants.Happens.{IsGood}
use Rattle.gm_member.specs.Stands.{waits_for}
use Rattle.gm_member.specs.Shown.{in_name_of}
use Rattle.ring_rules.proofs.work.OwnEnds.{OwnEnds}
use Rattle.gm_member.proofs.Parts.{there_same, current_waits_not}
use Rattle.ring_parties.specs.Ends.{OutSeen, InSeen, Carries}
use Rattle.ring_parties.specs.Parties.{Shown, Deposit, Parties, no_shown, node_at, with_node, with_out, with_in}
use Rattle.ring_parties.specs.Standing.{Places, MemberStands, Shows, StandIn, name_of, is_to, has_out, has_in}
use Rattle.ring_parties.proofs.standing.Writing.{placed, placed_same, placed_other, at_in, distinct_filter, map_other, set_made}
use Rattle.ring_parties.proofs.standing.Placing.{GoBetween, StandsAt, at_receives, stood_is, deposit_is, stood_once, deposited_once, stood_not_deposited, name_stands}

-- ---- the parties, and their ends

-- the parties show the state as they did, and ends carry their links
pub stands_of : {C : ℕ → Type 0} (initial : ℕ) (w : World) (q : Parties) (p : Places) → Shows C w q p → ((s : ℕ) → s < length w.links → has_in w s ≡ true → Carries w initial (link_at w s) (p.outs s) (p.ins s)) → StandIn initial w q p
stands_of initial w q p h c = record { count = h.count; each = h.each; views = h.views; stopped = h.stopped; nobody_else = h.nobody_else; deposits = h.deposits; within = h.within; carry = c }

-- and so they do with other members and links that wait, and with other ends at the places, where these show it
shows_as : {C : ℕ → Type 0} (w : World) (q : Parties) (p : Places) (nodes : List Shown) (deposits : List Deposit) (outs : ℕ → OutSeen) (ins : ℕ → InSeen) → Shows C w q p → length nodes + 1 ≡ size w
    → ((z : ℕ) → 1 ≤ z → z < size w → MemberStands w (record p { outs = outs; ins = ins }) z (get_or nodes (z - 1) no_shown)) → deposits ≡ map (λ s. record { name = name_of w s; end = Some (ins s) }) p.deposits
    → Shows C w (record q { nodes = nodes; deposits = deposits }) (record p { outs = outs; ins = ins })
shows_as w q p nodes deposits outs ins h count each pending_deposits = record { count = count; each = each; views = h.views; stopped = h.stopped; nobody_else = h.nobody_else; deposits = pending_deposits; within = h.within; carry = h.carry }

-- another end is shown
abbrev pub with_outs : Places → ℕ → OutSeen → Places
with_outs p s o = record p { outs = placed p.outs s o }

abbrev pub with_ins : Places → ℕ → InSeen → Places
with_ins p s n = record p { ins = placed p.ins s n }

-- ---- one member is another

pub each_set : (w w' : World) (q : Parties) (p p' : Places) (x : ℕ) (b : Shown) → length q.nodes + 1 ≡ size w → 1 ≤ x → x < size w → MemberStands w' p' x b → ((z : ℕ) → 1 ≤ z → z < size w → z ≢ x → MemberStands w' p' z (node_at q (z - 1)))
    → (z : ℕ) → 1 ≤ z → z < size w → MemberStands w' p' z (node_at (with_node q (x - 1) b) (z - 1))
each_set w w' q p p' x b count a l here other z c m = ⊎_elim
    (λ (same : z ≡ x). subst (λ k. MemberStands w' p' k (get_or (set q.nodes (x - 1) b) (k - 1) no_shown)) (sym same)
    (subst (MemberStands w' p' x) (sym (get_or-set_same q.nodes (x - 1) b no_shown (omega (arith, count)))) here))
    (λ (ne : z ≢ x).
    let apart : z - 1 ≢ x - 1 = λ (k : z - 1 ≡ x - 1). ne (omega arith) in
    subst (MemberStands w' p' z) (sym (get_or-set_other q.nodes (x - 1) (z - 1) b no_shown apart)) (other z c m ne))
    (cases_eq z x)

-- ---- an out end

-- a member stands with an out end that shows what stands at its place
out_as : (w : World) (p : Places) (x s : ℕ) (o : OutSeen) (m : Shown) (out : Option OutSeen) → out ≡ option_map (placed p.outs s o) (member_at w x).out → MemberStands w p x m → MemberStands w (with_outs p s o) x (record m { ends = record m.ends { out = out } })
out_as w p x s o m out e h = record {
  door = h.door;
  comes = h.comes;
  held = h.held;
  out = e;
  returned = h.returned;
  link = h.link;
  ends = h.ends;
  old_outs = h.old_outs;
  old_ins = h.old_ins;
}

out_other : (w : World) (p : Places) (x s : ℕ) (o : OutSeen) (m : Shown) → ((member_at w x).out ≡ Some s → ⊥) → MemberStands w p x m → MemberStands w (with_outs p s o) x m
out_other w p x s o m none h =
    out_as w p x s o m m.ends.out (h.out ∙ there_same p.outs (placed p.outs s o) (member_at w x).out (λ k e. sym (placed_other p.outs s o k (λ (same : k ≡ s). none (e ∙ ap Some same))))) h

out_here : (w : World) (p : Places) (x s : ℕ) (o : OutSeen) (m : Shown) → (member_at w x).out ≡ Some s → MemberStands w p x m → MemberStands w (with_outs p s o) x (with_out m o)
out_here w p x s o m e h = out_as w p x s o m (Some o) (sym (ap (option_map (placed p.outs s o)) e ∙ ap Some (placed_same p.outs s o))) h

-- of the link on which x sends
pub out_shows : {C : ℕ → Type 0} (w : World) (q : Parties) (p : Places) (x s : ℕ) (o : OutSeen) → OwnEnds w → 1 ≤ x → x < size w → (member_at w x).out ≡ Some s → Shows C w q p → Shows C w (with_node q (x - 1) (with_out (node_at q (x - 1)) o)) (with_outs p s o)
out_shows w q p x s o own a l e h = shows_as w q p (set q.nodes (x - 1) (with_out (node_at q (x - 1)) o)) q.deposits (placed p.outs s o) p.ins h
    (let same : length (set q.nodes (x - 1) (with_out (node_at q (x - 1)) o)) ≡ length q.nodes = length-set q.nodes (x - 1) (with_out (node_at q (x - 1)) o) in omega (arith, same, h.count))
    (each_set w w q p (with_outs p s o) x (with_out (node_at q (x - 1)) o) h.count a l (out_here w p x s o (node_at q (x - 1)) e (h.each x a l))
    (λ z c m ne. out_other w p z s o (node_at q (z - 1)) (λ k. ne (sym (own.out z s k).1 ∙ (own.out x s e).1)) (h.each z c m)))
    h.deposits

-- of one that no member has
pub out_hidden : {C : ℕ → Type 0} (w : World) (q : Parties) (p : Places) (s : ℕ) (o : OutSeen) → OwnEnds w → has_out w s ≡ false → Shows C w q p → Shows C w q (with_outs p s o)
out_hidden w q p s o own none h = shows_as w q p q.nodes q.deposits (placed p.outs s o) p.ins h h.count
    (λ z c m. out_other w p z s o (node_at q (z - 1))
    (λ k. false≢true (sym none ∙ ap (λ y. is_place (member_at w y).out s) (own.out z s k).1 ∙ ap (λ c. is_place c s) k ∙ nat_eq-same s)) (h.each z c m))
    h.deposits

-- ---- an in end

-- a member stands with in ends that show what stands at their places
in_as : (w : World) (p : Places) (x s : ℕ) (n : InSeen) (m : Shown) (link : Option InSeen) (door : List (Option InSeen)) (h : MemberStands w p x m) → link ≡ option_map (placed p.ins s n) (member_at w x).current → door ≡ map (λ k. Some (placed p.ins s n k)) h.door
    → MemberStands w (with_ins p s n) x (record m { ends = record m.ends { link = link; door = door } })
in_as w p x s n m link door h el ed = record {
  door = h.door;
  comes = h.comes;
  held = h.held;
  out = h.out;
  returned = h.returned;
  link = el;
  ends = ed;
  old_outs = h.old_outs;
  old_ins = h.old_ins;
}

-- another link from which it takes
link_other : (w : World) (p : Places) (x s : ℕ) (n : InSeen) (m : Shown) → MemberStands w p x m → ((member_at w x).current ≡ Some s → ⊥) → m.ends.link ≡ option_map (placed p.ins s n) (member_at w x).current
link_other w p x s n m h none = h.link ∙ there_same p.ins (placed p.ins s n) (member_at w x).current (λ k e. sym (placed_other p.ins s n k (λ (same : k ≡ s). none (e ∙ ap Some same))))

-- other links at its door
door_other : (w : World) (p : Places) (x s : ℕ) (n : InSeen) (m : Shown) (h : MemberStands w p x m) → is_in s h.door ≡ false → m.ends.door ≡ map (λ k. Some (placed p.ins s n k)) h.door
door_other w p x s n m h absent = h.ends ∙ sym (map_other (λ k. Some (p.ins k)) (λ k. Some (placed p.ins s n k)) h.door s absent (λ k ne. ap Some (placed_other p.ins s n k ne)))

in_other : (w : World) (p : Places) (x s : ℕ) (n : InSeen) (m : Shown) (h : MemberStands w p x m) → ((member_at w x).current ≡ Some s → ⊥) → is_in s h.door ≡ false → MemberStands w (with_ins p s n) x m
in_other w p x s n m h none absent = in_as w p x s n m m.ends.link m.ends.door h (link_other w p x s n m h none) (door_other w p x s n m h absent)

-- one that is taken from waits nowhere
pub current_not_waits : (w : World) (x s : ℕ) → (member_at w x).current ≡ Some s → waits_for w x s ≡ true → ⊥
current_not_waits w x s e k = false≢true (sym (current_waits_not w x s e) ∙ k)

in_here : (w : World) (p : Places) (x place s : ℕ) (n : InSeen) (m : Shown) (h : MemberStands w p x m) → StandsAt w x h.door place s → MemberStands w (with_ins p s n) x (with_in m place n)
in_here w p x place s n m h a = ⊎_elim
    (λ (c : (nat_eq place 0 ≡ true) × ((member_at w x).current ≡ Some s)).
    subst (MemberStands w (with_ins p s n) x) (sym (ap (λ b. record m { ends = if b then record m.ends { link = Some n } else record m.ends { door = set m.ends.door (place - 1) (Some n) } }) c.0)) (at_current c.1))
    (λ (d : (nat_eq place 0 ≡ false) × (place - 1 < length h.door) × (get_or h.door (place - 1) 0 ≡ s)).
    subst (MemberStands w (with_ins p s n) x) (sym (ap (λ b. record m { ends = if b then record m.ends { link = Some n } else record m.ends { door = set m.ends.door (place - 1) (Some n) } }) d.0)) (at_door (place - 1) d.1 d.2))
    a
  where
    at_current : (member_at w x).current ≡ Some s → MemberStands w (with_ins p s n) x (record m { ends = record m.ends { link = Some n } })
    at_current e = in_as w p x s n m (Some n) m.ends.door h (sym (ap (option_map (placed p.ins s n)) e ∙ ap Some (placed_same p.ins s n)))
        (door_other w p x s n m h (false_from_ne_true (is_in s h.door) (λ i. current_not_waits w x s e (stood_is w p x s m h i).1)))

    at_door : (i : ℕ) → i < length h.door → get_or h.door i 0 ≡ s → MemberStands w (with_ins p s n) x (record m { ends = record m.ends { door = set m.ends.door i (Some n) } })
    at_door i l e =
        let there : is_in s h.door ≡ true = subst (λ t. is_in t h.door ≡ true) e (at_in h.door i l) in
        in_as w p x s n m m.ends.link (set m.ends.door i (Some n)) h (link_other w p x s n m h (λ c. current_not_waits w x s c (stood_is w p x s m h there).1))
        (ap (λ es. set es i (Some n)) h.ends
        ∙ set_made (λ k. Some (p.ins k)) (λ k. Some (placed p.ins s n k)) (λ _. true) h.door i s (Some n) (distinct_filter (λ _. true) h.door (stood_once w p x m h)) refl l e
        (ap Some (placed_same p.ins s n)) (λ k ne. ap Some (placed_other p.ins s n k ne)))

-- what stands at a member doesn't wait for it
pub at_not_deposited : (w : World) (p : Places) (x place s : ℕ) (m : Shown) (h : MemberStands w p x m) → OwnEnds w → StandsAt w x h.door place s → is_in s p.deposits ≡ false
at_not_deposited w p x place s m h o a = ⊎_elim
    (λ (c : (nat_eq place 0 ≡ true) × ((member_at w x).current ≡ Some s)).
    false_from_ne_true (is_in s p.deposits) (λ i. current_not_waits w x s c.1 (deposit_is w p x s m h (o.current x s c.1).1 i).1))
    (λ (d : (nat_eq place 0 ≡ false) × (place - 1 < length h.door) × (get_or h.door (place - 1) 0 ≡ s)).
    stood_not_deposited w p x s m h (subst (λ t. is_in t h.door ≡ true) d.2 (at_in h.door (place - 1) d.1)))
    a

-- of a link that stands at a member
pub in_shows : {C : ℕ → Type 0} (w : World) (q : Parties) (p : Places) (y place s : ℕ) (n : InSeen) → IsGood w → OwnEnds w → 1 ≤ y → y < size w → s < length w.links → in_name_of (node_at q (y - 1)).held place ≡ Some (name_of w s) → Shows C w q p
    → Shows C w (with_node q (y - 1) (with_in (node_at q (y - 1)) place n)) (with_ins p s n)
in_shows w q p y place s n g own a l sl named h =
    let mine : MemberStands w p y (node_at q (y - 1)) = h.each y a l in
    let at : StandsAt w y mine.door place s = name_stands w p y place s (node_at q (y - 1)) mine g own sl named in
    let to : (link_at w s).receiver ≡ y = (at_receives w p y place s (node_at q (y - 1)) mine own at).1 in
    let gone : is_in s p.deposits ≡ false = at_not_deposited w p y place s (node_at q (y - 1)) mine own at in
    shows_as w q p (set q.nodes (y - 1) (with_in (node_at q (y - 1)) place n)) q.deposits p.outs (placed p.ins s n) h
    (let same : length (set q.nodes (y - 1) (with_in (node_at q (y - 1)) place n)) ≡ length q.nodes = length-set q.nodes (y - 1) (with_in (node_at q (y - 1)) place n) in omega (arith, same, h.count))
    (each_set w w q p (with_ins p s n) y (with_in (node_at q (y - 1)) place n) h.count a l (in_here w p y place s n (node_at q (y - 1)) mine at)
    (λ z c m ne. in_other w p z s n (node_at q (z - 1)) (h.each z c m) (λ k. ne (sym (own.current z s k).1 ∙ to))
    (false_from_ne_true (is_in s (h.each z c m).door) (λ i. ne (sym (stood_is w p z s (node_at q (z - 1)) (h.each z c m) i).2 ∙ to)))))
    (h.deposits ∙ sym (map_other (λ k. record { name = name_of w k; end = Some (p.ins k) }) (λ k. record { name = name_of w k; end = Some (placed p.ins s n k) }) p.deposits s gone
    (λ k ne. ap (λ i. record { name = name_of w k; end = Some i }) (placed_other p.ins s n k ne))))

-- of one that waits
pub in_all_deposits : {C : ℕ → Type 0} (w : World) (q : Parties) (p : Places) (j s : ℕ) (n : InSeen) → OwnEnds w → GoBetween w → j < length p.deposits → get_or p.deposits j 0 ≡ s → Shows C w q p
    → Shows C w (record q { deposits = set q.deposits j (record { name = name_of w s; end = Some n }) }) (with_ins p s n)
in_all_deposits w q p j s n own go jl e h =
    let there : is_in s p.deposits ≡ true = subst (λ t. is_in t p.deposits ≡ true) e (at_in p.deposits j jl) in
    let y : ℕ = (link_at w s).receiver in
    let k : (1 ≤ y) × (y < size w) = go.receiver s (h.within s there) in
    shows_as w q p q.nodes (set q.deposits j (record { name = name_of w s; end = Some n })) p.outs (placed p.ins s n) h h.count
    (λ z c m. in_other w p z s n (node_at q (z - 1)) (h.each z c m)
    (λ t. current_not_waits w z s t (deposit_is w p z s (node_at q (z - 1)) (h.each z c m) (own.current z s t).1 there).1)
    (false_from_ne_true (is_in s (h.each z c m).door) (λ i. false≢true (sym (stood_not_deposited w p z s (node_at q (z - 1)) (h.each z c m) i) ∙ there))))
    (ap (λ xs. set xs j (record { name = name_of w s; end = Some n })) h.deposits
    ∙ set_made (λ k. record { name = name_of w k; end = Some (p.ins k) }) (λ k. record { name = name_of w k; end = Some (placed p.ins s n k) }) (is_to w y) p.deposits j s (record { name = name_of w s; end = Some n })
    (deposited_once w p y (node_at q (y - 1)) (h.each y k.0 k.1)) (nat_eq-same y) jl e
    (ap (λ i. record { name = name_of w s; end = Some i }) (placed_same p.ins s n)) (λ k ne. ap (λ i. record { name = name_of w k; end = Some i }) (placed_other p.ins s n k ne)))
