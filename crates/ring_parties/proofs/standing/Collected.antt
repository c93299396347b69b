-- A member over ring ends that has collected the links that wait for it, by what it shows.
use Rattle.std.proofs.Common.{◌≡◌, ℕ, suc, Bool, true, false, cond, not, List, [], ◌∷◌, ◌++◌, length, map, Option, Some, None, refl, sym, ap, subst, ◌∙◌, arith}
use Rattle.std.specs.Prelude.{◌&&◌, option_map}
use Rattle.std.specs.List.{filter}
use Rattle.std.proofs.lemmas.List.{append-nil, map-append}
use Rattle.ordered_link.specs.declared.ring.RingIn.{RingIn}
use Rattle.group_view.specs.Link.{is_ring}
use Rattle.group_view.specs.declared.link.LinkKind.TheVariants.{Ring}
use Rattle.group_view.specs.declared.link.LinkName.{LinkName}
use Rattle.group_view.specs.declared.request.Deposited.{Deposited}
use Rattle.registrar.specs.declared.waiting_link.WaitingLink.{WaitingLink}
use Rattle.registrar.specs.Registry.{Registry, AreHere, is_for, beside}
use Rattle.registrar.specs.Handled.{without_links, deposited, links_for}
use Rattle.activity.specs.declared.packet.Load.{Load}
use Rattle.gm_member.specs.Held.{Held, asking_held, answered_held, collected_held}
use Rattle.gm_member.specs.Arrivals.{is_ring_link, joins, arrived_in, incoming_of, given_end, with_arrived}
use Rattle.gm_member.specs.Shown.{held_of, ends_of}
use Rattle.ring_parties.specs.Ends.{InSeen}
use Rattle.ring_parties.specs.Parties.{ANode, Shown, Deposit, ends_seen, in_seen, shown_of, deposit_shown}
use Rattle.ring_parties.specs.Acting.{waits_at, received, is_kept_by, Collects}
use Rattle.ring_parties.specs.Collecting.{AreOfRing, given_links}
use Rattle.ring_parties.proofs.deposits.Handing.{given_to, answered_links}

-- ---- the links that the registrar gives

-- they are all of the ring, where all that wait there are
pub given_of_ring : (x : ℕ) (ls : List (WaitingLink (RingIn Load))) → AreOfRing ls → filter is_ring_link (links_for x ls) ≡ links_for x ls
given_of_ring x [] h = refl
given_of_ring x (a ∷ ls) h = by_test (is_for x a) (given_of_ring x ls (λ k d l. h (suc k) d (omega arith))) (h 0 a (omega arith))
  where
    one : (name : LinkName) (o : Option (RingIn Load)) (rest : List (Deposited (RingIn Load))) → name.kind ≡ Ring → filter is_ring_link rest ≡ rest → filter is_ring_link (deposited name o ++ rest) ≡ deposited name o ++ rest
    one name None rest e ih = ih
    one name (Some n) rest e ih =
        let d : Deposited (RingIn Load) = record { from = name.from; view = name.view; kind = name.kind; link = n } in
        ap (λ k. cond (is_ring k) (d ∷ filter is_ring_link rest) (filter is_ring_link rest)) e ∙ ap (λ ds. d ∷ ds) ih

    by_test : (b : Bool) → filter is_ring_link (links_for x ls) ≡ links_for x ls → a.name.kind ≡ Ring
        → filter is_ring_link (cond b (deposited a.name a.link ++ links_for x ls) (links_for x ls)) ≡ cond b (deposited a.name a.link ++ links_for x ls) (links_for x ls)
    by_test true ih e = one a.name a.link (links_for x ls) e ih
    by_test false ih e = ih

-- where none waits for a member, none is given, and the others are all
none_given : (x : ℕ) (ls : List (WaitingLink (RingIn Load))) → length (filter (is_for x) ls) ≡ 0 → (filter (waits_at x) (map deposit_shown ls) ≡ []) × (beside x ls ≡ ls)
none_given x [] e = (refl, refl)
none_given x (a ∷ ls) e = by_test (is_for x a) refl (none_given x ls)
  where
    by_test : (b : Bool) → is_for x a ≡ b → (length (filter (is_for x) ls) ≡ 0 → (filter (waits_at x) (map deposit_shown ls) ≡ []) × (beside x ls ≡ ls))
        → (cond b (deposit_shown a ∷ filter (waits_at x) (map deposit_shown ls)) (filter (waits_at x) (map deposit_shown ls)) ≡ []) × (cond (not b) (a ∷ beside x ls) (beside x ls) ≡ a ∷ ls)
    by_test true k ih = absurd (omega (arith, sym (ap (λ b. length (cond b (a ∷ filter (is_for x) ls) (filter (is_for x) ls))) k) ∙ e))
    by_test false k ih =
        let rest = ih (sym (ap (λ b. length (cond b (a ∷ filter (is_for x) ls) (filter (is_for x) ls))) k) ∙ e) in
        (rest.0, ap (λ xs. a ∷ xs) rest.1)

pub collects_none : (a : Shown) (r : Registry (RingIn Load)) → length (filter (is_for a.held.id) r.links) ≡ 0 → Collects a a (filter (waits_at a.held.id) (map deposit_shown r.links))
collects_none a r e = subst (Collects a a) (sym (none_given a.held.id r.links e).0) (record {
  held = ap (λ ls. record a.held { door = ls }) (sym (append-nil a.held.door));
  ends = ap (λ es. record a.ends { door = es }) (sym (append-nil a.ends.door));
})

pub registrar_same : (x : ℕ) (r : Registry (RingIn Load)) → length (filter (is_for x) r.links) ≡ 0 → r ≡ without_links r x
registrar_same x r e = ap (λ ls. record r { links = ls }) (sym (none_given x r.links e).1)

-- ---- what comes of them

-- what a member has of them
given_received : (h : Held) (x : ℕ) (ds : List (Deposited (RingIn Load))) → map (arrived_in h) ds ≡ map (received h) (map (given_to x) ds)
given_received h x [] = refl
given_received h x (d ∷ ds) = ap (λ ls. arrived_in h d ∷ ls) (given_received h x ds)

-- those that join its door
joins_both : (h : Held) (x : ℕ) (ds : List (Deposited (RingIn Load))) → filter (joins h.view h.id) ds ≡ filter (λ d. is_kept_by h (given_to x d)) (filter is_ring_link ds)
joins_both h x [] = refl
joins_both h x (d ∷ ds) = by_kind (is_ring_link d) (joins_both h x ds)
  where
    by_kind : (b : Bool) → filter (joins h.view h.id) ds ≡ filter (λ e. is_kept_by h (given_to x e)) (filter is_ring_link ds)
        → cond (b && is_kept_by h (given_to x d)) (d ∷ filter (joins h.view h.id) ds) (filter (joins h.view h.id) ds)
        ≡ filter (λ e. is_kept_by h (given_to x e)) (cond b (d ∷ filter is_ring_link ds) (filter is_ring_link ds))
    by_kind true ih = ap (λ es. cond (is_kept_by h (given_to x d)) (d ∷ es) es) ih
    by_kind false ih = ih

-- and their ends
given_ends : (h : Held) (x : ℕ) (ds : List (Deposited (RingIn Load))) → map (option_map in_seen) (map given_end (filter (λ d. is_kept_by h (given_to x d)) ds)) ≡ map (λ (d : Deposit). d.end) (filter (is_kept_by h) (map (given_to x) ds))
given_ends h x [] = refl
given_ends h x (d ∷ ds) = by_test (is_kept_by h (given_to x d)) (given_ends h x ds)
  where
    by_test : (b : Bool) → map (option_map in_seen) (map given_end (filter (λ e. is_kept_by h (given_to x e)) ds)) ≡ map (λ (e : Deposit). e.end) (filter (is_kept_by h) (map (given_to x) ds))
        → map (option_map in_seen) (map given_end (cond b (d ∷ filter (λ e. is_kept_by h (given_to x e)) ds) (filter (λ e. is_kept_by h (given_to x e)) ds)))
        ≡ map (λ (e : Deposit). e.end) (cond b (given_to x d ∷ filter (is_kept_by h) (map (given_to x) ds)) (filter (is_kept_by h) (map (given_to x) ds)))
    by_test true ih = ap (λ es. Some (in_seen d.link) ∷ es) ih
    by_test false ih = ih

-- a member that asked for them, and has them
collects_given : (m n : ANode) (x : ℕ) (ds : List (Deposited (RingIn Load))) → m.asked ≡ false → (shown_of m).ends.old_ins ≡ [] → filter is_ring_link ds ≡ ds → held_of n ≡ asking_held (held_of m) → ends_of n ≡ ends_of m
    → Collects (shown_of m) (given_links n ds) (map (given_to x) ds)
collects_given m n x ds free none ring held ends = record {
  held = ap (λ h. collected_held (answered_held h) (incoming_of h ds)) held
      ∙ ap (λ b. collected_held (record (held_of m) { asks = b }) (incoming_of (held_of m) ds)) (sym free)
      ∙ ap (collected_held (held_of m)) (ap (map (arrived_in (held_of m))) ring ∙ given_received (held_of m) x ds);
  ends = ap (λ h. record (ends_seen (with_arrived h (ends_of n) ds)) { old_ins = [] }) held
      ∙ ap (λ e. record (ends_seen (with_arrived (held_of m) e ds)) { old_ins = [] }) ends
      ∙ ap (λ es. record (shown_of m).ends { door = es; old_ins = [] }) door
      ∙ ap (λ old. record (shown_of m).ends { door = (shown_of m).ends.door ++ kept; old_ins = old }) (sym none);
}
  where
    kept : List (Option InSeen)
    kept = map (λ (d : Deposit). d.end) (filter (is_kept_by (held_of m)) (map (given_to x) ds))

    door : map (option_map in_seen) ((ends_of m).door ++ map given_end (filter (joins (held_of m).view (held_of m).id) ds)) ≡ (shown_of m).ends.door ++ kept
    door = map-append (option_map in_seen) (ends_of m).door (map given_end (filter (joins (held_of m).view (held_of m).id) ds))
        ∙ ap (λ es. (shown_of m).ends.door ++ es)
        (ap (λ es. map (option_map in_seen) (map given_end es)) (joins_both (held_of m) x ds ∙ ap (filter (λ d. is_kept_by (held_of m) (given_to x d))) ring) ∙ given_ends (held_of m) x ds)

-- of all that wait for it
pub collects_all : (m n : ANode) (r : Registry (RingIn Load)) → m.asked ≡ false → (shown_of m).ends.old_ins ≡ [] → AreOfRing r.links → AreHere r.links → held_of n ≡ asking_held (held_of m) → ends_of n ≡ ends_of m
    → Collects (shown_of m) (given_links n (links_for m.id.0 r.links)) (filter (waits_at m.id.0) (map deposit_shown r.links))
collects_all m n r free none ring here held ends =
    subst (Collects (shown_of m) (given_links n (links_for m.id.0 r.links))) (answered_links m.id.0 r.links here)
    (collects_given m n m.id.0 (links_for m.id.0 r.links) free none (given_of_ring m.id.0 r.links ring) held ends)
