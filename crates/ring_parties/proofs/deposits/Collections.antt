-- A member that collects the links that wait for it stands where it stood, and so do all.
use Rattle.std.proofs.Common.{◌≡◌, ◌≢◌, ℕ, ◌-◌, ◌<◌, ◌≤◌, Bool, true, false, cond, not, List, [], ◌∷◌, ◌++◌, length, set, map, Some, None, refl, sym, ap, subst, ◌∙◌, arith}
use Rattle.std.specs.List.{filter}
use Rattle.std.proofs.lemmas.Bool.{false≢true, and_parts, not-true}
use Rattle.std.proofs.lemmas.List.{append-nil, append_assoc, map-append, length-set}
use Rattle.credit_flow.specs.Credit.{none_taken}
use Rattle.group_view.specs.Ring.{is_in}
use Rattle.group_view.proofs.Rings.{nat_eq-not}
use Rattle.ring_rules.specs.Machine.{World, link_at, view_in}
use Rattle.ring_rules.specs.OpenLinks.{version_of, is_door_link}
use Rattle.ring_rules.specs.Step.{size}
use Rattle.ring_rules.proofs.rings.Rounds.{nat_eq-is}
use Rattle.group_view.proofs.Rings.{in_head, in_tail}
use Rattle.group_view.proofs.Neighbours.{filter_none}
use Rattle.ring_rules.proofs.invariants.Happens.{IsGood}
use Rattle.gm_member.specs.Held.{Held, Incoming, stays, collected_held}
use Rattle.gm_member.specs.Stands.{incoming_in, waits_for, held_in}
use Rattle.gm_member.proofs.Doors.{waits_is}
use Rattle.ring_parties.specs.Parties.{Shown, Deposit, Parties, EndsSeen, node_at, with_node}
use Rattle.ring_parties.specs.Standing.{Places, MemberStands, Stand, name_of, is_to}
use Rattle.ring_parties.specs.Acting.{waits_at, received, is_kept_by, Collects}
use Rattle.ring_parties.proofs.standing.Writing.{in_filter, map_agree}
use Rattle.ring_parties.proofs.standing.Placing.{deposit_is}
use Rattle.ring_parties.proofs.standing.Showing.{each_set}
use Rattle.ring_parties.proofs.meetings.Meetings.{waiting_at}

-- Nobody has taken from a link at a door.
abbrev pub AreFresh : World → Type 0
AreFresh w = (x s : ℕ) → s < length w.links → waits_for w x s ≡ true → (link_at w s).flow.receiver ≡ none_taken w.initial w.more

-- ---- lists

-- a test of what is made of each
pub filter_map : {A : Type 0} (t : A → Bool) (f : ℕ → A) (xs : List ℕ) → filter t (map f xs) ≡ map f (filter (λ s. t (f s)) xs)
filter_map t f [] = refl
filter_map t f (x ∷ xs) = by_case (t (f x)) (filter_map t f xs)
  where
    by_case : (b : Bool) → filter t (map f xs) ≡ map f (filter (λ s. t (f s)) xs) → cond b (f x ∷ filter t (map f xs)) (filter t (map f xs)) ≡ map f (cond b (x ∷ filter (λ s. t (f s)) xs) (filter (λ s. t (f s)) xs))
    by_case true ih = ap (λ ys. f x ∷ ys) ih
    by_case false ih = ih

-- all pass
pub filter_all : (t : ℕ → Bool) (xs : List ℕ) → ((s : ℕ) → is_in s xs ≡ true → t s ≡ true) → filter t xs ≡ xs
filter_all t [] h = refl
filter_all t (x ∷ xs) h = ap (λ b. cond b (x ∷ filter t xs) (filter t xs)) (h x (in_head x xs)) ∙ ap (λ ys. x ∷ ys) (filter_all t xs (λ s e. h s (in_tail s x xs e)))

-- of those that pass a test, all pass one that it implies
pub filter_twice : (t u : ℕ → Bool) (xs : List ℕ) → ((s : ℕ) → t s ≡ true → u s ≡ true) → filter t (filter u xs) ≡ filter t xs
filter_twice t u [] h = refl
filter_twice t u (x ∷ xs) h = by_case (t x) refl (u x) refl (filter_twice t u xs h)
  where
    by_case : (b : Bool) → t x ≡ b → (c : Bool) → u x ≡ c → filter t (filter u xs) ≡ filter t xs → filter t (cond c (x ∷ filter u xs) (filter u xs)) ≡ cond b (x ∷ filter t xs) (filter t xs)
    by_case true e true k ih = ap (λ b. cond b (x ∷ filter t (filter u xs)) (filter t (filter u xs))) e ∙ ap (λ ys. x ∷ ys) ih
    by_case true e false k ih = absurd (false≢true (sym k ∙ h x e))
    by_case false e true k ih = ap (λ b. cond b (x ∷ filter t (filter u xs)) (filter t (filter u xs))) e ∙ ih
    by_case false e false k ih = ih

-- what is made of what is made of each
pub map_twice : {A B : Type 0} (f : ℕ → A) (g : A → B) (xs : List ℕ) → map g (map f xs) ≡ map (λ s. g (f s)) xs
map_twice f g [] = refl
map_twice f g (x ∷ xs) = ap (λ ys. g (f x) ∷ ys) (map_twice f g xs)

-- ---- collecting

-- without those that wait for x
abbrev pub without_to : World → ℕ → Places → Places
without_to w x p = record p { deposits = filter (λ s. not (is_to w x s)) p.deposits }

-- a link that waits for x stays at its door, and is as x has it
record Arrives (w : World) (x s : ℕ) : Type 0 where
  waits : waits_for w x s ≡ true
  keeps : stays (view_in w (version_of w x)) x (incoming_in w s) ≡ true
  same : received (held_in w x) (record { name = name_of w s; end = None }) ≡ incoming_in w s

arrives : (w : World) (p : Places) (x s : ℕ) (m : Shown) → IsGood w → AreFresh w → MemberStands w p x m → is_in s (filter (is_to w x) p.deposits) ≡ true → Arrives w x s
arrives w p x s m g fresh h e =
    let both = and_parts (is_to w x s) (is_in s p.deposits) (sym (in_filter (is_to w x) s p.deposits) ∙ e) in
    let k = deposit_is w p x s m h (nat_eq-is (link_at w s).receiver x both.0) both.1 in
    let parts = and_parts (is_door_link w x s) (stays (view_in w (version_of w x)) x (incoming_in w s)) (sym (waits_is w x s g k.0) ∙ k.1) in
    record {
      waits = k.1;
      keeps = parts.1;
      same = ap (λ c. record { from = (link_at w s).sender; opened = (link_at w s).opened; counted = c }) (sym (fresh x s k.0 k.1));
    }

-- none waits for x then
pub none_to : (w : World) (x : ℕ) (p : Places) → filter (is_to w x) (without_to w x p).deposits ≡ []
none_to w x p = filter_none (is_to w x) (filter (λ s. not (is_to w x s)) p.deposits)
    (λ s e. not-true (is_to w x s) (and_parts (not (is_to w x s)) (is_in s p.deposits) (sym (in_filter (λ k. not (is_to w x k)) s p.deposits) ∙ e)).0)

-- the member that collects
pub collected : (w : World) (q : Parties) (p : Places) (x : ℕ) (b : Shown) → IsGood w → AreFresh w → q.deposits ≡ map (waiting_at w p) p.deposits → MemberStands w p x (node_at q (x - 1)) → Collects (node_at q (x - 1)) b (filter (waits_at x) q.deposits) → MemberStands w (without_to w x p) x b
collected w q p x b g fresh deposits h c = record {
  door = h.door ++ zs;
  comes = h.comes ∙ ap (λ ys. h.door ++ ys) (sym (append-nil zs)) ∙ ap (λ ys. h.door ++ (zs ++ ys)) (sym (none_to w x p)) ∙ sym (append_assoc h.door zs (filter (is_to w x) (filter (λ s. not (is_to w x s)) p.deposits)));
  held = c.held ∙ ap (λ k. collected_held k (map (received k) (filter (waits_at x) q.deposits))) h.held
      ∙ ap (λ ls. collected_held (old) (map (received old) ls)) links
      ∙ ap (λ (is : List Incoming). record (held_in w x) { door = map (incoming_in w) h.door ++ is }) (ap (filter (stays (view_in w (version_of w x)) x)) incoming ∙ kept)
      ∙ ap (λ (is : List Incoming). record (held_in w x) { door = is }) (sym (map-append (incoming_in w) h.door zs));
  out = ap (λ (e : EndsSeen). e.out) c.ends ∙ h.out;
  returned = ap (λ (e : EndsSeen). e.returned) c.ends ∙ h.returned;
  link = ap (λ (e : EndsSeen). e.link) c.ends ∙ h.link;
  ends = ap (λ (e : EndsSeen). e.door) c.ends
      ∙ ap (λ es. es ++ map (λ d. d.end) (filter (is_kept_by a.held) (filter (waits_at x) q.deposits))) h.ends
      ∙ ap (λ es. map (λ s. Some (p.ins s)) h.door ++ es) (ap (λ k. map (λ (d : Deposit). d.end) (filter (is_kept_by k) (filter (waits_at x) q.deposits))) h.held ∙ ap (λ ls. map (λ (d : Deposit). d.end) (filter (is_kept_by old) ls)) links ∙ ap (map (λ (d : Deposit). d.end)) all_kept ∙ map_twice (waiting_at w p) (λ (d : Deposit). d.end) zs)
      ∙ sym (map-append (λ s. Some (p.ins s)) h.door zs);
  old_outs = ap (λ (e : EndsSeen). e.old_outs) c.ends ∙ h.old_outs;
  old_ins = ap (λ (e : EndsSeen). e.old_ins) c.ends ∙ h.old_ins;
}
  where
    a : Shown
    a = node_at q (x - 1)

    zs : List ℕ
    zs = filter (is_to w x) p.deposits

    old : Held
    old = record (held_in w x) { door = map (incoming_in w) h.door }

    each : (s : ℕ) → is_in s zs ≡ true → Arrives w x s
    each s e = arrives w p x s a g fresh h e

    links : filter (waits_at x) q.deposits ≡ map (waiting_at w p) zs
    links = ap (filter (waits_at x)) deposits ∙ filter_map (waits_at x) (waiting_at w p) p.deposits

    incoming : map (received old) (map (waiting_at w p) zs) ≡ map (incoming_in w) zs
    incoming = map_twice (waiting_at w p) (received old) zs ∙ map_agree (λ s. received old (waiting_at w p s)) (incoming_in w) zs (λ s e. (each s e).same)

    kept : filter (stays (view_in w (version_of w x)) x) (map (incoming_in w) zs) ≡ map (incoming_in w) zs
    kept = filter_map (stays (view_in w (version_of w x)) x) (incoming_in w) zs ∙ ap (map (incoming_in w)) (filter_all (λ s. stays (view_in w (version_of w x)) x (incoming_in w s)) zs (λ s e. (each s e).keeps))

    all_kept : filter (is_kept_by old) (map (waiting_at w p) zs) ≡ map (waiting_at w p) zs
    all_kept = filter_map (is_kept_by old) (waiting_at w p) zs
        ∙ ap (map (waiting_at w p)) (filter_all (λ s. is_kept_by old (waiting_at w p s)) zs (λ s e. ap (stays (view_in w (version_of w x)) x) (each s e).same ∙ (each s e).keeps))

-- another
not_collected : (w : World) (p : Places) (x z : ℕ) (m : Shown) → z ≢ x → MemberStands w p z m → MemberStands w (without_to w x p) z m
not_collected w p x z m ne h = record {
  door = h.door;
  comes = h.comes ∙ ap (λ ys. h.door ++ ys) (sym (filter_twice (is_to w z) (λ s. not (is_to w x s)) p.deposits
      (λ s e. ap not (nat_eq-not (link_at w s).receiver x (λ (k : (link_at w s).receiver ≡ x). ne (sym (nat_eq-is (link_at w s).receiver z e) ∙ k))))));
  held = h.held;
  out = h.out;
  returned = h.returned;
  link = h.link;
  ends = h.ends;
  old_outs = h.old_outs;
  old_ins = h.old_ins;
}

-- all that wait for the member of an id
abbrev pub CollectsAt : ℕ → Parties → Parties → Type 0
CollectsAt x q q' =
    (b : Shown) × Collects (node_at q (x - 1)) b (filter (waits_at x) q.deposits)
    × (q' ≡ record (with_node q (x - 1) b) { deposits = filter (λ d. not (waits_at x d)) q.deposits })

-- all of them
pub collect_stands : (initial : ℕ) (w : World) (q q' : Parties) (x : ℕ) → IsGood w → AreFresh w → 1 ≤ x → x < size w → CollectsAt x q q' → Stand initial w q → Stand initial w q'
collect_stands initial w q q' x g fresh a l c st =
    let p : Places = st.places in
    let b : Shown = c.0 in
    subst (Stand initial w) (sym c.2) (record {
      places = without_to w x p;
      stand = record {
        count = (let same : length (set q.nodes (x - 1) b) ≡ length q.nodes = length-set q.nodes (x - 1) b in omega (arith, same, st.stand.count));
        each = each_set w w q p (without_to w x p) x b st.stand.count a l (collected w q p x b g fresh st.stand.deposits (st.stand.each x a l) c.1)
            (λ z k m ne. not_collected w p x z (node_at q (z - 1)) ne (st.stand.each z k m));
        views = st.stand.views;
        stopped = st.stand.stopped;
        nobody_else = st.stand.nobody_else;
        deposits = ap (filter (λ d. not (waits_at x d))) st.stand.deposits ∙ filter_map (λ d. not (waits_at x d)) (waiting_at w p) p.deposits;
        within = λ s e. st.stand.within s (and_parts (not (is_to w x s)) (is_in s p.deposits) (sym (in_filter (λ k. not (is_to w x k)) s p.deposits) ∙ e)).1;
        carry = st.stand.carry;
      };
      met = st.met;
      known = st.known;
    })

-- and none waits for it any more
pub none_left : (x : ℕ) (q q' : Parties) → CollectsAt x q q' → filter (waits_at x) q'.deposits ≡ []
none_left x q q' c = ap (λ (k : Parties). filter (waits_at x) k.deposits) c.2 ∙ without q.deposits
  where
    without : (ds : List Deposit) → filter (waits_at x) (filter (λ d. not (waits_at x d)) ds) ≡ []
    without [] = refl
    without (d ∷ ds) = by_case (waits_at x d) refl (without ds)
      where
        by_case : (b : Bool) → waits_at x d ≡ b → filter (waits_at x) (filter (λ e. not (waits_at x e)) ds) ≡ [] → filter (waits_at x) (cond (not b) (d ∷ filter (λ e. not (waits_at x e)) ds) (filter (λ e. not (waits_at x e)) ds)) ≡ []
        by_case true e ih = ih
        by_case false e ih = ap (λ b. cond b (d ∷ filter (waits_at x) (filter (λ k. not (waits_at x k)) ds)) (filter (waits_at x) (filter (λ k. not (waits_at x k)) ds))) e ∙ ih
