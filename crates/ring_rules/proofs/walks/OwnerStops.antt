-- Where the owner stops, what the next member has from links past it says nothing of the origin.
use Rattle.std.proofs.Common.{◌≡◌, ◌≢◌, ℕ, ◌<◌, ◌≤◌, Bool, true, false, List, [], ◌∷◌, ◌++◌, length, refl, sym, ap, subst, ◌∙◌, arith, nat_eq}
use Rattle.std.specs.Prelude.{⊤, ◌&&◌}
use Rattle.std.specs.List.{filter}
use Rattle.std.proofs.lemmas.Bool.{false≢true, false_from_ne_true}
use Rattle.group_view.specs.Ring.{before, after, rotated, others, is_in, first_or, AreDistinct}
use Rattle.ring_rules.specs.Machine.{World, Packet, Link, member_at, link_at, row_at, numbers_at, newest, ring, left, runs, is_kept, is_waiting}
use Rattle.ring_rules.proofs.walks.CountedWalk.{counted, past_first, when, stopped_from, running_from, walk}
use Rattle.ring_rules.specs.OpenLinks.{NeverRises}
use Rattle.ring_rules.specs.Step.{size, stop_at}
use Rattle.ring_rules.proofs.rings.Weakens.{FallsTo-FallsFrom}
use Rattle.ring_rules.proofs.walks.Links.{AllZero}
use Rattle.group_view.proofs.Rings.{sym_test, is_in-rotated, rotated_is, nat_eq-is, nat_eq-same, nat_eq-not, head_differs, distinct_others}
use Rattle.ring_rules.proofs.rings.Ring.{filter-split}
use Rattle.group_view.proofs.Arcs.{between_from}
use Rattle.group_view.proofs.Neighbours.{in-filter, filtered_in, passes_in}
use Rattle.ring_rules.proofs.walks.Gaps.{prefix_before}
use Rattle.ring_rules.proofs.invariants.Good.{Kept, IsRing, IsLinked, NeverRises-FallsTo, FallsFrom-NeverRises, never_rises_still}
use Rattle.ring_rules.proofs.invariants.Period.{IsHistory}
use Rattle.ring_rules.proofs.invariants.Standing.{knows, IsOrdered, OwnedFacts, owned_facts, no_front, left_known, between_is}
use Rattle.ring_rules.proofs.walks.Stop.{stop_running, is_not, filter_lacks, stop_runs, LateIsZero, stop_walk_other, stop_walk_owner}
use Rattle.ring_rules.proofs.walks.Take.{head_once}

-- ---- packets

-- what is said of each packet of a link
abbrev pub AllPackets : (Packet → Type 0) → List Packet → Type 0
AllPackets P [] = ⊤
AllPackets P (k ∷ ks) = P k × AllPackets P ks

pub record IsPacket (w : World) (l : Link) (k : Packet) : Type 0 where
  pub from : l.opened ≤ k.version
  pub upto : k.version ≤ newest w
  pub kept : Kept w l k.version
  pub zero : (p : ℕ) → knows w k.version p ≡ false → ((numbers_at k p).got ≡ 0) × ((numbers_at k p).forgot ≡ 0)

pub record IsPacked (w : World) : Type 0 where
  pub packets : (s : ℕ) → s < length w.links → AllPackets (IsPacket w (link_at w s)) (link_at w s).packets

-- a running member that isn't the owner has nothing retired
pub record IsRetiredRight (w : World) : Type 0 where
  pub none : (p x y : ℕ) (us : List ℕ) → is_in p (ring w) ≡ true → running_from w p ≡ x ∷ us → is_in y us ≡ true → (row_at (member_at w y) p).retired ≡ 0

pub AllZero-past : (f : Packet → ℕ) (b : Bool) (ks : List Packet) → AllZero f ks → AllZero f (past_first b ks)
AllZero-past f true [] h = tt
AllZero-past f true (k ∷ ks) h = h.1
AllZero-past f false ks h = h

pub AllZero-when : (f : Packet → ℕ) (b : Bool) (ks : List Packet) → AllZero f ks → AllZero f (when b ks)
AllZero-when f true ks h = h
AllZero-when f false ks h = tt

pub AllPackets-AllZero : (P : Packet → Type 0) (f : Packet → ℕ) (ks : List Packet) → ((k : Packet) → P k → f k ≡ 0) → AllPackets P ks → AllZero f ks
AllPackets-AllZero P f [] h a = tt
AllPackets-AllZero P f (k ∷ ks) h a = (h k a.0, AllPackets-AllZero P f ks h a.1)

-- ---- the next running member

pub first_before : (r : ℕ → Bool) (x y : ℕ) (us c : List ℕ) → x ≢ y → is_in y c ≡ true → r y ≡ true → filter r c ≡ x ∷ (y ∷ us) → is_in x (before y c) ≡ true
first_before r x y us c d i ry e = filtered_in r x (before y c) (by_front (filter r (before y c)) (sym (filter-split r y c i ry) ∙ e))
  where
    by_front : (vs : List ℕ) → vs ++ y ∷ filter r (after y c) ≡ x ∷ (y ∷ us) → is_in x vs ≡ true
    by_front [] q = let is : y ≡ x = cc in absurd (d (sym is))
    by_front (v ∷ vs) q = let is : v ≡ x = cc in rw is (rw (nat_eq-same x) refl)

-- a packet to y from a sender that isn't among the stopped ones from p, past the running x: its version doesn't know p
pub unknown_past : (w : World) (x y p s v : ℕ) (us : List ℕ) → IsRing w → IsHistory w → IsOrdered w → running_from w p ≡ x ∷ (y ∷ us) → x ≢ y → is_in p (ring w) ≡ true → v ≤ newest w → knows w v y ≡ true → left w v y ≡ s → is_in s (before y (rotated p (ring w))) ≡ false → knows w v p ≡ false
unknown_past w x y p s v us hr hh ho e differs pn vn yv el late = false_from_ne_true (knows w v p) known
  where
    c : List ℕ
    c = rotated p (ring w)

    dn : AreDistinct (ring w)
    dn = hr.distinct (newest w) (omega arith)

    yn : is_in y (ring w) ≡ true
    yn = hh.grows y v (newest w) yv vn (omega arith)

    yc : is_in y c ≡ true
    yc = is_in-rotated y p (ring w) ∙ yn

    ry : runs w y ≡ true
    ry = passes_in (runs w) y c (ap (is_in y) e ∙ rw (nat_eq-not y x (λ k. differs (sym k)), nat_eq-same y) refl)

    rx : runs w x ≡ true
    rx = passes_in (runs w) x c (ap (is_in x) e ∙ rw (nat_eq-same x) refl)

    sv : knows w v s ≡ true
    sv = left_known w v y s hr vn yv el

    sn : is_in s (ring w) ≡ true
    sn = hh.grows s v (newest w) sv vn (omega arith)

    xb : is_in x (before y c) ≡ true
    xb = first_before (runs w) x y us c differs yc ry e

    apart : nat_eq y p ≡ false
    apart = by_head (nat_eq y p) refl
      where
        by_head : (b : Bool) → nat_eq y p ≡ b → b ≡ false
        by_head false k = refl
        by_head true k =
            let nothing : before y c ≡ [] = ap (before y) (rotated_is p (ring w) pn) ∙ rw (sym_test y p true k) refl in
            absurd (false≢true (ap (is_in x) (sym nothing) ∙ xb))

    inside : is_in p (before y (others s (ring w))) ≡ true
    inside = between_from p s y (ring w) dn (distinct_others s (ring w) dn sn) sn pn apart late

    known : knows w v p ≡ true → ⊥
    known k =
        let o : OwnedFacts w y v p = owned_facts w y v s p hr hh ho vn yv el (ap (is_in p) (between_is w v y s ho vn yv sv) ∙ in-filter (knows w v) p (before y (others s (ring w))) inside k) in
        false≢true (sym (o.dead x xb) ∙ hh.dies x v (newest w) (o.old x xb) vn (omega arith) (hr.lives x (newest w) rx (hr.held x) (omega arith)))

pub late_is_zero : (w : World) (x y p : ℕ) (us : List ℕ) → x < size w → IsRing w → IsLinked w → IsHistory w → IsOrdered w → IsPacked w → running_from w p ≡ x ∷ (y ∷ us) → x ≢ y → is_in x (y ∷ us) ≡ false → is_in p (ring w) ≡ true → LateIsZero w p y (stopped_from (stop_at w x) p)
late_is_zero w x y p us lt hr hl hh ho hp e differs once pn j jl late = by_test (nat_eq (link_at w j).receiver y) refl
  where
    l : Link
    l = link_at w j

    c : List ℕ
    c = rotated p (ring w)

    ry : runs w y ≡ true
    ry = passes_in (runs w) y c (ap (is_in y) e ∙ rw (nat_eq-not y x (λ k. differs (sym k)), nat_eq-same y) refl)

    yn : is_in y (ring w) ≡ true
    yn = hr.stands y (newest w) ry (hr.held y) (omega arith)

    yc : is_in y c ≡ true
    yc = is_in-rotated y p (ring w) ∙ yn

    still : runs (stop_at w x) y ≡ true
    still = stop_runs w x y lt ∙ rw (nat_eq-not y x (λ k. differs (sym k))) ry

    running : running_from (stop_at w x) p ≡ y ∷ us
    running = stop_running w x p lt ∙ ap (filter (is_not x)) e ∙ rw (nat_eq-same x) (filter_lacks x (y ∷ us) once)

    idle : filter (runs (stop_at w x)) (before y c) ≡ []
    idle = no_front (runs (stop_at w x)) y us c yc still running

    prefix : stopped_from (stop_at w x) p ≡ before y c
    prefix = prefix_before (runs (stop_at w x)) y c idle yc still

    by_test : (b : Bool) → nat_eq l.receiver y ≡ b → AllZero (λ k. (numbers_at k p).got) (counted w y l) × AllZero (λ k. (numbers_at k p).forgot) (counted w y l)
    by_test false k = rw k (tt, tt)
    by_test true k = (counted_zero (λ k. (numbers_at k p).got) zeros_got, counted_zero (λ k. (numbers_at k p).forgot) zeros_forgot)
      where
        counted_zero : (f : Packet → ℕ) → AllZero f l.packets → AllZero f (counted w y l)
        counted_zero f a =
            AllZero-when f (nat_eq l.receiver y && is_kept w l (member_at w y).version) (past_first (is_waiting (member_at w y).phase && nat_eq l.opened (member_at w y).version) l.packets)
            (AllZero-past f (is_waiting (member_at w y).phase && nat_eq l.opened (member_at w y).version) l.packets a)

        to : l.receiver ≡ y
        to = nat_eq-is l.receiver y k

        nothing : (q : Packet) → IsPacket w l q → knows w q.version p ≡ false
        nothing q h =
            unknown_past w x y p l.sender q.version us hr hh ho e differs pn h.upto
            (subst (λ z. knows w q.version z ≡ true) to (hh.grows l.receiver l.opened q.version (hh.known j jl) h.from h.upto))
            (ap (left w q.version) (sym to) ∙ h.kept q.version h.from (omega arith))
            (ap (is_in l.sender) (sym prefix) ∙ late)

        zeros_got : AllZero (λ k. (numbers_at k p).got) l.packets
        zeros_got = AllPackets-AllZero (IsPacket w l) (λ k. (numbers_at k p).got) l.packets (λ q h. (h.zero p (nothing q h)).0) (hp.packets j jl)

        zeros_forgot : AllZero (λ k. (numbers_at k p).forgot) l.packets
        zeros_forgot = AllPackets-AllZero (IsPacket w l) (λ k. (numbers_at k p).forgot) l.packets (λ q h. (h.zero p (nothing q h)).1) (hp.packets j jl)

-- ---- a stop, whole

pub stop_falls : (w : World) (x p : ℕ) → x < size w → IsRing w → IsLinked w → IsHistory w → IsOrdered w → IsPacked w → IsRetiredRight w → runs w x ≡ true → is_in p (ring w) ≡ true → NeverRises (walk w p) → NeverRises (walk (stop_at w x) p)
stop_falls w x p lt hr hl hh ho hp ht rx pn h = by_running (running_from w p) refl
  where
    dn : AreDistinct (ring w)
    dn = hr.distinct (newest w) (omega arith)

    xn : is_in x (ring w) ≡ true
    xn = hr.stands x (newest w) rx (hr.held x) (omega arith)

    by_head : (y : ℕ) (ys : List ℕ) → running_from w p ≡ y ∷ ys → (b : Bool) → nat_eq y x ≡ b → NeverRises (walk (stop_at w x) p)
    by_head y ys e false k = never_rises_still (walk w p) (walk (stop_at w x) p) (stop_walk_other w x p y ys lt e (λ is. false≢true (sym k ∙ rw is (nat_eq-same x)))) h
    by_head y ys e true k =
        let e2 : running_from w p ≡ x ∷ ys = e ∙ ap (λ q. q ∷ ys) (nat_eq-is y x k) in
        let once : is_in x ys ≡ false = head_once (runs w) x p ys (ring w) dn xn rx e2 in
        FallsFrom-NeverRises (first_or 0 (walk w p)) (walk (stop_at w x) p)
        (FallsTo-FallsFrom (first_or 0 (walk w p)) (walk (stop_at w x) p) 0
        (stop_walk_owner w x p ys (first_or 0 (walk w p)) lt dn xn rx e2
        (λ z us is.
        let e3 : running_from w p ≡ x ∷ (z ∷ us) = e2 ∙ ap (λ q. x ∷ q) is in
        let once2 : is_in x (z ∷ us) ≡ false = ap (is_in x) (sym is) ∙ once in (
          late_is_zero w x z p us lt hr hl hh ho hp e3 (λ q. head_differs x z us once2 (sym q)) once2 pn,
          ht.none p x z (z ∷ us) pn e3 (rw (nat_eq-same z) refl),
        ))
        (NeverRises-FallsTo (walk w p) h)))

    by_running : (us : List ℕ) → running_from w p ≡ us → NeverRises (walk (stop_at w x) p)
    by_running [] e = absurd (false≢true (ap (is_in x) (sym e) ∙ in-filter (runs w) x (rotated p (ring w)) (is_in-rotated x p (ring w) ∙ xn) rx))
    by_running (y ∷ ys) e = by_head y ys e (nat_eq y x) refl
