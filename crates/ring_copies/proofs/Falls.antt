-- Each step of a copy leaves less to do.
use Rattle.std.proofs.Common.{◌≡◌, ◌≢◌, ℕ, ◌+◌, ◌*◌, ◌<◌, ◌≤◌, ◌==◌, min, Bool, true, false, not, cond, nat_eq, if◌then◌else◌, List, [], ◌∷◌, length, map, set, refl, sym, ap, subst, ◌∙◌, arith, Option, Some, None, position}
use Rattle.std.specs.Prelude.{◌&&◌, take, drop}
use Rattle.std.proofs.lemmas.Bool.{false≢true}
use Rattle.std.proofs.lemmas.List.{length-set, length-append, length-map, length_push, get_or-set_same, get_or-set_other}
use Rattle.std.proofs.lemmas.List.Quantifiers.{position-Some}
use Rattle.ring_names.specs.declared.reason.Reason.{Reason}
use Rattle.ring_names.specs.declared.reason.Reason.TheVariants as reason
use Rattle.queue_core.specs.Queue.{Item}
use Rattle.queue_mirror.specs.Mirror.{MirrorState}
use Rattle.credit_flow.specs.Credit.{is_grant_next}
use Rattle.credit_flow.specs.Link.{with_grant, grant_of}
use Rattle.group_view.specs.View.{Group}
use Rattle.ring_rules.specs.Refusal.{or_else, is_empty}
use Rattle.ring_rules.specs.Rows.{Flow, counted}
use Rattle.ring_rules.specs.View.{is_live}
use Rattle.ring_rules.specs.declared.phase.Phase.TheVariants.{Up}
use Rattle.ring_rules.specs.Machine.{World, member_at, link_at, view_in, runs_phase}
use Rattle.ring_rules.specs.Step.{size, copied, copied_at}
use Rattle.ring_rules.specs.declared.event.Event.{Event}
use Rattle.ring_rules.specs.Event.{id_of, of_member, on_link, version_refusal, is_asked, at_found, done_as, done_at}
use Rattle.ring_rules.specs.Work.{total, on_links, weight_at, place_at, items, dirty_on, dirty_at}
use Rattle.ring_rules.specs.Event as ring
use Rattle.ring_rules.specs.declared.event.Event.TheVariants as event
use Rattle.ring_rules.specs.Settling.{is_repair}
use Rattle.queue_sync.specs.Copy.{Load, OneItem, Done}
use Rattle.ring_rules.specs.declared.kind.CopyStep.{CopyStep}
use Rattle.ring_rules.specs.declared.kind.CopyStep.TheVariants as copying
use Rattle.ring_copies.specs.Copies.{CopyLink, CopyWorld, no_copy_link, copy_link_at, copy_in, copy_out, is_put_by, is_taken_by, is_gone, is_blocked_at, copy_put, copy_gained, judged, let_go_one, let_go, item_taken, done_taken, dropped, looked_one, copied_mirror}
use Rattle.ring_rules.specs.Kind.{Kind, Says, Steps, Copying, Changes, Stops, Reads, Tells, kind_of}
use Rattle.ring_copies.specs.Events.{CopyEvent, OfRing, OnCopy, RefusesCopy, by_of, step_refusal, refused_in, refusal, effect, copies_after, step_done, done_in, let_go_by, where_found, take_load, copy_put_refusal, copy_gain_refusal, copy_take_refusal}
use Rattle.ring_copies.specs.Work.{grants_left, copy_left, copy_left_at, copies_left, total_with_copies, is_repair_with_copies}
use Rattle.ring_rules.proofs.work.Sums.{sum_le, sum_at}
use Rattle.ring_rules.proofs.walks.LeftLinks.{later_member}
use Rattle.ring_rules.proofs.invariants.Happens.{IsGood, copied_good}
use Rattle.ring_rules.proofs.events.Refusals.{none_of, refuse_none, id_within}
use Rattle.ring_rules.proofs.events.Enabled.{up_none}
use Rattle.ring_rules.proofs.work.Fit.{IsFit}
use Rattle.ring_rules.proofs.work.Settling.{repair_lowers}
use Rattle.ring_copies.proofs.Seen.{rings_effect}
use Rattle.ring_rules.proofs.work.Parts.{nothing, stale_written, dirty_same, step_stays}
use Rattle.ring_rules.proofs.work.Places.{IsWritten, written, NoneRises, written_places}
use Rattle.ring_copies.proofs.EachCopy.{map_at, puts_some}

-- ---- a mirror that a copy makes leaves the ring as much to do

copied_total : (w : World) (x : ℕ) (m : MirrorState) → IsGood w → 1 ≤ x → x < size w → (member_at w x).phase ≡ Up → total (copied_at w x m) ≤ total w
copied_total w x m g some lt up = step_stays w (copied_at w x m) x (copied m (member_at w x)) nothing nothing (record { some = some; lt = lt; runs_on = ap runs_phase up }) (record {
  member = here;
  log = refl;
  sent = λ q j ne e. refl;
  marks = omega arith;
  stale = stale_written w (copied_at w x m) x (copied m (member_at w x)) 0 0 some lt refl here (omega arith);
  views = λ q ne. refl;
  owed = omega arith;
  dirty = let same : dirty_on (size w) (copied_at w x m) (copied m (member_at w x)) (member_at w x).out ≡ dirty_at (size w) w x = dirty_same (size w) w (copied_at w x m) (member_at w x) (copied m (member_at w x)) (member_at w x).out refl (λ j e. refl) in omega (arith, same);
  lag = omega arith;
  links = let le : on_links (copied_at w x m) ≤ on_links w = sum_le (length w.links) (length w.links) (weight_at w) (weight_at (copied_at w x m)) refl (λ s sl. weighs (2 * items (link_at w s)) (place_at (copied_at w x m) s) (place_at w s) (length (link_at w s).flow.grants) (places s sl)) in omega (arith, le);
}) (omega arith)
  where
    here : IsWritten w (copied_at w x m) x (copied m (member_at w x))
    here = written w w.views x (copied m (member_at w x)) w.links lt

    places : NoneRises w (copied_at w x m)
    places = written_places w (copied_at w x m) x (copied m (member_at w x)) g here refl (copied_good w x m lt up g) (later_member w x (copied m (member_at w x)) (omega arith))

    weighs : (i p' p g : ℕ) → p' ≤ p → i + p' + g ≤ i + p + g
    weighs i p' p g h = omega arith

-- ---- grants

ones : (b : Bool) → (if b then 0 else 1) ≤ 1
ones true = omega arith
ones false = omega arith

released_grants : (gs : List ℕ) (held : ℕ) → length (with_grant gs (grant_of held)) ≡ length gs + (if held == 0 then 0 else 1)
released_grants gs held = by_case (held == 0)
  where
    by_case : (b : Bool) → length (with_grant gs (if b then None else Some held)) ≡ length gs + (if b then 0 else 1)
    by_case true = omega arith
    by_case false = length_push gs held

let_go_grants : (f : Flow) → grants_left (judged false f) ≤ grants_left f
let_go_grants f = omega (arith, released_grants f.grants f.receiver.held)

taken_grants : (b : Bool) (f : Flow) → grants_left (counted (judged b f)) ≤ grants_left f + 1
taken_grants true f = by_next (is_grant_next f.receiver)
  where
    by_next : (n : Bool) → length (with_grant f.grants (if n && not true then Some f.receiver.more else None)) + (if (if n && true then min (f.receiver.held + f.receiver.more) f.receiver.initial else f.receiver.held) == 0 then 0 else 1) ≤ grants_left f + 1
    by_next true = omega (arith, ones (min (f.receiver.held + f.receiver.more) f.receiver.initial == 0))
    by_next false = omega arith
taken_grants false f = by_next (is_grant_next f.receiver)
  where
    gs : List ℕ
    gs = with_grant f.grants (grant_of f.receiver.held)

    by_next : (n : Bool) → length (with_grant gs (if n && not false then Some f.receiver.more else None)) + (if (if n && false then min (0 + f.receiver.more) f.receiver.initial else 0) == 0 then 0 else 1) ≤ grants_left f + 1
    by_next true = omega (arith, released_grants f.grants f.receiver.held, length_push gs f.receiver.more)
    by_next false = omega (arith, released_grants f.grants f.receiver.held)

-- ---- one copy

abbrev open_left : CopyLink → ℕ
open_left c = 3 * length c.to_put + 2 * (length c.loads + (if c.ended then 1 else 0)) + grants_left c.flow

left_open : (c : CopyLink) → c.over ≡ false → copy_left c ≡ open_left c
left_open c e = ap (λ b. if b then 0 else open_left c) e

length_rest : {A : Type 0} (xs : List A) → is_empty xs ≡ false → length (drop 1 xs) + 1 ≡ length xs
length_rest [] e = absurd (false≢true (sym e))
length_rest (x ∷ xs) e = omega arith

length_first : {A : Type 0} (xs : List A) → is_empty xs ≡ false → length (take 1 xs) ≡ 1
length_first [] e = absurd (false≢true (sym e))
length_first (x ∷ xs) e = refl

put_left : (c : CopyLink) → c.over ≡ false → is_empty c.to_put ≡ false → copy_left (copy_put c) + 1 ≤ copy_left c + 0
put_left c o some = omega (arith, left_open c o, left_open (copy_put c) o, length_rest c.to_put some, length-append c.loads (take 1 c.to_put), length_first c.to_put some)

gain_left : (c : CopyLink) → c.over ≡ false → is_empty c.flow.grants ≡ false → copy_left (copy_gained c) + 1 ≤ copy_left c + 0
gain_left c o some = omega (arith, left_open c o, left_open (copy_gained c) o, length_rest c.flow.grants some)

item_left : (b : Bool) (a : Item) (ls : List Load) (c : CopyLink) → c.over ≡ false → c.loads ≡ OneItem a ∷ ls → copy_left (item_taken b a c) + 1 ≤ copy_left c + 0
item_left b a ls c o e = omega (arith, left_open c o, left_open (item_taken b a c) o, length_rest c.loads (ap is_empty e), taken_grants b c.flow)

over_left : (c c' : CopyLink) → c.over ≡ false → c'.over ≡ true → 1 ≤ length c.loads + (if c.ended then 1 else 0) → copy_left c' + 1 ≤ copy_left c + 0
over_left c c' o o' some =
    let none : copy_left c' ≡ 0 = ap (λ b. if b then 0 else open_left c') o' in
    omega (arith, left_open c o, none)

go_left : (y : ℕ) (c : CopyLink) → copy_left (let_go_one y c) ≤ copy_left c
go_left y c = by_case (nat_eq c.receiver y) c.over refl
  where
    by_case : (b o : Bool) → c.over ≡ o → copy_left (cond b (record c { flow = judged false c.flow }) c) ≤ copy_left c
    by_case false o e = omega arith
    by_case true true e = let none : copy_left (record c { flow = judged false c.flow }) ≡ 0 = ap (λ (b : Bool). if b then 0 else open_left (record c { flow = judged false c.flow })) e in omega (arith, none)
    by_case true false e = omega (arith, left_open c e, left_open (record c { flow = judged false c.flow }) e, let_go_grants c.flow)

look_left : (g : Group) (x : ℕ) (c : CopyLink) → copy_left (looked_one g x c) ≤ copy_left c
look_left g x c = by_case (is_taken_by x c && is_gone g c.sender) (is_put_by x c && not (is_live g c.receiver))
  where
    by_case : (a b : Bool) → copy_left (cond a (dropped c) (cond b (record c { over = true }) c)) ≤ copy_left c
    by_case true b = omega arith
    by_case false true = omega arith
    by_case false false = omega arith

-- ---- all of them

set_left : (cs : List CopyLink) (i : ℕ) (c : CopyLink) → i < length cs → copy_left c + 1 ≤ copy_left (copy_link_at cs i) + 0 → copies_left (set cs i c) + 1 ≤ copies_left cs + 0
set_left cs i c lt h = sum_at (length cs) (length (set cs i c)) (copy_left_at cs) (copy_left_at (set cs i c)) i 1 0 (length-set cs i c) lt
    (λ k _ ne. let same : copy_left_at (set cs i c) k ≡ copy_left_at cs k = ap copy_left (get_or-set_other cs i k c no_copy_link ne) in omega (arith, same))
    (let here : copy_left_at (set cs i c) i ≡ copy_left c = ap copy_left (get_or-set_same cs i c no_copy_link lt) in omega (arith, here, h))

map_left : (f : CopyLink → CopyLink) (cs : List CopyLink) → ((c : CopyLink) → copy_left (f c) ≤ copy_left c) → copies_left (map f cs) ≤ copies_left cs
map_left f cs h = sum_le (length cs) (length (map f cs)) (copy_left_at cs) (copy_left_at (map f cs)) (length-map cs f)
    (λ k lt. let same : copy_left_at (map f cs) k ≡ copy_left (f (copy_link_at cs k)) = ap copy_left (map_at f cs k lt) in omega (arith, same, h (copy_link_at cs k)))

let_go_left : (b : Bool) (y : ℕ) (cs : List CopyLink) → copies_left (let_go b y cs) ≤ copies_left cs
let_go_left true y cs = omega arith
let_go_left false y cs = map_left (let_go_one y) cs (go_left y)

-- ---- where a test is passed

parts : (a b c : Bool) → (a && (not b && c)) ≡ true → b ≡ false
parts true true c h = absurd (false≢true h)
parts true false c h = refl
parts false b c h = absurd (false≢true h)

put_open : (x : ℕ) (c : CopyLink) → is_put_by x c ≡ true → c.over ≡ false
put_open x c h = parts (nat_eq c.sender x) c.over (not (is_empty c.to_put)) h

take_open : (x : ℕ) (c : CopyLink) → is_taken_by x c ≡ true → c.over ≡ false
take_open x c h = by_all (nat_eq c.receiver x) c.over h
  where
    by_all : (a b : Bool) → (a && not b) ≡ true → b ≡ false
    by_all true true h = absurd (false≢true h)
    by_all true false h = refl
    by_all false b h = absurd (false≢true h)

-- ---- events

-- what happens at a copy that is found leaves less to do
at_copy : (W : CopyWorld) (test : CopyLink → Bool) (later : ℕ → Option Reason) (f : ℕ → CopyWorld)
    → ((i : ℕ) → i < length W.copies → test (copy_link_at W.copies i) ≡ true → later i ≡ None → total_with_copies (f i) + 1 ≤ total_with_copies W)
    → (o : Option ℕ) → position test W.copies ≡ o → on_link o reason.NoSyncLink later ≡ None → total_with_copies (where_found o W f) + 1 ≤ total_with_copies W
at_copy W test later f k None is r = cc
at_copy W test later f k (Some i) is r = let p = position-Some test W.copies i no_copy_link is in k i p.0 p.1 r

set_total : (W : CopyWorld) (w' : World) (i : ℕ) (c : CopyLink) → i < length W.copies → total w' ≤ total W.ring → copy_left c + 1 ≤ copy_left (copy_link_at W.copies i) + 0 → total_with_copies (record { ring = w'; copies = set W.copies i c }) + 1 ≤ total_with_copies W
set_total W w' i c lt t h = omega (arith, t, set_left W.copies i c lt h)

load_lowers : (W : CopyWorld) (y i : ℕ) → i < length W.copies → IsGood W.ring → 1 ≤ y → y < size W.ring → (member_at W.ring y).phase ≡ Up → (copy_link_at W.copies i).over ≡ false → copy_take_refusal W.ring y (copy_link_at W.copies i) ≡ None
    → (ls : List Load) → (copy_link_at W.copies i).loads ≡ ls → total_with_copies (take_load W y i (copy_link_at W.copies i) ls) + 1 ≤ total_with_copies W
load_lowers W y i lt g some yl up o may [] e = set_total W W.ring i (dropped c) lt (omega arith) (over_left c (dropped c) o refl (stands c.ended (sym (ap (λ ks. is_empty ks && not c.ended) e) ∙ there)))
  where
    c : CopyLink
    c = copy_link_at W.copies i

    there : (is_empty c.loads && not c.ended) ≡ false
    there = (none_of (is_empty c.loads && not c.ended) reason.NothingToTake _ (second (version_refusal c.opened (member_at W.ring y).version) _ may)).0
      where
        second : (a b : Option Reason) → or_else a b ≡ None → b ≡ None
        second None b h = h
        second (Some r) b h = cc

    stands : (b : Bool) → not b ≡ false → 1 ≤ length c.loads + (if b then 1 else 0)
    stands true h = omega arith
    stands false h = absurd (false≢true (sym h))
load_lowers W y i lt g some yl up o may (OneItem a ∷ ls) e = set_total W W.ring i (item_taken (is_blocked_at W.ring y) a (copy_link_at W.copies i)) lt (omega arith) (item_left (is_blocked_at W.ring y) a ls (copy_link_at W.copies i) o e)
load_lowers W y i lt g some yl up o may (Done ∷ ls) e =
    set_total W (copied_at W.ring y (copied_mirror W.ring y (copy_link_at W.copies i))) i (done_taken (is_blocked_at W.ring y) (copy_link_at W.copies i)) lt (copied_total W.ring y (copied_mirror W.ring y (copy_link_at W.copies i)) g some yl up)
    (over_left (copy_link_at W.copies i) (done_taken (is_blocked_at W.ring y) (copy_link_at W.copies i)) o refl (omega (arith, ap length e)))

-- a step on a copy that is open, by x
abbrev is_open_step : CopyStep → Bool
is_open_step (copying.Open target) = false
is_open_step s = true

step_lowers : (W : CopyWorld) (x : ℕ) (s : CopyStep) → IsGood W.ring → 1 ≤ x → x < size W.ring → (member_at W.ring x).phase ≡ Up → step_refusal W x s ≡ None → is_open_step s ≡ true → total_with_copies (step_done W x s) + 1 ≤ total_with_copies W
step_lowers W x (copying.Open target) g some lt up r is = absurd (false≢true is)
step_lowers W x copying.Put g some lt up r is = at_copy W (is_put_by x) (λ i. copy_put_refusal (copy_link_at W.copies i)) _
    (λ i il t free. set_total W W.ring i (copy_put (copy_link_at W.copies i)) il (omega arith) (put_left (copy_link_at W.copies i) (put_open x (copy_link_at W.copies i) t) (puts_some x (copy_link_at W.copies i) t)))
    (copy_out W.copies x) refl r
step_lowers W x copying.Take g some lt up r is = at_copy W (is_taken_by x) (λ i. copy_take_refusal W.ring x (copy_link_at W.copies i)) _
    (λ i il t may. load_lowers W x i il g some lt up (take_open x (copy_link_at W.copies i) t) may (copy_link_at W.copies i).loads refl)
    (copy_in W.copies x) refl r
step_lowers W x copying.Gain g some lt up r is = at_copy W (is_put_by x) (λ i. copy_gain_refusal (copy_link_at W.copies i)) _
    (λ i il t due. set_total W W.ring i (copy_gained (copy_link_at W.copies i)) il (omega arith) (gain_left (copy_link_at W.copies i) (put_open x (copy_link_at W.copies i) t) (refuse_none _ reason.NoGrant due)))
    (copy_out W.copies x) refl r

-- one that may happen leaves less to do
copies_lower : (W : CopyWorld) (by : List ℕ) (s : CopyStep) → IsGood W.ring → is_open_step s ≡ true → refusal W (OnCopy by s) ≡ None → total_with_copies (effect W (OnCopy by s)) < total_with_copies W
copies_lower W by s g is r = by_id (id_of W.ring by) refl r
  where
    by_id : (o : Option ℕ) → id_of W.ring by ≡ o → of_member o (refused_in W (OnCopy by s)) ≡ None → total_with_copies (where_found o W (λ x. let_go_by x (step_done W x s))) < total_with_copies W
    by_id None at k = cc
    by_id (Some x) at k =
        let j = id_within W.ring by x at in
        let u = up_none W.ring x _ k in
        omega (arith, step_lowers W x s g j.0 j.1 u.0 u.1 is, let_go_left (is_blocked_at (step_done W x s).ring x) x (step_done W x s).copies)

-- ---- repairs

looks_left : (g : Group) (x : ℕ) (cs : List CopyLink) → copies_left (map (looked_one g x) cs) ≤ copies_left cs
looks_left g x cs = map_left (looked_one g x) cs (look_left g x)

-- no copy has more to do after an event of the ring but a stop
after_left : (k : Kind) (w : World) (x : ℕ) (cs : List CopyLink) → k ≢ Stops → copies_left (copies_after k w x cs) ≤ copies_left cs
after_left Stops w x cs ne = absurd (ne refl)
after_left (Changes c) w x cs ne = looks_left (view_in w (member_at w x).version) x cs
after_left (Reads v) w x cs ne = looks_left (view_in w (member_at w x).version) x cs
after_left (Says s) w x cs ne = omega arith
after_left (Steps s) w x cs ne = omega arith
after_left (Copying s) w x cs ne = omega arith
after_left (Tells code inner) w x cs ne = omega arith

-- an event of repair of the ring
ring_lowers : (W : CopyWorld) (e : Event) → IsFit W.ring → is_repair W.ring e ≡ true → ring.refusal W.ring e ≡ None → total_with_copies (effect W (OfRing e)) < total_with_copies W
ring_lowers W e f is r =
    let fall : total (ring.effect W.ring e) < total W.ring = (repair_lowers W.ring e f is r).less in
    let now : (effect W (OfRing e)).ring ≡ ring.effect W.ring e = sym (rings_effect W (OfRing e) (done_at W.ring e) (done_in W (OfRing e)) (λ x. refl) (id_of W.ring (by_of (OfRing e)))) in
    let ends : total (effect W (OfRing e)).ring < total W.ring = subst (λ u. total u < total W.ring) (sym now) fall in
    omega (arith, ends, by_id (id_of W.ring (by_of (OfRing e))))
  where
    no_stop : kind_of e ≢ Stops
    no_stop stops = by_event e stops is
      where
        by_event : (e : Event) → kind_of e ≡ Stops → is_repair W.ring e ≡ true → ⊥
        by_event (event.Stop by) k h = absurd (false≢true h)
        by_event e k h = cc

    by_id : (o : Option ℕ) → copies_left (where_found o W (λ x. let_go_by x (done_in W (OfRing e) x))).copies ≤ copies_left W.copies
    by_id None = omega arith
    by_id (Some x) = omega (arith, after_left (kind_of e) (done_as W.ring x (kind_of e)) x W.copies no_stop, let_go_left (is_blocked_at (done_in W (OfRing e) x).ring x) x (done_in W (OfRing e) x).copies)

-- each event of repair that may happen leaves less to do
pub repairs_lower_with_copies : (W : CopyWorld) (e : CopyEvent) → IsFit W.ring → is_repair_with_copies W e ≡ true → refusal W e ≡ None → total_with_copies (effect W e) < total_with_copies W
repairs_lower_with_copies W (OfRing e) f is r = ring_lowers W e f is r
repairs_lower_with_copies W (OnCopy by (copying.Open target)) f is r = absurd (false≢true is)
repairs_lower_with_copies W (OnCopy by copying.Put) f is r = copies_lower W by copying.Put f.good refl r
repairs_lower_with_copies W (OnCopy by copying.Take) f is r = copies_lower W by copying.Take f.good refl r
repairs_lower_with_copies W (OnCopy by copying.Gain) f is r = copies_lower W by copying.Gain f.good refl r
repairs_lower_with_copies W (RefusesCopy code by target) f is r = absurd (false≢true is)
