-- The link from which a member takes wasn't taken to its end, also where the member has stopped.
use Rattle.std.proofs.Common.{◌≢◌, ◌≡◌, ℕ, ◌+◌, ◌<◌, true, false, not, nat_eq, List, [], ◌∷◌, ◌++◌, length, Some, None, refl, sym, ap, subst, ◌∙◌, arith}
use Rattle.std.specs.Prelude.{slice_index_or}
use Rattle.std.proofs.lemmas.Bool.{and_parts, not-true}
use Rattle.std.proofs.lemmas.List.{length-set, length_push, get_or_append_left, get_or_push, get_or-set_other}
use Rattle.std.proofs.lemmas.List.Quantifiers.{position-Some}
use Rattle.ring_names.specs.declared.numbers.CreditSpec.{CreditSpec}
use Rattle.group_view.specs.Change.{AreOpeningNames, marked}
use Rattle.ring_rules.specs.declared.event.Event.{Event}
use Rattle.ring_rules.specs.View.{right_of}
use Rattle.ring_rules.specs.declared.phase.Ending.TheVariants.{Moved, Halted}
use Rattle.ring_rules.specs.Machine.{Member, Link, World, no_link, no_member, member_at, link_at, view_in, newest, runs, runs_phase, is_kept, oldest}
use Rattle.ring_rules.specs.Step.{size, published, taker, popped, pushed, next_packet, current_is, with_current, finished, ended, stop_at, stopped, with_member, with_link, with_view, look_at, moved_to, open_to, opened_link, leave_link, opening, opening_member, come_to, begun}
use Rattle.ring_rules.specs.Event.{at_door, is_at_door, refreshed, refusal, effect, IsRun, last, erased_view, synced_view}
use Rattle.ring_rules.proofs.rings.Lists.{at_set}
use Rattle.ring_rules.proofs.rings.Rounds.{nat_eq-is}
use Rattle.ring_rules.proofs.events.Cases.{Cases, each_event}
use Rattle.ring_rules.proofs.events.Composed.{end_composed, refresh_composed}
use Rattle.ring_rules.proofs.events.First.{first_at, first_each, first_link}
use Rattle.ring_rules.proofs.events.Leaves.{with_opened}
use Rattle.ring_rules.proofs.invariants.KeptLook.{kept_current-Some}
use Rattle.ring_rules.proofs.invariants.Opening.{opening_inv}
use Rattle.ring_rules.proofs.invariants.Happens.{IsGood, opening_good, admit_composed, can_join, joined_links}
use Rattle.ring_rules.proofs.runs.OfEvents.{run_events}
use Rattle.ring_rules.proofs.invariants.KeptAdmit.{CanJoin, joined_state, join_member}

-- a link is there, goes to x, and wasn't taken to its end
abbrev pub MayBeTaken : List Link → ℕ → ℕ → Type 0
MayBeTaken ls x s = (s < length ls) × ((slice_index_or ls s no_link).receiver ≡ x) × ((slice_index_or ls s no_link).over ≡ false)

-- so is each member's current link
abbrev pub TakesFromOpen : World → Type 0
TakesFromOpen w = (x s : ℕ) → (member_at w x).current ≡ Some s → MayBeTaken w.links x s

-- ---- what is written

-- a member
set_takes : (w : World) (x : ℕ) (y : Member) → x < size w → ((s : ℕ) → y.current ≡ Some s → MayBeTaken w.links x s) → TakesFromOpen w → TakesFromOpen (with_member w x y)
set_takes w x y lt here h q = at_set (λ k z. (s : ℕ) → z.current ≡ Some s → MayBeTaken w.links k s) w.members x q y no_member lt here (λ _. h q)

-- a link
link_takes : (w : World) (s : ℕ) (l : Link) → s < length w.links → l.receiver ≡ (link_at w s).receiver → l.over ≡ (link_at w s).over → TakesFromOpen w → TakesFromOpen (with_link w s l)
link_takes w s l lt to over h x j e =
    let k = h x j e in (
      omega (arith, length-set w.links s l, k.0),
      at_set (λ i a. a.receiver ≡ (link_at w i).receiver) w.links s j l no_link lt to (λ _. refl) ∙ k.1,
      at_set (λ i a. a.over ≡ (link_at w i).over) w.links s j l no_link lt over (λ _. refl) ∙ k.2,
    )

-- a link more
may_still : (ls : List Link) (l : Link) (x s : ℕ) → MayBeTaken ls x s → MayBeTaken (ls ++ l ∷ []) x s
may_still ls l x s k =
    let old : slice_index_or (ls ++ l ∷ []) s no_link ≡ slice_index_or ls s no_link = get_or_append_left ls (l ∷ []) no_link s k.0 in
    (omega (arith, length_push ls l, k.0), ap (λ (a : Link). a.receiver) old ∙ k.1, ap (λ (a : Link). a.over) old ∙ k.2)

-- on which its sender sends
open_takes : (w : World) (x z : ℕ) → x < size w → TakesFromOpen w → TakesFromOpen (open_to w x z)
open_takes w x z lt h =
    let l : Link = opened_link w x z in
    set_takes (with_opened w l) x (record (member_at w x) { out = Some (length w.links) }) lt (λ s e. may_still w.links l x s (h x s e)) (λ y s e. may_still w.links l y s (h y s e))

-- a refresh
refreshed_takes : (w : World) (x v : ℕ) → x < size w → ((o : ℕ) → (member_at w x).out ≡ Some o → o < length w.links) → TakesFromOpen w → TakesFromOpen (refreshed w x v)
refreshed_takes w x v lt out h =
    let w1 : World = look_at w x v in
    let many : length w1.members ≡ length w.members = length-set w.members x (moved_to w x v) in
    refresh_composed TakesFromOpen w x v
    (λ k e g. link_takes w1 k (ended Moved (link_at w1 k)) (out k e) refl refl g)
    (λ u same g. open_takes u x (right_of (view_in w v) x) (omega (arith, lt, many, ap length same)) g)
    (set_takes w x (moved_to w x v) lt (λ s e. h x s (kept_current-Some (λ t. is_kept w (link_at w t) v) (member_at w x).current s e).0) h)

-- who has come takes from the link that opens
joined_takes : (w : World) (m : ℕ) (name : List ℕ) → CanJoin w m → TakesFromOpen w → TakesFromOpen (joined_state w m name)
joined_takes w m name j h y s = join_member w m name j y (λ i a. a.current ≡ Some s → MayBeTaken (w.links ++ l ∷ []) i s)
    (λ a out current e. may_still w.links l m s (h m s (current s e)))
    (λ e. let is : length w.links ≡ s = cc in subst (MayBeTaken (w.links ++ l ∷ []) (size w)) is (omega (arith, length_push w.links l), ap (λ (k : Link). k.receiver) here, ap (λ (k : Link). k.over) here))
    (λ _ _ e. may_still w.links l y s (h y s e)) (λ _ e. cc)
  where
    l : Link
    l = opened_link (look_at (come_to w m name) m (newest w + 1)) m (size w)

    here : slice_index_or (w.links ++ l ∷ []) (length w.links) no_link ≡ l
    here = get_or_push w.links l no_link (length w.links) refl

-- and then the link ends on which its admitter sent
admitted_takes : (w : World) (m : ℕ) (name : List ℕ) → CanJoin w m → TakesFromOpen w → TakesFromOpen (refreshed (come_to w m name) m (newest w + 1))
admitted_takes w m name j h = admit_composed TakesFromOpen w m name j
    (λ o e there old. link_takes (joined_state w m name) o (ended Moved (link_at w o)) (omega (arith, there, joined_links w m name)) (sym (ap (λ (a : Link). a.receiver) old)) (sym (ap (λ (a : Link). a.over) old)) (joined_takes w m name j h))
    (joined_takes w m name j h)

-- who leaves a link takes from none, and nobody else took from that
left_takes : (w : World) (y s : ℕ) → y < size w → (member_at w y).current ≡ Some s → TakesFromOpen w → TakesFromOpen (leave_link w y s)
left_takes w y s lt is h x j e =
    let k : MayBeTaken w.links x j × (j ≢ s) = before x j e in
    let same : link_at (leave_link w y s) j ≡ link_at w j = get_or-set_other w.links s j (finished (link_at w s)) no_link k.1 in
    (omega (arith, length-set w.links s (finished (link_at w s)), k.0.0), ap (λ (a : Link). a.receiver) same ∙ k.0.1, ap (λ (a : Link). a.over) same ∙ k.0.2)
  where
    before : (q j : ℕ) → (member_at (current_is w y None) q).current ≡ Some j → MayBeTaken w.links q j × (j ≢ s)
    before q j = at_set (λ k z. z.current ≡ Some j → MayBeTaken w.links k j × (j ≢ s)) w.members y q (with_current None (member_at w y)) no_member lt (λ e. cc)
        (λ ne e. (h q j e, (λ (same : j ≡ s). ne (sym (h q j e).1 ∙ ap (λ i. (link_at w i).receiver) same ∙ (h y s is).1))))

-- ---- events

event_takes : (w : World) (e : Event) → IsGood w → refusal w e ≡ None → TakesFromOpen w → TakesFromOpen (effect w e)
event_takes w e g r h = each_event TakesFromOpen w e g cases r
  where
    out_lt : (x o : ℕ) → runs w x ≡ true → (member_at w x).out ≡ Some o → o < length w.links
    out_lt x o rx e = g.inv.linked.out_lt x o rx e

    pop_takes : (y s : ℕ) (b : Member) → y < size w → (member_at w y).current ≡ Some s → b.current ≡ (member_at w y).current → TakesFromOpen (with_link (with_member w y b) s (popped (link_at w s)))
    pop_takes y s b lt takes same = link_takes (with_member w y b) s (popped (link_at w s)) (h y s takes).0 refl refl (set_takes w y b lt (λ j e. h y j (sym same ∙ e)) h)

    picked_from : (y s : ℕ) → at_door w y ≡ Some s → MayBeTaken w.links y s
    picked_from y s at =
        let f = position-Some (is_at_door w y) w.links s no_link at in
        let a = and_parts (nat_eq (link_at w s).receiver y) _ f.1 in
        (f.0, nat_eq-is (link_at w s).receiver y a.0, not-true (link_at w s).over (and_parts (not (link_at w s).over) _ a.1).0)

    cases : Cases TakesFromOpen w
    cases = record {
      casts = λ x m u _. set_takes w x (published x m (member_at w x)) u.lt (h x) h;
      puts = λ x o u is k. link_takes w o (pushed (link_at w o) (next_packet (member_at w x) (link_at w o).sending)) (out_lt x o (ap runs_phase u.up) is) refl refl h;
      takes = λ y s u m. pop_takes y s (taker w y s) u.lt m.current refl;
      begins = λ y s u m. pop_takes y s (begun (size w) (member_at w y) (oldest (link_at w s))) u.lt m.current refl;
      leaves = λ y s u is k. left_takes w y s u.lt is h;
      gains = λ x o u is k. link_takes w o _ (out_lt x o (ap runs_phase u.up) is) refl refl h;
      stops = λ x u. end_composed TakesFromOpen Halted (stop_at w x) (member_at w x).out (λ k e. link_takes (stop_at w x) k (ended Halted (link_at w k)) (out_lt x k u.runs_on e) refl refl) (set_takes w x (stopped (member_at w x)) u.lt (h x) h);
      marks = λ x d u m. refreshed_takes (with_view w (marked (view_in w (newest w)) d)) x (newest w + 1) u.lt (λ o. out_lt x o (ap runs_phase u.up)) h;
      erases = λ x p u m. refreshed_takes (with_view w (erased_view w p)) x (newest w + 1) u.lt (λ o. out_lt x o (ap runs_phase u.up)) h;
      syncs = λ x u m. refreshed_takes (with_view w (synced_view w x)) x (newest w + 1) u.lt (λ o. out_lt x o (ap runs_phase u.up)) h;
      admits = λ x name u k. admitted_takes w x name (can_join w x name u.lt u.up k g) h;
      refreshes = λ x v u m. refreshed_takes w x v u.lt (λ o. out_lt x o (ap runs_phase u.up)) h;
      picks = λ y s u none at upto. set_takes w y (with_current (Some s) (member_at w y)) u.lt (λ j e. let is : s ≡ j = cc in subst (MayBeTaken w.links y) is (picked_from y s at)) h;
      refuses = h;
    }

-- ---- runs

opening_takes : (credit : CreditSpec) (names : List (List ℕ)) → TakesFromOpen (opening credit names)
opening_takes credit names x = first_each credit names x (λ a. (s : ℕ) → a.current ≡ Some s → MayBeTaken w.links x s)
    (λ some l s e.
    let i = opening_inv credit names in
    let is : member_at w x ≡ opening_member names x = first_at credit names x some l in
    let rx : runs w x ≡ true = ap (λ (a : Member). runs_phase a.phase) is in
    let k : (member_at w x).current ≡ Some s = ap (λ (a : Member). a.current) is ∙ e in
    (i.current.lt x s rx k, i.current.receiver x s rx k, first_link credit names s (λ a. a.over ≡ false) (λ j. refl) refl))
    (λ s e. cc)
  where
    w : World
    w = opening credit names

-- in every state of every run
pub reached_takes : (credit : CreditSpec) (names : List (List ℕ)) (events : List Event) → AreOpeningNames names → IsRun (opening credit names) events → TakesFromOpen (last (opening credit names) events)
reached_takes credit names events are r = run_events TakesFromOpen event_takes (opening credit names) events (opening_good credit names are) r (opening_takes credit names)
