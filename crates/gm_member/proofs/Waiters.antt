-- A member that waits for its first packet sends on no link, and of a link from which nothing was taken nothing is counted.
use Rattle.std.proofs.Common.{◌≡◌, ℕ, ◌+◌, ◌<◌, true, List, [], ◌∷◌, ◌++◌, length, get_or, Some, None, refl, sym, ap, subst, ◌∙◌, arith}
use Rattle.std.proofs.lemmas.List.{length-set, length_push, get_or_append_left}
use Rattle.ring_names.specs.declared.numbers.CreditSpec.{CreditSpec}
use Rattle.credit_flow.specs.Credit.{none_taken}
use Rattle.group_view.specs.Change.{AreOpeningNames}
use Rattle.ring_rules.specs.declared.event.Event.{Event}
use Rattle.ring_rules.specs.declared.phase.Phase.TheVariants.{Waiting, Up}
use Rattle.ring_rules.specs.Rows.{regained}
use Rattle.ring_rules.specs.View.{right_of}
use Rattle.ring_rules.specs.Machine.{Link, Member, World, no_link, no_member, member_at, link_at, view_in, newest, oldest}
use Rattle.ring_rules.specs.Step.{size, published, taker, begun, with_current, with_member, with_link, stop_at, stopped, look_at, moved_to, opened_link, open_to, pushed, popped, next_packet, take_from, begin_from, joiner, come_to, opening}
use Rattle.ring_rules.specs.Event.{refreshed, refusal, effect, IsRun, last}
use Rattle.ring_rules.proofs.rings.Lists.{at_set, at_push}
use Rattle.ring_rules.proofs.events.Cases.{Cases, each_event}
use Rattle.ring_rules.proofs.events.Composed.{refresh_composed, end_composed}
use Rattle.ring_rules.proofs.events.First.{first_each, first_link_at}
use Rattle.ring_rules.proofs.events.Leaves.{member_leaves, come_member}
use Rattle.ring_rules.proofs.events.Parts.{Part, IsStill, cast_part, put_part, take_part, begin_part, come_part, gain_part, stop_part, open_part, still_part}
use Rattle.ring_rules.proofs.runs.OfEvents.{run_keeps, run_events}
use Rattle.ring_rules.proofs.invariants.Happens.{IsGood, opening_good}

-- ---- who waits sends nowhere

-- a member sends on no link while it waits
abbrev pub IsSilent : Member → Type 0
IsSilent y = y.phase ≡ Waiting → y.out ≡ None

-- so does each
abbrev pub WaitersAreSilent : World → Type 0
WaitersAreSilent w = (q : ℕ) → IsSilent (member_at w q)

-- a member is written
set_silent : (w : World) (x : ℕ) (y : Member) → IsSilent y → WaitersAreSilent w → WaitersAreSilent (with_member w x y)
set_silent w x y here h q = member_leaves (λ _ _ b. IsSilent b) w x y here h q

-- one that is up refreshes
refresh_silent : (w : World) (x v : ℕ) → (member_at w x).phase ≡ Up → WaitersAreSilent w → WaitersAreSilent (refreshed w x v)
refresh_silent w x v up h = refresh_composed WaitersAreSilent w x v
    (λ k _ g. g)
    (λ u same g. set_silent (record u { links = u.links ++ opened_link u x (right_of (view_in w v) x) ∷ [] }) x (record (member_at u x) { out = Some (length u.links) })
    (λ e. let bad : Up ≡ Waiting = sym (still_up u same) ∙ e in cc) g)
    (set_silent w x (moved_to w x v) (h x) h)
  where
    still_up : (u : World) → u.members ≡ (look_at w x v).members → (member_at u x).phase ≡ Up
    still_up u same =
        ap (λ ms. (get_or ms x no_member).phase) same
        ∙ member_leaves (λ _ a b. b.phase ≡ a.phase) w x (moved_to w x v) refl (λ _. refl) x ∙ up

event_silent : (w : World) (e : Event) → IsGood w → refusal w e ≡ None → WaitersAreSilent w → WaitersAreSilent (effect w e)
event_silent w e g r h = each_event WaitersAreSilent w e g cases r
  where
    cases : Cases WaitersAreSilent w
    cases = record {
      casts = λ x m u _. set_silent w x (published x m (member_at w x)) (h x) h;
      puts = λ x o u out k. h;
      takes = λ y s u m. set_silent w y (taker w y s) (h y) h;
      begins = λ y s u m. set_silent w y (begun (size w) (member_at w y) (oldest (link_at w s))) (λ e. cc) h;
      leaves = λ y s u current k. set_silent w y (with_current None (member_at w y)) (h y) h;
      gains = λ x o u out k. h;
      stops = λ x u. end_composed WaitersAreSilent _ (stop_at w x) (member_at w x).out (λ k _ t. t) (set_silent w x (stopped (member_at w x)) (λ e. cc) h);
      marks = λ x d u m. refresh_silent _ x _ u.up h;
      erases = λ x d u m. refresh_silent _ x _ u.up h;
      syncs = λ x u m. refresh_silent _ x _ u.up h;
      admits = λ x name u k. refresh_silent (come_to w x name) x (newest w + 1)
          (ap (λ (y : Member). y.phase) (get_or_append_left w.members (joiner w name ∷ []) no_member x u.lt) ∙ u.up)
          (λ q. come_member w x name q (λ _ y. IsSilent y) (λ _. refl) (h q));
      refreshes = λ x v u m. refresh_silent w x v u.up h;
      picks = λ y s u none e upto. set_silent w y (with_current (Some s) (member_at w y)) (h y) h;
      refuses = h;
    }

-- in every state of every run
pub reached_silent : (credit : CreditSpec) (names : List (List ℕ)) (events : List Event) → AreOpeningNames names → IsRun (opening credit names) events → WaitersAreSilent (last (opening credit names) events)
reached_silent credit names events are r = run_events WaitersAreSilent event_silent (opening credit names) events (opening_good credit names are) r
    (λ q. first_each credit names q IsSilent (λ _ _ e. cc) (λ e. cc))

-- ---- nothing is counted where nothing was taken

-- of a link
abbrev CountsNone : ℕ → ℕ → Link → Type 0
CountsNone initial more l = l.had.fresh ≡ true → l.flow.receiver ≡ none_taken initial more

-- links open with this credit, and so does each count
pub record CountsRight (initial more : ℕ) (w : World) : Type 0 where
  pub initial_is : w.initial ≡ initial
  pub more_is : w.more ≡ more
  pub links : (s : ℕ) → s < length w.links → CountsNone initial more (link_at w s)

module _ (initial more : ℕ) where
  -- whatever happens to the members
  member_counts : (w w' : World) → w'.links ≡ w.links → w'.initial ≡ w.initial → w'.more ≡ w.more → CountsRight initial more w → CountsRight initial more w'
  member_counts w w' l i m h = record {
    initial_is = i ∙ h.initial_is;
    more_is = m ∙ h.more_is;
    links = λ s lt. subst (λ ls. CountsNone initial more (get_or ls s no_link)) (sym l) (h.links s (omega (arith, ap length l)));
  }

  -- one link is written
  set_counts : (w : World) (o : ℕ) (l : Link) → o < length w.links → CountsNone initial more l → CountsRight initial more w → CountsRight initial more (with_link w o l)
  set_counts w o l there k h = record {
    initial_is = h.initial_is;
    more_is = h.more_is;
    links = λ s lt. let old : s < length w.links = omega (arith, length-set w.links o l) in at_set (λ j a. CountsNone initial more a) w.links o s l no_link there k (λ _. h.links s old);
  }

  -- what leaves all still
  still_counts : (w w' : World) → IsStill w w' → CountsRight initial more w → CountsRight initial more w'
  still_counts w w' k h = record {
    initial_is = k.initial ∙ h.initial_is;
    more_is = k.more ∙ h.more_is;
    links = λ s lt e. ap (λ f. f.receiver) (k.flow s) ∙ h.links s (omega (arith, k.links_many)) (sym (ap (λ a. a.fresh) (k.had s)) ∙ e);
  }

  -- a link opens
  open_counts : (w : World) (x z : ℕ) → CountsRight initial more w → CountsRight initial more (open_to w x z)
  open_counts w x z h = record {
    initial_is = h.initial_is;
    more_is = h.more_is;
    links = λ s lt. at_push (λ j a. CountsNone initial more a) w.links s (opened_link w x z) no_link (omega (arith, length_push w.links (opened_link w x z)))
        (λ _. ap (λ i. none_taken i w.more) h.initial_is ∙ ap (none_taken initial) h.more_is) (λ old. h.links s old);
  }

  part_counts : (w w' : World) → Part IsGood w w' → CountsRight initial more w → CountsRight initial more w'
  part_counts w w' (cast_part x m some lt e) h = subst (CountsRight initial more) (sym e) (member_counts w _ refl refl refl h)
  part_counts w w' (put_part x o lt free e) h = subst (CountsRight initial more) (sym e)
      (set_counts w o (pushed (link_at w o) (next_packet (member_at w x) (link_at w o).sending)) lt (h.links o lt) h)
  part_counts w w' (take_part y s some t lt g e) h = subst (CountsRight initial more) (sym e)
      (member_counts (with_link w s (popped (link_at w s))) (take_from w y s) refl refl refl (set_counts w s (popped (link_at w s)) lt (λ bad. cc) h))
  part_counts w w' (begin_part y s some t lt none e) h = subst (CountsRight initial more) (sym e)
      (member_counts (with_link w s (popped (link_at w s))) (begin_from w y s) refl refl refl (set_counts w s (popped (link_at w s)) lt (λ bad. cc) h))
  part_counts w w' (come_part m name e) h = subst (CountsRight initial more) (sym e) (member_counts w _ refl refl refl h)
  part_counts w w' (gain_part o lt some e) h = subst (CountsRight initial more) (sym e) (set_counts w o (record (link_at w o) { flow = regained (link_at w o).flow }) lt (h.links o lt) h)
  part_counts w w' (stop_part x lt e) h = subst (CountsRight initial more) (sym e) (member_counts w _ refl refl refl h)
  part_counts w w' (open_part x z e) h = subst (CountsRight initial more) (sym e) (open_counts w x z h)
  part_counts w w' (still_part k) h = still_counts w w' k h

-- in every state of every run
pub reached_counts : (credit : CreditSpec) (names : List (List ℕ)) (events : List Event) → AreOpeningNames names → IsRun (opening credit names) events → CountsRight credit.initial credit.more (last (opening credit names) events)
reached_counts credit names events are r =
    run_keeps (CountsRight credit.initial credit.more) (part_counts credit.initial credit.more) (opening credit names) events (opening_good credit names are) r
    (record { initial_is = refl; more_is = refl; links = λ s lt. first_link_at credit names s (CountsNone credit.initial credit.more) lt (λ i _. refl) })
