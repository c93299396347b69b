-- Where nothing refuses it, what is done for a request is the event.
use Rattle.std.proofs.Common.{◌≡◌, ◌≢◌, ℕ, ◌+◌, ◌<◌, ◌≤◌, Bool, true, false, cond, List, ◌∷◌, [], ◌++◌, Some, refl, sym, ap, subst, ◌∙◌, arith}
use Rattle.std.proofs.lemmas.List.{length-set, length_push}
use Rattle.group_view.specs.Ring.{is_in}
use Rattle.group_view.specs.View.{Group}
use Rattle.group_view.specs.Change.{marked, erased, registered, admitted}
use Rattle.group_view.specs.Since.{no_group}
use Rattle.group_view.proofs.Truth.{cond_itself}
use Rattle.group_view.proofs.Rings.{is_in-append, nat_eq-same, nat_eq-not}
use Rattle.promotion.specs.Elect.{installed}
use Rattle.ring_rules.specs.Machine as machine
use Rattle.ring_rules.specs.declared.phase.Ending.TheVariants.{Halted}
use Rattle.ring_rules.specs.declared.event.Event.{Event}
use Rattle.ring_rules.specs.declared.event.Event.TheVariants.{Mark, Stop, Refresh, Admit, Erase, Synced}
use Rattle.ring_rules.specs.Machine.{Member, World, no_member, member_at, newest}
use Rattle.ring_rules.specs.Step.{size, opening, with_view, stop_at, stopped, end_out, joiner, admitted_view, come_to}
use Rattle.ring_rules.specs.Event.{id_of, is_stopped, at_found, refreshed, erased_view, synced_view, effect}
use Rattle.ring_rules.proofs.rings.Lists.{at_set}
use Rattle.ring_rules.proofs.events.Refusals.{id_within}
use Rattle.ring_names.specs.declared.numbers.CreditSpec.{CreditSpec}
use Rattle.ring_rules.proofs.events.First.{first_member}
use Rattle.ring_rules.proofs.events.Leaves.{come_each}
use Rattle.registrar.specs.Registry.{Registry}
use Rattle.registrar.specs.Registry as registry
use Rattle.registrar.specs.Handled.{with_stopped}
use Rattle.registrar.specs.Handled as handled
use Rattle.registrar.specs.Stands.{StandsIn, IsOwn}
use Rattle.registrar.proofs.Members.{Told, told, told_effect, told_refreshed, told_ended, stopped_same, many_same}
use Rattle.registrar.proofs.Judged.{newest_same}

module _ {I : Type 0} where
  -- with the views of another state, in which just those have stopped that have here
  stands_same : (w w' : World) (r : Registry I) → told w' ≡ told w → StandsIn w r → StandsIn w' r
  stands_same w w' r k s = record {
    views = ap (λ (t : Told). t.views) k ∙ s.views;
    stopped = λ q a b. s.stopped q a (omega (arith, b, many_same w w' k)) ∙ sym (stopped_same w w' q k);
    nobody_else = λ q a. s.nobody_else q (omega (arith, a, many_same w w' k));
  }

  -- what else members do leaves the registrar where it stands
  pub own_stands : (w : World) (r : Registry I) (e : Event) → IsOwn e → StandsIn w r → StandsIn (effect w e) r
  own_stands w r e h s = stands_same w (effect w e) r (told_effect w e h) s

  -- with a view more
  stands_view : (w : World) (r : Registry I) (g g' : Group) → g ≡ g' → StandsIn w r → StandsIn (with_view w g) (handled.with_view r g')
  stands_view w r g g' e s = record {
    views = ap (λ vs. vs ++ g ∷ []) s.views ∙ ap (λ k. no_group ∷ (r.views ++ k ∷ [])) e;
    stopped = s.stopped;
    nobody_else = s.nobody_else;
  }

  -- who does something to another has a view follow, and reads it
  change_stands : (w : World) (r : Registry I) (x d : ℕ) (name other : List ℕ) (f : ℕ → Group) (g : Group) → f d ≡ g → StandsIn w r → id_of w name ≡ Some x → id_of w other ≡ Some d
      → StandsIn (at_found (id_of w name) w (λ y. at_found (id_of w other) w (λ e. refreshed (with_view w (f e)) y (newest w + 1)))) (handled.with_view r g)
  change_stands w r x d name other f g is s from to =
      subst (λ k. StandsIn k (handled.with_view r g)) (sym found)
      (stands_same next (refreshed next x (newest w + 1)) _ (told_refreshed next x (newest w + 1)) (stands_view w r (f d) g is s))
    where
      next : World
      next = with_view w (f d)

      found : at_found (id_of w name) w (λ y. at_found (id_of w other) w (λ e. refreshed (with_view w (f e)) y (newest w + 1))) ≡ refreshed next x (newest w + 1)
      found =
          ap (λ o. at_found o w (λ y. at_found (id_of w other) w (λ e. refreshed (with_view w (f e)) y (newest w + 1)))) from
          ∙ ap (λ o. at_found o w (λ e. refreshed (with_view w (f e)) x (newest w + 1))) to

  pub mark_stands : (w : World) (r : Registry I) (x d : ℕ) (name dead_name : List ℕ) → StandsIn w r → id_of w name ≡ Some x → id_of w dead_name ≡ Some d
      → StandsIn (effect w (Mark name dead_name)) (handled.with_view r (marked (registry.newest r) d))
  mark_stands w r x d name dead_name s =
      change_stands w r x d name dead_name (marked (machine.view_in w (newest w))) (marked (registry.newest r) d) (ap (λ g. marked g d) (sym (newest_same w r s))) s

  -- a member comes to the ring, and its view
  come_stands : (w : World) (r : Registry I) (x : ℕ) (name : List ℕ) → StandsIn w r → StandsIn (come_to w x name) (handled.with_view r (handled.admitted_view r x name))
  come_stands w r x name s = record {
    views =
        ap (λ vs. vs ++ admitted_view w x name ∷ []) s.views
        ∙ ap (λ g. no_group ∷ (r.views ++ admitted g x name ∷ [])) (sym (newest_same w r s));
    stopped = λ q a b. come_each w x name q (λ k y. is_in k r.stopped ≡ is_stopped y.phase)
        (s.nobody_else (size w) (omega arith))
        (s.stopped q a)
        (λ gt. let none : ⊥ = omega (arith, b, gt, many) in absurd none);
    nobody_else = λ q a. s.nobody_else q (omega (arith, a, many));
  }
    where
      many : size (come_to w x name) ≡ size w + 1
      many = length_push w.members (joiner w name)

  pub admit_stands : (w : World) (r : Registry I) (x : ℕ) (name newcomer : List ℕ) → StandsIn w r → id_of w name ≡ Some x
      → StandsIn (effect w (Admit name newcomer)) (handled.with_view r (handled.admitted_view r x newcomer))
  admit_stands w r x name newcomer s from =
      subst (λ k. StandsIn k (handled.with_view r (handled.admitted_view r x newcomer)))
      (sym (ap (λ o. at_found o w (λ y. refreshed (come_to w y newcomer) y (newest w + 1))) from))
      (stands_same next (refreshed next x (newest w + 1)) _ (told_refreshed next x (newest w + 1)) (come_stands w r x newcomer s))
    where
      next : World
      next = come_to w x newcomer

  pub erase_stands : (w : World) (r : Registry I) (x p : ℕ) (name origin_name : List ℕ) → StandsIn w r → id_of w name ≡ Some x → id_of w origin_name ≡ Some p
      → StandsIn (effect w (Erase name origin_name)) (handled.with_view r (handled.erased_view r p))
  erase_stands w r x p name origin_name s =
      change_stands w r x p name origin_name (erased_view w) (handled.erased_view r p) (ap (λ g. installed (erased g p)) (sym (newest_same w r s))) s

  pub synced_stands : (w : World) (r : Registry I) (x : ℕ) (name : List ℕ) → StandsIn w r → id_of w name ≡ Some x
      → StandsIn (effect w (Synced name)) (handled.with_view r (handled.synced_view r x))
  synced_stands w r x name s from =
      subst (λ k. StandsIn k (handled.with_view r (handled.synced_view r x)))
      (sym (ap (λ o. at_found o w (λ y. refreshed (with_view w (synced_view w y)) y (newest w + 1))) from))
      (stands_same next (refreshed next x (newest w + 1)) _ (told_refreshed next x (newest w + 1))
      (stands_view w r (synced_view w x) (handled.synced_view r x) (ap (λ g. installed (registered g x)) (sym (newest_same w r s))) s))
    where
      next : World
      next = with_view w (synced_view w x)

  pub refresh_stands : (w : World) (r : Registry I) (x v : ℕ) (name : List ℕ) → StandsIn w r → id_of w name ≡ Some x → StandsIn (effect w (Refresh name v)) r
  refresh_stands w r x v name s from =
      subst (λ k. StandsIn k r) (sym (ap (λ o. at_found o w (λ y. refreshed w y v)) from)) (stands_same w (refreshed w x v) r (told_refreshed w x v) s)

  pub stop_stands : (w : World) (r : Registry I) (x : ℕ) (name : List ℕ) → StandsIn w r → id_of w name ≡ Some x → StandsIn (effect w (Stop name)) (with_stopped r x)
  stop_stands w r x name s from =
      subst (λ k. StandsIn k (with_stopped r x)) (sym (ap (λ o. at_found o w (λ y. end_out Halted (stop_at w y) (member_at w y).out)) from)) (record {
        views = ap (λ (t : Told). t.views) same ∙ s.views;
        stopped = λ q a b. at_set (λ k (y : Member). 1 ≤ k → k < size w → is_in k (r.stopped ++ x ∷ []) ≡ is_stopped y.phase) w.members x q (stopped (member_at w x)) no_member there
            (λ c e. is_in-append x r.stopped (x ∷ []) ∙ last (is_in x r.stopped))
            (λ ne c e. is_in-append q r.stopped (x ∷ []) ∙ apart q ne ∙ s.stopped q c e)
            a (omega (arith, b, many))
            ∙ sym (stopped_same next after q same);
        nobody_else = λ q a.
            let beyond : size w ≤ q = omega (arith, a, many) in
            let other : q ≢ x = omega (arith, beyond, there) in
            is_in-append q r.stopped (x ∷ []) ∙ apart q other ∙ s.nobody_else q beyond;
      })
    where
      next : World
      next = stop_at w x

      after : World
      after = end_out Halted next (member_at w x).out

      same : told after ≡ told next
      same = told_ended Halted next (member_at w x).out

      many : size after ≡ size w
      many = many_same next after same ∙ length-set w.members x (stopped (member_at w x))

      apart : (q : ℕ) → q ≢ x → cond (is_in q r.stopped) true (is_in q (x ∷ [])) ≡ is_in q r.stopped
      apart q ne = ap (λ t. cond (is_in q r.stopped) true (cond t true false)) (nat_eq-not q x ne) ∙ cond_itself (is_in q r.stopped)

      there : x < size w
      there = (id_within w name x from).1

      last : (t : Bool) → cond t true (is_in x (x ∷ [])) ≡ true
      last true = refl
      last false = ap (λ t. cond t true false) (nat_eq-same x)

-- at the opening nobody has stopped
pub opening_stands : {I : Type 0} (credit : CreditSpec) (names : List (List ℕ)) → StandsIn {I = I} (opening credit names) (registry.founded names)
opening_stands credit names = record {
  views = refl;
  stopped = λ q a b. sym (ap (λ (m : Member). is_stopped m.phase) (first_member credit names q a b));
  nobody_else = λ q a. refl;
}
