-- What a member of the ring asks for is judged as the event is.
use Rattle.std.proofs.Common.{◌≡◌, ℕ, ◌<◌, ◌≤◌, Bool, true, false, not, nat_eq, nat_lt, List, cond, length, get_or, Option, Some, None, refl, sym, ap, ◌∙◌, arith}
use Rattle.std.specs.Prelude.{◌&&◌, ◌||◌, nat_le}
use Rattle.std.proofs.lemmas.Bool.{le-ltb}
use Rattle.ring_names.specs.declared.reason.Reason.{Reason}
use Rattle.ring_names.specs.declared.reason.Reason.TheVariants as reason
use Rattle.group_view.specs.Ring.{is_in}
use Rattle.group_view.specs.View.{Group, ids, entry_in, is_live, is_dead, is_alias, right_of}
use Rattle.group_view.specs.Change.{is_taken, most_entries, sync_refusal, admit_refusal as group_refusal}
use Rattle.group_view.specs.Since.{no_group, view_at}
use Rattle.group_view.proofs.Passing.{live_in}
use Rattle.ring_rules.specs.Refusal.{refuse_if, or_else}
use Rattle.ring_rules.specs.View as ring
use Rattle.ring_rules.specs.Machine as machine
use Rattle.ring_rules.specs.declared.event.Event.{Event}
use Rattle.ring_rules.specs.declared.event.Event.TheVariants.{Mark, Stop, Refresh, Admit, Erase, Synced}
use Rattle.ring_rules.specs.Machine.{World, row_at, member_at, newest, runs_phase}
use Rattle.ring_rules.specs.Step.{size}
use Rattle.ring_rules.specs.Event.{id_of, of_member, is_stopped, up_refusal, running_refusal, is_neighbour, left_neighbour, missing_refusal, refusal}
use Rattle.ring_rules.specs.Event as event
use Rattle.ring_rules.proofs.invariants.Happens.{IsGood}
use Rattle.ring_rules.proofs.events.Refusals.{id_within, up_is}
use Rattle.registrar.specs.Registry.{Registry, is_known}
use Rattle.registrar.specs.Registry as registry
use Rattle.registrar.specs.Asked.{is_left, is_beside, has_more, mark_refusal, admit_refusal, erase_refusal, synced_refusal, stop_refusal, unknown_refusal}
use Rattle.registrar.specs.Stands.{IsAsker, AsksErase, StandsIn, TellsTrue}

-- ---- the registrar's views are those of the state

module _ {I : Type 0} where
  pub view_same : (w : World) (r : Registry I) (v : ℕ) → StandsIn w r → view_at r.views v ≡ machine.view_in w v
  view_same w r v s = ap (λ vs. get_or vs v no_group) (sym s.views)

  pub many_views : (w : World) (r : Registry I) → StandsIn w r → length r.views ≡ newest w
  many_views w r s = let many = ap length s.views in omega (arith, many)

  pub newest_same : (w : World) (r : Registry I) → StandsIn w r → registry.newest r ≡ machine.view_in w (newest w)
  newest_same w r s = ap (view_at r.views) (many_views w r s) ∙ view_same w r (newest w) s

  -- each member has an entry
  pub knows : (w : World) (r : Registry I) (p : ℕ) → IsGood w → StandsIn w r → 1 ≤ p → p < size w → is_known r p ≡ true
  knows w r p h s a b = ap (λ (g : Group). is_in p (ids g.entries)) (newest_same w r s) ∙ h.inv.origins p a b

-- ---- the asker

-- the asker is live in its view
asker_lives : (w : World) (name : List ℕ) (x v : ℕ) → IsGood w → IsAsker w name x v → is_live (machine.view_in w v).entries x ≡ true
asker_lives w name x v h a = h.inv.is_ring.lives x v (ap runs_phase a.up) (omega (arith, a.holds)) (omega (arith, a.holds, h.inv.is_ring.held x))

-- and in the newest
asker_stays : (w : World) (name : List ℕ) (x v : ℕ) → IsGood w → IsAsker w name x v → is_live (machine.view_in w (newest w)).entries x ≡ true
asker_stays w name x v h a = h.inv.is_ring.lives x (newest w) (ap runs_phase a.up) (h.inv.is_ring.held x) (omega arith)

-- its left neighbour
is_left_same : (w : World) (name : List ℕ) (x v d : ℕ) → IsGood w → IsAsker w name x v → is_left (machine.view_in w v) x d ≡ nat_eq d (left_neighbour w x)
is_left_same w name x v d h a =
    sym (ap (λ n. nat_eq d (ring.left_of (machine.view_in w n) x)) a.holds)

is_right_same : (w : World) (name : List ℕ) (x v d : ℕ) → IsGood w → IsAsker w name x v → nat_eq d (right_of (machine.view_in w v).entries x) ≡ nat_eq d (ring.right_of (machine.view_in w (member_at w x).version) x)
is_right_same w name x v d h a =
    sym (ap (λ n. nat_eq d (ring.right_of (machine.view_in w n) x)) a.holds)

-- and its neighbours
beside_same : (w : World) (name : List ℕ) (x v d : ℕ) → IsGood w → IsAsker w name x v → is_beside (machine.view_in w v) x d ≡ is_neighbour w x d
beside_same w name x v d h a =
    ap (λ b. b && (is_left (machine.view_in w v) x d || nat_eq d (right_of (machine.view_in w v).entries x))) (asker_lives w name x v h a)
    ∙ ap (λ b. b || nat_eq d (right_of (machine.view_in w v).entries x)) (is_left_same w name x v d h a)
    ∙ ap (λ b. nat_eq d (left_neighbour w x) || b) (is_right_same w name x v d h a)

-- where the first are one, and the second are so where the first hold
and_same : (a a' b b' : Bool) → a ≡ a' → (a ≡ true → b ≡ b') → (a && b) ≡ (a' && b')
and_same a a' b b' e k = by_case a k ∙ ap (λ c. c && b') e
  where
    by_case : (c : Bool) → (c ≡ true → b ≡ b') → (c && b) ≡ (c && b')
    by_case true k = k refl
    by_case false k = refl

-- the conditions of a mark but for the names
abbrev pub refusals : Bool → Bool → Bool → Bool → Option Reason
refusals n l t m = or_else (refuse_if (not n) reason.NotNeighbour) (or_else (refuse_if (not l) reason.AlreadyDead) (or_else (refuse_if (not t) reason.NotStopped) (refuse_if m reason.LinkNotEnded)))

-- those of an erasure but for the names
abbrev erasing : Bool → Bool → ℕ → ℕ → Option Reason
erasing dead answers got retired = or_else (refuse_if (not dead) reason.NotDead) (or_else (refuse_if (not answers) reason.NotOwner) (refuse_if (not (nat_eq got retired)) (reason.NotRetired got retired)))

-- what refuses an event that one who is up does to another, once both are found
named_refusal : (w : World) (name other : List ℕ) (x d v : ℕ) (further : ℕ → ℕ → Option Reason) → IsAsker w name x v → id_of w other ≡ Some d
    → of_member (id_of w name) (λ y. up_refusal w y (of_member (id_of w other) (further y))) ≡ further x d
named_refusal w name other x d v further a named =
    ap (λ o. of_member o (λ y. up_refusal w y (of_member (id_of w other) (further y)))) a.named
    ∙ up_is w x (of_member (id_of w other) (further x)) a.up
    ∙ ap (λ o. of_member o (further x)) named

-- ---- requests

-- who lives may admit another where the ring lets it
living_admits : (w : World) (x : ℕ) (name : List ℕ) → is_live (machine.view_in w (newest w)).entries x ≡ true
    → group_refusal (machine.view_in w (newest w)).entries x name ≡ event.admit_refusal w name
living_admits w x name lives =
    let g : Group = machine.view_in w (newest w) in
    rw (live_in g.entries x lives, lives) (by_case (is_taken g.entries name) (nat_le most_entries (length g.entries)))
  where
    by_case : (t m : Bool) → cond t (Some reason.NameTaken) (cond m (Some reason.TooManyMembers) None) ≡ or_else (refuse_if t reason.NameTaken) (refuse_if m reason.TooManyMembers)
    by_case true m = refl
    by_case false true = refl
    by_case false false = refl

-- who lives is registered where the ring lets it
living_syncs : (w : World) (x : ℕ) → is_live (machine.view_in w (newest w)).entries x ≡ true
    → or_else (sync_refusal (machine.view_in w (newest w)).entries x) (missing_refusal (member_at w x).mirror.missing) ≡ event.synced_refusal w x
living_syncs w x lives =
    let g : Group = machine.view_in w (newest w) in
    rw (live_in g.entries x lives, lives) (by_case (entry_in g.entries x).synced)
  where
    by_case : (b : Bool) → or_else (cond b (Some reason.AlreadySynced) None) (missing_refusal (member_at w x).mirror.missing) ≡ or_else (refuse_if b reason.AlreadySynced) (missing_refusal (member_at w x).mirror.missing)
    by_case true = refl
    by_case false = refl

module _ {I : Type 0} where
  left_asked : (w : World) (r : Registry I) (name : List ℕ) (x v d : ℕ) → IsGood w → StandsIn w r → IsAsker w name x v → is_left (view_at r.views v) x d ≡ nat_eq d (left_neighbour w x)
  left_asked w r name x v d h s a = ap (λ g. is_left g x d) (view_same w r v s) ∙ is_left_same w name x v d h a

  -- who asks and whom it names are known
  both_known : (w : World) (r : Registry I) (name other : List ℕ) (x d v : ℕ) (later : Option Reason) → IsGood w → StandsIn w r → IsAsker w name x v → id_of w other ≡ Some d
      → or_else (refuse_if (not (is_known r x)) reason.UnknownMember) (or_else (refuse_if (not (is_known r d)) reason.UnknownMember) later) ≡ later
  both_known w r name other x d v later h s a named =
      ap (λ b. or_else (refuse_if (not b) reason.UnknownMember) (or_else (refuse_if (not (is_known r d)) reason.UnknownMember) later)) (knows w r x h s from.0 from.1)
      ∙ ap (λ b. or_else (refuse_if (not b) reason.UnknownMember) later) (knows w r d h s to.0 to.1)
    where
      from : (1 ≤ x) × (x < size w)
      from = id_within w name x a.named

      to : (1 ≤ d) × (d < size w)
      to = id_within w other d named

  pub mark_judged : (w : World) (r : Registry I) (x d v : ℕ) (has_current : Bool) (name dead_name : List ℕ) → IsGood w → StandsIn w r
      → IsAsker w name x v → id_of w dead_name ≡ Some d → TellsTrue w r x d v has_current
      → mark_refusal r x d v has_current ≡ refusal w (Mark name dead_name)
  mark_judged w r x d v has_current name dead_name h s a named tells =
      both_known w r name dead_name x d v (refusals n l t m) h s a named
      ∙ ap (λ b. refusals b l t m) (ap (λ g. is_beside g x d) (view_same w r v s) ∙ beside_same w name x v d h a)
      ∙ ap (λ b. refusals (is_neighbour w x d) b t m) (ap (λ (g : Group). is_live g.entries d) (newest_same w r s))
      ∙ ap (λ b. refusals (is_neighbour w x d) (ring.is_live (machine.view_in w (newest w)) d) b m) (s.stopped d to.0 to.1)
      ∙ ap (refusals (is_neighbour w x d) (ring.is_live (machine.view_in w (newest w)) d) (is_stopped (member_at w d).phase))
      (and_same (is_left (view_at r.views v) x d) (nat_eq d (left_neighbour w x)) _ _ (left_asked w r name x v d h s a) tells)
      ∙ sym (named_refusal w name dead_name x d v (event.mark_refusal w) a named)
    where
      to : (1 ≤ d) × (d < size w)
      to = id_within w dead_name d named

      n : Bool
      n = is_beside (view_at r.views v) x d

      l : Bool
      l = is_live (registry.newest r).entries d

      t : Bool
      t = is_in d r.stopped

      m : Bool
      m = has_more r.links (view_at r.views v) x d has_current

  pub admit_judged : (w : World) (r : Registry I) (x v : ℕ) (name newcomer : List ℕ) → IsGood w → StandsIn w r → IsAsker w name x v → admit_refusal r x newcomer ≡ refusal w (Admit name newcomer)
  admit_judged w r x v name newcomer h s a =
      ap (λ (g : Group). group_refusal g.entries x newcomer) (newest_same w r s)
      ∙ living_admits w x newcomer (asker_stays w name x v h a)
      ∙ sym (ap (λ o. of_member o (λ y. up_refusal w y (event.admit_refusal w newcomer))) a.named ∙ up_is w x (event.admit_refusal w newcomer) a.up)

  pub erase_judged : (w : World) (r : Registry I) (x p v got retired : ℕ) (e : Event) → IsGood w → StandsIn w r
      → (a : AsksErase w x p v got retired e) → erase_refusal r x p got retired v ≡ refusal w (Erase a.name a.origin_name)
  erase_judged w r x p v got retired e h s a =
      both_known w r a.name a.origin_name x p v (erasing (is_dead (registry.newest r).entries p) (is_alias (view_at r.views v).entries x p) got retired) h s a.asker a.named
      ∙ ap (λ b. erasing b (is_alias (view_at r.views v).entries x p) got retired) (ap (λ (g : Group). is_dead g.entries p) (newest_same w r s))
      ∙ ap (λ b. erasing dead b got retired) (ap (λ (g : Group). is_alias g.entries x p) (view_same w r v s) ∙ sym (ap (λ k. is_alias (machine.view_in w k).entries x p) a.asker.holds))
      ∙ ap (λ k. erasing dead answers k retired) (sym a.got)
      ∙ ap (erasing dead answers (row_at (member_at w x) p).got) (sym a.retired)
      ∙ sym (named_refusal w a.name a.origin_name x p v (event.erase_refusal w) a.asker a.named)
    where
      dead : Bool
      dead = is_dead (machine.view_in w (newest w)).entries p

      answers : Bool
      answers = is_alias (machine.view_in w (member_at w x).version).entries x p

  pub synced_judged : (w : World) (r : Registry I) (x v : ℕ) (missing : Option ℕ) (name : List ℕ) → IsGood w → StandsIn w r → IsAsker w name x v
      → (member_at w x).mirror.missing ≡ missing → synced_refusal r x missing ≡ refusal w (Synced name)
  synced_judged w r x v missing name h s a misses =
      ap (λ (g : Group). or_else (sync_refusal g.entries x) (missing_refusal missing)) (newest_same w r s)
      ∙ ap (λ m. or_else (sync_refusal (machine.view_in w (newest w)).entries x) (missing_refusal m)) (sym misses)
      ∙ living_syncs w x (asker_stays w name x v h a)
      ∙ sym (ap (λ o. of_member o (λ y. up_refusal w y (event.synced_refusal w y))) a.named ∙ up_is w x (event.synced_refusal w x) a.up)

  pub stop_judged : (w : World) (r : Registry I) (x : ℕ) (name : List ℕ) → IsGood w → StandsIn w r → id_of w name ≡ Some x → stop_refusal r x ≡ refusal w (Stop name)
  stop_judged w r x name h s named =
      ap (λ b. or_else (refuse_if (not b) reason.UnknownMember) (refuse_if (is_in x r.stopped) reason.Stopped)) (knows w r x h s from.0 from.1)
      ∙ ap (λ b. refuse_if b reason.Stopped) (s.stopped x from.0 from.1)
      ∙ alone (is_stopped (member_at w x).phase)
      ∙ sym (ap (λ o. of_member o (λ y. running_refusal w y None)) named)
    where
      from : (1 ≤ x) × (x < size w)
      from = id_within w name x named

      alone : (b : Bool) → refuse_if b reason.Stopped ≡ or_else (refuse_if b reason.Stopped) None
      alone true = refl
      alone false = refl

  pub refresh_judged : (w : World) (r : Registry I) (x v : ℕ) (name : List ℕ) → IsGood w → StandsIn w r → IsAsker w name x v → unknown_refusal r x ≡ refusal w (Refresh name (newest w))
  refresh_judged w r x v name h s a =
      ap (λ b. refuse_if (not b) reason.UnknownMember) (knows w r x h s from.0 from.1)
      ∙ sym (ap (λ o. of_member o (λ y. up_refusal w y (event.refresh_refusal w y (newest w)))) a.named
      ∙ up_is w x (event.refresh_refusal w x (newest w)) a.up
      ∙ ap (λ b. refuse_if (b || nat_lt (newest w) (newest w)) out) (le-ltb (newest w) (member_at w x).version (h.inv.is_ring.held x))
      ∙ ap (λ b. refuse_if b out) (le-ltb (newest w) (newest w) (omega arith)))
    where
      from : (1 ≤ x) × (x < size w)
      from = id_within w name x a.named

      out : Reason
      out = reason.ViewOutOfRange (newest w) (member_at w x).version (newest w)
