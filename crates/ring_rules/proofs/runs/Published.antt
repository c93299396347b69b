-- A member's log is what its casts have published, in their order.
use Rattle.std.proofs.Common.{◌≡◌, ℕ, ◌+◌, ◌<◌, ◌≤◌, Bool, true, false, List, [], ◌∷◌, ◌++◌, length, drop, map, bytes_eq, Option, Some, None, if◌then◌else◌, refl, sym, ap, subst, ◌∙◌, arith}
use Rattle.ring_rules.specs.Act.{act_of}
use Rattle.std.specs.Prelude.{option_map, position}
use Rattle.std.proofs.lemmas.Bool.{false≢true}
use Rattle.std.proofs.lemmas.List.{append-nil, append_assoc, map-append, length-set, length_push, get_or-drop, get_or_append_left}
use Rattle.std.proofs.lemmas.List.Quantifiers.{position-Some}
use Rattle.std.specs.Prelude.{Result, Ok, Err}
use Rattle.ring_names.specs.declared.reason.Reason.{Reason}
use Rattle.queue_core.specs.declared.op.Op.{Op}
use Rattle.queue_core.specs.declared.message.Message.{Message}
use Rattle.queue_core.specs.declared.message.Message.TheVariants as message
use Rattle.group_view.specs.View.{Group}
use Rattle.group_view.specs.Change.{marked}
use Rattle.ring_rules.specs.View.{right_of}
use Rattle.ring_rules.specs.Machine.{Phase, Waiting, Up, Stopped, Moved, Halted, Member, Link, World, no_member, member_at, link_at, view_in, newest, oldest}
use Rattle.ring_rules.specs.Step.{size, log_of, taker, begun, with_current, finished, popped, stopped, ended, with_member, with_link, with_view, publish_at, put_on, gain_on, published, current_is, leave_link, stop_at, look_at, moved_to, opened_link, open_to, joiner, come_to}
use Rattle.ring_rules.specs.declared.kind.LinkStep.TheVariants as step
use Rattle.ring_rules.specs.declared.kind.ViewChange.TheVariants as change
use Rattle.ring_rules.specs.Event.{Event, Saying, Own, OfQueue, Kind, Says, Steps, Copying, Changes, Stops, Reads, Tells, kind_of, op_as, op_refusal, op_done, saying_refusal, said, synced_view, id_of, of_member, by_of, refused_as, refused_at, refreshed, erased_view, at_found, at_door, taken_by, done_as, done_at, refusal, effect, IsRun, last}
use Rattle.ring_rules.specs.Published.{told_of, told_of_saying, one_of, published_as, published_by, published_in}
use Rattle.ring_rules.proofs.events.Names.{same_bytes, own_bytes}
use Rattle.ring_rules.proofs.events.Enabled.{up_none}
use Rattle.ring_rules.proofs.events.Leaves.{member_leaves, with_opened, come_each}
use Rattle.ring_rules.proofs.rings.Lists.{get_or_beyond}
use Rattle.ring_rules.proofs.events.Composed.{end_composed, refresh_composed}
use Rattle.ring_rules.proofs.invariants.Happens.{IsGood, act_good}
use Rattle.ring_rules.proofs.invariants.Named.{AreNamed, act_named, named_found}
use Rattle.ring_rules.proofs.runs.OwnLogs.{cast_log, cast_log_other}

-- ---- an event that publishes nothing

-- the members that were there have their names and logs; and nobody has told anything since, or started
pub record KeepsLogs (w w' : World) : Type 0 where
  pub many : size w ≤ size w'
  pub name : (x : ℕ) → x < size w → (member_at w' x).name ≡ (member_at w x).name
  pub log : (x : ℕ) → log_of w' x ≡ log_of w x
  pub told : (x : ℕ) → (member_at w' x).told ≡ (member_at w x).told
  pub started : (x : ℕ) → (member_at w' x).started ≡ (member_at w x).started

all_keep : (w : World) → KeepsLogs w w
all_keep w = record { many = omega arith; name = λ x lt. refl; log = λ x. refl; told = λ x. refl; started = λ x. refl }

then_keep : (a b c : World) → KeepsLogs a b → KeepsLogs b c → KeepsLogs a c
then_keep a b c h k = record {
  many = omega (arith, h.many, k.many);
  name = λ x lt. k.name x (omega (arith, lt, h.many)) ∙ h.name x lt;
  log = λ x. k.log x ∙ h.log x;
  told = λ x. k.told x ∙ h.told x;
  started = λ x. k.started x ∙ h.started x;
}

-- one member is written
pub write_keeps : (w : World) (x : ℕ) (y : Member) → y.name ≡ (member_at w x).name → y.log ≡ (member_at w x).log → y.told ≡ (member_at w x).told → y.started ≡ (member_at w x).started → KeepsLogs w (with_member w x y)
write_keeps w x y name log told started = record {
  many = omega (arith, length-set w.members x y);
  name = λ q lt. member_leaves (λ _ a b. b.name ≡ a.name) w x y name (λ _. refl) q;
  log = λ q. member_leaves (λ _ a b. b.log ≡ a.log) w x y log (λ _. refl) q;
  told = λ q. member_leaves (λ _ a b. b.told ≡ a.told) w x y told (λ _. refl) q;
  started = λ q. member_leaves (λ _ a b. b.started ≡ a.started) w x y started (λ _. refl) q;
}

-- and then a link
link_keeps : (w u : World) (s : ℕ) (l : Link) → KeepsLogs w u → KeepsLogs w (with_link u s l)
link_keeps w u s l h = record { many = h.many; name = h.name; log = h.log; told = h.told; started = h.started }

-- a link opens
open_keeps : (u : World) (x z : ℕ) → KeepsLogs u (open_to u x z)
open_keeps u x z =
    let k = write_keeps (with_opened u (opened_link u x z)) x (record (member_at u x) { out = Some (length u.links) }) refl refl refl refl in
    record { many = k.many; name = k.name; log = k.log; told = k.told; started = k.started }

refresh_keeps : (w : World) (x v : ℕ) → KeepsLogs w (refreshed w x v)
refresh_keeps w x v = refresh_composed (KeepsLogs w) w x v
    (λ k e h. link_keeps w (look_at w x v) k (ended Moved (link_at w k)) h)
    (λ u e h. then_keep w u (open_to u x (right_of (view_in w v) x)) h (open_keeps u x (right_of (view_in w v) x)))
    (write_keeps w x (moved_to w x v) refl refl refl refl)

-- a view more, which x reads
view_keeps : (w : World) (x : ℕ) (v : Group) → KeepsLogs w (refreshed (with_view w v) x (newest w + 1))
view_keeps w x v =
    let k = refresh_keeps (with_view w v) x (newest w + 1) in
    record { many = k.many; name = k.name; log = k.log; told = k.told; started = k.started }

-- a member more
come_keeps : (w : World) (m : ℕ) (name : List ℕ) → KeepsLogs w (come_to w m name)
come_keeps w m name = record {
  many = omega (arith, length_push w.members (joiner w name));
  name = λ q lt. ap (λ (a : Member). a.name) (get_or_append_left w.members (joiner w name ∷ []) no_member q lt);
  log = λ q. come_each w m name q (λ k a. a.log ≡ (member_at w k).log) (sym (ap (λ (a : Member). a.log) (get_or_beyond w.members (size w) no_member (omega arith)))) (λ _. refl) (λ gt. sym (ap (λ (a : Member). a.log) (get_or_beyond w.members q no_member (omega arith))));
  told = λ q. come_each w m name q (λ k a. a.told ≡ (member_at w k).told) (sym (ap (λ (a : Member). a.told) (get_or_beyond w.members (size w) no_member (omega arith)))) (λ _. refl) (λ gt. sym (ap (λ (a : Member). a.told) (get_or_beyond w.members q no_member (omega arith))));
  started = λ q. come_each w m name q (λ k a. a.started ≡ (member_at w k).started) (sym (ap (λ (a : Member). a.started) (get_or_beyond w.members (size w) no_member (omega arith)))) (λ _. refl) (λ gt. sym (ap (λ (a : Member). a.started) (get_or_beyond w.members q no_member (omega arith))));
}

pub found_keeps : (w : World) (o : Option ℕ) (f : ℕ → World) → ((x : ℕ) → KeepsLogs w (f x)) → KeepsLogs w (at_found o w f)
found_keeps w None f k = all_keep w
found_keeps w (Some x) f k = k x

take_keeps : (phase : Phase) (w : World) (y s : ℕ) → KeepsLogs w (taken_by phase w y s)
take_keeps Waiting w y s = link_keeps w _ s (popped (link_at w s)) (write_keeps w y (begun (size w) (member_at w y) (oldest (link_at w s))) refl refl refl refl)
take_keeps Up w y s = link_keeps w _ s (popped (link_at w s)) (write_keeps w y (taker w y s) refl refl refl refl)
take_keeps Stopped w y s = all_keep w

-- what an event of this kind of member x leaves of the logs: they stay, and nothing is published; or the member says something
pub data KindStep (w : World) (x : ℕ) (k : Kind) : Type 0 where
  keeps_all : KeepsLogs w (done_as w x k) → ((name by : List ℕ) → published_as name by k ≡ []) → KindStep w x k
  says_one : (s : Saying) → k ≡ Says s → KindStep w x k

pub kind_step : (w : World) (x : ℕ) (k : Kind) → KindStep w x k
kind_step w x (Says s) = says_one s refl
kind_step w x (Steps step.Put) = keeps_all (found_keeps w (member_at w x).out (put_on w x) (λ o. link_keeps w w o _ (all_keep w))) (λ _ _. refl)
kind_step w x (Steps step.Take) = keeps_all (found_keeps w (member_at w x).current (taken_by (member_at w x).phase w x) (λ s. take_keeps (member_at w x).phase w x s)) (λ _ _. refl)
kind_step w x (Steps step.TakeEnd) =
    keeps_all (found_keeps w (member_at w x).current (leave_link w x) (λ s. link_keeps w (current_is w x None) s (finished (link_at w s)) (write_keeps w x (with_current None (member_at w x)) refl refl refl refl))) (λ _ _. refl)
kind_step w x (Steps step.Gain) = keeps_all (found_keeps w (member_at w x).out (gain_on w) (λ o. link_keeps w w o _ (all_keep w))) (λ _ _. refl)
kind_step w x (Steps step.Pick) = keeps_all (found_keeps w (at_door w x) _ (λ s. write_keeps w x (with_current (Some s) (member_at w x)) refl refl refl refl)) (λ _ _. refl)
kind_step w x (Copying s) = keeps_all (all_keep w) (λ _ _. refl)
kind_step w x (Changes (change.Mark dead)) = keeps_all (found_keeps w (id_of w dead) _ (λ d. view_keeps w x (marked (view_in w (newest w)) d))) (λ _ _. refl)
kind_step w x (Changes (change.Erase origin)) = keeps_all (found_keeps w (id_of w origin) _ (λ d. view_keeps w x (erased_view w d))) (λ _ _. refl)
kind_step w x (Changes (change.Admit name)) =
    keeps_all (then_keep w (come_to w x name) (refreshed (come_to w x name) x (newest w + 1)) (come_keeps w x name) (refresh_keeps (come_to w x name) x (newest w + 1))) (λ _ _. refl)
kind_step w x (Changes change.Register) = keeps_all (view_keeps w x (synced_view w x)) (λ _ _. refl)
kind_step w x Stops =
    keeps_all (end_composed (KeepsLogs w) Halted (stop_at w x) (member_at w x).out (λ o e h. link_keeps w (stop_at w x) o _ h) (write_keeps w x (stopped (member_at w x)) refl refl refl refl)) (λ _ _. refl)
kind_step w x (Reads version) = keeps_all (refresh_keeps w x version) (λ _ _. refl)
kind_step w x (Tells code inner) = keeps_all (all_keep w) (λ _ _. refl)

-- ---- a message

-- a member that is found by its name has it
pub found_name : (w : World) (name : List ℕ) (x : ℕ) → id_of w name ≡ Some x → (member_at w x).name ≡ name
found_name w name x h = by_place _ refl h
  where
    by_place : (o : Option ℕ) → position (λ (y : Member). bytes_eq y.name name) (drop 1 w.members) ≡ o → option_map (λ i. i + 1) o ≡ Some x → (member_at w x).name ≡ name
    by_place None e k = cc
    by_place (Some i) e k =
        let is : i + 1 ≡ x = cc in
        let next : 1 + i ≡ x = omega arith in
        ap (λ (a : Member). a.name) (sym (get_or-drop 1 w.members i no_member ∙ ap (member_at w) next))
        ∙ same_bytes _ _ (position-Some (λ (y : Member). bytes_eq y.name name) (drop 1 w.members) i no_member e).1

-- what is told of the log of x grows by what the event publishes of its name
record LogGrows (w : World) (e : Event) (w' : World) (x : ℕ) : Type 0 where
  pub many : size w ≤ size w'
  pub name : (member_at w' x).name ≡ (member_at w x).name
  pub log : map told_of (log_of w' x) ≡ map told_of (log_of w x) ++ published_by (member_at w x).name e

message_grows : (w : World) (e : Event) (m : Message) (y x : ℕ) → ((name : List ℕ) → published_by name e ≡ one_of name (by_of e) (told_of m)) → AreNamed w → id_of w (by_of e) ≡ Some y → 1 ≤ x → x < size w → LogGrows w e (publish_at w y m) x
message_grows w e m y x says named found some lt = record {
  many = omega (arith, length-set w.members y (published y m (member_at w y)));
  name = member_leaves (λ _ a b. b.name ≡ a.name) w y _ refl (λ _. refl) x;
  log = by_name (bytes_eq (by_of e) (member_at w x).name) refl ∙ ap (λ ms. map told_of (log_of w x) ++ ms) (sym (says (member_at w x).name));
}
  where
    by_name : (b : Bool) → bytes_eq (by_of e) (member_at w x).name ≡ b → map told_of (log_of (publish_at w y m) x) ≡ map told_of (log_of w x) ++ (if b then told_of m ∷ [] else [])
    by_name true k =
        let same : Some y ≡ Some x = sym found ∙ ap (id_of w) (same_bytes (by_of e) (member_at w x).name k) ∙ named_found w x named some lt in
        let is : y ≡ x = cc in
        ap (λ j. map told_of (log_of (publish_at w j m) x)) is ∙ ap (map told_of) (cast_log w x m lt) ∙ map-append told_of (log_of w x) (m ∷ [])
    by_name false k =
        ap (map told_of) (cast_log_other w y x m (λ is. false≢true (sym k ∙ ap (bytes_eq (by_of e)) (ap (λ j. (member_at w j).name) is ∙ found_name w (by_of e) y found) ∙ own_bytes (by_of e))))
        ∙ sym (append-nil (map told_of (log_of w x)))

-- ---- events

-- an event that may happen
event_grows : (w : World) (e : Event) (x : ℕ) → AreNamed w → refusal w e ≡ None → 1 ≤ x → x < size w → LogGrows w e (effect w e) x
event_grows w e x named r some lt = by_id (id_of w (by_of e)) refl r
  where
    by_id : (o : Option ℕ) → id_of w (by_of e) ≡ o → of_member o (refused_at w e) ≡ None → LogGrows w e (at_found o w (done_at w e)) x
    by_id None found h = cc
    by_id (Some y) found h = by_step (kind_step w y (kind_of e))
      where
        by_saying : (s : Saying) → ((name : List ℕ) → published_by name e ≡ one_of name (by_of e) (told_of_saying s)) → saying_refusal w y s ≡ None → LogGrows w e (said w y s) x
        by_saying (Own body) says k = message_grows w e (message.Cast body) y x says named found some lt
        by_saying (OfQueue q) says k = by_op (op_as w y q) k
          where
            by_op : (o : Result Op Reason) → op_refusal o ≡ None → LogGrows w e (op_done w y o) x
            by_op (Ok o) n = message_grows w e (message.Queue o) y x says named found some lt
            by_op (Err q) n = cc

        by_step : KindStep w y (kind_of e) → LogGrows w e (done_as w y (kind_of e)) x
        by_step (keeps_all kept nothing) = record {
          many = kept.many;
          name = kept.name x lt;
          log = ap (map told_of) (kept.log x) ∙ sym (append-nil (map told_of (log_of w x))) ∙ ap (λ ms. map told_of (log_of w x) ++ ms) (sym (nothing (member_at w x).name (by_of e)));
        }
        by_step (says_one s same) = subst (λ k. LogGrows w e (done_as w y k) x) (sym same)
            (by_saying s (λ name. ap (published_as name (by_of e)) same) (up_none w y _ (ap (refused_as w y) (sym same) ∙ h)).1)

-- ---- runs

-- in a run what is told of the log of each member that was there grows by what the events published of its name
pub run_grows : (w : World) (es : List Event) (x : ℕ) → IsGood w → AreNamed w → IsRun w es → 1 ≤ x → x < size w → map told_of (log_of (last w es) x) ≡ map told_of (log_of w x) ++ published_in (member_at w x).name es
run_grows w [] x g named r some lt = sym (append-nil (map told_of (log_of w x)))
run_grows w (e ∷ es) x g named r some lt =
    let step = event_grows w e x named r.0 some lt in
    run_grows (effect w e) es x (act_good w (act_of e) g r.0) (act_named w (act_of e) g r.0 named) r.1 some (omega (arith, lt, step.many))
    ∙ ap (λ n. map told_of (log_of (effect w e) x) ++ published_in n es) step.name
    ∙ ap (λ ms. ms ++ published_in (member_at w x).name es) step.log
    ∙ append_assoc (map told_of (log_of w x)) (published_by (member_at w x).name e) (published_in (member_at w x).name es)
