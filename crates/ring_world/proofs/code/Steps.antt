-- An event of a ring with copies, at the place of its member.
use Rattle.std.proofs.Common.{◌≡◌, ℕ, Bool, true, false, List, [], ◌∷◌, map, Option, Some, None, refl, sym, ap, ◌∙◌}
use Rattle.std.proofs.lemmas.Bool.{false≢true}
use Rattle.std.specs.Prelude.{Ok}
use Rattle.ring_names.specs.declared.reason.Reason.{Reason}
use Rattle.ring_names.specs.declared.reason.Reason.TheVariants as reason
use Rattle.ring_rules.specs.Refusal.{answer_of}
use Rattle.group_view.specs.View.{Group}
use Rattle.ring_rules.specs.Machine.{World, member_at, view_in}
use Rattle.ring_rules.specs.declared.event.Event.{Event}
use Rattle.ring_rules.specs.declared.event.Event.TheVariants as event
use Rattle.ring_rules.specs.declared.event.Client.TheVariants as client
use Rattle.ring_rules.specs.declared.kind.CopyStep.{CopyStep}
use Rattle.ring_rules.specs.declared.kind.CopyStep.TheVariants as copying
use Rattle.ring_rules.specs.Kind.{Kind, Says, Steps, Copying, Changes, Stops, Reads, Tells, kind_of, shown_kind}
use Rattle.ring_rules.specs.Event.{by_of, id_of, up_refusal, is_refusal, done_as}
use Rattle.ring_copies.specs.Copies.{CopyLink, CopyWorld, halted_one, looked_one, let_go_one, let_go}
use Rattle.ring_copies.specs.Events.{CopyEvent, OfRing, sort_of, sorted, step_refusal, refused_in, step_done, done_in, ring_done, copies_after, let_go_by}
use Rattle.ring_copies.specs.Runs.{refusal, effect}
use Rattle.ring_copies.proofs.Alone.{same_by}
use Rattle.ring_world.specs.Copied.{freed_if, followed_copy, after_flags, stops_kind, reads_kind}

-- ---- of a member that is found

pub refusal_found : (W : CopyWorld) (e : Event) (x : ℕ) → Some x ≡ id_of W.ring (by_of e) → refusal W e ≡ refused_in W (sort_of e) x
refusal_found W e x is = rw (same_by e, sym is) refl

pub refusal_nobody : (W : CopyWorld) (e : Event) → None ≡ id_of W.ring (by_of e) → refusal W e ≡ Some reason.UnknownMember
refusal_nobody W e is = rw (same_by e, sym is) refl

pub effect_found : (W : CopyWorld) (e : Event) (x : ℕ) → Some x ≡ id_of W.ring (by_of e) → effect W e ≡ let_go_by x (done_in W (sort_of e) x)
effect_found W e x is = rw (same_by e, sym is) refl

-- ---- by its kind

pub copy_refused : (W : CopyWorld) (e : Event) (x : ℕ) (s : CopyStep) → kind_of e ≡ Copying s → refused_in W (sort_of e) x ≡ up_refusal W.ring x (step_refusal W x s)
copy_refused W e x s h = ap (λ k. refused_in W (sorted e k) x) h

pub copy_done : (W : CopyWorld) (e : Event) (x : ℕ) (s : CopyStep) → kind_of e ≡ Copying s → done_in W (sort_of e) x ≡ step_done W x s
copy_done W e x s h = ap (λ k. done_in W (sorted e k) x) h

pub ring_sort : (e : Event) → is_refusal e ≡ false → ((s : CopyStep) → kind_of e ≡ Copying s → ⊥) → sort_of e ≡ OfRing e
ring_sort (event.Sync by target) r other = absurd (other (copying.Open target) refl)
ring_sort (event.SyncPut by) r other = absurd (other copying.Put refl)
ring_sort (event.SyncTake by) r other = absurd (other copying.Take refl)
ring_sort (event.SyncGain by) r other = absurd (other copying.Gain refl)
ring_sort (event.Refuse code inner) r other = absurd (false≢true (sym r))
ring_sort e r other = refl

-- what isn't one of a copy is one of the ring
pub plain_sort : (e : Event) → ((by target : List ℕ) → e ≡ event.Sync by target → ⊥) → ((by : List ℕ) → e ≡ event.SyncPut by → ⊥) → ((by : List ℕ) → e ≡ event.SyncTake by → ⊥) → ((by : List ℕ) → e ≡ event.SyncGain by → ⊥)
    → ((code : ℕ) (by target : List ℕ) → e ≡ event.Refuse code (client.Sync by target) → ⊥) → sort_of e ≡ OfRing e
plain_sort (event.Sync by target) a b c d f = absurd (a by target refl)
plain_sort (event.SyncPut by) a b c d f = absurd (b by refl)
plain_sort (event.SyncTake by) a b c d f = absurd (c by refl)
plain_sort (event.SyncGain by) a b c d f = absurd (d by refl)
plain_sort (event.Refuse code (client.Sync by target)) a b c d f = absurd (f code by target refl)
plain_sort e a b c d f = refl

pub refusal_done : (W : CopyWorld) (e : Event) (x : ℕ) → is_refusal e ≡ true → done_in W (sort_of e) x ≡ W
refusal_done W (event.Refuse code (client.Sync by target)) x r = refl
refusal_done W (event.Refuse code inner) x r = refl
refusal_done W e x r = absurd (false≢true r)

-- ---- what it leaves of the copies

pub flags_after : (k : Kind) (w : World) (x : ℕ) (cs : List CopyLink) → after_flags (stops_kind (shown_kind k)) (reads_kind (shown_kind k)) w x cs ≡ copies_after k w x cs
flags_after (Says s) w x cs = refl
flags_after (Steps s) w x cs = refl
flags_after (Copying s) w x cs = refl
flags_after (Changes c) w x cs = refl
flags_after Stops w x cs = refl
flags_after (Reads version) w x cs = refl
flags_after (Tells code inner) w x cs = refl

map_same : (cs : List CopyLink) → map (λ c. c) cs ≡ cs
map_same [] = refl
map_same (c ∷ cs) = ap (λ ds. c ∷ ds) (map_same cs)

map_then : (f g : CopyLink → CopyLink) (cs : List CopyLink) → map (λ c. g (f c)) cs ≡ map g (map f cs)
map_then f g [] = refl
map_then f g (c ∷ cs) = ap (λ ds. g (f c) ∷ ds) (map_then f g cs)

freed_all : (b : Bool) (x : ℕ) (cs : List CopyLink) → map (freed_if b x) cs ≡ let_go b x cs
freed_all true x cs = map_same cs
freed_all false x cs = refl

pub halted_all : (stops reads b : Bool) (w : World) (x : ℕ) (cs : List CopyLink) → (stops ≡ false → reads ≡ false) → map (followed_copy stops None b x) cs ≡ let_go b x (after_flags stops reads w x cs)
halted_all true reads b w x cs h = map_then (halted_one x) (freed_if b x) cs ∙ freed_all b x (map (halted_one x) cs)
halted_all false true b w x cs h = absurd (false≢true (sym (h refl)))
halted_all false false b w x cs h = freed_all b x cs

pub read_all : (g : Group) (b : Bool) (w : World) (x : ℕ) (cs : List CopyLink) → g ≡ view_in w (member_at w x).version → map (followed_copy false (Some g) b x) cs ≡ let_go b x (after_flags false true w x cs)
read_all g b w x cs is = map_then (looked_one g x) (freed_if b x) cs ∙ freed_all b x (map (looked_one g x) cs) ∙ ap (λ v. let_go b x (map (looked_one v x) cs)) is

-- ---- an answer

pub no_reason : (o : Option Reason) (u : Unit {0}) → answer_of o ≡ Ok u → o ≡ None
no_reason None u h = refl
no_reason (Some r) u h = cc
