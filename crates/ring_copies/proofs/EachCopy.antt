-- What each step leaves of a copy by itself, each event leaves of all copies.
use Rattle.std.proofs.Common.{◌≡◌, ℕ, zero, suc, ◌<◌, Bool, true, false, not, cond, nat_eq, List, [], ◌∷◌, ◌++◌, length, map, refl, sym, subst, arith, Option, Some, None, position}
use Rattle.std.specs.Prelude.{◌&&◌, slice_set}
use Rattle.std.proofs.lemmas.Bool.{false≢true}
use Rattle.std.proofs.lemmas.List.Quantifiers.{position-Some}
use Rattle.std.proofs.lemmas.List.{length-set, length_push, length-map}
use Rattle.ring_names.specs.declared.reason.Reason.{Reason}
use Rattle.ring_names.specs.declared.reason.Reason.TheVariants as reason
use Rattle.queue_core.specs.Queue.{Item}
use Rattle.queue_sync.specs.Copy.{Load, OneItem, Done}
use Rattle.credit_flow.specs.Credit.{is_blocked}
use Rattle.group_view.specs.View.{Group}
use Rattle.ring_rules.specs.Refusal.{is_empty}
use Rattle.ring_rules.specs.View.{is_live}
use Rattle.ring_rules.specs.Machine.{World, member_at, view_in}
use Rattle.ring_rules.specs.Kind.{Kind, Says, Steps, Copying, Changes, Stops, Reads, Tells, kind_of}
use Rattle.ring_rules.specs.Event.{id_of, of_member, on_link, done_as}
use Rattle.ring_rules.proofs.rings.Lists.{at_set, at_push}
use Rattle.ring_rules.proofs.events.Refusals.{refuse_none}
use Rattle.ring_rules.proofs.events.Enabled.{up_none}
use Rattle.ring_rules.specs.declared.kind.CopyStep.{CopyStep}
use Rattle.ring_rules.specs.declared.kind.CopyStep.TheVariants as copying
use Rattle.ring_copies.specs.Copies.{CopyLink, CopyWorld, no_copy_link, copy_link_at, copy_in, copy_out, is_put_by, is_taken_by, is_gone, is_blocked_at, new_copy, copy_put, copy_gained, judged, let_go_one, let_go, item_taken, done_taken, dropped, halted_one, looked_one}
use Rattle.ring_copies.specs.Events.{CopyEvent, OfRing, OnCopy, RefusesCopy, by_of, step_refusal, refused_in, refusal, effect, copies_after, step_done, done_in, let_go_by, where_found, with_copy, open_copy, take_load, take_copy, copy_put_refusal, copy_gain_refusal, copy_take_refusal, IsRun, last}

-- the copy at a place behind a change of all
pub map_at : (f : CopyLink → CopyLink) (cs : List CopyLink) (i : ℕ) → i < length cs → copy_link_at (map f cs) i ≡ f (copy_link_at cs i)
map_at f [] i lt = absurd (omega arith)
map_at f (c ∷ cs) zero lt = refl
map_at f (c ∷ cs) (suc i) lt = map_at f cs i (omega arith)

-- a copy on which somebody puts has something to be put
pub puts_some : (x : ℕ) (c : CopyLink) → is_put_by x c ≡ true → is_empty c.to_put ≡ false
puts_some x c h = by_all (nat_eq c.sender x) c.over (is_empty c.to_put) h
  where
    by_all : (a b e : Bool) → (a && (not b && not e)) ≡ true → e ≡ false
    by_all a b false h = refl
    by_all true true true h = absurd (false≢true h)
    by_all true false true h = absurd (false≢true h)
    by_all false b true h = absurd (false≢true h)

-- Q is left of a copy by each step on it, by a stop of its master, and by a look at a view
pub record StepKept (Q : CopyLink → Type 0) : Type 0 where
  pub puts : (c : CopyLink) → is_empty c.to_put ≡ false → is_blocked c.flow.sender ≡ false → Q c → Q (copy_put c)
  pub gains : (c : CopyLink) → is_empty c.flow.grants ≡ false → Q c → Q (copy_gained c)
  pub items : (b : Bool) (a : Item) (c : CopyLink) (ls : List Load) → c.loads ≡ OneItem a ∷ ls → Q c → Q (item_taken b a c)
  pub done : (b : Bool) (c : CopyLink) (ls : List Load) → c.loads ≡ Done ∷ ls → Q c → Q (done_taken b c)
  pub drops : (c : CopyLink) → Q c → Q (dropped c)
  pub halts : (c : CopyLink) → Q c → Q (record c { ended = true })
  pub closes : (c : CopyLink) → Q c → Q (record c { over = true })
  pub frees : (c : CopyLink) → Q c → Q (record c { flow = judged false c.flow })

-- and a copy opens with it, where P is known of the ring
pub record EachKept (P : World → Type 0) (Q : CopyLink → Type 0) : Type 0 where
  pub opens : (w : World) (x n : ℕ) → P w → Q (new_copy w x n)
  pub steps : StepKept Q

-- it holds of all
abbrev pub OfAll : (CopyLink → Type 0) → List CopyLink → Type 0
OfAll Q cs = (i : ℕ) → i < length cs → Q (copy_link_at cs i)

-- what is so of each copy is so of each behind a change of all
pub map_to : (Q R : CopyLink → Type 0) (f : CopyLink → CopyLink) → ((c : CopyLink) → Q c → R (f c)) → (cs : List CopyLink) → OfAll Q cs → OfAll R (map f cs)
map_to Q R f keeps cs h i lt =
    let there : i < length cs = omega (arith, lt, length-map cs f) in
    subst R (sym (map_at f cs i there)) (keeps (copy_link_at cs i) (h i there))

-- and of one more
pub push_kept : (Q : CopyLink → Type 0) (cs : List CopyLink) (c : CopyLink) → Q c → OfAll Q cs → OfAll Q (cs ++ c ∷ [])
push_kept Q cs c k h i lt = at_push (λ j a. Q a) cs i c no_copy_link (omega (arith, lt, length_push cs c)) k (λ there. h i there)

module _ (Q : CopyLink → Type 0) (each : StepKept Q) where
  pub halted_kept : (x : ℕ) (c : CopyLink) → Q c → Q (halted_one x c)
  halted_kept x c h = by_case (is_put_by x c)
    where
      by_case : (b : Bool) → Q (cond b (record c { ended = true }) c)
      by_case true = each.halts c h
      by_case false = h

  looked_kept : (g : Group) (x : ℕ) (c : CopyLink) → Q c → Q (looked_one g x c)
  looked_kept g x c h = by_case (is_taken_by x c && is_gone g c.sender) (is_put_by x c && not (is_live g c.receiver))
    where
      by_case : (a b : Bool) → Q (cond a (dropped c) (cond b (record c { over = true }) c))
      by_case true b = each.drops c h
      by_case false true = each.closes c h
      by_case false false = h

  freed_kept : (y : ℕ) (c : CopyLink) → Q c → Q (let_go_one y c)
  freed_kept y c h = by_case (nat_eq c.receiver y)
    where
      by_case : (b : Bool) → Q (cond b (record c { flow = judged false c.flow }) c)
      by_case true = each.frees c h
      by_case false = h

  -- ---- all of them

  map_kept : (f : CopyLink → CopyLink) → ((c : CopyLink) → Q c → Q (f c)) → (cs : List CopyLink) → OfAll Q cs → OfAll Q (map f cs)
  map_kept f keeps cs h = map_to Q Q f keeps cs h

  pub set_kept : (cs : List CopyLink) (o : ℕ) (c : CopyLink) → o < length cs → Q c → OfAll Q cs → OfAll Q (slice_set cs o c)
  set_kept cs o c lt k h i il =
      let there : i < length cs = omega (arith, il, length-set cs o c) in
      at_set (λ j a. Q a) cs o i c no_copy_link lt k (λ _. h i there)

  pub let_go_kept : (b : Bool) (y : ℕ) (cs : List CopyLink) → OfAll Q cs → OfAll Q (let_go b y cs)
  let_go_kept true y cs h = h
  let_go_kept false y cs h = map_kept (let_go_one y) (freed_kept y) cs h

  -- ---- events

  -- the copies, where x has done an event of the ring
  after_kept : (k : Kind) (w : World) (x : ℕ) (cs : List CopyLink) → OfAll Q cs → OfAll Q (copies_after k w x cs)
  after_kept Stops w x cs h = map_kept (halted_one x) (halted_kept x) cs h
  after_kept (Changes c) w x cs h = map_kept _ (looked_kept (view_in w (member_at w x).version) x) cs h
  after_kept (Reads v) w x cs h = map_kept _ (looked_kept (view_in w (member_at w x).version) x) cs h
  after_kept (Says s) w x cs h = h
  after_kept (Steps s) w x cs h = h
  after_kept (Copying s) w x cs h = h
  after_kept (Tells code inner) w x cs h = h

  -- what happens at a copy that is found
  at_copy : (W : CopyWorld) (test : CopyLink → Bool) (later : ℕ → Option Reason) (f : ℕ → CopyWorld) → OfAll Q W.copies
      → ((i : ℕ) → i < length W.copies → test (copy_link_at W.copies i) ≡ true → later i ≡ None → OfAll Q (f i).copies)
      → (o : Option ℕ) → position test W.copies ≡ o → on_link o reason.NoSyncLink later ≡ None → OfAll Q (where_found o W f).copies
  at_copy W test later f h k None is r = h
  at_copy W test later f h k (Some i) is r = let p = position-Some test W.copies i no_copy_link is in k i p.0 p.1 r

  load_kept : (W : CopyWorld) (y i : ℕ) → i < length W.copies → OfAll Q W.copies → (c : CopyLink) → Q c → (ls : List Load) → c.loads ≡ ls → OfAll Q (take_load W y i c ls).copies
  load_kept W y i lt h c k [] e = set_kept W.copies i (dropped c) lt (each.drops c k) h
  load_kept W y i lt h c k (OneItem a ∷ ls) e = set_kept W.copies i (item_taken (is_blocked_at W.ring y) a c) lt (each.items (is_blocked_at W.ring y) a c ls e k) h
  load_kept W y i lt h c k (Done ∷ ls) e = set_kept W.copies i (done_taken (is_blocked_at W.ring y) c) lt (each.done (is_blocked_at W.ring y) c ls e k) h

  pub puts_kept : (W : CopyWorld) (x : ℕ) → step_refusal W x copying.Put ≡ None → OfAll Q W.copies → OfAll Q (step_done W x copying.Put).copies
  puts_kept W x r h = at_copy W (is_put_by x) (λ i. copy_put_refusal (copy_link_at W.copies i)) (λ i. with_copy W i (copy_put (copy_link_at W.copies i))) h
      (λ i lt t free. set_kept W.copies i (copy_put (copy_link_at W.copies i)) lt (each.puts (copy_link_at W.copies i) (puts_some x (copy_link_at W.copies i) t) (refuse_none _ reason.NoCredit free) (h i lt)) h)
      (copy_out W.copies x) refl r

  pub takes_kept : (W : CopyWorld) (x : ℕ) → step_refusal W x copying.Take ≡ None → OfAll Q W.copies → OfAll Q (step_done W x copying.Take).copies
  takes_kept W x r h = at_copy W (is_taken_by x) (λ i. copy_take_refusal W.ring x (copy_link_at W.copies i)) (take_copy W x) h
      (λ i lt t may. load_kept W x i lt h (copy_link_at W.copies i) (h i lt) (copy_link_at W.copies i).loads refl)
      (copy_in W.copies x) refl r

  pub gains_kept : (W : CopyWorld) (x : ℕ) → step_refusal W x copying.Gain ≡ None → OfAll Q W.copies → OfAll Q (step_done W x copying.Gain).copies
  gains_kept W x r h = at_copy W (is_put_by x) (λ i. copy_gain_refusal (copy_link_at W.copies i)) (λ i. with_copy W i (copy_gained (copy_link_at W.copies i))) h
      (λ i lt t some. set_kept W.copies i (copy_gained (copy_link_at W.copies i)) lt (each.gains (copy_link_at W.copies i) (refuse_none _ reason.NoGrant some) (h i lt)) h)
      (copy_out W.copies x) refl r

module _ (P : World → Type 0) (Q : CopyLink → Type 0) (each : EachKept P Q) where
  step_kept : (W : CopyWorld) (x : ℕ) (s : CopyStep) → P W.ring → step_refusal W x s ≡ None → OfAll Q W.copies → OfAll Q (step_done W x s).copies
  step_kept W x (copying.Open target) p r h = by_target (id_of W.ring target)
    where
      by_target : (t : Option ℕ) → OfAll Q (where_found t W (open_copy W x)).copies
      by_target None = h
      by_target (Some n) = push_kept Q W.copies (new_copy W.ring x n) (each.opens W.ring x n p) h
  step_kept W x copying.Put p r h = puts_kept Q each.steps W x r h
  step_kept W x copying.Take p r h = takes_kept Q each.steps W x r h
  step_kept W x copying.Gain p r h = gains_kept Q each.steps W x r h

  done_kept : (W : CopyWorld) (e : CopyEvent) (x : ℕ) → P W.ring → refused_in W e x ≡ None → OfAll Q W.copies → OfAll Q (done_in W e x).copies
  done_kept W (OfRing e) x p r h = after_kept Q each.steps (kind_of e) (done_as W.ring x (kind_of e)) x W.copies h
  done_kept W (OnCopy by s) x p r h = step_kept W x s p (up_none W.ring x _ r).1 h
  done_kept W (RefusesCopy code by target) x p r h = h

  -- one event more
  pub effect_kept : (W : CopyWorld) (e : CopyEvent) → P W.ring → refusal W e ≡ None → OfAll Q W.copies → OfAll Q (effect W e).copies
  effect_kept W e p r h = by_id (id_of W.ring (by_of e)) r
    where
      by_id : (o : Option ℕ) → of_member o (refused_in W e) ≡ None → OfAll Q (where_found o W (λ x. let_go_by x (done_in W e x))).copies
      by_id None k = h
      by_id (Some x) k = let_go_kept Q each.steps (is_blocked_at (done_in W e x).ring x) x (done_in W e x).copies (done_kept W e x p k h)

  -- every run, where P goes on
  pub run_kept : ((W : CopyWorld) (e : CopyEvent) → refusal W e ≡ None → P W.ring → P (effect W e).ring) → (W : CopyWorld) (es : List CopyEvent) → IsRun W es → P W.ring → OfAll Q W.copies → OfAll Q (last W es).copies
  run_kept goes W [] r p h = h
  run_kept goes W (e ∷ es) r p h = run_kept goes (effect W e) es r.1 (goes W e r.0 p) (effect_kept W e p r.0 h)
