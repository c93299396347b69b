-- A member that joins stands where it waits in the ring.
use Rattle.std.proofs.Common.{◌≡◌, ℕ, ◌+◌, true, List, [], ◌∷◌, map, Option, Some, None, is_some, refl, sym, ap, ◌∙◌, arith}
use Rattle.std.specs.Prelude.{option_map}
use Rattle.std.proofs.lemmas.Bool.{false≢true}
use Rattle.queue_core.specs.declared.message.Message.{Message}
use Rattle.ring_names.specs.declared.numbers.CreditSpec.{CreditSpec}
use Rattle.group_view.specs.View.{Group}
use Rattle.ring_rules.specs.declared.phase.Phase.{Phase}
use Rattle.ring_rules.specs.declared.phase.Phase.TheVariants.{Waiting}
use Rattle.ring_rules.specs.Rows.{Row, messages_between}
use Rattle.ring_rules.specs.View.{left_of}
use Rattle.ring_rules.specs.Machine.{World, row_at, member_at, link_at, view_in, left, runs, runs_phase}
use Rattle.ring_rules.specs.Step.{log_of, opening}
use Rattle.ring_rules.specs.Event.{last}
use Rattle.ring_rules.proofs.rings.Maps.{map-range_same}
use Rattle.ring_rules.proofs.walks.Views.{left_is}
use Rattle.ring_rules.proofs.invariants.Good.{true_kept}
use Rattle.activity.specs.Kept.{Kept, no_kept}
use Rattle.gm_member.specs.Packets.{places}
use Rattle.gm_member.specs.Held.{Held, Outgoing, Incoming, fresh_in, joining_held}
use Rattle.gm_member.specs.Stands.{kept_by, known_in, outgoing_in, incoming_in, held_in, WaitsThere, StandsWhereItWaits}
use Rattle.gm_member.proofs.Facts.{version_of_view}
use Rattle.gm_member.proofs.Fit.{IsFit, reached_fit}
use Rattle.gm_member.proofs.Parts.{held_from}
use Rattle.gm_member.proofs.Waiters.{WaitersAreSilent, reached_silent, CountsRight, reached_counts}

-- by all that it is made of
from_parts : (x : ℕ) (n n' : List ℕ) (p p' : Phase) (g g' : Group) (k k' : List Kept) (o o' : Option Outgoing) (c c' : Option Incoming) (d d' : List Incoming) (i i' m m' : ℕ)
    → n ≡ n' → p ≡ p' → g ≡ g' → k ≡ k' → o ≡ o' → c ≡ c' → d ≡ d' → i ≡ i' → m ≡ m'
    → held_from x n p g k o c d i m ≡ held_from x n' p' g' k' o' c' d' i' m'
from_parts x n n' p p' g g' k k' o o' c c' d d' i i' m m' en ep eg ek eo ec ed ei em = rw (en, ep, eg, ek, eo, ec, ed, ei, em) refl

-- a row in which nothing was received keeps nothing
kept_none : (log : List Message) (r : Row) → r.got ≡ 0 → r.forgot ≡ 0 → r.retired ≡ 0 → r.base ≡ 0 → kept_by log r ≡ no_kept
kept_none log r got forgot retired base =
    ap (λ n. record { forgot = n; messages = messages_between n r.got log; retired = r.retired; base = r.base }) forgot
    ∙ ap (λ n. record { forgot = 0; messages = messages_between 0 n log; retired = r.retired; base = r.base }) got
    ∙ ap (λ n. record { forgot = 0; messages = messages_between 0 0 log; retired = n; base = r.base }) retired
    ∙ ap (λ n. record { forgot = 0; messages = messages_between 0 0 log; retired = 0; base = n }) base
    ∙ ap (λ ms. record { forgot = 0; messages = ms; retired = 0; base = 0 }) (nothing log)
  where
    nothing : (ms : List Message) → messages_between 0 0 ms ≡ []
    nothing [] = refl
    nothing (m ∷ ms) = refl

-- so one that waits keeps nothing of any origin
waiter_knows : (w : World) (x : ℕ) → IsFit w → (member_at w x).phase ≡ Waiting → map (λ (_ : ℕ). no_kept) places ≡ known_in w x
unfolding places
waiter_knows w x f waits =
    map-range_same (λ (_ : ℕ). no_kept) (λ p. kept_by (log_of w (p + 1)) (row_at (member_at w x) (p + 1))) 64
    (λ p _. let none = f.good.inv.joining.rows x (p + 1) waits in sym (kept_none (log_of w (p + 1)) (row_at (member_at w x) (p + 1)) none.0 none.1 ((f.rows x).anew waits (p + 1)) ((f.rows x).unbased waits (p + 1))))

-- the link that it takes from is that of its left neighbour, opened with its view
waiter_takes : (w : World) (x s : ℕ) (credit : CreditSpec) (v : Group) → IsFit w → CountsRight credit.initial credit.more w → (member_at w x).phase ≡ Waiting → (member_at w x).current ≡ Some s → v ≡ view_in w (member_at w x).version
    → fresh_in credit.initial credit.more (left_of v x) v.version ≡ incoming_in w s
waiter_takes w x s credit v f counts waits e is =
    let rx : runs w x ≡ true = ap runs_phase waits in
    let u : ℕ = (member_at w x).version in
    let numbered : v.version ≡ u = ap (λ (g : Group). g.version) is ∙ version_of_view w u f.good.views (f.good.inv.is_ring.held x) in
    let opened : (link_at w s).opened ≡ u = f.good.inv.joining.opened x s waits e in
    let from : left w u (link_at w s).receiver ≡ (link_at w s).sender = true_kept w (link_at w s) u (f.good.inv.current.kept_yet x s rx e) u (omega (arith, opened)) (omega arith) in
    let counted = counts.links s (f.good.inv.current.lt x s rx e) (f.lines.waits x s waits e) in
    ap (λ (g : Group). fresh_in credit.initial credit.more (left_of g x) v.version) is
    ∙ ap (λ a. fresh_in credit.initial credit.more a v.version) (sym (left_is w u x (view_in w u) refl) ∙ sym (ap (left w u) (f.good.inv.current.receiver x s rx e)) ∙ from)
    ∙ ap (λ n. fresh_in credit.initial credit.more (link_at w s).sender n) (numbered ∙ sym opened)
    ∙ ap (λ k. record { from = (link_at w s).sender; opened = (link_at w s).opened; counted = k }) (sym counted)

-- what a member holds that joins is what the ring's holds there
joining_stands : (w : World) (x : ℕ) (credit : CreditSpec) (name : List ℕ) (v : Group) → IsFit w → WaitersAreSilent w → CountsRight credit.initial credit.more w → WaitsThere w x name v → joining_held credit name x v ≡ held_in w x
joining_stands w x credit name v f silent counts t =
    from_parts x name (member_at w x).name Waiting (member_at w x).phase v (view_in w (member_at w x).version) (map (λ (_ : ℕ). no_kept) places) (known_in w x) None (option_map (outgoing_in w) (member_at w x).out)
    (Some (fresh_in credit.initial credit.more (left_of v x) v.version)) (option_map (incoming_in w) (member_at w x).current) [] (held_in w x).door credit.initial w.initial credit.more w.more
    (sym t.named) (sym t.waits) t.looks (waiter_knows w x f t.waits) (sym (ap (option_map (outgoing_in w)) (silent x t.waits)))
    (takes (member_at w x).current refl (f.good.inv.joining.some x t.waits)) (sym (ap (map (incoming_in w)) t.nothing)) (sym counts.initial_is) (sym counts.more_is)
  where
    takes : (c : Option ℕ) → (member_at w x).current ≡ c → is_some c ≡ true → Some (fresh_in credit.initial credit.more (left_of v x) v.version) ≡ option_map (incoming_in w) c
    takes None e some = absurd (false≢true some)
    takes (Some s) e some = ap Some (waiter_takes w x s credit v f counts t.waits e t.looks)

-- in every state of every run
pub joining_lifts : (credit : CreditSpec) (name : List ℕ) (x : ℕ) (v : Group) (h : Held) → h ≡ joining_held credit name x v → StandsWhereItWaits credit name x v h
joining_lifts credit name x v h e names events are r t =
    e ∙ joining_stands (last (opening credit names) events) x credit name v (reached_fit credit names events are r) (reached_silent credit names events are r) (reached_counts credit names events are r) t
