-- Who joins makes no difference to the refresh of another.
use Rattle.std.proofs.Common.{◌≡◌, ℕ, ◌<◌, ◌+◌, Bool, true, false, nat_eq, List, [], ◌∷◌, ◌++◌, length, set, Option, Some, None, refl, sym, ap, ◌∙◌, if◌then◌else◌, arith}
use Rattle.std.proofs.lemmas.List.{get_or_append_left, length-set, set-append_left}
use Rattle.ring_rules.specs.Machine.{Member, Link, World, no_member, no_sending, member_at, link_at, view_in, newest, is_kept}
use Rattle.ring_rules.specs.declared.phase.Ending.TheVariants.{Moved}
use Rattle.ring_rules.specs.Step.{size, look_at, moved_to, kept_current, open_to, pushed, fresh_link, next_packet, with_link, ended, with_view, joiner, come_to, admitted_view}
use Rattle.group_view.specs.View.{Group}
use Rattle.ring_rules.specs.View.{right_of}
use Rattle.ring_rules.specs.Event.{send_to, refreshed}

-- the state with one member more
abbrev pub with_joiner : World → Member → World
with_joiner w j = record w { members = w.members ++ j ∷ [] }

same_member : (w : World) (j : Member) (x : ℕ) → x < size w → member_at (with_joiner w j) x ≡ member_at w x
same_member w j x lt = get_or_append_left w.members (j ∷ []) no_member x lt

look_joined : (w : World) (j : Member) (x v : ℕ) → x < size w → look_at (with_joiner w j) x v ≡ with_joiner (look_at w x v) j
look_joined w j x v lt =
    let looks : Member → Member = λ m. record m { version = v; current = kept_current (λ s. is_kept w (link_at w s) v) m.current } in
    ap (λ m. record w { members = set (w.members ++ j ∷ []) x (looks m) }) (same_member w j x lt)
    ∙ ap (λ ms. record w { members = ms }) (set-append_left w.members (j ∷ []) x (moved_to w x v) lt)

open_joined : (w : World) (j : Member) (x z : ℕ) → x < size w → open_to (with_joiner w j) x z ≡ with_joiner (open_to w x z) j
open_joined w j x z lt =
    let opened : Member → Link = λ m. pushed (fresh_link w x z m.version) (next_packet m no_sending) in
    let sends : Member → Member = λ m. record m { out = Some (length w.links) } in
    ap (λ m. record w { members = set (w.members ++ j ∷ []) x (sends m); links = w.links ++ opened m ∷ [] }) (same_member w j x lt)
    ∙ ap (λ ms. record w { members = ms; links = w.links ++ opened (member_at w x) ∷ [] }) (set-append_left w.members (j ∷ []) x (sends (member_at w x)) lt)

send_joined : (w : World) (j : Member) (x z : ℕ) (o : Option ℕ) → x < size w → send_to (with_joiner w j) x z o ≡ with_joiner (send_to w x z o) j
send_joined w j x z None lt = open_joined w j x z lt
send_joined w j x z (Some o) lt = by_receiver (nat_eq (link_at w o).receiver z)
  where
    moved : World
    moved = with_link w o (ended Moved (link_at w o))

    by_receiver : (b : Bool) → (if b then with_joiner w j else open_to (with_joiner moved j) x z) ≡ with_joiner (if b then w else open_to moved x z) j
    by_receiver true = refl
    by_receiver false = open_joined moved j x z lt

pub refreshed_joined : (w : World) (j : Member) (x v : ℕ) → x < size w → refreshed (with_joiner w j) x v ≡ with_joiner (refreshed w x v) j
refreshed_joined w j x v lt =
    let z : ℕ = right_of (view_in w v) x in
    ap (λ m. send_to (look_at (with_joiner w j) x v) x z m.out) (same_member w j x lt)
    ∙ ap (λ u. send_to u x z (member_at w x).out) (look_joined w j x v lt)
    ∙ send_joined (look_at w x v) j x z (member_at w x).out (omega (arith, lt, length-set w.members x (moved_to w x v)))

-- what an admission leaves
pub admitted_state : (w u : World) (x : ℕ) (name : List ℕ) (v : Group) → x < size w → v ≡ admitted_view w x name → u ≡ refreshed (with_view w v) x (newest w + 1) → with_joiner u (joiner w name) ≡ refreshed (come_to w x name) x (newest w + 1)
admitted_state w u x name v lt ev eu =
    ap (λ k. with_joiner k (joiner w name)) (eu ∙ ap (λ g. refreshed (with_view w g) x (newest w + 1)) ev)
    ∙ sym (refreshed_joined (with_view w (admitted_view w x name)) (joiner w name) x (newest w + 1) lt)
