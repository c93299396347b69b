-- What a member shows that has another view, and what the others show then.
use Rattle.std.proofs.Common.{◌≡◌, ℕ, ◌<◌, Bool, true, false, cond, List, [], ◌∷◌, ◌++◌, length, map, Option, Some, None, refl, sym, ap, ◌∙◌, arith, ⊎_elim}
use Rattle.std.specs.Prelude.{◌&&◌, option_map}
use Rattle.std.specs.List.{filter}
use Rattle.std.proofs.lemmas.Bool.{and_parts}
use Rattle.std.proofs.lemmas.List.{append-nil}
use Rattle.group_view.specs.View.{Group}
use Rattle.group_view.specs.Ring.{is_in}
use Rattle.ring_rules.specs.Machine.{World, member_at, link_at, view_in, runs, runs_phase, is_kept}
use Rattle.ring_rules.specs.Step.{kept_current}
use Rattle.ring_rules.proofs.events.WhatRefuses.{MayLook}
use Rattle.ring_rules.proofs.invariants.Happens.{IsGood}
use Rattle.gm_member.specs.Held.{Held, Incoming, is_for, stays, kept_door, refreshed_held}
use Rattle.gm_member.specs.Stands.{incoming_in, waits_for, door_links, door_in, held_in}
use Rattle.gm_member.proofs.Doors.{stays_for, stays_kept}
use Rattle.ring_rules.proofs.work.OwnEnds.{OwnEnds}
use Rattle.gm_member.proofs.Parts.{there_same}
use Rattle.ring_parties.specs.Ends.{OutSeen}
use Rattle.ring_parties.specs.Parties.{Shown, EndsSeen}
use Rattle.ring_parties.specs.Standing.{Places, MemberStands, is_to, has_in}
use Rattle.ring_parties.specs.Acting.{beside, kept_end, looked_ends}
use Rattle.ring_parties.proofs.standing.Writing.{in_filter, map_agree}
use Rattle.ring_parties.proofs.standing.Placing.{stood_is, has_parts, current_has, waits_has}
use Rattle.ring_parties.proofs.deposits.Collections.{filter_map}

-- ---- lists

-- of two lists side by side that are made of the same
pub beside_made : {A B : Type 0} (t : A → Bool) (f : ℕ → A) (e : ℕ → B) (xs : List ℕ) → beside t (map f xs) (map e xs) ≡ map e (filter (λ s. t (f s)) xs)
beside_made t f e [] = refl
beside_made t f e (x ∷ xs) = by_case (t (f x)) (beside_made t f e xs)
  where
    by_case : (b : Bool) → beside t (map f xs) (map e xs) ≡ map e (filter (λ s. t (f s)) xs) → cond b (e x ∷ beside t (map f xs) (map e xs)) (beside t (map f xs) (map e xs)) ≡ map e (cond b (x ∷ filter (λ s. t (f s)) xs) (filter (λ s. t (f s)) xs))
    by_case true ih = ap (λ ys. e x ∷ ys) ih
    by_case false ih = ih

-- those that pass both tests
pub filter_both : (t u : ℕ → Bool) (xs : List ℕ) → filter u (filter t xs) ≡ filter (λ s. t s && u s) xs
filter_both t u [] = refl
filter_both t u (x ∷ xs) = by_case (t x) (filter_both t u xs)
  where
    by_case : (b : Bool) → filter u (filter t xs) ≡ filter (λ s. t s && u s) xs → filter u (cond b (x ∷ filter t xs) (filter t xs)) ≡ cond (b && u x) (x ∷ filter (λ s. t s && u s) xs) (filter (λ s. t s && u s) xs)
    by_case true ih = ap (λ ys. cond (u x) (x ∷ ys) ys) ih
    by_case false ih = ih

-- ---- the member that looks

-- its current link stays by its own test where the ring keeps it
pub for_kept : (u : World) (x v s : ℕ) → MayLook u x v → IsGood u → (member_at u x).current ≡ Some s → is_for (view_in u v) x (incoming_in u s) ≡ is_kept u (link_at u s) v
for_kept u x v s m h e =
    let rx : runs u x ≡ true = ap runs_phase m.up in
    let older = h.inv.current.opened x s rx e in
    let later = m.later in
    sym (stays_for u x v (incoming_in u s) h m.upto (omega arith)) ∙ stays_kept u x s v h (h.inv.current.lt x s rx e) (h.inv.current.receiver x s rx e) m.upto

-- where none waits for it, its door is the whole one
pub whole_door : (u : World) (p : Places) (x : ℕ) (a : Shown) (h : MemberStands u p x a) → filter (is_to u x) p.deposits ≡ [] → door_links u x ≡ h.door
whole_door u p x a h none = h.comes ∙ ap (λ ys. h.door ++ ys) none ∙ append-nil h.door

-- and it holds what the state has for it
pub whole_held : (u : World) (p : Places) (x : ℕ) (a : Shown) → MemberStands u p x a → filter (is_to u x) p.deposits ≡ [] → a.held ≡ held_in u x
whole_held u p x a h none = h.held ∙ ap (λ d. record (held_in u x) { door = map (incoming_in u) d }) (sym (whole_door u p x a h none))

-- it has a view, of which a test says which link it may take from still
pub looker : (u u' : World) (p p' : Places) (x : ℕ) (view : Group) (kept : ℕ → Bool) (a b : Shown) (out' : Option OutSeen) → OwnEnds u → ((s : ℕ) → (member_at u x).current ≡ Some s → is_for view x (incoming_in u s) ≡ kept s)
    → (h : MemberStands u p x a) → filter (is_to u x) p.deposits ≡ []
    → b.held ≡ refreshed_held a.held view → b.ends ≡ record (looked_ends view a) { out = out' } → out' ≡ option_map p'.outs (member_at u' x).out
    → (member_at u' x).current ≡ kept_current kept (member_at u x).current
    → ((ds : List Incoming) → record (refreshed_held (held_in u x) view) { door = ds } ≡ record (held_in u' x) { door = ds })
    → ((s : ℕ) → s < length u.links → p'.ins s ≡ p.ins s) → ((s : ℕ) → s < length u.links → incoming_in u' s ≡ incoming_in u s)
    → door_links u' x ≡ filter (λ s. stays view x (incoming_in u s)) (door_links u x) ++ filter (is_to u' x) p'.deposits
    → MemberStands u' p' x b
looker u u' p p' x view kept a b out' own test h none eh ee eo ec stand ins inc comes = record {
  door = filter keeps h.door;
  comes = comes ∙ ap (λ d. filter keeps d ++ filter (is_to u' x) p'.deposits) at;
  held = eh ∙ ap (λ k. refreshed_held k view) held_at ∙ stand (kept_door view x (door_in u x)) ∙ ap (λ ds. record (held_in u' x) { door = ds }) doors;
  out = ap (λ (e : EndsSeen). e.out) ee ∙ eo;
  returned = ap (λ (e : EndsSeen). e.returned) ee ∙ h.returned;
  link = ap (λ (e : EndsSeen). e.link) ee
      ∙ ap (λ (k : Held). kept_end view k.id k.current a.ends.link) held_at
      ∙ ap (kept_end view x (option_map (incoming_in u) (member_at u x).current)) h.link
      ∙ by_current (member_at u x).current refl
      ∙ sym (ap (option_map p'.ins) ec);
  ends = ap (λ (e : EndsSeen). e.door) ee
      ∙ ap (λ (k : Held). beside (stays view k.id) k.door a.ends.door) h.held
      ∙ ap (beside (stays view x) (map (incoming_in u) h.door)) h.ends
      ∙ beside_made (stays view x) (incoming_in u) (λ s. Some (p.ins s)) h.door
      ∙ sym (map_agree (λ s. Some (p'.ins s)) (λ s. Some (p.ins s)) (filter keeps h.door) (λ s e. ap Some (ins s (there s e))));
  old_outs = ap (λ (e : EndsSeen). e.old_outs) ee ∙ h.old_outs;
  old_ins = ap (λ (e : EndsSeen). e.old_ins) ee ∙ h.old_ins;
}
  where
    keeps : ℕ → Bool
    keeps s = stays view x (incoming_in u s)

    at : door_links u x ≡ h.door
    at = whole_door u p x a h none

    held_at : a.held ≡ held_in u x
    held_at = whole_held u p x a h none

    there : (s : ℕ) → is_in s (filter keeps h.door) ≡ true → s < length u.links
    there s e = (stood_is u p x s a h (and_parts (keeps s) (is_in s h.door) (sym (in_filter keeps s h.door) ∙ e)).1).0

    doors : kept_door view x (door_in u x) ≡ map (incoming_in u') (filter keeps h.door)
    doors =
        filter_map (stays view x) (incoming_in u) (door_links u x)
        ∙ ap (λ d. map (incoming_in u) (filter keeps d)) at
        ∙ sym (map_agree (incoming_in u') (incoming_in u) (filter keeps h.door) (λ s e. inc s (there s e)))

    made : (b : Bool) (s : ℕ) → p'.ins s ≡ p.ins s → cond b (Some (p.ins s)) None ≡ option_map p'.ins (cond b (Some s) None)
    made true s e = ap Some (sym e)
    made false s e = refl

    by_current : (c : Option ℕ) → (member_at u x).current ≡ c → kept_end view x (option_map (incoming_in u) c) (option_map p.ins c) ≡ option_map p'.ins (kept_current kept c)
    by_current None e = refl
    by_current (Some s) e =
        ap (λ b. cond b (Some (p.ins s)) None) (test s e)
        ∙ made (kept s) s (ins s (own.current x s e).0)

-- ---- another

pub beholder : (u u' : World) (p p' : Places) (z : ℕ) (m : Shown) → OwnEnds u → (h : MemberStands u p z m)
    → (member_at u' z).out ≡ (member_at u z).out → (member_at u' z).current ≡ (member_at u z).current
    → ((ds : List Incoming) → record (held_in u z) { door = ds } ≡ record (held_in u' z) { door = ds })
    → ((s : ℕ) → (member_at u z).out ≡ Some s → p'.outs s ≡ p.outs s)
    → ((s : ℕ) → s < length u.links → p'.ins s ≡ p.ins s) → ((s : ℕ) → s < length u.links → incoming_in u' s ≡ incoming_in u s)
    → ((ds : List ℕ) → door_links u z ≡ ds ++ filter (is_to u z) p.deposits → door_links u' z ≡ ds ++ filter (is_to u' z) p'.deposits)
    → MemberStands u' p' z m
beholder u u' p p' z m own h eo ec stand outs ins inc comes = record {
  door = h.door;
  comes = comes h.door h.comes;
  held = h.held ∙ stand (map (incoming_in u) h.door) ∙ ap (λ ds. record (held_in u' z) { door = ds }) (sym (map_agree (incoming_in u') (incoming_in u) h.door (λ s e. inc s (stood_is u p z s m h e).0)));
  out = h.out ∙ sym (there_same p'.outs p.outs (member_at u z).out (λ s e. outs s e)) ∙ sym (ap (option_map p'.outs) eo);
  returned = h.returned;
  link = h.link ∙ sym (there_same p'.ins p.ins (member_at u z).current (λ s e. ins s (own.current z s e).0)) ∙ sym (ap (option_map p'.ins) ec);
  ends = h.ends ∙ sym (map_agree (λ s. Some (p'.ins s)) (λ s. Some (p.ins s)) h.door (λ s e. ap Some (ins s (stood_is u p z s m h e).0)));
  old_outs = h.old_outs;
  old_ins = h.old_ins;
}

-- ---- links that may be taken from then, could be before

pub had_before : (u u' : World) (s : ℕ) → OwnEnds u → (link_at u' s).receiver ≡ (link_at u s).receiver
    → ((y : ℕ) → (member_at u' y).current ≡ Some s → (member_at u y).current ≡ Some s) → ((y : ℕ) → waits_for u' y s ≡ true → waits_for u y s ≡ true) → has_in u' s ≡ true → has_in u s ≡ true
had_before u u' s own to current waits h = ⊎_elim
    (λ (c : (member_at u' (link_at u' s).receiver).current ≡ Some s). current_has u (link_at u' s).receiver s own (current (link_at u' s).receiver c))
    (λ (t : waits_for u' (link_at u' s).receiver s ≡ true). waits_has u (link_at u' s).receiver s (sym to) (waits (link_at u' s).receiver t))
    (has_parts u' s h)
