-- Who may still take from a link after a round took no end from it.
use Rattle.std.proofs.Common.{◌≡◌, ◌≢◌, ◌⊎◌, inl, inr, ⊎_elim, ℕ, zero, suc, ◌+◌, ◌<◌, Bool, true, false, cond, nat_eq, List, [], ◌∷◌, ◌++◌, length, take, drop, get_or, Option, Some, None, is_some, refl, sym, ap, subst, ◌∙◌, arith}
use Rattle.std.specs.Prelude.{◌||◌, ◌&&◌}
use Rattle.std.specs.List.{flat_map, filter, range_with_len}
use Rattle.std.proofs.lemmas.Bool.{false≢true, cases_eq, false_from_ne_true}
use Rattle.std.proofs.lemmas.List.{map-append}
use Rattle.group_view.specs.Ring.{is_in, AreDistinct}
use Rattle.group_view.proofs.Rings.{is_in-append, nat_eq-same, nat_eq-not, distinct_first, distinct_parts}
use Rattle.ring_rules.specs.declared.phase.Ending.{Ending}
use Rattle.ring_rules.specs.declared.kind.LinkStep.TheVariants as step
use Rattle.ring_rules.specs.Compact.{passed}
use Rattle.ring_rules.specs.Kind.{Kind, Says, Steps, Copying, Changes, Stops, Reads, Tells, kind_of}
use Rattle.ring_rules.specs.Machine.{World, Packet, Sending, member_at, link_at}
use Rattle.ring_rules.specs.OpenLinks.{is_place}
use Rattle.ring_rules.proofs.walks.OpenWalk.{place_is}
use Rattle.gm_member.specs.Held.{at_some, without}
use Rattle.gm_member.specs.Stands.{waits_for, door_links}
use Rattle.gm_member.proofs.Parts.{current_waits_not}
use Rattle.ring_parties.specs.Ends.{PacketShown, packets_in, end_items}
use Rattle.ring_parties.specs.Standing.{is_to}
use Rattle.ring_parties.specs.RoundActs.{Stamped, Act, push, pop, things, acts_at, timed, takes}
use Rattle.ring_parties.specs.Round.{Seat, Deed, Did, IsLocalRun, Sits, items_at}
use Rattle.ring_parties.specs.Closed.{may_take, has_end}
use Rattle.ring_parties.proofs.standing.Writing.{in_tail, in_filter}
use Rattle.ring_parties.proofs.standing.Placing.{in_door_is, door_distinct}
use Rattle.ring_parties.proofs.rounds.Deeds.{at_one, push_takes, pop_apart, none_takes, AllBut, but_at, but_append, but_take, but_drop, but_first, but_filter, IsApart, local_apart, local_takes}
use Rattle.ring_parties.proofs.rounds.Parts.{item_takes, items_taken}

-- ---- the end among items

-- of a link it is there where it has ended
pub end_told : (w : World) (before : Sending) (ks : List Packet) (e : Option Ending) → has_end (packets_in w before ks ++ end_items e) ≡ is_some e
end_told w before [] None = refl
end_told w before [] (Some why) = refl
end_told w before (k ∷ ks) e = end_told w (passed k) ks e

-- of two lists, one behind the other
pub has_end-append : (xs ys : List (Option PacketShown)) → has_end (xs ++ ys) ≡ (has_end xs || has_end ys)
has_end-append [] ys = refl
has_end-append (Some k ∷ xs) ys = has_end-append xs ys
has_end-append (None ∷ xs) ys = refl

none_in : (xs ys : List (Option PacketShown)) → has_end xs ≡ false → has_end ys ≡ false → has_end (xs ++ ys) ≡ false
none_in xs ys e f = has_end-append xs ys ∙ ap (λ b. b || has_end ys) e ∙ f

-- ---- a link stands at a place only once

-- at a door
abbrev OnceIn : ℕ → List ℕ → Type 0
OnceIn s [] = Unit {0}
OnceIn s (k ∷ ks) = (k ≡ s → AllBut s ks) × OnceIn s ks

-- what isn't there
pub but_absent : (s : ℕ) (ks : List ℕ) → is_in s ks ≡ false → AllBut s ks
but_absent s [] e = tt
but_absent s (k ∷ ks) e = let t = in_tail s k ks e in ((λ (same : k ≡ s). t.0 (sym same)), but_absent s ks t.1)

absent_but : (s : ℕ) (ks : List ℕ) → AllBut s ks → is_in s ks ≡ false
absent_but s [] h = refl
absent_but s (k ∷ ks) h = ap (λ b. cond b true (is_in s ks)) (nat_eq-not s k (λ e. h.0 (sym e))) ∙ absent_but s ks h.1

once_in : (s : ℕ) (ks : List ℕ) → AreDistinct ks → OnceIn s ks
once_in s [] d = tt
once_in s (k ∷ ks) d = ((λ (same : k ≡ s). but_absent s ks (subst (λ j. is_in j ks ≡ false) same d.0)), once_in s ks d.1)

-- one of a longer list goes
without_next : (i k : ℕ) (ks : List ℕ) → without (suc i) (k ∷ ks) ≡ k ∷ without i ks
without_next i k ks = let e : suc i + 1 ≡ suc (i + 1) = omega arith in ap (λ n. k ∷ (take i ks ++ drop n (k ∷ ks))) e

-- the link that goes isn't there again
once_gone : (s i : ℕ) (ks : List ℕ) → OnceIn s ks → i < length ks → get_or ks i 0 ≡ s → AllBut s (without i ks)
once_gone s i [] o l e = absurd (omega (arith, l))
once_gone s zero (k ∷ ks) o l e = o.0 e
once_gone s (suc i) (k ∷ ks) o l e =
    subst (AllBut s) (sym (without_next i k ks)) ((λ (same : k ≡ s). but_at s i ks (o.0 same) (omega (arith, l)) e), once_gone s i ks o.1 (omega (arith, l)) e)

-- and the others are there once
once_left : (s i : ℕ) (ks : List ℕ) → OnceIn s ks → i < length ks → OnceIn s (without i ks)
once_left s i [] o l = absurd (omega (arith, l))
once_left s zero (k ∷ ks) o l = o.1
once_left s (suc i) (k ∷ ks) o l =
    subst (OnceIn s) (sym (without_next i k ks))
    ((λ (same : k ≡ s). but_append s (take i ks) (drop (i + 1) ks) (but_take s i ks (o.0 same)) (but_drop s (i + 1) ks (o.0 same))), once_left s i ks o.1 (omega (arith, l)))

-- the link from which a member takes isn't at its door, where each is only once
abbrev HasOnce : ℕ → Seat → Type 0
HasOnce s a = (a.current ≡ Some s → AllBut s a.door) × OnceIn s a.door

-- that stays so
did_once : (s : ℕ) (kind : Kind) (t : ℕ) (d : Deed) (a b : Seat) → HasOnce s a → Did kind t d a b → HasOnce s b
did_once s (Says y) t d a b h (m, ok, says, is, none) = subst (HasOnce s) (sym is) h
did_once s (Steps step.Put) t d a b h (out, k, stamp, held_out, on, ok, after, is, there, back) = subst (HasOnce s) (sym is) h
did_once s (Steps step.Take) t d a b h (q, k, stamp, given, on, ok, later, after, is, there, back) = subst (HasOnce s) (sym is) h
did_once s (Steps step.TakeEnd) t d a b h (k, stamp, on, ok, later, is, there, back) = subst (HasOnce s) (sym is) ((λ (e : None ≡ Some s). cc), h.1)
did_once s (Steps step.Gain) t d a b h (k, stamp, g, on, ok, later, is, there, back) = subst (HasOnce s) (sym is) h
did_once s Stops t d a b h (stamp, ok, after, is, there, back) = subst (HasOnce s) (sym is) h
did_once s (Steps step.Pick) t d a b h (i, inside, first, ok, is, none) = subst (HasOnce s) (sym is)
    ((λ (e : Some (get_or a.door i 0) ≡ Some s). once_gone s i a.door h.1 inside (let same : get_or a.door i 0 ≡ s = cc in same)), once_left s i a.door h.1 inside)
did_once s (Tells code inner) t d a b h (ok, is, none) = subst (HasOnce s) (sym is) h
did_once s (Copying c) t d a b h did = absurd did
did_once s (Changes c) t d a b h did = absurd did
did_once s (Reads version) t d a b h did = absurd did

-- ---- what is taken

-- an entry takes no end from a link, or its member is apart from that then
abbrev TakesNoEnd : ℕ → ℕ → Deed → Type 0
TakesNoEnd s t d = has_end (things (takes (timed t (acts_at s d.there)))) ≡ false

no_end : (s t : ℕ) (d : Deed) → takes (timed t (acts_at s d.there)) ≡ [] → TakesNoEnd s t d
no_end s t d e = ap (λ xs. has_end (things xs)) e

did_end : (s : ℕ) (kind : Kind) (t : ℕ) (d : Deed) (a b : Seat) → HasOnce s a → Did kind t d a b → TakesNoEnd s t d ⊎ IsApart s b
did_end s (Says y) t d a b h (m, ok, says, is, none) = inl (no_end s t d (none_takes t s d.there none.0))
did_end s (Steps step.Put) t d a b h (out, k, stamp, held_out, on, ok, after, is, there, back) = inl (no_end s t d (push_takes t k s _ d.there there))
did_end s (Steps step.Take) t d a b h (q, k, stamp, given, on, ok, later, after, is, there, back) =
    inl (subst (λ (more : List (ℕ × Act (Option PacketShown))). has_end (things (takes (timed t (acts_at s more)))) ≡ false) (sym there)
    (at_one (λ (acts : List (Act (Option PacketShown))). has_end (things (takes (timed t acts))) ≡ false) k s (pop _) refl refl))
did_end s (Steps step.TakeEnd) t d a b h (k, stamp, on, ok, later, is, there, back) = ⊎_elim
    (λ (same : s ≡ k). inr (subst (IsApart s) (sym is) ((λ (e : None ≡ Some s). cc), h.0 (on ∙ ap Some (sym same)))))
    (λ (ne : s ≢ k). inl (no_end s t d (pop_apart t k s _ d.there there ne)))
    (cases_eq s k)
did_end s (Steps step.Gain) t d a b h (k, stamp, g, on, ok, later, is, there, back) = inl (no_end s t d (none_takes t s d.there there))
did_end s Stops t d a b h (stamp, ok, after, is, there, back) = inl (no_end s t d (by_out a.out there))
  where
    by_out : (out : Option ℕ) → d.there ≡ at_some out [] (λ k. (k, push (record { stamp = stamp; it = None })) ∷ []) → takes (timed t (acts_at s d.there)) ≡ []
    by_out None e = none_takes t s d.there e
    by_out (Some k) e = push_takes t k s _ d.there e
did_end s (Steps step.Pick) t d a b h (i, inside, first, ok, is, none) = inl (no_end s t d (none_takes t s d.there none.0))
did_end s (Tells code inner) t d a b h (ok, is, none) = inl (no_end s t d (none_takes t s d.there none.0))
did_end s (Copying c) t d a b h did = absurd did
did_end s (Changes c) t d a b h did = absurd did
did_end s (Reads version) t d a b h did = absurd did

-- who isn't apart from a link after a local run has taken no end from it
local_end : (s : ℕ) (es : List (ℕ × Deed)) (a b : Seat) → HasOnce s a → IsLocalRun es a b → (IsApart s b → ⊥) → has_end (things (flat_map (item_takes s) es)) ≡ false
local_end s [] a b h l ne = refl
local_end s (e ∷ es) a b h (c, does, later) ne =
    let rest = local_end s es c b (did_once s (kind_of e.1.event) e.0 e.1 a c h does.1) later ne in
    ⊎_elim
    (λ (k : TakesNoEnd s e.0 e.1). ap has_end (map-append (λ (z : Stamped (Option PacketShown)). z.it) (item_takes s e) (flat_map (item_takes s) es)) ∙ none_in (things (item_takes s e)) (things (flat_map (item_takes s) es)) k rest)
    (λ (apart : IsApart s c). absurd (ne (local_apart s es c b apart later)))
    (did_end s (kind_of e.1.event) e.0 e.1 a c h does.1)

-- ---- from a seat in a state

module _ (w : World) (post : List ℕ) (y s : ℕ) (a : Seat) (h : Sits w post y a) (to : (link_at w s).receiver ≡ y) where
  -- what is at its door isn't its current link
  waits_at_door : is_in s (door_links w y) ≡ true → (member_at w y).current ≡ Some s → ⊥
  waits_at_door i c = false≢true (sym (current_waits_not w y s c) ∙ (in_door_is w y s i).1)

  sits_once : HasOnce s a
  sits_once = (
    (λ e. but_first s a.door (filter (is_to w y) post) (subst (AllBut s) h.door (but_filter s (waits_for w y) (range_with_len 0 (length w.links)) (current_waits_not w y s (sym h.current ∙ e))))),
    once_in s a.door (distinct_first a.door (filter (is_to w y) post) (subst AreDistinct h.door (door_distinct w y))),
  )

  -- what waits at the registrar
  posted_apart : is_in s post ≡ true → IsApart s a
  posted_apart i =
      let later : is_in s (filter (is_to w y) post) ≡ true = in_filter (is_to w y) s post ∙ ap (λ b. b && is_in s post) (ap (λ k. nat_eq k y) to ∙ nat_eq-same y) ∙ i in
      let none : is_in s a.door ≡ false =
      false_from_ne_true (is_in s a.door) (λ e. false≢true (sym (distinct_parts s a.door (filter (is_to w y) post) (subst AreDistinct h.door (door_distinct w y)) e) ∙ later)) in
      let there : is_in s (door_links w y) ≡ true = ap (is_in s) h.door ∙ is_in-append s a.door (filter (is_to w y) post) ∙ ap (λ b. cond b true (is_in s (filter (is_to w y) post))) none ∙ later in
      ((λ (e : a.current ≡ Some s). waits_at_door there (sym h.current ∙ e)), but_absent s a.door none)

  -- no end was taken of a link that it may take from after a local run
  pub open_unended : (es : List (ℕ × Deed)) (b : Seat) → IsLocalRun es a b → may_take post b s ≡ true → has_end (things (takes (items_at s es))) ≡ false
  open_unended es b l may = ap (λ xs. has_end (things xs)) (items_taken s es) ∙ by_post (is_in s post) refl
    where
      not_apart : is_in s post ≡ false → IsApart s b → ⊥
      not_apart none apart = false≢true (sym (by_tests (is_place b.current s) (is_in s b.door) (is_in s post) (false_from_ne_true (is_place b.current s) (λ e. apart.0 (place_is b.current s e))) (absent_but s b.door apart.1) none) ∙ may)
        where
          by_tests : (p d q : Bool) → p ≡ false → d ≡ false → q ≡ false → (p || (d || q)) ≡ false
          by_tests false false false e f g = refl
          by_tests true d q e f g = absurd (false≢true (sym e))
          by_tests false true q e f g = absurd (false≢true (sym f))
          by_tests false false true e f g = absurd (false≢true (sym g))

      by_post : (c : Bool) → is_in s post ≡ c → has_end (things (flat_map (item_takes s) es)) ≡ false
      by_post false none = local_end s es a b sits_once l (not_apart none)
      by_post true i = ap (λ xs. has_end (things xs)) (local_takes s es a b (posted_apart i) l).0
