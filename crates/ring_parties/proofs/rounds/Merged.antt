-- The merge of the local runs of a round is a run of the ring, and the members are then those of its last state.
use Rattle.std.proofs.Common.{◌≡◌, ◌≢◌, ◌⊎◌, inl, inr, ⊎_elim, ℕ, ◌<◌, ◌≤◌, List, [], ◌∷◌, ◌++◌, length, map, Option, Some, None, refl, sym, ap, subst, ◌∙◌, arith, append-nil}
use Rattle.std.specs.List.{flat_map, filter, range_with_len}
use Rattle.std.proofs.lemmas.Bool.{cases_eq, cases_lt}
use Rattle.ring_names.specs.declared.numbers.CreditSpec.{CreditSpec}
use Rattle.group_view.specs.Change.{AreOpeningNames}
use Rattle.lamport_merge.specs.Merge.{Entry, Log, own, merged, AreLogs}
use Rattle.lamport_merge.proofs.Merging.{own_here, own_past, merged_falls}
use Rattle.ring_rules.specs.declared.event.Event.{Event}
use Rattle.ring_rules.specs.Machine.{World, link_at}
use Rattle.ring_rules.specs.Step.{size, opening}
use Rattle.ring_rules.specs.Event.{refusal, effect, IsRun, last}
use Rattle.ring_rules.proofs.runs.OfEvents.{last_append, run_append}
use Rattle.gm_member.specs.Stands.{waits_for, door_links}
use Rattle.gm_member.proofs.Fit.{IsFit}
use Rattle.gm_member.proofs.Parts.{other_waits_not}
use Rattle.ring_parties.specs.Ends.{PacketShown, items_in}
use Rattle.ring_parties.specs.Standing.{is_to}
use Rattle.ring_parties.specs.RoundActs.{Stamped, acts_at, timed, puts, takes}
use Rattle.ring_parties.specs.Round.{Seat, Deed, IsLocalRun, Sits, Configuration, IsIn, SameLinks, items_at, grants_at, entries_by, TookTurns, events_in, configuration_of}
use Rattle.ring_parties.proofs.work.Lawful.{IsLawfulAt, lawful_at}
use Rattle.ring_parties.proofs.standing.Writing.{placed, placed_same, placed_other}
use Rattle.ring_parties.proofs.rounds.Acts.{Replays, link_replays, replays_parts, things-early}
use Rattle.ring_parties.proofs.rounds.Seats.{Moves, Turn}
use Rattle.ring_parties.proofs.rounds.EachEntry.{Goes, entry_goes}
use Rattle.ring_parties.proofs.rounds.Parts.{told, own_is_by, one_gives, all_each, item_puts, item_takes, grant_puts, grant_takes, items_put, items_taken, grants_put, grants_taken, items_stamped, grants_stamped, items_rise, grants_rise, Each, IsStamped}
use Rattle.ring_parties.proofs.rounds.Deeds.{local_stamped, local_sends, local_takes, AllBut, but_first, but_filter, IsApart}

-- ---- one after another

-- each run from w on keeps what the members' steps rest on
StaysLawful : CreditSpec → World → Type 0
StaysLawful credit w = (es : List Event) → IsRun w es → IsLawfulAt credit (last w es)

stays_lawful : (credit : CreditSpec) (w : World) → StaysLawful credit w → IsLawfulAt credit w
unfolding StaysLawful
stays_lawful credit w h = h [] tt

stays_later : (credit : CreditSpec) (w : World) (e : Event) → refusal w e ≡ None → StaysLawful credit w → StaysLawful credit (effect w e)
unfolding StaysLawful
stays_later credit w e enabled h es r = h (e ∷ es) (enabled, r)

-- an id is a member's, or nobody's
pub member_or_not : (n p : ℕ) → ((1 ≤ p) × (p < n)) ⊎ ((p < 1) ⊎ (n ≤ p))
member_or_not n p = ⊎_elim
    (λ (l : p < 1). inr (inl l))
    (λ (g : 1 ≤ p). ⊎_elim (λ (l : p < n). inl (g, l)) (λ (k : n ≤ p). inr (inr k)) (cases_lt p n))
    (cases_lt p 1)

-- who has an entry is a member
is_member : (w : World) (e : Entry Deed) (m : List (Entry Deed)) → ((p : ℕ) → (p < 1) ⊎ (size w ≤ p) → own p (e ∷ m) ≡ []) → (1 ≤ e.party) × (e.party < size w)
is_member w e m nobody = ⊎_elim
    (λ (k : (1 ≤ e.party) × (e.party < size w)). k)
    (λ (k : (e.party < 1) ⊎ (size w ≤ e.party)). absurd (not_there (sym (own_here e.party e m refl) ∙ nobody e.party k)))
    (member_or_not (size w) e.party)
  where
    not_there : told e ∷ own e.party m ≡ [] → ⊥
    not_there k = cc

-- and no nobody
out_of : (n n' x p : ℕ) → n' ≡ n → (1 ≤ x) × (x < n) → x ≡ p → (p < 1) ⊎ (n' ≤ p) → ⊥
out_of n n' x p e k same (inl l) = omega (arith, e, k.0, k.1, same, l)
out_of n n' x p e k same (inr l) = omega (arith, e, k.0, k.1, same, l)

-- no link opens in two steps
links_both : (w w1 w2 : World) → SameLinks w w1 → SameLinks w1 w2 → SameLinks w w2
links_both w w1 w2 a b = record {
  size_is = b.size_is ∙ a.size_is;
  views = b.views ∙ a.views;
  many = b.many ∙ a.many;
  names = λ s. b.names s ∙ a.names s;
  has_outs = λ s. b.has_outs s ∙ a.has_outs s;
  opens = λ s has. a.opens s (b.opens s has);
}

-- The entries of a merge are a run, where each party's own are a local run, and what is done to each link replays there; all are then those of
-- its last state, and no link has opened.
merge_runs : (credit : CreditSpec) (m : List (Entry Deed)) (w : World) (post : List ℕ) (a b : Configuration) → StaysLawful credit w → IsIn w post a
    → ((p : ℕ) → 1 ≤ p → p < size w → IsLocalRun (own p m) (a.seats p) (b.seats p)) → ((p : ℕ) → (p < 1) ⊎ (size w ≤ p) → own p m ≡ [])
    → ((s : ℕ) → Replays (a.items s) (items_at s (map told m)) (b.items s)) → ((s : ℕ) → Replays (a.grants s) (grants_at s (map told m)) (b.grants s))
    → IsRun w (events_in m) × IsIn (last w (events_in m)) post b × SameLinks w (last w (events_in m))
merge_runs credit [] w post a b stays h runs nobody items grants = (
  tt,
  record {
    seats = λ p some lt. subst (Sits w post p) (sym (runs p some lt)) (h.seats p some lt);
    items = λ s over. ap (λ q. map (λ (z : Stamped (Option PacketShown)). z.it) q) (items s) ∙ h.items s over;
    grants = λ s. ap (λ q. map (λ (z : Stamped ℕ). z.it) q) (grants s) ∙ h.grants s;
  },
  record { size_is = refl; views = refl; many = refl; names = λ s. refl; has_outs = λ s. refl; opens = λ s has. has },
)
merge_runs credit (e ∷ m) w post a b stays h runs nobody items grants =
    let x : ℕ = e.party in
    let v : Event = e.event.event in
    let k : (1 ≤ x) × (x < size w) = is_member w e m nobody in
    let l : IsLocalRun (told e ∷ own x m) (a.seats x) (b.seats x) = subst (λ es. IsLocalRun es (a.seats x) (b.seats x)) (own_here x e m refl) (runs x k.0 k.1) in
    let c : Seat = l.0 in
    let cut = λ (s : ℕ). replays_parts (a.items s) (timed e.time (acts_at s e.event.there)) (items_at s (map told m)) (b.items s) (items s) in
    let cut_back = λ (s : ℕ). replays_parts (a.grants s) (timed e.time (acts_at s e.event.back)) (grants_at s (map told m)) (b.grants s) (grants s) in
    let a1 : Configuration = record { seats = placed a.seats x c; items = λ s. (cut s).0; grants = λ s. (cut_back s).0 } in
    let moves : Moves x e.time e.event c a a1 = record { it = placed_same a.seats x c; others = λ y ne. placed_other a.seats x c y ne; items = λ s. (cut s).1; grants = λ s. (cut_back s).1 } in
    let turn : Turn credit w post x e.time e.event c a a1 = record { lawful = stays_lawful credit w stays; before = h; some = k.0; is_member = k.1; moves = moves } in
    let goes : Goes w post v a1 = entry_goes credit w post x e.time e.event c a a1 turn (λ r. (stays_lawful credit (effect w v) (stays_later credit w v r stays)).fit) l.1 in
    let rest : IsRun (effect w v) (events_in m) × IsIn (last (effect w v) (events_in m)) post b × SameLinks (effect w v) (last (effect w v) (events_in m)) =
    merge_runs credit m (effect w v) post a1 b (stays_later credit w v goes.enabled stays) goes.after
    (λ p some lt. ⊎_elim
    (λ (is : p ≡ x). subst (λ q. IsLocalRun (own q m) (placed a.seats x c q) (b.seats q)) (sym is) (subst (λ g. IsLocalRun (own x m) g (b.seats x)) (sym (placed_same a.seats x c)) l.2))
    (λ (ne : p ≢ x). subst (λ g. IsLocalRun (own p m) g (b.seats p)) (sym (placed_other a.seats x c p ne)) (subst (λ es. IsLocalRun es (a.seats p) (b.seats p)) (own_past p e m (λ (q : x ≡ p). ne (sym q))) (runs p some (omega (arith, lt, goes.links.size_is)))))
    (cases_eq p x))
    (λ p no_member. sym (own_past p e m (λ (q : x ≡ p). out_of (size w) (size (effect w v)) x p goes.links.size_is k q no_member)) ∙ nobody p (subst (λ n. (p < 1) ⊎ (n ≤ p)) goes.links.size_is no_member))
    (λ s. (cut s).2) (λ s. (cut_back s).2)
    in
    ((goes.enabled, rest.0), rest.1, links_both w (effect w v) (last (effect w v) (events_in m)) goes.links rest.2)

-- ---- the logs of a round

-- in a state that a run reaches
reaches_lawful : (credit : CreditSpec) (names : List (List ℕ)) (before : List Event) → AreOpeningNames names → IsRun (opening credit names) before → StaysLawful credit (last (opening credit names) before)
unfolding StaysLawful
reaches_lawful credit names before are r es more =
    subst (IsLawfulAt credit) (last_append (opening credit names) before es) (lawful_at credit names (before ++ es) are (run_append (opening credit names) before es r more))

module _ (w : World) (post : List ℕ) (logs : List (Log Deed)) (a b : Configuration) (fit : IsFit w) (h : IsIn w post a) (are : AreLogs logs) (turns : TookTurns w logs a b) where
  -- what the merge has of each member
  mine : (x : ℕ) → own x (merged logs) ≡ entries_by x logs
  mine x = own_is_by x logs are

  runs : (x : ℕ) → 1 ≤ x → x < size w → IsLocalRun (own x (merged logs)) (a.seats x) (b.seats x)
  runs x some lt = subst (λ es. IsLocalRun es (a.seats x) (b.seats x)) (sym (mine x)) (turns.runs x some lt)

  nobody : (x : ℕ) → (x < 1) ⊎ (size w ≤ x) → own x (merged logs) ≡ []
  nobody x no_member = mine x ∙ turns.nobody_else x no_member

  stamped : (s : ℕ) → Each (IsStamped s) (map told (merged logs))
  stamped s = all_each (IsStamped s) (merged logs) (λ p. ⊎_elim
      (λ (k : (1 ≤ p) × (p < size w)). local_stamped s (own p (merged logs)) (a.seats p) (b.seats p) (runs p k.0 k.1))
      (λ (k : (p < 1) ⊎ (size w ≤ p)). subst (Each (IsStamped s)) (sym (nobody p k)) tt)
      (member_or_not (size w) p))

  -- nobody else sends on a link
  apart_out : (s p : ℕ) → 1 ≤ p → p < size w → p ≢ (link_at w s).sender → (a.seats p).out ≢ Some s
  apart_out s p some lt ne e = ne (sym (fit.own_ends.out p s (sym (h.seats p some lt).out ∙ e)).1)

  -- nor takes from it
  apart_in : (s p : ℕ) → 1 ≤ p → p < size w → p ≢ (link_at w s).receiver → IsApart s (a.seats p)
  apart_in s p some lt ne = (
    (λ (e : (a.seats p).current ≡ Some s). ne (sym (fit.own_ends.current p s (sym (h.seats p some lt).current ∙ e)).1)),
    but_first s (a.seats p).door (filter (is_to w p) post) (subst (AllBut s) (h.seats p some lt).door (but_filter s (waits_for w p) (range_with_len 0 (length w.links)) (other_waits_not w p s (λ e. ne (sym e))))),
  )

  others_send : (s p : ℕ) → p ≢ (link_at w s).sender → (flat_map (item_puts s) (own p (merged logs)) ≡ []) × (flat_map (grant_takes s) (own p (merged logs)) ≡ [])
  others_send s p ne = ⊎_elim
      (λ (k : (1 ≤ p) × (p < size w)). local_sends s (own p (merged logs)) (a.seats p) (b.seats p) (apart_out s p k.0 k.1 ne) (runs p k.0 k.1))
      (λ (k : (p < 1) ⊎ (size w ≤ p)). (ap (flat_map (item_puts s)) (nobody p k), ap (flat_map (grant_takes s)) (nobody p k)))
      (member_or_not (size w) p)

  others_take : (s p : ℕ) → p ≢ (link_at w s).receiver → (flat_map (item_takes s) (own p (merged logs)) ≡ []) × (flat_map (grant_puts s) (own p (merged logs)) ≡ [])
  others_take s p ne = ⊎_elim
      (λ (k : (1 ≤ p) × (p < size w)). local_takes s (own p (merged logs)) (a.seats p) (b.seats p) (apart_in s p k.0 k.1 ne) (runs p k.0 k.1))
      (λ (k : (p < 1) ⊎ (size w ≤ p)). (ap (flat_map (item_takes s)) (nobody p k), ap (flat_map (grant_puts s)) (nobody p k)))
      (member_or_not (size w) p)

  -- so of each link the whole merge puts what its sender's log puts, and takes what its receiver's takes
  items_replay : (s : ℕ) → Replays (a.items s) (items_at s (map told (merged logs))) (b.items s)
  items_replay s =
      let x : ℕ = (link_at w s).sender in
      let y : ℕ = (link_at w s).receiver in
      let m : List (Entry Deed) = merged logs in
      let sends : puts (items_at s (map told m)) ≡ puts (items_at s (entries_by x logs)) =
      items_put s (map told m) ∙ one_gives (item_puts s) x m (λ p ne. (others_send s p ne).0) ∙ sym (items_put s (own x m)) ∙ ap (λ es. puts (items_at s es)) (mine x) in
      let takes_it : takes (items_at s (map told m)) ≡ takes (items_at s (entries_by y logs)) =
      items_taken s (map told m) ∙ one_gives (item_takes s) y m (λ p ne. (others_take s p ne).0) ∙ sym (items_taken s (own y m)) ∙ ap (λ es. takes (items_at s es)) (mine y) in
      link_replays 0 (a.items s) (items_at s (map told m)) (b.items s) (items_rise s 0 m (merged_falls logs)) (items_stamped s (map told m) (stamped s))
      (ap (λ q. a.items s ++ q) sends ∙ turns.items s ∙ ap (λ q. q ++ b.items s) (sym takes_it))

  grants_replay : (s : ℕ) → Replays (a.grants s) (grants_at s (map told (merged logs))) (b.grants s)
  grants_replay s =
      let x : ℕ = (link_at w s).sender in
      let y : ℕ = (link_at w s).receiver in
      let m : List (Entry Deed) = merged logs in
      let gives : puts (grants_at s (map told m)) ≡ puts (grants_at s (entries_by y logs)) =
      grants_put s (map told m) ∙ one_gives (grant_puts s) y m (λ p ne. (others_take s p ne).1) ∙ sym (grants_put s (own y m)) ∙ ap (λ es. puts (grants_at s es)) (mine y) in
      let gains : takes (grants_at s (map told m)) ≡ takes (grants_at s (entries_by x logs)) =
      grants_taken s (map told m) ∙ one_gives (grant_takes s) x m (λ p ne. (others_send s p ne).1) ∙ sym (grants_taken s (own x m)) ∙ ap (λ es. takes (grants_at s es)) (mine x) in
      link_replays 0 (a.grants s) (grants_at s (map told m)) (b.grants s) (grants_rise s 0 m (merged_falls logs)) (grants_stamped s (map told m) (stamped s))
      (ap (λ q. a.grants s ++ q) gives ∙ turns.grants s ∙ ap (λ q. q ++ b.grants s) (sym gains))

pub round_runs : (credit : CreditSpec) (names : List (List ℕ)) (before : List Event) (post : List ℕ) (logs : List (Log Deed)) (a b : Configuration) → AreOpeningNames names → IsRun (opening credit names) before → IsIn (last (opening credit names) before) post a → AreLogs logs → TookTurns (last (opening credit names) before) logs a b
    → IsRun (opening credit names) (before ++ events_in (merged logs)) × IsIn (last (opening credit names) (before ++ events_in (merged logs))) post b
    × SameLinks (last (opening credit names) before) (last (opening credit names) (before ++ events_in (merged logs)))
round_runs credit names before post logs a b names_are r h are turns =
    let w : World = last (opening credit names) before in
    let stays : StaysLawful credit w = reaches_lawful credit names before names_are r in
    let fit : IsFit w = (stays_lawful credit w stays).fit in
    let goes : IsRun w (events_in (merged logs)) × IsIn (last w (events_in (merged logs))) post b × SameLinks w (last w (events_in (merged logs))) =
    merge_runs credit (merged logs) w post a b stays h (runs w post logs a b fit h are turns) (nobody w post logs a b fit h are turns) (items_replay w post logs a b fit h are turns) (grants_replay w post logs a b fit h are turns) in (
      run_append (opening credit names) before (events_in (merged logs)) r goes.0,
      subst (λ v. IsIn v post b) (sym (last_append (opening credit names) before (events_in (merged logs)))) goes.1,
      subst (SameLinks w) (sym (last_append (opening credit names) before (events_in (merged logs)))) goes.2,
    )

-- ---- every state has such members

pub configuration_is : (w : World) → IsIn w [] (configuration_of w)
configuration_is w = record {
  seats = λ x _ _. record { held = refl; keeps = refl; out = refl; current = refl; door = sym (append-nil (door_links w x)) };
  items = λ s _. things-early (items_in w (link_at w s));
  grants = λ s. things-early (link_at w s).flow.grants;
}
