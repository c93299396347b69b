-- A cast keeps the whole invariant.
use Rattle.std.proofs.Common.{◌≡◌, ◌≢◌, ℕ, ◌<◌, ◌≤◌, true, false, List, [], ◌∷◌, ◌++◌, length, get_or, refl, sym, ap, subst, ◌∙◌, arith, ⊎_elim}
use Rattle.std.specs.List.{filter, flat_map}
use Rattle.std.proofs.lemmas.Bool.{cases_eq, cases_lt, false≢true}
use Rattle.std.proofs.lemmas.List.{length-set, get_or-set_other}
use Rattle.std.proofs.lemmas.List.Elements.{filter_agree}
use Rattle.group_view.specs.Ring.{rotated, others, is_in}
use Rattle.ring_rules.specs.Machine.{Phase, Waiting, Up, Stopped, World, Packet, Member, Link, no_member, member_at, link_at, row_at, numbers_at, newest, ring, runs, runs_phase, is_kept, is_waiting}
use Rattle.ring_rules.specs.Rows.{Row, no_row, published_row}
use Rattle.ring_rules.specs.declared.numbers.Numbers.{Numbers}
use Rattle.ring_rules.specs.OpenLinks.{FallsFrom, own_number, number, NeverRises}
use Rattle.ring_rules.proofs.walks.CountedWalk.{is_early, only, no_but, counted, counted_by, numbers, block, round_of, retired_by, walk_over, walk, running_from, stopped_from, stopped_prefix}
use Rattle.ring_rules.specs.Step.{size, published, publish_at}
use Rattle.ring_rules.proofs.rings.Lists.{at_set, set_nothing}
use Rattle.group_view.proofs.Rings.{rotated_is}
use Rattle.ring_rules.proofs.walks.Links.{numbers_none, numbers_agree}
use Rattle.ring_rules.proofs.invariants.Good.{IsRing, never_rises_still}
use Rattle.ring_rules.proofs.invariants.Standing.{knows}
use Rattle.ring_rules.proofs.invariants.Shape.{IsShaped, member_shaped}
use Rattle.ring_rules.proofs.walks.Put.{runs_phase-Up, number_up}
use Rattle.ring_rules.proofs.walks.Take.{blocks_same, head_once}
use Rattle.ring_rules.proofs.walks.Back.{same_runners}
use Rattle.ring_rules.proofs.walks.Cast.{cast_walk_other}
use Rattle.ring_rules.proofs.invariants.Kept.{Inv, shaped_packed, shaped_current, shaped_keeps, set_alike, waits_alike}
use Rattle.queue_core.specs.declared.message.Message.{Message}

-- of a message
module _ (m : Message) where
  -- ---- rows

  pub gained_rows : (P : Row → Row → Type 0) (x p : ℕ) (y : Member) → ((r : Row) → P r r) → P (row_at y x) (published_row (row_at y x) m) → P (row_at y p) (row_at (published x m y) p)
  gained_rows P x p y same grew = ⊎_elim
      (λ (lt : x < length y.rows). at_set (λ i r. P (row_at y i) r) y.rows x p (published_row (row_at y x) m) no_row lt grew (λ _. same (row_at y p)))
      (λ (ge : length y.rows ≤ x). subst (λ rs. P (row_at y p) (get_or rs p no_row)) (sym (set_nothing y.rows x (published_row (row_at y x) m) ge)) (same (row_at y p)))
      (cases_lt x (length y.rows))

  pub cast_member : (w : World) (x q : ℕ) (P : ℕ → Member → Type 0) → x < size w → P x (published x m (member_at w x)) → (q ≢ x → P q (member_at w q)) → P q (member_at (publish_at w x m) q)
  cast_member w x q P lt here other = at_set P w.members x q (published x m (member_at w x)) no_member lt here other

  pub cast_counted : (w : World) (x q : ℕ) (l : Link) → x < size w → counted (publish_at w x m) q l ≡ counted w q l
  cast_counted w x q l lt = cast_member w x q (λ k z. counted_by (is_kept w) k z l ≡ counted w k l) lt refl (λ _. refl)

  pub cast_runs : (w : World) (x q : ℕ) → x < size w → runs (publish_at w x m) q ≡ runs w q
  cast_runs w x q lt = cast_member w x q (λ k z. runs_phase z.phase ≡ runs w k) lt refl (λ _. refl)

  pub cast_number_other : (g : Numbers → ℕ) (r : Row → ℕ) (w : World) (x p q : ℕ) → x < size w → q ≢ x → number g r (publish_at w x m) p q ≡ number g r w p q
  cast_number_other g r w x p q lt d = cast_member w x q (λ k z. k ≢ x → own_number g r w p z.phase z ≡ number g r w p k) lt (λ k. absurd (k refl)) (λ _ _. refl) d

  pub cast_forgot : (w : World) (x p q : ℕ) → x < size w → number (λ k. k.forgot) (λ r. r.forgot) (publish_at w x m) p q ≡ number (λ k. k.forgot) (λ r. r.forgot) w p q
  cast_forgot w x p q lt = cast_member w x q (λ k z. own_number (λ k. k.forgot) (λ r. r.forgot) w p z.phase z ≡ number (λ k. k.forgot) (λ r. r.forgot) w p k) lt (by_phase (member_at w x).phase) (λ _. refl)
    where
      by_phase : (f : Phase) → own_number (λ k. k.forgot) (λ r. r.forgot) w p f (published x m (member_at w x)) ≡ own_number (λ k. k.forgot) (λ r. r.forgot) w p f (member_at w x)
      by_phase Waiting = refl
      by_phase Up = gained_rows (λ a b. b.forgot ≡ a.forgot) x p (member_at w x) (λ _. refl) refl
      by_phase Stopped = gained_rows (λ a b. b.forgot ≡ a.forgot) x p (member_at w x) (λ _. refl) refl

  pub cast_retired : (w : World) (x p q : ℕ) → x < size w → (row_at (member_at (publish_at w x m) q) p).retired ≡ (row_at (member_at w q) p).retired
  cast_retired w x p q lt = cast_member w x q (λ k z. (row_at z p).retired ≡ (row_at (member_at w k) p).retired) lt (gained_rows (λ a b. b.retired ≡ a.retired) x p (member_at w x) (λ _. refl) refl) (λ _. refl)

  -- ---- its own walk

  pub FallsFrom-higher : (a a' : ℕ) (xs : List ℕ) → a ≤ a' → FallsFrom a xs → FallsFrom a' xs
  FallsFrom-higher a a' [] l h = tt
  FallsFrom-higher a a' (x ∷ xs) l h = (omega (arith, h.0), h.1)

  pub cast_round : (g : Numbers → ℕ) (r : Row → ℕ) (w : World) (x : ℕ) (qs : List ℕ) → x < size w → is_in x qs ≡ false → round_of g r (publish_at w x m) x [] (x ∷ qs) ≡ number g r (publish_at w x m) x x ∷ (flat_map (block (λ q. numbers (λ k. g (numbers_at k x)) (counted w q) w.links) (number g r w x)) qs ++ numbers (λ k. g (numbers_at k x)) (no_but (is_early []) (counted w x)) w.links)
  cast_round g r w x qs lt once =
      let f : Packet → ℕ = λ k. g (numbers_at k x) in
      let w' : World = publish_at w x m in
      ap (λ us. us ++ (number g r w' x x ∷ (flat_map (block (λ q. numbers f (counted w' q) w.links) (number g r w' x)) qs ++ numbers f (no_but (is_early []) (counted w' x)) w.links))) (numbers_none f (only (is_early []) (counted w' x)) w.links (λ j _. refl))
      ∙ ap (λ us. number g r w' x x ∷ (us ++ numbers f (no_but (is_early []) (counted w' x)) w.links))
      (blocks_same (λ q. numbers f (counted w q) w.links) (λ q. numbers f (counted w' q) w.links) (number g r w x) (number g r w' x) x qs once
      (λ q d. numbers_agree f (counted w' q) (counted w q) w.links (λ j _. cast_counted w x q (link_at w j) lt)) (λ q d. cast_number_other g r w x x q lt d))
      ∙ ap (λ us. number g r w' x x ∷ (flat_map (block (λ q. numbers f (counted w q) w.links) (number g r w x)) qs ++ us))
      (numbers_agree f (no_but (is_early []) (counted w' x)) (no_but (is_early []) (counted w x)) w.links (λ j _. cast_counted w x x (link_at w j) lt))

  pub plain_round : (g : Numbers → ℕ) (r : Row → ℕ) (w : World) (x : ℕ) (qs : List ℕ) → round_of g r w x [] (x ∷ qs) ≡ number g r w x x ∷ (flat_map (block (λ q. numbers (λ k. g (numbers_at k x)) (counted w q) w.links) (number g r w x)) qs ++ numbers (λ k. g (numbers_at k x)) (no_but (is_early []) (counted w x)) w.links)
  plain_round g r w x qs = ap (λ us. us ++ (number g r w x x ∷ (flat_map (block (λ q. numbers (λ k. g (numbers_at k x)) (counted w q) w.links) (number g r w x)) qs ++ numbers (λ k. g (numbers_at k x)) (no_but (is_early []) (counted w x)) w.links))) (numbers_none (λ k. g (numbers_at k x)) (only (is_early []) (counted w x)) w.links (λ j _. refl))

  pub cast_falls : (w : World) (x : ℕ) → x < size w → (member_at w x).phase ≡ Up → IsRing w → is_in x (ring w) ≡ true → NeverRises (walk w x) → NeverRises (walk (publish_at w x m) x)
  cast_falls w x lt up hr i h =
      let rx : runs w x ≡ true = runs_phase-Up w x up in
      let qs : List ℕ = filter (runs w) (others x (ring w)) in
      let running : running_from w x ≡ x ∷ qs = ap (filter (runs w)) (rotated_is x (ring w) i) ∙ rw rx refl in
      let prefix : stopped_from w x ≡ [] = ap (λ us. stopped_prefix (runs w) us) (rotated_is x (ring w) i) ∙ rw rx refl in
      let once : is_in x qs ≡ false = head_once (runs w) x x qs (ring w) (hr.distinct (newest w) (omega arith)) i rx running in
      let bg : List ℕ = flat_map (block (λ q. numbers (λ k. (numbers_at k x).got) (counted w q) w.links) (number (λ k. k.got) (λ r. r.got) w x)) qs ++ numbers (λ k. (numbers_at k x).got) (no_but (is_early []) (counted w x)) w.links in
      let bf : List ℕ = flat_map (block (λ q. numbers (λ k. (numbers_at k x).forgot) (counted w q) w.links) (number (λ k. k.forgot) (λ r. r.forgot) w x)) qs ++ numbers (λ k. (numbers_at k x).forgot) (no_but (is_early []) (counted w x)) w.links in
      let old : walk w x ≡ number (λ k. k.got) (λ r. r.got) w x x ∷ (bg ++ ((number (λ k. k.forgot) (λ r. r.forgot) w x x ∷ bf) ++ (row_at (member_at w x) x).retired ∷ [])) =
      ap (λ st. walk_over w x st (running_from w x)) prefix ∙ ap (walk_over w x []) running
      ∙ ap (λ us. us ++ (round_of (λ k. k.forgot) (λ r. r.forgot) w x [] (x ∷ qs) ++ retired_by w x (x ∷ qs))) (plain_round (λ k. k.got) (λ r. r.got) w x qs)
      ∙ ap (λ us. (number (λ k. k.got) (λ r. r.got) w x x ∷ bg) ++ (us ++ retired_by w x (x ∷ qs))) (plain_round (λ k. k.forgot) (λ r. r.forgot) w x qs) in
      let w' : World = publish_at w x m in
      let new : walk w' x ≡ number (λ k. k.got) (λ r. r.got) w' x x ∷ (bg ++ ((number (λ k. k.forgot) (λ r. r.forgot) w' x x ∷ bf) ++ (row_at (member_at w' x) x).retired ∷ [])) =
      sym (same_runners w w' x refl (λ q. cast_runs w x q lt))
      ∙ ap (λ st. walk_over w' x st (running_from w x)) prefix ∙ ap (walk_over w' x []) running
      ∙ ap (λ us. us ++ (round_of (λ k. k.forgot) (λ r. r.forgot) w' x [] (x ∷ qs) ++ retired_by w' x (x ∷ qs))) (cast_round (λ k. k.got) (λ r. r.got) w x qs lt once)
      ∙ ap (λ us. (number (λ k. k.got) (λ r. r.got) w' x x ∷ bg) ++ (us ++ retired_by w' x (x ∷ qs))) (cast_round (λ k. k.forgot) (λ r. r.forgot) w x qs lt once) in
      let same : number (λ k. k.got) (λ r. r.got) w' x x ∷ (bg ++ ((number (λ k. k.forgot) (λ r. r.forgot) w' x x ∷ bf) ++ (row_at (member_at w' x) x).retired ∷ [])) ≡ number (λ k. k.got) (λ r. r.got) w' x x ∷ (bg ++ ((number (λ k. k.forgot) (λ r. r.forgot) w x x ∷ bf) ++ (row_at (member_at w x) x).retired ∷ [])) =
      ap (λ a. number (λ k. k.got) (λ r. r.got) w' x x ∷ (bg ++ ((a ∷ bf) ++ (row_at (member_at w' x) x).retired ∷ []))) (cast_forgot w x x x lt)
      ∙ ap (λ a. number (λ k. k.got) (λ r. r.got) w' x x ∷ (bg ++ ((number (λ k. k.forgot) (λ r. r.forgot) w x x ∷ bf) ++ a ∷ []))) (cast_retired w x x x lt) in
      let up_now : (member_at w' x).phase ≡ Up = cast_member w x x (λ k z. k ≡ x → z.phase ≡ Up) lt (λ _. up) (λ d e. absurd (d e)) refl in
      let grew : number (λ k. k.got) (λ r. r.got) w x x ≤ number (λ k. k.got) (λ r. r.got) w' x x =
      subst (λ a. a ≤ number (λ k. k.got) (λ r. r.got) w' x x) (sym (number_up (λ k. k.got) (λ r. r.got) w x x up))
      (subst (λ a. (row_at (member_at w x) x).got ≤ a) (sym (number_up (λ k. k.got) (λ r. r.got) w' x x up_now))
      (cast_member w x x (λ k z. k ≡ x → (row_at (member_at w x) x).got ≤ (row_at z x).got) lt (λ _. gained_rows (λ a b. a.got ≤ b.got) x x (member_at w x) (λ r. omega arith) (omega arith)) (λ d e. absurd (d e)) refl)) in
      subst NeverRises (sym (new ∙ same))
      (FallsFrom-higher (number (λ k. k.got) (λ r. r.got) w x x) (number (λ k. k.got) (λ r. r.got) w' x x) _ grew (subst NeverRises old h))

  -- ---- the whole invariant

  pub cast_keeps : (w : World) (x : ℕ) → x < size w → (member_at w x).phase ≡ Up → Inv w → Inv (publish_at w x m)
  cast_keeps w x lt up h =
      let w' : World = publish_at w x m in
      let rx : runs w x ≡ true = runs_phase-Up w x up in
      let phase : (q : ℕ) → (member_at w' q).phase ≡ (member_at w q).phase = λ q. cast_member w x q (λ i a. a.phase ≡ (member_at w i).phase) lt refl (λ _. refl) in
      let current : (q : ℕ) → (member_at w' q).current ≡ (member_at w q).current = λ q. cast_member w x q (λ i a. a.current ≡ (member_at w i).current) lt refl (λ _. refl) in
      let sh : IsShaped w w'.members w.links = member_shaped w x (published x m (member_at w x)) lt (λ q r. sym (cast_runs w x q lt) ∙ r) refl refl in
      shaped_keeps w w'.members w.links sh
      (record {
        many = length-set w.members x (published x m (member_at w x));
        packed = shaped_packed w w'.members w.links sh h.packed.packets;
        numbered = record {
          zero = λ q p. cast_member w x q (λ i a. knows w a.version p ≡ false → ((row_at a p).got ≡ 0) × ((row_at a p).forgot ≡ 0)) lt
              (λ e.
              let d : p ≢ x = λ is. false≢true (sym e ∙ ap (knows w (member_at w x).version) is ∙ h.is_ring.stands x (member_at w x).version rx (omega arith) (h.is_ring.held x)) in
              let row : row_at (published x m (member_at w x)) p ≡ row_at (member_at w x) p = get_or-set_other (member_at w x).rows x p (published_row (row_at (member_at w x) x) m) no_row d in
              (ap (λ a. a.got) row ∙ (h.numbered.zero x p e).0, ap (λ a. a.forgot) row ∙ (h.numbered.zero x p e).1))
              (λ _. h.numbered.zero q p);
          beyond = λ q p ge. cast_retired w x p q lt ∙ h.numbered.beyond q p (omega (arith, ge, length-set w.members x (published x m (member_at w x))));
        };
        retired = record { none = λ p a b us r e i. cast_retired w x p b lt ∙ h.retired.none p a b us r (sym (filter_agree (runs w') (runs w) (λ q. cast_runs w x q lt) (rotated p (ring w))) ∙ e) i };
        waiting = record {
          first = λ z t e k. h.waiting.first z t (sym (phase z) ∙ e) (sym (current z) ∙ k);
          mine = λ z t e k. h.waiting.mine z t (sym (phase z) ∙ e) (sym (current z) ∙ k);
          admission = λ z t e l to v. h.waiting.admission z t (sym (phase z) ∙ e) l to (v ∙ sh.version z);
        };
        joining = waits_alike w w' (λ z e. set_alike w x z (published x m (member_at w x)) lt (ap is_waiting up) e) (λ s l. refl) h.current h.joining;
        current = shaped_current w w'.members w.links sh current h.current;
        walks = λ p some l. ⊎_elim
            (λ (is : p ≡ x). subst (λ q. NeverRises (walk w' q)) (sym is) (cast_falls w x lt up h.is_ring (h.is_ring.stands x (newest w) rx (h.is_ring.held x) (omega arith)) (h.walks x (omega (arith, is)) lt)))
            (λ (d : p ≢ x). never_rises_still (walk w p) (walk w' p) (cast_walk_other m w x p lt up d) (h.walks p some l))
            (cases_eq p x);
      })
      h
