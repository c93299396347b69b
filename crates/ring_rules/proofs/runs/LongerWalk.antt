-- The walk never rises either where behind each running member's own got stands the got that it sent last.
use Rattle.std.proofs.Common.{◌≡◌, ◌≢◌, ℕ, ◌<◌, ◌≤◌, Bool, true, false, cond, List, [], ◌∷◌, ◌++◌, length, map, Option, Some, None, is_some, refl, sym, ap, subst, ◌∙◌, ⊎_elim, append_assoc, arith}
use Rattle.std.specs.Prelude.{⊤, reverse, not}
use Rattle.std.specs.List.{flat_map, filter, range_with_len}
use Rattle.std.proofs.lemmas.Bool.{false≢true, cases_eq}
use Rattle.std.proofs.lemmas.List.Elements.{filter_agree}
use Rattle.group_view.specs.Ring.{is_in, AreDistinct, rotated, first}
use Rattle.group_view.proofs.Rings.{in_head, in_tail, is_in-rotated, rotated_is, not_in_others, distinct_others}
use Rattle.group_view.proofs.Neighbours.{filtered_in, passes_in}
use Rattle.ring_rules.specs.declared.numbers.Numbers.{Numbers}
use Rattle.ring_rules.specs.Rows.{Row}
use Rattle.ring_rules.specs.Machine.{Phase, Waiting, Up, Stopped, Packet, Member, Link, World, row_at, numbers_at, member_at, link_at, newest, ring, runs, runs_phase, oldest}
use Rattle.ring_rules.specs.Step.{size}
use Rattle.ring_rules.specs.OpenLinks.{FallsFrom, NeverRises, number, own_number, first_packet, running_on, owner, is_open, is_late, packets_of, packets_on, open_links, open_packets, early_packets, late_packets, round_trip, walk_of}
use Rattle.ring_rules.specs.LinksStand.{sent_on, longer_round, longer_walk_of, longer_walk}
use Rattle.ring_rules.proofs.rings.Falling.{falls_rest, rises_second}
use Rattle.ring_rules.proofs.walks.CountedWalk.{block}
use Rattle.ring_rules.proofs.walks.Ended.{EndsRight, SendsOn, TakesOn}
use Rattle.ring_rules.proofs.walks.OpenWalk.{walk_is}
use Rattle.ring_rules.proofs.walks.Put.{number_up}
use Rattle.ring_rules.proofs.invariants.FromLeft.{IsGood}
use Rattle.ring_rules.proofs.compact.InTurn.{IsTurned}
use Rattle.ring_rules.proofs.compact.OtherRows.{Like, like_link, like_phase, like_version, like_out, like_current}
use Rattle.ring_rules.proofs.compact.SentForgot.{Frozen, HoldsBack}

-- ---- lists that fall

-- what stands behind b
last_falls : (b : ℕ) (xs rest : List ℕ) → NeverRises ((xs ++ b ∷ []) ++ rest) → FallsFrom b rest
last_falls b [] rest h = h
last_falls b (x ∷ xs) rest h = last_falls b xs rest (falls_rest x ((xs ++ b ∷ []) ++ rest) h)

-- something else that falls from b may stand there
falls_under : (a b : ℕ) (xs rest other : List ℕ) → FallsFrom a ((xs ++ b ∷ []) ++ rest) → FallsFrom b other → FallsFrom a ((xs ++ b ∷ []) ++ other)
falls_under a b [] rest other h k = (h.0, k)
falls_under a b (x ∷ xs) rest other h k = (h.0, falls_under x b xs rest other h.1 k)

rises_under : (b : ℕ) (xs rest other : List ℕ) → NeverRises ((xs ++ b ∷ []) ++ rest) → FallsFrom b other → NeverRises ((xs ++ b ∷ []) ++ other)
rises_under b [] rest other h k = k
rises_under b (x ∷ xs) rest other h k = falls_under x b xs rest other h k

-- the end of a list is replaced
falls_through : (cs rest other : List ℕ) → ((b : ℕ) → FallsFrom b rest → FallsFrom b other) → (b : ℕ) → FallsFrom b (cs ++ rest) → FallsFrom b (cs ++ other)
falls_through [] rest other k b h = k b h
falls_through (c ∷ cs) rest other k b h = (h.0, falls_through cs rest other k c h.1)

-- by one that falls from a too
swap_end : (a : ℕ) (xs rest other : List ℕ) → FallsFrom a (xs ++ rest) → NeverRises (xs ++ other) → (FallsFrom a rest → FallsFrom a other) → FallsFrom a (xs ++ other)
swap_end a [] rest other h n k = k h
swap_end a (x ∷ xs) rest other h n k = (h.0, n)

-- of which only the first number of one member differs
low_end : (a b c : ℕ) (xs rest other : List ℕ) → FallsFrom a ((xs ++ b ∷ []) ++ rest) → NeverRises ((xs ++ c ∷ []) ++ other) → (b ≤ a → c ≤ a) → FallsFrom a ((xs ++ c ∷ []) ++ other)
low_end a b c [] rest other h n k = (k h.0, n)
low_end a b c (x ∷ xs) rest other h n k = (h.0, n)

-- two ways to put three lists together
to_right : (xs ys zs us : List ℕ) → (xs ++ (ys ++ zs)) ++ us ≡ xs ++ (ys ++ (zs ++ us))
to_right xs ys zs us = append_assoc xs (ys ++ zs) us ∙ ap (λ vs. xs ++ vs) (append_assoc ys zs us)

-- blocks agree where packets and numbers do
blocks_agree : (m m' : ℕ → List ℕ) (f f' : ℕ → ℕ) (qs : List ℕ) → ((q : ℕ) → is_in q qs ≡ true → m q ≡ m' q) → ((q : ℕ) → is_in q qs ≡ true → f q ≡ f' q) → flat_map (block m f) qs ≡ flat_map (block m' f') qs
blocks_agree m m' f f' [] h k = refl
blocks_agree m m' f f' (q ∷ qs) h k =
    ap (λ us. (us ++ f q ∷ []) ++ flat_map (block m f) qs) (h q (in_head q qs))
    ∙ ap (λ n. (m' q ++ n ∷ []) ++ flat_map (block m f) qs) (k q (in_head q qs))
    ∙ ap (λ us. block m' f' q ++ us) (blocks_agree m m' f f' qs (λ z i. h z (in_tail z q qs i)) (λ z i. k z (in_tail z q qs i)))

-- ---- a list in which the number of one member is another

-- z has c there, where f has what all have; the list falls so, with another end
pub record Frees (f : ℕ → ℕ) (R : List ℕ) (z c : ℕ) (S : (ℕ → ℕ) → List ℕ → Type 0) : Type 0 where
  pub numbers : ℕ → ℕ
  pub tail : List ℕ
  pub mine : numbers z ≡ c
  pub others : (q : ℕ) → q ≢ z → numbers q ≡ f q
  pub end : FallsFrom c tail → FallsFrom c R
  pub falls : S numbers tail
  pub below : c ≤ f z

frees_so : (f : ℕ → ℕ) (R : List ℕ) (z c : ℕ) (S S' : (ℕ → ℕ) → List ℕ → Type 0) → ((g : ℕ → ℕ) (T : List ℕ) → S g T → S' g T) → Frees f R z c S → Frees f R z c S'
frees_so f R z c S S' k h = record { numbers = h.numbers; tail = h.tail; mine = h.mine; others = h.others; end = h.end; falls = k h.numbers h.tail h.falls; below = h.below }

module _ (m : ℕ → List ℕ) (f : ℕ → ℕ) (s : ℕ → List ℕ) (L R : List ℕ) (few : (z : ℕ) → length (s z) ≤ 1) where
  -- what stands behind one member: the blocks of these, and the end
  abbrev behind : List ℕ → List ℕ
  behind ys = flat_map (block m f) ys ++ (L ++ R)

  -- the blocks never rise with c at z
  abbrev Behind : List ℕ → (ℕ → ℕ) → List ℕ → Type 0
  Behind ys g T = NeverRises (flat_map (block m g) ys ++ (L ++ T))

  -- and with these packets at y before them
  abbrev After : List ℕ → ℕ → List ℕ → (ℕ → ℕ) → List ℕ → Type 0
  After M y ys g T = NeverRises ((M ++ g y ∷ []) ++ (flat_map (block m g) ys ++ (L ++ T)))

  -- what y sent fits behind y's number
  fits_one : (M : List ℕ) (y : ℕ) (ys : List ℕ) → is_in y ys ≡ false → NeverRises ((M ++ f y ∷ []) ++ behind ys) → ((c : ℕ) → s y ≡ c ∷ [] → Frees f R y c (After M y ys)) → FallsFrom (f y) (s y ++ behind ys)
  fits_one M y ys out h k = by_said (s y) refl
    where
      rest : FallsFrom (f y) (behind ys)
      rest = last_falls (f y) M (behind ys) h

      by_said : (cs : List ℕ) → s y ≡ cs → FallsFrom (f y) (cs ++ behind ys)
      by_said [] e = rest
      by_said (c ∷ []) e = (a.below, subst (FallsFrom c) (append_assoc F L R) (swap_end c (F ++ L) a.tail R same_front whole a.end))
        where
          a : Frees f R y c (After M y ys)
          a = k c e

          F : List ℕ
          F = flat_map (block m f) ys

          apart : (q : ℕ) → is_in q ys ≡ true → q ≢ y
          apart q i is = false≢true (sym out ∙ ap (λ n. is_in n ys) (sym is) ∙ i)

          same_front : FallsFrom c ((F ++ L) ++ a.tail)
          same_front =
              subst (FallsFrom c) (ap (λ us. us ++ (L ++ a.tail)) (blocks_agree m m a.numbers f ys (λ q i. refl) (λ q i. a.others q (apart q i))) ∙ sym (append_assoc F L a.tail))
              (subst (λ n. FallsFrom n (flat_map (block m a.numbers) ys ++ (L ++ a.tail))) a.mine (last_falls (a.numbers y) M (flat_map (block m a.numbers) ys ++ (L ++ a.tail)) a.falls))

          whole : NeverRises ((F ++ L) ++ R)
          whole = subst NeverRises (sym (append_assoc F L R)) (falls_rest (f y) (behind ys) rest)
      by_said (c ∷ (d ∷ us)) e = absurd (let many : length (c ∷ (d ∷ us)) ≤ 1 = subst (λ cs. length cs ≤ 1) e (few y) in omega (arith, many))

  -- so does what each of these sent
  abbrev Fits : List ℕ → Type 0
  Fits [] = ⊤
  Fits (y ∷ ys) = FallsFrom (f y) (s y ++ behind ys) × Fits ys

  fits_all : (ys : List ℕ) → AreDistinct ys → NeverRises (behind ys) → ((z c : ℕ) → is_in z ys ≡ true → s z ≡ c ∷ [] → Frees f R z c (Behind ys)) → Fits ys
  fits_all [] d h k = tt
  fits_all (y ∷ ys) d h k =
      let here : NeverRises (block m f y ++ behind ys) = subst NeverRises (append_assoc (block m f y) (flat_map (block m f) ys) (L ++ R)) h in (
        fits_one (m y) y ys d.0 here
            (λ c e. frees_so f R y c (Behind (y ∷ ys)) (After (m y) y ys) (λ g T n. subst NeverRises (append_assoc (block m g y) (flat_map (block m g) ys) (L ++ T)) n) (k y c (in_head y ys) e)),
        fits_all ys d.1 (rises_second (block m f y) (behind ys) here)
            (λ z c i e. frees_so f R z c (Behind (y ∷ ys)) (Behind ys)
            (λ g T n. rises_second (block m g y) (flat_map (block m g) ys ++ (L ++ T)) (subst NeverRises (append_assoc (block m g y) (flat_map (block m g) ys) (L ++ T)) n))
            (k z c (in_tail z y ys i) e)),
      )

  -- the blocks with what was sent
  abbrev longer : List ℕ → List ℕ
  longer ys = flat_map (λ z. block m f z ++ s z) ys

  longer_falls : (ys : List ℕ) → Fits ys → (a : ℕ) → FallsFrom a (behind ys) → FallsFrom a (longer ys ++ (L ++ R))
  longer_falls [] k a h = h
  longer_falls (y ∷ ys) k a h =
      subst (FallsFrom a) (sym (append_assoc (block m f y ++ s y) (longer ys) (L ++ R) ∙ append_assoc (block m f y) (s y) (longer ys ++ (L ++ R))))
      (falls_under a (f y) (m y) (behind ys) (s y ++ (longer ys ++ (L ++ R)))
      (subst (FallsFrom a) (append_assoc (block m f y) (flat_map (block m f) ys) (L ++ R)) h)
      (falls_through (s y) (behind ys) (longer ys ++ (L ++ R)) (longer_falls ys k.1) (f y) k.0))

  -- the whole, with these packets at the first member
  pub longer_rises : (M : List ℕ) (y : ℕ) (ys : List ℕ) → AreDistinct (y ∷ ys) → NeverRises (((M ++ f y ∷ []) ++ (flat_map (block m f) ys ++ L)) ++ R)
      → ((z c : ℕ) → is_in z (y ∷ ys) ≡ true → s z ≡ c ∷ [] → Frees f R z c (λ g T. NeverRises (((M ++ g y ∷ []) ++ (flat_map (block m g) ys ++ L)) ++ T)))
      → NeverRises ((((M ++ f y ∷ []) ++ s y) ++ (longer ys ++ L)) ++ R)
  longer_rises M y ys d h k =
      subst NeverRises (sym (to_right ((M ++ f y ∷ []) ++ s y) (longer ys) L R ∙ append_assoc (M ++ f y ∷ []) (s y) (longer ys ++ (L ++ R))))
      (rises_under (f y) M (behind ys) (s y ++ (longer ys ++ (L ++ R))) here
      (falls_through (s y) (behind ys) (longer ys ++ (L ++ R)) (longer_falls ys all) (f y)
      (fits_one M y ys d.0 here (λ c e. frees_so f R y c Whole (After M y ys) in_after (k y c (in_head y ys) e)))))
    where
      Whole : (ℕ → ℕ) → List ℕ → Type 0
      Whole g T = NeverRises (((M ++ g y ∷ []) ++ (flat_map (block m g) ys ++ L)) ++ T)

      in_after : (g : ℕ → ℕ) (T : List ℕ) → Whole g T → After M y ys g T
      in_after g T n = subst NeverRises (to_right (M ++ g y ∷ []) (flat_map (block m g) ys) L T) n

      here : NeverRises ((M ++ f y ∷ []) ++ behind ys)
      here = in_after f R h

      all : Fits ys
      all = fits_all ys d.1 (rises_second (M ++ f y ∷ []) (behind ys) here)
          (λ z c i e. frees_so f R z c Whole (Behind ys) (λ g T n. rises_second (M ++ g y ∷ []) (flat_map (block m g) ys ++ (L ++ T)) (in_after g T n)) (k z c (in_tail z y ys i) e))

-- ---- two states that differ in the rows of one member

-- a round with the packets of this state and these numbers of the members
abbrev shape : (Numbers → ℕ) → World → ℕ → (ℕ → ℕ) → ℕ → List ℕ → List ℕ
shape g w p n y ys =
    (map (λ k. g (numbers_at k p)) (early_packets w p y) ++ n y ∷ [])
    ++ (flat_map (block (λ q. map (λ k. g (numbers_at k p)) (open_packets w q)) n) ys ++ map (λ k. g (numbers_at k p)) (late_packets w p y))

module _ (w v : World) (x : ℕ) (h : Like w v x) where
  like_runs : (q : ℕ) → runs v q ≡ runs w q
  like_runs q = ap runs_phase (like_phase w v x h q)

  like_is_open : (q s : ℕ) → is_open v q s ≡ is_open w q s
  like_is_open q s = rw (h.links, h.views, like_version w v x h q, like_current w v x h q) refl

  like_is_late : (p q s : ℕ) → is_late v p q s ≡ is_late w p q s
  like_is_late p q s = rw (h.links, h.views) refl

  like_packets : (q s : ℕ) → packets_of v q s ≡ packets_of w q s
  like_packets q s = rw (h.links, like_current w v x h q, like_phase w v x h q) refl

  like_links : (q : ℕ) → open_links v q ≡ open_links w q
  like_links q = ap (λ ls. filter (is_open v q) (range_with_len 0 (length ls))) h.links ∙ filter_agree (is_open v q) (is_open w q) (like_is_open q) (range_with_len 0 (length w.links))

  like_on : (q : ℕ) (ss : List ℕ) → packets_on v q ss ≡ packets_on w q ss
  like_on q ss = ap reverse (each_agree ss)
    where
      each_agree : (ts : List ℕ) → flat_map (packets_of v q) ts ≡ flat_map (packets_of w q) ts
      each_agree [] = refl
      each_agree (t ∷ ts) = ap (λ ks. ks ++ flat_map (packets_of v q) ts) (like_packets q t) ∙ ap (λ ks. packets_of w q t ++ ks) (each_agree ts)

  like_open : (q : ℕ) → open_packets v q ≡ open_packets w q
  like_open q = like_on q (open_links v q) ∙ ap (packets_on w q) (like_links q)

  like_early : (p q : ℕ) → early_packets v p q ≡ early_packets w p q
  like_early p q =
      like_on q (filter (λ s. not (is_late v p q s)) (open_links v q))
      ∙ ap (packets_on w q) (filter_agree (λ s. not (is_late v p q s)) (λ s. not (is_late w p q s)) (λ s. ap not (like_is_late p q s)) (open_links v q) ∙ ap (filter (λ s. not (is_late w p q s))) (like_links q))

  like_late : (p q : ℕ) → late_packets v p q ≡ late_packets w p q
  like_late p q =
      like_on q (filter (is_late v p q) (open_links v q))
      ∙ ap (packets_on w q) (filter_agree (is_late v p q) (is_late w p q) (like_is_late p q) (open_links v q) ∙ ap (filter (is_late w p q)) (like_links q))

  like_running : (q : ℕ) → running_on v q ≡ running_on w q
  like_running q = ap (λ vs. filter (runs v) (rotated q (ring (record w { views = vs })))) h.views ∙ filter_agree (runs v) (runs w) like_runs (rotated q (ring w))

  -- a round has the packets that it had
  like_trip : (g : Numbers → ℕ) (r : Row → ℕ) (p y : ℕ) (ys : List ℕ) → round_trip g r v p (y ∷ ys) ≡ shape g w p (number g r v p) y ys
  like_trip g r p y ys =
      ap (λ ks. (map f ks ++ number g r v p y ∷ []) ++ (flat_map (block (λ q. map f (open_packets v q)) (number g r v p)) ys ++ map f (late_packets v p y))) (like_early p y)
      ∙ ap (λ us. (map f (early_packets w p y) ++ number g r v p y ∷ []) ++ (us ++ map f (late_packets v p y)))
      (blocks_agree (λ q. map f (open_packets v q)) (λ q. map f (open_packets w q)) (number g r v p) (number g r v p) ys (λ q i. ap (map f) (like_open q)) (λ q i. refl))
      ∙ ap (λ ks. (map f (early_packets w p y) ++ number g r v p y ∷ []) ++ (flat_map (block (λ q. map f (open_packets w q)) (number g r v p)) ys ++ map f ks)) (like_late p y)
    where
      f : Packet → ℕ
      f k = g (numbers_at k p)

  -- the number of another member is as it was
  like_number : (g : Numbers → ℕ) (r : Row → ℕ) (p q : ℕ) → q ≢ x → number g r v p q ≡ number g r w p q
  like_number g r p q ne = ap (λ (a : Member). own_number g r v p a.phase a) (h.others q ne) ∙ same_own (member_at w q).phase (member_at w q)
    where
      same_first : (c : Option ℕ) → first_packet v c ≡ first_packet w c
      same_first None = refl
      same_first (Some s) = ap oldest (like_link w v x h s)

      same_own : (f : Phase) (a : Member) → own_number g r v p f a ≡ own_number g r w p f a
      same_own Waiting a = ap (λ k. g (numbers_at k p)) (same_first a.current)
      same_own Up a = refl
      same_own Stopped a = refl

  -- what is said of links and their ends
  like_ends : EndsRight w → EndsRight v
  like_ends k = record {
    ended = λ s e. ap (λ (l : Link). is_some l.ending) (like_link w v x h s) ∙ k.ended s (sym (ap (λ (l : Link). l.over) (like_link w v x h s)) ∙ e);
    nothing = λ s e. ap (λ (l : Link). l.packets) (like_link w v x h s) ∙ k.nothing s (sym (ap (λ (l : Link). l.over) (like_link w v x h s)) ∙ e);
    sends = λ q o r e. subst (λ ls. SendsOn ls q o) (sym h.links) (k.sends q o (sym (like_runs q) ∙ r) (sym (like_out w v x h q) ∙ e));
    takes = λ q s r e. subst (λ ls. TakesOn ls q s) (sym h.links) (k.takes q s (sym (like_runs q) ∙ r) (sym (like_current w v x h q) ∙ e));
  }

-- ---- the members that run

distinct_filter : (t : ℕ → Bool) (xs : List ℕ) → AreDistinct xs → AreDistinct (filter t xs)
distinct_filter t [] d = d
distinct_filter t (x ∷ xs) d = by_case (t x) (distinct_filter t xs d.1)
  where
    outside : (b : Bool) → is_in x (filter t xs) ≡ b → b ≡ false
    outside false e = refl
    outside true e = absurd (false≢true (sym d.0 ∙ filtered_in t x xs e))

    by_case : (b : Bool) → AreDistinct (filter t xs) → AreDistinct (cond b (x ∷ filter t xs) (filter t xs))
    by_case true h = (outside (is_in x (filter t xs)) refl, h)
    by_case false h = h

distinct_running : (w : World) (q : ℕ) → AreDistinct (ring w) → is_in q (ring w) ≡ true → AreDistinct (running_on w q)
distinct_running w q d i = distinct_filter (runs w) (rotated q (ring w)) (subst AreDistinct (sym (rotated_is q (ring w) i)) (not_in_others q (ring w) d, distinct_others q (ring w) d i))

-- ---- the law

-- a member sent last at most one number
few_on : (w : World) (p : ℕ) (c : Option ℕ) → length (sent_on w p c) ≤ 1
few_on w p None = omega arith
few_on w p (Some o) = by_fresh (link_at w o).sending.fresh
  where
    by_fresh : (b : Bool) → length (cond b [] ((numbers_at (link_at w o).sending.sent p).got ∷ [])) ≤ 1
    by_fresh true = omega arith
    by_fresh false = omega arith

pub longer_walk_falls : (w : World) (p : ℕ) → IsGood w → EndsRight w → HoldsBack w → IsTurned w → 1 ≤ p → p < size w → NeverRises (longer_walk w p)
longer_walk_falls w p g ends holds turned some lt = by_owner (owner w p) refl
  where
    by_owner : (o : Option ℕ) → owner w p ≡ o → NeverRises (longer_walk_of w p o)
    by_owner None e = tt
    by_owner (Some y) e = by_running (running_on w y) refl
      where
        by_running : (us : List ℕ) → running_on w y ≡ us → NeverRises (longer_round w p us ++ (round_trip (λ k. k.forgot) (λ r. r.forgot) w p us ++ (row_at (member_at w y) p).retired ∷ []))
        by_running [] e2 = tt
        by_running (a ∷ ys) e2 = longer_rises m f s L R (λ z. few_on w p (member_at w z).out) M a ys distinct walks frees
          where
            f : ℕ → ℕ
            f = number (λ k. k.got) (λ r. r.got) w p

            m : ℕ → List ℕ
            m q = map (λ k. (numbers_at k p).got) (open_packets w q)

            M : List ℕ
            M = map (λ k. (numbers_at k p).got) (early_packets w p a)

            L : List ℕ
            L = map (λ k. (numbers_at k p).got) (late_packets w p a)

            R : List ℕ
            R = round_trip (λ k. k.forgot) (λ r. r.forgot) w p (a ∷ ys) ++ (row_at (member_at w y) p).retired ∷ []

            s : ℕ → List ℕ
            s z = sent_on w p (member_at w z).out

            inside : is_in y (ring w) ≡ true
            inside = sym (is_in-rotated y p (ring w)) ∙ filtered_in (runs w) y (rotated p (ring w)) (first_in (running_on w p) e)
              where
                first_in : (us : List ℕ) → first us ≡ Some y → is_in y us ≡ true
                first_in [] q = let bad : None ≡ Some y = q in absurd (cc)
                first_in (u ∷ us) q = let is : u ≡ y = cc in subst (λ k. is_in y (k ∷ us) ≡ true) (sym is) (in_head y us)

            distinct : AreDistinct (a ∷ ys)
            distinct = subst AreDistinct e2 (distinct_running w y (g.inv.is_ring.distinct (newest w) (omega arith)) inside)

            -- the walk of a good state with these owner and members
            walk_in : (u : World) → IsGood u → EndsRight u → p < size u → owner u p ≡ Some y → running_on u y ≡ a ∷ ys
                → NeverRises (round_trip (λ k. k.got) (λ r. r.got) u p (a ∷ ys) ++ (round_trip (λ k. k.forgot) (λ r. r.forgot) u p (a ∷ ys) ++ (row_at (member_at u y) p).retired ∷ []))
            walk_in u gu eu lu ou ru =
                subst (λ us. NeverRises (round_trip (λ k. k.got) (λ r. r.got) u p us ++ (round_trip (λ k. k.forgot) (λ r. r.forgot) u p us ++ (row_at (member_at u y) p).retired ∷ []))) ru
                (subst (λ o. NeverRises (walk_of u p o)) ou (subst NeverRises (sym (walk_is u p gu eu some lu)) (gu.inv.walks p some lu)))

            walks : NeverRises (((M ++ f a ∷ []) ++ (flat_map (block m f) ys ++ L)) ++ R)
            walks = walk_in w g ends lt e e2

            Whole : (ℕ → ℕ) → List ℕ → Type 0
            Whole n T = NeverRises (((M ++ n a ∷ []) ++ (flat_map (block m n) ys ++ L)) ++ T)

            frozen_frees : (z o c : ℕ) → (member_at w z).phase ≡ Up → (member_at w z).out ≡ Some o → (numbers_at (link_at w o).sending.sent p).got ≡ c → Frozen w z o → Frees f R z c Whole
            frozen_frees z o c up out is fz = record {
              numbers = number (λ k. k.got) (λ r. r.got) v p;
              tail = T;
              mine = mine;
              others = λ q ne. like_number w v z l (λ k. k.got) (λ r. r.got) p q ne;
              end = ends_fall;
              falls = subst (λ us. NeverRises (us ++ T)) (like_trip w v z l (λ k. k.got) (λ r. r.got) p a ys)
                  (walk_in v fz.good (like_ends w v z l ends) (omega (arith, l.many, lt)) (ap first (like_running w v z l p) ∙ e) (like_running w v z l y ∙ e2));
              below = omega (arith, number_up (λ k. k.got) (λ r. r.got) w p z up, turned.behind z o p (ap runs_phase up) out, is);
            }
              where
                v : World
                v = fz.world

                l : Like w v z
                l = fz.like

                T : List ℕ
                T = round_trip (λ k. k.forgot) (λ r. r.forgot) v p (a ∷ ys) ++ (row_at (member_at v y) p).retired ∷ []

                mine : number (λ k. k.got) (λ r. r.got) v p z ≡ c
                mine = number_up (λ k. k.got) (λ r. r.got) v p z (l.phase ∙ up) ∙ fz.got p ∙ is

                E : List ℕ
                E = map (λ k. (numbers_at k p).forgot) (early_packets w p a)

                rest : (ℕ → ℕ) → List ℕ
                rest n = flat_map (block (λ q. map (λ k. (numbers_at k p).forgot) (open_packets w q)) n) ys ++ map (λ k. (numbers_at k p).forgot) (late_packets w p a)

                lower : number (λ k. k.forgot) (λ r. r.forgot) v p a ≤ c → number (λ k. k.forgot) (λ r. r.forgot) w p a ≤ c
                lower le = ⊎_elim
                    (λ (same : a ≡ z). subst (λ q. number (λ k. k.forgot) (λ r. r.forgot) w p q ≤ c) (sym same)
                    (omega (arith, number_up (λ k. k.forgot) (λ r. r.forgot) w p z up, fz.forgot p some lt, fz.got p, is)))
                    (λ (ne : a ≢ z). omega (arith, le, like_number w v z l (λ k. k.forgot) (λ r. r.forgot) p a ne))
                    (cases_eq a z)

                ends_fall : FallsFrom c T → FallsFrom c R
                ends_fall t =
                    subst (FallsFrom c) (sym (append_assoc (E ++ number (λ k. k.forgot) (λ r. r.forgot) w p a ∷ []) (rest (number (λ k. k.forgot) (λ r. r.forgot) w p)) ((row_at (member_at w y) p).retired ∷ [])))
                    (low_end c (number (λ k. k.forgot) (λ r. r.forgot) v p a) (number (λ k. k.forgot) (λ r. r.forgot) w p a) E
                    (rest (number (λ k. k.forgot) (λ r. r.forgot) v p) ++ (row_at (member_at v y) p).retired ∷ [])
                    (rest (number (λ k. k.forgot) (λ r. r.forgot) w p) ++ (row_at (member_at w y) p).retired ∷ [])
                    (subst (FallsFrom c) (append_assoc (E ++ number (λ k. k.forgot) (λ r. r.forgot) v p a ∷ []) (rest (number (λ k. k.forgot) (λ r. r.forgot) v p)) ((row_at (member_at v y) p).retired ∷ []))
                    (subst (λ us. FallsFrom c (us ++ (row_at (member_at v y) p).retired ∷ [])) (like_trip w v z l (λ k. k.forgot) (λ r. r.forgot) p a ys) t))
                    (subst NeverRises (append_assoc (E ++ number (λ k. k.forgot) (λ r. r.forgot) w p a ∷ []) (rest (number (λ k. k.forgot) (λ r. r.forgot) w p)) ((row_at (member_at w y) p).retired ∷ []))
                    (rises_second ((M ++ f a ∷ []) ++ (flat_map (block m f) ys ++ L)) R walks))
                    lower)

            frees : (z c : ℕ) → is_in z (a ∷ ys) ≡ true → s z ≡ c ∷ [] → Frees f R z c Whole
            frees z c i said = by_phase (member_at w z).phase refl (passes_in (runs w) z (rotated y (ring w)) (ap (is_in z) e2 ∙ i))
              where
                by_out : (o : Option ℕ) → (member_at w z).out ≡ o → (member_at w z).phase ≡ Up → sent_on w p o ≡ c ∷ [] → Frees f R z c Whole
                by_out None out up q = let bad : [] ≡ c ∷ [] = q in absurd (cc)
                by_out (Some o) out up q = by_fresh (link_at w o).sending.fresh refl q
                  where
                    by_fresh : (b : Bool) → (link_at w o).sending.fresh ≡ b → cond b [] ((numbers_at (link_at w o).sending.sent p).got ∷ []) ≡ c ∷ [] → Frees f R z c Whole
                    by_fresh true fresh k = let bad : [] ≡ c ∷ [] = k in absurd (cc)
                    by_fresh false fresh k = let is : (numbers_at (link_at w o).sending.sent p).got ≡ c = cc in frozen_frees z o c up out is (holds.frozen z o up out fresh)

                by_phase : (f2 : Phase) → (member_at w z).phase ≡ f2 → runs_phase f2 ≡ true → Frees f R z c Whole
                by_phase Waiting waits r = let bad : [] ≡ c ∷ [] = sym (ap (sent_on w p) (holds.silent z waits)) ∙ said in absurd (cc)
                by_phase Up up r = by_out (member_at w z).out refl up said
                by_phase Stopped stops r = absurd (false≢true r)
