-- What a step of a member does to the parts of what a ring has to do, and that it falls.
use Rattle.std.proofs.Common.{◌≡◌, ◌≢◌, ℕ, ◌+◌, ◌*◌, ◌<◌, ◌≤◌, List, length, set, get_or, Option, Some, None, if◌then◌else◌, refl, sym, ap, subst, ◌∙◌, ⊎_elim, arith, inl, inr, [], ◌∷◌}
use Rattle.std.specs.List.{list_all, range_with_len}
use Rattle.std.proofs.lemmas.Bool.{cases_eq}
use Rattle.std.proofs.lemmas.List.{length-set, get_or-set_same, get_or-set_other}
use Rattle.ring_rules.proofs.events.Cases.{IsRunning}
use Rattle.ring_rules.specs.Rows.{no_row, is_sent}
use Rattle.ring_rules.specs.Machine.{Member, Link, World, no_link, row_at, member_at, link_at, numbers_at, view_in, newest}
use Rattle.ring_rules.specs.Step.{size, log_of}
use Rattle.ring_rules.specs.Event.{has_nothing_new, effect, refusal}
use Rattle.ring_rules.specs.declared.event.Event.{Event}
use Rattle.ring_rules.specs.Laws.{GoesOn}
use Rattle.ring_rules.proofs.work.Fit.{IsFit}
use Rattle.ring_rules.specs.Work.{items, place_at, weight_at, on_links, marks_left, stale_by, stale, dirty_on, dirty_at, dirty, lag_row, lag_at, lag_by, lag, owed_by, owed_at, owed, work, sum_below, Falls, total, traffic}
use Rattle.ring_rules.proofs.work.Places.{IsWritten, NoneRises}
use Rattle.ring_rules.proofs.work.Sums.{sum_le, sum_at, sum_ids}
use Rattle.ring_rules.proofs.invariants.FromLeft.{IsGood}
use Rattle.ring_rules.specs.Act.{act_of}
use Rattle.ring_rules.proofs.walks.LeftLinks.{IsLater, act_later}
use Rattle.ring_rules.specs.Lawful.{StaysWithinLogs}
use Rattle.ring_rules.proofs.invariants.Happens.{act_good}

-- ---- amounts

-- an amount of each part of `work`
pub record Amount : Type 0 where
  pub marks : ℕ
  pub stale : ℕ
  pub owed : ℕ
  pub dirty : ℕ
  pub lag : ℕ
  pub links : ℕ

-- as `work` lists it
abbrev pub listed : Amount → List ℕ
listed a = a.marks ∷ a.stale ∷ a.owed ∷ (3 * a.dirty + 3 * a.lag + a.links) ∷ []

-- and as `total` counts it
abbrev pub worth : Amount → ℕ
worth a = 2600000 * a.marks + 39100 * a.stale + 600 * a.owed + (3 * a.dirty + 3 * a.lag + a.links)

-- nothing of any
abbrev pub nothing : Amount
nothing = record { marks = 0; stale = 0; owed = 0; dirty = 0; lag = 0; links = 0 }

-- a state leaves less to do than another, in the list and in the one number
pub record Lowers (w w' : World) : Type 0 where
  pub falls : Falls (work w) (work w')
  pub less : total w' < total w

-- what is left of four numbers falls where what is taken falls to what is added
falls_by : (m m' s s' o o' t t' a b d c a' b' d' c' : ℕ) → m' + a ≤ m + a' → s' + b ≤ s + b' → o' + d ≤ o + d' → t' + c ≤ t + c' → Falls (a ∷ b ∷ d ∷ c ∷ []) (a' ∷ b' ∷ d' ∷ c' ∷ []) → Falls (m ∷ s ∷ o ∷ t ∷ []) (m' ∷ s' ∷ o' ∷ t' ∷ [])
falls_by m m' s s' o o' t t' a b d c a' b' d' c' h i e j (inl k) = inl (omega (arith, k.0), refl)
falls_by m m' s s' o o' t t' a b d c a' b' d' c' h i e j (inr (k, inl l)) = inr (omega arith, inl (omega (arith, l.0), refl))
falls_by m m' s s' o o' t t' a b d c a' b' d' c' h i e j (inr (k, inr (l, inl n))) = inr (omega arith, inr (omega arith, inl (omega (arith, n.0), refl)))
falls_by m m' s s' o o' t t' a b d c a' b' d' c' h i e j (inr (k, inr (l, inr (n, inl q)))) = inr (omega arith, inr (omega arith, inr (omega arith, inl (omega (arith, q.0), refl))))
falls_by m m' s s' o o' t t' a b d c a' b' d' c' h i e j (inr (k, inr (l, inr (n, inr q)))) = absurd q.1

-- ---- a member is written

-- the others are as stale as they were
pub stale_written : (w w' : World) (x : ℕ) (y : Member) (a b : ℕ) → 1 ≤ x → x < size w → newest w' ≡ newest w → IsWritten w w' x y → stale_by (newest w) y + a ≤ stale_by (newest w) (member_at w x) + b → stale w' + a ≤ stale w + b
stale_written w w' x y a b some lt top k own =
    sum_ids (size w) (size w') (λ q. stale_by (newest w) (member_at w q)) (λ q. stale_by (newest w') (member_at w' q)) x a b k.many some lt
    (λ q ne. let same : stale_by (newest w') (member_at w' q) ≡ stale_by (newest w) (member_at w q) = now q ∙ ap (stale_by (newest w)) (k.others q ne) in omega (arith, same))
    (subst (λ n. n + a ≤ stale_by (newest w) (member_at w x) + b) (sym (now x ∙ ap (stale_by (newest w)) k.here)) own)
  where
    now : (q : ℕ) → stale_by (newest w') (member_at w' q) ≡ stale_by (newest w) (member_at w' q)
    now q = ap (λ v. stale_by v (member_at w' q)) top

-- ---- a link is written

-- what a member has to send goes by its rows and the sending side of its link
pub dirty_same : (n : ℕ) (w w' : World) (y y' : Member) (o : Option ℕ) → y'.rows ≡ y.rows → ((k : ℕ) → o ≡ Some k → (link_at w' k).sending ≡ (link_at w k).sending) → dirty_on n w' y' o ≡ dirty_on n w y o
dirty_same n w w' y y' None e h = refl
dirty_same n w w' y y' (Some k) e h =
    ap (λ rs. if list_all (λ p. is_sent (get_or rs p no_row) (numbers_at (link_at w' k).sending.sent p)) (range_with_len 0 n) then 0 else 1) e
    ∙ ap (λ s. if has_nothing_new n y s then 0 else 1) (h k refl)

-- what lies on the links changes by one link, where the others stay, and none rises from its place
pub links_written : (w w' : World) (s : ℕ) (l : Link) (a b : ℕ) → s < length w.links → length w'.links ≡ length w.links → link_at w' s ≡ l → ((t : ℕ) → t ≢ s → link_at w' t ≡ link_at w t) → NoneRises w w'
    → (2 * items l + place_at w' s + length l.flow.grants) + a ≤ weight_at w s + b → on_links w' + a ≤ on_links w + b
links_written w w' s l a b there many here others places own =
    sum_at (length w.links) (length w'.links) (weight_at w) (weight_at w') s a b many there
    (λ t tl ne. subst (λ (k : Link). 2 * items k + place_at w' t + length k.flow.grants ≤ weight_at w t) (sym (others t ne))
    (falls (items (link_at w t)) (place_at w' t) (place_at w t) (length (link_at w t).flow.grants) (places t tl)))
    (subst (λ (k : Link). (2 * items k + place_at w' s + length k.flow.grants) + a ≤ weight_at w s + b) (sym here) own)
  where
    falls : (i p' p g : ℕ) → p' ≤ p → 2 * i + p' + g ≤ 2 * i + p + g
    falls i p' p g h = omega arith

-- so where the link at s becomes l
pub link_set : (w : World) (ms : List Member) (s : ℕ) (l : Link) (a b : ℕ) → s < length w.links → NoneRises w (record w { members = ms; links = set w.links s l })
    → (2 * items l + place_at (record w { members = ms; links = set w.links s l }) s + length l.flow.grants) + a ≤ weight_at w s + b → on_links (record w { members = ms; links = set w.links s l }) + a ≤ on_links w + b
link_set w ms s l a b sl places own =
    links_written w (record w { members = ms; links = set w.links s l }) s l a b sl (length-set w.links s l) (get_or-set_same w.links s l no_link sl) (λ t ne. get_or-set_other w.links s t l no_link ne) places own

-- ---- a step

-- how far a member with these rows is behind the logs of w
abbrev pub lag_with : World → Member → ℕ
lag_with w y = sum_below (size w) (λ p. lag_row (length (log_of w p)) (row_at y p))

-- A step by which x becomes y. Its log stays, and on the others' out links what was last sent; it takes `less` of each part
-- and adds `more` at most.
pub record Step (w w' : World) (x : ℕ) (y : Member) (less more : Amount) : Type 0 where
  pub member : IsWritten w w' x y
  pub log : y.log ≡ log_of w x
  pub sent : (q j : ℕ) → q ≢ x → (member_at w q).out ≡ Some j → (link_at w' j).sending ≡ (link_at w j).sending
  pub marks : marks_left w' + less.marks ≤ marks_left w + more.marks
  pub stale : stale w' + less.stale ≤ stale w + more.stale
  pub views : (q : ℕ) → q ≢ x → view_in w' (member_at w q).version ≡ view_in w (member_at w q).version
  pub owed : owed_by (view_in w' y.version) x y + less.owed ≤ owed_at w x + more.owed
  pub dirty : dirty_on (size w) w' y y.out + less.dirty ≤ dirty_at (size w) w x + more.dirty
  pub lag : lag_with w y + less.lag ≤ lag_by w x + more.lag
  pub links : on_links w' + less.links ≤ on_links w + more.links

module _ (w w' : World) (x : ℕ) (y : Member) (less more : Amount) (u : IsRunning w x) (k : Step w w' x y less more) where
  -- no log changes
  logs : (p : ℕ) → log_of w' p ≡ log_of w p
  logs p = ⊎_elim
      (λ (same : p ≡ x). ap (log_of w') same ∙ ap (λ (m : Member). m.log) k.member.here ∙ k.log ∙ ap (log_of w) (sym same))
      (λ (ne : p ≢ x). ap (λ (m : Member). m.log) (k.member.others p ne))
      (cases_eq p x)

  -- what masters owe
  owes : owed w' + less.owed ≤ owed w + more.owed
  owes =
      sum_ids (size w) (size w') (owed_at w) (owed_at w') x less.owed more.owed k.member.many u.some u.lt
      (λ q ne.
      let same : owed_at w' q ≡ owed_at w q = ap (λ (m : Member). owed_by (view_in w' m.version) q m) (k.member.others q ne) ∙ ap (λ g. owed_by g q (member_at w q)) (k.views q ne) in
      omega (arith, same))
      (subst (λ n. n + less.owed ≤ owed_at w x + more.owed) (sym (ap (λ (m : Member). owed_by (view_in w' m.version) x m) k.member.here)) k.owed)

  -- what a member has to send, as it is then
  dirty_now : (q : ℕ) (m : Member) → member_at w' q ≡ m → dirty_at (size w') w' q ≡ dirty_on (size w) w' m m.out
  dirty_now q m is = ap (λ n. dirty_at n w' q) k.member.many ∙ ap (λ (z : Member). dirty_on (size w) w' z z.out) is

  -- all members together
  dirties : dirty w' + less.dirty ≤ dirty w + more.dirty
  dirties =
      sum_at (size w) (size w') (dirty_at (size w) w) (dirty_at (size w') w') x less.dirty more.dirty k.member.many u.lt
      (λ q _ ne. let same : dirty_at (size w') w' q ≡ dirty_at (size w) w q = dirty_now q (member_at w q) (k.member.others q ne) ∙ dirty_same (size w) w w' (member_at w q) (member_at w q) (member_at w q).out refl (λ j. k.sent q j ne) in omega (arith, same))
      (subst (λ n. n + less.dirty ≤ dirty_at (size w) w x + more.dirty) (sym (dirty_now x y k.member.here)) k.dirty)

  -- how far it is behind
  lag_now : (q : ℕ) (m : Member) → member_at w' q ≡ m → lag_by w' q ≤ lag_with w m
  lag_now q m is = sum_le (size w) (size w') (λ p. lag_row (length (log_of w p)) (row_at m p)) (lag_at w' q) k.member.many
      (λ p _. let same : lag_at w' q p ≡ lag_row (length (log_of w p)) (row_at m p) = ap (λ l. lag_row (length l) (row_at (member_at w' q) p)) (logs p) ∙ ap (λ (z : Member). lag_row (length (log_of w p)) (row_at z p)) is in omega (arith, same))

  -- and all of them
  lags : lag w' + less.lag ≤ lag w + more.lag
  lags =
      sum_ids (size w) (size w') (lag_by w) (lag_by w') x less.lag more.lag k.member.many u.some u.lt
      (λ q ne. lag_now q (member_at w q) (k.member.others q ne))
      (own (lag_by w' x) (lag_with w y) (lag_by w x) less.lag more.lag (lag_now x y k.member.here) k.lag)
    where
      own : (g' g l a b : ℕ) → g' ≤ g → g + a ≤ l + b → g' + a ≤ l + b
      own g' g l a b h i = omega arith

  -- what is under way
  traffics : traffic w' + (3 * less.dirty + 3 * less.lag + less.links) ≤ traffic w + (3 * more.dirty + 3 * more.lag + more.links)
  traffics = three (dirty w) (dirty w') (lag w) (lag w') (on_links w) (on_links w') dirties lags k.links
    where
      three : (d d' g g' n n' : ℕ) → d' + less.dirty ≤ d + more.dirty → g' + less.lag ≤ g + more.lag → n' + less.links ≤ n + more.links
          → 3 * d' + 3 * g' + n' + (3 * less.dirty + 3 * less.lag + less.links) ≤ 3 * d + 3 * g + n + (3 * more.dirty + 3 * more.lag + more.links)
      three d d' g g' n n' a b c = omega arith

  -- it leaves no more to do, where what it adds counts for no more than what it takes
  pub step_stays : worth more ≤ worth less → total w' ≤ total w
  step_stays counts = sum (marks_left w) (marks_left w') (stale w) (stale w') (owed w) (owed w') (traffic w) (traffic w') (3 * less.dirty + 3 * less.lag + less.links) (3 * more.dirty + 3 * more.lag + more.links) k.marks k.stale owes traffics counts
    where
      sum : (m m' s s' o o' t t' l g : ℕ) → m' + less.marks ≤ m + more.marks → s' + less.stale ≤ s + more.stale → o' + less.owed ≤ o + more.owed → t' + l ≤ t + g
          → 2600000 * more.marks + 39100 * more.stale + 600 * more.owed + g ≤ 2600000 * less.marks + 39100 * less.stale + 600 * less.owed + l → 2600000 * m' + 39100 * s' + 600 * o' + t' ≤ 2600000 * m + 39100 * s + 600 * o + t
      sum m m' s s' o o' t t' l g a b e c d = omega arith

  -- it leaves less to do, where what it takes falls to what it adds, and counts for more
  pub step_lowers : Falls (listed less) (listed more) → worth more < worth less → Lowers w w'
  step_lowers falls counts = record {
    falls = falls_by (marks_left w) (marks_left w') (stale w) (stale w') (owed w) (owed w') (traffic w) (traffic w') less.marks less.stale less.owed (3 * less.dirty + 3 * less.lag + less.links) more.marks more.stale more.owed (3 * more.dirty + 3 * more.lag + more.links) k.marks k.stale owes traffics falls;
    less = sum (marks_left w) (marks_left w') (stale w) (stale w') (owed w) (owed w') (traffic w) (traffic w') (3 * less.dirty + 3 * less.lag + less.links) (3 * more.dirty + 3 * more.lag + more.links) k.marks k.stale owes traffics counts;
  }
    where
      sum : (m m' s s' o o' t t' l g : ℕ) → m' + less.marks ≤ m + more.marks → s' + less.stale ≤ s + more.stale → o' + less.owed ≤ o + more.owed → t' + l ≤ t + g
          → 2600000 * more.marks + 39100 * more.stale + 600 * more.owed + g < 2600000 * less.marks + 39100 * less.stale + 600 * less.owed + l → 2600000 * m' + 39100 * s' + 600 * o' + t' < 2600000 * m + 39100 * s + 600 * o + t
      sum m m' s s' o o' t t' l g a b e c d = omega arith

-- ---- an enabled event

-- the state w' follows on w by an enabled event
pub record Follows (w w' : World) : Type 0 where
  pub goes : GoesOn w w'
  pub within : StaysWithinLogs w'
  pub good : IsGood w'
  pub later : IsLater w w'

-- and where it does there is less to do
abbrev pub LowersThen : World → World → Type 0
LowersThen w w' = Follows w w' → Lowers w w'

pub event_follows : (w : World) (e : Event) → IsFit w → refusal w e ≡ None → Follows w (effect w e)
event_follows w e f r = record { goes = f.goes e r; within = f.within e r; good = act_good w (act_of e) f.good r; later = act_later w (act_of e) f.good r }
