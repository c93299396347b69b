-- A Start and a Depth leave less to do, where they are owed.
use Rattle.std.proofs.Common.{◌≡◌, ◌≢◌, ℕ, zero, suc, ◌+◌, ◌-◌, ◌*◌, ◌<◌, ◌≤◌, Bool, true, false, not, nat_eq, nat_lt, nat_le, List, [], ◌∷◌, length, Option, Some, None, cond, if◌then◌else◌, refl, sym, ap, subst, ◌∙◌, arith, inl, inr}
use Rattle.std.specs.Prelude.{◌&&◌, ◌||◌}
use Rattle.std.specs.List.{count_by}
use Rattle.std.proofs.lemmas.Bool.{false≢true}
use Rattle.std.proofs.lemmas.Bool.Decides.{nat_tests}
use Rattle.std.proofs.lemmas.List.{length_push}
use Rattle.std.proofs.lemmas.List.Sums.{sum_by-cons}
use Rattle.ring_names.specs.declared.numbers.MemberId.{MemberId}
use Rattle.ring_names.specs.declared.reason.Reason.{Reason}
use Rattle.ring_names.specs.declared.reason.Reason.TheVariants as reason
use Rattle.queue_core.specs.declared.message.Message.{Message}
use Rattle.queue_core.specs.declared.message.Message.TheVariants as message
use Rattle.queue_core.specs.declared.op.Op.TheVariants as op
use Rattle.queue_mirror.specs.Master.{lead_by, lead_refusal}
use Rattle.group_view.specs.declared.entry.Entry.{Entry}
use Rattle.group_view.specs.View.{Group, is_live_mark}
use Rattle.ring_rules.specs.Refusal.{refuse_if, or_else}
use Rattle.ring_rules.specs.Rows.{Row}
use Rattle.ring_rules.specs.Machine.{Member, World, member_at, link_at, view_in}
use Rattle.ring_rules.specs.Step.{size, log_of, published, publish_at}
use Rattle.ring_rules.specs.Event.{start_refusal, has_nothing_new}
use Rattle.ring_rules.specs.Lawful.{row_of}
use Rattle.ring_rules.specs.Work.{sum_below, items, place_at, weight_at, on_links, marks_left, stale, dirty_on, dirty_at, dirty, lag_row, lag_at, lag_by, lag, is_led, is_late, is_untold, untold, owed_by, owed_at, owed}
use Rattle.ring_rules.proofs.events.Cases.{IsRunning}
use Rattle.ring_rules.proofs.events.Refusals.{refuse_none}
use Rattle.ring_rules.proofs.work.Fit.{IsFit, few_members}
use Rattle.ring_rules.proofs.work.Sums.{sum_le, sum_at, sum_ids}
use Rattle.ring_rules.proofs.work.TakeFalls.{row_less}
use Rattle.ring_rules.proofs.work.Parts.{stale_written, dirty_same, LowersThen}
use Rattle.ring_rules.proofs.work.Places.{IsWritten, written, NoneRises, written_places}

-- ---- sums

-- what each term rises by 3 at most
sum_each : (n n' : ℕ) (f g : ℕ → ℕ) → n' ≡ n → ((k : ℕ) → k < n → g k ≤ f k + 3) → sum_below n' g ≤ sum_below n f + 3 * n
sum_each n n' f g e h = subst (λ m. sum_below m g ≤ sum_below n f + 3 * n) (sym e) (all n (λ k l. h k l))
  where
    all : (m : ℕ) → ((k : ℕ) → k < m → g k ≤ f k + 3) → sum_below m g ≤ sum_below m f + 3 * m
    all zero h = omega arith
    all (suc m) h = omega (arith, all m (λ k l. h k (omega arith)), h m (omega arith))

-- where a log is longer by one, and no number falls, a row is behind by 3 more at most
row_more : (n m : ℕ) (r r' : Row) → m ≡ n + 1 → r.got ≤ r'.got → r.forgot ≤ r'.forgot → r.retired ≤ r'.retired → lag_row m r' + 0 ≤ lag_row n r + 3
row_more n m r r' e a b c = sum (n - r.got) (m - r'.got) (n - r.forgot) (m - r'.forgot) (n - r.retired) (m - r'.retired) (one r.got r'.got a) (one r.forgot r'.forgot b) (one r.retired r'.retired c)
  where
    one : (g g' : ℕ) → g ≤ g' → m - g' ≤ (n - g) + 1
    one g g' l = omega (arith, e, l)

    sum : (a a' b b' c c' : ℕ) → a' ≤ a + 1 → b' ≤ b + 1 → c' ≤ c + 1 → (a' + b' + c') + 0 ≤ (a + b + c) + 3
    sum a a' b b' c c' h i j = omega arith

-- ---- x publishes what it owes

dirty_most : (n : ℕ) (w : World) (y : Member) (o : Option ℕ) → dirty_on n w y o ≤ 1
dirty_most n w y None = omega arith
dirty_most n w y (Some o) = by_case (has_nothing_new n y (link_at w o).sending)
  where
    by_case : (b : Bool) → (if b then 0 else 1) ≤ 1
    by_case true = omega arith
    by_case false = omega arith

module _ (w : World) (x : ℕ) (m : Message) (f : IsFit w) (u : IsRunning w x) where
  abbrev y : Member
  y = published x m (member_at w x)

  abbrev w' : World
  w' = publish_at w x m

  member : IsWritten w w' x y
  member = written w w.views x y w.links u.lt

  stales : stale w' + 0 ≤ stale w + 0
  stales = stale_written w w' x y 0 0 u.some u.lt refl member (omega arith)

  owes : owed_by (view_in w (member_at w x).version) x y + 1 ≤ owed_at w x + 0 → owed w' + 1 ≤ owed w + 0
  owes less =
      sum_ids (size w) (size w') (owed_at w) (owed_at w') x 1 0 member.many u.some u.lt
      (λ q ne. let same : owed_at w' q ≡ owed_at w q = ap (λ (k : Member). owed_by (view_in w k.version) q k) (member.others q ne) in omega (arith, same))
      (subst (λ n. n + 1 ≤ owed_at w x + 0) (sym (ap (λ (k : Member). owed_by (view_in w k.version) x k) member.here)) less)

  dirties : dirty w' + 0 ≤ dirty w + 1
  dirties =
      sum_at (size w) (size w') (dirty_at (size w) w) (dirty_at (size w') w') x 0 1 member.many u.lt
      (λ q _ ne.
      let same : dirty_at (size w') w' q ≡ dirty_at (size w) w q = ap (λ n. dirty_at n w' q) member.many ∙ ap (λ (z : Member). dirty_on (size w) w' z z.out) (member.others q ne) ∙ dirty_same (size w) w w' (member_at w q) (member_at w q) (member_at w q).out refl (λ j _. refl) in
      omega (arith, same))
      (let most : dirty_at (size w') w' x ≤ 1 = dirty_most (size w') w' (member_at w' x) (member_at w' x).out in omega (arith, most))

  other_log : (p : ℕ) → p ≢ x → log_of w' p ≡ log_of w p
  other_log p ne = ap (λ (k : Member). k.log) (member.others p ne)

  longer : length (log_of w' x) ≡ length (log_of w x) + 1
  longer = ap (λ (k : Member). length k.log) member.here ∙ length_push (log_of w x) m

  pub tells_falls : owed_by (view_in w (member_at w x).version) x y + 1 ≤ owed_at w x + 0 → LowersThen w (publish_at w x m)
  tells_falls less k = record {
    falls = inr (omega arith, inr (omega (arith, stales), inl (omega (arith, owes less), refl)));
    less = all (stale w) (stale w') (owed w) (owed w') (dirty w) (dirty w') (lag w) (lag w') (on_links w) (on_links w') (size w) stales (owes less) dirties lags links (few_members w f.good);
  }
    where
      lag_one : (q : ℕ) → lag_by w' q + 0 ≤ lag_by w q + 3
      lag_one q =
          sum_at (size w) (size w') (lag_at w q) (lag_at w' q) x 0 3 member.many u.lt
          (λ p _ ne.
          subst (λ l. lag_row (length l) (row_of w' q p) ≤ lag_at w q p) (sym (other_log p ne))
          (row_less (length (log_of w p)) (row_of w q p) (row_of w' q p) (k.goes.never_falls.got q p) (k.goes.never_falls.forgot q p) (k.goes.never_falls.retired q p)))
          (row_more (length (log_of w x)) (length (log_of w' x)) (row_of w q x) (row_of w' q x) longer (k.goes.never_falls.got q x) (k.goes.never_falls.forgot q x) (k.goes.never_falls.retired q x))

      lags : lag w' ≤ lag w + 3 * (size w - 1)
      lags = sum_each (size w - 1) (size w' - 1) (λ i. lag_by w (i + 1)) (λ i. lag_by w' (i + 1)) (ap (λ n. n - 1) member.many) (λ i _. let one = lag_one (i + 1) in omega (arith, one))

      places : NoneRises w w'
      places = written_places w w' x y f.good member refl k.good k.later

      links : on_links w' ≤ on_links w
      links = sum_le (length w.links) (length w.links) (weight_at w) (weight_at w') refl (λ t tl. falls (items (link_at w t)) (place_at w' t) (place_at w t) (length (link_at w t).flow.grants) (places t tl))
        where
          falls : (i p' p g : ℕ) → p' ≤ p → 2 * i + p' + g ≤ 2 * i + p + g
          falls i p' p g h = omega arith

      all : (s s' o o' d d' g g' l l' n : ℕ) → s' + 0 ≤ s + 0 → o' + 1 ≤ o + 0 → d' + 0 ≤ d + 1 → g' ≤ g + 3 * (n - 1) → l' ≤ l → n ≤ 65
          → 2600000 * marks_left w + 39100 * s' + 600 * o' + (3 * d' + 3 * g' + l') < 2600000 * marks_left w + 39100 * s + 600 * o + (3 * d + 3 * g + l)
      all s s' o o' d d' g g' l l' n a b c e h i = omega arith

-- ---- who owes

pub led_parts : (o : Option MemberId) (x : ℕ) (late : Bool) (later : Option Reason) → or_else (lead_by o x late) later ≡ None → (is_led o x ≡ true) × ((late ≡ false) × (later ≡ None))
led_parts None x late later h = cc
led_parts (Some id) x late later h = by_case (nat_eq id.0 x) late h
  where
    by_case : (a b : Bool) → or_else (cond a (cond b (Some reason.NotStarted) None) (Some reason.NotMaster)) later ≡ None → (a ≡ true) × ((b ≡ false) × (later ≡ None))
    by_case true true k = cc
    by_case true false k = (refl, (refl, k))
    by_case false b k = cc

-- who leads may speak
pub led_none : (o : Option MemberId) (x : ℕ) (late : Bool) → is_led o x ≡ true → late ≡ false → lead_by o x late ≡ None
led_none None x late e f = absurd (false≢true e)
led_none (Some id) x late e f = rw (e, f) refl

-- and who is late may start
pub late_none : (g : Group) (x : ℕ) (started : Bool) → is_led g.master x ≡ true → is_late g started ≡ true → start_refusal g x started ≡ None
late_none g x started e late = ap (λ o. or_else o (refuse_if (nat_le g.term 1 || started) reason.AlreadyStarted)) (led_none g.master x false e refl) ∙ by_case (nat_le g.term 1) refl started late
  where
    by_case : (b : Bool) → nat_le g.term 1 ≡ b → (s : Bool) → (nat_lt 1 g.term && not s) ≡ true → refuse_if (b || s) reason.AlreadyStarted ≡ None
    by_case true e2 s k = absurd (let l : nat_lt 1 g.term ≡ false = grind (arith, nat_tests, e2) in both (nat_lt 1 g.term) s l k)
      where
        both : (a c : Bool) → a ≡ false → (a && not c) ≡ true → ⊥
        both true c p q = false≢true (sym p)
        both false c p q = false≢true q
    by_case false e2 true k = absurd (neither (nat_lt 1 g.term) k)
      where
        neither : (a : Bool) → (a && not true) ≡ true → ⊥
        neither true q = false≢true q
        neither false q = false≢true q
    by_case false e2 false k = refl

-- nobody is left to tell
none_untold : (v : ℕ) (es : List Entry) → count_by (is_untold v v) es ≡ 0
none_untold v [] = refl
none_untold v (e ∷ es) =
    sum_by-cons (λ k. cond (is_untold v v k) 1 0) e es
    ∙ ap (λ b. cond b 1 0 + count_by (is_untold v v) es) (by_case (is_live_mark e.mark) (not e.synced) (nat_lt v e.joined) (nat_lt v v) (let l : nat_lt v v ≡ false = grind (arith, nat_tests) in l))
    ∙ (let rest : 0 + count_by (is_untold v v) es ≡ count_by (is_untold v v) es = omega arith in rest) ∙ none_untold v es
  where
    by_case : (a b c d : Bool) → d ≡ false → (a && (b && (c && d))) ≡ false
    by_case true true true d e = e
    by_case true true false d e = refl
    by_case true false c d e = refl
    by_case false b c d e = refl

-- from something owed to nothing
owed_falls : (led late late' : Bool) (n n' : ℕ) → led ≡ true → late' ≡ false → n' ≡ 0 → 1 ≤ (if late then 1 else 0) + n
    → (if led then (if late' then 1 else 0) + n' else 0) + 1 ≤ (if led then (if late then 1 else 0) + n else 0) + 0
owed_falls true late false n n' a b c h = omega (arith, c, h)
owed_falls true late true n n' a b c h = absurd (false≢true (sym b))
owed_falls false late late' n n' a b c h = absurd (false≢true a)

module _ (w : World) (x d : ℕ) where
  abbrev g : Group
  g = view_in w (member_at w x).version

  abbrev started : Bool
  started = (member_at w x).started

  -- a Start
  pub start_owed : start_refusal g x started ≡ None → owed_by g x (published x (message.Queue (op.Start d)) (member_at w x)) + 1 ≤ owed_at w x + 0
  start_owed h =
      let a = led_parts g.master x false (refuse_if (nat_le g.term 1 || started) reason.AlreadyStarted) h in
      let late : is_late g started ≡ true = by_case (nat_le g.term 1) refl started (refuse_none (nat_le g.term 1 || started) reason.AlreadyStarted a.1.1) in
      owed_falls (is_led g.master x) (is_late g started) (is_late g (started || true)) (untold g (member_at w x)) (count_by (is_untold (member_at w x).version (member_at w x).version) g.entries) a.0
      (on_time (nat_lt 1 g.term) started) (none_untold (member_at w x).version g.entries)
      (subst (λ b. 1 ≤ (if b then 1 else 0) + untold g (member_at w x)) (sym late) (omega arith))
    where
      by_case : (b : Bool) → nat_le g.term 1 ≡ b → (c : Bool) → (b || c) ≡ false → (nat_lt 1 g.term && not c) ≡ true
      by_case true e c k = absurd (false≢true (sym k))
      by_case false e true k = absurd (false≢true (sym k))
      by_case false e false k = let l : nat_lt 1 g.term ≡ true = grind (arith, nat_tests, e) in rw l refl

      on_time : (t s : Bool) → (t && not (s || true)) ≡ false
      on_time true true = refl
      on_time true false = refl
      on_time false s = refl

  -- a Depth, where there is somebody to tell
  pub depth_owed : lead_refusal g x started ≡ None → nat_lt 0 (untold g (member_at w x)) ≡ true → owed_by g x (published x (message.Queue (op.Depth d)) (member_at w x)) + 1 ≤ owed_at w x + 0
  depth_owed h some =
      let a = led_parts g.master x (is_late g started) None (then_none (lead_refusal g x started) h) in
      owed_falls (is_led g.master x) (is_late g started) (is_late g (started || false)) (untold g (member_at w x)) (count_by (is_untold (member_at w x).version (member_at w x).version) g.entries) a.0
      (still (nat_lt 1 g.term) started a.1.0) (none_untold (member_at w x).version g.entries)
      (more (untold g (member_at w x)) (if is_late g started then 1 else 0) some)
    where
      then_none : (o : Option Reason) → o ≡ None → or_else o None ≡ None
      then_none None e = refl
      then_none (Some r) e = e

      still : (t s : Bool) → (t && not s) ≡ false → (t && not (s || false)) ≡ false
      still true true e = refl
      still true false e = e
      still false s e = refl

      more : (n k : ℕ) → nat_lt 0 n ≡ true → 1 ≤ k + n
      more n k e = grind (arith, nat_tests, e)
