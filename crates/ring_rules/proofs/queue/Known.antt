-- Where no member has anything to do, the queue rests too: everybody knows how many messages its mirror lacks.
use Rattle.std.proofs.Common.{◌≡◌, ◌≢◌, ℕ, ◌+◌, ◌-◌, ◌<◌, ◌≤◌, Bool, true, false, cond, nat_eq, nat_lt, not, List, [], ◌∷◌, ◌++◌, length, take, drop, refl, sym, ap, subst, ◌∙◌, inl, inr, arith, Option, Some, None, option_map, if◌then◌else◌, append_assoc, length-append}
use Rattle.ring_rules.specs.QueueLaws.{CopiesAreRight}
use Rattle.std.specs.Prelude.{◌&&◌, ◌||◌}
use Rattle.std.specs.List.{list_any, count_by}
use Rattle.std.proofs.lemmas.Bool.{false≢true}
use Rattle.std.proofs.lemmas.Bool.Decides.{nat_tests}
use Rattle.std.proofs.lemmas.List.{drop-append-le, take_all, drop-drop, append-nil, take-take}
use Rattle.std.proofs.lemmas.Option.{none-some}
use Rattle.std.proofs.lemmas.List.Sums.{sum_by-cons}
use Rattle.std.proofs.lemmas.List.Folds.{list_any-append}
use Rattle.std.proofs.Math.Bool.{or-true}
use Rattle.ring_names.specs.declared.numbers.CreditSpec.{CreditSpec}
use Rattle.ring_names.specs.declared.numbers.MemberId.{MemberId}
use Rattle.queue_core.specs.Queue.{greatest}
use Rattle.queue_core.specs.declared.message.Message.{Message}
use Rattle.queue_core.specs.declared.op.Op.{Op}
use Rattle.queue_mirror.specs.Mirror.{is_tell, is_told, from}
use Rattle.queue_mirror.specs.Placed.{published_before}
use Rattle.queue_laws.specs.Part.{ops, past_of, seen}
use Rattle.queue_laws.specs.Laws.{MirrorsAgree}
use Rattle.queue_laws.proofs.Seen.{ops_cut}
use Rattle.queue_laws.proofs.Before.{past_append}
use Rattle.queue_laws.proofs.AllRuns.{good_agree}
use Rattle.group_view.specs.declared.entry.Entry.{Entry}
use Rattle.group_view.specs.Ring.{is_in}
use Rattle.group_view.specs.View.{Group, ids, entry_in, is_live_mark}
use Rattle.group_view.specs.Change.{AreOpeningNames}
use Rattle.group_view.proofs.Rings.{nat_eq-is, sym_test}
use Rattle.ring_rules.specs.Act.{Act, IsRun, last}
use Rattle.ring_rules.specs.Machine.{World, member_at, view_in, newest, ring, runs}
use Rattle.ring_rules.specs.Step.{log_of, opening}
use Rattle.ring_rules.specs.Lawful.{row_of}
use Rattle.ring_rules.specs.Quiet.{IsAtRest, IsResting, RingRests, QueueRests, IsQuiet}
use Rattle.ring_rules.specs.Idle.{OwesNothing, IsIdle}
use Rattle.ring_rules.proofs.rests.Rests.{run_idle_rests}
use Rattle.ring_rules.specs.Work.{is_led, is_late, is_untold, untold, owed_at}
use Rattle.ring_rules.specs.Masters.{earlier_of, last_of}
use Rattle.ring_rules.specs.QueuePart.{phase_of, got_of, masters_in, based, since_of, part_of}
use Rattle.queue_laws.specs.Part.{is_up}
use Rattle.ring_rules.proofs.walks.Put.{number_up}
use Rattle.ring_rules.proofs.rests.Forgotten.{retired_is_forgotten}
use Rattle.ring_rules.proofs.work.Nobody.{NobodyAtZero, ring_members, reached_nobody}
use Rattle.ring_rules.proofs.queue.Masters.{earlier_last}
use Rattle.ring_rules.proofs.queue.Facts.{Facts, reached_facts}
use Rattle.ring_rules.proofs.queue.Told.{Tells, tells_behind, run_tells, newest_version}
use Rattle.ring_rules.proofs.queue.Runs.{IsKnown, run_is_known}

-- ---- lists

-- what stands in a rest stands in the whole
any_rest : (k : ℕ) (l : List Message) → tells_behind k l ≡ true → list_any is_tell (ops l) ≡ true
any_rest k l h =
    ap (list_any is_tell) (ops_cut k l) ∙ list_any-append is_tell (ops (take k l)) (ops (drop k l))
    ∙ ap (λ b. list_any is_tell (ops (take k l)) || b) h ∙ or-true (list_any is_tell (ops (take k l)))

-- and behind an earlier place
tells_earlier : (j k : ℕ) (l : List Message) → j ≤ k → tells_behind k l ≡ true → tells_behind j l ≡ true
tells_earlier j k l le h =
    let back : j + (k - j) ≡ k = omega arith in
    any_rest (k - j) (drop j l) (ap (λ ms. list_any is_tell (ops ms)) (drop-drop (k - j) j l ∙ ap (λ n. drop n l) back) ∙ h)

-- less is received by less
fewer_ops : (b g : ℕ) (l : List Message) → b ≤ g → length (ops (take b l)) ≤ length (ops (take g l))
fewer_ops b g l le =
    let cut : ops (take g l) ≡ ops (take b (take g l)) ++ ops (drop b (take g l)) = ops_cut b (take g l) in
    let same : take b (take g l) ≡ take b l = take-take b g l le in
    let long : length (ops (take g l)) ≡ length (ops (take b l)) + length (ops (drop b (take g l))) = ap length cut ∙ length-append (ops (take b (take g l))) (ops (drop b (take g l))) ∙ ap (λ ms. length (ops ms) + length (ops (drop b (take g l)))) same in
    omega (arith, long)

fewer_past : (log : ℕ → List Message) (b g : ℕ → ℕ) (ms : List ℕ) → ((p : ℕ) → b p ≤ g p) → length (past_of log b ms) ≤ length (past_of log g ms)
fewer_past log b g [] h = omega arith
fewer_past log b g (p ∷ ms) h =
    let left : length (past_of log b (p ∷ ms)) ≡ length (ops (take (b p) (log p))) + length (past_of log b ms) = length-append (ops (take (b p) (log p))) (past_of log b ms) in
    let right : length (past_of log g (p ∷ ms)) ≡ length (ops (take (g p) (log p))) + length (past_of log g ms) = length-append (ops (take (g p) (log p))) (past_of log g ms) in
    omega (arith, left, right, fewer_ops (b p) (g p) (log p) (h p), fewer_past log b g ms h)

-- what stands behind the first b messages of the last log stands behind as many operations and those of the earlier logs
told_within : (f b : ℕ) (front : List Op) (l : List Message) → f ≤ length front + length (ops (take b l)) → tells_behind b l ≡ true → list_any is_tell (drop f (front ++ ops l)) ≡ true
told_within f b front l le h =
    let long : length (front ++ ops (take b l)) ≡ length front + length (ops (take b l)) = length-append front (ops (take b l)) in
    ap (λ os. list_any is_tell (drop f (front ++ os))) (ops_cut b l)
    ∙ ap (λ os. list_any is_tell (drop f os)) (sym (append_assoc front (ops (take b l)) (ops (drop b l))))
    ∙ ap (list_any is_tell) (drop-append-le f (front ++ ops (take b l)) (ops (drop b l)) (omega (arith, le, long)))
    ∙ list_any-append is_tell (drop f (front ++ ops (take b l))) (ops (drop b l))
    ∙ ap (λ c. list_any is_tell (drop f (front ++ ops (take b l))) || c) h ∙ or-true (list_any is_tell (drop f (front ++ ops (take b l))))

-- where none is counted, none passes
none_counted : (p : Entry → Bool) (es : List Entry) (n : ℕ) → count_by p es ≡ 0 → is_in n (ids es) ≡ true → p (entry_in es n) ≡ false
none_counted p [] n h i = absurd (false≢true i)
none_counted p (e ∷ es) n h i = by_case (nat_eq n e.id.0) refl i (p e) refl (sym (sum_by-cons (λ k. cond (p k) 1 0) e es) ∙ h) (λ a b. none_counted p es n a b)
  where
    by_case : (b : Bool) → nat_eq n e.id.0 ≡ b → cond b true (is_in n (ids es)) ≡ true → (c : Bool) → p e ≡ c → cond c 1 0 + count_by p es ≡ 0
        → (count_by p es ≡ 0 → is_in n (ids es) ≡ true → p (entry_in es n) ≡ false) → p (cond (nat_eq e.id.0 n) e (entry_in es n)) ≡ false
    by_case b eb k true ec none ih = absurd (omega (arith, none))
    by_case true eb k false ec none ih = ap (λ t. p (cond t e (entry_in es n))) (sym_test n e.id.0 true eb) ∙ ec
    by_case false eb k false ec none ih = ap (λ t. p (cond t e (entry_in es n))) (sym_test n e.id.0 false eb) ∙ ih (omega (arith, none)) k

-- ---- one that runs, beside the master

led_some : (o : Option MemberId) (m : ℕ) → is_led o m ≡ true → option_map (λ (id : MemberId). id.0) o ≡ Some m
led_some None m e = absurd (false≢true e)
led_some (Some id) m e = ap Some (nat_eq-is id.0 m e)

-- nothing owed: nobody untold
owes_nobody : (led : Bool) (late n : ℕ) → led ≡ true → (if led then late + n else 0) ≡ 0 → n ≡ 0
owes_nobody true late n e h = omega arith
owes_nobody false late n e h = absurd (false≢true e)

module _ (count : ℕ) (w : World) (f : Facts w) (k : IsKnown count w) (t : Tells w) (z : NobodyAtZero w) (a : IsAtRest w) (m n : ℕ) (owes : owed_at w m ≡ 0) (rm : runs w m ≡ true) (led : is_led (view_in w (newest w)).master m ≡ true) (rn : runs w n ≡ true) where
  abbrev v : Group
  v = view_in w (newest w)

  am : IsResting w m
  am = a.members m rm

  an : IsResting w n
  an = a.members n rn

  there : (q : ℕ) → runs w q ≡ true → is_in q (ring w) ≡ true
  there q rq = f.good.inv.is_ring.stands q (newest w) rq (f.good.inv.is_ring.held q) (omega arith)

  -- the master is the last one
  last_is : last_of (masters_in w) ≡ m
  last_is = sym (k.holds.terms.present m (led_some v.master m led))

  -- n has all of its log
  has_all : take (got_of w n m) (log_of w m) ≡ log_of w m
  has_all =
      let i = ring_members w f.good z m (there m rm) in
      let confirmed : (row_of w m m).retired ≤ (row_of w m m).forgot = retired_is_forgotten w m f.good am.up i.0 rm in
      let up : got_of w n m ≡ (row_of w n m).got = number_up (λ c. c.got) (λ r. r.got) w m n an.up in
      take_all (got_of w n m) (log_of w m) (omega (arith, up, f.lawful.confirmed.up n m i.0 i.1 an.up, confirmed, am.come_round))

  base_within : (p : ℕ) → (row_of w n p).base ≤ got_of w n p
  base_within p =
      let up : got_of w n p ≡ (row_of w n p).got = number_up (λ c. c.got) (λ r. r.got) w p n an.up in
      omega (arith, up, (f.order n p).base)

  agree : MirrorsAgree (part_of w)
  agree = good_agree (part_of w) k.gives k.holds

  -- who isn't registered was told
  was_told : (entry_in v.entries n).synced ≡ false → tells_behind (row_of w n m).base (log_of w m) ≡ true
  was_told unsynced =
      let none : untold (view_in w (member_at w m).version) (member_at w m) ≡ 0 = owes_nobody (is_led (view_in w (member_at w m).version).master m) (if is_late (view_in w (member_at w m).version) (member_at w m).started then 1 else 0) (untold (view_in w (member_at w m).version) (member_at w m)) (ap (λ u. is_led (view_in w u).master m) am.newest ∙ led) owes in
      let passed : is_untold (member_at w m).version (member_at w m).told (entry_in v.entries n) ≡ false =
      none_counted (is_untold (member_at w m).version (member_at w m).told) v.entries n (ap (λ u. count_by (is_untold (member_at w m).version (member_at w m).told) (view_in w u).entries) (sym am.newest) ∙ none) (there n rn) in
      let lives : is_live_mark (entry_in v.entries n).mark ≡ true = f.good.inv.is_ring.lives n (newest w) rn (f.good.inv.is_ring.held n) (omega arith) in
      let early : (entry_in v.entries n).joined ≤ (member_at w m).told =
      by_tests (is_live_mark (entry_in v.entries n).mark) (entry_in v.entries n).synced (nat_lt (member_at w m).told (entry_in v.entries n).joined) refl (nat_lt (member_at w m).told (member_at w m).version) refl lives unsynced passed in
      tells_earlier (row_of w n m).base (row_of w n m).born (log_of w m) (f.lawful.joins.base n m) (t.tells m n (there n rn) early)
    where
      by_tests : (b c d : Bool) → nat_lt (member_at w m).told (entry_in v.entries n).joined ≡ d → (e : Bool) → nat_lt (member_at w m).told (member_at w m).version ≡ e → b ≡ true → c ≡ false → (b && (not c && (d && e))) ≡ false → (entry_in v.entries n).joined ≤ (member_at w m).told
      by_tests true false false ed e ee x y h = grind (arith, nat_tests, ed)
      by_tests true false true ed false ee x y h =
          let late : (member_at w m).version ≤ (member_at w m).told = grind (arith, nat_tests, ee) in
          let came = t.joined n (there n rn) in
          omega (arith, late, came, newest_version w f.good, am.newest)
      by_tests true false true ed true ee x y h = absurd (false≢true (sym h))
      by_tests true true d ed e ee x y h = absurd (false≢true (sym y))
      by_tests false c d ed e ee x y h = absurd (false≢true x)

  -- so its mirror was
  is_told_now : (entry_in v.entries n).synced ≡ false → is_told (since_of w n) (seen (part_of w) n) ≡ true
  is_told_now unsynced = by_whole (member_at w n).whole
    where
      front : List Op
      front = past_of (log_of w) (got_of w n) (earlier_of (masters_in w))

      seen_is : seen (part_of w) n ≡ past_of (log_of w) (got_of w n) (earlier_of (masters_in w)) ++ ops (log_of w m)
      seen_is = ap (λ q. past_of (log_of w) (got_of w n) (earlier_of (masters_in w)) ++ ops (take (got_of w n q) (log_of w q))) last_is ∙ ap (λ ms. past_of (log_of w) (got_of w n) (earlier_of (masters_in w)) ++ ops ms) has_all

      few : length (based w n) ≤ length (past_of (log_of w) (got_of w n) (earlier_of (masters_in w))) + length (ops (take (row_of w n m).base (log_of w m)))
      few =
          let b : ℕ → ℕ = λ p. (row_of w n p).base in
          let all : based w n ≡ past_of (log_of w) (λ p. (row_of w n p).base) (earlier_of (masters_in w)) ++ (ops (take (row_of w n m).base (log_of w m)) ++ []) =
          ap (past_of (log_of w) (λ p. (row_of w n p).base)) (sym (earlier_last (masters_in w) k.masters.some))
          ∙ past_append (log_of w) (λ p. (row_of w n p).base) (earlier_of (masters_in w)) (last_of (masters_in w) ∷ [])
          ∙ ap (λ q. past_of (log_of w) (λ p. (row_of w n p).base) (earlier_of (masters_in w)) ++ (ops (take (row_of w n q).base (log_of w q)) ++ [])) last_is in
          let long : length (based w n) ≡ length (past_of (log_of w) (λ p. (row_of w n p).base) (earlier_of (masters_in w))) + length (ops (take (row_of w n m).base (log_of w m))) =
          ap length all ∙ length-append (past_of (log_of w) (λ p. (row_of w n p).base) (earlier_of (masters_in w))) (ops (take (row_of w n m).base (log_of w m)) ++ [])
          ∙ ap (λ os. length (past_of (log_of w) (λ p. (row_of w n p).base) (earlier_of (masters_in w))) + length os) (append-nil (ops (take (row_of w n m).base (log_of w m)))) in
          omega (arith, long, fewer_past (log_of w) (λ p. (row_of w n p).base) (got_of w n) (earlier_of (masters_in w)) base_within)

      by_whole : (b : Bool) → is_told (cond b None (Some (length (based w n)))) (seen (part_of w) n) ≡ true
      by_whole true = refl
      by_whole false =
          ap (λ os. list_any is_tell (drop (length (based w n)) os)) seen_is
          ∙ told_within (length (based w n)) (row_of w n m).base (past_of (log_of w) (got_of w n) (earlier_of (masters_in w))) (log_of w m) few (was_told unsynced)

  up_now : is_up (phase_of (member_at w n).phase) ≡ true
  up_now = ap (λ p. is_up (phase_of p)) an.up

  -- and so it knows what it lacks
  pub knows : (member_at w n).mirror.missing ≢ None
  knows none = by_synced (entry_in v.entries n).synced refl
    where
      by_synced : (b : Bool) → (entry_in v.entries n).synced ≡ b → ⊥
      by_synced true e = none-some 0 (sym none ∙ k.holds.mirrors.full n up_now e)
      by_synced false e =
          let told : is_told (since_of w n) (seen (part_of w) n) ≡ true = is_told_now e in
          none-some (length (published_before (from (since_of w n)) (seen (part_of w) n)))
          (sym none ∙ agree.missing n up_now ∙ ap (λ b. cond b (Some (length (published_before (from (since_of w n)) (seen (part_of w) n)))) None) told)

-- ---- in every idle state of every run

-- nothing is owed: no start
owes_no_start : (led late : Bool) (n : ℕ) → led ≡ true → (if led then (if late then 1 else 0) + n else 0) ≡ 0 → late ≡ false
owes_no_start true false n e h = refl
owes_no_start true true n e h = absurd (omega (arith, h))
owes_no_start false late n e h = absurd (false≢true e)

module _ (credit : CreditSpec) (names : List (List ℕ)) (events : List Act) (are : AreOpeningNames names) (few : length events < greatest) (run : IsRun (opening credit names) events) (right : CopiesAreRight (opening credit names) events) (idle : IsIdle (last (opening credit names) events)) where
  abbrev w : World
  w = last (opening credit names) events

  -- what the queue leaves to do, of one that runs
  owes_nothing : IsAtRest w → (y : ℕ) → runs w y ≡ true → OwesNothing w y
  owes_nothing rest y ry = (idle y ry).queue (rest.members y ry).up

  -- whoever misses nothing is registered: else it could be
  enrolled : IsAtRest w → (y : ℕ) → runs w y ≡ true → (member_at w y).mirror.missing ≡ Some 0 → (entry_in (view_in w (newest w)).entries y).synced ≡ true
  enrolled rest y ry full = by_synced (entry_in (view_in w (newest w)).entries y).synced refl
    where
      by_synced : (b : Bool) → (entry_in (view_in w (newest w)).entries y).synced ≡ b → b ≡ true
      by_synced true e = refl
      by_synced false e = absurd ((owes_nothing rest y ry).sync (rw (e, full) refl))

  -- who leads has started
  has_started : IsAtRest w → (m : ℕ) → runs w m ≡ true → is_led (view_in w (newest w)).master m ≡ true → is_late (view_in w (newest w)) (member_at w m).started ≡ false
  has_started rest m rm led =
      let own : (member_at w m).version ≡ newest w = (rest.members m rm).newest in
      subst (λ v. is_late (view_in w v) (member_at w m).started ≡ false) own
      (owes_no_start (is_led (view_in w (member_at w m).version).master m) (is_late (view_in w (member_at w m).version) (member_at w m).started) (untold (view_in w (member_at w m).version) (member_at w m))
      (ap (λ v. is_led (view_in w v).master m) own ∙ led) (owes_nothing rest m rm).owes)

  rests_all : IsAtRest w → QueueRests w
  rests_all rest = record {
    registered = λ y ry full. enrolled rest y ry full;
    started = λ m rm led. has_started rest m rm led;
    known = λ m n rm led rn.
        knows (0 + length events) w (reached_facts credit names events are run) (run_is_known credit names events are few run right) (run_tells credit names are events run) (reached_nobody credit names events are run) rest m n (owes_nothing rest m rm).owes rm led rn;
  }

  -- so where nobody has anything to do, the queue rests
  queue_rests : RingRests w → QueueRests w
  queue_rests (inr rest) = rests_all rest
  queue_rests (inl none) = record {
    registered = λ y ry full. absurd (false≢true (sym (none y) ∙ ry));
    started = λ m rm led. absurd (false≢true (sym (none m) ∙ rm));
    known = λ m n rm led rn k. false≢true (sym (none m) ∙ rm);
  }

  pub run_idle_is_quiet : IsQuiet w
  run_idle_is_quiet =
      let rests : RingRests w = run_idle_rests credit names events are run idle in
      record { rests = rests; queue = queue_rests rests }
