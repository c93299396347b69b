-- One turn after another, where members may stop.
use Rattle.std.proofs.Common.{◌++◌, ◌≡◌, ◌≢◌, ℕ, ◌+◌, ◌<◌, ◌≤◌, Bool, true, false, ◌||◌, List, [], ◌∷◌, length, Option, Some, None, refl, sym, ap, subst, ◌∙◌, ⊎_elim, arith}
use Rattle.std.proofs.lemmas.Bool.{cases_eq, cases_lt, false≢true}
use Rattle.ring_names.specs.declared.reason.Reason.{Reason}
use Rattle.ring_rules.specs.declared.event.Event.{Event}
use Rattle.ring_rules.specs.declared.event.Event.TheVariants.{Start}
use Rattle.ring_rules.specs.declared.event.Client.{Client}
use Rattle.ring_rules.specs.Machine.{World, member_at}
use Rattle.ring_rules.specs.Step.{size}
use Rattle.ring_rules.specs.Event.{asked_of, event_of, id_of, is_asked, refusal}
use Rattle.ring_rules.specs.Work.{total}
use Rattle.ring_cluster.specs.Agendas.{IsForNoCopy}
use Rattle.ring_cluster.specs.Seen.{Seen, state_of, IsGoing, SameButOwed, with_event}
use Rattle.ring_cluster.specs.Backlog.{backlog_of}
use Rattle.ring_cluster.specs.Plays.{agenda_of, answer_to, takes_up, is_due, IsDue, passes, LeavesAgenda, begun_by, SameGiven, HasBegun}
use Rattle.ring_cluster.specs.Turns.{Works, TakesRound, IsMemberAt, MembersStay, RestsAt, StartsFirst}
use Rattle.ring_cluster.proofs.deposits.Owed.{but_refl, but_trans}
use Rattle.ring_cluster.proofs.rounds.Playing.{HasGoneOn-refl, HasGoneOn-collecting, HasGoneOn-trans}
use Rattle.ring_cluster.proofs.rounds.Members.{found_in, event_stay, event_begun}
use Rattle.ring_cluster.proofs.rounds.Passing.{passing_starts}
use Rattle.ring_cluster.proofs.rounds.Counting.{did_none, did_later, few_none, few_more, few_each, each_more, each_fewer}
use Rattle.ring_cluster.proofs.rounds.Doing.{Performs, own_falls, own_goes, own_left, performed_goes, performed_more, performed_less, asked_begun, begun_more_by, started_more, due_still}

pub given_refl : (c : Seen) → SameGiven c c
given_refl c = (refl, refl)

pub given_trans : (c d e : Seen) → SameGiven c d → SameGiven d e → SameGiven c e
given_trans c d e a b = (b.0 ∙ a.0, b.1 ∙ a.1)

-- a place is still one
pub place_still : (c d : Seen) (i : ℕ) → MembersStay c d → i + 1 < size (state_of c) → i + 1 < size (state_of d)
place_still c d i stay lt = (stay i (member_at (state_of c) (i + 1)).name (lt, refl)).0

-- ---- rounds

pub round_refl : (c : Seen) → TakesRound c c
round_refl c = record { goes = HasGoneOn-refl c; given = given_refl c; stay = λ i name h. h; begun = λ i lt h. h; less = omega arith }

pub round_trans : (c d e : Seen) → TakesRound c d → TakesRound d e → TakesRound c e
round_trans c d e a b = record {
  goes = HasGoneOn-trans c d e a.goes b.goes;
  given = given_trans c d e a.given b.given;
  stay = λ i name h. b.stay i name (a.stay i name h);
  begun = λ i lt h. b.begun i (place_still c d i a.stay lt) (a.begun i lt h);
  less = omega (arith, a.less, b.less);
}

-- ---- work

pub works_same : (c d : Seen) → SameButOwed c d → Works c d
works_same c d e = subst (Works c) (sym e.1) (record { round = record { goes = HasGoneOn-collecting c e.0; given = (refl, refl); stay = λ i name h. h; begun = λ i lt h. h; less = omega arith }; agendas = refl })

pub works_refl : (c : Seen) → Works c c
works_refl c = works_same c c (but_refl c)

pub works_trans : (c d e : Seen) → Works c d → Works d e → Works c e
works_trans c d e a b = record { round = round_trans c d e a.round b.round; agendas = b.agendas ∙ a.agendas }

pub own_works : (c d : Seen) (e : Event) → IsGoing c → is_asked e ≡ false → refusal (state_of c) e ≡ None → SameButOwed (with_event c e) d → Works c d
own_works c d e g l none is = record {
  round = record {
    goes = own_goes c d e l is;
    given = subst (SameGiven c) (sym is.1) (given_refl c);
    stay = event_stay c d e none (ap (λ x. x.credit) is.1) (ap (λ x. x.names) is.1) (ap (λ x. x.events) is.1);
    begun = event_begun c d e none (ap (λ x. x.credit) is.1) (ap (λ x. x.names) is.1) (ap (λ x. x.events) is.1);
    less = own_left c d e g none is;
  };
  agendas = ap (λ x. x.agendas) is.1;
}

pub works_round : (c d : Seen) → Works c d → TakesRound c d
works_round c d w = w.round

-- ---- turns

pub performed_round : (i : ℕ) (by : List ℕ) (c d : Seen) → IsGoing c → IsMemberAt c i by → Performs i by c d → TakesRound c d
performed_round i by c d g at p =
    let e : Event = answer_to (state_of c) p.0 in
    record {
      goes = performed_goes i by c d g at p;
      given = subst (SameGiven c) (sym p.5.1) (given_refl c);
      stay = event_stay c d e p.4 (ap (λ x. x.credit) p.5.1) (ap (λ x. x.names) p.5.1) (ap (λ x. x.events) p.5.1);
      begun = event_begun c d e p.4 (ap (λ x. x.credit) p.5.1) (ap (λ x. x.names) p.5.1) (ap (λ x. x.events) p.5.1);
      less = omega (arith, performed_less i by c d g at p);
    }

pub performed_begun : (i : ℕ) (by : List ℕ) (c d : Seen) → Performs i by c d → HasBegun i by c d
performed_begun i by c d p due = performed_more i by c d p

-- one that leaves its agenda starts as a master, where it would begin with its head
pub left_begun : (i : ℕ) (name : List ℕ) (c d e : Seen) → IsGoing c → IsMemberAt c i name → SameButOwed c d × LeavesAgenda c name → StartsFirst (i + 1) d e → HasBegun i name c e
left_begun i name c d e g at left starts due = by_tasks (agenda_of c name) refl
  where
    w : World
    w = state_of c

    x : ℕ
    x = i + 1

    by_reason : (t : Client) (ts : List Client) (o : Option Reason) → agenda_of c name ≡ t ∷ ts → asked_of t ≡ name → IsForNoCopy t → refusal w (event_of t) ≡ o → passes o ≡ true → length (begun_by name c.events) < length (begun_by name e.events)
    by_reason t ts None a asks none refused pass = absurd (false≢true pass)
    by_reason t ts (Some r) a asks none refused pass =
        let named = found_in c i g at.0 in
        let takes : takes_up (member_at w x).phase t ≡ true = sym (ap (is_due (member_at w x).phase) a) ∙ due in
        let may = passing_starts w x t r none (ap (id_of w) (asks ∙ sym at.1) ∙ named) named takes pass refused in
        let same : state_of d ≡ w = ap state_of left.0.1 in
        let events : d.events ≡ c.events = ap (λ s. s.events) left.0.1 in
        let done : SameButOwed (with_event d (Start (member_at (state_of d) x).name)) e =
        starts (ap (λ u. (member_at u x).phase) same ∙ may.0) (ap (λ u. refusal u (Start (member_at u x).name)) same ∙ may.1) in
        let by : (member_at (state_of d) x).name ≡ name = ap (λ u. (member_at u x).name) same ∙ at.1 in
        let now : e.events ≡ c.events ++ Start name ∷ [] = ap (λ s. s.events) done.1 ∙ ap (λ n. d.events ++ Start n ∷ []) by ∙ ap (λ es. es ++ Start name ∷ []) events in
        omega (arith, started_more name c.events, ap (λ es. length (begun_by name es)) now)

    by_tasks : (ts : List Client) → agenda_of c name ≡ ts → length (begun_by name c.events) < length (begun_by name e.events)
    by_tasks [] a = absurd (false≢true (sym (ap (is_due (member_at w x).phase) a) ∙ due))
    by_tasks (t ∷ ts) a = let l = left.1 t ts a in by_reason t ts (refusal w (event_of t)) a l.0 l.1 refl l.2

pub empty_begun : (i : ℕ) (name : List ℕ) (c d : Seen) → agenda_of c name ≡ [] → HasBegun i name c d
empty_begun i name c d e due = absurd (false≢true (sym (ap (is_due (member_at (state_of c) (i + 1)).phase) e) ∙ due))

-- where there are turns after it, or were before
pub begun_still : (i : ℕ) (name : List ℕ) (c d e : Seen) → HasBegun i name c d → TakesRound d e → HasBegun i name c e
begun_still i name c d e h t due = omega (arith, h due, begun_more_by d e name t.goes.0 t.goes.1.events)

pub begun_later : (i : ℕ) (name : List ℕ) (c d e : Seen) → IsMemberAt c i name → TakesRound c d → HasBegun i name d e → TakesRound d e → HasBegun i name c e
begun_later i name c d e at before h after due =
    let many = begun_more_by c d name before.goes.0 before.goes.1.events in
    ⊎_elim
    (λ (some : 0 < length (begun_by name before.goes.0)). begun_still i name c d e (λ _. omega (arith, some, many)) after due)
    (λ (none : length (begun_by name before.goes.0) ≤ 0).
    let still : IsDue d i name = due_still c d i name before.goes.0 before.goes.1 (before.begun i at.0) (omega (arith, none, asked_begun name before.goes.0)) due in
    omega (arith, h still, many))
    (cases_lt 0 (length (begun_by name before.goes.0)))

-- ---- who takes turns

-- whoever is at a place was there
pub member_back : (c d : Seen) (i : ℕ) (name : List ℕ) → MembersStay c d → i + 1 < size (state_of c) → name ≡ (member_at (state_of d) (i + 1)).name → IsMemberAt c i name
member_back c d i name stay lt is = (lt, sym (stay i (member_at (state_of c) (i + 1)).name (lt, refl)).1 ∙ sym is)

-- ---- rounds of turns

-- the members below k have begun
pub record BegunBelow (k : ℕ) (c d : Seen) : Type 0 where
  pub round : TakesRound c d
  pub begun : (i : ℕ) (name : List ℕ) → i < k → IsMemberAt c i name → HasBegun i name c d

pub begun_none : (c : Seen) → BegunBelow 0 c c
begun_none c = record { round = round_refl c; begun = λ i name l. absurd (omega arith) }

pub begun_more : (k : ℕ) (at : List ℕ) (c d e : Seen) → BegunBelow k c d → IsMemberAt c k at → TakesRound d e → HasBegun k at d e → BegunBelow (k + 1) c e
begun_more k at c d e b m t h = record {
  round = round_trans c d e b.round t;
  begun = λ i name l is.
      ⊎_elim
      (λ (same : i ≡ k).
      let named : name ≡ at = sym is.1 ∙ ap (λ j. (member_at (state_of c) (j + 1)).name) same ∙ m.1 in
      subst (λ n. HasBegun i n c e) (sym named) (subst (λ j. HasBegun j at c e) (sym same) (begun_later k at c d e m b.round h t)))
      (λ (ne : i ≢ k). begun_still i name c d e (b.begun i name (omega arith) is) t)
      (cases_eq i k);
}

-- so has everybody, once all have
pub all_begun : (k : ℕ) (c d : Seen) → k + 1 ≡ size (state_of c) → BegunBelow k c d → (i : ℕ) (name : List ℕ) → IsMemberAt c i name → HasBegun i name c d
all_begun k c d many b i name at = b.begun i name (omega (arith, many, at.0)) at

-- and once all have in the second part of a round, they have in the whole
pub parts_begun : (c d e : Seen) → TakesRound c d → TakesRound d e → ((i : ℕ) (name : List ℕ) → IsMemberAt d i name → HasBegun i name d e) → (i : ℕ) (name : List ℕ) → IsMemberAt c i name → HasBegun i name c e
parts_begun c d e a b begun i name at = begun_later i name c d e at a (begun i name (a.stay i name at)) b

-- ---- a pass

-- Members before the place k did something, or none did: then all stays, and each of them rests. What is done is of the kind Does,
-- and leaves less in the number many.
pub record MovedBelow (Does : Seen → Seen → Type 0) (many : Seen → ℕ) (Rests : Seen → ℕ → Type 0) (c d : Seen) (moved : Bool) (k : ℕ) : Type 0 where
  pub does : Does c d
  pub falls : moved ≡ true → many d < many c
  pub stays : moved ≡ false → SameButOwed c d
  pub rests : moved ≡ false → (i : ℕ) → i < k → Rests c i

-- each of these is told by what is seen, but for what is owed
pub record IsSeenSo (many : Seen → ℕ) (Rests : Seen → ℕ → Type 0) : Type 0 where
  pub number : (c d : Seen) → SameButOwed c d → many d ≡ many c
  pub rest : (c d : Seen) (i : ℕ) → SameButOwed c d → Rests d i → Rests c i

module _ (Does : Seen → Seen → Type 0) (many : Seen → ℕ) (Rests : Seen → ℕ → Type 0) (so : IsSeenSo many Rests) (trans : (c d e : Seen) → Does c d → Does d e → Does c e) where
  pub moved_more : (c d e : Seen) (moved did : Bool) (k : ℕ) → MovedBelow Does many Rests c d moved k → Does d e → (did ≡ true → many e < many d) → (did ≡ false → SameButOwed d e × Rests d k) → MovedBelow Does many Rests c e (moved || did) (k + 1)
  moved_more c d e true true k h w falls rests = record { does = trans c d e h.does w; falls = λ _. omega (arith, falls refl, h.falls refl); stays = λ x. absurd (false≢true (sym x)); rests = λ x. absurd (false≢true (sym x)) }
  moved_more c d e true false k h w falls rests = record { does = trans c d e h.does w; falls = λ _. omega (arith, so.number d e (rests refl).0, h.falls refl); stays = λ x. absurd (false≢true (sym x)); rests = λ x. absurd (false≢true (sym x)) }
  moved_more c d e false true k h w falls rests = record { does = trans c d e h.does w; falls = λ _. omega (arith, so.number c d (h.stays refl), falls refl); stays = λ x. absurd (false≢true (sym x)); rests = λ x. absurd (false≢true (sym x)) }
  moved_more c d e false false k h w falls rests = record {
    does = trans c d e h.does w;
    falls = λ x. absurd (false≢true x);
    stays = λ _. but_trans c d e (h.stays refl) (rests refl).0;
    rests = λ _ i l.
        ⊎_elim
        (λ (same : i ≡ k). subst (Rests c) (sym same) (so.rest c d k (h.stays refl) (rests refl).1))
        (λ (ne : i ≢ k). h.rests refl i (omega arith))
        (cases_eq i k);
  }

-- of the members' own work
abbrev pub PassedBelow : Seen → Seen → Bool → ℕ → Type 0
PassedBelow = MovedBelow Works (λ c. total (state_of c)) (λ c i. RestsAt (state_of c) (i + 1))

pub passed_none : (c : Seen) → PassedBelow c c false 0
passed_none c = record { does = works_refl c; falls = λ e. absurd (false≢true e); stays = λ _. but_refl c; rests = λ _ i l. absurd (omega arith) }

pub passed_more : (c d e : Seen) (moved did : Bool) (k : ℕ) → PassedBelow c d moved k → Works d e → (did ≡ true → total (state_of e) < total (state_of d)) → (did ≡ false → SameButOwed d e × RestsAt (state_of d) (k + 1)) → PassedBelow c e (moved || did) (k + 1)
passed_more = moved_more Works (λ c. total (state_of c)) (λ c i. RestsAt (state_of c) (i + 1))
    (record { number = λ c d s. ap (λ x. total (state_of x)) s.1; rest = λ c d i s h. subst (λ x. RestsAt (state_of x) (i + 1)) s.1 h })
    works_trans

-- of what clients asked
abbrev pub RestsFrom : Seen → ℕ → Type 0
RestsFrom c i = (name : List ℕ) → IsMemberAt c i name → LeavesAgenda c name

abbrev pub FinishedBelow : Seen → Seen → Bool → ℕ → Type 0
FinishedBelow = MovedBelow TakesRound backlog_of RestsFrom

pub finished_none : (c : Seen) → FinishedBelow c c false 0
finished_none c = record { does = round_refl c; falls = λ e. absurd (false≢true e); stays = λ _. but_refl c; rests = λ _ i l. absurd (omega arith) }

pub finished_more : (c d e : Seen) (moved did : Bool) (k : ℕ) → FinishedBelow c d moved k → TakesRound d e → (did ≡ true → backlog_of e < backlog_of d) → (did ≡ false → SameButOwed d e × RestsFrom d k) → FinishedBelow c e (moved || did) (k + 1)
finished_more = moved_more TakesRound backlog_of RestsFrom
    (record { number = λ c d s. ap backlog_of s.1; rest = λ c d i s h. subst (λ x. RestsFrom x i) s.1 h })
    round_trans

-- of one of them
pub performed_or : (i : ℕ) (by : List ℕ) (c d : Seen) (did : Bool) → IsGoing c → IsMemberAt c i by → (did ≡ true → Performs i by c d) → (did ≡ false → SameButOwed c d × LeavesAgenda c by) → TakesRound c d
performed_or i by c d true g at does rests = performed_round i by c d g at (does refl)
performed_or i by c d false g at does rests = works_round c d (works_same c d (rests refl).0)

pub rests_named : (i : ℕ) (by : List ℕ) (c d : Seen) → IsMemberAt c i by → SameButOwed c d × LeavesAgenda c by → SameButOwed c d × RestsFrom c i
rests_named i by c d at h = (h.0, λ name m. subst (LeavesAgenda c) (sym at.1 ∙ m.1) h.1)

-- ---- by what the driver does

-- what a step of a member of its own does
pub ruleset own_step = (own_falls, own_works, works_same)

-- what a turn does
pub ruleset one_turn = (performed_round, performed_begun, works_round, left_begun, works_same, did_none, did_later)

-- what a last turn does
pub ruleset last_turn = (round_refl, empty_begun, did_none)

-- what both parts of a round do
pub ruleset round_parts = (round_trans, parts_begun, each_more, each_fewer)

-- what a round does
pub ruleset rounds = (begun_more, begun_none, round_trans, all_begun, few_none, few_more, few_each)

-- what a drain does
pub ruleset draining = (works_round, round_trans)
