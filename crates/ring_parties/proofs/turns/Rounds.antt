-- The turns of a party in a round, one after another.
use Rattle.std.proofs.Common.{◌≡◌, ◌≢◌, ◌⊎◌, inl, inr, ℕ, zero, suc, ◌+◌, ◌≤◌, Bool, true, false, cond, nat_eq, List, [], ◌∷◌, ◌++◌, length, map, take, Option, Some, None, refl, sym, ap, subst, ◌∙◌, arith, append-nil, length-append}
use Rattle.std.specs.Prelude.{Ok, IfSome, option_map}
use Rattle.std.specs.List.{All, filter, slice_get}
use Rattle.std.proofs.lemmas.Option.{slice_get_within}
use Rattle.std.proofs.lemmas.List.{map-append}
use Rattle.std.proofs.lemmas.List.Elements.{All-nil, All-cons, All-head, All-tail, All-append, filter-append}
use Rattle.ring_rules.specs.declared.phase.Phase.TheVariants.{Up}
use Rattle.ring_rules.specs.declared.event.Event.{Event}
use Rattle.ring_rules.specs.declared.event.Client.{Client}
use Rattle.ring_rules.specs.Event.{is_asked, asked_of, event_of}
use Rattle.gm_member.specs.Shown.{held_of}
use Rattle.ring_parties.specs.declared.party.Party.{Party}
use Rattle.ring_parties.specs.declared.turn.Turn.{Turn}
use Rattle.ring_parties.specs.declared.turn.Turn.TheVariants as turn
use Rattle.ring_parties.specs.Turn.{Acted}
use Rattle.ring_parties.specs.Turns.{TookTurn, TakesRound, HasTaken, IsTurn, IsOfRound, Begins, FirstBegins, BeginsIf, answers_in, answered_by}
use Rattle.ring_parties.proofs.turns.Passing.{acted_trans}

-- ---- what was answered

answers-append : (es fs : List Event) → answers_in (es ++ fs) ≡ answers_in es ++ answers_in fs
answers-append es fs = ap (map answered_by) (filter-append is_asked es fs) ∙ map-append answered_by (filter is_asked es) (filter is_asked fs)

-- by one event
one_answers : (e : Event) → is_asked e ≡ true → answers_in (e ∷ []) ≡ answered_by e ∷ []
one_answers e asked = ap (λ b. map answered_by (cond b (e ∷ []) [])) asked

-- by one of its own, nothing
own_answers : (e : Event) → is_asked e ≡ false → answers_in (e ∷ []) ≡ []
own_answers e own = ap (λ b. map answered_by (cond b (e ∷ []) [])) own

-- one more task
take_one : {A : Type 0} (xs : List A) (n : ℕ) (x : A) → slice_get xs n ≡ Some x → take (suc n) xs ≡ take n xs ++ x ∷ []
take_one [] n x e = cc
take_one (y ∷ ys) zero x e = let same : y ≡ x = cc in ap (λ z. z ∷ []) same
take_one (y ∷ ys) (suc n) x e = ap (λ zs. y ∷ zs) (take_one ys n x e)

take_next : {A : Type 0} (xs : List A) (n : ℕ) (x : A) → slice_get xs n ≡ Some x → take (n + 1) xs ≡ take n xs ++ x ∷ []
take_next xs n x e = let up : n + 1 ≡ suc n = omega arith in ap (λ i. take i xs) up ∙ take_one xs n x e

all_more : (es : List Event) (e : Event) → All IsOfRound es → IsOfRound e → All IsOfRound (es ++ e ∷ [])
all_more es e all is = All-append IsOfRound es (e ∷ []) all (All-cons IsOfRound e [] is (All-nil IsOfRound))

-- the first of more events is the first of them
first_more : (es : List Event) (e : Event) → (es ≡ [] → Begins e) → FirstBegins es → FirstBegins (es ++ e ∷ [])
first_more [] e here before = here refl
first_more (x ∷ es) e here before = before

-- ---- a party that goes on

-- It has taken so many turns, and done one thing in each.
pub record Going (turns : ℕ) (tasks : List Client) (done : ℕ) (p m : Party) : Type 0 where
  pub events : List Event
  pub taken : HasTaken turns tasks done events
  pub acted : Acted events p m
  pub many : length events ≡ turns
  pub few : done ≤ turns

pub going_none : (tasks : List Client) (done : ℕ) (p : Party) → done ≡ 0 → Acted [] p p → Going 0 tasks done p p
going_none tasks done p none acted = record {
  events = [];
  taken = record {
    few = omega arith;
    within = omega (arith, none);
    answers = sym (ap (λ n. map event_of (take n tasks)) none);
    each = All-nil IsOfRound;
    begins = λ _. tt;
  };
  acted = acted;
  many = refl;
  few = omega (arith, none);
}

module _ (turns : ℕ) (tasks : List Client) (done : ℕ) (p m q : Party) (going : Going turns tasks done p m) (next : Option Client) (is : slice_get tasks done ≡ next) where
  abbrev es : List Event
  es = going.events

  long : (e : Event) → length (es ++ e ∷ []) ≡ turns + 1
  long e = omega (arith, length-append es (e ∷ []), going.many)

  -- it answered its next task
  pub going_task : TookTurn (nat_eq turns 0) next m q (Ok turn.Task) → Going (turns + 1) tasks (done + 1) p q
  going_task took = by_next next is took.ok.1 took.ok.2
    where
      by_next : (o : Option Client) → slice_get tasks done ≡ o → Acted took.ok.0 m q → IsTurn o turn.Task took.ok.0 → Going (turns + 1) tasks (done + 1) p q
      by_next None at acted x = absurd x
      by_next (Some t) at acted (e, one, asked, answers, by) = record {
        events = es ++ e ∷ [];
        taken = record {
          few = omega (arith, long e);
          within = omega (arith, slice_get_within tasks done t at);
          answers =
              answers-append es (e ∷ []) ∙ ap (λ xs. xs ++ answers_in (e ∷ [])) going.taken.answers
              ∙ ap (λ xs. map event_of (take done tasks) ++ xs) (one_answers e asked ∙ ap (λ x. x ∷ []) answers)
              ∙ sym (map-append event_of (take done tasks) (t ∷ [])) ∙ ap (map event_of) (sym (take_next tasks done t at));
          each = all_more es e going.taken.each (inr by);
          begins = λ some. first_more es e (λ _. inl asked) (going.taken.begins some);
        };
        acted = acted_trans es (e ∷ []) p m q going.acted (subst (λ (xs : List Event). Acted xs m q) one acted);
        many = long e;
        few = omega (arith, going.few);
      }

  -- it did something of its own
  pub going_own : TookTurn (nat_eq turns 0) next m q (Ok turn.Own) → Going (turns + 1) tasks done p q
  going_own took = by_event (own_of next took.ok.2) took.ok.1 took.ok.3
    where
      own_of : (o : Option Client) → IsTurn o turn.Own took.ok.0 → (e : Event) × (took.ok.0 ≡ e ∷ []) × (is_asked e ≡ false)
      own_of None x = x
      own_of (Some t) x = x

      at_first : (xs : List Client) (e : Event) (n k : ℕ) (o : Option Client) → slice_get xs k ≡ o → k ≤ n → xs ≢ [] → n ≡ 0 → BeginsIf (nat_eq n 0) o (e ∷ []) → Begins e
      at_first [] e n k o at few some none begins = absurd (some refl)
      at_first (x ∷ xs) e n k o at few some none begins =
          let first : k ≡ 0 = omega (arith, few, none) in
          let there : o ≡ Some x = sym at ∙ ap (slice_get (x ∷ xs)) first in
          let at_zero : BeginsIf (nat_eq 0 0) o (e ∷ []) = subst (λ (i : ℕ). BeginsIf (nat_eq i 0) o (e ∷ [])) none begins in
          subst (λ (w : Option Client). BeginsIf true w (e ∷ [])) there at_zero

      by_event : (e : Event) × (took.ok.0 ≡ e ∷ []) × (is_asked e ≡ false) → Acted took.ok.0 m q → BeginsIf (nat_eq turns 0) next took.ok.0 → Going (turns + 1) tasks done p q
      by_event (e, one, own) acted begins = record {
        events = es ++ e ∷ [];
        taken = record {
          few = omega (arith, long e);
          within = going.taken.within;
          answers =
              answers-append es (e ∷ []) ∙ ap (λ xs. answers_in es ++ xs) (own_answers e own) ∙ append-nil (answers_in es) ∙ going.taken.answers;
          each = all_more es e going.taken.each (inl own);
          begins = λ some. first_more es e (λ (none : es ≡ []). at_first tasks e turns done next is going.few some (sym going.many ∙ ap length none) (subst (BeginsIf (nat_eq turns 0) next) one begins)) (going.taken.begins some);
        };
        acted = acted_trans es (e ∷ []) p m q going.acted (subst (λ (xs : List Event). Acted xs m q) one acted);
        many = long e;
        few = omega (arith, going.few);
      }

-- it did one of the two, and counted the task
pub going_next : (turns : ℕ) (tasks : List Client) (done done' : ℕ) (p m q : Party) (next : Option Client) (t : Turn) → Going turns tasks done p m → slice_get tasks done ≡ next → TookTurn (nat_eq turns 0) next m q (Ok t)
    → ((t ≡ turn.Task) × (done' ≡ done + 1)) ⊎ ((t ≡ turn.Own) × (done' ≡ done)) → Going (turns + 1) tasks done' p q
going_next turns tasks done done' p m q next t going is took (inl (task, count)) =
    subst (λ (d : ℕ). Going (turns + 1) tasks d p q) (sym count)
    (going_task turns tasks done p m q going next is (subst (λ (u : Turn). TookTurn (nat_eq turns 0) next m q (Ok u)) task took))
going_next turns tasks done done' p m q next t going is took (inr (own, count)) =
    subst (λ (d : ℕ). Going (turns + 1) tasks d p q) (sym count)
    (going_own turns tasks done p m q going next is (subst (λ (u : Turn). TookTurn (nat_eq turns 0) next m q (Ok u)) own took))

-- ---- its round

-- it takes no more turns
pub going_ends : (turn turns : ℕ) (tasks : List Client) (done : ℕ) (p m q : Party) → Going turn tasks done p m → turn ≤ turns → (held_of p.node).phase ≡ Up → Acted [] m q → TakesRound turns tasks done p q
going_ends turn turns tasks done p m q going within up acted = record {
  events = going.events;
  taken = record {
    few = omega (arith, going.taken.few, within);
    within = going.taken.within;
    answers = going.taken.answers;
    each = going.taken.each;
    begins = going.taken.begins;
  };
  acted = λ _. subst (λ (xs : List Event). Acted xs p q) (append-nil going.events) (acted_trans going.events [] p m q going.acted acted);
  rests = λ down. absurd (down up);
}

-- a turn came to nothing
pub nothing_done : (first : Bool) (next : Option Client) (m q : Party) → TookTurn first next m q (Ok turn.Nothing) → Acted [] m q
nothing_done first next m q took = subst (λ (xs : List Event). Acted xs m q) (none_of next took.ok.2) took.ok.1
  where
    none_of : (o : Option Client) → IsTurn o turn.Nothing took.ok.0 → took.ok.0 ≡ []
    none_of None x = x
    none_of (Some t) x = x

pub nothing_took : (first : Bool) (next : Option Client) (m q : Party) (t : Turn) → TookTurn first next m q (Ok t) → t ≡ turn.Nothing → Acted [] m q
nothing_took first next m q t took none = nothing_done first next m q (subst (λ (u : Turn). TookTurn first next m q (Ok u)) none took)

-- it takes none, where it isn't up
pub rests_down : (turns : ℕ) (tasks : List Client) (done : ℕ) (p : Party) → done ≡ 0 → ((held_of p.node).phase ≡ Up → ⊥) → TakesRound turns tasks done p p
rests_down turns tasks done p none down = record {
  events = [];
  taken = record {
    few = omega arith;
    within = omega (arith, none);
    answers = sym (ap (λ n. map event_of (take n tasks)) none);
    each = All-nil IsOfRound;
    begins = λ _. tt;
  };
  acted = λ up. absurd (down up);
  rests = λ _. (refl, refl);
}

-- ---- the next task

all_at : (P : Client → Type 0) (xs : List Client) (n : ℕ) (x : Client) → All P xs → slice_get xs n ≡ Some x → P x
all_at P [] n x all e = cc
all_at P (y ∷ ys) zero x all e = let same : y ≡ x = cc in subst P same (All-head P y ys all)
all_at P (y ∷ ys) (suc n) x all e = all_at P ys n x (All-tail P y ys all) e

-- it is asked of the party, however it is shown
pub own_next : {A : Type 0} (v : A → Client) (tasks : List Client) (done : ℕ) (name name' : List ℕ) (next : Option A) → All (λ t. asked_of t ≡ name) tasks → name' ≡ name → option_map v next ≡ slice_get tasks done → IfSome next (λ t. asked_of (v t) ≡ name')
own_next v tasks done name name' None all same at = tt
own_next v tasks done name name' (Some t) all same at = all_at (λ u. asked_of u ≡ name) tasks done (v t) all (sym at) ∙ sym same
