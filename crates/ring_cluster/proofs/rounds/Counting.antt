-- How many turns of a member there were.
use Rattle.std.proofs.Common.{◌≡◌, ℕ, ◌+◌, ◌≤◌, Bool, true, false, List, [], ◌∷◌, ◌++◌, length, cond, bytes_eq, refl, sym, ap, subst, ◌∙◌, arith, append-nil, append_assoc}
use Rattle.std.specs.List.{All}
use Rattle.std.proofs.lemmas.List.{length-append}
use Rattle.std.proofs.lemmas.List.Elements.{All-nil, All-cons, All-head, All-tail, filter-append}
use Rattle.std.proofs.lemmas.List.Sums.{length-filter, count_by-le-length}
use Rattle.ring_rules.specs.declared.event.Event.{Event}
use Rattle.ring_rules.specs.declared.event.Client.{Client}
use Rattle.ring_rules.specs.Event.{by_of, asked_of, event_of, refusal}
use Rattle.ring_rules.proofs.events.Names.{same_bytes}
use Rattle.ring_cluster.specs.Seen.{Seen, state_of, IsGoing, SameButOwed, with_event}
use Rattle.ring_cluster.specs.Plays.{answer_to, performed}
use Rattle.ring_cluster.specs.Turns.{IsMemberAt, DoesAtMost, events_of, EachDoesAtMost}
use Rattle.ring_cluster.proofs.rounds.Named.{answered_by}
use Rattle.ring_cluster.proofs.rounds.Members.{names_differ}

-- ---- of one member

pub did_none : (turns : ℕ) (name : List ℕ) (c d : Seen) → SameButOwed c d → DoesAtMost turns name c d
did_none turns name c d s = ([], ap (λ x. x.events) s.1 ∙ sym (append-nil c.events), omega arith, All-nil (λ e. by_of e ≡ name))

pub did_one : (name : List ℕ) (c d : Seen) (e : Event) → by_of e ≡ name → SameButOwed (with_event c e) d → DoesAtMost 1 name c d
did_one name c d e at s = (e ∷ [], ap (λ x. x.events) s.1, omega arith, All-cons (λ k. by_of k ≡ name) e [] at (All-nil (λ k. by_of k ≡ name)))

pub did_task : (by : List ℕ) (c d : Seen) (t : Client) (ts : List Client) → asked_of t ≡ by → SameButOwed (performed c by (answer_to (state_of c) t) ts) d → DoesAtMost 1 by c d
did_task by c d t ts asks s =
    let e : Event = answer_to (state_of c) t in
    (e ∷ [], ap (λ x. x.events) s.1, omega arith, All-cons (λ x. by_of x ≡ by) e [] (answered_by t (refusal (state_of c) (event_of t)) ∙ asks) (All-nil (λ x. by_of x ≡ by)))

-- where only what is owed changed before
pub did_later : (n : ℕ) (name : List ℕ) (c d e : Seen) → SameButOwed c d → DoesAtMost n name d e → DoesAtMost n name c e
did_later n name c d e s h = subst (λ x. DoesAtMost n name x e) s.1 h

-- of one that was named otherwise
pub did_named : (n : ℕ) (name other : List ℕ) (c d : Seen) → name ≡ other → DoesAtMost n name c d → DoesAtMost n other c d
did_named n name other c d same h = subst (λ x. DoesAtMost n x c d) same h

-- ---- of each

-- the events of other members are none of this name
others_are_none : (at name : List ℕ) (es : List Event) → bytes_eq at name ≡ false → All (λ e. by_of e ≡ at) es → events_of name es ≡ []
others_are_none at name [] b h = refl
others_are_none at name (e ∷ es) b h =
    ap (λ is. cond is (e ∷ events_of name es) (events_of name es)) (ap (λ n. bytes_eq n name) (All-head (λ x. by_of x ≡ at) e es h) ∙ b)
    ∙ others_are_none at name es b (All-tail (λ x. by_of x ≡ at) e es h)

many_of : (name : List ℕ) (es : List Event) → length (events_of name es) ≤ length es
many_of name es = omega (arith, length-filter (λ e. bytes_eq (by_of e) name) es, count_by-le-length (λ e. bytes_eq (by_of e) name) es)

both_of : (name : List ℕ) (xs ys : List Event) → length (events_of name (xs ++ ys)) ≡ length (events_of name xs) + length (events_of name ys)
both_of name xs ys = ap length (filter-append (λ e. bytes_eq (by_of e) name) xs ys) ∙ length-append (events_of name xs) (events_of name ys)

-- only the members below k have taken turns, each at most so many
pub record FewBelow (turns k : ℕ) (c d : Seen) : Type 0 where
  pub more : List Event
  pub events : d.events ≡ c.events ++ more
  pub few : (name : List ℕ) → length (events_of name more) ≤ turns
  pub later : (i : ℕ) (name : List ℕ) → k ≤ i → IsMemberAt c i name → events_of name more ≡ []

pub few_none : (turns : ℕ) (c : Seen) → FewBelow turns 0 c c
few_none turns c = record { more = []; events = sym (append-nil c.events); few = λ name. omega arith; later = λ i name k l. refl }

-- a member's events and those of the members before it
few_by : (turns k : ℕ) (at : List ℕ) (c d : Seen) (es : List Event) (name : List ℕ) (is : Bool) → IsMemberAt c k at → (a : FewBelow turns k c d) → length es ≤ turns → All (λ e. by_of e ≡ at) es → bytes_eq at name ≡ is → length (events_of name (a.more ++ es)) ≤ turns
few_by turns k at c d es name true m a few by_k is = omega (arith, both_of name a.more es, many_of name es, few, ap length (subst (λ n. events_of n a.more ≡ []) (same_bytes at name is) (a.later k at (omega arith) m)))
few_by turns k at c d es name false m a few by_k is = omega (arith, both_of name a.more es, a.few name, ap length (others_are_none at name es is by_k))

pub few_more : (turns k : ℕ) (at : List ℕ) (c d e : Seen) → IsGoing c → IsMemberAt c k at → FewBelow turns k c d → DoesAtMost turns at d e → FewBelow turns (k + 1) c e
few_more turns k at c d e g m a b = record {
  more = a.more ++ b.0;
  events = b.1 ∙ ap (λ es. es ++ b.0) a.events ∙ append_assoc c.events a.more b.0;
  few = λ name. few_by turns k at c d b.0 name (bytes_eq at name) m a b.2 b.3 refl;
  later = λ i name above is.
      filter-append (λ x. bytes_eq (by_of x) name) a.more b.0
      ∙ ap (λ es. es ++ events_of name b.0) (a.later i name (omega (arith, above)) is)
      ∙ others_are_none at name b.0 (names_differ c k i at name g m is (omega (arith, above))) b.3;
}

pub few_each : (turns k : ℕ) (c d : Seen) → FewBelow turns k c d → EachDoesAtMost turns c d
few_each turns k c d h = (h.more, h.events, h.few)

-- where nothing has happened
pub each_none : (turns : ℕ) (c d : Seen) → d.events ≡ c.events → EachDoesAtMost turns c d
each_none turns c d is = ([], is ∙ sym (append-nil c.events), λ name. omega arith)

-- where the events are the same
pub each_beside : (turns : ℕ) (c c1 d1 d : Seen) → c1.events ≡ c.events → d.events ≡ d1.events → EachDoesAtMost turns c1 d1 → EachDoesAtMost turns c d
each_beside turns c c1 d1 d before after h = (h.0, after ∙ h.1 ∙ ap (λ es. es ++ h.0) before, h.2)

-- one part behind another
pub each_more : (m n most : ℕ) (c d e : Seen) → m + n ≤ most → EachDoesAtMost m c d → EachDoesAtMost n d e → EachDoesAtMost most c e
each_more m n most c d e le a b = (
  a.0 ++ b.0,
  b.1 ∙ ap (λ es. es ++ b.0) a.1 ∙ append_assoc c.events a.0 b.0,
  λ name. omega (arith, le, both_of name a.0 b.0, a.2 name, b.2 name),
)

pub each_fewer : (m n : ℕ) (c d : Seen) → m ≤ n → EachDoesAtMost m c d → EachDoesAtMost n c d
each_fewer m n c d le h = (h.0, h.1, λ name. omega (arith, le, h.2 name))
