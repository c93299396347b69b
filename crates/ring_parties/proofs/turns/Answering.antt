-- Of the merge of a round each member's events are those of its log.
use Rattle.std.proofs.Common.{◌≡◌, ◌≢◌, ⊎_elim, ℕ, true, false, cond, List, [], ◌∷◌, map, refl, sym, ap, subst, ◌∙◌}
use Rattle.std.specs.Prelude.{bytes_eq}
use Rattle.std.proofs.lemmas.Bool.{cases_eq, false_from_ne_true}
use Rattle.lamport_merge.specs.Merge.{Entry, Log, own, merged, AreLogs}
use Rattle.lamport_merge.proofs.Merging.{own_here, own_past}
use Rattle.ring_rules.specs.Kind.{kind_of}
use Rattle.ring_rules.specs.Event.{by_of}
use Rattle.ring_rules.proofs.events.Names.{same_bytes, own_bytes}
use Rattle.ring_parties.specs.Round.{Seat, Deed, IsLocalRun, entries_by, events_in}
use Rattle.ring_parties.specs.Turns.{events_of}
use Rattle.ring_parties.proofs.rounds.Parts.{Each, own_is_by}
use Rattle.ring_parties.proofs.turns.Names.{did_name}

-- ---- names

-- the entries of its log are of its name
pub local_named : (es : List (ℕ × Deed)) (a b : Seat) (name : List ℕ) → a.held.name ≡ name → IsLocalRun es a b → Each (λ e. by_of e.1.event ≡ name) es
local_named [] a b name is h = tt
local_named (e ∷ es) a b name is h = (h.1.0 ∙ is, local_named es h.0 b name (did_name (kind_of e.1.event) e.0 e.1 a h.0 h.1.1 ∙ is) h.2)

-- ---- one member's events

-- each entry of a merge is of the name of its party
abbrev AllBy : (ℕ → List ℕ) → List (Entry Deed) → Type 0
AllBy N [] = Unit {0}
AllBy N (e ∷ m) = (by_of e.event.event ≡ N e.party) × AllBy N m

all_by : (N : ℕ → List ℕ) (m : List (Entry Deed)) → ((p : ℕ) → Each (λ e. by_of e.1.event ≡ N p) (own p m)) → AllBy N m
all_by N [] h = tt
all_by N (e ∷ m) h =
    let mine : Each (λ d. by_of d.1.event ≡ N e.party) ((e.time, e.event) ∷ own e.party m) = subst (Each (λ d. by_of d.1.event ≡ N e.party)) (own_here e.party e m refl) (h e.party) in (
      mine.0,
      all_by N m (λ p. ⊎_elim
          (λ (is : e.party ≡ p). subst (λ q. Each (λ d. by_of d.1.event ≡ N q) (own q m)) is mine.1)
          (λ (ne : e.party ≢ p). subst (Each (λ d. by_of d.1.event ≡ N p)) (own_past p e m ne) (h p))
          (cases_eq e.party p)),
    )

some_entry : {X : Type 0} {x : X} {xs : List X} → x ∷ xs ≡ [] → ⊥
some_entry k = cc

-- who has the first entry has one, and so has who has one of the others
has_first : (e : Entry Deed) (m : List (Entry Deed)) → own e.party (e ∷ m) ≢ []
has_first e m k = some_entry (sym (own_here e.party e m refl) ∙ k)

has_more : (e : Entry Deed) (m : List (Entry Deed)) (p : ℕ) → own p m ≢ [] → own p (e ∷ m) ≢ []
has_more e m p has = ⊎_elim
    (λ (is : e.party ≡ p). λ (k : own p (e ∷ m) ≡ []). some_entry (sym (own_here p e m is) ∙ k))
    (λ (ne : e.party ≢ p). λ (k : own p (e ∷ m) ≡ []). has (sym (own_past p e m ne) ∙ k))
    (cases_eq e.party p)

-- where nobody else of the merge has the name of one, the events of that name are just its own
own_events : (N : ℕ → List ℕ) (x : ℕ) (m : List (Entry Deed)) → AllBy N m → ((p : ℕ) → own p m ≢ [] → N p ≡ N x → p ≡ x) → events_of (N x) (events_in m) ≡ map (λ (e : ℕ × Deed). e.1.event) (own x m)
own_events N x [] h just = refl
own_events N x (e ∷ m) h just = ⊎_elim
    (λ (is : e.party ≡ x).
    let same : bytes_eq (by_of e.event.event) (N x) ≡ true = ap (λ n. bytes_eq n (N x)) (h.0 ∙ ap N is) ∙ own_bytes (N x) in
    ap (λ b. cond b (e.event.event ∷ events_of (N x) (events_in m)) (events_of (N x) (events_in m))) same
    ∙ ap (λ es. e.event.event ∷ es) (own_events N x m h.1 (λ p has. just p (has_more e m p has)))
    ∙ sym (ap (map (λ (d : ℕ × Deed). d.1.event)) (own_here x e m is)))
    (λ (ne : e.party ≢ x).
    let other : bytes_eq (by_of e.event.event) (N x) ≡ false = false_from_ne_true (bytes_eq (by_of e.event.event) (N x)) (λ t. ne (just e.party (has_first e m) (sym h.0 ∙ same_bytes (by_of e.event.event) (N x) t))) in
    ap (λ b. cond b (e.event.event ∷ events_of (N x) (events_in m)) (events_of (N x) (events_in m))) other
    ∙ own_events N x m h.1 (λ p has. just p (has_more e m p has))
    ∙ sym (ap (map (λ (d : ℕ × Deed). d.1.event)) (own_past x e m ne)))
    (cases_eq e.party x)

-- and nobody's where none has the name
none_named : (N : ℕ → List ℕ) (name : List ℕ) (m : List (Entry Deed)) → AllBy N m → ((p : ℕ) → own p m ≢ [] → N p ≢ name) → events_of name (events_in m) ≡ []
none_named N name [] h apart = refl
none_named N name (e ∷ m) h apart =
    let other : bytes_eq (by_of e.event.event) name ≡ false = false_from_ne_true (bytes_eq (by_of e.event.event) name) (λ t. apart e.party (has_first e m) (sym h.0 ∙ same_bytes (by_of e.event.event) name t)) in
    ap (λ b. cond b (e.event.event ∷ events_of name (events_in m)) (events_of name (events_in m))) other
    ∙ none_named N name m h.1 (λ p has. apart p (has_more e m p has))

-- ---- the merge of a round

module _ (N : ℕ → List ℕ) (logs : List (Log Deed)) (are : AreLogs logs) (named : (p : ℕ) → Each (λ e. by_of e.1.event ≡ N p) (entries_by p logs)) where
  all_named : AllBy N (merged logs)
  all_named = all_by N (merged logs) (λ p. subst (Each (λ e. by_of e.1.event ≡ N p)) (sym (own_is_by p logs are)) (named p))

  pub events_of_one : (x : ℕ) → ((p : ℕ) → entries_by p logs ≢ [] → N p ≡ N x → p ≡ x) → events_of (N x) (events_in (merged logs)) ≡ map (λ (e : ℕ × Deed). e.1.event) (entries_by x logs)
  events_of_one x just = own_events N x (merged logs) all_named (λ p has. just p (λ e. has (own_is_by p logs are ∙ e))) ∙ ap (map (λ (e : ℕ × Deed). e.1.event)) (own_is_by x logs are)

  pub events_of_none : (name : List ℕ) → ((p : ℕ) → entries_by p logs ≢ [] → N p ≢ name) → events_of name (events_in (merged logs)) ≡ []
  events_of_none name apart = none_named N name (merged logs) all_named (λ p has. apart p (λ e. has (own_is_by p logs are ∙ e)))
