-- One step of the loop that merges and takes each event out of its log.
use Rattle.std.proofs.Common.{◌≡◌, ℕ, zero, suc, ◌<◌, ◌+◌, List, [], ◌∷◌, length, drop, set, get_or, refl, sym, ap, ◌∙◌, arith}
use Rattle.std.specs.List.{flat_map, sum_by}
use Rattle.std.proofs.lemmas.List.{drop-drop, drop-set-lt, drop_more, length-map}
use Rattle.std.proofs.lemmas.List.Concat.{length-flat_map}
use Rattle.std.proofs.lemmas.List.Sums.{sum_by-cons}
use Rattle.ring_rules.specs.declared.event.Event.{Event}
use Rattle.lamport_merge.specs.Logs.{LogSeen, left_of}
use Rattle.lamport_merge.specs.Merge.{Entry, Log, entries_in}
use Rattle.lamport_merge.specs.Next.{IsFirstAt, dropped}
use Rattle.lamport_merge.proofs.Steps.{next_there, next_step}
use Rattle.lamport_merge.proofs.Nexts.{there_within}

-- what is left of a log in which only an entry before that is another
left_same : (ls : List LogSeen) (ns : List ℕ) (i n : ℕ) (l k : LogSeen) → l ≡ get_or ls i l → k.party ≡ l.party → drop n k.entries ≡ drop n l.entries → i < length ls → length ns ≡ length ls → left_of (set ls i k) (set ns i n) ≡ left_of ls (set ns i n)
left_same [] ns i n l k el p e inside same = absurd (omega (arith, inside))
left_same (m ∷ ls) [] i n l k el p e inside same = absurd (omega (arith, same))
left_same (m ∷ ls) (o ∷ ns) zero n l k el p e inside same =
    ap (λ q. record { party = q; entries = drop n k.entries } ∷ left_of ls ns) p
    ∙ ap (λ es. record { party = l.party; entries = es } ∷ left_of ls ns) e
    ∙ ap (λ (q : LogSeen). record { party = q.party; entries = drop n q.entries } ∷ left_of ls ns) el
left_same (m ∷ ls) (o ∷ ns) (suc i) n l k el p e inside same =
    ap (λ rs. record { party = m.party; entries = drop o m.entries } ∷ rs) (left_same ls ns i n l k el p e (omega (arith, inside)) (omega (arith, same)))

-- the entries behind the first one of those that are left
behind : (xs : List (ℕ × Event)) (n : ℕ) (e : ℕ × Event) (rest : List (ℕ × Event)) → drop n xs ≡ e ∷ rest → drop (n + 1) xs ≡ rest
behind xs n e rest is = ap (λ k. drop k xs) (omega arith) ∙ sym (drop-drop 1 n xs) ∙ ap (λ es. drop 1 es) is

-- the next entry is there
pub next_within : (ls : List LogSeen) (ns : List ℕ) (i n : ℕ) (x : Entry Event) (l : LogSeen) → IsFirstAt i x (left_of ls ns) → length ns ≡ length ls → n ≡ get_or ns i n → l ≡ get_or ls i l → n < length l.entries
next_within ls ns i n x l first same en el =
    let t = next_there ls ns i n x l first same en el in
    there_within l.entries t.0 n x.time x.event t.1

-- the next event is taken, and its log left from behind it on
pub taken_step : (ls : List LogSeen) (ns : List ℕ) (i n m : ℕ) (x : Entry Event) (l k : LogSeen) (time : ℕ) (event : Event) → IsFirstAt i x (left_of ls ns) → i < length ls → length ns ≡ length ls → n ≡ get_or ns i n → m ≡ n + 1 → l ≡ get_or ls i l → k.party ≡ l.party → drop n l.entries ≡ (time, event) ∷ drop m k.entries → (left_of (set ls i k) (set ns i m) ≡ dropped i (left_of ls ns)) × (event ≡ x.event)
taken_step ls ns i n m x l k time event first inside same en em el p e =
    let t = next_there ls ns i n x l first same en el in
    let heads : (time, event) ∷ drop m k.entries ≡ (x.time, x.event) ∷ t.0 = sym e ∙ t.1 in
    let head : (time, event) ≡ (x.time, x.event) = cc in
    let rest : drop (n + 1) k.entries ≡ drop (n + 1) l.entries = ap (λ z. drop z k.entries) (sym em) ∙ sym (behind l.entries n (time, event) (drop m k.entries) e) in
    (ap (λ z. left_of (set ls i k) (set ns i z)) em ∙ left_same ls ns i (n + 1) l k el p rest inside same ∙ next_step ls ns i n inside same en, ap (λ (z : ℕ × Event). z.1) head)

-- an entry is what was there, and another now stands there
pub taken : (xs : List (ℕ × Event)) (n : ℕ) (y e : ℕ × Event) (event : Event) → n < length xs → y ≡ get_or xs n y → event ≡ y.1 → drop n xs ≡ (y.0, event) ∷ drop (n + 1) (set xs n e)
taken xs n y e event inside is same =
    drop_more xs n y inside ∙ ap (λ z. z ∷ drop (n + 1) xs) (sym is) ∙ ap (λ v. (y.0, v) ∷ drop (n + 1) xs) (sym same)
    ∙ ap (λ rest. (y.0, event) ∷ rest) (sym (drop-set-lt (n + 1) xs n e (omega arith)))

-- how many entries there are
pub entries_count : (ls : List (Log Event)) → length (flat_map entries_in ls) ≡ sum_by (λ (l : Log Event). length l.entries) ls
entries_count [] = refl
entries_count (l ∷ ls) =
    length-flat_map entries_in (l ∷ ls) ∙ sum_by-cons (λ (m : Log Event). length (entries_in m)) l ls
    ∙ ap (λ n. length (entries_in l) + n) (sym (length-flat_map entries_in ls) ∙ entries_count ls)
    ∙ ap (λ n. n + sum_by (λ (m : Log Event). length m.entries) ls) (length-map l.entries (λ (e : ℕ × Event). record { time = e.0; party = l.party; event = e.1 }))
    ∙ sym (sum_by-cons (λ (m : Log Event). length m.entries) l ls)
