-- One step of the loop that merges.
use Rattle.std.proofs.Common.{◌≡◌, ℕ, zero, suc, ◌<◌, ◌+◌, false, nat_lt, List, [], ◌∷◌, ◌++◌, length, drop, set, get_or, refl, sym, ap, ◌∙◌, arith, append_assoc, append-nil}
use Rattle.std.specs.Prelude.{replicate}
use Rattle.std.proofs.lemmas.Bool.{false≢true, lt-ltb}
use Rattle.std.proofs.lemmas.List.{length-map}
use Rattle.ring_rules.specs.declared.event.Event.{Event}
use Rattle.lamport_merge.specs.Logs.{LogSeen}
use Rattle.lamport_merge.specs.Merge.{Entry, Log, merged, events_of, AreLogs}
use Rattle.lamport_merge.specs.Next.{IsFirstAt, NothingIsLeft, dropped}
use Rattle.lamport_merge.specs.Logs.{log_of, logs_of, left_of}
use Rattle.lamport_merge.proofs.Nexts.{next_merged, nothing_merged, rests_on, there_within}

-- all of them, from the first places on
rests_zero : (ls : List LogSeen) → left_of ls (replicate (length ls) 0) ≡ logs_of ls
rests_zero [] = refl
rests_zero (l ∷ ls) = ap (λ ks. log_of l ∷ ks) (rests_zero ls)

pub all_left : (ls : List LogSeen) (ns : List ℕ) → ns ≡ replicate (length ls) 0 → left_of ls ns ≡ logs_of ls
all_left ls ns e = ap (left_of ls) e ∙ rests_zero ls

-- the next entry stands at its place
pub next_there : (ls : List LogSeen) (ns : List ℕ) (i n : ℕ) (x : Entry Event) (l : LogSeen) → IsFirstAt i x (left_of ls ns) → length ns ≡ length ls → n ≡ get_or ns i n → l ≡ get_or ls i l → (rest : List (ℕ × Event)) × (drop n l.entries ≡ (x.time, x.event) ∷ rest)
next_there [] ns i n x l h e en el = absurd h
next_there (k ∷ ls) [] i n x l h e en el = absurd (omega (arith, e))
next_there (k ∷ ls) (m ∷ ns) zero n x l h e en el = (h.0, ap (λ p. drop p l.entries) en ∙ ap (λ (p : LogSeen). drop m p.entries) el ∙ h.1)
next_there (k ∷ ls) (m ∷ ns) (suc i) n x l h e en el = next_there ls ns i n x l h.1 (omega (arith, e)) en el

-- one place further on
get_or_any : (ns : List ℕ) (i n : ℕ) → i < length ns → n ≡ get_or ns i n → get_or ns i 0 ≡ n
get_or_any [] i n l e = absurd (omega (arith, l))
get_or_any (m ∷ ns) zero n l e = sym e
get_or_any (m ∷ ns) (suc i) n l e = get_or_any ns i n (omega (arith, l)) e

pub next_step : (ls : List LogSeen) (ns : List ℕ) (i n : ℕ) → i < length ls → length ns ≡ length ls → n ≡ get_or ns i n → left_of ls (set ns i (n + 1)) ≡ dropped i (left_of ls ns)
next_step ls ns i n l e en =
    let inside : i < length ns = omega (arith, l, e) in
    ap (λ k. left_of ls (set ns i (k + 1))) (sym (get_or_any ns i n inside en)) ∙ rests_on (logs_of ls) ns i inside (e ∙ sym (length-map ls log_of))

-- what was merged, with one event more
pub merged_more : (events all : List Event) (copy : Event) (i : ℕ) (x : Entry Event) (rs : List (Log Event)) → AreLogs rs → IsFirstAt i x rs → copy ≡ x.event → events ++ events_of (merged rs) ≡ all → (events ++ copy ∷ []) ++ events_of (merged (dropped i rs)) ≡ all
merged_more events all copy i x rs are h is e =
    append_assoc events (copy ∷ []) (events_of (merged (dropped i rs))) ∙ ap (λ c. events ++ c ∷ events_of (merged (dropped i rs))) is
    ∙ ap (λ es. events ++ events_of es) (sym (next_merged i x rs are h)) ∙ e

pub all_merged : (events all : List Event) (rs : List (Log Event)) → NothingIsLeft rs → events ++ events_of (merged rs) ≡ all → events ≡ all
all_merged events all rs h e = sym (append-nil events) ∙ ap (λ es. events ++ events_of es) (sym (nothing_merged rs h)) ∙ e

-- a look-up at that place finds something
pub never_past : (xs ys rest : List (ℕ × Event)) (n t : ℕ) (v : Event) → ys ≡ xs → drop n xs ≡ (t, v) ∷ rest → false ≡ nat_lt n (length ys) → ⊥
never_past xs ys rest n t v same e past = false≢true (past ∙ ap (λ zs. nat_lt n (length zs)) same ∙ lt-ltb n (length xs) (there_within xs rest n t v e))
