-- Lists that grow from behind.
use Rattle.std.proofs.Common.{◌≡◌, ℕ, suc, ◌<◌, ◌≤◌, ◌+◌, ◌-◌, ◌⊎◌, inl, inr, Bool, true, false, List, [], ◌∷◌, ◌++◌, map, reverse, take, drop, length, get_or, cond, All, refl, ap, sym, ◌∙◌, arith}
use Rattle.std.specs.List.{filter, flat_map, range_with_len}
use Rattle.ring_world.specs.declared.walk.Round.{Round}
use Rattle.ring_world.specs.declared.walk.Part.TheVariants.{Every, Early, Late}
use Rattle.ring_rules.specs.Machine.{World, runs, runs_phase, no_member}
use Rattle.ring_rules.specs.OpenLinks.{open_links, open_packets, packets_on, stop_of, round_trip, number}
use Rattle.ring_world.specs.Walking.{reads, reads_row, says, said, stop_says}
use Rattle.std.proofs.lemmas.List.{drop_more, map-append, reverse-append, append_assoc, get_or-map, get_or_past, length-map, append-nil}
use Rattle.std.proofs.lemmas.List.Elements.{filter_passes, filter-append}
use Rattle.std.proofs.lemmas.Bool.{cases_lt, false≢true}
use Rattle.group_view.specs.declared.entry.Entry.{Entry}
use Rattle.group_view.specs.View.{ids}
use Rattle.group_view.specs.Ring.{from, before, rotated}
use Rattle.group_view.specs.Parts.{place_of}
use Rattle.group_view.proofs.Cuts.{ids-take, ids-drop}

-- behind what was said already comes what stands before it
pub said_more : {B : Type 0} (g : B → ℕ) (newer older : List B) (before walk : List ℕ) → walk ≡ before ++ map g (reverse newer) → walk ++ map g (reverse older) ≡ before ++ map g (reverse (older ++ newer))
said_more g newer older before walk e =
    ap (λ zs. zs ++ map g (reverse older)) e ∙ append_assoc before (map g (reverse newer)) (map g (reverse older))
    ∙ ap (λ zs. before ++ zs) (sym (map-append g (reverse newer) (reverse older)) ∙ ap (map g) (sym (reverse-append older newer)))

-- one more of those read backwards
pub told_more : {A B : Type 0} (f : A → B) (g : B → ℕ) (xs : List A) (k : ℕ) (d : A) (before walk : List ℕ) → k < length xs → walk ≡ before ++ map g (reverse (map f (drop (k + 1) xs))) →
    walk ++ g (f (get_or xs k d)) ∷ [] ≡ before ++ map g (reverse (map f (drop k xs)))
told_more f g xs k d before walk l e =
    said_more g (map f (drop (k + 1) xs)) (f (get_or xs k d) ∷ []) before walk e
    ∙ ap (λ zs. before ++ map g (reverse (map f zs))) (sym (drop_more xs k d l))

-- what is said on chosen links
abbrev pub gathered : {B : Type 0} → (B → ℕ) → (ℕ → List B) → (ℕ → Bool) → (ℕ → Bool) → List ℕ → List ℕ
gathered g packets sel opn links = map g (reverse (flat_map packets (filter sel (filter opn links))))

pub range_first : (s n : ℕ) → s < n → range_with_len s (n - s) ≡ s ∷ range_with_len (s + 1) (n - (s + 1))
range_first s n l = ap (range_with_len s) (let more : n - s ≡ suc (n - (s + 1)) = omega arith in more)

-- on one link more
gathered_head : {B : Type 0} (g : B → ℕ) (packets : ℕ → List B) (sel opn : ℕ → Bool) (s : ℕ) (rest : List ℕ) →
    gathered g packets sel opn (s ∷ rest) ≡ gathered g packets sel opn rest ++ gathered g packets sel opn (s ∷ [])
gathered_head {B} g packets sel opn s rest = by_open (opn s)
  where
    said : List ℕ → List ℕ
    said links = map g (reverse (flat_map packets links))

    opened : List ℕ
    opened = filter opn rest

    by_counted : (b : Bool) → said (cond b (s ∷ filter sel opened) (filter sel opened)) ≡ said (filter sel opened) ++ said (cond b (s ∷ []) [])
    by_counted true =
        ap (map g) (reverse-append (packets s) (flat_map packets (filter sel opened))) ∙ map-append g (reverse (flat_map packets (filter sel opened))) (reverse (packets s))
        ∙ ap (λ ks. said (filter sel opened) ++ map g (reverse ks)) (sym (append-nil (packets s)))
    by_counted false = sym (append-nil (said (filter sel opened)))

    by_open : (b : Bool) → said (filter sel (cond b (s ∷ opened) opened)) ≡ said (filter sel opened) ++ said (filter sel (cond b (s ∷ []) []))
    by_open true = by_counted (sel s)
    by_open false = sym (append-nil (said (filter sel opened)))

-- read from behind
pub gathered_more : {B : Type 0} (g : B → ℕ) (packets : ℕ → List B) (sel opn : ℕ → Bool) (s n : ℕ) (before walk : List ℕ) → s < n →
    walk ≡ before ++ gathered g packets sel opn (range_with_len (s + 1) (n - (s + 1))) →
    walk ++ gathered g packets sel opn (s ∷ []) ≡ before ++ gathered g packets sel opn (range_with_len s (n - s))
gathered_more g packets sel opn s n before walk l e =
    let rest : List ℕ = range_with_len (s + 1) (n - (s + 1)) in
    ap (λ zs. zs ++ gathered g packets sel opn (s ∷ [])) e
    ∙ append_assoc before (gathered g packets sel opn rest) (gathered g packets sel opn (s ∷ []))
    ∙ ap (λ zs. before ++ zs) (sym (gathered_head g packets sel opn s rest) ∙ sym (ap (gathered g packets sel opn) (range_first s n l)))

-- nor one that is open, and doesn't count
pub passed : {B : Type 0} (g : B → ℕ) (packets : ℕ → List B) (sel opn : ℕ → Bool) (s : ℕ) (walk : List ℕ) → opn s ≡ true → sel s ≡ false → walk ≡ walk ++ gathered g packets sel opn (s ∷ [])
passed g packets sel opn s walk opens skips =
    sym (ap (λ b. walk ++ map g (reverse (flat_map packets (filter sel (cond b (s ∷ []) []))))) opens
    ∙ ap (λ b. walk ++ map g (reverse (flat_map packets (cond b (s ∷ []) [])))) skips ∙ append-nil walk)

-- ---- a round

filter_every : (xs : List ℕ) → filter (λ (_ : ℕ). true) xs ≡ xs
filter_every [] = refl
filter_every (x ∷ xs) = ap (λ zs. x ∷ zs) (filter_every xs)

-- what is said of the stop of a further member
pub further_stop : (round : Round) (w : World) (p y : ℕ) → stop_says round Every w p y ≡ stop_of (reads round) (reads_row round) w p (open_packets w y) y
further_stop round w p y = ap (λ ls. map (says round p) (packets_on w y ls) ++ number (reads round) (reads_row round) w p y ∷ []) (filter_every (open_links w y))

pub further_stops : (round : Round) (w : World) (p : ℕ) (places : List ℕ) →
    flat_map (λ place. stop_says round Every w p (suc place)) places ≡ flat_map (λ z. stop_of (reads round) (reads_row round) w p (open_packets w z) z) (map suc places)
further_stops round w p [] = refl
further_stops round w p (x ∷ xs) =
    ap (λ a. a ++ flat_map (λ place. stop_says round Every w p (suc place)) xs) (further_stop round w p (suc x))
    ∙ ap (λ b. stop_of (reads round) (reads_row round) w p (open_packets w (suc x)) (suc x) ++ b) (further_stops round w p xs)

pub round_told : (round : Round) (w : World) (p owner : ℕ) (further start one two three : List ℕ) →
    one ≡ start ++ stop_says round Early w p (suc owner) → two ≡ one ++ flat_map (λ place. stop_says round Every w p (suc place)) further → three ≡ two ++ said round Late w p (suc owner) →
    three ≡ start ++ round_trip (reads round) (reads_row round) w p (suc owner ∷ map suc further)
round_told round w p owner further start one two three e1 e2 e3 =
    let a : List ℕ = stop_says round Early w p (suc owner) in
    let b : List ℕ = flat_map (λ place. stop_says round Every w p (suc place)) further in
    let l : List ℕ = said round Late w p (suc owner) in
    e3 ∙ ap (λ zs. zs ++ l) (e2 ∙ ap (λ zs. zs ++ b) e1) ∙ append_assoc (start ++ a) b l ∙ append_assoc start a (b ++ l)
    ∙ ap (λ zs. start ++ (a ++ (zs ++ l))) (further_stops round w p further)

-- ---- the running members

-- a place of one that runs is a member's
pub runs_within : (w : World) (p n : ℕ) → length w.members ≡ suc n → runs w (suc p) ≡ true → p < n
runs_within w p n many up = by_place (cases_lt p n)
  where
    by_place : (p < n) ⊎ (n ≤ p) → p < n
    by_place (inl l) = l
    by_place (inr l) = absurd (false≢true (sym (ap (λ m. runs_phase m.phase) (get_or_past w.members (suc p) no_member (omega (arith, many, l)))) ∙ up))

pub all_run : (w : World) (places xs : List ℕ) → map suc places ≡ filter (runs w) xs → All (λ p. runs w (suc p) ≡ true) places
all_run w places xs e k d l =
    ap (runs w) (sym (get_or-map suc places k d (suc d) l)) ∙ ap (λ zs. runs w (get_or zs k (suc d))) e ∙ filter_passes (runs w) xs k (suc d) (omega (arith, l, length-map places suc, ap length e))

pub all_within : (w : World) (n : ℕ) (places : List ℕ) → length w.members ≡ suc n → All (λ p. runs w (suc p) ≡ true) places → All (λ p. p < n) places
all_within w n places many h k d l = runs_within w (get_or places k d) n many (h k d l)

-- those of a ring that run, in two parts
pub running_parts : (w : World) (places : List ℕ) (entries front behind : List Entry) (y : ℕ) → front ≡ take (place_of entries y) entries → behind ≡ drop (place_of entries y) entries →
    map suc places ≡ filter (runs w) (ids behind) ++ filter (runs w) (ids front) → map suc places ≡ filter (runs w) (rotated y (ids entries))
running_parts w places entries front behind y ef eb h =
    h ∙ ap (λ zs. filter (runs w) zs ++ filter (runs w) (ids front)) (ap ids eb ∙ ids-drop entries y) ∙ ap (λ zs. filter (runs w) (from y (ids entries)) ++ filter (runs w) zs) (ap ids ef ∙ ids-take entries y)
    ∙ sym (filter-append (runs w) (from y (ids entries)) (before y (ids entries)))
