-- What a member puts next, by places, from what its tables keep.
use Rattle.std.proofs.Common.{◌≡◌, ℕ, ◌+◌, Bool, true, List, [], map, Result, Ok, Err, IfOk, sym, ap, ◌∙◌, arith}
use Rattle.std.specs.List.{list_all, range_with_len}
use Rattle.group_view.proofs.Lists.{all_range_agree}
use Rattle.activity.specs.Kept.{Kept, KeptRow, kept_of}
use Rattle.activity.specs.LastSent.{LastSent, LastSentRow, sent_of}
use Rattle.activity.specs.Packets.{LineSeen, line_of}
use Rattle.activity.specs.Diff.{is_last_sent, next_line}
use Rattle.gm_member.specs.Packets.{places, known_at, last_sent_at}
use Rattle.gm_member.proofs.Places.{map-range_same}
use Rattle.gm_member.proofs.Accepting.{kept_there, sent_there}

-- by places
abbrev kept_all : List KeptRow → List Kept
kept_all rows = map (λ p. kept_of rows (p + 1)) places

abbrev sent_all : List LastSentRow → List LastSent
sent_all rows = map (λ p. sent_of rows (p + 1)) places

-- the lines of the next packet
pub lines_are : (first : Bool) (rows : List KeptRow) (sent : List LastSentRow) (lines : List LineSeen) → ((p : ℕ) → line_of lines p ≡ next_line first p (kept_of rows p) (sent_of sent p))
    → map (λ p. line_of lines (p + 1)) places ≡ map (λ p. next_line first (p + 1) (known_at (map (λ q. kept_of rows (q + 1)) places) p) (last_sent_at (map (λ q. sent_of sent (q + 1)) places) p)) places
unfolding places
lines_are first rows sent lines h = map-range_same (λ p. line_of lines (p + 1)) (λ p. next_line first (p + 1) (known_at (kept_all rows) p) (last_sent_at (sent_all sent) p)) 64
    (λ p l. h (p + 1)
    ∙ ap (λ k. next_line first (p + 1) k (sent_of sent (p + 1))) (sym (kept_there rows p l))
    ∙ ap (next_line first (p + 1) (known_at (kept_all rows) p)) (sym (sent_there sent p l)))

-- those of the first one, before which nothing was sent
pub first_lines : (rows : List KeptRow) (none : List LastSentRow) (lines : List LineSeen) → none ≡ [] → ((p : ℕ) → line_of lines p ≡ next_line true p (kept_of rows p) (sent_of none p))
    → map (λ p. line_of lines (p + 1)) places ≡ map (λ p. next_line true (p + 1) (known_at (map (λ q. kept_of rows (q + 1)) places) p) (last_sent_at (map (λ q. sent_of [] (q + 1)) places) p)) places
first_lines rows none lines empty h = lines_are true rows [] lines (λ p. h p ∙ ap (λ s. next_line true p (kept_of rows p) (sent_of s p)) empty)

-- whether all was sent
pub last_sent_by_places : (rows : List KeptRow) (sent : List LastSentRow)
    → list_all (λ p. is_last_sent (kept_of rows (p + 1)) (sent_of sent (p + 1))) (range_with_len 0 64)
    ≡ list_all (λ p. is_last_sent (known_at (map (λ q. kept_of rows (q + 1)) places) p) (last_sent_at (map (λ q. sent_of sent (q + 1)) places) p)) places
unfolding places
last_sent_by_places rows sent = all_range_agree (λ p. is_last_sent (kept_of rows (p + 1)) (sent_of sent (p + 1))) (λ p. is_last_sent (known_at (kept_all rows) p) (last_sent_at (sent_all sent) p)) 0 64
    (λ p _ l. ap (λ k. is_last_sent k (sent_of sent (p + 1))) (sym (kept_there rows p (omega (arith, l))))
    ∙ ap (is_last_sent (known_at (kept_all rows) p)) (sym (sent_there sent p (omega (arith, l)))))

-- what two facts of a result give
pub both_ok : {A E : Type 0} {P Q R : A → Type 0} (r : Result A E) → ((a : A) → P a → Q a → R a) → IfOk r P → IfOk r Q → IfOk r R
both_ok (Ok a) h p q = h a p q
both_ok (Err e) h p q = tt
