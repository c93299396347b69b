-- What members that stand in a state, and what they have published, show of it.
use Rattle.std.proofs.lemmas.List.{take-map, drop-map, length-map}
use Rattle.std.proofs.lemmas.List.FromFn.{length-map-range_with_len, get_or-map-range_with_len}
use Rattle.std.proofs.lemmas.List.Folds.{flat_map-map}
use Rattle.std.specs.List.{flat_map}
use Rattle.std.proofs.Common.{◌≡◌, ℕ, ◌+◌, ◌-◌, ◌<◌, Bool, false, List, [], ◌∷◌, length, take, drop, map, get_or, Option, refl, ap, sym, ◌∙◌, arith, Bor}
use Rattle.std.specs.Prelude.{count_by, cond}
use Rattle.std.specs.declared.vec.Vec.{Vec}
use Rattle.std.specs.declared.alloc.Global.{Global}
use Rattle.std.proofs.lemmas.List.Sums.{sum_by-cons}
use Rattle.queue_core.specs.declared.message.Message.{Message}
use Rattle.queue_core.specs.declared.message.Message.TheVariants.{Cast, Queue}
use Rattle.queue_core.specs.declared.op.Op.{Op}
use Rattle.queue_core.specs.declared.op.Op.TheVariants as op
use Rattle.confirm_book.specs.declared.kind.Kind.{Kind}
use Rattle.confirm_book.specs.declared.book.Totals.{Totals}
use Rattle.confirm_book.specs.Book.{is_cast as casts, is_publish as publishes, totals_in}
use Rattle.ring_rules.specs.declared.shown.Counts.{Counts}
use Rattle.ring_rules.specs.Rows.{messages_between}
use Rattle.ring_rules.specs.Shown.{is_cast, is_publish, is_publishing, counts_in}
use Rattle.ring_rules.specs.Published.{told_of}
use Rattle.ring_rules.specs.Machine.{World, row_at, member_at}
use Rattle.ring_rules.specs.Step.{size, log_of}
use Rattle.gm_member.proofs.Fit.{IsFit}
use Rattle.ring_parties.specs.Keeps.{kind_of_op, kind_of_message}
use Rattle.ring_cluster.specs.Published.{told_by, told_with, told_in, told_of_each}
use Rattle.ring_report.specs.Report.{name_of, cast_line, heard_from}

-- ---- what was published

-- what is told of the log of the member at a place
pub told_at_place : (w : World) (all : List (List (Option (List ℕ)))) (i : ℕ) → all ≡ told_of_each w → i + 1 < size w → get_or all i [] ≡ map told_of (log_of w (i + 1))
told_at_place w all i e lt =
    ap (λ ls. get_or ls i []) e ∙ get_or-map-range_with_len (λ x. map told_of (log_of w x)) 1 (size w - 1) i (i + 1) [] (omega arith) (omega arith)

-- of as many as there are members
pub told_many : (w : World) (all : List (Vec (Option (Bor (List ℕ))) Global)) → told_in all ≡ told_of_each w → length all ≡ size w - 1
told_many w all e =
    sym (length-map all (λ (v : Vec (Option (Bor (List ℕ))) Global). told_with v.items)) ∙ ap length e
    ∙ length-map-range_with_len (λ x. map told_of (log_of w x)) 1 (size w - 1)

-- what was received of the origin p is its log from the base up to what was got
pub heard_tells : (w : World) (x p base got : ℕ) (name : List ℕ) (bodies : List (Option (Bor (List ℕ)))) → IsFit w → name ≡ name_of w p → told_with bodies ≡ map told_of (log_of w p) → base ≡ (row_at (member_at w x) p).base
    → got ≡ (row_at (member_at w x) p).got → flat_map (cast_line name) (told_with (drop base (take got bodies))) ≡ heard_from w x p
heard_tells w x p base got name bodies f named log from all =
    let line = cast_line (name_of w p) in
    ap (λ n. flat_map (cast_line n) (told_with (drop base (take got bodies)))) named
    ∙ ap (flat_map line)
    (sym (drop-map told_by base (take got bodies)) ∙ ap (drop base) (sym (take-map told_by got bodies) ∙ ap (take got) log ∙ take-map told_of got (log_of w p))
    ∙ drop-map told_of base (take got (log_of w p))
    ∙ ap (map told_of) (ap (λ k. drop k (take got (log_of w p))) from ∙ ap (λ k. messages_between (row_at (member_at w x) p).base k (log_of w p)) all ∙ sym (f.lawful.in_order x p)))
    ∙ flat_map-map line told_of (row_at (member_at w x) p).heard

-- ---- how much

-- a book tells messages apart as the ring does
cast_alike : (m : Message) → casts (kind_of_message m) ≡ is_cast m
cast_alike (Cast body) = refl
cast_alike (Queue o) = by_op o
  where
    by_op : (o : Op) → casts (kind_of_op o) ≡ false
    by_op (op.Publish at body) = refl
    by_op (op.Deliver at) = refl
    by_op (op.Drop at) = refl
    by_op (op.Ack at) = refl
    by_op (op.Requeue at) = refl
    by_op (op.Depth depth) = refl
    by_op (op.SyncMark id) = refl
    by_op (op.Start depth) = refl

publish_alike : (m : Message) → publishes (kind_of_message m) ≡ is_publish m
publish_alike (Cast body) = refl
publish_alike (Queue o) = by_op o
  where
    by_op : (o : Op) → publishes (kind_of_op o) ≡ is_publishing o
    by_op (op.Publish at body) = refl
    by_op (op.Deliver at) = refl
    by_op (op.Drop at) = refl
    by_op (op.Ack at) = refl
    by_op (op.Requeue at) = refl
    by_op (op.Depth depth) = refl
    by_op (op.SyncMark id) = refl
    by_op (op.Start depth) = refl

-- so it counts as many
counted_alike : (f : Kind → Bool) (g : Message → Bool) → ((m : Message) → f (kind_of_message m) ≡ g m) → (log : List Message) → count_by f (map kind_of_message log) ≡ count_by g log
counted_alike f g same [] = refl
counted_alike f g same (m ∷ log) =
    sum_by-cons (λ k. cond (f k) 1 0) (kind_of_message m) (map kind_of_message log)
    ∙ ap (λ b. cond b 1 0 + count_by f (map kind_of_message log)) (same m) ∙ ap (λ n. cond (g m) 1 0 + n) (counted_alike f g same log)
    ∙ sym (sum_by-cons (λ m. cond (g m) 1 0) m log)

-- the totals of its kinds are the counts of a log
pub counts_tell : (t : Totals) (forgot : ℕ) (log : List Message) → t ≡ totals_in forgot (map kind_of_message log)
    → record { casts = t.casts; casts_confirmed = t.casts_confirmed; publishes = t.publishes; publishes_confirmed = t.publishes_confirmed } ≡ counts_in forgot log
counts_tell t forgot log e =
    let counts : ℕ → ℕ → ℕ → ℕ → Counts = λ a b c d. record { casts = a; casts_confirmed = b; publishes = c; publishes_confirmed = d } in
    let kinds = map kind_of_message log in
    let front : take forgot kinds ≡ map kind_of_message (take forgot log) = take-map kind_of_message forgot log in
    ap (λ (u : Totals). counts u.casts u.casts_confirmed u.publishes u.publishes_confirmed) e
    ∙ ap (λ a. counts a (count_by casts (take forgot kinds)) (count_by publishes kinds) (count_by publishes (take forgot kinds))) (counted_alike casts is_cast cast_alike log)
    ∙ ap (λ b. counts (count_by is_cast log) b (count_by publishes kinds) (count_by publishes (take forgot kinds))) (ap (count_by casts) front ∙ counted_alike casts is_cast cast_alike (take forgot log))
    ∙ ap (λ c. counts (count_by is_cast log) (count_by is_cast (take forgot log)) c (count_by publishes (take forgot kinds))) (counted_alike publishes is_publish publish_alike log)
    ∙ ap (counts (count_by is_cast log) (count_by is_cast (take forgot log)) (count_by is_publish log)) (ap (count_by publishes) front ∙ counted_alike publishes is_publish publish_alike (take forgot log))
