-- Stores that are slices of a log: what is done with one leaves a slice, and shows the log's messages.
use Rattle.std.proofs.Common.{◌≡◌, ℕ, ◌+◌, ◌-◌, ◌<◌, ◌≤◌, List, [], ◌∷◌, ◌++◌, length, get_or, take, drop, sym, ap, ◌∙◌, arith, length-append, length-drop, get_or-take, get_or-drop, slice_index_or}
use Rattle.std.proofs.lemmas.List.{take-append-le, drop-append-le, drop-drop, drop-take, drop_at, take-take, take_more, length-take-le}
use Rattle.std.proofs.lemmas.Grind.{common_steps}
use Rattle.pending_store.specs.Store.{Pending, got_of, messages_between, kept_between, StartsAt, KeepsAll, Gains, ForgetsTo, IsSliceOf, IsNext}

module _ {T : Type 0} where
  -- a slice of a slice
  pub between_between : (lo hi a b : ℕ) (log : List T) → lo ≤ a → a ≤ b → b ≤ hi → messages_between (a - lo) (b - lo) (messages_between lo hi log) ≡ messages_between a b log
  between_between lo hi a b log la ab bh =
      let e : lo + (b - lo) ≡ b = omega arith in
      let f : lo + (a - lo) ≡ a = omega arith in
      ap (drop (a - lo)) (sym (drop-take lo (b - lo) (take hi log)) ∙ ap (λ n. drop lo (take n (take hi log))) e ∙ ap (drop lo) (take-take b hi log bh))
      ∙ drop-drop (a - lo) lo (take b log) ∙ ap (λ n. drop n (take b log)) f

  -- where a log has a next message, it is longer
  pub next_longer : (got : ℕ) (message : T) (log : List T) → IsNext log got message → got < length log
  next_longer got message log next =
      let e : length (drop got log) ≡ length (message ∷ next.0) = ap length next.1 in
      let f : length (drop got log) ≡ length log - got = length-drop got log in
      grind (arith, common_steps)

  -- the next message, by its place
  pub next_at : (got : ℕ) (message : T) (log : List T) → IsNext log got message → get_or log got message ≡ message
  next_at got message log next =
      let e : got + 0 ≡ got = omega arith in
      ap (λ n. get_or log n message) (sym e) ∙ sym (get_or-drop got log 0 message) ∙ ap (λ xs. get_or xs 0 message) next.1

  -- a slice, and the message behind it
  pub between_more : (lo got : ℕ) (message : T) (log : List T) → lo ≤ got → IsNext log got message → messages_between lo (got + 1) log ≡ messages_between lo got log ++ message ∷ []
  between_more lo got message log l next =
      let longer : got < length log = next_longer got message log next in
      let long : length (take got log) ≡ got = length-take-le got log (omega arith) in
      ap (drop lo) (take_more log got message longer ∙ ap (λ x. take got log ++ x ∷ []) (next_at got message log next))
      ∙ drop-append-le lo (take got log) (message ∷ []) (omega arith)

  -- the number of the last message, after each call
  pub starts_got : (at : ℕ) (s : Pending T) → StartsAt at s → got_of s ≡ at
  starts_got at s h = grind (arith, common_steps, h.forgot, h.messages)

  pub kept_got : (s t : Pending T) → KeepsAll s t → got_of t ≡ got_of s
  kept_got s t k = rw (k.forgot, k.messages)

  pub gains_got : (message : T) (s t : Pending T) → Gains s message t → got_of t ≡ got_of s + 1
  gains_got message s t g =
      let more : length t.messages ≡ length s.messages + 1 = ap length g.messages ∙ length-append s.messages (message ∷ []) in
      grind (arith, g.forgot, more)

  pub forgets_got : (to : ℕ) (s t : Pending T) → s.forgot ≤ to → to ≤ got_of s → ForgetsTo s to t → got_of t ≡ got_of s
  forgets_got to s t l r f =
      let fewer : length t.messages ≡ length s.messages - (to - s.forgot) = ap length f.messages ∙ length-drop (to - s.forgot) s.messages in
      grind (arith, f.forgot, fewer)

  -- a store that starts at a number that the log has reached is a slice
  pub slice_starts : (log : List T) (at : ℕ) (s : Pending T) → StartsAt at s → at ≤ length log → IsSliceOf log s
  slice_starts log at s h l = grind (arith, common_steps)

  -- the log grows
  pub slice_grows : (log more : List T) (s : Pending T) → IsSliceOf log s → IsSliceOf (log ++ more) s
  slice_grows log more s h = record {
    reached = grind (arith, common_steps, h.reached, length-append);
    messages = h.messages ∙ ap (drop s.forgot) (sym (take-append-le (got_of s) log more h.reached));
  }

  -- the store keeps what it kept
  pub slice_kept : (log : List T) (s t : Pending T) → IsSliceOf log s → KeepsAll s t → IsSliceOf log t
  slice_kept log s t h k = record { reached = rw (k.forgot, k.messages) h.reached; messages = rw (k.forgot, k.messages) h.messages }

  -- the store gains the log's next message
  pub slice_gains : (log : List T) (message : T) (s t : Pending T) → IsSliceOf log s → IsNext log (got_of s) message → Gains s message t → IsSliceOf log t
  slice_gains log message s t h next g =
      let longer : got_of s < length log = next_longer (got_of s) message log next in
      let got : got_of t ≡ got_of s + 1 = gains_got message s t g in
      record {
        reached = rw got (omega arith);
        messages = g.messages ∙ ap (λ xs. xs ++ message ∷ []) h.messages ∙ sym (between_more s.forgot (got_of s) message log (omega arith) next)
            ∙ ap (λ n. messages_between n (got_of s + 1) log) (sym g.forgot) ∙ ap (λ n. messages_between t.forgot n log) (sym got);
      }

  -- both gain the message
  pub slice_publishes : (log : List T) (message : T) (s t : Pending T) → IsSliceOf log s → got_of s ≡ length log → Gains s message t → IsSliceOf (log ++ message ∷ []) t
  slice_publishes log message s t h end g =
      slice_gains (log ++ message ∷ []) message s t (slice_grows log (message ∷ []) s h) ([], drop_at log (message ∷ []) (got_of s) (sym end)) g

  -- the store forgets
  pub slice_forgets : (log : List T) (to : ℕ) (s t : Pending T) → IsSliceOf log s → s.forgot ≤ to → to ≤ got_of s → ForgetsTo s to t → IsSliceOf log t
  slice_forgets log to s t h l r f =
      let got : got_of t ≡ got_of s = forgets_got to s t l r f in
      let e : s.forgot + (to - s.forgot) ≡ to = omega arith in
      record {
        reached = rw got h.reached;
        messages = f.messages ∙ ap (drop (to - s.forgot)) h.messages ∙ drop-drop (to - s.forgot) s.forgot (take (got_of s) log)
            ∙ ap (λ n. messages_between n (got_of s) log) (e ∙ sym f.forgot) ∙ ap (λ n. messages_between t.forgot n log) (sym got);
      }

  -- what is copied of a slice are the log's messages
  pub slice_answers : (log : List T) (from to : ℕ) (s : Pending T) → IsSliceOf log s → s.forgot ≤ from → from ≤ to → to ≤ got_of s → kept_between from to s ≡ messages_between from to log
  slice_answers log from to s h l o r =
      ap (messages_between (from - s.forgot) (to - s.forgot)) h.messages ∙ between_between s.forgot (got_of s) from to log l o r

  -- and so is each message that it shows
  pub slice_shows : (log : List T) (number : ℕ) (s : Pending T) (other : T) → IsSliceOf log s → s.forgot < number → number ≤ got_of s → slice_index_or s.messages (number - s.forgot - 1) other ≡ slice_index_or log (number - 1) other
  slice_shows log number s other h l r =
      let e : s.forgot + (number - s.forgot - 1) ≡ number - 1 = omega arith in
      ap (λ xs. get_or xs (number - s.forgot - 1) other) h.messages ∙ get_or-drop s.forgot (take (got_of s) log) (number - s.forgot - 1) other
      ∙ ap (λ n. get_or (take (got_of s) log) n other) e ∙ get_or-take (got_of s) log (number - 1) other (omega arith)
