-- Where the packets of a link begin and end.
use Rattle.std.proofs.Common.{◌≡◌, ◌≢◌, ℕ, zero, suc, ◌<◌, ◌≤◌, Bool, true, false, List, [], ◌∷◌, ◌++◌, length, drop, get_or, refl, sym, ap, subst, ◌∙◌, arith, Some}
use Rattle.std.specs.Prelude.{⊤}
use Rattle.std.proofs.lemmas.Bool.{false≢true}
use Rattle.ring_rules.specs.declared.numbers.Numbers.{Numbers}
use Rattle.ring_rules.specs.Rows.{Row, no_numbers}
use Rattle.ring_rules.specs.Refusal.{is_empty}
use Rattle.ring_rules.specs.Machine.{Waiting, Up, Packet, Member, Sending, Link, World, no_packet, row_at, numbers_at, member_at, link_at, view_in, runs, is_kept}
use Rattle.ring_rules.specs.Step.{size, next_lines, next_packet, is_owned}

-- ---- the packets of a link, one after another

-- behind a packet each later one begins no later than where the one before it ends, and the last one is what was last sent
abbrev pub ChainsOn : Packet → List Packet → Packet → Type 0
ChainsOn k [] sent = sent ≡ k
ChainsOn k (j ∷ js) sent = ((p : ℕ) → (numbers_at j p).lo ≤ (numbers_at k p).got) × ChainsOn j js sent

-- so from the oldest packet on
abbrev pub IsChain : List Packet → Packet → Type 0
IsChain [] sent = ⊤
IsChain (k ∷ ks) sent = ChainsOn k ks sent

-- a link from which nothing was taken has its first packet, which begins where its sender had forgotten
abbrev pub HasFirst : Sending → List Packet → Type 0
HasFirst had [] = ⊥
HasFirst had (k ∷ ks) = (had.fresh ≡ true) × ((p : ℕ) → (numbers_at k p).lo ≤ (numbers_at k p).forgot)

-- the oldest packet begins, or where there is none the next one will begin, no later than got
abbrev pub BeginsBy : List Packet → Sending → ℕ → ℕ → Type 0
BeginsBy [] s p got = s.fresh ≡ false → (numbers_at s.sent p).got ≤ got
BeginsBy (k ∷ ks) s p got = (numbers_at k p).lo ≤ got

-- a packet joins behind others
goes_push : (k : Packet) (ks : List Packet) (sent j : Packet) → ChainsOn k ks sent → ((p : ℕ) → (numbers_at j p).lo ≤ (numbers_at sent p).got) → ChainsOn k (ks ++ j ∷ []) j
goes_push k [] sent j h n = (λ p. subst (λ z. (numbers_at j p).lo ≤ (numbers_at z p).got) h (n p), refl)
goes_push k (i ∷ is) sent j h n = (h.0, goes_push i is sent j h.1 n)

-- a packet is put
pub chain_push : (ks : List Packet) (s : Sending) (j : Packet) → (s.fresh ≡ true → ks ≡ []) → IsChain ks s.sent → (s.fresh ≡ false → (p : ℕ) → (numbers_at j p).lo ≤ (numbers_at s.sent p).got) → IsChain (ks ++ j ∷ []) j
chain_push [] s j none h n = refl
chain_push (k ∷ ks) s j none h n = by_fresh s.fresh refl
  where
    by_fresh : (b : Bool) → s.fresh ≡ b → ChainsOn k (ks ++ j ∷ []) j
    by_fresh true e = let bad : k ∷ ks ≡ [] = none e in absurd (cc)
    by_fresh false e = goes_push k ks s.sent j h (n e)

-- a packet is taken
pub chain_drop : (ks : List Packet) (sent : Packet) → IsChain ks sent → IsChain (drop 1 ks) sent
chain_drop [] sent h = tt
chain_drop (k ∷ []) sent h = tt
chain_drop (k ∷ (j ∷ js)) sent h = h.1

-- the first packet stays it
pub first_push : (had : Sending) (ks : List Packet) (j : Packet) → HasFirst had ks → HasFirst had (ks ++ j ∷ [])
first_push had [] j h = absurd h
first_push had (k ∷ ks) j h = h

-- the receiver has more
pub begins_more : (ks : List Packet) (s : Sending) (p a b : ℕ) → a ≤ b → BeginsBy ks s p a → BeginsBy ks s p b
begins_more [] s p a b l h = λ e. omega (arith, h e)
begins_more (k ∷ ks) s p a b l h = omega (arith, h)

-- a packet joins, and the receiver stands as it did
pub begins_push : (ks : List Packet) (s t : Sending) (j : Packet) (p a : ℕ) → BeginsBy ks s p a → (s.fresh ≡ true → (numbers_at j p).lo ≤ a) → (s.fresh ≡ false → (numbers_at j p).lo ≤ (numbers_at s.sent p).got) → BeginsBy (ks ++ j ∷ []) t p a
begins_push [] s t j p a h f n = by_fresh s.fresh refl
  where
    by_fresh : (b : Bool) → s.fresh ≡ b → (numbers_at j p).lo ≤ a
    by_fresh true e = f e
    by_fresh false e = omega (arith, h e, n e)
begins_push (k ∷ ks) s t j p a h f n = h

-- after the take of the oldest packet its taker stands where that one ends
pub begins_drop : (ks : List Packet) (s : Sending) (p : ℕ) → is_empty ks ≡ false → IsChain ks s.sent → BeginsBy (drop 1 ks) s p (numbers_at (get_or ks 0 no_packet) p).got
begins_drop [] s p e h = absurd (false≢true (sym e))
begins_drop (k ∷ []) s p e h = λ _. subst (λ z. (numbers_at z p).got ≤ (numbers_at k p).got) (sym h) (omega arith)
begins_drop (k ∷ (j ∷ js)) s p e h = h.0 p

-- ---- where the next packet begins

-- of single numbers: after the first packet
lines_later : (rows : List Row) (last : List Numbers) (p : ℕ) → (get_or (next_lines false rows last) p no_numbers).lo ≤ (get_or last p no_numbers).got
lines_later [] last p = omega arith
lines_later (a ∷ rows) [] zero = omega arith
lines_later (a ∷ rows) (k ∷ last) zero = omega arith
lines_later (a ∷ rows) [] (suc p) = lines_later rows [] p
lines_later (a ∷ rows) (k ∷ last) (suc p) = lines_later rows last p

-- and in the first packet
lines_first : (rows : List Row) (last : List Numbers) (p : ℕ) → (get_or (next_lines true rows last) p no_numbers).lo ≤ (get_or (next_lines true rows last) p no_numbers).forgot
lines_first [] last p = omega arith
lines_first (a ∷ rows) [] zero = omega arith
lines_first (a ∷ rows) (k ∷ last) zero = omega arith
lines_first (a ∷ rows) [] (suc p) = lines_first rows [] p
lines_first (a ∷ rows) (k ∷ last) (suc p) = lines_first rows last p

-- no later than where the last one ended
pub next_later : (y : Member) (s : Sending) (p : ℕ) → s.fresh ≡ false → (numbers_at (next_packet y s) p).lo ≤ (numbers_at s.sent p).got
next_later y s p e = subst (λ b. (get_or (next_lines b y.rows s.sent.numbers) p no_numbers).lo ≤ (numbers_at s.sent p).got) (sym e) (lines_later y.rows s.sent.numbers p)

-- and the first one where its sender had forgotten
pub next_first : (y : Member) (s : Sending) (p : ℕ) → s.fresh ≡ true → (numbers_at (next_packet y s) p).lo ≤ (numbers_at (next_packet y s) p).forgot
next_first y s p e = subst (λ b. (get_or (next_lines b y.rows s.sent.numbers) p no_numbers).lo ≤ (get_or (next_lines b y.rows s.sent.numbers) p no_numbers).forgot) (sym e) (lines_first y.rows s.sent.numbers p)

-- ---- what holds of every link

-- of the packets on the links, and of what their receivers have
pub record LinesRight (w : World) : Type 0 where
  -- nothing is on a link on which nothing was put
  pub begun : (s : ℕ) → s < length w.links → (link_at w s).sending.fresh ≡ true → (link_at w s).packets ≡ []
  pub chain : (s : ℕ) → s < length w.links → IsChain (link_at w s).packets (link_at w s).sending.sent
  -- nothing was taken from a kept link that isn't current and wasn't
  pub untouched : (y s : ℕ) → s < length w.links → runs w y ≡ true → (link_at w s).receiver ≡ y → (link_at w s).over ≡ false → is_kept w (link_at w s) (member_at w y).version ≡ true → (member_at w y).current ≢ Some s → HasFirst (link_at w s).had (link_at w s).packets
  -- nor from the current link of one that waits
  pub waits : (y s : ℕ) → (member_at w y).phase ≡ Waiting → (member_at w y).current ≡ Some s → (link_at w s).had.fresh ≡ true
  -- nothing is missing at the front of the current link of one that is up
  pub current : (y s p : ℕ) → (member_at w y).phase ≡ Up → (member_at w y).current ≡ Some s → 1 ≤ p → p < size w → is_owned (view_in w (member_at w y).version) y (link_at w s).sender p ≡ false → BeginsBy (link_at w s).packets (link_at w s).sending p (row_at (member_at w y) p).got

-- ---- steps that leave the packets where they are

-- a link has the same ends and the same packets, and is still open only if it was
pub record SameLine (l l' : Link) : Type 0 where
  pub sender : l'.sender ≡ l.sender
  pub receiver : l'.receiver ≡ l.receiver
  pub opened : l'.opened ≡ l.opened
  pub packets : l'.packets ≡ l.packets
  pub sending : l'.sending ≡ l.sending
  pub had : l'.had ≡ l.had
  pub over : l'.over ≡ false → l.over ≡ false

-- fewer run, got may rise, and current links may only be lost
pub record Still (w w' : World) : Type 0 where
  pub many : length w'.links ≡ length w.links
  pub same_size : size w' ≡ size w
  pub lines : (s : ℕ) → SameLine (link_at w s) (link_at w' s)
  pub runs_less : (y : ℕ) → runs w' y ≡ true → runs w y ≡ true
  pub ups : (y : ℕ) → (member_at w' y).phase ≡ Up → (member_at w y).phase ≡ Up
  pub waits : (y : ℕ) → (member_at w' y).phase ≡ Waiting → (member_at w y).phase ≡ Waiting
  pub keeps : (y s : ℕ) → runs w' y ≡ true → is_kept w' (link_at w' s) (member_at w' y).version ≡ true → is_kept w (link_at w s) (member_at w y).version ≡ true
  pub current : (y s : ℕ) → (member_at w' y).current ≡ Some s → (member_at w y).current ≡ Some s
  pub stays : (y s : ℕ) → s < length w.links → (link_at w' s).over ≡ false → is_kept w' (link_at w' s) (member_at w' y).version ≡ true → (member_at w y).current ≡ Some s → (member_at w' y).current ≡ Some s
  pub owned : (y s p : ℕ) → (member_at w' y).phase ≡ Up → (member_at w' y).current ≡ Some s → is_owned (view_in w' (member_at w' y).version) y (link_at w' s).sender p ≡ is_owned (view_in w (member_at w y).version) y (link_at w s).sender p
  pub got : (y p : ℕ) → (row_at (member_at w y) p).got ≤ (row_at (member_at w' y) p).got

-- such a step keeps it
pub lines_still : (w w' : World) → Still w w' → LinesRight w → LinesRight w'
lines_still w w' k h = record {
  begun = λ s l e. (k.lines s).packets ∙ h.begun s (omega (arith, k.many)) (ap (λ a. a.fresh) (sym (k.lines s).sending) ∙ e);
  chain = λ s l.
      subst (λ a. IsChain (link_at w' s).packets a.sent) (sym (k.lines s).sending)
      (subst (λ a. IsChain a (link_at w s).sending.sent) (sym (k.lines s).packets) (h.chain s (omega (arith, k.many))));
  untouched = λ y s l r to o kept c.
      let l2 : s < length w.links = omega (arith, k.many) in
      subst (λ a. HasFirst a (link_at w' s).packets) (sym (k.lines s).had)
      (subst (HasFirst (link_at w s).had) (sym (k.lines s).packets)
      (h.untouched y s l2 (k.runs_less y r) (sym (k.lines s).receiver ∙ to) ((k.lines s).over o) (k.keeps y s r kept) (λ e. c (k.stays y s l2 o kept e))));
  waits = λ y s e c. ap (λ a. a.fresh) (k.lines s).had ∙ h.waits y s (k.waits y e) (k.current y s c);
  current = λ y s p r e some l own.
      subst (λ a. BeginsBy (link_at w' s).packets a p (row_at (member_at w' y) p).got) (sym (k.lines s).sending)
      (subst (λ a. BeginsBy a (link_at w s).sending p (row_at (member_at w' y) p).got) (sym (k.lines s).packets)
      (begins_more (link_at w s).packets (link_at w s).sending p (row_at (member_at w y) p).got (row_at (member_at w' y) p).got (k.got y p)
      (h.current y s p (k.ups y r) (k.current y s e) some (omega (arith, k.same_size))
      (sym (k.owned y s p r e) ∙ own))));
}
