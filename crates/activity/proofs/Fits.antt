-- What the lines that are used have.
use Rattle.std.proofs.Common.{◌≡◌, ℕ, ◌≤◌, Bool, true, false, cond, ◌&&◌, nat_le, max, Some, None, is_some, refl, sym, ap, ◌∙◌, arith}
use Rattle.std.proofs.lemmas.Bool.{false≢true, leb-true, and_parts}
use Rattle.std.specs.Option.{option_map_or}
use Rattle.ring_names.specs.declared.numbers.MemberId.{MemberId}
use Rattle.activity.specs.declared.change.Change.{Change}
use Rattle.activity.specs.declared.change.Change.TheVariants.{Receive, CameRound}
use Rattle.activity.specs.Kept.{Kept, got_of}
use Rattle.activity.specs.Packets.{LineSeen, got_in}
use Rattle.activity.specs.Plan.{fits, change_of}

-- a received line goes on where the member's messages end, and lowers nothing
pub record IsReceived (k : Kept) (c : LineSeen) (new last done : ℕ) : Type 0 where
  pub lo : c.lo ≤ got_of k
  pub from : new ≡ got_of k
  pub to : last ≡ got_in c
  pub forgot_is : done ≡ c.forgot
  pub got : got_of k ≤ got_in c
  pub forgot : k.forgot ≤ c.forgot
  pub within : c.forgot ≤ got_in c

-- one that has come round lowers nothing, and doesn't pass what the member has
pub record WentRound (k : Kept) (c : LineSeen) (done back : ℕ) : Type 0 where
  pub forgot_is : done ≡ got_in c
  pub retired_is : back ≡ c.forgot
  pub forgot : k.forgot ≤ got_in c
  pub got : got_in c ≤ got_of k
  pub retired : k.retired ≤ c.forgot

max_below : (a b : ℕ) → a ≤ b → max a b ≡ b
max_below a b h = omega arith

-- the parts of a change
abbrev from_of : Change → ℕ
from_of (Receive p from to forgot) = from
from_of (CameRound p forgot retired) = 0

abbrev to_of : Change → ℕ
to_of (Receive p from to forgot) = to
to_of (CameRound p forgot retired) = 0

abbrev forgot_of : Change → ℕ
forgot_of (Receive p from to forgot) = forgot
forgot_of (CameRound p forgot retired) = forgot

abbrev retired_of : Change → ℕ
retired_of (Receive p from to forgot) = 0
retired_of (CameRound p forgot retired) = retired

abbrev is_receive : Change → Bool
is_receive (Receive p from to forgot) = true
is_receive (CameRound p forgot retired) = false

-- what a change that is received says of its line
pub received : (own : Bool) (k : Kept) (c : LineSeen) (p : MemberId) (from to forgot : ℕ) → change_of own k c ≡ Some (Receive p from to forgot) → IsReceived k c from to forgot
received true k c p from to forgot h = absurd (by (fits true k c) h)
  where
    by : (b : Bool) → cond b (Some (CameRound c.origin (got_in c) c.forgot)) None ≡ Some (Receive p from to forgot) → ⊥
    by true h = false≢true (ap (λ o. option_map_or is_receive o true) h)
    by false h = false≢true (ap is_some h)
received false k c p from to forgot h = by (fits false k c) refl h
  where
    by : (b : Bool) → fits false k c ≡ b → cond b (Some (Receive c.origin (max c.lo (got_of k)) (got_in c) c.forgot)) None ≡ Some (Receive p from to forgot) → IsReceived k c from to forgot
    by false f h = absurd (false≢true (ap is_some h))
    by true f h =
        let a = and_parts (nat_le c.lo (got_of k) && nat_le (got_of k) (got_in c) && nat_le k.forgot c.forgot) (nat_le c.forgot (got_in c)) f in
        let b = and_parts (nat_le c.lo (got_of k) && nat_le (got_of k) (got_in c)) (nat_le k.forgot c.forgot) a.0 in
        let d = and_parts (nat_le c.lo (got_of k)) (nat_le (got_of k) (got_in c)) b.0 in
        let lo : c.lo ≤ got_of k = leb-true c.lo (got_of k) d.0 in
        record {
          lo = lo;
          from = sym (ap (λ o. option_map_or from_of o 0) h) ∙ max_below c.lo (got_of k) lo;
          to = sym (ap (λ o. option_map_or to_of o 0) h);
          forgot_is = sym (ap (λ o. option_map_or forgot_of o 0) h);
          got = leb-true (got_of k) (got_in c) d.1;
          forgot = leb-true k.forgot c.forgot b.1;
          within = leb-true c.forgot (got_in c) a.1;
        }

pub went_round : (own : Bool) (k : Kept) (c : LineSeen) (p : MemberId) (forgot retired : ℕ) → change_of own k c ≡ Some (CameRound p forgot retired) → WentRound k c forgot retired
went_round false k c p forgot retired h = absurd (by (fits false k c) h)
  where
    by : (b : Bool) → cond b (Some (Receive c.origin (max c.lo (got_of k)) (got_in c) c.forgot)) None ≡ Some (CameRound p forgot retired) → ⊥
    by true h = false≢true (sym (ap (λ o. option_map_or is_receive o false) h))
    by false h = false≢true (ap is_some h)
went_round true k c p forgot retired h = by (fits true k c) refl h
  where
    by : (b : Bool) → fits true k c ≡ b → cond b (Some (CameRound c.origin (got_in c) c.forgot)) None ≡ Some (CameRound p forgot retired) → WentRound k c forgot retired
    by false f h = absurd (false≢true (ap is_some h))
    by true f h =
        let a = and_parts (nat_le c.lo (got_of k) && nat_le k.forgot (got_in c) && nat_le (got_in c) (got_of k)) (nat_le k.retired c.forgot) f in
        let b = and_parts (nat_le c.lo (got_of k) && nat_le k.forgot (got_in c)) (nat_le (got_in c) (got_of k)) a.0 in
        let d = and_parts (nat_le c.lo (got_of k)) (nat_le k.forgot (got_in c)) b.0 in
        record {
          forgot_is = sym (ap (λ o. option_map_or forgot_of o 0) h);
          retired_is = sym (ap (λ o. option_map_or retired_of o 0) h);
          forgot = leb-true k.forgot (got_in c) d.1;
          got = leb-true (got_in c) (got_of k) b.1;
          retired = leb-true k.retired c.forgot a.1;
        }
