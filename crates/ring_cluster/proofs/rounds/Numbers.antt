-- How many rounds were given a number.
use Rattle.std.proofs.Common.{◌≡◌, ℕ, ◌+◌, ◌<◌, ◌≤◌, ◌^◌, arith, ap, ◌∙◌}
use Rattle.std.specs.Prelude.{Result, Ok, Err, OnErr}
use Rattle.ring_cluster.specs.Seen.{Seen, IsGoing}
use Rattle.ring_cluster.specs.Rounds.{more_rounds, GivesNumbers}

pub none_more : (rounds : ℕ) → rounds < 2 ^ 32 → rounds ≡ more_rounds 0 rounds
none_more rounds small = omega (arith, small)

-- m after n
pub more_again : (m n rounds : ℕ) → more_rounds m (more_rounds n rounds) ≡ more_rounds (n + m) rounds
more_again m n rounds = omega arith

pub gives_within : (a b a' b' : ℕ) (c d : Seen) → a' ≤ a → b ≤ b' → GivesNumbers a b c d → GivesNumbers a' b' c d
gives_within a b a' b' c d low high h = (h.0, omega (arith, h.1, low), omega (arith, h.2, high), h.3)

pub gives_none : (most : ℕ) (c d : Seen) → IsGoing c → d.rounds ≡ c.rounds → GivesNumbers 0 most c d
gives_none most c d g same = (0, omega arith, omega arith, same ∙ none_more c.rounds g.rounds)

-- one more, after n
pub gives_next : (n least most : ℕ) (c l s d : Seen) → least ≤ n + 1 → n < most → l.rounds ≡ more_rounds n c.rounds → s ≡ record l { rounds = more_rounds 1 l.rounds } → d.rounds ≡ s.rounds → GivesNumbers least most c d
gives_next n least most c l s d low high so number same = (n + 1, low, omega (arith, high), same ∙ ap (λ x. x.rounds) number ∙ ap (more_rounds 1) so ∙ more_again 1 n c.rounds)

-- where the counts are the same
pub gives_beside : (least most : ℕ) (c c1 d1 d : Seen) → c1.rounds ≡ c.rounds → d.rounds ≡ d1.rounds → GivesNumbers least most c1 d1 → GivesNumbers least most c d
gives_beside least most c c1 d1 d before after h = (h.0, h.1, h.2, after ∙ h.3 ∙ ap (more_rounds h.0) before)

-- one more, after some
pub gives_more : (least most : ℕ) (c d s e : Seen) → GivesNumbers least most c d → s ≡ record d { rounds = more_rounds 1 d.rounds } → e.rounds ≡ s.rounds → GivesNumbers (least + 1) (most + 1) c e
gives_more least most c d s e h number same = gives_next h.0 (least + 1) (most + 1) c d s e (omega (arith, h.1)) (omega (arith, h.2)) h.3 number same

-- said of every answer, it holds after an Err
pub on_err : {X E : Type 0} (r : Result X E) (P : Type 0) → P → OnErr r P
on_err (Ok x) P h = tt
on_err (Err e) P h = h
