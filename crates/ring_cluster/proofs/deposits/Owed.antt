-- States of a cluster that only differ in what is owed and collected, and steps among them.
use Rattle.std.proofs.Common.{◌≡◌, ◌+◌, ◌-◌, ◌^◌, Bool, min, refl, ap, ◌∙◌}
use Rattle.std.specs.Prelude.{Result, Ok, Err, OnErr}
use Rattle.ring_rules.specs.declared.event.Event.{Event}
use Rattle.ring_cluster.specs.Seen.{Seen, SameButOwed, MayHandOver, IsStepped, owing, collecting, with_event}

pub but_refl : (c : Seen) → SameButOwed c c
but_refl c = ((c.owes, c.collected), refl)

pub but_same : (c d : Seen) → d ≡ c → SameButOwed c d
but_same c d e = ((c.owes, c.collected), e)

pub but_trans : (c d e : Seen) → SameButOwed c d → SameButOwed d e → SameButOwed c e
but_trans c d e a b = (b.0, b.1 ∙ ap (collecting b.0) a.1)

pub but_handed : (c d : Seen) → MayHandOver c d → SameButOwed c d
but_handed c d h = (h.0, h.1)

-- of which what is owed alone
pub but_owing : (c d : Seen) (owes : Bool) → d ≡ owing owes c → SameButOwed c d
but_owing c d owes is = ((owes, c.collected), is)

-- ---- a step

-- with another number of rounds
abbrev pub numbered : Seen → Seen
numbered c = record c { rounds = min (c.rounds + 1) (2 ^ 32 - 1) }

-- an event has happened, a round was given a number, and what is owed is known then
pub stepped_is : (c c1 c2 d : Seen) (e : Event) (owes : Bool) → SameButOwed (with_event c e) c1 → c2 ≡ numbered c1 → d ≡ owing owes c2 → IsStepped c e owes d
stepped_is c c1 c2 d e owes happened number is = (happened.0.1, is ∙ ap (owing owes) number ∙ ap (λ x. owing owes (numbered x)) happened.1)

-- what is owed stays
pub owing_is : (c d : Seen) (owes : Bool) → d ≡ c → c.owes ≡ owes → d ≡ owing owes c
owing_is c d owes same is = same ∙ ap (λ b. owing b c) is

-- what two facts of a failure say together
pub on_err_both : {T E P Q R : Type 0} (r : Result T E) → (P → Q → R) → OnErr r P → OnErr r Q → OnErr r R
on_err_both (Ok x) f p q = tt
on_err_both (Err e) f p q = f p q
