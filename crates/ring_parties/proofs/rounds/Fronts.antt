-- What stands first on a link, which grant goes back on it, and which link is the first at a door.
use Rattle.std.proofs.Common.{◌≡◌, ◌≢◌, ℕ, ◌+◌, ◌<◌, Bool, true, false, not, cond, nat_lt, List, [], ◌∷◌, ◌++◌, length, take, drop, get_or, position, Option, Some, None, refl, sym, ap, ◌∙◌, arith, append_assoc}
use Rattle.std.specs.List.{position_or_len}
use Rattle.std.proofs.lemmas.Bool.{false≢true, lt-ltb}
use Rattle.std.proofs.lemmas.Grind.{common_steps}
use Rattle.std.proofs.lemmas.List.{length-append, take-append-le, drop-append-le}
use Rattle.std.proofs.lemmas.List.Quantifiers.{position-Some}
use Rattle.credit_flow.specs.Link.{with_grant}
use Rattle.ring_rules.specs.declared.phase.Ending.{Ending}
use Rattle.ring_rules.specs.Refusal.{is_empty}
use Rattle.ring_rules.specs.Machine.{World, Packet, Sending, no_packet}
use Rattle.gm_member.specs.Held.{at_some, without}
use Rattle.gm_member.specs.Stands.{lines_in}
use Rattle.ring_parties.specs.Ends.{PacketShown, packet_in, packets_in, end_items}
use Rattle.ring_parties.specs.RoundActs.{Stamped, Act, push, things, acts_at, timed}
use Rattle.ring_parties.proofs.rounds.Acts.{Replays, none_done, done_other, pushed_there, things-push}

-- ---- the first item

-- where that is a packet, there is one
pub packet_there : (w : World) (before : Sending) (ks : List Packet) (why : Option Ending) (k : PacketShown) (rest : List (Option PacketShown)) → packets_in w before ks ++ end_items why ≡ Some k ∷ rest → is_empty ks ≡ false
packet_there w before [] None k rest e = cc
packet_there w before [] (Some why) k rest e = cc
packet_there w before (j ∷ ks) why k rest e = refl

-- of its version
pub packet_version : (w : World) (before : Sending) (ks : List Packet) (es : List (Option PacketShown)) (k : PacketShown) (xs : List (Option PacketShown)) → is_empty ks ≡ false → Some k ∷ xs ≡ packets_in w before ks ++ es → k.view ≡ (get_or ks 0 no_packet).version
packet_version w before [] es k xs some e = absurd (false≢true (sym some))
packet_version w before (packet ∷ ks) es k xs some e =
    let both : Some k ≡ packet_in w before packet = cc in
    let same : k ≡ record { view = packet.version; lines = lines_in w before packet } = cc in
    ap (λ (a : PacketShown). a.view) same

-- where that is the end, there is no packet, and the link has ended
pub end_there : (w : World) (before : Sending) (ks : List Packet) (why : Option Ending) (rest : List (Option PacketShown)) → packets_in w before ks ++ end_items why ≡ None ∷ rest → (ks ≡ []) × (why ≡ None → ⊥)
end_there w before [] None rest e = cc
end_there w before [] (Some why) rest e = (refl, λ k. cc)
end_there w before (j ∷ ks) why rest e = cc

-- ---- grants

-- one that is due goes back
pub grant_goes : (t s given : ℕ) (due : Option ℕ) (did : List (ℕ × Act ℕ)) (q r : List (Stamped ℕ)) → did ≡ at_some due [] (λ g. (s, push (record { stamp = given; it = g })) ∷ []) → Replays q (timed t (acts_at s did)) r → things r ≡ with_grant (things q) due
grant_goes t s given None did q r e h = ap things (none_done t s did q r e h)
grant_goes t s given (Some g) did q r e h = ap things (pushed_there t s (record { stamp = given; it = g }) did q r e h) ∙ things-push q (record { stamp = given; it = g })

-- and none on another link
pub grant_other : (t s k given : ℕ) (due : Option ℕ) (did : List (ℕ × Act ℕ)) (q r : List (Stamped ℕ)) → did ≡ at_some due [] (λ g. (s, push (record { stamp = given; it = g })) ∷ []) → k ≢ s → Replays q (timed t (acts_at k did)) r → r ≡ q
grant_other t s k given None did q r e ne h = none_done t k did q r e h
grant_other t s k given (Some g) did q r e ne h = done_other t s k (push (record { stamp = given; it = g })) did q r e ne h

-- ---- the first at a door

-- the first that passes stays the first where more come behind
first_of_more : {A : Type 0} (t : A → Bool) (xs ys : List A) → position_or_len t xs < length xs → position_or_len t (xs ++ ys) ≡ position_or_len t xs
first_of_more t [] ys l = absurd (omega (arith, l))
first_of_more t (x ∷ xs) ys l = by_case (first_of_more t xs ys) (t x) refl
  where
    by_case : (position_or_len t xs < length xs → position_or_len t (xs ++ ys) ≡ position_or_len t xs) → (b : Bool) → t x ≡ b → cond (not (t x)) (1 + position_or_len t (xs ++ ys)) 0 ≡ cond (not (t x)) (1 + position_or_len t xs) 0
    by_case later true e = ap (λ c. cond (not c) (1 + position_or_len t (xs ++ ys)) 0) e ∙ sym (ap (λ c. cond (not c) (1 + position_or_len t xs) 0) e)
    by_case later false e =
        let here : cond (not (t x)) (1 + position_or_len t xs) 0 ≡ 1 + position_or_len t xs = ap (λ c. cond (not c) (1 + position_or_len t xs) 0) e in
        let within : position_or_len t xs < length xs = omega (arith, l, here) in
        ap (λ c. cond (not c) (1 + position_or_len t (xs ++ ys)) 0) e ∙ ap (λ n. 1 + n) (later within) ∙ sym here

pub position_more : {A : Type 0} (t : A → Bool) (xs ys : List A) (i : ℕ) (d : A) → position t xs ≡ Some i → position t (xs ++ ys) ≡ Some i
position_more t xs ys i d e =
    let at : position_or_len t xs ≡ i = grind (arith, common_steps) in
    let inside : i < length xs = (position-Some t xs i d e).0 in
    let same : position_or_len t (xs ++ ys) ≡ i = first_of_more t xs ys (omega (arith, at, inside)) ∙ at in
    ap (λ n. cond (nat_lt n (length (xs ++ ys))) (Some n) None) same ∙ ap (λ c. cond c (Some i) None) (lt-ltb i (length (xs ++ ys)) (omega (arith, inside, length-append xs ys)))

-- and goes alone
pub without_more : {A : Type 0} (i : ℕ) (xs ys : List A) → i < length xs → without i (xs ++ ys) ≡ without i xs ++ ys
without_more i xs ys l =
    ap (λ zs. zs ++ drop (i + 1) (xs ++ ys)) (take-append-le i xs ys (omega (arith, l)))
    ∙ ap (λ zs. take i xs ++ zs) (drop-append-le (i + 1) xs ys (omega (arith, l)))
    ∙ sym (append_assoc (take i xs) (drop (i + 1) xs) ys)
