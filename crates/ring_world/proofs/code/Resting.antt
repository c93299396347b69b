-- A queue rests where its master does, for the code.
use Rattle.std.proofs.Common.{◌≡◌, ◌≢◌, ℕ, Bool, true, false, subst, refl, sym, ◌∙◌, Option, Some, None}
use Rattle.std.specs.Prelude.{IsTrue, ◌↔◌, is_some}
use Rattle.std.proofs.lemmas.Bool.{false≢true}
use Rattle.std.proofs.lemmas.Option.{none-some}
use Rattle.group_view.specs.View.{entry_in}
use Rattle.group_view.proofs.Rings.{nat_eq-is}
use Rattle.ring_names.specs.declared.numbers.MemberId.{MemberId}
use Rattle.ring_rules.specs.Machine.{World, member_at, view_in, newest, runs}
use Rattle.ring_rules.specs.Quiet.{QueueRests}
use Rattle.ring_rules.specs.Work.{is_led, is_late}

-- one member leads at most
pub one_leads : (master : Option MemberId) (x y : ℕ) → is_led master x ≡ true → is_led master y ≡ true → x ≡ y
one_leads None x y a b = absurd (false≢true a)
one_leads (Some id) x y a b = sym (nat_eq-is id.0 x a) ∙ nat_eq-is id.0 y b

-- a number is known
some_known : (n : Option ℕ) → is_some n ≡ true → n ≢ None
some_known None e = absurd (false≢true e)
some_known (Some n) e = λ x. none-some n (sym x)

known_some : (n : Option ℕ) → n ≢ None → is_some n ≡ true
known_some None e = absurd (e refl)
known_some (Some n) e = refl

-- the queue rests where the one who leads has started, and everyone knows
pub led_rests : (w : World) (m : ℕ) (rests : Bool)
    → ((y : ℕ) → runs w y ≡ true → (member_at w y).mirror.missing ≡ Some 0 → (entry_in (view_in w (newest w)).entries y).synced ≡ true)
    → runs w m ≡ true → is_led (view_in w (newest w)).master m ≡ true
    → (IsTrue rests ↔ ((is_late (view_in w (newest w)) (member_at w m).started ≡ false) × ((y : ℕ) → runs w y ≡ true → is_some (member_at w y).mirror.missing ≡ true)))
    → (IsTrue rests ↔ QueueRests w)
led_rests w m rests registered running leads is = (
  (λ t. record {
    registered = registered;
    started = λ x r l. subst (λ z. is_late (view_in w (newest w)) (member_at w z).started ≡ false) (one_leads (view_in w (newest w)).master m x leads l) ((is.0 t).0);
    known = λ x y r l v. some_known (member_at w y).mirror.missing ((is.0 t).1 y v);
  }),
  (λ q. is.1 (q.started m running leads, λ y v. known_some (member_at w y).mirror.missing (q.known m y running leads v))),
)

-- nor does everyone know where one doesn't
pub one_ignores : (w : World) (m : ℕ) → (IsTrue false ↔ (runs w m ≡ true → is_some (member_at w m).mirror.missing ≡ true)) → (IsTrue false ↔ ((y : ℕ) → runs w y ≡ true → is_some (member_at w y).mirror.missing ≡ true))
one_ignores w m is = ((λ t. absurd (false≢true t)), (λ all. is.1 (all m)))
