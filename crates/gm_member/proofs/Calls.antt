-- What the calls of a member need of what it holds.
use Rattle.std.proofs.Common.{◌≡◌, ◌<◌, Bool, true, false, List, Option, Some, None, sym, subst, arith}
use Rattle.std.proofs.lemmas.Bool.Decides.{nat_tests}
use Rattle.std.specs.Prelude.{Result, Ok, Err, OnOk, OnErr, IfOk, IfErr, IfNone, MatchOption}
use Rattle.ring_names.specs.declared.reason.Reason.{Reason}
use Rattle.ring_names.specs.declared.reason.Reason.TheVariants.{Stopped, Waiting, AwaitingAnswer, NoOutLink, NoCredit, NothingNew}
use Rattle.credit_flow.specs.Credit.{is_blocked}
use Rattle.activity.specs.Kept.{Kept}
use Rattle.ring_rules.specs.Refusal.{or_else, refuse_if}
use Rattle.ring_rules.specs.Machine.{is_waiting}
use Rattle.ring_rules.specs.Event.{is_stopped}
use Rattle.ring_rules.proofs.events.Refusals.{none_of}
use Rattle.gm_member.specs.Held.{Held, Outgoing, up_refused, on_some, put_refused, out_refused, has_nothing_new}
use Rattle.gm_member.proofs.DoorParts.{up_refused_none}

-- something may be put only where there is credit
pub may_send : (known : List Kept) (o : Outgoing) → out_refused known o ≡ None → 0 < o.credit.credit
may_send known o e =
    let open_credit : is_blocked o.credit ≡ false = (none_of (is_blocked o.credit) NoCredit (refuse_if (has_nothing_new known o) NothingNew) e).0 in
    grind (arith, nat_tests)

-- ---- what a call comes to

-- what follows from two facts that hold where it is done
pub on_ok_both : {A E P Q R : Type 0} (r : Result A E) → (P → Q → R) → OnOk r P → OnOk r Q → OnOk r R
on_ok_both (Ok a) f p q = f p q
on_ok_both (Err e) f p q = tt

-- what holds in any case holds where it failed
pub on_err : {A E P : Type 0} (r : Result A E) → P → OnErr r P
on_err (Ok a) p = tt
on_err (Err e) p = p

-- what holds of its fault
pub on_fault : {A E : Type 0} (Q : E → Type 0) (r : Result A E) (x y : E) → r ≡ Err x → x ≡ y → Q y → IfErr r Q
on_fault Q r x y e s q = subst (λ z. IfErr z Q) (sym e) (subst Q (sym s) q)

-- where the second is one of its value
pub if_ok_both : {A E P : Type 0} {Q R : A → Type 0} (r : Result A E) → ((a : A) → P → Q a → R a) → OnOk r P → IfOk r Q → IfOk r R
if_ok_both (Ok a) f p q = f a p q
if_ok_both (Err e) f p q = tt

-- ---- conditions

-- the conditions behind others that hold
pub up_later : (h : Held) (later : Option Reason) → up_refused h later ≡ None → later ≡ None
up_later h later e = (up_refused_none h later e).2

pub some_later : {A : Type 0} (o : Option A) (missing : Reason) (later : A → Option Reason) (a : A) → o ≡ Some a → on_some o missing later ≡ None → later a ≡ None
some_later o missing later a is e = subst (λ p. on_some p missing later ≡ None) is e

-- what may be put may be put on the link
pub put_out_enabled : (h : Held) (o : Outgoing) → h.out ≡ Some o → put_refused h ≡ None → out_refused h.known o ≡ None
put_out_enabled h o is e = some_later h.out NoOutLink (out_refused h.known) o is (up_later h _ e)

-- what the first conditions refuse is refused
first_of : (b : Bool) (q : Reason) (later later' : Option Reason) (r r' : Reason) → ((later ≡ Some r) → later' ≡ Some r' → r ≡ r') → or_else (refuse_if b q) later ≡ Some r → or_else (refuse_if b q) later' ≡ Some r' → r ≡ r'
first_of true q later later' r r' f e e' = cc
first_of false q later later' r r' f e e' = f e e'

none_is_some : (r : Reason) (T : Type 0) → None ≡ Some r → T
none_is_some r T e = cc

pub first_refusal : (h : Held) (later : Option Reason) (r r' : Reason) → up_refused h None ≡ Some r → up_refused h later ≡ Some r' → r ≡ r'
first_refusal h later r r' =
    first_of (is_stopped h.phase) Stopped _ _ r r' (first_of (is_waiting h.phase) Waiting _ _ r r' (first_of h.asks AwaitingAnswer None later r r' (λ e _. none_is_some r (r ≡ r') e)))

pub if_none_map : {A : Type 0} {P Q : Type 0} (o : Option A) → (P → Q) → IfNone o P → IfNone o Q
if_none_map None f p = f p
if_none_map (Some a) f p = tt

pub match_some : {A : Type 0} (P : Type 0) (Q : A → Type 0) (o : Option A) (a : A) → o ≡ Some a → Q a → MatchOption o P Q
match_some P Q o a e q = subst (λ p. MatchOption p P Q) (sym e) q
