-- What a member has to do by itself, as it is asked.
use Rattle.std.proofs.Common.{◌≡◌, ◌≢◌, ℕ, ◌+◌, ◌<◌, ◌≤◌, Bool, true, false, not, cond, nat_lt, count_by, List, [], ◌∷◌, Option, Some, None, is_some, refl, sym, ap, ◌∙◌, arith}
use Rattle.std.specs.Prelude.{◌||◌}
use Rattle.std.specs.List.{list_any}
use Rattle.std.proofs.lemmas.Bool.Decides.{nat_tests}
use Rattle.std.proofs.lemmas.List.Sums.{sum_by-cons}
use Rattle.ring_names.specs.declared.reason.Reason.{Reason}
use Rattle.ring_rules.specs.declared.event.Event.TheVariants.{Mark}
use Rattle.ring_rules.specs.declared.phase.Phase.TheVariants.{Stopped}
use Rattle.ring_rules.specs.Machine.{World, member_at}
use Rattle.ring_rules.specs.Step.{size}
use Rattle.ring_rules.specs.Event.{id_of, of_member, up_refusal, mark_refusal, refusal}
use Rattle.ring_rules.proofs.events.Enabled.{up_none, mark_stops}
use Rattle.gm_member.proofs.Fit.{IsFit}
use Rattle.ring_rules.specs.declared.kind.LinkStep.TheVariants as step
use Rattle.ring_cluster.specs.Turns.{MayStep, MayStepNowhere}

-- whether there is none
pub none_told : (r o : Option Reason) (b : Bool) → is_some r ≡ not b → r ≡ o → b ≡ true → o ≡ None
none_told None o b e is t = sym is
none_told (Some x) o true e is t = cc
none_told (Some x) o false e is t = cc

pub some_told : (r o : Option Reason) (b : Bool) → is_some r ≡ not b → r ≡ o → b ≡ false → o ≢ None
some_told None o true e is f none = cc
some_told None o false e is f none = cc
some_told (Some x) o b e is f none = cc

-- ---- whom it has to tell

-- whether there is any is told by how many there are
pub any_counted : {A : Type 0} (p : A → Bool) (xs : List A) → list_any p xs ≡ nat_lt 0 (count_by p xs)
any_counted p [] = refl
any_counted p (x ∷ xs) =
    ap (λ b. p x || b) (any_counted p xs) ∙ by_test (p x) (count_by p xs) ∙ ap (nat_lt 0) (sym (sum_by-cons (λ y. cond (p y) 1 0) x xs))
  where
    by_test : (b : Bool) (n : ℕ) → (b || nat_lt 0 n) ≡ nat_lt 0 (cond b 1 0 + n)
    by_test true n = grind (arith, nat_tests)
    by_test false n = grind (arith, nat_tests)

-- ---- what a member has to do

-- none of its steps is enabled
pub steps_nowhere : (w : World) (y : ℕ) → (MayStep w y step.Pick → ⊥) → (MayStep w y step.Take → ⊥) → (MayStep w y step.TakeEnd → ⊥) → (MayStep w y step.Gain → ⊥) → (MayStep w y step.Put → ⊥) → MayStepNowhere w y
steps_nowhere w y pick take end gain put step.Pick = pick
steps_nowhere w y pick take end gain put step.Take = take
steps_nowhere w y pick take end gain put step.TakeEnd = end
steps_nowhere w y pick take end gain put step.Gain = gain
steps_nowhere w y pick take end gain put step.Put = put

-- who hasn't stopped isn't marked
pub runner_unmarked : (w : World) (x d : ℕ) → IsFit w → 1 ≤ x → x < size w → 1 ≤ d → d < size w → (member_at w d).phase ≢ Stopped → refusal w (Mark (member_at w x).name (member_at w d).name) ≢ None
runner_unmarked w x d f sx lx sd ld on none =
    let later = of_member (id_of w (member_at w d).name) (mark_refusal w x) in
    let up : up_refusal w x later ≡ None =
    sym (ap (λ o. of_member o (λ y. up_refusal w y (of_member (id_of w (member_at w d).name) (mark_refusal w y)))) (f.named x sx lx)) ∙ none in
    let marks : mark_refusal w x d ≡ None = sym (ap (λ o. of_member o (mark_refusal w x)) (f.named d sd ld)) ∙ (up_none w x later up).1 in
    on (mark_stops w x d marks)
