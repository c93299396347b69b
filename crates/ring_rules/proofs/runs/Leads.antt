-- A master leads until it is erased, and then the term rises where another is elected.
use Rattle.ring_rules.proofs.events.Refusals.{not_false}
use Rattle.std.proofs.Common.{◌≡◌, ◌⊎◌, inl, inr, ℕ, ◌≤◌, Bool, true, false, cond, List, Option, Some, None, refl, sym, ap, subst, ◌∙◌, ⊎_elim, arith}
use Rattle.ring_names.specs.declared.numbers.CreditSpec.{CreditSpec}
use Rattle.ring_names.specs.declared.numbers.MemberId.{MemberId}
use Rattle.group_view.specs.View.{Group, as_id, is_erased, stands_in}
use Rattle.group_view.specs.Change.{AreOpeningNames, marked, erased, registered}
use Rattle.promotion.specs.Elect.{elected, term_after, installed}
use Rattle.ring_rules.proofs.invariants.Newest.{NewestAfter, newest_stays, newest_marked, newest_erased, newest_synced, newest_admitted, newest_after, move_more}
use Rattle.ring_rules.specs.Machine.{World, view_in, newest}
use Rattle.ring_rules.specs.Step.{size, admitted_view, opening}
use Rattle.ring_rules.specs.Act.{Act, IsRun, last}
use Rattle.ring_rules.specs.Lawful.{LeadsOn, has_erased}
use Rattle.ring_rules.proofs.invariants.Happens.{IsGood, reached_good}
use Rattle.ring_rules.proofs.invariants.Moves.{Move, run_moves}
use Rattle.ring_rules.proofs.runs.Erased.{erased_stays}

-- the same of two views, one after the other
record LeadStep (g g' : Group) : Type 0 where
  pub rises : g.term ≤ g'.term
  pub stays : g'.term ≡ g.term → (g'.master ≡ g.master) ⊎ (g'.master ≡ None)
  pub gone : (m : ℕ) → g.master ≡ Some (as_id m) → (g'.master ≡ g.master) ⊎ (is_erased g'.entries m ≡ true)

same_step : (g g' : Group) → g'.master ≡ g.master → g'.term ≡ g.term → LeadStep g g'
same_step g g' m t = record { rises = omega (arith, t); stays = λ _. inl m; gone = λ _ _. inl m }

-- an election
install_step : (g : Group) → LeadStep g (installed g)
install_step g = by_stands (stands_in g.entries g.master) refl
  where
    later : (o : Option MemberId) (n : ℕ) → n ≤ term_after o n
    later None n = omega arith
    later (Some id) n = omega arith

    nobody : (o : Option MemberId) (n : ℕ) → term_after o n ≡ n → o ≡ None
    nobody None n e = refl
    nobody (Some id) n e = absurd (omega (arith, e))

    by_stands : (b : Bool) → stands_in g.entries g.master ≡ b → LeadStep g (record g { master = cond b g.master (elected g.entries); term = cond b g.term (term_after (elected g.entries) g.term) })
    by_stands true e = same_step g _ refl refl
    by_stands false e = record {
      rises = later (elected g.entries) g.term;
      stays = λ t. inr (nobody (elected g.entries) g.term t);
      gone = λ m is. inr (not_false (is_erased g.entries m) (ap (stands_in g.entries) (sym is) ∙ e));
    }

-- each step
move_leads : (w w' : World) → IsGood w → Move IsGood w w' → LeadStep (view_in w (newest w)) (view_in w' (newest w'))
move_leads w w' g k = by_newest (newest_after IsGood w w' g k)
  where
    v : Group
    v = view_in w (newest w)

    by_newest : NewestAfter w w' → LeadStep v (view_in w' (newest w'))
    by_newest (newest_stays sizes is) = subst (LeadStep v) (sym is) (same_step v v refl refl)
    by_newest (newest_marked d live sizes is) = subst (LeadStep v) (sym is) (same_step v (marked v d) refl refl)
    by_newest (newest_erased x d m sizes is) =
        let step : LeadStep (erased v d) (installed (erased v d)) = install_step (erased v d) in
        subst (LeadStep v) (sym is) (record { rises = step.rises; stays = step.stays; gone = step.gone })
    by_newest (newest_synced x m sizes is) =
        let step : LeadStep (registered v x) (installed (registered v x)) = install_step (registered v x) in
        subst (LeadStep v) (sym is) (record { rises = step.rises; stays = step.stays; gone = step.gone })
    by_newest (newest_admitted m name j sizes is) = subst (LeadStep v) (sym is) (same_step v (admitted_view w m name) refl refl)

-- ---- runs

record Since (w0 w : World) : Type 0 where
  pub more : size w0 ≤ size w
  pub leads : LeadsOn w0 w

move_since : (w0 w w' : World) → IsGood w → Move IsGood w w' → Since w0 w → Since w0 w'
move_since w0 w w' g k h =
    let step : LeadStep (view_in w (newest w)) (view_in w' (newest w')) = move_leads w w' g k in
    record {
      more = omega (arith, h.more, move_more IsGood w w' g k);
      leads = record {
        rises = omega (arith, h.leads.rises, step.rises);
        stays = λ e.
            let first : (view_in w (newest w)).term ≡ (view_in w0 (newest w0)).term = omega (arith, e, h.leads.rises, step.rises) in
            let next : (view_in w' (newest w')).term ≡ (view_in w (newest w)).term = omega (arith, e, h.leads.rises, step.rises) in
            either (view_in w0 (newest w0)).master (view_in w (newest w)).master (view_in w' (newest w')).master (h.leads.stays first) (step.stays next);
        gone = λ m some lt is. ⊎_elim
            (λ (same : (view_in w (newest w)).master ≡ (view_in w0 (newest w0)).master). ⊎_elim
            (λ (still : (view_in w' (newest w')).master ≡ (view_in w (newest w)).master). inl (still ∙ same))
            (λ (er : has_erased w' m ≡ true). inr er)
            (step.gone m (same ∙ is)))
            (λ (er : has_erased w m ≡ true). inr (erased_stays w w' m g k some (omega (arith, h.more, lt)) er))
            (h.leads.gone m some lt is);
      };
    }
  where
    either : (a b c : Option MemberId) → (b ≡ a) ⊎ (b ≡ None) → (c ≡ b) ⊎ (c ≡ None) → (c ≡ a) ⊎ (c ≡ None)
    either a b c x (inr n) = inr n
    either a b c (inl e) (inl f) = inl (f ∙ e)
    either a b c (inr n) (inl f) = inr (f ∙ n)

-- from each state of a run to each later one
pub run_leads_on : (credit : CreditSpec) (names : List (List ℕ)) (es later : List Act) → AreOpeningNames names → IsRun (opening credit names) es → IsRun (last (opening credit names) es) later → LeadsOn (last (opening credit names) es) (last (last (opening credit names) es) later)
run_leads_on credit names es later are r k =
    let w : World = last (opening credit names) es in
    (run_moves (Since w) (move_since w) w later (reached_good credit names es are r) k (record {
      more = omega arith;
      leads = record { rises = omega arith; stays = λ _. inl refl; gone = λ m some lt is. inl refl };
    })).leads
