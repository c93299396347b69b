-- What is known of a ring that acts have reached, and of one act more.
use Rattle.std.proofs.Common.{◌≡◌, ℕ, zero, suc, ◌+◌, ◌-◌, ◌<◌, ◌≤◌, true, List, [], ◌∷◌, ◌++◌, length, None, refl, sym, ap, ◌∙◌, subst, arith}
use Rattle.std.proofs.lemmas.Bool.{false≢true}
use Rattle.std.proofs.lemmas.List.{length_push}
use Rattle.ring_names.specs.declared.numbers.CreditSpec.{CreditSpec}
use Rattle.group_view.specs.Change.{AreOpeningNames}
use Rattle.queue_core.specs.Queue.{greatest}
use Rattle.queue_laws.specs.Part.{ops}
use Rattle.queue_laws.proofs.Seen.{no_ops_front}
use Rattle.ring_rules.specs.Machine.{World, link_at, view_in}
use Rattle.ring_rules.specs.Step.{log_of, opening}
use Rattle.ring_rules.specs.Act.{Act, refusal, effect, IsRun, last}
use Rattle.ring_rules.specs.Laws.{GoesOn}
use Rattle.ring_rules.specs.QueueLaws.{CopyIsRight, CopiesAreRight}
use Rattle.ring_rules.specs.QueuePart.{got_of, sight_of}
use Rattle.ring_rules.proofs.events.Acts.{right_append}
use Rattle.ring_rules.proofs.events.First.{first_log, first_link}
use Rattle.ring_rules.proofs.runs.InOrder.{run_append, last_append}
use Rattle.ring_rules.proofs.runs.AllRuns.{every_run_goes_on}
use Rattle.ring_rules.proofs.queue.Facts.{Facts, reached_facts, keeps}
use Rattle.ring_rules.proofs.queue.Steps.{Result}
use Rattle.ring_rules.proofs.queue.Runs.{IsKnown, run_is_known, act_result}
use Rattle.ring_copies.proofs.Sights.{AreSighted, Around}

module _ (credit : CreditSpec) (names : List (List ℕ)) (are : AreOpeningNames names) where
  -- the acts by which the ring has come to w, no more than n
  pub record IsCome (n : ℕ) (w : World) : Type 0 where
    pub acts : List Act
    pub run : IsRun (opening credit names) acts
    pub right : CopiesAreRight (opening credit names) acts
    pub is : last (opening credit names) acts ≡ w
    pub few : length acts ≤ n

  pub come_facts : (n : ℕ) (w : World) → IsCome n w → Facts w
  come_facts n w c = subst Facts c.is (reached_facts credit names c.acts are c.run)

  pub come_known : (n : ℕ) (w : World) (c : IsCome n w) → n < greatest → IsKnown (0 + length c.acts) w
  come_known n w c few = subst (IsKnown (0 + length c.acts)) c.is (run_is_known credit names c.acts are (omega (arith, c.few, few)) c.run c.right)

  pub one_more : (n : ℕ) (w : World) (a : Act) → IsCome n w → refusal w a ≡ None → CopyIsRight w a → IsCome (n + 1) (effect w a)
  one_more n w a c r right = record {
    acts = c.acts ++ a ∷ [];
    run = run_append (opening credit names) c.acts (a ∷ []) c.run (ap (λ u. refusal u a) c.is ∙ r, tt);
    right = right_append (opening credit names) c.acts (a ∷ []) c.right (subst (λ u. CopyIsRight u a) (sym c.is) right, tt);
    is = last_append (opening credit names) c.acts (a ∷ []) ∙ ap (λ u. effect u a) c.is;
    few = omega (arith, c.few, length_push c.acts a);
  }

  -- one act goes from the state to the next
  pub act_around : (n : ℕ) (w : World) (a : Act) → n < greatest - 1 → IsCome n w → refusal w a ≡ None → CopyIsRight w a → Around w (effect w a)
  act_around n w a few c r right =
      let f : Facts w = come_facts n w c in
      let k : IsKnown (0 + length c.acts) w = come_known n w c (omega (arith, few)) in
      let c' : IsCome (n + 1) (effect w a) = one_more n w a c r right in
      let f' : Facts (effect w a) = come_facts (n + 1) (effect w a) c' in
      let k' : IsKnown (0 + length c'.acts) (effect w a) = come_known (n + 1) (effect w a) c' (omega (arith, few)) in
      let on : GoesOn w (effect w a) = subst (λ u. GoesOn u (effect u a)) c.is (every_run_goes_on credit names c.acts (a ∷ []) are c.run (ap (λ u. refusal u a) c.is ∙ r, tt)) in
      let o : Result w (effect w a) = act_result w a (0 + length c.acts) r right f k on in
      record {
        gives = k.gives;
        terms = k.holds.terms;
        placed = k.holds.placed;
        gives_then = k'.gives;
        terms_then = k'.holds.terms;
        keeps = keeps w (effect w a) f f' on o.rises;
        move = o.move;
        held = f.good.inv.is_ring.held;
        held_then = f'.good.inv.is_ring.held;
        more = on.never_falls.more;
      }

  -- ---- the opening

  pub opening_come : IsCome 0 (opening credit names)
  opening_come = record { acts = []; run = tt; right = tt; is = refl; few = omega arith }

  pub opening_sighted : AreSighted (opening credit names)
  opening_sighted = record {
    ordered = record {
      distinct = (refl, tt);
      seen_gone = λ v r le e i. absurd (false≢true i);
      stays = stays;
    };
    members = λ q rq p r i b e. no_ops_front (got_of (opening credit names) q p) (log_of (opening credit names) p) (ap ops (first_log credit names p));
    packets = λ s j sl jl. absurd (let none : length (link_at (opening credit names) s).packets ≡ 0 = first_link credit names s (λ l. length l.packets ≡ 0) (λ i. refl) refl in omega (arith, jl, none));
  }
    where
      stays : (u v q : ℕ) → u ≤ v → v ≤ 1 → (sight_of (view_in (opening credit names) u)).is_erased q ≡ true → (sight_of (view_in (opening credit names) v)).is_erased q ≡ true
      stays zero v q le upto e = absurd (false≢true e)
      stays (suc zero) (suc zero) q le upto e = e
      stays (suc zero) zero q le upto e = absurd (omega (arith, le))
      stays (suc zero) (suc (suc v)) q le upto e = absurd (omega (arith, upto))
      stays (suc (suc u)) v q le upto e = absurd (omega (arith, le, upto))
