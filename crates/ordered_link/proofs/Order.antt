-- What every list of steps keeps.
use Rattle.std.proofs.Common.{◌≡◌, ℕ, Bool, true, false, List, [], ◌∷◌, ◌++◌, Option, Some, refl, sym, ap, ◌∙◌, append_assoc, arith, inl, inr}
use Rattle.std.specs.List.{flat_map}
use Rattle.std.proofs.lemmas.List.{append-nil, map-append}
use Rattle.std.proofs.lemmas.Grind.{common_steps}
use Rattle.ordered_link.specs.declared.grant.Grant.{Grant}
use Rattle.ordered_link.specs.declared.item.Item.{Item}
use Rattle.ordered_link.specs.declared.item.Item.TheVariants.{Load, End}
use Rattle.ordered_link.specs.declared.plain.PlainOut.{PlainOut}
use Rattle.ordered_link.specs.declared.plain.PlainIn.{PlainIn}
use Rattle.ordered_link.specs.Steps.{is_end, ArePlainEnds, IsFreshPair}
use Rattle.ordered_link.specs.Waiting.{Sends}
use Rattle.ordered_link.specs.Runs.{Step, put, taken, gained, granted, looked, met, Does, AreSteps, put_by, taken_by, gained_by, granted_by, puts_of, items_held, grants_held, list_of, AreLoads, AreLoadsThenEnd, KeepsOrder}

-- a step, and then others
joined : {A : Type 0} (t ts a b c p ps : List A) → t ++ b ≡ a ++ p → ts ++ c ≡ b ++ ps → t ++ ts ++ c ≡ a ++ (p ++ ps)
joined t ts a b c p ps h k = append_assoc t ts c ∙ ap (λ xs. t ++ xs) k ∙ sym (append_assoc t b ps) ∙ ap (λ xs. xs ++ ps) h ∙ append_assoc a p ps

-- a grant that is sent stays one of those on the way back
pub sent_list : (back given given' : List Grant) (late late' : Option Grant) → Sends given late given' late' → back ++ (given' ++ list_of late') ≡ back ++ (given ++ list_of late)
sent_list back given given' late late' (inl h) = cc
sent_list back given given' late late' (inr (none, grant, is, more)) = rw none (rw is (rw more (ap (λ xs. back ++ xs) (append-nil _))))

sent_grants : (back back' given given' : List Grant) (late late' : Option Grant) → back' ≡ back → Sends given late given' late' → back' ++ (given' ++ list_of late') ≡ back ++ (given ++ list_of late) ++ []
sent_grants back back' given given' late late' same h = rw same (sent_list back given given' late late' h ∙ sym (append-nil _))

module _ {T : Type 0} where
  -- one step keeps the items in order
  pub step_items : (s : Step T) (o o' : PlainOut T) (i i' : PlainIn T) → Does s o i o' i' → taken_by s ++ items_held o' i' ≡ items_held o i ++ put_by s
  step_items (put x) o o' i i' h = grind (arith, common_steps)
  step_items (taken x) o o' i i' h = grind (arith, common_steps)
  step_items (gained x) o o' i i' h = grind (arith, common_steps)
  step_items (granted x) o o' i i' h = grind (arith, common_steps)
  step_items looked o o' i i' h = grind (arith, common_steps)
  step_items met o o' i i' h = grind (arith, common_steps, h.items, h.met.waiting)

  -- one step keeps the grants in order
  pub step_grants : (s : Step T) (o o' : PlainOut T) (i i' : PlainIn T) → Does s o i o' i' → gained_by s ++ grants_held o' i' ≡ grants_held o i ++ granted_by s
  step_grants (put x) o o' i i' h = grind (arith, common_steps)
  step_grants (taken x) o o' i i' (out, (took, (sent, count, initial))) = sent_grants o.back.items o'.back.items i.given.items i'.given.items i.late i'.late (ap (λ e. e.back.items) out) sent
  step_grants (gained x) o o' i i' h = grind (arith, common_steps)
  step_grants (granted x) o o' i i' (out, late, (items, sent, count, now, initial)) =
      ap (λ e. e.back.items ++ (i'.given.items ++ list_of i'.late)) out ∙ sent_list o.back.items i.given.items i'.given.items (Some x) i'.late sent ∙ grind (arith, common_steps)
  step_grants looked o o' i i' (out, (items, (sent, count, initial))) = sent_grants o.back.items o'.back.items i.given.items i'.given.items i.late i'.late (ap (λ e. e.back.items) out) sent
  step_grants met o o' i i' h = grind (arith, common_steps, h.grants, h.met.given, h.late)

  -- what each step keeps in order, any list of them keeps in order
  run_kept : {A : Type 0} (held : PlainOut T → PlainIn T → List A) (out_by in_by : Step T → List A)
      → ((s : Step T) (o o' : PlainOut T) (i i' : PlainIn T) → Does s o i o' i' → out_by s ++ held o' i' ≡ held o i ++ in_by s)
      → (steps : List (Step T)) (o o' : PlainOut T) (i i' : PlainIn T) → AreSteps steps o i o' i' → flat_map out_by steps ++ held o' i' ≡ held o i ++ flat_map in_by steps
  run_kept held out_by in_by kept [] o o' i i' (out, link) = rw out (rw link (sym (append-nil (held o i))))
  run_kept held out_by in_by kept (s ∷ rest) o o' i i' (p, q, does, are) =
      joined (out_by s) (flat_map out_by rest) (held o i) (held p q) (held o' i') (in_by s) (flat_map in_by rest) (kept s o p i q does) (run_kept held out_by in_by kept rest p o' q i' are)

  -- one step leaves ends of one pair
  pub step_ends : (s : Step T) (o o' : PlainOut T) (i i' : PlainIn T) → Does s o i o' i' → ArePlainEnds o i → ArePlainEnds o' i'
  step_ends (put x) o o' i i' (open_out, puts, same) e = record { initial = cc; items = grind (arith, common_steps); grants = grind (arith, common_steps) }
  step_ends (taken x) o o' i i' (out, (took, sent)) e = record { initial = cc; items = grind (arith, common_steps); grants = grind (arith, common_steps) }
  step_ends (gained x) o o' i i' (gains, same) e = record { initial = cc; items = grind (arith, common_steps); grants = grind (arith, common_steps) }
  step_ends (granted x) o o' i i' (out, late, sends) e = record { initial = cc; items = grind (arith, common_steps); grants = grind (arith, common_steps) }
  step_ends looked o o' i i' (out, (items, sent)) e = record { initial = cc; items = grind (arith, common_steps); grants = grind (arith, common_steps) }
  step_ends met o o' i i' h e = record { initial = h.met.initial; items = grind (arith, common_steps, h.met.waiting, h.met.free); grants = grind (arith, common_steps, h.met.room, h.met.given, h.met.initial) }

  pub run_ends : (steps : List (Step T)) (o o' : PlainOut T) (i i' : PlainIn T) → AreSteps steps o i o' i' → ArePlainEnds o i → ArePlainEnds o' i'
  run_ends [] o o' i i' h e = grind (arith, common_steps)
  run_ends (s ∷ rest) o o' i i' (p, q, does, are) e = run_ends rest p o' q i' are (step_ends s o p i q does e)

  -- loads alone while the link is open, and End last once it has ended
  pub record IsInForm (ended : Bool) (xs : List (Item T)) : Type 0 where
    pub loads : ended ≡ false → AreLoads xs
    pub ended_form : ended ≡ true → AreLoadsThenEnd xs

  more_loads : (xs : List (Item T)) (x : T) → AreLoads xs → AreLoads (xs ++ Load x ∷ [])
  more_loads xs x (loads, e) = (loads ++ x ∷ [], ap (λ ys. ys ++ Load x ∷ []) e ∙ sym (map-append Load loads (x ∷ [])))

  put_form : (x : Item T) (xs : List (Item T)) (e e' : Bool) → e ≡ false → e' ≡ is_end x → IsInForm e xs → IsInForm e' (xs ++ x ∷ [])
  put_form (Load x) xs e e' was is h = record { loads = λ _. more_loads xs x (h.loads was); ended_form = λ ended. cc }
  put_form (End r s) xs e e' was is h = record {
    loads = λ open_out. cc;
    ended_form = λ _. let f = h.loads was in (f.0, r, s, ap (λ ys. ys ++ End r s ∷ []) f.1);
  }

  kept_form : (xs : List (Item T)) (e e' : Bool) → e' ≡ e → IsInForm e xs → IsInForm e' (xs ++ [])
  kept_form xs e e' is h = rw is (rw (append-nil xs) h)

  pub step_form : (s : Step T) (xs : List (Item T)) (o o' : PlainOut T) (i i' : PlainIn T) → Does s o i o' i' → IsInForm o.ended xs → IsInForm o'.ended (xs ++ put_by s)
  step_form (put x) xs o o' i i' h f = put_form x xs o.ended o'.ended h.0 h.1.4 f
  step_form (taken x) xs o o' i i' h f = kept_form xs o.ended o'.ended (ap (λ e. e.ended) h.0) f
  step_form (gained x) xs o o' i i' (gains, same) f = kept_form xs o.ended o'.ended gains.3 f
  step_form (granted x) xs o o' i i' h f = kept_form xs o.ended o'.ended (ap (λ e. e.ended) h.0) f
  step_form looked xs o o' i i' h f = kept_form xs o.ended o'.ended (ap (λ e. e.ended) h.0) f
  step_form met xs o o' i i' h f = kept_form xs o.ended o'.ended h.ended f

  pub run_form : (steps : List (Step T)) (xs : List (Item T)) (o o' : PlainOut T) (i i' : PlainIn T) → AreSteps steps o i o' i' → IsInForm o.ended xs → IsInForm o'.ended (xs ++ puts_of steps)
  run_form [] xs o o' i i' h f = kept_form xs o.ended o'.ended (ap (λ e. e.ended) h.0) f
  run_form (s ∷ rest) xs o o' i i' (p, q, does, are) f =
      rw (sym (append_assoc xs (put_by s) (puts_of rest))) (run_form rest (xs ++ put_by s) p o' q i' are (step_form s xs o p i q does f))

  -- what a pair keeps that was fresh
  pub fresh_keeps : (n : ℕ) (o o' : PlainOut T) (i i' : PlainIn T) (steps : List (Step T)) → IsFreshPair n o i → AreSteps steps o i o' i' → KeepsOrder steps o' i'
  fresh_keeps n o o' i i' steps f h =
      let form : IsInForm o'.ended (puts_of steps) = run_form steps [] o o' i i' h (record { loads = λ _. ([], refl); ended_form = λ ended. cc }) in
      record {
        items = run_kept items_held taken_by put_by step_items steps o o' i i' h ∙ grind (arith, common_steps, f.items);
        grants = run_kept grants_held gained_by granted_by step_grants steps o o' i i' h ∙ grind (arith, common_steps, f.grants);
        loads = form.loads;
        ended = form.ended_form;
      }
