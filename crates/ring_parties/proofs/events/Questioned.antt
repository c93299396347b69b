-- A question for a view that the registrar is to make, and its answer.
use Rattle.std.proofs.Common.{◌≡◌, ℕ, ◌+◌, true, false, not, if◌then◌else◌, Bool, List, Option, None, Some, refl, ap, ◌∙◌}
use Rattle.std.proofs.lemmas.Bool.{false≢true}
use Rattle.ring_names.specs.declared.reason.Reason.{Reason}
use Rattle.group_view.specs.declared.entry.Mark.TheVariants.{Erased}
use Rattle.ring_names.specs.declared.reason.Reason.TheVariants.{UnknownMember}
use Rattle.group_view.specs.declared.entry.Entry.{Entry}
use Rattle.group_view.specs.Ring.{is_in}
use Rattle.group_view.specs.View.{Group, ids}
use Rattle.group_view.specs.Change.{new_entry, with_entry, dated}
use Rattle.group_view.proofs.Marks.{same_ring_all, dated_keeps}
use Rattle.group_view.proofs.Joining.{in_after, ids-with_entry}
use Rattle.group_view.proofs.Groups.{ids-marked_group, ids-remarked_group}
use Rattle.group_view.proofs.Syncing.{same_ring_registered}
use Rattle.ring_rules.specs.Refusal.{refuse_if, or_else}
use Rattle.registrar.specs.Registry.{Registry, is_known, newest}
use Rattle.registrar.specs.Asked.{request_refusal}
use Rattle.registrar.specs.Handled.{with_view, handled, answered}
use Rattle.gm_member.specs.declared.questions.Ask.{Ask}
use Rattle.gm_member.specs.declared.questions.Ask.TheVariants.{Mark, Admit, Erase, Register, Refresh, Collect}
use Rattle.gm_member.specs.Held.{Held}
use Rattle.gm_member.specs.Shown.{When}
use Rattle.gm_member.specs.Questions.{may_bring_view, asked_for}
use Rattle.ring_parties.specs.Looking.{makes_view, view_for, brought}

-- the first of some conditions holds where none fails
pub not_refused_first : (b : Bool) (r : Reason) (later : Option Reason) → or_else (refuse_if (not b) r) later ≡ None → b ≡ true
not_refused_first true r later e = refl
not_refused_first false r later e = cc

known_first : (b : Bool) (later : Option Reason) → (if not b then Some UnknownMember else later) ≡ None → b ≡ true
known_first true later e = refl
known_first false later e = cc

known_before : (b : Bool) (later further : Option Reason) → or_else (if not b then Some UnknownMember else later) further ≡ None → b ≡ true
known_before true later further e = refl
known_before false later further e = cc

-- a view that is made may be answered
pub made_brings : (what : Ask) (A : Type 0) → makes_view what ≡ true → When (may_bring_view what) A → A
made_brings (Mark dead) A e a = a
made_brings (Admit name) A e a = a
made_brings (Erase origin) A e a = a
made_brings (Register missing) A e a = a
made_brings Refresh A e a = absurd (false≢true e)
made_brings Collect A e a = absurd (false≢true e)

module _ {I : Type 0} where
  -- and is
  pub made_answered : (r : Registry I) (h : Held) (what : Ask) → makes_view what ≡ true → brought (answered r (asked_for h what)) ≡ Some (view_for r h.id what)
  made_answered r h (Mark dead) e = refl
  made_answered r h (Admit name) e = refl
  made_answered r h (Erase origin) e = refl
  made_answered r h (Register missing) e = refl
  made_answered r h Refresh e = absurd (false≢true e)
  made_answered r h Collect e = absurd (false≢true e)

  -- it follows the others
  pub made_handled : (r : Registry I) (h : Held) (what : Ask) → makes_view what ≡ true → handled r (asked_for h what) ≡ with_view r (view_for r h.id what)
  made_handled r h (Mark dead) e = refl
  made_handled r h (Admit name) e = refl
  made_handled r h (Erase origin) e = refl
  made_handled r h (Register missing) e = refl
  made_handled r h Refresh e = absurd (false≢true e)
  made_handled r h Collect e = absurd (false≢true e)

  -- and who stands in the newest stands in it
  pub made_stands : (r : Registry I) (x : ℕ) (what : Ask) → is_in x (ids (newest r).entries) ≡ true → is_in x (ids (view_for r x what).entries) ≡ true
  made_stands r x (Mark dead) i = ap (is_in x) (ids-marked_group (newest r) dead.0) ∙ i
  made_stands r x (Admit name) i =
      let g : Group = newest r in
      let come : List Entry = with_entry x (new_entry g.next_id name (g.version + 1)) g.entries in
      ap (is_in x) ((same_ring_all (dated (g.version + 1) g.entries come) come (dated_keeps (g.version + 1) g.entries come)).same_ids ∙ ids-with_entry x (new_entry g.next_id name (g.version + 1)) g.entries)
      ∙ in_after x g.next_id x (ids g.entries) i
  made_stands r x (Erase origin) i = ap (is_in x) (ids-remarked_group Erased (newest r) origin.0) ∙ i
  made_stands r x (Register missing) i = ap (is_in x) (same_ring_registered (newest r) x).same_ids ∙ i
  made_stands r x Refresh i = i
  made_stands r x Collect i = i

  -- who is answered is known
  pub asker_known : (r : Registry I) (h : Held) (what : Ask) → request_refusal r (asked_for h what) ≡ None → makes_view what ≡ true → is_known r h.id ≡ true
  asker_known r h (Mark dead) e m = not_refused_first _ _ _ e
  asker_known r h (Admit name) e m = known_first (is_in h.id (ids (newest r).entries)) _ e
  asker_known r h (Erase origin) e m = not_refused_first _ _ _ e
  asker_known r h (Register missing) e m = known_before (is_in h.id (ids (newest r).entries)) _ _ e
  asker_known r h Refresh e m = absurd (false≢true m)
  asker_known r h Collect e m = absurd (false≢true m)
