-- Each link keeps its credit.
use Rattle.std.proofs.Common.{◌≡◌, ℕ, ◌+◌, ◌<◌, ◌≤◌, false, List, [], ◌∷◌, length, get_or, refl, sym, ap, subst, ◌∙◌, arith}
use Rattle.std.proofs.lemmas.Bool.{false≢true}
use Rattle.std.proofs.lemmas.Bool.Decides.{nat_tests}
use Rattle.std.proofs.lemmas.List.{length-set, length-drop, length_push}
use Rattle.ring_names.specs.declared.numbers.CreditSpec.{CreditSpec}
use Rattle.credit_flow.specs.Credit.{is_blocked}
use Rattle.credit_flow.specs.Link.{Link as CreditLink, KeepsCredit as KeepsLoads, Send, Take as TakeLoad, after_call}
use Rattle.credit_flow.proofs.Links.{IsKept, new_keeps, send_keeps, take_keeps, gain_keeps, kept_law}
use Rattle.ring_rules.specs.Refusal.{is_empty}
use Rattle.ring_rules.specs.Rows.{full_flow, regained}
use Rattle.group_view.specs.Change.{AreOpeningNames}
use Rattle.ring_rules.specs.Machine.{Packet, Link, World, no_link, no_sending, member_at, link_at}
use Rattle.ring_rules.specs.Step.{next_packet, pushed, popped, take_from, begin_from, fresh_link, opened_link, open_to, with_link, opening, opening_link}
use Rattle.ring_rules.specs.Act.{Act, IsRun, last}
use Rattle.ring_rules.specs.Lawful.{CreditIsKept, KeepsCredit}
use Rattle.ring_rules.proofs.rings.Lists.{at_set, at_push}
use Rattle.ring_rules.proofs.invariants.Happens.{IsGood, opening_good}
use Rattle.ring_rules.proofs.events.First.{first_link_at}
use Rattle.ring_rules.proofs.events.Parts.{IsStill, Part, cast_part, put_part, take_part, begin_part, come_part, gain_part, stop_part, open_part, still_part, run_keeps}

-- the link as credit_flow has it: its packets are the loads
abbrev pub credit_of : Link → CreditLink
credit_of l = record { sender = l.flow.sender; loads = length l.packets; receiver = l.flow.receiver; grants = l.flow.grants }

-- what credit_flow keeps of a link, and that a link of the ring never holds a grant back
pub record LinkIsKept (initial more : ℕ) (l : Link) : Type 0 where
  pub kept : IsKept initial more (credit_of l)
  pub prompt : l.flow.receiver.holding ≡ false

-- in every state: links open with this credit, and each keeps it
pub record IsCredited (initial more : ℕ) (w : World) : Type 0 where
  pub initial_is : w.initial ≡ initial
  pub more_is : w.more ≡ more
  pub links : (s : ℕ) → s < length w.links → LinkIsKept initial more (link_at w s)

-- ---- one link

-- what isn't empty has an element
pub some_on_it : {A : Type 0} (xs : List A) → is_empty xs ≡ false → 0 < length xs
some_on_it [] e = absurd (false≢true (sym e))
some_on_it (x ∷ xs) e = omega arith

-- with these numbers
module _ (initial more : ℕ) (positive : 1 ≤ more) (covered : more ≤ initial) where
  -- a link on which nothing was put
  pub new_is_kept : (l : Link) → l.packets ≡ [] → l.flow ≡ full_flow initial more → LinkIsKept initial more l
  new_is_kept l p f = record {
    kept = rw (p, f) (new_keeps initial more positive);
    prompt = ap (λ a. a.receiver.holding) f;
  }

  -- a put
  pub pushed_is_kept : (l : Link) (k : Packet) → is_blocked l.flow.sender ≡ false → LinkIsKept initial more l → LinkIsKept initial more (pushed l k)
  pushed_is_kept l k can h = record {
    kept = subst (λ n. IsKept initial more (record (after_call (credit_of l) Send) { loads = n })) (sym (length_push l.packets k)) (send_keeps initial more (credit_of l) can h.kept);
    prompt = h.prompt;
  }

  -- a take
  pub popped_is_kept : (l : Link) → is_empty l.packets ≡ false → LinkIsKept initial more l → LinkIsKept initial more (popped l)
  popped_is_kept l some h = record {
    kept = subst (λ n. IsKept initial more (record (after_call (credit_of l) TakeLoad) { loads = n })) (sym (length-drop 1 l.packets)) (take_keeps initial more (credit_of l) positive (some_on_it l.packets some) h.kept);
    prompt = h.prompt;
  }

  -- a gain
  pub granted_is_kept : (l : Link) → is_empty l.flow.grants ≡ false → LinkIsKept initial more l → LinkIsKept initial more (record l { flow = regained l.flow })
  granted_is_kept l some h = record {
    kept = gain_keeps initial more (credit_of l) (some_on_it l.flow.grants some) h.kept;
    prompt = h.prompt;
  }

  -- a link that opens has one credit for its first packet
  pub opened_is_kept : (w : World) (x z : ℕ) → IsCredited initial more w → LinkIsKept initial more (opened_link w x z)
  opened_is_kept w x z h =
      let l : Link = fresh_link w x z (member_at w x).version in
      let full : l.flow ≡ full_flow initial more = rw (h.initial_is, h.more_is) refl in
      pushed_is_kept l (next_packet (member_at w x) no_sending) (ap (λ f. is_blocked f.sender) full ∙ not_blocked initial (omega arith)) (new_is_kept l refl full)
    where
      not_blocked : (n : ℕ) → 1 ≤ n → is_blocked (full_flow n more).sender ≡ false
      not_blocked n k = grind (arith, nat_tests)

  -- ---- parts of events

  -- one link is written
  pub set_credited : (w : World) (o : ℕ) (l : Link) → o < length w.links → LinkIsKept initial more l → IsCredited initial more w → IsCredited initial more (with_link w o l)
  set_credited w o l lt k h = record {
    initial_is = h.initial_is;
    more_is = h.more_is;
    links = λ s sl. let l2 : s < length w.links = omega (arith, length-set w.links o l) in
        at_set (λ j a. LinkIsKept initial more a) w.links o s l no_link lt k (λ _. h.links s l2);
  }

  -- whatever happens to the members
  pub member_credited : (w w' : World) → w'.links ≡ w.links → w'.initial ≡ w.initial → w'.more ≡ w.more → IsCredited initial more w → IsCredited initial more w'
  member_credited w w' l i m h = record {
    initial_is = i ∙ h.initial_is;
    more_is = m ∙ h.more_is;
    links = λ s sl. subst (λ ls. LinkIsKept initial more (get_or ls s no_link)) (sym l) (h.links s (omega (arith, ap length l)));
  }

  -- what leaves all still
  pub still_credited : (w w' : World) → IsStill w w' → IsCredited initial more w → IsCredited initial more w'
  still_credited w w' k h = record {
    initial_is = k.initial ∙ h.initial_is;
    more_is = k.more ∙ h.more_is;
    links = λ s sl.
        let old : LinkIsKept initial more (link_at w s) = h.links s (omega (arith, k.links_many)) in
        record { kept = rw (k.packets s, k.flow s) old.kept; prompt = rw (k.flow s) old.prompt };
  }

  -- a link opens
  pub open_credited : (w : World) (x z : ℕ) → IsCredited initial more w → IsCredited initial more (open_to w x z)
  open_credited w x z h = record {
    initial_is = h.initial_is;
    more_is = h.more_is;
    links = λ s sl. at_push (λ j a. LinkIsKept initial more a) w.links s (opened_link w x z) no_link (omega (arith, length_push w.links (opened_link w x z)))
        (opened_is_kept w x z h) (λ lt. h.links s lt);
  }

  -- any part, whatever is known where a take happens
  pub part_credited : (G : World → Type 0) (w w' : World) → Part G w w' → IsCredited initial more w → IsCredited initial more w'
  part_credited G w w' (cast_part x m some lt e) h = subst (IsCredited initial more) (sym e) (member_credited w _ refl refl refl h)
  part_credited G w w' (put_part x o lt free e) h = subst (IsCredited initial more) (sym e)
      (set_credited w o (pushed (link_at w o) (next_packet (member_at w x) (link_at w o).sending)) lt (pushed_is_kept (link_at w o) (next_packet (member_at w x) (link_at w o).sending) free (h.links o lt)) h)
  part_credited G w w' (take_part y s some t lt g e) h = subst (IsCredited initial more) (sym e)
      (member_credited (with_link w s (popped (link_at w s))) (take_from w y s) refl refl refl (set_credited w s (popped (link_at w s)) lt (popped_is_kept (link_at w s) t.has (h.links s lt)) h))
  part_credited G w w' (begin_part y s some t lt none e) h = subst (IsCredited initial more) (sym e)
      (member_credited (with_link w s (popped (link_at w s))) (begin_from w y s) refl refl refl (set_credited w s (popped (link_at w s)) lt (popped_is_kept (link_at w s) t.has (h.links s lt)) h))
  part_credited G w w' (come_part m name e) h = subst (IsCredited initial more) (sym e) (member_credited w _ refl refl refl h)
  part_credited G w w' (gain_part o lt some e) h = subst (IsCredited initial more) (sym e) (set_credited w o _ lt (granted_is_kept (link_at w o) some (h.links o lt)) h)
  part_credited G w w' (stop_part x lt e) h = subst (IsCredited initial more) (sym e) (member_credited w _ refl refl refl h)
  part_credited G w w' (open_part x z e) h = subst (IsCredited initial more) (sym e) (open_credited w x z h)
  part_credited G w w' (still_part k) h = still_credited w w' k h

  -- ---- the law

  -- of a link that is kept
  pub kept_credit : (l : Link) → LinkIsKept initial more l → CreditIsKept initial l
  kept_credit l h =
      let law : KeepsLoads initial (credit_of l) = kept_law initial more (credit_of l) covered h.kept in
      record {
        kept = no_sum _ l.flow.receiver.held _ (h.kept.none h.prompt) law.kept;
        few = law.few;
        whole = law.whole;
      }
    where
      no_sum : (a held b : ℕ) → held ≡ 0 → a + held ≡ b → a ≡ b
      no_sum a held b z e = omega arith

-- ---- every state of every run

-- the opening
pub opening_credited : (credit : CreditSpec) (names : List (List ℕ)) → IsCredited credit.initial credit.more (opening credit names)
opening_credited credit names = record {
  initial_is = refl;
  more_is = refl;
  links = λ s sl. first_link_at credit names s (LinkIsKept credit.initial credit.more) sl (λ i. new_is_kept credit.initial credit.more credit.positive credit.covered (opening_link credit names i) refl refl);
}

-- every state
pub run_credited : (credit : CreditSpec) (names : List (List ℕ)) (es : List Act) → AreOpeningNames names → IsRun (opening credit names) es → IsCredited credit.initial credit.more (last (opening credit names) es)
run_credited credit names es are r =
    run_keeps (IsCredited credit.initial credit.more) (part_credited credit.initial credit.more credit.positive credit.covered IsGood) (opening credit names) es (opening_good credit names are) r (opening_credited credit names)

-- in every state of every run each link keeps the credit of the ring
pub run_keeps_credit : (credit : CreditSpec) (names : List (List ℕ)) (es : List Act) → AreOpeningNames names → IsRun (opening credit names) es → KeepsCredit credit.initial (last (opening credit names) es)
run_keeps_credit credit names es are r s sl =
    kept_credit credit.initial credit.more credit.positive credit.covered (link_at (last (opening credit names) es) s) ((run_credited credit names es are r).links s sl)
