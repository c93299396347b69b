-- A journal that is read as legal is that of a run, and leaves what the run does.
use Rattle.std.proofs.Common.{◌≡◌, ℕ, ◌+◌, List, [], ◌∷◌, ◌++◌, Option, Some, None, Result, Ok, Err, refl, sym, ap, subst, ◌∙◌, append_assoc, append-nil}
use Rattle.ring_names.specs.declared.numbers.CreditSpec.{CreditSpec}
use Rattle.ring_names.specs.declared.reason.Reason.{Reason}
use Rattle.ring_rules.specs.declared.event.Event.{Event}
use Rattle.ring_world.specs.Reached.{WorldSeen, with_copies}
use Rattle.ring_copies.specs.Copies.{CopyWorld}
use Rattle.ring_copies.specs.Runs.{refusal, effect, IsRun, last, without_copies}
use Rattle.ring_rules.specs.Step.{opening}
use Rattle.ring_rules.specs.Event.{refusals_of}
use Rattle.ring_script.specs.Words.{lines_of}
use Rattle.ring_journal.specs.declared.fault.Kind.{Kind}
use Rattle.ring_journal.specs.declared.verdict.Verdict.{Verdict}
use Rattle.ring_journal.specs.declared.verdict.Verdict.TheVariants.{Legal, Illegal, Unreadable}
use Rattle.ring_journal.specs.Header.{Opening}
use Rattle.ring_journal.specs.Text.{event_on, header_on, opened, judged, behind, unless_refused, unless_wrong, JudgedBehind, JudgedAll, IsVerdictOf}
use Rattle.group_view.specs.Change.{AreOpeningNames}
use Rattle.ring_rules.specs.Machine.{World}
use Rattle.ring_journal.specs.Laws.{IsLeftBy}
use Rattle.ring_journal.proofs.Opened.{header_opens}
use Rattle.ring_journal.proofs.Whole.{refusals_more}

-- events behind others, up to a world
record Goes (w : WorldSeen) (done : List Event) (end : WorldSeen) (events : List Event) : Type 0 where
  pub more : List Event
  pub all : events ≡ done ++ more
  pub run : IsRun (with_copies w) more
  pub ring : with_copies end ≡ last (with_copies w) more
  pub refusals : end.refusals ≡ w.refusals ++ refusals_of more

world_in : WorldSeen → Verdict → WorldSeen
world_in w (Legal v es) = v
world_in w (Illegal n r) = w
world_in w (Unreadable n k) = w

events_in : Verdict → List Event
events_in (Legal v es) = es
events_in (Illegal n r) = []
events_in (Unreadable n k) = []

none_left : (w end : WorldSeen) (done events : List Event) → Legal w done ≡ Legal end events → Goes w done end events
unfolding world_in events_in
none_left w end done events e = record {
  more = [];
  all = sym (ap events_in e) ∙ sym (append-nil done);
  run = tt;
  ring = ap with_copies (sym (ap (world_in w) e));
  refusals = ap (λ v. v.refusals) (sym (ap (world_in w) e)) ∙ sym (append-nil w.refusals);
}

one_more : (w end : WorldSeen) (done events : List Event) (e : Event) → refusal (with_copies w) e ≡ None → Goes (behind w e) (done ++ e ∷ []) end events → Goes w done end events
one_more w end done events e enabled g = record {
  more = e ∷ g.more;
  all = g.all ∙ append_assoc done (e ∷ []) g.more;
  run = (enabled, g.run);
  ring = g.ring;
  refusals = g.refusals ∙ append_assoc w.refusals (refusals_of (e ∷ [])) (refusals_of g.more) ∙ ap (λ rs. w.refusals ++ rs) (refusals_more e g.more);
}

enabled_by : (w end : WorldSeen) (done events : List Event) (number : ℕ) (e : Event) (o : Option Reason) (later : Verdict) → refusal (with_copies w) e ≡ o → unless_refused number o later ≡ Legal end events
    → (later ≡ Legal end events → Goes (behind w e) (done ++ e ∷ []) end events) → Goes w done end events
enabled_by w end done events number e None later r h go = one_more w end done events e r (go h)
enabled_by w end done events number e (Some reason) later r h go = absurd cc

goes_by : (w end : WorldSeen) (done events : List Event) (number : ℕ) (said : Result Event Kind) (lines : List (List ℕ))
    → unless_wrong w number said (λ e. judged (behind w e) (done ++ e ∷ []) (number + 1) lines) ≡ Legal end events
    → ((e : Event) → judged (behind w e) (done ++ e ∷ []) (number + 1) lines ≡ Legal end events → Goes (behind w e) (done ++ e ∷ []) end events) → Goes w done end events
goes_by w end done events number (Err kind) lines h go = absurd cc
goes_by w end done events number (Ok e) lines h go =
    enabled_by w end done events number e (refusal (with_copies w) e) (judged (behind w e) (done ++ e ∷ []) (number + 1) lines) refl h (go e)

goes : (w end : WorldSeen) (done events : List Event) (number : ℕ) (lines : List (List ℕ)) → judged w done number lines ≡ Legal end events → Goes w done end events
goes w end done events number [] h = none_left w end done events h
goes w end done events number (line ∷ lines) h =
    goes_by w end done events number (event_on line) lines h (λ e k. goes (behind w e) end (done ++ e ∷ []) events (number + 1) lines k)

-- the state that the events leave, with their opening
pub record Ends (w : WorldSeen) (events : List Event) : Type 0 where
  pub credit : CreditSpec
  pub names : List (List ℕ)
  pub left : IsLeftBy w credit names events

end_of : (credit : CreditSpec) (names : List (List ℕ)) (end : WorldSeen) (events more : List Event) → events ≡ more → IsRun (without_copies (opening credit names)) more → with_copies end ≡ last (without_copies (opening credit names)) more
    → end.refusals ≡ refusals_of more → AreOpeningNames names → Ends end events
end_of credit names end events more same run ring refusals are = record {
  credit = credit;
  names = names;
  left = record {
    are = are;
    run = subst (λ es. IsRun (without_copies (opening credit names)) es) (sym same) run;
    ring = ring ∙ ap (last (without_copies (opening credit names))) (sym same);
    refusals = refusals ∙ ap refusals_of (sym same);
  };
}

legal_behind : (line : List ℕ) (r : Result Opening Kind) (lines : List (List ℕ)) (end : WorldSeen) (events : List Event) → header_on line ≡ r → JudgedBehind r lines (Legal end events) → Ends end events
legal_behind line (Err kind) lines end events e h = absurd cc
legal_behind line (Ok o) lines end events e h =
    let g = goes (opened h.0 o.members) end [] events 2 lines (sym h.3) in
    end_of h.0 o.members end events g.more g.all g.run g.ring g.refusals (header_opens line o e)

legal_lines : (lines : List (List ℕ)) (end : WorldSeen) (events : List Event) → JudgedAll lines (Legal end events) → Ends end events
legal_lines [] end events h = absurd cc
legal_lines (line ∷ lines) end events h = legal_behind line (header_on line) lines end events refl h

pub legal_is_run : (bytes : List ℕ) (end : WorldSeen) (events : List Event) → IsVerdictOf bytes (Legal end events) → Ends end events
legal_is_run bytes end events h = legal_lines (lines_of bytes) end events h

-- ---- from each earlier state on

-- a run of events one behind the other is a run, and then a run from there on
pub parted : (w : CopyWorld) (earlier later : List Event) → IsRun w (earlier ++ later) → IsRun w earlier × IsRun (last w earlier) later × (last w (earlier ++ later) ≡ last (last w earlier) later)
parted w [] later h = (tt, h, refl)
parted w (e ∷ es) later h =
    let rest = parted (effect w e) es later h.1 in
    ((h.0, rest.0), rest.1, rest.2)
