-- A journal that was written is judged by its events alone.
use Rattle.std.proofs.Common.{◌≡◌, ℕ, suc, map, Bool, true, false, cond, ◌+◌, List, [], ◌∷◌, ◌++◌, None, Ok, length, refl, sym, ap, subst, ◌∙◌, arith, append_assoc, append-nil}
use Rattle.std.specs.List.{All, range_with_len}
use Rattle.ring_names.specs.Name.{IsName}
use Rattle.ring_names.specs.declared.numbers.CreditSpec.{CreditSpec}
use Rattle.group_view.specs.Change.{AreOpeningNames}
use Rattle.ring_rules.specs.declared.event.Event.{Event}
use Rattle.group_view.specs.Since.{no_group}
use Rattle.group_view.specs.Change.{opening as opening_group}
use Rattle.ring_rules.specs.Rows.{full_flow}
use Rattle.ring_rules.specs.View.{right_of}
use Rattle.ring_world.specs.Reached.{WorldSeen, with_copies}
use Rattle.ring_copies.specs.Copies.{CopyWorld}
use Rattle.ring_copies.specs.Runs.{effect, IsRun, last}
use Rattle.ring_rules.specs.Step.{opening, opening_member}
use Rattle.ring_rules.specs.Machine.{World, Link, no_member, no_sending}
use Rattle.ring_rules.specs.Event.{refusals_of, is_refusal}
use Rattle.serde_json.specs.Written.{compact_text}
use Rattle.ring_script.specs.Words.{lines_of}
use Rattle.ring_journal.specs.declared.verdict.Verdict.{Verdict}
use Rattle.ring_journal.specs.declared.verdict.Verdict.TheVariants.{Legal}
use Rattle.ring_journal.specs.Text.{seen_as, opened, judged, behind, unless_refused, JudgedAll, JudgedBehind, IsVerdictOf}
use Rattle.ring_journal.specs.Written.{header_data, events_text, journal_text}
use Rattle.ring_journal.specs.Played.{played, IsWritable}
use Rattle.ring_journal.proofs.Back.{lines_of-line, AreWritable, judged-events_text}
use Rattle.ring_journal.proofs.HeaderBack.{header_on-line, header_text}

are_writable : (es : List Event) → All IsWritable es → AreWritable es
are_writable [] h = tt
are_writable (e ∷ es) h = (h 0 e (omega arith), are_writable es (λ k d l. h (suc k) d (omega (arith, l))))

abbrev link_by : ℕ → ℕ → List (List ℕ) → ℕ → Link
link_by initial more names i =
    record { sender = i; receiver = right_of (opening_group names) i; opened = 1; packets = []; ending = None; over = false; sending = no_sending; had = no_sending; flow = full_flow initial more }

-- the opening, by the two numbers of its credit
abbrev world_by : ℕ → ℕ → List (List ℕ) → World
world_by initial more names = record {
  members = no_member ∷ map (opening_member names) (range_with_len 1 (length names));
  links = map (link_by initial more names) (range_with_len 1 (length names));
  views = no_group ∷ opening_group names ∷ [];
  initial = initial;
  more = more;
}

pub same_opening : (a b : CreditSpec) (names : List (List ℕ)) → a.initial ≡ b.initial → a.more ≡ b.more → opening a names ≡ opening b names
same_opening a b names i m = ap (λ x. world_by x a.more names) i ∙ ap (λ y. world_by b.initial y names) m

pub written_is_played : (members : List (List ℕ)) (credit : CreditSpec) (events : List Event) (verdict : Verdict) → AreOpeningNames members → All IsName members → All IsWritable events
    → IsVerdictOf (journal_text members credit events) verdict → verdict ≡ played (opened credit members) [] 2 events
written_is_played members credit events verdict o h w v =
    let lines = lines_of-line (compact_text (header_data members credit)) (events_text events) (header_text members credit o h) in
    let all : JudgedAll (compact_text (header_data members credit) ∷ lines_of (events_text events)) verdict = subst (λ ls. JudgedAll ls verdict) lines v in
    let first = header_on-line members credit o h in
    let found : JudgedBehind (Ok (record { members = members; initial = credit.initial; more = credit.more })) (lines_of (events_text events)) verdict =
    subst (λ r. JudgedBehind r (lines_of (events_text events)) verdict) first all in
    let world = same_opening found.0 credit members found.1 found.2 in
    found.3 ∙ ap (λ r. judged (record { ring = r; copies = []; refusals = [] }) [] 2 (lines_of (events_text events))) world
    ∙ judged-events_text (opened credit members) [] 2 events (are_writable events w)

-- ---- a run is legal

more_by : (b : Bool) (e : Event) (es : List Event) → cond b (e ∷ []) [] ++ es ≡ cond b (e ∷ es) es
more_by true e es = refl
more_by false e es = refl

pub refusals_more : (e : Event) (es : List Event) → refusals_of (e ∷ []) ++ refusals_of es ≡ refusals_of (e ∷ es)
refusals_more e es = more_by (is_refusal e) e (refusals_of es)

pub played_run : (w : WorldSeen) (done : List Event) (number : ℕ) (es : List Event) → IsRun (with_copies w) es
    → played w done number es ≡ Legal (seen_as (last (with_copies w) es) (w.refusals ++ refusals_of es)) (done ++ es)
played_run w done number [] h = ap (λ rs. Legal (seen_as (with_copies w) rs) done) (sym (append-nil w.refusals)) ∙ ap (Legal (seen_as (with_copies w) (w.refusals ++ []))) (sym (append-nil done))
played_run w done number (e ∷ es) h =
    ap (λ r. unless_refused number r (played (behind w e) (done ++ e ∷ []) (number + 1) es)) h.0
    ∙ played_run (behind w e) (done ++ e ∷ []) (number + 1) es h.1
    ∙ ap (λ rs. Legal (seen_as (last (effect (with_copies w) e) es) rs) ((done ++ e ∷ []) ++ es)) (append_assoc w.refusals (refusals_of (e ∷ [])) (refusals_of es) ∙ ap (λ rs. w.refusals ++ rs) (refusals_more e es))
    ∙ ap (Legal (seen_as (last (effect (with_copies w) e) es) (w.refusals ++ refusals_of (e ∷ es)))) (append_assoc done (e ∷ []) es)
