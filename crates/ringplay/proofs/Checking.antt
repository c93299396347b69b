-- What a legal journal has.
use Rattle.std.proofs.Common.{◌≡◌, ℕ, ◌+◌, ◌≤◌, ◌<◌, ◌^◌, List, [], ◌∷◌, ◌++◌, length, Option, Some, None, Result, Ok, Err, ap, sym, subst, ◌∙◌, arith}
use Rattle.std.proofs.lemmas.List.{length-append}
use Rattle.ring_names.specs.declared.reason.Reason.{Reason}
use Rattle.ring_rules.specs.declared.event.Event.{Event}
use Rattle.ring_copies.specs.Runs.{refusal}
use Rattle.ring_world.specs.Reached.{WorldSeen, with_copies}
use Rattle.ring_script.specs.Words.{lines_of}
use Rattle.ring_journal.specs.declared.fault.Kind.{Kind}
use Rattle.ring_journal.specs.declared.verdict.Verdict.{Verdict}
use Rattle.ring_journal.specs.declared.verdict.Verdict.TheVariants.{Legal, Illegal, Unreadable}
use Rattle.ring_journal.specs.Header.{Opening}
use Rattle.ring_journal.specs.Text.{event_on, header_on, opened, judged, behind, unless_refused, unless_wrong, JudgedBehind, JudgedAll, IsVerdictOf}
use Rattle.ring_journal.specs.Laws.{IsOfRun}
use Rattle.ring_report.specs.Report.{report_of}
use Rattle.ring_words.specs.declared.asked.Asked.TheVariants.{Check}
use Rattle.ringplay.specs.Call.{most_lines}
use Rattle.ringplay.specs.Performed.{IsLawfulRun, IsChecked}
use Rattle.ringplay.proofs.Playing.{lawful_run}

-- ---- it has no more events than lines

events_in : Verdict → List Event
events_in (Legal w es) = es
events_in (Illegal n r) = []
events_in (Unreadable n k) = []

none_left : (w end : WorldSeen) (done events : List Event) → Legal w done ≡ Legal end events → done ≡ events
unfolding events_in
none_left w end done events e = ap events_in e

enabled_few : (end : WorldSeen) (events : List Event) (number n : ℕ) (o : Option Reason) (later : Verdict) → unless_refused number o later ≡ Legal end events → (later ≡ Legal end events → length events ≤ n)
    → length events ≤ n
enabled_few end events number n None later h few = few h
enabled_few end events number n (Some reason) later h few = absurd cc

said_few : (w end : WorldSeen) (done events : List Event) (number n : ℕ) (said : Result Event Kind) (lines : List (List ℕ))
    → unless_wrong w number said (λ e. judged (behind w e) (done ++ e ∷ []) (number + 1) lines) ≡ Legal end events
    → ((e : Event) → judged (behind w e) (done ++ e ∷ []) (number + 1) lines ≡ Legal end events → length events ≤ n) → length events ≤ n
said_few w end done events number n (Err kind) lines h few = absurd cc
said_few w end done events number n (Ok e) lines h few =
    enabled_few end events number n (refusal (with_copies w) e) (judged (behind w e) (done ++ e ∷ []) (number + 1) lines) h (few e)

judged_few : (w end : WorldSeen) (done events : List Event) (number : ℕ) (lines : List (List ℕ)) → judged w done number lines ≡ Legal end events → length events ≤ length done + length lines
judged_few w end done events number [] h = let same : length done ≡ length events = ap length (none_left w end done events h) in omega (arith, same)
judged_few w end done events number (line ∷ lines) h =
    said_few w end done events number (length done + length (line ∷ lines)) (event_on line) lines h
    (λ e k. let few = judged_few (behind w e) end (done ++ e ∷ []) events (number + 1) lines k in
    let more : length (done ++ e ∷ []) ≡ length done + 1 = length-append done (e ∷ []) in
    omega (arith, few, more))

behind_few : (r : Result Opening Kind) (lines : List (List ℕ)) (end : WorldSeen) (events : List Event) → JudgedBehind r lines (Legal end events) → length events ≤ length lines
behind_few (Err kind) lines end events h = absurd cc
behind_few (Ok o) lines end events h = let few = judged_few (opened h.0 o.members) end [] events 2 lines (sym h.3) in omega (arith, few)

lines_few : (lines : List (List ℕ)) (end : WorldSeen) (events : List Event) → JudgedAll lines (Legal end events) → length events ≤ length lines
lines_few [] end events h = absurd cc
lines_few (line ∷ lines) end events h = let few = behind_few (header_on line) lines end events h in omega (arith, few)

-- ---- so it is a lawful run

legal_lawful : (bytes : List ℕ) (w : WorldSeen) (events : List Event) → IsVerdictOf bytes (Legal w events) → length (lines_of bytes) < 2 ^ 59 → (run : IsOfRun w events) → IsLawfulRun run.credit run.names events
legal_lawful bytes w events legal few run =
    let no_more : length events ≤ length (lines_of bytes) = lines_few (lines_of bytes) w events legal in
    lawful_run run.credit run.names events run.left.are run.left.run (omega (arith, no_more, few))

-- and its report is that of the state that it leaves
pub checked_so : (bytes : List ℕ) (w : WorldSeen) (events journal : List Event) (text : List ℕ) → IsVerdictOf bytes (Legal w events) → length (lines_of bytes) ≤ most_lines Check → IsOfRun w events
    → journal ≡ events → text ≡ report_of w.ring w.refusals → IsChecked bytes journal text
checked_so bytes w events journal text legal few run same says =
    let checked : IsChecked bytes events text = record {
      world = w;
      legal = legal;
      run = run;
      lawful = legal_lawful bytes w events legal (omega (arith, few)) run;
      report = says ∙ ap (report_of w.ring) run.left.refusals;
    } in
    subst (λ es. IsChecked bytes es text) (sym same) checked
