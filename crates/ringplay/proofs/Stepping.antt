-- What has become of the lines of a step file, one more after another.
use Rattle.std.proofs.Common.{◌≡◌, ℕ, ◌+◌, List, ◌∷◌, ◌++◌, drop, Some, refl, sym, ap, ◌∙◌}
use Rattle.std.proofs.lemmas.List.{append_assoc}
use Rattle.ring_names.specs.declared.numbers.CreditSpec.{CreditSpec}
use Rattle.ring_script.specs.declared.text.Text.{Text}
use Rattle.ring_rules.specs.declared.event.Event.{Event}
use Rattle.ring_rules.specs.Step.{opening}
use Rattle.ring_rules.specs.Event.{refusal, last, refusals_of}
use Rattle.ring_rules.proofs.runs.OfEvents.{last_append}
use Rattle.ring_cluster.specs.Seen.{Seen, IsGoing, state_of, opening_seen}
use Rattle.ring_cluster.specs.Agendas.{tasks_in}
use Rattle.ring_report.specs.Report.{report_of}
use Rattle.ringplay.specs.Step.{happens, enabled_of, if_refused, refused_lines, HasStepped}
use Rattle.ringplay.specs.Performed.{AreSteppedBy}
use Rattle.ringplay.proofs.Playing.{IsOf, has_run}

-- ---- events that have happened

stepped_on : {c d e : Seen} {first second : List Event} → HasStepped c d first → HasStepped d e second → HasStepped c e (first ++ second)
stepped_on {c} {d} {e} {first} {second} f s = record {
  credit = s.credit ∙ f.credit;
  names = s.names ∙ f.names;
  events = s.events ∙ ap (λ es. es ++ second) f.events ∙ append_assoc c.events first second;
  agendas = s.agendas ∙ f.agendas;
  given = s.given ∙ f.given;
}

-- the state that they leave
stepped_state : {c d : Seen} {more : List Event} → HasStepped c d more → state_of d ≡ last (state_of c) more
stepped_state {c} {d} {more} h =
    ap (λ credit. last (opening credit d.names) d.events) h.credit ∙ ap (λ names. last (opening c.credit names) d.events) h.names
    ∙ ap (last (opening c.credit c.names)) h.events ∙ last_append (opening c.credit c.names) c.events more

-- ---- lines that were tried

-- Of the lines the first k were tried: what has happened and what is told of them, followed by what is left of the others, is
-- what becomes of all.
pub record HasTried (c d : Seen) (before told : List ℕ) (lines : List (ℕ × Event)) (k : ℕ) : Type 0 where
  pub events : List Event
  pub stepped : HasStepped c d events
  pub left : enabled_of (state_of c) lines ≡ events ++ enabled_of (state_of d) (drop k lines)
  pub says : before ++ refused_lines (state_of c) lines ≡ told ++ refused_lines (state_of d) (drop k lines)

-- one more
pub tried_more : {c d e : Seen} {before told : List ℕ} {lines : List (ℕ × Event)} {k : ℕ} → HasTried c d before told lines k
    → (line : ℕ × Event) (rest : List (ℕ × Event)) (more : List ℕ) → drop k lines ≡ line ∷ rest → drop (k + 1) lines ≡ rest
    → HasStepped d e (happens (state_of d) line.1) → more ≡ told ++ if_refused line.0 (refusal (state_of d) line.1) → HasTried c e before more lines (k + 1)
tried_more {c} {d} {e} {before} {told} {lines} {k} h line rest more here after step says =
    let w = state_of d in
    let did = happens w line.1 in
    let state : last w did ≡ state_of e = sym (stepped_state step) in
    record {
      events = h.events ++ did;
      stepped = stepped_on h.stepped step;
      left = h.left ∙ ap (λ ls. h.events ++ enabled_of w ls) here ∙ ap (λ v. h.events ++ (did ++ enabled_of v rest)) state
          ∙ sym (append_assoc h.events did (enabled_of (state_of e) rest)) ∙ ap (λ ls. (h.events ++ did) ++ enabled_of (state_of e) ls) (sym after);
      says = h.says ∙ ap (λ ls. told ++ refused_lines w ls) here ∙ ap (λ v. told ++ (if_refused line.0 (refusal w line.1) ++ refused_lines v rest)) state
          ∙ sym (append_assoc told (if_refused line.0 (refusal w line.1)) (refused_lines (state_of e) rest))
          ∙ ap (λ t. t ++ refused_lines (state_of e) rest) (sym says) ∙ ap (λ ls. more ++ refused_lines (state_of e) ls) (sym after);
    }

-- ---- a step file

-- of a cluster that opened as a and in which these events have happened to b
pub stepped_of : (credit : CreditSpec) (names : List (List ℕ)) (a b : Seen) (events : List Event) → a ≡ opening_seen credit names → HasStepped a b events → IsOf credit names b
stepped_of credit names a b events ea h = record { credit = h.credit ∙ ap (λ s. s.credit) ea; names = h.names ∙ ap (λ s. s.names) ea }

-- a cluster that opened as a and in which the lines' events have happened to b
pub stepped_all : (steps : Text Event) (a b : Seen) (journal : List Event) (text told : List ℕ) → a ≡ opening_seen steps.credit steps.members → IsGoing b
    → HasStepped a b (enabled_of (state_of a) steps.lines) → told ≡ refused_lines (state_of a) steps.lines → text ≡ told ++ report_of (state_of b) (refusals_of b.events) → journal ≡ b.events
    → AreSteppedBy steps journal text (Some b)
stepped_all steps a b journal text told ea going h et er ej =
    let opens : state_of a ≡ opening steps.credit steps.members = ap state_of ea in
    let of = stepped_of steps.credit steps.members a b (enabled_of (state_of a) steps.lines) ea h in
    let ran = has_run steps.credit steps.members journal b of.credit of.names ej going in
    record {
      stepped = record {
        run = ran.run;
        enabled = ej ∙ h.events ∙ ap (λ s. s.events ++ enabled_of (state_of a) steps.lines) ea ∙ ap (λ w. enabled_of w steps.lines) opens;
        report = er ∙ ap (λ t. t ++ report_of (state_of b) (refusals_of b.events)) (et ∙ ap (λ w. refused_lines w steps.lines) opens)
            ∙ ap (λ w. refused_lines (opening steps.credit steps.members) steps.lines ++ report_of w (refusals_of b.events)) ran.state
            ∙ ap (λ es. refused_lines (opening steps.credit steps.members) steps.lines ++ report_of (last (opening steps.credit steps.members) journal) (refusals_of es)) (sym ej);
      };
      by = record {
        seen = b;
        is = refl;
        names = of.names;
        credit = of.credit;
        events = sym ej;
        given = h.given ∙ ap (λ s. s.given) ea;
        empty = λ i name at. ap (λ plans. tasks_in plans name) (h.agendas ∙ ap (λ s. s.agendas) ea);
      };
    }
