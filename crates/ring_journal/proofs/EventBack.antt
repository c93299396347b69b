-- The value of an event says the event.
use Rattle.std.proofs.Common.{◌≡◌, ℕ, ◌≤◌, Bool, true, false, ◌&&◌, ◌==◌, nat_le, nat_lt, if◌then◌else◌, List, ◌∷◌, length, codes, bytes_eq, Some, None, option_map, option_and_then, Ok, refl, ap, ◌∙◌, arith}
use Rattle.std.specs.Prelude.{⊤}
use Rattle.std.proofs.lemmas.Bool.Decides.{nat_tests}
use Rattle.ring_names.specs.Name.{IsName, name_or_fault}
use Rattle.ring_names.specs.Body.{IsBody}
use Rattle.ring_rules.specs.declared.event.Client.{Client}
use Rattle.ring_rules.specs.declared.event.Client.TheVariants as client
use Rattle.ring_rules.specs.declared.event.Event.{Event}
use Rattle.ring_rules.specs.declared.event.Event.TheVariants.{Refuse}
use Rattle.ring_rules.specs.Event.{is_refusal}
use Rattle.serde_json.specs.Data.{Data, string}
use Rattle.ring_script.specs.declared.vocabulary.Further.{Further}
use Rattle.ring_script.specs.declared.vocabulary.Further.TheVariants as further
use Rattle.ring_script.specs.declared.vocabulary.Phrase.{Phrase}
use Rattle.ring_script.specs.declared.vocabulary.Shape.{Shape}
use Rattle.ring_script.specs.declared.vocabulary.Shape.TheVariants as shape
use Rattle.ring_script.specs.declared.vocabulary.Word.{Word}
use Rattle.ring_script.specs.declared.vocabulary.Word.TheVariants as word
use Rattle.ring_script.specs.Vocabulary.{text_of, shape_of, phrase, asked_phrase, phrase_of, event_said, client_said}
use Rattle.ring_script.proofs.ReadBack.{word_back, client_back, event_back}
use Rattle.ring_journal.specs.Fields.{is_body}
use Rattle.ring_journal.specs.Event.{phrase_by, phrase_at, refusal_in, event_in}
use Rattle.ring_journal.specs.Written.{fields, whole, further_fields, phrase_fields, data_of}
use Rattle.ring_journal.specs.Played.{IsWritableFurther, IsWritable}

pub name-read : (s : List ℕ) → IsName s → name_or_fault s ≡ Ok s
name-read s h =
    let some = h.some in
    let short = h.short in
    let first : (length s == 0) ≡ false = grind (arith, nat_tests) in
    let second : nat_lt 16 (length s) ≡ false = grind (arith, nat_tests) in
    rw (first, second, h.letters) refl

pub body-read : (s : List ℕ) → IsBody s → is_body s ≡ true
body-read s h =
    let few = h.short in
    let short : nat_le (length s) 256 ≡ true = grind (arith, nat_tests) in
    rw (short, h.text) refl

pub number-read : (n most : ℕ) → 1 ≤ n → n ≤ most → (nat_le 1 n && nat_le n most) ≡ true
number-read n most a b =
    let low : nat_le 1 n ≡ true = grind (arith, nat_tests) in
    let high : nat_le n most ≡ true = grind (arith, nat_tests) in
    rw (low, high) refl

-- ---- phrases

-- what is read behind a name of this shape
abbrev IsOf : Shape → Further → Type 0
IsOf shape.Nothing further.Nothing = ⊤
IsOf shape.Body (further.Body body) = ⊤
IsOf shape.Name (further.Name name) = ⊤
IsOf shape.Newcomer (further.Name name) = ⊤
IsOf shape.Position (further.Position at) = ⊤
IsOf shape.Version (further.Version version) = ⊤
IsOf s f = ⊥

-- a phrase is read alone, and behind two further fields
shape_back : (w : Word) (by : List ℕ) (s : Shape) (f : Further) (a b c : Data) → IsOf s f → IsName by → IsWritableFurther f
    → (phrase_by 0 (fields (c ∷ string by ∷ further_fields f)) w s ≡ Some (phrase w by f)) × (phrase_by 2 (fields (a ∷ b ∷ c ∷ string by ∷ further_fields f)) w s ≡ Some (phrase w by f))
shape_back w by shape.Nothing further.Nothing a b c o n h = rw (name-read by n) (refl, refl)
shape_back w by shape.Body (further.Body body) a b c o n h = rw (name-read by n, body-read body h) (refl, refl)
shape_back w by shape.Name (further.Name name) a b c o n h = rw (name-read by n, name-read name h) (refl, refl)
shape_back w by shape.Newcomer (further.Name name) a b c o n h = rw (name-read by n, name-read name h) (refl, refl)
shape_back w by shape.Position (further.Position at) a b c o n h = rw (name-read by n, number-read at.0 1000000 h.0 h.1) (refl, refl)
shape_back w by shape.Version (further.Version version) a b c o n h = rw (name-read by n, number-read version 1000000 h.0 h.1) (refl, refl)
shape_back w by s f a b c o n h = absurd o

phrase_back : (p : Phrase) (a b : Data) → IsOf (shape_of p.word) p.further → IsName p.by → IsWritableFurther p.further
    → (phrase_at 0 (fields (phrase_fields p)) ≡ Some p) × (phrase_at 2 (fields (a ∷ b ∷ phrase_fields p)) ≡ Some p)
phrase_back p a b o n h =
    let back = shape_back p.word p.by (shape_of p.word) p.further a b (string (text_of p.word)) o n h in (
      ap (option_and_then (λ w. phrase_by 0 (fields (phrase_fields p)) w (shape_of w))) (word_back p.word) ∙ back.0,
      ap (option_and_then (λ w. phrase_by 2 (fields (a ∷ b ∷ phrase_fields p)) w (shape_of w))) (word_back p.word) ∙ back.1,
    )

-- ---- events

-- no phrase has the word of a refusal
no_refusal : (w : Word) → bytes_eq (text_of w) (codes "refuse") ≡ false
no_refusal word.Cast = refl
no_refusal w = refl

told_back : (e : Event) → is_refusal e ≡ false → IsOf (shape_of (phrase_of e).word) (phrase_of e).further → IsName (phrase_of e).by → IsWritableFurther (phrase_of e).further
    → event_in (fields (phrase_fields (phrase_of e))) ≡ Some e
told_back e plain o n h =
    let d = fields (phrase_fields (phrase_of e)) in
    ap (λ (b : Bool). if b then refusal_in d else option_and_then event_said (phrase_at 0 d)) (no_refusal (phrase_of e).word)
    ∙ ap (option_and_then event_said) (phrase_back (phrase_of e) d d o n h).0 ∙ event_back e plain

refused_back : (code : ℕ) (c : Client) → IsOf (shape_of (asked_phrase c).word) (asked_phrase c).further → 1 ≤ code → code ≤ 99 → IsName (asked_phrase c).by → IsWritableFurther (asked_phrase c).further → event_in (data_of (Refuse code c)) ≡ Some (Refuse code c)
refused_back code c o some few n h =
    let inner = phrase_at 2 (data_of (Refuse code c)) in
    ap (λ (b : Bool). option_and_then (λ k. option_map (Refuse k) (option_and_then client_said inner)) (if b then Some code else None)) (number-read code 99 some few)
    ∙ ap (option_map (Refuse code)) (ap (option_and_then client_said) (phrase_back (asked_phrase c) (string (codes "refuse")) (whole code) o n h).1 ∙ client_back c)

pub event_in-data_of : (e : Event) → IsWritable e → event_in (data_of e) ≡ Some e
event_in-data_of (Refuse code (client.Cast by body)) h = refused_back code (client.Cast by body) tt h.0.0 h.0.1 h.1 h.2
event_in-data_of (Refuse code inner) h = refused_back code inner tt h.0.0 h.0.1 h.1 h.2
event_in-data_of e h = told_back e refl tt h.1 h.2
