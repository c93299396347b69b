-- The lines of a journal are text, and none is too long.
use Rattle.std.proofs.Common.{◌≡◌, ℕ, ◌+◌, ◌≤◌, Bool, true, false, not, List, [], ◌∷◌, ◌++◌, length, codes, refl, arith}
use Rattle.std.specs.List.{list_all}
use Rattle.std.proofs.lemmas.Bool.{and_parts}
use Rattle.std.proofs.lemmas.Bool.Decides.{nat_tests}
use Rattle.ring_names.specs.Name.{IsName, is_bad_name_byte}
use Rattle.ring_names.specs.Body.{IsBody}
use Rattle.ring_rules.specs.declared.event.Event.{Event}
use Rattle.ring_rules.specs.declared.event.Event.TheVariants.{Refuse}
use Rattle.json.specs.Print.{escape_byte, escape, quoted}
use Rattle.json.proofs.Printed.Strings.{escape_byte_plain}
use Rattle.serde_json.specs.Data.{Data, string, array, Items, no_items, item}
use Rattle.serde_json.specs.View.{items_of}
use Rattle.serde_json.specs.Written.{compact_text, comma_if, items_text}
use Rattle.ring_script.specs.declared.vocabulary.Further.{Further}
use Rattle.ring_script.specs.declared.vocabulary.Further.TheVariants as further
use Rattle.ring_script.specs.declared.vocabulary.Phrase.{Phrase}
use Rattle.ring_script.specs.declared.vocabulary.Word.{Word}
use Rattle.ring_script.specs.declared.vocabulary.Word.TheVariants as word
use Rattle.ring_script.specs.Vocabulary.{text_of, asked_phrase, phrase_of}
use Rattle.ring_script.specs.Words.{is_text_byte}
use Rattle.ring_script.proofs.FirstLine.{position_missed}
use Rattle.ring_journal.specs.Written.{whole, further_fields, phrase_fields, data_of}
use Rattle.ring_journal.specs.Played.{IsWritableFurther, IsWritable}
use Rattle.ring_journal.proofs.Ascii.{all_of, text-body, text-word}
use Rattle.ring_journal.proofs.Escaped.{IsText, text-append, text-more, text-front, text-byte, text-quoted, text-decimal}

-- the text of a value is text, of no more than so many bytes
pub record Fits (n : ℕ) (d : Data) : Type 0 where
  pub text : IsText n (compact_text d)

-- that of items, with the closing bracket
pub record AreFit (n : ℕ) (ds : Items) : Type 0 where
  pub text : (later : Bool) → IsText n (items_text later ds)

-- ---- a name needs no escape

is_name_byte : ℕ → Bool
is_name_byte b = not (is_bad_name_byte b)

good : (b : ℕ) → is_bad_name_byte b ≡ false → is_name_byte b ≡ true
unfolding is_name_byte
good b e = rw e refl

plain : (b : ℕ) → is_name_byte b ≡ true → IsText 1 (escape_byte b)
unfolding is_name_byte
plain b h =
    let low : 32 ≤ b = grind (arith, nat_tests) in
    let text : is_text_byte b ≡ true = grind (arith, nat_tests) in
    rw (escape_byte_plain b (λ e. grind (arith, nat_tests)) (λ e. grind (arith, nat_tests)) low) (text-byte b text)

name_escaped : (s : List ℕ) → list_all is_name_byte s ≡ true → IsText (length s) (escape s)
name_escaped [] h = record { text = refl; few = omega arith }
name_escaped (b ∷ s) h =
    let both = and_parts (is_name_byte b) (list_all is_name_byte s) h in
    text-more (1 + length s) (length (b ∷ s)) (escape_byte b ++ escape s) (omega arith) (text-append 1 (length s) (escape_byte b) (escape s) (plain b both.0) (name_escaped s both.1))

pub name_item : (s : List ℕ) → IsName s → Fits 18 (string s)
name_item s n =
    let all = all_of is_bad_name_byte is_name_byte good s (position_missed is_bad_name_byte s n.letters) in
    let short = n.short in
    let inner = text-append (length s) 1 (escape s) (34 ∷ []) (name_escaped s all) (text-byte 34 refl) in
    record { text = text-more (length s + 1 + 1) 18 (quoted s) (omega (arith, short)) (text-front (length s + 1) 34 (escape s ++ 34 ∷ []) refl inner) }

body_item : (s : List ℕ) → IsBody s → Fits 514 (string s)
body_item s n = record { text = text-quoted 256 s (text-body s n) n.short }

word_item : (s : List ℕ) → list_all is_text_byte s ≡ true → length s ≤ 8 → Fits 18 (string s)
word_item s h l = record { text = text-quoted 8 s h l }

pub number_item : (n : ℕ) → n ≤ 1000000 → Fits 7 (whole n)
number_item n h = record { text = text-decimal 7 n (omega arith) (omega (arith, h)) (omega (arith, h)) }

-- ---- fields

comma : (later : Bool) → IsText 1 (comma_if later)
comma true = record { text = refl; few = omega arith }
comma false = record { text = refl; few = omega arith }

pub end : AreFit 1 no_items
end = record { text = λ later. record { text = refl; few = omega arith } }

pub field : (m n : ℕ) (d : Data) (ds : Items) → Fits m d → AreFit n ds → AreFit (1 + (m + n)) (item d ds)
field m n d ds a b = record {
  text = λ later. text-append 1 (m + n) (comma_if later) (compact_text d ++ items_text true ds) (comma later) (text-append m n (compact_text d) (items_text true ds) a.text (b.text true));
}

pub all_fields : (n : ℕ) (ds : Items) → AreFit n ds → Fits (n + 1) (array ds)
all_fields n ds a = record { text = text-front n 91 (items_text false ds) refl (a.text false) }

pub fits_more : (m n : ℕ) (d : Data) → m ≤ n → Fits m d → Fits n d
fits_more m n d h a = record { text = text-more m n (compact_text d) h a.text }

pub fit_more : (m n : ℕ) (ds : Items) → m ≤ n → AreFit m ds → AreFit n ds
fit_more m n ds h a = record { text = λ later. text-more m n (items_text later ds) h (a.text later) }

-- ---- events

word_fits : (w : Word) → length (text_of w) ≤ 8
word_fits word.Cast = omega arith
word_fits w = omega arith

further_fits : (f : Further) → IsWritableFurther f → AreFit 516 (items_of (further_fields f))
further_fits further.Nothing h = fit_more 1 516 no_items (omega arith) end
further_fits (further.Body body) h = field 514 1 (string body) no_items (body_item body h) end
further_fits (further.Name name) h = fit_more 20 516 _ (omega arith) (field 18 1 (string name) no_items (name_item name h) end)
further_fits (further.Position at) h = fit_more 9 516 _ (omega arith) (field 7 1 (whole at.0) no_items (number_item at.0 h.1) end)
further_fits (further.Version version) h = fit_more 9 516 _ (omega arith) (field 7 1 (whole version) no_items (number_item version h.1) end)

phrase_fits : (p : Phrase) → IsName p.by → IsWritableFurther p.further → AreFit 554 (items_of (phrase_fields p))
phrase_fits p n h = field 18 535 (string (text_of p.word)) _ (word_item (text_of p.word) (text-word p.word) (word_fits p.word)) (field 18 516 (string p.by) _ (name_item p.by n) (further_fits p.further h))

pub text-data_of : (e : Event) → IsWritable e → Fits 2000 (data_of e)
text-data_of (Refuse code inner) h =
    fits_more 582 2000 _ (omega arith)
    (all_fields 581 _ (field 18 562 (string (codes "refuse")) _ (word_item _ refl (omega arith)) (field 7 554 (whole code) _ (number_item code (omega (arith, h.0.1))) (phrase_fits (asked_phrase inner) h.1 h.2))))
text-data_of e h = fits_more 555 2000 _ (omega arith) (all_fields 554 _ (phrase_fits (phrase_of e) h.1 h.2))
