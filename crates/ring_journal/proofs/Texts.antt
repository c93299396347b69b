-- The text of a journal, line by line.
use Rattle.std.specs.List.{All}
use Rattle.std.proofs.lemmas.List.{take_more, take_all}
use Rattle.std.proofs.lemmas.List.Elements.{All-append, All-cons, All-nil}
use Rattle.std.proofs.Common.{◌≡◌, ℕ, ◌+◌, map, ◌<◌, ◌≤◌, false, subst, List, [], ◌∷◌, ◌++◌, take, length, get_or, refl, sym, ap, ◌∙◌, append_assoc}
use Rattle.ring_names.specs.declared.numbers.CreditSpec.{CreditSpec}
use Rattle.ring_rules.specs.declared.event.Event.{Event}
use Rattle.ring_rules.specs.declared.event.Event.TheVariants.{Refuse}
use Rattle.ring_script.specs.declared.vocabulary.Further.{Further}
use Rattle.ring_script.specs.declared.vocabulary.Further.TheVariants as further
use Rattle.ring_script.specs.Vocabulary.{asked_phrase, phrase_of}
use Rattle.serde_json.specs.Data.{Data, string}
use Rattle.serde_json.specs.View.{items_of, view}
use Rattle.serde_json.specs.declared.value.Value.{Value}
use Rattle.serde_json.specs.Written.{compact_text, has_float, items_have_float}
use Rattle.ring_journal.specs.Written.{further_fields, data_of, header_data, events_text, journal_text}

-- ---- no floats

float_further : (f : Further) → items_have_float (items_of (further_fields f)) ≡ false
float_further further.Nothing = refl
float_further f = refl

pub float-data_of : (e : Event) → has_float (data_of e) ≡ false
float-data_of (Refuse code inner) = float_further (asked_phrase inner).further
float-data_of e = float_further (phrase_of e).further

-- ---- one line more

regroup : (a b c : List ℕ) → a ++ 10 ∷ (b ++ c) ≡ (a ++ 10 ∷ b) ++ c
regroup a b c = sym (append_assoc a (10 ∷ b) c)

pub events_text-push : (es : List Event) (e : Event) → events_text (es ++ e ∷ []) ≡ events_text es ++ (compact_text (data_of e) ++ 10 ∷ [])
events_text-push [] e = refl
events_text-push (f ∷ es) e = ap (λ s. compact_text (data_of f) ++ 10 ∷ s) (events_text-push es e) ∙ regroup (compact_text (data_of f)) (events_text es) (compact_text (data_of e) ++ 10 ∷ [])

pub text_more : (out head : List ℕ) (es : List Event) (i : ℕ) (e : Event) (d : Data) → i < length es → e ≡ get_or es i e → d ≡ data_of e → out ≡ head ++ events_text (take i es)
    → out ++ (compact_text d ++ 10 ∷ []) ≡ head ++ events_text (take (i + 1) es)
text_more out head es i e d h item value so =
    let line = compact_text (data_of e) ++ 10 ∷ [] in
    let more : take (i + 1) es ≡ take i es ++ e ∷ [] = take_more es i e h ∙ ap (λ x. take i es ++ x ∷ []) (sym item) in
    ap (λ s. s ++ (compact_text d ++ 10 ∷ [])) so ∙ ap (λ x. (head ++ events_text (take i es)) ++ (compact_text x ++ 10 ∷ [])) value
    ∙ append_assoc head (events_text (take i es)) line ∙ ap (λ s. head ++ s) (sym (ap events_text more ∙ events_text-push (take i es) e))

float-texts : (names : List (List ℕ)) → items_have_float (items_of (map string names)) ≡ false
float-texts [] = refl
float-texts (name ∷ names) = float-texts names

pub float-header_data : (members : List (List ℕ)) (credit : CreditSpec) → has_float (header_data members credit) ≡ false
float-header_data members credit = rw (float-texts members) refl

-- ---- item by item

-- what holds of those before a place and of the one there holds of one more
pub all_more : {X : Type 0} (P : X → Type 0) (xs : List X) (i : ℕ) (x : X) → i < length xs → x ≡ get_or xs i x → P x → All P (take i xs) → All P (take (i + 1) xs)
all_more P xs i x h item p before =
    subst (All P) (sym (take_more xs i x h ∙ ap (λ y. take i xs ++ y ∷ []) (sym item))) (All-append P (take i xs) (x ∷ []) before (All-cons P x [] p (All-nil P)))

-- all of them
pub all_taken : {X : Type 0} (P : X → Type 0) (xs : List X) (i : ℕ) → length xs ≤ i → All P (take i xs) → All P xs
all_taken P xs i h a = subst (All P) (take_all i xs h) a

pub map_push : {A B : Type 0} (f : A → B) (xs : List A) (x : A) → map f (xs ++ x ∷ []) ≡ map f xs ++ f x ∷ []
map_push f [] x = refl
map_push f (y ∷ xs) x = ap (λ zs. f y ∷ zs) (map_push f xs x)

-- the values of names, one more
pub values_more : (vs : List Value) (v : Value) (names : List (List ℕ)) (i : ℕ) (name : List ℕ) → i < length names → name ≡ get_or names i name → view v ≡ string name
    → map view vs ≡ map string (take i names) → map view (vs ++ v ∷ []) ≡ map string (take (i + 1) names)
values_more vs v names i name h item value before =
    let more : take (i + 1) names ≡ take i names ++ name ∷ [] = take_more names i name h ∙ ap (λ x. take i names ++ x ∷ []) (sym item) in
    map_push view vs v ∙ ap (λ ds. ds ++ view v ∷ []) before ∙ ap (λ d. map string (take i names) ++ d ∷ []) value ∙ sym (ap (map string) more ∙ map_push string (take i names) name)

pub journal_whole : (out : List ℕ) (members : List (List ℕ)) (credit : CreditSpec) (es : List Event) (i : ℕ) → length es ≤ i
    → out ≡ (compact_text (header_data members credit) ++ 10 ∷ []) ++ events_text (take i es) → out ≡ journal_text members credit es
journal_whole out members credit es i h so =
    so ∙ append_assoc (compact_text (header_data members credit)) (10 ∷ []) (events_text (take i es)) ∙ ap (λ xs. compact_text (header_data members credit) ++ 10 ∷ events_text xs) (take_all i es h)
