-- The tests of names, and what they say.
use Rattle.std.proofs.Common.{◌≡◌, ℕ, ◌+◌, ◌<◌, ◌≤◌, Bool, true, false, ◌==◌, not, cond, is_ok, nat_le, nat_lt, bytes_eq, List, [], ◌∷◌, ◌++◌, Option, Some, None, Err, length, get_or, refl, sym, subst, ◌∙◌, ⊎_elim, if◌then◌else◌, arith}
use Rattle.std.specs.Option.{option_or}
use Rattle.std.specs.List.{position, All, Contains}
use Rattle.std.proofs.lemmas.Bool.{both_ways, cases_lt}
use Rattle.std.proofs.lemmas.Bool.Decides.{nat_tests}
use Rattle.std.proofs.lemmas.List.{get_or_append_left, get_or_at, length_push, append_assoc, append-nil}
use Rattle.std.proofs.lemmas.List.Elements.{All-append, All-cons, All-nil}
use Rattle.std.proofs.lemmas.List.Folds.{list_any_at, Any-from_list_any}
use Rattle.std.proofs.lemmas.Slice.Eq.{bytes_eq-Decides}
use Rattle.ring_names.specs.Name.{IsName, is_bad_name_byte, unless_bad}
use Rattle.ring_names.specs.declared.name.NameFault.TheVariants.{Empty, TooLong}
use Rattle.ring_rules.specs.Rows.{AreDifferent}
use Rattle.ring_rules.proofs.events.Names.{same_bytes}
use Rattle.ring_script.specs.declared.fault.Kind.TheVariants.{BadName, NameTaken, TooManyMembers}
use Rattle.ring_script.specs.Line.{is_name, is_among, further_fault, names_fault}

pub equal_bytes : (a b : List ℕ) → a ≡ b → bytes_eq a b ≡ true
equal_bytes a b e = grind (arith, bytes_eq-Decides a b)

-- ---- one name

IsName-by : (bytes : List ℕ) (e t : Bool) (o : Option ℕ) → (length bytes == 0) ≡ e → nat_lt 16 (length bytes) ≡ t → position is_bad_name_byte bytes ≡ o
    → is_ok (cond e (Err Empty) (cond t (Err TooLong) (unless_bad bytes o))) ≡ true → IsName bytes
IsName-by bytes true t o a b c h = cc
IsName-by bytes false true o a b c h = cc
IsName-by bytes false false (Some at) a b c h = cc
IsName-by bytes false false None a b c h = record { some = grind (arith, nat_tests); short = grind (arith, nat_tests); letters = c }

-- what passes is a name
pub IsName-from : (bytes : List ℕ) → is_name bytes ≡ true → IsName bytes
IsName-from bytes h = IsName-by bytes _ _ _ refl refl refl h

-- a name that is among others is one of them
pub among_contains : (names : List (List ℕ)) (name : List ℕ) → is_among names name ≡ true → Contains names name
among_contains names name e =
    let found = Any-from_list_any (λ other. bytes_eq other name) names e in
    let same : found.1 ≡ name = same_bytes found.1 name found.4 in
    (found.0, found.2, subst (λ x. get_or names found.0 x ≡ x) same found.3)

-- ---- a further name

-- what holds of the names of an opening ring, but that there is one
pub record AreNames (names : List (List ℕ)) : Type 0 where
  pub few : length names ≤ 64
  pub different : AreDifferent names
  pub all : All IsName names

pub further_by : (n a f : Bool) → (if not n then Some BadName else (if a then Some NameTaken else (if f then Some TooManyMembers else None))) ≡ None → (n ≡ true) × (a ≡ false) × (f ≡ false)
further_by false a f h = cc
further_by true true f h = cc
further_by true false true h = cc
further_by true false false h = (refl, refl, refl)

different_from : (names : List (List ℕ)) (word : List ℕ) (j : ℕ) → is_among names word ≡ false → j < length names → get_or names j [] ≡ word → ⊥
different_from names word j new l e = both_ways _ new (list_any_at (λ other. bytes_eq other word) names j [] l (equal_bytes (get_or names j []) word e))

-- it is none of them
pub new_name : (names : List (List ℕ)) (word : List ℕ) → is_among names word ≡ false → Contains names word → ⊥
new_name names word new there = both_ways _ new (list_any_at (λ other. bytes_eq other word) names there.0 word there.1 (equal_bytes (get_or names there.0 word) word there.2))

different_push : (names : List (List ℕ)) (word : List ℕ) → AreDifferent names → is_among names word ≡ false → AreDifferent (names ++ word ∷ [])
different_push names word d new j k a b e =
    let all : length (names ++ word ∷ []) ≡ length names + 1 = length_push names word in
    ⊎_elim
    (λ (lj : j < length names). ⊎_elim
    (λ (lk : k < length names). d j k lj lk (sym (get_or_append_left names (word ∷ []) [] j lj) ∙ e ∙ get_or_append_left names (word ∷ []) [] k lk))
    (λ (gk : length names ≤ k). absurd (different_from names word j new lj (sym (get_or_append_left names (word ∷ []) [] j lj) ∙ e ∙ get_or_at names word [] [] k (omega arith))))
    (cases_lt k (length names)))
    (λ (gj : length names ≤ j). ⊎_elim
    (λ (lk : k < length names). absurd (different_from names word k new lk (sym (get_or_append_left names (word ∷ []) [] k lk) ∙ sym e ∙ get_or_at names word [] [] j (omega arith))))
    (λ (gk : length names ≤ k). omega arith)
    (cases_lt k (length names)))
    (cases_lt j (length names))

-- a right further name
pub further_right : (names : List (List ℕ)) (word : List ℕ) → AreNames names → further_fault names word ≡ None → AreNames (names ++ word ∷ [])
further_right names word h e =
    let is = further_by (is_name word) (is_among names word) (nat_le 64 (length names)) e in
    let room : length names < 64 = (let full = is.2 in grind (arith, nat_tests)) in
    record {
      few = omega (arith, length_push names word);
      different = different_push names word h.different is.1;
      all = All-append IsName names (word ∷ []) h.all (All-cons IsName word [] (IsName-from word is.0) (All-nil IsName));
    }

-- none of two is there
pub none_of_both : {X : Type 0} (a b : Option X) → option_or a b ≡ None → (a ≡ None) × (b ≡ None)
none_of_both None b e = (refl, e)
none_of_both (Some x) b e = cc

-- words without a fault as further names
pub names_right : (names words : List (List ℕ)) → AreNames names → names_fault names words ≡ None → AreNames (names ++ words)
names_right names [] h e = subst AreNames (sym (append-nil names)) h
names_right names (word ∷ words) h e =
    let both = none_of_both (further_fault names word) (names_fault (names ++ word ∷ []) words) e in
    subst AreNames (append_assoc names (word ∷ []) words) (names_right (names ++ word ∷ []) words (further_right names word h both.0) both.1)
