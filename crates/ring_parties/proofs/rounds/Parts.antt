-- What a merge has of one party, and what it does to one link.
use Rattle.std.proofs.Common.{◌≡◌, ◌≢◌, ◌⊎◌, inl, inr, ⊎_elim, ℕ, cond, nat_eq, List, [], ◌∷◌, ◌++◌, map, Option, refl, sym, ap, subst, ◌∙◌}
use Rattle.std.specs.List.{flat_map}
use Rattle.std.proofs.lemmas.Bool.{cases_eq, eq-eqb, ne_eqb}
use Rattle.lamport_merge.specs.Merge.{Entry, Log, own, merged, AreLogs, NeverFall, entries_in}
use Rattle.lamport_merge.proofs.Merging.{own_here, own_past, own_none, own_log, own_other}
use Rattle.ring_parties.specs.Ends.{PacketShown}
use Rattle.ring_parties.specs.RoundActs.{Stamped, acts_at, timed, puts, takes}
use Rattle.ring_parties.specs.Round.{Deed, items_at, grants_at, entries_by}
use Rattle.ring_parties.proofs.rounds.Acts.{Rises, AreStamped, puts-append, takes-append, stamped-append, rises-timed}

-- an entry of a merge, as one of a log
abbrev pub told : Entry Deed → ℕ × Deed
told e = (e.time, e.event)

-- ---- the entries of one party

pub own_is_by : (p : ℕ) (logs : List (Log Deed)) → AreLogs logs → own p (merged logs) ≡ entries_by p logs
own_is_by p [] h = refl
own_is_by p (l ∷ ls) h = by_case (own_is_by p ls h.2) (cases_eq l.party p)
  where
    by_case : own p (merged ls) ≡ entries_by p ls → (l.party ≡ p) ⊎ (l.party ≢ p) → own p (merged (l ∷ ls)) ≡ cond (nat_eq l.party p) l.entries (entries_by p ls)
    by_case later (inl is) =
        subst (λ q. own q (merged (l ∷ ls)) ≡ l.entries) is (own_log l.party 0 l.entries (flat_map entries_in ls) h.0 (own_none l.party ls h.1))
        ∙ sym (ap (λ b. cond b l.entries (entries_by p ls)) (eq-eqb l.party p is))
    by_case later (inr ne) = own_other p l.party l.entries (flat_map entries_in ls) ne ∙ later ∙ sym (ap (λ b. cond b l.entries (entries_by p ls)) (ne_eqb l.party p ne))

-- ---- what all entries give, and those of one party

module _ {Y : Type 0} (g : ℕ × Deed → List Y) where
  no_part : (xs ys : List Y) → xs ++ ys ≡ [] → (xs ≡ []) × (ys ≡ [])
  no_part [] ys e = (refl, e)
  no_part (x ∷ xs) ys e = cc

  -- where the entries of the others give nothing, those of one give all
  pub one_gives : (x : ℕ) (m : List (Entry Deed)) → ((p : ℕ) → p ≢ x → flat_map g (own p m) ≡ []) → flat_map g (map told m) ≡ flat_map g (own x m)
  one_gives x [] h = refl
  one_gives x (e ∷ m) h = by_case (one_gives x m) (cases_eq e.party x)
    where
      here : flat_map g (own e.party (e ∷ m)) ≡ g (told e) ++ flat_map g (own e.party m)
      here = ap (flat_map g) (own_here e.party e m refl)

      by_case : (((p : ℕ) → p ≢ x → flat_map g (own p m) ≡ []) → flat_map g (map told m) ≡ flat_map g (own x m)) → (e.party ≡ x) ⊎ (e.party ≢ x) → flat_map g (map told (e ∷ m)) ≡ flat_map g (own x (e ∷ m))
      by_case later (inl is) =
          ap (λ ys. g (told e) ++ ys) (later (λ p ne. ap (flat_map g) (sym (own_past p e m (λ (k : e.party ≡ p). ne (sym k ∙ is)))) ∙ h p ne))
          ∙ sym (ap (flat_map g) (own_here x e m is))
      by_case later (inr ne) =
          let parts = no_part (g (told e)) (flat_map g (own e.party m)) (sym here ∙ h e.party ne) in
          ap (λ ys. ys ++ flat_map g (map told m)) parts.0
          ∙ later (λ p other. ⊎_elim
          (λ (is : p ≡ e.party). ap (λ q. flat_map g (own q m)) is ∙ parts.1)
          (λ (no : p ≢ e.party). ap (flat_map g) (sym (own_past p e m (λ (k : e.party ≡ p). no (sym k)))) ∙ h p other)
          (cases_eq p e.party))
          ∙ sym (ap (flat_map g) (own_past x e m ne))

-- of each entry this holds
abbrev pub Each : (ℕ × Deed → Type 0) → List (ℕ × Deed) → Type 0
Each P [] = Unit {0}
Each P (e ∷ es) = P e × Each P es

-- where it holds of those of each party it holds of all
pub all_each : (P : ℕ × Deed → Type 0) (m : List (Entry Deed)) → ((p : ℕ) → Each P (own p m)) → Each P (map told m)
all_each P [] h = tt
all_each P (e ∷ m) h =
    let mine : P (told e) × Each P (own e.party m) = subst (Each P) (own_here e.party e m refl) (h e.party) in (
      mine.0,
      all_each P m (λ p. ⊎_elim
          (λ (is : e.party ≡ p). subst (λ q. Each P (own q m)) is mine.1)
          (λ (ne : e.party ≢ p). subst (Each P) (own_past p e m ne) (h p))
          (cases_eq e.party p)),
    )

-- ---- one link

module _ (s : ℕ) where
  -- what an entry puts there, and takes
  abbrev pub item_puts : ℕ × Deed → List (Stamped (Option PacketShown))
  item_puts e = puts (timed e.0 (acts_at s e.1.there))

  abbrev pub item_takes : ℕ × Deed → List (Stamped (Option PacketShown))
  item_takes e = takes (timed e.0 (acts_at s e.1.there))

  abbrev pub grant_puts : ℕ × Deed → List (Stamped ℕ)
  grant_puts e = puts (timed e.0 (acts_at s e.1.back))

  abbrev pub grant_takes : ℕ × Deed → List (Stamped ℕ)
  grant_takes e = takes (timed e.0 (acts_at s e.1.back))

  pub items_put : (es : List (ℕ × Deed)) → puts (items_at s es) ≡ flat_map item_puts es
  items_put [] = refl
  items_put (e ∷ es) = puts-append (timed e.0 (acts_at s e.1.there)) (items_at s es) ∙ ap (λ ys. item_puts e ++ ys) (items_put es)

  pub items_taken : (es : List (ℕ × Deed)) → takes (items_at s es) ≡ flat_map item_takes es
  items_taken [] = refl
  items_taken (e ∷ es) = takes-append (timed e.0 (acts_at s e.1.there)) (items_at s es) ∙ ap (λ ys. item_takes e ++ ys) (items_taken es)

  pub grants_put : (es : List (ℕ × Deed)) → puts (grants_at s es) ≡ flat_map grant_puts es
  grants_put [] = refl
  grants_put (e ∷ es) = puts-append (timed e.0 (acts_at s e.1.back)) (grants_at s es) ∙ ap (λ ys. grant_puts e ++ ys) (grants_put es)

  pub grants_taken : (es : List (ℕ × Deed)) → takes (grants_at s es) ≡ flat_map grant_takes es
  grants_taken [] = refl
  grants_taken (e ∷ es) = takes-append (timed e.0 (acts_at s e.1.back)) (grants_at s es) ∙ ap (λ ys. grant_takes e ++ ys) (grants_taken es)

  -- an entry's stamps are right there, and on the way back
  abbrev pub IsStamped : ℕ × Deed → Type 0
  IsStamped e = AreStamped (timed e.0 (acts_at s e.1.there)) × AreStamped (timed e.0 (acts_at s e.1.back))

  pub items_stamped : (es : List (ℕ × Deed)) → Each IsStamped es → AreStamped (items_at s es)
  items_stamped [] h = tt
  items_stamped (e ∷ es) h = stamped-append (timed e.0 (acts_at s e.1.there)) (items_at s es) h.0.0 (items_stamped es h.1)

  pub grants_stamped : (es : List (ℕ × Deed)) → Each IsStamped es → AreStamped (grants_at s es)
  grants_stamped [] h = tt
  grants_stamped (e ∷ es) h = stamped-append (timed e.0 (acts_at s e.1.back)) (grants_at s es) h.0.1 (grants_stamped es h.1)

  pub items_rise : (low : ℕ) (m : List (Entry Deed)) → NeverFall low m → Rises low (items_at s (map told m))
  items_rise low [] h = tt
  items_rise low (e ∷ m) h = rises-timed low e.time (acts_at s e.event.there) (items_at s (map told m)) h.0 (items_rise e.time m h.1)

  pub grants_rise : (low : ℕ) (m : List (Entry Deed)) → NeverFall low m → Rises low (grants_at s (map told m))
  grants_rise low [] h = tt
  grants_rise low (e ∷ m) h = rises-timed low e.time (acts_at s e.event.back) (grants_at s (map told m)) h.0 (grants_rise e.time m h.1)
