-- What the lemmas on single events of a cluster share.
use Rattle.std.proofs.Common.{◌≡◌, ℕ, ◌+◌, ◌-◌, ◌<◌, Bool, true, false, Option, Some, None, inl, refl, sym, ap, subst, ◌∙◌, arith}
use Rattle.std.specs.Prelude.{option_map, ◌++◌}
use Rattle.std.proofs.lemmas.List.{append_cancel_left}
use Rattle.ring_names.specs.declared.reason.Reason.{Reason}
use Rattle.ring_rules.specs.Machine.{World, link_at}
use Rattle.ring_rules.specs.Step.{size}
use Rattle.ring_rules.specs.Event.{of_member, at_found, on_link}
use Rattle.gm_member.specs.Held.{Held}
use Rattle.gm_member.specs.Stands.{held_in}
use Rattle.ring_parties.specs.Ends.{OutSeen, InSeen, items_in, Carries, HaveMet, HasRested}
use Rattle.ring_parties.specs.Parties.{Shown, Parties, node_at}
use Rattle.ring_parties.specs.Standing.{Places, MemberStands, StandIn, Stand, HaveDone, has_out}
use Rattle.ring_parties.proofs.standing.Frames.{StandMoved}

-- ---- the member that is found

pub found_later : (o : Option ℕ) (x : ℕ) (later : ℕ → Option Reason) → o ≡ Some x → of_member o later ≡ None → later x ≡ None
found_later o x later e r = subst (λ k. of_member k later ≡ None) e r

pub found_does : (o : Option ℕ) (x : ℕ) (w : World) (f : ℕ → World) → o ≡ Some x → at_found o w f ≡ f x
found_does o x w f e = ap (λ k. at_found k w f) e

-- a link that is asked for is there
pub link_there : (o : Option ℕ) (missing : Reason) (later : ℕ → Option Reason) → on_link o missing later ≡ None → (s : ℕ) × (o ≡ Some s) × (later s ≡ None)
link_there None missing later e = cc
link_there (Some s) missing later e = (s, refl, e)

-- what is made of something that is there
pub made_of : {A : Type 0} (f : ℕ → A) (o : Option ℕ) (s : ℕ) (a : A) → o ≡ Some s → option_map f o ≡ Some a → f s ≡ a
made_of f o s a e h = let both : Some (f s) ≡ Some a = sym (ap (option_map f) e) ∙ h in cc

-- ---- the member at a place

pub stands_at : (initial : ℕ) (w : World) (q : Parties) (p : Places) (i : ℕ) → StandIn initial w q p → i + 1 < size w → MemberStands w p (i + 1) (node_at q i)
stands_at initial w q p i st lt =
    let back : i + 1 - 1 ≡ i = omega arith in
    subst (λ k. MemberStands w p (i + 1) (node_at q k)) back (st.each (i + 1) (omega arith) lt)

-- it holds what the state has for it, but for its door
pub held_but_door : (w : World) (p : Places) (y : ℕ) (m : Shown) → MemberStands w p y m → m.held ≡ record (held_in w y) { door = m.held.door }
held_but_door w p y m h = h.held ∙ ap (λ d. record (held_in w y) { door = d }) (sym (ap (λ (a : Held). a.door) h.held))

-- ---- ends that have met

pub met_rested : (b : Bool) (o : OutSeen) (n : InSeen) → b ≡ false → HaveDone b o n → HasRested o n
met_rested b o n e h = subst (λ c. HaveDone c o n) e h

pub met_both : (b : Bool) (o : OutSeen) (n : InSeen) → b ≡ true → HaveDone b o n → HaveMet o n
met_both b o n e h = subst (λ c. HaveDone c o n) e h

-- then the in end knows what was put, and so what stands on the link
pub done_items : (b : Bool) (o : OutSeen) (n : InSeen) → HaveDone b o n → n.taken ++ n.items ≡ o.put
done_items true o n h = h.items
done_items false o n h = h.items

pub done_known : (b : Bool) (initial : ℕ) (w : World) (s : ℕ) (o : OutSeen) (n : InSeen) → HaveDone b o n → Carries w initial (link_at w s) o n → n.items ≡ items_in w (link_at w s)
done_known b initial w s o n h c = append_cancel_left n.taken n.items (items_in w (link_at w s)) (done_items b o n h ∙ sym c.items)

-- ---- where nothing happens

-- parties that stand do so where an end might have moved
pub nothing_moved : (initial : ℕ) (w : World) (x : ℕ) (q : Parties) → Stand initial w q → StandMoved initial x w q None
nothing_moved initial w x q st = record {
  places = st.places;
  stand = st.stand;
  dropped = λ s l has lost. inl (met_rested (has_out w s) (st.places.outs s) (st.places.ins s) lost (st.met s l has));
  fits = λ s o l has e. cc;
  met = λ s l has o _. met_both (has_out w s) (st.places.outs s) (st.places.ins s) o (st.met s l has);
  known = st.known;
}
