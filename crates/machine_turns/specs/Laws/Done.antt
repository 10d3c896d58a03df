-- What an answer that is no refusal says of the call.
use Rattle.std.specs.Prelude.{◌≡◌, Bool, true, false, cond, List, ℕ, ◌*◌, ◌%◌, ◌≤◌, ◌<◌, eqb, leb, Result, Ok, Err, ⊤}
use Rattle.std.proofs.Math.Path.{refl}
use Rattle.std.proofs.Common.{sym, ap, ap₂, subst, ◌∙◌, arith, leb-true, le-leb}
use Rattle.std.proofs.Math.Decide.{dec_le}
use Rattle.std.proofs.lemmas.Bool.{lt-leb}
use Rattle.std.proofs.lemmas.List.Edits.{sets}
use Rattle.machine_turns.specs.Kinds.{ImageFault, State, Unmade}
use Rattle.meaning.specs.Bytes.{body_of}
use Rattle.image_rows.specs.Rows.{counts_of}
use Rattle.image_check.specs.Check.{checked}
use Rattle.machine_records.specs.Values.{Values}
use Rattle.machine_fit.specs.Fitted.{fitting_in}
use Rattle.machine_turns.specs.Schedule.{pairs_of, state_behind, values_behind, event_records, longest, needed, outcome_of, outcome_after, outcome, if_done, decided, scheduled, values_after, records_after}
use Rattle.machine_turns.specs.Loop.{Ran}

-- Refusals and their opposite are told apart.
abbrev IsDone : Result ℕ Unmade → Type 0
IsDone (Ok n) = Unit {0}
IsDone (Err why) = ⊥

-- A choice whose second way refuses took the first.
taken : (p : Bool) (o : Result ℕ Unmade) (why : Unmade) → IsDone (cond p o (Err why)) → (p ≡ true) × IsDone o
taken true o why d = (refl, d)
taken false o why d = absurd d

pub record Begun (bs : List ℕ) (s : State) (pairs room : ℕ) : Type 0 where
  pub good : checked bs ≡ Ok tt
  pub fit : fitting_in (body_of bs) (counts_of bs) s.words s.cells ≡ true
  pub even : eqb (pairs % 2) 0 ≡ true
  pub enough : leb (needed pairs) room ≡ true

module _ (bs : List ℕ) (s : State) (pairs room : ℕ) where
  after : (a : Result ⊤ ImageFault) → checked bs ≡ a → IsDone (outcome_after (body_of bs) (counts_of bs) s pairs room a) → Begun bs s pairs room
  after (Ok done) e d =
      let fit = taken _ (outcome_of pairs room) _ d in
      let even = taken (eqb (pairs % 2) 0) _ _ fit.1 in
      let enough = taken (leb (needed pairs) room) _ _ even.1 in
      record { good = e; fit = fit.0; even = even.0; enough = enough.0 }
  after (Err fault) e d = absurd d

  pub done_begun : (o : Result ℕ Unmade) → o ≡ outcome bs s pairs room → (n : ℕ) → o ≡ Ok n → Begun bs s pairs room
  unfolding outcome
  done_begun o e n d = after (checked bs) refl (subst IsDone (sym d ∙ e) tt)

-- Room for what a number of 64 bits can say is room for the records: no slice is as long as the largest such number.
pub room_for : (n room : ℕ) → leb (needed n) room ≡ true → room < 9223372036854775808 → 3 * n ≤ room
room_for n room e h =
    elim (dec_le n longest) [
      | yes k ↦ leb-true (3 * n) room (sym (ap (λ p. leb (cond p (3 * n) 18446744073709551615) room) (le-leb n longest k)) ∙ e)
      | no k ↦
          let over = leb-true 18446744073709551615 room (sym (ap (λ p. leb (cond p (3 * n) 18446744073709551615) room) (lt-leb n longest (omega arith))) ∙ e) in
          absurd (omega (arith, over, h))
    ]

-- What is answered and left, of a call that is refused and of one that has made its turns.
module _ (bs : List ℕ) (s : State) (b : Values) (pairs records : List ℕ) (o : Result ℕ Unmade) (e : o ≡ decided bs s pairs records) where
  abbrev Left : State → Values → List ℕ → Type 0
  Left s' b' records' =
      (record { outcome = o; state = s' } ≡ scheduled bs s b pairs records)
      × (b' ≡ values_after bs s b pairs records)
      × (records' ≡ records_after bs s b pairs records)

  pub left_as_it_was : (why : Unmade) → o ≡ Err why → Left s b records
  left_as_it_was why d =
      let r : decided bs s pairs records ≡ Err why = sym e ∙ d in (
        ap₂ (λ o s. record { outcome = o; state = s }) e (sym (ap (λ o. if_done o (state_behind bs (pairs_of pairs) s b) s) r)),
        sym (ap (λ o. if_done o (values_behind bs (pairs_of pairs) s b) b) r),
        sym (ap (λ o. if_done o (sets records 0 (event_records bs (pairs_of pairs) s b)) records) r),
      )

  pub left_turned : (n : ℕ) → o ≡ Ok n → (s' : State) (b' : Values) (records' : List ℕ) → Ran bs s b pairs records s' b' records' → Left s' b' records'
  left_turned n d s' b' records' ran =
      let r : decided bs s pairs records ≡ Ok n = sym e ∙ d in (
        ap₂ (λ o s. record { outcome = o; state = s }) e (ran.state ∙ sym (ap (λ o. if_done o (state_behind bs (pairs_of pairs) s b) s) r)),
        ran.values ∙ sym (ap (λ o. if_done o (values_behind bs (pairs_of pairs) s b) b) r),
        ran.records ∙ sym (ap (λ o. if_done o (sets records 0 (event_records bs (pairs_of pairs) s b)) records) r),
      )
