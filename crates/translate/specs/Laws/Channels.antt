-- One lap over channels that the definitions read. Assumes nothing.
use Rattle.std.specs.Prelude.{◌≡◌, refl, List, [], ◌∷◌, eqb, set, Result, Ok, Err}
use Rattle.std.proofs.Math.Path.{sym, ap}
use Rattle.std.proofs.Common.{subst, ◌∙◌, arith}
use Prim.Native.Nat.{ℕ, suc, ◌+◌, ◌-◌, ◌≤◌}
use Rattle.std.proofs.Math.ListN.{length}
use Rattle.std.proofs.lemmas.List.Edits.{sets}
use Rattle.meaning.specs.Numbers.{capacity_limit}
use Rattle.translate.specs.Kinds.{Word, Refused, Got}
use Rattle.text_words.specs.Words.{chan_kind, word_at}
use Rattle.text_reader.specs.Reading.{got, number, chan_by, chans_from}
use Rattle.text_reader.specs.Answers.{due_part, NumberTold}
use Rattle.text_reader.specs.Laws.Answered.{due_got}
use Rattle.text_reader.specs.Laws.Parts.{none_got, bad_got, same_got}
use Rattle.text_reader.specs.Laws.Many.{many_ways, many_got}
use Rattle.text_laws.specs.Laws.Kept as kept
use Rattle.text_laws.specs.Laws.Walk as walk
use Rattle.translate_rows.specs.Laws.Laps.{way_first, way_second}

-- The first of several channels, whose first word is w, and the rest.
pub record ChanLap (s : List ℕ) (left : ℕ) (w : Word) (ns : List ℕ) (a r : ℕ) : Type 0 where
  pub one : ℕ
  pub rest : List ℕ
  pub end : ℕ
  pub fewer : ℕ
  pub left_is : left ≡ suc fewer
  pub is : number s capacity_limit w.next 0 ≡ got one end 0
  pub rest_is : chans_from s fewer end 0 ≡ got rest a r
  pub whole : ns ≡ one ∷ rest

module _ (s : List ℕ) where
  chan_number : (left : ℕ) (w : Word) {x a r : ℕ} → chan_by s left w 0 ≡ got x a r → number s capacity_limit w.next 0 ≡ got x a r
  unfolding chan_by
  chan_number left w e = way_second (eqb left 0) _ _ 0 (way_first (eqb w.kind chan_kind) _ _ 0 e none_got) bad_got

  pub chan_lap : (left at : ℕ) (ns : List ℕ) {w : Word} {a r : ℕ} → 1 ≤ length ns → w ≡ word_at s at → chans_from s left at 0 ≡ got ns a r → ChanLap s left w ns a r
  unfolding chans_from
  chan_lap left at ns l q e =
      many_ways _ _ _ left at 0 e
      (λ x end n f.
      let k = (subst (kept.Kept s kept.Anywhere (kept.ChanRead left)) f (walk.chan_kept s kept.Anywhere (λ _. tt) left at 0 tt refl)).1 in
      let g = f ∙ ap (got x end) k.first in
      let z : suc (left - 1) ≡ left = omega (arith, k.some) in
      let y = many_got _ _ _ left at 0 e g (left - 1) z in
      let c = chan_number left (word_at s at) g in
      record { one = x; rest = y.0; end = end; fewer = left - 1; left_is = sym z; is = rw (← q) at c; rest_is = y.1; whole = y.2 })
      (λ _ f. let z = ap length (same_got f).0 in absurd (omega arith))

-- A channel's capacity is stored: what is left is those of the other channels.
pub lap_capacities : {s : List ℕ} {left : ℕ} {w : Word} {ns : List ℕ} {a r : ℕ} (t : ChanLap s left w ns a r) (out : List ℕ) (base n : ℕ) {v : ℕ} {new : List ℕ}
    → v ≡ t.one → new ≡ set out (base + n) v → sets new (base + (n + 1)) t.rest ≡ sets out (base + n) ns
lap_capacities t out base n q e =
    let p : base + (n + 1) ≡ suc (base + n) = omega arith in
    rw (e, q, p, t.whole)

pub nothing_left : (ns out : List ℕ) (i : ℕ) → length ns ≡ 0 → out ≡ sets out i ns
nothing_left [] out i e = refl
nothing_left (n ∷ ns) out i e = absurd (omega arith)

-- A number that was found is within its limit.
pub number_within : (s : List ℕ) (limit at : ℕ) {v : Result (Got ℕ) Refused} {g : Got ℕ} → v ≡ Ok g → NumberTold s limit at v → g.value ≤ limit
number_within s limit at q h =
    (subst (kept.Kept s kept.Anywhere (kept.NumberRead 0 limit)) (h 0 ∙ due_got 0 q) (walk.number_kept s kept.Anywhere (λ _. tt) limit at 0 tt)).1.within

-- What the code finds is the first channel's capacity.
pub same_number : (s : List ℕ) (limit at : ℕ) {v : Result (Got ℕ) Refused} {g : Got ℕ} {x a : ℕ} → v ≡ Ok g → NumberTold s limit at v → number s limit at 0 ≡ got x a 0 → (g.value ≡ x) × (g.next ≡ a)
same_number s limit at q h e =
    let f = same_got (sym (h 0 ∙ due_got 0 q) ∙ e) in
    (f.0, f.1)

-- So a number that is not there can't be.
pub no_number : (s : List ℕ) (limit at : ℕ) (v : Result (Got ℕ) Refused) {x a : ℕ} → ((g : Got ℕ) → v ≡ Ok g → ⊥) → NumberTold s limit at v → number s limit at 0 ≡ got x a 0 → ⊥
unfolding due_part
no_number s limit at (Ok g) t h e = t g refl
no_number s limit at (Err m) t h e = bad_got (sym (h 0) ∙ e)
