-- The cases that are counted are a select's own: their number, and the default behind them. Assumes nothing.
use Rattle.std.specs.Prelude.{◌≡◌, refl, List, ℕ, suc, eqb}
use Rattle.std.proofs.Common.{◌∙◌}
use Rattle.text_reader.specs.Kinds.{Op, Word}
use Rattle.meaning.specs.Text.{Body, Cases, nomore, default, case}
use Rattle.meaning.specs.Layout.{case_count}
use Rattle.text_words.specs.Words.{default_kind, word_at}
use Rattle.text_reader.specs.Reading.{Part, got, none, bad, bind, ahead, case_by, last_by, cases_from}
use Rattle.text_reader.specs.Answers.{count_from}
use Rattle.text_reader.specs.Laws.Parts.{bad_got, same_got, bind_got, All, bind_all, ways_all}
use Rattle.text_reader.specs.Laws.Sizes.{SizedB}
use Rattle.text_reader.specs.Laws.Many.{many_by}

-- What stands behind the last case: a default, or nothing more.
unfoldable pub behind_cases : Cases → Cases
behind_cases nomore = nomore
behind_cases (default b) = default b
behind_cases (case o b cs) = behind_cases cs

abbrev Alone : Cases → ℕ → Type 0
Alone cs r = (case_count cs ≡ 0) × (behind_cases cs ≡ cs)

module _ (s : List ℕ) (channels : ℕ) (sub : ℕ → ℕ → Part Body) (counts : (at rows : ℕ) → All (SizedB rows) (sub at rows)) where
  -- The cases end at place b with m rows; the default is read from there.
  abbrev pub Split : Part ℕ → Cases → ℕ → ℕ → Type 0
  Split p cs a r = (b : ℕ) × (m : ℕ) × (p ≡ got (case_count cs) b m) × (last_by s channels sub b (word_at s b) m ≡ got (behind_cases cs) a r)

  last_alone : (at : ℕ) (w : Word) (rows : ℕ) → All Alone (last_by s channels sub at w rows)
  unfolding last_by case_count behind_cases
  last_alone at w rows =
      ways_all Alone (eqb w.kind default_kind) _ _ rows
      (λ _. bind_all (SizedB rows) Alone (sub w.next rows) _ (counts w.next rows) (λ b a r e. (refl, refl)))
      (λ _. (refl, refl))

  split_more : (k : Op × Body) (p : Part ℕ) (x cs : Cases) {a r a' r' : ℕ} → got (case k.0 k.1 x) a r ≡ got cs a' r' → Split p x a r → Split (bind p (λ n a r. got (suc n) a r)) cs a' r'
  unfolding bind case_count behind_cases
  split_more k p x cs e (b, m, q, l) = let i = same_got e in (b, m, rw (q, ← i.0), rw (← i.0, ← i.1, ← i.2) l)

  split_none : (at rows : ℕ) (cs : Cases) (a r : ℕ) → last_by s channels sub at (word_at s at) rows ≡ got cs a r → Split (got 0 at rows) cs a r
  split_none at rows cs a r e = let z : All Alone (got cs a r) = rw e at (last_alone at (word_at s at) rows) in (at, rows, rw z.0, e ∙ rw z.1)

  split_by : (rest : ℕ → ℕ → Part Cases) (restc : ℕ → ℕ → Part ℕ) (at rows : ℕ) (p : Part (Op × Body))
      → ((a r : ℕ) (cs : Cases) (a' r' : ℕ) → rest a r ≡ got cs a' r' → Split (restc a r) cs a' r')
      → (cs : Cases) (a r : ℕ) → ahead (λ k cs. case k.0 k.1 cs) rest (last_by s channels sub at (word_at s at) rows) p ≡ got cs a r
      → Split (ahead (λ k n. suc n) restc (got 0 at rows) p) cs a r
  split_by rest restc at rows (got k a0 r0) h cs a r e =
      let g = bind_got (rest a0 r0) (λ cs a r. got (case k.0 k.1 cs) a r) e in
      split_more k (restc a0 r0) g.0 cs g.4 (h a0 r0 g.0 g.1 g.2 g.3)
  split_by rest restc at rows none h cs a r e = split_none at rows cs a r e
  split_by rest restc at rows (bad n place) h cs a r e = absurd (bad_got e)

  pub cases_split : (left at rows : ℕ) (cs : Cases) (a r : ℕ) → cases_from s channels sub left at rows ≡ got cs a r → Split (count_from s channels sub left at rows) cs a r
  unfolding cases_from count_from
  cases_split =
      many_by _ _ _ _ _ _ (λ left at rows p q. (cs : Cases) (a r : ℕ) → p ≡ got cs a r → Split q cs a r) split_none
      (λ rest restc left at rows h. split_by rest restc at rows (case_by s channels sub left (word_at s at) rows) h)
