-- What the reader gives, said of each part of a text. What it gets keeps to every limit of document 01 and takes the rows that were
-- counted; what it refuses has a number of the table 'given when / place' and the place that the table names. Walk shows it.
use Rattle.std.specs.Prelude.{◌≡◌, Bool, true, false, cond, not, ◌&&◌, ◌||◌, List, [], ◌∷◌, ℕ, suc, ◌+◌, ◌≤◌, ◌<◌, eqb, length}
use Rattle.text_laws.specs.Kinds.{Port, Op}
use Rattle.meaning.specs.Numbers.{capacity_limit, row_limit, word_out_of_place, number_due, number_over_range, one_too_many, too_deep, rows_full, cut_short, no_task_given}
use Rattle.meaning.specs.Text.{Stmt, Body, Cases, Job}
use Rattle.meaning.specs.Layout.{case_count, size_s, size_b, size_c, rows_t}
use Rattle.image_check.specs.Sound.{PortSound}
use Rattle.meaning_laws.specs.Lists.{All}
use Rattle.image_laws.specs.Proper.{ProperOp, ProperS, ProperB, ProperC, Proper}
use Rattle.image_laws.proofs.Rows.{size_t}
use Rattle.text_words.specs.Words.{no_kind, chan_kind, task_kind, send_kind, forward_kind, recv_kind, close_kind, range_kind, repeat_kind, ifok_kind, select_kind, case_kind, stop_kind, end_kind, number_kind, word_at}
use Rattle.text_reader.specs.Reading.{Part}
use Rattle.text_reader.specs.Laws.Parts.{Holds}

-- PARTS THAT WERE READ, in a text with so many channels declared, inside so many blocks, with so many rows needed ahead of them: each
-- is within the limits, and the rows r needed behind it are those and its own.
module _ (channels depth rows : ℕ) where
  pub record StmtRead (x : Stmt) (r : ℕ) : Type 0 where
    pub proper : ProperS channels x depth
    pub sized : r ≡ rows + size_s x
    pub room : r ≤ row_limit

  pub record BodyRead (b : Body) (r : ℕ) : Type 0 where
    pub proper : ProperB channels b depth
    pub sized : r ≡ rows + size_b b
    pub room : r ≤ row_limit

  -- A case, where `left` more may stand; and cases, fewer than `bound`.
  pub record CaseRead (left : ℕ) (k : Op × Body) (r : ℕ) : Type 0 where
    pub some : 1 ≤ left
    pub op : ProperOp channels k.0
    pub proper : ProperB channels k.1 depth
    pub sized : r ≡ rows + 1 + size_b k.1
    pub room : r ≤ row_limit

  pub record CasesRead (bound : ℕ) (cs : Cases) (r : ℕ) : Type 0 where
    pub fewer : case_count cs < bound
    pub proper : ProperC channels cs depth
    pub sized : r ≡ rows + (case_count cs + size_c cs)
    pub room : r ≤ row_limit

-- A task, where `left` more may stand; and tasks, fewer than `bound`. Each takes its stop row besides.
module _ (channels rows : ℕ) where
  pub record TaskRead (left : ℕ) (b : Body) (r : ℕ) : Type 0 where
    pub some : 1 ≤ left
    pub proper : ProperB channels b 0
    pub sized : r ≡ rows + suc (size_b b)
    pub room : r ≤ row_limit

  pub record TasksRead (bound : ℕ) (bs : List Body) (r : ℕ) : Type 0 where
    pub fewer : length bs < bound
    pub proper : All (λ b. ProperB channels b 0) bs
    pub sized : r ≡ rows + size_t bs
    pub room : r ≤ row_limit

-- A capacity and capacities, in the same way. No row is needed ahead of the tasks.
pub record ChanRead (left n r : ℕ) : Type 0 where
  pub some : 1 ≤ left
  pub within : n ≤ capacity_limit
  pub first : r ≡ 0

pub record ChansRead (bound : ℕ) (ns : List ℕ) (r : ℕ) : Type 0 where
  pub fewer : length ns < bound
  pub within : All (λ n. n ≤ capacity_limit) ns
  pub first : r ≡ 0

pub record JobRead (j : Job) (r : ℕ) : Type 0 where
  pub proper : Proper j
  pub rows : r ≡ length (rows_t j.tasks 0)

-- Operands and operations, which take no row of their own.
module _ (rows : ℕ) where
  pub record NumberRead (limit v r : ℕ) : Type 0 where
    pub within : v ≤ limit
    pub same : r ≡ rows

  pub record PortRead (channels : ℕ) (p : Port) (r : ℕ) : Type 0 where
    pub sound : PortSound channels p
    pub same : r ≡ rows

  pub record OpRead (channels : ℕ) (o : Op) (r : ℕ) : Type 0 where
    pub proper : ProperOp channels o
    pub same : r ≡ rows

-- REFUSALS

-- The kinds of words that a refusal's number can name: the table's middle column, as far as the word alone tells.
abbrev pub is_one : ℕ → List ℕ → Bool
is_one k [] = false
is_one k (x ∷ xs) = eqb k x || is_one k xs

abbrev pub names : ℕ → ℕ → Bool
names n k =
    not (eqb k no_kind)
    && cond (eqb n number_due) (not (eqb k number_kind))
    (cond (eqb n number_over_range) (eqb k number_kind)
    (cond (eqb n one_too_many) (is_one k (chan_kind ∷ task_kind ∷ case_kind ∷ []))
    (cond (eqb n too_deep) (is_one k (range_kind ∷ repeat_kind ∷ ifok_kind ∷ select_kind ∷ []))
    (cond (eqb n rows_full) (is_one k (send_kind ∷ forward_kind ∷ recv_kind ∷ close_kind ∷ stop_kind ∷ range_kind ∷ repeat_kind ∷ ifok_kind ∷ select_kind ∷ case_kind ∷ end_kind ∷ [])) true))))

-- Words are read from places of some kind alone: `Edge` tells which, and holds behind each word.
module _ (s : List ℕ) (Edge : ℕ → Type 0) where
  -- The place of a word that the number can name.
  pub record Names (n place : ℕ) : Type 0 where
    pub at : ℕ
    pub edge : Edge at
    pub first : place ≡ (word_at s at).start
    pub named : names n (word_at s at).kind ≡ true

  -- A refusal of a text whose bytes are allowed: at a word, or at the end.
  pub record Refusal (n place : ℕ) : Type 0 where
    pub least : word_out_of_place ≤ n
    pub most : n ≤ no_task_given
    pub word : n ≤ rows_full → Names n place
    pub ended : cut_short ≤ n → place ≡ length s

  -- What a part keeps to: P of what was got and of the rows needed so far, and the table where it is a refusal.
  abbrev pub Kept : {A : Type 0} → (A → ℕ → Type 0) → Part A → Type 0
  Kept P = Holds (λ x at rows. Edge at × P x rows) Refusal

-- Where it does not matter from which places words are read.
abbrev pub Anywhere : ℕ → Type 0
Anywhere at = Unit {0}
