-- The reader computes. Texts, each with the job that it reads as or the number and place of its refusal: one table, one claim. What is
-- due is document 01's ('Job text' and the table 'given when / place'), the places counted in the text.
use Rattle.std.specs.Prelude.{◌≡◌, refl, List, [], ◌∷◌, map, ℕ, replicate}
use Rattle.text_reader.specs.Kinds.{Port, Nil, On, Send, Forward, Recv}
use Rattle.meaning.specs.Text.{operate, close, stop, range, repeat, ifok, select, Body, empty, ◌▸◌, nomore, default, case, Job}
use Rattle.text_words.specs.Words.{word_at, first_not_allowed, kind_of, value_of, start_at, next_at, bytes_at, numeral, decimal, is_number, only_digits, leading_zero, place_of, differs, same_word, reserved, run, in_word, is_allowed, is_letter, is_digit, is_blank}
use Rattle.text_reader.specs.Reading.{Part, got, none, bad, bind, many, number_by, closed_by, port_by, op_by, second_by, case_op, case_by, last_by, cases_from, stmt_by, body_from, chan_by, chans_from, task_end, task_by, tasks_from, job, reading}

-- The capacities and tasks of a job, or a refusal's number and place.
data Answer : Type 0 where
  yes : List ℕ → List Body → Answer
  no : ℕ → ℕ → Answer
  nothing : Answer

answer_of : Part Job → Answer
answer_of (got j at rows) = yes j.capacities j.tasks
answer_of none = nothing
answer_of (bad n place) = no n place

abbrev on : ℕ → Port
on c = On (record { 0 = c })

record Example : Type 0 where
  text : List ℕ
  answer : Answer

abbrev example : List ℕ → Answer → Example
example text answer = record { text = text; answer = answer }

abbrev examples : List Example
examples =
    -- words parted by blanks and newlines, which may lead and end the text
    -- ` \n task\n\nend `
    example (32 ∷ 10 ∷ 32 ∷ 116 ∷ 97 ∷ 115 ∷ 107 ∷ 10 ∷ 10 ∷ 101 ∷ 110 ∷ 100 ∷ 32 ∷ []) (yes [] (empty ∷ []))
    -- the plain statements
    -- `chan 16 chan 0 task send 0 65535 forward 1 recv nil close nil stop close 0 end`
    ∷ example (99 ∷ 104 ∷ 97 ∷ 110 ∷ 32 ∷ 49 ∷ 54 ∷ 32 ∷ 99 ∷ 104 ∷ 97 ∷ 110 ∷ 32 ∷ 48 ∷ 32 ∷ 116 ∷ 97 ∷ 115 ∷ 107 ∷ 32 ∷ 115 ∷ 101 ∷ 110 ∷ 100 ∷ 32 ∷ 48 ∷ 32 ∷ 54 ∷ 53 ∷ 53 ∷ 51 ∷ 53 ∷ 32 ∷ 102 ∷ 111 ∷ 114 ∷ 119 ∷ 97 ∷ 114 ∷ 100 ∷ 32 ∷ 49 ∷ 32 ∷ 114 ∷ 101 ∷ 99 ∷ 118 ∷ 32 ∷ 110 ∷ 105 ∷ 108 ∷ 32 ∷ 99 ∷ 108 ∷ 111 ∷ 115 ∷ 101 ∷ 32 ∷ 110 ∷ 105 ∷ 108 ∷ 32 ∷ 115 ∷ 116 ∷ 111 ∷ 112 ∷ 32 ∷ 99 ∷ 108 ∷ 111 ∷ 115 ∷ 101 ∷ 32 ∷ 48 ∷ 32 ∷ 101 ∷ 110 ∷ 100 ∷ []) (yes (16 ∷ 0 ∷ []) ((operate (Send (on 0) 65535) ▸ operate (Forward (on 1)) ▸ operate (Recv Nil) ▸ close Nil ▸ stop ▸ close (on 0) ▸ empty) ∷ []))
    -- the blocks; a range on nil
    -- `chan 0 task range 0 recv 0 end repeat 255 stop end ifok stop else recv 0 end ifok stop end end`
    ∷ example (99 ∷ 104 ∷ 97 ∷ 110 ∷ 32 ∷ 48 ∷ 32 ∷ 116 ∷ 97 ∷ 115 ∷ 107 ∷ 32 ∷ 114 ∷ 97 ∷ 110 ∷ 103 ∷ 101 ∷ 32 ∷ 48 ∷ 32 ∷ 114 ∷ 101 ∷ 99 ∷ 118 ∷ 32 ∷ 48 ∷ 32 ∷ 101 ∷ 110 ∷ 100 ∷ 32 ∷ 114 ∷ 101 ∷ 112 ∷ 101 ∷ 97 ∷ 116 ∷ 32 ∷ 50 ∷ 53 ∷ 53 ∷ 32 ∷ 115 ∷ 116 ∷ 111 ∷ 112 ∷ 32 ∷ 101 ∷ 110 ∷ 100 ∷ 32 ∷ 105 ∷ 102 ∷ 111 ∷ 107 ∷ 32 ∷ 115 ∷ 116 ∷ 111 ∷ 112 ∷ 32 ∷ 101 ∷ 108 ∷ 115 ∷ 101 ∷ 32 ∷ 114 ∷ 101 ∷ 99 ∷ 118 ∷ 32 ∷ 48 ∷ 32 ∷ 101 ∷ 110 ∷ 100 ∷ 32 ∷ 105 ∷ 102 ∷ 111 ∷ 107 ∷ 32 ∷ 115 ∷ 116 ∷ 111 ∷ 112 ∷ 32 ∷ 101 ∷ 110 ∷ 100 ∷ 32 ∷ 101 ∷ 110 ∷ 100 ∷ []) (yes (0 ∷ []) ((range (on 0) (operate (Recv (on 0)) ▸ empty) ▸ repeat 255 (stop ▸ empty) ▸ ifok (stop ▸ empty) (operate (Recv (on 0)) ▸ empty) ▸ ifok (stop ▸ empty) empty ▸ empty) ∷ []))
    -- `task range nil end end`
    ∷ example (116 ∷ 97 ∷ 115 ∷ 107 ∷ 32 ∷ 114 ∷ 97 ∷ 110 ∷ 103 ∷ 101 ∷ 32 ∷ 110 ∷ 105 ∷ 108 ∷ 32 ∷ 101 ∷ 110 ∷ 100 ∷ 32 ∷ 101 ∷ 110 ∷ 100 ∷ []) (yes [] ((range Nil empty ▸ empty) ∷ []))
    -- select: cases, default, neither
    -- `chan 0 task select case send 0 1 stop case forward 0 case recv nil default stop stop end select default end select end end`
    ∷ example (99 ∷ 104 ∷ 97 ∷ 110 ∷ 32 ∷ 48 ∷ 32 ∷ 116 ∷ 97 ∷ 115 ∷ 107 ∷ 32 ∷ 115 ∷ 101 ∷ 108 ∷ 101 ∷ 99 ∷ 116 ∷ 32 ∷ 99 ∷ 97 ∷ 115 ∷ 101 ∷ 32 ∷ 115 ∷ 101 ∷ 110 ∷ 100 ∷ 32 ∷ 48 ∷ 32 ∷ 49 ∷ 32 ∷ 115 ∷ 116 ∷ 111 ∷ 112 ∷ 32 ∷ 99 ∷ 97 ∷ 115 ∷ 101 ∷ 32 ∷ 102 ∷ 111 ∷ 114 ∷ 119 ∷ 97 ∷ 114 ∷ 100 ∷ 32 ∷ 48 ∷ 32 ∷ 99 ∷ 97 ∷ 115 ∷ 101 ∷ 32 ∷ 114 ∷ 101 ∷ 99 ∷ 118 ∷ 32 ∷ 110 ∷ 105 ∷ 108 ∷ 32 ∷ 100 ∷ 101 ∷ 102 ∷ 97 ∷ 117 ∷ 108 ∷ 116 ∷ 32 ∷ 115 ∷ 116 ∷ 111 ∷ 112 ∷ 32 ∷ 115 ∷ 116 ∷ 111 ∷ 112 ∷ 32 ∷ 101 ∷ 110 ∷ 100 ∷ 32 ∷ 115 ∷ 101 ∷ 108 ∷ 101 ∷ 99 ∷ 116 ∷ 32 ∷ 100 ∷ 101 ∷ 102 ∷ 97 ∷ 117 ∷ 108 ∷ 116 ∷ 32 ∷ 101 ∷ 110 ∷ 100 ∷ 32 ∷ 115 ∷ 101 ∷ 108 ∷ 101 ∷ 99 ∷ 116 ∷ 32 ∷ 101 ∷ 110 ∷ 100 ∷ 32 ∷ 101 ∷ 110 ∷ 100 ∷ []) (yes (0 ∷ []) ((select (case (Send (on 0) 1) (stop ▸ empty) (case (Forward (on 0)) empty (case (Recv Nil) empty (default (stop ▸ stop ▸ empty))))) ▸ select (default empty) ▸ select nomore ▸ empty) ∷ []))
    -- tasks
    -- `task end task stop end`
    ∷ example (116 ∷ 97 ∷ 115 ∷ 107 ∷ 32 ∷ 101 ∷ 110 ∷ 100 ∷ 32 ∷ 116 ∷ 97 ∷ 115 ∷ 107 ∷ 32 ∷ 115 ∷ 116 ∷ 111 ∷ 112 ∷ 32 ∷ 101 ∷ 110 ∷ 100 ∷ []) (yes [] (empty ∷ (stop ▸ empty) ∷ []))
    -- six blocks deep; a case adds no depth
    -- `task ifok ifok ifok ifok ifok ifok end end end end end end end`
    ∷ example (116 ∷ 97 ∷ 115 ∷ 107 ∷ 32 ∷ 105 ∷ 102 ∷ 111 ∷ 107 ∷ 32 ∷ 105 ∷ 102 ∷ 111 ∷ 107 ∷ 32 ∷ 105 ∷ 102 ∷ 111 ∷ 107 ∷ 32 ∷ 105 ∷ 102 ∷ 111 ∷ 107 ∷ 32 ∷ 105 ∷ 102 ∷ 111 ∷ 107 ∷ 32 ∷ 105 ∷ 102 ∷ 111 ∷ 107 ∷ 32 ∷ 101 ∷ 110 ∷ 100 ∷ 32 ∷ 101 ∷ 110 ∷ 100 ∷ 32 ∷ 101 ∷ 110 ∷ 100 ∷ 32 ∷ 101 ∷ 110 ∷ 100 ∷ 32 ∷ 101 ∷ 110 ∷ 100 ∷ 32 ∷ 101 ∷ 110 ∷ 100 ∷ 32 ∷ 101 ∷ 110 ∷ 100 ∷ []) (yes [] ((ifok (ifok (ifok (ifok (ifok (ifok empty empty ▸ empty) empty ▸ empty) empty ▸ empty) empty ▸ empty) empty ▸ empty) empty ▸ empty) ∷ []))
    -- `task select case recv nil select case recv nil select case recv nil select case recv nil select case recv nil select case recv nil end end end end end end end`
    ∷ example (116 ∷ 97 ∷ 115 ∷ 107 ∷ 32 ∷ 115 ∷ 101 ∷ 108 ∷ 101 ∷ 99 ∷ 116 ∷ 32 ∷ 99 ∷ 97 ∷ 115 ∷ 101 ∷ 32 ∷ 114 ∷ 101 ∷ 99 ∷ 118 ∷ 32 ∷ 110 ∷ 105 ∷ 108 ∷ 32 ∷ 115 ∷ 101 ∷ 108 ∷ 101 ∷ 99 ∷ 116 ∷ 32 ∷ 99 ∷ 97 ∷ 115 ∷ 101 ∷ 32 ∷ 114 ∷ 101 ∷ 99 ∷ 118 ∷ 32 ∷ 110 ∷ 105 ∷ 108 ∷ 32 ∷ 115 ∷ 101 ∷ 108 ∷ 101 ∷ 99 ∷ 116 ∷ 32 ∷ 99 ∷ 97 ∷ 115 ∷ 101 ∷ 32 ∷ 114 ∷ 101 ∷ 99 ∷ 118 ∷ 32 ∷ 110 ∷ 105 ∷ 108 ∷ 32 ∷ 115 ∷ 101 ∷ 108 ∷ 101 ∷ 99 ∷ 116 ∷ 32 ∷ 99 ∷ 97 ∷ 115 ∷ 101 ∷ 32 ∷ 114 ∷ 101 ∷ 99 ∷ 118 ∷ 32 ∷ 110 ∷ 105 ∷ 108 ∷ 32 ∷ 115 ∷ 101 ∷ 108 ∷ 101 ∷ 99 ∷ 116 ∷ 32 ∷ 99 ∷ 97 ∷ 115 ∷ 101 ∷ 32 ∷ 114 ∷ 101 ∷ 99 ∷ 118 ∷ 32 ∷ 110 ∷ 105 ∷ 108 ∷ 32 ∷ 115 ∷ 101 ∷ 108 ∷ 101 ∷ 99 ∷ 116 ∷ 32 ∷ 99 ∷ 97 ∷ 115 ∷ 101 ∷ 32 ∷ 114 ∷ 101 ∷ 99 ∷ 118 ∷ 32 ∷ 110 ∷ 105 ∷ 108 ∷ 32 ∷ 101 ∷ 110 ∷ 100 ∷ 32 ∷ 101 ∷ 110 ∷ 100 ∷ 32 ∷ 101 ∷ 110 ∷ 100 ∷ 32 ∷ 101 ∷ 110 ∷ 100 ∷ 32 ∷ 101 ∷ 110 ∷ 100 ∷ 32 ∷ 101 ∷ 110 ∷ 100 ∷ 32 ∷ 101 ∷ 110 ∷ 100 ∷ []) (yes [] ((select (case (Recv Nil) (select (case (Recv Nil) (select (case (Recv Nil) (select (case (Recv Nil) (select (case (Recv Nil) (select (case (Recv Nil) (empty) nomore) ▸ empty) nomore) ▸ empty) nomore) ▸ empty) nomore) ▸ empty) nomore) ▸ empty) nomore) ▸ empty) ∷ []))
    -- 16 channels, 16 tasks, 8 cases
    -- `chan 0 chan 0 chan 0 chan 0 chan 0 chan 0 chan 0 chan 0 chan 0 chan 0 chan 0 chan 0 chan 0 chan 0 chan 0 chan 0 task end task end task end task end task end task end task end task end task end task end task end task end task end task end task end task select case recv nil case recv nil case recv nil case recv nil case recv nil case recv nil case recv nil case recv nil end end`
    ∷ example (99 ∷ 104 ∷ 97 ∷ 110 ∷ 32 ∷ 48 ∷ 32 ∷ 99 ∷ 104 ∷ 97 ∷ 110 ∷ 32 ∷ 48 ∷ 32 ∷ 99 ∷ 104 ∷ 97 ∷ 110 ∷ 32 ∷ 48 ∷ 32 ∷ 99 ∷ 104 ∷ 97 ∷ 110 ∷ 32 ∷ 48 ∷ 32 ∷ 99 ∷ 104 ∷ 97 ∷ 110 ∷ 32 ∷ 48 ∷ 32 ∷ 99 ∷ 104 ∷ 97 ∷ 110 ∷ 32 ∷ 48 ∷ 32 ∷ 99 ∷ 104 ∷ 97 ∷ 110 ∷ 32 ∷ 48 ∷ 32 ∷ 99 ∷ 104 ∷ 97 ∷ 110 ∷ 32 ∷ 48 ∷ 32 ∷ 99 ∷ 104 ∷ 97 ∷ 110 ∷ 32 ∷ 48 ∷ 32 ∷ 99 ∷ 104 ∷ 97 ∷ 110 ∷ 32 ∷ 48 ∷ 32 ∷ 99 ∷ 104 ∷ 97 ∷ 110 ∷ 32 ∷ 48 ∷ 32 ∷ 99 ∷ 104 ∷ 97 ∷ 110 ∷ 32 ∷ 48 ∷ 32 ∷ 99 ∷ 104 ∷ 97 ∷ 110 ∷ 32 ∷ 48 ∷ 32 ∷ 99 ∷ 104 ∷ 97 ∷ 110 ∷ 32 ∷ 48 ∷ 32 ∷ 99 ∷ 104 ∷ 97 ∷ 110 ∷ 32 ∷ 48 ∷ 32 ∷ 99 ∷ 104 ∷ 97 ∷ 110 ∷ 32 ∷ 48 ∷ 32 ∷ 116 ∷ 97 ∷ 115 ∷ 107 ∷ 32 ∷ 101 ∷ 110 ∷ 100 ∷ 32 ∷ 116 ∷ 97 ∷ 115 ∷ 107 ∷ 32 ∷ 101 ∷ 110 ∷ 100 ∷ 32 ∷ 116 ∷ 97 ∷ 115 ∷ 107 ∷ 32 ∷ 101 ∷ 110 ∷ 100 ∷ 32 ∷ 116 ∷ 97 ∷ 115 ∷ 107 ∷ 32 ∷ 101 ∷ 110 ∷ 100 ∷ 32 ∷ 116 ∷ 97 ∷ 115 ∷ 107 ∷ 32 ∷ 101 ∷ 110 ∷ 100 ∷ 32 ∷ 116 ∷ 97 ∷ 115 ∷ 107 ∷ 32 ∷ 101 ∷ 110 ∷ 100 ∷ 32 ∷ 116 ∷ 97 ∷ 115 ∷ 107 ∷ 32 ∷ 101 ∷ 110 ∷ 100 ∷ 32 ∷ 116 ∷ 97 ∷ 115 ∷ 107 ∷ 32 ∷ 101 ∷ 110 ∷ 100 ∷ 32 ∷ 116 ∷ 97 ∷ 115 ∷ 107 ∷ 32 ∷ 101 ∷ 110 ∷ 100 ∷ 32 ∷ 116 ∷ 97 ∷ 115 ∷ 107 ∷ 32 ∷ 101 ∷ 110 ∷ 100 ∷ 32 ∷ 116 ∷ 97 ∷ 115 ∷ 107 ∷ 32 ∷ 101 ∷ 110 ∷ 100 ∷ 32 ∷ 116 ∷ 97 ∷ 115 ∷ 107 ∷ 32 ∷ 101 ∷ 110 ∷ 100 ∷ 32 ∷ 116 ∷ 97 ∷ 115 ∷ 107 ∷ 32 ∷ 101 ∷ 110 ∷ 100 ∷ 32 ∷ 116 ∷ 97 ∷ 115 ∷ 107 ∷ 32 ∷ 101 ∷ 110 ∷ 100 ∷ 32 ∷ 116 ∷ 97 ∷ 115 ∷ 107 ∷ 32 ∷ 101 ∷ 110 ∷ 100 ∷ 32 ∷ 116 ∷ 97 ∷ 115 ∷ 107 ∷ 32 ∷ 115 ∷ 101 ∷ 108 ∷ 101 ∷ 99 ∷ 116 ∷ 32 ∷ 99 ∷ 97 ∷ 115 ∷ 101 ∷ 32 ∷ 114 ∷ 101 ∷ 99 ∷ 118 ∷ 32 ∷ 110 ∷ 105 ∷ 108 ∷ 32 ∷ 99 ∷ 97 ∷ 115 ∷ 101 ∷ 32 ∷ 114 ∷ 101 ∷ 99 ∷ 118 ∷ 32 ∷ 110 ∷ 105 ∷ 108 ∷ 32 ∷ 99 ∷ 97 ∷ 115 ∷ 101 ∷ 32 ∷ 114 ∷ 101 ∷ 99 ∷ 118 ∷ 32 ∷ 110 ∷ 105 ∷ 108 ∷ 32 ∷ 99 ∷ 97 ∷ 115 ∷ 101 ∷ 32 ∷ 114 ∷ 101 ∷ 99 ∷ 118 ∷ 32 ∷ 110 ∷ 105 ∷ 108 ∷ 32 ∷ 99 ∷ 97 ∷ 115 ∷ 101 ∷ 32 ∷ 114 ∷ 101 ∷ 99 ∷ 118 ∷ 32 ∷ 110 ∷ 105 ∷ 108 ∷ 32 ∷ 99 ∷ 97 ∷ 115 ∷ 101 ∷ 32 ∷ 114 ∷ 101 ∷ 99 ∷ 118 ∷ 32 ∷ 110 ∷ 105 ∷ 108 ∷ 32 ∷ 99 ∷ 97 ∷ 115 ∷ 101 ∷ 32 ∷ 114 ∷ 101 ∷ 99 ∷ 118 ∷ 32 ∷ 110 ∷ 105 ∷ 108 ∷ 32 ∷ 99 ∷ 97 ∷ 115 ∷ 101 ∷ 32 ∷ 114 ∷ 101 ∷ 99 ∷ 118 ∷ 32 ∷ 110 ∷ 105 ∷ 108 ∷ 32 ∷ 101 ∷ 110 ∷ 100 ∷ 32 ∷ 101 ∷ 110 ∷ 100 ∷ []) (yes (0 ∷ 0 ∷ 0 ∷ 0 ∷ 0 ∷ 0 ∷ 0 ∷ 0 ∷ 0 ∷ 0 ∷ 0 ∷ 0 ∷ 0 ∷ 0 ∷ 0 ∷ 0 ∷ []) (empty ∷ empty ∷ empty ∷ empty ∷ empty ∷ empty ∷ empty ∷ empty ∷ empty ∷ empty ∷ empty ∷ empty ∷ empty ∷ empty ∷ empty ∷ (select (case (Recv Nil) empty (case (Recv Nil) empty (case (Recv Nil) empty (case (Recv Nil) empty (case (Recv Nil) empty (case (Recv Nil) empty (case (Recv Nil) empty (case (Recv Nil) empty (nomore))))))))) ▸ empty) ∷ []))
    -- 2: a capital, a tab; ahead of every word, so ahead of a bad word on its left
    -- `Task end`
    ∷ example (84 ∷ 97 ∷ 115 ∷ 107 ∷ 32 ∷ 101 ∷ 110 ∷ 100 ∷ []) (no 2 0)
    -- `task\tend`
    ∷ example (116 ∷ 97 ∷ 115 ∷ 107 ∷ 9 ∷ 101 ∷ 110 ∷ 100 ∷ []) (no 2 4)
    -- `foo }`
    ∷ example (102 ∷ 111 ∷ 111 ∷ 32 ∷ 125 ∷ []) (no 2 4)
    -- 3: what can't stand at the start, in a task, behind a task
    -- `foo`
    ∷ example (102 ∷ 111 ∷ 111 ∷ []) (no 3 0)
    -- `5`
    ∷ example (53 ∷ []) (no 3 0)
    -- `end`
    ∷ example (101 ∷ 110 ∷ 100 ∷ []) (no 3 0)
    -- `chan 0 stop`
    ∷ example (99 ∷ 104 ∷ 97 ∷ 110 ∷ 32 ∷ 48 ∷ 32 ∷ 115 ∷ 116 ∷ 111 ∷ 112 ∷ []) (no 3 7)
    -- `task foo end`
    ∷ example (116 ∷ 97 ∷ 115 ∷ 107 ∷ 32 ∷ 102 ∷ 111 ∷ 111 ∷ 32 ∷ 101 ∷ 110 ∷ 100 ∷ []) (no 3 5)
    -- `task 5 end`
    ∷ example (116 ∷ 97 ∷ 115 ∷ 107 ∷ 32 ∷ 53 ∷ 32 ∷ 101 ∷ 110 ∷ 100 ∷ []) (no 3 5)
    -- `task nil end`
    ∷ example (116 ∷ 97 ∷ 115 ∷ 107 ∷ 32 ∷ 110 ∷ 105 ∷ 108 ∷ 32 ∷ 101 ∷ 110 ∷ 100 ∷ []) (no 3 5)
    -- `task task end`
    ∷ example (116 ∷ 97 ∷ 115 ∷ 107 ∷ 32 ∷ 116 ∷ 97 ∷ 115 ∷ 107 ∷ 32 ∷ 101 ∷ 110 ∷ 100 ∷ []) (no 3 5)
    -- `task end chan 0`
    ∷ example (116 ∷ 97 ∷ 115 ∷ 107 ∷ 32 ∷ 101 ∷ 110 ∷ 100 ∷ 32 ∷ 99 ∷ 104 ∷ 97 ∷ 110 ∷ 32 ∷ 48 ∷ []) (no 3 9)
    -- `task end end`
    ∷ example (116 ∷ 97 ∷ 115 ∷ 107 ∷ 32 ∷ 101 ∷ 110 ∷ 100 ∷ 32 ∷ 101 ∷ 110 ∷ 100 ∷ []) (no 3 9)
    -- `task else end`
    ∷ example (116 ∷ 97 ∷ 115 ∷ 107 ∷ 32 ∷ 101 ∷ 108 ∷ 115 ∷ 101 ∷ 32 ∷ 101 ∷ 110 ∷ 100 ∷ []) (no 3 5)
    -- `task case recv nil end`
    ∷ example (116 ∷ 97 ∷ 115 ∷ 107 ∷ 32 ∷ 99 ∷ 97 ∷ 115 ∷ 101 ∷ 32 ∷ 114 ∷ 101 ∷ 99 ∷ 118 ∷ 32 ∷ 110 ∷ 105 ∷ 108 ∷ 32 ∷ 101 ∷ 110 ∷ 100 ∷ []) (no 3 5)
    -- 3 in a block: a second else, else in a range, what no select holds, no operation in a case, a case or a second default behind the default
    -- `task ifok else else end end`
    ∷ example (116 ∷ 97 ∷ 115 ∷ 107 ∷ 32 ∷ 105 ∷ 102 ∷ 111 ∷ 107 ∷ 32 ∷ 101 ∷ 108 ∷ 115 ∷ 101 ∷ 32 ∷ 101 ∷ 108 ∷ 115 ∷ 101 ∷ 32 ∷ 101 ∷ 110 ∷ 100 ∷ 32 ∷ 101 ∷ 110 ∷ 100 ∷ []) (no 3 15)
    -- `task repeat 1 else end end`
    ∷ example (116 ∷ 97 ∷ 115 ∷ 107 ∷ 32 ∷ 114 ∷ 101 ∷ 112 ∷ 101 ∷ 97 ∷ 116 ∷ 32 ∷ 49 ∷ 32 ∷ 101 ∷ 108 ∷ 115 ∷ 101 ∷ 32 ∷ 101 ∷ 110 ∷ 100 ∷ 32 ∷ 101 ∷ 110 ∷ 100 ∷ []) (no 3 14)
    -- `task select stop end end`
    ∷ example (116 ∷ 97 ∷ 115 ∷ 107 ∷ 32 ∷ 115 ∷ 101 ∷ 108 ∷ 101 ∷ 99 ∷ 116 ∷ 32 ∷ 115 ∷ 116 ∷ 111 ∷ 112 ∷ 32 ∷ 101 ∷ 110 ∷ 100 ∷ 32 ∷ 101 ∷ 110 ∷ 100 ∷ []) (no 3 12)
    -- `task select 5 end end`
    ∷ example (116 ∷ 97 ∷ 115 ∷ 107 ∷ 32 ∷ 115 ∷ 101 ∷ 108 ∷ 101 ∷ 99 ∷ 116 ∷ 32 ∷ 53 ∷ 32 ∷ 101 ∷ 110 ∷ 100 ∷ 32 ∷ 101 ∷ 110 ∷ 100 ∷ []) (no 3 12)
    -- `task select case stop end end`
    ∷ example (116 ∷ 97 ∷ 115 ∷ 107 ∷ 32 ∷ 115 ∷ 101 ∷ 108 ∷ 101 ∷ 99 ∷ 116 ∷ 32 ∷ 99 ∷ 97 ∷ 115 ∷ 101 ∷ 32 ∷ 115 ∷ 116 ∷ 111 ∷ 112 ∷ 32 ∷ 101 ∷ 110 ∷ 100 ∷ 32 ∷ 101 ∷ 110 ∷ 100 ∷ []) (no 3 17)
    -- `task select case end end`
    ∷ example (116 ∷ 97 ∷ 115 ∷ 107 ∷ 32 ∷ 115 ∷ 101 ∷ 108 ∷ 101 ∷ 99 ∷ 116 ∷ 32 ∷ 99 ∷ 97 ∷ 115 ∷ 101 ∷ 32 ∷ 101 ∷ 110 ∷ 100 ∷ 32 ∷ 101 ∷ 110 ∷ 100 ∷ []) (no 3 17)
    -- `task select default case recv nil end end`
    ∷ example (116 ∷ 97 ∷ 115 ∷ 107 ∷ 32 ∷ 115 ∷ 101 ∷ 108 ∷ 101 ∷ 99 ∷ 116 ∷ 32 ∷ 100 ∷ 101 ∷ 102 ∷ 97 ∷ 117 ∷ 108 ∷ 116 ∷ 32 ∷ 99 ∷ 97 ∷ 115 ∷ 101 ∷ 32 ∷ 114 ∷ 101 ∷ 99 ∷ 118 ∷ 32 ∷ 110 ∷ 105 ∷ 108 ∷ 32 ∷ 101 ∷ 110 ∷ 100 ∷ 32 ∷ 101 ∷ 110 ∷ 100 ∷ []) (no 3 20)
    -- `task select default default end end`
    ∷ example (116 ∷ 97 ∷ 115 ∷ 107 ∷ 32 ∷ 115 ∷ 101 ∷ 108 ∷ 101 ∷ 99 ∷ 116 ∷ 32 ∷ 100 ∷ 101 ∷ 102 ∷ 97 ∷ 117 ∷ 108 ∷ 116 ∷ 32 ∷ 100 ∷ 101 ∷ 102 ∷ 97 ∷ 117 ∷ 108 ∷ 116 ∷ 32 ∷ 101 ∷ 110 ∷ 100 ∷ 32 ∷ 101 ∷ 110 ∷ 100 ∷ []) (no 3 20)
    -- 3 ahead of 6, at one word: behind 16 tasks no chan
    -- `task end task end task end task end task end task end task end task end task end task end task end task end task end task end task end task end chan`
    ∷ example (116 ∷ 97 ∷ 115 ∷ 107 ∷ 32 ∷ 101 ∷ 110 ∷ 100 ∷ 32 ∷ 116 ∷ 97 ∷ 115 ∷ 107 ∷ 32 ∷ 101 ∷ 110 ∷ 100 ∷ 32 ∷ 116 ∷ 97 ∷ 115 ∷ 107 ∷ 32 ∷ 101 ∷ 110 ∷ 100 ∷ 32 ∷ 116 ∷ 97 ∷ 115 ∷ 107 ∷ 32 ∷ 101 ∷ 110 ∷ 100 ∷ 32 ∷ 116 ∷ 97 ∷ 115 ∷ 107 ∷ 32 ∷ 101 ∷ 110 ∷ 100 ∷ 32 ∷ 116 ∷ 97 ∷ 115 ∷ 107 ∷ 32 ∷ 101 ∷ 110 ∷ 100 ∷ 32 ∷ 116 ∷ 97 ∷ 115 ∷ 107 ∷ 32 ∷ 101 ∷ 110 ∷ 100 ∷ 32 ∷ 116 ∷ 97 ∷ 115 ∷ 107 ∷ 32 ∷ 101 ∷ 110 ∷ 100 ∷ 32 ∷ 116 ∷ 97 ∷ 115 ∷ 107 ∷ 32 ∷ 101 ∷ 110 ∷ 100 ∷ 32 ∷ 116 ∷ 97 ∷ 115 ∷ 107 ∷ 32 ∷ 101 ∷ 110 ∷ 100 ∷ 32 ∷ 116 ∷ 97 ∷ 115 ∷ 107 ∷ 32 ∷ 101 ∷ 110 ∷ 100 ∷ 32 ∷ 116 ∷ 97 ∷ 115 ∷ 107 ∷ 32 ∷ 101 ∷ 110 ∷ 100 ∷ 32 ∷ 116 ∷ 97 ∷ 115 ∷ 107 ∷ 32 ∷ 101 ∷ 110 ∷ 100 ∷ 32 ∷ 116 ∷ 97 ∷ 115 ∷ 107 ∷ 32 ∷ 101 ∷ 110 ∷ 100 ∷ 32 ∷ 116 ∷ 97 ∷ 115 ∷ 107 ∷ 32 ∷ 101 ∷ 110 ∷ 100 ∷ 32 ∷ 116 ∷ 97 ∷ 115 ∷ 107 ∷ 32 ∷ 101 ∷ 110 ∷ 100 ∷ 32 ∷ 99 ∷ 104 ∷ 97 ∷ 110 ∷ []) (no 3 144)
    -- 4: a number due, of each kind; nil only for a channel; a reserved word; a leading 0
    -- `chan x`
    ∷ example (99 ∷ 104 ∷ 97 ∷ 110 ∷ 32 ∷ 120 ∷ []) (no 4 5)
    -- `chan nil`
    ∷ example (99 ∷ 104 ∷ 97 ∷ 110 ∷ 32 ∷ 110 ∷ 105 ∷ 108 ∷ []) (no 4 5)
    -- `chan task end`
    ∷ example (99 ∷ 104 ∷ 97 ∷ 110 ∷ 32 ∷ 116 ∷ 97 ∷ 115 ∷ 107 ∷ 32 ∷ 101 ∷ 110 ∷ 100 ∷ []) (no 4 5)
    -- `chan 00`
    ∷ example (99 ∷ 104 ∷ 97 ∷ 110 ∷ 32 ∷ 48 ∷ 48 ∷ []) (no 4 5)
    -- `chan 1a`
    ∷ example (99 ∷ 104 ∷ 97 ∷ 110 ∷ 32 ∷ 49 ∷ 97 ∷ []) (no 4 5)
    -- `task send nil nil end`
    ∷ example (116 ∷ 97 ∷ 115 ∷ 107 ∷ 32 ∷ 115 ∷ 101 ∷ 110 ∷ 100 ∷ 32 ∷ 110 ∷ 105 ∷ 108 ∷ 32 ∷ 110 ∷ 105 ∷ 108 ∷ 32 ∷ 101 ∷ 110 ∷ 100 ∷ []) (no 4 14)
    -- `task send nil end`
    ∷ example (116 ∷ 97 ∷ 115 ∷ 107 ∷ 32 ∷ 115 ∷ 101 ∷ 110 ∷ 100 ∷ 32 ∷ 110 ∷ 105 ∷ 108 ∷ 32 ∷ 101 ∷ 110 ∷ 100 ∷ []) (no 4 14)
    -- `task repeat nil end end`
    ∷ example (116 ∷ 97 ∷ 115 ∷ 107 ∷ 32 ∷ 114 ∷ 101 ∷ 112 ∷ 101 ∷ 97 ∷ 116 ∷ 32 ∷ 110 ∷ 105 ∷ 108 ∷ 32 ∷ 101 ∷ 110 ∷ 100 ∷ 32 ∷ 101 ∷ 110 ∷ 100 ∷ []) (no 4 12)
    -- `task recv end`
    ∷ example (116 ∷ 97 ∷ 115 ∷ 107 ∷ 32 ∷ 114 ∷ 101 ∷ 99 ∷ 118 ∷ 32 ∷ 101 ∷ 110 ∷ 100 ∷ []) (no 4 10)
    -- `task recv x end`
    ∷ example (116 ∷ 97 ∷ 115 ∷ 107 ∷ 32 ∷ 114 ∷ 101 ∷ 99 ∷ 118 ∷ 32 ∷ 120 ∷ 32 ∷ 101 ∷ 110 ∷ 100 ∷ []) (no 4 10)
    -- `task close stop end`
    ∷ example (116 ∷ 97 ∷ 115 ∷ 107 ∷ 32 ∷ 99 ∷ 108 ∷ 111 ∷ 115 ∷ 101 ∷ 32 ∷ 115 ∷ 116 ∷ 111 ∷ 112 ∷ 32 ∷ 101 ∷ 110 ∷ 100 ∷ []) (no 4 11)
    -- `task range end end`
    ∷ example (116 ∷ 97 ∷ 115 ∷ 107 ∷ 32 ∷ 114 ∷ 97 ∷ 110 ∷ 103 ∷ 101 ∷ 32 ∷ 101 ∷ 110 ∷ 100 ∷ 32 ∷ 101 ∷ 110 ∷ 100 ∷ []) (no 4 11)
    -- `task forward recv end`
    ∷ example (116 ∷ 97 ∷ 115 ∷ 107 ∷ 32 ∷ 102 ∷ 111 ∷ 114 ∷ 119 ∷ 97 ∷ 114 ∷ 100 ∷ 32 ∷ 114 ∷ 101 ∷ 99 ∷ 118 ∷ 32 ∷ 101 ∷ 110 ∷ 100 ∷ []) (no 4 13)
    -- `task select case recv stop end end`
    ∷ example (116 ∷ 97 ∷ 115 ∷ 107 ∷ 32 ∷ 115 ∷ 101 ∷ 108 ∷ 101 ∷ 99 ∷ 116 ∷ 32 ∷ 99 ∷ 97 ∷ 115 ∷ 101 ∷ 32 ∷ 114 ∷ 101 ∷ 99 ∷ 118 ∷ 32 ∷ 115 ∷ 116 ∷ 111 ∷ 112 ∷ 32 ∷ 101 ∷ 110 ∷ 100 ∷ 32 ∷ 101 ∷ 110 ∷ 100 ∷ []) (no 4 22)
    -- 5: over its range, of each kind, however long; a channel not declared
    -- `chan 17 x`
    ∷ example (99 ∷ 104 ∷ 97 ∷ 110 ∷ 32 ∷ 49 ∷ 55 ∷ 32 ∷ 120 ∷ []) (no 5 5)
    -- `chan 99999999999999999999`
    ∷ example (99 ∷ 104 ∷ 97 ∷ 110 ∷ 32 ∷ 57 ∷ 57 ∷ 57 ∷ 57 ∷ 57 ∷ 57 ∷ 57 ∷ 57 ∷ 57 ∷ 57 ∷ 57 ∷ 57 ∷ 57 ∷ 57 ∷ 57 ∷ 57 ∷ 57 ∷ 57 ∷ 57 ∷ 57 ∷ []) (no 5 5)
    -- `task send nil 65536 end`
    ∷ example (116 ∷ 97 ∷ 115 ∷ 107 ∷ 32 ∷ 115 ∷ 101 ∷ 110 ∷ 100 ∷ 32 ∷ 110 ∷ 105 ∷ 108 ∷ 32 ∷ 54 ∷ 53 ∷ 53 ∷ 51 ∷ 54 ∷ 32 ∷ 101 ∷ 110 ∷ 100 ∷ []) (no 5 14)
    -- `task repeat 256 end end`
    ∷ example (116 ∷ 97 ∷ 115 ∷ 107 ∷ 32 ∷ 114 ∷ 101 ∷ 112 ∷ 101 ∷ 97 ∷ 116 ∷ 32 ∷ 50 ∷ 53 ∷ 54 ∷ 32 ∷ 101 ∷ 110 ∷ 100 ∷ 32 ∷ 101 ∷ 110 ∷ 100 ∷ []) (no 5 12)
    -- `task recv 0 end`
    ∷ example (116 ∷ 97 ∷ 115 ∷ 107 ∷ 32 ∷ 114 ∷ 101 ∷ 99 ∷ 118 ∷ 32 ∷ 48 ∷ 32 ∷ 101 ∷ 110 ∷ 100 ∷ []) (no 5 10)
    -- `chan 0 task close 1 end`
    ∷ example (99 ∷ 104 ∷ 97 ∷ 110 ∷ 32 ∷ 48 ∷ 32 ∷ 116 ∷ 97 ∷ 115 ∷ 107 ∷ 32 ∷ 99 ∷ 108 ∷ 111 ∷ 115 ∷ 101 ∷ 32 ∷ 49 ∷ 32 ∷ 101 ∷ 110 ∷ 100 ∷ []) (no 5 18)
    -- `chan 0 task range 1 end end`
    ∷ example (99 ∷ 104 ∷ 97 ∷ 110 ∷ 32 ∷ 48 ∷ 32 ∷ 116 ∷ 97 ∷ 115 ∷ 107 ∷ 32 ∷ 114 ∷ 97 ∷ 110 ∷ 103 ∷ 101 ∷ 32 ∷ 49 ∷ 32 ∷ 101 ∷ 110 ∷ 100 ∷ 32 ∷ 101 ∷ 110 ∷ 100 ∷ []) (no 5 18)
    -- `chan 0 task send 255 1 end`
    ∷ example (99 ∷ 104 ∷ 97 ∷ 110 ∷ 32 ∷ 48 ∷ 32 ∷ 116 ∷ 97 ∷ 115 ∷ 107 ∷ 32 ∷ 115 ∷ 101 ∷ 110 ∷ 100 ∷ 32 ∷ 50 ∷ 53 ∷ 53 ∷ 32 ∷ 49 ∷ 32 ∷ 101 ∷ 110 ∷ 100 ∷ []) (no 5 17)
    -- `chan 0 task select case forward 1 end end`
    ∷ example (99 ∷ 104 ∷ 97 ∷ 110 ∷ 32 ∷ 48 ∷ 32 ∷ 116 ∷ 97 ∷ 115 ∷ 107 ∷ 32 ∷ 115 ∷ 101 ∷ 108 ∷ 101 ∷ 99 ∷ 116 ∷ 32 ∷ 99 ∷ 97 ∷ 115 ∷ 101 ∷ 32 ∷ 102 ∷ 111 ∷ 114 ∷ 119 ∷ 97 ∷ 114 ∷ 100 ∷ 32 ∷ 49 ∷ 32 ∷ 101 ∷ 110 ∷ 100 ∷ 32 ∷ 101 ∷ 110 ∷ 100 ∷ []) (no 5 32)
    -- 6: the 17th chan, the 17th task, the 9th case, whatever follows
    -- `chan 0 chan 0 chan 0 chan 0 chan 0 chan 0 chan 0 chan 0 chan 0 chan 0 chan 0 chan 0 chan 0 chan 0 chan 0 chan 0 chan`
    ∷ example (99 ∷ 104 ∷ 97 ∷ 110 ∷ 32 ∷ 48 ∷ 32 ∷ 99 ∷ 104 ∷ 97 ∷ 110 ∷ 32 ∷ 48 ∷ 32 ∷ 99 ∷ 104 ∷ 97 ∷ 110 ∷ 32 ∷ 48 ∷ 32 ∷ 99 ∷ 104 ∷ 97 ∷ 110 ∷ 32 ∷ 48 ∷ 32 ∷ 99 ∷ 104 ∷ 97 ∷ 110 ∷ 32 ∷ 48 ∷ 32 ∷ 99 ∷ 104 ∷ 97 ∷ 110 ∷ 32 ∷ 48 ∷ 32 ∷ 99 ∷ 104 ∷ 97 ∷ 110 ∷ 32 ∷ 48 ∷ 32 ∷ 99 ∷ 104 ∷ 97 ∷ 110 ∷ 32 ∷ 48 ∷ 32 ∷ 99 ∷ 104 ∷ 97 ∷ 110 ∷ 32 ∷ 48 ∷ 32 ∷ 99 ∷ 104 ∷ 97 ∷ 110 ∷ 32 ∷ 48 ∷ 32 ∷ 99 ∷ 104 ∷ 97 ∷ 110 ∷ 32 ∷ 48 ∷ 32 ∷ 99 ∷ 104 ∷ 97 ∷ 110 ∷ 32 ∷ 48 ∷ 32 ∷ 99 ∷ 104 ∷ 97 ∷ 110 ∷ 32 ∷ 48 ∷ 32 ∷ 99 ∷ 104 ∷ 97 ∷ 110 ∷ 32 ∷ 48 ∷ 32 ∷ 99 ∷ 104 ∷ 97 ∷ 110 ∷ 32 ∷ 48 ∷ 32 ∷ 99 ∷ 104 ∷ 97 ∷ 110 ∷ 32 ∷ 48 ∷ 32 ∷ 99 ∷ 104 ∷ 97 ∷ 110 ∷ []) (no 6 112)
    -- `task end task end task end task end task end task end task end task end task end task end task end task end task end task end task end task end task`
    ∷ example (116 ∷ 97 ∷ 115 ∷ 107 ∷ 32 ∷ 101 ∷ 110 ∷ 100 ∷ 32 ∷ 116 ∷ 97 ∷ 115 ∷ 107 ∷ 32 ∷ 101 ∷ 110 ∷ 100 ∷ 32 ∷ 116 ∷ 97 ∷ 115 ∷ 107 ∷ 32 ∷ 101 ∷ 110 ∷ 100 ∷ 32 ∷ 116 ∷ 97 ∷ 115 ∷ 107 ∷ 32 ∷ 101 ∷ 110 ∷ 100 ∷ 32 ∷ 116 ∷ 97 ∷ 115 ∷ 107 ∷ 32 ∷ 101 ∷ 110 ∷ 100 ∷ 32 ∷ 116 ∷ 97 ∷ 115 ∷ 107 ∷ 32 ∷ 101 ∷ 110 ∷ 100 ∷ 32 ∷ 116 ∷ 97 ∷ 115 ∷ 107 ∷ 32 ∷ 101 ∷ 110 ∷ 100 ∷ 32 ∷ 116 ∷ 97 ∷ 115 ∷ 107 ∷ 32 ∷ 101 ∷ 110 ∷ 100 ∷ 32 ∷ 116 ∷ 97 ∷ 115 ∷ 107 ∷ 32 ∷ 101 ∷ 110 ∷ 100 ∷ 32 ∷ 116 ∷ 97 ∷ 115 ∷ 107 ∷ 32 ∷ 101 ∷ 110 ∷ 100 ∷ 32 ∷ 116 ∷ 97 ∷ 115 ∷ 107 ∷ 32 ∷ 101 ∷ 110 ∷ 100 ∷ 32 ∷ 116 ∷ 97 ∷ 115 ∷ 107 ∷ 32 ∷ 101 ∷ 110 ∷ 100 ∷ 32 ∷ 116 ∷ 97 ∷ 115 ∷ 107 ∷ 32 ∷ 101 ∷ 110 ∷ 100 ∷ 32 ∷ 116 ∷ 97 ∷ 115 ∷ 107 ∷ 32 ∷ 101 ∷ 110 ∷ 100 ∷ 32 ∷ 116 ∷ 97 ∷ 115 ∷ 107 ∷ 32 ∷ 101 ∷ 110 ∷ 100 ∷ 32 ∷ 116 ∷ 97 ∷ 115 ∷ 107 ∷ 32 ∷ 101 ∷ 110 ∷ 100 ∷ 32 ∷ 116 ∷ 97 ∷ 115 ∷ 107 ∷ []) (no 6 144)
    -- `task select case recv nil case recv nil case recv nil case recv nil case recv nil case recv nil case recv nil case recv nil case`
    ∷ example (116 ∷ 97 ∷ 115 ∷ 107 ∷ 32 ∷ 115 ∷ 101 ∷ 108 ∷ 101 ∷ 99 ∷ 116 ∷ 32 ∷ 99 ∷ 97 ∷ 115 ∷ 101 ∷ 32 ∷ 114 ∷ 101 ∷ 99 ∷ 118 ∷ 32 ∷ 110 ∷ 105 ∷ 108 ∷ 32 ∷ 99 ∷ 97 ∷ 115 ∷ 101 ∷ 32 ∷ 114 ∷ 101 ∷ 99 ∷ 118 ∷ 32 ∷ 110 ∷ 105 ∷ 108 ∷ 32 ∷ 99 ∷ 97 ∷ 115 ∷ 101 ∷ 32 ∷ 114 ∷ 101 ∷ 99 ∷ 118 ∷ 32 ∷ 110 ∷ 105 ∷ 108 ∷ 32 ∷ 99 ∷ 97 ∷ 115 ∷ 101 ∷ 32 ∷ 114 ∷ 101 ∷ 99 ∷ 118 ∷ 32 ∷ 110 ∷ 105 ∷ 108 ∷ 32 ∷ 99 ∷ 97 ∷ 115 ∷ 101 ∷ 32 ∷ 114 ∷ 101 ∷ 99 ∷ 118 ∷ 32 ∷ 110 ∷ 105 ∷ 108 ∷ 32 ∷ 99 ∷ 97 ∷ 115 ∷ 101 ∷ 32 ∷ 114 ∷ 101 ∷ 99 ∷ 118 ∷ 32 ∷ 110 ∷ 105 ∷ 108 ∷ 32 ∷ 99 ∷ 97 ∷ 115 ∷ 101 ∷ 32 ∷ 114 ∷ 101 ∷ 99 ∷ 118 ∷ 32 ∷ 110 ∷ 105 ∷ 108 ∷ 32 ∷ 99 ∷ 97 ∷ 115 ∷ 101 ∷ 32 ∷ 114 ∷ 101 ∷ 99 ∷ 118 ∷ 32 ∷ 110 ∷ 105 ∷ 108 ∷ 32 ∷ 99 ∷ 97 ∷ 115 ∷ 101 ∷ []) (no 6 124)
    -- 7: each block word at depth 7, whatever follows
    -- `task ifok ifok ifok ifok ifok ifok ifok`
    ∷ example (116 ∷ 97 ∷ 115 ∷ 107 ∷ 32 ∷ 105 ∷ 102 ∷ 111 ∷ 107 ∷ 32 ∷ 105 ∷ 102 ∷ 111 ∷ 107 ∷ 32 ∷ 105 ∷ 102 ∷ 111 ∷ 107 ∷ 32 ∷ 105 ∷ 102 ∷ 111 ∷ 107 ∷ 32 ∷ 105 ∷ 102 ∷ 111 ∷ 107 ∷ 32 ∷ 105 ∷ 102 ∷ 111 ∷ 107 ∷ 32 ∷ 105 ∷ 102 ∷ 111 ∷ 107 ∷ []) (no 7 35)
    -- `task repeat 1 repeat 1 repeat 1 repeat 1 repeat 1 repeat 1 repeat x`
    ∷ example (116 ∷ 97 ∷ 115 ∷ 107 ∷ 32 ∷ 114 ∷ 101 ∷ 112 ∷ 101 ∷ 97 ∷ 116 ∷ 32 ∷ 49 ∷ 32 ∷ 114 ∷ 101 ∷ 112 ∷ 101 ∷ 97 ∷ 116 ∷ 32 ∷ 49 ∷ 32 ∷ 114 ∷ 101 ∷ 112 ∷ 101 ∷ 97 ∷ 116 ∷ 32 ∷ 49 ∷ 32 ∷ 114 ∷ 101 ∷ 112 ∷ 101 ∷ 97 ∷ 116 ∷ 32 ∷ 49 ∷ 32 ∷ 114 ∷ 101 ∷ 112 ∷ 101 ∷ 97 ∷ 116 ∷ 32 ∷ 49 ∷ 32 ∷ 114 ∷ 101 ∷ 112 ∷ 101 ∷ 97 ∷ 116 ∷ 32 ∷ 49 ∷ 32 ∷ 114 ∷ 101 ∷ 112 ∷ 101 ∷ 97 ∷ 116 ∷ 32 ∷ 120 ∷ []) (no 7 59)
    -- `task range nil range nil range nil range nil range nil range nil range x`
    ∷ example (116 ∷ 97 ∷ 115 ∷ 107 ∷ 32 ∷ 114 ∷ 97 ∷ 110 ∷ 103 ∷ 101 ∷ 32 ∷ 110 ∷ 105 ∷ 108 ∷ 32 ∷ 114 ∷ 97 ∷ 110 ∷ 103 ∷ 101 ∷ 32 ∷ 110 ∷ 105 ∷ 108 ∷ 32 ∷ 114 ∷ 97 ∷ 110 ∷ 103 ∷ 101 ∷ 32 ∷ 110 ∷ 105 ∷ 108 ∷ 32 ∷ 114 ∷ 97 ∷ 110 ∷ 103 ∷ 101 ∷ 32 ∷ 110 ∷ 105 ∷ 108 ∷ 32 ∷ 114 ∷ 97 ∷ 110 ∷ 103 ∷ 101 ∷ 32 ∷ 110 ∷ 105 ∷ 108 ∷ 32 ∷ 114 ∷ 97 ∷ 110 ∷ 103 ∷ 101 ∷ 32 ∷ 110 ∷ 105 ∷ 108 ∷ 32 ∷ 114 ∷ 97 ∷ 110 ∷ 103 ∷ 101 ∷ 32 ∷ 120 ∷ []) (no 7 65)
    -- `task select case recv nil select case recv nil select case recv nil select case recv nil select case recv nil select case recv nil select x`
    ∷ example (116 ∷ 97 ∷ 115 ∷ 107 ∷ 32 ∷ 115 ∷ 101 ∷ 108 ∷ 101 ∷ 99 ∷ 116 ∷ 32 ∷ 99 ∷ 97 ∷ 115 ∷ 101 ∷ 32 ∷ 114 ∷ 101 ∷ 99 ∷ 118 ∷ 32 ∷ 110 ∷ 105 ∷ 108 ∷ 32 ∷ 115 ∷ 101 ∷ 108 ∷ 101 ∷ 99 ∷ 116 ∷ 32 ∷ 99 ∷ 97 ∷ 115 ∷ 101 ∷ 32 ∷ 114 ∷ 101 ∷ 99 ∷ 118 ∷ 32 ∷ 110 ∷ 105 ∷ 108 ∷ 32 ∷ 115 ∷ 101 ∷ 108 ∷ 101 ∷ 99 ∷ 116 ∷ 32 ∷ 99 ∷ 97 ∷ 115 ∷ 101 ∷ 32 ∷ 114 ∷ 101 ∷ 99 ∷ 118 ∷ 32 ∷ 110 ∷ 105 ∷ 108 ∷ 32 ∷ 115 ∷ 101 ∷ 108 ∷ 101 ∷ 99 ∷ 116 ∷ 32 ∷ 99 ∷ 97 ∷ 115 ∷ 101 ∷ 32 ∷ 114 ∷ 101 ∷ 99 ∷ 118 ∷ 32 ∷ 110 ∷ 105 ∷ 108 ∷ 32 ∷ 115 ∷ 101 ∷ 108 ∷ 101 ∷ 99 ∷ 116 ∷ 32 ∷ 99 ∷ 97 ∷ 115 ∷ 101 ∷ 32 ∷ 114 ∷ 101 ∷ 99 ∷ 118 ∷ 32 ∷ 110 ∷ 105 ∷ 108 ∷ 32 ∷ 115 ∷ 101 ∷ 108 ∷ 101 ∷ 99 ∷ 116 ∷ 32 ∷ 99 ∷ 97 ∷ 115 ∷ 101 ∷ 32 ∷ 114 ∷ 101 ∷ 99 ∷ 118 ∷ 32 ∷ 110 ∷ 105 ∷ 108 ∷ 32 ∷ 115 ∷ 101 ∷ 108 ∷ 101 ∷ 99 ∷ 116 ∷ 32 ∷ 120 ∷ []) (no 7 131)
    -- a block that has ended counts no more: the text stops inside the seventh block, which is at depth 6
    -- `task ifok ifok ifok ifok ifok ifok stop end range nil`
    ∷ example (116 ∷ 97 ∷ 115 ∷ 107 ∷ 32 ∷ 105 ∷ 102 ∷ 111 ∷ 107 ∷ 32 ∷ 105 ∷ 102 ∷ 111 ∷ 107 ∷ 32 ∷ 105 ∷ 102 ∷ 111 ∷ 107 ∷ 32 ∷ 105 ∷ 102 ∷ 111 ∷ 107 ∷ 32 ∷ 105 ∷ 102 ∷ 111 ∷ 107 ∷ 32 ∷ 105 ∷ 102 ∷ 111 ∷ 107 ∷ 32 ∷ 115 ∷ 116 ∷ 111 ∷ 112 ∷ 32 ∷ 101 ∷ 110 ∷ 100 ∷ 32 ∷ 114 ∷ 97 ∷ 110 ∷ 103 ∷ 101 ∷ 32 ∷ 110 ∷ 105 ∷ 108 ∷ []) (no 9 53)
    -- 9: the text stops inside a declaration, a statement, a task; trailing blanks count
    -- `chan`
    ∷ example (99 ∷ 104 ∷ 97 ∷ 110 ∷ []) (no 9 4)
    -- `chan `
    ∷ example (99 ∷ 104 ∷ 97 ∷ 110 ∷ 32 ∷ []) (no 9 5)
    -- `task`
    ∷ example (116 ∷ 97 ∷ 115 ∷ 107 ∷ []) (no 9 4)
    -- `task stop `
    ∷ example (116 ∷ 97 ∷ 115 ∷ 107 ∷ 32 ∷ 115 ∷ 116 ∷ 111 ∷ 112 ∷ 32 ∷ []) (no 9 10)
    -- `task send`
    ∷ example (116 ∷ 97 ∷ 115 ∷ 107 ∷ 32 ∷ 115 ∷ 101 ∷ 110 ∷ 100 ∷ []) (no 9 9)
    -- `task send nil`
    ∷ example (116 ∷ 97 ∷ 115 ∷ 107 ∷ 32 ∷ 115 ∷ 101 ∷ 110 ∷ 100 ∷ 32 ∷ 110 ∷ 105 ∷ 108 ∷ []) (no 9 13)
    -- `task recv\n`
    ∷ example (116 ∷ 97 ∷ 115 ∷ 107 ∷ 32 ∷ 114 ∷ 101 ∷ 99 ∷ 118 ∷ 10 ∷ []) (no 9 10)
    -- `task repeat`
    ∷ example (116 ∷ 97 ∷ 115 ∷ 107 ∷ 32 ∷ 114 ∷ 101 ∷ 112 ∷ 101 ∷ 97 ∷ 116 ∷ []) (no 9 11)
    -- `task repeat 1`
    ∷ example (116 ∷ 97 ∷ 115 ∷ 107 ∷ 32 ∷ 114 ∷ 101 ∷ 112 ∷ 101 ∷ 97 ∷ 116 ∷ 32 ∷ 49 ∷ []) (no 9 13)
    -- `task ifok`
    ∷ example (116 ∷ 97 ∷ 115 ∷ 107 ∷ 32 ∷ 105 ∷ 102 ∷ 111 ∷ 107 ∷ []) (no 9 9)
    -- `task ifok else`
    ∷ example (116 ∷ 97 ∷ 115 ∷ 107 ∷ 32 ∷ 105 ∷ 102 ∷ 111 ∷ 107 ∷ 32 ∷ 101 ∷ 108 ∷ 115 ∷ 101 ∷ []) (no 9 14)
    -- `task select`
    ∷ example (116 ∷ 97 ∷ 115 ∷ 107 ∷ 32 ∷ 115 ∷ 101 ∷ 108 ∷ 101 ∷ 99 ∷ 116 ∷ []) (no 9 11)
    -- `task select case`
    ∷ example (116 ∷ 97 ∷ 115 ∷ 107 ∷ 32 ∷ 115 ∷ 101 ∷ 108 ∷ 101 ∷ 99 ∷ 116 ∷ 32 ∷ 99 ∷ 97 ∷ 115 ∷ 101 ∷ []) (no 9 16)
    -- `task select case recv nil`
    ∷ example (116 ∷ 97 ∷ 115 ∷ 107 ∷ 32 ∷ 115 ∷ 101 ∷ 108 ∷ 101 ∷ 99 ∷ 116 ∷ 32 ∷ 99 ∷ 97 ∷ 115 ∷ 101 ∷ 32 ∷ 114 ∷ 101 ∷ 99 ∷ 118 ∷ 32 ∷ 110 ∷ 105 ∷ 108 ∷ []) (no 9 25)
    -- `task select default`
    ∷ example (116 ∷ 97 ∷ 115 ∷ 107 ∷ 32 ∷ 115 ∷ 101 ∷ 108 ∷ 101 ∷ 99 ∷ 116 ∷ 32 ∷ 100 ∷ 101 ∷ 102 ∷ 97 ∷ 117 ∷ 108 ∷ 116 ∷ []) (no 9 19)
    -- `task end task`
    ∷ example (116 ∷ 97 ∷ 115 ∷ 107 ∷ 32 ∷ 101 ∷ 110 ∷ 100 ∷ 32 ∷ 116 ∷ 97 ∷ 115 ∷ 107 ∷ []) (no 9 13)
    -- 10: no task
    -- ``
    ∷ example [] (no 10 0)
    -- `chan 1`
    ∷ example (99 ∷ 104 ∷ 97 ∷ 110 ∷ 32 ∷ 49 ∷ []) (no 10 6)
    -- `chan 1 \n`
    ∷ example (99 ∷ 104 ∷ 97 ∷ 110 ∷ 32 ∷ 49 ∷ 32 ∷ 10 ∷ []) (no 10 8)
    ∷ []

-- 8: with 1,024 rows needed so far the word needs row 1,025, with 1,023 it does not. A body's first statement, a case, a task's `end`,
-- and 7 and 6 ahead of 8 at one word; the operation behind `case` needs none. Each part is read from its first word on.
data Asked : Type 0 where
  in_body : ℕ → Asked  -- inside so many blocks
  in_case : ℕ → Asked  -- with so many cases left
  at_end : Asked

record RowExample : Type 0 where
  text : List ℕ
  asked : Asked
  rows : ℕ
  answer : ℕ × ℕ

abbrev row_example : List ℕ → Asked → ℕ → ℕ → ℕ → RowExample
row_example text asked rows n place = record { text = text; asked = asked; rows = rows; answer = (n, place) }

-- (0, the rows needed behind it) for a part that is read
refusal_of : {A : Type 0} → Part A → ℕ × ℕ
refusal_of (got x at rows) = (0, rows)
refusal_of none = (99, 0)
refusal_of (bad n place) = (n, place)

asked_of : List ℕ → ℕ → Asked → ℕ × ℕ
asked_of s rows (in_body depth) = refusal_of (body_from 3 s 0 depth 0 rows)
asked_of s rows (in_case left) = refusal_of (case_by s 0 (body_from 3 s 0 1) left (word_at s 0) rows)
asked_of s rows at_end = refusal_of (task_end s empty (word_at s 0) rows)

abbrev row_examples : List RowExample
row_examples =
    -- `stop`, `close nil`, `recv nil`, each with a row left and with none
    row_example (115 ∷ 116 ∷ 111 ∷ 112 ∷ 32 ∷ 101 ∷ 110 ∷ 100 ∷ []) (in_body 0) 1023 0 1024
    ∷ row_example (115 ∷ 116 ∷ 111 ∷ 112 ∷ 32 ∷ 101 ∷ 110 ∷ 100 ∷ []) (in_body 0) 1024 8 0
    ∷ row_example (99 ∷ 108 ∷ 111 ∷ 115 ∷ 101 ∷ 32 ∷ 110 ∷ 105 ∷ 108 ∷ 32 ∷ 101 ∷ 110 ∷ 100 ∷ []) (in_body 0) 1023 0 1024
    ∷ row_example (99 ∷ 108 ∷ 111 ∷ 115 ∷ 101 ∷ 32 ∷ 110 ∷ 105 ∷ 108 ∷ 32 ∷ 101 ∷ 110 ∷ 100 ∷ []) (in_body 0) 1024 8 0
    ∷ row_example (114 ∷ 101 ∷ 99 ∷ 118 ∷ 32 ∷ 110 ∷ 105 ∷ 108 ∷ 32 ∷ 101 ∷ 110 ∷ 100 ∷ []) (in_body 0) 1023 0 1024
    ∷ row_example (114 ∷ 101 ∷ 99 ∷ 118 ∷ 32 ∷ 120 ∷ []) (in_body 0) 1024 8 0
    -- the second statement
    ∷ row_example (115 ∷ 116 ∷ 111 ∷ 112 ∷ 32 ∷ 115 ∷ 116 ∷ 111 ∷ 112 ∷ []) (in_body 0) 1023 8 5
    -- a block word: 7 ahead of 8
    ∷ row_example (105 ∷ 102 ∷ 111 ∷ 107 ∷ 32 ∷ 101 ∷ 110 ∷ 100 ∷ 32 ∷ 101 ∷ 110 ∷ 100 ∷ []) (in_body 5) 1023 0 1024
    ∷ row_example (105 ∷ 102 ∷ 111 ∷ 107 ∷ 32 ∷ 101 ∷ 110 ∷ 100 ∷ 32 ∷ 101 ∷ 110 ∷ 100 ∷ []) (in_body 5) 1024 8 0
    ∷ row_example (105 ∷ 102 ∷ 111 ∷ 107 ∷ 32 ∷ 101 ∷ 110 ∷ 100 ∷ 32 ∷ 101 ∷ 110 ∷ 100 ∷ []) (in_body 6) 1024 7 0
    ∷ row_example (114 ∷ 101 ∷ 112 ∷ 101 ∷ 97 ∷ 116 ∷ 32 ∷ 120 ∷ []) (in_body 5) 1024 8 0
    -- a case: 6 ahead of 8
    ∷ row_example (99 ∷ 97 ∷ 115 ∷ 101 ∷ 32 ∷ 114 ∷ 101 ∷ 99 ∷ 118 ∷ 32 ∷ 110 ∷ 105 ∷ 108 ∷ 32 ∷ 101 ∷ 110 ∷ 100 ∷ []) (in_case 1) 1023 0 1024
    ∷ row_example (99 ∷ 97 ∷ 115 ∷ 101 ∷ 32 ∷ 114 ∷ 101 ∷ 99 ∷ 118 ∷ 32 ∷ 110 ∷ 105 ∷ 108 ∷ 32 ∷ 101 ∷ 110 ∷ 100 ∷ []) (in_case 1) 1024 8 0
    ∷ row_example (99 ∷ 97 ∷ 115 ∷ 101 ∷ 32 ∷ 114 ∷ 101 ∷ 99 ∷ 118 ∷ 32 ∷ 110 ∷ 105 ∷ 108 ∷ 32 ∷ 101 ∷ 110 ∷ 100 ∷ []) (in_case 0) 1024 6 0
    -- a task's `end`
    ∷ row_example (101 ∷ 110 ∷ 100 ∷ []) at_end 1023 0 1024
    ∷ row_example (101 ∷ 110 ∷ 100 ∷ []) at_end 1024 8 0
    ∷ row_example (101 ∷ 108 ∷ 115 ∷ 101 ∷ []) at_end 1024 3 0
    ∷ []

examples_hold : map (λ e. answer_of (reading e.text)) examples ≡ map (λ e. e.answer) examples
unfolding answer_of reading job tasks_from task_by task_end chans_from chan_by body_from stmt_by cases_from last_by case_by case_op second_by op_by port_by closed_by number_by many bind word_at first_not_allowed kind_of value_of start_at next_at bytes_at numeral decimal is_number only_digits leading_zero place_of differs same_word reserved run in_word is_allowed is_letter is_digit is_blank
examples_hold = refl

rows_hold : map (λ e. asked_of e.text e.rows e.asked) row_examples ≡ map (λ e. e.answer) row_examples
unfolding asked_of refusal_of reading job tasks_from task_by task_end chans_from chan_by body_from stmt_by cases_from last_by case_by case_op second_by op_by port_by closed_by number_by many bind word_at first_not_allowed kind_of value_of start_at next_at bytes_at numeral decimal is_number only_digits leading_zero place_of differs same_word reserved run in_word is_allowed is_letter is_digit is_blank
rows_hold = refl

-- 1: over 16,384 bytes, at place 0, ahead of 2.
long_text : answer_of (reading (replicate 16385 33)) ≡ no 1 0
unfolding answer_of reading job tasks_from task_by task_end chans_from chan_by body_from stmt_by cases_from last_by case_by case_op second_by op_by port_by closed_by number_by many bind word_at first_not_allowed kind_of value_of start_at next_at bytes_at numeral decimal is_number only_digits leading_zero place_of differs same_word reserved run in_word is_allowed is_letter is_digit is_blank
long_text = refl

-- A text of 16,384 bytes is read: here its first byte is refused.
longest_text : answer_of (reading (replicate 16384 33)) ≡ no 2 0
unfolding answer_of reading job tasks_from task_by task_end chans_from chan_by body_from stmt_by cases_from last_by case_by case_op second_by op_by port_by closed_by number_by many bind word_at first_not_allowed kind_of value_of start_at next_at bytes_at numeral decimal is_number only_digits leading_zero place_of differs same_word reserved run in_word is_allowed is_letter is_digit is_blank
longest_text = refl
