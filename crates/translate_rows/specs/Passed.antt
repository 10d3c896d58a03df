-- What the two passes answer and leave, for every text and every buffer.
use Rattle.std.specs.Prelude.{cond, List, ℕ, leb, length, replicate, Result, Ok, Err}
use Rattle.std.proofs.lemmas.List.Edits.{sets}
use Rattle.meaning.specs.Numbers.{task_limit}
use Rattle.meaning.specs.Text.{Job}
use Rattle.meaning.specs.Layout.{rows_t}
use Rattle.meaning.specs.Bytes.{job_image}
use Rattle.translate_rows.specs.Kinds.{JobSize, Refused, Passed}
use Rattle.text_reader.specs.Reading.{Part, got, none, bad}
use Rattle.text_reader.specs.Answers.{fault_number}
use Rattle.translate_rows.specs.Noted.{first_numbers}
use Rattle.translate_rows.specs.RowsPut.{rows_put}

-- The first rows of a job's tasks, one for each task that there may be, 0 past the last task; all 0 of a text that is refused.
unfoldable pub firsts_of : Part Job → List ℕ
firsts_of (got j at rows) = sets (replicate task_limit 0) 0 (first_numbers j.tasks 0)
firsts_of none = replicate task_limit 0
firsts_of (bad n place) = replicate task_limit 0

-- The buffer afterwards, every byte: the rows of a job whose whole image has room in it stand at its start; otherwise it is as it was.
unfoldable pub rows_in : List ℕ → Part Job → List ℕ
rows_in out (got j at rows) = cond (leb (length (job_image j)) (length out)) (rows_put out 0 (rows_t j.tasks 0)) out
rows_in out none = out
rows_in out (bad n place) = out

-- The job's numbers, or the refusal's number and place.
abbrev pub sizes_of : Result Passed Refused → Result JobSize (ℕ × ℕ)
sizes_of (Ok p) = Ok p.size
sizes_of (Err e) = Err (fault_number e.why, e.place)
