-- What append and take come to, in the values that a channel holds, oldest first.
use Rattle.std.specs.Prelude.{◌≡◌, true, false, [], ◌∷◌, ◌++◌, ℕ, ◌-◌, ◌≤◌, ◌<◌, length, drop, replicate, Some, None, is_some, unwrap_or}
use Rattle.std.proofs.Common.{ap, ◌∙◌, add-one, arith, leb-true, ltb-true, length-take, length-drop, take-suc-set, drop-cons, get_or-take}
use Rattle.meaning.specs.Numbers.{capacity_limit}
use Rattle.meaning.specs.Laws.Tests.{both}
use Rattle.machine_records.specs.Laws.Cells.{take_over}
use Rattle.thin_channel.specs.Kinds.{Channel}
use Rattle.thin_channel.specs.Channels.{contents, has_room, has_value, oldest, shorter, appended_to, shortened, taken_from}

-- Append puts v behind the youngest value, where there is room.
pub append_adds : (c : Channel) (v : ℕ) → length c.values ≡ capacity_limit → has_room c ≡ true → (is_some (appended_to c v) ≡ true) × (contents (unwrap_or (appended_to c v) c) ≡ contents c ++ (v ∷ []))
append_adds c v cells room =
    let tests = both _ _ room in
    let fits : c.capacity ≤ capacity_limit = leb-true _ _ tests.0 in
    let below : c.len < c.capacity = ltb-true _ _ tests.1 in
    (rw room, rw (room, add-one) (take-suc-set c.values c.len v (omega arith)))

pub append_refuses : (c : Channel) (v : ℕ) → has_room c ≡ false → (is_some (appended_to c v) ≡ false) × (unwrap_or (appended_to c v) c ≡ c)
append_refuses c v full = (rw full, rw full)

-- Take hands out the oldest value and leaves the others, in their order, where there is a value.
pub take_takes : (c : Channel) → length c.values ≡ capacity_limit → has_value c ≡ true → (taken_from c ≡ Some (oldest c)) × (contents c ≡ oldest c ∷ contents (shortened c))
take_takes c cells value =
    let tests = both _ _ value in
    let more = both _ _ tests.1 in
    let fits : c.capacity ≤ capacity_limit = leb-true _ _ tests.0 in
    let below : c.len ≤ c.capacity = leb-true _ _ more.0 in
    let some : 1 ≤ c.len = leb-true _ _ more.1 in
    let all : length (contents c) ≡ c.len = simp length-take (omega arith) in
    let left : length (drop 1 (contents c)) ≡ c.len - 1 = simp length-drop (omega arith) in
    let rest : contents (shorter c) ≡ drop 1 (contents c) = rw (← left) (take_over (drop 1 (contents c)) (replicate (length c.values) 0)) in
    (rw value, rw (value, rest) (drop-cons (contents c) 0 0 (omega arith) ∙ ap (λ x. x ∷ drop 1 (contents c)) (get_or-take c.len c.values 0 0 (omega arith))))

pub take_refuses : (c : Channel) → has_value c ≡ false → (taken_from c ≡ None) × (shortened c ≡ c)
take_refuses c none = (rw none, rw none)
