-- How far a section may reach.
use Rattle.std.specs.Prelude.{ℕ, zero, suc, ◌+◌, ◌-◌, List, [], ◌∷◌}
use Rattle.task_sheet.specs.Sheet.{CriticalSection}
use Rattle.limits.specs.Numbers.{section_at}

-- where the first of some sections begins, or the end of the task
abbrev pub begin_of : ℕ → List CriticalSection → ℕ
begin_of cost [] = cost
begin_of cost (x ∷ xs) = x.at

-- up to where the section at a place may reach: the next one, or the end of the task
abbrev pub room_end : ℕ → List CriticalSection → ℕ → ℕ
room_end cost [] k = cost
room_end cost (x ∷ xs) zero = begin_of cost xs
room_end cost (x ∷ xs) (suc k) = room_end cost xs k

-- where the section at a place ends
abbrev pub end_of : List CriticalSection → ℕ → ℕ
end_of sections k = (section_at sections k).at + (section_at sections k).len

-- the greatest length of the section at place k, with which so many behind it move along: up to where the last of these may
-- reach
abbrev pub most_len : ℕ → List CriticalSection → (k along : ℕ) → ℕ
most_len cost [] k along = 0
most_len cost (x ∷ xs) zero along =
    x.len + (room_end cost (x ∷ xs) along - end_of (x ∷ xs) along)
most_len cost (x ∷ xs) (suc k) along = most_len cost xs k along
