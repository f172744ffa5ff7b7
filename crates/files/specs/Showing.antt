-- Document 01, "Showing a record": what the desk hands back for a place in a file of step records, and where in memory it stands. Assumes nothing.
use Rattle.std.specs.Prelude.{Bool, cond, not, ◌&&◌, List, [], ℕ, ◌+◌, ◌-◌, ◌*◌, ◌/◌, eqb, ltb, length, take, drop}
use Rattle.std.specs.Borrow.{Bor}

-- places count from 1, up to the last whole record of a file of so many bytes
abbrev pub has_record : ℕ → ℕ → Bool
has_record bytes place = not (eqb place 0) && not (ltb (bytes / 24) place)

-- the 24 bytes of the record at a place; an empty part where there is none
unfoldable pub record_at : List ℕ → ℕ → List ℕ
record_at file place = cond (has_record (length file) place) (take 24 (drop ((place - 1) * 24) file)) []

-- where they stand: in the block of the buffer named, (place - 1) × 24 bytes past its start; an empty part stands at the start
unfoldable pub stands_at : Bor (List ℕ) → ℕ → ℕ × ℕ
stands_at file place = (file.ref_ptr.0, cond (has_record (length file.now) place) ((place - 1) * 24) 0 + file.ref_ptr.1)
