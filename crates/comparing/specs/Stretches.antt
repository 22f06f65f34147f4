-- Stretches as they lie in memory: what the logic knows of a slice that is lent or handed back.
use Rattle.std.specs.Prelude.{List, ℕ}
use Rattle.std.specs.Borrow.{Bor}
use Rattle.model.specs.Shorter.{Stretch, pick, numbers_of, shorter}

-- a slice of numbers as it is lent
abbrev pub Slice : Type 0
Slice = Bor (List ℕ)

-- where a slice starts, as a block of memory and an offset in it, and the numbers in it, whose count is its length: "the very stretch"
pub record Part : Type 0 where
  pub start : ℕ × ℕ
  pub numbers : List ℕ

abbrev pub as_part : Slice → Part
as_part r = record { start = r.ref_ptr; numbers = r.now }

-- a stretch of two buffers that are lent: it starts where its buffer does
abbrev pub part_of : Stretch → (first second : Slice) → Part
part_of s first second = record { start = pick s.buffer first.ref_ptr second.ref_ptr; numbers = numbers_of s first.now second.now }

-- "the very stretch of whichever buffer holds the shorter tree"
abbrev pub shorter_part : ℕ → (first second : Slice) → Part
shorter_part S first second = part_of (shorter S first.now second.now) first second
