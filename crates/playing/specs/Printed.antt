-- Printed: the lines of a statement, which stand in an output buffer without their label.
use Rattle.std.specs.Prelude.{List, [], ◌++◌, ℕ, ◌-◌, ◌≤◌, take, drop}
use Rattle.playing.specs.declared.showing.Printed.{Printed}
use Rattle.playing.specs.declared.showing.Printed.TheVariants as printed

-- what is printed of the first bytes of the output buffer
abbrev pub printed_text : (label out : List ℕ) → Printed → List ℕ
printed_text label out printed.Nothing = []
printed_text label out (printed.Bare n) = take n out
printed_text label out (printed.Line n) = label ++ take n out
printed_text label out (printed.Lines n m) = (label ++ take n out) ++ (label ++ take (m - n) (drop n out))

-- which are there
abbrev pub PrintedFits : Printed → ℕ → Type 0
PrintedFits printed.Nothing room = Unit {0}
PrintedFits (printed.Bare n) room = n ≤ room
PrintedFits (printed.Line n) room = n ≤ room
PrintedFits (printed.Lines n m) room = (n ≤ m) × (m ≤ room)

-- the output buffer has room for what any statement prints: 65,535 numbers with the space before each, or the sevens of the
-- greatest limit
abbrev pub most_output : ℕ
most_output = 1441792
