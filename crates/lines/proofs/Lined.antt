-- A line behind its label, appended part by part.
use mathlib.Core.List.{List, [], ◌∷◌}
use Prim.Native.Nat.{ℕ}
use Rattle.printing.proofs.Runs.{Appended, appended_both}
use Rattle.script.specs.Meaning.{line}

-- a space, a text and a line feed, one behind another
pub line_appended : (entry : List ℕ) (at : ℕ) (text : List ℕ) {p q r : ℕ} {a b out : List ℕ}
    → Appended entry at (32 ∷ []) p a → Appended a p text q b → Appended b q (10 ∷ []) r out → Appended entry at (line text) r out
line_appended entry at text x y z = appended_both entry at (32 ∷ text) (10 ∷ []) (appended_both entry at (32 ∷ []) text x y) z
