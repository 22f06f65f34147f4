-- A table of where the tree of each place ends.
use Rattle.std.specs.Prelude.{◌≡◌, List, ℕ, ◌≤◌, ◌<◌, length, get_or}
use Rattle.model.proofs.Laws.Documents.{end_from}

-- for each place of the numbers from `least` on, its entry is the place after the tree that starts there
abbrev pub EndsFrom : ℕ → List ℕ → List ℕ → Type 0
EndsFrom least numbers table = (i : ℕ) → least ≤ i → i < length numbers → get_or table i 0 ≡ end_from numbers i
