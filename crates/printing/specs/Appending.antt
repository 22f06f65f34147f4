-- Appending: text put at a place of a buffer, byte by byte; `sets` writes each where there is room.
use Rattle.std.specs.Prelude.{◌≡◌, List, ℕ, ◌+◌, min, length}
use Rattle.std.proofs.lemmas.List.Edits.{sets}
use Rattle.printing.specs.declared.pages.Page.{Page}

-- the place behind n bytes more, or the buffer's end
abbrev pub place_after : List ℕ → ℕ → ℕ → ℕ
place_after out at n = min (at + n) (length out)

-- a text put at a place of a buffer, with the place behind it and what the buffer then holds
pub record Appended (entry : List ℕ) (at : ℕ) (text : List ℕ) (place : ℕ) (out : List ℕ) : Type 0 where
  pub behind : place ≡ place_after entry at (length text)
  pub stored : out ≡ sets entry at text

-- a text put behind what stands on a page, which stays on its buffer
pub record Appends (old new : Page) (text : List ℕ) : Type 0 where
  pub put : Appended old.out.now old.at text new.at new.out.now
  pub same_buffer : new.out.ghost_name ≡ old.out.ghost_name
