-- Parts of a list, and its line feeds.
use mathlib.Core.Path.{◌≡◌, refl, ap, sym, ◌∙◌}
use mathlib.Core.Bool.{Bool, true, false}
use mathlib.Core.List.{List, [], ◌∷◌}
use Prim.Native.Nat.{ℕ, ◌+◌, ◌-◌, ◌≤◌, ◌<◌, min}
use native.Mathlib.Omega.{arith}
use lib.Dec.{leb}
use borrow.Author.Tests.{leb-true, leb-false}
use lib.ListN.{length, take, drop, length-drop}
use Rattle.foundation.specs.Lists.{take_clipped}
use Rattle.lexing.specs.Text.{newlines, line_feed}
use Rattle.lexing.proofs.Scans.{newlines_further, newlines_none, line_feed_small}

-- a stretch that begins within a list
pub part_clipped : (l : List ℕ) (from to start end : ℕ) → from < length l → end ≡ min to (length l) → start ≡ min from end
    → take (to - from) (drop from l) ≡ take (end - start) (drop start l)
part_clipped l from to start end h e s = go (leb from to) refl
  where
    go : (t : Bool) → leb from to ≡ t → take (to - from) (drop from l) ≡ take (end - start) (drop start l)
    go true t =
        let k : from ≤ to = leb-true _ _ t in
        let same : from ≡ start = omega arith in
        take_clipped (drop from l) (to - from) (end - start) (omega (arith, length-drop from l))
        ∙ ap (λ (m : ℕ). take (end - start) (drop m l)) same
    go false t =
        let k : to < from = leb-false _ _ t in
        ap (λ (m : ℕ). take m (drop from l)) (let z : to - from ≡ 0 = omega arith in z)
        ∙ sym (ap (λ (m : ℕ). take m (drop start l)) (let z : end - start ≡ 0 = omega arith in z))

-- there are no more line feeds than bytes
pub newlines_most : (l : List ℕ) → newlines l ≤ length l
newlines_most [] = let none : newlines [] ≡ 0 = newlines_none [] 0 (omega arith) in omega arith
newlines_most (b ∷ l) =
    let further : newlines (b ∷ l) ≡ line_feed b + newlines l = newlines_further (b ∷ l) 0 (omega arith) in
    omega (arith, line_feed_small b, newlines_most l)
