-- Two examples at a time, as two tables: which stretch comes back, and what is refused. The checker computes every line of them.
use Rattle.std.specs.Prelude.{◌≡◌, refl, List, [], ◌∷◌, map, ℕ, replicate}
use Rattle.model.specs.Answers.{Verdict, fine, refused}
use Rattle.model.specs.Shorter.{Stretch, in_first, in_second, of_second, shorter_verdict, fewer, shorter}
use Rattle.worked_table.specs.Table.{computing}

-- two buffers, with the verdict and the stretch due
pub record Pair : Type 0 where
  pub symbols : ℕ
  pub first : List ℕ
  pub second : List ℕ
  pub verdict : Verdict
  pub stretch : Stretch

-- nothing is refused
abbrev pub compared : ℕ → (xs ys : List ℕ) → Stretch → Pair
compared S xs ys s = record { symbols = S; first = xs; second = ys; verdict = fine; stretch = s }

-- something is
abbrev pub stopped : ℕ → (xs ys : List ℕ) → (number place : ℕ) → Pair
stopped S xs ys number place = record { symbols = S; first = xs; second = ys; verdict = refused number place; stretch = in_first 0 }

abbrev pub pairs : List Pair
pairs =
    -- the second is shorter, the first is, and a tie
    compared 2 (1 ∷ 0 ∷ 1 ∷ 0 ∷ 0 ∷ []) (1 ∷ 0 ∷ 0 ∷ []) (in_second 3)
    ∷ compared 2 (0 ∷ []) (1 ∷ 0 ∷ 0 ∷ []) (in_first 1)
    ∷ compared 2 (1 ∷ 0 ∷ 0 ∷ []) (1 ∷ 0 ∷ 0 ∷ []) (in_first 3)
    -- what follows a tree does not count, whatever it is
    ∷ compared 2 (0 ∷ 65535 ∷ 1 ∷ 1 ∷ []) (1 ∷ 0 ∷ 0 ∷ []) (in_first 1)
    -- no symbols, one, sixteen, seventeen
    ∷ stopped 0 (0 ∷ []) (0 ∷ []) 1 0
    ∷ compared 1 (0 ∷ []) (0 ∷ []) (in_first 1)
    ∷ compared 16 (15 ∷ 0 ∷ 0 ∷ []) (0 ∷ []) (in_second 1)
    ∷ stopped 17 (0 ∷ []) (0 ∷ []) 1 0
    -- the first buffer, also where the second is bad too
    ∷ stopped 2 (1 ∷ 0 ∷ []) (2 ∷ []) 12 2
    -- the second buffer, also where the first tree is shorter
    ∷ stopped 2 (0 ∷ []) (1 ∷ 2 ∷ 0 ∷ []) 55 1
    ∷ stopped 2 (0 ∷ []) [] 55 0
    ∷ []

-- more than 1,023 numbers, or just as many: behind the tree, in the first buffer, and in the second
abbrev pub long_pairs : List Pair
long_pairs =
    compared 2 (1 ∷ 0 ∷ 0 ∷ []) (0 ∷ replicate 1023 1) (in_second 1)
    ∷ stopped 2 (replicate 1024 1) [] 11 1024
    ∷ stopped 2 (0 ∷ []) (replicate 1023 1) 55 1023
    ∷ stopped 2 (0 ∷ []) (replicate 1024 1) 54 1024
    ∷ []

-- the same buffers, with what the definitions say of them
abbrev pub asked : Pair → Pair
asked p =
    record {
      symbols = p.symbols;
      first = p.first;
      second = p.second;
      verdict = shorter_verdict p.symbols p.first p.second;
      stretch = shorter p.symbols p.first p.second;
    }

-- the definitions give every line
pub examples : map asked pairs ≡ pairs
unfolding computing of_second shorter_verdict fewer shorter
examples = refl

pub long_examples : map asked long_pairs ≡ long_pairs
unfolding computing of_second shorter_verdict fewer shorter
long_examples = refl
