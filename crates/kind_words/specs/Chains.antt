-- The numbers below n in chains, one for each symbol: a table names the first number of each symbol, and after each number the
-- next one of its symbol. A fold over the chain of a symbol is the fold over all numbers that changes nothing at the others.
use Rattle.std.specs.Prelude.{◌≡◌, false, List, ℕ, zero, suc, ◌+◌, ◌<◌, ◌≤◌, eqb, length, get_or, set}
use Rattle.std.proofs.Math.Path.{ap, sym}
use Rattle.std.proofs.Common.{◌∙◌, arith, eq-eqb, ne_eqb, length-set, get_or-set_same, get_or-set_other}
use Rattle.std.proofs.Math.Decide.{ℕ_discrete}
use Rattle.std.specs.Int.Bits.{bit_or, or_zero_r}
use Rattle.foundation.specs.Search.{first, first_at, first_none}
use Rattle.foundation.specs.Bits.{or_to, or_none, or_more}
use Rattle.kind_words.specs.Sizes.{rule_symbols}

-- what does not change from r to k is the same at both
pub unchanged : {A : Type 0} (f : ℕ → A) (r k : ℕ) → r ≤ k → ((j : ℕ) → r ≤ j → j < k → f j ≡ f (suc j)) → f r ≡ f k
unchanged f r zero l same = ap f (omega arith)
unchanged f r (suc k) l same = go (ℕ_discrete r (suc k)) (λ m. unchanged f r k m (λ j a b. same j a (omega arith)))
  where
    go : Dec (r ≡ suc k) → (r ≤ k → f r ≡ f k) → f r ≡ f (suc k)
    go (yes e) before = ap f e
    go (no ne) before = before (omega arith) ∙ same k (omega arith) (omega arith)

module _ (symbol_of : ℕ → ℕ) (n : ℕ) where
  -- k is the first number from r on, below n, of symbol s, or n where there is none
  pub record NextFrom (s r k : ℕ) : Type 0 where
    pub after : r ≤ k
    pub most : k ≤ n
    pub passed : k < n → symbol_of k ≡ s
    pub none : (j : ℕ) → r ≤ j → j < k → symbol_of j ≡ s → ⊥

  -- the chains of the numbers from `from` on: the first of symbol s at place firsts + s, the one after r at place nexts + r
  pub record Chained (firsts nexts from : ℕ) (table : List ℕ) : Type 0 where
    pub first : (s : ℕ) → s < rule_symbols → NextFrom s from (get_or table (firsts + s) 0)
    pub next : (r : ℕ) → from ≤ r → r < n → NextFrom (symbol_of r) (r + 1) (get_or table (nexts + r) 0)

  -- the first of a symbol is what a search for it finds
  pub first_chained : {firsts nexts : ℕ} {table : List ℕ} → Chained firsts nexts 0 table → (s : ℕ) → s < rule_symbols
      → first (λ r. eqb (symbol_of r) s) n ≡ get_or table (firsts + s) 0
  first_chained {firsts} {nexts} {table} chained s l = go (ℕ_discrete (get_or table (firsts + s) 0) n)
    where
      found : NextFrom s 0 (get_or table (firsts + s) 0)
      found = chained.first s l

      passed_over : (j : ℕ) → j < get_or table (firsts + s) 0 → eqb (symbol_of j) s ≡ false
      passed_over j h = ne_eqb (symbol_of j) s (found.none j (omega arith) h)

      go : Dec (get_or table (firsts + s) 0 ≡ n) → first (λ r. eqb (symbol_of r) s) n ≡ get_or table (firsts + s) 0
      go (yes e) = first_none _ n (λ j h. passed_over j (omega arith)) ∙ sym e
      go (no ne) =
          let inside : get_or table (firsts + s) 0 < n = omega (arith, found.most) in
          first_at _ n _ inside passed_over (eq-eqb _ s (found.passed inside))

  -- a walk along a chain that started at number `from` and has come to r: what it has gathered fits every symbol whose first
  -- number is `from`
  pub record Walk (Fits : ℕ → Type 0) (from r : ℕ) : Type 0 where
    pub most : r ≤ n
    pub own : (s : ℕ) → NextFrom s 0 from → r < n → symbol_of r ≡ s
    pub fits : (s : ℕ) → NextFrom s 0 from → Fits s

  module _ {firsts nexts : ℕ} {table : List ℕ} (chained : Chained firsts nexts 0 table) where
    pub walk_starts : {Fits : ℕ → Type 0} (s k : ℕ) → s < rule_symbols → k ≡ get_or table (firsts + s) 0 → ((t : ℕ) → NextFrom t 0 k → Fits t) → Walk Fits k k
    walk_starts s k l e start =
        record { most = rw e (chained.first s l).most; own = λ t is. is.passed; fits = start }

    pub walk_goes : {Fits Fits' : ℕ → Type 0} {from r : ℕ} (k : ℕ) → Walk Fits from r → r < n → k ≡ get_or table (nexts + r) 0
        → ((s : ℕ) → symbol_of r ≡ s → Fits s → NextFrom s (r + 1) k → Fits' s)
        → Walk Fits' from k
    walk_goes {r = r} k walk l e step =
        let next : NextFrom (symbol_of r) (r + 1) k = rw e (chained.next r (omega arith) l) in
        record {
          most = next.most;
          own = λ s is m. next.passed m ∙ walk.own s is l;
          fits = λ s is. let o = walk.own s is l in step s o (walk.fits s is) (rw o at next);
        }

    -- it goes forward
    pub walk_less : (r k : ℕ) → r < n → k ≡ get_or table (nexts + r) 0 → r < k
    walk_less r k l e = let next : NextFrom (symbol_of r) (r + 1) k = rw e (chained.next r (omega arith) l) in omega (arith, next.after)

    pub walk_ends : {Fits : ℕ → Type 0} {from r : ℕ} → Walk Fits from r → (s : ℕ) → s < rule_symbols → from ≡ get_or table (firsts + s) 0 → Fits s
    walk_ends walk s l e = walk.fits s (rw e (chained.first s l))

  -- the join over the chain of symbol s, where the numbers of other symbols give nothing
  module _ (s : ℕ) (g : ℕ → ℕ) (nothing : (j : ℕ) → (symbol_of j ≡ s → ⊥) → 0 ≡ g j) where
    or_passed : (r k : ℕ) → NextFrom s r k → or_to g r ≡ or_to g k
    unfolding or_to
    or_passed r k is =
        unchanged (or_to g) r k is.after (λ j x y. sym (or_zero_r (or_to g j)) ∙ ap (bit_or (or_to g j)) (nothing j (is.none j x y)))

    pub or_first : (k : ℕ) → NextFrom s 0 k → 0 ≡ or_to g k
    or_first k is = or_none g ∙ or_passed 0 k is

    pub or_next : (current one r k : ℕ) → current ≡ or_to g r → one ≡ g r → NextFrom s (r + 1) k → bit_or current one ≡ or_to g k
    or_next current one r k e f is = or_more g r current one e f ∙ or_passed (r + 1) k is

  -- two tables that have the same at these places
  pub record SameChains (firsts nexts : ℕ) (before after : List ℕ) : Type 0 where
    pub first : (s : ℕ) → s < rule_symbols → get_or after (firsts + s) 0 ≡ get_or before (firsts + s) 0
    pub next : (r : ℕ) → r < n → get_or after (nexts + r) 0 ≡ get_or before (nexts + r) 0

  pub chained_same : (firsts nexts from : ℕ) (before after : List ℕ) → SameChains firsts nexts before after → Chained firsts nexts from before
      → Chained firsts nexts from after
  chained_same firsts nexts from before after same h =
      record { first = λ s l. rw (same.first s l) (h.first s l); next = λ r l m. rw (same.next r m) (h.next r l m) }

  -- chains of no numbers: the first of each symbol is n
  pub chained_none : (firsts nexts : ℕ) (table : List ℕ) → ((s : ℕ) → s < rule_symbols → get_or table (firsts + s) 0 ≡ n) → Chained firsts nexts n table
  chained_none firsts nexts table h =
      record {
        first = λ s l.
            rw (h s l)
            (record { after = omega arith; most = omega arith; passed = λ m. absurd (omega arith); none = λ j a b. absurd (omega arith) });
        next = λ r l m. absurd (omega arith);
      }

  -- the number r before them, of symbol t: the first of its symbol, and before the one that was
  module _ (firsts nexts r t : ℕ) (table : List ℕ) (h : Chained firsts nexts (r + 1) table) (below : r < n) (is : symbol_of r ≡ t) (small : t < rule_symbols)
      (apart : firsts + rule_symbols ≤ nexts)
      (room : nexts + n ≤ length table) where
    abbrev linked : List ℕ
    linked = set (set table (nexts + r) (get_or table (firsts + t) 0)) (firsts + t) r

    at_first : get_or linked (firsts + t) 0 ≡ r
    at_first =
        get_or-set_same (set table (nexts + r) (get_or table (firsts + t) 0)) (firsts + t) r 0
        (omega (arith, length-set table (nexts + r) (get_or table (firsts + t) 0)))

    other_first : (s : ℕ) → s < rule_symbols → (s ≡ t → ⊥) → get_or linked (firsts + s) 0 ≡ get_or table (firsts + s) 0
    other_first s l ne =
        get_or-set_other (set table (nexts + r) (get_or table (firsts + t) 0)) (firsts + t) (firsts + s) r 0 (λ e. ne (omega arith))
        ∙ get_or-set_other table (nexts + r) (firsts + s) (get_or table (firsts + t) 0) 0 (λ e. omega arith)

    at_next : get_or linked (nexts + r) 0 ≡ get_or table (firsts + t) 0
    at_next =
        get_or-set_other (set table (nexts + r) (get_or table (firsts + t) 0)) (firsts + t) (nexts + r) r 0 (λ e. omega arith)
        ∙ get_or-set_same table (nexts + r) (get_or table (firsts + t) 0) 0 (omega arith)

    other_next : (j : ℕ) → (j ≡ r → ⊥) → get_or linked (nexts + j) 0 ≡ get_or table (nexts + j) 0
    other_next j ne =
        get_or-set_other (set table (nexts + r) (get_or table (firsts + t) 0)) (firsts + t) (nexts + j) r 0 (λ e. omega arith)
        ∙ get_or-set_other table (nexts + r) (nexts + j) (get_or table (firsts + t) 0) 0 (λ e. ne (omega arith))

    own : NextFrom t r r
    own = record { after = omega arith; most = omega arith; passed = λ m. is; none = λ j a b. absurd (omega arith) }

    earlier : (s k : ℕ) → (s ≡ t → ⊥) → NextFrom s (r + 1) k → NextFrom s r k
    earlier s k ne b =
        record {
          after = omega (arith, b.after);
          most = b.most;
          passed = b.passed;
          none = λ j l m e. go j l m e (ℕ_discrete j r);
        }
      where
        go : (j : ℕ) → r ≤ j → j < k → symbol_of j ≡ s → Dec (j ≡ r) → ⊥
        go j l m e (yes q) = ne (sym e ∙ ap symbol_of q ∙ is)
        go j l m e (no nq) = b.none j (omega arith) m e

    pub chained_more : Chained firsts nexts r linked
    chained_more = record { first = λ s l. first_at s l (ℕ_discrete s t); next = λ j l m. next_at j l m (ℕ_discrete j r) }
      where
        first_at : (s : ℕ) → s < rule_symbols → Dec (s ≡ t) → NextFrom s r (get_or linked (firsts + s) 0)
        first_at s l (yes e) = rw (e, at_first) own
        first_at s l (no ne) = rw (other_first s l ne) (earlier s (get_or table (firsts + s) 0) ne (h.first s l))

        next_at : (j : ℕ) → r ≤ j → j < n → Dec (j ≡ r) → NextFrom (symbol_of j) (j + 1) (get_or linked (nexts + j) 0)
        next_at j l m (yes e) = rw (e, at_next, is) (h.first t small)
        next_at j l m (no ne) = rw (other_next j ne) (h.next j (omega arith) m)

    pub length_linked : length linked ≡ length table
    length_linked = length-set (set table (nexts + r) (get_or table (firsts + t) 0)) (firsts + t) r ∙ length-set table (nexts + r) (get_or table (firsts + t) 0)
