-- Words of lanes: a word holds for each output state q a lane of L bits, one for each assignment of parameter states.
-- Bit q * L + c says that state q is given at assignment c. A symbol and a call are computed for all assignments at once.
use Rattle.std.specs.Prelude.{◌≡◌, refl, List, [], ◌∷◌, Bool, true, false, ℕ, suc, ◌+◌, ◌*◌, ◌-◌, ◌/◌, ◌^◌, ◌<◌, ◌≤◌, length, get_or}
use Rattle.std.proofs.Common.{ap, sym, ◌∙◌, add_comm, mul-le-mul_right, arith, pow_mono, shl_lt}
use Rattle.std.proofs.Math.Decide.{ℕ_discrete, dec_lt}
use Rattle.std.proofs.Math.Arith.{digits_lt}
use Rattle.std.specs.Int.Bits.{bit_and, mask_lt}
use Rattle.std.proofs.lemmas.Nat.{and_le_l, and_le_r}
use Rattle.foundation.specs.Words.{bit}
use Rattle.foundation.specs.Tests.{◌and◌, same, some_below, some_cong}
use Rattle.foundation.specs.TestLaws.{and_false, and_true, and_over, some_and, same_yes, same_no}
use Rattle.foundation.specs.Bits.{bit-and, bit_shr, bit_shl, bit_shl_low, bit_high, bit_mask, spread, or_to, or_to_bit, or_to_lt}

module _ (O L : ℕ) where
  pub record Lanes (w : ℕ) (f : ℕ → ℕ → Bool) : Type 0 where
    pub small : w < 2 ^ (O * L)
    pub bits : (q c : ℕ) → q < O → c < L → bit w (q * L + c) ≡ f q c

  -- lanes of a known word under another name
  pub lanes_eq : {w : ℕ} {f g : ℕ → ℕ → Bool} → Lanes w f → ((q c : ℕ) → q < O → c < L → f q c ≡ g q c) → Lanes w g
  lanes_eq h e = record { small = h.small; bits = λ q c hq hc. h.bits q c hq hc ∙ e q c hq hc }

  pub lanes_or : (g : ℕ → ℕ) (h : ℕ → ℕ → ℕ → Bool) (n : ℕ) → ((y : ℕ) → y < n → Lanes (g y) (h y)) → Lanes (or_to g n) (λ q c. some_below n (λ y. h y q c))
  lanes_or g h n k =
      record {
        small = or_to_lt (O * L) g n (λ y l. (k y l).small);
        bits = λ q c hq hc. or_to_bit g n (q * L + c) ∙ some_cong n (λ y. bit (g y) (q * L + c)) (λ y. h y q c) (λ y l. (k y l).bits q c hq hc);
      }

  -- a lane word put at state t
  pub lane_at : (m t : ℕ) → m < 2 ^ L → t < O → Lanes (m * 2 ^ (t * L)) (λ q c. bit m c and same q t)
  lane_at m t hm ht =
      record {
        small = fits;
        bits = λ q c hq hc. pick q c hc (ℕ_discrete q t) (dec_lt q t);
      }
    where
      fits : m * 2 ^ (t * L) < 2 ^ (O * L)
      fits =
          let a : m * 2 ^ (t * L) < 2 ^ (L + t * L) = shl_lt L (t * L) hm in
          let k : suc t * L ≤ O * L = mul-le-mul_right L ht in
          let b : 2 ^ (L + t * L) ≤ 2 ^ (O * L) = pow_mono {i = L + t * L} {j = O * L} (omega arith) in
          omega arith

      gap : (t d c : ℕ) → suc (t + d) * L + c ≡ t * L + (L + (d * L + c))
      gap t d c = omega arith

      pick : (q c : ℕ) → c < L → Dec (q ≡ t) → Dec (q < t) → bit (m * 2 ^ (t * L)) (q * L + c) ≡ (bit m c and same q t)
      pick q c hc (yes e) d = rw (e, same_yes t t refl) (bit_shl m (t * L) c ∙ sym (and_true (bit m c)))
      pick q c hc (no ne) (yes l) = rw (same_no q t ne) (bit_shl_low m (t * L) (q * L + c) (digits_lt l hc) ∙ sym (and_false (bit m c)))
      pick q c hc (no ne) (no nl) =
          let d : ℕ = q - suc t in
          let e : q ≡ suc (t + d) = omega arith in
          let f : q * L + c ≡ t * L + (L + (d * L + c)) = ap (λ (x : ℕ). x * L + c) e ∙ gap t d c in
          rw (same_no q t ne, f) (bit_shl m (t * L) (L + (d * L + c)) ∙ bit_high m L (L + (d * L + c)) hm (omega arith) ∙ sym (and_false (bit m c)))

  -- bits L apart, one for each state
  pub record Starts (qs : ℕ) : Type 0 where
    pub small : qs < 2 ^ (O * L)
    pub first : (q : ℕ) → q < O → bit qs (q * L) ≡ true
    pub other : (q c : ℕ) → q < O → 0 < c → c < L → bit qs (q * L + c) ≡ false

  starts_bit : (e qs d i : ℕ) → bit (bit_and (e / 2 ^ d) qs) i ≡ (bit e (d + i) and bit qs i)
  starts_bit e qs d i = bit-and (e / 2 ^ d) qs i ∙ ap (λ (b : Bool). b and bit qs i) (bit_shr e d i)

  -- a lane word put at each state whose bit of e, d further up, is set
  pub lane_times : (m e qs d : ℕ) → m < 2 ^ L → Starts qs → 0 < L → Lanes (m * bit_and (e / 2 ^ d) qs) (λ q c. bit m c and bit e (q * L + d))
  lane_times m e qs d hm st h0 =
      let w : ℕ = bit_and (e / 2 ^ d) qs in
      let sm : w < 2 ^ (O * L) = omega (arith, and_le_r (e / 2 ^ d) qs, st.small) in
      let f = spread L m O w h0 hm sm (λ q c hq p hc. starts_bit e qs d (q * L + c) ∙ ap (λ (b : Bool). bit e (d + (q * L + c)) and b) (st.other q c hq p hc) ∙ and_false _) in
      record {
        small = f.0;
        bits = λ q c hq hc. f.1 q c hq hc ∙ ap (λ (b : Bool). bit m c and b)
            (starts_bit e qs d (q * L) ∙ ap (λ (b : Bool). bit e (d + q * L) and b) (st.first q hq) ∙ and_true _ ∙ ap (λ (i : ℕ). bit e i) (add_comm d (q * L)));
      }

  -- the lanes of b at state y, where ax is; and the lanes of a at x
  pub cut_lt : (ax b y : ℕ) → ax < 2 ^ L → bit_and ax (b / 2 ^ (y * L)) < 2 ^ L
  cut_lt ax b y h = omega (arith, and_le_l ax (b / 2 ^ (y * L)))

  pub cut_bit : (ax b y c : ℕ) → bit (bit_and ax (b / 2 ^ (y * L))) c ≡ (bit ax c and bit b (y * L + c))
  cut_bit ax b y c = bit-and ax (b / 2 ^ (y * L)) c ∙ ap (λ (t : Bool). bit ax c and t) (bit_shr b (y * L) c)

  pub lane_bit : (a x c : ℕ) → c < L → bit (bit_and (a / 2 ^ (x * L)) (2 ^ L - 1)) c ≡ bit a (x * L + c)
  lane_bit a x c h = bit_mask (a / 2 ^ (x * L)) L c h ∙ bit_shr a (x * L) c

  -- a row of choices: lanes of b at y, for each y, where ax is
  pub row_lanes : (ax b n : ℕ) (g : ℕ → ℕ → ℕ) (h : ℕ → ℕ → ℕ → Bool) → ax < 2 ^ L
      → ((y m : ℕ) → y < n → m < 2 ^ L → Lanes (g y m) (λ q c. bit m c and h y q c))
      → Lanes (or_to (λ y. g y (bit_and ax (b / 2 ^ (y * L)))) n) (λ q c. bit ax c and some_below n (λ y. bit b (y * L + c) and h y q c))
  row_lanes ax b n g h ha k =
      lanes_eq
      (lanes_or (λ y. g y (bit_and ax (b / 2 ^ (y * L)))) (λ y q c. bit (bit_and ax (b / 2 ^ (y * L))) c and h y q c) n (λ y l. k y (bit_and ax (b / 2 ^ (y * L))) l (cut_lt ax b y ha)))
      (λ q c hq hc.
      some_cong n _ _ (λ y l. ap (λ (t : Bool). t and h y q c) (cut_bit ax b y c) ∙ and_over (bit ax c) (bit b (y * L + c)) (h y q c))
      ∙ some_and (bit ax c) n (λ y. bit b (y * L + c) and h y q c))

  -- choices of the lanes of a
  pub all_lanes : (a n : ℕ) (g : ℕ → ℕ → ℕ) (h : ℕ → ℕ → ℕ → Bool)
      → ((x m : ℕ) → x < n → m < 2 ^ L → Lanes (g x m) (λ q c. bit m c and h x q c))
      → Lanes (or_to (λ x. g x (bit_and (a / 2 ^ (x * L)) (2 ^ L - 1))) n) (λ q c. some_below n (λ x. bit a (x * L + c) and h x q c))
  all_lanes a n g h k =
      lanes_eq
      (lanes_or (λ x. g x (bit_and (a / 2 ^ (x * L)) (2 ^ L - 1))) (λ x q c. bit (bit_and (a / 2 ^ (x * L)) (2 ^ L - 1)) c and h x q c) n
      (λ x l. k x (bit_and (a / 2 ^ (x * L)) (2 ^ L - 1)) l (mask_lt (a / 2 ^ (x * L)) L)))
      (λ q c hq hc. some_cong n _ _ (λ x l. ap (λ (t : Bool). t and h x q c) (lane_bit a x c hc)))

  -- a symbol over two words: out x y is the state of x and y
  abbrev pub symbol_row : ℕ → ℕ → (ℕ → ℕ) → ℕ → ℕ
  symbol_row ax b out n = or_to (λ y. bit_and ax (b / 2 ^ (y * L)) * 2 ^ (out y * L)) n

  abbrev pub symbol_word : ℕ → ℕ → (ℕ → ℕ → ℕ) → ℕ → ℕ
  symbol_word a b out n = or_to (λ x. symbol_row (bit_and (a / 2 ^ (x * L)) (2 ^ L - 1)) b (out x) O) n

  pub symbol_lanes : (a b : ℕ) (out : ℕ → ℕ → ℕ) → ((x y : ℕ) → x < O → y < O → out x y < O)
      → Lanes (symbol_word a b out O) (λ q c. some_below O (λ x. bit a (x * L + c) and some_below O (λ y. bit b (y * L + c) and same q (out x y))))
  symbol_lanes a b out h =
      all_lanes a O (λ x m. symbol_row m b (out x) O) (λ x q c. some_below O (λ y. bit b (y * L + c) and same q (out x y)))
      (λ x m hx hm. row_lanes m b O (λ y t. t * 2 ^ (out x y * L)) (λ y q c. same q (out x y)) hm (λ y t hy ht. lane_at t (out x y) ht (h x y hx hy)))

  -- A call over the words of its arguments, however many: for each choice of their states the assignments at which they have
  -- them, put at each result state whose fact is set. m has the assignments at which the states chosen so far are had, d is the
  -- code of those states; bit q * L + code of e is the fact of result state q.
  abbrev pub call_lanes : (qs e m d : ℕ) → List ℕ → ℕ
  call_lanes qs e m d [] = m * bit_and (e / 2 ^ d) qs
  call_lanes qs e m d (a ∷ rest) = or_to (λ x. call_lanes qs e (bit_and m (a / 2 ^ (x * L))) (d * O + x) rest) O

  -- the same for the first n states of the next argument
  abbrev pub call_states : (qs e m d a : ℕ) → List ℕ → ℕ → ℕ
  call_states qs e m d a rest n = or_to (λ x. call_lanes qs e (bit_and m (a / 2 ^ (x * L))) (d * O + x) rest) n

  -- some choice of argument states, had at assignment c, has a code that passes the test
  abbrev pub some_code : List ℕ → (c d : ℕ) → (ℕ → Bool) → Bool
  some_code [] c d test = test d
  some_code (a ∷ rest) c d test = some_below O (λ x. bit a (x * L + c) and some_code rest c (d * O + x) test)

  pub call-lanes : (qs : ℕ) → Starts qs → 0 < L → (e m d : ℕ) (rest : List ℕ) → m < 2 ^ L
      → Lanes (call_lanes qs e m d rest) (λ q c. bit m c and some_code rest c d (λ i. bit e (q * L + i)))
  call-lanes qs st some e m d [] h = lane_times m e qs d h st some
  call-lanes qs st some e m d (a ∷ rest) h =
      row_lanes m a O (λ x t. call_lanes qs e t (d * O + x) rest) (λ x q c. some_code rest c (d * O + x) (λ i. bit e (q * L + i))) h
      (λ x t hx ht. call-lanes qs st some e t (d * O + x) rest ht)

-- o lanes of l bits fit into a word
pub record Sized (o l : ℕ) : Type 0 where
  pub some : 0 < l
  pub fit : o * l ≤ 64

-- the words that say how lanes lie: one lane of ones, and the first bit of each lane
pub record Laid (o l ones starts : ℕ) : Type 0 where
  pub sized : Sized o l
  pub lane : ones ≡ 2 ^ l - 1
  pub firsts : Starts o l starts

-- n states from place i of a table of states below o
pub record StatesAt (o i n : ℕ) (table : List ℕ) : Type 0 where
  pub inside : i + n ≤ length table
  pub states : (k : ℕ) → k < length table → get_or table k 0 < o
