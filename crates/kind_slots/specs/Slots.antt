-- The slots of a list of kinds. "Keep beside it 1,024 slots, entered at the five words added with the carry out of 64 bits dropped,
-- modulo 1,024, going on to the next slot, after the last the first, while occupied." A slot has 0, or an entry: a row, and above it
-- a fingerprint of the row's kind, by which most rows of other kinds are told without a look at their words.
use Rattle.std.specs.Prelude.{◌≡◌, ℕ, zero, suc, ◌+◌, ◌-◌, ◌*◌, ◌/◌, ◌%◌, ◌^◌, ◌<◌, ◌≤◌, Bool, false, ◌||◌, List, [], ◌∷◌, length, replicate, ◌==◌, bit_and, nat_eq, slice_index, slice_set}
use Rattle.foundation.specs.Tests.{choose}
use Rattle.foundation.specs.Search.{first}
use Rattle.kind_slots.specs.Stored.{padded_kind, same_kind}

-- "the five words added with the carry out of 64 bits dropped"
unfoldable pub kind_sum : List ℕ → ℕ
kind_sum kind = (slice_index kind 0 + slice_index kind 1 + slice_index kind 2 + slice_index kind 3 + slice_index kind 4) % 2 ^ 64

-- "entered at .. modulo 1,024"
abbrev pub first_slot : List ℕ → ℕ
first_slot kind = kind_sum kind % 1024

-- "going on to the next slot, after the last the first": the slot so many steps on
abbrev pub slot_after : (slot steps : ℕ) → ℕ
slot_after slot steps = (slot + steps) % 1024

-- a number of eleven bits, and above it what it lacks to 2,047: so no fingerprint has all the bits of another. 2,039 is the greatest prime
-- below 2,048, so every bit of the sum counts.
abbrev pub print_of : ℕ → ℕ
print_of sum = sum % 2039 + (2047 - sum % 2039) * 2048

-- the words added with weights, so that most kinds of one sum have other fingerprints
unfoldable pub weighted_sum : List ℕ → ℕ
weighted_sum kind = (5 * slice_index kind 0 + 4 * slice_index kind 1 + 3 * slice_index kind 2 + 2 * slice_index kind 3 + slice_index kind 4) % 2 ^ 64

-- the fingerprint of a kind
abbrev pub fingerprint : List ℕ → ℕ
fingerprint kind = print_of (weighted_sum kind)

-- an entry, whose low ten bits are the row; what is read of it; and the bits that no entry with this fingerprint has
abbrev pub entry_of : List ℕ → ℕ → ℕ
entry_of kind row = fingerprint kind * 2 ^ 10 + row

abbrev pub row_of : ℕ → ℕ
row_of entry = entry % 2 ^ 10

abbrev pub others_of : ℕ → ℕ
others_of print = (2 ^ 22 - 1 - print) * 2 ^ 10

-- "while occupied": how many steps it is from a slot to the first that is not occupied
abbrev pub is_free : List ℕ → ℕ → Bool
is_free slots slot = slice_index slots slot == 0

unfoldable pub steps_to_free : List ℕ → ℕ → ℕ
steps_to_free slots slot = first (λ k. is_free slots (slot_after slot k)) 1024

-- a row is entered under its kind
unfoldable pub entering : (slots kind : List ℕ) (row : ℕ) → List ℕ
entering slots kind row = slice_set slots (slot_after (first_slot kind) (steps_to_free slots (first_slot kind))) (entry_of kind row)

-- the slots of a list: n rows, entered one after the other
unfoldable pub slots_of : List ℕ → ℕ → List ℕ
slots_of words zero = replicate 1024 0
slots_of words (suc n) = entering (slots_of words n) (padded_kind words n) n

-- a search by the slots ends at one that is not occupied or whose row is this kind
abbrev pub ends_at : (words slots kind : List ℕ) → ℕ → Bool
ends_at words slots kind slot = is_free slots slot || same_kind words (row_of (slice_index slots slot)) kind

unfoldable pub slot_of : (words slots kind : List ℕ) → ℕ
slot_of words slots kind = slot_after (first_slot kind) (first (λ k. ends_at words slots kind (slot_after (first_slot kind) k)) 1024)

-- how many steps it is from a place to the first entry, or free slot, that has none of these bits
unfoldable pub steps_past : List ℕ → (place others : ℕ) → ℕ
steps_past slots place others = first (λ k. nat_eq (bit_and (slice_index slots (slot_after place k)) others) 0) 1024

-- the row in a slot, or n
abbrev pub row_in : List ℕ → (slot n : ℕ) → ℕ
row_in slots slot n = choose (is_free slots slot) n (row_of (slice_index slots slot))

-- how many slots are occupied
unfoldable pub occupied : List ℕ → ℕ
occupied [] = 0
occupied (entry ∷ slots) = choose (entry == 0) 0 1 + occupied slots

-- the row of an entry stands in the words, under its kind's fingerprint
pub record EntryStands (words : List ℕ) (entry : ℕ) : Type 0 where
  pub inside : 5 * row_of entry + 5 ≤ length words
  pub printed : entry / 2 ^ 10 ≡ fingerprint (padded_kind words (row_of entry))

-- there are 1,024 slots, of which at most half are occupied
pub record HalfFree (slots : List ℕ) : Type 0 where
  pub long : length slots ≡ 1024
  pub few : occupied slots ≤ 512

-- what a search by the slots asks: so one comes that is not occupied; and the rows in the others stand in the words
pub record Searchable (words slots : List ℕ) : Type 0 where
  pub half : HalfFree slots
  pub stands : (slot : ℕ) → is_free slots slot ≡ false → EntryStands words (slice_index slots slot)

-- the slots are those of a list of n distinct kinds, at most 512
pub record Entered (words : List ℕ) (n : ℕ) (slots : List ℕ) : Type 0 where
  pub few : n ≤ 512
  pub distinct : (i j : ℕ) → i < j → j < n → same_kind words i (padded_kind words j) ≡ false
  pub slots_are : slots ≡ slots_of words n
