-- What an offer comes to, by cases.
use mathlib.Core.Path.{◌≡◌, ap, subst, sym, ◌∙◌}
use mathlib.Core.Bool.{Bool, true, false, not}
use mathlib.Core.List.{List}
use Prim.Native.Nat.{ℕ, ◌+◌, ◌<◌}
use borrow.Author.Tests.{eq-eqb, ne_eqb}
use lib.ListN.{set}
use Rattle.std.specs.Prelude.{Result, Ok, Err}
use Rattle.foundation.specs.Tests.{choose}
use Rattle.breaking.specs.Verdicts.{breaking}
use Rattle.breaking.specs.declared.Verdicts.{Verdicts}
use Rattle.kind_slots.specs.Stored.{kind_listed, with_kind}
use Rattle.kind_slots.specs.Slots.{is_free, slot_of, entry_of, Entered}
use Rattle.kind_slots.proofs.Finding.{slots_tell}
use Rattle.kind_lists.specs.Listing.{with_row, Offering, Becomes, offering}
use Rattle.kind_lists.specs.declared.Stop.TheVariants as stop
use Rattle.kind_lists.specs.Closing.{rows_standing}
use Rattle.kind_lists.specs.declared.ListStop.{ListStop}
use Rattle.kind_lists.specs.declared.ListStop.TheVariants as list-stop

module _ (v : Verdicts) (limit n symbol left right : ℕ) (kind slots rows words : List ℕ) (e : Entered words n slots) {slot : ℕ} (searched : slot ≡ slot_of words slots kind) {listed : Bool} (occupied : listed ≡ not (is_free slots slot)) where
  abbrev pub outcome : Offering
  outcome = offering v limit n symbol left right kind slots rows words

  -- the slot tells what a search of the list would
  told : listed ≡ kind_listed words n kind
  told = occupied ∙ ap (λ (s : ℕ). not (is_free slots s)) searched ∙ slots_tell words n slots e kind

  pub offer_old : listed ≡ true → Becomes outcome (Ok n) slots rows words
  unfolding offering
  offer_old t = let old = sym told ∙ t in record { answer = rw old; slots = rw old; rows = rw old; words = rw old }

  module _ (t : listed ≡ false) where
    new : kind_listed words n kind ≡ false
    new = sym told ∙ t

    pub offer_full : n ≡ limit → Becomes outcome (Err stop.Full) slots rows words
    unfolding offering
    offer_full f =
        let full = eq-eqb n limit f in
        record { answer = rw (new, full); slots = rw (new, full); rows = rw (new, full); words = rw (new, full) }

    -- where there is a row left
    pub offer_stored : (n ≡ limit → ⊥) → {broken : Bool} → broken ≡ breaking v.accepted v.refused kind → (b : Bool) → broken ≡ b
        → {slots' rows' words' : List ℕ} → slots' ≡ set slots slot (entry_of kind n) → rows' ≡ with_row rows n symbol left right → words' ≡ with_kind words n kind
        → Becomes outcome (choose b (Err (stop.Breaks n)) (Ok (n + 1))) slots' rows' words'
    unfolding offering
    offer_stored f eb b e es er ew =
        let room = ne_eqb n limit f in
        let verdict : breaking v.accepted v.refused kind ≡ b = sym eb ∙ e in
        record {
          answer = rw (new, room, verdict);
          slots = rw (new, room) (es ∙ ap (λ (s : ℕ). set slots s (entry_of kind n)) searched);
          rows = rw (new, room) er;
          words = rw (new, room) ew;
        }

-- the row that breaks a contract is few
pub standing_small : (p : Result ℕ ListStop) (j : ℕ) → p ≡ Err (list-stop.Breaks j) → rows_standing p < 65536 → j + 1 < 65536
standing_small p j e h = subst (λ (x : Result ℕ ListStop). rows_standing x < 65536) e h
