-- What a caller may conclude from the two answers: the part that came back, and what the second question told.
use Rattle.std.specs.Prelude.{◌≡◌, [], ◌↔◌, ℕ, ◌≤◌}
use Rattle.std.proofs.Common.{ap, sym, subst, ◌∙◌}
use Rattle.model.specs.Answers.{Verdict, fine, refused}
use Rattle.model.specs.Refusals.{RefusesFor, HasDocument}
use Rattle.model.specs.Shorter.{Stretch, shorter_verdict, shorter, SymbolsInRange, shorter_reasons, ShorterTree}
use Rattle.model.proofs.Meaning.Shorter.{compares}
use Rattle.comparing.specs.Stretches.{Slice, Part, part_of, shorter_part}

-- the part is a stretch of the two buffers, in its place, and that stretch is the shorter of the trees that they begin with
pub record HandsBack (S : ℕ) (first second : Slice) (part : Part) : Type 0 where
  pub stretch : Stretch
  pub in_place : part ≡ part_of stretch first second
  pub some : 1 ≤ stretch.count
  pub is_shorter : ShorterTree S first.now second.now stretch

-- what the two answers mean, whichever come
pub record CallMeans (S : ℕ) (first second : Slice) (part : Part) (told : Verdict) : Type 0 where
  -- "a second question tells its number and place, or none"
  pub refuses : RefusesFor (shorter_reasons S first.now second.now) told
  pub passes : (told ≡ fine) ↔ (SymbolsInRange S × HasDocument S first.now × HasDocument S second.now)
  pub hands : told ≡ fine → HandsBack S first second part
  -- "the empty stretch at the first buffer's start"
  pub hands_nothing : (number place : ℕ) → told ≡ refused number place → part ≡ record { start = first.ref_ptr; numbers = [] }

-- by what the two functions promise
pub call_means : (S : ℕ) (first second : Slice) (part : Part) (told : Verdict) → part ≡ shorter_part S first second
    → told ≡ shorter_verdict S first.now second.now → CallMeans S first second part told
call_means S first second part told came tells =
    let c = compares S first.now second.now in
    record {
      refuses = subst (RefusesFor (shorter_reasons S first.now second.now)) (sym tells) c.refuses;
      passes = (λ e. c.passes.0 (sym tells ∙ e), λ good. tells ∙ c.passes.1 good);
      hands = λ e.
          record { stretch = shorter S first.now second.now; in_place = came; some = c.hands_some (sym tells ∙ e); is_shorter = c.hands (sym tells ∙ e) };
      hands_nothing = λ number place e. came ∙ ap (λ (s : Stretch). part_of s first second) (c.hands_nothing number place (sym tells ∙ e));
    }
