-- Where a round stops, the list ends.
use Rattle.std.specs.Prelude.{◌≡◌, List, ℕ, suc, ◌≤◌, length, Result, Ok, Err, MatchResult, IsErrAnd}
use Rattle.model.specs.Tables.{Contract}
use Rattle.model.specs.Rounds.{kind_automaton, rounds}
use Rattle.kind_lists.specs.Outcomes.{stop_after, Outcome}
use Rattle.kind_lists.specs.declared.Stop.{Stop}
use Rattle.kind_lists.specs.declared.ListStop.{ListStop}
use Rattle.kind_lists.proofs.Stops.{list_stops, list_stops_first}
use Rattle.rounds.specs.Lists.{GoesOn}

-- how a stretch of offers ends, where it stops told of the list: `Said stop why` is what is known of the `why` made of a stop
abbrev pub ToldBy : (Stop → ListStop → Type 0) → Result ℕ Stop → Result ℕ ListStop → Type 0
ToldBy Said step told = MatchResult step (λ n. told ≡ Ok n) (λ stop. IsErrAnd told (Said stop))

module _ (C : Contract) (G : ℕ → Type 0) (limit : ℕ) (rows words : List ℕ) (Said : Stop → ListStop → Type 0) where
  -- in round 0
  pub first_told : 1 ≤ limit → (step : Result ℕ Stop) (told : Result ℕ ListStop) → ToldBy Said step told
      → ((stop : Stop) (why : ListStop) → Said stop why → why ≡ stop_after 0 stop)
      → Outcome C G limit 0 rows words step → GoesOn C G limit rows words told
  first_told some (Ok n) told same said o = rw same o
  first_told some (Err stop) (Err why) saying said o = rw (said stop why saying) (list_stops_first C limit rows words stop some o)
  first_told some (Err stop) (Ok _) saying said o = elim saying [ ]

  -- in the round after one whose rows there is room for
  pub round_told : (h : ℕ) → length (rounds (kind_automaton C) h) ≤ limit → (step : Result ℕ Stop) (told : Result ℕ ListStop) → ToldBy Said step told
      → ((stop : Stop) (why : ListStop) → Said stop why → why ≡ stop_after h stop)
      → Outcome C G limit (suc h) rows words step → GoesOn C G limit rows words told
  round_told h held (Ok n) told same said o = rw same o
  round_told h held (Err stop) (Err why) saying said o = rw (said stop why saying) (list_stops C limit h rows words stop held o)
  round_told h held (Err stop) (Ok _) saying said o = elim saying [ ]
