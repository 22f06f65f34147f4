-- RunLaws: the turns of a script, one after another, print what the script means.
use Rattle.std.proofs.Common.{◌≡◌, refl, ap, sym, ◌∙◌, Bool, false, List, ◌++◌, ℕ, suc, length, take, ltb, Option}
use Rattle.foundation.specs.Lists.{append-nil}
use Rattle.script.specs.Meaning.{State, initial, played, asks_help, meaning, most_bytes}
use Rattle.playing.specs.Desks.{label_of, state_of}
use Rattle.playing.specs.Printed.{printed_text}
use Rattle.playing.specs.Turns.{from_next, Run, spent, stops, goes}

pub run_played : (text : List ℕ) (cut : Bool) {n : ℕ} {state : State} {at : ℕ} {printed : List ℕ} → Run text cut n state at printed → printed ≡ played text cut n state at
unfolding played
run_played text cut (spent state at) = refl
run_played text cut (stops n at label state t numbers rows words out p e) =
    sym (append-nil (printed_text (label_of text label) out t.done.printed))
    ∙ sym
    (p.plays n
    ∙ ap
    (λ (next : Option ℕ). printed_text (label_of text label) out t.done.printed
    ++ from_next (played text cut n (state_of (label_of text t.done.label) t.done.desk numbers rows words)) next) e)
run_played text cut (goes n at next label state t numbers rows words out rest p e r) =
    ap (λ (l : List ℕ). printed_text (label_of text label) out t.done.printed ++ l) (run_played text cut r)
    ∙ sym
    (p.plays n
    ∙ ap
    (λ (after : Option ℕ). printed_text (label_of text label) out t.done.printed
    ++ from_next (played text cut n (state_of (label_of text t.done.label) t.done.desk numbers rows words)) after) e)

-- a script that does not ask for help: one turn more than it has bytes
pub run_means : (help script : List ℕ) {printed : List ℕ} → asks_help (take most_bytes script) (ltb most_bytes (length script)) ≡ false
    → Run (take most_bytes script) (ltb most_bytes (length script)) (suc (length (take most_bytes script))) initial 0 printed → printed ≡ meaning help script
unfolding meaning
run_means help script e r = run_played (take most_bytes script) (ltb most_bytes (length script)) r ∙ sym (rw e)
