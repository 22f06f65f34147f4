-- The words are copied at once, which puts the same as word by word.
use Rattle.std.proofs.Common.{rules, ◌≡◌, ◌≤◌, ◌+◌, ◌*◌, ◌-◌, ℕ, length, take, sym, ap, ◌∙◌, arith}
use Rattle.std.proofs.lemmas.List.{length-take-le}
use Rattle.std.proofs.lemmas.Slice.{put_mid-paste}
use Rattle.std.proofs.Math.Seq.{paste}
use Rattle.classes.specs.Masks.{mask_words}
use Rattle.masks.specs.Seen.{pasted_stored}
use Rattle.masks.proofs.store_mask.Goals as goal

pub returns : goal.returns
returns c =
    let start = c.number-start.result in
    let masks = c.args.masks.now in
    let mask = c.args.mask.now in
    let five : mask_words ≤ length mask = search rules in
    let copied : c.copy_from_slice.new.self ≡ take 5 mask = search rules in
    put_mid-paste (5 * start) (5 * start + 5 - 5 * start) masks c.copy_from_slice.new.self (take 5 mask) 5 copied (omega arith) (sym (length-take-le 5 mask five))
    ∙ ap (λ (s : ℕ). paste masks (5 * s) (take 5 mask) 5) c.number-start.ensures
    ∙ pasted_stored masks c.args.symbol.0 mask five c.requires
