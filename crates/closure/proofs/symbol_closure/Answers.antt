-- The first kinds of the classes on each side are gone through in pairs, and tell of all kinds.
use native.Mathlib.Omega.{arith}
use Rattle.closure.proofs.Classes.{class_firsts, class_numbers, tells_number, tells_symbol}
use Rattle.closure.proofs.symbol_closure.Goals as goal

pub closure_over-requires : goal.closure_over-requires
closure_over-requires c =
    let sent = c.args.sent.now in
    let masked = sent.masked.now in
    let left_mask = c.kind_at-left_mask.ensures in
    let right_mask = c.kind_at-right_mask.ensures in
    let lefts = c.chain_rows-left_count.ensures in
    let rights = c.chain_rows-right_count.ensures in (
      omega (arith, c.symbol_of.ensures, c.requires.1, masked.prepared.ready.established.symbols.≤most),
      class_numbers sent.words.now masked.left_masks c.args.number left_mask lefts _ sent.searchable.few,
      class_numbers sent.words.now masked.right_masks c.args.number right_mask rights _ sent.searchable.few,
    )

pub returns : goal.returns
returns c =
    let sent = c.args.sent.now in
    let masked = sent.masked.now in
    let number = c.args.number in
    let left_mask = c.kind_at-left_mask.ensures in
    let right_mask = c.kind_at-right_mask.ensures in
    let lefts = c.chain_rows-left_count.ensures in
    let rights = c.chain_rows-right_count.ensures in
    let first_lefts = class_firsts sent.words.now masked.left_masks number left_mask lefts in
    let first_rights = class_firsts sent.words.now masked.right_masks number right_mask rights in
    tells_symbol _ masked.prepared.ready.established _ _ masked.covered sent.words.now number c.requires.0 c.requires.1 _ _ first_lefts first_rights
    c.closure_over.result
    (tells_number _ _ _ _ c.closure_over.result c.symbol_of.ensures c.closure_over.ensures)
