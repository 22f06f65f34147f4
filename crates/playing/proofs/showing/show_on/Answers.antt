-- Case by case: what was left fits the buffers, and its lines fit the output.
use Rattle.std.proofs.Common.{◌∙◌, ◌++◌, ◌+◌, ◌≤◌, length, take, length-take, arith}
use Rattle.script.specs.Phrases as phrases
use Rattle.script.specs.Meaning.{line, spaced, untouched}
use Rattle.playing.proofs.PlayLaws.{one_line, one_fits, two_lines, two_fit, from_start, list_line, sevens_length}
use Rattle.playing.proofs.showing.show_on.Goals as goal

pub returns-in-Rows : goal.returns-in-Rows
returns-in-Rows c =
    let out = c.args.page.now.out.now in
    let f = rw c.in-Rows.is at c.requires.0 in
    let text = phrases.rows ++ spaced (take c.in-Rows.n c.args.rows.now) in
    let short : length (line text) ≤ length out = omega (arith, f, c.requires.1.rows_long, c.requires.1.words_long, c.requires.1.out_long, list_line phrases.rows (take c.in-Rows.n c.args.rows.now), length-take c.in-Rows.n c.args.rows.now) in
    let p = from_start c.requires.2 c.rows_line.ensures in
    rw c.in-Rows.is (record { result_after = one_line out text p short; printed_fits = one_fits out text p short; same_buffer = c.rows_line.ensures.same_buffer })

pub returns-in-Words : goal.returns-in-Words
returns-in-Words c =
    let out = c.args.page.now.out.now in
    let f = rw c.in-Words.is at c.requires.0 in
    let text = phrases.words ++ spaced (take c.in-Words.m c.args.words.now) in
    let short : length (line text) ≤ length out = omega (arith, f, c.requires.1.rows_long, c.requires.1.words_long, c.requires.1.out_long, list_line phrases.words (take c.in-Words.m c.args.words.now), length-take c.in-Words.m c.args.words.now) in
    let p = from_start c.requires.2 c.words_line.ensures in
    rw c.in-Words.is (record { result_after = one_line out text p short; printed_fits = one_fits out text p short; same_buffer = c.words_line.ensures.same_buffer })

pub returns-in-Both : goal.returns-in-Both
returns-in-Both c =
    let out = c.args.page.now.out.now in
    let f = rw c.in-Both.is at c.requires.0 in
    let first = phrases.rows ++ spaced (take c.in-Both.n c.args.rows.now) in
    let second = phrases.words ++ spaced (take c.in-Both.m c.args.words.now) in
    let short : length (line first) + length (line second) ≤ length out = omega (arith, f, c.requires.1.rows_long, c.requires.1.words_long, c.requires.1.out_long, list_line phrases.rows (take c.in-Both.n c.args.rows.now), length-take c.in-Both.n c.args.rows.now, list_line phrases.words (take c.in-Both.m c.args.words.now), length-take c.in-Both.m c.args.words.now) in
    let p = from_start c.requires.2 c.rows_line-in-Both.ensures in
    rw c.in-Both.is
    (record {
      result_after = two_lines out first second p c.words_line-in-Both.ensures.put short;
      printed_fits = two_fit out first second p c.words_line-in-Both.ensures.put short;
      same_buffer = c.words_line-in-Both.ensures.same_buffer ∙ c.rows_line-in-Both.ensures.same_buffer;
    })

pub returns-in-SevenRows : goal.returns-in-SevenRows
returns-in-SevenRows c =
    let out = c.args.page.now.out.now in
    let f = rw c.in-SevenRows.is at c.requires.0 in
    let text = phrases.rows ++ spaced (untouched c.in-SevenRows.n) in
    let short : length (line text) ≤ length out = omega (arith, f, c.requires.1.rows_long, c.requires.1.words_long, c.requires.1.out_long, sevens_length phrases.rows c.in-SevenRows.n) in
    let p = from_start c.requires.2 c.sevens_line.ensures in
    rw c.in-SevenRows.is (record { result_after = one_line out text p short; printed_fits = one_fits out text p short; same_buffer = c.sevens_line.ensures.same_buffer })

pub returns-in-Sevens : goal.returns-in-Sevens
returns-in-Sevens c =
    let out = c.args.page.now.out.now in
    let f = rw c.in-Sevens.is at c.requires.0 in
    let first = phrases.rows ++ spaced (untouched c.in-Sevens.n) in
    let second = phrases.words ++ spaced (untouched c.in-Sevens.m) in
    let short : length (line first) + length (line second) ≤ length out = omega (arith, f, c.requires.1.rows_long, c.requires.1.words_long, c.requires.1.out_long, sevens_length phrases.rows c.in-Sevens.n, sevens_length phrases.words c.in-Sevens.m) in
    let p = from_start c.requires.2 c.sevens_line-in-Sevens.ensures in
    rw c.in-Sevens.is
    (record {
      result_after = two_lines out first second p c.sevens_line-in-Sevens-2.ensures.put short;
      printed_fits = two_fit out first second p c.sevens_line-in-Sevens-2.ensures.put short;
      same_buffer = c.sevens_line-in-Sevens-2.ensures.same_buffer ∙ c.sevens_line-in-Sevens.ensures.same_buffer;
    })
