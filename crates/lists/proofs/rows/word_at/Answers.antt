use Rattle.std.proofs.Common.{sym, ap, ◌∙◌, arith}
use Rattle.std.proofs.lemmas.Bool.{ltb-true}
use Rattle.words.specs.Rows.{row_headword, row_ok}
use Rattle.words.specs.Views.{headword}
use Rattle.lists.specs.Rows.{no_row}
use Rattle.lists.proofs.RowSteps.{no_row_lem, full_row, good_row, bad_row}
use Rattle.lists.proofs.rows.word_at.Goals as goal

pub returns-in_default : goal.returns-in_default
returns-in_default c = no_row_lem c.args.rows.now c.args.read c.in_default.ensures.lookup.3

pub returns-then-read-ge-FULLEST : goal.returns-then-read-ge-FULLEST
returns-then-read-ge-FULLEST c = full_row c.args.rows.now c.args.read (ltb-true _ _ (sym c.in-Some.ensures.lookup.0)) c.if-read-ge-FULLEST.true

pub returns-in-Ok : goal.returns-in-Ok
returns-in-Ok c =
    let made = c.in-Ok.ensures in
    let row = c.in-Some.ensures.lookup.4 (omega arith) no_row in
    good_row c.args.rows.now c.args.read (ltb-true _ _ (sym c.in-Some.ensures.lookup.0)) (headword c.in-Ok.word) (made.meaning.1 ∙ ap row_headword row) c.if-read-ge-FULLEST.false (ap row_ok (sym row) ∙ sym made.tested)

pub returns-in-Err : goal.returns-in-Err
returns-in-Err c =
    let row = c.in-Some.ensures.lookup.4 (omega arith) no_row in
    bad_row c.args.rows.now c.args.read (ltb-true _ _ (sym c.in-Some.ensures.lookup.0)) c.if-read-ge-FULLEST.false (ap row_ok (sym row) ∙ sym c.in-Err.ensures.tested)
