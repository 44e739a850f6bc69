use Rattle.std.proofs.Common.{[], sym, ap, ◌∙◌}
use Rattle.patterns.specs.Spellings.{Spelled}
use Rattle.patterns.specs.Views.{symbols_of}
use Rattle.table.specs.Views.{held_by}
use Rattle.table.proofs.Finding.{entry_is}
use Rattle.table.proofs.Meaning.{row_held, row_other}
use Rattle.table.proofs.reading.TableReadingBook.row.Goals as goal

pub returns-in-Ok : goal.returns-in-Ok
returns-in-Ok c =
    let t = c.args.self.now in
    let f = c.in-Ok.ensures in
    sym (row_held (held_by t) (symbols_of c.args.spelling.now) c.in-Ok.at f.place
    ∙ ap (λ (e : Spelled). e.1) (entry_is t c.in-Ok.at c.index-self-at.result ([], []) f.within))

pub returns-in-Err : goal.returns-in-Err
returns-in-Err c =
    let t = c.args.self.now in
    c.none.ensures ∙ sym (row_other (held_by t) (symbols_of c.args.spelling.now) c.in-Err.field-0 c.in-Err.ensures.place)
