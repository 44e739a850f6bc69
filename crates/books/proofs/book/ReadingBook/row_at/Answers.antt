use Rattle.std.proofs.Common.{ℕ, ◌+◌, ◌-◌, List, get_or, ap, ◌∙◌, arith}
use Rattle.words.specs.Views.{headword}
use Rattle.patterns.specs.declared.pattern.Row.{Row}
use Rattle.patterns.specs.Views.{symbols_of}
use Rattle.books.proofs.Ruling.{PartsTo, parts_more, part_joined, part_none, parts_all}
use Rattle.books.proofs.book.ReadingBook.row_at.Goals as goal
use Rattle.books.proofs.book.ReadingBook.row_at.Goals.{Joined-of_part, in-Some, in_default}
use Rattle.books.proofs.book.ReadingBook.row_at.Given.{Over}

-- the part of `len` symbols has been looked up too
one_more : (g : Over) (c : Joined-of_part g) → PartsTo (g.Self.ReadingBook.held c.args.self.now) (headword c.args.word.now) c.args.start (c.loop-len.len + 1 - 1) c.match-of_part.row.values
one_more g c =
    let b = g.Self.ReadingBook.held c.args.self.now in
    let w = headword c.args.word.now in
    let s = c.args.start in
    let m = c.loop-len.len in
    let old = c.loop-len.row.values in
    let new = c.match-of_part.row.values in
    parts_more b w s m old new c.loop-len.auto.len
    (elim c.match-of_part.branch [
      | in-Some v ↦ λ k.
          ap (λ (r : Row). get_or r.values k 0) v.row-is
          ∙ ap (λ (r : List ℕ). get_or r k 0) v.greater-row.ensures
          ∙ part_joined b w s m old v.row.result.values (symbols_of v.in-Some.part) v.in-Some.ensures.0 v.in-Some.ensures.1 v.row.ensures k
      | in_default v ↦ λ k.
          ap (λ (r : Row). get_or r.values k 0) v.row-is
          ∙ part_none b w s m old v.in_default.ensures k
    ])
    c.loop-len.invariant.1

pub loop-len-preserved : goal.loop-len-preserved
loop-len-preserved g c = (omega arith, one_more g (goal.at.loop-len-preserved g c).Joined-of_part)

pub returns : goal.returns
returns g c =
    parts_all (g.Self.ReadingBook.held c.args.self.now) (headword c.args.word.now) c.args.start c.args.most c.loop-len.len c.loop-len.row.values (omega (arith, c.loop-len.invariant.0))
    (g.Self.ReadingBook.sound c.args.self.now) c.loop-len.invariant.1

pub returns-after-of_part : goal.returns-after-of_part
returns-after-of_part g c =
    parts_all (g.Self.ReadingBook.held c.args.self.now) (headword c.args.word.now) c.args.start c.args.most (c.loop-len.len + 1) c.match-of_part.row.values (omega arith)
    (g.Self.ReadingBook.sound c.args.self.now) (one_more g (goal.at.returns-after-of_part g c).Joined-of_part)
