use Rattle.std.proofs.Common.{◌≡◌, ℕ, ◌%◌, eqb, sym, ap, ◌∙◌, arith}
use Rattle.words.specs.Counting.{one}
use Rattle.words.specs.Views.{headword}
use Rattle.words.proofs.Bits.{digit}
use Rattle.books.specs.Rule.{value}
use Rattle.kinds.specs.Kinds.{given as is_given}
use Rattle.kinds.proofs.Masks.{setting_more}
use Rattle.kinds.proofs.given.given_in.Goals as goal

pub loop-i-preserved : goal.loop-i-preserved
unfolding is_given
loop-i-preserved g c =
    let b = g.B.ReadingBook.held c.args.book.now in
    let w = headword c.args.word.now in
    let i = c.loop-i.i in
    let v = c.from.result in
    let e : v ≡ value b w i % 2 = c.from.ensures ∙ ap (λ (x : ℕ). x % 2) (c.at.ensures ∙ c.values_of-values.ensures.value i) in
    setting_more (is_given b w) c.args.bounds.left c.saturating_sub-i-end.result i c.loop-i.given v c.loop-i-test.true (omega (arith, c.args.word.now.sized.1)) (omega arith)
    (ap (λ (x : ℕ). one (eqb x 1)) (sym e) ∙ digit v (omega arith)) c.loop-i.invariant
