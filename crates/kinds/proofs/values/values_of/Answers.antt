use Rattle.std.proofs.Common.{◌≡◌, ℕ, ◌+◌, ◌-◌, List, length, get_or, take, drop, sym, refl, ap, ◌∙◌, subst, arith}
use Rattle.std.proofs.lemmas.List.{length-drop, length-take-le}
use Rattle.std.proofs.lemmas.List.Edits.{length-paste}
use Rattle.std.proofs.lemmas.Slice.{put_mid-paste}
use borrow.Rule.Slice.PartMut.{put_mid}
use Rattle.text.proofs.Padding.{zeros}
use Rattle.words.specs.Views.{headword}
use Rattle.patterns.specs.Spellings.{places, greater}
use Rattle.patterns.proofs.Cutting.{letters_length}
use Rattle.books.specs.Rule.{Greatest}
use Rattle.books.proofs.Ruling.{maximum_rule}
use Rattle.kinds.specs.Gaps.{gap_count}
use Rattle.kinds.proofs.Starting.{lifts, starts_more, starts_all}
use Rattle.kinds.proofs.values.values_of.Goals as goal

pub loop-start-init : goal.loop-start-init
loop-start-init g c = record { full = refl; raised = λ q. zeros gap_count q }

pub loop-start-preserved : goal.loop-start-preserved
loop-start-preserved g c =
    let s = c.loop-start.start in
    let gaps = c.loop-start.gaps in
    let row = c.row_at-row.result in
    let k = s + places - s in
    let d = length-drop s gaps in
    let b = c.args.word.now.sized.1 in
    let f = c.loop-start.invariant.full in
    let l = sym (c.lift.auto.gaps ∙ length-take-le k (drop s gaps) (omega arith)) in
    let n : k ≡ length row.values = omega (arith, row.full) in
    let e : put_mid s k gaps c.lift.new.gaps ≡ put_mid s (length row.values) gaps (greater (take (length row.values) (drop s gaps)) row.values) =
    ap (put_mid s k gaps) c.lift.ensures ∙ ap (λ (m : ℕ). put_mid s m gaps (greater (take m (drop s gaps)) row.values)) n in
    record {
      full = ap length (put_mid-paste s k gaps c.lift.new.gaps c.lift.new.gaps k refl refl l) ∙ length-paste gaps s c.lift.new.gaps k (omega arith) (omega arith) ∙ c.loop-start.invariant.full;
      raised = starts_more (g.B.ReadingBook.held c.args.book.now) (headword c.args.word.now) s gaps _ row.values c.row_at-row.ensures
          (λ q. ap (λ (xs : List ℕ). get_or xs q 0) e ∙ lifts s gaps row.values q (omega arith)) c.loop-start.invariant.raised;
    }

pub returns : goal.returns
returns g c =
    let b = g.B.ReadingBook.held c.args.book.now in
    let w = c.args.word.now in
    let n = letters_length w in
    let e = starts_all b (headword w) c.loop-start.start c.loop-start.gaps (omega arith) (g.B.ReadingBook.sound c.args.book.now) c.loop-start.invariant.raised in
    record {
      value = e;
      greatest = λ i. subst (λ (v : ℕ). Greatest b (headword w) i v) (sym (e i)) (maximum_rule.is b (headword w) i);
      rule = maximum_rule;
    }
