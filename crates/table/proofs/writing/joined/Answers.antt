use Rattle.std.proofs.Common.{◌≡◌, ℕ, List, length, get_or, ap, ◌∙◌, arith}
use Rattle.std.proofs.lemmas.List.{length-take-le}
use Rattle.patterns.specs.declared.pattern.Spelling.{Spelling}
use Rattle.patterns.specs.Spellings.{any_above_zero}
use Rattle.patterns.specs.Views.{symbols_of}
use Rattle.patterns.proofs.RowLaws.{above_greater}
use Rattle.patterns.proofs.Rowing.{get_or_greater}
use Rattle.table.proofs.writing.joined.Goals as goal

-- spellings of the same symbols are as long
symbols_length : (s : Spelling) → length (symbols_of s) ≡ s.len
symbols_length s = length-take-le s.len s.symbols (omega (arith, s.full, s.sized.1))

pub invariant_of-result : goal.invariant_of-result
invariant_of-result c =
    let old = c.args.old.now in
    let new = c.args.new.now in
    let a = symbols_length old.spelling in
    let b = symbols_length new.spelling in
    let e = ap (λ (x : List ℕ). length x) c.requires in
    record {
      valued = ap any_above_zero c.greater.ensures ∙ above_greater old.row.values new.row.values old.valued;
      within = λ k h. ap (λ (x : List ℕ). get_or x k 0) c.greater.ensures ∙ get_or_greater old.row.values new.row.values k
          ∙ omega (arith, old.within k h, new.within k (omega arith));
    }
