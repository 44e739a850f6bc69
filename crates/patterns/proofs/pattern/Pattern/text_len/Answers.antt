use Rattle.std.proofs.Common.{◌+◌, ltb, take, ap, ◌∙◌, arith}
use Rattle.std.specs.List.{count_by}
use Rattle.std.proofs.lemmas.List.{take_all}
use Rattle.patterns.specs.Views.{symbols_of}
use Rattle.patterns.proofs.Bytes.{text_counted, symbols_length}
use Rattle.patterns.proofs.pattern.Pattern.text_len.Goals as goal

pub returns : goal.returns
returns c =
    let s = c.args.self.now.spelling in
    let r = c.args.self.now.row in
    let used = take (s.len + 1) r.values in
    c.loop-value.invariant.0
    ∙ ap (λ vs. s.len + count_by (λ v. ltb 0 v) vs) (take_all c.loop-value.value-index used (omega (arith, c.loop-value-test.false)))
    ∙ text_counted (symbols_of s) r.values s.len (symbols_length s.len s.symbols s.sized.1 s.full) (omega (arith, r.full, s.sized))
