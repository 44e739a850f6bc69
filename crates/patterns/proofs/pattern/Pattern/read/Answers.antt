use Rattle.std.proofs.Common.{◌≡◌, ◌+◌, length, sym, refl, ap, ◌∙◌, arith, rules, Some, None, Err}
use Rattle.patterns.specs.Views.{answer}
use Rattle.std.proofs.lemmas.Bool.{lt-ltb, and_left, and_right, and_from}
use Rattle.patterns.specs.Spellings.{any_above_zero}
use Rattle.patterns.proofs.Spells.{at_none, at_sound, shut_is, turn_symbol, turn_digit, refused_here, end_lacks, end_spelt, end_edged, end_symbolic, end_padded, end_within, end_len}
use Rattle.patterns.proofs.Judging.{judged_as}
use Rattle.patterns.proofs.pattern.Pattern.read.Goals as goal
use Rattle.patterns.proofs.pattern.Pattern.read.Goals.{in-Symbol+else-is_shut, in-Digit+else-after_digit, then-not-any_above-via-then-not-any_above, then-not-any_above-via-else-not-any_above+then-not-any_above-2}

pub loop-i-init : goal.loop-i-init
loop-i-init c = at_none c.args.text.now

pub returns-in_err-s : goal.returns-in_err-s
returns-in_err-s c =
    let w : c.from_residual.result ≡ Err (record { column = c.loop-i.i + 1 }) = search rules in
    let v = ap answer w ∙ refused_here c.loop-i.invariant None (sym c.in_err-s.ensures.ok_part ∙ c.classify.ensures) refl c.loop-i-test.true in
    record { value = v; meaning = judged_as c.args.text.now _ v }

pub returns-then-is_shut : goal.returns-then-is_shut
returns-then-is_shut c =
    let at = c.loop-i.invariant in
    let v = refused_here at _ (sym (c.in_ok-s.ensures.ok_part ∙ ap Some c.in-Symbol.is) ∙ c.classify.ensures) (sym (shut_is at c.in-Symbol.s) ∙ sym c.if-is_shut.ensures) c.loop-i-test.true in
    record { value = v; meaning = judged_as c.args.text.now _ v }

pub returns-then-after_digit : goal.returns-then-after_digit
returns-then-after_digit c =
    let v = refused_here c.loop-i.invariant _ (sym (c.in_ok-s.ensures.ok_part ∙ ap Some c.in-Digit.is) ∙ c.classify.ensures) (lt-ltb 0 _ c.if-after_digit.true) c.loop-i-test.true in
    record { value = v; meaning = judged_as c.args.text.now _ v }

pub loop-i-preserved : goal.loop-i-preserved
loop-i-preserved c =
    let at = c.loop-i.invariant in
    elim c.match-branch-2.branch [
      | in-Symbol+else-is_shut w ↦ rw (w.symbols-is, w.values-is, w.len-is) (turn_symbol at w.in-Symbol.s (sym c.classify.ensures ∙ c.in_ok-s.ensures.ok_part ∙ ap Some w.in-Symbol.is) (sym w.is_shut.ensures ∙ w.if-is_shut.false))
      | in-Digit+else-after_digit w ↦ rw (w.symbols-is, w.values-is, w.len-is) (turn_digit at w.in-Digit.d (sym c.classify.ensures ∙ c.in_ok-s.ensures.ok_part ∙ ap Some w.in-Digit.is) w.if-after_digit.false)
    ]

pub returns-then-not-any_above : goal.returns-then-not-any_above
returns-then-not-any_above c =
    let S = c.loop-i.symbols in
    let V = c.loop-i.values in
    let e : c.loop-i.i ≡ length c.args.text.now = omega arith in
    let v =
    end_lacks c.loop-i.invariant e
    (elim c.then-not-any_above.branch [
      | then-not-any_above-via-then-not-any_above w ↦ and_left (any_above_zero S) (any_above_zero V) (sym w.if-not-any_above.ensures)
      | then-not-any_above-via-else-not-any_above+then-not-any_above-2 w ↦ and_right (any_above_zero S) (any_above_zero V) (sym w.if-not-any_above-2.ensures)
    ]) in
    record { value = v; meaning = judged_as c.args.text.now _ v }

pub invariant_of-spelling : goal.invariant_of-spelling
invariant_of-spelling c =
    let at = c.loop-i.invariant in
    record { full = at.full; sized = (end_len at (sym c.if-not-any_above.ensures), at.few); symbolic = end_symbolic at; unused = end_padded at; edged = end_edged at; lettered = sym c.if-not-any_above.ensures }

pub invariant_of-result : goal.invariant_of-result
invariant_of-result c = let at = c.loop-i.invariant in record { full = at.wide; digits = (at_sound at).digits }

pub invariant_of-result-2 : goal.invariant_of-result-2
invariant_of-result-2 c = record { valued = sym c.if-not-any_above-2.ensures; within = end_within c.loop-i.invariant }

pub returns : goal.returns
returns c =
    let e : c.loop-i.i ≡ length c.args.text.now = omega arith in
    let v = end_spelt c.loop-i.invariant e (and_from (any_above_zero c.loop-i.symbols) (any_above_zero c.loop-i.values) (sym c.if-not-any_above.ensures) (sym c.if-not-any_above-2.ensures)) in
    record { value = v; meaning = judged_as c.args.text.now _ v }
