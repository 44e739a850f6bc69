use Rattle.std.proofs.Common.{ℕ, ◌+◌, ◌<◌, List, [], ◌∷◌, length, get_or, take, decimal, sym, ap, ◌∙◌, ap₂, arith}
use Rattle.std.specs.List.{between, flat_map}
use Rattle.std.proofs.lemmas.List.{length-append, take_all}
use Rattle.std.proofs.lemmas.Bool.{ltb-true, ltb-false}
use Rattle.text.specs.Written.{overlaid}
use Rattle.text.proofs.Commas.{behind, commaed_split, joined_step, room_next, overlaid_behind}
use Rattle.text.proofs.Overlays.{overlaid_more}
use Rattle.text.proofs.memory.put_figures.Goals as goal

pub put-end-requires : goal.put-end-requires
put-end-requires c =
    omega (arith, room_next c.args.figures.now c.args.at c.put_number-end.result (length c.args.memory.now) c.loop-figure.figure-index c.requires c.put_number-end.ensures.end c.loop-figure-test.true)

pub put_number-end-requires-in-loop-figure : goal.put_number-end-requires-in-loop-figure
put_number-end-requires-in-loop-figure c =
    omega (arith, room_next c.args.figures.now c.args.at c.put_number-end.result (length c.args.memory.now) c.loop-figure.figure-index c.requires c.put_number-end.ensures.end c.loop-figure-test.true)

pub loop-figure-preserved : goal.loop-figure-preserved
loop-figure-preserved c =
    let ns = c.args.figures.now in
    let rest = between 1 (length ns) ns in
    let i = c.loop-figure.figure-index in
    let m = c.put_number-end.new.memory in
    let at = c.put_number-end.result in
    let text = flat_map behind (take i rest) in
    let n = get_or rest i 0 in
    let more = joined_step behind rest i c.loop-figure-test.true in
    let next = room_next ns c.args.at at (length c.args.memory.now) i c.requires c.put_number-end.ensures.end c.loop-figure-test.true in
    let room : at + length text < length m = omega arith in (
      omega (arith, ap length more ∙ length-append text (behind n), c.put_number-end-in-loop-figure.ensures.end, c.put-end.ensures.end),
      c.put_number-end-in-loop-figure.ensures.text
          ∙ ap₂ (λ (x : List ℕ) (k : ℕ). overlaid x k (decimal n)) (c.put-end.ensures.text ∙ ap (λ (x : List ℕ). overlaid x c.loop-figure.end (44 ∷ [])) c.loop-figure.invariant.1) c.put-end.ensures.end
          ∙ overlaid_behind m at text c.loop-figure.end n room c.loop-figure.invariant.0
          ∙ ap (overlaid m at) (sym more),
    )

pub returns : goal.returns
returns c =
    let ns = c.args.figures.now in
    let rest = between 1 (length ns) ns in
    let m = c.args.memory.now in
    let at = c.args.at in
    let end = c.put_number-end.result in
    let first = decimal (get_or ns 0 0) in
    let some : 0 < length ns = omega (arith, ltb-true, ltb-false) in
    let split = commaed_split ns some in
    let long = ap length split ∙ length-append first (flat_map behind rest) in
    let all = ap (flat_map behind) (take_all c.loop-figure.figure-index rest c.loop-figure-test.false) in
    record {
      end = omega (arith, long, ap length all, c.loop-figure.invariant.0, c.put_number-end.ensures.end);
      text =
          c.loop-figure.invariant.1
          ∙ ap₂ (λ (x y : List ℕ). overlaid x end y) c.put_number-end.ensures.text all
          ∙ overlaid_more m at first end (flat_map behind rest) (omega (arith, long)) c.put_number-end.ensures.end
          ∙ ap (overlaid m at) (sym split);
    }
