use Rattle.std.proofs.Common.{◌≡◌, ℕ, ◌+◌, ◌<◌, Bool, true, false, cond, eqb, List, [], length, Some, None, sym, refl, ap, ◌∙◌, subst, arith}
use Rattle.std.proofs.lemmas.List.{nil_from_length}
use Rattle.std.proofs.lemmas.Bool.{cond-false, le-ltb, le-leb, eqb-true, eqb-false}
use Rattle.words.specs.declared.line.Kind.{Kind}
use Rattle.words.specs.declared.line.Kind.TheVariants.{Letter, Mark}
use Rattle.words.specs.Line.{reading, Reading, blank}
use Rattle.words.specs.Grammar.{Judged}
use Rattle.words.proofs.Reading.{at_start, at_same, turn_letter, turn_mark, fault_is, refused_at, end_len, end_letters, end_rest, end_low, end_even, end_full, end_spells}
use Rattle.words.proofs.Judging.{judged}
use Rattle.words.proofs.line.read_line.Goals as goal
use Rattle.words.proofs.line.read_line.Goals.{in-Letter+else-len-ge-LONGEST, in-Mark+else-not-after_letter+else-column-bytes}
use Rattle.words.proofs.line.read_line.Goals.{then-not-after_letter-via-then-not-after_letter, then-not-after_letter-via-else-not-after_letter+then-column-bytes}

-- what is read is judged rightly
both : (number : ℕ) (line : List ℕ) (r : Reading) → r ≡ reading number line → Judged number line r
both number line r e = subst (λ (x : Reading). Judged number line x) (sym e) (judged number line)

empty : (number : ℕ) (line : List ℕ) → line ≡ [] → blank ≡ reading number line
unfolding reading
empty number line e = ap (reading number) (sym e)

pub returns-then-is_empty : goal.returns-then-is_empty
returns-then-is_empty c =
    let e : c.args.bytes.now ≡ [] = nil_from_length c.args.bytes.now (eqb-true _ 0 (sym c.is_empty.ensures ∙ c.if-is_empty.true)) in
    record { value = empty c.args.line c.args.bytes.now e; meaning = e }

pub loop-i-init : goal.loop-i-init
loop-i-init c = at_start c.args.bytes.now

pub returns-then-len-ge-LONGEST : goal.returns-then-len-ge-LONGEST
returns-then-len-ge-LONGEST c =
    let bs = c.args.bytes.now in
    let i = c.loop-i.i in
    let at = c.loop-i.invariant in
    let v = refused_at c.args.line bs i 7 c.loop-i-test.true at.clean
    (fault_is bs i (Some (Letter c.in-Letter.symbol)) c.loop-i.after_letter (sym c.in-Some.ensures ∙ ap (λ (k : Kind). Some k) c.in-Letter.is) at.follows ∙ cond-false _ 0 8 (le-ltb _ 48 (omega arith))) in
    record { value = v; meaning = both c.args.line bs _ v }

-- a mark that does not come after a letter, or is last
bad_mark : (a last : Bool) → a ≡ false → ◌≡◌ {A = ℕ} (cond a (cond last 7 0) 7) 7
bad_mark a last e = ap (λ (x : Bool). cond {A = ℕ} x (cond last 7 0) 7) e

last_mark : (a last : Bool) → last ≡ true → ◌≡◌ {A = ℕ} (cond a (cond last 7 0) 7) 7
last_mark true last e = ap (λ (x : Bool). cond {A = ℕ} x 7 0) e
last_mark false last e = refl

pub returns-then-not-after_letter : goal.returns-then-not-after_letter
returns-then-not-after_letter c =
    let bs = c.args.bytes.now in
    let i = c.loop-i.i in
    let at = c.loop-i.invariant in
    let k = fault_is bs i (Some (Mark c.in-Mark.hyphen)) c.loop-i.after_letter (sym c.in-Some.ensures ∙ ap (λ (k : Kind). Some k) c.in-Mark.is) at.follows in
    let v = refused_at c.args.line bs i 6 c.loop-i-test.true at.clean
    (k ∙ elim c.then-not-after_letter.branch [
      | then-not-after_letter-via-then-not-after_letter w ↦ bad_mark _ _ w.if-not-after_letter.true
      | then-not-after_letter-via-else-not-after_letter+then-column-bytes w ↦ last_mark _ _ (le-leb _ _ w.if-column-bytes.true)
    ]) in
    record { value = v; meaning = both c.args.line bs _ v }

pub returns-in_default : goal.returns-in_default
returns-in_default c =
    let bs = c.args.bytes.now in
    let i = c.loop-i.i in
    let at = c.loop-i.invariant in
    let v = refused_at c.args.line bs i 5 c.loop-i-test.true at.clean (fault_is bs i None c.loop-i.after_letter (sym c.in_default.ensures) at.follows) in
    record { value = v; meaning = both c.args.line bs _ v }

pub loop-i-preserved : goal.loop-i-preserved
loop-i-preserved c =
    let bs = c.args.bytes.now in
    let i = c.loop-i.i in
    let L = c.loop-i.letters in
    let n = c.loop-i.len in
    let m = c.loop-i.marks in
    let a = c.loop-i.after_letter in
    let at = c.loop-i.invariant in
    elim c.match-kind.branch [
      | in-Letter+else-len-ge-LONGEST w ↦ at_same bs (i + 1) _ _ _ _ _ _ _ _ w.letters-is w.len-is w.marks-is w.after_letter-is (turn_letter bs i L n m a at w.in-Letter.symbol (sym c.in-Some.ensures ∙ ap (λ (k : Kind). Some k) w.in-Letter.is) w.if-len-ge-LONGEST.false)
      | in-Mark+else-not-after_letter+else-column-bytes w ↦ at_same bs (i + 1) _ _ _ _ _ _ _ _ w.letters-is w.len-is w.marks-is w.after_letter-is (turn_mark bs i L n m a at w.in-Mark.hyphen (sym c.in-Some.ensures ∙ ap (λ (k : Kind). Some k) w.in-Mark.is) w.if-not-after_letter.false w.if-column-bytes.false w.mark_bit-marks.result w.mark_bit-marks.ensures)
    ]

-- a line that is not empty
some : (n : ℕ) (b : Bool) → b ≡ eqb n 0 → b ≡ false → 0 < n
some n b e f = let ne : n ≡ 0 → ⊥ = eqb-false n 0 (sym e ∙ f) in omega arith

pub invariant_of-result : goal.invariant_of-result
invariant_of-result c =
    let bs = c.args.bytes.now in
    let i = c.loop-i.i in
    let L = c.loop-i.letters in
    let n = c.loop-i.len in
    let m = c.loop-i.marks in
    let a = c.loop-i.after_letter in
    let at = c.loop-i.invariant in
    let all : i ≡ length bs = omega arith in
    let len = some (length bs) c.is_empty.result c.is_empty.ensures c.if-is_empty.false in record { full = end_full bs i L n m a at all len; sized = (end_len bs i L n m a at all len, at.room); lettered = end_letters bs i L n m a at all len; unused = end_rest bs i L n m a at all len; marked = (end_low bs i L n m a at all len, end_even bs i L n m a at all len) }

pub returns : goal.returns
returns c =
    let bs = c.args.bytes.now in
    let all : c.loop-i.i ≡ length bs = omega arith in
    let len = some (length bs) c.is_empty.result c.is_empty.ensures c.if-is_empty.false in
    let v = end_spells bs c.loop-i.i c.loop-i.letters c.loop-i.len c.loop-i.marks c.loop-i.after_letter c.loop-i.invariant all len c.args.line in
    record { value = v; meaning = both c.args.line bs _ v }
