use Rattle.std.proofs.Common.{◌≡◌, ◌+◌, ◌<◌, ◌⊎◌, [], Ok, sym, ◌∙◌, inl, inr, subst}
use Rattle.std.proofs.lemmas.Result.{err_from_is_err_and}
use Rattle.text.specs.Lines.{lines_of}
use Rattle.text.specs.Cursor.{unread, Follows}
use Rattle.text.proofs.Ends.{follows_next}
use Rattle.lists.specs.Listing.{fullest}
use Rattle.lists.specs.Texts.{content_from}
use Rattle.lists.proofs.Steps.{is_empty, is_some, full_line, bad_line, good_line, empty_line, no_line, gives_from}
use Rattle.lists.proofs.texts.next_word.Goals as goal
use Rattle.lists.proofs.texts.next_word.Goals.{else-not-is_empty-via-then-not-is_empty+else-read-ge-FULLEST, else-not-is_empty-via-else-not-is_empty}

pub returns-then-read-ge-FULLEST : goal.returns-then-read-ge-FULLEST
returns-then-read-ge-FULLEST c =
    record {
      inside = follows_next c.args.lines.now c.loop-line.lines c.next.new.self c.in-Some.line c.in-Some.ensures.steps c.loop-line.invariant.0;
      gives =
          c.loop-line.invariant.1 ∙ full_line c.loop-line.lines c.next.new.self c.in-Some.line c.args.read c.in-Some.ensures.steps
          (is_some c.in-Some.line.now c.is_empty.result c.is_empty.ensures c.if-not-is_empty.true) c.if-read-ge-FULLEST.true;
    }

pub returns-in_err-word : goal.returns-in_err-word
returns-in_err-word c =
    let h : (c.args.read < fullest) ⊎ (c.in-Some.line.now ≡ []) =
    elim c.else-not-is_empty.branch [
      | else-not-is_empty-via-then-not-is_empty+else-read-ge-FULLEST w ↦ inl w.if-read-ge-FULLEST.false
      | else-not-is_empty-via-else-not-is_empty w ↦ inr (is_empty c.in-Some.line.now c.is_empty.result c.is_empty.ensures w.if-not-is_empty.false)
    ] in
    let q = err_from_is_err_and c.from_residual.result c.from_residual.ensures.1 in
    record {
      inside = follows_next c.args.lines.now c.loop-line.lines c.next.new.self c.in-Some.line c.in-Some.ensures.steps c.loop-line.invariant.0;
      gives =
          rw (q.1, q.2) (c.loop-line.invariant.1 ∙ bad_line c.loop-line.lines c.next.new.self c.in-Some.line c.args.read c.in-Some.ensures.steps
          c.in_err-word.field-0.0 c.in_err-word.ensures.value h);
    }

pub returns-then-is_some : goal.returns-then-is_some
returns-then-is_some c =
    let h : (c.args.read < fullest) ⊎ (c.in-Some.line.now ≡ []) =
    elim c.else-not-is_empty.branch [
      | else-not-is_empty-via-then-not-is_empty+else-read-ge-FULLEST w ↦ inl w.if-read-ge-FULLEST.false
      | else-not-is_empty-via-else-not-is_empty w ↦ inr (is_empty c.in-Some.line.now c.is_empty.result c.is_empty.ensures w.if-not-is_empty.false)
    ] in
    let rest = content_from (c.next.new.self.number + 1) (c.args.read + 1) (lines_of (unread c.next.new.self)) in
    record {
      inside = follows_next c.args.lines.now c.loop-line.lines c.next.new.self c.in-Some.line c.in-Some.ensures.steps c.loop-line.invariant.0;
      gives =
          gives_from _ _ rest (Ok c.in_ok-word.word) c.loop-line.invariant.1
          (good_line c.loop-line.lines c.next.new.self c.in-Some.line c.args.read c.in-Some.ensures.steps
          c.in_ok-word.word (sym c.is_some.ensures ∙ c.if-is_some.true) c.in_ok-word.ensures.value h);
    }

pub loop-line-preserved : goal.loop-line-preserved
loop-line-preserved c = (
  follows_next c.args.lines.now c.loop-line.lines c.next.new.self c.in-Some.line c.in-Some.ensures.steps c.loop-line.invariant.0,
  c.loop-line.invariant.1 ∙ empty_line c.loop-line.lines c.next.new.self c.in-Some.line c.args.read c.in-Some.ensures.steps
      c.in_ok-word.word (sym c.is_some.ensures ∙ c.if-is_some.false) c.in_ok-word.ensures.value,
)

pub returns : goal.returns
returns c =
    record {
      inside = subst (Follows c.args.lines.now) (sym c.in_default.ensures.steps.1) c.loop-line.invariant.0;
      gives = c.loop-line.invariant.1 ∙ no_line (c.loop-line.lines.number + 1) c.args.read (unread c.loop-line.lines) c.in_default.ensures.steps.0;
    }
