use Rattle.std.proofs.Common.{◌+◌, sym, ◌∙◌, arith}
use Rattle.text.specs.Lines.{lines_of}
use Rattle.text.specs.Cursor.{unread}
use Rattle.lists.specs.Texts.{content_from, text_words, text_ending}
use Rattle.lists.specs.Few.{text_few}
use Rattle.lists.proofs.Steps.{word_taken}
use Rattle.lists.proofs.texts.TextListWordList.next.Goals as goal

pub overflow_add-self : goal.overflow_add-self
overflow_add-self c = omega (arith, text_few c.args.self.now.text.now, c.args.self.now.some)

pub invariant_of-self : goal.invariant_of-self
invariant_of-self c =
    let l = c.args.self.now in
    let t = l.text.now in
    let n = l.read in
    let all = content_from (l.lines.number + 1) n (lines_of (unread l.lines)) in
    let rest = content_from (c.next_word.new.lines.number + 1) (n + 1) (lines_of (unread c.next_word.new.lines)) in
    let p = word_taken (text_words t) (text_ending t) n all rest c.in_ok-word.word (sym c.is_some.ensures ∙ c.if-is_some.true) c.in_ok-word.ensures.gives l.left l.ends in
    record { inside = c.in_ok-word.ensures.inside t l.inside; some = p.0; left = p.1; ends = p.2 }
