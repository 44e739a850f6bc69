-- A reader of lines stands in the text that it was made of: what it has left is an end of that text.
use Rattle.std.proofs.Common.{◌≡◌, ℕ, ◌+◌, ◌-◌, ◌≤◌, List, ◌∷◌, ◌++◌, length, drop, Some, sym, ap, ◌∙◌, ⊎_elim, arith, Bor}
use Rattle.std.proofs.Math.Seq.{drop-append-add}
use Rattle.std.proofs.lemmas.List.{length-append, drop-drop, drop_all}
use Rattle.text.specs.declared.cursor.Lines.{Lines}
use Rattle.text.specs.Lines.{Begins}
use Rattle.text.specs.Cursor.{unread, NextLine, StandsIn, Follows}

-- before the first line
pub stands_new : (text : List ℕ) (l : Lines) → unread l ≡ text → l.number ≡ 0 → StandsIn text l
stands_new text l e n =
    let none : length text - length (unread l) ≡ 0 = omega (arith, ap length e) in
    (omega (arith, n, ap length e), ap (λ (k : ℕ). drop k text) none ∙ sym e)

module _ (text before rest line : List ℕ) (b : Begins before line rest) (end : drop (length text - length before) text ≡ before) where
  -- a line takes a byte at least
  pub shorter : length rest + 1 ≤ length before
  shorter =
      ⊎_elim
      (λ (e : before ≡ line ++ 10 ∷ rest). omega (arith, ap length e, length-append line (10 ∷ rest)))
      (λ p. omega (arith, ap length p.0, ap length p.1, p.2))
      b.parts

  rest_end : drop (length before - length rest) before ≡ rest
  rest_end =
      ⊎_elim
      (λ (e : before ≡ line ++ 10 ∷ rest).
      let size : length before - length rest ≡ length line + 1 = omega (arith, ap length e, length-append line (10 ∷ rest)) in
      ap (λ (k : ℕ). drop k before) size
      ∙ ap (drop (length line + 1)) e
      ∙ drop-append-add line (10 ∷ rest) 1)
      (λ p. drop_all (length before - length rest) before (omega (arith, ap length p.1)) ∙ sym p.1)
      b.parts

  pub end_next : length before ≤ length text → drop (length text - length rest) text ≡ rest
  end_next h =
      let both : length text - length rest ≡ (length text - length before) + (length before - length rest) = omega (arith, h, shorter) in
      ap (λ (k : ℕ). drop k text) both
      ∙ sym (drop-drop (length before - length rest) (length text - length before) text)
      ∙ ap (drop (length before - length rest)) end
      ∙ rest_end

-- and behind each line
pub stands_next : (before after : Lines) (line : Bor (List ℕ)) → NextLine before (Some line) after → Follows before after
stands_next before after line n text s = (
  omega (arith, s.0, n.2, shorter text (unread before) (unread after) line.now n.0 s.1),
  end_next text (unread before) (unread after) line.now n.0 s.1 (omega (arith, s.0)),
)

-- a reader that follows another goes on following it behind the next line
pub follows_next : (first before after : Lines) (line : Bor (List ℕ)) → NextLine before (Some line) after → Follows first before → Follows first after
follows_next first before after line n f text s = stands_next before after line n text (f text s)
