-- One row more: what it adds to the list.
use Rattle.std.proofs.Common.{◌≡◌, ℕ, ◌+◌, ◌<◌, ◌≤◌, true, false, cond, leb, List, [], ◌∷◌, length, get_or, drop, sym, ap, ◌∙◌, add-one}
use Rattle.std.proofs.lemmas.List.{at_drop_more, at_drop_all}
use Rattle.std.proofs.lemmas.Bool.{cond-true, cond-false, le-leb, lt-leb}
use Rattle.text.specs.Refusals.{at_line}
use Rattle.words.specs.declared.row.WordRow.{WordRow}
use Rattle.words.specs.Words.{Headword}
use Rattle.words.specs.Rows.{row_headword, row_ok}
use Rattle.lists.specs.Listing.{fullest, clean, stops, Content, overfull}
use Rattle.lists.specs.Rows.{row_by, rows_from, no_row}

pub no_row_lem : (rows : List WordRow) (c : ℕ) → length rows ≤ c → rows_from c (drop c rows) ≡ ([], clean)
unfolding rows_from
no_row_lem rows c h = at_drop_all (rows_from c) rows c h

module _ (rows : List WordRow) (c : ℕ) (inside : c < length rows) where
  abbrev row : WordRow
  row = get_or rows c no_row

  abbrev behind : Content
  behind = rows_from (c + 1) (drop (c + 1) rows)

  by_row : rows_from c (drop c rows) ≡ cond (leb fullest c) (overfull (c + 1)) (row_by row (c + 1) behind)
  unfolding rows_from
  by_row =
      at_drop_more (rows_from c) rows c no_row inside
      ∙ ap (λ (n : ℕ). cond (leb fullest c) (overfull n) (row_by row n (rows_from n (drop (c + 1) rows)))) (sym (add-one c))

  pub full_row : fullest ≤ c → rows_from c (drop c rows) ≡ overfull (c + 1)
  full_row h = by_row ∙ cond-true (leb fullest c) _ _ (le-leb fullest c h)

  pub good_row : (w : Headword) → w ≡ row_headword row → c < fullest → row_ok row ≡ true → rows_from c (drop c rows) ≡ (w ∷ behind.0, behind.1)
  good_row w q h e =
      by_row ∙ cond-false (leb fullest c) _ _ (lt-leb fullest c h) ∙ cond-true (row_ok row) _ _ e ∙ ap (λ (x : Headword). (x ∷ behind.0, behind.1)) (sym q)

  pub bad_row : c < fullest → row_ok row ≡ false → rows_from c (drop c rows) ≡ ([], stops (at_line 10 (c + 1)))
  bad_row h e = by_row ∙ cond-false (leb fullest c) _ _ (lt-leb fullest c h) ∙ cond-false (row_ok row) _ _ e
