-- Why the content of rows is that of the rows up to the ending: the theorem behind `RowList::new`.
use Rattle.std.proofs.Common.{◌≡◌, ℕ, zero, suc, ◌+◌, ◌<◌, ◌≤◌, cond, leb, ◌⊎◌, List, [], ◌∷◌, get_or, refl, ap, ◌∙◌, inl, inr, ⊎_elim, add-zero, arith}
use Rattle.std.proofs.lemmas.Bool.{leb-true, leb-false, cond_both}
use Rattle.text.specs.Refusals.{Refused, at_line, at_byte}
use Rattle.words.specs.declared.row.WordRow.{WordRow}
use Rattle.words.specs.Words.{Headword}
use Rattle.words.specs.Rows.{MakesWord, row_headword, row_ok}
use Rattle.words.proofs.Rowing.{makes_word, makes_none}
use Rattle.lists.specs.Listing.{fullest, Ending, stops, Content, overfull}
use Rattle.lists.specs.Rows.{row_by, rows_from, row_content, no_row, RowsEnd, RowsListed}

-- ---- a row that is passed

make_more : (row : WordRow) (rows : List WordRow) (k : ℕ) → MakesWord row → ((i : ℕ) → i < k → MakesWord (get_or rows i no_row)) → (i : ℕ) → i < suc k → MakesWord (get_or (row ∷ rows) i no_row)
make_more row rows k m f zero h = m
make_more row rows k m f (suc i) h = f i (omega arith)

ends_more : (c : ℕ) (row : WordRow) (rows : List WordRow) (k : ℕ) (e : Ending) → RowsEnd (suc c) rows k e → RowsEnd c (row ∷ rows) (suc k) e
ends_more c row rows k (inl u) h = ap suc h
ends_more c row rows k (inr r) h =
    let s : suc c + k + 1 ≡ c + suc k + 1 = omega arith in (
      omega (arith, h.0),
      ⊎_elim
          (λ p. inl (omega (arith, p.0), p.1 ∙ ap (λ (x : ℕ). at_byte 9 x 1) s))
          (λ p. inr (omega (arith, p.0), p.1, p.2 ∙ ap (at_line 10) s))
          h.1,
    )

rows_more : (c : ℕ) (row : WordRow) (rows : List WordRow) (content : Content) → MakesWord row → RowsListed (suc c) rows content → RowsListed c (row ∷ rows) (row_headword row ∷ content.0, content.1)
rows_more c row rows content m h =
    record {
      passed = suc h.passed;
      all = omega (arith, h.all);
      words = ap (λ (x : List Headword). row_headword row ∷ x) h.words;
      make = make_more row rows h.passed m h.make;
      ends = ends_more c row rows h.passed content.1 h.ends;
    }

-- ---- a row at which the list stops

rows_stop : (c : ℕ) (row : WordRow) (rows : List WordRow) (r : Refused) →
    ((c ≡ fullest) × (r ≡ at_byte 9 (suc c) 1)) ⊎ ((c < fullest) × (MakesWord row → ⊥) × (r ≡ at_line 10 (suc c))) → RowsListed c (row ∷ rows) ([], stops r)
rows_stop c row rows r w =
    let s : suc c ≡ c + 0 + 1 = omega arith in
    record {
      passed = 0;
      all = omega arith;
      words = refl;
      make = λ i q. absurd (omega arith);
      ends = (
        omega arith,
        ⊎_elim
            (λ p. inl (add-zero c ∙ p.0, p.1 ∙ ap (λ (x : ℕ). at_byte 9 x 1) s))
            (λ p. inr (omega (arith, p.0), p.1, p.2 ∙ ap (at_line 10) s))
            w,
      );
    }

rows_by : (c : ℕ) (row : WordRow) (rows : List WordRow) (more : Content) → c ≤ fullest → (c < fullest → RowsListed (suc c) rows more) →
    RowsListed c (row ∷ rows) (cond (leb fullest c) (overfull (suc c)) (row_by row (suc c) more))
rows_by c row rows more few f =
    let P : Content → Type 0 = RowsListed c (row ∷ rows) in
    cond_both (leb fullest c) _ _ P
    (λ e. let h = leb-true fullest c e in rows_stop c row rows (at_byte 9 (suc c) 1) (inl (omega arith, refl)))
    (λ e. let h = leb-false fullest c e in
    cond_both (row_ok row) _ _ P
    (λ q. rows_more c row rows more (makes_word row q) (f h))
    (λ q. rows_stop c row rows (at_line 10 (suc c)) (inr (h, makes_none row q, refl))))

listed_rows : (rows : List WordRow) (c : ℕ) → c ≤ fullest → RowsListed c rows (rows_from c rows)
unfolding rows_from
listed_rows [] c h = record { passed = 0; all = omega arith; words = refl; make = λ i q. absurd (omega arith); ends = refl }
listed_rows (row ∷ rows) c h = rows_by c row rows (rows_from (suc c) rows) h (λ q. listed_rows rows (suc c) q)

pub rows_listed : (rows : List WordRow) → RowsListed 0 rows (row_content rows)
rows_listed rows = listed_rows rows 0 (omega arith)
