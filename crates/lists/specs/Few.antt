-- Neither a text nor rows ever give more than a million words.
use Rattle.std.specs.Prelude.{◌≡◌, ℕ, suc, ◌+◌, ◌<◌, ◌≤◌, Bool, true, false, cond, List, [], ◌∷◌, length, nat_le, refl}
use Rattle.std.proofs.Common.{arith, leb-false}
use Rattle.std.proofs.lemmas.Bool.{cond_both}
use Rattle.words.specs.declared.row.WordRow.{WordRow}
use Rattle.words.specs.Rows.{row_ok}
use Rattle.words.specs.Line.{Reading, blank, spells, refused, reading}
use Rattle.text.specs.Lines.{lines_of}
use Rattle.lists.specs.Listing.{fullest, stops, Content, overfull}
use Rattle.lists.specs.Texts.{content_by, content_from, text_words}
use Rattle.lists.specs.Rows.{row_by, rows_from, row_words}

few_cond : (b : Bool) (n c : ℕ) (y : Content) → c ≤ fullest → (b ≡ false → c + length y.0 ≤ fullest) → c + length (cond b (overfull n) y).0 ≤ fullest
few_cond true n c y h f = omega arith
few_cond false n c y h f = f refl

few_by : (r : Reading) (n c : ℕ) (without more : Content) → c ≤ fullest → c + length without.0 ≤ fullest → (c < fullest → suc c + length more.0 ≤ fullest) → c + length (content_by r n c without more).0 ≤ fullest
few_by blank n c without more h p q = p
few_by (spells w) n c without more h p q = few_cond (nat_le fullest c) n c (w ∷ more.0, more.1) h (λ e. omega (arith, q (leb-false fullest c e)))
few_by (refused r) n c without more h p q = few_cond (nat_le fullest c) n c ([], stops r) h (λ e. omega arith)

few_from : (ls : List (List ℕ)) (n c : ℕ) → c ≤ fullest → c + length (content_from n c ls).0 ≤ fullest
unfolding content_from
few_from [] n c h = omega arith
few_from (l ∷ ls) n c h =
    few_by (reading n l) n c (content_from (suc n) c ls) (content_from (suc n) (suc c) ls) h (few_from ls (suc n) c h) (λ p. few_from ls (suc n) (suc c) p)

pub text_few : (text : List ℕ) → length (text_words text) ≤ fullest
text_few text = omega (arith, few_from (lines_of text) 1 0 (omega arith))

few_rows : (rows : List WordRow) (c : ℕ) → c ≤ fullest → c + length (rows_from c rows).0 ≤ fullest
unfolding rows_from
few_rows [] c h = omega arith
few_rows (row ∷ rows) c h =
    few_cond (nat_le fullest c) (suc c) c (row_by row (suc c) (rows_from (suc c) rows)) h (λ e. let p = few_rows rows (suc c) (leb-false fullest c e) in
    cond_both (row_ok row) _ _ (λ (y : Content). c + length y.0 ≤ fullest) (λ _. omega arith) (λ _. omega arith))

pub row_few : (rows : List WordRow) → length (row_words rows) ≤ fullest
row_few rows = omega (arith, few_rows rows 0 (omega arith))
