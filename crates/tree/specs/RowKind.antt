-- Rows are joined by the greater value at each place.
use Rattle.std.proofs.Common.{ap, ◌∙◌, arith}
use Rattle.std.specs.Prelude.{ℕ, zero, suc, ◌≤◌, not, replicate, slice_index, refl}
use Rattle.patterns.specs.declared.pattern.Row.{Row}
use Rattle.patterns.specs.Spellings.{places, highest, any_above_zero, no_values, greater}
use Rattle.patterns.proofs.Rowing.{get_or_greater, length_greater}
use Rattle.patterns.proofs.RowLaws.{greater_commutes, greater_associates, greater_zeros, zeros_only, zeros_told, row_path}
use Rattle.tree.specs.Kinds.{Kind}

-- zeros are values
pub zeros_low : (n k : ℕ) → slice_index (replicate n 0) k ≤ highest
zeros_low zero k = omega arith
zeros_low (suc n) zero = omega arith
zeros_low (suc n) (suc k) = zeros_low n k

-- the row that gives no place a value
abbrev pub no_row : Row
no_row = record { values = no_values; full = refl; digits = zeros_low places }

-- the greater value at each place
abbrev pub join_rows : Row → Row → Row
join_rows p q = record {
  values = greater p.values q.values;
  full = length_greater places p.values q.values p.full q.full;
  digits = λ k. let e = get_or_greater p.values q.values k in omega (arith, p.digits k, q.digits k);
}

-- with its laws
abbrev pub row_kind : Kind Row
row_kind = record {
  nothing = no_row;
  join = join_rows;
  bare = λ p. not (any_above_zero p.values);
  told = refl;
  tells = λ x t. row_path x no_row (zeros_told places x.values x.full t);
  unit = λ x. row_path (join_rows no_row x) x (greater_zeros places x.values x.full);
  commutes = λ x y. row_path (join_rows x y) (join_rows y x) (greater_commutes x.values y.values);
  associates = λ x y z. row_path (join_rows (join_rows x y) z) (join_rows x (join_rows y z)) (greater_associates x.values y.values z.values);
  only = λ x y e.
      let v = ap (λ (r : Row). r.values) e in
      (row_path x no_row (zeros_only places x.values y.values x.full y.full v), row_path y no_row (zeros_only places y.values x.values y.full x.full (greater_commutes y.values x.values ∙ v)));
}
