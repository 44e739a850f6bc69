-- The figures that a line of text holds.
use Rattle.std.specs.Prelude.{ℕ, Bool, true, cond, ◌&&◌, List, [], ◌∷◌, ◌++◌, map, length, Some, None, Option, ◌==◌, nat_le}
use Rattle.std.specs.Borrow.{Bor}
use Rattle.std.specs.Str.Parse.{digits_value}
use Rattle.std.specs.Str.{all_ascii_digits}

-- the pieces, with these bytes in front of the first
abbrev pub onto : List ℕ → List (List ℕ) → List (List ℕ)
onto bs [] = bs ∷ []
onto bs (p ∷ ps) = (bs ++ p) ∷ ps

-- the line cut at its commas (44): one piece more than it has commas
abbrev pub pieces : List ℕ → List (List ℕ)
pieces [] = [] ∷ []
pieces (b ∷ bs) = cond (b == 44) ([] ∷ pieces bs) (onto (b ∷ []) (pieces bs))

-- the pieces of what follows a comma; none where no comma stood
abbrev pub pieces_after : Option (Bor (List ℕ)) → List (List ℕ)
pieces_after None = []
pieces_after (Some rest) = pieces rest.now

-- a figure is 1 to 7 decimal digits
abbrev pub is_figure : List ℕ → Bool
is_figure p = all_ascii_digits p && (nat_le 1 (length p) && nat_le (length p) 7)

-- the value of the piece, where it is a figure
abbrev pub figure_of : List ℕ → Option ℕ
figure_of p = cond (is_figure p) (Some (digits_value 10 p)) None

-- whether every piece is a figure
abbrev pub all_figures : List (List ℕ) → Bool
all_figures [] = true
all_figures (p ∷ ps) = is_figure p && all_figures ps

-- the values of the pieces in their order, where there are n of them and each is a figure
abbrev pub figures_of : ℕ → List (List ℕ) → Option (List ℕ)
figures_of n ps = cond (all_figures ps && length ps == n) (Some (map (digits_value 10) ps)) None
