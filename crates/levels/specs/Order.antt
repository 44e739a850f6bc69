-- The order of the passes of a level.
use Rattle.std.specs.Prelude.{◌≡◌, ℕ, zero, suc, ◌+◌, ◌-◌, ◌*◌, ◌/◌, ◌%◌, ◌<◌, ◌≤◌, Bool, cond, ◌&&◌, List, [], ◌∷◌, map, length, ◌==◌, nat_le, slice_index, slice_index_or}
use Rattle.std.specs.List.{flat_map}
use Rattle.words.specs.Counting.{count, one, span}

-- a, b, a - 1, b + 1, and so on until 0 and what comes with it
abbrev pub outward : ℕ → ℕ → List ℕ
outward zero b = zero ∷ b ∷ []
outward (suc a) b = suc a ∷ b ∷ outward a (suc b)

-- the places of a length m: from the middle outward
unfoldable pub places : ℕ → List ℕ
places m = cond (m % 2 == 1) (outward (m / 2) (m / 2 + 1)) (m / 2 ∷ outward (m / 2 - 1) (m / 2 + 1))

-- a pass is a length and a place of it
abbrev pub Pass : Type 0
Pass = ℕ × ℕ

-- the passes of one length
abbrev pub passes_of : ℕ → List Pass
passes_of m = map (λ k. (m, k)) (places m)

-- the passes of a level: those of the lengths from lo to hi, rising
unfoldable pub passes : ℕ → ℕ → List Pass
passes lo hi = flat_map passes_of (span lo hi)

-- ---- the same in other words

-- whether a pass is the one of length m at place k
abbrev pub is_pass : ℕ → ℕ → Pass → Bool
is_pass m k p = m == p.0 && k == p.1

-- which passes a level has, and in which order
pub record OrderOfPasses : Type 0 where
  -- each place of each length from lo to hi comes once, and nothing else comes
  pub once : (lo hi m k : ℕ) → 1 ≤ lo → count (is_pass m k) (passes lo hi) ≡ one ((nat_le lo m && nat_le m hi) && nat_le k m)
  -- lengths rise
  pub rising : (lo hi i j : ℕ) → i ≤ j → j < length (passes lo hi) → (slice_index_or (passes lo hi) i (0, 0)).0 ≤ (slice_index_or (passes lo hi) j (0, 0)).0
  -- of an even length 2h the middle place h comes first, and then in turn h - 1, h + 1, h - 2, h + 2 and so on
  pub even_first : (h : ℕ) → slice_index (places (2 * h)) 0 ≡ h
  pub even_below : (h j : ℕ) → j < h → slice_index (places (2 * h)) (2 * j + 1) ≡ h - (j + 1)
  pub even_above : (h j : ℕ) → j < h → slice_index (places (2 * h)) (2 * j + 2) ≡ h + (j + 1)
  -- of an odd length 2h + 1 the places come as h, h + 1, h - 1, h + 2 and so on
  pub odd_below : (h j : ℕ) → j ≤ h → slice_index (places (2 * h + 1)) (2 * j) ≡ h - j
  pub odd_above : (h j : ℕ) → j ≤ h → slice_index (places (2 * h + 1)) (2 * j + 1) ≡ h + 1 + j
