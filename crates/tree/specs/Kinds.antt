-- A kind of value that has a nothing and a joining.
use Rattle.std.specs.Prelude.{◌≡◌, Bool, true}

pub record Kind (V : Type 0) : Type 0 where
  pub nothing : V
  pub join : V → V → V
  -- the test for nothing
  pub bare : V → Bool
  pub told : bare nothing ≡ true
  pub tells : (x : V) → bare x ≡ true → x ≡ nothing
  -- the laws
  pub unit : (x : V) → join nothing x ≡ x
  pub commutes : (x y : V) → join x y ≡ join y x
  pub associates : (x y z : V) → join (join x y) z ≡ join x (join y z)
  pub only : (x y : V) → join x y ≡ nothing → (x ≡ nothing) × (y ≡ nothing)
