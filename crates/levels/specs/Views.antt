-- What the calls of settings answer.
use Rattle.std.specs.Prelude.{◌≡◌, ℕ, Option}
use Rattle.std.specs.Option.{option_map}
use Rattle.std.specs.List.{slice_get}
use Rattle.levels.specs.declared.settings.Stage.{Stage}
use Rattle.levels.specs.Order.{Pass, passes}

-- the length and the place of a pass
abbrev pub pass_of : Stage → Pass
pass_of s = (s.length, s.place)

-- the pass behind the first so many, if the level has so many
abbrev pub PassAt : ℕ → ℕ → ℕ → Option Stage → Type 0
PassAt lo hi done r = option_map pass_of r ≡ slice_get (passes lo hi) done
