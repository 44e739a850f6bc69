-- What is written of a text.
use Rattle.std.specs.Prelude.{ℕ, List}
use Rattle.sheet.specs.Outcomes.{refusal_line}
use Rattle.patterns.specs.Texts.{Reading, spells, refused, text_of}

-- the pattern that was read, as text again; or the refusal
abbrev pub shown : Reading → List ℕ
shown (spells p) = text_of p
shown (refused r) = refusal_line r
