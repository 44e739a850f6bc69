-- What a word list means: its words, and how it ends.
use Rattle.std.specs.Prelude.{ℕ, ◌⊎◌, List, []}
use Rattle.std.proofs.Common.{inl, inr}
use Rattle.text.specs.Refusals.{Refused, at_byte}
use Rattle.words.specs.Words.{Headword}

-- the most words of a list
abbrev pub fullest : ℕ
fullest = 1000000

-- a list ends cleanly, or in one refusal
abbrev pub Ending : Type 0
Ending = Unit {0} ⊎ Refused

abbrev pub clean : Ending
clean = inl tt

abbrev pub stops : Refused → Ending
stops r = inr r

-- the words of a list in their order, and its ending
abbrev pub Content : Type 0
Content = List Headword × Ending

-- what follows the last word allowed: line or row n, which would be one word too many, and is not looked at
abbrev pub overfull : ℕ → Content
overfull n = ([], stops (at_byte 9 n 1))
