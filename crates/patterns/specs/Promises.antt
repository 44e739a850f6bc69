-- What pattern text means, in the words of the subject.
use Rattle.std.specs.Prelude.{◌≡◌, ℕ, suc, ◌+◌, ◌<◌, false, ◌⊎◌, List, length, slice_index, Some, None}
use Rattle.text.specs.Refusals.{Refused, at_byte}
use Rattle.patterns.specs.declared.reading.Piece.TheVariants.{Symbol, Digit}
use Rattle.patterns.specs.Spellings.{longest, any_above_zero, Spelled, Valid}
use Rattle.patterns.specs.Texts.{piece_at, symbols_to, values_to, Reading, spells, refused, reading, text_of}

-- reading what was written of a pattern gives the pattern back, and writing what was read of a text gives the text back
pub record RoundTrips : Type 0 where
  pub written : (p : Spelled) → Valid p → reading (text_of p) ≡ spells p
  pub read : (text : List ℕ) (p : Spelled) → reading text ≡ spells p → Valid p × (text_of p ≡ text)

-- why byte i offends
pub data Cause (text : List ℕ) (i : ℕ) : Type 0 where
  neither : piece_at text i ≡ None → Cause text i
  digit_after_digit : (d e j : ℕ) → i ≡ suc j → piece_at text j ≡ Some (Digit d) → piece_at text i ≡ Some (Digit e) → Cause text i
  sixteenth : (s : ℕ) → piece_at text i ≡ Some (Symbol s) → length (symbols_to text i) ≡ longest → Cause text i
  after_edge : (s n : ℕ) → piece_at text i ≡ Some (Symbol s) → length (symbols_to text i) ≡ suc (suc n) → slice_index (symbols_to text i) (suc n) ≡ 0 → Cause text i

-- a text that is refused, in line 1: at its first offending byte, or one past its end where none offends and no letter or
-- no digit came
pub data FaultAt (text : List ℕ) : Refused → Type 0 where
  offending : (i : ℕ) → i < length text → Cause text i → ((j : ℕ) → j < i → Cause text j → ⊥) → FaultAt text (at_byte 14 1 (i + 1))
  lacks : ((j : ℕ) → j < length text → Cause text j → ⊥) →
      (any_above_zero (symbols_to text (length text)) ≡ false) ⊎ (any_above_zero (values_to text (length text)) ≡ false) → FaultAt text (at_byte 14 1 (length text + 1))

-- what the reading of a text says of it: it is the text of the pattern that it spells, or it has a fault
abbrev pub Judged : List ℕ → Reading → Type 0
Judged text (spells p) = Valid p × (text_of p ≡ text)
Judged text (refused r) = FaultAt text r
