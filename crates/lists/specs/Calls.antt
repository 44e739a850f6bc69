-- What the calls of a word list answer.
use Rattle.std.specs.Prelude.{◌≡◌, ℕ, ◌+◌, [], ◌∷◌, length, drop, Some, None, Ok, Err, Option, Result}
use Rattle.words.specs.declared.word.Word.{Word}
use Rattle.words.specs.Counting.{sum_of}
use Rattle.words.specs.Words.{hyphens_in_bounds}
use Rattle.words.specs.Views.{headword}
use Rattle.lists.specs.declared.fault.ListFault.{ListFault}
use Rattle.lists.specs.declared.counting.ListCounts.{ListCounts}
use Rattle.lists.specs.Faults.{list_refused}
use Rattle.lists.specs.Listing.{clean, stops, Content}

-- a word in front of what follows it; nothing more, and a clean ending or the fault
abbrev pub Gives : Content → Result (Option Word) ListFault → Content → Type 0
Gives all (Ok (Some w)) rest = all ≡ (headword w ∷ rest.0, rest.1)
Gives all (Ok None) rest = all ≡ ([], clean)
Gives all (Err f) rest = all ≡ ([], stops (list_refused f))

-- `next`, where n words had been read and m have been read after it: the first unread word, which is counted; with none
-- unread the end or the fault, and nothing is counted
abbrev pub Next : Content → ℕ → Result (Option Word) ListFault → ℕ → Type 0
Next all n (Ok (Some w)) m = (drop n all.0 ≡ headword w ∷ drop m all.0) × (m ≡ n + 1)
Next all n (Ok None) m = (drop n all.0 ≡ []) × (all.1 ≡ clean) × (m ≡ n)
Next all n (Err f) m = (drop n all.0 ≡ []) × (all.1 ≡ stops (list_refused f)) × (m ≡ n)

-- how many words a list has, and how many hyphens within bounds they have; or its fault
abbrev pub Counted : ℕ → ℕ → Content → Result ListCounts ListFault → Type 0
Counted left right all (Ok c) =
    (all.1 ≡ clean) × (c.words ≡ length all.0) × (c.hyphens ≡ sum_of (hyphens_in_bounds left right) all.0)
Counted left right all (Err f) = all.1 ≡ stops (list_refused f)
