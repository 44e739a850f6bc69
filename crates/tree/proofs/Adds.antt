-- What a joining does to what is held, whatever it answers.
use Rattle.std.proofs.Common.{◌≡◌, ℕ, ◌+◌, ◌<◌, true, false, List, length, Some, None, Ok, Err, Result, sym, refl, ap, ◌∙◌, subst}
use Rattle.patterns.specs.declared.pattern.Spelling.{Spelling}
use Rattle.patterns.specs.Views.{symbols_of}
use Rattle.books.specs.Maps.{Joined, lookup}
use Rattle.books.specs.declared.book.Full.{Full}
use Rattle.tree.specs.declared.cell.Cell.{Cell}
use Rattle.tree.specs.Kinds.{Kind}
use Rattle.tree.specs.Meanings.{Sound, meaning}
use Rattle.tree.specs.Descents.{Descent, value_at}
use Rattle.tree.specs.Stands.{limit_of, Stands, Holder, JoinedAt, Accepted, TreeJoins, Adding}
use Rattle.tree.proofs.Putting.{bare_not, solid, join_solid, put_bare, put_joined, put_sound}
use Rattle.tree.proofs.Spelt.{spelling_ruled, spelling_some}
use Rattle.tree.proofs.Works.{means_sound, sought_some, stay, joined_new, joined_old, joined_nothing}

module _ {V : Type 0} (K : Kind V) (cs : List (Cell V)) (used count : ℕ) (s : Stands K cs used count) where
  -- v joined at a spelling, whose symbols are w
  module _ (spelling : Spelling) (v : V) (w : List ℕ) (e : w ≡ symbols_of spelling) where
    abbrev u : List ℕ
    u = symbols_of spelling

    -- at the cell that holds something there
    pub joined_held : (cs' : List (Cell V)) (k : ℕ) → Holder K cs used w (Some k) → length cs' ≡ length cs → JoinedAt K cs cs' k v → Accepted K cs cs' used used count u v
    joined_held cs' k h size jo =
        let f = subst (λ (x : List ℕ). Holder K cs used x (Some k)) e h in
        let held : K.bare (lookup K.nothing (meaning K cs used) u) ≡ false = ap K.bare (sought_some K cs used s.tree u k (f.0, f.1)) ∙ f.2 in
        let full = bare_not K (K.join (value_at K cs k) v) (λ z. solid K (value_at K cs k) f.2 (K.only (value_at K cs k) v z).0) in
        joined_old K cs cs cs' used used count k u v s (stay K cs used count u s k (f.0, f.1)) jo size (spelling_some spelling) (spelling_ruled spelling) full refl held

    module _ (none : Holder K cs used w None) (below : count < limit_of (length cs)) where
      absent : Holder K cs used u None
      absent = subst (λ (x : List ℕ). Holder K cs used x None) e none

      -- at a cell that is made
      pub joined_made : (cs₁ cs₂ : List (Cell V)) (used₁ k : ℕ) → K.bare v ≡ false → Descent K cs cs₁ used used₁ w k → length cs₂ ≡ length cs₁ → JoinedAt K cs₁ cs₂ k v → Accepted K cs cs₂ used used₁ (count + 1) u v
      joined_made cs₁ cs₂ used₁ k sv d size jo =
          joined_new K cs cs₁ cs₂ used used₁ count k u v s (subst (λ (x : List ℕ). Descent K cs cs₁ used used₁ x k) e d) jo size (spelling_some spelling) (spelling_ruled spelling) (join_solid K (value_at K cs₁ k) v sv) sv absent below

      -- nowhere
      pub joined_none : K.bare v ≡ true → Accepted K cs cs used used count u v
      joined_none bare = joined_nothing K cs used count u s v bare absent below

    -- what is left, whatever a joining answers
    pub adding : (cs' : List (Cell V)) (used' count' : ℕ) (r : Result (Unit {0}) Full) → TreeJoins K cs cs' used used' count count' u v r → Adding K (meaning K cs used) (limit_of (length cs)) u v r (meaning K cs' used')
    adding cs' used' count' (Ok done) j = (
      j.may,
      record {
        sound = subst (Sound K) (sym j.means) (put_sound K u v (meaning K cs used) (means_sound K cs used s.tree));
        joined = subst (Joined K.nothing K.join (meaning K cs used) u v) (sym j.means) (put_joined K u v (meaning K cs used) (means_sound K cs used s.tree));
        nothing = λ z. j.means ∙ put_bare K u v (meaning K cs used) (ap K.bare z ∙ K.told);
      },
    )
    adding cs' used' count' (Err full) j = (j.0, ap (λ (cs : List (Cell V)). meaning K cs used') j.1.same_cells ∙ ap (meaning K cs) j.1.same_used)
