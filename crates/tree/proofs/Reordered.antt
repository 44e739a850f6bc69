-- The order in which values are joined does not matter.
use Rattle.std.proofs.Common.{◌≡◌, ℕ, zero, suc, ◌<◌, List, [], ◌∷◌, length, get_or, set, sym, refl, ap, ◌∙◌, subst, arith}
use Rattle.std.specs.List.{swap}
use Rattle.std.specs.List.Sorted.{IsPermutation}
use Rattle.std.proofs.lemmas.List.Sorted.{IsPermutation-keeps}
use Rattle.books.specs.Maps.{Map, lookup}
use Rattle.tree.specs.Kinds.{Kind}
use Rattle.tree.specs.Meanings.{Sound}
use Rattle.tree.specs.Orderless.{Joinings, AnyOrder}
use Rattle.tree.proofs.Putting.{unit_right, alike, only_at, joined_lookup}

module _ {V : Type 0} (K : Kind V) where
  -- what a list joins at the spelling x
  given : List ℕ → List (List ℕ × V) → V
  given x [] = K.nothing
  given x (e ∷ es) = K.join (only_at K e.0 x e.1) (given x es)

  joinings_lookup : (x : List ℕ) (old new : Map V) (es : List (List ℕ × V)) → Joinings K old es new → lookup K.nothing new x ≡ K.join (lookup K.nothing old x) (given x es)
  unfolding given
  joinings_lookup x old new [] j = ap (λ (m : Map V). lookup K.nothing m x) j ∙ sym (unit_right K (lookup K.nothing old x))
  joinings_lookup x old new (e ∷ es) j =
      joinings_lookup x j.0 new es j.3
      ∙ ap (λ (v : V). K.join v (given x es)) (joined_lookup K old j.0 e.0 e.1 j.2 x)
      ∙ K.associates (lookup K.nothing old x) (only_at K e.0 x e.1) (given x es)

  joinings_sound : (old new : Map V) (es : List (List ℕ × V)) → Sound K old → Joinings K old es new → Sound K new
  joinings_sound old new [] s j = subst (Sound K) (sym j) s
  joinings_sound old new (e ∷ es) s j = joinings_sound j.0 new es j.1 j.3

  turn : (a b c : V) → K.join a (K.join b c) ≡ K.join b (K.join a c)
  turn a b c = sym (K.associates a b c) ∙ ap (λ (v : V). K.join v c) (K.commutes a b) ∙ K.associates b a c

  module _ (x : List ℕ) where
    abbrev part : List ℕ × V → V
    part e = only_at K e.0 x e.1

    given_set : (es : List (List ℕ × V)) (i : ℕ) (a d : List ℕ × V) → i < length es → K.join (part (get_or es i d)) (given x (set es i a)) ≡ K.join (part a) (given x es)
    unfolding given
    given_set [] i a d h = absurd (omega arith)
    given_set (e ∷ es) zero a d h = turn (part e) (part a) (given x es)
    given_set (e ∷ es) (suc i) a d h =
        turn (part (get_or es i d)) (part e) (given x (set es i a))
        ∙ ap (K.join (part e)) (given_set es i a d (omega arith))
        ∙ turn (part e) (part a) (given x es)

    given_swap : (es : List (List ℕ × V)) (i j : ℕ) (d : List ℕ × V) → i < length es → j < length es → given x (set (set es i (get_or es j d)) j (get_or es i d)) ≡ given x es
    unfolding given
    given_swap [] i j d h k = absurd (omega arith)
    given_swap (e ∷ es) zero zero d h k = refl
    given_swap (e ∷ es) zero (suc j) d h k = given_set es j e d (omega arith)
    given_swap (e ∷ es) (suc i) zero d h k = given_set es i e d (omega arith)
    given_swap (e ∷ es) (suc i) (suc j) d h k = ap (K.join (part e)) (given_swap es i j d (omega arith) (omega arith))

    given_exchanged : (es : List (List ℕ × V)) (i j : ℕ) → i < length es → j < length es → given x (swap es i j) ≡ given x es
    given_exchanged [] i j h k = refl
    given_exchanged (e ∷ es) i j h k = given_swap (e ∷ es) i j e h k

    given_shuffled : (es fs : List (List ℕ × V)) → IsPermutation es fs → given x fs ≡ given x es
    given_shuffled es fs s = IsPermutation-keeps es (λ l. given x l ≡ given x es) refl (λ l i j h k q. given_exchanged l i j h k ∙ q) fs s

  pub any_order : AnyOrder K
  any_order = record {
    same = λ old new new' xs ys s sh j j'. alike K new new' (joinings_sound old new xs s j) (joinings_sound old new' ys s j') (λ x.
        joinings_lookup x old new xs j
        ∙ ap (K.join (lookup K.nothing old x)) (sym (given_shuffled x xs ys sh))
        ∙ sym (joinings_lookup x old new' ys j'));
  }
