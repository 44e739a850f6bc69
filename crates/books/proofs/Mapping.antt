-- Maps from spellings: what is looked up, what is put in, and that equal look-ups make equal maps.
use Rattle.std.proofs.Common.{◌≡◌, ℕ, suc, Bool, true, false, cond, ◌||◌, ◌≢◌, List, [], ◌∷◌, ◌++◌, length, Ordering, Less, Equal, Greater, sym, refl, ap, ◌∙◌, subst, ap₂, ⊎_elim}
use Rattle.std.proofs.lemmas.Bool.{cases_Bool, true≢false, false≢true, cond-true, cond-false}
use Rattle.std.proofs.ByRecursion.{All-weaker}
use Rattle.std.specs.Ordering.{is_lt, is_eq, ordering_reverse}
use Rattle.std.specs.List.{AllByRecursion}
use Rattle.patterns.specs.Order.{ordering, before}
use Rattle.patterns.proofs.Ordered.{total_order}
use Rattle.books.specs.Maps.{Map, Ascending, same, holds, lookup, by, raised, Joined}

-- ---- the order of two spellings

pub same_refl : (u : List ℕ) → same u u ≡ true
same_refl u = ap is_eq (total_order.same u)

is_equal : (o : Ordering) → is_eq o ≡ true → o ≡ Equal
is_equal Less e = absurd (false≢true e)
is_equal Equal e = refl
is_equal Greater e = absurd (false≢true e)

pub same_eq : (u v : List ℕ) → same u v ≡ true → u ≡ v
same_eq u v e = total_order.alike u v (is_equal (ordering u v) e)

pub same_ne : (u v : List ℕ) → u ≢ v → same u v ≡ false
same_ne u v n = ⊎_elim (λ (e : same u v ≡ true). absurd (n (same_eq u v e))) (λ (e : same u v ≡ false). e) (cases_Bool (same u v))

less_apart : (o : Ordering) → is_lt o ≡ true → is_eq o ≡ false
less_apart Less e = refl
less_apart Equal e = absurd (false≢true e)
less_apart Greater e = absurd (false≢true e)

pub before_apart : (u v : List ℕ) → before u v ≡ true → same u v ≡ false
before_apart u v h = less_apart (ordering u v) h

pub before_ne : (u v : List ℕ) → before u v ≡ true → u ≢ v
before_ne u v h e = true≢false (sym (same_refl u) ∙ subst (λ (z : List ℕ). same u z ≡ false) (sym e) (before_apart u v h))

less_turned : (o : Ordering) → is_lt o ≡ true → is_lt (ordering_reverse o) ≡ false
less_turned Less e = refl
less_turned Equal e = absurd (false≢true e)
less_turned Greater e = absurd (false≢true e)

pub before_turned : (u v : List ℕ) → before u v ≡ true → before v u ≡ false
before_turned u v h = ap is_lt (total_order.turned u v) ∙ less_turned (ordering u v) h

pub before_apart' : (u v : List ℕ) → before u v ≡ true → same v u ≡ false
before_apart' u v h = same_ne v u (λ e. before_ne u v h (sym e))

-- how two spellings stand: before, equal or after
pub data Stand (u v : List ℕ) : Type 0 where
  first : before u v ≡ true → ordering u v ≡ Less → Stand u v
  equal : u ≡ v → ordering u v ≡ Equal → Stand u v
  later : before v u ≡ true → ordering u v ≡ Greater → Stand u v

pub stand : (u v : List ℕ) → Stand u v
stand u v = go (ordering u v) refl where
  go : (o : Ordering) → ordering u v ≡ o → Stand u v
  go Less e = first (ap is_lt e) e
  go Equal e = equal (total_order.alike u v e) e
  go Greater e = later (ap is_lt (total_order.turned u v ∙ ap ordering_reverse e)) e

-- ---- look-ups

module _ {V : Type 0} (nothing : V) where
  -- a spelling that comes before all is not held
  pub lookup_before : (m : Map V) (u : List ℕ) → AllByRecursion (λ f. before u f.0 ≡ true) m → lookup nothing m u ≡ nothing
  lookup_before [] u a = refl
  lookup_before (e ∷ m) u a = cond-false (same u e.0) _ _ (before_apart u e.0 a.0) ∙ lookup_before m u a.1

  -- nor is one that comes after all
  pub lookup_behind : (m : Map V) (u : List ℕ) → AllByRecursion (λ f. before f.0 u ≡ true) m → lookup nothing m u ≡ nothing
  lookup_behind [] u a = refl
  lookup_behind (e ∷ m) u a = cond-false (same u e.0) _ _ (before_apart' e.0 u a.0) ∙ lookup_behind m u a.1

  pub lookup_first : (u : List ℕ) (v : V) (m : Map V) → lookup nothing ((u, v) ∷ m) u ≡ v
  lookup_first u v m = cond-true (same u u) v (lookup nothing m u) (same_refl u)

  pub lookup_rest : (e : List ℕ × V) (m : Map V) (u : List ℕ) → u ≢ e.0 → lookup nothing (e ∷ m) u ≡ lookup nothing m u
  lookup_rest e m u n = cond-false (same u e.0) _ _ (same_ne u e.0 n)

  -- what comes behind a front in which the spelling is not
  pub lookup_append : (m n : Map V) (u : List ℕ) → AllByRecursion (λ f. before f.0 u ≡ true) m → lookup nothing (m ++ n) u ≡ lookup nothing n u
  lookup_append [] n u a = refl
  lookup_append (e ∷ m) n u a = cond-false (same u e.0) _ _ (before_apart' e.0 u a.0) ∙ lookup_append m n u a.1

  -- each entry is found
  pub looked : (m : Map V) → Ascending m → AllByRecursion (λ e. lookup nothing m e.0 ≡ e.1) m
  looked [] a = tt
  looked (e ∷ m) a = (lookup_first e.0 e.1 m, each m a.0 (looked m a.1))
    where
      each : (n : Map V) → AllByRecursion (λ f. before e.0 f.0 ≡ true) n → AllByRecursion (λ f. lookup nothing m f.0 ≡ f.1) n → AllByRecursion (λ f. lookup nothing (e ∷ m) f.0 ≡ f.1) n
      each [] b l = tt
      each (f ∷ n) b l = (lookup_rest e m f.0 (λ q. before_ne e.0 f.0 b.0 (sym q)) ∙ l.0, each n b.1 l.1)

-- ---- whether a spelling is held

module _ {V : Type 0} where
  pub holds_before : (m : Map V) (u : List ℕ) → AllByRecursion (λ f. before u f.0 ≡ true) m → holds m u ≡ false
  holds_before [] u a = refl
  holds_before (e ∷ m) u a = ap (λ (b : Bool). b || holds m u) (before_apart u e.0 a.0) ∙ holds_before m u a.1

  pub holds_append : (m n : Map V) (u : List ℕ) → AllByRecursion (λ f. before f.0 u ≡ true) m → holds (m ++ n) u ≡ holds n u
  holds_append [] n u a = refl
  holds_append (e ∷ m) n u a = ap (λ (b : Bool). b || holds (m ++ n) u) (before_apart' e.0 u a.0) ∙ holds_append m n u a.1

  pub holds_first : (u : List ℕ) (v : V) (m : Map V) → holds ((u, v) ∷ m) u ≡ true
  holds_first u v m = ap (λ (b : Bool). b || holds m u) (same_refl u)

-- ---- a value put in, or joined to the one that is there

pub along : (u v : List ℕ) {V : Type 0} (m : Map V) → before u v ≡ true → AllByRecursion (λ f. before v f.0 ≡ true) m → AllByRecursion (λ f. before u f.0 ≡ true) m
along u v m h a = All-weaker (λ f. before v f.0 ≡ true) (λ f. before u f.0 ≡ true) (λ f l. total_order.along u v f.0 h l) m a

module _ {V : Type 0} (join : V → V → V) where
  module _ (u : List ℕ) (v : V) (e : List ℕ × V) (m : Map V) where
    pub raised_first : ordering u e.0 ≡ Less → raised join u v (e ∷ m) ≡ (u, v) ∷ e ∷ m
    unfolding raised
    raised_first o = ap (λ (x : Ordering). by x ((u, v) ∷ e ∷ m) ((u, join e.1 v) ∷ m) (e ∷ raised join u v m)) o

    pub raised_equal : ordering u e.0 ≡ Equal → raised join u v (e ∷ m) ≡ (u, join e.1 v) ∷ m
    unfolding raised
    raised_equal o = ap (λ (x : Ordering). by x ((u, v) ∷ e ∷ m) ((u, join e.1 v) ∷ m) (e ∷ raised join u v m)) o

    pub raised_later : ordering u e.0 ≡ Greater → raised join u v (e ∷ m) ≡ e ∷ raised join u v m
    unfolding raised
    raised_later o = ap (λ (x : Ordering). by x ((u, v) ∷ e ∷ m) ((u, join e.1 v) ∷ m) (e ∷ raised join u v m)) o

  -- what holds of the new entry and of the old ones
  pub raised_all : (P : List ℕ × V → Type 0) (u : List ℕ) (v : V) → P (u, v) → ((x : V) → P (u, x) → P (u, join x v)) → (m : Map V) → AllByRecursion P m → AllByRecursion P (raised join u v m)
  unfolding raised
  raised_all P u v p q [] a = (p, tt)
  raised_all P u v p q (e ∷ m) a = go (stand u e.0) (raised_all P u v p q m a.1) where
    go : Stand u e.0 → AllByRecursion P (raised join u v m) → AllByRecursion P (raised join u v (e ∷ m))
    go (first l o) r = subst (AllByRecursion P) (sym (raised_first u v e m o)) (p, (a.0, a.1))
    go (equal l o) r = subst (AllByRecursion P) (sym (raised_equal u v e m o)) (q e.1 (subst (λ (z : List ℕ). P (z, e.1)) (sym l) a.0), a.1)
    go (later l o) r = subst (AllByRecursion P) (sym (raised_later u v e m o)) (a.0, r)

  pub raised_ascends : (u : List ℕ) (v : V) (m : Map V) → Ascending m → Ascending (raised join u v m)
  unfolding raised
  raised_ascends u v [] a = (tt, tt)
  raised_ascends u v (e ∷ m) a = go (stand u e.0) (raised_ascends u v m a.1) where
    go : Stand u e.0 → Ascending (raised join u v m) → Ascending (raised join u v (e ∷ m))
    go (first l o) r = subst Ascending (sym (raised_first u v e m o)) ((l, along u e.0 m l a.0), a)
    go (equal l o) r = subst Ascending (sym (raised_equal u v e m o)) (subst (λ (z : List ℕ). AllByRecursion (λ f. before z f.0 ≡ true) m) (sym l) a.0, a.1)
    go (later l o) r =
        subst Ascending (sym (raised_later u v e m o))
        (raised_all (λ f. before e.0 f.0 ≡ true) u v l (λ x h. h) m a.0, r)

  pub raised_length : (u : List ℕ) (v : V) (m : Map V) → Ascending m → length (raised join u v m) ≡ cond (holds m u) (length m) (suc (length m))
  unfolding raised
  raised_length u v [] a = refl
  raised_length u v (e ∷ m) a = go (stand u e.0) (raised_length u v m a.1) where
    go : Stand u e.0 → length (raised join u v m) ≡ cond (holds m u) (length m) (suc (length m)) → length (raised join u v (e ∷ m)) ≡ cond (holds (e ∷ m) u) (suc (length m)) (suc (suc (length m)))
    go (first l o) r =
        ap length (raised_first u v e m o)
        ∙ sym (cond-false (holds (e ∷ m) u) _ _ (holds_before (e ∷ m) u (l, along u e.0 m l a.0)))
    go (equal l o) r =
        ap length (raised_equal u v e m o)
        ∙ sym (cond-true (holds (e ∷ m) u) _ _ (subst (λ (z : List ℕ). holds (e ∷ m) z ≡ true) (sym l) (holds_first e.0 e.1 m)))
    go (later l o) r =
        ap length (raised_later u v e m o)
        ∙ ap suc r
        ∙ suc_cond (holds m u)
        ∙ sym (ap (λ (b : Bool). cond (b || holds m u) (suc (length m)) (suc (suc (length m)))) (before_apart' e.0 u l))
      where
        suc_cond : (b : Bool) → suc (cond b (length m) (suc (length m))) ≡ cond b (suc (length m)) (suc (suc (length m)))
        suc_cond true = refl
        suc_cond false = refl

  -- the spelling comes behind a front
  pub raised_append : (u : List ℕ) (v : V) (m n : Map V) → AllByRecursion (λ f. before f.0 u ≡ true) m → raised join u v (m ++ n) ≡ m ++ raised join u v n
  raised_append u v [] n a = refl
  raised_append u v (e ∷ m) n a = go (stand u e.0) (raised_append u v m n a.1) where
    go : Stand u e.0 → raised join u v (m ++ n) ≡ m ++ raised join u v n → raised join u v (e ∷ (m ++ n)) ≡ e ∷ (m ++ raised join u v n)
    go (first l o) r = absurd (true≢false (sym a.0 ∙ before_turned u e.0 l))
    go (equal l o) r = absurd (before_ne e.0 u a.0 (sym l))
    go (later l o) r = raised_later u v e (m ++ n) o ∙ ap (λ (z : Map V). e ∷ z) r

  -- what is looked up after it
  raised_here : (nothing : V) (u : List ℕ) (v : V) → join nothing v ≡ v → (m : Map V) → Ascending m → lookup nothing (raised join u v m) u ≡ join (lookup nothing m u) v
  unfolding raised
  raised_here nothing u v z [] a = lookup_first nothing u v [] ∙ sym z
  raised_here nothing u v z (e ∷ m) a = go (stand u e.0) (raised_here nothing u v z m a.1) where
    go : Stand u e.0 → lookup nothing (raised join u v m) u ≡ join (lookup nothing m u) v → lookup nothing (raised join u v (e ∷ m)) u ≡ join (lookup nothing (e ∷ m) u) v
    go (first l o) r =
        ap (λ (n : Map V). lookup nothing n u) (raised_first u v e m o)
        ∙ lookup_first nothing u v (e ∷ m)
        ∙ sym (ap (λ (x : V). join x v) (lookup_before nothing (e ∷ m) u (l, along u e.0 m l a.0)) ∙ z)
    go (equal l o) r =
        ap (λ (n : Map V). lookup nothing n u) (raised_equal u v e m o)
        ∙ lookup_first nothing u (join e.1 v) m
        ∙ sym (ap (λ (x : V). join x v) (cond-true (same u e.0) e.1 (lookup nothing m u) (subst (λ (y : List ℕ). same u y ≡ true) l (same_refl u))))
    go (later l o) r =
        ap (λ (n : Map V). lookup nothing n u) (raised_later u v e m o)
        ∙ lookup_rest nothing e (raised join u v m) u (λ q. before_ne e.0 u l (sym q))
        ∙ r
        ∙ sym (ap (λ (x : V). join x v) (lookup_rest nothing e m u (λ q. before_ne e.0 u l (sym q))))

  raised_elsewhere : (nothing : V) (u : List ℕ) (v : V) (w : List ℕ) → w ≢ u → (m : Map V) → lookup nothing (raised join u v m) w ≡ lookup nothing m w
  unfolding raised
  raised_elsewhere nothing u v w n [] = lookup_rest nothing (u, v) [] w n
  raised_elsewhere nothing u v w n (e ∷ m) = go (stand u e.0) (raised_elsewhere nothing u v w n m) where
    go : Stand u e.0 → lookup nothing (raised join u v m) w ≡ lookup nothing m w → lookup nothing (raised join u v (e ∷ m)) w ≡ lookup nothing (e ∷ m) w
    go (first l o) r = ap (λ (x : Map V). lookup nothing x w) (raised_first u v e m o) ∙ lookup_rest nothing (u, v) (e ∷ m) w n
    go (equal l o) r =
        ap (λ (x : Map V). lookup nothing x w) (raised_equal u v e m o)
        ∙ lookup_rest nothing (u, join e.1 v) m w n
        ∙ sym (lookup_rest nothing e m w (λ q. n (q ∙ sym l)))
    go (later l o) r =
        ap (λ (x : Map V). lookup nothing x w) (raised_later u v e m o)
        ∙ ap (λ (x : V). cond (same w e.0) e.1 x) r

  pub raised_joined : (nothing : V) (u : List ℕ) (v : V) (m : Map V) → Ascending m → join nothing v ≡ v → Joined nothing join m u v (raised join u v m)
  raised_joined nothing u v m a z = record { here = raised_here nothing u v z m a; elsewhere = λ w n. raised_elsewhere nothing u v w n m }

-- ---- equal look-ups make equal maps, where no value held is nothing

module _ {V : Type 0} (nothing : V) where
  -- no entry holds nothing
  abbrev pub Some : Map V → Type 0
  Some m = AllByRecursion (λ e. e.1 ≢ nothing) m

  pub extensional : (m n : Map V) → Ascending m → Ascending n → Some m → Some n → ((u : List ℕ) → lookup nothing m u ≡ lookup nothing n u) → m ≡ n
  extensional [] [] a b s t l = refl
  extensional [] (f ∷ n) a b s t l = absurd (t.0 (sym (l f.0 ∙ lookup_first nothing f.0 f.1 n)))
  extensional (e ∷ m) [] a b s t l = absurd (s.0 (sym (lookup_first nothing e.0 e.1 m) ∙ l e.0))
  extensional (e ∷ m) (f ∷ n) a b s t l = go (stand e.0 f.0) (extensional m n a.1 b.1 s.1 t.1) where
    go : Stand e.0 f.0 → (((u : List ℕ) → lookup nothing m u ≡ lookup nothing n u) → m ≡ n) → e ∷ m ≡ f ∷ n
    go (first h o) r = absurd (s.0 (sym (lookup_first nothing e.0 e.1 m) ∙ l e.0 ∙ lookup_before nothing (f ∷ n) e.0 (h, along e.0 f.0 n h b.0)))
    go (later h o) r = absurd (t.0 (sym (lookup_first nothing f.0 f.1 n) ∙ sym (l f.0) ∙ lookup_before nothing (e ∷ m) f.0 (h, along f.0 e.0 m h a.0)))
    go (equal h o) r = ap₂ (λ (x : List ℕ × V) (y : Map V). x ∷ y) pair (r rest)
      where
        value : e.1 ≡ f.1
        value = sym (lookup_first nothing e.0 e.1 m) ∙ l e.0 ∙ ap (lookup nothing (f ∷ n)) h ∙ lookup_first nothing f.0 f.1 n

        pair : e ≡ f
        pair = ap₂ (λ (x : List ℕ) (y : V). (x, y)) h value

        rest : (u : List ℕ) → lookup nothing m u ≡ lookup nothing n u
        rest u = ⊎_elim at off (cases_Bool (same u e.0))
          where
            at : same u e.0 ≡ true → lookup nothing m u ≡ lookup nothing n u
            at q =
                let x : u ≡ e.0 = same_eq u e.0 q in
                ap (lookup nothing m) x ∙ lookup_before nothing m e.0 a.0
                ∙ sym (ap (lookup nothing n) (x ∙ h) ∙ lookup_before nothing n f.0 b.0)

            off : same u e.0 ≡ false → lookup nothing m u ≡ lookup nothing n u
            off q =
                sym (cond-false (same u e.0) e.1 (lookup nothing m u) q) ∙ l u
                ∙ cond-false (same u f.0) f.1 (lookup nothing n u) (subst (λ (z : List ℕ). same u z ≡ false) h q)

  -- so what a joining leaves is one map
  pub joined_is : (join : V → V → V) (old new : Map V) (u : List ℕ) (v : V) → Ascending old → Ascending new → Some old → Some new → join nothing v ≡ v → v ≢ nothing → ((x : V) → x ≢ nothing → join x v ≢ nothing) → Joined nothing join old u v new → new ≡ raised join u v old
  joined_is join old new u v a b s t z nv nj j =
      let k = raised_joined join nothing u v old a z in
      extensional new (raised join u v old) b (raised_ascends join u v old a) t (raised_all join (λ e. e.1 ≢ nothing) u v nv (λ x h. nj x h) old s)
      (λ w. ⊎_elim
      (λ (q : same w u ≡ true). let x : w ≡ u = same_eq w u q in ap (lookup nothing new) x ∙ j.here ∙ sym (ap (lookup nothing (raised join u v old)) x ∙ k.here))
      (λ (q : same w u ≡ false). let x : w ≢ u = λ e. true≢false (sym (same_refl u) ∙ subst (λ (y : List ℕ). same y u ≡ false) e q) in j.elsewhere w x ∙ sym (k.elsewhere w x))
      (cases_Bool (same w u)))
