-- What is looked up in a tree, and a value joined in it.
use Rattle.std.proofs.Common.{◌≡◌, ℕ, suc, ◌+◌, ◌-◌, ◌*◌, ◌/◌, ◌<◌, ◌≤◌, Bool, true, false, not, ◌||◌, ltb, ◌≢◌, List, length, get_or, set, Some, None, sym, refl, ap, ◌∙◌, subst, ⊎_elim, add-one, arith}
use lib.Seq.{map-set_same}
use Rattle.std.specs.List.{AllByRecursion}
use Rattle.std.proofs.lemmas.Bool.{cases_eq, cases_lt, cases_Bool, lt-ltb, le-ltb, or_left, cond-true, cond-false}
use Rattle.std.proofs.lemmas.List.{get_or-map, map-set, length-set, get_or-set_same, get_or-set_other}
use Rattle.patterns.specs.Spellings.{longest}
use Rattle.books.specs.Maps.{Map, holds, lookup}
use Rattle.tree.specs.declared.cell.Cell.{Cell}
use Rattle.tree.specs.Cells.{links, values, ups, parent, at, Shape, IsTree}
use Rattle.tree.specs.Paths.{path, spelling_at, Found}
use Rattle.tree.specs.Kinds.{Kind}
use Rattle.tree.specs.Meanings.{Sound, meant, meaning, put}
use Rattle.tree.specs.Descents.{Descent, value_at}
use Rattle.tree.specs.Rules.{Ruled}
use Rattle.tree.specs.Stands.{limit_of, Stands, JoinedAt, allowed, Accepted}
use Rattle.tree.proofs.Paths.{path_inj, path_root}
use Rattle.tree.proofs.Putting.{put_bare, put_length, put_all, holds_bare}
use Rattle.tree.proofs.Means.{meant_missing, meant_found, meant_sound, meant_joined}

-- ---- look-ups

module _ {V : Type 0} (K : Kind V) (cs : List (Cell V)) (used : ℕ) (tree : IsTree cs used) where
  pub means_sound : Sound K (meaning K cs used)
  means_sound = meant_sound K (links cs) (ups cs used) (values cs) used

  -- each cell gives its value at its spelling
  pub cell_value : (r : ℕ) → r < used → lookup K.nothing (meaning K cs used) (spelling_at cs used r) ≡ value_at K cs r
  cell_value r hr = meant_found K (links cs) (ups cs used) (values cs) used r (spelling_at cs used r) hr refl (λ i hi e. path_inj (links cs) (ups cs used) used tree i r hi hr e)

  module _ (w : List ℕ) where
    -- a cell that spells w is no root
    pub not_root : 0 < length w → (i : ℕ) → spelling_at cs used i ≡ w → i ≢ 0
    not_root some i e z = let l : length w ≡ 0 = sym (ap length e) ∙ ap (λ (x : ℕ). length (spelling_at cs used x)) z ∙ ap length (path_root (links cs) (ups cs used) used tree) in omega arith

    pub sought_none : Found (links cs) (ups cs used) used w None → lookup K.nothing (meaning K cs used) w ≡ K.nothing
    sought_none f = meant_missing K (links cs) (ups cs used) (values cs) used w f

    pub sought_some : (r : ℕ) → Found (links cs) (ups cs used) used w (Some r) → lookup K.nothing (meaning K cs used) w ≡ value_at K cs r
    sought_some r f = ap (lookup K.nothing (meaning K cs used)) (sym f.1) ∙ cell_value r f.0

-- ---- a value joined to that of a cell

module _ {V : Type 0} (K : Kind V) (cs : List (Cell V)) (k : ℕ) (c : Cell V) (hk : k < length cs) where
  pub joined_at : (nv v : V) → nv ≡ K.join (get_or cs k c).value v → JoinedAt K cs (set cs k (record { link = (get_or cs k c).link; value = nv })) k v
  joined_at nv v e =
      let new : Cell V = record { link = (get_or cs k c).link; value = nv } in
      record {
        same_links = map-set_same (λ (x : Cell V). x.link) cs k new c refl;
        here = λ d. get_or-map (λ (x : Cell V). x.value) (set cs k new) k c d (rw length-set hk)
            ∙ ap (λ (x : Cell V). x.value) (get_or-set_same cs k new c hk)
            ∙ e
            ∙ ap (λ (y : V). K.join y v) (sym (get_or-map (λ (x : Cell V). x.value) cs k c d hk));
        there = λ i ne d. ap (λ (l : List V). get_or l i d) (map-set (λ (x : Cell V). x.value) cs k new) ∙ get_or-set_other (values cs) k i nv d ne;
      }

-- ---- a value joined at a spelling

-- below the limit there is room for one spelling more
pub limit_room : (n count : ℕ) → count < limit_of n → 1 + longest * (count + 1) ≤ n
limit_room n count h = ⊎_elim
    (λ (l : n < 16). absurd (omega (arith, subst (λ (x : ℕ). count < x) (cond-true (ltb n 16) 0 ((n - 1) / 15) (lt-ltb n 16 l)) h)))
    (λ (l : 16 ≤ n). let q = subst (λ (x : ℕ). count < x) (cond-false (ltb n 16) 0 ((n - 1) / 15) (le-ltb n 16 l)) h in omega arith)
    (cases_lt n 16)

-- the limit in the words of the contract
pub allowed_is : {V : Type 0} (K : Kind V) (m : Map V) (u : List ℕ) (limit : ℕ) → Sound K m → allowed m limit u ≡ (not (K.bare (lookup K.nothing m u)) || ltb (length m) limit)
allowed_is K m u limit s = ap (λ (b : Bool). b || ltb (length m) limit) (holds_bare K m u s)

module _ {V : Type 0} (K : Kind V) (cs cs₁ cs₂ : List (Cell V)) (used u₁ count k : ℕ) (w : List ℕ) (v : V) (st : Stands K cs used count) (d : Descent K cs cs₁ used u₁ w k) (jo : JoinedAt K cs₁ cs₂ k v) (len : length cs₂ ≡ length cs₁) (some : 0 < length w) (ruled : Ruled w) (full : K.bare (K.join (value_at K cs₁ k) v) ≡ false) where
  abbrev m : Map V
  m = meaning K cs used

  inner : k ≢ 0
  inner = not_root K cs₁ u₁ d.tree w some k d.spelled

  same_path : (i : ℕ) → spelling_at cs₂ u₁ i ≡ spelling_at cs₁ u₁ i
  same_path i = ap (λ l. path l (parent l u₁) i) jo.same_links

  pub joined_means : meaning K cs₂ u₁ ≡ put K w v m
  joined_means =
      ap (λ l. meant K l (parent l u₁) (values cs₂) u₁) jo.same_links
      ∙ meant_joined K (links cs₁) (ups cs₁ u₁) (values cs₁) (values cs₂) k u₁ v d.within (jo.here K.nothing) (λ i ne. jo.there i ne K.nothing)
      ∙ ap (λ (x : List ℕ). put K x v (meaning K cs₁ u₁)) d.spelled
      ∙ ap (put K w v) d.means

  joined_stands : (count' : ℕ) → length (put K w v m) ≡ count' → u₁ ≤ 1 + longest * count' → count' ≤ limit_of (length cs) → u₁ ≤ length cs → Stands K cs₂ u₁ count'
  joined_stands count' ln few full' room = record {
    tree = subst (λ l. Shape l (parent l u₁) u₁) (sym jo.same_links) d.tree;
    room = omega (arith, len, d.size);
    begun = λ _. omega (arith, d.within);
    leaves = λ i pi hi z ne. ⊎_elim
        (λ (e : i ≡ k). ap (λ (x : ℕ). K.bare (value_at K cs₂ x)) e ∙ ap K.bare (jo.here K.nothing) ∙ full)
        (λ (nk : i ≡ k → ⊥). ap K.bare (jo.there i nk K.nothing) ∙ d.leaves i pi hi (ap (λ l. (at l i).first) (sym jo.same_links) ∙ z) nk)
        (cases_eq i k);
    shallow = λ i hi. let q = ap length (same_path i) in omega (arith, d.shallow i hi);
    root = ap K.bare (jo.there 0 (λ z. inner (sym z)) K.nothing ∙ d.root) ∙ st.root;
    counted = ap length joined_means ∙ ln;
    few = few;
    full = subst (λ (n : ℕ). count' ≤ limit_of n) (sym (len ∙ d.size)) full';
    ruled = subst (AllByRecursion (λ e. Ruled e.0)) (sym joined_means) (put_all K w v (meaning K cs used) (λ e. Ruled e.0) (λ _. ruled) (λ _ r. r) st.ruled);
  }

  m_sound : Sound K m
  m_sound = means_sound K cs used st.tree

  -- where the spelling was not held
  pub joined_new : K.bare v ≡ false → K.bare (lookup K.nothing (meaning K cs used) w) ≡ true → count < limit_of (length cs) → Accepted K cs cs₂ used u₁ (count + 1) w v
  joined_new sv none below =
      let lr = limit_room (length cs) count below in
      let held : holds m w ≡ false = holds_bare K m w m_sound ∙ ap not none in
      let ln : length (put K w v m) ≡ count + 1 = put_length K w v m m_sound sv ∙ cond-false (holds m w) (length m) (suc (length m)) held ∙ ap suc st.counted ∙ sym (add-one count) in
      record {
        may = allowed_is K m w (limit_of (length cs)) m_sound
            ∙ ap (λ (b : Bool). not b || ltb (length m) (limit_of (length cs))) none
            ∙ lt-ltb (length m) (limit_of (length cs)) (subst (λ (x : ℕ). x < limit_of (length cs)) (sym st.counted) below);
        means = joined_means;
        stands = joined_stands (count + 1) ln (omega (arith, d.few, st.few, ruled.few)) (omega (arith, below)) (omega (arith, d.few, st.few, ruled.few));
        size = len ∙ d.size;
      }

  -- where it was held, and no cell was made
  pub joined_old : u₁ ≡ used → K.bare (lookup K.nothing (meaning K cs used) w) ≡ false → Accepted K cs cs₂ used u₁ count w v
  joined_old kept held =
      let hd : holds m w ≡ true = holds_bare K m w m_sound ∙ ap not held in
      let ln : length (put K w v m) ≡ count = ⊎_elim
      (λ (t : K.bare v ≡ true). ap length (put_bare K w v m t) ∙ st.counted)
      (λ (f : K.bare v ≡ false). put_length K w v m m_sound f ∙ cond-true (holds m w) (length m) (suc (length m)) hd ∙ st.counted)
      (cases_Bool (K.bare v)) in
      record {
        may = or_left (holds m w) (ltb (length m) (limit_of (length cs))) hd;
        means = joined_means;
        stands = joined_stands count ln (omega (arith, st.few)) st.full (omega (arith, st.room));
        size = len ∙ d.size;
      }

module _ {V : Type 0} (K : Kind V) (cs : List (Cell V)) (used count : ℕ) (w : List ℕ) (st : Stands K cs used count) where
  -- a cell that was found
  pub stay : (k : ℕ) → Found (links cs) (ups cs used) used w (Some k) → Descent K cs cs used used w k
  stay k f = record {
    tree = st.tree;
    size = refl;
    few = omega arith;
    within = f.0;
    spelled = f.1;
    means = refl;
    leaves = λ i pi hi z nk. st.leaves i pi hi z (omega arith);
    shallow = st.shallow;
    root = refl;
  }

  -- a nothing
  pub joined_nothing : (v : V) → K.bare v ≡ true → K.bare (lookup K.nothing (meaning K cs used) w) ≡ true → count < limit_of (length cs) → Accepted K cs cs used used count w v
  joined_nothing v bare none below = record {
    may = allowed_is K (meaning K cs used) w (limit_of (length cs)) (means_sound K cs used st.tree)
        ∙ ap (λ (b : Bool). not b || ltb (length (meaning K cs used)) (limit_of (length cs))) none
        ∙ lt-ltb (length (meaning K cs used)) (limit_of (length cs)) (subst (λ (x : ℕ). x < limit_of (length cs)) (sym st.counted) below);
    means = sym (put_bare K w v (meaning K cs used) bare);
    stands = st;
    size = refl;
  }

  pub refused : K.bare (lookup K.nothing (meaning K cs used) w) ≡ true → limit_of (length cs) ≤ count → allowed (meaning K cs used) (limit_of (length cs)) w ≡ false
  refused none above =
      allowed_is K (meaning K cs used) w (limit_of (length cs)) (means_sound K cs used st.tree)
      ∙ ap (λ (b : Bool). not b || ltb (length (meaning K cs used)) (limit_of (length cs))) none
      ∙ le-ltb (length (meaning K cs used)) (limit_of (length cs)) (subst (λ (x : ℕ). limit_of (length cs) ≤ x) (sym st.counted) above)
