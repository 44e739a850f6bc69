-- The first spelling in the order, of all cells and of those that hold something.
use Rattle.std.proofs.Common.{◌≡◌, ℕ, zero, suc, ◌+◌, ◌-◌, ◌<◌, ◌≤◌, true, false, not, ◌≢◌, List, [], ◌∷◌, ◌++◌, length, get_or, take, drop, replicate, set, Some, None, Option, sym, refl, ap, ◌∙◌, subst, ap₂, ⊎_elim, add-one, arith}
use Rattle.std.proofs.lemmas.List.{length_push, length-set, take_more_set, take_at, get_or-set_other, take_all, get_or-map, length-append, length-drop, length-take-le, get_or-append_right, get_or-drop}
use Rattle.std.proofs.lemmas.Bool.{cases_Bool, both_ways, not-true, false≢true}
use Rattle.text.proofs.Padding.{zeros}
use Rattle.std.proofs.ByRecursion.{All-weaker}
use Rattle.std.specs.Option.{option_or}
use Rattle.patterns.specs.Spellings.{longest, any_above_zero}
use Rattle.patterns.specs.Order.{before}
use Rattle.patterns.proofs.Ordered.{total_order}
use Rattle.books.specs.Maps.{holds, lookup, least_of, after}
use Rattle.books.proofs.Mapping.{Stand, first, equal, later, stand, before_turned}
use Rattle.tree.specs.declared.cell.Link.{Link}
use Rattle.tree.specs.declared.cell.Cell.{Cell}
use Rattle.tree.specs.declared.order.Turn.{Turn}
use Rattle.tree.specs.Numbers.{cell_of}
use Rattle.tree.specs.Cells.{links, values, ups, at, Shape, Child, Above}
use Rattle.tree.specs.Paths.{path, spelling_at}
use Rattle.tree.specs.Kinds.{Kind}
use Rattle.tree.specs.Meanings.{meaning}
use Rattle.tree.specs.Rules.{Ruled}
use Rattle.tree.specs.Descents.{value_at}
use Rattle.tree.specs.Stands.{Stands}
use Rattle.tree.specs.Leasts.{Written, turning, Passed, Next, Onward, FirstFrom}
use Rattle.tree.proofs.Numbers.{cell_cases}
use Rattle.tree.proofs.Walks.{read}
use Rattle.tree.proofs.Paths.{path_inj, child_path, child_there, lost}
use Rattle.tree.proofs.Putting.{solid, holds_bare}
use Rattle.tree.proofs.Means.{same_or, meant_held}
use Rattle.tree.proofs.Works.{means_sound, cell_value}
use Rattle.tree.proofs.Spelt.{written_length}
use Rattle.tree.proofs.Held.{all_held, least_passing, least_none, all_passing}
use Rattle.tree.proofs.Turns.{between, not_before, turned_after, beyond, turns, goes_on}

-- a value as it is read
pub read_value : {V : Type 0} (K : Kind V) (cs : List (Cell V)) (i : ℕ) (c : Cell V) → i < length cs → (get_or cs i c).value ≡ value_at K cs i
read_value {V} K cs i c h = sym (get_or-map (λ (x : Cell V). x.value) cs i c K.nothing h)

-- ---- a spelling in an array

pub written_more : (w : List ℕ) (len : ℕ) (symbols : List ℕ) (x : ℕ) → len < longest → Written w len symbols → Written (w ++ (x ∷ [])) (len + 1) (set symbols len x)
written_more w len symbols x h a = record {
  full = length-set symbols len x ∙ a.full;
  sized = omega arith;
  front = take_more_set symbols len x (omega (arith, a.full)) ∙ ap (λ (y : List ℕ). y ++ (x ∷ [])) a.front;
  unused = λ k l. let ne : k ≢ len = omega arith in get_or-set_other symbols len k x 0 ne ∙ a.unused k (omega arith);
}

-- the first d symbols of w, and then only 0
pub written_front : (w : List ℕ) (d : ℕ) (xs : List ℕ) → d ≤ length w → d ≤ longest → xs ≡ take d w → Written (take d w) d (xs ++ drop d (replicate longest 0))
written_front w d xs inside short e =
    let n : length xs ≡ d = ap length e ∙ length-take-le d w inside in
    record {
      full = length-append xs (drop d (replicate longest 0)) ∙ omega (arith, length-drop {A = ℕ} d (replicate longest 0));
      sized = short;
      front = take_at xs (drop d (replicate longest 0)) d n ∙ e;
      unused = λ k l. get_or-append_right xs (drop d (replicate longest 0)) d k 0 n l ∙ get_or-drop d (replicate longest 0) (k - d) 0 ∙ zeros longest (d + (k - d));
    }

-- ---- the first cell after a spelling

module _ (ls : List Link) (up : ℕ → ℕ) (used : ℕ) (shape : Shape ls up used) where
  module _ (u : List ℕ) where
    pub passed_none : Passed ls up used u 0 None
    passed_none i hi b = refl

    module _ (n p : ℕ) (hn : n < length u) (hp : p < used) (e : path ls up p ≡ take n u) where
      -- the cells that turn off just here
      here : (i : ℕ) → i < used → before u (path ls up i) ≡ true → take n (path ls up i) ≡ take n u → take (n + 1) (path ls up i) ≢ take (n + 1) u → (k : ℕ) × (r : List ℕ) × (0 < k) × (k < used) × (up k ≡ p) × (get_or u n 0 < (at ls k).symbol) × (path ls up i ≡ take n u ++ (at ls k).symbol ∷ r)
      here i hi b same ne =
          let t = turns n u (path ls up i) hn b same (λ q. ne (ap (λ (m : ℕ). take m (path ls up i)) (add-one n) ∙ q ∙ ap (λ (m : ℕ). take m u) (sym (add-one n)))) in
          let k = child_there ls up used shape p i t.0 t.1 hp hi (t.3 ∙ ap (λ (x : List ℕ). x ++ t.0 ∷ t.1) (sym e)) in
          (k.0, t.1, k.1, k.2, k.3, omega (arith, t.2, k.4), t.3 ∙ ap (λ (x : ℕ). take n u ++ x ∷ t.1) (sym k.4))

      -- some child of p comes after u
      passed_above : (s : ℕ) → Above ls up used p (get_or u n 0) (Some s) → Passed ls up used u (n + 1) (Some (record { cell = s; depth = n }))
      passed_above s ab =
          let es = child_path ls up used shape p s ab.0 ab.1 ab.2 ∙ ap (λ (x : List ℕ). x ++ ((at ls s).symbol ∷ [])) e in (
            record {
              inner = ab.0;
              within = ab.1;
              inside = omega arith;
              spelled = es;
              later = ap (before u) es ∙ turned_after n u (at ls s).symbol [] hn ab.3;
            },
            λ i hi b ne. ⊎_elim
                (λ (same : take n (path ls up i) ≡ take n u).
                let k = here i hi b same ne in
                ap₂ before k.6 es ∙ not_before (take n u) (at ls s).symbol (at ls k.0).symbol k.1 (ab.4 k.0 k.2 k.3 k.4 k.5))
                (λ (off : take n (path ls up i) ≡ take n u → ⊥).
                before_turned (path ls up s) (path ls up i) (beyond n u (path ls up i) (path ls up s) (omega arith) b off (ap (take n) es ∙ take_front)))
                (same_or (take n (path ls up i)) (take n u)),
          )
        where
          take_front : take n (take n u ++ ((at ls s).symbol ∷ [])) ≡ take n u
          take_front = take_at (take n u) ((at ls s).symbol ∷ []) n (length_front n u hn)
            where
              length_front : (m : ℕ) (w : List ℕ) → m < length w → length (take m w) ≡ m
              length_front zero w h = refl
              length_front (suc m) [] h = absurd (omega arith)
              length_front (suc m) (y ∷ w) h = ap suc (length_front m w (omega arith))

      -- none does
      passed_same : (o : Option Turn) → Passed ls up used u n o → Above ls up used p (get_or u n 0) None → Passed ls up used u (n + 1) o
      passed_same (Some t) ps ab = (
        ps.0,
        λ i hi b ne. ⊎_elim
            (λ (same : take n (path ls up i) ≡ take n u). let k = here i hi b same ne in absurd (omega (arith, ab k.0 k.2 k.3 k.4, k.5)))
            (λ (off : take n (path ls up i) ≡ take n u → ⊥). ps.1 i hi b off)
            (same_or (take n (path ls up i)) (take n u)),
      )
      passed_same None ps ab = λ i hi b. ⊎_elim
          (λ (same : take (n + 1) (path ls up i) ≡ take (n + 1) u). same)
          (λ (ne : take (n + 1) (path ls up i) ≡ take (n + 1) u → ⊥). let k = here i hi b (ps i hi b) ne in absurd (omega (arith, ab k.0 k.2 k.3 k.4, k.5)))
          (same_or (take (n + 1) (path ls up i)) (take (n + 1) u))

      -- the better of the two
      pub passed_more : (o : Option Turn) (s : Option ℕ) → Passed ls up used u n o → Above ls up used p (get_or u n 0) s → Passed ls up used u (n + 1) (option_or (turning s n) o)
      passed_more o (Some s) ps ab = passed_above s ab
      passed_more o None ps ab = passed_same o ps ab

      -- the way along u ends here
      pub next_lost : (o : Option Turn) → Passed ls up used u (n + 1) o → Child ls up used p (get_or u n 0) None → Next ls up used u o
      next_lost (Some t) ps ch = (ps.0, λ i hi b. ps.1 i hi b (λ same. lost ls up used shape u p n hp hn e ch i hi same))
      next_lost None ps ch = λ i hi. ⊎_elim
          (λ (b : before u (path ls up i) ≡ true). absurd (lost ls up used shape u p n hp hn e ch i hi (ps i hi b)))
          (λ (b : before u (path ls up i) ≡ false). b)
          (cases_Bool (before u (path ls up i)))

    module _ (p : ℕ) (hp : p < used) (e : path ls up p ≡ u) where
      -- the cells that go on from u
      on : (i : ℕ) → i < used → before u (path ls up i) ≡ true → take (length u) (path ls up i) ≡ take (length u) u → (k : ℕ) × (r : List ℕ) × (0 < k) × (k < used) × (up k ≡ p) × (path ls up i ≡ u ++ (at ls k).symbol ∷ r)
      on i hi b same =
          let g = goes_on u (path ls up i) b (same ∙ take_all (length u) u (omega arith)) in
          let k = child_there ls up used shape p i g.0 g.1 hp hi (g.2 ∙ ap (λ (x : List ℕ). x ++ g.0 ∷ g.1) (sym e)) in
          (k.0, g.1, k.1, k.2, k.3, g.2 ∙ ap (λ (x : ℕ). u ++ x ∷ g.1) (sym k.4))

      -- u has a child
      next_first : (at ls p).first ≢ 0 → Next ls up used u (Some (record { cell = (at ls p).first; depth = length u }))
      next_first ne =
          let j = (at ls p).first in
          let f = shape.firsts p hp ne in
          let pos : 0 < j = omega arith in
          let ej : path ls up j ≡ u ++ ((at ls j).symbol ∷ []) = child_path ls up used shape p j pos f.0 f.1 ∙ ap (λ (x : List ℕ). x ++ ((at ls j).symbol ∷ [])) e in (
            record {
              inner = pos;
              within = f.0;
              inside = omega arith;
              spelled = ej ∙ ap (λ (x : List ℕ). x ++ ((at ls j).symbol ∷ [])) (sym (take_all (length u) u (omega arith)));
              later = total_order.shorter u (path ls up j) (record { next = (at ls j).symbol; rest = []; whole = ej });
            },
            λ i hi b. ⊎_elim
                (λ (same : take (length u) (path ls up i) ≡ take (length u) u).
                let k = on i hi b same in
                let l = shape.least p k.0 k.2 k.3 k.4 in
                ap₂ before k.5 ej ∙ not_before u (at ls j).symbol (at ls k.0).symbol k.1 l.1)
                (λ (off : take (length u) (path ls up i) ≡ take (length u) u → ⊥).
                before_turned (path ls up j) (path ls up i) (beyond (length u) u (path ls up i) (path ls up j) (omega arith) b off (ap (take (length u)) ej ∙ take_at u ((at ls j).symbol ∷ []) (length u) refl ∙ sym (take_all (length u) u (omega arith)))))
                (same_or (take (length u) (path ls up i)) (take (length u) u)),
          )

      -- it has none
      next_none : (o : Option Turn) → Passed ls up used u (length u) o → (at ls p).first ≡ 0 → Next ls up used u o
      next_none (Some t) ps z = (ps.0, λ i hi b. ps.1 i hi b (λ same. let k = on i hi b same in (shape.least p k.0 k.2 k.3 k.4).0 z))
      next_none None ps z = λ i hi. ⊎_elim
          (λ (b : before u (path ls up i) ≡ true). let k = on i hi b (ps i hi b) in absurd ((shape.least p k.0 k.2 k.3 k.4).0 z))
          (λ (b : before u (path ls up i) ≡ false). b)
          (cases_Bool (before u (path ls up i)))

      -- the way along u ends where u does
      pub next_ended : (o : Option Turn) → Passed ls up used u (length u) o → Next ls up used u (option_or (turning (cell_of (at ls p).first) (length u)) o)
      next_ended o ps = cell_cases (λ s. Next ls up used u (option_or (turning s (length u)) o)) (at ls p).first (next_none o ps) next_first

-- ---- from a cell down to one that holds something

module _ {V : Type 0} (K : Kind V) (cs : List (Cell V)) (used count s : ℕ) (st : Stands K cs used count) where
  pub onward_none : Onward K cs used s (spelling_at cs used s)
  onward_none = record { on = never (spelling_at cs used s); first = λ i hi held b. b }
    where
      never : (x : List ℕ) → before x x ≡ false
      never x = ⊎_elim (λ (t : before x x ≡ true). before_turned x x t) (λ (f : before x x ≡ false). f) (cases_Bool (before x x))

  pub inner_first : (p : ℕ) → 0 < p → p < used → K.bare (value_at K cs p) ≡ true → (at (links cs) p).first ≢ 0
  inner_first p pp hp bare z = both_ways (K.bare (value_at K cs p)) (st.leaves p pp hp z (omega arith)) bare

  pub first_rises : (p : ℕ) → p < used → (at (links cs) p).first ≢ 0 → p < (at (links cs) p).first
  first_rises p hp ne =
      let f = st.tree.firsts p hp ne in
      let u = st.tree.ups (at (links cs) p).first (omega arith) f.0 in
      omega (arith, f.1)

  pub onward_more : (p : ℕ) → p < used → K.bare (value_at K cs p) ≡ true → (at (links cs) p).first ≢ 0 → Onward K cs used s (spelling_at cs used p) → Onward K cs used s (spelling_at cs used (at (links cs) p).first)
  onward_more p hp bare ne o =
      let ls = links cs in
      let up = ups cs used in
      let f = st.tree.firsts p hp ne in
      let j = (at ls p).first in
      let ej = child_path ls up used st.tree p j (omega arith) f.0 f.1 in
      let pj : before (path ls up p) (path ls up j) ≡ true = total_order.shorter (path ls up p) (path ls up j) (record { next = (at ls j).symbol; rest = []; whole = ej }) in
      record {
        on = ⊎_elim
            (λ (t : before (path ls up j) (path ls up s) ≡ true). absurd (both_ways (before (path ls up p) (path ls up s)) o.on (total_order.along (path ls up p) (path ls up j) (path ls up s) pj t)))
            (λ (x : before (path ls up j) (path ls up s) ≡ false). x)
            (cases_Bool (before (path ls up j) (path ls up s)));
        first = λ i hi held b. ⊎_elim
            (λ (t : before (path ls up i) (path ls up j) ≡ true). absurd (between_none i hi held b t (stand (path ls up i) (path ls up p))))
            (λ (x : before (path ls up i) (path ls up j) ≡ false). x)
            (cases_Bool (before (path ls up i) (path ls up j)));
      }
    where
      between_none : (i : ℕ) → i < used → K.bare (value_at K cs i) ≡ false → before (spelling_at cs used i) (spelling_at cs used s) ≡ false → before (spelling_at cs used i) (spelling_at cs used (at (links cs) p).first) ≡ true → Stand (spelling_at cs used i) (spelling_at cs used p) → ⊥
      between_none i hi held b t (first l x) = both_ways (before (spelling_at cs used i) (spelling_at cs used p)) (o.first i hi held b) l
      between_none i hi held b t (equal l x) =
          both_ways (K.bare (value_at K cs p)) (ap (λ (y : ℕ). K.bare (value_at K cs y)) (sym (path_inj (links cs) (ups cs used) used st.tree i p hi hp l)) ∙ held) bare
      between_none i hi held b t (later l x) =
          let f = st.tree.firsts p hp ne in
          let j = (at (links cs) p).first in
          let ej = child_path (links cs) (ups cs used) used st.tree p j (omega arith) f.0 f.1 in
          let bt = between (spelling_at cs used p) (spelling_at cs used i) (at (links cs) j).symbol l (ap (before (spelling_at cs used i)) (sym ej) ∙ t) in
          let k = child_there (links cs) (ups cs used) used st.tree p i bt.0 bt.1 hp hi bt.3 in
          let lk = st.tree.least p k.0 k.1 k.2 k.3 in
          omega (arith, lk.1, bt.2, k.4)

  -- what one step down from a cell that holds nothing gives
  pub record Down (p len : ℕ) (symbols : List ℕ) (j : ℕ) : Type 0 where
    pub rises : p < j
    pub within : j < used
    pub room : len < longest
    pub written : Written (spelling_at cs used j) (len + 1) (set symbols len (at (links cs) j).symbol)
    pub onward : Onward K cs used s (spelling_at cs used j)

  pub down : (p len : ℕ) (symbols : List ℕ) → 0 < p → p < used → K.bare (value_at K cs p) ≡ true → Written (spelling_at cs used p) len symbols → Onward K cs used s (spelling_at cs used p) → Down p len symbols (at (links cs) p).first
  down p len symbols pp hp bare w o =
      let ne = inner_first p pp hp bare in
      let j = (at (links cs) p).first in
      let f = st.tree.firsts p hp ne in
      let ej = child_path (links cs) (ups cs used) used st.tree p j (omega arith) f.0 f.1 in
      let n = written_length (spelling_at cs used p) len symbols w in
      let nj = ap length ej ∙ length_push (spelling_at cs used p) (at (links cs) j).symbol in
      let room : len < longest = omega (arith, st.shallow j f.0) in
      record {
        rises = first_rises p hp ne;
        within = f.0;
        room = room;
        written = subst (λ (x : List ℕ). Written x (len + 1) (set symbols len (at (links cs) j).symbol)) (sym ej) (written_more (spelling_at cs used p) len symbols (at (links cs) j).symbol room w);
        onward = onward_more p hp bare ne o;
      }

  -- the same with the cell as it is read
  pub down_read : (p len : ℕ) (symbols : List ℕ) (c d : Cell V) → (0 < p) × (p < used) × Written (spelling_at cs used p) len symbols × Onward K cs used s (spelling_at cs used p) → true ≡ K.bare (get_or cs p c).value → Down p len symbols (get_or cs p d).link.first
  down_read p len symbols c d i bare =
      let h : p < length cs = omega (arith, i.1, st.room) in
      subst (λ (l : Link). Down p len symbols l.first) (sym (read cs p d h)) (down p len symbols i.0 i.1 (ap K.bare (sym (read_value K cs p c h)) ∙ sym bare) i.2 i.3)

  -- what is held is a spelling
  pub held_at : (p : ℕ) → p < used → K.bare (value_at K cs p) ≡ false → holds (meaning K cs used) (spelling_at cs used p) ≡ true
  held_at p hp f = holds_bare K (meaning K cs used) (spelling_at cs used p) (means_sound K cs used st.tree) ∙ ap (λ (v : V). not (K.bare v)) (cell_value K cs used st.tree p hp) ∙ ap not f

  pub cell_ruled : (p : ℕ) → p < used → K.bare (value_at K cs p) ≡ false → Ruled (spelling_at cs used p)
  cell_ruled p hp f = all_held Ruled (meaning K cs used) (spelling_at cs used p) st.ruled (held_at p hp f)

-- ---- the least spelling held after another

module _ {V : Type 0} (K : Kind V) (cs : List (Cell V)) (used count : ℕ) (st : Stands K cs used count) (u : List ℕ) where
  -- a spelling that is held stands at a cell
  at_cell : (x : List ℕ) → holds (meaning K cs used) x ≡ true → (i : ℕ) × (i < used) × (spelling_at cs used i ≡ x) × (K.bare (value_at K cs i) ≡ false)
  at_cell x h =
      let f : K.bare (lookup K.nothing (meaning K cs used) x) ≡ false = not-true (K.bare (lookup K.nothing (meaning K cs used) x)) (sym (holds_bare K (meaning K cs used) x (means_sound K cs used st.tree)) ∙ h) in
      let i = meant_held K (links cs) (ups cs used) (values cs) used x (solid K (lookup K.nothing (meaning K cs used) x) f) in
      (i.0, i.1, i.2, ap K.bare (sym (cell_value K cs used st.tree i.0 i.1) ∙ ap (lookup K.nothing (meaning K cs used)) i.2) ∙ f)

  pub least_is : (t : Turn) (w : List ℕ) → Next (links cs) (ups cs used) used u (Some t) → FirstFrom K cs used t.cell w → least_of (after u (meaning K cs used)) ≡ Some w
  least_is t w nx fr =
      let r = t.cell in
      let uw : before u w ≡ true = ahead (stand w (spelling_at cs used r)) nx.0.later in
      least_passing (λ x. before u x) (meaning K cs used) w (means_sound K cs used st.tree).ascends
      (subst (λ (x : List ℕ). holds (meaning K cs used) x ≡ true) fr.spelled (held_at K cs used count r st fr.cell fr.within fr.held))
      uw
      (λ x hx ux.
      let i = at_cell x hx in
      let lo = nx.1 i.0 i.1 (ap (before u) i.2 ∙ ux) in
      ap (λ (y : List ℕ). before y w) (sym i.2) ∙ fr.onward.first i.0 i.1 i.3 lo)
    where
      ahead : Stand w (spelling_at cs used t.cell) → before u (spelling_at cs used t.cell) ≡ true → before u w ≡ true
      ahead (first l o) b = absurd (both_ways (before w (spelling_at cs used t.cell)) fr.onward.on l)
      ahead (equal l o) b = ap (before u) l ∙ b
      ahead (later l o) b = total_order.along u (spelling_at cs used t.cell) w b l

  pub least_absent : Next (links cs) (ups cs used) used u None → least_of (after u (meaning K cs used)) ≡ None
  least_absent nx = least_none (λ x. before u x) (meaning K cs used) (λ x hx ux.
      let i = at_cell x hx in
      both_ways (before u x) (ap (before u) (sym i.2) ∙ nx i.0 i.1) ux)

  -- every spelling held comes after the empty one
  pub after_none : after [] (meaning K cs used) ≡ meaning K cs used
  after_none = all_passing (λ x. before [] x) (meaning K cs used) (All-weaker (λ e. Ruled e.0) (λ e. before [] e.0 ≡ true) (λ e r. comes e.0 r.lettered) (meaning K cs used) st.ruled)
    where
      comes : (x : List ℕ) → any_above_zero x ≡ true → before [] x ≡ true
      comes [] t = absurd (false≢true t)
      comes (y ∷ ys) t = total_order.shorter [] (y ∷ ys) (record { next = y; rest = ys; whole = refl })
