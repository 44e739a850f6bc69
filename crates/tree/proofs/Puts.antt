-- What the two writes of an insertion leave.
use Rattle.std.proofs.Common.{◌≡◌, ℕ, ◌<◌, ◌≢◌, List, map, length, get_or, set, sym, ap, ◌∙◌, ⊎_elim, arith, get_or-set_other, get_or-set_same}
use lib.Seq.{map-set}
use Rattle.std.proofs.lemmas.List.{get_or-map, length-set}
use Rattle.std.proofs.lemmas.Bool.{cases_eq}
use Rattle.tree.specs.declared.cell.Link.{Link}
use Rattle.tree.specs.declared.cell.Cell.{Cell}
use Rattle.tree.specs.Cells.{links, values, at, no_link, Kept}
use Rattle.tree.proofs.Walks.{read}

module _ {X Y : Type 0} (f : X → Y) (cs : List X) (n k : ℕ) (a b : X) (d : Y) (hn : n < length cs) (hk : k < length cs) (ne : k ≢ n) where
  pub put_new : get_or (map f (set (set cs n a) k b)) n d ≡ f a
  put_new = get_or-map f (set (set cs n a) k b) n a d (rw (length-set, length-set) hn) ∙ ap f (get_or-set_other (set cs n a) k n b a (λ e. ne (sym e)) ∙ get_or-set_same cs n a a hn)

  pub put_old : get_or (map f (set (set cs n a) k b)) k d ≡ f b
  put_old = get_or-map f (set (set cs n a) k b) k a d (rw (length-set, length-set) hk) ∙ ap f (get_or-set_same (set cs n a) k b a (rw length-set hk))

  pub put_other : (i : ℕ) → i ≢ n → i ≢ k → get_or (map f (set (set cs n a) k b)) i d ≡ get_or (map f cs) i d
  put_other i nn nk =
      let e1 : map f (set (set cs n a) k b) ≡ set (set (map f cs) n (f a)) k (f b) = map-set f (set cs n a) k b ∙ ap (λ l. set l k (f b)) (map-set f cs n a) in
      ap (λ l. get_or l i d) e1 ∙ get_or-set_other (set (map f cs) n (f a)) k i (f b) d nk ∙ get_or-set_other (map f cs) n i (f a) d nn

module _ {V : Type 0} (cs : List (Cell V)) (n k : ℕ) (a b : Cell V) (hn : n < length cs) (hk : k < n) where
  ne : k ≢ n
  ne = omega arith

  kl : k < length cs
  kl = omega arith

  pub mid : (r : Cell V) → get_or (set cs n a) k r ≡ get_or cs k r
  mid r = get_or-set_other cs n k a r ne

  pub mid_link : (r : Cell V) → (get_or (set cs n a) k r).link ≡ at (links cs) k
  mid_link r = ap (λ (c : Cell V). c.link) (mid r) ∙ read cs k r kl

  pub kept : (r : Cell V) → b.value ≡ (get_or (set cs n a) k r).value → Kept (values cs) (values (set (set cs n a) k b)) n a.value
  kept r e = record {
    same = λ i lt d. ⊎_elim
        (λ z. ap (λ x. get_or (values (set (set cs n a) k b)) x d) z ∙ put_old (λ c. c.value) cs n k a b d hn kl ne ∙ e ∙ ap (λ (c : Cell V). c.value) (mid r) ∙ sym (get_or-map (λ c. c.value) cs k r d kl) ∙ ap (λ x. get_or (values cs) x d) (sym z))
        (λ nk. put_other (λ c. c.value) cs n k a b d hn kl ne i (omega arith) nk)
        (cases_eq i k);
    new = λ d. put_new (λ c. c.value) cs n k a b d hn kl ne;
  }

  -- the links, but for the second write
  pub link_new : at (links (set (set cs n a) k b)) n ≡ a.link
  link_new = put_new (λ c. c.link) cs n k a b no_link hn kl ne

  pub link_old : at (links (set (set cs n a) k b)) k ≡ b.link
  link_old = put_old (λ c. c.link) cs n k a b no_link hn kl ne

  pub link_other : (i : ℕ) → i < n → i ≢ k → at (links (set (set cs n a) k b)) i ≡ at (links cs) i
  link_other i lt nk = put_other (λ c. c.link) cs n k a b no_link hn kl ne i (omega arith) nk

  -- a part of the links that the second write keeps
  pub part_same : (f : Link → ℕ) (r : Cell V) → f b.link ≡ f (get_or (set cs n a) k r).link → (i : ℕ) → i < n → f (at (links (set (set cs n a) k b)) i) ≡ f (at (links cs) i)
  part_same f r e i lt = ⊎_elim
      (λ z. ap (λ x. f (at (links (set (set cs n a) k b)) x)) z ∙ ap f link_old ∙ e ∙ ap f (mid_link r) ∙ ap (λ x. f (at (links cs) x)) (sym z))
      (λ nk. ap f (link_other i lt nk))
      (cases_eq i k)
