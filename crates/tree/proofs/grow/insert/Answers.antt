use Rattle.std.proofs.Common.{◌≡◌, ℕ, ◌<◌, ◌≢◌, Some, None, Option, refl, ap, ◌∙◌, subst, arith}
use Rattle.std.specs.Option.{unwrap_or}
use Rattle.tree.specs.declared.cell.Link.{Link}
use Rattle.tree.specs.Numbers.{number_of, Linkable}
use Rattle.tree.proofs.Puts.{kept, link_new, link_old, link_other, part_same}
use Rattle.tree.proofs.grow.insert.Goals as goal

-- the number that is written for the next sibling
written : (o : Option ℕ) → unwrap_or o 0 ≡ number_of o
written None = refl
written (Some i) = refl

next_is : (s n m : ℕ) → n ≡ m → ◌≡◌ {A = Link} (record { symbol = s; first = 0; next = n }) (record { symbol = s; first = 0; next = m })
next_is s n m e = ap (λ (x : ℕ). record { symbol = s; first = 0; next = x }) e

pub returns-in-Some : goal.returns-in-Some
returns-in-Some g c =
    let cs = c.args.cells.now in
    let n = c.args.used in
    let k = c.in-Some.before in
    let r = c.index-cells-before.result in
    let b : number_of c.args.place.before ≡ k = ap number_of c.in-Some.is in
    let pos : 0 < k = subst Linkable c.in-Some.is c.requires.place.before_inner in
    let nz : number_of c.args.place.before ≢ 0 = omega arith in
    let h : k < n = omega (arith, (c.requires.place.gap.walk.inner nz).0) in
    record {
      links = record {
        same_symbol = part_same cs n k _ _ c.requires.room h (λ (l : Link). l.symbol) r refl;
        same_first = λ i lt ne. part_same cs n k _ _ c.requires.room h (λ (l : Link). l.first) r refl i lt;
        new_first = λ z. absurd (nz z);
        same_next = λ i pos lt ne. ap (λ (l : Link). l.next) (link_other cs n k _ _ c.requires.room h i lt (omega arith));
        new_next = λ ne. rw b (ap (λ (l : Link). l.next) (link_old cs n k _ _ c.requires.room h));
        new = link_new cs n k _ _ c.requires.room h ∙ next_is c.args.symbol c.unwrap_or.result (number_of c.args.place.here) (c.unwrap_or.ensures ∙ written c.args.place.here);
      };
      values = kept cs n k _ _ c.requires.room h r refl;
    }

pub returns-in-None : goal.returns-in-None
returns-in-None g c =
    let cs = c.args.cells.now in
    let n = c.args.used in
    let k = c.args.parent in
    let r = c.index-cells-parent.result in
    let z : number_of c.args.place.before ≡ 0 = ap number_of c.in-None.is in
    record {
      links = record {
        same_symbol = part_same cs n k _ _ c.requires.room c.requires.within (λ (l : Link). l.symbol) r refl;
        same_first = λ i lt ne. ap (λ (l : Link). l.first) (link_other cs n k _ _ c.requires.room c.requires.within i lt (λ e. ne e z));
        new_first = λ _. ap (λ (l : Link). l.first) (link_old cs n k _ _ c.requires.room c.requires.within);
        same_next = λ i pos lt ne. part_same cs n k _ _ c.requires.room c.requires.within (λ (l : Link). l.next) r refl i lt;
        new_next = λ ne. absurd (ne z);
        new = link_new cs n k _ _ c.requires.room c.requires.within ∙ next_is c.args.symbol c.unwrap_or.result (number_of c.args.place.here) (c.unwrap_or.ensures ∙ written c.args.place.here);
      };
      values = kept cs n k _ _ c.requires.room c.requires.within r refl;
    }
