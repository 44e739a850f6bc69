-- Counts are added up to a ceiling.
use Rattle.std.specs.Prelude.{◌≡◌, ℕ, ◌+◌, ◌≤◌, min, Bool, ◌&&◌, ◌==◌, refl}
use Rattle.std.proofs.Common.{ap, arith}
use mathlib.Core.HLevel.{×_prop, is_prop→PathP}
use Rattle.std.proofs.Math.Bridge.{le_prop}
use Rattle.std.proofs.lemmas.Bool.{and_parts, eqb-true}
use Rattle.makes.specs.declared.counts.Counts.{Counts}
use Rattle.tree.specs.Kinds.{Kind}

-- the most that is counted
abbrev pub ceiling : ℕ
ceiling = 4294967295

-- two numbers added, up to the ceiling
abbrev pub capped : ℕ → ℕ → ℕ
capped a b = min (a + b) ceiling

-- counts with equal numbers are equal
pub counts_path : (p q : Counts) → p.good ≡ q.good → p.bad ≡ q.bad → p ≡ q
counts_path p q a b = λ i. record { good = a i; bad = b i; fits = is_prop→PathP (λ j. (a j ≤ ceiling) × (b j ≤ ceiling)) (λ j. ×_prop le_prop le_prop) p.fits q.fits i }

-- nothing was counted
abbrev pub no_counts : Counts
no_counts = record { good = 0; bad = 0; fits = (omega arith, omega arith) }

-- each number added up to the ceiling
abbrev pub add_counts : Counts → Counts → Counts
add_counts p q = record { good = capped p.good q.good; bad = capped p.bad q.bad; fits = (omega arith, omega arith) }

-- whether nothing was counted
abbrev pub none_counted : Counts → Bool
none_counted p = p.good == 0 && p.bad == 0

-- with its laws
abbrev pub counts_kind : Kind Counts
counts_kind = record {
  nothing = no_counts;
  join = add_counts;
  bare = none_counted;
  told = refl;
  tells = λ x t. let h = and_parts (x.good == 0) (x.bad == 0) t in counts_path x no_counts (eqb-true x.good 0 h.0) (eqb-true x.bad 0 h.1);
  unit = λ x. counts_path (add_counts no_counts x) x (omega (arith, x.fits.0)) (omega (arith, x.fits.1));
  commutes = λ x y. counts_path (add_counts x y) (add_counts y x) (omega arith) (omega arith);
  associates = λ x y z. counts_path (add_counts (add_counts x y) z) (add_counts x (add_counts y z)) (omega arith) (omega arith);
  only = λ x y e.
      let g = ap (λ (c : Counts). c.good) e in
      let b = ap (λ (c : Counts). c.bad) e in
      (counts_path x no_counts (omega arith) (omega arith), counts_path y no_counts (omega arith) (omega arith));
}
