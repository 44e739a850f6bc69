use Rattle.std.proofs.Common.{ℕ, ◌+◌, ◌≤◌, List, length, Some, None, Ok, refl, sym, ap, subst, arith}
use Rattle.patterns.specs.Spellings.{longest}
use Rattle.patterns.specs.Views.{symbols_of}
use Rattle.tree.specs.Stands.{Holder, Accepted}
use Rattle.tree.proofs.Props.{over}
use Rattle.tree.proofs.Works.{limit_room, refused}
use Rattle.tree.proofs.Spelt.{spelling_ruled}
use Rattle.tree.proofs.Reordered.{any_order}
use Rattle.tree.proofs.Adds.{joined_held, joined_made, joined_none, adding}
use Rattle.tree.proofs.tree.Tree.join.Goals as goal

pub returns-in-Some : goal.returns-in-Some
returns-in-Some g c =
    let t = c.args.self.now in
    let K = g.V.Joining.kind in
    let cs = c.join_at.new.cells in
    let h = over (λ cs n. Holder K cs n c.symbols-symbols.result.now (Some c.in-Some.cell)) c.linked.ensures.cells c.linked.ensures.used c.in-Some.ensures in
    let j = joined_held K t.cells.now t.used t.count c.requires c.args.spelling.now c.args.v c.symbols-symbols.result.now c.symbols-symbols.ensures cs c.in-Some.cell h (omega arith) c.join_at.ensures in
    record { stands = j.stands; cells = j.size; joined = j; added = adding K t.cells.now t.used t.count c.requires c.args.spelling.now c.args.v _ c.symbols-symbols.ensures cs t.used t.count (Ok tt) j; order = any_order K }

pub returns-then-self-limit : goal.returns-then-self-limit
returns-then-self-limit g c =
    let t = c.args.self.now in
    let K = g.V.Joining.kind in
    let h = over (λ cs n. Holder K cs n c.symbols-symbols.result.now None) c.linked.ensures.cells c.linked.ensures.used c.in_default.ensures in
    let none = subst (λ (w : List ℕ). Holder K t.cells.now t.used w None) c.symbols-symbols.ensures h in
    let r = refused K t.cells.now t.used t.count (symbols_of c.args.spelling.now) c.requires none (omega (arith, c.limit.ensures.value, c.if-self-limit.true)) in
    record { stands = c.requires; cells = refl; joined = (r, record { same_cells = refl; same_used = refl; same_count = refl }); added = (r, refl); order = any_order K }

pub returns-then-is_nothing : goal.returns-then-is_nothing
returns-then-is_nothing g c =
    let t = c.args.self.now in
    let K = g.V.Joining.kind in
    let h = over (λ cs n. Holder K cs n c.symbols-symbols.result.now None) c.linked.ensures.cells c.linked.ensures.used c.in_default.ensures in
    let j = joined_none K t.cells.now t.used t.count c.requires c.args.spelling.now c.args.v c.symbols-symbols.result.now c.symbols-symbols.ensures h (omega (arith, c.limit.ensures.value, c.if-self-limit.false)) (sym c.if-is_nothing.ensures) in
    record { stands = c.requires; cells = refl; joined = j; added = adding K t.cells.now t.used t.count c.requires c.args.spelling.now c.args.v _ c.symbols-symbols.ensures t.cells.now t.used t.count (Ok tt) j; order = any_order K }

pub descend-cell-requires : goal.descend-cell-requires
descend-cell-requires g c =
    let t = c.args.self.now in
    let st = c.requires in
    let short : length c.symbols-symbols.result.now ≤ longest = omega (arith, ap length c.symbols-symbols.ensures, (spelling_ruled c.args.spelling.now).few) in
    let room = limit_room (length t.cells.now) t.count (omega (arith, c.limit.ensures.value, c.if-self-limit.false)) in
    record {
      tree = st.tree;
      begun = st.begun (omega arith);
      room = omega (arith, st.few);
      short = short;
      leaves = st.leaves;
      shallow = st.shallow;
    }

pub returns : goal.returns
returns g c =
    let t = c.args.self.now in
    let K = g.V.Joining.kind in
    let d = c.descend-cell.ensures in
    let cs = c.join_at-2.new.cells in
    let made = c.descend-cell.new.self in
    let h = over (λ cs n. Holder K cs n c.symbols-symbols.result.now None) c.linked.ensures.cells c.linked.ensures.used c.in_default.ensures in
    let a = joined_made K t.cells.now t.used t.count c.requires c.args.spelling.now c.args.v c.symbols-symbols.result.now c.symbols-symbols.ensures h (omega (arith, c.limit.ensures.value, c.if-self-limit.false)) made.cells.now cs made.used c.descend-cell.result (sym c.if-is_nothing.ensures) d.descent (omega arith) c.join_at-2.ensures in
    let j = subst (λ (n : ℕ). Accepted K t.cells.now cs t.used made.used (n + 1) (symbols_of c.args.spelling.now) c.args.v) (sym d.count) a in
    record { stands = j.stands; cells = j.size; joined = j; added = adding K t.cells.now t.used t.count c.requires c.args.spelling.now c.args.v _ c.symbols-symbols.ensures cs made.used (made.count + 1) (Ok tt) j; order = any_order K }
