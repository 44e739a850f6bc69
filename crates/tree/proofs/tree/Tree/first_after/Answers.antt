use Rattle.std.proofs.Common.{ℕ, List, [], ◌∷◌, ◌++◌, Some, None, length, take, sym, ap, ◌∙◌, subst, arith}
use Rattle.std.proofs.lemmas.List.{length_push, length-take-le}
use Rattle.patterns.specs.Views.{symbols_of}
use Rattle.books.specs.Calls.{spelling}
use Rattle.tree.specs.Cells.{links, ups, at}
use Rattle.tree.specs.Paths.{spelling_at}
use Rattle.tree.specs.Leasts.{Next, FirstFrom, Written}
use Rattle.tree.proofs.Props.{over}
use Rattle.tree.proofs.Leasts.{least_is, least_absent}
use Rattle.tree.proofs.tree.Tree.first_after.Goals as goal

pub returns-in_err-turn : goal.returns-in_err-turn
returns-in_err-turn g c =
    let t = c.args.self.now in
    let e = c.linked-linked.ensures in
    let K = g.V.Joining.kind in
    let next = over (λ cs n. Next (links cs) (ups cs n) n c.args.other.now None) e.cells e.used c.in_err-turn.ensures in
    ap spelling c.from_residual.ensures ∙ sym (least_absent K t.cells.now t.used t.count c.requires c.args.other.now next)

pub way_to-way-requires-clause-short : goal.way_to-way-requires-clause-short
way_to-way-requires-clause-short g c =
    let t = c.args.self.now in
    let e = c.linked-linked.ensures in
    let turn = c.in_ok-turn.turn in
    let turns = (over (λ cs n. Next (links cs) (ups cs n) n c.args.other.now (Some turn)) e.cells e.used c.in_ok-turn.ensures).0 in
    let n = ap length turns.spelled ∙ length_push _ (at (links t.cells.now) turn.cell).symbol in
    let m = length-take-le turn.depth c.args.other.now turns.inside in
    omega (arith, c.requires.shallow turn.cell turns.within)

pub first_from-requires : goal.first_from-requires
first_from-requires g c =
    let t = c.args.self.now in
    let e = c.linked-linked.ensures in
    let turn = c.in_ok-turn.turn in
    let way = c.way_to-way.result in
    let turns = (over (λ cs n. Next (links cs) (ups cs n) n c.args.other.now (Some turn)) e.cells e.used c.in_ok-turn.ensures).0 in
    let at_cell = c.way_to-way.ensures.cell in
    let written = over (λ cs n. Written (take turn.depth c.args.other.now ++ ((at (links cs) turn.cell).symbol ∷ [])) way.len way.symbols) e.cells e.used c.way_to-way.ensures.written in
    record {
      stands = c.requires;
      inner = omega (arith, turns.inner, at_cell);
      within = omega (arith, turns.within, at_cell);
      written = subst (λ (s : ℕ). Written (spelling_at t.cells.now t.used s) way.len way.symbols) (sym at_cell) (subst (λ (w : List ℕ). Written w way.len way.symbols) (sym turns.spelled) written);
    }

pub returns : goal.returns
returns g c =
    let t = c.args.self.now in
    let e = c.linked-linked.ensures in
    let K = g.V.Joining.kind in
    let w = symbols_of c.first_from.result in
    let next = over (λ cs n. Next (links cs) (ups cs n) n c.args.other.now (Some c.in_ok-turn.turn)) e.cells e.used c.in_ok-turn.ensures in
    sym (least_is K t.cells.now t.used t.count c.requires c.args.other.now c.in_ok-turn.turn w next (subst (λ (s : ℕ). FirstFrom K t.cells.now t.used s w) c.way_to-way.ensures.cell c.first_from.ensures))
