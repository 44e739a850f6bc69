use Rattle.std.proofs.Common.{◌≡◌, ◌≢◌, None, refl, arith}
use Rattle.tree.specs.Numbers.{number_of}
use Rattle.tree.specs.Cells.{links, ups, at, Placed, Met}
use Rattle.tree.proofs.Props.{over}
use Rattle.tree.proofs.Numbers.{number_some}
use Rattle.tree.proofs.Walks.{at_here}
use Rattle.tree.proofs.Steps.{step_found, step_made}
use Rattle.tree.proofs.tree.Tree.step.Goals as goal

pub returns-in-Some : goal.returns-in-Some
returns-in-Some g c =
    let t = c.args.self.now in
    let e = c.linked-linked.ensures in
    let place = c.gap-place.result in
    let j = c.in-Some.cell in
    let m = c.in-Some.ensures in
    let p = over (λ cs n. Placed (links cs) (ups cs n) n c.args.at c.args.symbol place.before place.here) e.cells e.used c.gap-place.ensures in
    let s = over (λ cs n. (at (links cs) j).symbol ≡ c.args.symbol) e.cells e.used m.1 in
    let a = at_here (links t.cells.now) (ups t.cells.now t.used) t.used c.requires.tree c.args.at c.args.symbol c.requires.within place.before place.here p j m.0 in
    record { count = refl; step = step_found g.V.Joining.kind t.cells.now t.used c.args.at c.args.symbol (number_of place.before) j c.requires.tree c.requires.within a.0 (omega (arith, a.1)) s }

pub insert-requires-clause-place : goal.insert-requires-clause-place
insert-requires-clause-place g c =
    let e = c.linked-linked.ensures in
    let place = c.gap-place.result in
    over (λ cs n. Placed (links cs) (ups cs n) n c.args.at c.args.symbol place.before place.here) e.cells e.used c.gap-place.ensures

pub returns-clause-step : goal.returns-clause-step
returns-clause-step g c =
    let t = c.args.self.now in
    let e = c.linked-linked.ensures in
    let place = c.gap-place.result in
    let j = number_of place.here in
    let p = over (λ cs n. Placed (links cs) (ups cs n) n c.args.at c.args.symbol place.before place.here) e.cells e.used c.gap-place.ensures in
    let m = over (λ cs n. Met (links cs) c.args.symbol place.here None) e.cells e.used c.in_default.ensures in
    step_made g.V.Joining.kind t.cells.now t.used c.args.at c.args.symbol (number_of place.before) j c.requires.tree c.requires.within p.gap c.insert.new.cells c.nothing.result c.nothing.ensures (λ (ne : j ≢ 0). m j (number_some place.here ne)) (omega arith) c.insert.ensures.links c.insert.ensures.values
