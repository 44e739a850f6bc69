use Rattle.std.proofs.Common.{◌≡◌, ℕ, ◌+◌, ◌<◌, ◌≤◌, List, ◌++◌, length, get_or, drop, sym, refl, ap, ◌∙◌, ap₂, arith, Iter}
use Rattle.std.specs.declared.iter.Zip.{Zip}
use Rattle.std.specs.Iterator.Adapters.{zip_first, zip_second}
use Rattle.std.specs.Slice.Iter.{iter_rest}
use Rattle.std.proofs.lemmas.List.{get_or-take, length-set, length-drop, length_push, take_all}
use Rattle.patterns.specs.Texts.{text_to, text_of, digit}
use Rattle.patterns.specs.Views.{symbols_of, spelled}
use Rattle.patterns.proofs.Bytes.{len_mono, digit_first, digit_behind, symbols_length}
use Rattle.patterns.proofs.Turns.{turn, turns, room, write_step}
use Rattle.patterns.proofs.Round.{written_then_read, valid_of}
use Rattle.patterns.proofs.Judging.{round_trips}
use Rattle.patterns.proofs.pattern.Pattern.write.Goals as goal

pub put_digit-at-requires : goal.put_digit-at-requires
unfolding text_to
put_digit-at-requires c =
    let p = c.args.self.now in
    (p.row.digits 0, omega (arith, len_mono (symbols_of p.spelling) p.row.values 0 (length (symbols_of p.spelling)) (omega arith)))

pub loop-symbol-init : goal.loop-symbol-init
unfolding text_to
loop-symbol-init c =
    let p = c.args.self.now in
    let v = get_or p.row.values 0 0 in
    let e : c.put_digit-at.result ≡ length (digit v) = omega (arith, c.put_digit-at.ensures.place) in
    let r : length (digit v) ≤ length c.args.memory.now = omega (arith, len_mono (symbols_of p.spelling) p.row.values 0 (length (symbols_of p.spelling)) (omega arith)) in
    let l = c.put_digit-at.ensures.left in
    record {
      symbols = ap (λ (z : Zip (Iter ℕ) (Iter ℕ)). iter_rest (zip_first z)) c.into_iter-symbol-iterator.ensures.into_iter_gives ∙ ap iter_rest c.zip-symbol-items.ensures.first ∙ c.iter.ensures.rest ∙ c.symbols.ensures;
      values = ap (λ (z : Zip (Iter ℕ) (Iter ℕ)). iter_rest (zip_second z)) c.into_iter-symbol-iterator.ensures.into_iter_gives ∙ c.zip-symbol-items.ensures.second.0 ∙ take_all 15 (drop 1 p.row.values) (omega (arith, length-drop 1 p.row.values, p.row.full));
      place = e;
      left = l ∙ digit_first c.args.memory.now v r ∙ ap₂ (λ (j : ℕ) (x : List ℕ). digit v ++ drop j x) (sym e) (sym l);
    }

pub symbol_byte-requires : goal.symbol_byte-requires
symbol_byte-requires c =
    let s = c.args.self.now.spelling in
    let k = length c.loop-symbol.yielded in
    let t = turn _ c.args.self.now.row.values _ c.into_iter-symbol-iterator.result c.loop-symbol.symbol-iterator c.next.new.self _ (c.in-Some.symbol, c.in-Some.value) c.loop-symbol.invariant.symbols c.loop-symbol.invariant.values c.loop-symbol.yielded_by c.in-Some.is c.next.ensures.steps in
    omega (arith, t.of_symbol, get_or-take s.len s.symbols k 0 (omega (arith, t.inside, symbols_length s.len s.symbols s.sized.1 s.full)), s.symbolic k)

pub bounds-memory-at : goal.bounds-memory-at
bounds-memory-at c =
    let t = turn _ c.args.self.now.row.values _ c.into_iter-symbol-iterator.result c.loop-symbol.symbol-iterator c.next.new.self _ (c.in-Some.symbol, c.in-Some.value) c.loop-symbol.invariant.symbols c.loop-symbol.invariant.values c.loop-symbol.yielded_by c.in-Some.is c.next.ensures.steps in
    omega (arith, room t _ _ _ c.loop-symbol.invariant.place c.text_len-n.ensures c.if-memory-n.false)

pub put_digit-at-requires-in-loop-symbol : goal.put_digit-at-requires-in-loop-symbol
put_digit-at-requires-in-loop-symbol c =
    let t = turn _ c.args.self.now.row.values _ c.into_iter-symbol-iterator.result c.loop-symbol.symbol-iterator c.next.new.self _ (c.in-Some.symbol, c.in-Some.value) c.loop-symbol.invariant.symbols c.loop-symbol.invariant.values c.loop-symbol.yielded_by c.in-Some.is c.next.ensures.steps in
    let d = c.args.self.now.row.digits (length c.loop-symbol.yielded + 1) in
    (omega (arith, t.of_value), omega (arith, length-set c.loop-symbol.memory c.loop-symbol.at c.symbol_byte.result, room t _ _ _ c.loop-symbol.invariant.place c.text_len-n.ensures c.if-memory-n.false))

pub loop-symbol-preserved : goal.loop-symbol-preserved
loop-symbol-preserved c =
    let t = turn _ c.args.self.now.row.values _ c.into_iter-symbol-iterator.result c.loop-symbol.symbol-iterator c.next.new.self _ (c.in-Some.symbol, c.in-Some.value) c.loop-symbol.invariant.symbols c.loop-symbol.invariant.values c.loop-symbol.yielded_by c.in-Some.is c.next.ensures.steps in
    let r : c.loop-symbol.at + (1 + length (digit c.in-Some.value.now)) ≤ length c.put_digit-at.new.memory = omega (arith, room t _ _ _ c.loop-symbol.invariant.place c.text_len-n.ensures c.if-memory-n.false) in
    let w = write_step t _ _ _ _ _ c.loop-symbol.invariant.place c.loop-symbol.invariant.left c.symbol_byte.ensures r c.put_digit-at-in-loop-symbol.ensures.place in
    record { symbols = c.loop-symbol.invariant.symbols; values = c.loop-symbol.invariant.values; place = rw length_push w.0; left = rw length_push (c.put_digit-at-in-loop-symbol.ensures.left ∙ w.1) }

pub returns : goal.returns
unfolding text_to
returns c =
    let p = c.args.self.now in
    let S = symbols_of p.spelling in
    let v = get_or p.row.values 0 0 in
    let l : length S < length p.row.values = omega (arith, symbols_length p.spelling.len p.spelling.symbols p.spelling.sized.1 p.spelling.full, p.spelling.sized, p.row.full) in
    let e : length c.loop-symbol.yielded ≡ length S = turns _ p.row.values _ c.into_iter-symbol-iterator.result c.loop-symbol.symbol-iterator c.next.new.self _ c.loop-symbol.invariant.symbols c.loop-symbol.invariant.values c.loop-symbol.yielded_by c.in-None.is c.next.ensures.steps l in
    let i : c.loop-symbol.at ≡ c.text_len-n.result = c.loop-symbol.invariant.place ∙ ap (λ (k : ℕ). length (text_to S p.row.values k)) e ∙ sym c.text_len-n.ensures in
    let g : length (digit v) ≤ c.text_len-n.result = omega (arith, c.text_len-n.ensures, len_mono S p.row.values 0 (length S) (omega arith)) in
    record {
      wrote = (
        c.text_len-n.ensures,
        c.loop-symbol.invariant.left
            ∙ ap₂ (λ (k j : ℕ). text_to S p.row.values k ++ drop j c.put_digit-at.new.memory) e i
            ∙ ap (λ (x : List ℕ). text_of (spelled p) ++ x) (ap (drop c.text_len-n.result) c.put_digit-at.ensures.left ∙ digit_behind c.args.memory.now v c.text_len-n.result g ∙ ap (λ (j : ℕ). drop j c.args.memory.now) c.text_len-n.ensures),
        omega (arith, c.text_len-n.ensures, c.if-memory-n.false),
      );
      back = written_then_read (spelled p) (valid_of p p.spelling.full p.row.full);
      trips = round_trips;
    }

pub returns-then-memory-n : goal.returns-then-memory-n
returns-then-memory-n c =
    let p = c.args.self.now in
    record {
      wrote = (omega (arith, c.text_len-n.ensures, c.if-memory-n.true), refl);
      back = written_then_read (spelled p) (valid_of p p.spelling.full p.row.full);
      trips = round_trips;
    }
