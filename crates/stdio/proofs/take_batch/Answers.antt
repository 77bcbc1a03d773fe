-- `stdio::take_batch` meets its contract.
use Prim.Native.Nat.{◌+◌, ◌-◌, ◌≤◌}
use native.Mathlib.Omega.{arith}
use mathlib.Core.Path.{◌≡◌, ◌∙◌}
use mathlib.Core.Bool.{true, false≢true, true≢false}
use lib.ListN.{length, take, drop}
use Rattle.meaning.specs.Octets.{octet}
use Rattle.page.specs.Printing.{HasRoom}
use Rattle.stdio.specs.Pieces.{needed}
use Rattle.stdio.specs.Taking.{TakesOne, whole_at}
use Rattle.stdio.proofs.Taking.{found_whole, found_more, piece-turn, piece-faulty}
use Rattle.stdio.proofs.take_batch.Given.{Over}
use Rattle.stdio.proofs.take_batch.Goals as goal
use Rattle.stdio.proofs.take_batch.Goals.{In-Some, After-take}

-- the piece that is found
found : (g : Over) (c : In-Some g)
    → let head = g.P.TakePieces.program.head in
    let held = c.args.held.now in
    let from = c.loop-page.next in
    let end = c.in-Some.end in
    (end ≡ from + needed held from head) × (whole_at head held from ≡ true) × (from + head ≤ end) × (end ≤ length held)
found g c =
    found_whole g.P.TakePieces.program.head c.args.held.now c.loop-page.next c.in-Some.is (rw c.head-head.ensures.0 at c.next_piece.ensures)

-- and taken
takes : (g : Over) (c : After-take g)
    → let P = g.P.TakePieces in
    let head = P.program.head in
    let held = c.args.held.now in
    let l = c.loop-page in
    TakesOne P.program (P.state l.port) (record { first = octet held l.next; body = take (c.in-Some.end - (l.next + head)) (drop (l.next + head) held) }) P.longest l.page c.take.new.page c.take.result (P.state c.take.new.self)
takes g c = rw c.head-head.ensures.0 at c.take.ensures.takes

pub returns-in_default-clause-batched : goal.returns-in_default-clause-batched
returns-in_default-clause-batched g c =
    let l = c.loop-page in
    let t = g.P.TakePieces.program in
    record {
      same = l.invariant.6.0;
      joined = l.invariant.6.1;
      stopped = λ e. absurd (false≢true e);
      all = λ e h. found_more t c.args.held.now l.next (λ i. omega (arith, c.type_inv.held i)) c.in_default.is (rw c.head-head.ensures.0 at c.next_piece.ensures);
      onward = λ e h. l.invariant.4 (omega (arith, h));
      within = l.invariant.2;
      short = omega (arith, l.invariant.3, l.invariant.1, c.requires.4);
    }

pub bounds-held-next : goal.bounds-held-next
bounds-held-next g c =
    let f = found g (goal.at.bounds-held-next g c).In-Some in
    omega (arith, f.2, f.3, c.head-head.ensures.0, c.head-head.ensures.1)

pub slice_bounds-body-count : goal.slice_bounds-body-count
slice_bounds-body-count g c =
    let f = found g (goal.at.slice_bounds-body-count g c).In-Some in
    omega (arith, f.2, f.3, c.head-head.ensures.0)

pub slice_bounds-body-start : goal.slice_bounds-body-start
slice_bounds-body-start g c =
    let f = found g (goal.at.slice_bounds-body-start g c).In-Some in
    omega (arith, f.2, f.3, c.head-head.ensures.0)

pub slice_bounds-body-end : goal.slice_bounds-body-end
slice_bounds-body-end g c =
    let f = found g (goal.at.slice_bounds-body-end g c).In-Some in
    omega (arith, f.2, f.3, c.head-head.ensures.0)

pub returns-then-is_none-clause-batched : goal.returns-then-is_none-clause-batched
returns-then-is_none-clause-batched g c =
    let places = goal.at.returns-then-is_none-clause-batched g c in
    let f = found g places.In-Some in
    let P = g.P.TakePieces in
    let l = c.loop-page in
    let e = c.head-head.ensures in
    let m : HasRoom l.page 4 = omega (arith, l.invariant.1, c.loop-page-test.true, c.requires.2, c.requires.4) in
    let b =
    piece-faulty P.program (omega (arith, e.0, e.1)) c.args.held.now l.page _ (P.state l.port) l.next P.longest c.take.result (P.state c.take.new.self) c.take.new.page l.invariant.6
    (omega (arith, m)) f.1 f.0 (takes g places.After-take) c.if-is_none.ensures m c.write_cut.ensures in (
      l.next,
      record {
        same = b.1;
        joined = b.2;
        stopped = λ e. b.0;
        all = λ e. absurd (true≢false e);
        onward = λ e. absurd (true≢false e);
        within = l.invariant.2;
        short = b.3;
      },
    )

pub loop-page-smaller : goal.loop-page-smaller
loop-page-smaller g c =
    let f = found g (goal.at.loop-page-smaller g c).In-Some in
    omega (arith, f.2, f.3, c.head-head.ensures.0, c.head-head.ensures.1)

pub loop-page-preserved : goal.loop-page-preserved
loop-page-preserved g c =
    let places = goal.at.loop-page-preserved g c in
    let f = found g places.In-Some in
    let P = g.P.TakePieces in
    let l = c.loop-page in
    let e = c.head-head.ensures in
    let b =
    piece-turn P.program (omega (arith, e.0, e.1)) c.args.held.now l.page _ (P.state l.port) l.next P.longest c.take.result (P.state c.take.new.self) c.take.new.page l.invariant.6
    (omega (arith, l.invariant.1, l.invariant.3, c.requires.4)) f.1 f.0 (takes g places.After-take) c.if-is_none.ensures in (
      c.take.ensures.fits,
      b.1 ∙ l.invariant.1,
      f.3,
      omega (arith, b.0, c.loop-page-test.true),
      (λ k. omega (arith, f.2, e.0, e.1, l.invariant.5)),
      omega (arith, f.2, e.0, e.1, l.invariant.5),
      b.2,
    )
