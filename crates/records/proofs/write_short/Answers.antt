-- `records::write_short` meets its contract.
use native.Mathlib.Omega.{arith}
use mathlib.Core.Path.{◌∙◌}
use lib.ListN.{length-set}
use Rattle.records.proofs.Lengths.{short-length}
use Rattle.records.proofs.Written.{short-written}
use Rattle.records.proofs.write_short.Goals as goal

pub append-requires : goal.append-requires
append-requires c = simp length-set (omega arith)

pub shape_of-out : goal.shape_of-out
shape_of-out c =
    c.append.auto.out ∙ simp length-set c.put16.auto.s

pub returns : goal.returns
returns c =
    let a = c.args in (
      omega (arith, c.append.ensures.0, short-length (record { name = a.name; value = a.value.now })),
      short-written a.out.now a.value.now a.at a.name c.requires.0 c.put16.auto.s
          c.put16.ensures c.append.ensures.1,
    )
