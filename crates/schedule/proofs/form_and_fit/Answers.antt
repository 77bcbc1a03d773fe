-- `schedule::form_and_fit` meets its contract.
use Rattle.std.proofs.Common.{length, sym, ap, ◌∙◌, arith, leb-true}
use Rattle.meaning.specs.Block.{form_and_fit}
use Rattle.meaning.proofs.Tests.{every_at, not-true}
use Rattle.schedule.proofs.Blocks.{split_joined}
use Rattle.schedule.proofs.form_and_fit.Goals as goal

pub returns-then-b-lt-BLOCK_REST : goal.returns-then-b-lt-BLOCK_REST
unfolding form_and_fit
returns-then-b-lt-BLOCK_REST c = sym (not-true _ (λ e. omega (arith, leb-true 22 (length c.args.b.now) (every_at _ 0 e), c.if-b-lt-BLOCK_REST.true)))

pub returns : goal.returns
returns c =
    c.values_fit.ensures ∙ rw (c.ratio_of.ensures.0, c.list_of.ensures) (ap form_and_fit (split_joined c.args.b.now c.if-b-lt-BLOCK_REST.false))
