-- `text::write_octet_field` meets its contract.
use Rattle.text.specs.Lines.{hex, octet_field}
use Rattle.text.proofs.write_octet_field.Goals as goal

pub returns : goal.returns
unfolding octet_field hex
returns c = rw (c.digit.ensures, c.digit-2.ensures) at c.print.ensures
