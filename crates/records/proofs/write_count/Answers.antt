-- `records::write_count` meets its contract.
use Rattle.records.proofs.write_count.Goals as goal

pub returns : goal.returns
returns c = c.write_octet.ensures
