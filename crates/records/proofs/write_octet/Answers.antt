-- `records::write_octet` meets its contract.
use mathlib.Core.Path.{refl}
use Rattle.octets.proofs.Splices.{one_store}
use Rattle.records.proofs.write_octet.Goals as goal

pub returns : goal.returns
returns c = (refl, one_store c.args.out.now c.args.at c.args.x c.requires)
