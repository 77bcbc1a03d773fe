-- `page::Page::push` meets its contract.
use mathlib.Core.Path.{refl}
use lib.ListN.{length-set}
use Rattle.octets.proofs.Splices.{one_store}
use Rattle.page.proofs.Page.push.Goals as goal

pub returns : goal.returns
returns c = record { place = refl; octets = one_store c.args.self.now.room.now c.args.self.now.at c.args.x c.requires; room = refl; long = length-set c.args.self.now.room.now c.args.self.now.at c.args.x }
