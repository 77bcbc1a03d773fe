-- A row of the code's table as a row of `meaning`.
use Rattle.meaning.specs.Table.{controller, port, nobody}
use Rattle.meaning.specs.Table as table
use Rattle.schedule.specs.Rules.{rule_of}
use Rattle.table.specs.declared.Owner.{Owner}
use Rattle.table.specs.declared.Owner.TheVariants.{Controller, Port, Nobody}
use Rattle.table.specs.declared.Row.{Row}

unfoldable pub owner_of : Owner → table.Owner
owner_of Controller = controller
owner_of Port = port
owner_of Nobody = nobody

unfoldable pub row_of : Row → table.Row
row_of r = table.row r.name r.least r.most (owner_of r.owner) (rule_of r.rule)
