-- `telling::write_record` meets its contract.
use Rattle.meaning.specs.Octets.{part}
use Rattle.contents.specs.Spans.{octets_of}
use Rattle.capture.specs.Handing.{record_of}
use Rattle.words.specs.Lines.{valued, failing}
use Rattle.telling.proofs.Tells.{name-room, read_error_room, update_error_room, value_room, update-room, long-room}
use Rattle.telling.proofs.write_record.Goals as goal

pub write_name-requires : goal.write_name-requires
write_name-requires c = name-room _ _ _ _ c.requires.0 c.requires.1 _ c.in-Name.is

pub write_held-requires : goal.write_held-requires
unfolding octets_of part
write_held-requires c = value_room _ _ _ _ c.requires.0 c.requires.1 _ _ c.in-Value.is

pub write_held-requires-in-Update : goal.write_held-requires-in-Update
unfolding octets_of part
write_held-requires-in-Update c = update-room _ _ _ _ c.requires.0 c.requires.1 _ _ c.in-Update.is

pub write_held-requires-in-LongUpdate : goal.write_held-requires-in-LongUpdate
unfolding octets_of part
write_held-requires-in-LongUpdate c = long-room _ _ _ _ c.requires.0 c.requires.1 _ _ c.in-LongUpdate.is

pub write_failed-requires : goal.write_failed-requires
write_failed-requires c = read_error_room _ _ _ _ c.requires.0 c.requires.1 _ _ c.in-ReadError.is

pub write_failed-requires-in-UpdateError : goal.write_failed-requires-in-UpdateError
write_failed-requires-in-UpdateError c = update_error_room _ _ _ _ c.requires.0 c.requires.1 _ _ c.in-UpdateError.is

pub returns-in-Name : goal.returns-in-Name
unfolding record_of
returns-in-Name c = rw c.in-Name.is c.write_name.ensures

pub returns-in-Value : goal.returns-in-Value
unfolding record_of valued octets_of part
returns-in-Value c = rw c.in-Value.is c.write_held.ensures

pub returns-in-Update : goal.returns-in-Update
unfolding record_of valued octets_of part
returns-in-Update c = rw c.in-Update.is c.write_held-in-Update.ensures

pub returns-in-LongUpdate : goal.returns-in-LongUpdate
unfolding record_of valued octets_of part
returns-in-LongUpdate c = rw c.in-LongUpdate.is c.write_held-in-LongUpdate.ensures

pub returns-in-ReadError : goal.returns-in-ReadError
unfolding record_of failing
returns-in-ReadError c = rw c.in-ReadError.is c.write_failed.ensures

pub returns-in-UpdateError : goal.returns-in-UpdateError
unfolding record_of failing
returns-in-UpdateError c = rw c.in-UpdateError.is c.write_failed-in-UpdateError.ensures
