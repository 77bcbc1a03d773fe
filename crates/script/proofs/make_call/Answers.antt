-- `script::make_call` meets its contract.
use lib.ListN.{drop}
use Rattle.meaning.specs.Octets.{at16}
use Rattle.meaning.specs.FormB.{make_fresh, local_value, expiry}
use Rattle.script.specs.Instructions.{profile_asked}
use Rattle.script.proofs.Codes.{message-body, local_body, fresh-called, message-called, local_called, build-called, expiry-called, alone_gives}
use Rattle.octets.proofs.Splices.{rest_is_lem}
use Rattle.script.proofs.make_call.Goals as goal

pub slice_bounds-message-count : goal.slice_bounds-message-count
slice_bounds-message-count c = message-body c.requires c.in-Message.is

pub slice_bounds-message-start : goal.slice_bounds-message-start
slice_bounds-message-start c = message-body c.requires c.in-Message.is

pub get16-requires : goal.get16-requires
get16-requires c = local_body c.requires c.in-LocalValue.is

pub slice_bounds-local_value-count : goal.slice_bounds-local_value-count
slice_bounds-local_value-count c = local_body c.requires c.in-LocalValue.is

pub slice_bounds-local_value-start : goal.slice_bounds-local_value-start
slice_bounds-local_value-start c = local_body c.requires c.in-LocalValue.is

pub returns-in-Fresh : goal.returns-in-Fresh
returns-in-Fresh c =
    let a = c.args in
    let g = rw c.profile_asked.ensures at c.make_fresh.ensures in
    rw (fresh-called a.body.now a.memory.now a.room.now c.in-Fresh.is) (alone_gives (make_fresh a.memory.now (profile_asked a.body.now)) a.room.now g)

pub returns-in-Message : goal.returns-in-Message
returns-in-Message c =
    let a = c.args in
    rw (message-called a.body.now a.memory.now a.room.now c.in-Message.is) (rw (rest_is_lem a.body.now 2) at c.message.ensures)

pub returns-in-LocalValue : goal.returns-in-LocalValue
returns-in-LocalValue c =
    let a = c.args in
    let g = rw (c.get16.ensures.0, rest_is_lem a.body.now 2) at c.local_value.ensures in
    rw (local_called a.body.now a.memory.now a.room.now c.in-LocalValue.is) (alone_gives (local_value a.memory.now (at16 a.body.now 0) (drop 2 a.body.now)) a.room.now g)

pub returns-in-Build : goal.returns-in-Build
returns-in-Build c =
    let a = c.args in
    rw (build-called a.body.now a.memory.now a.room.now c.in-Build.is) c.build.ensures

pub returns-in-Expiry : goal.returns-in-Expiry
returns-in-Expiry c =
    let a = c.args in
    rw (expiry-called a.body.now a.memory.now a.room.now c.in-Expiry.is) (alone_gives (expiry a.memory.now) a.room.now c.expiry.ensures)
