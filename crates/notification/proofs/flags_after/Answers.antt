-- `notification::flags_after` meets its contract.
use Rattle.notification.specs.Moments.{moment_of}
use Rattle.notification.proofs.Turning.{sent, acknowledged, given_up_kept, given_up_turned}
use Rattle.notification.proofs.flags_after.Goals as goal

pub returns-in-Sent : goal.returns-in-Sent
unfolding moment_of
returns-in-Sent c = rw c.in-Sent.is (sent c.args.f c.requires)

pub returns-in-Acknowledged : goal.returns-in-Acknowledged
unfolding moment_of
returns-in-Acknowledged c = rw c.in-Acknowledged.is (acknowledged c.args.f c.requires)

pub returns-in-GivenUp : goal.returns-in-GivenUp
unfolding moment_of
returns-in-GivenUp c = rw c.in-GivenUp.is (given_up_kept c.args.f c.requires c.if-f-lt-IN_FLIGHT.true)

pub returns-in-GivenUp-2 : goal.returns-in-GivenUp-2
unfolding moment_of
returns-in-GivenUp-2 c = rw c.in-GivenUp.is (given_up_turned c.args.f c.requires c.if-f-lt-IN_FLIGHT.false)
