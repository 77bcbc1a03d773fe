-- `schedule::keeps` meets its contract.
use Rattle.std.proofs.Common.{eqb-true}
use Rattle.meaning.specs.Block.{keeps}
use Rattle.schedule.specs.Rules.{rule_of, asked}
use Rattle.schedule.proofs.keeps.Goals as goal

pub within-requires : goal.within-requires
unfolding rule_of asked
within-requires c = rw c.in-Within.is at c.requires

pub time_ok-requires : goal.time_ok-requires
unfolding rule_of asked
time_ok-requires c = eqb-true _ _ (rw c.in-Time.is at c.requires)

pub ratio_ok-requires : goal.ratio_ok-requires
unfolding rule_of asked
ratio_ok-requires c = eqb-true _ _ (rw c.in-Ratio.is at c.requires)

pub returns-in-Free : goal.returns-in-Free
unfolding keeps rule_of
returns-in-Free c = rw c.in-Free.is

pub returns-in-Within : goal.returns-in-Within
unfolding keeps rule_of
returns-in-Within c = rw c.in-Within.is c.within.ensures

pub returns-in-Time : goal.returns-in-Time
unfolding keeps rule_of
returns-in-Time c = rw c.in-Time.is c.time_ok.ensures

pub returns-in-Entries : goal.returns-in-Entries
unfolding keeps rule_of
returns-in-Entries c = rw c.in-Entries.is c.list_ok.ensures

pub returns-in-Ratio : goal.returns-in-Ratio
unfolding keeps rule_of
returns-in-Ratio c = rw c.in-Ratio.is c.ratio_ok.ensures

pub returns-in-Running : goal.returns-in-Running
unfolding keeps rule_of
returns-in-Running c = rw c.in-Running.is c.form_and_fit.ensures
