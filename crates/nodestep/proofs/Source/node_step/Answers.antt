-- `nodestep::Source::node_step` meets its contract: one law an arm. Assumes nothing.
use Rattle.nodestep.proofs.Arms.{repeated, delayed, goto, nonconsecutive, implies_next_lem, followed, followed_next_lem, always, eventually, strong_until_lem, strong_next_lem, base}
use Rattle.nodestep.proofs.Source.node_step.Goals as goal

pub returns-in-23 : goal.returns-in-23
returns-in-23 c = search repeated

pub returns-in-24 : goal.returns-in-24
returns-in-24 c = search delayed

pub returns-in-25 : goal.returns-in-25
returns-in-25 c = search goto

pub returns-in-26 : goal.returns-in-26
returns-in-26 c = search nonconsecutive

pub returns-in-41 : goal.returns-in-41
returns-in-41 c = search implies_next_lem

pub returns-in-42 : goal.returns-in-42
returns-in-42 c = search followed

pub returns-in-43 : goal.returns-in-43
returns-in-43 c = search followed_next_lem

pub returns-in-44 : goal.returns-in-44
returns-in-44 c = search always

pub returns-in-45 : goal.returns-in-45
returns-in-45 c = search eventually

pub returns-in-46 : goal.returns-in-46
returns-in-46 c = search strong_until_lem

pub returns-in-47 : goal.returns-in-47
returns-in-47 c = search strong_next_lem

pub returns-in_default : goal.returns-in_default
returns-in_default c = search base
