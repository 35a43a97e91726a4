-- `blocks::under_node` meets its contract: each arm has the block of its operator. Assumes nothing.
use Rattle.std.proofs.Common.{rules}
use Rattle.blocks.proofs.Making.{in_letter, in_next, in_until, of_letter, of_next, of_until, of_other}
use Rattle.blocks.proofs.under_node.Goals as goal

pub letter_node-requires : goal.letter_node-requires
letter_node-requires c = (search rules, search in_letter)

pub next_node-requires : goal.next_node-requires
next_node-requires c = (search rules, search in_next)

pub until_node-requires : goal.until_node-requires
until_node-requires c = (search rules, search in_until)

pub returns-in-16 : goal.returns-in-16
returns-in-16 c = search of_letter

pub returns-in-38 : goal.returns-in-38
returns-in-38 c = search of_next

pub returns-in-39 : goal.returns-in-39
returns-in-39 c = search of_until

pub returns-in_default : goal.returns-in_default
returns-in_default c = search of_other
