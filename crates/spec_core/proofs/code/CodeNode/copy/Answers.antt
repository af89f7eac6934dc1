use Rattle.std.proofs.Common.{rules}
use Rattle.spec_core.proofs.code.CodeNode.copy.Goals as goal

pub returns-in-Stop : goal.returns-in-Stop
returns-in-Stop c = search rules

pub returns-in_ok-copy_exit_fields-in-Exit : goal.returns-in_ok-copy_exit_fields-in-Exit
returns-in_ok-copy_exit_fields-in-Exit c = search rules

pub returns-in-Inner : goal.returns-in-Inner
returns-in-Inner c = search rules

pub returns-in-Act : goal.returns-in-Act
returns-in-Act c = search rules

pub returns-in-Choice : goal.returns-in-Choice
returns-in-Choice c = search rules

pub returns-in-Guard : goal.returns-in-Guard
returns-in-Guard c = search rules

pub returns-in_ok-copy_bindings-in-Let : goal.returns-in_ok-copy_bindings-in-Let
returns-in_ok-copy_bindings-in-Let c = search rules

pub returns-in-Values : goal.returns-in-Values
returns-in-Values c = search rules

pub returns-in_ok-from_slice-in-Gates : goal.returns-in_ok-from_slice-in-Gates
returns-in_ok-from_slice-in-Gates c = search rules

pub returns-in_ok-copy-in-Par : goal.returns-in_ok-copy-in-Par
returns-in_ok-copy-in-Par c = search rules

pub returns-in_ok-from_slice-in-Hide : goal.returns-in_ok-from_slice-in-Hide
returns-in_ok-from_slice-in-Hide c = search rules

pub returns-in_ok-from_slice-in-Enable : goal.returns-in_ok-from_slice-in-Enable
returns-in_ok-from_slice-in-Enable c = search rules

pub returns-in-Disable : goal.returns-in-Disable
returns-in-Disable c = search rules

pub returns-in-Call : goal.returns-in-Call
returns-in-Call c = search rules

pub returns-in_ok-from_slice-in-Relabel : goal.returns-in_ok-from_slice-in-Relabel
returns-in_ok-from_slice-in-Relabel c = search rules

pub returns-in-Process : goal.returns-in-Process
returns-in-Process c = search rules
