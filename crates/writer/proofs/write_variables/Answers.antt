-- A variable is written, and in the end the section is.
use Rattle.network.specs.Lists.{variables_length}
use Rattle.writer.specs.Entering.{entering_none, entering_done, variables_more}
use Rattle.writer.proofs.write_variables.Goals as goal

pub loop-k-init : goal.loop-k-init
loop-k-init c = search (entering_none, variables_length)

pub loop-k-preserved : goal.loop-k-preserved
loop-k-preserved c = search variables_more

pub returns : goal.returns
returns c = search entering_done
