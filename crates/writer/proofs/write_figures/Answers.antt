-- The four numbers that it writes are the section.
use Rattle.writer.specs.Entering.{puts_figures}
use Rattle.writer.proofs.write_figures.Goals as goal

pub returns : goal.returns
returns c = search puts_figures
