-- `lines::put_counts` meets its contract: five numbers with their texts, and the ending.
use Rattle.lines.specs.Lines.{counts_line}
use Rattle.text.specs.Putting.{puts_both}
use Rattle.text.specs.Texts.{pair_line}
use Rattle.lines.proofs.put_counts.Goals as goal

pub returns : goal.returns
unfolding counts_line pair_line
returns c = search puts_both
