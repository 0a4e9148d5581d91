-- `text::put_pair` meets its contract: three parts.
use Rattle.text.specs.Texts.{pair_line}
use Rattle.text.specs.Putting.{puts_both}
use Rattle.text.proofs.put_pair.Goals as goal

pub returns : goal.returns
unfolding pair_line
returns c = search puts_both
