-- `text::put_text` meets its contract: the text is copied over its part of the buffer.
use Rattle.text.specs.Putting.{puts_copied}
use Rattle.text.proofs.put_text.Goals as goal

pub returns : goal.returns
returns c = search puts_copied
