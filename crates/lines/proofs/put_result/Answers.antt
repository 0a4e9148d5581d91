-- `lines::put_result` meets its contract: the first line, and those after it.
use Rattle.std.proofs.Common.{rules}
use Rattle.lines.specs.Sections.{result_first, result_last, result_put}
use Rattle.lines.proofs.put_result.Goals as goal

pub put_counts-next-requires : goal.put_counts-next-requires
put_counts-next-requires c = search (result_first, rules)

pub put_sections-requires-clause-room : goal.put_sections-requires-clause-room
put_sections-requires-clause-room c = search (result_last, rules)

pub returns : goal.returns
returns c = search (result_put, rules)
