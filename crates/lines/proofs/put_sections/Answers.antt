-- `lines::put_sections` meets its contract: three parts.
use Rattle.std.proofs.Common.{rules}
use Rattle.lines.specs.Sections.{pivots_fit, records_fit, answers_fit, sections_put}
use Rattle.lines.proofs.put_sections.Goals as goal

pub put_entries-pivots-requires-clause-room : goal.put_entries-pivots-requires-clause-room
put_entries-pivots-requires-clause-room c = search (pivots_fit, rules)

pub put_entries-records-requires-clause-room : goal.put_entries-records-requires-clause-room
put_entries-records-requires-clause-room c = search (records_fit, rules)

pub put_entries-requires-clause-room : goal.put_entries-requires-clause-room
put_entries-requires-clause-room c = search (answers_fit, rules)

pub returns : goal.returns
returns c = search (sections_put, rules)
