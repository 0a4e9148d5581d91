-- The first v starts are in their cells.
use Rattle.std.proofs.Common.{◌≡◌}
use Rattle.network.specs.Network.{network_of}
use Rattle.wiring.specs.Starts.{Started}
use Rattle.wiring.proofs.put_starts.Given as goal

abbrev pub invariant-loop-v : goal.invariant-loop-v
invariant-loop-v l = record {
  started : Started l.net.parts.variables l.references (network_of l.net.file.now).starts l.sheet.cells l.v;
  records : l.sheet.records ≡ l.fn.sheet.records;
}
