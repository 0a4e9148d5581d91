-- The first k switches have been wired.
use Rattle.wiring.specs.Switches.{Joining}
use Rattle.wiring.proofs.wire_switches.Given as goal

abbrev pub invariant-loop-k : goal.invariant-loop-k
invariant-loop-k l = Joining l.net.file.now l.net.parts l.references l.fn.sheet l.fn.out l.k l.sheet l.links l.out
