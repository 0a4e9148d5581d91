-- The search has come down to k.
use Rattle.records.specs.Found.{Searched}
use Rattle.records.proofs.Records.find.Given as goal

abbrev pub invariant-loop-k : goal.invariant-loop-k
invariant-loop-k l = Searched l.out l.self.base l.self.count l.x l.k
