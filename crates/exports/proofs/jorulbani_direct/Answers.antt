-- The reply's number tells the reply.
use Rattle.exports.specs.Doors.{directed_through}
use Rattle.exports.proofs.jorulbani_direct.Goals as goal

pub returns : goal.returns
returns c = directed_through _ _ _ _ _ c.direct.ensures _ c.code.ensures
