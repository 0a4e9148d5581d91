-- The reply's number tells the reply.
use Rattle.exports.specs.Doors.{analysed_through}
use Rattle.exports.proofs.jorulbani_analyse.Goals as goal

pub returns : goal.returns
returns c = analysed_through _ _ _ _ c.analyse.ensures _ c.code.ensures
