-- Nothing, the line of a refusal by 1 to 7, or an accepted file's listing.
use Rattle.std.proofs.Common.{rules}
use Rattle.list.specs.Promise.{list_short, list_put, unread_fits, unread_put}
use Rattle.list.proofs.list.Goals as goal

pub returns-then-out-lt-LISTING_ROOM : goal.returns-then-out-lt-LISTING_ROOM
returns-then-out-lt-LISTING_ROOM c = search (list_short, rules)

pub put_refused-requires : goal.put_refused-requires
put_refused-requires c = search (unread_fits, rules)

pub returns-in-Err : goal.returns-in-Err
returns-in-Err c = search (unread_put, rules)

pub returns-in-Ok : goal.returns-in-Ok
returns-in-Ok c = search (list_put, rules)
