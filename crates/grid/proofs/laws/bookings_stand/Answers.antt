use Rattle.grid.proofs.Answering.{bookings_stand_lem}
use Rattle.grid.proofs.laws.bookings_stand.Goals as goal

pub returns : goal.returns
returns c = bookings_stand_lem
