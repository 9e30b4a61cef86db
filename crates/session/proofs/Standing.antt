-- The extent of a journal that stands: the log that it describes. Assumes nothing.
use Rattle.std.specs.Prelude.{Some, ◌≡◌}
use Rattle.journal.specs.declared.JournalExtent.{JournalExtent}
use Rattle.journal.specs.Journal.{log_of}
use Rattle.journal.specs.View.{Memory}
use Rattle.journal.specs.Replay.{extent_of}
use Rattle.journal.proofs.Logged.{Logged, extent_formed, extent_met}
use Rattle.session.specs.Standing.{Stands}

pub extent_stands : (m : Memory) {w : JournalExtent} → Some w ≡ extent_of m → Stands m w
extent_stands m is = record { met = (extent_met m is).0; extent = is }

pub stands_logged : {m : Memory} {w : JournalExtent} → Stands m w → Logged m w (log_of m.journal)
stands_logged {m = m} s = extent_formed m s.extent
