-- What a refusal, a place and a report are when they go out.
use Rattle.std.specs.Prelude.{ℕ, None, Some, Option, unwrap_or}
use Rattle.refusals.specs.declared.Refusal.{Refusal}
use Rattle.refusals.specs.Numbers.{number}
use Rattle.book.specs.declared.fault.Stop.{Stop}
use Rattle.book.specs.Faults.{post_place, post_refusal}
use Rattle.report.specs.declared.answer.Report.{Report}
use Rattle.counter_ties_c.specs.declared.answers.Spot.{Spot}
use Rattle.counter_ties_c.specs.declared.answers.Summary.{Summary}

-- a refusal is its number, and want of memory, which is none, is 255
abbrev pub status_of : Option Refusal → ℕ
status_of None = 255
status_of (Some r) = number r

-- the tie and the term that a fault names are told, and what it does not name is kept
abbrev pub spot_after : Spot → Option ℕ → Option ℕ → Spot
spot_after old tie place = record { tie = unwrap_or tie old.tie; place = unwrap_or place old.place }

-- the number of the refusal that stopped posting, and where; 0 where nothing did or nothing is named
abbrev pub stop_number : Option Stop → ℕ
stop_number None = 0
stop_number (Some stop) = number (post_refusal stop.fault)

abbrev pub stop_spot : Option Stop → Spot
stop_spot None = record { tie = 0; place = 0 }
stop_spot (Some stop) = record { tie = stop.tie; place = unwrap_or (post_place stop.fault) 0 }

-- a report, field for field
abbrev pub summary_of : Report → Summary
summary_of r =
    record {
      standing = r.standing;
      stopped_at = stop_spot r.stopped;
      free = r.free;
      stopped = stop_number r.stopped;
      heads = r.heads;
      counters = r.counters;
      settled = r.settled;
    }
