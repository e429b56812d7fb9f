-- The names that most proofs of this crate cite, passed on from one place. Declares nothing.
pub use Rattle.airimp_lines.specs.declared.requests.Request.{Request}
pub use Rattle.airimp_lines.specs.declared.segment.Segment.{Segment}
pub use Rattle.airline_base.specs.declared.place.Place.{Place}
pub use Rattle.seat_desk.specs.AuditDesk.{audit_line, most_journal_bytes}
pub use Rattle.seat_desk.specs.Loading.{IsLoaded, IsFirstTooLargeLoad}
pub use Rattle.seat_desk.specs.declared.fault.DeskFault.{DeskFault}
pub use Rattle.seat_desk.specs.declared.fault.DeskFault.TheVariants.{Memory, Unasked}
pub use Rattle.seat_journal.specs.declared.entry.Advice.{Advice}
pub use Rattle.seat_journal.specs.declared.entry.Change.{Change}
pub use Rattle.seat_journal.specs.declared.entry.Command.{Command}
pub use Rattle.seat_journal.specs.declared.entry.Entry.{Entry}
pub use Rattle.seat_journal.specs.declared.entry.Work.{Work}
pub use Rattle.seat_journal.specs.declared.entry.Work.TheVariants.{Seats}
pub use Rattle.seat_limits.specs.Authorised.{authorised_grid}
pub use Rattle.seat_limits.specs.declared.limit_row.LimitRow.{LimitRow}
pub use Rattle.seat_nesting.specs.Nesting.{Ladders, Fits}
pub use Rattle.seat_rules.specs.Histories.{by_session, of_session}
pub use Rattle.seat_rules.specs.Journal.{IsLegal, IsNext}
pub use Rattle.seat_rules.specs.Totals.{totals_of}
pub use Rattle.seat_scripts.specs.Against.{done_by, AreAskedBehind, IsUnasked}
pub use Rattle.seat_replies.specs.Asked.{OfThree, HasLoaded}
pub use Rattle.seat_replies.specs.Going.{idle, lists_over, behind}
pub use Rattle.seat_replies.specs.Requests.{commands_of, AreScripts, IsRefusedAmong, IsTooLargeAmong}
pub use Rattle.seat_replies.specs.RunDesk.{IsHistoryOf, works_in}
unfoldable pub use Rattle.ssim_flights.specs.Places.{place_wanted}
pub use Rattle.ssim_flights.specs.declared.flight.DatedLeg.{DatedLeg}
pub use Rattle.std.specs.List.{AllByRecursion}
pub use Rattle.std.specs.Option.{option_map}
pub use Rattle.std.specs.Prelude.{slice_get}
