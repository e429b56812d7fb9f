-- The segment of a booking, on the flight of its place, beside that of its request.
use Rattle.std.specs.Prelude.{◌≡◌, List, Some}
use Rattle.airline_base.specs.declared.place.Place.{Place}
use Rattle.airimp_lines.specs.declared.requests.Request.{Request}
use Rattle.ssim_flights.specs.Places.{place_wanted}
use Rattle.ssim_flights.specs.declared.flight.Flight.{Flight as Flown}
use Rattle.seat_replies.specs.Requests.{command_of, wanted_of}
use Rattle.seat_replies.specs.RunDesk.{of_command, of_request}

-- where a place serves a request, the locator and the segment on its flight are those of the request
abbrev pub RequestsAreFlown : Type 0
RequestsAreFlown = (flights : List Flown) (request : Request) (place : Place) →
    place_wanted flights (wanted_of request.segment) ≡ Some place
    → of_command flights (command_of flights request) ≡ Some (of_request request)
