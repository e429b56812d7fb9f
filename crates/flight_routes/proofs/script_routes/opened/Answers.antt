use Rattle.flight_routes.proofs.Openings.{opening_is_long}
use Rattle.flight_routes.proofs.script_routes.opened.Goals as goal

pub address_of-address-requires : goal.address_of-address-requires
address_of-address-requires c = opening_is_long c.args.begun.now c.args.words.now c.in-Some.locator c.args.message c.in-None.is c.in-Some.is c.requires
