use Rattle.miter_blast.proofs.PricedBodies.{price_of_body}
use Rattle.miter_blast.proofs.price_laws.prices_are_of_bodies.Goals as goal

pub returns : goal.returns
returns c = price_of_body
