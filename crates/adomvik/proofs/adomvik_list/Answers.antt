use Rattle.std.proofs.Common.{◌∙◌, ap}
use Rattle.adomvik.specs.Placed.{number_of_listing}
use Rattle.adomvik.specs.Calls.{list_number}
use Rattle.adomvik.proofs.adomvik_list.Goals as goal

pub returns : goal.returns
unfolding list_number number_of_listing
returns c = (c.listing_number.ensures ∙ ap number_of_listing c.list_stack.ensures.0, c.list_stack.ensures.1)
