use Rattle.std.proofs.Common.{◌≡◌, ◌++◌, string_bytes, drop}
use Rattle.explain_text.specs.Views.{page_data}
use Rattle.explain_text.specs.Listings.{listing_from}
use Rattle.explain_text.proofs.listing.write_listing.Given as goal

abbrev pub invariant-loop-node : goal.invariant-loop-node
invariant-loop-node l = string_bytes l.out ++ listing_from (page_data l.page) l.method l.node (drop l.node l.basics) ≡ string_bytes l.fn.out ++ listing_from (page_data l.page) l.method 0 l.basics
