use Rattle.std.proofs.Common.{rules}
use Rattle.std.proofs.lemmas.List.Sorted.{answers_always}
use Rattle.program_tables.proofs.Sorting.{key_of, sorted_found}
use Rattle.program_tables.proofs.text_listing.in_order.Goals as goal

pub returns : goal.returns
returns c = sorted_found c.args.found.items c.sort_by_key.new.self.items
    (c.in_ok-sort_by_key.ensures.sorted key_of (answers_always _ _ _ (λ f a r f' h. search rules)))
    (c.in_ok-sort_by_key.ensures.stable key_of (answers_always _ _ _ (λ f a r f' h. search rules)))
