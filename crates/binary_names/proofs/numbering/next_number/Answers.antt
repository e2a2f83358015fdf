use Rattle.std.proofs.Common.{◌≡◌, ◌+◌, true, false, ◌∙◌, arith}
use Rattle.std.specs.Prelude.{◌&&◌, if◌then◌else◌}
use Rattle.je_scopes.specs.Headers.{site_at, is_local_sort, within}
use Rattle.je_scopes.specs.Scope.{same_place}
use Rattle.je_scopes.specs.BinaryNames.{same_names, number_in}
use Rattle.name_sites.specs.View.{source_of}
use Rattle.name_sites.proofs.ImportSteps.{on_ok}
use Rattle.binary_names.specs.Counts.{counted}
use Rattle.binary_names.proofs.Counting.{few_counted, local_counted, local_number, other_counted, then_ok}
use Rattle.binary_names.proofs.numbering.next_number.Goals as goal

pub returns-then-not-is_local-clause-counted : goal.returns-then-not-is_local-clause-counted
returns-then-not-is_local-clause-counted c =
    let s = c.sort.ensures in let l = c.is_local.ensures in let f = c.if-not-is_local.true in
    let other : is_local_sort (site_at (source_of c.args.sites.now).sites c.args.class.0).sort ≡ false = cc in
    other_counted (source_of c.args.sites.now) c.args.class.0 c.args.counts.now c.args.counts.now c.requires.within other c.requires.counted

pub next-requires : goal.next-requires
next-requires c =
    let h = few_counted (source_of c.args.sites.now) c.args.class.0 c.args.counts.now c.place_of-place.result c.name.result c.requires.counted in
    let f = c.requires.few in omega (arith, h, f)

pub returns-clause-counted : goal.returns-clause-counted
returns-clause-counted c =
    let s = c.sort.ensures in let l = c.is_local.ensures in let f = c.if-not-is_local.false in
    let local : is_local_sort (site_at (source_of c.args.sites.now).sites c.args.class.0).sort ≡ true = cc in
    let place : c.place_of-place.result ≡ within (site_at (source_of c.args.sites.now).sites c.args.class.0) = c.place_of-place.ensures ∙ c.outside.ensures.within in
    on_ok c.next.result (λ more. local_counted (source_of c.args.sites.now) c.args.class.0 c.args.counts.now c.next.new.self c.requires.within local c.requires.counted
    (λ q x. more q x ∙ (λ i. counted c.args.counts.now q x + (if (same_place q (place i) && same_names x (c.name.ensures i)) then 1 else 0)))) c.next.ensures.counts

pub returns-clause-number : goal.returns-clause-number
returns-clause-number c =
    let s = c.sort.ensures in let l = c.is_local.ensures in let f = c.if-not-is_local.false in
    let local : is_local_sort (site_at (source_of c.args.sites.now).sites c.args.class.0).sort ≡ true = cc in
    let place : c.place_of-place.result ≡ within (site_at (source_of c.args.sites.now).sites c.args.class.0) = c.place_of-place.ensures ∙ c.outside.ensures.within in
    then_ok c.next.result (counted c.next.new.self c.place_of-place.result c.name.result) (number_in (source_of c.args.sites.now) c.args.class.0) c.next.ensures.number
    (on_ok c.next.result (λ are. (λ i. counted c.next.new.self (place i) (c.name.ensures i)) ∙ local_number (source_of c.args.sites.now) c.args.class.0 c.next.new.self local are) (returns-clause-counted c))
