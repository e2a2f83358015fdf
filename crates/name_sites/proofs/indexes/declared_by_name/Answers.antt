use Rattle.std.proofs.Common.{◌≡◌, [], drop, arith, ◌∙◌, sym}
use Rattle.std.proofs.lemmas.List.{drop_all}
use Rattle.name_sites.specs.ByName.{kept, or_else}
use Rattle.name_sites.specs.First.{first_keyed}
use Rattle.name_sites.proofs.Firsts.{firsts}
use Rattle.name_sites.proofs.Keys.{or_else-none}
use Rattle.name_sites.proofs.indexes.declared_by_name.Goals as goal

pub returns : goal.returns
returns c =
    let e : drop c.loop-at.at c.args.classes.now ≡ [] = drop_all c.loop-at.at c.args.classes.now (omega arith) in
    λ p x.
    (let i : or_else (kept c.loop-at.declared p x) (first_keyed c.loop-at.at [] p x) ≡ first_keyed 0 c.args.classes.now p x = rw e at (c.loop-at.invariant p x) in
    or_else-none (kept c.loop-at.declared p x) ∙ i ∙ sym (firsts c.args.classes.now p x))
