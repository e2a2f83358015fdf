use Rattle.std.proofs.Common.{◌≡◌, [], List, subst, sym}
use Rattle.std.specs.List.{Contains}
use Rattle.rule_breaks.specs.declared.breaks.Break.{Break}
use Rattle.rule_breaks.specs.way.Found.{followed_by}
use Rattle.rule_breaks.proofs.Members.{Contains-added, found-is-among}
use Rattle.rule_breaks.proofs.found.Found.in_order.Goals as goal

pub returns : goal.returns
returns c =
    λ breaks e.
    let found : c.self.inside.breaks.items ≡ followed_by [] breaks = cc in
    record {
      in_order = c.sorted.ensures.in_order;
      members = λ b.
          let HasIt : List Break → Type 0 = λ l. Contains l b in (
            λ h. found-is-among breaks b (subst HasIt found ((c.sorted.ensures.members b).0 h)),
            λ h. (c.sorted.ensures.members b).1 (subst HasIt (sym found) (Contains-added breaks [] b h)),
          );
    }
