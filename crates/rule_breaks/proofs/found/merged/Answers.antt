use Rattle.std.proofs.Common.{◌≡◌, ◌++◌, inl, inr, List, subst, sym}
use Rattle.std.specs.List.{Contains}
use Rattle.std.proofs.lemmas.List.Elements.{Contains-append_left, Contains-append_right, Contains-append_cases}
use Rattle.rule_breaks.specs.declared.breaks.Break.{Break}
use Rattle.rule_breaks.proofs.found.merged.Goals as goal

pub returns : goal.returns
returns c =
    λ s t of_one of_other.
    let all : c.extend_from_slice.new.self.items ≡ c.args.one.items ++ c.args.other.items = cc (c.in_ok-extend_from_slice.ensures.items, c.deref.ensures.value) in
    record {
      in_order = c.sorted.ensures.in_order;
      members = λ b.
          let HasIt : List Break → Type 0 = λ l. Contains l b in (
            λ h. elim (Contains-append_cases _ _ b (subst HasIt all ((c.sorted.ensures.members b).0 h))) [
              | inl p ↦ inl ((of_one.members b).0 p)
              | inr p ↦ inr ((of_other.members b).0 p)
            ],
            λ h. (c.sorted.ensures.members b).1 (subst HasIt (sym all) (elim h [
              | inl p ↦ Contains-append_left _ _ b ((of_one.members b).1 p)
              | inr p ↦ Contains-append_right _ _ b ((of_other.members b).1 p)
            ])),
          );
    }
