-- Hidden fields change nothing of the methods that classes have.
use Rattle.std.proofs.Common.{◌≡◌, ℕ, zero, suc, List, [], ◌∷◌, take, refl, ap, ◌∙◌}
use Rattle.std.specs.Prelude.{not, ◌||◌, slice_get}
use Rattle.std.specs.List.{flat_map, list_all}
use Rattle.source_types.specs.Heads.{ClassHead}
use Rattle.declarations.specs.Declarations.{DeclaredClass}
use Rattle.je_scopes.specs.Source.{Source}
use Rattle.je_typing.specs.declared.fault.TypeRule.TheVariants.{BadOverride, SameErasure}
use Rattle.je_typing.specs.Judged.{check}
use Rattle.overriding.specs.Methods.{Method, methods_above, methods_in, own, own_from, seen_in, types_above}
use Rattle.overriding.specs.Overrides.{clashes_above, good_override, is_like_one, no_clash, overrides_well, own_before}
use Rattle.class_typing.specs.Programs.{CapturedLocal, with_hidden}
use Rattle.override_laws.specs.Laws.{IsGood}

module _ (source : Source) (captured : ℕ → List CapturedLocal) where
  pub methods-kept : (ds : List DeclaredClass) (at c : ℕ) →
      methods_in (slice_get (with_hidden source captured at ds) c) ≡ methods_in (slice_get ds c)
  methods-kept [] at c = refl
  methods-kept (d ∷ ds) at zero = refl
  methods-kept (d ∷ ds) at (suc c) = methods-kept ds (suc at) c

  module _ (heads : List ClassHead) (ds : List DeclaredClass) where
    abbrev all : List DeclaredClass
    all = with_hidden source captured 0 ds

    pub own-kept : own all ≡ own ds
    own-kept = λ i c. own_from c 0 (methods-kept ds 0 c i)

    pub above-kept : (c : ℕ) → methods_above heads all c ≡ methods_above heads ds c
    unfolding methods_above
    above-kept c = ap (λ f. flat_map (seen_in f) (types_above heads c)) own-kept

    before-kept : (m : Method) → own_before all m ≡ own_before ds m
    before-kept m = ap (λ ms. own_from m.holder 0 (take m.place ms)) (methods-kept ds 0 m.holder)

    pub good-kept : (m : Method) → IsGood heads ds m → IsGood heads all m
    unfolding good_override no_clash
    good-kept m good = record {
      overrides = ap (λ ms. check BadOverride m.declared.name.span (list_all (overrides_well heads m) ms)) (above-kept m.holder)
          ∙ good.overrides;
      clashes = ap (λ ms. check SameErasure m.declared.name.span
          (not (is_like_one heads ms m || clashes_above heads m (methods_above heads all m.holder)))) (before-kept m)
          ∙ ap (λ ms. check SameErasure m.declared.name.span (not (is_like_one heads (own_before ds m) m || clashes_above heads m ms)))
          (above-kept m.holder)
          ∙ good.clashes;
    }
