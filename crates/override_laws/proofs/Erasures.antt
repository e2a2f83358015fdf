-- Methods of one name and erasure.
use Rattle.std.proofs.Common.{◌≡◌, List, refl, ap, arith}
use Rattle.std.specs.Prelude.{Bool, true, false, not, ◌&&◌, ◌||◌, map}
use Rattle.std.proofs.lemmas.Bool.Decides.{nat_tests}
use Rattle.je_base.specs.declared.span.NameId.{NameId}
use Rattle.je_base.specs.declared.span.Span.{Span}
use Rattle.je_classes.specs.Members.{In}
use Rattle.je_classes.specs.Subtypes.{same_types}
use Rattle.je_scopes.specs.Headers.{same_name}
use Rattle.source_types.specs.Erasure.{erased}
use Rattle.source_types.specs.Heads.{ClassHead}
use Rattle.source_types.proofs.Same.{and-left}
use Rattle.declarations.specs.Declarations.{DeclaredClass}
use Rattle.je_typing.specs.declared.fault.TypeRule.{TypeRule}
use Rattle.je_typing.specs.declared.fault.TypeRule.TheVariants.{BadOverride, SameErasure}
use Rattle.je_typing.specs.Judged.{Judged, check, faulty, gives}
use Rattle.overriding.specs.Methods.{Method, have_one_name, is_subsignature, methods_above}
use Rattle.overriding.specs.Overrides.{clashes_above, good_override, have_one_erasure, is_good_override, is_like_one, may_override, no_clash, overridden_of, overrides_well, own_before, takes_erasure}
use Rattle.override_laws.specs.Laws.{IsGood, OneErasureOverrides, OwnErasuresDiffer}
use Rattle.override_laws.proofs.Lists.{all-passes, none-in}

abbrev has_given : Judged (Unit {0}) → Bool
has_given (gives u) = true
has_given (faulty fault) = false

-- what gives holds
pub holds : (rule : TypeRule) (span : Span) (b : Bool) → check rule span b ≡ gives tt → b ≡ true
unfolding check
holds rule span true e = refl
holds rule span false e = absurd (let no : false ≡ true = ap has_given e in cc)

pub neither : (a b : Bool) → not (a || b) ≡ true → (a ≡ false) × (b ≡ false)
neither false false e = (refl, refl)
neither false true e = absurd cc
neither true b e = absurd cc

-- a test that fails where its other parts hold
only-part : (a b c d : Bool) → ((a && not b) && (c || d)) ≡ false → a ≡ true → c ≡ true → b ≡ true
only-part true true c d e h k = refl
only-part true false true d e h k = absurd cc
only-part true false false d e h k = absurd cc
only-part false b c d e h k = absurd cc

pub implied : (a b : Bool) → (not a || b) ≡ true → a ≡ true → b ≡ true
implied true b e h = e
implied false b e h = absurd cc

pub names-swapped : (x y : NameId) → same_name x y ≡ true → same_name y x ≡ true
names-swapped x y h = grind (arith, nat_tests)

module _ (heads : List ClassHead) (classes : List DeclaredClass) where
  nothing-clashes : (m : Method) → IsGood heads classes m →
      (is_like_one heads (own_before classes m) m ≡ false) × (clashes_above heads m (methods_above heads classes m.holder) ≡ false)
  unfolding no_clash
  nothing-clashes m good = neither _ _ (holds SameErasure m.declared.name.span _ good.clashes)

  pub overrides-well : (m : Method) → IsGood heads classes m → is_good_override heads classes m ≡ true
  unfolding good_override
  overrides-well m good = holds BadOverride m.declared.name.span _ good.overrides

  overridden : (m n : Method) → IsGood heads classes m → In (methods_above heads classes m.holder) n → have_one_erasure heads m.declared n.declared ≡ true → is_subsignature heads m n ≡ true
  overridden m n good i e =
      only-part (have_one_name m n) (is_subsignature heads m n) (have_one_erasure heads m.declared n.declared) _
      (none-in (takes_erasure heads (overridden_of heads m (methods_above heads classes m.holder)) m) (methods_above heads classes m.holder) n (nothing-clashes m good).1 i)
      (and-left (same_name m.declared.name.name n.declared.name.name) (same_types (map (erased heads) m.declared.parameters) (map (erased heads) n.declared.parameters)) e) e

  pub one_erasure_overrides : OneErasureOverrides heads classes
  one_erasure_overrides m n good i e =
      let is = overridden m n good i e in
      (is, implied (is_subsignature heads m n) (may_override heads m n) (all-passes (overrides_well heads m) (methods_above heads classes m.holder) n (overrides-well m good) i) is)

  pub own_erasures_differ : OwnErasuresDiffer heads classes
  own_erasures_differ m n good i = none-in (λ (k : Method). have_one_erasure heads m.declared k.declared) (own_before classes m) n (nothing-clashes m good).0 i
