-- Arguments are converted to the types of parameters, and agree with their erasures (JLS 5.3).
use Rattle.std.proofs.Common.{◌≡◌, ℕ, List, [], ◌∷◌, map, refl, sym, ◌∙◌, arith}
use Rattle.std.specs.Prelude.{Bool, true, false}
use Rattle.je_base.specs.declared.span.Span.{Span}
use Rattle.je_core.specs.declared.types.Ty.{Ty}
use Rattle.je_core.specs.Core.{Core, CoreProgram, cores, list_of, ty_of}
use Rattle.je_classes.specs.Hierarchy.{object_class, supers_of}
use Rattle.je_classes.specs.Members.{In, first, further}
use Rattle.je_fitting.specs.Expressions.{AllFit, Body, Fits}
use Rattle.je_fitting.specs.Expressions as fits
use Rattle.je_fitting.specs.Types.{agrees, all_agree, types_of}
use Rattle.je_fitting.proofs.Booleans.{both, two}
use Rattle.je_scopes.specs.SourceTypes.{SourceType}
use Rattle.plain_programs.specs.Nodes.{every, every_of}
use Rattle.source_types.specs.Erasure.{erased}
use Rattle.source_types.specs.Heads.{ClassHead}
use Rattle.je_typing.specs.declared.fault.TypeRule.TheVariants.{NotConvertible}
use Rattle.je_typing.specs.Constants.{constant_value}
use Rattle.je_typing.specs.Conversions.{assigned, converted_if, is_assignable, narrows, passes}
use Rattle.je_typing.specs.Judged.{bind, check, gives}
use Rattle.je_typing.specs.Typed.{TypedNode, primitive}
use Rattle.call_typing.specs.Calls.{passed, type_of}
use Rattle.call_typing.specs.Overloads.{all_pass}
use Rattle.typing_laws.specs.Correspondence.{HasHeads}
use Rattle.typing_laws.specs.Fitting.{Gives, stands_once, with_texts}
use Rattle.typing_laws.specs.Passing.{PassesAs}
use Rattle.typing_laws.proofs.Assigned.{assigned_values_pass}
use Rattle.typing_laws.proofs.Subtypes.{or-left}
use Rattle.fitting_laws.specs.Sound.{IsSound}
use Rattle.fitting_laws.specs.Values.{IsValue}
use Rattle.fitting_laws.proofs.Below.{agrees-above, agrees-texts}
use Rattle.fitting_laws.proofs.Methods.{StandFor, more_types, no_types}
use Rattle.fitting_laws.proofs.Sound.{sound-dims, type-dims}

module _ (q : CoreProgram) (body : Body) where
  pub data EachArgument (heads : List ClassHead) : List TypedNode → Type 0 where
    no_values : EachArgument heads []
    more_values : {t : TypedNode} {ts : List TypedNode} → IsValue q body heads t → EachArgument heads ts → EachArgument heads (t ∷ ts)

  -- nodes that fit and agree with types
  pub data Passing : List Core → List Ty → Type 0 where
    none_passed : Passing [] []
    one_passed : {e : Core} {t : Ty} {es : List Core} {ts : List Ty} → ((texts : List (List ℕ)) → every (stands_once texts) e ≡ true → Fits (with_texts q texts) body e) →
        agrees q (ty_of e) t ≡ true → Passing es ts → Passing (e ∷ es) (t ∷ ts)

  pub passing-fit : {es : List Core} {ts : List Ty} → Passing es ts → (texts : List (List ℕ)) → every_of (stands_once texts) (cores es) ≡ true → AllFit (with_texts q texts) body (cores es)
  passing-fit none_passed texts h = fits.no_more
  passing-fit (one_passed {e = e} f a k) texts h = let sides = two {a = every (stands_once texts) e} h in fits.one_more (f texts sides.0) (passing-fit k texts sides.1)

  pub passing-agree : {es : List Core} {ts : List Ty} → Passing es ts → (texts : List (List ℕ)) → all_agree (with_texts q texts) (types_of (list_of (cores es))) ts ≡ true
  passing-agree none_passed texts = refl
  passing-agree (one_passed {e = e} {t = t} f a k) texts = both (agrees-texts q texts (ty_of e) t ∙ a) (passing-agree k texts)

  module _ (heads : List ClassHead) (known : HasHeads q heads) (top : supers_of q object_class ≡ []) where
    pass-one : (to : SourceType) (span : Span) (a : TypedNode) → IsValue q body heads a → IsSound q heads 255 to → passes heads a.type to ≡ true → PassesAs q body heads to (converted_if (primitive to) a.node)
    unfolding assigned bind check
    pass-one to span a v s h = by (is_assignable heads a to) (or-left (passes heads a.type to) (narrows (constant_value a.node) to) h)
        (assigned_values_pass q body heads to span a known (type-dims q heads v.type) (sound-dims q heads (omega arith) s) v.fits)
      where
        by : (b : Bool) → b ≡ true → Gives (PassesAs q body heads to) (bind (check NotConvertible span b) (λ u. gives (converted_if (primitive to) a.node))) → PassesAs q body heads to (converted_if (primitive to) a.node)
        by true e k = k
        by false e k = absurd cc

    pub passed-fit : (span : Span) (us : List SourceType) (args : List TypedNode) (ts : List SourceType) → EachArgument heads args → all_pass heads (map type_of args) us ≡ true
        → ((u : SourceType) → In us u → IsSound q heads 255 u) → StandFor q heads us ts → Passing (passed us args) (map (erased heads) ts)
    passed-fit span _ _ _ no_values h s no_types = none_passed
    passed-fit span _ _ _ no_values h s (more_types e k) = absurd cc
    passed-fit span _ _ _ (more_values v vs) h s no_types = absurd cc
    passed-fit span _ _ _ (more_values {t = a} {ts = args} v vs) h s (more_types {u = u} {t = t} {us = us} {ts = ts} e k) =
        let sides = two {a = passes heads a.type u} h in
        let one = pass-one u span a v (s u first) sides.0 in
        one_passed one.node (agrees-above q top (ty_of (converted_if (primitive u) a.node)) (erased heads u) (erased heads t) (sym (agrees-texts q [] (ty_of (converted_if (primitive u) a.node)) (erased heads u)) ∙ one.agree []) e)
        (passed-fit span us args ts vs sides.1 (λ w i. s w (further i)) k)
