-- Elements and lengths of arrays fit where the array and the index do.
use Rattle.std.proofs.Common.{◌≡◌, ℕ, zero, suc, ◌≤◌, List, Option, Some, None, refl, sym, ap, ◌∙◌, subst, arith}
use Rattle.std.specs.Prelude.{Bool, true, false, is_some}
use Rattle.std.proofs.lemmas.Option.{none-some, same_Some}
use Rattle.je_base.specs.declared.span.Span.{Span}
use Rattle.je_core.specs.declared.types.Base.{Base}
use Rattle.je_core.specs.declared.types.Base.TheVariants as base
use Rattle.je_core.specs.Core.{CoreProgram}
use Rattle.je_classes.specs.Subtypes.{array_of}
use Rattle.je_fitting.specs.Expressions.{Body, Fits}
use Rattle.je_fitting.specs.Expressions as fits
use Rattle.je_fitting.specs.Types.{is_int}
use Rattle.je_fitting.proofs.Booleans.{two}
use Rattle.je_scopes.specs.SourceTypes.{SourceType, plain, of_class, of_variable}
use Rattle.plain_programs.specs.Nodes.{every}
use Rattle.source_types.specs.Erasure.{erased}
use Rattle.source_types.specs.Heads.{ClassHead}
use Rattle.source_types.specs.Subtypes.{dims_of, element_of}
use Rattle.je_typing.specs.declared.fault.TypeRule.TheVariants.{BadIndex}
use Rattle.je_typing.specs.Arrays.{element, element_node, int_index, is_int_if, length_of}
use Rattle.je_typing.specs.Conversions.{converted}
use Rattle.je_typing.specs.Judged.{bind, check, gives, need}
use Rattle.je_typing.specs.Promotion.{promoted}
use Rattle.je_typing.specs.Typed.{TypedNode, element_type}
use Rattle.typing_laws.specs.Fitting.{BoundsFit, FitsAs, Gives, stands_once}
use Rattle.typing_laws.specs.Laws.{ElementsFit, LengthsFit}
use Rattle.typing_laws.proofs.Nodes.{Operand, converted-as, converted-type, erased-plain, no-uses}
use Rattle.typing_laws.proofs.Operators.{as-operand, is-number}
use Rattle.typing_laws.proofs.Subtypes.{erased_base, parts}

-- an array type, and that of its elements
pub record IsArray (heads : List ClassHead) (t e : SourceType) : Type 0 where
  pub is : erased heads t ≡ array_of (erased heads e)

module _ (heads : List ClassHead) (bounds : BoundsFit heads) where
  array-parts : (t e : SourceType) (n : ℕ) → element_of t ≡ element_of e → dims_of t ≡ suc n → dims_of e ≡ n → dims_of t ≤ 255 → IsArray heads t e
  array-parts t e n same more less few = record {
    is = parts heads bounds t few
        ∙ ap (λ m. record { base = erased_base heads (element_of t); dims = m }) more
        ∙ ap (λ (u : SourceType). record { base = erased_base heads u; dims = suc n }) same
        ∙ ap (λ m. record { base = erased_base heads (element_of e); dims = suc m }) (sym less)
        ∙ sym (ap array_of (parts heads bounds e (subst (λ m. m ≤ 255) (sym less) (fewer n (subst (λ m. m ≤ 255) more few)))));
  }
    where
      fewer : (m : ℕ) → suc m ≤ 255 → m ≤ 255
      fewer m h = omega (arith, h)

  pub element-is : (t e : SourceType) → element_type t ≡ Some e → dims_of t ≤ 255 → IsArray heads t e
  element-is (plain b (suc n)) e h few = let q : plain b n ≡ e = same_Some (plain b n) e h in subst (IsArray heads (plain b (suc n))) q (array-parts (plain b (suc n)) (plain b n) n refl refl refl few)
  element-is (of_class c ts (suc n)) e h few = let q : of_class c ts n ≡ e = same_Some (of_class c ts n) e h in subst (IsArray heads (of_class c ts (suc n))) q (array-parts (of_class c ts (suc n)) (of_class c ts n) n refl refl refl few)
  element-is (of_variable c at (suc n)) e h few = let q : of_variable c at n ≡ e = same_Some (of_variable c at n) e h in subst (IsArray heads (of_variable c at (suc n))) q (array-parts (of_variable c at (suc n)) (of_variable c at n) n refl refl refl few)
  element-is (plain b zero) e h few = absurd (none-some e h)
  element-is (of_class c ts zero) e h few = absurd (none-some e h)
  element-is (of_variable c at zero) e h few = absurd (none-some e h)

pub int-operand : (s : SourceType) → is_int_if (promoted s) ≡ true → Operand s base.Int
int-operand s h = by (promoted s) refl h
  where
    by : (o : Option Base) → promoted s ≡ o → is_int_if o ≡ true → Operand s base.Int
    by None e k = absurd cc
    by (Some b) e k = as-operand s b base.Int (is-number s b e) refl

module _ (p : CoreProgram) (body : Body) (heads : List ClassHead) where
  module _ (array_span index_span span : Span) (array index : TypedNode) (bounds : BoundsFit heads) (few : dims_of array.type ≤ 255) (a : FitsAs p body heads array) (i : FitsAs p body heads index) where
    element-fits : (t : SourceType) → element_type array.type ≡ Some t → is_int_if (promoted index.type) ≡ true → FitsAs p body heads (element_node heads t span array.node (converted base.Int index.node))
    element-fits t e h =
        let at = converted-as p body heads index base.Int i (int-operand index.type h) in
        record {
          node = λ texts k. let sides = two {a = every (stands_once texts) array.node} k in
              fits.index (a.node texts sides.0) (a.type ∙ (element-is heads bounds array.type t e few).is) (at.node texts sides.1) (ap is_int (converted-type base.Int index.node));
          uses = no-uses p body heads;
          type = refl;
        }

    behind-index : (t : SourceType) → element_type array.type ≡ Some t → Gives (FitsAs p body heads) (bind (int_index index_span index) (λ n. gives (element_node heads t span array.node n)))
    unfolding int_index bind check
    behind-index t e = by (is_int_if (promoted index.type)) refl
      where
        by : (x : Bool) → is_int_if (promoted index.type) ≡ x
            → Gives (FitsAs p body heads) (bind (bind (check BadIndex index_span x) (λ u. gives (converted base.Int index.node))) (λ n. gives (element_node heads t span array.node n)))
        by false h = tt
        by true h = element-fits t e h

    element-gives : Gives (FitsAs p body heads) (element heads array_span index_span span array index)
    unfolding element bind need
    element-gives = by (element_type array.type) refl
      where
        by : (o : Option SourceType) → element_type array.type ≡ o
            → Gives (FitsAs p body heads) (bind (need BadIndex array_span o) (λ t. bind (int_index index_span index) (λ n. gives (element_node heads t span array.node n))))
        by None e = tt
        by (Some t) e = behind-index t e

  length-fits : (at span : Span) (array : TypedNode) → BoundsFit heads → dims_of array.type ≤ 255 → is_some (element_type array.type) ≡ true → FitsAs p body heads array → FitsAs p body heads (length_of at span array.node)
  length-fits at span array bounds few h fit = by (element_type array.type) refl h
    where
      by : (o : Option SourceType) → element_type array.type ≡ o → is_some o ≡ true → FitsAs p body heads (length_of at span array.node)
      by None e k = absurd cc
      by (Some t) e k = record { node = λ texts q. fits.length_of (fit.node texts q) (fit.type ∙ (element-is heads bounds array.type t e few).is); uses = no-uses p body heads; type = sym (erased-plain heads base.Int) }

pub elements_fit : (p : CoreProgram) (body : Body) (heads : List ClassHead) → ElementsFit p body heads
elements_fit p body heads array_span index_span span array index bounds few a i = element-gives p body heads array_span index_span span array index bounds few a i

pub lengths_fit : (p : CoreProgram) (body : Body) (heads : List ClassHead) → LengthsFit p body heads
lengths_fit p body heads at span array bounds few some fit = length-fits p body heads at span array bounds few some fit
