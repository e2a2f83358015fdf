-- Premises that are met: `new int[2]` fits in every program, and `+=` on a field of a type variable that is a String where
-- it is named. What is no variable is not assigned, as `+x`.
use Rattle.std.proofs.Common.{◌≡◌, ℕ, pos, List, [], ◌∷◌, refl, sym, ap, ◌∙◌, subst, arith}
use Rattle.std.specs.Prelude.{Bool, true, false, ◌&&◌, Some}
use Rattle.je_base.specs.declared.span.Span.{Span}
use Rattle.je_core.specs.declared.expr.BinOp.TheVariants as op
use Rattle.je_core.specs.declared.types.Base.TheVariants as base
use Rattle.je_core.specs.declared.types.ClassId.{ClassId}
use Rattle.je_core.specs.declared.value.Value.TheVariants as value
use Rattle.je_core.specs.Core.{Const, Core, CoreField, CoreProgram, Field, Local, node, ty_of}
use Rattle.je_ast.specs.declared.operator.PrefixOp.TheVariants as prefix_op
use Rattle.je_ast.specs.Trees.{Expression}
use Rattle.je_ast.specs.Trees as tree
use Rattle.je_classes.specs.Hierarchy.{library_class, object_class}
use Rattle.je_classes.specs.Members.{In}
use Rattle.je_classes.specs.Subtypes.{class_type, is_subtype}
use Rattle.je_fitting.specs.Expressions.{Body, Fits, field_at}
use Rattle.je_fitting.specs.Expressions as fits
use Rattle.je_fitting.specs.Types.{agrees, int}
use Rattle.je_scopes.specs.SourceTypes.{plain}
use Rattle.plain_programs.specs.Nodes.{every}
use Rattle.source_types.specs.Erasure.{erased}
use Rattle.source_types.specs.Heads.{bound_of}
use Rattle.je_scopes.specs.SourceTypes.{of_variable}
use Rattle.je_typing.specs.declared.fault.TypeRule.TheVariants.{BadTarget}
use Rattle.je_typing.specs.Arrays.{Part, array_node, array_type, int_index, lengths_from, new_array}
use Rattle.je_typing.specs.Assignments.{place, update, update_node}
use Rattle.je_typing.specs.Conversions.{converted}
use Rattle.je_typing.specs.Judged.{bind, breaks, check, gives, need}
use Rattle.je_typing.specs.Operators.{plus}
use Rattle.je_typing.specs.Typed.{TypedNode, string_type, typed_as}
use Rattle.name_typing.specs.Program.{Program}
use Rattle.body_typing.specs.Expressions.{Known, assigned_by, is_variable, may_be_target}
use Rattle.body_typing.specs.FinalVariables.{Scope}
use Rattle.typing_laws.specs.Correspondence.{HasHeads}
use Rattle.typing_laws.specs.Fitting.{FitsAs, FitsAsVariable, stands_once, with_texts}
use Rattle.typing_laws.proofs.Assignments.{updates_fit}
use Rattle.typing_laws.proofs.Literals.{value-fits}
use Rattle.typing_laws.proofs.Subtypes.{contains-none}
use Rattle.fitting_laws.specs.Sound.{a_type, sound_primitive}
use Rattle.fitting_laws.specs.Values.{IsValue}
use Rattle.fitting_laws.proofs.ArraysMade.{new_arrays_fit}
use Rattle.fitting_laws.proofs.Below.{subtype-texts}
use Rattle.fitting_laws.proofs.Lists.{in-one}

module _ (q : CoreProgram) (body : Body) (at : Span) where
  no-variables : (c i : ℕ) → erased [] (of_variable c i 0) ≡ erased [] (bound_of [] c i)
  unfolding erased
  no-variables c i = refl

  known : HasHeads q []
  known = record { supers = λ c t h. absurd (contains-none t h); bounds = λ c i. refl; variables = no-variables }

  abbrev two : TypedNode
  two = typed_as base.Int (Const (value.Int (pos 2)) []) at at

  two-fits : IsValue q body [] two
  two-fits = record { fits = value-fits q body [] base.Int (value.Int (pos 2)) at at refl; type = a_type (sound_primitive refl (omega arith)) }

  abbrev lengths : List Part
  lengths = record { value = two; span = at } ∷ []

  lengths-fit : (part : Part) → In lengths part → IsValue q body [] part.value
  lengths-fit part i = subst (λ (x : Part). IsValue q body [] x.value) (sym (in-one (record { value = two; span = at }) part i)) two-fits

  -- `new int[2]`
  array-fits : IsValue q body [] (array_node [] (plain base.Int 1) at (two.node ∷ []))
  unfolding new_array lengths_from int_index array_type bind check converted
  array-fits = new_arrays_fit q body [] (plain base.Int 0) 0 at at lengths known (sound_primitive refl (omega arith)) refl (omega arith) lengths-fit

-- ---- `g.f += "x"` where `f` is declared of a type variable that is erased to Object, and is a String there

module _ (q : CoreProgram) (body : Body) (at : Span) (o text : Core) (c : ClassId) (n : ℕ) (f : CoreField) where
  abbrev field : TypedNode
  field = record { node = node (Field o c n) f.ty at at; type = string_type }

  abbrev added : TypedNode
  added = record { node = text; type = string_type }

  record Stands : Type 0 where
    owner : (texts : List (List ℕ)) → every (stands_once texts) o ≡ true → Fits (with_texts q texts) body o
    below : is_subtype q (ty_of o) (class_type c) ≡ true
    there : field_at q c n ≡ Some f
    own : f.is_static ≡ false
    free : f.is_final ≡ false
    object : f.ty ≡ class_type object_class

  field-fits : Stands → FitsAsVariable q body [] field
  unfolding is_subtype erased library_class object_class
  field-fits s = record {
    node = λ texts h. fits.field (s.owner texts (two-of h)) (subtype-texts q texts (ty_of o) (class_type c) ∙ s.below) s.there s.own;
    takes = λ texts. ap (agrees (with_texts q texts) (erased [] string_type)) s.object;
  }
    where
      two-of : {b : Bool} → (true && b) ≡ true → b ≡ true
      two-of h = h

  appended-fits : Stands → FitsAs q body [] added → FitsAs q body [] (update_node [] op.Add at at field text)
  unfolding update place bind check library_class
  appended-fits s h = updates_fit q body [] op.Add at at at field added (known q body at).bounds (fits.a_field s.there s.free) (field-fits s) h

-- ---- `(+x) = 3`: `+x` is no variable, though it comes to the same as `x` does

plus-is-local : (at : Span) → plus at at (record { node = node (Local 0) int at at; type = plain base.Int 0 }) ≡ gives (record { node = node (Local 0) int at at; type = plain base.Int 0 })
unfolding plus bind need converted
plus-is-local at = refl

plus-is-refused : (p : Program) (k : Known) (s : Scope) (at span : Span) (e : Expression) (target value : TypedNode) → assigned_by p k s span (is_variable (tree.prefix prefix_op.Plus at e span)) target (gives value) ≡ breaks BadTarget span
unfolding may_be_target bind check
plus-is-refused p k s at span e target value = refl
