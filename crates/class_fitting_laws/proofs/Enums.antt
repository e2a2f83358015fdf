-- What no source writes of an enum fits (JLS 8.9).
use Rattle.std.proofs.Common.{◌≡◌, ℕ, pos, suc, ◌+◌, ◌<◌, ◌≤◌, List, [], ◌∷◌, length, Option, Some, None, refl, sym, ap, ◌∙◌, subst, arith}
use Rattle.std.specs.Prelude.{Bool, true, false, ◌&&◌, codes, is_some, nat_eq, count_by, slice_get, take}
use Rattle.std.specs.Str.{bytes_eq}
use Rattle.std.specs.List.{All}
use Rattle.std.proofs.lemmas.Bool.Decides.{nat_tests}
use Rattle.std.proofs.lemmas.List.Elements.{All-cons, All-nil}
use Rattle.je_base.specs.declared.span.NameId.{NameId}
use Rattle.je_base.specs.declared.span.Span.{Span}
use Rattle.je_core.specs.declared.types.ClassId.{ClassId}
use Rattle.je_core.specs.declared.types.Ty.{Ty}
use Rattle.je_core.specs.declared.value.Value.TheVariants as value
use Rattle.je_core.specs.Core.{Core, CoreInitializer, CoreMethod, CoreProgram, CoreStmt, cores, list_of, node, no_core, stmt, ty_of}
use Rattle.je_core.specs.Core as core
use Rattle.je_ast.specs.declared.name.Identifier.{Identifier}
use Rattle.je_classes.specs.Members.{In, first, further, names_constructors}
use Rattle.je_classes.specs.Subtypes.{class_type}
use Rattle.je_fitting.specs.Expressions.{AllFit, Body, CapturesFit, Fits}
use Rattle.je_fitting.specs.Expressions as fits
use Rattle.je_fitting.specs.Members.{AreVariables, BodyFits, a_block, code_of as code_kind, body_of, local_types}
use Rattle.je_fitting.specs.Statements as block
use Rattle.je_fitting.specs.Types.{agrees, all_agree, int, is_variable_type, is_void, string, types_of}
use Rattle.je_fitting.proofs.Booleans.{two}
use Rattle.plain_programs.specs.Nodes.{every_of}
use Rattle.source_types.specs.Erasure.{class_numbered}
use Rattle.class_typing.specs.Enums as enum
use Rattle.typing_laws.specs.Fitting.{stands_once, with_texts}
use Rattle.typing_laws.proofs.Assignments.{agrees-itself}
use Rattle.fitting_laws.proofs.Instances.{class-itself}
use Rattle.fitting_laws.proofs.Below.{subtype-texts}
use Rattle.class_fitting_laws.specs.Fitting.{InitializerCodeFits, MethodCodeFits}
use Rattle.class_fitting_laws.specs.Unwritten.{EnumStands, HiddenStands}
use Rattle.class_fitting_laws.proofs.Methods.{same-some}

module _ (number : List ℕ → NameId) (texts : List (List ℕ)) (c : ℕ) (span : Span) (ids : List Identifier) (q : CoreProgram) (superclass : Option ClassId) (stands : EnumStands q c (length ids)) where
  abbrev ty : Ty
  ty = class_type (class_numbered c)

  itself : (all : List (List ℕ)) (t : Ty) → is_void t ≡ false → agrees (with_texts q all) t t ≡ true
  itself all t e = agrees-itself (with_texts q all) t.base t.dims e

  -- ---- constants

  -- the static field of one, in any body
  constant-fits : (all : List (List ℕ)) (body : Body) (at : ℕ) (s : Span) → at < length ids → Fits (with_texts q all) body (node (core.Static no_core (class_numbered c) (enum.first_constant + at)) ty s s)
  constant-fits all body at s few = let k = stands.constants at few in
      subst (λ (t : Ty). Fits (with_texts q all) body (node (core.Static no_core (class_numbered c) (enum.first_constant + at)) t s s)) k.type (fits.static fits.nothing k.there k.is_static)

  abbrev start : Body
  start = record { class = class_numbered c; code = fits.static_initializer; is_static = true; locals = []; returns = None }

  once : (units : List ℕ) (all : List (List ℕ)) → nat_eq (count_by (λ t. bytes_eq t units) all) 1 ≡ true → count_by (λ t. bytes_eq t units) all ≡ 1
  once units all h = grind (arith, nat_tests)

  abbrev arguments : ℕ → Identifier → List Core
  arguments at id = node (core.Text (enum.name_units texts id.name) []) string id.span id.span ∷ node (core.Const (value.Int (pos at)) []) int id.span id.span ∷ []

  arguments-fit : (all : List (List ℕ)) (body : Body) (at : ℕ) (id : Identifier) → every_of (stands_once all) (cores (arguments at id)) ≡ true → AllFit (with_texts q all) body (cores (arguments at id))
  arguments-fit all body at id h = fits.one_more (fits.text (once (enum.name_units texts id.name) all (two {a = nat_eq (count_by (λ t. bytes_eq t (enum.name_units texts id.name)) all) 1} (two {a = nat_eq (count_by (λ t. bytes_eq t (enum.name_units texts id.name)) all) 1 && true} h).0).0) (All-nil _))
      (fits.one_more (fits.const refl (All-nil _)) fits.no_more)

  arguments-agree : (all : List (List ℕ)) → all_agree (with_texts q all) (string ∷ int ∷ []) stands.method.params ≡ true
  arguments-agree all = ap (all_agree (with_texts q all) (string ∷ int ∷ [])) stands.params ∙ ap (λ b. b && true) (itself all string refl)

  made-fits : (all : List (List ℕ)) (body : Body) (at : ℕ) (id : Identifier) → every_of (stands_once all) (cores (arguments at id)) ≡ true → Fits (with_texts q all) body (enum.made number texts c span ids at id)
  made-fits all body at id h = fits.new stands.class_there stands.made stands.method_there stands.builds (arguments-fit all body at id h) (arguments-agree all) (record { fields = sym stands.nothing_handed; each = All-nil _ })

  constant-made : (at : ℕ) (id : Identifier) → at < length ids → InitializerCodeFits q (class_numbered c) (enum.constant_made number texts c span ids at id)
  constant-made at id few = record {
    locals = All-nil _;
    body = λ all h. block.perform (fits.assign refl (constant-fits all start at id.span few) (fits.an_own_static refl) (made-fits all start at id h) (itself all ty refl) (itself all ty refl));
  }

  pub constants-made : (at : ℕ) (rest : List Identifier) → at + length rest ≤ length ids → (i : CoreInitializer) → In (enum.constants_made number texts c span ids at rest) i → InitializerCodeFits q (class_numbered c) i
  constants-made at [] few i h = elim h [ ]
  constants-made at (id ∷ rest) few _ first = constant-made at id (omega (arith, few))
  constants-made at (id ∷ rest) few i (further h) = constants-made (suc at) rest (omega (arith, few)) i h

  -- ---- methods

  -- the body of a method of an instance
  module _ (body : Body) (of_class : body.class ≡ class_numbered c) (own : body.is_static ≡ false) where
    this-fits : (all : List (List ℕ)) → Fits (with_texts q all) body (enum.this_enum number texts c span ids)
    this-fits all = subst (λ (d : ClassId). Fits (with_texts q all) body (node core.This (class_type d) span span)) of_class (fits.this own)

    hidden-fits : (all : List (List ℕ)) (at : ℕ) (t : Ty) → HiddenStands q c at t → Fits (with_texts q all) body (enum.own_field number texts c span ids at t)
    hidden-fits all at t h = subst (λ (u : Ty). Fits (with_texts q all) body (node (core.Field (enum.this_enum number texts c span ids) (class_numbered c) at) u span span)) h.type
        (fits.field (this-fits all) (subtype-texts q all ty ty ∙ class-itself q (class_numbered c)) h.there h.own)

    -- a hidden field gets the local of its number
    kept-fits : (all : List (List ℕ)) (at : ℕ) (t : Ty) → fits.builds body.code ≡ true → HiddenStands q c at t → slice_get body.locals at ≡ Some t → is_void t ≡ false
        → block.StatementFits (with_texts q all) body block.no_targets (enum.kept number texts c span ids at t)
    kept-fits all at t builds h local value = block.perform (fits.assign refl (hidden-fits all at t h)
        (subst (λ (d : ClassId). fits.IsPlace (with_texts q all) body (core.Field (enum.this_enum number texts c span ids) d at)) of_class (fits.an_own_field refl builds)) (fits.local local) (itself all t value) (itself all t value))

    -- a method that returns a hidden field
    returned : (all : List (List ℕ)) (at : ℕ) (t : Ty) → body.returns ≡ Some t → HiddenStands q c at t → is_void t ≡ false
        → BodyFits (with_texts q all) body superclass (enum.returning number texts c span ids (enum.own_field number texts c span ids at t))
    returned all at t returns h value = a_block (block.block (All-nil _) (block.more_statements (block.return returns (block.a_value (hidden-fits all at t h) (itself all t value))) block.no_statements))

  all-constants : (all : List (List ℕ)) (body : Body) (at : ℕ) (rest : List Identifier) → at + length rest ≤ length ids → AllFit (with_texts q all) body (cores (enum.constants_from number texts c span ids at rest))
  all-constants all body at [] few = fits.no_more
  all-constants all body at (id ∷ rest) few = fits.one_more (constant-fits all body at span (omega (arith, few))) (all-constants all body (suc at) rest (omega (arith, few)))

  constants-agree : (all : List (List ℕ)) (at : ℕ) (rest : List Identifier) → All (λ v. agrees (with_texts q all) v ty ≡ true) (types_of (list_of (cores (enum.constants_from number texts c span ids at rest))))
  constants-agree all at [] = All-nil _
  constants-agree all at (id ∷ rest) = All-cons (λ v. agrees (with_texts q all) v ty ≡ true) ty _ (itself all ty refl) (constants-agree all (suc at) rest)

  class-there : (all : List (List ℕ)) → is_variable_type (with_texts q all) ty ≡ true
  class-there all = ap (λ o. is_some o && true) stands.class_there

  values-fit : (all : List (List ℕ)) (body : Body) → body.returns ≡ Some (enum.array_ty number texts c span ids)
      → BodyFits (with_texts q all) body superclass (enum.returning number texts c span ids (node (core.ArrayOf (cores (enum.constants_from number texts c span ids 0 ids))) (enum.array_ty number texts c span ids) span span))
  values-fit all body returns = a_block (block.block (All-nil _) (block.more_statements (block.return returns (block.a_value (fits.array_with (all-constants all body 0 ids (omega arith)) (constants-agree all 0 ids) (class-there all)) (itself all (enum.array_ty number texts c span ids) refl))) block.no_statements))

  -- ---- each of its methods

  method-with : (m : CoreMethod) (body : CoreStmt) → m.body ≡ Some body → AreVariables q m.params → AreVariables q (local_types m.locals) → take (length m.params) (local_types m.locals) ≡ m.params
      → ((all : List (List ℕ)) → BodyFits (with_texts q all) (body_of q (class_numbered c) m) superclass body) → MethodCodeFits q (class_numbered c) superclass m
  method-with m body is variables local-variables locals f = record {
    params = variables;
    locals = local-variables;
    first_locals = λ _. locals;
    body = λ s e all h. subst (BodyFits (with_texts q all) (body_of q (class_numbered c) m) superclass) (same-some body s (sym is ∙ e)) (f all);
  }

  -- a name and a place
  kept-types : is_variable_type q string ≡ true → AreVariables q (string ∷ int ∷ [])
  kept-types text = All-cons (λ t. is_variable_type q t ≡ true) string (int ∷ []) text (All-cons (λ t. is_variable_type q t ≡ true) int [] refl (All-nil _))

  pub methods-fit : is_variable_type q string ≡ true → names_constructors q (number (codes "new")) ≡ true → (m : CoreMethod) → In (enum.enum_code number texts c span ids) m → MethodCodeFits q (class_numbered c) superclass m
  methods-fit text named _ first = method-with _ _ refl (kept-types text) (kept-types text) refl (λ all. let builds = ap (λ (b : Bool). fits.builds (code_kind b)) named in
      a_block (block.block (All-nil _) (block.more_statements (kept-fits _ refl refl all enum.name_place string builds stands.name refl refl) (block.more_statements (kept-fits _ refl refl all enum.ordinal_place int builds stands.ordinal refl refl) block.no_statements))))
  methods-fit text named _ (further first) = method-with _ _ refl (All-nil _) (All-nil _) refl (λ all. returned _ refl refl all enum.name_place string refl stands.name refl)
  methods-fit text named _ (further (further first)) = method-with _ _ refl (All-nil _) (All-nil _) refl (λ all. returned _ refl refl all enum.name_place string refl stands.name refl)
  methods-fit text named _ (further (further (further first))) = method-with _ _ refl (All-nil _) (All-nil _) refl (λ all. returned _ refl refl all enum.ordinal_place int refl stands.ordinal refl)
  methods-fit text named _ (further (further (further (further first)))) = method-with _ _ refl (All-nil _) (All-nil _) refl (λ all. values-fit all _ refl)
  methods-fit text named m (further (further (further (further (further h))))) = elim h [ ]
