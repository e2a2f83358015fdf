-- Whether an expression fits, as a test of each node and its parts in turn.
use Rattle.std.specs.Prelude.{ℕ, zero, suc, Bool, true, false, not, ◌&&◌, ◌||◌, List, [], ◌∷◌, map, length, count_by, Option, Some, None, slice_get, is_some, nat_eq, nat_lt, nat_le, if◌then◌else◌}
use Rattle.std.specs.List.{list_all}
use Rattle.std.specs.Str.{bytes_eq}
use Rattle.je_core.specs.declared.expr.BinOp.{BinOp}
use Rattle.je_core.specs.declared.expr.Use.{Use}
use Rattle.je_core.specs.declared.types.ClassId.{ClassId}
use Rattle.je_core.specs.declared.types.Ty.{Ty}
use Rattle.je_core.specs.Core.{Core, CoreForm, CoreCapture, Cores, MaybeCore, CoreField, CoreMethod, CoreClass, CoreProgram, node, none, more, no_core, a_core, list_of, ty_of, form_of}
use Rattle.je_core.specs.Core as core
use Rattle.je_classes.specs.Hierarchy.{class_at, same_class}
use Rattle.je_classes.specs.Subtypes.{class_type, array_of, same_type, is_reference, is_subtype}
use Rattle.je_classes.specs.Members.{is_hidden_access}
use Rattle.je_fitting.specs.Types.{bool, int, string, is_bool, is_int, is_number, agrees, all_agree, is_variable_type, type_of_value, types_of}
use Rattle.je_fitting.specs.Operators.{sort_of, takes, gives, takes_one, is_step, updates, joins}
use Rattle.je_fitting.specs.Expressions.{Body, builds, starts, is_this, field_at, method_at, is_constructor, can_be_made, handed_over}

abbrev pub gives_type : Option Ty → Ty → Bool
gives_type None t = false
gives_type (Some s) t = same_type s t

abbrev pub is_static_as : Bool → Bool → Bool
is_static_as true b = b
is_static_as false b = not b

abbrev pub is_field : Bool → Option CoreField → Ty → Bool
is_field static None t = false
is_field static (Some f) t = is_static_as static f.is_static && same_type f.ty t

abbrev pub is_open : Option CoreField → Bool
is_open None = false
is_open (Some f) = not f.is_final

abbrev pub can_be_made_in : Option CoreClass → Bool
can_be_made_in None = false
can_be_made_in (Some class) = can_be_made class

abbrev pub same_pair : ClassId × ℕ → ClassId × ℕ → Bool
same_pair a b = same_class a.0 b.0 && nat_eq a.1 b.1

abbrev pub same_pairs : List (ClassId × ℕ) → List (ClassId × ℕ) → Bool
same_pairs [] [] = true
same_pairs (a ∷ as_) (b ∷ bs) = same_pair a b && same_pairs as_ bs
same_pairs _ _ = false

abbrev pub is_there_core : MaybeCore → Bool
is_there_core no_core = false
is_there_core (a_core o) = true

abbrev pub pred : ℕ → ℕ
pred zero = zero
pred (suc n) = n

-- of an array
abbrev pub element_of : Ty → Ty
element_of t = record { base = t.base; dims = pred t.dims }

-- a local's type, or that of `this`
abbrev pub begins_as : Body → Option ℕ → Option Ty
begins_as body (Some n) = slice_get body.locals n
begins_as body None = if body.is_static then None else Some (class_type body.class)

abbrev pub field_type : Option CoreField → Option Ty
field_type None = None
field_type (Some f) = Some f.ty

module _ (program : CoreProgram) where
  abbrev pub uses_there : List Use → Bool
  uses_there uses = list_all (λ (u : Use). is_some (field_at program u.class u.field)) uses

  abbrev pub stands_once : List ℕ → Bool
  stands_once units = nat_eq (count_by (λ t. bytes_eq t units) program.texts) 1

  -- a method that is called on an object
  abbrev pub is_virtual : Option CoreMethod → List Ty → Ty → Bool
  is_virtual None args t = false
  is_virtual (Some m) args t = not m.flags.is_static && not (is_constructor program m) && all_agree program args m.params && same_type m.returns t

  -- one that is called as it stands, with or without a receiver
  abbrev pub is_exact : Bool → Option CoreMethod → List Ty → Ty → Bool
  is_exact received None args t = false
  is_exact received (Some m) args t =
      (received || m.flags.is_static) && not m.flags.is_abstract && not (is_constructor program m) && all_agree program args m.params && same_type m.returns t

  abbrev pub is_made_by : Option CoreMethod → List Ty → Bool
  is_made_by None args = false
  is_made_by (Some m) args = is_constructor program m && all_agree program args m.params

  abbrev pub is_step_on : Ty → ClassId → Option CoreField → Bool
  is_step_on t c None = false
  is_step_on t c (Some f) = is_subtype program t (class_type c) && not f.is_static && is_hidden_access f.access

  -- the type to which a path leads
  abbrev pub leads_to : Option Ty → List (ClassId × ℕ) → Option Ty
  leads_to None path = None
  leads_to (Some t) [] = Some t
  leads_to (Some t) (p ∷ path) = if is_step_on t p.0 (field_at program p.0 p.1) then leads_to (field_type (field_at program p.0 p.1)) path else None

  abbrev pub goes_to : Option Ty → Option CoreField → Bool
  goes_to (Some t) (Some f) = agrees program t f.ty
  goes_to _ _ = false

module _ (program : CoreProgram) (body : Body) where
  abbrev pub capture_fits : CoreCapture → Bool
  capture_fits c = goes_to program (leads_to program (begins_as body c.local) c.path) (field_at program c.class c.field)

  abbrev pub captures_fit : ClassId → List CoreCapture → Bool
  captures_fit class captures = same_pairs (map (λ (c : CoreCapture). (c.class, c.field)) captures) (handed_over program class) && list_all capture_fits captures

  abbrev pub is_place : CoreForm → Bool
  is_place (core.Local n) = true
  is_place (core.Index a i) = true
  is_place (core.Field o c n) = is_open (field_at program c n) || (is_this o && builds body.code && same_class c body.class)
  is_place (core.Static o c n) = is_open (field_at program c n) || (starts body.code && same_class c body.class)
  is_place _ = false

  abbrev mutual
    pub is_fit : Core → Bool
    is_fit (node form t span at) = is_form_fit form t

    pub is_form_fit : CoreForm → Ty → Bool
    is_form_fit (core.Const v uses) t = gives_type (type_of_value v) t && uses_there program uses
    is_form_fit (core.Text units uses) t = same_type string t && stands_once program units && uses_there program uses
    is_form_fit (core.Local n) t = gives_type (slice_get body.locals n) t
    is_form_fit core.This t = not body.is_static && same_type (class_type body.class) t
    is_form_fit (core.Field o c n) t = is_fit o && is_subtype program (ty_of o) (class_type c) && is_field false (field_at program c n) t
    is_form_fit (core.Static o c n) t = is_maybe_fit c o && is_field true (field_at program c n) t
    is_form_fit (core.Index a i) t = is_fit a && same_type (ty_of a) (array_of t) && is_fit i && is_int (ty_of i)
    is_form_fit (core.Length a) t = is_fit a && nat_lt 0 (ty_of a).dims && same_type int t
    is_form_fit (core.Assign place value) t = is_fit place && is_place (form_of place) && is_fit value && agrees program (ty_of value) t && agrees program t (ty_of place)
    is_form_fit (core.Update place o operand old) t = is_fit place && agrees program t (ty_of place) && is_place (form_of place) && is_operand_fit o t old operand
    is_form_fit (core.Unary o e) t = is_fit e && takes_one o (ty_of e) && same_type (ty_of e) t
    is_form_fit (core.Binary o l r) t = is_fit l && is_fit r && takes (sort_of o) (ty_of l) (ty_of r) && same_type (gives (sort_of o) (ty_of l)) t
    is_form_fit (core.And l r) t = is_fit l && is_fit r && is_bool (ty_of l) && is_bool (ty_of r) && same_type bool t
    is_form_fit (core.Or l r) t = is_fit l && is_fit r && is_bool (ty_of l) && is_bool (ty_of r) && same_type bool t
    is_form_fit (core.Choose c y n) t = is_fit c && is_bool (ty_of c) && is_fit y && agrees program (ty_of y) t && is_fit n && agrees program (ty_of n) t && (same_type (ty_of y) t || same_type (ty_of n) t)
    is_form_fit (core.Convert e) t = is_fit e && is_number (ty_of e) && is_number t && not (same_type (ty_of e) t)
    is_form_fit (core.Cast e) t = is_fit e && is_reference (ty_of e) && is_reference t && is_variable_type program t
    is_form_fit (core.InstanceOf e u) t = is_fit e && is_reference (ty_of e) && is_reference u && is_variable_type program u && same_type bool t
    is_form_fit (core.Concat l r) t = is_fit l && is_fit r && joins (ty_of l) (ty_of r) && same_type string t
    is_form_fit (core.CallVirtual o c n args) t = is_fit o && is_subtype program (ty_of o) (class_type c) && are_fit args && is_virtual program (method_at program c n) (types_of (list_of args)) t
    is_form_fit (core.CallExact o c n args) t = is_maybe_fit c o && are_fit args && is_exact program (is_there_core o) (method_at program c n) (types_of (list_of args)) t
    is_form_fit (core.New c n args captures word) t =
        can_be_made_in (class_at program c) && is_made_by program (method_at program c n) (types_of (list_of args)) && are_fit args && captures_fit c captures && same_type (class_type c) t
    is_form_fit (core.NewArray lengths) t = are_fit lengths && list_all is_int (types_of (list_of lengths)) && nat_le 1 (length (list_of lengths)) && nat_le (length (list_of lengths)) t.dims && is_variable_type program t
    is_form_fit (core.ArrayOf values) t = are_fit values && nat_lt 0 t.dims && list_all (λ v. agrees program v (element_of t)) (types_of (list_of values)) && is_variable_type program (element_of t)

    pub is_operand_fit : BinOp → Ty → Bool → MaybeCore → Bool
    is_operand_fit o t old no_core = is_number t && is_step o
    is_operand_fit o t old (a_core e) = is_fit e && updates o t (ty_of e) && not old

    pub is_maybe_fit : ClassId → MaybeCore → Bool
    is_maybe_fit c no_core = true
    is_maybe_fit c (a_core o) = is_fit o && is_subtype program (ty_of o) (class_type c)

    pub are_fit : Cores → Bool
    are_fit none = true
    are_fit (more e es) = is_fit e && are_fit es
