-- When an expression fits where it stands: each part agrees with what takes it, and the node has its erased type. One
-- constructor a form (JLS 15).
use Rattle.std.specs.Prelude.{◌≡◌, ℕ, zero, suc, ◌+◌, ◌≤◌, Bool, true, false, not, ◌||◌, List, [], ◌∷◌, ◌++◌, map, length, count_by, Option, Some, None, slice_get, is_some}
use Rattle.std.specs.List.{All}
use Rattle.std.specs.Str.{bytes_eq}
use Rattle.je_base.specs.declared.span.Span.{Span}
use Rattle.je_core.specs.declared.expr.BinOp.{BinOp}
use Rattle.je_core.specs.declared.expr.UnOp.{UnOp}
use Rattle.je_core.specs.declared.expr.Use.{Use}
use Rattle.je_core.specs.declared.program.Sort.{Sort}
use Rattle.je_core.specs.declared.program.Sort.TheVariants as sort
use Rattle.je_core.specs.declared.types.ClassId.{ClassId}
use Rattle.je_core.specs.declared.types.Ty.{Ty}
use Rattle.je_core.specs.declared.value.Value.{Value}
use Rattle.je_core.specs.Core.{Core, CoreForm, CoreCapture, Cores, MaybeCore, CoreField, CoreMethod, CoreClass, CoreProgram, node, none, more, no_core, a_core, list_of, ty_of}
use Rattle.je_core.specs.Core as core
use Rattle.je_classes.specs.Hierarchy.{class_at}
use Rattle.je_classes.specs.Subtypes.{class_type, array_of, same_type, is_reference, is_subtype}
use Rattle.je_classes.specs.Members.{is_hidden_access, method_of, names_constructors}
use Rattle.je_classes.specs.Fields.{fields_of}
use Rattle.je_fitting.specs.Types.{bool, int, string, is_bool, is_int, is_number, agrees, all_agree, is_variable_type, type_of_value, types_of}
use Rattle.je_fitting.specs.Operators.{sort_of, takes, gives, takes_one, is_step, updates, joins}

-- what a body is of
pub data Code : Type 0 where
  method : Code
  constructor : Code
  instance_initializer : Code
  static_initializer : Code

-- where a node stands: its class, what its body is of, whether `this` is missing there, the types of the locals, and what a
-- return has to give, if one may stand there
pub record Body : Type 0 where
  pub class : ClassId
  pub code : Code
  pub is_static : Bool
  pub locals : List Ty
  pub returns : Option Ty

abbrev pub builds : Code → Bool
builds constructor = true
builds instance_initializer = true
builds _ = false

abbrev pub starts : Code → Bool
starts static_initializer = true
starts _ = false

abbrev pub is_this : Core → Bool
is_this (node core.This t span at) = true
is_this _ = false

abbrev pub field_at : CoreProgram → ClassId → ℕ → Option CoreField
field_at program class at = slice_get (fields_of program class) at

abbrev pub method_at : CoreProgram → ClassId → ℕ → Option CoreMethod
method_at program class at = method_of program (record { class = class; at = at })

abbrev pub is_constructor : CoreProgram → CoreMethod → Bool
is_constructor program m = names_constructors program m.name

abbrev pub is_interface_sort : Sort → Bool
is_interface_sort sort.Interface = true
is_interface_sort _ = false

-- neither abstract nor an interface
abbrev pub can_be_made : CoreClass → Bool
can_be_made class = not (class.kind.is_abstract || is_interface_sort class.kind.sort)

-- the library fields that a constant names are there
abbrev pub are_there : CoreProgram → List Use → Type 0
are_there program uses = All (λ (u : Use). is_some (field_at program u.class u.field) ≡ true) uses

-- the units stand once among the program's texts
abbrev pub StandOnce : List ℕ → List (List ℕ) → Type 0
StandOnce units texts = count_by (λ t. bytes_eq t units) texts ≡ 1

-- ---- what is handed over to the hidden fields of a new instance

abbrev pub outer_count : Option ClassId → ℕ
outer_count None = 0
outer_count (Some class) = 1

abbrev pub places_up_to : ℕ → List ℕ
places_up_to zero = []
places_up_to (suc n) = places_up_to n ++ n ∷ []

abbrev pub handed_to : (Option ClassId → List (ClassId × ℕ)) → ClassId → Option CoreClass → List (ClassId × ℕ)
handed_to above c None = []
handed_to above c (Some class) = above class.superclass ++ map (λ at. (c, at)) (places_up_to (outer_count class.enclosing + class.captured))

abbrev pub handed_upwards : CoreProgram → ℕ → Option ClassId → List (ClassId × ℕ)
handed_upwards program n None = []
handed_upwards program zero (Some class) = []
handed_upwards program (suc n) (Some class) = handed_to (handed_upwards program n) class (class_at program class)

-- the outer field and the captured ones of a class and of those above it, the highest class's first
abbrev pub handed_over : CoreProgram → ClassId → List (ClassId × ℕ)
handed_over program class = handed_upwards program (length program.classes) (Some class)

module _ (program : CoreProgram) (body : Body) where
  -- where a hidden field's value begins: a local, or `this`
  pub data Begins : Option ℕ → Ty → Type 0 where
    at_local : {n : ℕ} {t : Ty} → slice_get body.locals n ≡ Some t → Begins (Some n) t
    at_this : body.is_static ≡ false → Begins None (class_type body.class)

  -- and how it goes on, through hidden fields
  pub data Leads : Ty → List (ClassId × ℕ) → Ty → Type 0 where
    here : {t : Ty} → Leads t [] t
    through : {t u : Ty} {c : ClassId} {at : ℕ} {f : CoreField} {path : List (ClassId × ℕ)} → is_subtype program t (class_type c) ≡ true →
        field_at program c at ≡ Some f → f.is_static ≡ false → is_hidden_access f.access ≡ true → Leads f.ty path u → Leads t ((c, at) ∷ path) u

  pub record CaptureFits (c : CoreCapture) : Type 0 where
    pub from : Ty
    pub to : Ty
    pub field : CoreField
    pub begins : Begins c.local from
    pub leads : Leads from c.path to
    pub there : field_at program c.class c.field ≡ Some field
    pub agree : agrees program to field.ty ≡ true

  pub record CapturesFit (class : ClassId) (captures : List CoreCapture) : Type 0 where
    pub fields : map (λ (c : CoreCapture). (c.class, c.field)) captures ≡ handed_over program class
    pub each : All CaptureFits captures

  -- ---- what may be assigned

  -- A final instance field is assigned only over `this` where its class is built, and a final static one only in a static
  -- initializer of its class (JLS 8.3.1.2, 16).
  pub data IsPlace : CoreForm → Type 0 where
    a_local : {n : ℕ} → IsPlace (core.Local n)
    an_element : {a i : Core} → IsPlace (core.Index a i)
    a_field : {o : Core} {c : ClassId} {at : ℕ} {f : CoreField} → field_at program c at ≡ Some f → f.is_final ≡ false → IsPlace (core.Field o c at)
    an_own_field : {o : Core} {at : ℕ} → is_this o ≡ true → builds body.code ≡ true → IsPlace (core.Field o body.class at)
    a_static : {o : MaybeCore} {c : ClassId} {at : ℕ} {f : CoreField} → field_at program c at ≡ Some f → f.is_final ≡ false → IsPlace (core.Static o c at)
    an_own_static : {o : MaybeCore} {at : ℕ} → starts body.code ≡ true → IsPlace (core.Static o body.class at)

  -- ---- expressions

  mutual
    pub data Fits : Core → Type 0 where
      const : {v : Value} {uses : List Use} {t : Ty} {span at : Span} → type_of_value v ≡ Some t → are_there program uses →
          Fits (node (core.Const v uses) t span at)
      text : {units : List ℕ} {uses : List Use} {span at : Span} → StandOnce units program.texts → are_there program uses →
          Fits (node (core.Text units uses) string span at)
      local : {n : ℕ} {t : Ty} {span at : Span} → slice_get body.locals n ≡ Some t → Fits (node (core.Local n) t span at)
      this : {span at : Span} → body.is_static ≡ false → Fits (node core.This (class_type body.class) span at)
      field : {o : Core} {c : ClassId} {n : ℕ} {f : CoreField} {span at : Span} → Fits o → is_subtype program (ty_of o) (class_type c) ≡ true →
          field_at program c n ≡ Some f → f.is_static ≡ false → Fits (node (core.Field o c n) f.ty span at)
      static : {o : MaybeCore} {c : ClassId} {n : ℕ} {f : CoreField} {span at : Span} → MaybeFits c o →
          field_at program c n ≡ Some f → f.is_static ≡ true → Fits (node (core.Static o c n) f.ty span at)
      index : {a i : Core} {t : Ty} {span at : Span} → Fits a → ty_of a ≡ array_of t → Fits i → is_int (ty_of i) ≡ true →
          Fits (node (core.Index a i) t span at)
      length_of : {a : Core} {t : Ty} {span at : Span} → Fits a → ty_of a ≡ array_of t → Fits (node (core.Length a) int span at)
      assign : {place value : Core} {form : CoreForm} {t u : Ty} {span at span' at' : Span} → place ≡ node form t span' at' → Fits place → IsPlace form →
          Fits value → agrees program (ty_of value) u ≡ true → agrees program u t ≡ true → Fits (node (core.Assign place value) u span at)
      -- the result goes back into its place: a String also into one of a type above it
      step : {place : Core} {form : CoreForm} {t u : Ty} {o : BinOp} {old : Bool} {span at span' at' : Span} → place ≡ node form t span' at' → Fits place → IsPlace form →
          agrees program u t ≡ true → is_number u ≡ true → is_step o ≡ true → Fits (node (core.Update place o no_core old) u span at)
      update : {place operand : Core} {form : CoreForm} {t u : Ty} {o : BinOp} {span at span' at' : Span} → place ≡ node form t span' at' → Fits place → IsPlace form →
          agrees program u t ≡ true → Fits operand → updates o u (ty_of operand) ≡ true → Fits (node (core.Update place o (a_core operand) false) u span at)
      unary : {o : UnOp} {e : Core} {span at : Span} → Fits e → takes_one o (ty_of e) ≡ true → Fits (node (core.Unary o e) (ty_of e) span at)
      binary : {o : BinOp} {l r : Core} {span at : Span} → Fits l → Fits r → takes (sort_of o) (ty_of l) (ty_of r) ≡ true →
          Fits (node (core.Binary o l r) (gives (sort_of o) (ty_of l)) span at)
      and : {l r : Core} {span at : Span} → Fits l → Fits r → is_bool (ty_of l) ≡ true → is_bool (ty_of r) ≡ true → Fits (node (core.And l r) bool span at)
      or : {l r : Core} {span at : Span} → Fits l → Fits r → is_bool (ty_of l) ≡ true → is_bool (ty_of r) ≡ true → Fits (node (core.Or l r) bool span at)
      choose : {c y n : Core} {t : Ty} {span at : Span} → Fits c → is_bool (ty_of c) ≡ true → Fits y → agrees program (ty_of y) t ≡ true →
          Fits n → agrees program (ty_of n) t ≡ true → (same_type (ty_of y) t || same_type (ty_of n) t) ≡ true → Fits (node (core.Choose c y n) t span at)
      convert : {e : Core} {t : Ty} {span at : Span} → Fits e → is_number (ty_of e) ≡ true → is_number t ≡ true → same_type (ty_of e) t ≡ false →
          Fits (node (core.Convert e) t span at)
      cast : {e : Core} {t : Ty} {span at : Span} → Fits e → is_reference (ty_of e) ≡ true → is_reference t ≡ true → is_variable_type program t ≡ true →
          Fits (node (core.Cast e) t span at)
      instance_of : {e : Core} {t : Ty} {span at : Span} → Fits e → is_reference (ty_of e) ≡ true → is_reference t ≡ true → is_variable_type program t ≡ true →
          Fits (node (core.InstanceOf e t) bool span at)
      concat : {l r : Core} {span at : Span} → Fits l → Fits r → joins (ty_of l) (ty_of r) ≡ true → Fits (node (core.Concat l r) string span at)
      call_virtual : {o : Core} {c : ClassId} {n : ℕ} {args : Cores} {m : CoreMethod} {span at : Span} → Fits o → is_subtype program (ty_of o) (class_type c) ≡ true →
          method_at program c n ≡ Some m → m.flags.is_static ≡ false → is_constructor program m ≡ false → AllFit args → all_agree program (types_of (list_of args)) m.params ≡ true →
          Fits (node (core.CallVirtual o c n args) m.returns span at)
      call_exact : {o : Core} {c : ClassId} {n : ℕ} {args : Cores} {m : CoreMethod} {span at : Span} → Fits o → is_subtype program (ty_of o) (class_type c) ≡ true →
          method_at program c n ≡ Some m → m.flags.is_static ≡ false → m.flags.is_abstract ≡ false → is_constructor program m ≡ false → AllFit args →
          all_agree program (types_of (list_of args)) m.params ≡ true → Fits (node (core.CallExact (a_core o) c n args) m.returns span at)
      call_static : {o : MaybeCore} {c : ClassId} {n : ℕ} {args : Cores} {m : CoreMethod} {span at : Span} → MaybeFits c o →
          method_at program c n ≡ Some m → m.flags.is_static ≡ true → m.flags.is_abstract ≡ false → is_constructor program m ≡ false → AllFit args →
          all_agree program (types_of (list_of args)) m.params ≡ true → Fits (node (core.CallExact o c n args) m.returns span at)
      new : {c : ClassId} {n : ℕ} {args : Cores} {class : CoreClass} {m : CoreMethod} {captures : List CoreCapture} {word span at : Span} →
          class_at program c ≡ Some class → can_be_made class ≡ true → method_at program c n ≡ Some m → is_constructor program m ≡ true → AllFit args →
          all_agree program (types_of (list_of args)) m.params ≡ true → CapturesFit c captures → Fits (node (core.New c n args captures word) (class_type c) span at)
      new_array : {lengths : Cores} {t : Ty} {span at : Span} → AllFit lengths → All (λ l. is_int l ≡ true) (types_of (list_of lengths)) →
          1 ≤ length (list_of lengths) → length (list_of lengths) ≤ t.dims → is_variable_type program t ≡ true → Fits (node (core.NewArray lengths) t span at)
      array_with : {values : Cores} {t : Ty} {span at : Span} → AllFit values → All (λ v. agrees program v t ≡ true) (types_of (list_of values)) →
          is_variable_type program t ≡ true → Fits (node (core.ArrayOf values) (array_of t) span at)

    -- what a static member is selected from, if it is from an expression
    pub data MaybeFits : ClassId → MaybeCore → Type 0 where
      nothing : {c : ClassId} → MaybeFits c no_core
      something : {c : ClassId} {o : Core} → Fits o → is_subtype program (ty_of o) (class_type c) ≡ true → MaybeFits c (a_core o)

    pub data AllFit : Cores → Type 0 where
      no_more : AllFit none
      one_more : {e : Core} {es : Cores} → Fits e → AllFit es → AllFit (more e es)
