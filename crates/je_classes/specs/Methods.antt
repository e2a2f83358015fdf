-- The methods that a class has under a name, those that accept arguments, and the one that is chosen (JLS 8.4.8, 9.2,
-- 15.12.2). There is one phase of the choice, without boxing and without parameters of variable number.
use Rattle.std.specs.Prelude.{◌≡◌, ℕ, zero, suc, Bool, true, false, not, ◌&&◌, ◌||◌, List, [], ◌∷◌, ◌++◌, filter, length, Option, Some, None, nat_eq, nat_lt, if◌then◌else◌}
use Rattle.std.specs.List.{list_any, list_all, flat_map, Contains}
use Rattle.je_base.specs.declared.span.NameId.{NameId}
use Rattle.je_core.specs.declared.program.Sort.{Sort}
use Rattle.je_core.specs.declared.program.Sort.TheVariants as sort
use Rattle.je_core.specs.declared.types.Base.{Base}
use Rattle.je_core.specs.declared.types.Base.TheVariants as base
use Rattle.je_core.specs.declared.types.ClassId.{ClassId}
use Rattle.je_core.specs.declared.types.Ty.{Ty}
use Rattle.je_core.specs.Core.{CoreMethod, CoreClass, CoreProgram}
use Rattle.je_classes.specs.Hierarchy.{class_at, supers_of, same_class, object_class, IsAcyclic}
use Rattle.je_classes.specs.Subtypes.{same_type, same_types, is_subtype}
use Rattle.je_classes.specs.Members.{Member, same_name, is_private, methods_of, method_of, names_constructors, Found, nothing, one, several, found_in, In}

abbrev pub params_in : Option CoreMethod → List Ty
params_in None = []
params_in (Some m) = m.params

abbrev pub params_of : CoreProgram → Member → List Ty
params_of program m = params_in (method_of program m)

abbrev pub named_from : ClassId → ℕ → List CoreMethod → NameId → List Member
named_from c n [] name = []
named_from c n (m ∷ ms) name = if same_name m.name name then record { class = c; at = n } ∷ named_from c (suc n) ms name else named_from c (suc n) ms name

-- the methods of that name that a class declares
abbrev pub declared : CoreProgram → NameId → ClassId → List Member
declared program name c = named_from c 0 (methods_of program c) name

abbrev pub is_interface_sort : Sort → Bool
is_interface_sort sort.Interface = true
is_interface_sort _ = false

abbrev pub is_top_interface_in : Option CoreClass → Bool
is_top_interface_in None = false
is_top_interface_in (Some class) = is_interface_sort class.kind.sort && nat_eq (length class.interfaces) 0

-- an interface above which no other stands has Object's methods (JLS 9.2)
abbrev pub is_top_interface : CoreProgram → ClassId → Bool
is_top_interface program c = is_top_interface_in (class_at program c)

abbrev pub is_private_in : Option CoreMethod → Bool
is_private_in None = true
is_private_in (Some m) = is_private m

-- none of these has the parameters of that one, which is neither private nor a constructor
abbrev pub is_inherited : CoreProgram → NameId → List Member → Member → Bool
is_inherited program name nearer m =
    not (names_constructors program name || is_private_in (method_of program m) || list_any (λ n. same_types (params_of program n) (params_of program m)) nearer)

abbrev pub is_interface_in : Option CoreClass → Bool
is_interface_in None = false
is_interface_in (Some class) = is_interface_sort class.kind.sort

abbrev pub is_interface : CoreProgram → ClassId → Bool
is_interface program c = is_interface_in (class_at program c)

-- what an interface has of Object's methods a class has from its superclass (JLS 8.4.8)
abbrev pub passes_on : CoreProgram → ClassId → ClassId → Member → Bool
passes_on program c d m = is_interface program c || not (is_interface program d && same_class m.class object_class)

-- A class has the methods that it declares, and those of its supers that it inherits.
pub data HasMethod (program : CoreProgram) (name : NameId) : ClassId → Member → Type 0 where
  own_method : {c : ClassId} {m : Member} → In (declared program name c) m → HasMethod program name c m
  from_above : {c d : ClassId} {m : Member} → Contains (supers_of program c) d → HasMethod program name d m → passes_on program c d m ≡ true →
      is_inherited program name (declared program name c) m ≡ true → HasMethod program name c m
  from_object : {c : ClassId} {m : Member} → is_top_interface program c ≡ true → In (declared program name object_class) m →
      is_inherited program name (declared program name c) m ≡ true → HasMethod program name c m

-- ---- which of them accept arguments

-- wider primitive types (JLS 5.1.2)
abbrev pub widens : Base → Base → Bool
widens base.Byte base.Short = true
widens base.Byte base.Int = true
widens base.Byte base.Long = true
widens base.Short base.Int = true
widens base.Short base.Long = true
widens base.Char base.Int = true
widens base.Char base.Long = true
widens base.Int base.Long = true
widens _ _ = false

-- an argument of the one type goes to a parameter of the other
abbrev pub passes : CoreProgram → Ty → Ty → Bool
passes program from to = same_type from to || (nat_eq from.dims 0 && nat_eq to.dims 0 && widens from.base to.base) || is_subtype program from to

abbrev pub all_pass : CoreProgram → List Ty → List Ty → Bool
all_pass program [] [] = true
all_pass program (a ∷ rest) (p ∷ ps) = passes program a p && all_pass program rest ps
all_pass program _ _ = false

abbrev pub accepts : CoreProgram → List Ty → Member → Bool
accepts program types m = all_pass program types (params_of program m)

abbrev pub IsCandidate : CoreProgram → ClassId → NameId → List Ty → Member → Type 0
IsCandidate program c name types m = HasMethod program name c m × (accepts program types m ≡ true)

-- ---- which of these is chosen

-- more specific than all candidates
pub record IsBest (program : CoreProgram) (P : Member → Type 0) (m : Member) : Type 0 where
  pub candidate : P m
  pub specific : (n : Member) → P n → all_pass program (params_of program m) (params_of program n) ≡ true

abbrev pub is_concrete_in : Option CoreMethod → Bool
is_concrete_in None = false
is_concrete_in (Some m) = not m.flags.is_abstract

abbrev pub is_concrete : CoreProgram → Member → Bool
is_concrete program m = is_concrete_in (method_of program m)

abbrev pub results_agree : CoreProgram → Option CoreMethod → Option CoreMethod → Bool
results_agree program (Some m) (Some n) = same_type m.returns n.returns || is_subtype program m.returns n.returns
results_agree program _ _ = false

-- the result of the one is that of the other, or a subtype of it
abbrev pub has_result_of : CoreProgram → Member → Member → Bool
has_result_of program m n = results_agree program (method_of program m) (method_of program n)

-- it is abstract, and its result agrees with that of each of the best
pub record Counts (program : CoreProgram) (B : Member → Type 0) (m : Member) : Type 0 where
  pub best : B m
  pub result : (n : Member) → B n → has_result_of program m n ≡ true

-- by class, then by place
abbrev pub stands_before : Member → Member → Bool
stands_before m n = nat_lt m.class.0 n.class.0 || (same_class m.class n.class && nat_lt m.at n.at)

-- Among the best that aren't abstract the one there is; where all are abstract, the first of those that count.
pub data IsChosen (program : CoreProgram) (P B : Member → Type 0) : Found → Type 0 where
  none_fits : ((m : Member) → ¬ P m) → IsChosen program P B nothing
  none_best : {m : Member} → P m → ((n : Member) → ¬ B n) → IsChosen program P B several
  the_concrete : {m : Member} → B m → is_concrete program m ≡ true → ((n : Member) → B n → is_concrete program n ≡ true → n ≡ m) → IsChosen program P B (one m)
  more_concrete : {m n : Member} → B m → is_concrete program m ≡ true → B n → is_concrete program n ≡ true → ¬ m ≡ n → IsChosen program P B several
  the_first : {m : Member} → ((n : Member) → B n → is_concrete program n ≡ false) → Counts program B m → ((n : Member) → Counts program B n → stands_before n m ≡ false) → IsChosen program P B (one m)
  none_counts : {m : Member} → B m → ((n : Member) → B n → is_concrete program n ≡ false) → ((n : Member) → ¬ Counts program B n) → IsChosen program P B several

-- ---- the same, by a function

abbrev pub implicit : CoreProgram → NameId → ClassId → List Member
implicit program name c = if is_top_interface program c then declared program name object_class else []

abbrev pub with_inherited : CoreProgram → NameId → List Member → List Member → List Member
with_inherited program name nearer farther = nearer ++ filter (is_inherited program name nearer) farther

abbrev pub methods_within : CoreProgram → ℕ → NameId → ClassId → List Member
methods_within program zero name c = []
methods_within program (suc n) name c = with_inherited program name (declared program name c) (flat_map (λ d. filter (passes_on program c d) (methods_within program n name d)) (supers_of program c) ++ implicit program name c)

unfoldable pub methods_named : CoreProgram → ClassId → NameId → List Member
methods_named program c name = methods_within program (length program.classes) name c

abbrev pub is_best : CoreProgram → List Member → Member → Bool
is_best program candidates m = list_all (λ n. all_pass program (params_of program m) (params_of program n)) candidates

abbrev pub counts : CoreProgram → List Member → Member → Bool
counts program best m = list_all (has_result_of program m) best

abbrev pub earlier : Member → Found → Found
earlier m (one n) = if stands_before n m then one n else one m
earlier m _ = one m

abbrev pub first_of : List Member → Found
first_of [] = several
first_of (m ∷ ms) = earlier m (first_of ms)

abbrev pub first_unless : CoreProgram → List Member → Found → Found
first_unless program best nothing = first_of (filter (counts program best) best)
first_unless program best found = found

abbrev pub chosen_of : CoreProgram → List Member → List Member → Found
chosen_of program [] best = nothing
chosen_of program (c ∷ cs) [] = several
chosen_of program (c ∷ cs) (m ∷ ms) = first_unless program (m ∷ ms) (found_in (filter (is_concrete program) (m ∷ ms)))

abbrev pub chosen : CoreProgram → List Member → Found
chosen program candidates = chosen_of program candidates (filter (is_best program candidates) candidates)

unfoldable pub find_method : CoreProgram → ClassId → NameId → List Ty → Found
find_method program c name types = chosen program (filter (accepts program types) (methods_named program c name))

abbrev pub MethodsAreFound : Type 0
MethodsAreFound = (program : CoreProgram) (c : ClassId) (name : NameId) (types : List Ty) → IsAcyclic program →
    IsChosen program (IsCandidate program c name types) (IsBest program (IsCandidate program c name types)) (find_method program c name types)
