-- Types without dimensions, by the class or the base that they are.
use Rattle.std.specs.Prelude.{ℕ, Bool, not, ◌||◌, List, Option, Some, None}
use Rattle.std.specs.List.{list_all, list_any}
use Rattle.je_core.specs.declared.types.Base.{Base}
use Rattle.je_classes.specs.Subtypes.{same_base}
use Rattle.je_scopes.specs.SourceTypes.{SourceType, plain, of_class}
use Rattle.source_types.specs.Heads.{ClassHead}
use Rattle.source_types.specs.Subtypes.{is_null, is_object}
use Rattle.je_typing.specs.Castable.{are_distinct, is_of_class, may_be_class, may_meet}

abbrev pub class_in : SourceType → Option ℕ
class_in (of_class c ts n) = Some c
class_in _ = None

abbrev pub base_in : SourceType → Option Base
base_in (plain b n) = Some b
base_in _ = None

-- what may be of each other beside classes: null is all of them, a primitive type its own
abbrev pub may_be_bases : SourceType → SourceType → Option Base → Option Base → Bool
may_be_bases s t (Some a) (Some b) = same_base a b
may_be_bases s t _ _ = is_null s || is_null t

abbrev pub may_be_shaped : List ClassHead → SourceType → SourceType → Option ℕ → Option ℕ → Bool
may_be_shaped heads s t (Some c) (Some d) = may_be_class heads c s d t
may_be_shaped heads s t _ _ = may_be_bases s t (base_in s) (base_in t)

-- ---- two classes, by the types above them as they are listed

abbrev pub may_share : List ClassHead → ℕ → SourceType → List SourceType → ℕ → SourceType → List SourceType → Bool
may_share heads c s above d t above_other =
    is_object s || is_object t || (list_any (is_of_class d) above || list_any (is_of_class c) above_other) || may_meet heads c d

abbrev pub all_consistent : List SourceType → List SourceType → Bool
all_consistent above above_other = list_all (λ u. list_all (λ v. not (are_distinct u v)) above_other) above
