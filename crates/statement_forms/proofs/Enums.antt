-- The enum that a type is, by its dimensions and its class.
use Rattle.std.proofs.Common.{◌≡◌, ℕ, zero, suc, List, Option, None, false, nat_eq, refl, ap, sym, ◌∙◌, arith}
use Rattle.std.specs.Prelude.{Bool, if◌then◌else◌}
use Rattle.std.proofs.lemmas.Bool.Decides.{nat_tests}
use Rattle.je_scopes.specs.SourceTypes.{SourceType, plain, of_class, of_variable}
use Rattle.source_types.specs.Heads.{ClassHead}
use Rattle.source_types.specs.Subtypes.{dims_of}
use Rattle.name_types.specs.declared.types.SrcTy.{SrcTy}
use Rattle.name_types.specs.View.{shown}
use Rattle.source_subtypes.proofs.Equal.{shown-dims}
use Rattle.header_typing.specs.Supers.{class_in}
use Rattle.body_typing.specs.Switches.{enum_of}
use Rattle.statement_forms.specs.way.Enums.{enum_in}

none-more : (n : ℕ) (x : Option ℕ) → None ≡ (if nat_eq (suc n) 0 then x else None)
none-more n x = let e : nat_eq (suc n) 0 ≡ false = grind (arith, nat_tests) in ap (λ (b : Bool). if b then x else None) (sym e)

by-dims : (heads : List ClassHead) (t : SourceType) → enum_of heads t ≡ (if nat_eq (dims_of t) 0 then enum_in heads (class_in t) else None)
by-dims heads (plain b zero) = refl
by-dims heads (plain b (suc n)) = none-more n None
by-dims heads (of_class c args zero) = refl
by-dims heads (of_class c args (suc n)) = none-more n (enum_in heads (class_in (of_class c args (suc n))))
by-dims heads (of_variable c at zero) = refl
by-dims heads (of_variable c at (suc n)) = none-more n None

pub enum_by : (heads : List ClassHead) (t : SrcTy) → enum_of heads (shown t) ≡ (if nat_eq t.dims 0 then enum_in heads (class_in (shown t)) else None)
enum_by heads t = by-dims heads (shown t) ∙ ap (λ (n : ℕ). if nat_eq n 0 then enum_in heads (class_in (shown t)) else None) (shown-dims t)
